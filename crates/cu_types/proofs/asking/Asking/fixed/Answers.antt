use Rattle.std.proofs.Common.{◌≡◌, ◌+◌, ap, ◌∙◌}
use Rattle.cu_kernel.specs.TypeExpr as type
use Rattle.cu_types.proofs.AskingLemmas.{asked_over}
use Rattle.cu_types.specs.BuiltInTypes.{arrows, variables_from}
use Rattle.cu_types.proofs.asking.Asking.fixed.Goals as goal

pub returns : goal.returns
returns c = λ t at_whole.
    let last : c.in-Some.last ≡ c.args.variables.first + c.args.variables.count = c.in-Some.ensures.1 in
    asked_over c.args.self.now c.variable.new.self c.arrows_to.new.self c.ask.new.self (type.Variable c.in-Some.last)
    (arrows (variables_from c.args.variables.first c.args.variables.count) (type.Variable (c.args.variables.first + c.args.variables.count))) _ t c.in_ok-right.right c.in_ok-left.left
    c.args.whole c.in_ok-right.ensures c.in_ok-left.ensures
    (ap (arrows (variables_from c.args.variables.first c.args.variables.count)) (c.in_ok-right.ensures.reads.value ∙ ap (λ x. type.Variable x) last))
    at_whole c.in_ok-ask.ensures.asks
