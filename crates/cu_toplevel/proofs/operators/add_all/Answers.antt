use Rattle.std.proofs.Common.{◌∙◌, ◌++◌, ◌∷◌, [], None, ap, append-nil, get_or, sym, take_all}
use Rattle.cu_kernel.specs.declared.declarations.Operator.{Operator}
use Rattle.cu_kernel.specs.declared.declarations.Side.{Side}
use Rattle.cu_syntax.specs.declared.name.Name.{Name}
use Rattle.cu_toplevel.proofs.OperatorLemmas.{all_of, operator_more}
use Rattle.cu_toplevel.proofs.operators.add_all.Goals as goal

pub declared-init : goal.declared-init
declared-init c = λ owner names differ owned. sym (append-nil c.args.operators.now.items)

pub declared-preserved : goal.declared-preserved
declared-preserved c = λ owner names differ owned.
    let d : Name = record { text = record { 0 = 0 }; qualifier = None; base = record { 0 = 0 }; place = record { «module» = record { 0 = 0 }; line = 0; column = 0 } } in
    let pushed : Side → Operator = λ s. record { name = (get_or c.args.declared.now c.declared.name-index d).text; side = s; level = c.args.level } in
    operator_more owner names c.args.operators.now.items c.declared.operators.items c.push.new.self.items c.args.side c.args.level c.args.declared.now c.declared.name-index d differ c.declared-test.true owned
    (c.in_ok-push.ensures.items ∙ ap (λ (s : Side). c.declared.operators.items ++ pushed s ∷ []) c.grouped_to-to.ensures)
    (c.declared.invariant owner names differ owned)

pub returns : goal.returns
returns c = λ owner names differ owned.
    c.declared.invariant owner names differ owned ∙ ap (λ xs. c.args.operators.now.items ++ all_of names c.args.side c.args.level xs) (take_all c.declared.name-index c.args.declared.now c.declared-test.false)
