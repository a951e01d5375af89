use Rattle.std.proofs.Common.{◌∙◌, ◌<◌, arith, length, sym}
use Rattle.std.proofs.lemmas.Grind.{common_steps}
use Rattle.std.specs.Option.{option_map}
use Rattle.cu_translation.specs.Meaning.{referent_meaning}
use Rattle.cu_forms.proofs.CallLemmas.{if_ok, set_call_some}
use Rattle.cu_forms.proofs.calls.set_call.Goals as goal

pub returns : goal.returns
returns c =
    let some : 0 < length c.args.arguments.items = grind (arith, common_steps, c.is_empty.ensures, c.if-is_empty.false) in
    if_ok c.call.result
    (λ t e. e ∙ set_call_some c.args.count (option_map referent_meaning c.args.first) c.in-Some.function c.args.arguments.items c.remove-name.new.self.items some c.remove-name.ensures.items
    (sym c.in-Some.is ∙ c.function_named.ensures))
    c.call.ensures
