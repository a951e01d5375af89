use Rattle.std.proofs.Common.{◌∙◌, Option, Some, ap, subst, sym}
use Rattle.std.specs.Option.{option_map}
use Rattle.std.specs.Prelude.{IfSome}
use Rattle.cu_syntax.specs.declared.types.TypeTerm.{TypeTerm}
use Rattle.cu_syntax.specs.Owners.{TypeIsOf}
use Rattle.cu_syntax.specs.Types.{type_meaning}
use Rattle.cu_translation.specs.TypeTable.{signature_type}
use Rattle.cu_toplevel.proofs.function_marks.declared.Goals as goal

pub returns-in_ok-signature_type-in-Some : goal.returns-in_ok-signature_type-in-Some
returns-in_ok-signature_type-in-Some c = λ owner names around is owned.
    let own = subst (λ (o : Option TypeTerm). IfSome o (TypeIsOf owner names)) c.in-Some.is owned in
    ap Some (c.in_ok-signature_type-in-Some.ensures owner names around is own)
    ∙ ap (λ o. option_map (signature_type around) (option_map (type_meaning names) o)) (sym c.in-Some.is)

pub returns-in-None : goal.returns-in-None
returns-in-None c = λ owner names around is owned. ap (λ o. option_map (signature_type around) (option_map (type_meaning names) o)) (sym c.in-None.is)
