use Rattle.std.proofs.Common.{◌∙◌, Some, ap, subst, sym}
use Rattle.std.specs.Option.{option_map}
use Rattle.std.specs.Prelude.{IfSome}
use Rattle.cu_syntax.specs.Owners.{TypeIsOf}
use Rattle.cu_syntax.specs.Types.{type_meaning}
use Rattle.cu_translation.specs.TypeTable.{signature_type}
use Rattle.cu_desugar.proofs.local_functions.declared_type.Goals as goal

pub returns-in_ok-found-in-Some : goal.returns-in_ok-found-in-Some
returns-in_ok-found-in-Some c t names top known all =
    let written = c.in_ok-written.ensures t known all in
    let owned = subst (λ o. IfSome o (TypeIsOf t.owner t.names)) c.in-Some.is written.owned in
    ap Some (c.in_ok-found-in-Some.ensures t.owner t.names names top owned)
    ∙ ap (option_map (signature_type names)) (ap (option_map (type_meaning t.names)) (sym c.in-Some.is) ∙ written.meaning)

pub returns-in-None : goal.returns-in-None
returns-in-None c t names top known all =
    ap (option_map (signature_type names)) (ap (option_map (type_meaning t.names)) (sym c.in-None.is) ∙ (c.in_ok-written.ensures t known all).meaning)
