use Rattle.std.proofs.Common.{◌∙◌, ap, map, subst, sym}
use Rattle.std.proofs.lemmas.List.Elements.{All-nil}
use Rattle.std.specs.List.{All}
use Rattle.cu_syntax.specs.Names.{name_meaning}
use Rattle.cu_syntax.specs.Owners.{NameIsOf}
use Rattle.cu_syntax.specs.Types.{type_meaning}
use Rattle.cu_toplevel.specs.Inside.Variables.{and_once}
use Rattle.cu_translation.specs.TypeTable.{type_of}
use Rattle.cu_uses.specs.Binders.{texts, type_variables}
use Rattle.cu_toplevel.proofs.TypeLemmas.{if_ok}
use Rattle.cu_toplevel.proofs.signatures.signature_type.Goals as goal

pub returns : goal.returns
returns c = λ owner names around tells is.
    let t = type_meaning names c.args.t in
    let gathered = c.in_ok-add_variables.ensures owner names tells.entities.differ is in
    let none = subst (All (NameIsOf owner names)) (sym c.new-variables.ensures.items) (All-nil (NameIsOf owner names)) in
    let all = subst (All (NameIsOf owner names)) (sym c.as_slice.ensures.value) (gathered.owned none) in
    if_ok c.type_of.result
    (λ made same. same ∙ ap (λ ns. type_of around (texts ns) t) (ap (map (name_meaning names)) c.as_slice.ensures.value ∙ gathered.adds none
    ∙ ap (λ ns. and_once (map (name_meaning names) ns) (type_variables t)) c.new-variables.ensures.items))
    (c.type_of.ensures owner names around tells all is)
