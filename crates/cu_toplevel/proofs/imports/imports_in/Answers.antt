use Rattle.std.proofs.Common.{◌≡◌, ◌∙◌, List, [], ap, map, subst, sym}
use Rattle.std.specs.List.{All}
use Rattle.std.specs.Prelude.{IfOk}
use Rattle.cu_modules.specs.Ordering.{texts_of}
use Rattle.cu_names.specs.declared.names.NameId.{NameId}
use Rattle.cu_names.specs.Texts.{IsKnown}
use Rattle.cu_translation.specs.ModuleNames.{id_of}
use Rattle.cu_translation.specs.Parts.{each_once}
use Rattle.cu_toplevel.proofs.imports.imports_in.Goals as goal

pub returns : goal.returns
returns c = λ names differ has prelude.
    let written = c.in_ok-names.ensures names differ has prelude in
    subst (λ (all : List NameId). IfOk c.each_once.result (λ found. found.items ≡ all))
    (ap (λ texts. map (id_of names) (each_once [] texts)) (ap (texts_of names) c.as_slice.ensures.value ∙ written.are))
    (c.each_once.ensures names differ (subst (All (IsKnown names)) (sym c.as_slice.ensures.value) written.known))
