-- The variables of goals.
use Rattle.std.proofs.Common.{◌≡◌, ℕ, List, [], ◌∷◌, map, ap₂, refl, sym}
use Rattle.std.proofs.lemmas.List.Elements.{All-head, All-tail}
use Rattle.std.specs.List.{All}
use Rattle.cu_names.specs.declared.names.NameId.{NameId}
use Rattle.cu_names.specs.Texts.{AllDiffer, text_of}
use Rattle.cu_syntax.specs.declared.name.Name.{Name}
use Rattle.cu_syntax.specs.Names.{name_meaning}
use Rattle.cu_syntax.specs.Owners.{NameIsOf}
use Rattle.cu_uses.specs.Binders.{texts}
use Rattle.cu_translation.specs.ModuleNames.{id_of}
use Rattle.cu_toplevel.proofs.NameLemmas.{stands}
use Rattle.cu_toplevel.proofs.TopLemmas.{id_is}

pub numbers_are : (owner : NameId) (names : List (List ℕ)) (xs : List Name) → AllDiffer names → All (NameIsOf owner names) xs
    → map (λ (x : Name). x.text) xs ≡ map (id_of names) (texts (map (name_meaning names) xs))
numbers_are owner names [] differ owned = refl
numbers_are owner names (x ∷ xs) differ owned =
    ap₂ (λ (id : NameId) (ids : List NameId). id ∷ ids)
    (sym (id_is names x.text (text_of names x.text) differ (stands names x.text (All-head (NameIsOf owner names) x xs owned).text)))
    (numbers_are owner names xs differ (All-tail (NameIsOf owner names) x xs owned))
