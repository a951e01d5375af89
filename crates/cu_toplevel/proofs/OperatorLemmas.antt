-- Fixity declarations, one more after others.
use Rattle.std.proofs.Common.{◌≡◌, ◌∙◌, ◌+◌, ◌<◌, ℕ, List, [], ◌∷◌, ◌++◌, sym, ap, append_assoc, get_or, length, map, take}
use Rattle.std.proofs.lemmas.List.{flat_map_more, map-append, map_more}
use Rattle.std.specs.List.{All, flat_map}
use Rattle.cu_kernel.specs.declared.declarations.Operator.{Operator}
use Rattle.cu_names.specs.declared.names.NameId.{NameId}
use Rattle.cu_names.specs.Texts.{AllDiffer, text_of}
use Rattle.cu_syntax.specs.Answer.{item_meaning}
use Rattle.cu_syntax.specs.declared.items.Side.{Side}
use Rattle.cu_syntax.specs.declared.name.Name as code
use Rattle.cu_syntax.specs.declared.text.Item as texts
use Rattle.cu_syntax.specs.Names.{name_meaning}
use Rattle.cu_syntax.specs.Owners.{NameIsOf}
use Rattle.cu_syntax.specs.Syntax.{Name}
use Rattle.cu_translation.specs.ModuleNames.{declaration, fixities_by}
use Rattle.cu_translation.specs.Parts.{grouped_to, operator}
use Rattle.cu_toplevel.proofs.NameLemmas.{stands}
use Rattle.cu_toplevel.proofs.TopLemmas.{id_is}

abbrev pub all_of : List (List ℕ) → Side → ℕ → List code.Name → List Operator
all_of names side level xs = map (operator names) (map (declaration side level) (map (name_meaning names) xs))

pub operator_more : (owner : NameId) (names : List (List ℕ)) (before old new : List Operator) (side : Side) (level : ℕ) (xs : List code.Name) (i : ℕ) (d : code.Name) → AllDiffer names → i < length xs
    → All (NameIsOf owner names) xs → new ≡ old ++ record { name = (get_or xs i d).text; side = grouped_to side; level = level } ∷ []
    → old ≡ before ++ all_of names side level (take i xs) → new ≡ before ++ all_of names side level (take (i + 1) xs)
operator_more owner names before old new side level xs i d differ within owned pushed is =
    let x = get_or xs i d in
    let done = all_of names side level (take i xs) in
    let e : Operator = record { name = x.text; side = grouped_to side; level = level } in
    let f : Operator = operator names (declaration side level (name_meaning names x)) in
    let same : e ≡ f = ap (λ (id : NameId). record { name = id; side = grouped_to side; level = level }) (sym (id_is names x.text (text_of names x.text) differ (stands names x.text (owned i d within).text))) in
    let more : all_of names side level (take (i + 1) xs) ≡ done ++ f ∷ [] =
    ap (λ (ns : List Name). map (operator names) (map (declaration side level) ns)) (map_more (name_meaning names) xs i d within)
    ∙ ap (map (operator names)) (map-append (declaration side level) (map (name_meaning names) (take i xs)) (name_meaning names x ∷ []))
    ∙ map-append (operator names) (map (declaration side level) (map (name_meaning names) (take i xs))) (declaration side level (name_meaning names x) ∷ []) in
    pushed ∙ ap (λ os. os ++ e ∷ []) is ∙ append_assoc before done (e ∷ []) ∙ ap (λ (e : Operator). before ++ (done ++ e ∷ [])) same ∙ ap (λ os. before ++ os) (sym more)

pub items_more : (names : List (List ℕ)) (items : List texts.Item) (i : ℕ) (item : texts.Item) (old new : List Operator) → i < length items → item ≡ get_or items i item
    → new ≡ old ++ map (operator names) (fixities_by (item_meaning names item)) → old ≡ map (operator names) (flat_map fixities_by (map (item_meaning names) (take i items)))
    → new ≡ map (operator names) (flat_map fixities_by (map (item_meaning names) (take (i + 1) items)))
items_more names items i item old new within here added is =
    let done = map (item_meaning names) (take i items) in
    added ∙ ap (λ os. os ++ map (operator names) (fixities_by (item_meaning names item))) is
    ∙ sym (map-append (operator names) (flat_map fixities_by done) (fixities_by (item_meaning names item)))
    ∙ ap (map (operator names)) (flat_map_more fixities_by [] done (item_meaning names item)
    ∙ ap (flat_map fixities_by) (sym (map_more (item_meaning names) items i item within ∙ ap (λ x. done ++ item_meaning names x ∷ []) (sym here))))
