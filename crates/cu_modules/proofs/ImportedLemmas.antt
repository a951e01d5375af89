-- The imports of modules, one after another, and what they bind.
use Rattle.std.proofs.Common.{◌≡◌, ◌∙◌, ◌||◌, ℕ, ◌+◌, ◌<◌, ◌≤◌, Bool, true, false, List, [], ◌∷◌, ◌++◌, Option, take, take_all, get_or, length, refl, sym, ap, subst, if◌then◌else◌}
use Rattle.std.proofs.lemmas.List.{flat_map_more, map-append, map_more}
use Rattle.std.proofs.lemmas.List.Elements.{All-append, All-nil, All-push}
use Rattle.std.specs.List.{All, flat_map, list_any}
use Rattle.std.specs.Str.{bytes_eq}
use Rattle.cu_names.specs.declared.names.NameId.{NameId}
use Rattle.cu_names.specs.Texts.{text_of}
use Rattle.cu_syntax.specs.Answer.{item_meaning, items_meaning, module_meaning}
use Rattle.cu_syntax.specs.declared.items.Import.{Import}
use Rattle.cu_syntax.specs.declared.text.Item.{Item}
use Rattle.cu_syntax.specs.Items.{import_meaning}
use Rattle.cu_syntax.specs.Owners.{ImportIsOf, ItemIsOf}
use Rattle.cu_syntax.specs.Syntax as syntax
use Rattle.cu_modules.specs.BuiltInEntities.{prelude_name}
use Rattle.cu_modules.specs.declared.modules.Module.{Module}
use Rattle.cu_modules.specs.Inside.Imported.{AreImportsOf, option_imports}
use Rattle.cu_modules.specs.Ordering.{module_of}
use Rattle.cu_modules.specs.Scopes.{imports_by, imports_of, names_module, prelude_import}

more_imports : (owner : NameId) (names : List (List ℕ)) (one two : List syntax.Import) (found more : List Import) → AreImportsOf owner names one found → AreImportsOf owner names two more
    → AreImportsOf owner names (one ++ two) (found ++ more)
more_imports owner names one two found more first second = record {
  are = map-append (import_meaning names) found more ∙ (λ j. first.are j ++ second.are j);
  owned = All-append (ImportIsOf owner names) found more first.owned second.owned;
}

pub no_imports : (owner : NameId) (names : List (List ℕ)) (found : List Import) → found ≡ [] → AreImportsOf owner names [] found
no_imports owner names found none = subst (λ (is : List Import). AreImportsOf owner names [] is) (sym none) (record { are = refl; owned = All-nil (ImportIsOf owner names) })

pub one_import : (owner : NameId) (names : List (List ℕ)) (item : syntax.Item) (i : Import) → item ≡ syntax.ImportItem (import_meaning names i) → ImportIsOf owner names i → AreImportsOf owner names (imports_by item) (i ∷ [])
one_import owner names item i is own = record { are = sym (ap imports_by is); owned = All-push (ImportIsOf owner names) [] i (All-nil (ImportIsOf owner names)) own }

-- one item more
pub item_imports : (names : List (List ℕ)) (m : Module) (before : List syntax.Import) (items : List Item) (i : ℕ) (item : Item) (old new : List Import) (told : Option Import) → i < length items → item ≡ get_or items i item
    → All (ItemIsOf m.name names) items → new ≡ old ++ option_imports told
    → (ItemIsOf m.name names item → AreImportsOf m.name names (imports_by (item_meaning names item)) (option_imports told))
    → AreImportsOf m.name names (before ++ flat_map imports_by (items_meaning names (take i items))) old
    → AreImportsOf m.name names (before ++ flat_map imports_by (items_meaning names (take (i + 1) items))) new
item_imports names m before items i item old new told within here owned is adds has =
    let done = items_meaning names (take i items) in
    let own : ItemIsOf m.name names item = subst (λ (item : Item). ItemIsOf m.name names item) (sym here) (owned i item within) in
    let more : items_meaning names (take (i + 1) items) ≡ done ++ item_meaning names item ∷ [] =
    map_more (item_meaning names) items i item within ∙ ap (λ (item : Item). done ++ item_meaning names item ∷ []) (sym here) in
    subst (λ (found : List Import). AreImportsOf m.name names (before ++ flat_map imports_by (items_meaning names (take (i + 1) items))) found) (sym is)
    (subst (λ (meant : List syntax.Import). AreImportsOf m.name names meant (old ++ option_imports told))
    (flat_map_more imports_by before done (item_meaning names item) ∙ ap (λ items. before ++ flat_map imports_by items) (sym more))
    (more_imports m.name names (before ++ flat_map imports_by done) (imports_by (item_meaning names item)) old (option_imports told) has (adds own)))

pub all_imports : (names : List (List ℕ)) (m : Module) (before : List syntax.Import) (items : List Item) (i : ℕ) (found : List Import) → length items ≤ i → items_meaning names items ≡ (module_meaning names m.syntax).items
    → AreImportsOf m.name names (before ++ flat_map imports_by (items_meaning names (take i items))) found
    → AreImportsOf m.name names (before ++ flat_map imports_by (module_of names m).syntax.items) found
all_imports names m before items i found done are has =
    subst (λ items. AreImportsOf m.name names (before ++ flat_map imports_by items) found) (ap (items_meaning names) (take_all i items done) ∙ are) has

-- with the Prelude's, or without

pub written_alone : (names : List (List ℕ)) (m : Module) (found : List Import) (b : Bool) → b ≡ true
    → b ≡ (bytes_eq (text_of names m.name) prelude_name || list_any (names_module prelude_name) (flat_map imports_by (module_of names m).syntax.items))
    → AreImportsOf m.name names (flat_map imports_by (module_of names m).syntax.items) found → AreImportsOf m.name names (imports_of (module_of names m)) found
written_alone names m found b says is has =
    let written = flat_map imports_by (module_of names m).syntax.items in
    subst (λ (imports : List syntax.Import). AreImportsOf m.name names imports found) (sym (ap (λ b. if b then written else prelude_import ∷ written) (sym is ∙ says))) has

pub after_prelude : (names : List (List ℕ)) (m : Module) (found : List Import) (b : Bool) → b ≡ false
    → b ≡ (bytes_eq (text_of names m.name) prelude_name || list_any (names_module prelude_name) (flat_map imports_by (module_of names m).syntax.items))
    → AreImportsOf m.name names (prelude_import ∷ flat_map imports_by (module_of names m).syntax.items) found → AreImportsOf m.name names (imports_of (module_of names m)) found
after_prelude names m found b says is has =
    let written = flat_map imports_by (module_of names m).syntax.items in
    subst (λ (imports : List syntax.Import). AreImportsOf m.name names imports found) (sym (ap (λ b. if b then written else prelude_import ∷ written) (sym is ∙ says))) has

pub prelude_first : (owner : NameId) (names : List (List ℕ)) (i : Import) → import_meaning names i ≡ prelude_import → ImportIsOf owner names i → AreImportsOf owner names (prelude_import ∷ []) (i ∷ [])
prelude_first owner names i is own = record { are = λ j. is j ∷ []; owned = All-push (ImportIsOf owner names) [] i (All-nil (ImportIsOf owner names)) own }
