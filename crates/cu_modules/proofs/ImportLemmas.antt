-- Which modules a module imports.
use Rattle.std.proofs.Common.{◌≡◌, ◌∙◌, ◌+◌, ◌<◌, ◌||◌, ℕ, Bool, true, false, List, [], ◌∷◌, ◌++◌, drop, Some, None, Option, refl, sym, ap, subst, get_or, length, append_assoc, append-nil, if◌then◌else◌}
use Rattle.std.proofs.lemmas.List.{drop_more, map-append}
use Rattle.std.proofs.lemmas.List.Elements.{All-append, All-cons, All-head, All-nil, All-tail}
use Rattle.std.specs.List.{All, flat_map, list_any}
use Rattle.std.specs.Prelude.{nat_eq}
use Rattle.std.specs.Str.{bytes_eq}
use Rattle.cu_names.specs.declared.names.NameId.{NameId}
use Rattle.cu_names.specs.Texts.{AllDiffer, IsKnown, text_of}
use Rattle.cu_syntax.specs.Answer.{item_meaning, items_meaning}
use Rattle.cu_syntax.specs.declared.items.Import as node
use Rattle.cu_syntax.specs.declared.text.Item.{Item}
use Rattle.cu_syntax.specs.declared.items.ItemNode.{ItemNode}
use Rattle.cu_syntax.specs.declared.items.ItemNode.TheVariants as variant
use Rattle.cu_syntax.specs.Items.{item_node}
use Rattle.cu_syntax.specs.Owners.{ImportIsOf, ItemIsOf, ItemNodeIsOf}
use Rattle.cu_syntax.specs.Syntax.{Import}
use Rattle.cu_modules.specs.declared.modules.Module.{Module}
use Rattle.cu_modules.specs.Imports.{AreImports, import_texts, option_names, written_in}
use Rattle.cu_modules.specs.Ordering.{module_of, texts_of}
use Rattle.cu_modules.specs.BuiltInEntities.{prelude_name}
use Rattle.cu_modules.specs.Reading.{HasModule, HasPrelude}
use Rattle.cu_modules.specs.Scopes.{imports_by, names_module, prelude_import}
use Rattle.cu_modules.specs.Walk.{import_names}
use Rattle.cu_modules.proofs.NameLemmas.{same_name}

pub an_import : (owner : NameId) (names : List (List ℕ)) (item : Item) (told : ItemNode) (found : node.Import) → told ≡ variant.Import found → item_node names told ≡ item_meaning names item
    → ItemNodeIsOf owner names told → AreImports names (import_texts (imports_by (item_meaning names item))) (found.name.text ∷ [])
an_import owner names item told found same is owned =
    let own : ImportIsOf owner names found = subst (ItemNodeIsOf owner names) same owned in
    record {
      are = ap (λ i. import_texts (imports_by i)) (ap (item_node names) (sym same) ∙ is);
      known = All-cons (IsKnown names) found.name.text [] own.1.text (All-nil (IsKnown names));
    }

texts_append : (names : List (List ℕ)) (ids more : List NameId) → texts_of names (ids ++ more) ≡ texts_of names ids ++ texts_of names more
texts_append names ids more = map-append (text_of names) ids more

imports_append : (imports more : List Import) → import_texts (imports ++ more) ≡ import_texts imports ++ import_texts more
imports_append imports more = map-append (λ (i : Import). i.name.text) imports more

-- What was found, and what the items that are left import.
pub record ReadsOn (names : List (List ℕ)) (m : Module) (items left : List Item) (found : List NameId) : Type 0 where
  pub owned : All (ItemIsOf m.name names) left
  pub known : All (IsKnown names) found
  pub whole : texts_of names found ++ import_texts (flat_map imports_by (items_meaning names left)) ≡ written_in (module_of names m)

pub reads_first : (names : List (List ℕ)) (m : Module) (items : List Item) (found : List NameId) → found ≡ [] → items_meaning names items ≡ (module_of names m).syntax.items
    → All (ItemIsOf m.name names) items → ReadsOn names m items (drop 0 items) found
reads_first names m items found none are owned = record {
  owned = owned;
  known = subst (All (IsKnown names)) (sym none) (All-nil (IsKnown names));
  whole = ap (λ ids. texts_of names ids ++ import_texts (flat_map imports_by (items_meaning names items))) none ∙ ap (λ is. import_texts (flat_map imports_by is)) are;
}

pub reads_more : (names : List (List ℕ)) (m : Module) (items : List Item) (i : ℕ) (item : Item) (found more : List NameId) → i < length items → item ≡ get_or items i item
    → ReadsOn names m items (drop i items) found → AreImports names (import_texts (imports_by (item_meaning names item))) more
    → ReadsOn names m items (drop (i + 1) items) (found ++ more)
reads_more names m items i item found more within is before here =
    by (drop i items) (drop_more items i item within ∙ ap (λ x. x ∷ drop (i + 1) items) (sym is)) before
  where
    by : (left : List Item) → left ≡ item ∷ drop (i + 1) items → ReadsOn names m items left found → ReadsOn names m items (drop (i + 1) items) (found ++ more)
    by left e before = record {
      owned = All-tail (ItemIsOf m.name names) item (drop (i + 1) items) (subst (All (ItemIsOf m.name names)) e before.owned);
      known = All-append (IsKnown names) found more before.known here.known;
      whole =
          let others = flat_map imports_by (items_meaning names (drop (i + 1) items)) in
          ap (λ texts. texts ++ import_texts others) (texts_append names found more)
          ∙ append_assoc (texts_of names found) (texts_of names more) (import_texts others)
          ∙ ap (λ texts. texts_of names found ++ (texts ++ import_texts others)) here.are
          ∙ ap (λ texts. texts_of names found ++ texts) (sym (imports_append (imports_by (item_meaning names item)) others))
          ∙ ap (λ left. texts_of names found ++ import_texts (flat_map imports_by (items_meaning names left))) (sym e)
          ∙ before.whole;
    }

-- the item that a place has
pub owned_at : (names : List (List ℕ)) (m : Module) (items : List Item) (i : ℕ) (item : Item) (found : List NameId) → i < length items → item ≡ get_or items i item
    → ReadsOn names m items (drop i items) found → ItemIsOf m.name names item
owned_at names m items i item found within is before =
    All-head (ItemIsOf m.name names) item (drop (i + 1) items) (subst (All (ItemIsOf m.name names)) (drop_more items i item within ∙ ap (λ x. x ∷ drop (i + 1) items) (sym is)) before.owned)

-- what an item imports, if it does

pub none_more : (names : List (List ℕ)) (m : Module) (items : List Item) (i : ℕ) (item : Item) (found : List NameId) (told : Option NameId) → i < length items → item ≡ get_or items i item → told ≡ None
    → ReadsOn names m items (drop i items) found → (ItemIsOf m.name names item → AreImports names (import_texts (imports_by (item_meaning names item))) (option_names told))
    → ReadsOn names m items (drop (i + 1) items) found
none_more names m items i item found told within is none before here =
    let more = reads_more names m items i item found (option_names told) within is before (here (owned_at names m items i item found within is before)) in
    subst (ReadsOn names m items (drop (i + 1) items)) (ap (λ told. found ++ option_names told) none ∙ append-nil found) more

pub one_more : (names : List (List ℕ)) (m : Module) (items : List Item) (i : ℕ) (item : Item) (found after : List NameId) (told : Option NameId) (id : NameId) → i < length items → item ≡ get_or items i item
    → told ≡ Some id → after ≡ found ++ id ∷ []
    → ReadsOn names m items (drop i items) found → (ItemIsOf m.name names item → AreImports names (import_texts (imports_by (item_meaning names item))) (option_names told))
    → ReadsOn names m items (drop (i + 1) items) after
one_more names m items i item found after told id within is one pushed before here =
    let more = reads_more names m items i item found (option_names told) within is before (here (owned_at names m items i item found within is before)) in
    subst (ReadsOn names m items (drop (i + 1) items)) (ap (λ told. found ++ option_names told) one ∙ sym pushed) more

pub all_read : (names : List (List ℕ)) (m : Module) (items left : List Item) (found : List NameId) → left ≡ [] → ReadsOn names m items left found → AreImports names (written_in (module_of names m)) found
all_read names m items left found none before = record {
  are = sym (append-nil (texts_of names found)) ∙ ap (λ left. texts_of names found ++ import_texts (flat_map imports_by (items_meaning names left))) (sym none) ∙ before.whole;
  known = before.known;
}

-- ---- with the Prelude

any_prelude : (imports : List Import) → list_any (names_module prelude_name) imports ≡ list_any (λ text. bytes_eq text prelude_name) (import_texts imports)
any_prelude [] = refl
any_prelude (i ∷ imports) = ap (λ b. bytes_eq i.name.text prelude_name || b) (any_prelude imports)

any_named : (names : List (List ℕ)) (prelude : NameId) (ids : List NameId) → AllDiffer names → HasPrelude names prelude → All (IsKnown names) ids
    → list_any (λ (id : NameId). nat_eq id.0 prelude.0) ids ≡ list_any (λ text. bytes_eq text prelude_name) (texts_of names ids)
any_named names prelude [] differ has known = refl
any_named names prelude (id ∷ ids) differ has known =
    let here = same_name names id prelude differ (All-head (IsKnown names) id ids known) has.known ∙ ap (bytes_eq (text_of names id)) has.text in
    (λ j. here j || any_named names prelude ids differ has (All-tail (IsKnown names) id ids known) j)

-- whether the Prelude is told by its number, and by its name
pub says_so : (names : List (List ℕ)) (m : Module) (prelude : NameId) (ids slice : List NameId) (b : Bool) → AllDiffer names → HasModule names m → HasPrelude names prelude
    → AreImports names (written_in (module_of names m)) ids → slice ≡ ids → b ≡ (nat_eq m.name.0 prelude.0 || list_any (λ (id : NameId). nat_eq id.0 prelude.0) slice)
    → b ≡ (bytes_eq (text_of names m.name) prelude_name || list_any (names_module prelude_name) (flat_map imports_by (module_of names m).syntax.items))
says_so names m prelude ids slice b differ has_m has found same is =
    let first = same_name names m.name prelude differ has_m.known has.known ∙ ap (bytes_eq (text_of names m.name)) has.text in
    let second = any_named names prelude ids differ has found.known ∙ ap (list_any (λ text. bytes_eq text prelude_name)) found.are ∙ sym (any_prelude (flat_map imports_by (module_of names m).syntax.items)) in
    is ∙ ap (λ ids. nat_eq m.name.0 prelude.0 || list_any (λ (id : NameId). nat_eq id.0 prelude.0) ids) same ∙ (λ j. first j || second j)

pub same_list : (names texts : List (List ℕ)) (prelude : NameId) (ids slice one all : List NameId) → slice ≡ ids → one ≡ prelude ∷ [] → all ≡ one ++ slice
    → AreImports names texts (prelude ∷ ids) → AreImports names texts all
same_list names texts prelude ids slice one all same first whole found =
    subst (AreImports names texts) (sym (whole ∙ ap (λ one. one ++ slice) first ∙ ap (λ ids. prelude ∷ ids) same)) found

pub as_written : (names : List (List ℕ)) (m : Module) (ids : List NameId) (b : Bool) → b ≡ true
    → b ≡ (bytes_eq (text_of names m.name) prelude_name || list_any (names_module prelude_name) (flat_map imports_by (module_of names m).syntax.items))
    → AreImports names (written_in (module_of names m)) ids → AreImports names (import_names (module_of names m)) ids
as_written names m ids b yes' is found =
    let written = flat_map imports_by (module_of names m).syntax.items in
    record { are = found.are ∙ sym (ap (λ b. import_texts (if b then written else prelude_import ∷ written)) (sym is ∙ yes')); known = found.known }

pub with_prelude : (names : List (List ℕ)) (m : Module) (prelude : NameId) (ids : List NameId) (b : Bool) → b ≡ false
    → b ≡ (bytes_eq (text_of names m.name) prelude_name || list_any (names_module prelude_name) (flat_map imports_by (module_of names m).syntax.items))
    → HasPrelude names prelude → AreImports names (written_in (module_of names m)) ids → AreImports names (import_names (module_of names m)) (prelude ∷ ids)
with_prelude names m prelude ids b no' is has found =
    let written = flat_map imports_by (module_of names m).syntax.items in
    record {
      are = (λ j. has.text j ∷ found.are j) ∙ sym (ap (λ b. import_texts (if b then written else prelude_import ∷ written)) (sym is ∙ no'));
      known = All-cons (IsKnown names) prelude ids has.known found.known;
    }
