-- Synonyms that were kept, their numbers, and those that are flagged.
use Rattle.std.proofs.Common.{◌≡◌, ◌∙◌, ◌<◌, ◌≤◌, ◌+◌, ℕ, Bool, true, false, List, [], ◌∷◌, ◌++◌, Option, None, Some, length, drop, get_or, map, refl, sym, ap, ap₂, subst, add-one}
use Rattle.std.proofs.Math.Seq.{drop-cons}
use Rattle.std.proofs.lemmas.List.{append-nil, append_assoc, drop_all, map-append}
use Rattle.std.proofs.lemmas.List.Concat.{flat_map-cons}
use Rattle.std.proofs.lemmas.List.Elements.{All-append, All-nil, All-push}
use Rattle.std.specs.declared.alloc.Global.{Global}
use Rattle.std.specs.declared.vec.Vec.{Vec}
use Rattle.cu_cycles.specs.Graph.{rows_in}
use Rattle.cu_entities.specs.Bindings.{Binding}
use Rattle.cu_lex.specs.Reading.{position_of}
use Rattle.cu_names.specs.declared.names.NameId.{NameId}
use Rattle.cu_names.specs.declared.place.Place.{Place}
use Rattle.cu_names.specs.Texts.{IsKnown, text_of}
use Rattle.cu_syntax.specs.declared.text.Item.{Item}
use Rattle.cu_syntax.specs.declared.types.TypeTerm.{TypeTerm}
use Rattle.cu_syntax.specs.Types.{type_meaning}
use Rattle.cu_declared.specs.declared.first_fault.FirstFault.{FirstFault}
use Rattle.cu_declared.specs.declared.found.TypeUse as uses
use Rattle.cu_declared.specs.declared.numbers.Numbers as table
use Rattle.cu_declared.specs.declared.synonyms.Synonym as code
use Rattle.cu_declared.specs.Inside.Gathered.{Adds, UseIsOf, in_type, use_meaning, uses_meaning}
use Rattle.cu_declared.specs.Inside.Items.{item_synonyms, items_synonyms}
use Rattle.cu_declared.specs.Inside.Numbers.{Gains}
use Rattle.cu_declared.specs.Inside.Synonyms.{AreKept, Kept, SynonymIsOf, flagged_fault, flagged_faults, kept, kept_by, kept_numbers, listed, row_of, target_of, targets}
use Rattle.cu_declared.specs.Inside.Told.{AreTold, Told, World}
use Rattle.cu_declared.specs.Parameters.{Numbered, numbered}
use Rattle.cu_declared.specs.SynonymCycles.{Synonym}
use Rattle.cu_declared.specs.TypeFaults as meant
use Rattle.cu_declared.specs.TypeFaults.{Fault}
use Rattle.cu_declared.proofs.AddsLemmas.{prefix, nothing_left}
use Rattle.cu_declared.proofs.ArityLemmas.{told_as, told_both, told_none}
use Rattle.cu_declared.proofs.NumberLemmas.{gains_both, gains_none}

-- ---- a synonym that was kept

pub one_kept : (owner : NameId) (names : List (List ℕ)) (place : Place) (name : NameId) (us : Vec uses.TypeUse Global) (t : TypeTerm) (ss : List Synonym)
    → place.«module» ≡ owner → IsKnown names name → Adds owner names [] (in_type names t) us.items
    → (record { at = position_of place; name = text_of names name; right = type_meaning names t }) ∷ [] ≡ ss
    → AreKept owner names ss (record { place = place; name = name; uses = us } ∷ [])
unfolding in_type
one_kept owner names place name us t ss place_of known adds are =
    subst (λ (xs : List Synonym). AreKept owner names xs (record { place = place; name = name; uses = us } ∷ [])) are
    (record {
      are = ap (λ xs. (record { at = position_of place; name = text_of names name; uses = xs }) ∷ []) adds.adds;
      owned = All-push (SynonymIsOf owner names) [] (record { place = place; name = name; uses = us }) (All-nil (SynonymIsOf owner names))
          (record { place = place_of; name = known; uses = adds.owned (All-nil (UseIsOf owner names)) });
    })

pub none_kept : (owner : NameId) (names : List (List ℕ)) → AreKept owner names [] []
none_kept owner names = record { are = refl; owned = All-nil (SynonymIsOf owner names) }

both_kept : (owner : NameId) (names : List (List ℕ)) (ss ts : List Synonym) (xs ys : List code.Synonym) → AreKept owner names ss xs → AreKept owner names ts ys → AreKept owner names (ss ++ ts) (xs ++ ys)
both_kept owner names ss ts xs ys one two = record {
  are = map-append (kept_by names) xs ys ∙ ap₂ (λ a b. a ++ b) one.are two.are ∙ sym (map-append kept ss ts);
  owned = All-append (SynonymIsOf owner names) xs ys one.owned two.owned;
}

-- what was found so far, and what is left, are all
pub record KeptSoFar (owner : NameId) (names : List (List ℕ)) (items : List Item) (i : ℕ) (found : List code.Synonym) : Type 0 where
  pub so_far : List Synonym
  pub kept_are : AreKept owner names so_far found
  pub whole : so_far ++ items_synonyms names (drop i items) ≡ items_synonyms names items

pub so_far_none : (owner : NameId) (names : List (List ℕ)) (items : List Item) (found : List code.Synonym) → found ≡ [] → KeptSoFar owner names items 0 found
so_far_none owner names items found empty = record { so_far = []; kept_are = subst (AreKept owner names []) (sym empty) (none_kept owner names); whole = refl }

next_whole : (names : List (List ℕ)) (items : List Item) (i : ℕ) (x : Item) (ss : List Synonym) → x ≡ get_or items i x → i < length items
    → ss ++ items_synonyms names (drop i items) ≡ items_synonyms names items → (ss ++ item_synonyms names x) ++ items_synonyms names (drop (i + 1) items) ≡ items_synonyms names items
next_whole names items i x ss is within whole =
    append_assoc ss (item_synonyms names x) (items_synonyms names (drop (i + 1) items))
    ∙ ap (λ ys. ss ++ ys) (prefix (items_synonyms names) (item_synonyms names) (flat_map-cons (item_synonyms names)) items i x is within) ∙ whole

pub so_far_same : (owner : NameId) (names : List (List ℕ)) (items : List Item) (i : ℕ) (x : Item) (found : List code.Synonym) → x ≡ get_or items i x → i < length items
    → item_synonyms names x ≡ [] → KeptSoFar owner names items i found → KeptSoFar owner names items (i + 1) found
so_far_same owner names items i x found is within none before = record {
  so_far = before.so_far;
  kept_are = before.kept_are;
  whole = ap (λ ys. ys ++ items_synonyms names (drop (i + 1) items)) (sym (ap (λ ys. before.so_far ++ ys) none ∙ append-nil before.so_far))
      ∙ next_whole names items i x before.so_far is within before.whole;
}

pub so_far_more : (owner : NameId) (names : List (List ℕ)) (items : List Item) (i : ℕ) (x : Item) (s : code.Synonym) (found new : List code.Synonym) → x ≡ get_or items i x → i < length items
    → AreKept owner names (item_synonyms names x) (s ∷ []) → new ≡ found ++ s ∷ [] → KeptSoFar owner names items i found → KeptSoFar owner names items (i + 1) new
so_far_more owner names items i x s found new is within one pushed before = record {
  so_far = before.so_far ++ item_synonyms names x;
  kept_are = subst (AreKept owner names (before.so_far ++ item_synonyms names x)) (sym pushed) (both_kept owner names before.so_far (item_synonyms names x) found (s ∷ []) before.kept_are one);
  whole = next_whole names items i x before.so_far is within before.whole;
}

pub so_far_all : (owner : NameId) (names : List (List ℕ)) (items : List Item) (i : ℕ) (found : List code.Synonym) → length items ≤ i → KeptSoFar owner names items i found
    → AreKept owner names (items_synonyms names items) found
so_far_all owner names items i found past before =
    subst (λ (ss : List Synonym). AreKept owner names ss found)
    (sym (append-nil before.so_far) ∙ ap (λ ys. before.so_far ++ ys) (sym (nothing_left (items_synonyms names) refl items i past)) ∙ before.whole) before.kept_are

-- ---- numbers

abbrev pub numbers_left : List (List ℕ) → NameId → List code.Synonym → ℕ → List Numbered
numbers_left names owner xs i = kept_numbers i (text_of names owner) (map (kept_by names) (drop i xs))

pub numbers_prefix : (names : List (List ℕ)) (owner : NameId) (xs : List code.Synonym) (i : ℕ) (x : code.Synonym) (a b c : table.Numbers) → x ≡ get_or xs i x → i < length xs
    → Gains names a (numbered (text_of names owner) (text_of names x.name) i ∷ []) b → Gains names b (numbers_left names owner xs (i + 1)) c → Gains names a (numbers_left names owner xs i) c
numbers_prefix names owner xs i x a b c is within one rest =
    subst (λ (ys : List code.Synonym). Gains names a (kept_numbers i (text_of names owner) (map (kept_by names) ys)) c)
    (sym (drop-cons xs i x within ∙ ap₂ (λ y n. y ∷ drop n xs) (sym is) (sym (add-one i)))) (gains_both one rest)

pub numbers_end : (names : List (List ℕ)) (owner : NameId) (xs : List code.Synonym) (i : ℕ) (a : table.Numbers) → length xs ≤ i → Gains names a (numbers_left names owner xs i) a
numbers_end names owner xs i a past =
    subst (λ (ys : List code.Synonym). Gains names a (kept_numbers i (text_of names owner) (map (kept_by names) ys)) a) (sym (drop_all i xs past)) (gains_none names a)

-- ---- rows

pub row_prefix : (names : List (List ℕ)) (kept_is : List Numbered) (bindings : List Binding) (xs : List uses.TypeUse) (i : ℕ) (x : uses.TypeUse) → x ≡ get_or xs i x → i < length xs
    → listed (target_of kept_is bindings (use_meaning names x)) ++ targets kept_is bindings (uses_meaning names (drop (i + 1) xs)) ≡ targets kept_is bindings (uses_meaning names (drop i xs))
row_prefix names kept_is bindings xs i x is within =
    prefix (λ ys. targets kept_is bindings (uses_meaning names ys)) (λ y. listed (target_of kept_is bindings (use_meaning names y)))
    (λ y ys. flat_map-cons (λ u. listed (target_of kept_is bindings u)) (use_meaning names y) (uses_meaning names ys)) xs i x is within

pub row_none : (names : List (List ℕ)) (kept_is : List Numbered) (bindings : List Binding) (xs : List uses.TypeUse) (i : ℕ) (x : uses.TypeUse) (row all : List ℕ) (found : Option ℕ) → x ≡ get_or xs i x → i < length xs
    → found ≡ target_of kept_is bindings (use_meaning names x) → found ≡ None
    → row ++ targets kept_is bindings (uses_meaning names (drop i xs)) ≡ all → row ++ targets kept_is bindings (uses_meaning names (drop (i + 1) xs)) ≡ all
row_none names kept_is bindings xs i x row all found is within target none before =
    ap (λ ys. row ++ ys) (ap (λ o. listed o ++ targets kept_is bindings (uses_meaning names (drop (i + 1) xs))) (sym none ∙ target) ∙ row_prefix names kept_is bindings xs i x is within) ∙ before

pub row_more : (names : List (List ℕ)) (kept_is : List Numbered) (bindings : List Binding) (xs : List uses.TypeUse) (i : ℕ) (x : uses.TypeUse) (row new all : List ℕ) (found : Option ℕ) (n : ℕ) → x ≡ get_or xs i x → i < length xs
    → found ≡ target_of kept_is bindings (use_meaning names x) → found ≡ Some n → new ≡ row ++ n ∷ []
    → row ++ targets kept_is bindings (uses_meaning names (drop i xs)) ≡ all → new ++ targets kept_is bindings (uses_meaning names (drop (i + 1) xs)) ≡ all
row_more names kept_is bindings xs i x row new all found n is within target some pushed before =
    ap (λ ys. ys ++ targets kept_is bindings (uses_meaning names (drop (i + 1) xs))) pushed
    ∙ append_assoc row (n ∷ []) (targets kept_is bindings (uses_meaning names (drop (i + 1) xs)))
    ∙ ap (λ ys. row ++ ys) (ap (λ o. listed o ++ targets kept_is bindings (uses_meaning names (drop (i + 1) xs))) (sym some ∙ target) ∙ row_prefix names kept_is bindings xs i x is within) ∙ before

pub row_end : (names : List (List ℕ)) (kept_is : List Numbered) (bindings : List Binding) (xs : List uses.TypeUse) (i : ℕ) (row all : List ℕ) → length xs ≤ i
    → row ++ targets kept_is bindings (uses_meaning names (drop i xs)) ≡ all → row ≡ all
row_end names kept_is bindings xs i row all past before =
    sym (append-nil row) ∙ ap (λ ys. row ++ ys) (sym (nothing_left (λ ys. targets kept_is bindings (uses_meaning names ys)) refl xs i past)) ∙ before

abbrev pub rows_left : List (List ℕ) → List Numbered → List Binding → List code.Synonym → List (List ℕ)
rows_left names kept_is bindings xs = map (row_of kept_is bindings) (map (kept_by names) xs)

pub rows_more : (names : List (List ℕ)) (kept_is : List Numbered) (bindings : List Binding) (xs : List code.Synonym) (i : ℕ) (x : code.Synonym) (old new : List (Vec ℕ Global)) (row : Vec ℕ Global) (all : List (List ℕ))
    → x ≡ get_or xs i x → i < length xs → row.items ≡ targets kept_is bindings (uses_meaning names x.uses.items) → new ≡ old ++ row ∷ []
    → rows_in old ++ rows_left names kept_is bindings (drop i xs) ≡ all → rows_in new ++ rows_left names kept_is bindings (drop (i + 1) xs) ≡ all
rows_more names kept_is bindings xs i x old new row all is within row_is pushed before =
    ap (λ ys. rows_in ys ++ rows_left names kept_is bindings (drop (i + 1) xs)) pushed
    ∙ ap (λ ys. ys ++ rows_left names kept_is bindings (drop (i + 1) xs)) (map-append (λ (r : Vec ℕ Global). r.items) old (row ∷ []))
    ∙ append_assoc (rows_in old) (row.items ∷ []) (rows_left names kept_is bindings (drop (i + 1) xs))
    ∙ ap (λ r. rows_in old ++ (r ∷ rows_left names kept_is bindings (drop (i + 1) xs))) row_is
    ∙ ap (λ ys. rows_in old ++ rows_left names kept_is bindings ys) (sym (drop-cons xs i x within ∙ ap₂ (λ y n. y ∷ drop n xs) (sym is) (sym (add-one i))))
    ∙ before

pub rows_end : (names : List (List ℕ)) (kept_is : List Numbered) (bindings : List Binding) (xs : List code.Synonym) (i : ℕ) (rows : List (List ℕ)) (all : List (List ℕ)) → length xs ≤ i
    → rows ++ rows_left names kept_is bindings (drop i xs) ≡ all → rows ≡ all
rows_end names kept_is bindings xs i rows all past before =
    sym (append-nil rows) ∙ ap (λ ys. rows ++ rows_left names kept_is bindings ys) (sym (drop_all i xs past)) ∙ before

-- ---- flags

pub flag_told : (w : World) (s : Kept) (flag : Bool) (a b : FirstFault) → flag ≡ true
    → ((faults : List Fault) → AreTold w.owner w.names faults a → AreTold w.owner w.names (faults ++ (record { wrong = meant.SynonymCycle s.name; at = s.at }) ∷ []) b)
    → Told w a (flagged_fault flag s) b
flag_told w s flag a b is tells =
    told_as w a b ((record { wrong = meant.SynonymCycle s.name; at = s.at }) ∷ []) (flagged_fault flag s)
    (ap (λ (x : Bool). flagged_fault x s) (sym is)) (record { told = tells })

pub flag_silent : (w : World) (s : Kept) (flag : Bool) (a : FirstFault) → flag ≡ false → Told w a (flagged_fault flag s) a
flag_silent w s flag a is = told_as w a a [] (flagged_fault flag s) (ap (λ (x : Bool). flagged_fault x s) (sym is)) (told_none w a)

abbrev pub flags_left : World → List Bool → List code.Synonym → ℕ → List Fault
flags_left w flags xs i = flagged_faults (drop i flags) (map (kept_by w.names) (drop i xs))

pub flags_prefix : (w : World) (flags : List Bool) (xs : List code.Synonym) (i : ℕ) (x : code.Synonym) (flag : Bool) (a b c : FirstFault) → x ≡ get_or xs i x → i < length xs → flag ≡ get_or flags i flag → i < length flags
    → Told w a (flagged_fault flag (kept_by w.names x)) b → Told w b (flags_left w flags xs (i + 1)) c → Told w a (flags_left w flags xs i) c
flags_prefix w flags xs i x flag a b c is within flag_is flag_within one rest =
    told_as w a c (flagged_fault flag (kept_by w.names x) ++ flags_left w flags xs (i + 1)) (flags_left w flags xs i)
    (sym (ap₂ (λ (fs : List Bool) (ys : List code.Synonym). flagged_faults fs (map (kept_by w.names) ys))
    (drop-cons flags i flag flag_within ∙ ap₂ (λ y n. y ∷ drop n flags) (sym flag_is) (sym (add-one i)))
    (drop-cons xs i x within ∙ ap₂ (λ y n. y ∷ drop n xs) (sym is) (sym (add-one i)))))
    (told_both one rest)

pub flags_end : (w : World) (flags : List Bool) (xs : List code.Synonym) (i : ℕ) (a : FirstFault) → length flags ≤ i → Told w a (flags_left w flags xs i) a
flags_end w flags xs i a past =
    told_as w a a [] (flags_left w flags xs i) (ap (λ (fs : List Bool). flagged_faults fs (map (kept_by w.names) (drop i xs))) (sym (drop_all i flags past))) (told_none w a)
