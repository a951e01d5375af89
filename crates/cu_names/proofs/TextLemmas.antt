-- What the keys of the set of names say of the list of texts.
use Rattle.std.proofs.Common.{◌≡◌, ℕ, zero, suc, Bool, true, false, ◌||◌, List, [], ◌∷◌, ◌++◌, map, position, slice_get, get_or, Some, Contains, if◌then◌else◌, refl, sym, ap, ◌∙◌, String}
use Rattle.std.proofs.lemmas.Bool.{both_ways}
use Rattle.std.proofs.lemmas.List.{map-append}
use Rattle.std.proofs.lemmas.List.Quantifiers.{position-Some}
use Rattle.std.proofs.lemmas.Option.{slice_get-map, slice_get-get_or, get_or_from_slice_get, slice_get_within}
use Rattle.std.proofs.lemmas.Slice.Eq.{bytes_eq-Decides}
use Rattle.std.specs.List.{list_any, IsDistinct, AllByRecursion}
use Rattle.std.specs.Option.{option_map}
use Rattle.std.specs.Str.{bytes_eq}
use Rattle.std.specs.String.{string_bytes, string_eq}
use Rattle.cu_names.specs.Texts.{interned, AllDiffer}

module _ {Z : Type 0} where
  -- the test of a text, as a look-up makes it
  abbrev pub is_text : List ℕ → String Z → Bool
  is_text text key = bytes_eq text (string_bytes key)

  abbrev pub texts_of : List (String Z) → List (List ℕ)
  texts_of keys = map string_bytes keys

  -- a text that differs from all keys is none of their texts
  differs_at : (text : List ℕ) (keys : List (String Z)) (i : ℕ) → AllByRecursion (λ y. bytes_eq text (string_bytes y) ≡ false) keys → slice_get (texts_of keys) i ≡ Some text → ⊥
  differs_at text [] i apart at = cc
  differs_at text (key ∷ keys) zero apart at =
      let same : text ≡ string_bytes key = cc in
      both_ways (bytes_eq text (string_bytes key)) apart.0 ((bytes_eq-Decides text (string_bytes key)).1 same)
  differs_at text (key ∷ keys) (suc i) apart at = differs_at text keys i apart.1 at

  -- the texts of distinct keys differ
  pub texts_differ : (keys : List (String Z)) → IsDistinct string_eq keys → AllDiffer (texts_of keys)
  unfolding IsDistinct
  texts_differ [] distinct i j text at_i at_j = cc
  texts_differ (key ∷ keys) distinct zero zero text at_i at_j = refl
  texts_differ (key ∷ keys) distinct zero (suc j) text at_i at_j =
      let same : string_bytes key ≡ text = cc in
      absurd (differs_at (string_bytes key) keys j distinct.0 (at_j ∙ ap Some (sym same)))
  texts_differ (key ∷ keys) distinct (suc i) zero text at_i at_j =
      let same : string_bytes key ≡ text = cc in
      absurd (differs_at (string_bytes key) keys i distinct.0 (at_i ∙ ap Some (sym same)))
  texts_differ (key ∷ keys) distinct (suc i) (suc j) text at_i at_j = ap suc (texts_differ keys distinct.1 i j text at_i at_j)

  -- a look-up finds the text's own place
  pub text_at_position : (keys : List (String Z)) (text : List ℕ) (i : ℕ) → position (is_text text) keys ≡ Some i → slice_get (texts_of keys) i ≡ Some text
  text_at_position [] text i found = cc
  text_at_position (key ∷ keys) text i found =
      let at = position-Some (is_text text) (key ∷ keys) i key found in
      let same : text ≡ string_bytes (get_or (key ∷ keys) i key) = (bytes_eq-Decides text (string_bytes (get_or (key ∷ keys) i key))).0 at.1 in
      slice_get-map string_bytes (key ∷ keys) i ∙ ap (option_map string_bytes) (slice_get-get_or (key ∷ keys) i key at.0) ∙ ap Some (sym same)

  -- what a look-up finds is one of the texts
  pub found_text : (keys : List (String Z)) (text : List ℕ) → list_any (bytes_eq text) (texts_of keys) ≡ list_any (is_text text) keys
  found_text [] text = refl
  found_text (key ∷ keys) text = ap (λ rest. is_text text key || rest) (found_text keys text)

  -- the table after a key was inserted
  pub texts-insert : (keys : List (String Z)) (key : String Z) (text : List ℕ) → string_bytes key ≡ text
      → texts_of (if list_any (string_eq key) keys then keys else keys ++ key ∷ []) ≡ interned (texts_of keys) text
  texts-insert keys key text is = rw (← is, found_text keys (string_bytes key)) (by (list_any (is_text (string_bytes key)) keys))
    where
      by : (b : Bool) → texts_of (if b then keys else keys ++ key ∷ []) ≡ (if b then texts_of keys else texts_of keys ++ string_bytes key ∷ [])
      by true = refl
      by false = map-append string_bytes keys (key ∷ [])

-- a text that stands in the list is found
pub list_any-at : (texts : List (List ℕ)) (text : List ℕ) (i : ℕ) → slice_get texts i ≡ Some text → list_any (bytes_eq text) texts ≡ true
list_any-at [] text i at = cc
list_any-at (first ∷ texts) text zero at =
    let same : first ≡ text = cc in
    ap (λ b. b || list_any (bytes_eq text) texts) ((bytes_eq-Decides text first).1 (sym same))
list_any-at (first ∷ texts) text (suc i) at = rw (list_any-at texts text i at) (by (bytes_eq text first))
  where
    by : (b : Bool) → (b || true) ≡ true
    by true = refl
    by false = refl

-- interning a text that is there changes nothing
pub interned-present : (texts : List (List ℕ)) (text : List ℕ) (i : ℕ) → slice_get texts i ≡ Some text → texts ≡ interned texts text
interned-present texts text i at = rw (list_any-at texts text i at) refl

-- a text that no look-up finds isn't there
pub not_contained : (texts : List (List ℕ)) (text : List ℕ) → list_any (bytes_eq text) texts ≡ false → Contains texts text → ⊥
not_contained texts text none there =
    let at : slice_get texts there.0 ≡ Some text = slice_get-get_or texts there.0 text there.1 ∙ ap Some there.2 in
    both_ways (list_any (bytes_eq text) texts) none (list_any-at texts text there.0 at)

-- a text at a place is contained
pub contained_at : (texts : List (List ℕ)) (text : List ℕ) (i : ℕ) → slice_get texts i ≡ Some text → Contains texts text
contained_at texts text i at = (i, slice_get_within texts i text at, get_or_from_slice_get texts i text text at)
