-- Where the code puts local functions.
use Rattle.std.proofs.Common.{◌≡◌, ℕ, zero, suc, ◌+◌, ◌-◌, ◌<◌, List, [], ◌∷◌, ◌++◌, cond, append_assoc, codes, decimal, drop, length, map, nat_eq, get_or, take, slice_get, Some, reverse, refl, ap, sym, ◌∙◌, subst, arith, inl, inr}
use Rattle.std.proofs.lemmas.List.{length-append, length-map, length-reverse, reverse-append, reverse-reverse, take_more}
use Rattle.std.proofs.lemmas.Option.{get_or_from_slice_get}
use Rattle.cu_calculus.proofs.Lists.{get_map}
use Rattle.cu_kernel.proofs.Loops.{left}
use Rattle.cu_kernel.specs.LocalKernel.{LocalFunction, TopFunction}
use Rattle.cu_lift.proofs.LiftedCopies.{map_twice}
use Rattle.cu_lift.proofs.LiftedOrder.{each_stands, length_order, stands_at}
use Rattle.cu_cycles.proofs.Places.{prefix_or_last, mapped_at, one_element, there, within}
use Rattle.cu_lift.specs.Inside.LiftedPlaces.{AreBelow, AreNames, ArePlaced, AreRows, IsPlacement, entry_of, entry_rank, numbered, ordered_numbers, row_items}
use Rattle.cu_lift.specs.Lifting.{Numbered, in_order, local_name, local_number, rank, rank_in, top_number, top_numbers}
use Rattle.cu_lift.specs.declared.local_order.Entry.{Entry}
use Rattle.cu_lift.specs.declared.placement.Placement.{Placement}
use Rattle.cu_names.proofs.Growth.{known-extends, text_of-extends}
use Rattle.cu_names.specs.Texts.{Extends, IsKnown, text_of}
use Rattle.cu_names.specs.declared.names.NameId.{NameId}

-- ---- names

abbrev name_after : List ℕ → ℕ → List ℕ
name_after text n = text ++ (codes "#" ++ decimal n)

pub names_step : (old mid new : List (List ℕ)) (function : NameId) (number i : ℕ) (numbers : List ℕ) (ids more : List NameId) (id : NameId) (d : ℕ)
    → Extends old mid → Extends mid new → IsKnown old function → i < length numbers
    → AreNames mid (text_of old function) number (take i numbers) ids → IsKnown new id
    → text_of new id ≡ text_of mid function ++ (codes "#" ++ decimal (get_or numbers i d - number)) → more ≡ ids ++ id ∷ []
    → AreNames new (text_of old function) number (take (i + 1) numbers) more
names_step old mid new function number i numbers ids more id d first second known below before is_known spelled pushed = record {
  as_many = many;
  known = λ k found at. ids_known k found (subst (λ (xs : List NameId). slice_get xs k ≡ Some found) pushed at);
  named = λ k n found at number_at.
      ids_named k n found (subst (λ (xs : List NameId). slice_get xs k ≡ Some found) pushed at)
      (subst (λ (xs : List ℕ). slice_get xs k ≡ Some n) (take_more numbers i d below) number_at);
}
  where
    text : List ℕ
    text = text_of old function

    x : ℕ
    x = get_or numbers i d

    prefix_many : length ids ≡ length (take i numbers)
    prefix_many = before.as_many

    many : length more ≡ length (take (i + 1) numbers)
    many =
        ap length pushed ∙ length-append ids (id ∷ []) ∙ ap (λ n. n + 1) prefix_many
        ∙ sym (ap length (take_more numbers i d below) ∙ length-append (take i numbers) (get_or numbers i d ∷ []))

    ids_known : (k : ℕ) (found : NameId) → slice_get (ids ++ id ∷ []) k ≡ Some found → IsKnown new found
    ids_known k found at = elim (prefix_or_last ids id k found at) [
      | inl h ↦ known-extends second found (before.known k found h)
      | inr h ↦ subst (λ (j : NameId). IsKnown new j) h.1 is_known
    ]

    ids_named : (k n : ℕ) (found : NameId) → slice_get (ids ++ id ∷ []) k ≡ Some found
        → slice_get (take i numbers ++ get_or numbers i d ∷ []) k ≡ Some n
        → text_of new found ≡ text_of old function ++ (codes "#" ++ decimal (n - number))
    ids_named k n found at number_at = elim (prefix_or_last ids id k found at) [
      | inl h ↦ elim (prefix_or_last (take i numbers) (get_or numbers i d) k n number_at) [
        | inl g ↦ text_of-extends second found (before.known k found h) ∙ before.named k n found h g
        | inr g ↦
            let low = within ids k found h in let same : k ≡ length (take i numbers) = g.0 in let count = prefix_many in absurd (omega (arith, low, same, count))
      ]
      | inr h ↦ elim (prefix_or_last (take i numbers) (get_or numbers i d) k n number_at) [
        | inl g ↦
            let low = within (take i numbers) k n g in let same : k ≡ length ids = h.0 in let count = prefix_many in absurd (omega (arith, low, same, count))
        | inr g ↦
            ap (text_of new) (sym h.1) ∙ spelled ∙ ap (λ t. name_after t (get_or numbers i d - number)) (text_of-extends first function known)
            ∙ ap (λ m. name_after (text_of old function) (m - number)) g.1
      ]
    ]

-- ---- one top-level function

each_reversed : (P : Entry → Type 0) (xs : List Entry) → ((k : ℕ) (e : Entry) → slice_get xs k ≡ Some e → P e)
    → (k : ℕ) (e : Entry) → slice_get (reverse xs) k ≡ Some e → P e
each_reversed P [] each k e at = each k e at
each_reversed P (x ∷ xs) each k e at =
    elim (prefix_or_last (reverse xs) x k e (subst (λ (ys : List Entry). slice_get ys k ≡ Some e) (reverse-append (x ∷ []) xs) at)) [
      | inl h ↦ each_reversed P xs (λ j f there. each (suc j) f there) k e h
      | inr h ↦ each zero e (ap (λ y. Some y) h.1)
    ]

order_length : (order : List Entry) (locals : List LocalFunction) → reverse order ≡ map entry_of (in_order locals) → length order ≡ length locals
order_length order locals sorted =
    sym (length-reverse order) ∙ ap length sorted ∙ length-map (in_order locals) entry_of ∙ length_order 0 locals

pub order_below : (order : List Entry) (locals : List LocalFunction) → reverse order ≡ map entry_of (in_order locals) → AreBelow (length order) order
order_below order locals sorted k e at =
    each_reversed (λ e. e.number < length order) (reverse order) numbered k e
    (subst (λ (xs : List Entry). slice_get xs k ≡ Some e) (sym (reverse-reverse order)) at)
  where
    numbered : (j : ℕ) (f : Entry) → slice_get (reverse order) j ≡ Some f → f.number < length order
    numbered j f there =
        let found = mapped_at entry_of (in_order locals) j f (subst (λ (xs : List Entry). slice_get xs j ≡ Some f) sorted there) in
        let stands = stands_at 0 locals (in_order locals) j found.0 (each_stands 0 locals) found.1 in
        let low = within locals stands.0 found.0.function stands.2 in
        let number : found.0.number ≡ f.number = ap (λ (g : Entry). g.number) found.2 in
        let place = stands.1 in
        let count = order_length order locals sorted in
        omega (arith, low, number, place, count)

entry_ranks : (k : ℕ) (es : List Numbered) → entry_rank k (map entry_of es) ≡ rank_in k es
entry_ranks k [] = refl
entry_ranks k (e ∷ es) = ap (λ n. cond (nat_eq e.number k) 0 (n + 1)) (entry_ranks k es)

abbrev pub AreLifted : List ℕ → List Entry → ℕ → Type 0
AreLifted numbers order first =
    (length numbers ≡ length order) × ((k : ℕ) → get_or numbers k (first + length order) ≡ first + entry_rank k (reverse order))

numbers_are : (order : List Entry) (locals : List LocalFunction) (number : ℕ) (numbers : List ℕ) → reverse order ≡ map entry_of (in_order locals)
    → AreLifted numbers order (number + 1) → (k : ℕ) → get_or numbers k (number + 1 + length order) ≡ local_number number locals k
numbers_are order locals number numbers sorted lifted k =
    lifted.1 k ∙ ap (λ es. number + 1 + entry_rank k es) sorted ∙ ap (λ n. number + 1 + n) (entry_ranks k (in_order locals))

pub numbers_after : (order : List Entry) (locals : List LocalFunction) (number : ℕ) (numbers : List ℕ) → reverse order ≡ map entry_of (in_order locals)
    → AreLifted numbers order (number + 1) → (k n : ℕ) → slice_get numbers k ≡ Some n → number < n
numbers_after order locals number numbers sorted lifted k n at =
    let is = numbers_are order locals number numbers sorted lifted k in
    let found = get_or_from_slice_get numbers k n (number + 1 + length order) at in
    omega (arith, is, found)

pub placement_made : (old new : List (List ℕ)) (number : ℕ) (f : TopFunction) (order : List Entry) (p : Placement) → Extends old new → IsKnown old f.name
    → reverse order ≡ map entry_of (in_order f.locals) → p.end ≡ number + 1 + length order
    → p.ordered.items ≡ map (λ e. e.number) (reverse order) → AreLifted p.numbers.items order (number + 1)
    → AreRows f.locals (row_items p.captured.items)
    → AreNames new (text_of old f.name) number p.numbers.items p.names.items → IsPlacement new number f p
placement_made old new number f order p grown known sorted ends ordered lifted captured names = record {
  ordered = ordered ∙ ap (map (λ (e : Entry). e.number)) sorted ∙ sym (map_twice entry_of (λ (e : Entry). e.number) (in_order f.locals));
  numbers = λ k. ap (get_or p.numbers.items k) ends ∙ numbers_are order f.locals number p.numbers.items sorted lifted k;
  captured = captured;
  names_many = names.as_many ∙ lifted.0 ∙ order_length order f.locals sorted;
  known = names.known;
  named = spelled;
}
  where
    spelled : (k : ℕ) (id : NameId) → slice_get p.names.items k ≡ Some id → text_of new id ≡ local_name (text_of new f.name) (rank f.locals k)
    spelled k id at =
        let low = within p.names.items k id at in
        let count = names.as_many in
        let below : k < length p.numbers.items = omega (arith, low, count) in
        let found = there p.numbers.items k below in
        let value = get_or_from_slice_get p.numbers.items k found.0 (number + 1 + length order) found.1 in
        let is = numbers_are order f.locals number p.numbers.items sorted lifted k in
        let after : found.0 - number ≡ rank f.locals k + 1 = omega (arith, value, is) in
        names.named k found.0 id at found.1 ∙ ap (λ n. name_after (text_of old f.name) n) after
        ∙ ap (λ t. name_after t (rank f.locals k + 1)) (sym (text_of-extends grown f.name known))

-- ---- all top-level functions

pub length_tops : (n : ℕ) (fs : List TopFunction) → length (top_numbers n fs) ≡ length fs
length_tops n [] = refl
length_tops n (f ∷ fs) = ap (λ m. suc m) (length_tops (n + 1 + length f.locals) fs)

placement_grows : (old new : List (List ℕ)) (number : ℕ) (f : TopFunction) (p : Placement) → Extends old new → IsKnown old f.name
    → IsPlacement old number f p → IsPlacement new number f p
placement_grows old new number f p grown known is = record {
  ordered = is.ordered;
  numbers = is.numbers;
  captured = is.captured;
  names_many = is.names_many;
  known = λ k id at. known-extends grown id (is.known k id at);
  named = λ k id at.
      text_of-extends grown id (is.known k id at) ∙ is.named k id at
      ∙ ap (λ t. name_after t (rank f.locals k + 1)) (sym (text_of-extends grown f.name known));
}

pub placements_step : (old new : List (List ℕ)) (fs : List TopFunction) (ps more : List Placement) (i number : ℕ) (f : TopFunction) (p : Placement)
    → Extends old new → ((k : ℕ) (g : TopFunction) → slice_get fs k ≡ Some g → IsKnown old g.name) → length ps ≡ i → slice_get fs i ≡ Some f
    → number ≡ top_number fs i → ArePlaced old fs ps → IsPlacement new number f p → more ≡ ps ++ p ∷ [] → ArePlaced new fs more
placements_step old new fs ps more i number f p grown known many at is before placed pushed = record {
  each = λ k g q found there. go k g q found (subst (λ (xs : List Placement). slice_get xs k ≡ Some q) pushed there);
}
  where
    go : (k : ℕ) (g : TopFunction) (q : Placement) → slice_get fs k ≡ Some g → slice_get (ps ++ p ∷ []) k ≡ Some q
        → IsPlacement new (top_number fs k) g q
    go k g q found there = elim (prefix_or_last ps p k q there) [
      | inl h ↦ placement_grows old new (top_number fs k) g q grown (known k g found) (before.each k g q found h)
      | inr h ↦
          let place : k ≡ i = h.0 ∙ many in
          let same : f ≡ g = one_element fs i f g at (subst (λ (j : ℕ). slice_get fs j ≡ Some g) place found) in
          subst (λ (x : Placement). IsPlacement new (top_number fs k) g x) h.1
          (subst (λ (x : TopFunction). IsPlacement new (top_number fs k) x p) same
          (subst (λ (n : ℕ). IsPlacement new n f p) (is ∙ ap (top_number fs) (sym place)) placed))
    ]

-- ---- going through local functions in their order

some_function : (f g : LocalFunction) → Some f ≡ Some g → f ≡ g
some_function f g e = cc

pub ordered_at : (locals : List LocalFunction) (numbers : List ℕ) (i d : ℕ) → numbers ≡ ordered_numbers locals → i < length numbers
    → (f : LocalFunction) × (slice_get locals (get_or numbers i d) ≡ Some f)
    × (drop i (in_order locals) ≡ numbered (get_or numbers i d) f ∷ drop (i + 1) (in_order locals))
ordered_at locals numbers i d is below =
    let es = in_order locals in
    let many = ap length is ∙ length-map es (λ (e : Numbered). e.number) in
    let inside : i < length es = omega (arith, many) in
    let found = there es i inside in
    let e = found.0 in
    let stands = stands_at 0 locals es i e (each_stands 0 locals) found.1 in
    let number : get_or numbers i d ≡ e.number =
    ap (λ ns. get_or ns i d) is ∙ get_or_from_slice_get (ordered_numbers locals) i e.number d (get_map (λ (f : Numbered). f.number) es i e found.1) in
    let place = stands.1 in
    let same : get_or numbers i d ≡ stands.0 = omega (arith, number, place) in (
      e.function,
      ap (slice_get locals) same ∙ stands.2,
      left es i e inside (sym (get_or_from_slice_get es i e e found.1))
          ∙ ap (λ f. f ∷ drop (i + 1) es) (λ j. record { number = sym number j; function = e.function }),
    )

-- one more in a loop that pushes what comes of each local function
pub pushed_next : {A : Type 0} (make : Numbered → A) (locals : List LocalFunction) (numbers : List ℕ) (i d : ℕ) (f : LocalFunction) (made more whole : List A) (one : A)
    → numbers ≡ ordered_numbers locals → i < length numbers → slice_get locals (get_or numbers i d) ≡ Some f → one ≡ make (numbered (get_or numbers i d) f)
    → more ≡ made ++ one ∷ [] → made ++ map make (drop i (in_order locals)) ≡ whole → more ++ map make (drop (i + 1) (in_order locals)) ≡ whole
pushed_next make locals numbers i d f made more whole one is below at is_one pushed before =
    let found = ordered_at locals numbers i d is below in
    let same : found.0 ≡ f = some_function found.0 f (sym found.1 ∙ at) in
    let rest = map make (drop (i + 1) (in_order locals)) in
    let next : drop i (in_order locals) ≡ numbered (get_or numbers i d) f ∷ drop (i + 1) (in_order locals) =
    found.2 ∙ ap (λ g. numbered (get_or numbers i d) g ∷ drop (i + 1) (in_order locals)) same in
    ap (λ ys. ys ++ rest) (pushed ∙ ap (λ x. made ++ x ∷ []) is_one) ∙ append_assoc made (make (numbered (get_or numbers i d) f) ∷ []) rest
    ∙ ap (λ es. made ++ map make es) (sym next) ∙ before

pub ordered_within : (locals : List LocalFunction) (numbers : List ℕ) (i d : ℕ) → numbers ≡ ordered_numbers locals → i < length numbers
    → get_or numbers i d < length locals
ordered_within locals numbers i d is below =
    let found = ordered_at locals numbers i d is below in within locals (get_or numbers i d) found.0 found.1

pub mapped_push : {A B : Type 0} (f : A → B) (xs more : List A) (x : A) → more ≡ xs ++ x ∷ [] → map f more ≡ map f xs ++ f x ∷ []
mapped_push {A} f xs more x pushed = ap (map f) pushed ∙ go xs
  where
    go : (ys : List A) → map f (ys ++ x ∷ []) ≡ map f ys ++ f x ∷ []
    go [] = refl
    go (y ∷ ys) = ap (λ zs. f y ∷ zs) (go ys)
