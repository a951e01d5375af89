-- What is said of reading one of several words, none of which begins another.
use Rattle.std.proofs.Common.{◌≡◌, ℕ, suc, ◌+◌, ◌≤◌, Bool, true, false, List, [], ◌∷◌, ◌++◌, Result, Ok, Err, if◌then◌else◌, length, min, nat_eq, refl, ap, sym, ◌∙◌, subst, ◌⊎◌, inl, inr, arith}
use Rattle.std.specs.List.{AllByRecursion}
use Rattle.std.proofs.lemmas.List.{length-append}
use Rattle.cu_flatread.proofs.DecimalLemmas.{given, given_is}
use Rattle.cu_flatread.proofs.ReaderLaws.{Reads, Stopped, always}
use Rattle.cu_flatread.proofs.WordLemmas.{word_again, word_left, word_parts, word_sound}
use Rattle.cu_flatread.specs.Inside.Words.{Read, after_word, one_of, one_of_words, word_or}

-- ---- a word that fails

-- two words part at some letter
abbrev pub part : List ℕ → List ℕ → Bool
part [] text = false
part (c ∷ word) [] = false
part (c ∷ word) (d ∷ text) = if nat_eq d c then part word text else true

letter_parts : (t : Bool) (word bytes : List ℕ) (tail : Bool) (here : ℕ)
    → (tail ≡ true → (l : ℕ) × (after_word word bytes ≡ Err l))
    → (if t then tail else true) ≡ true
    → (l : ℕ) × ((if t then after_word word bytes else Err here) ≡ Err l)
letter_parts true word bytes tail here more e = more e
letter_parts false word bytes tail here more e = (here, refl)

pub part_fails : (word text rest : List ℕ) → part word text ≡ true
    → (l : ℕ) × (after_word word (text ++ rest) ≡ Err l)
unfolding after_word
part_fails [] text rest e = let never : ⊥ = cc in absurd never
part_fails (c ∷ word) [] rest e = let never : ⊥ = cc in absurd never
part_fails (c ∷ word) (d ∷ text) rest e =
    letter_parts (nat_eq d c) word (text ++ rest) (part word text) (suc (length (text ++ rest)))
    (part_fails word text rest) e

-- ---- the words of a table

-- a row of the table has the word of something that is good
abbrev pub IsRow : {X : Type 0} → (X → List ℕ) → (X → Type 0) → List ℕ × X → Type 0
IsRow t G w = G w.1 × (w.0 ≡ t w.1)

-- the table has a row for something, and words before it part from its own
abbrev pub Finds : {X : Type 0} → (X → List ℕ) → List (List ℕ × X) → X → Type 0
Finds t [] x = ⊥
Finds t (w ∷ words) x = ((w.1 ≡ x) × (w.0 ≡ t x)) ⊎ ((part w.0 (t x) ≡ true) × Finds t words x)

module _ {X : Type 0} (t : X → List ℕ) (G : X → Type 0) where
  pub finds_again : (words : List (List ℕ × X)) (x : X) (rest : List ℕ) (least : ℕ)
      → Finds t words x → one_of_words words (t x ++ rest) least ≡ given x rest
  unfolding one_of_words
  finds_again [] x rest least f = absurd f
  finds_again (w ∷ words) x rest least (inl is) =
      let bytes = t x ++ rest in
      let read : after_word w.0 bytes ≡ Ok rest =
      ap (λ z. after_word z bytes) is.1 ∙ word_again (t x) rest in
      ap (λ r. word_or r w.1 (λ left. one_of_words words bytes (min least left))) read
      ∙ ap (λ z. given z rest) is.0
  finds_again (w ∷ words) x rest least (inr next) =
      let bytes = t x ++ rest in
      let failed = part_fails w.0 (t x) rest next.0 in
      ap (λ r. word_or r w.1 (λ left. one_of_words words bytes (min least left))) failed.1
      ∙ finds_again words x rest (min least failed.0) next.1

  row_takes : (read : Result (List ℕ) ℕ) (w : List ℕ × X) (bytes : List ℕ)
      (others : ℕ → Read X) (x : X) (rest : List ℕ) → after_word w.0 bytes ≡ read → IsRow t G w
      → ((left : ℕ) → others left ≡ given x rest → G x × (bytes ≡ t x ++ rest))
      → word_or read w.1 others ≡ given x rest → G x × (bytes ≡ t x ++ rest)
  row_takes (Ok r) w bytes others x rest is row more e =
      let same = given_is w.1 x r rest e in (
        subst G same.0 row.0,
        word_sound w.0 bytes r is ∙ ap (λ z. z ++ r) (row.1 ∙ ap t same.0)
            ∙ ap (λ z. t x ++ z) same.1,
      )
  row_takes (Err left) w bytes others x rest is row more e = more left e

  pub table_takes : (words : List (List ℕ × X)) (bytes : List ℕ) (least : ℕ) (x : X)
      (rest : List ℕ) → AllByRecursion (IsRow t G) words
      → one_of_words words bytes least ≡ given x rest → G x × (bytes ≡ t x ++ rest)
  unfolding one_of_words
  table_takes [] bytes least x rest rows e = let never : ⊥ = cc in absurd never
  table_takes (w ∷ words) bytes least x rest rows e =
      row_takes (after_word w.0 bytes) w bytes (λ left. one_of_words words bytes (min least left))
      x rest refl rows.0 (λ left. table_takes words bytes (min least left) x rest rows.1) e

  -- ---- where no word comes

  -- the fault is where the bytes part from a word, or at the bound, and isn't past it
  pub record Least (words : List (List ℕ × X)) (bytes : List ℕ) (least n : ℕ) : Type 0 where
    pub below : n ≤ least
    pub from : (n ≡ least) ⊎ ((x : X) × G x × (after_word (t x) bytes ≡ Err n))

  min_is : (a b : ℕ) → (min a b ≡ a) ⊎ (min a b ≡ b)
  min_is a b = grind arith

  row_stops : (read : Result (List ℕ) ℕ) (w : List ℕ × X) (words : List (List ℕ × X))
      (bytes : List ℕ) (least n : ℕ) → after_word w.0 bytes ≡ read → IsRow t G w
      → ((left : ℕ) → one_of_words words bytes (min least left) ≡ Err n
      → Least words bytes (min least left) n)
      → word_or read w.1 (λ left. one_of_words words bytes (min least left)) ≡ Err n
      → Least (w ∷ words) bytes least n
  row_stops (Ok r) w words bytes least n is row more e = let never : ⊥ = cc in absurd never
  row_stops (Err left) w words bytes least n is row more e =
      let m = more left e in
      let small : min least left ≤ least = omega arith in
      record {
        below = omega (arith, m.below, small);
        from =
            elim m.from [
              | inl same ↦
                  elim (min_is least left) [
                    | inl a ↦ inl (same ∙ a)
                    | inr b ↦
                        inr (
                          w.1,
                          row.0,
                          ap (λ z. after_word z bytes) (sym row.1) ∙ is
                              ∙ ap (λ k. Err k) (sym (same ∙ b)),
                        )
                  ]
              | inr one ↦ inr one
            ];
      }

  pub table_stops : (words : List (List ℕ × X)) (bytes : List ℕ) (least n : ℕ)
      → AllByRecursion (IsRow t G) words → one_of_words words bytes least ≡ Err n
      → Least words bytes least n
  unfolding one_of_words
  table_stops [] bytes least n rows e =
      let same : least ≡ n = cc in record { below = omega (arith, same); from = inl (sym same) }
  table_stops (w ∷ words) bytes least n rows e =
      row_stops (after_word w.0 bytes) w words bytes least n refl rows.0
      (λ left. table_stops words bytes (min least left) n rows.1) e

-- ---- the fault stays where it is, whatever follows the byte at which it is

-- a fault at the same place, of bytes of another length
abbrev Shifts : {A : Type 0} → Result A ℕ → ℕ → ℕ → ℕ → Type 0
Shifts other l j k = (m : ℕ) × (other ≡ Err m) × (m + j ≡ l + k)

letter_shifts : (t : Bool) (read other : Result (List ℕ) ℕ) (here there l j k : ℕ)
    → (read ≡ Err l → Shifts other l j k) → (here ≡ l → there + j ≡ l + k)
    → (if t then read else Err here) ≡ Err l → Shifts (if t then other else Err there) l j k
letter_shifts true read other here there l j k more same e = more e
letter_shifts false read other here there l j k more same e =
    let is : here ≡ l = cc in (there, refl, same is)

word_shifts : (word front : List ℕ) (b : ℕ) (bs others : List ℕ) (l : ℕ)
    → after_word word (front ++ b ∷ bs) ≡ Err l → suc (length bs) ≤ l
    → Shifts (after_word word (front ++ b ∷ others)) l (suc (length bs)) (suc (length others))
unfolding after_word
word_shifts [] front b bs others l e less = let never : ⊥ = cc in absurd never
word_shifts (c ∷ word) [] b bs others l e less =
    letter_shifts (nat_eq b c) (after_word word bs) (after_word word others) (suc (length bs))
    (suc (length others)) l (suc (length bs)) (suc (length others))
    (λ inner. absurd (omega (arith, less, word_left word bs l inner)))
    (λ same. omega (arith, same)) e
word_shifts (c ∷ word) (f ∷ front) b bs others l e less =
    letter_shifts (nat_eq f c) (after_word word (front ++ b ∷ bs))
    (after_word word (front ++ b ∷ others)) (suc (length (front ++ b ∷ bs)))
    (suc (length (front ++ b ∷ others))) l (suc (length bs)) (suc (length others))
    (λ inner. word_shifts word front b bs others l inner less)
    (λ same. omega (arith, same, length-append front (b ∷ bs), length-append front (b ∷ others))) e

min_shifts : (a b c d j k : ℕ) → a + j ≡ c + k → b + j ≡ d + k → min a b + j ≡ min c d + k
min_shifts a b c d j k p q = grind (arith, p, q)

module _ {X : Type 0} (t : X → List ℕ) (G : X → Type 0) where
  row_shifts : (read : Result (List ℕ) ℕ) (w : List ℕ × X) (words : List (List ℕ × X))
      (front : List ℕ) (b : ℕ) (bs others : List ℕ) (least1 least2 n : ℕ)
      → after_word w.0 (front ++ b ∷ bs) ≡ read → AllByRecursion (IsRow t G) words
      → suc (length bs) ≤ n → least2 + suc (length bs) ≡ least1 + suc (length others)
      → ((left1 left2 : ℕ)
      → one_of_words words (front ++ b ∷ bs) (min least1 left1) ≡ Err n
      → min least2 left2 + suc (length bs) ≡ min least1 left1 + suc (length others)
      → Shifts (one_of_words words (front ++ b ∷ others) (min least2 left2)) n (suc (length bs))
      (suc (length others)))
      → word_or read w.1 (λ left. one_of_words words (front ++ b ∷ bs) (min least1 left)) ≡ Err n
      → Shifts (word_or (after_word w.0 (front ++ b ∷ others)) w.1
      (λ left. one_of_words words (front ++ b ∷ others) (min least2 left))) n (suc (length bs))
      (suc (length others))
  row_shifts (Ok r) w words front b bs others least1 least2 n is rows less same more e =
      let never : ⊥ = cc in absurd never
  row_shifts (Err left) w words front b bs others least1 least2 n is rows less same more e =
      let m = table_stops t G words (front ++ b ∷ bs) (min least1 left) n rows e in
      let small : min least1 left ≤ left = omega arith in
      let s = word_shifts w.0 front b bs others left is (omega (arith, less, m.below, small)) in
      let next = more left s.0 e
      (min_shifts least2 s.0 least1 left (suc (length bs)) (suc (length others)) same s.2) in (
        next.0,
        ap (λ r. word_or r w.1 (λ l. one_of_words words (front ++ b ∷ others) (min least2 l)))
            s.1 ∙ next.1,
        next.2,
      )

  table_shifts : (words : List (List ℕ × X)) (front : List ℕ) (b : ℕ) (bs others : List ℕ)
      (least1 least2 n : ℕ) → AllByRecursion (IsRow t G) words → suc (length bs) ≤ n
      → least2 + suc (length bs) ≡ least1 + suc (length others)
      → one_of_words words (front ++ b ∷ bs) least1 ≡ Err n
      → Shifts (one_of_words words (front ++ b ∷ others) least2) n (suc (length bs))
      (suc (length others))
  unfolding one_of_words
  table_shifts [] front b bs others least1 least2 n rows less same e =
      let is : least1 ≡ n = cc in (least2, refl, omega (arith, is, same))
  table_shifts (w ∷ words) front b bs others least1 least2 n rows less same e =
      row_shifts (after_word w.0 (front ++ b ∷ bs)) w words front b bs others least1 least2 n refl
      rows.1 less same
      (λ left1 left2 inner shift.
      table_shifts words front b bs others (min least1 left1) (min least2 left2) n rows.1 less shift
      inner) e

  table_wrong : (words : List (List ℕ × X)) (front : List ℕ) (b : ℕ) (bs others : List ℕ) (n : ℕ)
      → AllByRecursion (IsRow t G) words → n ≡ suc (length bs)
      → one_of words (front ++ b ∷ bs) ≡ Err n
      → one_of words (front ++ b ∷ others) ≡ Err (length (b ∷ others))
  table_wrong words front b bs others n rows left e =
      let shift : length (front ++ b ∷ others) + suc (length bs)
      ≡ length (front ++ b ∷ bs) + suc (length others) =
      omega (arith, length-append front (b ∷ bs), length-append front (b ∷ others)) in
      let s = table_shifts words front b bs others (length (front ++ b ∷ bs))
      (length (front ++ b ∷ others)) n rows (omega (arith, left)) shift e in
      let is : s.0 ≡ suc (length others) = omega (arith, s.2, left) in
      s.1 ∙ ap (λ k. Err k) is

  table_stopped : (words : List (List ℕ × X)) (some : X) → G some
      → AllByRecursion (IsRow t G) words → (bytes : List ℕ) (n : ℕ) → one_of words bytes ≡ Err n
      → (n ≡ length bytes) ⊎ ((x : X) × G x × (after_word (t x) bytes ≡ Err n))
      → Stopped (one_of words) t G bytes n
  table_stopped words some is_some rows bytes n e (inl same) = record {
    front = [];
    back = bytes;
    splits = refl;
    left = sym same;
    whole = some;
    good = is_some;
    more = t some;
    begun = refl;
    wrong = λ b bs others i.
        table_wrong words [] b bs others n rows (same ∙ ap length i)
        (ap (one_of words) (sym i) ∙ e);
  }
  table_stopped words some is_some rows bytes n e (inr one) =
      let p = word_parts (t one.0) bytes n one.2 in
      record {
        front = p.front;
        back = p.rest;
        splits = p.whole;
        left = p.left_is;
        whole = one.0;
        good = one.1;
        more = p.more;
        begun = p.begins;
        wrong = λ b bs others i.
            table_wrong words p.front b bs others n rows (sym p.left_is ∙ ap length i)
            (ap (one_of words) (ap (λ z. p.front ++ z) (sym i) ∙ sym p.whole) ∙ e);
      }

  -- one of the words of a table
  pub table_reads : (words : List (List ℕ × X)) (some : X) → G some
      → AllByRecursion (IsRow t G) words → ((x : X) → G x → Finds t words x)
      → Reads always (one_of words) t G
  table_reads words some is_some rows finds = record {
    again = λ x rest g ends. finds_again t G words x rest (length (t x ++ rest)) (finds x g);
    takes = λ bytes x rest e.
        let a = table_takes t G words bytes (length bytes) x rest rows e in
        record {
          splits = a.1;
          good = a.0;
          alike = λ b bs others i.
              finds_again t G words x (b ∷ others) (length (t x ++ b ∷ others)) (finds x a.0);
        };
    stops = λ bytes n e.
        table_stopped words some is_some rows bytes n e
        (table_stops t G words bytes (length bytes) n rows e).from;
    some = some;
    is_some = is_some;
  }
