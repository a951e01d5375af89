-- Reading takes bytes away.
use Rattle.std.proofs.Common.{◌≡◌, ℕ, zero, suc, ◌≤◌, ◌<◌, Bool, true, false, List, [], ◌∷◌, Option, None, Some, Result, Ok, Err, codes, decimal, if◌then◌else◌, length, min, refl, ap, inl, inr, arith}
use Rattle.std.specs.List.{AllByRecursion}
use Rattle.std.proofs.lemmas.List.{length-append}
use Rattle.cu_flatread.proofs.DecimalLemmas.{given, given_is}
use Rattle.cu_flatread.proofs.NameLemmas.{chosen, front_is}
use Rattle.cu_flatread.proofs.RoomLemmas.{Shortens}
use Rattle.cu_flatread.proofs.SoundLemmas.{bound, decimal_sound, goes_on_sound, joined_is}
use Rattle.cu_flatread.proofs.WordLemmas.{word_sound}
use Rattle.cu_flatread.specs.Inside.Names.{added, after_byte, ends, entity_at, quoted_at, text_at, text_from, with_front}
use Rattle.cu_flatread.specs.Inside.Numbers.{most_number, number_at}
use Rattle.cu_flatread.specs.Inside.Types.{all_types, type_at, type_of_form, type_words}
use Rattle.cu_flatread.specs.Inside.Words.{Read, ◌>>=◌, after_word, elements, goes_on, is_at, joined, list_after, more_elements, one_of, one_of_words, word_or}
use Rattle.cu_flatread.specs.Modules as m
use Rattle.cu_flatread.specs.Modules.{TypeExpression}
use Rattle.cu_flatread.specs.Notation.{Entity}
use Rattle.cu_flatread.specs.declared.quoted.Within.{Within}
use Rattle.cu_flatread.specs.declared.quoted.Within.TheVariants as within
use Rattle.cu_flatread.specs.declared.types.TypeForm.{TypeForm}
use Rattle.cu_flatread.specs.declared.types.TypeForm.TheVariants as form

pub word_shorter : (word bytes rest : List ℕ) → after_word word bytes ≡ Ok rest
    → length rest ≤ length bytes
word_shorter word bytes rest e =
    omega (arith, ap length (word_sound word bytes rest e), length-append word rest)

pub number_shorter : Shortens number_at
number_shorter bytes n rest e =
    let d = decimal_sound most_number bytes rest n (omega arith) (omega arith) e in
    omega (arith, ap length d.0, length-append (decimal n) rest)

text_step : (o : Option Within) (front : List ℕ) (left : ℕ) (bytes t rest : List ℕ)
    → ((place : Within) (t : List ℕ) → text_at place bytes ≡ given t rest
    → length rest ≤ length bytes)
    → text_from o left (λ next. with_front front (text_at next bytes)) ≡ given t rest
    → length rest ≤ length bytes
text_step None front left bytes t rest next e = let no : ⊥ = cc in absurd no
text_step (Some place) front left bytes t rest next e =
    let f = front_is front (text_at place bytes) t rest e in next place f.0 f.1

pub text_shorter : (place : Within) (bytes t rest : List ℕ) → text_at place bytes ≡ given t rest
    → length rest ≤ length bytes
unfolding text_at
text_shorter place [] t rest e = let no : ⊥ = cc in absurd no
text_shorter place (b ∷ bytes) t rest e =
    elim (chosen (ends place b) (given [] bytes) (text_from (after_byte place b) (suc (length bytes))
    (λ next. with_front (added place b) (text_at next bytes))) (given t rest) e) [
      | inl end ↦ let same = given_is [] t bytes rest end.1 in omega (arith, ap length same.1)
      | inr on ↦
          let fewer =
          text_step (after_byte place b) (added place b) (suc (length bytes)) bytes t rest
          (λ place t. text_shorter place bytes t rest) on.1 in
          omega (arith, fewer)
    ]

pub quoted_shorter : Shortens quoted_at
unfolding quoted_at
quoted_shorter bytes text rest e =
    let quote = bound (after_word (codes "\"") bytes) _ (text, rest) e in
    omega (
      arith,
      word_shorter (codes "\"") bytes quote.0 quote.1,
      text_shorter within.Between quote.0 text rest quote.2,
    )

pub entity_shorter : Shortens entity_at
unfolding entity_at
entity_shorter bytes x rest e =
    let a = bound (after_word (codes "(") bytes) _ (x, rest) e in
    let owner = bound (quoted_at a.0) _ (x, rest) a.2 in
    let b = bound (after_word (codes ",") owner.0.1) _ (x, rest) owner.2 in
    let name = bound (quoted_at b.0) _ (x, rest) b.2 in
    let c = bound (after_word (codes ")") name.0.1) _ (x, rest) name.2 in
    let same = given_is (record { owner = owner.0.0; name = name.0.0 }) x c.0 rest c.2 in
    omega (
      arith,
      word_shorter (codes "(") bytes a.0 a.1,
      quoted_shorter a.0 owner.0.0 owner.0.1 owner.1,
      word_shorter (codes ",") owner.0.1 b.0 b.1,
      quoted_shorter b.0 name.0.0 name.0.1 name.1,
      word_shorter (codes ")") name.0.1 c.0 c.1,
      ap length same.1,
    )

one_or : {X : Type 0} (read : Result (List ℕ) ℕ) (word bytes rest : List ℕ) (w x : X)
    (others : ℕ → Read X) → after_word word bytes ≡ read
    → ((left : ℕ) → others left ≡ given x rest → length rest ≤ length bytes)
    → word_or read w others ≡ given x rest → length rest ≤ length bytes
one_or (Ok r) word bytes rest w x others is next e =
    let same = given_is w x r rest e in
    omega (arith, word_shorter word bytes r is, ap length same.1)
one_or (Err left) word bytes rest w x others is next e = next left e

pub one_of_shorter : {X : Type 0} (words : List (List ℕ × X)) (bytes : List ℕ) (least : ℕ) (x : X)
    (rest : List ℕ) → one_of_words words bytes least ≡ given x rest → length rest ≤ length bytes
unfolding one_of_words
one_of_shorter [] bytes least x rest e = let no : ⊥ = cc in absurd no
one_of_shorter (w ∷ words) bytes least x rest e =
    one_or (after_word w.0 bytes) w.0 bytes rest w.1 x
    (λ left. one_of_words words bytes (min least left)) refl
    (λ left. one_of_shorter words bytes (min least left) x rest) e

more_rest : {A : Type 0} (element : List ℕ → Read A) → Shortens element → (room : ℕ)
    (after : List ℕ) (xs : List A) (rest : List ℕ) (more : Bool)
    → ((b : List ℕ) (ys : List A) → more_elements element room b ≡ given ys rest
    → length rest ≤ length b)
    → (if more then (element after >>= λ x. joined (x.0 ∷ []) (more_elements element room x.1))
    else given [] after) ≡ given xs rest → length rest ≤ length after
more_rest element shorter room after xs rest true next e =
    let one = bound (element after) _ (xs, rest) e in
    let others = joined_is (one.0.0 ∷ []) xs (more_elements element room one.0.1) rest one.2 in
    omega (arith, shorter after one.0.0 one.0.1 one.1, next one.0.1 others.0 others.1)
more_rest element shorter room after xs rest false next e =
    let same = given_is [] xs after rest e in omega (arith, ap length same.1)

more_shorter : {A : Type 0} (element : List ℕ → Read A) → Shortens element → (room : ℕ)
    (bytes : List ℕ) (xs : List A) (rest : List ℕ)
    → more_elements element room bytes ≡ given xs rest → length rest ≤ length bytes
unfolding more_elements
more_shorter element shorter zero bytes xs rest e = let no : ⊥ = cc in absurd no
more_shorter element shorter (suc room) bytes xs rest e =
    let comma = bound (goes_on bytes) _ (xs, rest) e in
    let took = goes_on_sound bytes comma.0.1 comma.0.0 comma.1 in
    let fewer =
    more_rest element shorter room comma.0.1 xs rest comma.0.0
    (λ b ys. more_shorter element shorter room b ys rest) comma.2 in
    omega (arith, ap length took, fewer)

strict_or : {X : Type 0} (read : Result (List ℕ) ℕ) (word bytes rest : List ℕ) (w x : X)
    (others : ℕ → Read X) → after_word word bytes ≡ read → 0 < length word
    → ((left : ℕ) → others left ≡ given x rest → length rest < length bytes)
    → word_or read w others ≡ given x rest → length rest < length bytes
strict_or (Ok r) word bytes rest w x others is some next e =
    let same = given_is w x r rest e in
    omega (
      arith,
      some,
      ap length (word_sound word bytes r is),
      length-append word r,
      ap length same.1,
    )
strict_or (Err left) word bytes rest w x others is some next e = next left e

-- of words that aren't empty
pub one_of_strict : {X : Type 0} (words : List (List ℕ × X)) (bytes : List ℕ) (least : ℕ) (x : X)
    (rest : List ℕ) → AllByRecursion (λ (w : List ℕ × X). 0 < length w.0) words
    → one_of_words words bytes least ≡ given x rest → length rest < length bytes
unfolding one_of_words
one_of_strict [] bytes least x rest some e = let no : ⊥ = cc in absurd no
one_of_strict (w ∷ words) bytes least x rest some e =
    strict_or (after_word w.0 bytes) w.0 bytes rest w.1 x
    (λ left. one_of_words words bytes (min least left)) refl some.0
    (λ left. one_of_strict words bytes (min least left) x rest some.1) e

type_words_some : (depth : ℕ)
    → AllByRecursion (λ (w : List ℕ × TypeForm). 0 < length w.0) (type_words depth)
type_words_some zero = tt
type_words_some (suc zero) = (omega arith, (omega arith, tt))
type_words_some (suc (suc depth)) = (omega arith, (omega arith, (omega arith, tt)))

pub type_word_shorter : (depth : ℕ) (bytes rest : List ℕ) (f : TypeForm)
    → one_of (type_words depth) bytes ≡ given f rest → length rest < length bytes
type_word_shorter depth bytes rest f e =
    one_of_strict (type_words depth) bytes (length bytes) f rest (type_words_some depth) e

pub list_shorter : {A : Type 0} (element : List ℕ → Read A) → Shortens element
    → Shortens (list_after element)
unfolding list_after
list_shorter element shorter bytes xs rest e =
    elim (chosen (is_at 93 bytes) (after_word (codes "]") bytes >>= λ r. given [] r)
    (elements element bytes) (given xs rest) e) [
      | inl empty ↦
          let end = bound (after_word (codes "]") bytes) _ (xs, rest) empty.1 in
          let same = given_is [] xs end.0 rest end.2 in
          omega (arith, word_shorter (codes "]") bytes end.0 end.1, ap length same.1)
      | inr some ↦
          let one = bound (element bytes) _ (xs, rest) some.1 in
          let others = joined_is (one.0.0 ∷ []) xs
          (more_elements element (length one.0.1) one.0.1) rest one.2 in
          omega (
            arith,
            shorter bytes one.0.0 one.0.1 one.1,
            more_shorter element shorter (length one.0.1) one.0.1 others.0 rest others.1,
          )
    ]

type_form_shorter : (inner : List ℕ → Read (TypeExpression Entity)) → Shortens inner
    → (f : TypeForm) → Shortens (type_of_form inner f)
unfolding type_of_form
type_form_shorter inner shorter form.Variable bytes t rest e =
    let x = bound (number_at bytes) _ (t, rest) e in
    let same = given_is (m.Variable x.0.0) t x.0.1 rest x.2 in
    omega (arith, number_shorter bytes x.0.0 x.0.1 x.1, ap length same.1)
type_form_shorter inner shorter form.Arrow bytes t rest e =
    let a = bound (inner bytes) _ (t, rest) e in
    let r = bound (after_word (codes ") (") a.0.1) _ (t, rest) a.2 in
    let b = bound (inner r.0) _ (t, rest) r.2 in
    let s = bound (after_word (codes ")") b.0.1) _ (t, rest) b.2 in
    let same = given_is (m.Arrow a.0.0 b.0.0) t s.0 rest s.2 in
    omega (
      arith,
      shorter bytes a.0.0 a.0.1 a.1,
      word_shorter (codes ") (") a.0.1 r.0 r.1,
      shorter r.0 b.0.0 b.0.1 b.1,
      word_shorter (codes ")") b.0.1 s.0 s.1,
      ap length same.1,
    )
type_form_shorter inner shorter form.Named bytes t rest e =
    let x = bound (entity_at bytes) _ (t, rest) e in
    let r = bound (after_word (codes " [") x.0.1) _ (t, rest) x.2 in
    let ts = bound (list_after inner r.0) _ (t, rest) r.2 in
    let same = given_is (m.Named x.0.0 (all_types ts.0.0)) t ts.0.1 rest ts.2 in
    omega (
      arith,
      entity_shorter bytes x.0.0 x.0.1 x.1,
      word_shorter (codes " [") x.0.1 r.0 r.1,
      list_shorter inner shorter r.0 ts.0.0 ts.0.1 ts.1,
      ap length same.1,
    )

pub type_shorter : (depth : ℕ) → Shortens (type_at depth)
unfolding type_at
type_shorter zero bytes t rest e = let no : ⊥ = cc in absurd no
type_shorter (suc depth) bytes t rest e =
    let found = bound (one_of (type_words (suc depth)) bytes) _ (t, rest) e in
    omega (
      arith,
      one_of_shorter (type_words (suc depth)) bytes (length bytes) found.0.0 found.0.1 found.1,
      type_form_shorter (type_at depth) (type_shorter depth) found.0.0 found.0.1 t rest found.2,
    )
