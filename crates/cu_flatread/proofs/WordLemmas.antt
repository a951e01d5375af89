-- Laws on words: what is read is the word, and where bytes part from it nothing after them matters.
use Rattle.std.proofs.Common.{◌≡◌, ℕ, suc, ◌≤◌, Bool, true, false, List, [], ◌∷◌, ◌++◌, Result, Ok, Err, if◌then◌else◌, length, nat_eq, refl, ap, arith, eq-eqb, eqb-true}
use Rattle.std.proofs.lemmas.List.{length-append}
use Rattle.cu_flatread.specs.Inside.Words.{after_word}

letter_sound : (t : Bool) (b c : ℕ) (word bytes rest : List ℕ) (read : Result (List ℕ) ℕ)
    → nat_eq b c ≡ t → (read ≡ Ok rest → bytes ≡ word ++ rest)
    → (if t then read else Err (suc (length bytes))) ≡ Ok rest → b ∷ bytes ≡ c ∷ (word ++ rest)
letter_sound true b c word bytes rest read same more e =
    rw (eqb-true b c same, more e) refl
letter_sound false b c word bytes rest read same more e = let no : ⊥ = cc in absurd no

-- what is read of a word is the word
pub word_sound : (word bytes rest : List ℕ) → after_word word bytes ≡ Ok rest
    → bytes ≡ word ++ rest
unfolding after_word
word_sound [] bytes rest e = cc
word_sound (c ∷ word) [] rest e = let no : ⊥ = cc in absurd no
word_sound (c ∷ word) (b ∷ bytes) rest e =
    letter_sound (nat_eq b c) b c word bytes rest (after_word word bytes) refl
    (word_sound word bytes rest) e

-- a word is read, whatever follows it
pub word_again : (word rest : List ℕ) → after_word word (word ++ rest) ≡ Ok rest
unfolding after_word
word_again [] rest = refl
word_again (c ∷ word) rest = rw (eq-eqb c c refl, word_again word rest) refl

letter_left : (t : Bool) (bytes : List ℕ) (read : Result (List ℕ) ℕ) (left : ℕ)
    → (read ≡ Err left → left ≤ length bytes)
    → (if t then read else Err (suc (length bytes))) ≡ Err left → left ≤ suc (length bytes)
letter_left true bytes read left more e = omega (arith, more e)
letter_left false bytes read left more e = let same : suc (length bytes) ≡ left = cc in omega (arith, same)

-- no more bytes are left at a fault than there were
pub word_left : (word bytes : List ℕ) (left : ℕ) → after_word word bytes ≡ Err left
    → left ≤ length bytes
unfolding after_word
word_left [] bytes left e = let no : ⊥ = cc in absurd no
word_left (c ∷ word) [] left e = let same : 0 ≡ left = cc in omega (arith, same)
word_left (c ∷ word) (b ∷ bytes) left e =
    letter_left (nat_eq b c) bytes (after_word word bytes) left (word_left word bytes left) e

-- bytes part from a text: they begin alike
pub record Parts (bytes text : List ℕ) (left : ℕ) : Type 0 where
  pub front : List ℕ
  pub rest : List ℕ
  pub more : List ℕ
  pub whole : bytes ≡ front ++ rest
  pub left_is : length rest ≡ left
  pub begins : text ≡ front ++ more

letter_parts : (t : Bool) (b c : ℕ) (word bytes : List ℕ) (read : Result (List ℕ) ℕ) (left : ℕ)
    → nat_eq b c ≡ t → (read ≡ Err left → Parts bytes word left)
    → (if t then read else Err (suc (length bytes))) ≡ Err left
    → Parts (b ∷ bytes) (c ∷ word) left
letter_parts true b c word bytes read left same more e =
    let p = more e in
    record {
      front = c ∷ p.front;
      rest = p.rest;
      more = p.more;
      whole = rw (eqb-true b c same, p.whole) refl;
      left_is = p.left_is;
      begins = ap (λ x. c ∷ x) p.begins;
    }
letter_parts false b c word bytes read left same more e =
    let is : suc (length bytes) ≡ left = cc in
    record {
      front = [];
      rest = b ∷ bytes;
      more = c ∷ word;
      whole = refl;
      left_is = omega (arith, is);
      begins = refl;
    }

-- up to a fault the bytes are the beginning of the word
pub word_parts : (word bytes : List ℕ) (left : ℕ) → after_word word bytes ≡ Err left
    → Parts bytes word left
unfolding after_word
word_parts [] bytes left e = let no : ⊥ = cc in absurd no
word_parts (c ∷ word) [] left e =
    let is : 0 ≡ left = cc in
    record {
      front = [];
      rest = [];
      more = c ∷ word;
      whole = refl;
      left_is = omega (arith, is);
      begins = refl;
    }
word_parts (c ∷ word) (b ∷ bytes) left e =
    letter_parts (nat_eq b c) b c word bytes (after_word word bytes) left refl
    (word_parts word bytes left) e

letter_local : (t : Bool) (read other : Result (List ℕ) ℕ) (here there : ℕ) (left more : ℕ)
    → (here ≡ left → there ≡ more) → (read ≡ Err left → other ≡ Err more)
    → (if t then read else Err here) ≡ Err left → (if t then other else Err there) ≡ Err more
letter_local true read other here there left more same next e = next e
letter_local false read other here there left more same next e =
    let is : here ≡ left = cc in ap Err (same is)

-- A fault stays where it is, whatever follows the byte at which it is.
pub word_local : (word front : List ℕ) (b : ℕ) (bad more : List ℕ)
    → after_word word (front ++ b ∷ bad) ≡ Err (suc (length bad))
    → after_word word (front ++ b ∷ more) ≡ Err (suc (length more))
unfolding after_word
word_local [] front b bad more e = let no : ⊥ = cc in absurd no
word_local (c ∷ word) [] b bad more e =
    letter_local (nat_eq b c) (after_word word bad) (after_word word more) (suc (length bad))
    (suc (length more)) (suc (length bad)) (suc (length more)) (λ same. refl)
    (λ inner. absurd (omega (arith, word_left word bad (suc (length bad)) inner))) e
word_local (c ∷ word) (f ∷ front) b bad more e =
    letter_local (nat_eq f c) (after_word word (front ++ b ∷ bad))
    (after_word word (front ++ b ∷ more)) (suc (length (front ++ b ∷ bad)))
    (suc (length (front ++ b ∷ more))) (suc (length bad)) (suc (length more))
    (λ same. absurd (omega (arith, same, length-append front (b ∷ bad))))
    (word_local word front b bad more) e
