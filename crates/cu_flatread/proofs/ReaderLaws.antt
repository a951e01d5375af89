-- What is said of a reader and of the texts that it reads, and how it is said of readers that are
-- put together step by step.
use Rattle.std.proofs.Common.{◌≡◌, ℕ, suc, Bool, true, not, List, [], ◌∷◌, ◌++◌, Result, Ok, Err, length, refl, ap, sym, ◌∙◌, subst, append_assoc, ◌⊎◌, inl, inr}
use Rattle.cu_flatread.proofs.DecimalLemmas.{given, given_is}
use Rattle.cu_flatread.proofs.WordLemmas.{Parts, word_again, word_local, word_parts, word_sound}
use Rattle.cu_flatread.specs.Inside.Numbers.{is_digit}
use Rattle.cu_flatread.specs.Inside.Words.{Read, ◌>>=◌, after_word}

abbrev pub Reader : Type 0 → Type 0
Reader A = List ℕ → Read A

-- ---- what is said of a reader

-- the bytes end, or go on with a byte at which a part may stop
abbrev pub Ends : (ℕ → Bool) → List ℕ → Type 0
Ends stop [] = Unit {0}
Ends stop (b ∷ bs) = stop b ≡ true

-- a number stops where no digit follows
abbrev pub no_digit : ℕ → Bool
no_digit b = not (is_digit b)

-- a part may stop anywhere
abbrev pub always : ℕ → Bool
always b = true

pub ends_always : (bs : List ℕ) → Ends always bs
ends_always [] = tt
ends_always (b ∷ bs) = refl

-- The bytes begin with the text of what was read, and the same is read from them however they go on
-- after the next byte.
pub record Took {A : Type 0} (r : Reader A) (text : A → List ℕ) (Good : A → Type 0)
    (bytes : List ℕ) (x : A) (rest : List ℕ) : Type 0 where
  pub splits : bytes ≡ text x ++ rest
  pub good : Good x
  pub alike : (b : ℕ) (bs others : List ℕ) → rest ≡ b ∷ bs
      → r (text x ++ b ∷ others) ≡ given x (b ∷ others)

-- The bytes begin with the beginning of a text, and no text goes on with the byte after it.
pub record Stopped {A : Type 0} (r : Reader A) (text : A → List ℕ) (Good : A → Type 0)
    (bytes : List ℕ) (n : ℕ) : Type 0 where
  pub front : List ℕ
  pub back : List ℕ
  pub splits : bytes ≡ front ++ back
  pub left : length back ≡ n
  pub whole : A
  pub good : Good whole
  pub more : List ℕ
  pub begun : text whole ≡ front ++ more
  pub wrong : (b : ℕ) (bs others : List ℕ) → back ≡ b ∷ bs
      → r (front ++ b ∷ others) ≡ Err (length (b ∷ others))

-- A reader reads the texts of what is good, takes nothing else, and stops at the first byte at fault.
pub record Reads {A : Type 0} (stop : ℕ → Bool) (r : Reader A) (text : A → List ℕ)
    (Good : A → Type 0) : Type 0 where
  pub again : (x : A) (rest : List ℕ) → Good x → Ends stop rest
      → r (text x ++ rest) ≡ given x rest
  pub takes : (bytes : List ℕ) (x : A) (rest : List ℕ) → r bytes ≡ given x rest
      → Took r text Good bytes x rest
  pub stops : (bytes : List ℕ) (n : ℕ) → r bytes ≡ Err n → Stopped r text Good bytes n
  pub some : A
  pub is_some : Good some

-- ---- what comes of two steps

pub bind_ok : {A B : Type 0} (m : Result A ℕ) (f : A → Result B ℕ) (y : B) → (m >>= f) ≡ Ok y
    → (x : A) × (m ≡ Ok x) × (f x ≡ Ok y)
bind_ok (Ok x) f y e = (x, refl, e)
bind_ok (Err n) f y e = let never : ⊥ = cc in absurd never

pub bind_err : {A B : Type 0} (m : Result A ℕ) (f : A → Result B ℕ) (n : ℕ) → (m >>= f) ≡ Err n
    → (m ≡ Err n) ⊎ ((x : A) × (m ≡ Ok x) × (f x ≡ Err n))
bind_err (Ok x) f n e = inr (x, refl, e)
bind_err {A} {B} (Err k) f n e =
    let same : k ≡ n = cc in inl (ap (λ (j : ℕ). let m : Result A ℕ = Err j in m) same)

pub bind_at : {A B : Type 0} (m : Result A ℕ) (f : A → Result B ℕ) (x : A) → m ≡ Ok x
    → (m >>= f) ≡ f x
bind_at {A} m f x e = ap (λ (k : Result A ℕ). k >>= f) e

pub bind_fails : {A B : Type 0} (m : Result A ℕ) (f : A → Result B ℕ) (n : ℕ) → m ≡ Err n
    → (m >>= f) ≡ Err n
bind_fails {A} m f n e = ap (λ (k : Result A ℕ). k >>= f) e

-- what is read is read again, however the bytes go on
pub alike_on : {A : Type 0} (r : Reader A) (t : A → List ℕ) (G : A → Type 0) (bytes : List ℕ) (x : A)
    (rest : List ℕ) → Took r t G bytes x rest → (front : List ℕ) (b : ℕ) (bs others : List ℕ)
    → rest ≡ front ++ b ∷ bs → r (t x ++ (front ++ b ∷ others)) ≡ given x (front ++ b ∷ others)
alike_on r t G bytes x rest took [] b bs others e = took.alike b bs others e
alike_on r t G bytes x rest took (f ∷ fs) b bs others e =
    took.alike f (fs ++ b ∷ bs) (fs ++ b ∷ others) e

-- ---- nothing more is read

pub done_reads : {B : Type 0} (last : ℕ → Bool) (z : B)
    → Reads last (λ bytes. given z bytes) (λ (y : B). []) (λ (y : B). y ≡ z)
done_reads last z = record {
  again = λ y rest g ends. ap (λ w. given w rest) (sym g);
  takes = λ bytes y rest e.
      let same = given_is z y bytes rest e in
      record {
        splits = same.1;
        good = sym same.0;
        alike = λ b bs others i. ap (λ w. given w (b ∷ others)) same.0;
      };
  stops = λ bytes n e. let never : ⊥ = cc in absurd never;
  some = z;
  is_some = refl;
}

-- ---- a word

module _ {B : Type 0} (last : ℕ → Bool) (w : List ℕ) (s : Reader B) (u : B → List ℕ)
    (H : B → Type 0) (second : Reads last s u H) where
  abbrev worded : Reader B
  worded bytes = after_word w bytes >>= s

  word_step_again : (y : B) (rest : List ℕ) → H y → Ends last rest
      → worded ((w ++ u y) ++ rest) ≡ given y rest
  word_step_again y rest g ends =
      ap worded (append_assoc w (u y) rest)
      ∙ bind_at (after_word w (w ++ (u y ++ rest))) s (u y ++ rest) (word_again w (u y ++ rest))
      ∙ second.again y rest g ends

  word_step_takes : (bytes : List ℕ) (y : B) (rest : List ℕ) → worded bytes ≡ given y rest
      → Took worded (λ z. w ++ u z) H bytes y rest
  word_step_takes bytes y rest e =
      let one = bind_ok (after_word w bytes) s (y, rest) e in
      let b = second.takes one.0 y rest one.2 in
      record {
        splits = word_sound w bytes one.0 one.1 ∙ ap (λ z. w ++ z) b.splits
            ∙ sym (append_assoc w (u y) rest);
        good = b.good;
        alike = λ c cs others i.
            ap worded (append_assoc w (u y) (c ∷ others))
            ∙ bind_at (after_word w (w ++ (u y ++ c ∷ others))) s (u y ++ c ∷ others)
            (word_again w (u y ++ c ∷ others))
            ∙ b.alike c cs others i;
      }

  word_wrong : (bytes : List ℕ) (n : ℕ) → after_word w bytes ≡ Err n → (p : Parts bytes w n)
      → (b : ℕ) (bs others : List ℕ) → p.rest ≡ b ∷ bs
      → after_word w (p.front ++ b ∷ others) ≡ Err (length (b ∷ others))
  word_wrong bytes n h p b bs others i =
      let is : bytes ≡ p.front ++ b ∷ bs = p.whole ∙ ap (λ z. p.front ++ z) i in
      let left : n ≡ suc (length bs) = sym p.left_is ∙ ap length i in
      let here : after_word w (p.front ++ b ∷ bs) ≡ Err (suc (length bs)) =
      ap (after_word w) (sym is) ∙ h ∙ ap (λ k. Err k) left in
      word_local w p.front b bs others here

  word_step_stops : (bytes : List ℕ) (n : ℕ) → worded bytes ≡ Err n
      → Stopped worded (λ z. w ++ u z) H bytes n
  word_step_stops bytes n e =
      elim (bind_err (after_word w bytes) s n e) [
        | inl h ↦
            let p = word_parts w bytes n h in
            record {
              front = p.front;
              back = p.rest;
              splits = p.whole;
              left = p.left_is;
              whole = second.some;
              good = second.is_some;
              more = p.more ++ u second.some;
              begun = ap (λ z. z ++ u second.some) p.begins
                  ∙ append_assoc p.front p.more (u second.some);
              wrong = λ b bs others i.
                  bind_fails (after_word w (p.front ++ b ∷ others)) s (length (b ∷ others))
                  (word_wrong bytes n h p b bs others i);
            }
        | inr h ↦
            let st = second.stops h.0 n h.2 in
            record {
              front = w ++ st.front;
              back = st.back;
              splits = word_sound w bytes h.0 h.1 ∙ ap (λ z. w ++ z) st.splits
                  ∙ sym (append_assoc w st.front st.back);
              left = st.left;
              whole = st.whole;
              good = st.good;
              more = st.more;
              begun = ap (λ z. w ++ z) st.begun ∙ sym (append_assoc w st.front st.more);
              wrong = λ b bs others i.
                  ap worded (append_assoc w st.front (b ∷ others))
                  ∙ bind_at (after_word w (w ++ (st.front ++ b ∷ others))) s (st.front ++ b ∷ others)
                  (word_again w (st.front ++ b ∷ others))
                  ∙ st.wrong b bs others i;
            }
      ]

  pub word_reads : Reads last worded (λ y. w ++ u y) H
  word_reads = record {
    again = word_step_again;
    takes = word_step_takes;
    stops = word_step_stops;
    some = second.some;
    is_some = second.is_some;
  }

-- ---- a part, and what comes after it

module _ {A B : Type 0} (stop last : ℕ → Bool) (r : Reader A) (s : A → Reader B)
    (t : A → List ℕ) (u : A → B → List ℕ) (G : A → Type 0) (H : A → B → Type 0) (of : B → A)
    (first : Reads stop r t G) (second : (x : A) → G x → Reads last (s x) (u x) (H x))
    (exact : (x : A) (y : B) → G x → H x y → of y ≡ x)
    (apart : (x : A) (y : B) (rest : List ℕ) → G x → H x y → Ends last rest
    → Ends stop (u x y ++ rest)) where
  abbrev joint : Reader B
  joint bytes = r bytes >>= λ p. s p.0 p.1

  abbrev joint_text : B → List ℕ
  joint_text y = t (of y) ++ u (of y) y

  abbrev JointGood : B → Type 0
  JointGood y = G (of y) × H (of y) y

  part_again : (y : B) (rest : List ℕ) → JointGood y → Ends last rest
      → joint (joint_text y ++ rest) ≡ given y rest
  part_again y rest g ends =
      let x = of y in
      ap joint (append_assoc (t x) (u x y) rest)
      ∙ bind_at (r (t x ++ (u x y ++ rest))) (λ p. s p.0 p.1) (x, u x y ++ rest)
      (first.again x (u x y ++ rest) g.0 (apart x y rest g.0 g.1 ends))
      ∙ (second x g.0).again y rest g.1 ends

  part_takes : (bytes : List ℕ) (y : B) (rest : List ℕ) → joint bytes ≡ given y rest
      → Took joint joint_text JointGood bytes y rest
  part_takes bytes y rest e =
      let one = bind_ok (r bytes) (λ p. s p.0 p.1) (y, rest) e in
      let x = one.0.0 in
      let q = one.0.1 in
      let a = first.takes bytes x q one.1 in
      let b = (second x a.good).takes q y rest one.2 in
      let is : of y ≡ x = exact x y a.good b.good in
      record {
        splits = a.splits ∙ ap (λ z. t x ++ z) b.splits ∙ sym (append_assoc (t x) (u x y) rest)
            ∙ ap (λ z. (t z ++ u z y) ++ rest) (sym is);
        good = subst (λ (z : A). G z × H z y) (sym is) (a.good, b.good);
        alike = λ c cs others i.
            ap (λ z. joint ((t z ++ u z y) ++ c ∷ others)) is
            ∙ ap joint (append_assoc (t x) (u x y) (c ∷ others))
            ∙ bind_at (r (t x ++ (u x y ++ c ∷ others))) (λ p. s p.0 p.1) (x, u x y ++ c ∷ others)
            (alike_on r t G bytes x q a (u x y) c cs others
            (b.splits ∙ ap (λ z. u x y ++ z) i))
            ∙ b.alike c cs others i;
      }

  part_stops : (bytes : List ℕ) (n : ℕ) → joint bytes ≡ Err n
      → Stopped joint joint_text JointGood bytes n
  part_stops bytes n e =
      elim (bind_err (r bytes) (λ p. s p.0 p.1) n e) [
        | inl h ↦
            let st = first.stops bytes n h in
            let x = st.whole in
            let rest = second x st.good in
            let y = rest.some in
            let is : of y ≡ x = exact x y st.good rest.is_some in
            record {
              front = st.front;
              back = st.back;
              splits = st.splits;
              left = st.left;
              whole = y;
              good = subst (λ (z : A). G z × H z y) (sym is) (st.good, rest.is_some);
              more = st.more ++ u x y;
              begun = ap (λ z. t z ++ u z y) is ∙ ap (λ z. z ++ u x y) st.begun
                  ∙ append_assoc st.front st.more (u x y);
              wrong = λ b bs others i.
                  bind_fails (r (st.front ++ b ∷ others)) (λ p. s p.0 p.1) (length (b ∷ others))
                  (st.wrong b bs others i);
            }
        | inr h ↦
            let x = h.0.0 in
            let q = h.0.1 in
            let a = first.takes bytes x q h.1 in
            let st = (second x a.good).stops q n h.2 in
            let y = st.whole in
            let is : of y ≡ x = exact x y a.good st.good in
            record {
              front = t x ++ st.front;
              back = st.back;
              splits = a.splits ∙ ap (λ z. t x ++ z) st.splits
                  ∙ sym (append_assoc (t x) st.front st.back);
              left = st.left;
              whole = y;
              good = subst (λ (z : A). G z × H z y) (sym is) (a.good, st.good);
              more = st.more;
              begun = ap (λ z. t z ++ u z y) is ∙ ap (λ z. t x ++ z) st.begun
                  ∙ sym (append_assoc (t x) st.front st.more);
              wrong = λ b bs others i.
                  ap joint (append_assoc (t x) st.front (b ∷ others))
                  ∙ bind_at (r (t x ++ (st.front ++ b ∷ others))) (λ p. s p.0 p.1)
                  (x, st.front ++ b ∷ others)
                  (alike_on r t G bytes x q a st.front b bs others
                  (st.splits ∙ ap (λ z. st.front ++ z) i))
                  ∙ st.wrong b bs others i;
            }
      ]

  pub part_reads : Reads last joint joint_text JointGood
  part_reads =
      let y = (second first.some first.is_some).some in
      let h = (second first.some first.is_some).is_some in
      record {
        again = part_again;
        takes = part_takes;
        stops = part_stops;
        some = y;
        is_some =
            subst (λ (z : A). G z × H z y) (sym (exact first.some y first.is_some h)) (first.is_some, h);
      }

-- ---- readers by steps

-- The steps by which something is read: words, and its parts. What comes after a part may depend on
-- it.
pub data Steps (B : Type 0) : Type 1 where
  Done : B → Steps B
  Word : List ℕ → Steps B → Steps B
  Part : (A : Type 0) → (ℕ → Bool) → Reader A → (A → List ℕ) → (A → Type 0) → (B → A)
      → (A → Steps B) → Steps B

-- what steps read
abbrev pub run : {B : Type 0} → Steps B → Reader B
run (Done z) bytes = Ok (z, bytes)
run (Word w k) bytes = after_word w bytes >>= run k
run (Part A stop r t G of k) bytes = r bytes >>= λ x. run (k x.0) x.1

-- the text of what they read
abbrev pub text_by : {B : Type 0} → Steps B → B → List ℕ
text_by (Done z) y = []
text_by (Word w k) y = w ++ text_by k y
text_by (Part A stop r t G of k) y = t (of y) ++ text_by (k (of y)) y

-- the steps read this
abbrev pub Fits : {B : Type 0} → Steps B → B → Type 0
Fits (Done z) y = y ≡ z
Fits (Word w k) y = Fits k y
Fits (Part A stop r t G of k) y = G (of y) × Fits (k (of y)) y

-- the parts are read, are parts of what is read, and stop where the next one begins
abbrev pub Fine : {B : Type 0} → Steps B → Type 0
Fine (Done z) = Unit {0}
Fine (Word w k) = Fine k
Fine {B} (Part A stop r t G of k) =
    Reads stop r t G × ((x : A) → G x → Fine (k x))
    × ((x : A) (y : B) → G x → Fits (k x) y → of y ≡ x)
    × (((b : ℕ) → stop b ≡ true)
    ⊎ ((x : A) (y : B) (rest : List ℕ) → G x → Fits (k x) y → Ends no_digit rest
    → Ends stop (text_by (k x) y ++ rest)))

ends_anywhere : (stop : ℕ → Bool) → ((b : ℕ) → stop b ≡ true) → (bs : List ℕ) → Ends stop bs
ends_anywhere stop all [] = tt
ends_anywhere stop all (b ∷ bs) = all b

-- what comes after a part lets it stop
apart_by : {A B : Type 0} (stop : ℕ → Bool) (G : A → Type 0) (k : A → Steps B)
    → ((b : ℕ) → stop b ≡ true)
    ⊎ ((x : A) (y : B) (rest : List ℕ) → G x → Fits (k x) y → Ends no_digit rest
    → Ends stop (text_by (k x) y ++ rest))
    → (x : A) (y : B) (rest : List ℕ) → G x → Fits (k x) y → Ends no_digit rest
    → Ends stop (text_by (k x) y ++ rest)
apart_by stop G k (inl all) x y rest g h ends =
    ends_anywhere stop all (text_by (k x) y ++ rest)
apart_by stop G k (inr some) x y rest g h ends = some x y rest g h ends

pub steps_read : {B : Type 0} (k : Steps B) → Fine k → Reads no_digit (run k) (text_by k) (Fits k)
steps_read (Done z) fine = done_reads no_digit z
steps_read (Word w k) fine =
    word_reads no_digit w (run k) (text_by k) (Fits k) (steps_read k fine)
steps_read (Part A stop r t G of k) fine =
    part_reads stop no_digit r (λ x. run (k x)) t (λ x. text_by (k x)) G (λ x. Fits (k x)) of fine.0
    (λ x g. steps_read (k x) (fine.1 x g)) fine.2 (apart_by stop G k fine.3)

-- ---- the same said otherwise

pub same_reads : {A : Type 0} (stop : ℕ → Bool) (r : Reader A) (t u : A → List ℕ)
    (G H : A → Type 0) → Reads stop r t G → ((x : A) → H x → G x × (u x ≡ t x))
    → ((x : A) → G x → H x × (u x ≡ t x)) → Reads stop r u H
same_reads stop r t u G H reads from into = record {
  again = λ x rest h ends.
      ap (λ z. r (z ++ rest)) (from x h).1 ∙ reads.again x rest (from x h).0 ends;
  takes = λ bytes x rest e.
      let a = reads.takes bytes x rest e in
      let is = into x a.good in
      record {
        splits = a.splits ∙ ap (λ z. z ++ rest) (sym is.1);
        good = is.0;
        alike = λ b bs others i.
            ap (λ z. r (z ++ b ∷ others)) is.1 ∙ a.alike b bs others i;
      };
  stops = λ bytes n e.
      let st = reads.stops bytes n e in
      let is = into st.whole st.good in
      record {
        front = st.front;
        back = st.back;
        splits = st.splits;
        left = st.left;
        whole = st.whole;
        good = is.0;
        more = st.more;
        begun = is.1 ∙ st.begun;
        wrong = st.wrong;
      };
  some = reads.some;
  is_some = (into reads.some reads.is_some).0;
}

pub reader_same : {A : Type 0} (stop : ℕ → Bool) (r s : Reader A) (t : A → List ℕ)
    (G : A → Type 0) → ((bytes : List ℕ) → r bytes ≡ s bytes) → Reads stop r t G
    → Reads stop s t G
reader_same {A} stop r s t G same reads =
    subst (λ (z : Reader A). Reads stop z t G) (λ i bytes. same bytes i) reads

-- what stops anywhere stops there too
pub stops_there : {A : Type 0} (stop : ℕ → Bool) (r : Reader A) (t : A → List ℕ)
    (G : A → Type 0) → Reads always r t G → Reads stop r t G
stops_there stop r t G reads = record {
  again = λ x rest g ends. reads.again x rest g (ends_always rest);
  takes = reads.takes;
  stops = reads.stops;
  some = reads.some;
  is_some = reads.is_some;
}

-- reading takes bytes away
pub reads_shorten : {A : Type 0} (stop : ℕ → Bool) (r : Reader A) (t : A → List ℕ)
    (G : A → Type 0) → Reads stop r t G → (bytes : List ℕ) (x : A) (rest : List ℕ)
    → r bytes ≡ given x rest → bytes ≡ t x ++ rest
reads_shorten stop r t G reads bytes x rest e = (reads.takes bytes x rest e).splits
