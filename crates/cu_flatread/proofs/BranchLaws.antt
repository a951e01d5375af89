-- What is said of one reader where a byte comes first, and another one where it doesn't.
use Rattle.std.proofs.Common.{◌≡◌, ℕ, Bool, true, false, List, [], ◌∷◌, ◌++◌, Err, if◌then◌else◌, length, refl, ap, sym, ◌∙◌, ◌⊎◌, inl, inr}
use Rattle.cu_flatread.proofs.DecimalLemmas.{given}
use Rattle.cu_flatread.proofs.ReaderLaws.{Ends, Reader, Reads, Stopped, Took}
use Rattle.cu_flatread.specs.Inside.Words.{Read, is_at}

-- only the first byte matters
first_same : (b : ℕ) (front : List ℕ) (c : ℕ) (cs others : List ℕ)
    → is_at b (front ++ c ∷ others) ≡ is_at b (front ++ c ∷ cs)
first_same b [] c cs others = refl
first_same b (f ∷ front) c cs others = refl

abbrev failing : {A : Type 0} → ℕ → Read A
failing k = Err k

module _ {A : Type 0} (b : ℕ) (r s : Reader A) where
  abbrev pub either : Reader A
  either bytes = if is_at b bytes then r bytes else s bytes

  pub either_left : (bytes : List ℕ) → is_at b bytes ≡ true → either bytes ≡ r bytes
  either_left bytes h = ap (λ (t : Bool). if t then r bytes else s bytes) h

  pub either_right : (bytes : List ℕ) → is_at b bytes ≡ false → either bytes ≡ s bytes
  either_right bytes h = ap (λ (t : Bool). if t then r bytes else s bytes) h

  still : (bytes front back : List ℕ) (c : ℕ) (cs others : List ℕ) (t : Bool)
      → bytes ≡ front ++ back → back ≡ c ∷ cs → is_at b bytes ≡ t
      → is_at b (front ++ c ∷ others) ≡ t
  still bytes front back c cs others t splits i h =
      first_same b front c cs others ∙ ap (λ z. is_at b (front ++ z)) (sym i)
      ∙ ap (is_at b) (sym splits) ∙ h

module _ {A : Type 0} (stop : ℕ → Bool) (b : ℕ) (r s : Reader A) (v : A → List ℕ)
    (G H : A → Type 0) (left : Reads stop r v G) (right : Reads stop s v H)
    (first : (x : A) (rest : List ℕ) → G x → is_at b (v x ++ rest) ≡ true)
    (other : (x : A) (rest : List ℕ) → H x → is_at b (v x ++ rest) ≡ false) where
  abbrev Side : A → Type 0
  Side x = G x ⊎ H x

  either_again : (x : A) (rest : List ℕ) → Side x → Ends stop rest
      → either b r s (v x ++ rest) ≡ given x rest
  either_again x rest (inl g) e =
      either_left b r s (v x ++ rest) (first x rest g) ∙ left.again x rest g e
  either_again x rest (inr h) e =
      either_right b r s (v x ++ rest) (other x rest h) ∙ right.again x rest h e

  either_takes : (t : Bool) (bytes : List ℕ) (x : A) (rest : List ℕ) → is_at b bytes ≡ t
      → either b r s bytes ≡ given x rest → Took (either b r s) v Side bytes x rest
  either_takes true bytes x rest is e =
      let a = left.takes bytes x rest (sym (either_left b r s bytes is) ∙ e) in
      record {
        splits = a.splits;
        good = inl a.good;
        alike = λ c cs others i.
            either_left b r s (v x ++ c ∷ others) (first x (c ∷ others) a.good)
            ∙ a.alike c cs others i;
      }
  either_takes false bytes x rest is e =
      let a = right.takes bytes x rest (sym (either_right b r s bytes is) ∙ e) in
      record {
        splits = a.splits;
        good = inr a.good;
        alike = λ c cs others i.
            either_right b r s (v x ++ c ∷ others) (other x (c ∷ others) a.good)
            ∙ a.alike c cs others i;
      }

  either_stops : (t : Bool) (bytes : List ℕ) (n : ℕ) → is_at b bytes ≡ t
      → either b r s bytes ≡ Err n → Stopped (either b r s) v Side bytes n
  either_stops true bytes n is e =
      let st = left.stops bytes n (sym (either_left b r s bytes is) ∙ e) in
      record {
        front = st.front;
        back = st.back;
        splits = st.splits;
        left = st.left;
        whole = st.whole;
        good = inl st.good;
        more = st.more;
        begun = st.begun;
        wrong = λ c cs others i.
            either_left b r s (st.front ++ c ∷ others)
            (still b r s bytes st.front st.back c cs others true st.splits i is)
            ∙ st.wrong c cs others i;
      }
  either_stops false bytes n is e =
      let st = right.stops bytes n (sym (either_right b r s bytes is) ∙ e) in
      record {
        front = st.front;
        back = st.back;
        splits = st.splits;
        left = st.left;
        whole = st.whole;
        good = inr st.good;
        more = st.more;
        begun = st.begun;
        wrong = λ c cs others i.
            either_right b r s (st.front ++ c ∷ others)
            (still b r s bytes st.front st.back c cs others false st.splits i is)
            ∙ st.wrong c cs others i;
      }

  pub either_reads : Reads stop (either b r s) v Side
  either_reads = record {
    again = either_again;
    takes = λ bytes x rest e. either_takes (is_at b bytes) bytes x rest refl e;
    stops = λ bytes n e. either_stops (is_at b bytes) bytes n refl e;
    some = left.some;
    is_some = inl left.is_some;
  }

-- the same, where the other reader reads nothing at all
module _ {A : Type 0} (stop : ℕ → Bool) (b : ℕ) (r s : Reader A) (v : A → List ℕ)
    (G : A → Type 0) (left : Reads stop r v G)
    (first : (x : A) (rest : List ℕ) → G x → is_at b (v x ++ rest) ≡ true)
    (fails : (bytes : List ℕ) → s bytes ≡ Err (length bytes)) where
  only_takes : (t : Bool) (bytes : List ℕ) (x : A) (rest : List ℕ) → is_at b bytes ≡ t
      → either b r s bytes ≡ given x rest → Took (either b r s) v G bytes x rest
  only_takes true bytes x rest is e =
      let a = left.takes bytes x rest (sym (either_left b r s bytes is) ∙ e) in
      record {
        splits = a.splits;
        good = a.good;
        alike = λ c cs others i.
            either_left b r s (v x ++ c ∷ others) (first x (c ∷ others) a.good)
            ∙ a.alike c cs others i;
      }
  only_takes false bytes x rest is e =
      let no : failing {A = A} (length bytes) ≡ given x rest =
      sym (fails bytes) ∙ sym (either_right b r s bytes is) ∙ e in
      let never : ⊥ = cc in absurd never

  only_stops : (t : Bool) (bytes : List ℕ) (n : ℕ) → is_at b bytes ≡ t
      → either b r s bytes ≡ Err n → Stopped (either b r s) v G bytes n
  only_stops true bytes n is e =
      let st = left.stops bytes n (sym (either_left b r s bytes is) ∙ e) in
      record {
        front = st.front;
        back = st.back;
        splits = st.splits;
        left = st.left;
        whole = st.whole;
        good = st.good;
        more = st.more;
        begun = st.begun;
        wrong = λ c cs others i.
            either_left b r s (st.front ++ c ∷ others)
            (still b r s bytes st.front st.back c cs others true st.splits i is)
            ∙ st.wrong c cs others i;
      }
  only_stops false bytes n is e =
      let same : failing {A = A} (length bytes) ≡ failing {A = A} n =
      sym (fails bytes) ∙ sym (either_right b r s bytes is) ∙ e in
      let left_is : length bytes ≡ n = cc in
      record {
        front = [];
        back = bytes;
        splits = refl;
        left = left_is;
        whole = left.some;
        good = left.is_some;
        more = v left.some;
        begun = refl;
        wrong = λ c cs others i.
            either_right b r s (c ∷ others)
            (still b r s bytes [] bytes c cs others false refl i is)
            ∙ fails (c ∷ others);
      }

  pub only_reads : Reads stop (either b r s) v G
  only_reads = record {
    again = λ x rest g e.
        either_left b r s (v x ++ rest) (first x rest g) ∙ left.again x rest g e;
    takes = λ bytes x rest e. only_takes (is_at b bytes) bytes x rest refl e;
    stops = λ bytes n e. only_stops (is_at b bytes) bytes n refl e;
    some = left.some;
    is_some = left.is_some;
  }
