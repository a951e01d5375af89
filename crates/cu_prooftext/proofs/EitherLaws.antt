-- What is said of a reader after a byte, beside another one.
use Rattle.std.proofs.Common.{◌≡◌, ℕ, Bool, true, false, List, [], ◌∷◌, ◌++◌, Result, Ok, Err, refl, ap, ap₂, sym, ◌∙◌, subst, ◌⊎◌, inl, inr, nat_eq, cond, eq-eqb, eqb-true}
use Rattle.cu_prooftext.specs.Inside.Readers.{Reader, either}
use Rattle.cu_prooftext.proofs.ReaderLaws.{Ends, Reads, Stopped, Took}

-- the bytes don't begin with this one
abbrev pub NotFirst : ℕ → List ℕ → Type 0
NotFirst b [] = Unit {0}
NotFirst b (c ∷ cs) = nat_eq c b ≡ false

pub record Sides {A : Type 0} (b : ℕ) (t u v : A → List ℕ) (G H K : A → Type 0) : Type 0 where
  pub side : (x : A) → K x → (G x × (v x ≡ b ∷ t x)) ⊎ (H x × (v x ≡ u x))
  pub left : (x : A) → G x → K x × (v x ≡ b ∷ t x)
  pub right : (x : A) → H x → K x × (v x ≡ u x)
  pub apart : (x : A) (rest : List ℕ) → H x → NotFirst b (u x ++ rest)

either_left : {A : Type 0} (b : ℕ) (r s : Reader A) (cs : List ℕ) → either b r s (b ∷ cs) ≡ r cs
either_left {A} b r s cs = ap (λ (t : Bool). let m : Result (A × List ℕ) ℕ = cond t (r cs) (s (b ∷ cs)) in m) (eq-eqb b b refl)

either_right : {A : Type 0} (b : ℕ) (r s : Reader A) (bytes : List ℕ) → NotFirst b bytes → either b r s bytes ≡ s bytes
either_right b r s [] h = refl
either_right {A} b r s (c ∷ cs) h = ap (λ (t : Bool). let m : Result (A × List ℕ) ℕ = cond t (r cs) (s (c ∷ cs)) in m) h

first_alike : (b : ℕ) (front : List ℕ) (d : ℕ) (ds others : List ℕ) → NotFirst b (front ++ d ∷ ds) → NotFirst b (front ++ d ∷ others)
first_alike b [] d ds others h = h
first_alike b (f ∷ fs) d ds others h = h

either_again : {A : Type 0} (stop : ℕ → Bool) (b : ℕ) (r s : Reader A) (t u v : A → List ℕ) (G H K : A → Type 0) → Reads stop r t G → Reads stop s u H → Sides b t u v G H K
    → (x : A) (rest : List ℕ) → K x → Ends stop rest → either b r s (v x ++ rest) ≡ Ok (x, rest)
either_again stop b r s t u v G H K first second sides x rest k e =
    elim (sides.side x k) [
      | inl h ↦ ap (λ (z : List ℕ). either b r s (z ++ rest)) h.1 ∙ either_left b r s (t x ++ rest) ∙ first.again x rest h.0 e
      | inr h ↦ ap (λ (z : List ℕ). either b r s (z ++ rest)) h.1 ∙ either_right b r s (u x ++ rest) (sides.apart x rest h.0) ∙ second.again x rest h.0 e
    ]

right_takes : {A : Type 0} (stop : ℕ → Bool) (b : ℕ) (r s : Reader A) (t u v : A → List ℕ) (G H K : A → Type 0) → Reads stop s u H → Sides b t u v G H K
    → (bytes : List ℕ) (x : A) (rest : List ℕ) → s bytes ≡ Ok (x, rest) → Took (either b r s) v K bytes x rest
right_takes stop b r s t u v G H K second sides bytes x rest e =
    let a = second.takes bytes x rest e in
    let is = sides.right x a.good in
    record {
      splits = a.splits ∙ ap (λ (z : List ℕ). z ++ rest) (sym is.1);
      good = is.0;
      alike = λ c cs others i.
          ap (λ (z : List ℕ). either b r s (z ++ c ∷ others)) is.1
          ∙ either_right b r s (u x ++ c ∷ others) (sides.apart x (c ∷ others) a.good) ∙ a.alike c cs others i;
    }

either_takes_at : {A : Type 0} (stop : ℕ → Bool) (b : ℕ) (r s : Reader A) (t u v : A → List ℕ) (G H K : A → Type 0) → Reads stop r t G → Reads stop s u H → Sides b t u v G H K
    → (c : ℕ) (cs : List ℕ) (x : A) (rest : List ℕ) (o : Bool) → nat_eq c b ≡ o → cond o (r cs) (s (c ∷ cs)) ≡ Ok (x, rest) → Took (either b r s) v K (c ∷ cs) x rest
either_takes_at stop b r s t u v G H K first second sides c cs x rest true h e =
    let a = first.takes cs x rest e in
    let is = sides.left x a.good in
    record {
      splits = ap₂ (λ (z : ℕ) (zs : List ℕ). z ∷ zs) (eqb-true c b h) a.splits ∙ ap (λ (z : List ℕ). z ++ rest) (sym is.1);
      good = is.0;
      alike = λ d ds others i.
          ap (λ (z : List ℕ). either b r s (z ++ d ∷ others)) is.1 ∙ either_left b r s (t x ++ d ∷ others) ∙ a.alike d ds others i;
    }
either_takes_at stop b r s t u v G H K first second sides c cs x rest false h e = right_takes stop b r s t u v G H K second sides (c ∷ cs) x rest e

either_takes : {A : Type 0} (stop : ℕ → Bool) (b : ℕ) (r s : Reader A) (t u v : A → List ℕ) (G H K : A → Type 0) → Reads stop r t G → Reads stop s u H → Sides b t u v G H K
    → (bytes : List ℕ) (x : A) (rest : List ℕ) → either b r s bytes ≡ Ok (x, rest) → Took (either b r s) v K bytes x rest
either_takes stop b r s t u v G H K first second sides [] x rest e = right_takes stop b r s t u v G H K second sides [] x rest e
either_takes stop b r s t u v G H K first second sides (c ∷ cs) x rest e = either_takes_at stop b r s t u v G H K first second sides c cs x rest (nat_eq c b) refl e

right_stops : {A : Type 0} (stop : ℕ → Bool) (b : ℕ) (r s : Reader A) (t u v : A → List ℕ) (G H K : A → Type 0) → Reads stop s u H → Sides b t u v G H K
    → (bytes : List ℕ) (n : ℕ) → NotFirst b bytes → s bytes ≡ Err n → Stopped (either b r s) v K bytes n
right_stops stop b r s t u v G H K second sides bytes n h e =
    let st = second.stops bytes n e in
    let is = sides.right st.whole st.good in
    record {
      front = st.front;
      back = st.back;
      splits = st.splits;
      left = st.left;
      whole = st.whole;
      good = is.0;
      more = st.more;
      begun = is.1 ∙ st.begun;
      wrong = λ d ds others i.
          either_right b r s (st.front ++ d ∷ others)
          (first_alike b st.front d ds others (subst (NotFirst b) (st.splits ∙ ap (λ (z : List ℕ). st.front ++ z) i) h))
          ∙ st.wrong d ds others i;
    }

either_stops_at : {A : Type 0} (stop : ℕ → Bool) (b : ℕ) (r s : Reader A) (t u v : A → List ℕ) (G H K : A → Type 0) → Reads stop r t G → Reads stop s u H → Sides b t u v G H K
    → (c : ℕ) (cs : List ℕ) (n : ℕ) (o : Bool) → nat_eq c b ≡ o → cond o (r cs) (s (c ∷ cs)) ≡ Err n → Stopped (either b r s) v K (c ∷ cs) n
either_stops_at stop b r s t u v G H K first second sides c cs n true h e =
    let st = first.stops cs n e in
    let is = sides.left st.whole st.good in
    let same : c ≡ b = eqb-true c b h in
    record {
      front = b ∷ st.front;
      back = st.back;
      splits = ap₂ (λ (z : ℕ) (zs : List ℕ). z ∷ zs) same st.splits;
      left = st.left;
      whole = st.whole;
      good = is.0;
      more = st.more;
      begun = is.1 ∙ ap (λ (z : List ℕ). b ∷ z) st.begun;
      wrong = λ d ds others i. either_left b r s (st.front ++ d ∷ others) ∙ st.wrong d ds others i;
    }
either_stops_at stop b r s t u v G H K first second sides c cs n false h e = right_stops stop b r s t u v G H K second sides (c ∷ cs) n h e

either_stops : {A : Type 0} (stop : ℕ → Bool) (b : ℕ) (r s : Reader A) (t u v : A → List ℕ) (G H K : A → Type 0) → Reads stop r t G → Reads stop s u H → Sides b t u v G H K
    → (bytes : List ℕ) (n : ℕ) → either b r s bytes ≡ Err n → Stopped (either b r s) v K bytes n
either_stops stop b r s t u v G H K first second sides [] n e = right_stops stop b r s t u v G H K second sides [] n tt e
either_stops stop b r s t u v G H K first second sides (c ∷ cs) n e = either_stops_at stop b r s t u v G H K first second sides c cs n (nat_eq c b) refl e

pub either_reads : {A : Type 0} (stop : ℕ → Bool) (b : ℕ) (r s : Reader A) (t u v : A → List ℕ) (G H K : A → Type 0) → Reads stop r t G → Reads stop s u H → Sides b t u v G H K
    → Reads stop (either b r s) v K
either_reads stop b r s t u v G H K first second sides = record {
  again = either_again stop b r s t u v G H K first second sides;
  takes = either_takes stop b r s t u v G H K first second sides;
  stops = either_stops stop b r s t u v G H K first second sides;
  some = first.some;
  is_some = (sides.left first.some first.is_some).0;
}
