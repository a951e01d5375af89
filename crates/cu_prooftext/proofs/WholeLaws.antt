-- What is said of reading whole texts: what is read has that text, which is read again, and a fault
-- is the first one.
use Rattle.std.proofs.Common.{◌≡◌, ℕ, suc, ◌+◌, ◌-◌, ◌<◌, ◌≤◌, List, [], ◌∷◌, ◌++◌, Ok, Err, length, refl, ap, sym, ◌∙◌, subst, append_assoc, append-nil, arith, take, inl, inr, length-append}
use Rattle.cu_prooftext.specs.Faults.{IsFault, IsPrefix}
use Rattle.cu_prooftext.specs.Inside.Lines.{alone, read_alone}
use Rattle.cu_prooftext.specs.Inside.Readers.{Reader}
use Rattle.cu_prooftext.proofs.ReaderLaws.{Reads, Stopped, Took, always, bind_at, bind_err, bind_fails, bind_ok}

-- the bytes are the text of something good
abbrev pub HasText : {A : Type 0} → (A → List ℕ) → (A → Type 0) → List ℕ → Type 0
HasText {A} text Good bytes = (x : A) × Good x × (bytes ≡ text x)

alone_ok : {A : Type 0} (p : A × List ℕ) (x : A) → alone p ≡ Ok x → (p.0 ≡ x) × (p.1 ≡ [])
alone_ok (y, []) x e = let same : y ≡ x = cc e in (same, refl)
alone_ok (y, b ∷ bs) x e = let never : ⊥ = cc e in absurd never

-- what is read has this text
pub read_has : {A : Type 0} (r : Reader A) (text : A → List ℕ) (Good : A → Type 0) → Reads always r text Good
    → (bytes : List ℕ) (x : A) → read_alone r bytes ≡ Ok x → Good x × (bytes ≡ text x)
read_has {A} r text Good reads bytes x e =
    let one = bind_ok (r bytes) alone x e in
    let p = one.0 in
    let is = alone_ok p x one.2 in
    let a = reads.takes bytes p.0 p.1 one.1 in
    (subst Good is.0 a.good, a.splits ∙ ap (λ (z : List ℕ). text p.0 ++ z) is.1 ∙ append-nil (text p.0) ∙ ap text is.0)

-- what has a text is read from it
pub read_again : {A : Type 0} (r : Reader A) (text : A → List ℕ) (Good : A → Type 0) → Reads always r text Good
    → (bytes : List ℕ) (x : A) → Good x → bytes ≡ text x → read_alone r bytes ≡ Ok x
read_again r text Good reads bytes x g e =
    ap (read_alone r) (e ∙ sym (append-nil (text x))) ∙ bind_at (r (text x ++ [])) alone (x, []) (reads.again x [] g tt)

take_front : (front back : List ℕ) → take (length front) (front ++ back) ≡ front
take_front [] back = refl
take_front (f ∷ fs) back = ap (λ (z : List ℕ). f ∷ z) (take_front fs back)

take_more : (front : List ℕ) (b : ℕ) (bs : List ℕ) → take (length front + 1) (front ++ b ∷ bs) ≡ front ++ b ∷ []
take_more [] b bs = refl
take_more (f ∷ fs) b bs = let same : length (f ∷ fs) + 1 ≡ suc (length fs + 1) = omega arith in
    ap (λ (n : ℕ). take n ((f ∷ fs) ++ b ∷ bs)) same ∙ ap (λ (z : List ℕ). f ∷ z) (take_more fs b bs)

-- where a fault is, from what is left there
pub record At {A : Type 0} (r : Reader A) (text : A → List ℕ) (Good : A → Type 0) (bytes : List ℕ) (n : ℕ) : Type 0 where
  pub front : List ℕ
  pub back : List ℕ
  pub splits : bytes ≡ front ++ back
  pub left : length back ≡ n
  pub begins : IsPrefix (HasText text Good) front
  pub wrong : (b : ℕ) (bs others : List ℕ) → back ≡ b ∷ bs → read_alone r (front ++ b ∷ others) ≡ Err (length (b ∷ others))

at_stop : {A : Type 0} (r : Reader A) (text : A → List ℕ) (Good : A → Type 0) (bytes : List ℕ) (n : ℕ) → Stopped r text Good bytes n → At r text Good bytes n
at_stop r text Good bytes n st = record {
  front = st.front;
  back = st.back;
  splits = st.splits;
  left = st.left;
  begins = (st.more, (st.whole, st.good, sym st.begun));
  wrong = λ b bs others i. bind_fails (r (st.front ++ b ∷ others)) alone (length (b ∷ others)) (st.wrong b bs others i);
}

alone_err : {A : Type 0} (p : A × List ℕ) (n : ℕ) → alone p ≡ Err n → length p.1 ≡ n
alone_err (y, []) n e = let never : ⊥ = cc e in absurd never
alone_err (y, b ∷ bs) n e = let same : length (b ∷ bs) ≡ n = cc e in same

at_end : {A : Type 0} (r : Reader A) (text : A → List ℕ) (Good : A → Type 0) (bytes : List ℕ) (p : A × List ℕ) (n : ℕ) → Took r text Good bytes p.0 p.1 → alone p ≡ Err n → At r text Good bytes n
at_end r text Good bytes p n a e = record {
  front = text p.0;
  back = p.1;
  splits = a.splits;
  left = alone_err p n e;
  begins = ([], (p.0, a.good, append-nil (text p.0)));
  wrong = λ b bs others i. bind_at (r (text p.0 ++ b ∷ others)) alone (p.0, b ∷ others) (a.alike b bs others i);
}

at_fault : {A : Type 0} (r : Reader A) (text : A → List ℕ) (Good : A → Type 0) → Reads always r text Good → (bytes : List ℕ) (n : ℕ) → read_alone r bytes ≡ Err n → At r text Good bytes n
at_fault r text Good reads bytes n e =
    elim (bind_err (r bytes) alone n e) [
      | inl h ↦ at_stop r text Good bytes n (reads.stops bytes n h)
      | inr h ↦ at_end r text Good bytes h.0 n (reads.takes bytes h.0.0 h.0.1 h.1) h.2
    ]

fault_stops : {A : Type 0} (r : Reader A) (text : A → List ℕ) (Good : A → Type 0) → Reads always r text Good
    → (bytes front back : List ℕ) (offset : ℕ) → bytes ≡ front ++ back → offset ≡ length front → 0 < length back
    → ((b : ℕ) (bs others : List ℕ) → back ≡ b ∷ bs → read_alone r (front ++ b ∷ others) ≡ Err (length (b ∷ others)))
    → IsPrefix (HasText text Good) (take (offset + 1) bytes) → ⊥
fault_stops r text Good reads bytes front [] offset splits is more wrong prefix = let never : ⊥ = omega (arith, more) in never
fault_stops r text Good reads bytes front (b ∷ bs) offset splits is more wrong prefix =
    let begun : take (offset + 1) bytes ≡ front ++ b ∷ [] = ap (λ (k : ℕ). take (k + 1) bytes) is ∙ ap (take (length front + 1)) splits ∙ take_more front b bs in
    let h = prefix.1 in
    let same : front ++ b ∷ prefix.0 ≡ text h.0 =
    sym (append_assoc front (b ∷ []) prefix.0) ∙ ap (λ (z : List ℕ). z ++ prefix.0) (sym begun) ∙ h.2 in
    let again = sym (read_again r text Good reads (front ++ b ∷ prefix.0) h.0 h.1 same) ∙ wrong b bs prefix.0 refl in
    let never : ⊥ = cc again in never

-- a fault is the first one
pub fault_is : {A : Type 0} (r : Reader A) (text : A → List ℕ) (Good : A → Type 0) → Reads always r text Good
    → (bytes : List ℕ) (n : ℕ) → read_alone r bytes ≡ Err n → (n ≤ length bytes) × IsFault (HasText text Good) bytes (length bytes - n)
fault_is r text Good reads bytes n e =
    let a = at_fault r text Good reads bytes n e in
    let lengths : length bytes ≡ length a.front + length a.back = ap length a.splits ∙ length-append a.front a.back in
    let offset : length bytes - n ≡ length a.front = omega (arith, lengths, a.left) in
    let no_text : HasText text Good bytes → ⊥ = λ h.
    let again = sym (read_again r text Good reads bytes h.0 h.1 h.2) ∙ e in
    let never : ⊥ = cc again in never in (
      omega (arith, lengths, a.left),
      record {
        within = omega (arith, lengths, a.left);
        begins = subst (IsPrefix (HasText text Good)) (sym (ap (λ (k : ℕ). take k bytes) offset ∙ ap (take (length a.front)) a.splits ∙ take_front a.front a.back)) a.begins;
        stops = λ less prefix. fault_stops r text Good reads bytes a.front a.back (length bytes - n) a.splits offset
            (omega (arith, lengths, a.left)) a.wrong prefix;
        no_text = no_text;
      },
    )
