-- What is said of reading whole texts: what is read has that text, which is read again, and a fault
-- is the first one.
use Rattle.std.proofs.Common.{◌≡◌, ℕ, suc, ◌+◌, ◌-◌, List, [], ◌∷◌, ◌++◌, Result, Ok, Err, length, refl, ap, sym, ◌∙◌, subst, append_assoc, append-nil, arith, take, inl, inr}
use Rattle.std.proofs.lemmas.List.{length-append}
use Rattle.cu_flatread.proofs.ModuleLaws.{module_reads}
use Rattle.cu_flatread.proofs.ReaderLaws.{Stopped, Took, bind_at, bind_err, bind_fails, bind_ok}
use Rattle.cu_flatread.specs.Faults.{BeginsFlatText, IsFault, IsFlatText, unfinished, wrong_byte}
use Rattle.cu_flatread.specs.FlatText.{FlatText, IsModule}
use Rattle.cu_flatread.specs.Inside.Declarations.{GivesAll, all_of, fault_of, module_at, whole_at}
use Rattle.cu_flatread.specs.Inside.Words.{◌>>=◌}
use Rattle.cu_flatread.specs.Meaning.{Tells}
use Rattle.cu_flatread.specs.Modules.{Module}
use Rattle.cu_flatread.specs.Text.{module_text}
use Rattle.cu_flatread.specs.declared.stop.Stop.{Stop}
use Rattle.cu_flatread.specs.declared.stop.Stop.TheVariants as stop

all_ok : (p : Module × List ℕ) (x : Module) → all_of p ≡ Ok x → (p.0 ≡ x) × (p.1 ≡ [])
all_ok (y, []) x e = let same : y ≡ x = cc in (same, refl)
all_ok (y, b ∷ bs) x e = let never : ⊥ = cc in absurd never

all_err : (p : Module × List ℕ) (n : ℕ) → all_of p ≡ Err n → length p.1 ≡ n
all_err (y, []) n e = let never : ⊥ = cc in absurd never
all_err (y, b ∷ bs) n e = let same : length (b ∷ bs) ≡ n = cc in same

-- what is read has this text
pub read_has : (bytes : List ℕ) (x : Module) → whole_at bytes ≡ Ok x → FlatText bytes x
unfolding whole_at
read_has bytes x e =
    let one = bind_ok (module_at bytes) all_of x e in
    let is = all_ok one.0 x one.2 in
    let a = module_reads.takes bytes one.0.0 one.0.1 one.1 in
    record {
      text =
          a.splits ∙ ap (λ z. module_text one.0.0 ++ z) is.1 ∙ append-nil (module_text one.0.0)
          ∙ ap module_text is.0;
      is_module = subst IsModule is.0 a.good;
    }

-- what has a text is read from it
pub read_again : (bytes : List ℕ) (x : Module) → FlatText bytes x → whole_at bytes ≡ Ok x
unfolding whole_at
read_again bytes x t =
    ap (λ z. module_at z >>= all_of) (t.text ∙ sym (append-nil (module_text x)))
    ∙ bind_at (module_at (module_text x ++ [])) all_of (x, [])
    (module_reads.again x [] t.is_module tt)

take_front : (front back : List ℕ) → take (length front) (front ++ back) ≡ front
take_front [] back = refl
take_front (f ∷ fs) back = ap (λ z. f ∷ z) (take_front fs back)

take_more : (front : List ℕ) (b : ℕ) (bs : List ℕ)
    → take (length front + 1) (front ++ b ∷ bs) ≡ front ++ b ∷ []
take_more [] b bs = refl
take_more (f ∷ fs) b bs =
    let same : length (f ∷ fs) + 1 ≡ suc (length fs + 1) = omega arith in
    ap (λ n. take n ((f ∷ fs) ++ b ∷ bs)) same ∙ ap (λ z. f ∷ z) (take_more fs b bs)

-- where a fault is, from what is left there
record At (bytes : List ℕ) (n : ℕ) : Type 0 where
  front : List ℕ
  back : List ℕ
  splits : bytes ≡ front ++ back
  left : length back ≡ n
  begins : BeginsFlatText front
  wrong : (b : ℕ) (bs others : List ℕ) → back ≡ b ∷ bs
      → whole_at (front ++ b ∷ others) ≡ Err (length (b ∷ others))

at_stop : (bytes : List ℕ) (n : ℕ) → Stopped module_at module_text IsModule bytes n → At bytes n
unfolding whole_at
at_stop bytes n st = record {
  front = st.front;
  back = st.back;
  splits = st.splits;
  left = st.left;
  begins = (st.more, (st.whole, record { text = sym st.begun; is_module = st.good }));
  wrong = λ b bs others i.
      bind_fails (module_at (st.front ++ b ∷ others)) all_of (length (b ∷ others))
      (st.wrong b bs others i);
}

at_end : (bytes : List ℕ) (x : Module) (rest : List ℕ) (n : ℕ)
    → Took module_at module_text IsModule bytes x rest → length rest ≡ n → At bytes n
unfolding whole_at
at_end bytes x rest n a left = record {
  front = module_text x;
  back = rest;
  splits = a.splits;
  left = left;
  begins = ([], (x, record { text = append-nil (module_text x); is_module = a.good }));
  wrong = λ b bs others i.
      bind_at (module_at (module_text x ++ b ∷ others)) all_of (x, b ∷ others)
      (a.alike b bs others i);
}

at_fault : (bytes : List ℕ) (n : ℕ) → whole_at bytes ≡ Err n → At bytes n
unfolding whole_at
at_fault bytes n e =
    elim (bind_err (module_at bytes) all_of n e) [
      | inl h ↦ at_stop bytes n (module_reads.stops bytes n h)
      | inr h ↦
          at_end bytes h.0.0 h.0.1 n (module_reads.takes bytes h.0.0 h.0.1 h.1)
          (all_err h.0 n h.2)
    ]

no_text : (bytes : List ℕ) (n : ℕ) → whole_at bytes ≡ Err n → IsFlatText bytes → ⊥
no_text bytes n e t =
    let both = sym (read_again bytes t.0 t.1) ∙ e in
    let never : ⊥ = cc in never

no_more : (bytes front : List ℕ) (b : ℕ) (bs : List ℕ) (offset : ℕ) → bytes ≡ front ++ b ∷ bs
    → offset ≡ length front
    → ((others : List ℕ) → whole_at (front ++ b ∷ others) ≡ Err (length (b ∷ others)))
    → BeginsFlatText (take (offset + 1) bytes) → ⊥
no_more bytes front b bs offset splits is wrong t =
    let begun : take (offset + 1) bytes ≡ front ++ b ∷ [] =
    ap (λ k. take (k + 1) bytes) is ∙ ap (take (length front + 1)) splits
    ∙ take_more front b bs in
    let same : take (offset + 1) bytes ++ t.0 ≡ front ++ b ∷ t.0 =
    ap (λ z. z ++ t.0) begun ∙ append_assoc front (b ∷ []) t.0 in
    no_text (front ++ b ∷ t.0) (length (b ∷ t.0)) (wrong t.0) (subst IsFlatText same t.1)

fault_at : (bytes : List ℕ) (n offset : ℕ) → whole_at bytes ≡ Err n → (front back : List ℕ)
    → bytes ≡ front ++ back → length back ≡ n → offset ≡ length bytes - n → BeginsFlatText front
    → ((b : ℕ) (bs others : List ℕ) → back ≡ b ∷ bs
    → whole_at (front ++ b ∷ others) ≡ Err (length (b ∷ others)))
    → IsFault bytes offset
fault_at bytes n offset e front [] splits left is begins wrong =
    let all : bytes ≡ front = splits ∙ append-nil front in
    let end : offset ≡ length bytes = omega (arith, is, left) in
    subst (IsFault bytes) (sym end)
    (unfinished (subst BeginsFlatText (sym all) begins) (no_text bytes n e))
fault_at bytes n offset e front (b ∷ bs) splits left is begins wrong =
    let lengths : length bytes ≡ length front + length (b ∷ bs) =
    ap length splits ∙ length-append front (b ∷ bs) in
    let here : offset ≡ length front = omega (arith, is, left, lengths) in
    let begun : take offset bytes ≡ front =
    ap (λ k. take k bytes) here ∙ ap (take (length front)) splits
    ∙ take_front front (b ∷ bs) in
    wrong_byte offset (omega (arith, here, lengths))
    (subst BeginsFlatText (sym begun) begins)
    (no_more bytes front b bs offset splits here (λ others. wrong b bs others refl))

-- a fault is the first one
pub fault_is : (bytes : List ℕ) (n offset : ℕ) → whole_at bytes ≡ Err n
    → offset ≡ length bytes - n → IsFault bytes offset
fault_is bytes n offset e is =
    let a = at_fault bytes n e in
    fault_at bytes n offset e a.front a.back a.splits a.left is a.begins a.wrong

abbrev same_result : Module → Result Module ℕ
same_result x = Ok x

-- each text is of one module
pub one_text : (bytes : List ℕ) (x y : Module) → FlatText bytes x → FlatText bytes y → x ≡ y
one_text bytes x y t u =
    let both : same_result x ≡ same_result y =
    sym (read_again bytes x t) ∙ read_again bytes y u in
    cc

-- what is told of a fault
pub tells : {X : Type 0} (view : X → Module) (bytes : List ℕ) (e : Stop)
    → GivesAll view (Err e) (whole_at bytes) → Tells bytes (fault_of (length bytes) e)
tells view bytes (stop.At left) e = fault_is bytes left (length bytes - left) e refl
tells view bytes stop.NoMemory e = tt
