-- Errors that are passed on.
use Rattle.std.proofs.Common.{◌≡◌, ◌∙◌, ℕ, ◌-◌, ◌<◌, ◌≤◌, List, Option, None, Some, Result, Ok, Err, IsErrAnd, arith, length, sym, subst}
use Rattle.cu_prooftext.specs.declared.fault.Fault.{Fault}
use Rattle.cu_prooftext.specs.declared.fault.Fault.TheVariants as fault
use Rattle.cu_prooftext.specs.Inside.FramesOf.{Continues, GoesOn, part_of}
use Rattle.cu_prooftext.specs.Inside.Frames.{resume}
use Rattle.cu_prooftext.specs.Inside.Gives.{Fails, Gives}
use Rattle.cu_prooftext.specs.Inside.Readers.{Reader}

-- where a reader fails as another one does
pub fails_on : {B C : Type 0} (e : Fault) (m : Result B ℕ) (n : Result C ℕ) → ((k : ℕ) → m ≡ Err k → n ≡ Err k) → Fails e m → Fails e n
fails_on fault.NoMemory m n f h = tt
fails_on (fault.Left k) m n f h = f k h

pub gives_err : {A C : Type 0} (view : A → C) (result : Result A Fault) (e : Fault) (read : Result C ℕ) → IsErrAnd result (λ f. f ≡ e) → Fails e read → Gives view result read
gives_err view (Ok a) e read is h = absurd is
gives_err view (Err f) e read is h = subst (λ (g : Fault). Fails g read) (sym is) h

pub goes_err : {A F X : Type 0} (at : ℕ → Reader A) (after_it : ℕ → F → A × List ℕ → Result (A × List ℕ) ℕ) (levels : ℕ) (read : Result (A × List ℕ) ℕ) (frames : List F) (n : ℕ)
    (view : X → Option A × List ℕ) (result : Result X Fault) (e : Fault) → IsErrAnd result (λ f. f ≡ e) → Fails e read → GoesOn at after_it levels read frames n view result
goes_err at after_it levels read frames n view (Ok x) e is h = absurd is
goes_err at after_it levels read frames n view (Err f) e is h = subst (λ (g : Fault). Fails g read) (sym is) h

pub goes_no_memory : {A F X : Type 0} (at : ℕ → Reader A) (after_it : ℕ → F → A × List ℕ → Result (A × List ℕ) ℕ) (levels : ℕ) (read : Result (A × List ℕ) ℕ) (frames : List F) (n : ℕ)
    (view : X → Option A × List ℕ) (result : Result X Fault) → IsErrAnd result (λ f. f ≡ fault.NoMemory) → GoesOn at after_it levels read frames n view result
goes_no_memory at after_it levels read frames n view result is = goes_err at after_it levels read frames n view result fault.NoMemory is tt

continues_weaker : {A F : Type 0} (at : ℕ → Reader A) (after_it : ℕ → F → A × List ℕ → Result (A × List ℕ) ℕ) (levels : ℕ) (m read : Result (A × List ℕ) ℕ) (frames : List F) (k n : ℕ) (o : Option A) (rest : List ℕ)
    → read ≡ m → k ≤ n → Continues at after_it levels m frames k o rest → Continues at after_it levels read frames n o rest
continues_weaker at after_it levels m read frames k n (Some x) rest same less h = same ∙ h
continues_weaker at after_it levels m read frames k n None rest same less h = let fewer = h.1 in (same ∙ h.0, omega (arith, fewer))

-- what is answered continues what reads the same, of more bytes
pub goes_weaker : {A F X : Type 0} (at : ℕ → Reader A) (after_it : ℕ → F → A × List ℕ → Result (A × List ℕ) ℕ) (levels : ℕ) (m read : Result (A × List ℕ) ℕ) (frames : List F) (k n : ℕ)
    (view : X → Option A × List ℕ) (result : Result X Fault) → read ≡ m → k ≤ n → GoesOn at after_it levels m frames k view result → GoesOn at after_it levels read frames n view result
goes_weaker at after_it levels m read frames k n view (Ok x) same less h = continues_weaker at after_it levels m read frames k n (view x).0 (view x).1 same less h
goes_weaker at after_it levels m read frames k n view (Err e) same less h = subst (Fails e) (sym same) h

pub continues_some : {T A F : Type 0} (at : ℕ → Reader A) (after_it : ℕ → F → A × List ℕ → Result (A × List ℕ) ℕ) (f : T → A) (levels : ℕ) (read : Result (A × List ℕ) ℕ) (frames : List F) (n : ℕ) (o : Option T) (x : T) (rest : List ℕ)
    → o ≡ Some x → Continues at after_it levels read frames n (part_of f o) rest → read ≡ Ok (f x, rest)
continues_some {T} at after_it f levels read frames n o x rest is h = subst (λ (z : Option T). Continues at after_it levels read frames n (part_of f z) rest) is h

pub continues_none : {T A F : Type 0} (at : ℕ → Reader A) (after_it : ℕ → F → A × List ℕ → Result (A × List ℕ) ℕ) (f : T → A) (levels : ℕ) (read : Result (A × List ℕ) ℕ) (frames : List F) (n : ℕ) (o : Option T) (rest : List ℕ)
    → o ≡ None → Continues at after_it levels read frames n (part_of f o) rest → (read ≡ resume after_it (levels - 1) frames (at (levels - length frames) rest)) × (length rest < n)
continues_none {T} at after_it f levels read frames n o rest is h = subst (λ (z : Option T). Continues at after_it levels read frames n (part_of f z) rest) is h
