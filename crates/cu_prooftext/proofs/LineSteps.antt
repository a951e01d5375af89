-- The loops over lines, step by step.
use Rattle.std.proofs.Common.{◌≡◌, ◌≢◌, ℕ, suc, ◌+◌, ◌-◌, ◌<◌, ◌≤◌, List, [], ◌∷◌, ◌++◌, Result, Ok, Err, length, refl, ap, sym, ◌∙◌, append-nil, arith, map}
use Rattle.cu_calculus.specs.Proof.{Step}
use Rattle.cu_crwl.specs.Meaning.{step_of}
use Rattle.cu_crwl.specs.declared.claim.Step as boxed
use Rattle.cu_prooftext.specs.Inside.Lines.{alone, read_alone, step_at, steps_at}
use Rattle.cu_prooftext.specs.Inside.Loops.{with_front}
use Rattle.cu_prooftext.specs.Inside.Readers.{◌>>=◌, Reader, many}
use Rattle.cu_prooftext.proofs.CellSteps.{front_none}
use Rattle.cu_prooftext.proofs.FrameLaws.{many_at, many_more, one_more, stands}
use Rattle.cu_prooftext.proofs.ReaderLaws.{bind_at}

fronts : {A : Type 0} (front : List A) (x : A) (m : Result (List A × List ℕ) ℕ) → (m >>= stands (λ xs. front ++ x ∷ xs)) ≡ with_front (front ++ x ∷ []) m
fronts {A} front x (Ok q) = ap (λ (z : List A). let m : Result (List A × List ℕ) ℕ = Ok (z, q.1) in m) (sym (one_more front x q.0))
fronts front x (Err n) = refl

part_goes : {A : Type 0} (r : Reader A) (front : List A) (n : ℕ) (bytes rest : List ℕ) (x : A) → r bytes ≡ Ok (x, rest)
    → with_front (front ++ x ∷ []) (many r n rest) ≡ with_front front (many r (suc n) bytes)
part_goes r front n bytes rest x e =
    sym (fronts front x (many r n rest))
    ∙ sym (bind_at (r bytes) (λ p. many r n p.1 >>= stands (λ xs. front ++ p.0 ∷ xs)) (x, rest) e)
    ∙ sym (many_more (λ z. front ++ z) r n bytes)

-- one more part is read, and then those that are left
pub more_goes : {A : Type 0} (r : Reader A) (front : List A) (left : ℕ) (bytes rest : List ℕ) (x : A) → 0 < left → r bytes ≡ Ok (x, rest)
    → with_front (front ++ x ∷ []) (many r (left - 1) rest) ≡ with_front front (many r left bytes)
more_goes r front left bytes rest x more e =
    let same : suc (left - 1) ≡ left = omega (arith, more) in
    part_goes r front (left - 1) bytes rest x e ∙ ap (λ (k : ℕ). with_front front (many r k bytes)) same

part_fails : {A : Type 0} (r : Reader A) (front : List A) (n : ℕ) (bytes : List ℕ) (k : ℕ) → r bytes ≡ Err k → with_front front (many r (suc n) bytes) ≡ Err k
part_fails {A} r front n bytes k e =
    many_more (λ z. front ++ z) r n bytes
    ∙ ap (λ (m : Result (A × List ℕ) ℕ). m >>= λ p. many r n p.1 >>= stands (λ xs. front ++ p.0 ∷ xs)) e

pub more_fails : {A : Type 0} (r : Reader A) (front : List A) (left : ℕ) (bytes : List ℕ) (k : ℕ) → 0 < left → r bytes ≡ Err k → with_front front (many r left bytes) ≡ Err k
more_fails r front left bytes k more e =
    let same : suc (left - 1) ≡ left = omega (arith, more) in
    ap (λ (k : ℕ). with_front front (many r k bytes)) (sym same) ∙ part_fails r front (left - 1) bytes k e

pub more_ends : {A : Type 0} (r : Reader A) (front : List A) (left : ℕ) (bytes : List ℕ) → left ≡ 0 → with_front front (many r left bytes) ≡ Ok (front, bytes)
more_ends {A} r front left bytes none =
    ap (λ (k : ℕ). with_front front (many r k bytes)) none
    ∙ ap (λ (z : List A). let m : Result (List A × List ℕ) ℕ = Ok (z, bytes) in m) (append-nil front)

-- ---- steps

next_goes : (front : List Step) (number n : ℕ) (bytes rest : List ℕ) (s : Step) → step_at number bytes ≡ Ok (s, rest)
    → with_front (front ++ s ∷ []) (steps_at (number + 1) n rest) ≡ with_front front (steps_at number (suc n) bytes)
next_goes front number n bytes rest s e =
    sym (fronts front s (steps_at (number + 1) n rest))
    ∙ sym (bind_at (step_at number bytes) (λ p. steps_at (number + 1) n p.1 >>= stands (λ xs. front ++ p.0 ∷ xs)) (s, rest) e)
    ∙ sym (many_at (λ z. front ++ z) (step_at number bytes) (λ p. steps_at (number + 1) n p.1))

pub step_goes : (front : List Step) (number count : ℕ) (bytes rest : List ℕ) (s : Step) → number < count → step_at number bytes ≡ Ok (s, rest)
    → with_front (front ++ s ∷ []) (steps_at (number + 1) (count - (number + 1)) rest) ≡ with_front front (steps_at number (count - number) bytes)
step_goes front number count bytes rest s less e =
    let same : suc (count - (number + 1)) ≡ count - number = omega (arith, less) in
    next_goes front number (count - (number + 1)) bytes rest s e ∙ ap (λ (k : ℕ). with_front front (steps_at number k bytes)) same

next_fails : (front : List Step) (number n : ℕ) (bytes : List ℕ) (k : ℕ) → step_at number bytes ≡ Err k → with_front front (steps_at number (suc n) bytes) ≡ Err k
next_fails front number n bytes k e =
    many_at (λ z. front ++ z) (step_at number bytes) (λ p. steps_at (number + 1) n p.1)
    ∙ ap (λ (m : Result (Step × List ℕ) ℕ). m >>= λ p. steps_at (number + 1) n p.1 >>= stands (λ xs. front ++ p.0 ∷ xs)) e

pub step_fails : (front : List Step) (number count : ℕ) (bytes : List ℕ) (k : ℕ) → number < count → step_at number bytes ≡ Err k
    → with_front front (steps_at number (count - number) bytes) ≡ Err k
step_fails front number count bytes k less e =
    let same : suc (count - (number + 1)) ≡ count - number = omega (arith, less) in
    ap (λ (k : ℕ). with_front front (steps_at number k bytes)) (sym same) ∙ next_fails front number (count - (number + 1)) bytes k e

pub steps_end : (front : List Step) (number count : ℕ) (bytes : List ℕ) → count ≤ number → with_front front (steps_at number (count - number) bytes) ≡ Ok (front, bytes)
steps_end front number count bytes done =
    let none : count - number ≡ 0 = omega (arith, done) in
    ap (λ (k : ℕ). with_front front (steps_at number k bytes)) none
    ∙ ap (λ (z : List Step). let m : Result (List Step × List ℕ) ℕ = Ok (z, bytes) in m) (append-nil front)

-- what stands for some steps are some steps
pub some_steps : (ss : List boxed.Step) → map step_of ss ≢ [] → ss ≢ []
some_steps [] h = λ e. h refl
some_steps (s ∷ ss) h = λ e. let never : ⊥ = cc e in never

pub steps_start : (ss : List boxed.Step) (count : ℕ) (bytes : List ℕ) → ss ≡ [] → with_front (map step_of ss) (steps_at 0 (count - 0) bytes) ≡ steps_at 0 count bytes
steps_start ss count bytes e =
    let same : count - 0 ≡ count = omega arith in
    ap (λ (z : List boxed.Step). with_front (map step_of z) (steps_at 0 (count - 0) bytes)) e
    ∙ front_none (steps_at 0 (count - 0) bytes)
    ∙ ap (λ (k : ℕ). steps_at 0 k bytes) same

-- ---- the end

pub alone_end : {A : Type 0} (x : A) (rest : List ℕ) → length rest ≡ 0 → alone (x, rest) ≡ Ok x
alone_end x [] h = refl
alone_end x (b ∷ bs) h = let never : ⊥ = omega (arith, h) in absurd never

pub alone_more : {A : Type 0} (x : A) (rest : List ℕ) → 0 < length rest → alone (x, rest) ≡ Err (length rest)
alone_more x [] h = let never : ⊥ = omega (arith, h) in absurd never
alone_more x (b ∷ bs) h = refl

pub read_ends : {A : Type 0} (r : Reader A) (bytes rest : List ℕ) (x : A) → r bytes ≡ Ok (x, rest) → length rest ≡ 0 → read_alone r bytes ≡ Ok x
read_ends r bytes rest x e h = bind_at (r bytes) alone (x, rest) e ∙ alone_end x rest h

pub read_goes_on : {A : Type 0} (r : Reader A) (bytes rest : List ℕ) (x : A) → r bytes ≡ Ok (x, rest) → 0 < length rest → read_alone r bytes ≡ Err (length rest)
read_goes_on r bytes rest x e h = bind_at (r bytes) alone (x, rest) e ∙ alone_more x rest h
