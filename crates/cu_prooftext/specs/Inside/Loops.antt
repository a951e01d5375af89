-- Loops of readers.
use Rattle.std.specs.Prelude.{ℕ, zero, suc, Bool, List, [], ◌∷◌, ◌++◌, Result, Ok, if◌then◌else◌, length}
use Rattle.cu_prooftext.specs.Inside.Readers.{◌>>=◌, Reader}

-- one more part in front
abbrev pub with_first : {A : Type 0} → A → List A × List ℕ → Result (List A × List ℕ) ℕ
with_first x q = Ok (x ∷ q.0, q.1)

-- Parts, for as long as the state and the bytes say that one more follows, at most so many.
abbrev pub loop : {S A : Type 0} → (S → List ℕ → Bool) → (S → Reader A) → (S → A → S) → ℕ → S
    → Reader (List A)
loop go r next zero s bytes = Ok ([], bytes)
loop go r next (suc fuel) s bytes =
    if go s bytes
    then (r s bytes >>= λ p. loop go r next fuel (next s p.0) p.1 >>= with_first p.0)
    else Ok ([], bytes)

-- as many parts as the state and the bytes say
abbrev pub whole : {S A : Type 0} → (S → List ℕ → Bool) → (S → Reader A) → (S → A → S) → S
    → Reader (List A)
whole go r next s bytes = loop go r next (suc (length bytes)) s bytes

-- parts that are read, and then the others
abbrev pub with_front : {A : Type 0} → List A → Result (List A × List ℕ) ℕ
    → Result (List A × List ℕ) ℕ
with_front front m = m >>= λ q. Ok (front ++ q.0, q.1)
