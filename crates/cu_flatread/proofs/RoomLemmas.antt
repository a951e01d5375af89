-- As many elements of a list are read, however much room there is above the number of bytes.
use Rattle.std.proofs.Common.{◌≡◌, ℕ, zero, suc, ◌≤◌, ◌<◌, Bool, true, false, List, [], ◌∷◌, Ok, Err, if◌then◌else◌, length, refl, ap, arith}
use Rattle.cu_flatread.proofs.DecimalLemmas.{given}
use Rattle.cu_flatread.proofs.SoundLemmas.{goes_on_sound}
use Rattle.cu_flatread.specs.Inside.Words.{Read, ◌>>=◌, goes_on, joined, more_elements}

-- reading takes bytes away
abbrev pub Shortens : {A : Type 0} → (List ℕ → Read A) → Type 0
Shortens {A} element = (bytes : List ℕ) (x : A) (rest : List ℕ) → element bytes ≡ given x rest
    → length rest ≤ length bytes

after_element : {A : Type 0} (element : List ℕ → Read A) → Shortens element → (k j : ℕ)
    (bytes : List ℕ) (read : Read A) → element bytes ≡ read
    → ((rest : List ℕ) → length rest ≤ length bytes
    → more_elements element k rest ≡ more_elements element j rest)
    → (read >>= λ x. joined (x.0 ∷ []) (more_elements element k x.1))
    ≡ (read >>= λ x. joined (x.0 ∷ []) (more_elements element j x.1))
after_element element shorter k j bytes (Ok x) is same =
    ap (λ read. joined (x.0 ∷ []) read) (same x.1 (shorter bytes x.0 x.1 is))
after_element element shorter k j bytes (Err left) is same = refl

after_comma : {A : Type 0} (element : List ℕ → Read A) → Shortens element → (k j : ℕ)
    (bytes : List ℕ) (read : Read Bool) → goes_on bytes ≡ read
    → ((after : List ℕ) → length after < length bytes → (rest : List ℕ) → length rest ≤ length after
    → more_elements element k rest ≡ more_elements element j rest)
    → (read >>= λ more. if more.0
    then (element more.1 >>= λ x. joined (x.0 ∷ []) (more_elements element k x.1))
    else given [] more.1)
    ≡ (read >>= λ more. if more.0
    then (element more.1 >>= λ x. joined (x.0 ∷ []) (more_elements element j x.1))
    else given [] more.1)
after_comma element shorter k j bytes (Err left) is same = refl
after_comma element shorter k j bytes (Ok (false, after)) is same = refl
after_comma element shorter k j bytes (Ok (true, after)) is same =
    let comma = goes_on_sound bytes after true is in
    after_element element shorter k j after (element after) refl
    (same after (omega (arith, ap length comma)))

pub more_same : {A : Type 0} (element : List ℕ → Read A) → Shortens element → (k j : ℕ)
    (bytes : List ℕ) → length bytes ≤ k → length bytes ≤ j
    → more_elements element k bytes ≡ more_elements element j bytes
unfolding more_elements
more_same element shorter zero zero bytes few less = refl
more_same element shorter zero (suc j) [] few less = refl
more_same element shorter zero (suc j) (b ∷ bytes) few less = absurd (omega (arith, few))
more_same element shorter (suc k) zero [] few less = refl
more_same element shorter (suc k) zero (b ∷ bytes) few less = absurd (omega (arith, less))
more_same element shorter (suc k) (suc j) bytes few less =
    after_comma element shorter k j bytes (goes_on bytes) refl
    (λ after fewer rest within.
    more_same element shorter k j rest (omega (arith, few, fewer, within))
    (omega (arith, less, fewer, within)))

-- room for as many elements as there are bytes serves as well as more
pub fit_room : {A : Type 0} (element : List ℕ → Read A) → Shortens element → (k : ℕ)
    (bytes : List ℕ) (read : Read A) → element bytes ≡ read → length bytes ≤ k
    → (read >>= λ x. joined (x.0 ∷ []) (more_elements element k x.1))
    ≡ (read >>= λ x. joined (x.0 ∷ []) (more_elements element (length x.1) x.1))
fit_room element shorter k bytes (Ok x) is few =
    ap (joined (x.0 ∷ []))
    (more_same element shorter k (length x.1) x.1
    (omega (arith, few, shorter bytes x.0 x.1 is)) (omega arith))
fit_room element shorter k bytes (Err left) is few = refl
