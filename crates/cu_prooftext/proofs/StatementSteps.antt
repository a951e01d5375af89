-- How a statement is read, over any readers of its parts.
use Rattle.std.proofs.Common.{◌≡◌, ℕ, List, Ok, Err, ◌∙◌, codes}
use Rattle.cu_calculus.specs.Match.{Bindings}
use Rattle.cu_calculus.specs.Proof.{Statement}
use Rattle.cu_calculus.specs.Term.{Term}
use Rattle.cu_calculus.specs.Value.{Value}
use Rattle.cu_prooftext.specs.Inside.Lines.{statement_with}
use Rattle.cu_prooftext.specs.Inside.Readers.{◌>>=◌, Reader, after, made, pair, word_at}
use Rattle.cu_prooftext.proofs.CellSteps.{after_fails, after_is, after_word_fails}
use Rattle.cu_prooftext.proofs.FrameLaws.{pair_made, stands}
use Rattle.cu_prooftext.proofs.ReaderLaws.{bind_at, bind_fails}

-- a statement by readers of its environment, its term and its value
abbrev pub statement_from : Reader Bindings → Reader Term → Reader Value → Reader Statement
statement_from e t v = made statement_with (pair e (λ x. pair (after (codes " : ") t) (λ y. after (codes " => ") v)))

with_environment : (e : Reader Bindings) (t : Reader Term) (v : Reader Value) (bytes r1 : List ℕ) (x : Bindings) → e bytes ≡ Ok (x, r1)
    → statement_from e t v bytes ≡ (after (codes " : ") t r1 >>= λ p. after (codes " => ") v p.1 >>= stands (λ z. statement_with (x, (p.0, z))))
with_environment e t v bytes r1 x a =
    pair_made statement_with e (λ x. pair (after (codes " : ") t) (λ y. after (codes " => ") v)) bytes
    ∙ bind_at (e bytes) (λ p. pair (after (codes " : ") t) (λ y. after (codes " => ") v) p.1 >>= stands (λ w. statement_with (p.0, w))) (x, r1) a
    ∙ pair_made (λ w. statement_with (x, w)) (after (codes " : ") t) (λ y. after (codes " => ") v) r1

with_term : (e : Reader Bindings) (t : Reader Term) (v : Reader Value) (bytes r1 r2 r3 : List ℕ) (x : Bindings) (y : Term) → e bytes ≡ Ok (x, r1) → word_at (codes " : ") r1 ≡ Ok r2 → t r2 ≡ Ok (y, r3)
    → statement_from e t v bytes ≡ (after (codes " => ") v r3 >>= stands (λ z. statement_with (x, (y, z))))
with_term e t v bytes r1 r2 r3 x y a b d =
    with_environment e t v bytes r1 x a
    ∙ bind_at (after (codes " : ") t r1) (λ p. after (codes " => ") v p.1 >>= stands (λ z. statement_with (x, (p.0, z)))) (y, r3) (after_is (codes " : ") r1 r2 r3 t y b d)

pub term_fails : (e : Reader Bindings) (t : Reader Term) (v : Reader Value) (bytes r1 r2 : List ℕ) (x : Bindings) (n : ℕ) → e bytes ≡ Ok (x, r1) → word_at (codes " : ") r1 ≡ Ok r2 → t r2 ≡ Err n
    → statement_from e t v bytes ≡ Err n
term_fails e t v bytes r1 r2 x n a b d =
    with_environment e t v bytes r1 x a
    ∙ bind_fails (after (codes " : ") t r1) (λ p. after (codes " => ") v p.1 >>= stands (λ z. statement_with (x, (p.0, z)))) n (after_fails (codes " : ") r1 r2 t n b d)

pub arrow_fails : (e : Reader Bindings) (t : Reader Term) (v : Reader Value) (bytes r1 r2 r3 : List ℕ) (x : Bindings) (y : Term) (n : ℕ) → e bytes ≡ Ok (x, r1) → word_at (codes " : ") r1 ≡ Ok r2 → t r2 ≡ Ok (y, r3)
    → word_at (codes " => ") r3 ≡ Err n → statement_from e t v bytes ≡ Err n
arrow_fails e t v bytes r1 r2 r3 x y n a b d f =
    with_term e t v bytes r1 r2 r3 x y a b d
    ∙ bind_fails (after (codes " => ") v r3) (stands (λ z. statement_with (x, (y, z)))) n (after_word_fails (codes " => ") r3 v n f)

pub value_fails : (e : Reader Bindings) (t : Reader Term) (v : Reader Value) (bytes r1 r2 r3 r4 : List ℕ) (x : Bindings) (y : Term) (n : ℕ) → e bytes ≡ Ok (x, r1) → word_at (codes " : ") r1 ≡ Ok r2 → t r2 ≡ Ok (y, r3)
    → word_at (codes " => ") r3 ≡ Ok r4 → v r4 ≡ Err n → statement_from e t v bytes ≡ Err n
value_fails e t v bytes r1 r2 r3 r4 x y n a b d f g =
    with_term e t v bytes r1 r2 r3 x y a b d
    ∙ bind_fails (after (codes " => ") v r3) (stands (λ z. statement_with (x, (y, z)))) n (after_fails (codes " => ") r3 r4 v n f g)

pub statement_read : (e : Reader Bindings) (t : Reader Term) (v : Reader Value) (bytes r1 r2 r3 r4 r5 : List ℕ) (x : Bindings) (y : Term) (z : Value)
    → e bytes ≡ Ok (x, r1) → word_at (codes " : ") r1 ≡ Ok r2 → t r2 ≡ Ok (y, r3) → word_at (codes " => ") r3 ≡ Ok r4 → v r4 ≡ Ok (z, r5)
    → statement_from e t v bytes ≡ Ok (statement_with (x, (y, z)), r5)
statement_read e t v bytes r1 r2 r3 r4 r5 x y z a b d f g =
    with_term e t v bytes r1 r2 r3 x y a b d
    ∙ bind_at (after (codes " => ") v r3) (stands (λ z. statement_with (x, (y, z)))) (z, r5) (after_is (codes " => ") r3 r4 r5 v z f g)
