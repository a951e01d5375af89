-- The values of variables by their bindings.
use Rattle.std.proofs.Common.{◌≡◌, ◌∙◌, ℕ, zero, suc, ◌+◌, Bool, List, [], ◌∷◌, ◌++◌, ap, arith, cond, eq-eqb, ne_eqb}
use Rattle.cu_calculus.specs.Match.{Bindings, Environment, bind_all, empty}
use Rattle.cu_calculus.specs.Value.{Value}
use Rattle.cu_verdict.specs.Proved.{values_from}

pub bound_here : (b : ℕ × Value) (bindings : Bindings) (x : ℕ) → b.0 ≡ x → bind_all empty (b ∷ bindings) x ≡ b.1
bound_here b bindings x e = ap (λ (t : Bool). cond t b.1 (bind_all empty bindings x)) (eq-eqb b.0 x e)

pub bound_there : (b : ℕ × Value) (bindings : Bindings) (x : ℕ) → (b.0 ≡ x → ⊥) → bind_all empty (b ∷ bindings) x ≡ bind_all empty bindings x
bound_there b bindings x n = ap (λ (t : Bool). cond t b.1 (bind_all empty bindings x)) (ne_eqb b.0 x n)

one_more : (env : Environment) (x n : ℕ) → values_from env x (suc n) ≡ values_from env x n ++ env (x + n) ∷ []
one_more env x zero = let same : x ≡ x + 0 = omega arith in ap (λ (y : ℕ). env y ∷ []) same
one_more env x (suc n) =
    let same : x + 1 + n ≡ x + suc n = omega arith in
    ap (λ (vs : List Value). env x ∷ vs) (one_more env (x + 1) n)
    ∙ ap (λ (y : ℕ). env x ∷ (values_from env (x + 1) n ++ env y ∷ [])) same

-- the values of the variables up to one more
pub and_next : (env : Environment) (n : ℕ) → values_from env 0 (n + 1) ≡ values_from env 0 n ++ env n ∷ []
and_next env n =
    let count : n + 1 ≡ suc n = omega arith in
    let same : 0 + n ≡ n = omega arith in
    ap (values_from env 0) count ∙ one_more env 0 n ∙ ap (λ (y : ℕ). values_from env 0 n ++ env y ∷ []) same
