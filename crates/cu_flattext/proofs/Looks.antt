-- What is found of an expression.
use Rattle.std.proofs.Common.{length, ◌∷◌, ◌≡◌, ℕ, zero, suc, ◌-◌, List, [], None, Some, refl, sym, ap, ◌∙◌, arith}
use Rattle.cu_calculus.specs.Code.{Code, expr_of}
use Rattle.cu_calculus.specs.FlatProgram.{no_term, term_over, term_within, terms_of}
use Rattle.cu_calculus.specs.Term.{Term}
use Rattle.cu_calculus.specs.Valid.{term_count}
use Rattle.cu_calculus.specs.declared.ExprId.{ExprId}
use Rattle.cu_flat.specs.Meaning.{expr_meaning}
use Rattle.cu_flat.specs.declared.expr.Expr.{Expr}
use Rattle.cu_flat.specs.declared.expr.Expr.TheVariants as expr

-- a term doesn't depend on what a case distinction keeps
kept_is_left_out : (part : ExprId → Term) (kept : List ℕ) (e : Expr) → term_over part (Some (expr_meaning kept e)) ≡ term_over part (Some (expr_meaning [] e))
kept_is_left_out part kept (expr.Var x) = refl
kept_is_left_out part kept (expr.Lit l) = refl
kept_is_left_out part kept (expr.Whole h es) = refl
kept_is_left_out part kept (expr.Part h es) = refl
kept_is_left_out part kept (expr.Apply f a) = refl
kept_is_left_out part kept (expr.Let x a b) = refl
kept_is_left_out part kept (expr.Free x t) = refl
kept_is_left_out part kept (expr.Or a b) = refl
kept_is_left_out part kept (expr.Case mode e branches) = refl

pub no_depth : (code : Code) (depth : ℕ) (e : ExprId) → depth ≡ 0 → term_within depth code e ≡ no_term
unfolding term_within
no_depth code depth e is = rw is refl

pub not_there : (code : Code) (depth : ℕ) (e : ExprId) → None ≡ expr_of code e → term_within depth code e ≡ no_term
unfolding term_within
not_there code zero e is = refl
not_there code (suc d) e is = ap (term_over (term_within d code)) (sym is)

pub there : (code : Code) (depth : ℕ) (e : ExprId) (kept : List ℕ) (x : Expr) → (depth ≡ 0 → ⊥) → Some (expr_meaning kept x) ≡ expr_of code e
    → term_within depth code e ≡ term_over (term_within (depth - 1) code) (Some (expr_meaning [] x))
unfolding term_within
there code zero e kept x some is = absurd (some refl)
there code (suc d) e kept x some is =
    let down : suc d - 1 ≡ d = omega arith in
    rw down (ap (term_over (term_within d code)) (sym is) ∙ kept_is_left_out (term_within d code) kept x)

pub count_terms : (part : ExprId → Term) (es : List ExprId) → term_count (terms_of part es) ≡ length es
count_terms part [] = refl
count_terms part (e ∷ es) = rw (count_terms part es) (omega arith)
