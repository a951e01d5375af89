-- The terms of expressions that fit, by the bound on their depth.
use Rattle.std.proofs.Common.{◌≡◌, ℕ, zero, suc, ◌≤◌, Bool, ◌&&◌, List, [], ◌∷◌, ◌++◌, Option, None, Some, IsTrue, length, refl, ap, sym, arith}
use Rattle.std.specs.List.{list_all}
use Rattle.std.proofs.lemmas.Bool.{and_parts, true≢false}
use Rattle.cu_calculus.specs.declared.ExprId.{ExprId}
use Rattle.cu_calculus.specs.Code as code
use Rattle.cu_calculus.specs.Code.{Branch, Code, Expr, arity_of, expr_of}
use Rattle.cu_calculus.specs.FlatProgram.{alternatives_of, term_of, term_over, term_within, terms_of}
use Rattle.cu_calculus.specs.Shape.{takes, takes_more}
use Rattle.cu_calculus.specs.Term as term
use Rattle.cu_calculus.specs.Term.{Term}
use Rattle.cu_calculus.specs.Valid.{holds, is_linear}
use Rattle.cu_calculus.specs.WellFormed.{all_differ, bound_by, fit_branches, fits, fits_expr, fits_pattern, is_allowed, without}

-- expressions that pass a test in a scope have one term by either of two ways
abbrev pub Agree : (List ℕ → ExprId → Bool) → (ExprId → Term) → (ExprId → Term) → Type 0
Agree part low high = (scope : List ℕ) (e : ExprId) → IsTrue (part scope e) → low e ≡ high e

terms_agree : (part : List ℕ → ExprId → Bool) (low high : ExprId → Term) (scope : List ℕ) (es : List ExprId) → Agree part low high
    → IsTrue (list_all (part scope) es) → terms_of low es ≡ terms_of high es
terms_agree part low high scope [] agree h = refl
terms_agree part low high scope (e ∷ es) agree h =
    let parts = and_parts (part scope e) (list_all (part scope) es) h in
    let one : low e ≡ high e = agree scope e parts.0 in
    let others : terms_of low es ≡ terms_of high es = terms_agree part low high scope es agree parts.1 in
    cc

abbrev pub fits_branch : (List ℕ → ExprId → Bool) → Code → List ℕ → Branch → Bool
fits_branch part program kept branch = fits_pattern program branch.pattern && part (kept ++ bound_by branch.pattern) branch.body

branches_agree : (part : List ℕ → ExprId → Bool) (low high : ExprId → Term) (program : Code) (kept : List ℕ) (branches : List Branch) → Agree part low high
    → IsTrue (list_all (fits_branch part program kept) branches) → alternatives_of low branches ≡ alternatives_of high branches
branches_agree part low high program kept [] agree h = refl
branches_agree part low high program kept (branch ∷ branches) agree h =
    let parts = and_parts (fits_branch part program kept branch) (list_all (fits_branch part program kept) branches) h in
    let here = and_parts (fits_pattern program branch.pattern) (part (kept ++ bound_by branch.pattern) branch.body) parts.0 in
    let one : low branch.body ≡ high branch.body = agree (kept ++ bound_by branch.pattern) branch.body here.1 in
    let others : alternatives_of low branches ≡ alternatives_of high branches = branches_agree part low high program kept branches agree parts.1 in
    cc

pub branches_fit : (part : List ℕ → ExprId → Bool) (program : Code) (kept : List ℕ) (branches : List Branch) → IsTrue (fit_branches part program kept branches)
    → IsTrue (all_differ branches) × IsTrue (list_all (fits_branch part program kept) branches)
branches_fit part program kept branches h =
    let parts = and_parts (is_linear kept && all_differ branches) (list_all (fits_branch part program kept) branches) h in
    ((and_parts (is_linear kept) (all_differ branches) parts.0).1, parts.1)

pub over_agrees : (part : List ℕ → ExprId → Bool) (low high : ExprId → Term) (program : Code) (scope : List ℕ) (o : Option Expr) → Agree part low high
    → IsTrue (fits_expr part program scope o) → term_over low o ≡ term_over high o
over_agrees part low high program scope None agree h = absurd (true≢false (sym h))
over_agrees part low high program scope (Some (code.Variable x)) agree h = refl
over_agrees part low high program scope (Some (code.Literal l)) agree h = refl
over_agrees part low high program scope (Some (code.Whole k es)) agree h =
    ap (term.Whole k) (terms_agree part low high scope es agree
    (and_parts (is_allowed program k && takes (arity_of program k) (length es)) (list_all (part scope) es) h).1)
over_agrees part low high program scope (Some (code.Part k es)) agree h =
    ap (term.Part k) (terms_agree part low high scope es agree
    (and_parts (is_allowed program k && takes_more (arity_of program k) (length es)) (list_all (part scope) es) h).1)
over_agrees part low high program scope (Some (code.Apply function argument)) agree h =
    let parts = and_parts (part scope function) (part scope argument) h in
    let one : low function ≡ high function = agree scope function parts.0 in
    let other : low argument ≡ high argument = agree scope argument parts.1 in
    cc
over_agrees part low high program scope (Some (code.Let x bound body)) agree h =
    let parts = and_parts (part (without x scope) bound) (part (scope ++ x ∷ []) body) h in
    let one : low bound ≡ high bound = agree (without x scope) bound parts.0 in
    let other : low body ≡ high body = agree (scope ++ x ∷ []) body parts.1 in
    cc
over_agrees part low high program scope (Some (code.Free x body)) agree h = ap (term.Free x) (agree (scope ++ x ∷ []) body h)
over_agrees part low high program scope (Some (code.Or left right)) agree h =
    let parts = and_parts (part scope left) (part scope right) h in
    let one : low left ≡ high left = agree scope left parts.0 in
    let other : low right ≡ high right = agree scope right parts.1 in
    cc
over_agrees part low high program scope (Some (code.Case mode kept e branches)) agree h =
    let kept_there = list_all (λ x. holds x scope) kept in
    let parts = and_parts (kept_there && part scope e) (fit_branches part program kept branches) h in
    let one : low e ≡ high e = agree scope e (and_parts kept_there (part scope e) parts.0).1 in
    let others : alternatives_of low branches ≡ alternatives_of high branches =
    branches_agree part low high program kept branches agree (branches_fit part program kept branches parts.1).1 in
    cc

pub within_any : (program : Code) (scope : List ℕ) (depth more : ℕ) (e : ExprId) → depth ≤ more → IsTrue (fits depth program scope e)
    → term_within depth program e ≡ term_within more program e
unfolding term_within
within_any program scope zero more e le h = absurd (true≢false (sym h))
within_any program scope (suc depth) zero e le h = absurd (omega arith)
within_any program scope (suc depth) (suc more) e le h =
    over_agrees (fits depth program) (term_within depth program) (term_within more program) program scope (expr_of program e)
    (λ inner part fit. within_any program inner depth more part (omega arith) fit) h

pub within_itself : (program : Code) (scope : List ℕ) (depth : ℕ) (e : ExprId) → IsTrue (fits depth program scope e)
    → term_within depth program e ≡ term_over (term_within depth program) (expr_of program e)
unfolding term_within
within_itself program scope zero e h = absurd (true≢false (sym h))
within_itself program scope (suc depth) e h =
    over_agrees (fits depth program) (term_within depth program) (term_within (suc depth) program) program scope (expr_of program e)
    (λ inner part fit. within_any program inner depth (suc depth) part (omega arith) fit) h

pub of_parts : (program : Code) (scope : List ℕ) (e : ExprId) → IsTrue (fits (length program.expressions) program scope e)
    → term_of program e ≡ term_over (term_of program) (expr_of program e)
of_parts program scope e h = within_itself program scope (length program.expressions) e h
