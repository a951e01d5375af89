-- The expressions of well-formed code nest no deeper than it has expressions.
use Rattle.std.proofs.Common.{Bor, option_map, ◌≡◌, ℕ, zero, suc, Bool, true, false, ◌&&◌, List, [], ◌∷◌, ◌++◌, Option, Some, None, if◌then◌else◌, refl, sym, ap, subst, ◌∙◌, true≢false, length, slice_get}
use Rattle.std.specs.List.{list_all}
use Rattle.cu_calculus.specs.declared.ExprId.{ExprId}
use Rattle.cu_calculus.specs.declared.FunId.{FunId}
use Rattle.cu_calculus.specs.declared.Mode.{Mode}
use Rattle.cu_calculus.specs.Code as code
use Rattle.cu_calculus.specs.Code.{Body, Branch, Code, Expr, Function, Shallow, arity_of, body_of, expr_of}
use Rattle.cu_calculus.specs.Shape.{takes, takes_more}
use Rattle.cu_calculus.specs.Valid.{holds, is_arity, is_linear}
use Rattle.cu_calculus.specs.WellFormed.{all_differ, bound_by, fit_branches, fits, fits_body, fits_case, fits_expr, fits_function, fits_pattern, has_special, is_allowed, is_well_formed}
use Rattle.cu_flat.specs.Meaning.{body_meaning, expr_meaning}
use Rattle.cu_flat.specs.declared.expr.Expr as flat
use Rattle.cu_flat.specs.declared.expr.FlatBody.{FlatBody}
use Rattle.cu_machine.specs.Rewrite.{branch_for}
use Rattle.cu_machine.proofs.Fuel.{all_follow, both_true, left_true, right_true}
use Rattle.cu_step.specs.Inside.Building.{branch_nests, branches_nest, nests, nests_within, parts_of}

-- ---- tests

middle_true : (a b c : Bool) → (a && b && c) ≡ true → b ≡ true
middle_true a b c all = right_true a b (left_true (a && b) c all)

found_passes : {A : Type 0} (p : A → Bool) (xs : List A) (i : ℕ) (x : A) → list_all p xs ≡ true → slice_get xs i ≡ Some x → p x ≡ true
found_passes p [] i x all got = let no : ⊥ = cc in absurd no
found_passes p (y ∷ ys) zero x all got = let same : y ≡ x = cc in subst (λ z. p z ≡ true) same (left_true (p y) (list_all p ys) all)
found_passes p (y ∷ ys) (suc i) x all got = found_passes p ys i x (right_true (p y) (list_all p ys) all) got

functions_fit : (program : Code) → is_well_formed program ≡ true → list_all (fits_function program) program.functions ≡ true
functions_fit program well =
    let a = list_all (λ constructor. is_arity constructor.arity) program.constructors in
    let b = list_all (fits_function program) program.functions in
    let c = list_all (fits_case program) program.expressions in
    middle_true a b c (left_true (a && b && c) (has_special program) well)

cases_fit : (program : Code) → is_well_formed program ≡ true → list_all (fits_case program) program.expressions ≡ true
cases_fit program well =
    let a = list_all (λ constructor. is_arity constructor.arity) program.constructors in
    let b = list_all (fits_function program) program.functions in
    let c = list_all (fits_case program) program.expressions in
    right_true (a && b) c (left_true (a && b && c) (has_special program) well)

-- ---- what fits nests

module _ (part : List ℕ → ExprId → Bool) (q : ExprId → Bool) (each : (scope : List ℕ) (e : ExprId) → part scope e ≡ true → q e ≡ true) where
  two_nest : (first second : List ℕ) (e f : ExprId) → (part first e && part second f) ≡ true → list_all q (e ∷ f ∷ []) ≡ true
  two_nest first second e f fit =
      both_true (q e) (q f && true) (each first e (left_true (part first e) (part second f) fit))
      (both_true (q f) true (each second f (right_true (part first e) (part second f) fit)) refl)

  expr_nests : (program : Code) (scope : List ℕ) (o : Option Expr) → fits_expr part program scope o ≡ true → list_all q (parts_of o) ≡ true
  expr_nests program scope None fit = refl
  expr_nests program scope (Some (code.Variable x)) fit = refl
  expr_nests program scope (Some (code.Literal l)) fit = refl
  expr_nests program scope (Some (code.Whole h es)) fit =
      all_follow (part scope) q es (each scope)
      (right_true (is_allowed program h && takes (arity_of program h) (length es)) (list_all (part scope) es) fit)
  expr_nests program scope (Some (code.Part h es)) fit =
      all_follow (part scope) q es (each scope)
      (right_true (is_allowed program h && takes_more (arity_of program h) (length es)) (list_all (part scope) es) fit)
  expr_nests program scope (Some (code.Apply function operand)) fit = two_nest scope scope function operand fit
  expr_nests program scope (Some (code.Or left right)) fit = two_nest scope scope left right fit
  expr_nests program scope (Some (code.Let x bound body)) fit = two_nest _ (scope ++ x ∷ []) bound body fit
  expr_nests program scope (Some (code.Free x body)) fit = both_true (q body) true (each (scope ++ x ∷ []) body fit) refl
  expr_nests program scope (Some (code.Case mode kept e branches)) fit =
      both_true (q e) true
      (each scope e (middle_true (list_all (λ x. holds x scope) kept) (part scope e) (fit_branches part program kept branches) fit)) refl

fits_nests : (depth : ℕ) (program : Code) (scope : List ℕ) (e : ExprId) → fits depth program scope e ≡ true → nests_within depth program e ≡ true
unfolding nests_within
fits_nests zero program scope e fit = let no : ⊥ = true≢false (sym fit) in absurd no
fits_nests (suc depth) program scope e fit =
    expr_nests (fits depth program) (nests_within depth program) (λ inner part. fits_nests depth program inner part) program scope (expr_of program e) fit

-- ---- bodies and branches

pub body_nests : (program : Code) (f : FunId) (params : List ℕ) (e : ExprId) → is_well_formed program ≡ true → body_of program f ≡ Some (code.Rule params e)
    → nests program e ≡ true
body_nests program f params e well is = go (slice_get program.functions f.0) refl is
  where
    go : (o : Option Function) → slice_get program.functions f.0 ≡ o → elim o [ Some function ↦ Some function.body | None ↦ None ] ≡ Some (code.Rule params e)
        → nests program e ≡ true
    go None got body = let no : ⊥ = cc in absurd no
    go (Some function) got body =
        let rule : function.body ≡ code.Rule params e = cc in
        let fit : fits_body program function.arity function.body ≡ true =
        right_true (is_arity function.arity) (fits_body program function.arity function.body)
        (found_passes (fits_function program) program.functions f.0 function (functions_fit program well) got) in
        fits_nests (length program.expressions) program params e
        (right_true _ (fits (length program.expressions) program params e) (subst (λ (b : Body). fits_body program function.arity b ≡ true) rule fit))

branches_fit : (program : Code) (kept : List ℕ) (branches : List Branch) → fit_branches (fits (length program.expressions) program) program kept branches ≡ true
    → branches_nest program branches ≡ true
branches_fit program kept branches fit =
    let part = fits (length program.expressions) program in
    all_follow (λ (branch : Branch). fits_pattern program branch.pattern && part (kept ++ bound_by branch.pattern) branch.body) (λ (branch : Branch). nests program branch.body)
    branches
    (λ branch both.
    fits_nests (length program.expressions) program (kept ++ bound_by branch.pattern) branch.body
    (right_true (fits_pattern program branch.pattern) (part (kept ++ bound_by branch.pattern) branch.body) both))
    (right_true (is_linear kept && all_differ branches) _ fit)

pub case_nests : (program : Code) (e : ExprId) (mode : Mode) (kept : List ℕ) (scrutinee : ExprId) (branches : List Branch) → is_well_formed program ≡ true
    → Some (code.Case mode kept scrutinee branches) ≡ expr_of program e → branches_nest program branches ≡ true
case_nests program e mode kept scrutinee branches well is =
    branches_fit program kept branches
    (found_passes (fits_case program) program.expressions e.0 (code.Case mode kept scrutinee branches) (cases_fit program well) (sym is))

pub chosen_nests : (program : Code) (p : Shallow → Bool) (branches : List Branch) → branches_nest program branches ≡ true
    → branch_nests program (branch_for p branches) ≡ true
chosen_nests program p [] all = refl
chosen_nests program p (branch ∷ branches) all =
    go (p branch.pattern) (chosen_nests program p branches (right_true (nests program branch.body) (branches_nest program branches) all))
  where
    go : (b : Bool) → branch_nests program (branch_for p branches) ≡ true → branch_nests program (if b then Some branch else branch_for p branches) ≡ true
    go true others = left_true (nests program branch.body) (branches_nest program branches) all
    go false others = others

-- ---- what was read of the program

pub rule_nests : (program : Code) (f : FunId) (r : Option (Bor FlatBody)) (field : Bor FlatBody) (b : FlatBody) (params : List ℕ) (e : ExprId)
    → is_well_formed program ≡ true → option_map (λ (x : Bor FlatBody). body_meaning x.now) r ≡ body_of program f → r ≡ Some field → field.now ≡ b
    → body_meaning b ≡ code.Rule params e → nests program e ≡ true
rule_nests program f r field b params e well reads there is means =
    body_nests program f params e well
    (sym reads ∙ (ap (option_map (λ (x : Bor FlatBody). body_meaning x.now)) there ∙ ap (λ (x : FlatBody). Some (body_meaning x)) is ∙ ap Some means))

pub found_nests : (program : Code) (e : ExprId) (kept : List ℕ) (r : Option (Bor flat.Expr)) (field : Bor flat.Expr) (found : flat.Expr) (mode : Mode)
    (scrutinee : ExprId) (branches : List Branch) → is_well_formed program ≡ true → option_map (λ (x : Bor flat.Expr). expr_meaning kept x.now) r ≡ expr_of program e
    → r ≡ Some field → field.now ≡ found → expr_meaning kept found ≡ code.Case mode kept scrutinee branches → branches_nest program branches ≡ true
found_nests program e kept r field found mode scrutinee branches well reads there is means =
    case_nests program e mode kept scrutinee branches well
    (sym (sym reads ∙ (ap (option_map (λ (x : Bor flat.Expr). expr_meaning kept x.now)) there ∙ ap (λ (x : flat.Expr). Some (expr_meaning kept x)) is ∙ ap Some means)))
