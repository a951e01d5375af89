-- The test whether a term is the call of a goal on its variables, and loops over terms.
use Rattle.std.proofs.Common.{◌≡◌, ◌∙◌, ℕ, zero, suc, ◌+◌, ◌<◌, ◌≤◌, Bool, true, false, ◌&&◌, List, ap, ap₂, arith, drop, eq-eqb, eqb-true, get_or, length, nat_eq, refl, sym}
use Rattle.std.proofs.lemmas.Bool.{and_from, and_parts}
use Rattle.std.proofs.lemmas.List.{at_drop_all}
use Rattle.std.specs.declared.alloc.Global.{Global}
use Rattle.std.specs.declared.vec.Vec.{Vec}
use Rattle.cu_calculus.specs.declared.Head.{Head}
use Rattle.cu_calculus.specs.declared.Head.TheVariants.{Fun}
use Rattle.cu_calculus.specs.Answered.{same_head}
use Rattle.cu_calculus.specs.Claims.{variables_from}
use Rattle.cu_calculus.specs.Term as clean
use Rattle.cu_calculus.specs.Term.{Terms}
use Rattle.cu_calculus.specs.Valid.{term_count}
use Rattle.cu_calculus.proofs.Answering.{head_is, head_itself}
use Rattle.cu_kernel.specs.Kernel.{Goal}
use Rattle.cu_kernel.proofs.Variants.{term_apply, term_case, term_free, term_let, term_lit, term_or, term_part, term_var, term_variant, term_whole}
use Rattle.cu_kernel.specs.TermsOf.{term_of, term_of-Apply, term_of-Case, term_of-Free, term_of-Let, term_of-Lit, term_of-Or, term_of-Part, term_of-Var, term_of-Whole, terms_of}
use Rattle.cu_kernel.specs.declared.term.Term.TheVariants as term
use Rattle.cu_kernel.specs.declared.term.Term.{Term}
use Rattle.cu_crwl.proofs.Pairwise.{left}
use Rattle.cu_verdict.specs.Inside.Calls.{are_variables, is_goal_call, is_variable}

-- ---- variables

variable_is : (x : ℕ) (t : clean.Term) → is_variable x t ≡ true → t ≡ clean.Variable x
variable_is x (clean.Variable y) e = ap clean.Variable (eqb-true y x e)
variable_is x t e = let never : ⊥ = cc in absurd never

variables_are : (x n : ℕ) (ts : Terms) → term_count ts ≡ n → are_variables x ts ≡ true → ts ≡ variables_from x n
variables_are x zero clean.NoTerm size e = refl
variables_are x zero (clean.MoreTerms t ts) size e = let never : ⊥ = omega (arith, size) in absurd never
variables_are x (suc n) clean.NoTerm size e = let never : ⊥ = omega (arith, size) in absurd never
variables_are x (suc n) (clean.MoreTerms t ts) size e =
    let parts = and_parts (is_variable x t) (are_variables (x + 1) ts) e in
    ap₂ clean.MoreTerms (variable_is x t parts.0) (variables_are (x + 1) n ts (omega (arith, size)) parts.1)

variables_pass : (x n : ℕ) → are_variables x (variables_from x n) ≡ true
variables_pass x zero = refl
variables_pass x (suc n) = and_from (nat_eq x x) (are_variables (x + 1) (variables_from (x + 1) n)) (eq-eqb x x refl) (variables_pass (x + 1) n)

variables_count : (x n : ℕ) → term_count (variables_from x n) ≡ n
variables_count x zero = refl
variables_count x (suc n) = omega (arith, variables_count (x + 1) n)

-- ---- calls

abbrev called : Goal → clean.Term
called goal = clean.Whole (Fun goal.function) (variables_from 0 (length goal.names))

pub call_is : (goal : Goal) (t : clean.Term) → is_goal_call goal t ≡ true → t ≡ called goal
call_is goal (clean.Whole h ts) e =
    let sizes = nat_eq (term_count ts) (length goal.names) in
    let parts = and_parts (same_head h (Fun goal.function)) (sizes && are_variables 0 ts) e in
    let last = and_parts sizes (are_variables 0 ts) parts.1 in
    ap₂ clean.Whole (head_is h (Fun goal.function) parts.0)
    (variables_are 0 (length goal.names) ts (eqb-true (term_count ts) (length goal.names) last.0) last.1)
call_is goal t e = let never : ⊥ = cc in absurd never

call_passes : (goal : Goal) → is_goal_call goal (called goal) ≡ true
call_passes goal =
    let n = length goal.names in
    and_from (same_head (Fun goal.function) (Fun goal.function)) (nat_eq (term_count (variables_from 0 n)) n && are_variables 0 (variables_from 0 n))
    (head_itself (Fun goal.function))
    (and_from (nat_eq (term_count (variables_from 0 n)) n) (are_variables 0 (variables_from 0 n))
    (eq-eqb (term_count (variables_from 0 n)) n (variables_count 0 n)) (variables_pass 0 n))

pub no_call : (goal : Goal) (t : clean.Term) → is_goal_call goal t ≡ false → t ≡ called goal → ⊥
no_call goal t e is = let same : true ≡ false = sym (call_passes goal) ∙ ap (is_goal_call goal) (sym is) ∙ e in cc same

-- ---- terms of other forms

-- a term that isn't a variable passes no test for one
pub no_variable : (x : ℕ) (t : Term) → ((y : ℕ) → t ≡ term.Var y → ⊥) → false ≡ is_variable x (term_of t)
no_variable x t other =
    elim (term_variant t) [
      | term_var y e ↦ absurd (other y e)
      | term_lit l e ↦ rw (e, term_of-Lit l) refl
      | term_whole h ts e ↦ rw (e, term_of-Whole h ts) refl
      | term_part h ts e ↦ rw (e, term_of-Part h ts) refl
      | term_apply f a e ↦ rw (e, term_of-Apply f a) refl
      | term_let y a b e ↦ rw (e, term_of-Let y a b) refl
      | term_free y b e ↦ rw (e, term_of-Free y b) refl
      | term_or a b e ↦ rw (e, term_of-Or a b) refl
      | term_case m s rows e ↦ rw (e, term_of-Case m s rows) refl
    ]

-- a term that isn't a whole call isn't that of a goal
pub no_whole : (goal : Goal) (t : Term) → ((h : Head) (ts : Vec Term Global) → t ≡ term.Whole h ts → ⊥) → false ≡ is_goal_call goal (term_of t)
no_whole goal t other =
    elim (term_variant t) [
      | term_var y e ↦ rw (e, term_of-Var y) refl
      | term_lit l e ↦ rw (e, term_of-Lit l) refl
      | term_whole h ts e ↦ absurd (other h ts e)
      | term_part h ts e ↦ rw (e, term_of-Part h ts) refl
      | term_apply f a e ↦ rw (e, term_of-Apply f a) refl
      | term_let y a b e ↦ rw (e, term_of-Let y a b) refl
      | term_free y b e ↦ rw (e, term_of-Free y b) refl
      | term_or a b e ↦ rw (e, term_of-Or a b) refl
      | term_case m s rows e ↦ rw (e, term_of-Case m s rows) refl
    ]

-- ---- loops over terms

pub next_is : (ts : List Term) (i : ℕ) (t : Term) → i < length ts → t ≡ get_or ts i t
    → are_variables i (terms_of (drop i ts)) ≡ is_variable i (term_of t) && are_variables (i + 1) (terms_of (drop (i + 1) ts))
next_is ts i t below is = ap (λ (us : List Term). are_variables i (terms_of us)) (left ts i t below is)

pub none_left : (ts : List Term) (i : ℕ) → length ts ≤ i → are_variables i (terms_of (drop i ts)) ≡ true
none_left ts i past = at_drop_all (λ (us : List Term). are_variables i (terms_of us)) ts i past

pub fails : (rest : Bool) (test : Bool) → test ≡ false → (test && rest) ≡ false
fails rest test e = ap (λ (b : Bool). b && rest) e

pub passes : (rest : Bool) (test : Bool) → test ≡ true → (test && rest) ≡ rest
passes rest test e = ap (λ (b : Bool). b && rest) e
