-- A run, step by step.
use Rattle.std.proofs.Common.{◌≡◌, ℕ, zero, suc, ◌-◌, ◌<◌, List, [], ◌∷◌, ◌++◌, None, Some, length, map, refl, ap, sym, ◌∙◌, subst, arith, length-append}
use Rattle.std.specs.List.{All}
use Rattle.cu_calculus.specs.Code.{Code}
use Rattle.cu_machine.specs.declared.Limits.{Limits}
use Rattle.cu_graph.specs.declared.store.Store.{Ghosts}
use Rattle.cu_machine.specs.Graph.{Graph}
use Rattle.cu_machine.specs.Next.{Go, Next, next}
use Rattle.cu_machine.specs.Run.{only_state, run_on}
use Rattle.cu_machine.specs.State.{State}
use Rattle.cu_machine.specs.Validity.{IsValid}
use Rattle.cu_machine.proofs.Runs.{run_otherwise}
use Rattle.cu_step.specs.declared.branch.BranchOver.{BranchOver}
use Rattle.cu_step.specs.declared.focus.Focus.{Focus}
use Rattle.cu_step.specs.declared.Outcome.{Outcome}
use Rattle.cu_step.specs.declared.Outcome.TheVariants as outcome
use Rattle.cu_step.specs.Outcome.{branches_of, next_of, state_of}

-- ---- whether one branch follows

pub none_alone : {S : Type 0} {G : Ghosts S} (content : S → Graph) (branches : List (BranchOver (Focus S G))) → (length branches ≡ 1 → ⊥) → only_state (Go (map (state_of content) branches)) ≡ None
none_alone content [] other = refl
none_alone content (branch ∷ []) other = absurd (other refl)
none_alone content (branch ∷ next_one ∷ branches) other = refl

pub one_alone : {B : Type 0} (branches rest : List B) (branch : B) → length branches ≡ 1 → branches ≡ rest ++ branch ∷ [] → branches ≡ branch ∷ []
one_alone branches [] branch one is = is
one_alone branches (other ∷ rest) branch one is =
    let long = ap length is in
    let both = length-append rest (branch ∷ []) in
    let no : ⊥ = omega arith in absurd no

-- what follows is one branch, where branches are one
pub one_follows : {S : Type 0} {G : Ghosts S} (content : S → Graph) (o : Outcome S G) (branch : BranchOver (Focus S G)) → branches_of o ≡ branch ∷ [] → next_of content o ≡ Go (state_of content branch ∷ [])
one_follows content (outcome.On other) branch is = ap (λ (bs : List (BranchOver _)). Go (map (state_of content) bs)) is
one_follows content (outcome.Go branches) branch is = ap (λ (bs : List (BranchOver _)). Go (map (state_of content) bs)) is
one_follows content (outcome.Inner inner) branch is = ap (λ (bs : List (BranchOver _)). Go (map (state_of content) bs)) is
one_follows content _ branch is = let no : ⊥ = cc in absurd no

-- ---- the run

-- so many steps that are left give what all give
pub record Runs (program : Code) (limits : Limits) (start : State) (steps : ℕ) (state : State) (more : ℕ) : Type 0 where
  pub run : run_on more program limits state ≡ run_on steps program limits start
  pub valid : IsValid program state

one_less : (program : Code) (limits : Limits) (state after : State) (n : ℕ) → 0 < n → next program limits state ≡ Go (after ∷ [])
    → run_on n program limits state ≡ run_on (n - 1) program limits after
unfolding run_on
one_less program limits state after zero some is = let no : ⊥ = omega arith in absurd no
one_less program limits state after (suc n) some is =
    let e : suc n - 1 ≡ n = omega arith in
    ap (λ (event : Next). elim (only_state event) as (λ x. Next) [ Some s ↦ run_on n program limits s | None ↦ next program limits state ]) is
    ∙ ap (λ (k : ℕ). run_on k program limits after) (sym e)

pub runs_on : (program : Code) (limits : Limits) (start : State) (steps : ℕ) (state after : State) (more left : ℕ) → 0 < more → left ≡ more - 1
    → next program limits state ≡ Go (after ∷ []) → IsValid program after → Runs program limits start steps state more → Runs program limits start steps after left
runs_on program limits start steps state after more left some fewer is valid before = record {
  run = ap (λ (n : ℕ). run_on n program limits after) fewer ∙ sym (one_less program limits state after more some is) ∙ before.run;
  valid = valid;
}

pub runs_out : (program : Code) (limits : Limits) (start : State) (steps : ℕ) (state : State) (more : ℕ) (event : Next) → event ≡ next program limits state → only_state event ≡ None
    → Runs program limits start steps state more → event ≡ run_on steps program limits start
runs_out program limits start steps state more event is other before =
    is ∙ sym (run_otherwise more program limits state (ap only_state (sym is) ∙ other)) ∙ before.run

pub runs_last : (program : Code) (limits : Limits) (start : State) (steps : ℕ) (state : State) (more : ℕ) (event : Next) → event ≡ next program limits state → more ≡ 0
    → Runs program limits start steps state more → event ≡ run_on steps program limits start
unfolding run_on
runs_last program limits start steps state more event is none before =
    is ∙ ap (λ (n : ℕ). run_on n program limits state) (sym none) ∙ before.run

pub valid_only : {B : Type 0} (P : B → Type 0) (branches : List B) (branch : B) → branches ≡ branch ∷ [] → All P branches → P branch
valid_only P branches branch is all = (subst (λ bs. All P bs) is all) 0 branch (omega arith)
