-- The next event of a state, and what its search and its limits ask for.
use Rattle.std.proofs.Common.{◌≡◌, ℕ, zero, suc, ◌<◌, ◌++◌, ◌||◌, Bool, true, false, not, List, [], ◌∷◌, Option, Some, None, IsTrue, slice_get, get_or, length, map, refl, sym, ap, ◌∙◌, arith, lt-ltb, if◌then◌else◌}
use Rattle.std.specs.List.{All, list_any}
use Rattle.std.specs.Option.{IsSome}
use Rattle.cu_calculus.specs.Code as code
use Rattle.cu_calculus.specs.Code.{Code, arity_of, body_of, function_arity, is_rule}
use Rattle.cu_calculus.specs.WellFormed.{is_well_formed}
use Rattle.cu_calculus.specs.declared.ConId.{ConId}
use Rattle.cu_calculus.specs.declared.FunId.{FunId}
use Rattle.cu_calculus.specs.declared.Head.TheVariants.{Fun}
use Rattle.cu_graph.specs.declared.store.Store.{Ghosts}
use Rattle.cu_machine.specs.declared.Limits.{Limits}
use Rattle.cu_machine.specs.declared.Kind.{Kind}
use Rattle.cu_machine.specs.declared.Kind.TheVariants as kind
use Rattle.cu_machine.specs.Build.{kind_of_call}
use Rattle.cu_machine.specs.Graph.{Graph}
use Rattle.cu_machine.specs.Need.{At, Throughout, need_all}
use Rattle.cu_machine.specs.Next as next_def
use Rattle.cu_machine.specs.Next.{Answer, Go, Next, answered, is_above, is_too_large, next, next_by, read, spelled_all, too_large, unless_one_is_large}
use Rattle.cu_machine.specs.State.{Branch, Idle, State, free_nodes, numbers, start_of}
use Rattle.cu_machine.specs.Validity.{ArgumentsThere, IsAcyclic, IsValid, IsValidBranch, are_places, is_set_call}
use Rattle.cu_machine.proofs.NeedPlaces.{need_at_redex}
use Rattle.cu_machine.proofs.Searches.{follows_valid}
use Rattle.cu_machine.proofs.Successors.{mapped_among}
use Rattle.cu_step.specs.Outcome.{branches_of, next_of, state_of}
use Rattle.cu_step.specs.declared.branch.BranchOver.{BranchOver}
use Rattle.cu_step.specs.declared.focus.Focus.{Focus}
use Rattle.cu_step.specs.declared.Outcome as step_outcome
use Rattle.cu_step.specs.declared.Outcome.TheVariants as outcome
use Rattle.cu_step.proofs.Frees.{length_frees}

-- what a state's value needs is a node, and no set function's call where there is none
pub need_place : (truth : ConId) (graph : Graph) (root id : ℕ) → ArgumentsThere graph → root < length graph
    → At id ≡ need_all truth graph root → id < length graph
need_place truth graph root id there within is =
    (need_at_redex (length graph) truth graph Throughout root id there (lt-ltb root (length graph) within) (sym is)).0

-- a node that isn't a set function's call
pub no_set_call : (k : Kind) → ((f : FunId) → k ≡ kind.SetCall f → ⊥) → not (is_set_call k) ≡ true
no_set_call (kind.SetCall f) other = absurd (other f refl)
no_set_call _ other = refl

pub ruleset steps = (need_place)

-- ---- too large, or not

module _ (program : Code) (limits : Limits) (graph : Graph) (root : ℕ) (goals : List ℕ) where
  pub next_large : is_above limits (length graph) ≡ true → next program limits (Branch graph root goals Idle) ≡ too_large limits
  unfolding next
  next_large above = rw above refl

  pub next_small : is_above limits (length graph) ≡ false
      → next program limits (Branch graph root goals Idle) ≡ next_by program limits graph root goals (need_all program.special.truth graph root)
  unfolding next
  next_small within = rw within refl

-- what was read is the answer, and what is too large isn't read
pub answer_there : (limits : Limits) (graph : Graph) (root : ℕ) (goals : List ℕ) (large : Bool) (reading : next_def.Reading)
    → Some reading ≡ (if large then None else Some (read graph root goals)) → Answer reading ≡ (if large then too_large limits else Answer (read graph root goals))
answer_there limits graph root goals true reading is = cc
answer_there limits graph root goals false reading is = cc

pub answer_large : (limits : Limits) (graph : Graph) (root : ℕ) (goals : List ℕ) (large : Bool) (stop : Next)
    → None ≡ (if large then None else Some (read graph root goals)) → stop ≡ too_large limits
    → stop ≡ (if large then too_large limits else Answer (read graph root goals))
answer_large limits graph root goals true stop is same = same
answer_large limits graph root goals false stop is same = cc

-- ---- validity

pub branch_valid : (program : Code) (graph : Graph) (root : ℕ) (goals : List ℕ) → IsValid program (Branch graph root goals Idle)
    → IsValidBranch program graph root goals
unfolding IsValid
branch_valid program graph root goals valid = valid.0

module _ (program : Code) (graph : Graph) (root : ℕ) (goals : List ℕ) (valid : IsValid program (Branch graph root goals Idle)) where
  pub valid_root : root < length graph
  valid_root = (branch_valid program graph root goals valid).root_there

  pub valid_goals : are_places (length graph) goals ≡ true
  valid_goals = (branch_valid program graph root goals valid).goals_there

  pub valid_arguments : ArgumentsThere graph
  valid_arguments = (branch_valid program graph root goals valid).arguments

  pub valid_acyclic : IsAcyclic graph
  valid_acyclic = (branch_valid program graph root goals valid).acyclic

none_left : {B : Type 0} (P : B → Type 0) → All P []
none_left P = λ k d below. let no : ⊥ = omega arith in absurd no

-- one branch alone
pub one_valid : {B : Type 0} (P : B → Type 0) (branch : B) → P branch → All P (branch ∷ [])
one_valid P branch valid zero d below = valid
one_valid P branch valid (suc k) d below = let no : ⊥ = omega arith in absurd no

-- the branches that follow a valid state are valid
module _ {S : Type 0} {G : Ghosts S} (content : S → Graph) (program : Code) (limits : Limits) (state : State) (well : IsTrue (is_well_formed program)) (valid : IsValid program state) where
  go_valid : (branches : List (BranchOver (Focus S G))) → Go (map (state_of content) branches) ≡ next program limits state
      → All (λ (branch : BranchOver (Focus S G)). IsValid program (state_of content branch)) branches
  go_valid branches is =
      λ k d below. follows_valid program limits well state (state_of content (get_or branches k d)) (map (state_of content) branches) valid (sym is)
      (mapped_among (state_of content) branches k d below)

  pub follow_valid : (o : step_outcome.Outcome S G) → next_of content o ≡ next program limits state
      → All (λ (branch : BranchOver (Focus S G)). IsValid program (state_of content branch)) (branches_of o)
  follow_valid (outcome.On branch) is = go_valid (branch ∷ []) is
  follow_valid (outcome.Go branches) is = go_valid branches.items is
  follow_valid (outcome.Inner branch) is = go_valid (branch ∷ []) is
  follow_valid _ is = none_left _

-- ---- several graphs

module _ {S : Type 0} (content : S → Graph) (f : Graph → State) where
  -- the branches of graphs that are kept in stores, and whether one of them is large
  stores_map : (stores : List S) → map f (map content stores) ≡ map (λ store. f (content store)) stores
  stores_map [] = refl
  stores_map (store ∷ stores) = ap (λ (rest : List State). f (content store) ∷ rest) (stores_map stores)

  stores_any : (test : State → Bool) (stores : List S) → list_any test (map f (map content stores)) ≡ list_any (λ store. test (f (content store))) stores
  stores_any test [] = refl
  stores_any test (store ∷ stores) = ap (λ b. test (f (content store)) || b) (stores_any test stores)

module _ {S : Type 0} (content : S → Graph) (limits : Limits) (root : ℕ) (goals : List ℕ) where
  pub one_is_large : (stores : List S) → list_any (λ store. is_above limits (length (content store))) stores ≡ true
      → unless_one_is_large limits (map (λ after. Branch after root goals Idle) (map content stores)) ≡ too_large limits
  one_is_large stores large =
      let test : Bool = list_any (is_too_large limits) (map (λ after. Branch after root goals Idle) (map content stores)) in
      let any : test ≡ true = stores_any content (λ after. Branch after root goals Idle) (is_too_large limits) stores ∙ large in
      ap (λ (b : Bool). if b then too_large limits else Go (map (λ after. Branch after root goals Idle) (map content stores))) any

  pub none_is_large : (stores : List S) (states : List State) → list_any (λ store. is_above limits (length (content store))) stores ≡ false
      → states ≡ map (λ store. Branch (content store) root goals Idle) stores
      → Go states ≡ unless_one_is_large limits (map (λ after. Branch after root goals Idle) (map content stores))
  none_is_large stores states small is =
      let test : Bool = list_any (is_too_large limits) (map (λ after. Branch after root goals Idle) (map content stores)) in
      let any : test ≡ false = stores_any content (λ after. Branch after root goals Idle) (is_too_large limits) stores ∙ small in
      ap Go (is ∙ sym (stores_map content (λ after. Branch after root goals Idle) stores))
      ∙ sym (ap (λ (b : Bool). if b then too_large limits else Go (map (λ after. Branch after root goals Idle) (map content stores))) any)

-- ---- the start

rule_arity_of : (o : Option code.Function) → is_rule (elim o [ Some function ↦ Some function.body | None ↦ None ]) ≡ true
    → IsSome (elim o [ Some function ↦ Some function.arity | None ↦ None ])
rule_arity_of None rule = rule
rule_arity_of (Some function) rule = refl

pub rule_has_arity : (program : Code) (goal : FunId) → is_rule (body_of program goal) ≡ true → IsSome (arity_of program (Fun goal))
rule_has_arity program goal rule = rule_arity_of (slice_get program.functions goal.0) rule

pub start_is : (program : Code) (goal : FunId) (empty middle after : Graph) (goals : List ℕ) (n root : ℕ) (k : Kind)
    → Some n ≡ function_arity program goal → empty ≡ [] → goals ≡ numbers (length empty) n → middle ≡ empty ++ free_nodes n
    → root ≡ length middle → k ≡ kind_of_call goal (body_of program goal) → after ≡ middle ++ record { kind = k; args = goals } ∷ []
    → Branch after root goals Idle ≡ start_of program goal
start_is program goal empty middle after goals n root k arity nothing numbered prefix there kinds suffix =
    let long : length middle ≡ n = ap length prefix ∙ (ap (λ (g : Graph). length (g ++ free_nodes n)) nothing ∙ length_frees n) in
    rw (← arity, suffix, there, long, prefix, numbered, kinds, nothing) refl
