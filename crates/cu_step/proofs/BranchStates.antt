-- The state of a branch in which a search runs, by the branches of its level.
use Rattle.std.proofs.Common.{◌≡◌, false, List, map, ℕ, refl, ap, sym, ◌∙◌}
use Rattle.std.specs.declared.alloc.Global.{Global}
use Rattle.std.specs.declared.vec.Vec.{Vec}
use Rattle.cu_calculus.specs.Value.{Value}
use Rattle.cu_graph.specs.declared.store.Store.{Ghosts}
use Rattle.cu_machine.specs.Graph.{Graph}
use Rattle.cu_machine.specs.State as state
use Rattle.cu_machine.specs.State.{MoreStates, State, States, states_of}
use Rattle.cu_step.specs.declared.branch.BranchOver.{BranchOver}
use Rattle.cu_step.specs.declared.focus.Focus.{Focus}
use Rattle.cu_step.specs.declared.branch.Search as search
use Rattle.cu_step.specs.declared.branch.Search.TheBlock.{hidden-the_row-BranchOver-0}
use Rattle.cu_step.specs.declared.branch.Search.TheVariants as variant
use Rattle.cu_step.specs.declared.branch.Search.{Row_of-BranchOver, Search, items-the_row-BranchOver, items_hidden-the_row-BranchOver-0}
use Rattle.cu_step.specs.Outcome.{is_running, row_over, search_of, search_over, state_of}

-- the state of a branch by what it keeps of its graph
abbrev state_over : {F : Type 0} → (F → Graph) → (F → ℕ) → BranchOver F → State
state_over graph root branch = state.Branch (graph branch.focus) (root branch.focus) branch.goals.items (search_over graph root branch.search)

rows : {F : Type 0} (graph : F → Graph) (root : F → ℕ) (n : _) (row : Row_of-BranchOver F n)
    → row_over graph root row ≡ states_of (map (state_over graph root) (items-the_row-BranchOver F n row))
rows graph root n search.end_of-BranchOver = refl
rows graph root n (search.more_of-BranchOver focus goals inner row) =
    ap (MoreStates (state.Branch (graph focus) (root focus) goals.items (search_over graph root inner))) (rows graph root _ row)

running_over : {F : Type 0} (graph : F → Graph) (root : F → ℕ) (call : ℕ) (found : Vec Value Global) (level : Vec (BranchOver F) Global)
    → search_over graph root (variant.Running call found level) ≡ state.Running call found.items (states_of (map (state_over graph root) level.items))
running_over {F} graph root call found level =
    ap (state.Running call found.items)
    (rows graph root _ (hidden-the_row-BranchOver-0 F level) ∙ ap (λ (bs : List (BranchOver F)). states_of (map (state_over graph root) bs)) (items_hidden-the_row-BranchOver-0 F level))

pub search_of-Running : {S : Type 0} {G : Ghosts S} (content : S → Graph) (call : ℕ) (found : Vec Value Global) (level : Vec (BranchOver (Focus S G)) Global)
    → search_of content (variant.Running call found level) ≡ state.Running call found.items (states_of (map (state_of content) level.items))
search_of-Running content call found level = running_over (λ f. content f.store) (λ f. f.root) call found level

-- the parts of a branch in which a search runs
pub opened_state : {S : Type 0} {G : Ghosts S} (content : S → Graph) (graph : Graph) (root : ℕ) (goals : List ℕ) (s : Search (Focus S G)) (call : ℕ) (found : Vec Value Global)
    (level : Vec (BranchOver (Focus S G)) Global)
    → s ≡ variant.Running call found level
    → state.Branch graph root goals (state.Running call found.items (states_of (map (state_of content) level.items))) ≡ state.Branch graph root goals (search_of content s)
opened_state content graph root goals s call found level is =
    ap (state.Branch graph root goals) (sym (ap (search_of content) is ∙ search_of-Running content call found level))

-- where none runs
pub idle_search : (graph : Graph) (root : ℕ) (goals : List ℕ) (s : state.Search) → is_running (state.Branch graph root goals s) ≡ false → s ≡ state.Idle
idle_search graph root goals state.Idle idle = refl
idle_search graph root goals (state.Running id found level) idle = let no : ⊥ = cc in absurd no
