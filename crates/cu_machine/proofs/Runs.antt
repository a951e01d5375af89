-- What a run gives is what becomes of the state that it reaches, and an answer is what is read off
-- that.
use Rattle.std.proofs.Common.{◌≡◌, ℕ, zero, suc, ◌-◌, ◌<◌, Bool, true, false, List, [], ◌∷◌, ◌++◌, Option, None, Some, if◌then◌else◌, refl, ap, sym, ◌∙◌, arith, length, map, nat_lt}
use Rattle.std.specs.List.{list_any}
use Rattle.cu_calculus.specs.Code.{Code}
use Rattle.cu_calculus.specs.Value.{Value}
use Rattle.cu_machine.specs.declared.Limits.{Limits}
use Rattle.cu_machine.specs.Graph.{Graph}
use Rattle.cu_machine.specs.Need.{At, Dead, Done, Need, Wait, need_all}
use Rattle.cu_machine.specs.Next.{Answer, Blocked, Go, Halts, LevelEvent, Next, On, Reading, after_level, is_above, is_too_large, moved, next, next_by, read, searched, spelled_all, stepped, too_large, unless_one_is_large, Stops, delivered}
use Rattle.cu_machine.specs.declared.Stop.TheVariants.{TooWide}
use Rattle.cu_machine.specs.Rewrite.{Become, Collect, Move, Overflows, move}
use Rattle.cu_machine.specs.Run.{only_state, reached_on, reading_at, run, run_on}
use Rattle.cu_machine.specs.Spell.{cells_of_all}
use Rattle.cu_machine.specs.State.{Branch, Idle, MoreStates, NoState, Running, State, States, call_on, states_of}

-- ---- runs

pub reaches_by : (program : Code) (limits : Limits) (state : State) (onward : State → Next) (others : State → State) (o : Option State)
    → ((after : State) → onward after ≡ next program limits (others after))
    → elim o as (λ x. Next) [ Some after ↦ onward after | None ↦ next program limits state ]
    ≡ next program limits (elim o as (λ x. State) [ Some after ↦ others after | None ↦ state ])
reaches_by program limits state onward others (Some after) each = each after
reaches_by program limits state onward others None each = refl

pub run_reaches : (more : ℕ) (program : Code) (limits : Limits) (state : State) → run_on more program limits state ≡ next program limits (reached_on more program limits state)
unfolding run_on reached_on
run_reaches zero program limits state = refl
run_reaches (suc more) program limits state =
    reaches_by program limits state (run_on more program limits) (reached_on more program limits) (only_state (next program limits state))
    (run_reaches more program limits)

-- a run of one step is a step, as functions
pub run_of_one : (stride : ℕ) (program : Code) (limits : Limits) → stride ≡ 1 → run stride program limits ≡ next program limits
unfolding run_on
run_of_one stride program limits one = ap (λ (n : ℕ). run n program limits) one

pub run_alone : (program : Code) (limits : Limits) (steps : ℕ) (state after : State) → 1 < steps → next program limits state ≡ Go (after ∷ [])
    → run steps program limits state ≡ run (steps - 1) program limits after
unfolding run_on
run_alone program limits zero state after many is = let none_left : ⊥ = omega arith in absurd none_left
run_alone program limits (suc zero) state after many is = let none_left : ⊥ = omega arith in absurd none_left
run_alone program limits (suc (suc more)) state after many is =
    let less : suc (suc more) - 1 ≡ suc more = omega arith in
    let least : suc (suc more) - 1 - 1 ≡ more = omega arith in
    ap (λ n. run_on n program limits state) less
    ∙ ap (λ (event : Next). elim (only_state event) as (λ x. Next) [ Some one ↦ run_on more program limits one | None ↦ event ]) is
    ∙ ap (λ n. run_on n program limits after) (sym least)

pub run_otherwise : (more : ℕ) (program : Code) (limits : Limits) (state : State) → only_state (next program limits state) ≡ None
    → run_on more program limits state ≡ next program limits state
unfolding run_on
run_otherwise zero program limits state is = refl
run_otherwise (suc more) program limits state is =
    ap (λ (o : Option State). elim o as (λ x. Next) [ Some one ↦ run_on more program limits one | None ↦ next program limits state ]) is

-- ---- answers

pub no_answer_if : (b : Bool) (limits : Limits) (other : Next) (r : Reading) → (other ≡ Answer r → ⊥) → (if b then too_large limits else other) ≡ Answer r → ⊥
no_answer_if true limits other r never same = cc
no_answer_if false limits other r never same = never same

pub no_answer_one : (limits : Limits) (states : List State) (r : Reading) → unless_one_is_large limits states ≡ Answer r → ⊥
no_answer_one limits states r same = no_answer_if (list_any (is_too_large limits) states) limits (Go states) r (λ is. cc) same

pub no_answer_moved : (program : Code) (limits : Limits) (root : ℕ) (goals : List ℕ) (graph : Graph) (id : ℕ) (what : Move) (r : Reading)
    → moved program limits root goals graph id what ≡ Answer r → ⊥
no_answer_moved program limits root goals graph id (Become graphs) r same = no_answer_one limits (map (λ after. Branch after root goals Idle) graphs) r same
no_answer_moved program limits root goals graph id (Overflows operation m n) r same = cc
no_answer_moved program limits root goals graph id (Collect f arguments) r same =
    no_answer_if (is_too_large limits (call_on program f arguments)) limits
    (Go (Branch graph root goals (Running id [] (MoreStates (call_on program f arguments) NoState)) ∷ [])) r (λ is. cc) same

pub no_answer_level : (limits : Limits) (graph : Graph) (root : ℕ) (goals : List ℕ) (id : ℕ) (found : List Value) (event : LevelEvent) (r : Reading)
    → after_level limits graph root goals id found event ≡ Answer r → ⊥
no_answer_level limits graph root goals id found Blocked r same = cc
no_answer_level limits graph root goals id found (Halts stop) r same = cc
no_answer_level limits graph root goals id found (On values states) r same = go (nat_lt limits.width (length states)) same
  where
    go : (b : Bool) → (if b then Stops (TooWide (length states)) else Go (Branch graph root goals (Running id (found ++ values) (states_of states)) ∷ [])) ≡ Answer r → ⊥
    go true is = cc
    go false is = cc

pub no_answer_search : (program : Code) (limits : Limits) (graph : Graph) (root : ℕ) (goals : List ℕ) (id : ℕ) (found : List Value) (level : States) (event : LevelEvent)
    (r : Reading) → searched program limits graph root goals id found level event ≡ Answer r → ⊥
no_answer_search program limits graph root goals id found NoState event r same =
    no_answer_one limits (Branch (delivered program graph id found) root goals Idle ∷ []) r same
no_answer_search program limits graph root goals id found (MoreStates state states) event r same = no_answer_level limits graph root goals id found event r same

pub answer_if : (b : Bool) (limits : Limits) (other : Next) (r : Reading) → (if b then too_large limits else other) ≡ Answer r → other ≡ Answer r
answer_if true limits other r same = let none_left : ⊥ = cc in absurd none_left
answer_if false limits other r same = same

pub answer_is : (r s : Reading) → Answer r ≡ Answer s → s ≡ r
answer_is r s same = cc

pub answer_by : (program : Code) (limits : Limits) (graph : Graph) (root : ℕ) (goals : List ℕ) (what : Need) (r : Reading)
    → next_by program limits graph root goals what ≡ Answer r → r ≡ read graph root goals
answer_by program limits graph root goals Done r same =
    let is : Answer (read graph root goals) ≡ Answer r =
    answer_if (is_above limits (cells_of_all (spelled_all graph root goals))) limits (Answer (read graph root goals)) r same in
    answer_is (read graph root goals) r is
answer_by program limits graph root goals Dead r same = let none_left : ⊥ = cc in absurd none_left
answer_by program limits graph root goals (Wait ids) r same = let none_left : ⊥ = cc in absurd none_left
answer_by program limits graph root goals (At id) r same = absurd (no_answer_moved program limits root goals graph id (move program graph id) r same)

-- an answer is what is read off the state
pub answer_read : (program : Code) (limits : Limits) (state : State) (r : Reading) → next program limits state ≡ Answer r → r ≡ reading_at state
unfolding next
answer_read program limits (Branch graph root goals Idle) r same =
    answer_by program limits graph root goals (need_all program.special.truth graph root) r
    (answer_if (is_above limits (length graph)) limits (next_by program limits graph root goals (need_all program.special.truth graph root)) r same)
answer_read program limits (Branch graph root goals (Running id found level)) r same =
    absurd (no_answer_search program limits graph root goals id found level (stepped program limits level) r
    (answer_if (is_above limits (length graph)) limits (searched program limits graph root goals id found level (stepped program limits level)) r same))
