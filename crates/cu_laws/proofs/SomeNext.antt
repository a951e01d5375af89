-- One of the states that follow loses no value.
use Rattle.std.proofs.Common.{◌≡◌, ℕ, inl, Bool, true, false, List, [], ◌∷◌, ◌++◌, IsTrue, if◌then◌else◌, refl, sym, ◌∙◌, subst, length, map, nat_lt}
use Rattle.std.specs.List.{list_all, list_any}
use Rattle.cu_calculus.specs.Code.{Code}
use Rattle.cu_calculus.specs.FlatProgram.{program_of}
use Rattle.cu_calculus.specs.Gives.{Claim}
use Rattle.cu_calculus.specs.Proof.{is_claim_of}
use Rattle.cu_calculus.specs.Value.{Value}
use Rattle.cu_calculus.specs.WellFormed.{is_well_formed}
use Rattle.cu_machine.specs.declared.Limits.{Limits}
use Rattle.cu_machine.specs.declared.Stop.TheVariants.{TooWide}
use Rattle.cu_machine.specs.Among.{Among}
use Rattle.cu_machine.specs.Graph.{Graph, put, stuck}
use Rattle.cu_machine.specs.Need.{At, Dead, Done, Need, Wait, need_all}
use Rattle.cu_machine.specs.Next.{Answer, Blocked, Fails, Go, Halts, LevelEvent, Next, On, Stops, after_level, delivered, is_above, is_too_large, moved, next, next_by, read, searched, spelled_all, stepped, too_large}
use Rattle.cu_machine.specs.Rewrite.{Become, Collect, Move, Overflows, move}
use Rattle.cu_machine.specs.Spell.{cells_of_all}
use Rattle.cu_machine.specs.State.{Branch, Idle, MoreStates, NoState, Running, State, States, call_on, graph_of, states_of}
use Rattle.cu_machine.specs.Validity.{IsValid}
use Rattle.cu_machine.proofs.MoveRows.{moves_row}
use Rattle.cu_machine.proofs.RowMoves.{among_image, row_moves}
use Rattle.cu_machine.proofs.Successors.{answered_if, go_if, unless_if}
use Rattle.cu_laws.specs.Continues.{Continues}
use Rattle.cu_laws.specs.Good.{Assignment}
use Rattle.cu_laws.specs.Promises.{AgreeWithSearches, Promises, SomeContinues}
use Rattle.cu_laws.specs.Traced.{IsTraced}
use Rattle.cu_laws.proofs.CompleteRows.{complete_rows}
use Rattle.cu_laws.proofs.Continuing.{kept_by_put}
use Rattle.cu_laws.proofs.Delivering.{delivered_kept}
use Rattle.cu_laws.proofs.MovesOn.{never_nowhere}
use Rattle.cu_laws.proofs.NeededValues.{dead_never, needed_honest}
use Rattle.cu_laws.proofs.TracedStates.{after_level_is, goes_on, was_blocked}

-- ---- no search runs

pub continues_itself : (program : Code) (claims : List Claim) (state : State) (assigned : Assignment) → Promises program claims state assigned
    → Continues program claims (graph_of state) (graph_of state) assigned assigned
continues_itself program claims state assigned promises = record { loose = promises.loose; past = promises.past; same = λ x below. refl }

module _ (program : Code) (claims : List Claim) (limits : Limits) (graph : Graph) (root : ℕ) (goals : List ℕ) (assigned : Assignment) where
  abbrev this : State
  this = Branch graph root goals Idle

  moved_on : (id : ℕ) (what : Move) (states : List State) → is_well_formed program ≡ true → IsTrue (list_all (is_claim_of (program_of program)) claims)
      → IsValid program this → Promises program claims this assigned → need_all program.special.truth graph root ≡ At id → move program graph id ≡ what
      → moved program limits root goals graph id what ≡ Go states → SomeContinues program claims this states assigned
  moved_on id (Become []) states well claimed valid promises needed is same =
      absurd (never_nowhere program claims graph id assigned promises.loose
      (needed_honest program claims graph root id assigned promises.loose promises.total needed).0 is)
  moved_on id (Become (first ∷ graphs)) states well claimed valid promises needed is same =
      let branches = map (λ after. Branch after root goals Idle) (first ∷ graphs) in
      let all : branches ≡ states = go_if (list_any (is_too_large limits) branches) limits branches states same in
      let row = moves_row program graph first root id goals (first ∷ graphs) valid needed is (inl refl) in
      let found = complete_rows program claims graph first root id goals assigned well claimed valid needed promises.loose promises.past promises.total row in
      let follows = row_moves program graph id found.0 found.1 in
      let listed : follows.0 ≡ first ∷ graphs = become_is follows.0 (first ∷ graphs) (sym follows.1 ∙ is) in
      let among = subst (λ (gs : List Graph). Among found.0 gs) listed follows.2 in
      record {
        state = Branch found.0 root goals Idle;
        among = subst (λ (xs : List State). Among (Branch found.0 root goals Idle) xs) all (among_image (λ after. Branch after root goals Idle) found.0 (first ∷ graphs) among);
        roots = refl;
        goals = refl;
        later = found.2;
        continues = found.3;
      }
    where
      become_is : (one two : List Graph) → Become one ≡ Become two → one ≡ two
      become_is one two e = cc
  moved_on id (Overflows operation a b) states well claimed valid promises needed is same = let no : ⊥ = cc in absurd no
  moved_on id (Collect f arguments) states well claimed valid promises needed is same =
      let inner = call_on program f arguments in
      let only = Branch graph root goals (Running id [] (MoreStates inner NoState)) in
      let all : only ∷ [] ≡ states = go_if (is_too_large limits inner) limits (only ∷ []) states same in
      record {
        state = only;
        among = subst (λ (xs : List State). Among only xs) all (inl refl);
        roots = refl;
        goals = refl;
        later = assigned;
        continues = continues_itself program claims this assigned promises;
      }

  next_by_on : (what : Need) (states : List State) → is_well_formed program ≡ true → IsTrue (list_all (is_claim_of (program_of program)) claims)
      → IsValid program this → Promises program claims this assigned → need_all program.special.truth graph root ≡ what
      → next_by program limits graph root goals what ≡ Go states → SomeContinues program claims this states assigned
  next_by_on Done states well claimed valid promises needed same =
      absurd (answered_if (is_above limits (cells_of_all (spelled_all graph root goals))) limits (read graph root goals) states same)
  next_by_on Dead states well claimed valid promises needed same = let no : ⊥ = cc in absurd no
  next_by_on (Wait ids) states well claimed valid promises needed same = let no : ⊥ = cc in absurd no
  next_by_on (At id) states well claimed valid promises needed same = moved_on id (move program graph id) states well claimed valid promises needed refl same

pub idle_on : (program : Code) (claims : List Claim) (limits : Limits) (graph : Graph) (root : ℕ) (goals : List ℕ) (states : List State) (assigned : Assignment)
    → is_well_formed program ≡ true → IsTrue (list_all (is_claim_of (program_of program)) claims) → IsValid program (Branch graph root goals Idle)
    → Promises program claims (Branch graph root goals Idle) assigned → next program limits (Branch graph root goals Idle) ≡ Go states
    → SomeContinues program claims (Branch graph root goals Idle) states assigned
unfolding next
idle_on program claims limits graph root goals states assigned well claimed valid promises same =
    next_by_on program claims limits graph root goals assigned (need_all program.special.truth graph root) states well claimed valid promises refl
    (unless_if (is_above limits (length graph)) limits (next_by program limits graph root goals (need_all program.special.truth graph root)) states same)

-- ---- a search runs

-- a level that was stepped has something to follow it
level_on : (limits : Limits) (graph : Graph) (root : ℕ) (goals : List ℕ) (id : ℕ) (found : List Value) (event : LevelEvent) (states : List State)
    → after_level limits graph root goals id found event ≡ Go states → (state : State) × Among state states
level_on limits graph root goals id found Blocked states same =
    let only = Branch (put graph id stuck) root goals Idle in
    let all : only ∷ [] ≡ states = cc in
    (only, subst (λ (xs : List State). Among only xs) all (inl refl))
level_on limits graph root goals id found (Halts stop) states same = let no : ⊥ = cc in absurd no
level_on limits graph root goals id found (On values following) states same =
    by (nat_lt limits.width (length following)) (Branch graph root goals (Running id (found ++ values) (states_of following))) same
  where
    by : (b : Bool) (only : State) → (if b then Stops (TooWide (length following)) else Go (only ∷ [])) ≡ Go states → (state : State) × Among state states
    by true only e = let no : ⊥ = cc in absurd no
    by false only e = let all : only ∷ [] ≡ states = cc in (only, subst (λ (xs : List State). Among only xs) all (inl refl))

pub traced_on : (program : Code) (claims : List Claim) (limits : Limits) (before : State) (states : List State) (assigned : Assignment) → is_well_formed program ≡ true
    → AgreeWithSearches program limits claims → IsValid program before → IsTraced program limits before → Promises program claims before assigned
    → next program limits before ≡ Go states → SomeContinues program claims before states assigned
unfolding next IsValid
traced_on program claims limits (Branch graph root goals Idle) states assigned well agree valid traced promises same =
    idle_on program claims limits graph root goals states assigned well agree.of_program valid promises same
traced_on program claims limits (Branch graph root goals (Running id found NoState)) states assigned well agree valid traced promises same =
    let only = Branch (delivered program graph id found) root goals Idle in
    let one = unless_if (is_above limits (length graph)) limits (searched program limits graph root goals id found NoState (stepped program limits NoState)) states same in
    let all : only ∷ [] ≡ states = go_if (list_any (is_too_large limits) (only ∷ [])) limits (only ∷ []) states one in
    let kept = delivered_kept program claims limits graph id found assigned well agree valid.0.nodes promises.loose promises.past traced in
    record {
      state = only;
      among = subst (λ (xs : List State). Among only xs) all (inl refl);
      roots = refl;
      goals = refl;
      later = kept.0;
      continues = kept.1;
    }
traced_on program claims limits (Branch graph root goals (Running id found (MoreStates first rest))) states assigned well agree valid traced promises same =
    let level = MoreStates first rest in
    let before = Branch graph root goals (Running id found level) in
    let one = unless_if (is_above limits (length graph)) limits (searched program limits graph root goals id found level (stepped program limits level)) states same in
    let some = level_on limits graph root goals id found (stepped program limits level) states one in
    elim (after_level_is limits graph root goals id found (stepped program limits level) states some.0 one some.1) [
      | was_blocked is ↦
          let kept = kept_by_put program claims graph (put graph id stuck) id stuck assigned valid.1.0.there refl promises.loose promises.past tt in
          record {
            state = Branch (put graph id stuck) root goals Idle;
            among = subst (λ (s : State). Among s states) is some.1;
            roots = refl;
            goals = refl;
            later = kept.0;
            continues = kept.1;
          }
      | goes_on values following event is ↦ record {
        state = Branch graph root goals (Running id (found ++ values) (states_of following));
        among = subst (λ (s : State). Among s states) is some.1;
        roots = refl;
        goals = refl;
        later = assigned;
        continues = continues_itself program claims before assigned promises;
      }
    ]

-- ---- failure

no_failure_if : (b : Bool) (limits : Limits) (other : Next) → (other ≡ Fails → ⊥) → (if b then too_large limits else other) ≡ Fails → ⊥
no_failure_if true limits other never same = cc
no_failure_if false limits other never same = never same

failure_if : (b : Bool) (limits : Limits) (other : Next) → (if b then too_large limits else other) ≡ Fails → other ≡ Fails
failure_if true limits other same = let no : ⊥ = cc in absurd no
failure_if false limits other same = same

no_failure_moved : (program : Code) (limits : Limits) (root : ℕ) (goals : List ℕ) (graph : Graph) (id : ℕ) (what : Move)
    → moved program limits root goals graph id what ≡ Fails → ⊥
no_failure_moved program limits root goals graph id (Become graphs) same =
    let branches = map (λ after. Branch after root goals Idle) graphs in
    no_failure_if (list_any (is_too_large limits) branches) limits (Go branches) (λ is. cc) same
no_failure_moved program limits root goals graph id (Overflows operation m n) same = cc
no_failure_moved program limits root goals graph id (Collect f arguments) same =
    no_failure_if (is_too_large limits (call_on program f arguments)) limits
    (Go (Branch graph root goals (Running id [] (MoreStates (call_on program f arguments) NoState)) ∷ [])) (λ is. cc) same

no_failure_level : (limits : Limits) (graph : Graph) (root : ℕ) (goals : List ℕ) (id : ℕ) (found : List Value) (event : LevelEvent)
    → after_level limits graph root goals id found event ≡ Fails → ⊥
no_failure_level limits graph root goals id found Blocked same = cc
no_failure_level limits graph root goals id found (Halts stop) same = cc
no_failure_level limits graph root goals id found (On values states) same =
    go (nat_lt limits.width (length states)) (Branch graph root goals (Running id (found ++ values) (states_of states))) same
  where
    go : (b : Bool) (only : State) → (if b then Stops (TooWide (length states)) else Go (only ∷ [])) ≡ Fails → ⊥
    go true only is = cc
    go false only is = cc

no_failure_search : (program : Code) (limits : Limits) (graph : Graph) (root : ℕ) (goals : List ℕ) (id : ℕ) (found : List Value) (level : States) (event : LevelEvent)
    → searched program limits graph root goals id found level event ≡ Fails → ⊥
no_failure_search program limits graph root goals id found NoState event same =
    let only = Branch (delivered program graph id found) root goals Idle ∷ [] in
    no_failure_if (list_any (is_too_large limits) only) limits (Go only) (λ is. cc) same
no_failure_search program limits graph root goals id found (MoreStates state states) event same = no_failure_level limits graph root goals id found event same

-- only what is dead fails
fails_dead : (program : Code) (limits : Limits) (graph : Graph) (root : ℕ) (goals : List ℕ) (what : Need) → next_by program limits graph root goals what ≡ Fails → what ≡ Dead
fails_dead program limits graph root goals Done same =
    absurd (no_failure_if (is_above limits (cells_of_all (spelled_all graph root goals))) limits (Answer (read graph root goals)) (λ is. cc) same)
fails_dead program limits graph root goals Dead same = refl
fails_dead program limits graph root goals (Wait ids) same = let no : ⊥ = cc in absurd no
fails_dead program limits graph root goals (At id) same = absurd (no_failure_moved program limits root goals graph id (move program graph id) same)

pub failure_never : (program : Code) (claims : List Claim) (limits : Limits) (state : State) (assigned : Assignment) → next program limits state ≡ Fails
    → Promises program claims state assigned → ⊥
unfolding next
failure_never program claims limits (Branch graph root goals Idle) assigned same promises =
    let need = need_all program.special.truth graph root in
    dead_never program claims graph root assigned promises.loose promises.total
    (fails_dead program limits graph root goals need (failure_if (is_above limits (length graph)) limits (next_by program limits graph root goals need) same))
failure_never program claims limits (Branch graph root goals (Running id found level)) assigned same promises =
    let what = searched program limits graph root goals id found level (stepped program limits level) in
    no_failure_search program limits graph root goals id found level (stepped program limits level) (failure_if (is_above limits (length graph)) limits what same)
