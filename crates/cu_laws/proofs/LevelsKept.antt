-- On each level a state keeps what the start promises, unless an answer before did.
use Rattle.std.proofs.Common.{◌≡◌, ℕ, zero, suc, ◌-◌, ◌<◌, ◌⊎◌, inl, inr, Bool, true, List, [], ◌∷◌, None, Some, refl, ap, ap₂, sym, ◌∙◌, subst, length, map, nat_lt, ltb-true, true≢false, arith}
use Rattle.std.specs.List.{list_all}
use Rattle.std.proofs.lemmas.Bool.{and_parts}
use Rattle.cu_calculus.specs.Code.{Code}
use Rattle.cu_calculus.specs.Gives.{Claim}
use Rattle.cu_calculus.specs.Shape.{is_total}
use Rattle.cu_calculus.specs.Value.{Value}
use Rattle.cu_calculus.specs.WellFormed.{is_well_formed}
use Rattle.cu_machine.specs.declared.Limits.{Limits}
use Rattle.cu_machine.specs.Among.{Among}
use Rattle.cu_machine.specs.Level.{go_list, level_by}
use Rattle.cu_machine.specs.Next.{Answer, Fails, Go, Next, Stops, Waits, next}
use Rattle.cu_machine.specs.Run.{only_state, reached_on, run}
use Rattle.cu_machine.specs.State.{Branch, State, graph_of}
use Rattle.cu_machine.specs.Validity.{IsValid, IsValidBranch, are_places}
use Rattle.cu_machine.proofs.Runs.{run_reaches}
use Rattle.cu_machine.proofs.Searches.{follows_valid}
use Rattle.cu_machine.proofs.Strides.{among_flat_at}
use Rattle.cu_laws.specs.Good.{Assignment}
use Rattle.cu_laws.specs.Promises.{AgreeWithSearches, AreDecided, KeepsPromise, KeptByAnswer, KeptByState, Promises, SomeContinues, goals_of, is_decided, root_of}
use Rattle.cu_laws.specs.Traced.{IsTraced}
use Rattle.cu_laws.proofs.SomeNext.{failure_never, traced_on}
use Rattle.cu_laws.proofs.TracedStates.{next_traced}

-- ---- steps on the way

branch_of : (program : Code) (state : State) → IsValid program state → IsValidBranch program (graph_of state) (root_of state) (goals_of state)
unfolding IsValid
branch_of program (Branch graph root goals search) valid = valid.0

same_values : (n : ℕ) (low high : Assignment) (ids : List ℕ) → are_places n ids ≡ true → ((x : ℕ) → x < n → high x ≡ low x) → map high ids ≡ map low ids
same_values n low high [] there same = refl
same_values n low high (id ∷ ids) there same =
    let parts = and_parts (nat_lt id n) (are_places n ids) there in
    ap₂ (λ (v : Value) (vs : List Value). v ∷ vs) (same id (ltb-true id n parts.0)) (same_values n low high ids parts.1 same)

keeps_on : (program : Code) (claims : List Claim) (start before : State) (states : List State) (assigned : Assignment) → IsValid program before
    → (keeps : KeepsPromise program claims start assigned before) → (some : SomeContinues program claims before states keeps.later)
    → KeepsPromise program claims start assigned some.state
keeps_on program claims start before states assigned valid keeps some =
    let branch = branch_of program before valid in
    let later = some.later in
    let at_root : later (root_of some.state) ≡ keeps.later (root_of before) = ap later some.roots ∙ some.continues.same (root_of before) branch.root_there in
    record {
      later = later;
      promises = record {
        loose = some.continues.loose;
        past = some.continues.past;
        total = subst (λ (v : Value). is_total v ≡ true) (sym at_root) keeps.promises.total;
      };
      root = at_root ∙ keeps.root;
      goals = ap (map later) some.goals
          ∙ same_values (length (graph_of before)) keeps.later later (goals_of before) branch.goals_there some.continues.same ∙ keeps.goals;
    }

pub keeps_itself : (program : Code) (claims : List Claim) (start : State) (assigned : Assignment) → Promises program claims start assigned
    → KeepsPromise program claims start assigned start
keeps_itself program claims start assigned promises = record { later = assigned; promises = promises; root = refl; goals = refl }

pub decided_at : (p : Next → Bool) (event : State → Next) (state : State) (states : List State) → list_all p (map event states) ≡ true → Among state states
    → p (event state) ≡ true
decided_at p event state [] all m = absurd m
decided_at p event state (first ∷ states) all m =
    let parts = and_parts (p (event first)) (list_all p (map event states)) all in
    elim m [ inl same ↦ subst (λ (s : State). p (event s) ≡ true) same parts.0 | inr rest ↦ decided_at p event state states parts.1 rest ]

module _ (program : Code) (claims : List Claim) (limits : Limits) (start : State) (assigned : Assignment) (well : is_well_formed program ≡ true)
    (agree : AgreeWithSearches program limits claims) where
  -- a state that is reached and keeps the promise
  pub record IsAlive (state : State) : Type 0 where
    pub valid : IsValid program state
    pub traced : IsTraced program limits state
    pub keeps : KeepsPromise program claims start assigned state

  -- what becomes of such a state
  abbrev pub Onward : Next → Type 0
  Onward (Go states) = (state : State) × Among state states × IsAlive state
  Onward Fails = ⊥
  Onward _ = Unit {0}

  pub alive_on : (before : State) → IsAlive before → (event : Next) → next program limits before ≡ event → Onward event
  alive_on before alive (Go states) is =
      let some = traced_on program claims limits before states alive.keeps.later well agree alive.valid alive.traced alive.keeps.promises is in (
        some.state,
        some.among,
        record {
          valid = follows_valid program limits well before some.state states alive.valid is some.among;
          traced = next_traced program limits before some.state states alive.valid alive.traced is some.among;
          keeps = keeps_on program claims start before states assigned alive.valid alive.keeps some;
        },
      )
  alive_on before alive Fails is = failure_never program claims limits before alive.keeps.later is alive.keeps.promises
  alive_on before alive (Answer reading) is = tt
  alive_on before alive (Waits names) is = tt
  alive_on before alive (Stops stop) is = tt

  -- a run goes on with the one state that follows
  reached_by : (state : State) (onward : State → State) (event : Next) → ((after : State) → event ≡ Go (after ∷ []) → IsAlive (onward after)) → IsAlive state
      → IsAlive (elim (only_state event) as (λ x. State) [ Some after ↦ onward after | None ↦ state ])
  reached_by state onward (Go (after ∷ [])) each alive = each after refl
  reached_by state onward _ each alive = alive

  only_alive : (after : State) → Onward (Go (after ∷ [])) → IsAlive after
  only_alive after some = elim some.1 [ inl same ↦ subst (λ (s : State). IsAlive s) (sym same) some.2 | inr nowhere ↦ absurd nowhere ]

  pub reached_alive : (more : ℕ) (state : State) → IsAlive state → IsAlive (reached_on more program limits state)
  unfolding reached_on
  reached_alive zero state alive = alive
  reached_alive (suc more) state alive =
      reached_by state (reached_on more program limits) (next program limits state)
      (λ after is. reached_alive more after (only_alive after (alive_on state alive (Go (after ∷ [])) is))) alive

  -- ---- levels

  -- what becomes of a state is what becomes of the one that it is taken on to
  module _ (event : State → Next) (onto : State → State) (same_event : (state : State) → event state ≡ next program limits (onto state))
      (onto_alive : (state : State) → IsAlive state → IsAlive (onto state)) where
    abbrev AliveAt : ℕ → Type 0
    AliveAt depth = (state : State) × Among state (level_by event start depth) × IsAlive state

    abbrev Answered : ℕ → Type 0
    Answered depth = KeptByAnswer program limits claims event start assigned depth

    level_on : (depth : ℕ) (state : State) → Among state (level_by event start depth) → IsAlive state → (what : Next) → event state ≡ what
        → is_decided what ≡ true → Answered (suc depth) ⊎ AliveAt (suc depth)
    unfolding level_by
    level_on depth state m alive (Go states) is decided =
        let some = alive_on (onto state) (onto_alive state alive) (Go states) (sym (same_event state) ∙ is) in
        let among = subst (λ (e : Next). Among some.0 (go_list e)) (sym is) some.1 in
        inr (some.0, among_flat_at (λ s. go_list (event s)) some.0 state (level_by event start depth) m among, some.2)
    level_on depth state m alive (Answer reading) is decided =
        let last = onto_alive state alive in
        inl (record {
          level = depth;
          earlier = omega arith;
          state = state;
          among = m;
          reading = reading;
          answers = is;
          answered = record { state = onto state; valid = last.valid; answers = sym (same_event state) ∙ is; keeps = last.keeps };
        })
    level_on depth state m alive Fails is decided = absurd (alive_on (onto state) (onto_alive state alive) Fails (sym (same_event state) ∙ is))
    level_on depth state m alive (Waits names) is decided = absurd (true≢false (sym decided))
    level_on depth state m alive (Stops stop) is decided = absurd (true≢false (sym decided))

    answered_later : (depth : ℕ) → Answered depth → Answered (suc depth)
    answered_later depth found =
        let less = found.earlier in
        record {
          level = found.level;
          earlier = omega arith;
          state = found.state;
          among = found.among;
          reading = found.reading;
          answers = found.answers;
          answered = found.answered;
        }

    levels_on : (depth : ℕ) → AreDecided event start depth → IsAlive start → Answered depth ⊎ AliveAt depth
    unfolding level_by
    levels_on zero decided alive = inr (start, inl refl, alive)
    levels_on (suc depth) decided alive = elim (levels_on depth (λ k below. decided k (omega arith)) alive) [
      | inl found ↦ inl (answered_later depth found)
      | inr here ↦
          level_on depth here.0 here.1 here.2 (event here.0) refl
          (decided_at is_decided event here.0 (level_by event start depth) (decided depth (omega arith)) here.1)
    ]

    pub levels_kept : (depth : ℕ) → IsValid program start → IsTraced program limits start → Promises program claims start assigned → AreDecided event start depth
        → KeptByAnswer program limits claims event start assigned depth ⊎ KeptByState program claims event start assigned depth
    levels_kept depth valid traced promises decided =
        elim (levels_on depth decided (record { valid = valid; traced = traced; keeps = keeps_itself program claims start assigned promises })) [
          | inl found ↦ inl found
          | inr here ↦ inr (record { state = here.0; among = here.1; keeps = here.2.keeps })
        ]

pub steps_kept : (program : Code) (claims : List Claim) (limits : Limits) (start : State) (assigned : Assignment) (depth : ℕ) → is_well_formed program ≡ true
    → AgreeWithSearches program limits claims → IsValid program start → IsTraced program limits start → Promises program claims start assigned
    → AreDecided (next program limits) start depth
    → KeptByAnswer program limits claims (next program limits) start assigned depth ⊎ KeptByState program claims (next program limits) start assigned depth
steps_kept program claims limits start assigned depth well agree valid traced promises decided =
    levels_kept program claims limits start assigned well agree (next program limits) (λ s. s) (λ s. refl) (λ s alive. alive) depth valid traced promises decided

pub rounds_kept : (program : Code) (claims : List Claim) (limits : Limits) (stride : ℕ) (start : State) (assigned : Assignment) (depth : ℕ) → is_well_formed program ≡ true
    → AgreeWithSearches program limits claims → IsValid program start → IsTraced program limits start → Promises program claims start assigned
    → AreDecided (run stride program limits) start depth
    → KeptByAnswer program limits claims (run stride program limits) start assigned depth
    ⊎ KeptByState program claims (run stride program limits) start assigned depth
rounds_kept program claims limits stride start assigned depth well agree valid traced promises decided =
    levels_kept program claims limits start assigned well agree (run stride program limits) (reached_on (stride - 1) program limits)
    (run_reaches (stride - 1) program limits) (reached_alive program claims limits start assigned well agree (stride - 1)) depth valid traced promises decided
