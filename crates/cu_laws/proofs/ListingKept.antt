-- A listing that ends with no more, and has no line of a branch that waits, lists an answer that
-- keeps what its start promises.
use Rattle.std.proofs.Common.{◌≡◌, ℕ, zero, suc, ◌+◌, ◌-◌, ◌<◌, ◌≤◌, inl, inr, Bool, true, false, List, [], ◌∷◌, ◌++◌, Option, None, Some, if◌then◌else◌, refl, ap, sym, ◌∙◌, subst, length, map, nat_lt, arith}
use Rattle.std.specs.Prelude.{flat_map}
use Rattle.cu_calculus.specs.Code.{Code}
use Rattle.cu_calculus.specs.Gives.{Claim}
use Rattle.cu_calculus.specs.WellFormed.{is_well_formed}
use Rattle.cu_machine.specs.declared.End.{End}
use Rattle.cu_machine.specs.declared.End.TheVariants.{Answers, NoMore, Rounds, Stopped}
use Rattle.cu_machine.specs.declared.SearchLimits.{SearchLimits}
use Rattle.cu_machine.specs.declared.Stop.TheVariants.{TooWide}
use Rattle.cu_machine.specs.Among.{Among}
use Rattle.cu_machine.specs.Level.{go_list}
use Rattle.cu_machine.specs.Listing.{Answered, Line, Listing, Round, Tally, Waiting, is_last, list_level, listing, nothing, one_answer, one_wait, only_end, round_of, rounds, unless_ended, unless_exhausted, with_line}
use Rattle.cu_machine.specs.Next.{Answer, Fails, Go, Next, Reading, Stops, Waits, next}
use Rattle.cu_machine.specs.Run.{reached_on, run}
use Rattle.cu_machine.specs.State.{State}
use Rattle.cu_machine.specs.Validity.{IsValid}
use Rattle.cu_machine.proofs.RowMoves.{among_image}
use Rattle.cu_machine.proofs.Runs.{run_reaches}
use Rattle.cu_machine.proofs.Strides.{among_flat_at, among_after, in_prefix}
use Rattle.cu_laws.specs.Good.{Assignment}
use Rattle.cu_laws.specs.Promises.{AgreeWithSearches, AnswersPromise, Promises}
use Rattle.cu_laws.specs.Traced.{IsTraced}
use Rattle.cu_laws.proofs.LevelsKept.{IsAlive, alive_on, keeps_itself, reached_alive}

-- ---- one round that doesn't end the listing

-- what a round lists of an outcome, where so many branches waited before
abbrev Listed : ℕ → ℕ → Round → Next → Type 0
Listed d waits round (Answer reading) = Among (Answered d reading) round.lines
Listed d waits round (Waits names) = waits < round.tally.waits
Listed d waits round (Stops stop) = ⊥
Listed d waits round _ = Unit {0}

listed_after : (d waits : ℕ) (round : Round) (line : Line) (event : Next) → Listed d waits round event → Listed d waits (with_line line round) event
listed_after d waits round line (Answer reading) listed = inr listed
listed_after d waits round line (Waits names) listed = listed
listed_after d waits round line (Stops stop) listed = listed
listed_after d waits round line _ listed = tt

listed_later : (d fewer waits : ℕ) (round : Round) (event : Next) → fewer ≤ waits → Listed d waits round event → Listed d fewer round event
listed_later d fewer waits round (Answer reading) up listed = listed
listed_later d fewer waits round (Waits names) up listed = omega arith
listed_later d fewer waits round (Stops stop) up listed = listed
listed_later d fewer waits round _ up listed = tt

waits_unless_last : (last : Bool) (waits : ℕ) (tally : Tally) (end : End) (rest : Round) → waits ≡ tally.waits → waits ≤ rest.tally.waits
    → waits ≤ (if last then nothing tally (Some end) else rest).tally.waits
waits_unless_last true waits tally end rest same up = omega (arith, same)
waits_unless_last false waits tally end rest same up = up

waits_rise : (d : ℕ) (limit : Option ℕ) (tally : Tally) (outcomes : List Next) → tally.waits ≤ (round_of d limit tally outcomes).tally.waits
unfolding round_of
waits_rise d limit tally [] = omega arith
waits_rise d limit tally (Go states ∷ outcomes) = waits_rise d limit tally outcomes
waits_rise d limit tally (Answer reading ∷ outcomes) =
    waits_unless_last (is_last limit (tally.answers + 1)) tally.waits (one_answer tally) (Answers (tally.answers + 1)) (round_of d limit (one_answer tally) outcomes) refl
    (waits_rise d limit (one_answer tally) outcomes)
waits_rise d limit tally (Fails ∷ outcomes) = waits_rise d limit tally outcomes
waits_rise d limit tally (Waits names ∷ outcomes) = let up = waits_rise d limit (one_wait tally) outcomes in omega arith
waits_rise d limit tally (Stops stop ∷ outcomes) = omega arith

listed_unless_last : (last : Bool) (d : ℕ) (tally : Tally) (end : End) (reading : Reading) (rest : Round) (outcomes : List Next) (event : Next)
    → (if last then nothing (one_answer tally) (Some end) else rest).end ≡ None → Among event (Answer reading ∷ outcomes)
    → (rest.end ≡ None → Among event outcomes → Listed d tally.waits rest event)
    → Listed d tally.waits (with_line (Answered d reading) (if last then nothing (one_answer tally) (Some end) else rest)) event
listed_unless_last true d tally end reading rest outcomes event goes m others = let no : ⊥ = cc in absurd no
listed_unless_last false d tally end reading rest outcomes event goes m others = elim m [
  | inl same ↦ subst (λ (e : Next). Listed d tally.waits (with_line (Answered d reading) rest) e) same (inl refl)
  | inr there ↦ listed_after d tally.waits rest (Answered d reading) event (others goes there)
]

in_round : (d : ℕ) (limit : Option ℕ) (tally : Tally) (outcomes : List Next) (event : Next) → (round_of d limit tally outcomes).end ≡ None → Among event outcomes
    → Listed d tally.waits (round_of d limit tally outcomes) event
unfolding round_of
in_round d limit tally [] event goes m = absurd m
in_round d limit tally (Go states ∷ outcomes) event goes m = elim m [
  | inl same ↦ subst (λ (e : Next). Listed d tally.waits (round_of d limit tally outcomes) e) same tt
  | inr there ↦ in_round d limit tally outcomes event goes there
]
in_round d limit tally (Answer reading ∷ outcomes) event goes m =
    listed_unless_last (is_last limit (tally.answers + 1)) d tally (Answers (tally.answers + 1)) reading (round_of d limit (one_answer tally) outcomes) outcomes event goes m
    (λ open_still there. in_round d limit (one_answer tally) outcomes event open_still there)
in_round d limit tally (Fails ∷ outcomes) event goes m = elim m [
  | inl same ↦ subst (λ (e : Next). Listed d tally.waits (round_of d limit tally outcomes) e) same tt
  | inr there ↦ in_round d limit tally outcomes event goes there
]
in_round d limit tally (Waits names ∷ outcomes) event goes m =
    let rest = round_of d limit (one_wait tally) outcomes in
    let up = waits_rise d limit (one_wait tally) outcomes in
    elim m [
      | inl same ↦ subst (λ (e : Next). Listed d tally.waits (with_line (Waiting d names) rest) e) same (omega arith)
      | inr there ↦
          listed_after d tally.waits rest (Waiting d names) event
          (listed_later d tally.waits (tally.waits + 1) rest event (omega arith) (in_round d limit (one_wait tally) outcomes event goes there))
    ]
in_round d limit tally (Stops stop ∷ outcomes) event goes m = let no : ⊥ = cc in absurd no

-- a round doesn't end the listing with no more
never_inside : (d : ℕ) (limit : Option ℕ) (tally : Tally) (outcomes : List Next) (waits : ℕ) → (round_of d limit tally outcomes).end ≡ Some (NoMore waits) → ⊥
unfolding round_of
never_inside d limit tally [] waits is = cc
never_inside d limit tally (Go states ∷ outcomes) waits is = never_inside d limit tally outcomes waits is
never_inside d limit tally (Answer reading ∷ outcomes) waits is =
    by (is_last limit (tally.answers + 1)) (round_of d limit (one_answer tally) outcomes) is (never_inside d limit (one_answer tally) outcomes waits)
  where
    by : (last : Bool) (rest : Round) → (if last then nothing (one_answer tally) (Some (Answers (tally.answers + 1))) else rest).end ≡ Some (NoMore waits)
        → (rest.end ≡ Some (NoMore waits) → ⊥) → ⊥
    by true rest e others = cc
    by false rest e others = others e
never_inside d limit tally (Fails ∷ outcomes) waits is = never_inside d limit tally outcomes waits is
never_inside d limit tally (Waits names ∷ outcomes) waits is = never_inside d limit (one_wait tally) outcomes waits is
never_inside d limit tally (Stops stop ∷ outcomes) waits is = cc

goes_beyond : (end : Option End) (rest : Listing) (waits : ℕ) → (end ≡ Some (NoMore waits) → ⊥) → (unless_ended end rest).end ≡ NoMore waits
    → (end ≡ None) × (rest.end ≡ NoMore waits)
goes_beyond None rest waits never is = (refl, is)
goes_beyond (Some end) rest waits never is = absurd (never (ap Some is))

not_exhausted : (others : Tally → List State → Listing) (tally : Tally) (following : List State) (state : State) → Among state following
    → unless_exhausted others tally following ≡ others tally following
not_exhausted others tally [] state m = absurd m
not_exhausted others tally (first ∷ following) state m = refl

-- where the listing ends so, no branch waits
none_waits : (others : Tally → List State → Listing) (tally : Tally) (following : List State)
    → ((after : Tally) (states : List State) → (others after states).end ≡ NoMore 0 → after.waits ≡ 0) → (unless_exhausted others tally following).end ≡ NoMore 0
    → tally.waits ≡ 0
none_waits others tally [] each is = cc
none_waits others tally (first ∷ following) each is = each tally (first ∷ following) is

-- ---- all rounds

module _ (program : Code) (limits : SearchLimits) where
  abbrev outcomes_of : List State → List Next
  outcomes_of states = map (run limits.stride program limits.step) states

  abbrev round_at : ℕ → Tally → List State → Round
  round_at d tally states = round_of d limits.answers tally (outcomes_of states)

  abbrev rest_of : (Tally → List State → Listing) → ℕ → Tally → List State → Listing
  rest_of others d tally states = unless_exhausted others (round_at d tally states).tally (flat_map go_list (outcomes_of states))

  beyond : (others : Tally → List State → Listing) (d : ℕ) (tally : Tally) (states : List State) → (list_level others program limits d tally states).end ≡ NoMore 0
      → ((round_at d tally states).end ≡ None) × ((rest_of others d tally states).end ≡ NoMore 0)
  beyond others d tally states is =
      goes_beyond (round_at d tally states).end (rest_of others d tally states) 0 (never_inside d limits.answers tally (outcomes_of states) 0) is

  level_waits : (others : Tally → List State → Listing) (d : ℕ) (tally : Tally) (states : List State)
      → ((after : Tally) (following : List State) → (others after following).end ≡ NoMore 0 → after.waits ≡ 0)
      → (list_level others program limits d tally states).end ≡ NoMore 0 → tally.waits ≡ 0
  level_waits others d tally states each is =
      let none = none_waits others (round_at d tally states).tally (flat_map go_list (outcomes_of states)) each (beyond others d tally states is).1 in
      let up = waits_rise d limits.answers tally (outcomes_of states) in
      omega (arith, none)

  -- what comes after a round that isn't the last one
  abbrev later : ℕ → ℕ → Tally → List State → Listing
  later left d after following =
      if nat_lt limits.step.width (length following) then only_end (Stopped (TooWide (length following)) (d + 1)) else rounds left program limits (d + 1) after following

  unless_wide : (wide : Bool) (end : End) (rest : Listing) → ((waits : ℕ) → end ≡ NoMore waits → ⊥) → (if wide then only_end end else rest).end ≡ NoMore 0
      → (if wide then only_end end else rest) ≡ rest
  unless_wide true end rest never is = absurd (never 0 is)
  unless_wide false end rest never is = refl

  later_is : (left d : ℕ) (after : Tally) (following : List State) → (later left d after following).end ≡ NoMore 0
      → later left d after following ≡ rounds left program limits (d + 1) after following
  later_is left d after following is =
      unless_wide (nat_lt limits.step.width (length following)) (Stopped (TooWide (length following)) (d + 1)) (rounds left program limits (d + 1) after following) (λ waits e. cc) is

  rounds_wait : (left d : ℕ) (tally : Tally) (states : List State) → (rounds left program limits d tally states).end ≡ NoMore 0 → tally.waits ≡ 0
  unfolding rounds
  rounds_wait zero d tally states is =
      level_waits (λ after following. only_end (Rounds d (length following))) d tally states (λ after following e. let no : ⊥ = cc in absurd no) is
  rounds_wait (suc left) d tally states is =
      level_waits (later left d) d tally states
      (λ after following e. rounds_wait left (d + 1) after following (sym (ap (λ (l : Listing). l.end) (later_is left d after following e)) ∙ e)) is

  module _ (claims : List Claim) (start : State) (assigned : Assignment) (well : is_well_formed program ≡ true) (agree : AgreeWithSearches program limits.step claims) where
    abbrev Alive : State → Type 0
    Alive state = IsAlive program claims limits.step start assigned well agree state

    -- some of these lines is an answer that keeps the promise
    abbrev Lists : List Line → Type 0
    Lists lines = (round : ℕ) × (reading : Reading) × Among (Answered round reading) lines × AnswersPromise program limits.step claims start assigned reading

    lists_after : (prefix lines : List Line) → Lists lines → Lists (prefix ++ lines)
    lists_after prefix lines found = (found.0, found.1, among_after prefix lines (Answered found.0 found.1) found.2, found.3)

    level_keeps : (others : Tally → List State → Listing) (d : ℕ) (tally : Tally) (states : List State) (state : State) → Among state states → Alive state
        → ((after : Tally) (following : List State) → (others after following).end ≡ NoMore 0 → after.waits ≡ 0)
        → ((after : Tally) (following : List State) (one : State) → Among one following → Alive one → (others after following).end ≡ NoMore 0
        → Lists (others after following).lines)
        → (list_level others program limits d tally states).end ≡ NoMore 0 → Lists (list_level others program limits d tally states).lines
    level_keeps others d tally states state m alive waits each is = by (run limits.stride program limits.step state) refl
      where
        onto : State
        onto = reached_on (limits.stride - 1) program limits.step state

        last : Alive onto
        last = reached_alive program claims limits.step start assigned well agree (limits.stride - 1) state alive

        round : Round
        round = round_at d tally states

        following : List State
        following = flat_map go_list (outcomes_of states)

        goes : (round.end ≡ None) × ((unless_exhausted others round.tally following).end ≡ NoMore 0)
        goes = beyond others d tally states is

        lines_are : (list_level others program limits d tally states).lines ≡ round.lines ++ (unless_exhausted others round.tally following).lines
        lines_are = ap (λ (o : Option End). round.lines ++ (unless_ended o (unless_exhausted others round.tally following)).lines) goes.0

        there : (what : Next) → run limits.stride program limits.step state ≡ what → Among what (outcomes_of states)
        there what same = subst (λ (e : Next). Among e (outcomes_of states)) same (among_image (run limits.stride program limits.step) state states m)

        at_last : (what : Next) → run limits.stride program limits.step state ≡ what → next program limits.step onto ≡ what
        at_last what same = sym (run_reaches (limits.stride - 1) program limits.step state) ∙ same

        by : (what : Next) → run limits.stride program limits.step state ≡ what → Lists (list_level others program limits d tally states).lines
        by (Go nexts) same =
            let some = alive_on program claims limits.step start assigned well agree onto last (Go nexts) (at_last (Go nexts) same) in
            let among = among_flat_at go_list some.0 (Go nexts) (outcomes_of states) (there (Go nexts) same) some.1 in
            let rest_is = not_exhausted others round.tally following some.0 among in
            let found = each round.tally following some.0 among some.2 (sym (ap (λ (l : Listing). l.end) rest_is) ∙ goes.1) in
            subst (λ (lines : List Line). Lists lines) (sym lines_are)
            (lists_after round.lines (unless_exhausted others round.tally following).lines
            (subst (λ (l : Listing). Lists l.lines) (sym rest_is) found))
        by (Answer reading) same =
            subst (λ (lines : List Line). Lists lines) (sym lines_are) (
              d,
              reading,
              in_prefix round.lines (unless_exhausted others round.tally following).lines (Answered d reading)
                  (in_round d limits.answers tally (outcomes_of states) (Answer reading) goes.0 (there (Answer reading) same)),
              record { state = onto; valid = last.valid; answers = at_last (Answer reading) same; keeps = last.keeps },
            )
        by Fails same = absurd (alive_on program claims limits.step start assigned well agree onto last Fails (at_last Fails same))
        by (Waits names) same =
            let more : tally.waits < round.tally.waits = in_round d limits.answers tally (outcomes_of states) (Waits names) goes.0 (there (Waits names) same) in
            let none = none_waits others round.tally following waits goes.1 in
            let no : ⊥ = omega (arith, none) in
            absurd no
        by (Stops stop) same = absurd (in_round d limits.answers tally (outcomes_of states) (Stops stop) goes.0 (there (Stops stop) same))

    rounds_keep : (left d : ℕ) (tally : Tally) (states : List State) (state : State) → Among state states → Alive state
        → (rounds left program limits d tally states).end ≡ NoMore 0 → Lists (rounds left program limits d tally states).lines
    unfolding rounds
    rounds_keep zero d tally states state m alive is =
        level_keeps (λ after following. only_end (Rounds d (length following))) d tally states state m alive (λ after following e. let no : ⊥ = cc in absurd no)
        (λ after following one at lives e. let no : ⊥ = cc in absurd no) is
    rounds_keep (suc left) d tally states state m alive is =
        level_keeps (later left d) d tally states state m alive
        (λ after following e. rounds_wait left (d + 1) after following (sym (ap (λ (l : Listing). l.end) (later_is left d after following e)) ∙ e))
        (λ after following one at lives e.
        let same = later_is left d after following e in
        subst (λ (l : Listing). Lists l.lines) (sym same) (rounds_keep left (d + 1) after following one at lives (sym (ap (λ (l : Listing). l.end) same) ∙ e))) is

pub listing_kept : (program : Code) (claims : List Claim) (limits : SearchLimits) (start : State) (assigned : Assignment) → is_well_formed program ≡ true
    → AgreeWithSearches program limits.step claims → IsValid program start → IsTraced program limits.step start → Promises program claims start assigned
    → (listing program limits start).end ≡ NoMore 0
    → (round : ℕ) × (reading : Reading) × Among (Answered round reading) (listing program limits start).lines
    × AnswersPromise program limits.step claims start assigned reading
listing_kept program claims limits start assigned well agree valid traced promises is =
    rounds_keep program limits claims start assigned well agree limits.rounds 0 (record { answers = 0; waits = 0 }) (start ∷ []) start (inl refl)
    (record { valid = valid; traced = traced; keeps = keeps_itself program claims start assigned promises }) is
