-- In which round an answer is due that stands so many single steps from the start.
use Rattle.std.proofs.Common.{◌≡◌, ℕ, zero, suc, ◌-◌, ◌≤◌, ◌⊎◌, inl, inr, List, [], ◌∷◌, ◌++◌, Option, None, Some, refl, ap, sym, ◌∙◌, subst, arith}
use Rattle.std.specs.Prelude.{flat_map}
use Rattle.cu_calculus.specs.Code.{Code}
use Rattle.cu_machine.specs.declared.Limits.{Limits}
use Rattle.cu_machine.specs.declared.SearchLimits.{SearchLimits}
use Rattle.cu_machine.specs.Among.{Among}
use Rattle.cu_machine.specs.Earlier.{EndedBefore, IsListed, IsReached, earlier}
use Rattle.cu_machine.specs.Level.{go_list, step_level, level, level_by}
use Rattle.cu_machine.specs.Listing.{Answered, Line, listing}
use Rattle.cu_machine.specs.Next.{Answer, Go, Next, Reading, next}
use Rattle.cu_machine.specs.Run.{only_state, reached, reached_on, run, run_on}
use Rattle.cu_machine.specs.State.{State}
use Rattle.cu_machine.proofs.Levels.{among_flat}
use Rattle.cu_machine.proofs.Rounds.{listing_lists}
use Rattle.cu_machine.proofs.Runs.{run_otherwise, run_reaches}

-- ---- elements of lists

pub among_split : {A : Type 0} (x : A) (xs : List A) → Among x xs → (before : List A) × (after : List A) × (xs ≡ before ++ x ∷ after)
among_split x [] m = absurd m
among_split x (y ∷ xs) m = elim m [
  | inl same ↦ ([], xs, ap (λ z. z ∷ xs) same)
  | inr rest ↦ let found = among_split x xs rest in (y ∷ found.0, found.1, ap (λ ys. y ∷ ys) found.2)
]

pub among_at : {A : Type 0} (before after : List A) (x : A) → Among x (before ++ x ∷ after)
among_at [] after x = inl refl
among_at (y ∷ before) after x = inr (among_at before after x)

pub in_prefix : {A : Type 0} (xs ys : List A) (x : A) → Among x xs → Among x (xs ++ ys)
in_prefix [] ys x m = absurd m
in_prefix (z ∷ xs) ys x m = elim m [ inl same ↦ inl same | inr rest ↦ inr (in_prefix xs ys x rest) ]

pub among_after : {A : Type 0} (xs ys : List A) (x : A) → Among x ys → Among x (xs ++ ys)
among_after [] ys x m = m
among_after (z ∷ xs) ys x m = inr (among_after xs ys x m)

pub among_flat_at : {A B : Type 0} (f : A → List B) (y : B) (x : A) (xs : List A) → Among x xs → Among y (f x) → Among y (flat_map f xs)
among_flat_at f y x [] m found = absurd m
among_flat_at f y x (z ∷ xs) m found = elim m [
  | inl same ↦ in_prefix (f z) (flat_map f xs) y (subst (λ w. Among y (f w)) (sym same) found)
  | inr rest ↦ among_after (f z) (flat_map f xs) y (among_flat_at f y x xs rest found)
]

-- ---- a step on a run

-- a step to the only state that follows, while steps are left, or the end of the run
abbrev pub StepOnRun : Code → Limits → ℕ → State → State → Type 0
StepOnRun program limits left before state =
    ((fewer : ℕ) × (left ≡ suc fewer) × (run_on left program limits before ≡ run_on fewer program limits state)
    × (reached_on left program limits before ≡ reached_on fewer program limits state))
    ⊎ (run_on left program limits before ≡ next program limits before)

pub step_by : (program : Code) (limits : Limits) (fewer : ℕ) (before state : State) (event : Next) → next program limits before ≡ event → Among state (go_list event)
    → StepOnRun program limits (suc fewer) before state
unfolding run_on reached_on
step_by program limits fewer before state (Go (one ∷ [])) is m = elim m [
  | inl same ↦ inl (
    fewer,
    refl,
    ap (λ (e : Next). elim (only_state e) as (λ x. Next) [ Some after ↦ run_on fewer program limits after | None ↦ next program limits before ]) is
        ∙ ap (run_on fewer program limits) same,
    ap (λ (e : Next). elim (only_state e) as (λ x. State) [ Some after ↦ reached_on fewer program limits after | None ↦ before ]) is
        ∙ ap (reached_on fewer program limits) same,
  )
  | inr nowhere ↦ absurd nowhere
]
step_by program limits fewer before state event is m = inr (run_otherwise (suc fewer) program limits before (ap only_state is))

pub step_on_run : (program : Code) (limits : Limits) (left : ℕ) (before state : State) → Among state (go_list (next program limits before)) → StepOnRun program limits left before state
unfolding run_on
step_on_run program limits zero before state m = inr refl
step_on_run program limits (suc fewer) before state m = step_by program limits fewer before state (next program limits before) refl m

pub reached_otherwise : (more : ℕ) (program : Code) (limits : Limits) (state : State) → only_state (next program limits state) ≡ None → reached_on more program limits state ≡ state
unfolding reached_on
reached_otherwise zero program limits state is = refl
reached_otherwise (suc more) program limits state is =
    ap (λ (o : Option State). elim o as (λ x. State) [ Some after ↦ reached_on more program limits after | None ↦ state ]) is

-- ---- rounds

module _ (program : Code) (limits : SearchLimits) (start : State) where
  -- a state so many single steps from the start lies on the run of a state of some level
  pub record OnTheWay (steps : ℕ) (state : State) : Type 0 where
    pub round : ℕ
    pub within : round ≤ steps
    pub exact : limits.stride ≡ 1 → round ≡ steps
    pub from : State
    pub on_level : Among from (level program limits start round)
    pub left : ℕ
    pub fewer : left ≤ limits.stride - 1
    pub runs : run limits.stride program limits.step from ≡ run_on left program limits.step state
    pub reaches : reached limits.stride program limits.step from ≡ reached_on left program limits.step state

  pub step_along : (steps : ℕ) (before state : State) (way : OnTheWay steps before) → Among state (go_list (next program limits.step before))
      → StepOnRun program limits.step way.left before state → OnTheWay (suc steps) state
  unfolding level_by
  step_along steps before state way m (inl (fewer, same, runs, reaches)) =
      let some : suc fewer ≤ limits.stride - 1 = subst (λ (n : ℕ). n ≤ limits.stride - 1) same way.fewer in
      let up = way.within in
      record {
        round = way.round;
        within = omega arith;
        exact = λ one. let none_left : ⊥ = omega arith in absurd none_left;
        from = way.from;
        on_level = way.on_level;
        left = fewer;
        fewer = omega arith;
        runs = way.runs ∙ runs;
        reaches = way.reaches ∙ reaches;
      }
  step_along steps before state way m (inr ends) =
      let up = way.within in
      let event = run limits.stride program limits.step in
      record {
        round = suc way.round;
        within = omega arith;
        exact = λ one. ap suc (way.exact one);
        from = state;
        on_level = among_flat_at (λ s. go_list (event s)) state way.from (level program limits start way.round) way.on_level
            (subst (λ (e : Next). Among state (go_list e)) (sym (way.runs ∙ ends)) m);
        left = limits.stride - 1;
        fewer = omega arith;
        runs = refl;
        reaches = refl;
      }

  pub on_the_way : (steps : ℕ) (state : State) → Among state (step_level program limits.step start steps) → OnTheWay steps state
  unfolding level_by
  on_the_way zero state m = elim m [
    | inl same ↦ record {
      round = 0;
      within = omega arith;
      exact = λ one. refl;
      from = state;
      on_level = inl same;
      left = limits.stride - 1;
      fewer = omega arith;
      runs = refl;
      reaches = refl;
    }
    | inr nowhere ↦ absurd nowhere
  ]
  on_the_way (suc steps) state m =
      let found = among_flat (λ s. go_list (next program limits.step s)) state (step_level program limits.step start steps) m in
      let way = on_the_way steps found.0 found.1 in
      step_along steps found.0 state way found.2 (step_on_run program limits.step way.left found.0 state found.2)

  -- the round in which an answer is due, and its place there
  pub answer_round : (steps : ℕ) (state : State) (reading : Reading) → Among state (step_level program limits.step start steps)
      → next program limits.step state ≡ Answer reading
      → (round : ℕ) × (round ≤ steps) × (limits.stride ≡ 1 → round ≡ steps) × (before : List State) × IsReached program limits start round before state
  answer_round steps state reading m answers =
      let way = on_the_way steps state m in
      let place = among_split way.from (level program limits start way.round) way.on_level in (
        way.round,
        way.within,
        way.exact,
        place.0,
        record {
          from = way.from;
          after = place.1;
          level_is = place.2;
          reaches = way.reaches ∙ reached_otherwise way.left program limits.step state (ap only_state answers);
        },
      )

  pub answer_listed : (round : ℕ) (before : List State) (state : State) (reading : Reading) → IsReached program limits start round before state
      → next program limits.step state ≡ Answer reading
      → IsListed round (earlier program limits start round before) reading (listing program limits start)
      ⊎ EndedBefore limits round (earlier program limits start round before) (listing program limits start)
  answer_listed round before state reading place answers =
      listing_lists program limits start round before place.after place.from reading place.level_is
      (run_reaches (limits.stride - 1) program limits.step place.from ∙ ap (next program limits.step) place.reaches ∙ answers)

  pub answer_depth : (steps : ℕ) (state : State) (reading : Reading) → Among state (step_level program limits.step start steps)
      → next program limits.step state ≡ Answer reading
      → (round : ℕ) × (round ≤ steps) × (limits.stride ≡ 1 → round ≡ steps) × (before : List State) × IsReached program limits start round before state
      × (Among (Answered round reading) (listing program limits start).lines
      ⊎ EndedBefore limits round (earlier program limits start round before) (listing program limits start))
  answer_depth steps state reading m answers =
      let due = answer_round steps state reading m answers in (
        due.0,
        due.1,
        due.2,
        due.3,
        due.4,
        elim (answer_listed due.0 due.3 state reading due.4 answers) [
          | inl there ↦ inl (subst (λ (ls : List Line). Among (Answered due.0 reading) ls) (sym there.split)
              (among_at (earlier program limits start due.0 due.3) there.rest (Answered due.0 reading)))
          | inr ends ↦ inr ends
        ],
      )
