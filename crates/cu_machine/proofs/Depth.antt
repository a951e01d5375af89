-- Where listed answers come from.
use Rattle.std.proofs.Common.{◌≡◌, ℕ, zero, suc, ◌+◌, ◌⊎◌, inl, inr, List, [], ◌∷◌, ◌++◌, Option, None, Some, Bool, true, false, if◌then◌else◌, nat_lt, length, map, refl, ap, sym, ◌∙◌, subst, add-one}
use Rattle.std.specs.Prelude.{flat_map}
use Rattle.cu_calculus.specs.Code.{Code}
use Rattle.cu_machine.specs.declared.End.{End}
use Rattle.cu_machine.specs.declared.End.TheVariants.{Answers, Rounds, Stopped}
use Rattle.cu_machine.specs.declared.Stop.TheVariants.{TooWide}
use Rattle.cu_machine.specs.declared.SearchLimits.{SearchLimits}
use Rattle.cu_machine.specs.Among.{Among}
use Rattle.cu_machine.specs.Level.{go_list, level, level_by}
use Rattle.cu_machine.specs.Listing.{Answered, Line, Listing, Round, Tally, is_last, list_level, nothing, one_answer, one_wait, only_end, round_of, rounds, unless_ended, unless_exhausted}
use Rattle.cu_machine.specs.Next.{Answer, Fails, Go, Next, Reading, Stops, Waits}
use Rattle.cu_machine.specs.Run.{run}
use Rattle.cu_machine.specs.State.{State}

-- an element of two lists in a row is one of the first or of the second
pub among_append : {A : Type 0} (x : A) (xs ys : List A) → Among x (xs ++ ys) → Among x xs ⊎ Among x ys
among_append x [] ys m = inr m
among_append x (z ∷ xs) ys m = elim m [
  | inl same ↦ inl (inl same)
  | inr rest ↦ elim (among_append x xs ys rest) [ inl first ↦ inl (inr first) | inr second ↦ inr second ]
]

-- an element of a mapped list is the image of an element
pub among_map : {A B : Type 0} (f : A → B) (y : B) (xs : List A) → Among y (map f xs) → (x : A) × Among x xs × (f x ≡ y)
among_map f y (x ∷ xs) m = elim m [
  | inl same ↦ (x, inl refl, same)
  | inr rest ↦ let found = among_map f y xs rest in (found.0, inr found.1, found.2)
]
among_map f y [] m = absurd m

-- mapping twice
pub flat_map-map : {A B C : Type 0} (f : A → B) (g : B → List C) (xs : List A) → flat_map g (map f xs) ≡ flat_map (λ x. g (f x)) xs
flat_map-map f g [] = refl
flat_map-map f g (x ∷ xs) = ap (λ rest. g (f x) ++ rest) (flat_map-map f g xs)

-- what is listed after an answer is listed by the rest of the round
pub unless_last : (last : Bool) (tally : Tally) (end : End) (rest : Round) (line : Line)
    → Among line (if last then nothing tally (Some end) else rest).lines → Among line rest.lines
unless_last true tally end rest line m = absurd m
unless_last false tally end rest line m = m

-- an answer that a round lists is at its depth, and is one of the outcomes
pub round_lists : (d : ℕ) (limit : Option ℕ) (tally : Tally) (outcomes : List Next) (e : ℕ) (r : Reading)
    → Among (Answered e r) (round_of d limit tally outcomes).lines → (d ≡ e) × Among (Answer r) outcomes
unfolding round_of
round_lists d limit tally [] e r m = absurd m
round_lists d limit tally (Go states ∷ outcomes) e r m = let rest = round_lists d limit tally outcomes e r m in (rest.0, inr rest.1)
round_lists d limit tally (Answer reading ∷ outcomes) e r m = elim m [
  | inl same ↦ let here : Among (Answer r) (Answer reading ∷ outcomes) = inl cc in let at : d ≡ e = cc in (at, here)
  | inr rest ↦
      let others = unless_last (is_last limit (tally.answers + 1)) (one_answer tally) (Answers (tally.answers + 1))
      (round_of d limit (one_answer tally) outcomes) (Answered e r) rest in
      let found = round_lists d limit (one_answer tally) outcomes e r others in
      (found.0, inr found.1)
]
round_lists d limit tally (Fails ∷ outcomes) e r m = let rest = round_lists d limit tally outcomes e r m in (rest.0, inr rest.1)
round_lists d limit tally (Waits names ∷ outcomes) e r m = elim m [
  | inl same ↦ let no_answer : ⊥ = cc in absurd no_answer
  | inr rest ↦ let others = round_lists d limit (one_wait tally) outcomes e r rest in (others.0, inr others.1)
]
round_lists d limit tally (Stops stop ∷ outcomes) e r m = absurd m

-- a state of a level that is taken on to the answer
abbrev pub AnswersAt : Code → SearchLimits → State → ℕ → Reading → Type 0
AnswersAt code limits start e r = (state : State) × Among state (level code limits start e) × (run limits.stride code limits.step state ≡ Answer r)

-- the states that follow a level are the next level
pub following_level : (event : State → Next) (start : State) (d : ℕ) (states : List State) → states ≡ level_by event start d
    → flat_map go_list (map event states) ≡ level_by event start (d + 1)
unfolding level_by
following_level event start d states is_level =
    flat_map-map event go_list states
    ∙ ap (flat_map (λ state. go_list (event state))) is_level
    ∙ ap (level_by event start) (sym (add-one d))

-- an answer after a round is one that the later rounds list
pub later_lists : (end : Option End) (others : Tally → List State → Listing) (tally : Tally) (following : List State) (line : Line)
    → Among line (unless_ended end (unless_exhausted others tally following)).lines → Among line (others tally following).lines
later_lists (Some end) others tally following line m = absurd m
later_lists None others tally [] line m = absurd m
later_lists None others tally (state ∷ states) line m = m

-- what is listed from a level on answers at a state of its depth, if what is listed of the later
-- levels does
pub level_lists : (others : Tally → List State → Listing) (code : Code) (limits : SearchLimits) (start : State) (d : ℕ) (tally : Tally)
    (states : List State) (e : ℕ) (r : Reading) → states ≡ level code limits start d
    → ((after : Tally) (following : List State) → following ≡ level code limits start (d + 1)
    → Among (Answered e r) (others after following).lines → AnswersAt code limits start e r)
    → Among (Answered e r) (list_level others code limits d tally states).lines → AnswersAt code limits start e r
level_lists others code limits start d tally states e r is_level later m =
    let outcomes = map (run limits.stride code limits.step) states in
    let round = round_of d limits.answers tally outcomes in
    let following = flat_map go_list outcomes in
    elim (among_append (Answered e r) round.lines (unless_ended round.end (unless_exhausted others round.tally following)).lines m) [
      | inl here ↦
          let found = round_lists d limits.answers tally outcomes e r here in
          let state = among_map (run limits.stride code limits.step) (Answer r) states found.1 in
          (state.0, subst (λ (depth : ℕ). Among state.0 (level code limits start depth)) found.0 (subst (Among state.0) is_level state.1), state.2)
      | inr there ↦
          later round.tally following (following_level (run limits.stride code limits.step) start d states is_level)
          (later_lists round.end others round.tally following (Answered e r) there)
    ]

-- what is listed after a level that isn't too wide
pub unless_wide : (wide : Bool) (end : End) (rest : Listing) (line : Line)
    → Among line (if wide then only_end end else rest).lines → Among line rest.lines
unless_wide true end rest line m = absurd m
unless_wide false end rest line m = m

-- an answer that the rounds list is one of its round's level
pub rounds_list : (left : ℕ) (code : Code) (limits : SearchLimits) (start : State) (d : ℕ) (tally : Tally) (states : List State) (e : ℕ) (r : Reading)
    → states ≡ level code limits start d → Among (Answered e r) (rounds left code limits d tally states).lines
    → AnswersAt code limits start e r
unfolding rounds
rounds_list zero code limits start d tally states e r is_level m =
    level_lists (λ after following. only_end (Rounds d (length following))) code limits start d tally states e r is_level
    (λ after following is_next none. absurd none) m
rounds_list (suc left) code limits start d tally states e r is_level m =
    level_lists
    (λ after following.
    if nat_lt limits.step.width (length following) then only_end (Stopped (TooWide (length following)) (d + 1))
    else rounds left code limits (d + 1) after following)
    code limits start d tally states e r is_level
    (λ after following is_next more.
    rounds_list left code limits start (d + 1) after following e r is_next
    (unless_wide (nat_lt limits.step.width (length following)) (Stopped (TooWide (length following)) (d + 1))
    (rounds left code limits (d + 1) after following) (Answered e r) more))
    m
