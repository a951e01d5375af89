-- An answer is listed in its round, unless the listing ended before.
use Rattle.std.proofs.Common.{◌≡◌, ℕ, zero, suc, ◌+◌, ◌-◌, ◌<◌, ◌≤◌, ◌⊎◌, inl, inr, List, [], ◌∷◌, ◌++◌, Option, None, Some, Bool, true, false, if◌then◌else◌, nat_lt, length, map, refl, ap, ap₂, sym, ◌∙◌, subst, arith, eqb-true, append-nil, append_assoc, add-one}
use Rattle.std.proofs.lemmas.Bool.{cases_lt}
use Rattle.std.specs.Prelude.{flat_map}
use Rattle.cu_calculus.specs.Code.{Code}
use Rattle.cu_machine.specs.declared.End.{End}
use Rattle.cu_machine.specs.declared.End.TheVariants.{Answers, NoMore, Rounds, Stopped}
use Rattle.cu_machine.specs.declared.Stop.TheVariants.{TooWide}
use Rattle.cu_machine.specs.declared.SearchLimits.{SearchLimits}
use Rattle.cu_machine.specs.declared.Waited.{Waited}
use Rattle.cu_machine.specs.Earlier.{EndedBefore, EndsBy, IsListed, answers_in, earlier, events, events_of, lines_before, lines_of}
use Rattle.cu_machine.specs.Level.{go_list, level, level_by}
use Rattle.cu_machine.specs.Listing.{Answered, Line, Listing, Round, Tally, Waiting, after_lines, is_last, list_level, listing, nothing, one_answer, one_wait, only_end, round_of, rounds, unless_ended, unless_exhausted, with_line}
use Rattle.cu_machine.specs.Next.{Answer, Fails, Go, Next, Reading, Stops, Waits}
use Rattle.cu_machine.specs.Run.{run}
use Rattle.cu_machine.specs.State.{State}
use Rattle.cu_machine.proofs.Depth.{following_level}

-- ---- one round

-- lines before those of a round
abbrev pub after_prefix : List Line → Round → Round
after_prefix lines round = record { lines = lines ++ round.lines; tally = round.tally; end = round.end }

-- an end that comes in a round, after so many answers and then these lines
abbrev pub EndsRound : Option ℕ → ℕ → ℕ → List Line → End → Type 0
EndsRound limit d answers lines (Answers count) = (limit ≡ Some count) × (count ≡ answers + answers_in lines)
EndsRound limit d answers lines (Stopped stop last) = last ≡ d
EndsRound limit d answers lines _ = ⊥

-- What a round lists of outcomes whose lines are these: all of them, and then what is after them,
-- or it ended there. `whole` is what the round lists, and `later` what it lists after them with
-- another count.
pub data Passed (d : ℕ) (limit : Option ℕ) (answers : ℕ) (lines : List Line) (whole : Round) (later : Tally → Round) : Type 0 where
  passed : (after : Tally) → whole ≡ after_prefix lines (later after) → after.answers ≡ answers + answers_in lines → Passed d limit answers lines whole later
  ended : (end : End) (rest : List Line) → whole.end ≡ Some end → lines ≡ whole.lines ++ rest → EndsRound limit d answers whole.lines end
      → Passed d limit answers lines whole later

pub last_limit : (limit : Option ℕ) (answers : ℕ) → is_last limit answers ≡ true → limit ≡ Some answers
last_limit None answers last = let none_left : ⊥ = cc in absurd none_left
last_limit (Some most) answers last = ap Some (sym (eqb-true answers most last))

pub ends_after_wait : (limit : Option ℕ) (d e answers : ℕ) (names : List Waited) (lines : List Line) (end : End) → EndsRound limit d answers lines end
    → EndsRound limit d answers (Waiting e names ∷ lines) end
ends_after_wait limit d e answers names lines (Answers count) ends = ends
ends_after_wait limit d e answers names lines (Stopped stop last) ends = ends
ends_after_wait limit d e answers names lines (NoMore waits) ends = ends
ends_after_wait limit d e answers names lines (Rounds last count) ends = ends

pub ends_after_answer : (limit : Option ℕ) (d e answers : ℕ) (reading : Reading) (lines : List Line) (end : End) → EndsRound limit d (answers + 1) lines end
    → EndsRound limit d answers (Answered e reading ∷ lines) end
ends_after_answer limit d e answers reading lines (Answers count) ends = (ends.0, omega (arith, ends.1))
ends_after_answer limit d e answers reading lines (Stopped stop last) ends = ends
ends_after_answer limit d e answers reading lines (NoMore waits) ends = ends
ends_after_answer limit d e answers reading lines (Rounds last count) ends = ends

pub after_wait : (d : ℕ) (limit : Option ℕ) (answers : ℕ) (names : List Waited) (lines : List Line) (whole : Round) (later : Tally → Round)
    → Passed d limit answers lines whole later → Passed d limit answers (Waiting d names ∷ lines) (with_line (Waiting d names) whole) later
after_wait d limit answers names lines whole later (passed after is count) = passed after (ap (with_line (Waiting d names)) is) count
after_wait d limit answers names lines whole later (ended end rest is first ends) =
    ended end rest is (ap (λ (ls : List Line). Waiting d names ∷ ls) first) (ends_after_wait limit d d answers names whole.lines end ends)

pub after_answer : (d : ℕ) (limit : Option ℕ) (tally : Tally) (reading : Reading) (lines : List Line) (whole : Round) (later : Tally → Round) (last : Bool)
    → is_last limit (tally.answers + 1) ≡ last → Passed d limit (tally.answers + 1) lines whole later
    → Passed d limit tally.answers (Answered d reading ∷ lines)
    (with_line (Answered d reading) (if last then nothing (one_answer tally) (Some (Answers (tally.answers + 1))) else whole)) later
after_answer d limit tally reading lines whole later true last before =
    ended (Answers (tally.answers + 1)) lines refl refl (last_limit limit (tally.answers + 1) last, omega arith)
after_answer d limit tally reading lines whole later false last (passed after is count) =
    passed after (ap (with_line (Answered d reading)) is) (omega (arith, count))
after_answer d limit tally reading lines whole later false last (ended end rest is first ends) =
    ended end rest is (ap (λ (ls : List Line). Answered d reading ∷ ls) first) (ends_after_answer limit d d tally.answers reading whole.lines end ends)

pub passed_of : (d : ℕ) (limit : Option ℕ) (tally : Tally) (prefix suffix : List Next)
    → Passed d limit tally.answers (flat_map (lines_of d) prefix) (round_of d limit tally (prefix ++ suffix)) (λ after. round_of d limit after suffix)
unfolding round_of
passed_of d limit tally [] suffix = passed tally refl (omega arith)
passed_of d limit tally (Go states ∷ prefix) suffix = passed_of d limit tally prefix suffix
passed_of d limit tally (Fails ∷ prefix) suffix = passed_of d limit tally prefix suffix
passed_of d limit tally (Waits names ∷ prefix) suffix =
    after_wait d limit tally.answers names (flat_map (lines_of d) prefix) (round_of d limit (one_wait tally) (prefix ++ suffix)) (λ after. round_of d limit after suffix)
    (passed_of d limit (one_wait tally) prefix suffix)
passed_of d limit tally (Answer reading ∷ prefix) suffix =
    after_answer d limit tally reading (flat_map (lines_of d) prefix) (round_of d limit (one_answer tally) (prefix ++ suffix)) (λ after. round_of d limit after suffix)
    (is_last limit (tally.answers + 1)) refl (passed_of d limit (one_answer tally) prefix suffix)
passed_of d limit tally (Stops stop ∷ prefix) suffix = ended (Stopped stop d) (flat_map (lines_of d) prefix) refl refl refl

-- ---- rounds

-- later rounds list after earlier ones
pub lines_more : (in_round : ℕ → List Next) (from more : ℕ) → (rest : List Line) × (lines_before in_round (from + more) ≡ lines_before in_round from ++ rest)
lines_more in_round from zero = let same : from + 0 ≡ from = omega arith in ([], ap (lines_before in_round) same ∙ sym (append-nil (lines_before in_round from)))
lines_more in_round from (suc more) =
    let before = lines_more in_round from more in
    let here = flat_map (lines_of (from + more)) (in_round (from + more)) in
    let same : from + suc more ≡ suc (from + more) = omega arith in (
      before.0 ++ here,
      ap (lines_before in_round) same ∙ ap (λ (ls : List Line). ls ++ here) before.1 ∙ append_assoc (lines_before in_round from) before.0 here,
    )

pub later_lines : (in_round : ℕ → List Next) (from to : ℕ) → from ≤ to → (rest : List Line) × (lines_before in_round to ≡ lines_before in_round from ++ rest)
later_lines in_round from to up =
    let found = lines_more in_round from (to - from) in
    let same : to ≡ from + (to - from) = omega arith in
    (found.0, ap (lines_before in_round) same ∙ found.1)

-- an empty level is the last one
pub level_more : (event : State → Next) (start : State) (from more : ℕ) → level_by event start from ≡ [] → level_by event start (from + more) ≡ []
unfolding level_by
level_more event start from zero none = let same : from + 0 ≡ from = omega arith in ap (level_by event start) same ∙ none
level_more event start from (suc more) none =
    let same : from + suc more ≡ suc (from + more) = omega arith in
    ap (level_by event start) same ∙ ap (flat_map (λ state. go_list (event state))) (level_more event start from more none)

pub level_stays_empty : (event : State → Next) (start : State) (from to : ℕ) → from ≤ to → level_by event start from ≡ [] → level_by event start to ≡ []
level_stays_empty event start from to up none =
    let same : to ≡ from + (to - from) = omega arith in ap (level_by event start) same ∙ level_more event start from (to - from) none

pub nothing_before : {A : Type 0} (before after : List A) (x : A) → [] ≡ before ++ x ∷ after → ⊥
nothing_before [] after x same = cc
nothing_before (y ∷ before) after x same = cc

pub answers_append : (xs ys : List Line) → answers_in (xs ++ ys) ≡ answers_in xs + answers_in ys
answers_append [] ys = omega arith
answers_append (Answered d reading ∷ xs) ys = omega (arith, answers_append xs ys)
answers_append (Waiting d names ∷ xs) ys = answers_append xs ys

pub map_append : {A B : Type 0} (f : A → B) (xs ys : List A) → map f (xs ++ ys) ≡ map f xs ++ map f ys
map_append f [] ys = refl
map_append f (x ∷ xs) ys = ap (λ rest. f x ∷ rest) (map_append f xs ys)

-- ---- where an answer is listed

-- An answer is listed after what comes before it, or the listing ended by then, where some lines
-- were listed before the others.
abbrev pub ListsOrEnded : SearchLimits → ℕ → List Line → Line → List Line → Listing → Type 0
ListsOrEnded limits round wanted line listed listing =
    ((rest : List Line) × (listed ++ listing.lines ≡ wanted ++ line ∷ rest))
    ⊎ ((rest : List Line) × (wanted ≡ (listed ++ listing.lines) ++ rest) × EndsBy limits round (listed ++ listing.lines) listing.end)

-- an end in a round is one by a later round
pub ends_by : (limits : SearchLimits) (d round answers : ℕ) (listed lines : List Line) (end : End) → answers ≡ answers_in listed → d ≤ round
    → EndsRound limits.answers d answers lines end → EndsBy limits round (listed ++ lines) end
ends_by limits d round answers listed lines (Answers count) same up ends = (ends.0, omega (arith, ends.1, same, answers_append listed lines))
ends_by limits d round answers listed lines (Stopped stop last) same up ends = omega (arith, ends, up)
ends_by limits d round answers listed lines (NoMore waits) same up ends = ends
ends_by limits d round answers listed lines (Rounds last count) same up ends = absurd ends

-- the listing ended inside the round
pub ended_inside : (limits : SearchLimits) (d round answers : ℕ) (wanted listed : List Line) (line : Line) (whole : Round) (end : End) (others : Listing) (rest : List Line)
    → whole.end ≡ Some end → answers ≡ answers_in listed → d ≤ round → wanted ≡ (listed ++ whole.lines) ++ rest → EndsRound limits.answers d answers whole.lines end
    → ListsOrEnded limits round wanted line listed (after_lines whole.lines (unless_ended whole.end others))
ended_inside limits d round answers wanted listed line whole end others rest is same up first ends =
    subst (λ (e : Option End). ListsOrEnded limits round wanted line listed (after_lines whole.lines (unless_ended e others))) (sym is)
    (subst (λ (ls : List Line). ListsOrEnded limits round wanted line listed (record { lines = ls; end = end })) (sym (append-nil whole.lines))
    (inr (rest, first, ends_by limits d round answers listed whole.lines end same up ends)))

pub regroup_prefix : (a b c d : List Line) (x : Line) → a ++ ((b ++ x ∷ c) ++ d) ≡ (a ++ b) ++ x ∷ (c ++ d)
regroup_prefix a b c d x = ap (λ (ls : List Line). a ++ ls) (append_assoc b (x ∷ c) d) ∙ sym (append_assoc a b (x ∷ (c ++ d)))

-- the answer is one of this round
pub lists_here : (limits : SearchLimits) (d : ℕ) (tally : Tally) (suffix : List Next) (reading : Reading) (listed lines : List Line) (whole : Round) (others : Listing)
    → tally.answers ≡ answers_in listed → Passed d limits.answers tally.answers lines whole (λ after. round_of d limits.answers after (Answer reading ∷ suffix))
    → ListsOrEnded limits d (listed ++ lines) (Answered d reading) listed (after_lines whole.lines (unless_ended whole.end others))
unfolding round_of
lists_here limits d tally suffix reading listed lines whole others same (passed after is count) =
    let later = round_of d limits.answers after (Answer reading ∷ suffix) in
    let tail : Round =
    if is_last limits.answers (after.answers + 1) then nothing (one_answer after) (Some (Answers (after.answers + 1))) else round_of d limits.answers (one_answer after) suffix in
    let more = (unless_ended whole.end others).lines in
    inl (
      tail.lines ++ more,
      ap (λ (r : Round). listed ++ (r.lines ++ more)) is ∙ regroup_prefix listed lines tail.lines more (Answered d reading),
    )
lists_here limits d tally suffix reading listed lines whole others same (ended end rest is first ends) =
    ended_inside limits d d tally.answers (listed ++ lines) listed (Answered d reading) whole end others rest is same (omega arith)
    (ap (λ (ls : List Line). listed ++ ls) first ∙ sym (append_assoc listed whole.lines rest)) ends

-- the answer is one of a later round
pub lists_after : (limits : SearchLimits) (round : ℕ) (wanted listed lines : List Line) (line : Line) (others : Listing) → ListsOrEnded limits round wanted line (listed ++ lines) others
    → ListsOrEnded limits round wanted line listed (after_lines lines others)
lists_after limits round wanted listed lines line others found =
    let same : (listed ++ lines) ++ others.lines ≡ listed ++ (lines ++ others.lines) = append_assoc listed lines others.lines in
    subst
    (λ (ls : List Line). ((rest : List Line) × (ls ≡ wanted ++ line ∷ rest)) ⊎ ((rest : List Line) × (wanted ≡ ls ++ rest) × EndsBy limits round ls others.end))
    same found

pub not_exhausted : (others : Tally → List State → Listing) (tally : Tally) (following : List State) → (following ≡ [] → ⊥)
    → unless_exhausted others tally following ≡ others tally following
not_exhausted others tally [] some = absurd (some refl)
not_exhausted others tally (state ∷ states) some = refl

pub lists_later : (limits : SearchLimits) (d round : ℕ) (tally : Tally) (wanted listed lines : List Line) (line : Line) (whole : Round) (others : Tally → List State → Listing)
    (following : List State) → tally.answers ≡ answers_in listed → d ≤ round → (following ≡ [] → ⊥)
    → ((prefix rest : List Line) → lines ≡ prefix ++ rest → (more : List Line) × (wanted ≡ (listed ++ prefix) ++ more))
    → ((after : Tally) → after.answers ≡ answers_in (listed ++ lines) → ListsOrEnded limits round wanted line (listed ++ lines) (others after following))
    → Passed d limits.answers tally.answers lines whole (λ after. nothing after None)
    → ListsOrEnded limits round wanted line listed (after_lines whole.lines (unless_ended whole.end (unless_exhausted others whole.tally following)))
lists_later limits d round tally wanted listed lines line whole others following same up some first later (passed after is count) =
    subst (λ (r : Round). ListsOrEnded limits round wanted line listed (after_lines r.lines (unless_ended r.end (unless_exhausted others r.tally following)))) (sym is)
    (subst (λ (ls : List Line). ListsOrEnded limits round wanted line listed (after_lines ls (unless_exhausted others after following))) (sym (append-nil lines))
    (subst (λ (l : Listing). ListsOrEnded limits round wanted line listed (after_lines lines l)) (sym (not_exhausted others after following some))
    (lists_after limits round wanted listed lines line (others after following) (later after (omega (arith, count, same, answers_append listed lines))))))
lists_later limits d round tally wanted listed lines line whole others following same up some first later (ended end rest is prefix ends) =
    let found = first whole.lines rest prefix in
    ended_inside limits d round tally.answers wanted listed line whole end (unless_exhausted others whole.tally following) found.0 is same up found.1 ends

-- ---- all rounds

pub regroup : (a b c d e : List Line) → (a ++ (b ++ c)) ++ d ++ e ≡ (a ++ b) ++ (c ++ d ++ e)
regroup a b c d e =
    ap (λ (ls : List Line). ls ++ d ++ e) (sym (append_assoc a b c)) ∙ ap (λ (ls : List Line). ls ++ e) (append_assoc (a ++ b) c d) ∙ append_assoc (a ++ b) (c ++ d) e

module _ (program : Code) (limits : SearchLimits) (start : State) (round : ℕ) (before after : List State) (state : State) (reading : Reading)
    (level_is : level program limits start round ≡ before ++ state ∷ after) (answers : run limits.stride program limits.step state ≡ Answer reading) where
  abbrev pub wanted : List Line
  wanted = earlier program limits start round before

  abbrev pub Found : ℕ → List Line → Listing → Type 0
  Found d listed listing = ListsOrEnded limits round wanted (Answered round reading) listed listing

  -- lines that are first ones of those up to a round are first ones of those before a later place
  pub ended_first : (d : ℕ) (listed prefix rest : List Line) → d < round → listed ≡ lines_before (events program limits start) d
      → flat_map (lines_of d) (events program limits start d) ≡ prefix ++ rest → (more : List Line) × (wanted ≡ (listed ++ prefix) ++ more)
  ended_first d listed prefix rest less is first =
      let later = later_lines (events program limits start) (d + 1) round (omega arith) in
      let last = flat_map (lines_of round) (events_of program limits before) in
      let so_far : lines_before (events program limits start) (d + 1) ≡ listed ++ (prefix ++ rest) =
      ap (lines_before (events program limits start)) (add-one d) ∙ ap₂ (λ (xs ys : List Line). xs ++ ys) (sym is) first in (
        rest ++ later.0 ++ last,
        ap (λ (ls : List Line). ls ++ last) (later.1 ∙ ap (λ (ls : List Line). ls ++ later.0) so_far) ∙ regroup listed prefix rest later.0 last,
      )

  pub level_goes_on : (d : ℕ) (following : List State) → d < round → following ≡ level program limits start (d + 1) → following ≡ [] → ⊥
  level_goes_on d following less is none =
      nothing_before before after state
      (sym (level_stays_empty (run limits.stride program limits.step) start (d + 1) round (omega arith) (sym is ∙ none)) ∙ level_is)

  pub level_lists_here : (d : ℕ) (tally : Tally) (states : List State) (listed : List Line) (others : Tally → List State → Listing) → d ≡ round
      → states ≡ level program limits start d → listed ≡ lines_before (events program limits start) d → tally.answers ≡ answers_in listed
      → Found d listed (list_level others program limits d tally states)
  level_lists_here d tally states listed others here is so_far count =
      let event = run limits.stride program limits.step in
      let outcomes = map event states in
      let whole = round_of round limits.answers tally outcomes in
      let prefix = events_of program limits before in
      let suffix = events_of program limits after in
      let split : outcomes ≡ prefix ++ Answer reading ∷ suffix =
      ap (map event) (is ∙ ap (level program limits start) here ∙ level_is) ∙ map_append event before (state ∷ after)
      ∙ ap (λ (e : Next). prefix ++ e ∷ suffix) answers in
      let others_here = unless_exhausted others whole.tally (flat_map go_list outcomes) in
      let found : ListsOrEnded limits round (listed ++ flat_map (lines_of round) prefix) (Answered round reading) listed
      (after_lines whole.lines (unless_ended whole.end others_here)) =
      lists_here limits round tally suffix reading listed (flat_map (lines_of round) prefix) whole others_here count
      (subst (λ (os : List Next). Passed round limits.answers tally.answers (flat_map (lines_of round) prefix) (round_of round limits.answers tally os)
      (λ rest. round_of round limits.answers rest (Answer reading ∷ suffix))) (sym split)
      (passed_of round limits.answers tally prefix (Answer reading ∷ suffix))) in
      let listed_is : listed ≡ lines_before (events program limits start) round = so_far ∙ ap (lines_before (events program limits start)) here in
      subst (λ (n : ℕ). Found n listed (list_level others program limits n tally states)) (sym here)
      (subst (λ (ls : List Line). ListsOrEnded limits round (ls ++ flat_map (lines_of round) prefix) (Answered round reading) listed (list_level others program limits round tally states))
      listed_is found)

  pub level_lists_later : (d : ℕ) (tally : Tally) (states : List State) (listed : List Line) (others : Tally → List State → Listing) → d < round
      → states ≡ level program limits start d → listed ≡ lines_before (events program limits start) d → tally.answers ≡ answers_in listed
      → ((next_tally : Tally) (following : List State) → following ≡ level program limits start (d + 1)
      → next_tally.answers ≡ answers_in (listed ++ flat_map (lines_of d) (events program limits start d))
      → Found (d + 1) (listed ++ flat_map (lines_of d) (events program limits start d)) (others next_tally following))
      → Found d listed (list_level others program limits d tally states)
  unfolding round_of
  level_lists_later d tally states listed others less is so_far count later =
      let event = run limits.stride program limits.step in
      let outcomes = map event states in
      let lines = flat_map (lines_of d) outcomes in
      let lines_are : lines ≡ flat_map (lines_of d) (events program limits start d) = ap (λ (xs : List State). flat_map (lines_of d) (map event xs)) is in
      let following = flat_map go_list outcomes in
      let follows : following ≡ level program limits start (d + 1) = following_level event start d states is in
      lists_later limits d round tally wanted listed lines (Answered round reading) (round_of d limits.answers tally outcomes) others following count (omega arith)
      (level_goes_on d following less follows)
      (λ prefix rest first. ended_first d listed prefix rest less so_far (sym lines_are ∙ first))
      (λ next_tally counted.
      subst (λ (ls : List Line). Found (d + 1) (listed ++ ls) (others next_tally following)) (sym lines_are)
      (later next_tally following follows (counted ∙ ap (λ (ls : List Line). answers_in (listed ++ ls)) lines_are)))
      (subst (λ (os : List Next). Passed d limits.answers tally.answers lines (round_of d limits.answers tally os) (λ rest. nothing rest None)) (append-nil outcomes)
      (passed_of d limits.answers tally outcomes []))

  pub ended_by_then : (d : ℕ) (listed : List Line) (end : End) → d < round → listed ≡ lines_before (events program limits start) d
      → ((lines : List Line) → EndsBy limits round lines end)
      → Found (d + 1) (listed ++ flat_map (lines_of d) (events program limits start d)) (only_end end)
  ended_by_then d listed end less so_far ends =
      let here = flat_map (lines_of d) (events program limits start d) in
      let first = ended_first d listed here [] less so_far (sym (append-nil here)) in
      inr (first.0, first.1 ∙ ap (λ (ls : List Line). ls ++ first.0) (sym (append-nil (listed ++ here))), ends ((listed ++ here) ++ []))

  pub unless_too_wide : (d : ℕ) (listed : List Line) (wide : Bool) (end : End) (others : Listing) → Found d listed (only_end end) → Found d listed others
      → Found d listed (if wide then only_end end else others)
  unless_too_wide d listed true end others ends goes = ends
  unless_too_wide d listed false end others ends goes = goes

  pub rounds_here : (left d : ℕ) (tally : Tally) (states : List State) (listed : List Line) → d ≡ round → states ≡ level program limits start d
      → listed ≡ lines_before (events program limits start) d → tally.answers ≡ answers_in listed → Found d listed (rounds left program limits d tally states)
  unfolding rounds
  rounds_here zero d tally states listed here is so_far count =
      level_lists_here d tally states listed (λ next_tally following. only_end (Rounds d (length following))) here is so_far count
  rounds_here (suc left) d tally states listed here is so_far count =
      level_lists_here d tally states listed
      (λ next_tally following.
      if nat_lt limits.step.width (length following) then only_end (Stopped (TooWide (length following)) (d + 1))
      else rounds left program limits (d + 1) next_tally following)
      here is so_far count

  pub rounds_list_answer : (left d : ℕ) (tally : Tally) (states : List State) (listed : List Line) → d + left ≡ limits.rounds → d ≤ round
      → states ≡ level program limits start d → listed ≡ lines_before (events program limits start) d → tally.answers ≡ answers_in listed
      → Found d listed (rounds left program limits d tally states)
  unfolding rounds
  rounds_list_answer zero d tally states listed last up is so_far count = elim (cases_lt d round) [
    | inr from ↦ rounds_here zero d tally states listed (omega arith) is so_far count
    | inl less ↦
        level_lists_later d tally states listed (λ next_tally following. only_end (Rounds d (length following))) less is so_far count
        (λ next_tally following follows counted.
        ended_by_then d listed (Rounds d (length following)) less so_far (λ lines. (omega arith, less)))
  ]
  rounds_list_answer (suc left) d tally states listed last up is so_far count = elim (cases_lt d round) [
    | inr from ↦ rounds_here (suc left) d tally states listed (omega arith) is so_far count
    | inl less ↦
        level_lists_later d tally states listed
        (λ next_tally following.
        if nat_lt limits.step.width (length following) then only_end (Stopped (TooWide (length following)) (d + 1))
        else rounds left program limits (d + 1) next_tally following)
        less is so_far count
        (λ next_tally following follows counted.
        let here = flat_map (lines_of d) (events program limits start d) in
        unless_too_wide (d + 1) (listed ++ here) (nat_lt limits.step.width (length following)) (Stopped (TooWide (length following)) (d + 1))
        (rounds left program limits (d + 1) next_tally following)
        (ended_by_then d listed (Stopped (TooWide (length following)) (d + 1)) less so_far (λ lines. omega arith))
        (rounds_list_answer left (d + 1) next_tally following (listed ++ here) (omega arith) (omega arith) follows
        (ap (λ (ls : List Line). ls ++ here) so_far ∙ ap (lines_before (events program limits start)) (sym (add-one d))) counted))
  ]

  -- the whole listing
  pub listing_lists : IsListed round wanted reading (listing program limits start) ⊎ EndedBefore limits round wanted (listing program limits start)
  unfolding level_by
  listing_lists =
      elim (rounds_list_answer limits.rounds 0 (record { answers = 0; waits = 0 }) (start ∷ []) [] (omega arith) (omega arith) refl refl refl) [
        | inl there ↦ inl (record { rest = there.0; split = there.1 })
        | inr ends ↦ inr (record { rest = ends.0; first = ends.1; end = ends.2 })
      ]
