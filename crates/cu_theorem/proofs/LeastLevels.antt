-- A program that has levels has least ones. Begin with 0 for each function, and give each again and
-- again what its rules ask for by the levels so far: these rise and stay below all levels, and
-- where they stay as they are they are levels.
use Rattle.std.proofs.Common.{◌≡◌, ℕ, zero, suc, ◌+◌, ◌-◌, ◌<◌, ◌≤◌, ◌⊎◌, inl, inr, List, [], ◌∷◌, length, map, Some, slice_get, slice_index, refl, ap, sym, ◌∙◌, subst, arith}
use Rattle.std.proofs.lemmas.Bool.{cases_order}
use Rattle.std.proofs.lemmas.List.{length-map}
use Rattle.cu_calculus.specs.Claims.{Allows, AreLeastLevels, AreLevels, Collected, Mention, Plain, body_mentions, level_of}
use Rattle.cu_calculus.specs.Program.{Function, Program}

-- ---- lists of numbers

-- at each place at most the other's number
abbrev pub Below : List ℕ → List ℕ → Type 0
Below xs ys = (k : ℕ) → slice_index xs k ≤ slice_index ys k

abbrev total : List ℕ → ℕ
total [] = 0
total (x ∷ xs) = x + total xs

total_rises : (xs ys : List ℕ) → length xs ≡ length ys → Below xs ys → total xs ≤ total ys
total_rises [] [] e b = omega arith
total_rises [] (y ∷ ys) e b = absurd (omega arith)
total_rises (x ∷ xs) [] e b = absurd (omega arith)
total_rises (x ∷ xs) (y ∷ ys) e b =
    let first : x ≤ y = b 0 in
    let rest : total xs ≤ total ys = total_rises xs ys (omega arith) (λ k. b (suc k)) in
    omega arith

-- numbers that rise stay as they are or add up to more
rises_or_stays : (xs ys : List ℕ) → length xs ≡ length ys → Below xs ys → Below ys xs ⊎ (total xs < total ys)
rises_or_stays [] [] e b = inl b
rises_or_stays [] (y ∷ ys) e b = absurd (omega arith)
rises_or_stays (x ∷ xs) [] e b = absurd (omega arith)
rises_or_stays (x ∷ xs) (y ∷ ys) e b = by (cases_order x y) (rises_or_stays xs ys (omega arith) (λ k. b (suc k)))
  where
    first : x ≤ y
    first = b 0

    rest : total xs ≤ total ys
    rest = total_rises xs ys (omega arith) (λ k. b (suc k))

    each : x ≡ y → Below ys xs → Below (y ∷ ys) (x ∷ xs)
    each same stays zero = omega arith
    each same stays (suc k) = stays k

    by : (x ≡ y) ⊎ ((x < y) ⊎ (y < x)) → Below ys xs ⊎ (total xs < total ys) → Below (y ∷ ys) (x ∷ xs) ⊎ (x + total xs < y + total ys)
    by (inl same) (inl stays) = inl (each same stays)
    by (inl same) (inr less) = inr (omega arith)
    by (inr (inl less)) other = inr (omega (arith, rest))
    by (inr (inr more)) other = absurd (omega (arith, first))

-- ---- what mentions ask for

abbrev needed : List ℕ → Mention → ℕ
needed levels (Plain f) = level_of levels f
needed levels (Collected f) = suc (level_of levels f)

-- the least level that allows these
abbrev most : List ℕ → List Mention → ℕ
most levels [] = 0
most levels (m ∷ ms) = needed levels m + (most levels ms - needed levels m)

allowed_by_needed : (levels : List ℕ) (level : ℕ) (m : Mention) → needed levels m ≤ level → Allows levels level m
allowed_by_needed levels level (Plain f) h = h
allowed_by_needed levels level (Collected f) h = omega arith

needed_by_allowed : (levels : List ℕ) (level : ℕ) (m : Mention) → Allows levels level m → needed levels m ≤ level
needed_by_allowed levels level (Plain f) h = h
needed_by_allowed levels level (Collected f) h = omega arith

needed_rises : (xs ys : List ℕ) → Below xs ys → (m : Mention) → needed xs m ≤ needed ys m
needed_rises xs ys b (Plain f) = b f.0
needed_rises xs ys b (Collected f) = let low : slice_index xs f.0 ≤ slice_index ys f.0 = b f.0 in omega arith

most_allows : (levels : List ℕ) (level : ℕ) (ms : List Mention) → most levels ms ≤ level → (k : ℕ) (m : Mention) → slice_get ms k ≡ Some m
    → Allows levels level m
most_allows levels level [] h k m e = let no : ⊥ = cc in absurd no
most_allows levels level (n ∷ ms) h zero m e =
    let same : n ≡ m = cc in
    let low : needed levels n ≤ level = omega arith in
    subst (λ (x : Mention). Allows levels level x) same (allowed_by_needed levels level n low)
most_allows levels level (n ∷ ms) h (suc k) m e = most_allows levels level ms (omega arith) k m e

allowed_most : (levels : List ℕ) (level : ℕ) (ms : List Mention) → ((k : ℕ) (m : Mention) → slice_get ms k ≡ Some m → Allows levels level m)
    → most levels ms ≤ level
allowed_most levels level [] h = omega arith
allowed_most levels level (m ∷ ms) h =
    let first : needed levels m ≤ level = needed_by_allowed levels level m (h 0 m refl) in
    let rest : most levels ms ≤ level = allowed_most levels level ms (λ k n e. h (suc k) n e) in
    omega arith

most_rises : (xs ys : List ℕ) → Below xs ys → (ms : List Mention) → most xs ms ≤ most ys ms
most_rises xs ys b [] = omega arith
most_rises xs ys b (m ∷ ms) =
    let first : needed xs m ≤ needed ys m = needed_rises xs ys b m in
    let rest : most xs ms ≤ most ys ms = most_rises xs ys b ms in
    omega arith

-- ---- the levels that functions ask for

abbrev asked : List ℕ → Function → ℕ
asked levels function = most levels (body_mentions function.body)

-- a place of mapped functions
at_place : (g : Function → ℕ) (fs : List Function) (k : ℕ)
    → ((f : Function) × (slice_get fs k ≡ Some f) × (slice_index (map g fs) k ≡ g f)) ⊎ (slice_index (map g fs) k ≡ 0)
at_place g [] k = inr refl
at_place g (f ∷ fs) zero = inl (f, refl, refl)
at_place g (f ∷ fs) (suc k) = at_place g fs k

at_function : (g : Function → ℕ) (fs : List Function) (k : ℕ) (f : Function) → slice_get fs k ≡ Some f → slice_index (map g fs) k ≡ g f
at_function g [] k f e = let no : ⊥ = cc in absurd no
at_function g (h ∷ fs) zero f e = let same : h ≡ f = cc in ap g same
at_function g (h ∷ fs) (suc k) f e = at_function g fs k f e

all_asked_rises : (xs ys : List ℕ) → Below xs ys → (fs : List Function) → Below (map (asked xs) fs) (map (asked ys) fs)
all_asked_rises xs ys b [] k = omega arith
all_asked_rises xs ys b (f ∷ fs) zero = most_rises xs ys b (body_mentions f.body)
all_asked_rises xs ys b (f ∷ fs) (suc k) = all_asked_rises xs ys b fs k

module _ (program : Program) where
  abbrev raised : List ℕ → List ℕ
  raised levels = map (asked levels) program.functions

  abbrev levels_after : ℕ → List ℕ
  levels_after zero = map (λ (f : Function). 0) program.functions
  levels_after (suc n) = raised (levels_after n)

  raised_below : (levels : List ℕ) → AreLevels program levels → Below (raised levels) levels
  raised_below levels are k = by (at_place (asked levels) program.functions k)
    where
      by : ((f : Function) × (slice_get program.functions k ≡ Some f) × (slice_index (raised levels) k ≡ asked levels f))
          ⊎ (slice_index (raised levels) k ≡ 0) → slice_index (raised levels) k ≤ slice_index levels k
      by (inl found) =
          let is : slice_index (raised levels) k ≡ asked levels found.0 = found.2 in
          let low : asked levels found.0 ≤ slice_index levels k =
          allowed_most levels (slice_index levels k) (body_mentions found.0.body) (λ m mention e. are.allowed k m found.0 mention found.1 e) in
          omega arith
      by (inr none) = omega arith

  -- where functions ask for no more than levels have, these are levels
  are_levels_by : (levels : List ℕ) → length levels ≡ length program.functions → Below (raised levels) levels → AreLevels program levels
  are_levels_by levels each low = record {
    each = each;
    allowed = λ k m function mention e g.
        let is : slice_index (raised levels) k ≡ asked levels function = at_function (asked levels) program.functions k function e in
        let below : slice_index (raised levels) k ≤ slice_index levels k = low k in
        most_allows levels (slice_index levels k) (body_mentions function.body) (omega arith) m mention g;
  }

  first_is_zero : (k : ℕ) → slice_index (levels_after 0) k ≡ 0
  first_is_zero k = by (at_place (λ (f : Function). 0) program.functions k)
    where
      by : ((f : Function) × (slice_get program.functions k ≡ Some f) × (slice_index (levels_after 0) k ≡ 0)) ⊎ (slice_index (levels_after 0) k ≡ 0)
          → slice_index (levels_after 0) k ≡ 0
      by (inl found) = found.2
      by (inr none) = none

  after_rises : (n : ℕ) → Below (levels_after n) (levels_after (suc n))
  after_rises zero k = let none = first_is_zero k in omega arith
  after_rises (suc n) k = all_asked_rises (levels_after n) (levels_after (suc n)) (after_rises n) program.functions k

  after_below : (levels : List ℕ) → AreLevels program levels → (n : ℕ) → Below (levels_after n) levels
  after_below levels are zero k = let none = first_is_zero k in omega arith
  after_below levels are (suc n) k =
      let one : slice_index (raised (levels_after n)) k ≤ slice_index (raised levels) k =
      all_asked_rises (levels_after n) levels (after_below levels are n) program.functions k in
      let two : slice_index (raised levels) k ≤ slice_index levels k = raised_below levels are k in
      omega arith

  after_length : (n : ℕ) → length (levels_after n) ≡ length program.functions
  after_length zero = length-map program.functions (λ (f : Function). 0)
  after_length (suc n) = length-map program.functions (asked (levels_after n))

  module _ (levels : List ℕ) (are : AreLevels program levels) where
    stops : (left n : ℕ) → total levels < total (levels_after n) + left → (m : ℕ) × Below (levels_after (suc m)) (levels_after m)
    stops zero n h =
        let low : total (levels_after n) ≤ total levels =
        total_rises (levels_after n) levels (after_length n ∙ sym are.each) (after_below levels are n) in
        absurd (omega arith)
    stops (suc left) n h =
        by (rises_or_stays (levels_after n) (levels_after (suc n)) (after_length n ∙ sym (after_length (suc n))) (after_rises n))
        (λ more. stops left (suc n) more)
      where
        by : Below (levels_after (suc n)) (levels_after n) ⊎ (total (levels_after n) < total (levels_after (suc n)))
            → (total levels < total (levels_after (suc n)) + left → (m : ℕ) × Below (levels_after (suc m)) (levels_after m))
            → (m : ℕ) × Below (levels_after (suc m)) (levels_after m)
        by (inl stays) later = (n, stays)
        by (inr less) later = later (omega (arith, h, less))

pub least_levels : (program : Program) (levels : List ℕ) → AreLevels program levels → (least : List ℕ) × AreLeastLevels program least
least_levels program levels are =
    let enough : total levels < total (levels_after program 0) + suc (total levels) = omega arith in
    let found = stops program levels are (suc (total levels)) 0 enough in (
      levels_after program found.0,
      record { are_levels = are_levels_by program (levels_after program found.0) (after_length program found.0) found.1; least = λ others k each. after_below program others each found.0 k },
    )

-- ---- a function that mentions nothing

-- By least levels it has the level 0: what functions ask for by levels are levels too.
pub lowest : (program : Program) (levels : List ℕ) (k : ℕ) (function : Function) → AreLeastLevels program levels
    → slice_get program.functions k ≡ Some function → body_mentions function.body ≡ [] → slice_index levels k ≡ 0
lowest program levels k function least e none =
    let low = raised_below program levels least.are_levels in
    let again : AreLevels program (raised program levels) =
    are_levels_by program (raised program levels) (length-map program.functions (asked levels))
    (all_asked_rises (raised program levels) levels low program.functions) in
    let high : slice_index levels k ≤ slice_index (raised program levels) k = least.least (raised program levels) k again in
    let is : slice_index (raised program levels) k ≡ asked levels function = at_function (asked levels) program.functions k function e in
    let nothing : asked levels function ≡ 0 = ap (most levels) none in
    omega arith
