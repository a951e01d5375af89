-- What a round leaves of a listing.
use Rattle.std.proofs.Common.{◌≡◌, ℕ, zero, suc, ◌+◌, ◌-◌, ◌<◌, ◌≤◌, Bool, true, false, List, [], ◌∷◌, ◌++◌, Option, None, Some, length, refl, sym, ap, subst, ◌∙◌, arith, append_assoc}
use Rattle.std.proofs.Math.Dec.{eqb-suc-zero}
use Rattle.std.proofs.lemmas.Bool.{eq-eqb, ltb-false, ne_eqb}
use Rattle.std.proofs.lemmas.List.{append-nil}
use Rattle.std.specs.List.{All}
use Rattle.std.specs.Option.{option_or}
use Rattle.std.specs.Prelude.{Err, IsErr, Ok, Result, if◌then◌else◌, nat_eq, nat_lt}
use Rattle.cu_calculus.specs.Code.{Code}
use Rattle.cu_machine.specs.declared.SearchLimits.{SearchLimits}
use Rattle.cu_machine.specs.declared.Stop.TheVariants.{TooWide}
use Rattle.cu_machine.specs.declared.End.{End}
use Rattle.cu_machine.specs.declared.End.TheVariants.{NoMore, Rounds, Stopped}
use Rattle.cu_machine.specs.Listing.{Line, Listing, Tally, after_lines, list_level, only_end, rounds, unless_ended, unless_exhausted}
use Rattle.cu_machine.specs.State.{State}
use Rattle.cu_machine.specs.Validity.{IsValid}
use Rattle.cu_search.specs.declared.fault.SearchFault.{SearchFault}
use Rattle.cu_search.specs.declared.search.Round.{Round}
use Rattle.cu_search.specs.Rounds.{Writes}
use Rattle.cu_search.specs.Lines.{Notation, end_text, line_text, lines_bytes, listing_bytes}
use Rattle.cu_search.specs.Standing.{IsGoing, Standing, end_after, end_at, left_of, level_after, next_of, round_at}
use Rattle.cu_search.specs.Written.{Adds, AddsPrefix}
use Rattle.cu_search.proofs.WrittenLemmas.{Adds-append, Continues, begins, continues, prefix, part_prefix}

module _ (code : Code) (limits : SearchLimits) (d : ℕ) where
  -- what is listed of the level after round d, where so many rounds may follow
  abbrev others : ℕ → Tally → List State → Listing
  others zero after following = only_end (Rounds d (length following))
  others (suc left) after following =
      if nat_lt limits.step.width (length following) then only_end (Stopped (TooWide (length following)) (d + 1))
      else rounds left code limits (d + 1) after following

  rounds-level : (left : ℕ) (tally : Tally) (states : List State)
      → rounds left code limits d tally states ≡ list_level (others left) code limits d tally states
  unfolding rounds
  rounds-level zero tally states = refl
  rounds-level (suc left) tally states = refl

  ends-if : (b : Bool) (end : End) (rest : Listing) → (if b then only_end end else rest) ≡ unless_ended (if b then Some end else None) rest
  ends-if true end rest = refl
  ends-if false end rest = refl

  -- what is listed where so many rounds may follow round d
  abbrev following_rounds : Tally → List State → Listing
  following_rounds after following = rounds (limits.rounds - (d + 1)) code limits (d + 1) after following

  after-level : (left : ℕ) (after : Tally) (following : List State) → left + d ≡ limits.rounds
      → unless_exhausted (others left) after following ≡ unless_ended (end_after limits d after.waits (length following)) (following_rounds after following)
  after-level left after [] sum = refl
  after-level zero after (state ∷ states) sum =
      let last : nat_eq d limits.rounds ≡ true = eq-eqb d limits.rounds (omega arith) in rw (eqb-suc-zero (length states), last) refl
  after-level (suc left) after (state ∷ states) sum =
      let more : nat_eq d limits.rounds ≡ false = ne_eqb d limits.rounds (omega arith) in
      let count = suc (length states) in
      let same : left ≡ limits.rounds - (d + 1) = omega arith in
      let is = ends-if (nat_lt limits.step.width count) (Stopped (TooWide count) (d + 1)) (rounds left code limits (d + 1) after (state ∷ states)) in
      rw (eqb-suc-zero (length states), more)
      (is ∙ ap (λ n. unless_ended (if nat_lt limits.step.width count then Some (Stopped (TooWide count) (d + 1)) else None) (rounds n code limits (d + 1) after (state ∷ states))) same)

  after-round : (left : ℕ) (listed : Option End) (after : Tally) (following : List State) → left + d ≡ limits.rounds
      → unless_ended listed (unless_exhausted (others left) after following)
      ≡ unless_ended (option_or listed (end_after limits d after.waits (length following))) (following_rounds after following)
  after-round left None after following sum = after-level left after following sum
  after-round left (Some end) after following sum = refl

-- what is left is the lines of the next round, and then the end, or what is left after it
pub left-is : (s : Standing) → s.round ≤ s.limits.rounds
    → left_of s ≡ after_lines (round_at s).lines (unless_ended (end_at s) (left_of (next_of s)))
left-is s within =
    let left = s.limits.rounds - s.round in
    let sum : s.limits.rounds - s.round + s.round ≡ s.limits.rounds = omega arith in
    rounds-level s.code s.limits s.round left s.tally s.level
    ∙ ap (after_lines (round_at s).lines) (after-round s.code s.limits s.round left (round_at s).end (round_at s).tally (level_after s) sum)

pub left-goes_on : (s : Standing) → s.round ≤ s.limits.rounds → end_at s ≡ None → left_of s ≡ after_lines (round_at s).lines (left_of (next_of s))
left-goes_on s within none = left-is s within ∙ ap (λ end. after_lines (round_at s).lines (unless_ended end (left_of (next_of s)))) none

pub left-ends : (s : Standing) (end : End) → s.round ≤ s.limits.rounds → end_at s ≡ Some end → left_of s ≡ after_lines (round_at s).lines (only_end end)
left-ends s end within some = left-is s within ∙ ap (λ end. after_lines (round_at s).lines (unless_ended end (left_of (next_of s)))) some

after-only_end : (lines : List Line) (end : End) → after_lines lines (only_end end) ≡ record { lines = lines; end = end }
after-only_end lines end = rw (append-nil lines) refl

-- what is left where the listing ends with the next round is that round
pub left-last : (s : Standing) (end : End) → s.round ≤ s.limits.rounds → end_at s ≡ Some end
    → left_of s ≡ record { lines = (round_at s).lines; end = end }
left-last s end within some = left-ends s end within some ∙ after-only_end (round_at s).lines end

-- ---- bytes

bytes-after_lines : (notation : Notation) (lines : List Line) (listing : Listing)
    → listing_bytes notation (after_lines lines listing) ≡ lines_bytes notation lines ++ listing_bytes notation listing
bytes-after_lines notation [] listing = refl
bytes-after_lines notation (line ∷ lines) listing =
    ap (λ bytes. line_text notation line ++ bytes) (bytes-after_lines notation lines listing)
    ∙ sym (append_assoc (line_text notation line) (lines_bytes notation lines) (listing_bytes notation listing))

bytes-only_end : (notation : Notation) (end : End) → listing_bytes notation (only_end end) ≡ end_text end
bytes-only_end notation end = append-nil (end_text end)

-- what is left where the listing goes on after the next round
pub bytes-goes_on : (s : Standing) → s.round ≤ s.limits.rounds → end_at s ≡ None
    → listing_bytes s.notation (left_of s) ≡ lines_bytes s.notation (round_at s).lines ++ listing_bytes s.notation (left_of (next_of s))
bytes-goes_on s within none =
    ap (listing_bytes s.notation) (left-goes_on s within none) ∙ bytes-after_lines s.notation (round_at s).lines (left_of (next_of s))

-- what is left where the listing ends with the next round
pub bytes-ends : (s : Standing) (end : End) → s.round ≤ s.limits.rounds → end_at s ≡ Some end
    → listing_bytes s.notation (left_of s) ≡ lines_bytes s.notation (round_at s).lines ++ end_text end
bytes-ends s end within some =
    ap (listing_bytes s.notation) (left-ends s end within some)
    ∙ bytes-after_lines s.notation (round_at s).lines (only_end end)
    ∙ ap (λ bytes. lines_bytes s.notation (round_at s).lines ++ bytes) (bytes-only_end s.notation end)

-- a prefix of the round's lines is a prefix of what is left
pub lines-prefix : (s : Standing) (a b : Option (List ℕ)) → s.round ≤ s.limits.rounds → AddsPrefix a b (lines_bytes s.notation (round_at s).lines)
    → AddsPrefix a b (listing_bytes s.notation (left_of s))
lines-prefix s a b within h =
    let rest = unless_ended (end_at s) (left_of (next_of s)) in
    let is = ap (listing_bytes s.notation) (left-is s within) ∙ bytes-after_lines s.notation (round_at s).lines rest in
    subst (AddsPrefix a b) (sym is) (part_prefix a b (lines_bytes s.notation (round_at s).lines) (listing_bytes s.notation rest) h)

-- the lines and the line of the end were written, or a prefix of the latter
pub end-written : (s : Standing) (end : End) (a b c : Option (List ℕ)) → s.round ≤ s.limits.rounds → end_at s ≡ Some end
    → Adds a b (lines_bytes s.notation (round_at s).lines) → Adds b c (end_text end) → Adds a c (listing_bytes s.notation (left_of s))
end-written s end a b c within some h k =
    subst (Adds a c) (sym (bytes-ends s end within some)) (Adds-append a b c (lines_bytes s.notation (round_at s).lines) (end_text end) h k)

pub end-prefix : (s : Standing) (end : End) (a b c : Option (List ℕ)) → s.round ≤ s.limits.rounds → end_at s ≡ Some end
    → Adds a b (lines_bytes s.notation (round_at s).lines) → AddsPrefix b c (end_text end) → AddsPrefix a c (listing_bytes s.notation (left_of s))
end-prefix s end a b c within some h k =
    let lines = lines_bytes s.notation (round_at s).lines in
    let begun = continues a a b (lines ++ end_text end) lines (end_text end) (begins a (lines ++ end_text end)) h in
    subst (AddsPrefix a c) (sym (bytes-ends s end within some)) (prefix a b c (lines ++ end_text end) (end_text end) begun k)

-- What is left of what a search had to list, where what was before it was written.
pub record ListingLeft (before now : Option (List ℕ)) (first s : Standing) : Type 0 where
  pub written : Continues before now (listing_bytes first.notation (left_of first)) (listing_bytes s.notation (left_of s))
  pub end : (left_of first).end ≡ (left_of s).end

pub listing-begins : (a : Option (List ℕ)) (s : Standing) → ListingLeft a a s s
listing-begins a s = record { written = begins a (listing_bytes s.notation (left_of s)); end = refl }

-- the lines of a round were written
pub listing-goes_on : (first s after : Standing) (a b c : Option (List ℕ)) → after ≡ next_of s → left_of s ≡ after_lines (round_at s).lines (left_of after)
    → ListingLeft a b first s → Adds b c (lines_bytes s.notation (round_at s).lines) → ListingLeft a c first after
listing-goes_on first s after a b c is left h k =
    let lines = (round_at s).lines in
    let whole = listing_bytes first.notation (left_of first) in
    let same : listing_bytes s.notation (left_of s) ≡ lines_bytes s.notation lines ++ listing_bytes after.notation (left_of after) =
    ap (listing_bytes s.notation) left ∙ bytes-after_lines s.notation lines (left_of after)
    ∙ ap (λ notation. lines_bytes s.notation lines ++ listing_bytes notation (left_of after)) (sym (ap (λ t. t.notation) is)) in
    record {
      written = continues a b c whole (lines_bytes s.notation lines) (listing_bytes after.notation (left_of after)) (subst (Continues a b whole) same h.written) k;
      end = h.end ∙ ap (λ listing. listing.end) left;
    }

-- ---- the next round

if-None : (b : Bool) (end : End) (rest : Option End) → (if b then Some end else rest) ≡ None → (b ≡ false) × (rest ≡ None)
if-None true end rest h = let no : ⊥ = cc in absurd no
if-None false end rest h = (refl, h)

or-None : (first second : Option End) → option_or first second ≡ None → second ≡ None
or-None None second h = h
or-None (Some end) second h = let no : ⊥ = cc in absurd no

eqb-true : (a b : ℕ) → a ≡ b → nat_eq a b ≡ false → ⊥
eqb-true a b same differ =
    let yes_is : nat_eq a b ≡ true = eq-eqb a b same in cc

-- where the listing goes on, there is a round more, and the level isn't too wide
pub end_after-None : (limits : SearchLimits) (d waits count : ℕ) → d ≤ limits.rounds → end_after limits d waits count ≡ None
    → (d + 1 ≤ limits.rounds) × (count ≤ limits.step.width)
end_after-None limits d waits count within none =
    let some = if-None (nat_eq count 0) (NoMore waits) _ none in
    let more = if-None (nat_eq d limits.rounds) (Rounds d count) _ some.1 in
    let narrow = if-None (nat_lt limits.step.width count) (Stopped (TooWide count) (d + 1)) None more.1 in
    let differ : d ≡ limits.rounds → ⊥ = λ same. eqb-true d limits.rounds same more.0 in
    (omega (arith, differ, within), ltb-false limits.step.width count narrow.0)

-- where the listing goes on, the next round isn't the last one that the limit allows
pub round-goes_on : (s : Standing) → s.round ≤ s.limits.rounds → end_at s ≡ None → s.round < s.limits.rounds
round-goes_on s within none =
    let waits = (round_at s).tally.waits in
    let count = length (level_after s) in
    let next = or-None (round_at s).end (end_after s.limits s.round waits count) none in
    let more = (end_after-None s.limits s.round waits count within next).0 in omega (arith, more)

-- a search after a round with this count and this level
abbrev pub advanced : Standing → Tally → List State → Standing
advanced s tally level = record {
  code = s.code;
  notation = s.notation;
  limits = s.limits;
  round = s.round + 1;
  tally = tally;
  level = level;
  ended = false;
}

-- Round d was listed, and `last` says whether the listing ends with it.
pub record Listed (s : Standing) (a b : Option (List ℕ)) (tally : Tally) (level : List State) (last : Option End) : Type 0 where
  pub listed : Option End
  pub next : Option End
  pub waits : ℕ
  pub count : ℕ
  pub written : Adds a b (lines_bytes s.notation (round_at s).lines)
  pub tally_is : tally ≡ (round_at s).tally
  pub listed_is : listed ≡ (round_at s).end
  pub level_is : level ≡ level_after s
  pub waits_is : waits ≡ tally.waits
  pub count_is : count ≡ length level
  pub next_is : next ≡ end_after s.limits s.round waits count
  pub last_is : last ≡ option_or listed next

module _ {s : Standing} {a b : Option (List ℕ)} {tally : Tally} {level : List State} {last : Option End} (done : Listed s a b tally level last) where
  pub last-is : last ≡ end_at s
  last-is =
      done.last_is
      ∙ ap (option_or done.listed) (done.next_is ∙ ap (λ k. end_after s.limits s.round k done.count) (done.waits_is ∙ ap (λ t. t.waits) done.tally_is)
      ∙ ap (end_after s.limits s.round (round_at s).tally.waits) (done.count_is ∙ ap length done.level_is))
      ∙ ap (λ first. option_or first (end_after s.limits s.round (round_at s).tally.waits (length (level_after s)))) done.listed_is

  pub next-is : advanced s tally level ≡ next_of s
  next-is = ap (λ t. advanced s t level) done.tally_is ∙ ap (advanced s (round_at s).tally) done.level_is

  -- the next round may be run
  pub next-going : IsGoing s → last ≡ None → All (IsValid s.code) level → IsGoing (advanced s tally level)
  next-going going none valid =
      let next_none = or-None done.listed done.next (sym done.last_is ∙ none) in
      let more = end_after-None s.limits s.round done.waits done.count going.within (sym done.next_is ∙ next_none) in
      let count_is = done.count_is in
      let narrow = going.width in
      record {
        going = refl;
        within = more.0;
        width = going.width;
        level = omega (arith, more.1, count_is, narrow);
        valid = valid;
      }

-- what was written where a round broke off
pub writes-err : (r : Result Round SearchFault) (s : Standing) (a b : Option (List ℕ)) → IsErr r → AddsPrefix a b (listing_bytes s.notation (left_of s)) → Writes r s a b
writes-err (Ok round) s a b failed prefix = let no : ⊥ = cc in absurd no
writes-err (Err fault) s a b failed prefix = prefix
