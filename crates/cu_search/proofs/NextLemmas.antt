-- The next lines of a listing, a round at a time.
use Rattle.std.proofs.Common.{◌≡◌, ◌≢◌, ◌∙◌, ℕ, zero, suc, ◌+◌, Bool, true, false, List, [], ◌∷◌, ◌++◌, Option, None, Some, length, refl, sym, ap, subst, arith}
use Rattle.std.proofs.lemmas.List.{append-nil}
use Rattle.std.specs.Option.{option_map}
use Rattle.std.specs.Prelude.{Err, Ok, if◌then◌else◌}
use Rattle.cu_machine.specs.declared.End.{End}
use Rattle.cu_machine.specs.declared.End.TheVariants.{Answers}
use Rattle.cu_machine.specs.Listing.{Answered, Line, Listing, Round, Tally, after_lines, is_last, nothing, one_answer, one_wait, round_of, with_line}
use Rattle.cu_machine.specs.Next.{Answer, Fails, Go, Next, Stops, Waits}
use Rattle.cu_search.specs.declared.fault.SearchFault.{SearchFault}
use Rattle.cu_search.specs.declared.search.Round.TheVariants as round
use Rattle.cu_search.specs.Lines.{Notation, lines_bytes, listing_bytes}
use Rattle.cu_search.specs.NextLines.{ListsNext, NextLines, ends, has_lines, has_none}
use Rattle.cu_search.specs.Rounds.{Leaves, Writes}
use Rattle.cu_search.specs.Standing.{IsGoing, Standing, end_at, left_of, next_of, outcomes_of, round_at}
use Rattle.cu_search.specs.Written.{Adds, AddsPrefix}
use Rattle.cu_search.proofs.ListingLemmas.{bytes-ends}

-- ---- how many lines a round has

-- how many lines a count counts
abbrev pub count_of : Tally → ℕ
count_of tally = tally.answers + tally.waits

answer_count : (b : Bool) (line : Line) (tally : Tally) (end : End) (rest : Round) → length rest.lines + count_of (one_answer tally) ≡ count_of rest.tally
    → length (with_line line (if b then nothing (one_answer tally) (Some end) else rest)).lines + count_of tally
    ≡ count_of (with_line line (if b then nothing (one_answer tally) (Some end) else rest)).tally
answer_count true line tally end rest h = omega arith
answer_count false line tally end rest h = omega (arith, h)

nothing_count : (tally : Tally) → 0 + count_of tally ≡ count_of tally
nothing_count tally = omega arith

-- a round has as many lines as are counted in it
pub round_count : (d : ℕ) (limit : Option ℕ) (tally : Tally) (outcomes : List Next)
    → length (round_of d limit tally outcomes).lines + count_of tally ≡ count_of (round_of d limit tally outcomes).tally
unfolding round_of
round_count d limit tally [] = nothing_count tally
round_count d limit tally (Go states ∷ outcomes) = round_count d limit tally outcomes
round_count d limit tally (Answer reading ∷ outcomes) =
    answer_count (is_last limit (tally.answers + 1)) (Answered d reading) tally (Answers (tally.answers + 1)) (round_of d limit (one_answer tally) outcomes)
    (round_count d limit (one_answer tally) outcomes)
round_count d limit tally (Fails ∷ outcomes) = round_count d limit tally outcomes
round_count d limit tally (Waits names ∷ outcomes) =
    let h = round_count d limit (one_wait tally) outcomes in omega (arith, h)
round_count d limit tally (Stops stop ∷ outcomes) = nothing_count tally

empty : {A : Type 0} (xs : List A) (m : ℕ) → length xs + m ≡ m → xs ≡ []
empty [] m h = refl
empty (x ∷ xs) m h = let wrong : ⊥ = omega (arith, h) in absurd wrong

filled : {A : Type 0} (xs : List A) (m n : ℕ) → length xs + m ≡ n → n ≢ m → xs ≢ []
filled [] m n h other = λ is. let same : n ≡ m = omega (arith, h) in other same
filled (x ∷ xs) m n h other = λ is. cc

at_count : (s : Standing) → length (round_at s).lines + count_of s.tally ≡ count_of (round_at s).tally
at_count s = round_count s.round s.limits.answers s.tally (outcomes_of s)

-- the next round has no line where its count is as before
pub no_lines : (s t : Standing) → t ≡ next_of s → count_of t.tally ≡ count_of s.tally → (round_at s).lines ≡ []
no_lines s t is same =
    let counted : count_of t.tally ≡ count_of (round_at s).tally = ap (λ (x : Standing). count_of x.tally) is in
    empty (round_at s).lines (count_of s.tally) (at_count s ∙ sym counted ∙ same)

pub some_lines : (s t : Standing) → t ≡ next_of s → count_of t.tally ≢ count_of s.tally → (round_at s).lines ≢ []
some_lines s t is other =
    let counted : count_of t.tally ≡ count_of (round_at s).tally = ap (λ (x : Standing). count_of x.tally) is in
    filled (round_at s).lines (count_of s.tally) (count_of t.tally) (at_count s ∙ sym counted) other

-- ---- the rounds before the next lines

-- Rounds without lines were run: nothing was written, and the next lines and what is left of the
-- listing are as before.
pub record NextLeft (before now : Option (List ℕ)) (first s : Standing) : Type 0 where
  pub next : (bytes : List ℕ) (after : Option Standing) → NextLines s bytes after → NextLines first bytes after
  pub same : now ≡ before
  pub bytes : listing_bytes first.notation (left_of first) ≡ listing_bytes s.notation (left_of s)
  pub end : (left_of first).end ≡ (left_of s).end

pub next_begins : (x : Option (List ℕ)) (s : Standing) → NextLeft x x s s
next_begins x s = record { next = λ bytes after lines. lines; same = refl; bytes = refl; end = refl }

adds_none : (now after : Option (List ℕ)) → Adds now after [] → after ≡ now
adds_none None after h = h
adds_none (Some told) after h = h ∙ ap Some (append-nil told)

-- a round without lines
pub next_later : (before now after : Option (List ℕ)) (first s t : Standing) → NextLeft before now first s
    → end_at s ≡ None → t ≡ next_of s → left_of s ≡ after_lines (round_at s).lines (left_of t) → Adds now after (lines_bytes s.notation (round_at s).lines)
    → (round_at s).lines ≡ [] → NextLeft before after first t
next_later before now after first s t h none is left adds lines =
    let rest : left_of s ≡ left_of t = left ∙ ap (λ (xs : List Line). after_lines xs (left_of t)) lines in
    let shows : s.notation ≡ t.notation = sym (ap (λ (x : Standing). x.notation) is) in
    record {
      next = λ bytes later more.
          h.next bytes later (has_none s bytes later none lines (subst (λ (x : Standing). NextLines x bytes later) is more));
      same = adds_none now after (subst (λ (xs : List Line). Adds now after (lines_bytes s.notation xs)) lines adds) ∙ h.same;
      bytes = h.bytes ∙ ap (listing_bytes s.notation) rest ∙ ap (λ (n : Notation). listing_bytes n (left_of t)) shows;
      end = h.end ∙ ap (λ (x : Listing). x.end) rest;
    }

adds_from : (before now after : Option (List ℕ)) (bytes : List ℕ) → now ≡ before → Adds now after bytes → Adds before after bytes
adds_from before now after bytes is adds = subst (λ (x : Option (List ℕ)). Adds x after bytes) is adds

-- a round with lines, after which the search goes on
pub next_going : (before now after : Option (List ℕ)) (first s t : Standing) → NextLeft before now first s
    → end_at s ≡ None → t ≡ next_of s → IsGoing t → Adds now after (lines_bytes s.notation (round_at s).lines)
    → (round_at s).lines ≢ [] → ListsNext (Ok round.Going) first t before after
next_going before now after first s t h none is going adds lines =
    let bytes = lines_bytes s.notation (round_at s).lines in
    (bytes, h.next bytes (Some t) (has_lines s bytes (Some t) none lines refl (ap Some is)), going, adds_from before now after bytes h.same adds)

-- a round that ends the listing
pub next_ended : (before now after : Option (List ℕ)) (first s t : Standing) (end : End) → NextLeft before now first s → IsGoing s
    → Leaves {E = SearchFault} (Ok (round.Ended end)) s t → Adds now after (listing_bytes s.notation (left_of s))
    → ListsNext (Ok (round.Ended end)) first t before after
next_ended before now after first s t end h going leaves adds =
    let bytes = listing_bytes s.notation (left_of s) in (
      bytes,
      h.next bytes None (ends s bytes None end leaves.0 (bytes-ends s end going.within leaves.0) refl),
      leaves.1 ∙ sym h.end,
      leaves.2,
      adds_from before now after bytes h.same adds,
    )

-- a search that breaks off
pub next_fails : (before now after : Option (List ℕ)) (first s t : Standing) (fault : SearchFault) → NextLeft before now first s
    → Leaves {E = SearchFault} (Err fault) s t → Writes (Err fault) s now after → ListsNext (Err fault) first t before after
next_fails before now after first s t fault h leaves writes =
    (leaves, subst (AddsPrefix before after) (sym h.bytes) (subst (λ (x : Option (List ℕ)). AddsPrefix x after (listing_bytes s.notation (left_of s))) h.same writes))
