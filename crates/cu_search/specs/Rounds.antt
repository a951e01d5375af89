-- What a round does to a search and to its output, by what it comes to.
use Rattle.std.specs.Prelude.{◌≡◌, ◌≤◌, ℕ, List, Option, Some, None, IfSome, true, Result, Ok, Err}
use Rattle.cu_machine.specs.Listing.{after_lines}
use Rattle.cu_search.specs.declared.fault.SearchFault.{SearchFault}
use Rattle.cu_search.specs.declared.search.Round.{Round}
use Rattle.cu_search.specs.declared.search.Round.TheVariants.{Ended, Going}
use Rattle.cu_search.specs.Lines.{lines_bytes, listing_bytes}
use Rattle.cu_search.specs.Standing.{IsGoing, Standing, end_at, left_of, next_of, round_at}
use Rattle.cu_search.specs.Written.{Adds, AddsPrefix}

-- Where a number of workers is named, it is 1 to 64.
abbrev pub IsWorkerCount : Option ℕ → Type 0
IsWorkerCount named = IfSome named (λ count. (1 ≤ count) × (count ≤ 64))

-- The round leaves the new search. Where the search goes on, it stands before the next round, and
-- the lines of this round with what is left of the listing then are what was left before. It ends
-- exactly where the listing ends with this round, with the listing's end. Where it ended or broke
-- off, no round follows.
abbrev pub Leaves : {E : Type 0} → Result Round E → Standing → Standing → Type 0
Leaves (Ok Going) old new =
    (end_at old ≡ None) × (new ≡ next_of old) × IsGoing new
    × (left_of old ≡ after_lines (round_at old).lines (left_of new))
Leaves (Ok (Ended end)) old new = (end_at old ≡ Some end) × (end ≡ (left_of old).end)
    × (new.ended ≡ true)
Leaves (Err fault) old new = new.ended ≡ true

-- What the round wrote. Where the search goes on, these are the lines of this round; where the
-- listing ended, all that was left of it; and where the search broke off, a prefix of that.
abbrev pub Writes : Result Round SearchFault → Standing → Option (List ℕ) → Option (List ℕ) → Type 0
Writes (Ok Going) old before after =
    Adds before after (lines_bytes old.notation (round_at old).lines)
Writes (Ok (Ended end)) old before after =
    Adds before after (listing_bytes old.notation (left_of old))
Writes (Err fault) old before after =
    AddsPrefix before after (listing_bytes old.notation (left_of old))
