-- The next lines of a listing: those of the next round that has any, or that ends the listing.
use Rattle.std.specs.Prelude.{◌≡◌, ◌≢◌, ℕ, List, [], ◌++◌, Option, Some, None, true, Result, Ok, Err}
use Rattle.cu_machine.specs.declared.End.{End}
use Rattle.cu_search.specs.declared.fault.SearchFault.{SearchFault}
use Rattle.cu_search.specs.declared.search.Round.{Round}
use Rattle.cu_search.specs.declared.search.Round.TheVariants.{Ended, Going}
use Rattle.cu_search.specs.Lines.{end_text, lines_bytes, listing_bytes}
use Rattle.cu_search.specs.Standing.{IsGoing, Standing, end_at, left_of, next_of, round_at}
use Rattle.cu_search.specs.Written.{Adds, AddsPrefix}

-- The bytes of the next lines, and where the search stands after them, unless the listing ends with
-- them.
pub data NextLines : Standing → List ℕ → Option Standing → Type 0 where
  -- The listing ends with the next round: these are the round's lines, if it has any, and the last
  -- line of the listing.
  ends : (s : Standing) (bytes : List ℕ) (after : Option Standing) (end : End) → end_at s ≡ Some end
      → bytes ≡ lines_bytes s.notation (round_at s).lines ++ end_text end → after ≡ None
      → NextLines s bytes after
  -- The next round has lines, and more rounds follow.
  has_lines : (s : Standing) (bytes : List ℕ) (after : Option Standing) → end_at s ≡ None
      → (round_at s).lines ≢ [] → bytes ≡ lines_bytes s.notation (round_at s).lines
      → after ≡ Some (next_of s) → NextLines s bytes after
  -- The next round has no line, and the next lines are those after it.
  has_none : (s : Standing) (bytes : List ℕ) (after : Option Standing) → end_at s ≡ None
      → (round_at s).lines ≡ [] → NextLines (next_of s) bytes after → NextLines s bytes after

-- Rounds were run for the next lines of a search, by what the last of them came to: the next lines
-- were written, and the search stands after them. Where the search broke off, a prefix of what was
-- left of the listing was written.
abbrev pub ListsNext : Result Round SearchFault → Standing → Standing → Option (List ℕ)
    → Option (List ℕ) → Type 0
ListsNext (Ok Going) old new before after =
    (bytes : List ℕ) × NextLines old bytes (Some new) × IsGoing new × Adds before after bytes
ListsNext (Ok (Ended end)) old new before after =
    (bytes : List ℕ) × NextLines old bytes None × (end ≡ (left_of old).end)
    × (new.ended ≡ true) × Adds before after bytes
ListsNext (Err fault) old new before after =
    (new.ended ≡ true) × AddsPrefix before after (listing_bytes old.notation (left_of old))
