-- The text of a goal's listing.
use Rattle.std.specs.Prelude.{ℕ, List, map}
use Rattle.std.specs.List.{concat}
use Rattle.cu_kernel.specs.Kernel.{Goal, Kernel}
use Rattle.cu_machine.specs.Listing.{Listing}
use Rattle.cu_names.specs.Texts.{text_of}
use Rattle.cu_search.specs.Lines.{Notation, pieces}
use Rattle.cu_values.specs.ProgramLabels.{labels_of}

-- the names that the listing of a goal uses, under a table of names
abbrev pub notation_of : List (List ℕ) → Kernel → Goal → Notation
notation_of names program goal = record {
  labels = labels_of names program;
  variables = map (text_of names) goal.names;
}

-- the pieces of a goal's listing: its lines
abbrev pub listing_pieces : List (List ℕ) → Kernel → Goal → Listing → List (List ℕ)
listing_pieces names program goal found = pieces (notation_of names program goal) found

-- the bytes of a goal's listing
abbrev pub listing_text : List (List ℕ) → Kernel → Goal → Listing → List ℕ
listing_text names program goal found = concat (listing_pieces names program goal found)
