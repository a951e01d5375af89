-- Trials: the built-in module and the goal of a trial, and what is written in place of the lines
-- of a listing.
use Rattle.std.specs.Prelude.{
  ℕ,
  ℤ,
  List,
  [],
  ◌∷◌,
  ◌++◌,
  Option,
  None,
  codes,
  decimal,
}
use Rattle.std.specs.Fmt.{signed_decimal}
use Rattle.std.specs.List.{concat}
use Rattle.cu_io.specs.Calls.{no_calls}
use Rattle.cu_io.specs.Shelf.{Shelf, shelf_holdings}
use Rattle.cu_machine.specs.Listing.{Listing}
use Rattle.cu_machine.specs.declared.End.{End}
use Rattle.cu_machine.specs.declared.SearchLimits.{SearchLimits}
use Rattle.cu_search.specs.Lines.{end_text}
use Rattle.cu_search.specs.Totals.{totals_of}
use Rattle.cu_search.specs.declared.totals.Totals.{Totals}
use Rattle.cu_words.specs.Words.{Trial}

-- The module of trials, which is built in. In it `grow n 0` has the numbers of n bits, each once.
abbrev pub trial_module : List ℕ
trial_module =
    codes "bit = 0\nbit = 1\ngrow n x = if n == 0 then x else grow (n - 1) (x + x + bit)\n"

-- the library of a trial, which holds the module of trials alone
abbrev pub trial_library : Shelf
trial_library = record {
  modules = record { dir = codes ""; name = codes "Trial"; text = trial_module } ∷ [];
  files = [];
  failing = [];
  calls = no_calls;
}

-- the texts that the library of a trial holds
abbrev pub trial_held : List ℕ → Option (List ℕ)
trial_held = (shelf_holdings trial_library).module_at (codes "")

-- the goal of a trial
abbrev pub trial_goal : ℕ → List ℕ
trial_goal depth = codes "grow " ++ (decimal depth ++ codes " 0")

-- The limits of a trial. Those that its words don't tell are the ones that a `solve` has by
-- default.
abbrev pub trial_limits : Trial → SearchLimits
trial_limits trial = record {
  rounds = 100000;
  answers = None;
  stride = trial.stride;
  step = record { nodes = 1000000; width = trial.width };
}

-- the first line that a trial writes: how many lines the goal's listing has before its last one
abbrev pub answers_line : ℕ → List ℕ
answers_line lines = codes "answers " ++ (decimal lines ++ codes "\n")

-- the second line that a trial writes: the sum of the numbers in the listing's lines
abbrev pub sum_line : ℤ → List ℕ
sum_line sum = codes "sum " ++ (signed_decimal sum ++ codes "\n")

-- the lines that a trial writes: what the goal's listing comes to, and how it ends
abbrev pub totals_pieces : Totals → End → List (List ℕ)
totals_pieces totals end = answers_line totals.lines ∷ sum_line totals.sum ∷ end_text end ∷ []

-- the bytes that a trial writes, for the listing of its goal
abbrev pub totals_text : Listing → List ℕ
totals_text found = concat (totals_pieces (totals_of found) found.end)
