-- The text of a listing: a line for each answer and each branch that waits, and a last line that
-- says how it ends. Texts are lists of bytes, in UTF-8.
use Rattle.std.specs.Prelude.{ℕ, zero, suc, List, [], ◌∷◌, ◌++◌, codes, decimal, slice_index_or}
use Rattle.std.specs.List.{concat}
use Rattle.cu_calculus.specs.Value.{Value}
use Rattle.cu_machine.specs.declared.End.{End}
use Rattle.cu_machine.specs.declared.End.TheVariants.{Answers, NoMore, Rounds, Stopped}
use Rattle.cu_machine.specs.declared.Stop.{Stop}
use Rattle.cu_machine.specs.declared.Stop.TheVariants.{Overflow, TooLarge, TooWide}
use Rattle.cu_machine.specs.declared.Waited.{Waited}
use Rattle.cu_machine.specs.declared.Waited.TheVariants.{Named, Other}
use Rattle.cu_machine.specs.Listing.{Answered, Line, Listing, Waiting}
use Rattle.cu_values.specs.Display.{Labels, display, variable_text}

-- the names that a listing uses
pub record Notation : Type 0 where
  -- what the program calls its entities, in values
  pub labels : Labels
  -- the names of the goal's variables, in declared order
  pub variables : List (List ℕ)

-- what begins a line of a round: `[d] `
abbrev pub round_mark : ℕ → List ℕ
round_mark d = codes "[" ++ (decimal d ++ codes "] ")

-- ---- answers

-- a goal variable with its value: `x=VALUE`
abbrev pub binding_text : Labels → List ℕ → Value → List ℕ
binding_text labels name value = name ++ (codes "=" ++ display labels value)

-- the goal variables after the first one, with their values: `, y=VALUE`
abbrev pub further_bindings : Labels → List (List ℕ) → List Value → List ℕ
further_bindings labels [] values = []
further_bindings labels (name ∷ names) [] = []
further_bindings labels (name ∷ names) (value ∷ values) =
    codes ", " ++ (binding_text labels name value ++ further_bindings labels names values)

-- all goal variables with their values: `{x=VALUE, y=VALUE} `, and nothing where the goal has no
-- variables
abbrev pub bindings_text : Labels → List (List ℕ) → List Value → List ℕ
bindings_text labels [] values = []
bindings_text labels (name ∷ names) [] = []
bindings_text labels (name ∷ names) (value ∷ values) =
    codes "{" ++ (binding_text labels name value
    ++ (further_bindings labels names values ++ codes "} "))

-- an answer, as its line has it after the mark of the round
abbrev pub answer_text : Notation → List Value → Value → List ℕ
answer_text notation bindings value =
    bindings_text notation.labels notation.variables bindings ++ display notation.labels value

-- ---- waits

-- a variable that is waited for: a goal variable by its name, another variable by its number
abbrev pub waited_text : List (List ℕ) → Waited → List ℕ
waited_text variables (Named k) = slice_index_or variables k []
waited_text variables (Other n) = variable_text n

-- the variables that are waited for after the first one, each after a comma
abbrev pub further_waits : List (List ℕ) → List Waited → List ℕ
further_waits variables [] = []
further_waits variables (name ∷ names) =
    codes ", " ++ (waited_text variables name ++ further_waits variables names)

-- what a branch waits for, in words
abbrev pub waits_text : List (List ℕ) → List Waited → List ℕ
waits_text variables [] = codes "waits inside a set function"
waits_text variables (name ∷ names) =
    codes "waits on " ++ (waited_text variables name ++ further_waits variables names)

-- ---- lines

-- the line of an answer, or of a branch that waits
abbrev pub line_text : Notation → Line → List ℕ
line_text notation (Answered d reading) =
    round_mark d ++ (bindings_text notation.labels notation.variables reading.bindings
    ++ (display notation.labels reading.value ++ codes "\n"))
line_text notation (Waiting d names) =
    round_mark d ++ (waits_text notation.variables names ++ codes "\n")

-- why a search stopped, in words
abbrev pub stop_text : Stop → List ℕ
stop_text (Overflow operation m n) = codes "overflow"
stop_text (TooLarge counted) = codes "too large"
stop_text (TooWide counted) = codes "too wide"

-- how many branches wait, in words, where there are some
abbrev pub floundered_text : ℕ → List ℕ
floundered_text zero = []
floundered_text (suc k) = codes "; " ++ (decimal (suc k) ++ codes " floundered")

-- the last line of a listing, which says how it ends
abbrev pub end_text : End → List ℕ
end_text (NoMore waits) = codes "no more" ++ (floundered_text waits ++ codes "\n")
end_text (Rounds d count) = codes "stopped at round "
    ++ (decimal d ++ (codes "; " ++ (decimal count ++ codes " open\n")))
end_text (Answers count) = codes "stopped at answer " ++ (decimal count ++ codes "\n")
end_text (Stopped stop d) = stop_text stop ++ (codes " at round " ++ (decimal d ++ codes "\n"))

-- the lines of a listing, each a piece of its own
abbrev pub line_texts : Notation → List Line → List (List ℕ)
line_texts notation [] = []
line_texts notation (line ∷ lines) = line_text notation line ∷ line_texts notation lines

-- all lines of a listing, the last one included, each a piece of its own
abbrev pub pieces : Notation → Listing → List (List ℕ)
pieces notation listing = line_texts notation listing.lines ++ end_text listing.end ∷ []

-- the bytes of the lines of answers and waiting branches
abbrev pub lines_bytes : Notation → List Line → List ℕ
lines_bytes notation lines = concat (line_texts notation lines)

-- the bytes of a whole listing
abbrev pub listing_bytes : Notation → Listing → List ℕ
listing_bytes notation listing = concat (pieces notation listing)
