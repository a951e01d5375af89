-- What the words of a command line ask for.
use Rattle.std.specs.Prelude.{◌≡◌, ⊤, ℕ, List, [], Option, Some, None, codes, IfSome, IsTrue}
use Rattle.clap.specs.Words.{Row, Text, fault_of, first_of, subcommand_of}
use Rattle.cu_machine.specs.declared.SearchLimits.{SearchLimits}
use Rattle.cu_words.specs.declared.asked.Asked.{Asked}
use Rattle.cu_words.specs.declared.asked.Asked.TheVariants as asks
use Rattle.cu_words.specs.declared.check.Check as checks
use Rattle.cu_words.specs.declared.compile.Compile as compiles
use Rattle.cu_words.specs.declared.solve.Solve as solves
use Rattle.cu_words.specs.declared.trial.Trial as trials
use Rattle.cu_words.specs.Command.{curry}
use Rattle.cu_words.specs.Names.{is_module_name}
use Rattle.cu_words.specs.Numbers.{IsIn, IsNumber}

-- a goal in a module of a folder, how many workers there are to be, where the words name a number,
-- and where the search ends
pub record Solve : Type 0 where
  pub name : List ℕ
  pub goal : List ℕ
  pub folder : List ℕ
  pub workers : Option ℕ
  pub limits : SearchLimits

-- the text of a module of a folder
pub record Compile : Type 0 where
  pub name : List ℕ
  pub folder : List ℕ

-- a trial of the search to this depth, how many workers there are to be, where the words name a
-- number, and two of its limits
pub record Trial : Type 0 where
  pub depth : ℕ
  pub workers : Option ℕ
  pub width : ℕ
  pub stride : ℕ

-- a proof in the file of this path, over a module of a folder
pub record Check : Type 0 where
  pub name : List ℕ
  pub path : List ℕ
  pub folder : List ℕ

-- a command of the line
pub data Command : Type 0 where
  Solving : Solve → Command
  Compiling : Compile → Command
  Trying : Trial → Command
  Checking : Check → Command
  Serving : Command

-- the text that stands in the words under this name, or else by default, is this one
abbrev pub Has : List Row → Text → Text → Type 0
Has rows name text = first_of name rows ≡ Some text

-- what stands in the words under this name is a number from 1 to `high`, and it is n
abbrev pub HasNumber : List Row → Text → ℕ → ℕ → Type 0
HasNumber rows name high n = (text : Text) × Has rows name text × IsNumber 1 high text n

-- an optional text is a number from 1 to `high`, and it is this one; no text stands for no number
abbrev pub IsMaybeNumber : ℕ → Option Text → Option ℕ → Type 0
IsMaybeNumber high None None = ⊤
IsMaybeNumber high None (Some n) = ⊥
IsMaybeNumber high (Some text) None = ⊥
IsMaybeNumber high (Some text) (Some n) = IsNumber 1 high text n

-- the options that say where the search ends ask for these limits
pub record HasLimits (rows : List Row) (limits : SearchLimits) : Type 0 where
  pub rounds : HasNumber rows (codes "rounds") 1000000000 limits.rounds
  pub answers : IsMaybeNumber 1000000000 (first_of (codes "answers") rows) limits.answers
  pub nodes : HasNumber rows (codes "nodes") 16777216 limits.step.nodes
  pub width : HasNumber rows (codes "width") 1048576 limits.step.width
  pub stride : HasNumber rows (codes "stride") 1000000 limits.stride

-- the words after `solve` ask for this
pub record IsSolve (rows : List Row) (solve : Solve) : Type 0 where
  pub name : Has rows (codes "MODULE") solve.name
  pub is_name : IsTrue (is_module_name solve.name)
  pub goal : Has rows (codes "goal") solve.goal
  pub folder : Has rows (codes "dir") solve.folder
  pub workers : IsMaybeNumber 64 (first_of (codes "workers") rows) solve.workers
  pub limits : HasLimits rows solve.limits

-- the words after `compile` ask for this
pub record IsCompile (rows : List Row) (compile : Compile) : Type 0 where
  pub name : Has rows (codes "MODULE") compile.name
  pub is_name : IsTrue (is_module_name compile.name)
  pub folder : Has rows (codes "dir") compile.folder

-- the depth of a trial that the words ask for is n
abbrev pub HasDepth : List Row → ℕ → Type 0
HasDepth rows n = (text : Text) × Has rows (codes "N") text × IsNumber 0 14 text n

-- the words after `trial` ask for this
pub record IsTrial (rows : List Row) (trial : Trial) : Type 0 where
  pub depth : HasDepth rows trial.depth
  pub workers : IsMaybeNumber 64 (first_of (codes "workers") rows) trial.workers
  pub width : HasNumber rows (codes "width") 1048576 trial.width
  pub stride : HasNumber rows (codes "stride") 1000000 trial.stride

-- the words after `check` ask for this
pub record IsCheck (rows : List Row) (check : Check) : Type 0 where
  pub name : Has rows (codes "MODULE") check.name
  pub is_name : IsTrue (is_module_name check.name)
  pub path : Has rows (codes "FILE") check.path
  pub folder : Has rows (codes "dir") check.folder

-- the command that was met, with the words after it, is this one
abbrev pub Asks : Option (Text × List Row) → Command → Type 0
Asks None command = ⊥
Asks (Some met) (Solving solve) = (met.0 ≡ codes "solve") × IsSolve met.1 solve
Asks (Some met) (Compiling compile) = (met.0 ≡ codes "compile") × IsCompile met.1 compile
Asks (Some met) (Trying trial) = (met.0 ≡ codes "trial") × IsTrial met.1 trial
Asks (Some met) (Checking check) = (met.0 ≡ codes "check") × IsCheck met.1 check
Asks (Some met) Serving = met.0 ≡ codes "session"

-- `clap` finds no fault in the words, and the command that they name is this one
pub record ReadsAs (words : List Text) (command : Command) : Type 0 where
  pub right : fault_of curry words ≡ []
  pub asks : Asks (subcommand_of curry words) command

-- these words ask for some command
abbrev pub IsCommand : List Text → Type 0
IsCommand words = (command : Command) × ReadsAs words command

-- each limit is in the range that its option allows
pub record AreInRange (limits : SearchLimits) : Type 0 where
  pub rounds : IsIn 1 1000000000 limits.rounds
  pub answers : IfSome limits.answers (IsIn 1 1000000000)
  pub nodes : IsIn 1 16777216 limits.step.nodes
  pub width : IsIn 1 1048576 limits.step.width
  pub stride : IsIn 1 1000000 limits.stride

-- each number of a `solve` is in the range that its option allows
pub record IsInRange (solve : Solve) : Type 0 where
  pub workers : IfSome solve.workers (IsIn 1 64)
  pub limits : AreInRange solve.limits

pub record IsTrialInRange (trial : Trial) : Type 0 where
  pub depth : IsIn 0 14 trial.depth
  pub workers : IfSome trial.workers (IsIn 1 64)
  pub width : IsIn 1 1048576 trial.width
  pub stride : IsIn 1 1000000 trial.stride

abbrev pub HasItsRanges : Command → Type 0
HasItsRanges (Solving solve) = IsInRange solve
HasItsRanges (Compiling compile) = ⊤
HasItsRanges (Trying trial) = IsTrialInRange trial
HasItsRanges (Checking check) = ⊤
HasItsRanges Serving = ⊤

-- how many workers a command asks for, where its words name a number
abbrev pub workers_asked : Command → Option ℕ
workers_asked (Solving solve) = solve.workers
workers_asked (Compiling compile) = None
workers_asked (Trying trial) = trial.workers
workers_asked (Checking check) = None
workers_asked Serving = None

-- the `solve` of the definitions that one of the reader stands for
abbrev pub solve_of : solves.Solve → Solve
solve_of solve = record {
  name = solve.«module».now;
  goal = solve.goal.now;
  folder = solve.folder.now;
  workers = solve.workers;
  limits = solve.limits;
}

abbrev pub compile_of : compiles.Compile → Compile
compile_of compile = record { name = compile.«module».now; folder = compile.folder.now }

abbrev pub trial_of : trials.Trial → Trial
trial_of trial = record {
  depth = trial.depth;
  workers = trial.workers;
  width = trial.width;
  stride = trial.stride;
}

abbrev pub check_of : checks.Check → Check
check_of check = record {
  name = check.«module».now;
  path = check.path.now;
  folder = check.folder.now;
}

abbrev pub asked : Asked → Command
asked (asks.Solve solve) = Solving (solve_of solve)
asked (asks.Compile compile) = Compiling (compile_of compile)
asked (asks.Trial trial) = Trying (trial_of trial)
asked (asks.Check check) = Checking (check_of check)
asked asks.Session = Serving
