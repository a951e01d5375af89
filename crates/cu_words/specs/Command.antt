-- The command line, as the library `clap` has it: the names of its commands and of the words and
-- options that follow them.
use Rattle.std.specs.Prelude.{List, [], ◌∷◌, Some, true, false, codes}
use Rattle.clap.specs.Simple.{App, Shape, new_rule, new_shape}
use Rattle.clap.specs.Walk.{Rule, Text}

-- an option with a value, written `--name value` or `--name=value`
abbrev pub option : Text → Rule
option name = record (new_rule name) { long = Some name }

abbrev pub required : Rule → Rule
required rule = record rule { required = true }

-- an option with the text that stands for its value where the words don't have it
abbrev pub or : Rule → Text → Rule
or rule text = record rule { defaults = text ∷ [] }

-- what follows `solve` on the line: a word, and options in any order
abbrev pub solve_rules : List Rule
solve_rules = required (new_rule (codes "MODULE"))
    ∷ required (option (codes "goal"))
    ∷ or (option (codes "dir")) (codes ".")
    ∷ option (codes "workers")
    ∷ or (option (codes "rounds")) (codes "100000")
    ∷ option (codes "answers")
    ∷ or (option (codes "nodes")) (codes "1000000")
    ∷ or (option (codes "width")) (codes "65536")
    ∷ or (option (codes "stride")) (codes "1")
    ∷ []

abbrev pub solve : Shape
solve = record (new_shape (codes "solve")) { rules = solve_rules }

-- what follows `compile` on the line: a word, and an option
abbrev pub compile_rules : List Rule
compile_rules = required (new_rule (codes "MODULE"))
    ∷ or (option (codes "dir")) (codes ".")
    ∷ []

abbrev pub compile : Shape
compile = record (new_shape (codes "compile")) { rules = compile_rules }

-- what follows `trial` on the line: a number, and options in any order
abbrev pub trial_rules : List Rule
trial_rules = required (new_rule (codes "N"))
    ∷ option (codes "workers")
    ∷ or (option (codes "width")) (codes "65536")
    ∷ or (option (codes "stride")) (codes "1")
    ∷ []

abbrev pub trial : Shape
trial = record (new_shape (codes "trial")) { rules = trial_rules }

-- what follows `check` on the line: two words, and an option
abbrev pub check_rules : List Rule
check_rules = required (new_rule (codes "MODULE"))
    ∷ required (new_rule (codes "FILE"))
    ∷ or (option (codes "dir")) (codes ".")
    ∷ []

abbrev pub check : Shape
check = record (new_shape (codes "check")) { rules = check_rules }

-- nothing follows `session` on the line
abbrev pub session : Shape
session = new_shape (codes "session")

-- the words after the program's name: a command and what follows it, with no words for help or
-- version
abbrev pub line : Shape
line = record (new_shape (codes "curry")) {
  is_leaf = false;
  no_binary_name = true;
  disable_help_flag = true;
  disable_help_subcommand = true;
  disable_version_flag = true;
  subcommand_required = true;
}

abbrev pub curry : App
curry = record { top = line; subs = solve ∷ compile ∷ trial ∷ check ∷ session ∷ [] }
