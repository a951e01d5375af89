-- Why modules or a goal are refused.
use Rattle.std.specs.Prelude.{ℕ, List}
use Rattle.cu_lex.specs.Located.{Position}
use Rattle.cu_syntax.specs.Parsing as parsing
use Rattle.cu_modules.specs.Texts as texts
use Rattle.cu_modules.specs.Walk as walk
use Rattle.cu_translation.specs.FaultOrder as functions
use Rattle.cu_uses.specs.Faults as uses
use Rattle.cu_declared.specs.TypeFaults as types

-- why modules or a goal are refused
pub data Refusal : Type 0 where
  -- A fault of the walk over imports, or of the tokens, layout or syntax of a module or the goal.
  Walked : walk.Refusal → Refusal
  -- A fault of the names in the text of a module or the goal.
  InNames : List ℕ → uses.Fault → Refusal
  -- A type's name with a wrong number of arguments, in the text of a module or the goal.
  TypeArity : List ℕ → Position → Refusal
  -- The synonym of this name leads to itself.
  SynonymCycle : List ℕ → Refusal
  -- A fault of the functions in the text of a module or the goal.
  InFunctions : List ℕ → functions.Fault → Refusal
  -- A recursion through set functions: the first function that stands on one.
  SetRecursion : List ℕ → Refusal
  -- The first function of the first dependency group that can't be typed, where the equations of
  -- the group have no solution.
  TypeClash : List ℕ → Refusal
  -- The first function of the first dependency group that can't be typed, where the equations of
  -- the group have solutions, but none that keeps to the declared types.
  Signature : List ℕ → Refusal
  -- The first function whose definitional tree is too big.
  TreeTooBig : List ℕ → Refusal
  -- The type of the goal, or of a variable of it, holds functions.
  GoalFunctional : Refusal

-- ---- types

-- The refusal for a fault of types at a position in the text of a module. A synonym's cycle is told
-- by the synonym's name alone.
abbrev pub in_types_at : List ℕ → types.Wrong → Position → Refusal
in_types_at owner types.TypeArity at = TypeArity owner at
in_types_at owner (types.SynonymCycle name) at = SynonymCycle name

-- the refusal for a fault of the types in the text of a module
abbrev pub in_types : List ℕ → types.Fault → Refusal
in_types owner fault = in_types_at owner fault.wrong fault.at

-- ---- functions

-- The refusal for a fault of functions at a position in the text of a module. A rule too many is
-- told by its line alone, as an item that is too long.
abbrev pub in_functions_at : List ℕ → functions.Wrong → Position → Refusal
in_functions_at owner functions.TooLong at =
    Walked (walk.InText owner (texts.Syntax (parsing.TooLong at.line)))
in_functions_at owner wrong at = InFunctions owner (functions.fault wrong at)

-- the refusal for a fault of the functions in the text of a module
abbrev pub in_functions : List ℕ → functions.Fault → Refusal
in_functions owner fault = in_functions_at owner fault.wrong fault.at
