-- Faults of a text, and which of them is the first.
use Rattle.std.specs.Prelude.{ℕ, Bool, ◌&&◌, ◌||◌, List, [], ◌∷◌, Option, None, Some, nat_eq, nat_lt, if◌then◌else◌}
use Rattle.cu_lex.specs.Located.{Position}
use Rattle.cu_syntax.specs.Syntax.{Name}

pub data Wrong : Type 0 where
  -- operators that have no grouped tree
  FixityClash : Wrong
  -- rules of one function with different numbers of patterns, or a constructor in a pattern with a
  -- wrong number of them
  Arity : Wrong
  -- a variable that stands twice in the patterns of a rule, an alternative or a binding
  NonLinear : Wrong
  -- a local variable that depends on itself
  RecursiveLocal : Wrong
  -- a set function's name without the name of a function of its arity, or with too many arguments
  SetName : Wrong
  -- a rule after the most that a function may have
  TooLong : Wrong

pub record Fault : Type 0 where
  pub wrong : Wrong
  pub at : Position

abbrev pub fault : Wrong → Position → Fault
fault wrong at = record { wrong = wrong; at = at }

abbrev pub at_name : Wrong → Name → Fault
at_name wrong name = fault wrong name.at

-- ---- the first

-- the number of the refusal
abbrev pub rank : Wrong → ℕ
rank FixityClash = 7
rank Arity = 15
rank NonLinear = 16
rank RecursiveLocal = 17
rank SetName = 18
rank TooLong = 30

-- whether a fault stands before another: at an earlier place of the text, or at the same place with
-- a smaller number
abbrev pub is_before : Fault → Fault → Bool
is_before f g =
    nat_lt f.at.line g.at.line || (nat_eq f.at.line g.at.line &&
    (nat_lt f.at.column g.at.column ||
    (nat_eq f.at.column g.at.column && nat_lt (rank f.wrong) (rank g.wrong))))

abbrev pub earlier : Fault → Option Fault → Fault
earlier f None = f
earlier f (Some g) = if is_before g f then g else f

-- the first of some faults in the text
abbrev pub first_fault : List Fault → Option Fault
first_fault [] = None
first_fault (f ∷ faults) = Some (earlier f (first_fault faults))
