-- What the answers of `declared_types` and `declared_types_goal` stand for, under a table of names.
use Rattle.std.specs.Prelude.{ℕ, List}
use Rattle.cu_lex.specs.Located.{Position}
use Rattle.cu_lex.specs.Reading.{position_of}
use Rattle.cu_names.specs.Texts.{IsKnown, text_of}
use Rattle.cu_declared.specs.declared.fault.TypeArity.{TypeArity}
use Rattle.cu_declared.specs.declared.fault.TypeArity.TheVariants as arity
use Rattle.cu_declared.specs.declared.fault.TypeNameFault.{TypeNameFault}
use Rattle.cu_declared.specs.declared.fault.TypeNameFault.TheVariants as answer
use Rattle.cu_declared.specs.TypeFaults as faults
use Rattle.cu_declared.specs.TypeFaults.{Fault}

abbrev pub wrong_at : faults.Wrong → Position → Fault
wrong_at wrong at = record { wrong = wrong; at = at }

-- The module of the fault that an answer tells, and the fault, have this property. Of a synonym the
-- answer has the name alone. An allocation failure says nothing.
abbrev pub TellsFault : List (List ℕ) → (List ℕ → Fault → Type 0) → TypeNameFault → Type 0
TellsFault names P (answer.TypeArity place) =
    P (text_of names place.«module») (wrong_at faults.TypeArity (position_of place))
TellsFault names P (answer.SynonymCycle id) =
    (owner : List ℕ) × (at : Position)
    × P owner (wrong_at (faults.SynonymCycle (text_of names id)) at)
TellsFault names P answer.NoMemory = Unit {0}

-- A table has the names of an answer.
abbrev pub FaultIsKnown : List (List ℕ) → TypeNameFault → Type 0
FaultIsKnown names (answer.TypeArity place) = IsKnown names place.«module»
FaultIsKnown names (answer.SynonymCycle id) = IsKnown names id
FaultIsKnown names answer.NoMemory = Unit {0}

-- The module of the fault of a goal that an answer tells, and the fault, have this property.
abbrev pub TellsGoalFault : List (List ℕ) → (List ℕ → Fault → Type 0) → TypeArity → Type 0
TellsGoalFault names P (arity.At place) =
    P (text_of names place.«module») (wrong_at faults.TypeArity (position_of place))
TellsGoalFault names P arity.NoMemory = Unit {0}

-- A table has the name of the module in which a goal's fault is.
abbrev pub GoalFaultIsKnown : List (List ℕ) → TypeArity → Type 0
GoalFaultIsKnown names (arity.At place) = IsKnown names place.«module»
GoalFaultIsKnown names arity.NoMemory = Unit {0}
