-- What the answers of `compile` tell, under a table of names.
use Rattle.std.specs.Prelude.{◌≡◌, ℕ, List, Some, IsTrue, length}
use Rattle.std.specs.List.{All}
use Rattle.cu_calculus.specs.Code.{Code, body_of, function_arity, is_rule}
use Rattle.cu_io.specs.Rose.{Rose}
use Rattle.cu_kernel.specs.Kernel.{Goal, Kernel}
use Rattle.cu_names.specs.Texts.{IsKnown}
use Rattle.cu_front.specs.declared.fault.CompileFault.{CompileFault}
use Rattle.cu_front.specs.declared.fault.CompileFault.TheVariants as answer
use Rattle.cu_front.specs.Refusal.{Refusal}
use Rattle.cu_front.specs.RefusalMeaning.{RefusalIsKnown, refusal_meaning}

-- A refusal that an answer tells has the property P. A fault of the library and an allocation
-- failure say nothing.
abbrev pub TellsRefusal : List (List ℕ) → (Refusal → Type 0) → CompileFault → Type 0
TellsRefusal names P (answer.Refused refusal) = P (refusal_meaning names refusal)
TellsRefusal names P answer.Fetch = Unit {0}
TellsRefusal names P answer.NoMemory = Unit {0}

-- The table has the names of the refusal that an answer tells.
abbrev pub AnswerIsKnown : List (List ℕ) → CompileFault → Type 0
AnswerIsKnown names (answer.Refused refusal) = RefusalIsKnown names refusal
AnswerIsKnown names answer.Fetch = Unit {0}
AnswerIsKnown names answer.NoMemory = Unit {0}

-- The library's count of faults rose where the answer is a fault of the library. Otherwise it
-- stands.
abbrev pub FaultCount : CompileFault → ℕ → ℕ → Type 0
FaultCount answer.Fetch old new = Rose old new
FaultCount _ old new = new ≡ old

-- The program has a goal: a function with a rule, which takes as many arguments as the goal has
-- variables, and whose variables' names the table has.
pub record HasGoal (names : List (List ℕ)) (program : Kernel) (code : Code) : Type 0 where
  pub goal : Goal
  pub is : program.goal ≡ Some goal
  pub rule : IsTrue (is_rule (body_of code goal.function))
  pub parameters : function_arity code goal.function ≡ Some (length goal.names)
  pub known : All (IsKnown names) goal.names
