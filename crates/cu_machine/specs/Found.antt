-- What a search for all values of a function finds, of which the value of its set function is made
-- (Antoy and Hanus, Set functions for functional logic programming, 2009). It is known as a whole,
-- when the search is exhausted: a set function's values are not read lazily.
use Rattle.std.specs.Prelude.{◌≡◌, ℕ, zero, suc, Bool, true, false, List, [], ◌++◌, ◌∷◌, Some, IsTrue, flat_map, map}
use Rattle.std.specs.List.{list_all}
use Rattle.cu_calculus.specs.declared.FunId.{FunId}
use Rattle.cu_calculus.specs.Code.{Code, function_arity}
use Rattle.cu_calculus.specs.Shape.{is_ground}
use Rattle.cu_calculus.specs.Value.{Value, Values, count}
use Rattle.cu_machine.specs.declared.Limits.{Limits}
use Rattle.cu_machine.specs.Level.{step_level}
use Rattle.cu_machine.specs.Next.{Next, Answer, Fails, Go, Stops, Waits, next}
use Rattle.cu_machine.specs.Sort.{sorted}
use Rattle.cu_machine.specs.State.{call_on}
use Rattle.cu_machine.specs.Validity.{are_built}

-- what becomes of the states at a depth of the search for all values of a function
abbrev pub inner_events : Code → Limits → FunId → Values → ℕ → List Next
inner_events code limits f arguments depth =
    map (next code limits) (step_level code limits (call_on code f arguments) depth)

-- whether an event leaves the search going: it is no answer that isn't ground data, no wait and no
-- stop
abbrev pub is_quiet : Next → Bool
is_quiet (Go states) = true
is_quiet (Answer reading) = is_ground reading.value
is_quiet Fails = true
is_quiet (Waits names) = false
is_quiet (Stops stop) = false

-- the value that an event answers, if it is an answer
abbrev pub answered_by : Next → List Value
answered_by (Answer reading) = reading.value ∷ []
answered_by _ = []

-- the values that the events of the first n levels answer, level by level
abbrev pub answers_before : (ℕ → List Next) → ℕ → List Value
answers_before events zero = []
answers_before events (suc depth) =
    answers_before events depth ++ flat_map answered_by (events depth)

-- The search of a function on ground data of the program ends at an empty level. All events before
-- it are quiet, and these are the values that were answered, sorted and without repeats.
pub record Found (code : Code) (limits : Limits) (f : FunId) (arguments : Values)
    (values : List Value) : Type 0 where
  pub whole : function_arity code f ≡ Some (count arguments)
  -- the arguments are ground data of the program
  pub built : IsTrue (are_built code arguments)
  pub depth : ℕ
  pub ended : step_level code limits (call_on code f arguments) depth ≡ []
  pub quiet : (k : ℕ) → IsTrue (list_all is_quiet (inner_events code limits f arguments k))
  pub collected : values ≡ sorted (answers_before (inner_events code limits f arguments) depth)
