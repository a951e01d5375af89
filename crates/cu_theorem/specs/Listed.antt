-- What is listed of a goal in a module, and the solutions that the goal has by the rules of the
-- modules.
use Rattle.std.specs.Prelude.{◌≡◌, ℕ, List, IsTrue, Some}
use Rattle.cu_calculus.specs.Claims.{Derives}
use Rattle.cu_calculus.specs.Program.{Program}
use Rattle.cu_calculus.specs.Shape.{are_ground, is_ground}
use Rattle.cu_calculus.specs.Value.{Value, Values, values_of}
use Rattle.cu_flat.specs.Layout.{laid_out}
use Rattle.cu_front.specs.Compiling.{Compiles, Folder}
use Rattle.cu_kernel.specs.Kernel.{Goal, Kernel, program_of}
use Rattle.cu_laws.specs.Instance.{Covered, IsExhausted}
use Rattle.cu_machine.specs.Among.{Among}
use Rattle.cu_machine.specs.Listing.{Answered, Listing, listing}
use Rattle.cu_machine.specs.Next.{Reading}
use Rattle.cu_machine.specs.State.{start_of}
use Rattle.cu_machine.specs.declared.SearchLimits.{SearchLimits}

-- ---- solutions

-- The goal's variables have these values, and the goal has the value v: by the rules of the program
-- there is a derivation with call-time choice, in which set calls stand for all their values.
abbrev pub IsSolution : Kernel → Goal → Values → Value → Type 0
IsSolution program goal arguments v = Derives (program_of program) goal.function arguments v

-- A solution is ground: the values of the goal's variables and of the goal are ground data.
pub record IsGroundSolution (program : Kernel) (goal : Goal) (arguments : Values) (v : Value)
    : Type 0 where
  pub solution : IsSolution program goal arguments v
  pub ground_arguments : IsTrue (are_ground arguments)
  pub ground_value : IsTrue (is_ground v)

-- ---- listings

-- the listing of a goal, by the flat program of its kernel program
abbrev pub listing_of : SearchLimits → Program → Goal → Listing
listing_of limits flat goal =
    let code = laid_out flat in listing code limits (start_of code goal.function)

-- Each answer that is listed is a solution.
abbrev pub AnswersAreSolutions : Kernel → Program → Goal → SearchLimits → Type 0
AnswersAreSolutions program flat goal limits = (round : ℕ) (reading : Reading)
    → Among (Answered round reading) (listing_of limits flat goal).lines
    → IsSolution program goal (values_of reading.bindings) reading.value

-- Each ground solution is an instance of an answer that is listed.
abbrev pub SolutionsAreCovered : Kernel → Program → Goal → SearchLimits → Type 0
SolutionsAreCovered program flat goal limits = (arguments : Values) (v : Value)
    → IsGroundSolution program goal arguments v
    → Covered (laid_out flat) (listing_of limits flat goal) arguments v

-- Whatever program a goal in a module comes to, each answer that is listed is a solution; and where
-- the listing ends with no more, and no branch waits, each ground solution is an instance of an
-- answer that is listed.
pub record ListsSolutions (held : Folder) (root text : List ℕ)
    (limits : SearchLimits) : Type 0 where
  pub answers_are_sound : (names : List (List ℕ)) (program : Kernel) (flat : Program) (goal : Goal)
      → Compiles held root text names program flat → program.goal ≡ Some goal
      → AnswersAreSolutions program flat goal limits
  pub no_more_is_complete : (names : List (List ℕ)) (program : Kernel) (flat : Program)
      (goal : Goal) → Compiles held root text names program flat → program.goal ≡ Some goal
      → IsExhausted (listing_of limits flat goal) → SolutionsAreCovered program flat goal limits
