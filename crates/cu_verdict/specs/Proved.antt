-- When a proof proves an answer of a goal.
use Rattle.std.specs.Prelude.{◌≡◌, ℕ, zero, suc, ◌+◌, List, [], ◌∷◌, Some, IsTrue, length}
use Rattle.std.specs.List.{list_all}
use Rattle.cu_calculus.specs.declared.Head.TheVariants.{Fun}
use Rattle.cu_calculus.specs.Claims.{variables_from}
use Rattle.cu_calculus.specs.Gives.{Claim}
use Rattle.cu_calculus.specs.Match.{Environment}
use Rattle.cu_calculus.specs.Program.{Program}
use Rattle.cu_calculus.specs.Proof.{Checks, Statement, Step, conclusion, env_of}
use Rattle.cu_calculus.specs.Shape.{is_total}
use Rattle.cu_calculus.specs.Term.{Whole}
use Rattle.cu_calculus.specs.Value.{Value}
use Rattle.cu_kernel.specs.Kernel.{Goal}

-- the values of variables in an environment: so many variables, counted from this one
abbrev pub values_from : Environment → ℕ → ℕ → List Value
values_from env x zero = []
values_from env x (suc n) = env x ∷ values_from env (x + 1) n

-- A statement says an answer of a goal: the call of the goal on its variables has this value, where
-- the variables stand for these values. All of them are total.
pub record SaysAnswer (goal : Goal) (statement : Statement) (bindings : List Value) (v : Value)
    : Type 0 where
  pub call : statement.term
      ≡ Whole (Fun goal.function) (variables_from 0 (length goal.names))
  pub variables : values_from (env_of statement) 0 (length goal.names) ≡ bindings
  pub value : statement.value ≡ v
  pub total_variables : IsTrue (list_all is_total bindings)
  pub total_value : IsTrue (is_total v)

-- A proof with claims proves an answer of a goal: it checks, and what it concludes says the answer.
pub record ProvesAnswer (program : Program) (goal : Goal) (claims : List Claim) (steps : List Step)
    (bindings : List Value) (v : Value) : Type 0 where
  pub checks : Checks program claims steps
  pub statement : Statement
  pub concludes : conclusion steps ≡ Some statement
  pub says : SaysAnswer goal statement bindings v
