-- What a statement says, and what a proof proves.
use Rattle.std.proofs.Common.{◌≡◌, ◌∙◌, true, false, List, Some, ap, length, subst, sym}
use Rattle.std.specs.List.{list_all}
use Rattle.cu_calculus.specs.Gives.{Claim}
use Rattle.cu_calculus.specs.Program.{Program}
use Rattle.cu_calculus.specs.Proof.{Statement, Step, conclusion, env_of}
use Rattle.cu_calculus.specs.Shape.{is_total}
use Rattle.cu_calculus.specs.Value.{Value}
use Rattle.cu_kernel.specs.Kernel.{Goal}
use Rattle.cu_verdict.specs.Proved.{ProvesAnswer, SaysAnswer, values_from}
use Rattle.cu_verdict.specs.Inside.Calls.{is_goal_call}
use Rattle.cu_verdict.proofs.CallLaws.{call_is, no_call}

-- ---- statements

pub says : (goal : Goal) (s : Statement) (bindings : List Value) (v : Value) → is_goal_call goal s.term ≡ true
    → bindings ≡ values_from (env_of s) 0 (length goal.names) → v ≡ s.value → list_all is_total bindings ≡ true → is_total v ≡ true
    → SaysAnswer goal s bindings v
says goal s bindings v call vars value total totals = record {
  call = call_is goal s.term call;
  variables = sym vars;
  value = sym value;
  total_variables = total;
  total_value = totals;
}

pub no_goal_call : (goal : Goal) (s : Statement) → is_goal_call goal s.term ≡ false → (bindings : List Value) (v : Value) → SaysAnswer goal s bindings v → ⊥
no_goal_call goal s e bindings v a = no_call goal s.term e a.call

pub some_unknown : (goal : Goal) (s : Statement) (found : List Value) → found ≡ values_from (env_of s) 0 (length goal.names) → list_all is_total found ≡ false
    → (bindings : List Value) (v : Value) → SaysAnswer goal s bindings v → ⊥
some_unknown goal s found is e bindings v a =
    let same : true ≡ false = sym a.total_variables ∙ ap (list_all is_total) (sym a.variables ∙ sym is) ∙ e in cc same

pub value_unknown : (goal : Goal) (s : Statement) → is_total s.value ≡ false → (bindings : List Value) (v : Value) → SaysAnswer goal s bindings v → ⊥
value_unknown goal s e bindings v a =
    let same : true ≡ false = sym a.total_value ∙ ap is_total (sym a.value) ∙ e in cc same

-- ---- proofs

some_is : {A : Type 0} (x y : A) → Some x ≡ Some y → x ≡ y
some_is x y e = cc e

pub one_statement : (program : Program) (goal : Goal) (claims : List Claim) (steps : List Step) (s : Statement) (bindings : List Value) (v : Value)
    → (a : ProvesAnswer program goal claims steps bindings v) → conclusion steps ≡ Some s → SaysAnswer goal s bindings v
one_statement program goal claims steps s bindings v a is =
    subst (λ (t : Statement). SaysAnswer goal t bindings v) (some_is a.statement s (sym a.concludes ∙ is)) a.says

pub one_answer : (program : Program) (goal : Goal) (claims : List Claim) (steps : List Step) (bindings others : List Value) (v w : Value)
    → ProvesAnswer program goal claims steps bindings v → ProvesAnswer program goal claims steps others w → (bindings ≡ others) × (v ≡ w)
one_answer program goal claims steps bindings others v w a b =
    let same = one_statement program goal claims steps a.statement others w b a.concludes in
    (sym a.says.variables ∙ same.variables, sym a.says.value ∙ same.value)
