-- Statements on calls: a function on variables that stand for argument values.
use Rattle.std.specs.Prelude.{ℕ, ◌+◌, [], ◌∷◌}
use Rattle.cu_calculus.specs.declared.FunId.{FunId}
use Rattle.cu_calculus.specs.declared.Head.TheVariants.{Fun}
use Rattle.cu_calculus.specs.Claims.{variables_from}
use Rattle.cu_calculus.specs.Match.{Bindings}
use Rattle.cu_calculus.specs.Proof.{Statement}
use Rattle.cu_calculus.specs.Term.{Whole}
use Rattle.cu_calculus.specs.Value.{MoreValues, NoValue, Value, Values, count}

-- the bindings of the variables from x on to these values, one after another
abbrev pub bindings_from : ℕ → Values → Bindings
bindings_from x NoValue = []
bindings_from x (MoreValues v vs) = (x, v) ∷ bindings_from (x + 1) vs

-- the statement that a function on argument values has a value: the arguments are variables that
-- are bound to them
abbrev pub call_statement : FunId → Values → Value → Statement
call_statement f vs v =
    record {
      env = bindings_from 0 vs;
      term = Whole (Fun f) (variables_from 0 (count vs));
      value = v;
    }
