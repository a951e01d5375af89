-- Comparing by `==`, as a function: the answer that `Compares` relates to two values, where there
-- is one.
use Rattle.std.specs.Prelude.{Bool, true, false, Option, None, Some, if◌then◌else◌}
use Rattle.cu_calculus.specs.Literal.{same_literal}
use Rattle.cu_calculus.specs.Match.{same_constructor}
use Rattle.cu_calculus.specs.Value.{Constructed, Literal, MoreValues, NoValue, Value, Values}

-- the answer for a pair and the pairs after it: the first pair that isn't the same decides, and a
-- pair without an answer leaves none
abbrev pub and_compared : Option Bool → Option Bool → Option Bool
and_compared None rest = None
and_compared (Some true) rest = rest
and_compared (Some false) rest = Some false

abbrev mutual
  -- whether two values are the same, where `==` answers
  pub compared : Value → Value → Option Bool
  compared (Literal l) (Literal m) = Some (same_literal l m)
  compared (Literal l) (Constructed c vs) = Some false
  compared (Constructed c us) (Literal l) = Some false
  compared (Constructed c us) (Constructed d vs) = if same_constructor c d then all_compared us vs
      else Some false
  compared _ _ = None

  -- whether values are the same in pairs, where `==` answers
  pub all_compared : Values → Values → Option Bool
  all_compared NoValue NoValue = Some true
  all_compared (MoreValues u us) (MoreValues v vs) =
      and_compared (compared u v) (all_compared us vs)
  all_compared _ _ = None
