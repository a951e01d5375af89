-- The test whether one partial value approximates another, as a function. `Below` of cu_calculus is
-- the relation.
use Rattle.std.specs.Prelude.{Bool, true, false, ◌&&◌, nat_eq}
use Rattle.cu_calculus.specs.declared.Head.{Head}
use Rattle.cu_calculus.specs.declared.Head.TheVariants as head
use Rattle.cu_calculus.specs.Literal.{same_literal}
use Rattle.cu_calculus.specs.Match.{same_constructor}
use Rattle.cu_calculus.specs.Value as value
use Rattle.cu_calculus.specs.Value.{Value, Values}

-- whether two heads are the same function, constructor or set function
abbrev pub same_head : Head → Head → Bool
same_head (head.Fun f) (head.Fun g) = nat_eq f.0 g.0
same_head (head.Con c) (head.Con d) = nat_eq c.0 d.0
same_head (head.Set f) (head.Set g) = nat_eq f.0 g.0
same_head _ _ = false

abbrev mutual
  -- whether the first value approximates the second: it says less, and nothing different
  pub is_below : Value → Value → Bool
  is_below value.Bottom v = true
  is_below (value.Variable x) (value.Variable y) = nat_eq x y
  is_below (value.Literal l) (value.Literal m) = same_literal l m
  is_below (value.Constructed c us) (value.Constructed d vs) =
      same_constructor c d && are_below us vs
  is_below (value.Partial h us) (value.Partial k vs) = same_head h k && are_below us vs
  is_below _ _ = false

  -- whether as many values stand on both sides, and each approximates its partner
  pub are_below : Values → Values → Bool
  are_below value.NoValue value.NoValue = true
  are_below (value.MoreValues u us) (value.MoreValues v vs) = is_below u v && are_below us vs
  are_below _ _ = false
