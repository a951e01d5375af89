-- The total order on values in which the values of a set function are listed: Bottom, variables by
-- number, partial applications by head, integers, characters, and constructors by their numbers;
-- then arguments from the left.
use Rattle.std.specs.Prelude.{ℕ, Bool, true, List, [], ◌∷◌, ◌&&◌}
use Rattle.std.specs.declared.cmp.Ordering.{Ordering}
use Rattle.std.specs.declared.cmp.Ordering.TheVariants.{Equal, Greater, Less}
use Rattle.std.specs.Ordering.{int_cmp, is_lt, nat_cmp, ordering_then}
use Rattle.cu_calculus.specs.declared.Head.{Head}
use Rattle.cu_calculus.specs.declared.Head.TheVariants as head
use Rattle.cu_calculus.specs.declared.Lit.{Lit}
use Rattle.cu_calculus.specs.declared.Lit.TheVariants.{Char, Int}
use Rattle.cu_calculus.specs.Value as value
use Rattle.cu_calculus.specs.Value.{Value, Values}

-- the number of a head's kind in the order: functions, constructors, set functions
abbrev pub head_kind : Head → ℕ
head_kind (head.Fun f) = 0
head_kind (head.Con c) = 1
head_kind (head.Set f) = 2

-- the number of a head within its kind
abbrev pub head_number : Head → ℕ
head_number (head.Fun f) = f.0
head_number (head.Con c) = c.0
head_number (head.Set f) = f.0

-- the order of heads: by kind, then by number
abbrev pub head_order : Head → Head → Ordering
head_order h k = ordering_then (nat_cmp (head_kind h) (head_kind k))
    (nat_cmp (head_number h) (head_number k))

-- the order of literals: integers come before characters
abbrev pub literal_order : Lit → Lit → Ordering
literal_order (Int m) (Int n) = int_cmp m n
literal_order (Int m) (Char d) = Less
literal_order (Char c) (Int n) = Greater
literal_order (Char c) (Char d) = nat_cmp c d

-- the number of a value's kind in the order
abbrev pub kind_of : Value → ℕ
kind_of value.Bottom = 0
kind_of (value.Variable x) = 1
kind_of (value.Partial h vs) = 2
kind_of (value.Literal l) = 3
kind_of (value.Constructed c vs) = 4

abbrev mutual
  -- the order of two values
  pub value_order : Value → Value → Ordering
  value_order (value.Variable x) (value.Variable y) = nat_cmp x y
  value_order (value.Partial h us) (value.Partial k vs) =
      ordering_then (head_order h k) (values_order us vs)
  value_order (value.Literal l) (value.Literal m) = literal_order l m
  value_order (value.Constructed c us) (value.Constructed d vs) =
      ordering_then (nat_cmp c.0 d.0) (values_order us vs)
  value_order u v = nat_cmp (kind_of u) (kind_of v)

  -- the order of values in pairs: the first pair that differs decides, and fewer values come first
  pub values_order : Values → Values → Ordering
  values_order value.NoValue value.NoValue = Equal
  values_order value.NoValue (value.MoreValues v vs) = Less
  values_order (value.MoreValues u us) value.NoValue = Greater
  values_order (value.MoreValues u us) (value.MoreValues v vs) =
      ordering_then (value_order u v) (values_order us vs)

-- whether a list of values rises in the order, without repeats
abbrev pub rises : List Value → Bool
rises [] = true
rises (u ∷ []) = true
rises (u ∷ v ∷ vs) = is_lt (value_order u v) && rises (v ∷ vs)
