-- Kinds of values (González-Moreno and others 1999): total ones have no Bottom, data have no
-- partial application, and ground data are total data without variables.
use Rattle.std.specs.Prelude.{ℕ, Bool, true, false, ◌&&◌, Option, None, Some, nat_eq, nat_lt}
use Rattle.cu_calculus.specs.declared.Head.{Head}
use Rattle.cu_calculus.specs.declared.Head.TheVariants as head
use Rattle.cu_calculus.specs.Literal.{is_literal}
use Rattle.cu_calculus.specs.Program.{Program, arity_in}
use Rattle.cu_calculus.specs.Value as value
use Rattle.cu_calculus.specs.Value.{Value, Values, count}

abbrev mutual
  -- whether a value is total: Bottom stands nowhere in it
  pub is_total : Value → Bool
  is_total value.Bottom = false
  is_total (value.Variable x) = true
  is_total (value.Literal l) = true
  is_total (value.Constructed c vs) = are_total vs
  is_total (value.Partial h vs) = are_total vs

  -- whether all of these values are total
  pub are_total : Values → Bool
  are_total value.NoValue = true
  are_total (value.MoreValues v vs) = is_total v && are_total vs

abbrev mutual
  -- whether a value is data: no partial application stands in it
  pub is_data : Value → Bool
  is_data value.Bottom = true
  is_data (value.Variable x) = true
  is_data (value.Literal l) = true
  is_data (value.Constructed c vs) = are_data vs
  is_data (value.Partial h vs) = false

  -- whether all of these values are data
  pub are_data : Values → Bool
  are_data value.NoValue = true
  are_data (value.MoreValues v vs) = is_data v && are_data vs

abbrev mutual
  -- whether a value is ground data: constructors and literals alone
  pub is_ground : Value → Bool
  is_ground value.Bottom = false
  is_ground (value.Variable x) = false
  is_ground (value.Literal l) = true
  is_ground (value.Constructed c vs) = are_ground vs
  is_ground (value.Partial h vs) = false

  -- whether all of these values are ground data
  pub are_ground : Values → Bool
  are_ground value.NoValue = true
  are_ground (value.MoreValues v vs) = is_ground v && are_ground vs

-- whether a value is total data, for which a free variable may stand
abbrev pub is_total_data : Value → Bool
is_total_data v = is_total v && is_data v

-- whether a head of this arity, where it has one, takes exactly n arguments
abbrev pub takes : Option ℕ → ℕ → Bool
takes None n = false
takes (Some arity) n = nat_eq arity n

-- whether a head of this arity, where it has one, takes more than n arguments
abbrev pub takes_more : Option ℕ → ℕ → Bool
takes_more None n = false
takes_more (Some arity) n = nat_lt n arity

-- whether a head may stand in the program: a set function only where the program has the
-- constructor of the values of set functions
abbrev pub is_allowed : Program → Head → Bool
is_allowed program (head.Set f) = elim program.special.values [ Some c ↦ true | None ↦ false ]
is_allowed program (head.Fun f) = true
is_allowed program (head.Con c) = true

-- Whether a value is of a program: its literals are the language's, its constructors are the
-- program's and have all their arguments, and its partial applications are of heads that may stand
-- in the program and lack some arguments.
abbrev mutual
  pub is_of : Program → Value → Bool
  is_of program value.Bottom = true
  is_of program (value.Variable x) = true
  is_of program (value.Literal l) = is_literal l
  is_of program (value.Constructed c vs) =
      takes (arity_in program (head.Con c)) (count vs) && are_of program vs
  is_of program (value.Partial h vs) =
      is_allowed program h && takes_more (arity_in program h) (count vs) && are_of program vs

  -- whether all of these values are of a program
  pub are_of : Program → Values → Bool
  are_of program value.NoValue = true
  are_of program (value.MoreValues v vs) = is_of program v && are_of program vs
