-- What the built-in operations answer, as a function.
use Rattle.std.specs.Prelude.{Bool, true, false, ◌&&◌, List, [], ◌∷◌, Option, None, Some, if◌then◌else◌, nat_eq, option_map}
use Rattle.std.specs.Option.{option_and_then}
use Rattle.cu_calculus.specs.declared.Head.{Head}
use Rattle.cu_calculus.specs.declared.Head.TheVariants as head
use Rattle.cu_calculus.specs.declared.Lit.{Lit}
use Rattle.cu_calculus.specs.declared.builtin.Primitive.{Primitive}
use Rattle.cu_calculus.specs.declared.builtin.Primitive.TheVariants as prim
use Rattle.cu_calculus.specs.Builtin.{on_literals, truth_of}
use Rattle.cu_calculus.specs.Compared.{compared}
use Rattle.cu_calculus.specs.Literal.{same_literal}
use Rattle.cu_calculus.specs.Match.{same_constructor}
use Rattle.cu_calculus.specs.Program.{Program}
use Rattle.cu_calculus.specs.Shape.{is_total_data}
use Rattle.cu_calculus.specs.Value as value
use Rattle.cu_calculus.specs.Value.{MoreValues, NoValue, Value, Values}

-- whether two heads are the same
abbrev pub same_head : Head → Head → Bool
same_head (head.Fun f) (head.Fun g) = nat_eq f.0 g.0
same_head (head.Con c) (head.Con d) = same_constructor c d
same_head (head.Set f) (head.Set g) = nat_eq f.0 g.0
same_head _ _ = false

-- whether two values are the same
abbrev mutual
  pub same_value : Value → Value → Bool
  same_value value.Bottom value.Bottom = true
  same_value (value.Variable x) (value.Variable y) = nat_eq x y
  same_value (value.Literal l) (value.Literal m) = same_literal l m
  same_value (value.Constructed c us) (value.Constructed d vs) =
      same_constructor c d && same_values us vs
  same_value (value.Partial h us) (value.Partial k vs) = same_head h k && same_values us vs
  same_value _ _ = false

  -- whether values are the same in pairs
  pub same_values : Values → Values → Bool
  same_values NoValue NoValue = true
  same_values (MoreValues u us) (MoreValues v vs) = same_value u v && same_values us vs
  same_values _ _ = false

-- the literals that values are, where all of them are literals
abbrev pub literals_in : Values → Option (List Lit)
literals_in NoValue = Some []
literals_in (MoreValues (value.Literal l) vs) = option_map (λ ls. l ∷ ls) (literals_in vs)
literals_in (MoreValues _ vs) = None

-- what an operation on pairs answers, where there are two values
abbrev pub on_pair : (Value → Value → Option Value) → Values → Option Value
on_pair answer (MoreValues a (MoreValues b NoValue)) = answer a b
on_pair answer _ = None

-- what the equation `=:=` of two values answers: True, where they are the same and total data
abbrev pub unified : Program → Value → Value → Option Value
unified program a b = if same_value a b && is_total_data a then Some (truth_of program true)
    else None

-- what the concurrent conjunction `&` of two values answers: True, where both are True
abbrev pub conjoined : Program → Value → Value → Option Value
conjoined program a b =
    if same_value a (truth_of program true) && same_value b (truth_of program true)
    then Some (truth_of program true) else None

-- what a built-in operation answers on values, where it answers
abbrev pub answered : Program → Primitive → Values → Option Value
answered program prim.Equal us = on_pair (λ a b. option_map (truth_of program) (compared a b)) us
answered program prim.Unify us = on_pair (unified program) us
answered program prim.And us = on_pair (conjoined program) us
answered program operation us = option_and_then (on_literals program operation) (literals_in us)
