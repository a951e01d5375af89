-- What the built-in operations answer on values. Of these the Curry Report defines `==`, the
-- equation `=:=` and the concurrent conjunction `&`.
use Rattle.std.specs.Prelude.{◌≡◌, Bool, true, false, List, [], ◌∷◌, Option, None, Some, if◌then◌else◌, ℤ, pos, negsuc, ◌+ℤ◌, ◌-ℤ◌, ◌*ℤ◌, int_lt, int_le, IsTrue}
use Rattle.std.specs.Ordering.{int_eq}
use Rattle.cu_calculus.specs.declared.ConId.{ConId}
use Rattle.cu_calculus.specs.declared.Lit.{Lit}
use Rattle.cu_calculus.specs.declared.Lit.TheVariants.{Char, Int}
use Rattle.cu_calculus.specs.declared.builtin.Primitive.{Primitive}
use Rattle.cu_calculus.specs.declared.builtin.Primitive.TheVariants as prim
use Rattle.cu_int.specs.Integers.{floor_quotient, floor_rest, is_integer}
use Rattle.cu_calculus.specs.Literal.{is_scalar, same_literal}
use Rattle.cu_calculus.specs.Match.{same_constructor}
use Rattle.cu_calculus.specs.Program.{Program}
use Rattle.cu_calculus.specs.Shape.{is_total_data}
use Rattle.cu_calculus.specs.Value as value
use Rattle.cu_calculus.specs.Value.{Value, Values, MoreValues, NoValue}

-- the value True or False
abbrev pub truth_of : Program → Bool → Value
truth_of program true = value.Constructed program.special.truth NoValue
truth_of program false = value.Constructed program.special.falsity NoValue

-- the value of an integer, where the language has it
abbrev pub integer : ℤ → Option Value
integer n = if is_integer n then Some (value.Literal (Int n)) else None

-- the value of the character with a number, where that is a Unicode scalar
abbrev pub character : ℤ → Option Value
character (pos n) = if is_scalar n then Some (value.Literal (Char n)) else None
character (negsuc n) = None

-- what an operation on two integers answers; a quotient by 0 has no answer
abbrev pub on_integers : Program → Primitive → ℤ → ℤ → Option Value
on_integers program prim.Add m n = integer (m +ℤ n)
on_integers program prim.Sub m n = integer (m -ℤ n)
on_integers program prim.Mul m n = integer (m *ℤ n)
on_integers program prim.Div m n = if int_eq n (pos 0) then None else integer (floor_quotient m n)
on_integers program prim.Mod m n = if int_eq n (pos 0) then None else integer (floor_rest m n)
on_integers program prim.Less m n = Some (truth_of program (int_lt m n))
on_integers program prim.AtMost m n = Some (truth_of program (int_le m n))
on_integers program prim.Greater m n = Some (truth_of program (int_lt n m))
on_integers program prim.AtLeast m n = Some (truth_of program (int_le n m))
on_integers program _ m n = None

-- what an operation on literals answers
abbrev pub on_literals : Program → Primitive → List Lit → Option Value
on_literals program operation (Int m ∷ Int n ∷ []) = on_integers program operation m n
on_literals program prim.Ord (Char c ∷ []) = Some (value.Literal (Int (pos c)))
on_literals program prim.Chr (Int n ∷ []) = character n
on_literals program _ _ = None

-- several literals as values
abbrev pub literals : List Lit → Values
literals [] = NoValue
literals (l ∷ ls) = MoreValues (value.Literal l) (literals ls)

-- Comparing by `==` answers whether two values are the same. Different literals or constructors are
-- not, and neither are a literal and a constructor. With the same constructor the arguments are
-- compared from the left, up to the first pair that isn't the same.
mutual
  pub data Compares : Value → Value → Bool → Type 0 where
    two_literals : (l m : Lit) (answer : Bool) → answer ≡ same_literal l m
        → Compares (value.Literal l) (value.Literal m) answer
    literal_first : (l : Lit) (c : ConId) (vs : Values)
        → Compares (value.Literal l) (value.Constructed c vs) false
    literal_second : (c : ConId) (us : Values) (l : Lit)
        → Compares (value.Constructed c us) (value.Literal l) false
    different : (c d : ConId) (us vs : Values) → same_constructor c d ≡ false
        → Compares (value.Constructed c us) (value.Constructed d vs) false
    alike : (c : ConId) (us vs : Values) (answer : Bool) → AllCompare us vs answer
        → Compares (value.Constructed c us) (value.Constructed c vs) answer

  -- Comparing values in pairs from the left answers true where each pair is the same, and false at
  -- the first that isn't.
  pub data AllCompare : Values → Values → Bool → Type 0 where
    none : AllCompare NoValue NoValue true
    first_differs : (u v : Value) (us vs : Values) → Compares u v false
        → AllCompare (MoreValues u us) (MoreValues v vs) false
    first_alike : (u v : Value) (us vs : Values) (answer : Bool) → Compares u v true
        → AllCompare us vs answer
        → AllCompare (MoreValues u us) (MoreValues v vs) answer

-- A built-in operation on values has a value. `failed` has none.
pub data Answers (program : Program) : Primitive → Values → Value → Type 0 where
  of_literals : (operation : Primitive) (ls : List Lit) (us : Values) (v : Value) → us ≡ literals ls
      → on_literals program operation ls ≡ Some v
      → Answers program operation us v
  equal : (a b v : Value) (answer : Bool) → Compares a b answer → v ≡ truth_of program answer
      → Answers program prim.Equal (MoreValues a (MoreValues b NoValue)) v
  unified : (a b v : Value) → a ≡ b → IsTrue (is_total_data a) → v ≡ truth_of program true
      → Answers program prim.Unify (MoreValues a (MoreValues b NoValue)) v
  conjoined : (a b v : Value) → a ≡ truth_of program true → b ≡ truth_of program true
      → v ≡ truth_of program true
      → Answers program prim.And (MoreValues a (MoreValues b NoValue)) v
