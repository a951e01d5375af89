-- The steps of operations on numbers and characters, by what the heads of the operands are.
use Rattle.std.specs.Prelude.{ℕ, Option, None, Some, if◌then◌else◌, ℤ, pos, negsuc}
use Rattle.cu_calculus.specs.declared.Lit.TheVariants.{Char, Int}
use Rattle.cu_calculus.specs.declared.builtin.Primitive.{Primitive}
use Rattle.cu_calculus.specs.declared.builtin.Primitive.TheVariants as prim
use Rattle.cu_calculus.specs.declared.builtin.Special.{Special}
use Rattle.cu_calculus.specs.Literal.{is_scalar}
use Rattle.cu_machine.specs.declared.Kind.{Kind}
use Rattle.cu_machine.specs.declared.Kind.TheVariants as kind
use Rattle.cu_machine.specs.Graph.{Graph, alone}
use Rattle.cu_machine.specs.Rewrite.{Move, Overflows, arithmetic_step, character_step, failing_step, replacement_step}

-- the character of a number, where there is one
abbrev pub character_of : ℤ → Option ℕ
character_of (pos n) = if is_scalar n then Some n else None
character_of (negsuc n) = None

-- the integer that a head is, where it is one
abbrev pub integer_in : Kind → Option ℤ
integer_in (kind.Lit (Int n)) = Some n
integer_in _ = None

-- the character that a head is, where it is one
abbrev pub character_in : Kind → Option ℕ
character_in (kind.Lit (Char c)) = Some c
character_in _ = None

-- the step of an operation on two integers whose result is given, or whose result overflows
abbrev pub result_step : Graph → ℕ → Primitive → ℤ → ℤ → Option ℤ → Move
result_step graph id operation m n (Some result) =
    replacement_step graph id (alone (kind.Lit (Int result)))
result_step graph id operation m n None = Overflows operation m n

-- the step of `ord` on a character, or the failure where the operand isn't one
abbrev pub on_character : Graph → ℕ → Option ℕ → Move
on_character graph id (Some c) = replacement_step graph id (alone (kind.Lit (Int (pos c))))
on_character graph id None = failing_step graph id

-- the step of `chr` on an integer, or the failure where the operand isn't one
abbrev pub on_integer : Graph → ℕ → Option ℤ → Move
on_integer graph id (Some n) = character_step graph id n
on_integer graph id None = failing_step graph id

-- the step of an operation on one operand, by its head
abbrev pub on_one : Graph → ℕ → Primitive → Kind → Move
on_one graph id prim.Ord k = on_character graph id (character_in k)
on_one graph id prim.Chr k = on_integer graph id (integer_in k)
on_one graph id _ k = failing_step graph id

-- the step of an operation on two operands that may be integers
abbrev pub on_integers : Special → Graph → ℕ → Primitive → Option ℤ → Option ℤ → Move
on_integers special graph id operation (Some m) (Some n) =
    arithmetic_step special graph id operation m n
on_integers special graph id operation _ _ = failing_step graph id
