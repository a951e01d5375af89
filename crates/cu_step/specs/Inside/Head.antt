-- Where an Ind leads.
use Rattle.std.specs.Prelude.{ℕ, List, Option, None, slice_get}
use Rattle.cu_machine.specs.declared.Kind.{Kind}
use Rattle.cu_machine.specs.declared.Kind.TheVariants as kind

-- the index to which a node leads, where it is an Ind with an argument
abbrev pub target_of : Kind → List ℕ → Option ℕ
target_of kind.Ind args = slice_get args 0
target_of _ args = None
