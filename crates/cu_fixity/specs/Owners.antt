-- What holds of the parts of an expression or a pattern: whose they are, and how large.
use Rattle.std.specs.Prelude.{ℕ, List}
use Rattle.cu_names.specs.declared.names.NameId.{NameId}
use Rattle.cu_syntax.specs.Owners.{NameIsOf, PlaceIsOf}
use Rattle.cu_fixity.specs.declared.part.Part.{Part}
use Rattle.cu_fixity.specs.declared.part.Part.TheVariants as part

-- A part is of a module, and a table has its names, given which operands are so.
abbrev pub PartIsOf : {T : Type 0} → (NameId → List (List ℕ) → T → Type 0) → NameId → List (List ℕ)
    → Part T → Type 0
PartIsOf OperandIsOf owner names (part.Operand x) = OperandIsOf owner names x
PartIsOf OperandIsOf owner names (part.Minus place) = PlaceIsOf owner place
PartIsOf OperandIsOf owner names (part.Operator name) = NameIsOf owner names name

-- the size of a part, given that of an operand
abbrev pub part_size : {T : Type 0} → (T → ℕ) → Part T → ℕ
part_size size (part.Operand x) = size x
part_size size _ = 0
