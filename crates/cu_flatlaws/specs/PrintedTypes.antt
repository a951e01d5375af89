-- The types that `print` writes, as types of FlatCurry (Hanus and others), and the declarations of
-- data types and synonyms.
use Rattle.std.specs.Prelude.{ℕ, zero, suc, ◌+◌, List, [], ◌∷◌, Option, None, Some, if◌then◌else◌, length, map, slice_get}
use Rattle.cu_flatread.specs.Modules as m
use Rattle.cu_flatread.specs.Modules.{Constructor, Declaration, TypeExpression, TypeExpressions}
use Rattle.cu_flatread.specs.Notation.{Entity}
use Rattle.cu_flattext.specs.Naming as naming
use Rattle.cu_flattext.specs.Naming.{Lowered, entity_of, type_entity}
use Rattle.cu_flattext.specs.TypeTexts.{is_expanded}
use Rattle.cu_kernel.specs.Kernel as kernel
use Rattle.cu_kernel.specs.Kernel.{DataType, Synonym}
use Rattle.cu_kernel.specs.TypeExpr as type
use Rattle.cu_kernel.specs.TypeExpr.{TypeExpr, TypeExprs}
use Rattle.cu_kernel.specs.declared.type_term.SynonymId.{SynonymId}
use Rattle.cu_kernel.specs.declared.type_term.TypeName.TheVariants as named

-- an entity of a program, as one of a module in FlatCurry
abbrev pub entity : naming.Entity → Entity
entity e = record { owner = e.owner; name = e.name }

-- so many numbers, from one on
abbrev pub numbers_from : ℕ → ℕ → List ℕ
numbers_from n zero = []
numbers_from n (suc count) = n ∷ numbers_from (n + 1) count

-- ---- types

-- how many types there are
abbrev pub type_count : TypeExpressions Entity → ℕ
type_count m.NoType = 0
type_count (m.MoreTypes t ts) = suc (type_count ts)

-- the type at a place among several, from 0 on
abbrev pub argument : TypeExpressions Entity → ℕ → TypeExpression Entity
argument m.NoType x = m.Variable x
argument (m.MoreTypes t ts) zero = t
argument (m.MoreTypes t ts) (suc x) = argument ts x

-- what synonyms on arguments are
abbrev pub Synonyms : Type 0
Synonyms = SynonymId → TypeExpressions Entity → TypeExpression Entity

-- The type of FlatCurry that a type of a program is. `synonyms` says what synonyms in it are, and
-- `variables` for which types its variables stand.
abbrev mutual
  pub printed_type : Lowered → Synonyms → (ℕ → TypeExpression Entity) → TypeExpr
      → TypeExpression Entity
  printed_type program synonyms variables (type.Variable x) = variables x
  printed_type program synonyms variables (type.Arrow a b) =
      m.Arrow (printed_type program synonyms variables a)
      (printed_type program synonyms variables b)
  printed_type program synonyms variables (type.Named (named.Data t) ts) =
      m.Named (entity (type_entity program (named.Data t)))
      (printed_types program synonyms variables ts)
  printed_type program synonyms variables (type.Named (named.Synonym s) ts) =
      synonyms s (printed_types program synonyms variables ts)

  pub printed_types : Lowered → Synonyms → (ℕ → TypeExpression Entity) → TypeExprs
      → TypeExpressions Entity
  printed_types program synonyms variables type.NoType = m.NoType
  printed_types program synonyms variables (type.MoreTypes t ts) =
      m.MoreTypes (printed_type program synonyms variables t)
      (printed_types program synonyms variables ts)

-- ---- synonyms

-- a synonym as it is written, without expansion
abbrev pub as_written : Lowered → Synonyms
as_written program s ts = m.Named (entity (type_entity program (named.Synonym s))) ts

-- the type that a synonym stands for on arguments; `inner` says what synonyms in it are
abbrev pub body_type : Lowered → Synonyms → TypeExpressions Entity → Option Synonym
    → TypeExpression Entity
body_type program inner ts None = m.Variable 0
body_type program inner ts (Some s) = printed_type program inner (argument ts) s.body

-- A synonym that is expanded where that is possible, and else stays as it is written; `inner` says
-- what synonyms in it are.
abbrev pub expanded_once : Lowered → Synonyms → Synonyms
expanded_once program inner s ts =
    let found = slice_get program.kernel.synonyms s.0 in
    if is_expanded program.kernel.synonyms s (type_count ts) found
    then body_type program inner ts found
    else as_written program s ts

-- synonyms where at most n of them are expanded inside one another
abbrev pub expanded_within : ℕ → Lowered → Synonyms
expanded_within zero program = as_written program
expanded_within (suc n) program = expanded_once program (expanded_within n program)

-- Synonyms, each expanded where that is possible. No expanded synonym is inside itself, so as many
-- steps as there are synonyms suffice.
abbrev pub expanded : Lowered → Synonyms
expanded program = expanded_within (length program.kernel.synonyms) program

-- a type in which synonyms stand as they are written
abbrev pub written_type : Lowered → TypeExpr → TypeExpression Entity
written_type program t = printed_type program (as_written program) m.Variable t

-- the types of a constructor's arguments, in which synonyms are expanded
abbrev pub field_types : Lowered → List TypeExpr → TypeExpressions Entity
field_types program [] = m.NoType
field_types program (t ∷ ts) =
    m.MoreTypes (printed_type program (expanded program) m.Variable t) (field_types program ts)

-- ---- declarations

-- a constructor of a type of the module with an index
abbrev pub printed_constructor : Lowered → ℕ → kernel.Constructor → Constructor
printed_constructor program home c = record {
  entity = entity (entity_of program home c.name);
  arity = length c.fields;
  public = c.public;
  fields = field_types program c.fields;
}

-- a data type, whose parameters are numbered from 0
abbrev pub printed_data_type : Lowered → DataType → Declaration
printed_data_type program t = record {
  entity = entity (entity_of program t.module t.name);
  public = t.public;
  parameters = numbers_from 0 t.arity;
  right_side = m.OfType (map (printed_constructor program t.module) t.constructors);
}

-- A synonym, whose parameters are numbered from 0. The synonyms in the type that it stands for stay
-- as they are written.
abbrev pub printed_synonym : Lowered → Synonym → Declaration
printed_synonym program s = record {
  entity = entity (entity_of program s.module s.name);
  public = s.public;
  parameters = numbers_from 0 s.arity;
  right_side = m.OfTypeSyn (written_type program s.body);
}
