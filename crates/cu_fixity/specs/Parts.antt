-- Parts of expressions and patterns as they are written, and in the order of a tree.
use Rattle.std.specs.Prelude.{◌≡◌, ℕ, List, [], ◌∷◌, ◌++◌, Option, None, Some, map, slice_get}
use Rattle.cu_names.specs.declared.place.Place.{Place}
use Rattle.cu_syntax.specs.declared.expressions.Expression.{Expression}
use Rattle.cu_syntax.specs.declared.expressions.Items.{Items}
use Rattle.cu_syntax.specs.declared.expressions.OperatorItem.{OperatorItem}
use Rattle.cu_syntax.specs.declared.patterns.ConstructorItem.{ConstructorItem}
use Rattle.cu_syntax.specs.declared.patterns.PatItems.{PatItems}
use Rattle.cu_syntax.specs.declared.patterns.Pattern.{Pattern}
use Rattle.cu_fixity.specs.declared.part.Part.{Part}
use Rattle.cu_fixity.specs.declared.part.Part.TheVariants as part
use Rattle.cu_fixity.specs.declared.piece.Piece.{Piece}
use Rattle.cu_fixity.specs.declared.piece.Piece.TheVariants as piece
use Rattle.cu_fixity.specs.declared.tree.Cell.{Cell}
use Rattle.cu_fixity.specs.Fixities.{Table, fixity_in}
use Rattle.cu_fixity.specs.Grouping.{Grouped, HasNoTree, Tree}
use Rattle.cu_fixity.specs.Pieces.{fixity_at, items_of}
use Rattle.cu_fixity.specs.Ranges.{number}
use Rattle.cu_fixity.specs.Spelling.{spelled}

-- an operand, with a minus before it or without
abbrev pub operand_parts : {T : Type 0} → Option Place → T → List (Part T)
operand_parts None x = part.Operand x ∷ []
operand_parts (Some at) x = part.Minus at ∷ part.Operand x ∷ []

abbrev pub rest_parts : List OperatorItem → List (Part Expression)
rest_parts [] = []
rest_parts (item ∷ items) = part.Operator item.operator ∷ operand_parts item.minus item.operand
    ++ rest_parts items

abbrev pub written_parts : Items → List (Part Expression)
written_parts items = operand_parts items.minus items.first ++ rest_parts items.rest.items

abbrev pub pattern_rest : List ConstructorItem → List (Part Pattern)
pattern_rest [] = []
pattern_rest (item ∷ items) = part.Operator item.operator ∷ part.Operand item.operand
    ∷ pattern_rest items

abbrev pub written_pattern : PatItems → List (Part Pattern)
written_pattern items = part.Operand items.first ∷ pattern_rest items.rest.items

-- what grouping sees of a part
abbrev pub piece_of : {T : Type 0} → Table → Part T → Piece
piece_of table (part.Operand x) = piece.Operand
piece_of table (part.Minus at) = piece.Minus
piece_of table (part.Operator name) = piece.Operator (fixity_in table name.text)

-- the part that a cell stands for
abbrev pub taken : {T : Type 0} → List (Part T) → Cell → Option (Part T)
taken parts c = slice_get parts (number c)

-- Pieces have no tree whose operands fit.
abbrev pub HasNone : List Piece → Type 0
HasNone pieces = HasNoTree (fixity_at pieces) (items_of pieces)

-- Written parts are put into the order of a tree of their pieces.
pub record IsOrder {T : Type 0} (pieces : List Piece)
    (written ordered : List (Part T)) : Type 0 where
  pub tree : Tree ℕ ℕ
  pub grouped : Grouped (fixity_at pieces) (items_of pieces) tree
  pub all_taken : map Some ordered ≡ map (taken written) (spelled tree)
