-- Pieces of an expression, and the items that they are under their numbers.
use Rattle.std.specs.Prelude.{ℕ, suc, List, [], ◌∷◌, Option, Some, slice_get}
use Rattle.cu_fixity.specs.declared.fixity.Fixity.{Fixity}
use Rattle.cu_syntax.specs.declared.items.Side.TheVariants.{Left}
use Rattle.cu_fixity.specs.declared.piece.Piece.{Piece}
use Rattle.cu_fixity.specs.declared.piece.Piece.TheVariants as piece
use Rattle.cu_fixity.specs.Grouping.{Infix, Item, Operand, Prefix}

-- a prefix minus has the fixity of the minus between two operands
abbrev pub minus : Fixity
minus = record { side = Left; level = 6 }

-- an operator without a declaration; what is no operator has none either
abbrev pub undeclared : Fixity
undeclared = record { side = Left; level = 9 }

abbrev pub fixity_of : Option Piece → Fixity
fixity_of (Some (piece.Operator f)) = f
fixity_of (Some piece.Minus) = minus
fixity_of _ = undeclared

-- the fixity of the piece of a number
abbrev pub fixity_at : List Piece → ℕ → Fixity
fixity_at pieces n = fixity_of (slice_get pieces n)

-- what the piece of a number is
abbrev pub item_of : ℕ → Piece → Item ℕ ℕ
item_of n piece.Operand = Operand n
item_of n piece.Minus = Prefix n
item_of n (piece.Operator f) = Infix n

-- pieces under their numbers, from n on
abbrev pub numbered : ℕ → List Piece → List (Item ℕ ℕ)
numbered n [] = []
numbered n (p ∷ pieces) = item_of n p ∷ numbered (suc n) pieces

-- all pieces under their numbers
abbrev pub items_of : List Piece → List (Item ℕ ℕ)
items_of pieces = numbered 0 pieces
