-- How operators group what stands between them, by their fixities. A list of items has a tree where
-- the tree's items are those of the list and each operator's operands fit it (Curry Report, section
-- on infix operators; Haskell Report, section 10.6).
use Rattle.std.specs.Prelude.{◌≡◌, Bool, true, false, ◌&&◌, ◌||◌, List, [], ◌∷◌, ◌++◌, Option, None, Some, IsTrue, nat_eq, nat_lt}
use Rattle.cu_fixity.specs.declared.fixity.Fixity.{Fixity}
use Rattle.cu_syntax.specs.declared.items.Side.{Side}
use Rattle.cu_syntax.specs.declared.items.Side.TheVariants.{Left, Neither, Right}

-- an operand, an operator that stands before its only operand, or one between two
pub data Item (A : Type 0) (O : Type 0) : Type 0 where
  Operand : A → Item A O
  Prefix : O → Item A O
  Infix : O → Item A O

pub data Tree (A : Type 0) (O : Type 0) : Type 0 where
  Leaf : A → Tree A O
  Applied : O → Tree A O → Tree A O
  Between : Tree A O → O → Tree A O → Tree A O

-- the items of a tree, from left to right
abbrev pub flatten : {A O : Type 0} → Tree A O → List (Item A O)
flatten (Leaf a) = Operand a ∷ []
flatten (Applied o t) = Prefix o ∷ flatten t
flatten (Between l o r) = flatten l ++ Infix o ∷ flatten r

-- the operator at the top of a tree, if it is one
abbrev pub top : {A O : Type 0} → Tree A O → Option O
top (Leaf a) = None
top (Applied o t) = Some o
top (Between l o r) = Some o

abbrev pub same_side : Side → Side → Bool
same_side Left Left = true
same_side Right Right = true
same_side Neither Neither = true
same_side _ _ = false

-- whether two fixities are of one level and both are grouped to this side
abbrev pub both : Side → Fixity → Fixity → Bool
both side f g = nat_eq f.level g.level && (same_side f.side side && same_side g.side side)

-- Whether a tree with this operator at its top, or without one, fits as the left operand of an
-- operator between two, as the right one, and as the operand of one that stands before it.
abbrev pub fits_left : {O : Type 0} → (O → Fixity) → O → Option O → Bool
fits_left fixity o None = true
fits_left fixity o (Some p) = nat_lt (fixity o).level (fixity p).level
    || both Left (fixity o) (fixity p)

abbrev pub fits_right : {O : Type 0} → (O → Fixity) → O → Option O → Bool
fits_right fixity o None = true
fits_right fixity o (Some p) = nat_lt (fixity o).level (fixity p).level
    || both Right (fixity o) (fixity p)

abbrev pub fits_after : {O : Type 0} → (O → Fixity) → O → Option O → Bool
fits_after fixity o None = true
fits_after fixity o (Some p) = nat_lt (fixity o).level (fixity p).level

-- whether the operands of all operators of a tree fit
abbrev pub is_grouped : {A O : Type 0} → (O → Fixity) → Tree A O → Bool
is_grouped fixity (Leaf a) = true
is_grouped fixity (Applied o t) = fits_after fixity o (top t) && is_grouped fixity t
is_grouped fixity (Between l o r) =
    (fits_left fixity o (top l) && fits_right fixity o (top r))
    && (is_grouped fixity l && is_grouped fixity r)

-- A tree has these items, and the operands of its operators fit.
pub record Grouped {A O : Type 0} (fixity : O → Fixity) (items : List (Item A O))
    (tree : Tree A O) : Type 0 where
  pub flattens : flatten tree ≡ items
  pub fits : IsTrue (is_grouped fixity tree)

-- A list of items has no tree whose operands fit.
abbrev pub HasNoTree : {A O : Type 0} → (O → Fixity) → List (Item A O) → Type 0
HasNoTree {A} {O} fixity items = (tree : Tree A O) → ¬ (Grouped fixity items tree)
