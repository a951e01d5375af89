-- What patterns are made of.
use Rattle.std.specs.Prelude.{ℤ, List, [], ◌∷◌, codes}
use Rattle.cu_calculus.specs.Term as calculus
use Rattle.cu_calculus.specs.declared.Lit.TheVariants as lit
use Rattle.cu_fixity.specs.Grouping.{Infix, Item, Operand, Prefix}
use Rattle.cu_fixity.specs.declared.part.Part.{Part}
use Rattle.cu_fixity.specs.declared.part.Part.TheVariants as part
use Rattle.cu_fixity.specs.declared.piece.Piece.{Piece}
use Rattle.cu_fixity.specs.declared.piece.Piece.TheVariants as piece
use Rattle.cu_kernel.specs.TermsOf.{pattern_of}
use Rattle.cu_lex.specs.Located.{Position}
use Rattle.cu_syntax.specs.Names.{name_meaning}
use Rattle.cu_syntax.specs.Patterns.{pat_items_meaning}
use Rattle.cu_syntax.specs.Syntax as syntax
use Rattle.cu_syntax.specs.declared.patterns.PatItems.{PatItems}
use Rattle.cu_syntax.specs.declared.patterns.Pattern.{Pattern}
use Rattle.cu_forms.specs.declared.pattern_parts.PatternItem.{PatternItem}
use Rattle.cu_forms.specs.declared.pattern_parts.PatternItem.TheVariants as item
use Rattle.cu_forms.specs.Forms.{pattern_form}
use Rattle.cu_translation.specs.Around as around
use Rattle.cu_translation.specs.Around.{Names, Referent}
use Rattle.cu_translation.specs.LocalNames.{Binder}
use Rattle.cu_translation.specs.Meaning.{Setting, referent_meaning}
use Rattle.cu_translation.specs.PatternTable.{list_pattern, literal_pattern, no_pattern, pattern, patterns_of}
use Rattle.cu_translation.specs.Terms.{constructor_of}

abbrev pub number_form : ℤ → calculus.Pattern
number_form n = calculus.Exactly (lit.Int n)

unfoldable pub literal_form : Names → syntax.Literal → calculus.Pattern
literal_form names found = literal_pattern names found

unfoldable pub list_form : Names → List calculus.Pattern → calculus.Pattern
list_form names ps = list_pattern names (patterns_of ps)

abbrev pub cons_form : Names → calculus.Pattern → calculus.Pattern → calculus.Pattern
cons_form names p rest =
    calculus.Built (constructor_of (names.prelude (codes ":"))) (patterns_of (p ∷ rest ∷ []))

-- the list pattern of these patterns and then of those of another one
abbrev pub before_form : Names → List calculus.Pattern → calculus.Pattern → calculus.Pattern
before_form names [] rest = rest
before_form names (p ∷ ps) rest = cons_form names p (before_form names ps rest)

-- ---- operators

unfoldable pub operators_form : Setting → (Position → Binder) → PatItems → calculus.Pattern
operators_form w binder items = pattern w.around binder (pat_items_meaning w.names items)

-- what grouping sees of a part of a pattern
abbrev pub piece_in : Setting → Part Pattern → Piece
piece_in w (part.Operand p) = piece.Operand
piece_in w (part.Minus at) = piece.Minus
piece_in w (part.Operator name) = piece.Operator (w.around.names.fixity (name_meaning w.names name))

abbrev pub item_meaning : PatternItem → Item calculus.Pattern Referent
item_meaning (item.Operand p) = Operand (pattern_of p)
item_meaning item.Minus = Prefix around.Nothing
item_meaning (item.Operator r) = Infix (referent_meaning r)

-- a part of a pattern, with what its operand or operator stands for
abbrev pub part_item : Setting → (Position → Binder) → Part Pattern → Item calculus.Pattern Referent
part_item w binder (part.Operand p) = Operand (pattern_form w binder p)
part_item w binder (part.Minus at) = Prefix around.Nothing
part_item w binder (part.Operator name) = Infix (w.around.names.value (name_meaning w.names name))

-- the patterns that a part and the patterns after it make: an operator takes its operands from
-- these
abbrev pub placed : Item calculus.Pattern Referent → List calculus.Pattern → List calculus.Pattern
placed (Operand p) ps = p ∷ ps
placed (Prefix r) (p ∷ ps) = no_pattern ∷ ps
placed (Infix r) (p ∷ q ∷ ps) = calculus.Built (constructor_of r) (patterns_of (p ∷ q ∷ [])) ∷ ps
placed _ ps = ps

abbrev pub all_placed : List (Item calculus.Pattern Referent) → List calculus.Pattern
all_placed [] = []
all_placed (i ∷ items) = placed i (all_placed items)

abbrev pub first_pattern : List calculus.Pattern → calculus.Pattern
first_pattern [] = no_pattern
first_pattern (p ∷ ps) = p

-- the pattern that parts make which stand in the order of their tree
abbrev pub placed_pattern : List (Item calculus.Pattern Referent) → calculus.Pattern
placed_pattern items = first_pattern (all_placed items)
