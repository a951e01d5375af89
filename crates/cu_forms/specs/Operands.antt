-- Operands and operators of expressions.
use Rattle.std.specs.Prelude.{ℤ, List, [], ◌∷◌, Option, None, Some}
use Rattle.std.specs.Option.{option_map}
use Rattle.cu_fixity.specs.Grouping.{Infix, Item, Operand, Prefix}
use Rattle.cu_fixity.specs.declared.part.Part.{Part}
use Rattle.cu_fixity.specs.declared.part.Part.TheVariants as part
use Rattle.cu_fixity.specs.declared.piece.Piece.{Piece}
use Rattle.cu_fixity.specs.declared.piece.Piece.TheVariants as piece
use Rattle.cu_kernel.specs.LocalTerm.{LocalTerm}
use Rattle.cu_kernel.specs.LocalTermsOf.{local_term_of}
use Rattle.cu_syntax.specs.Names.{name_meaning}
use Rattle.cu_syntax.specs.Syntax as syntax
use Rattle.cu_syntax.specs.declared.expressions.Expression.{Expression}
use Rattle.cu_forms.specs.declared.operators.Operand as code
use Rattle.cu_forms.specs.declared.operators.OperandItem.{OperandItem}
use Rattle.cu_forms.specs.declared.operators.OperandItem.TheVariants as item
use Rattle.cu_forms.specs.Forms.{operand_form}
use Rattle.cu_translation.specs.Around as around
use Rattle.cu_translation.specs.Around.{Names, Referent, fixity_at, referent}
use Rattle.cu_translation.specs.LocalNames.{Scope}
use Rattle.cu_translation.specs.Meaning.{Setting, referent_meaning}
use Rattle.cu_translation.specs.Terms as terms
use Rattle.cu_translation.specs.Terms.{negated, no_term, plain, referred}

-- the number that a literal is, if it is one
abbrev pub number_of : syntax.Literal → Option ℤ
number_of (syntax.Int n) = Some n
number_of _ = None

abbrev pub operand_meaning : code.Operand → terms.Operand
operand_meaning o = record {
  term = local_term_of o.term;
  name = option_map referent_meaning o.name;
  number = o.number;
}

abbrev pub item_meaning : OperandItem → Item terms.Operand Referent
item_meaning (item.Operand o) = Operand (operand_meaning o)
item_meaning item.Minus = Prefix around.Nothing
item_meaning (item.Operator r) = Infix (referent_meaning r)

-- what grouping sees of a part of an expression
abbrev pub operator_piece : Setting → Scope → Part Expression → Piece
operator_piece w local (part.Operand e) = piece.Operand
operator_piece w local (part.Minus at) = piece.Minus
operator_piece w local (part.Operator name) =
    piece.Operator (fixity_at w.around.names local (name_meaning w.names name))

-- a part of an expression, with what its operand or operator stands for
abbrev pub part_item : Setting → Scope → Part Expression → Item terms.Operand Referent
part_item w local (part.Operand e) = Operand (operand_form w local e)
part_item w local (part.Minus at) = Prefix around.Nothing
part_item w local (part.Operator name) = Infix (referent w.around local (name_meaning w.names name))

-- the operands that a part and the operands after it make: an operator takes its operands from
-- these
abbrev pub operated : Names → Item terms.Operand Referent → List terms.Operand → List terms.Operand
operated names (Operand o) os = o ∷ os
operated names (Prefix r) (o ∷ os) = plain (negated names o) ∷ os
operated names (Infix r) (l ∷ o ∷ os) = plain (referred r (l ∷ o ∷ [])) ∷ os
operated names _ os = os

-- the operands that parts and the operands after them make
abbrev pub operated_on : Names → List (Item terms.Operand Referent) → List terms.Operand
    → List terms.Operand
operated_on names [] os = os
operated_on names (i ∷ items) os = operated names i (operated_on names items os)

abbrev pub first_term : List terms.Operand → LocalTerm
first_term [] = no_term
first_term (o ∷ os) = o.term

-- the term that parts make which stand in the order of their tree
abbrev pub operated_term : Names → List (Item terms.Operand Referent) → LocalTerm
operated_term names items = first_term (operated_on names items [])
