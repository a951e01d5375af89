-- Where expressions and declarations stand: what a tree stands for has the place of the tree's first token.
use Rattle.std.specs.Prelude.{◌≡◌, true, false, List, [], ◌∷◌, refl}
use Rattle.std.specs.Option.{unwrap_or}
use Rattle.std.proofs.Common.{ap, sym, ◌∙◌}
use Rattle.std.proofs.lemmas.Bool.{and_parts, not-true}
use Rattle.cu_lex.specs.Located.{Position}
use Rattle.cu_peg.specs.Parse.{Leaf, Parts, Chosen, NoTree, MoreTrees, only}
use Rattle.cu_syntax.specs.declared.symbol.Symbol.{Symbol}
use Rattle.cu_syntax.specs.declared.symbol.Symbol.TheVariants as symbol
use Rattle.cu_syntax.specs.ExpressionMeaning.{expression_at}
use Rattle.cu_syntax.specs.Expressions.{is_bare_expression}
use Rattle.cu_syntax.specs.Inside.Fits.{fits, have_parts}
use Rattle.cu_syntax.specs.Forms.{is_declaration, is_expression_node}
use Rattle.cu_syntax.specs.Reading.{LeftSide, OfFunction, OfPattern, Tree, Trees, declaration_as, expression_choice, expressions_of, minus_of, operator_rest, place, rule_of, tuple}
use Rattle.cu_syntax.specs.Subtrees.{has_token, is_single, part_of}
use Rattle.cu_syntax.specs.Syntax as syntax
use Rattle.cu_syntax.specs.Syntax.{declaration_position, expression_position}
use Rattle.cu_syntax.specs.Table.{Many, Sequence, rule_of as table_rule}
use Rattle.cu_syntax.proofs.DeclarationLemmas.{among_each, declarations, reads_local, reads_top}
use Rattle.cu_syntax.proofs.ExpressionForms.{exp_place, exp_with, has_more, nodes, tuple_with, with_some}
use Rattle.cu_syntax.proofs.ExpressionParts.{case_parts, comprehension_parts}
use Rattle.cu_syntax.proofs.ShapeLemmas.{first_place, first_place_of, form, never, part_fits, parted, sequence_parts, spread, trees_in}
use Rattle.cu_syntax.proofs.TokenLaw.{token_there}

-- what a sequence stands for has the place of its first part
pub stands_first : (at : Tree → Position) (s p : Symbol) (parts : List Symbol) (tree : Tree) → table_rule s ≡ Sequence (p ∷ parts) → has_token p ≡ true → fits s tree ≡ true
    → place (part_of tree 0) ≡ at (Parts (spread (p ∷ parts) 0 tree)) → place tree ≡ at tree
stands_first at s p parts tree r k h e = let m = form s s p parts tree refl h r k in m.at ∙ e ∙ sym (ap at m.is)

-- expressions

abbrev expression_place : Symbol → Tree → Position
expression_place s tree = expression_position (expression_at s tree)

-- an expression of a symbol stands at the first token of its tree
abbrev StandsAt : Symbol → Type 0
StandsAt s = (tree : Tree) → fits s tree ≡ true → is_bare_expression s tree ≡ true → place tree ≡ expression_place s tree

operators_stand : StandsAt symbol.Exp
operators_stand tree h b =
    let more = has_more tree h b in
    let at = unwrap_or (minus_of (part_of tree 0)) (place (part_of tree 1)) in
    let first = expression_choice symbol.Operand (part_of tree 1) in
    let rest = operator_rest (trees_in (part_of tree 2)) in
    exp_place tree h ∙ sym (ap expression_position (exp_with tree (trees_in (part_of tree 2)) h more.is ∙ with_some at (minus_of (part_of tree 0)) first rest more.more))

lambda_stands : StandsAt symbol.Lambda
lambda_stands tree h b = stands_first (expression_place symbol.Lambda) symbol.Lambda symbol.Backslash (symbol.PatArguments ∷ symbol.RightArrow ∷ symbol.Exp ∷ []) tree refl refl h refl

let_stands : StandsAt symbol.LetExp
let_stands tree h b = stands_first (expression_place symbol.LetExp) symbol.LetExp symbol.Let (symbol.Block ∷ symbol.In ∷ symbol.Exp ∷ []) tree refl refl h refl

condition_stands : StandsAt symbol.IfExp
condition_stands tree h b = stands_first (expression_place symbol.IfExp) symbol.IfExp symbol.If (symbol.Exp ∷ symbol.Then ∷ symbol.Exp ∷ symbol.Else ∷ symbol.Exp ∷ []) tree refl refl h refl

case_stands : StandsAt symbol.CaseExp
case_stands tree h b =
    let four = parted symbol.AltList (part_of tree 4) refl (part_fits symbol.CaseExp (symbol.CaseWord ∷ case_parts) tree 4 symbol.AltList refl h refl) in
    stands_first (expression_place symbol.CaseExp) symbol.CaseExp symbol.CaseWord case_parts tree refl refl h
    (sym (ap (λ t. expression_place symbol.CaseExp (Parts (MoreTrees (part_of tree 0) (MoreTrees (part_of tree 1) (MoreTrees (part_of tree 2) (MoreTrees (part_of tree 3) (MoreTrees t (MoreTrees (part_of tree 5) NoTree)))))))) four))

application_stands : StandsAt symbol.Application
application_stands (Leaf x) h b = never h
application_stands (Parts NoTree) h b = never h
application_stands (Parts (MoreTrees tree NoTree)) h b = never b
application_stands (Parts (MoreTrees tree (MoreTrees next trees))) h b =
    first_place_of tree (MoreTrees next trees) (token_there symbol.Atom tree refl (and_parts (fits symbol.Atom tree) (have_parts (Many symbol.Atom) (MoreTrees next trees)) h).0)
application_stands (Chosen n tree) h b = never h

literal_stands : StandsAt symbol.Literal
literal_stands tree h b = refl

variable_stands : StandsAt symbol.QVar
variable_stands tree h b = refl

constructor_stands : StandsAt symbol.QCon
constructor_stands tree h b = refl

unit_stands : StandsAt symbol.Unit
unit_stands tree h b = refl

tuple_constructor_stands : StandsAt symbol.TupleCon
tuple_constructor_stands tree h b = stands_first (expression_place symbol.TupleCon) symbol.TupleCon symbol.OpenParen (symbol.NoFifteenCommas ∷ symbol.Commas ∷ symbol.CloseParen ∷ []) tree refl refl h refl

right_section_stands : StandsAt symbol.RightSection
right_section_stands tree h b = stands_first (expression_place symbol.RightSection) symbol.RightSection symbol.OpenParen (symbol.NoMinus ∷ symbol.QOp ∷ symbol.Exp ∷ symbol.CloseParen ∷ []) tree refl refl h refl

left_section_stands : StandsAt symbol.LeftSection
left_section_stands tree h b = stands_first (expression_place symbol.LeftSection) symbol.LeftSection symbol.OpenParen (symbol.Exp ∷ symbol.QOp ∷ symbol.CloseParen ∷ []) tree refl refl h refl

several_stand : (at : Position) (trees : Trees) → is_single (Parts trees) ≡ false → at ≡ expression_position (tuple at (expressions_of trees))
several_stand at NoTree h = refl
several_stand at (MoreTrees tree NoTree) h = never (sym h)
several_stand at (MoreTrees tree (MoreTrees other trees)) h = refl

abbrev tuple_parts : List Symbol
tuple_parts = symbol.NoSixteenExps ∷ symbol.ExpList ∷ symbol.CloseParen ∷ []

tuple_stands : StandsAt symbol.Tuple
tuple_stands tree h b =
    let two = parted symbol.ExpList (part_of tree 2) refl (part_fits symbol.Tuple (symbol.OpenParen ∷ tuple_parts) tree 2 symbol.ExpList refl h refl) in
    let components = trees_in (part_of tree 2) in
    first_place symbol.Tuple symbol.OpenParen tuple_parts tree refl refl h
    ∙ several_stand (place (part_of tree 0)) components (sym (ap is_single two) ∙ not-true (is_single (part_of tree 2)) b)
    ∙ sym (ap expression_position (tuple_with tree components h two))

empty_list_stands : StandsAt symbol.EmptyList
empty_list_stands tree h b = refl

from_then_stands : StandsAt symbol.FromThen
from_then_stands tree h b = stands_first (expression_place symbol.FromThen) symbol.FromThen symbol.OpenSquare (symbol.Exp ∷ symbol.Comma ∷ symbol.Exp ∷ symbol.DotDot ∷ symbol.OptionalExp ∷ symbol.CloseSquare ∷ []) tree refl refl h refl

from_stands : StandsAt symbol.From
from_stands tree h b = stands_first (expression_place symbol.From) symbol.From symbol.OpenSquare (symbol.Exp ∷ symbol.DotDot ∷ symbol.OptionalExp ∷ symbol.CloseSquare ∷ []) tree refl refl h refl

comprehension_stands : StandsAt symbol.Comprehension
comprehension_stands tree h b =
    let three = parted symbol.QualList (part_of tree 3) refl (part_fits symbol.Comprehension (symbol.OpenSquare ∷ comprehension_parts) tree 3 symbol.QualList refl h refl) in
    stands_first (expression_place symbol.Comprehension) symbol.Comprehension symbol.OpenSquare comprehension_parts tree refl refl h
    (sym (ap (λ t. expression_place symbol.Comprehension (Parts (MoreTrees (part_of tree 0) (MoreTrees (part_of tree 1) (MoreTrees (part_of tree 2) (MoreTrees t (MoreTrees (part_of tree 4) NoTree))))))) three))

abbrev list_parts : List Symbol
list_parts = symbol.ExpList ∷ symbol.CloseSquare ∷ []

list_stands : StandsAt symbol.ListExp
list_stands tree h b =
    let one = parted symbol.ExpList (part_of tree 1) refl (part_fits symbol.ListExp (symbol.OpenSquare ∷ list_parts) tree 1 symbol.ExpList refl h refl) in
    stands_first (expression_place symbol.ListExp) symbol.ListExp symbol.OpenSquare list_parts tree refl refl h
    (sym (ap (λ t. expression_place symbol.ListExp (Parts (MoreTrees (part_of tree 0) (MoreTrees t (MoreTrees (part_of tree 2) NoTree))))) one))

-- An expression that is more than parentheses round another stands at the first token of its tree.
pub expression_stands : (s : Symbol) (tree : Tree) → is_expression_node s ≡ true → fits s tree ≡ true → is_bare_expression s tree ≡ true
    → place tree ≡ expression_position (expression_at s tree)
expression_stands s tree e h b =
    among_each StandsAt nodes s
    (operators_stand, (lambda_stands, (let_stands, (condition_stands, (case_stands, (application_stands, (literal_stands, (variable_stands, (constructor_stands, (unit_stands, (tuple_constructor_stands, (right_section_stands, (left_section_stands, (tuple_stands, (empty_list_stands, (from_then_stands, (from_stands, (comprehension_stands, (list_stands, tt)))))))))))))))))))
    e tree h b

-- declarations

abbrev declaration_place : Symbol → Tree → Position
declaration_place s tree = declaration_position (declaration_as s tree)

abbrev DeclaredAt : Symbol → Type 0
DeclaredAt s = (tree : Tree) → fits s tree ≡ true → place tree ≡ declaration_place s tree

free_stands : DeclaredAt symbol.FreeDecl
free_stands tree h = stands_first (declaration_place symbol.FreeDecl) symbol.FreeDecl symbol.VarIdList (symbol.Free ∷ []) tree refl refl h refl

signature_stands : DeclaredAt symbol.Signature
signature_stands tree h = stands_first (declaration_place symbol.Signature) symbol.Signature symbol.VarList (symbol.DoubleColon ∷ symbol.TypeExp ∷ []) tree refl refl h refl

-- a rule stands where it says
rule_position : (at : Position) (left : LeftSide) (right : syntax.RightSide) → at ≡ declaration_position (rule_of at left right)
rule_position at (OfFunction f parameters) right = refl
rule_position at (OfPattern (syntax.PatternVariable x)) right = refl
rule_position at (OfPattern _) right = refl

rhs_is : (tree : Tree) → fits symbol.Rhs tree ≡ true → tree ≡ Parts (MoreTrees (part_of tree 0) (only (part_of tree 1)))
rhs_is tree h = sequence_parts symbol.Rhs (symbol.RhsBody ∷ symbol.OptionalWhere ∷ []) tree refl h

rule_stands : DeclaredAt symbol.Rule
rule_stands tree h =
    let right = part_of tree 1 in
    let is = rhs_is right (part_fits symbol.Rule (symbol.Lhs ∷ symbol.Rhs ∷ []) tree 1 symbol.Rhs refl h refl) in
    rule_position (place tree) _ _ ∙ sym (ap declaration_position (reads_local tree (part_of right 0) (part_of right 1) h is))

top_rule_stands : DeclaredAt symbol.TopRule
top_rule_stands tree h =
    let right = part_of tree 1 in
    let is = rhs_is right (part_fits symbol.TopRule (symbol.FunctionLhs ∷ symbol.Rhs ∷ []) tree 1 symbol.Rhs refl h refl) in
    rule_position (place tree) _ _ ∙ sym (ap declaration_position (reads_top tree (part_of right 0) (part_of right 1) h is))

-- A declaration stands at the first token of its tree.
pub declaration_stands : (s : Symbol) (tree : Tree) → is_declaration s ≡ true → fits s tree ≡ true → place tree ≡ declaration_position (declaration_as s tree)
declaration_stands s tree e h = among_each DeclaredAt declarations s (free_stands, (signature_stands, (rule_stands, (top_rule_stands, tt)))) e tree h
