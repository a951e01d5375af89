-- A tree that fits its symbol stands for syntax with as many parts as the grammar asks.
use Rattle.std.specs.Prelude.{◌≡◌, ◌<◌, ℕ, zero, suc, ◌+◌, Bool, true, false, IfOk, List, [], ◌∷◌, Err, None, Ok, Option, Result, Some, refl}
use Rattle.std.proofs.Common.{ap, arith, sym, ◌∙◌}
use Rattle.std.proofs.lemmas.Bool.{not-true}
use Rattle.std.specs.Option.{unwrap_or}
use Rattle.cu_lex.specs.Located.{Position}
use Rattle.cu_lex.specs.Reading.{position_of}
use Rattle.cu_names.specs.declared.place.Place.{Place}
use Rattle.cu_peg.specs.Parse.{Leaf, Parts, Chosen, NoTree, MoreTrees}
use Rattle.cu_syntax.specs.declared.expressions.Expression.{Expression}
use Rattle.cu_syntax.specs.declared.expressions.ExpressionNode.{ExpressionNode}
use Rattle.cu_syntax.specs.declared.expressions.ExpressionNode.TheVariants as expression
use Rattle.cu_syntax.specs.declared.expressions.OperatorItem.{OperatorItem}
use Rattle.cu_syntax.specs.declared.patterns.ConstructorItem.{ConstructorItem}
use Rattle.cu_syntax.specs.declared.patterns.Pattern.{Pattern}
use Rattle.cu_syntax.specs.declared.patterns.PatternNode.{PatternNode}
use Rattle.cu_syntax.specs.declared.patterns.PatternNode.TheVariants as pattern
use Rattle.cu_syntax.specs.declared.symbol.Symbol.{Symbol}
use Rattle.cu_syntax.specs.declared.symbol.Symbol.TheVariants as symbol
use Rattle.cu_syntax.specs.declared.types.TypeNode.{TypeNode}
use Rattle.cu_syntax.specs.declared.types.TypeNode.TheVariants as type_term
use Rattle.cu_syntax.specs.declared.types.TypeTerm.{TypeTerm}
use Rattle.cu_syntax.specs.ExpressionMeaning.{expression_at, expression_meaning, expressions_meaning}
use Rattle.cu_syntax.specs.Expressions.{expression_node, is_bare_expression, maybe_position, rest_meaning}
use Rattle.cu_syntax.specs.Inside.Fits.{fits}
use Rattle.cu_syntax.specs.Formed.{AreComponents, AreSome, ExpressionNodeIsFormed, HasOperator, PatternNodeIsFormed, TypeNodeIsFormed}
use Rattle.cu_syntax.specs.Forms.{is_expression_node, is_pattern_node, is_type_node}
use Rattle.cu_syntax.specs.Patterns as patterns
use Rattle.cu_syntax.specs.Patterns.{is_bare_pattern, pattern_at, pattern_meaning, pattern_node, patterns_meaning}
use Rattle.cu_syntax.specs.Reading.{Tree, Trees, arguments_in, count, count_in, expression_choice, expression_of, expressions_of, minus_of, operator_rest, pattern_choice, pattern_rest, pattern_tuple, patterns_of, place, tuple, type_tuple, types_of}
use Rattle.cu_syntax.specs.Subtrees.{is_empty, is_single, part_of}
use Rattle.cu_syntax.specs.Syntax as syntax
use Rattle.cu_syntax.specs.Types.{is_bare_type, type_at, type_node, types_meaning}
use Rattle.cu_syntax.proofs.DeclarationLemmas.{among_each}
use Rattle.cu_syntax.proofs.ExpressionForms as expressions
use Rattle.cu_syntax.proofs.ExpressionParts.{case_parts, comprehension_parts}
use Rattle.cu_syntax.proofs.PatternForms as pattern_forms
use Rattle.cu_syntax.proofs.ShapeLemmas.{never, part_fits, parted, sequence_parts, trees_in}
use Rattle.cu_syntax.proofs.TypeForms as types

-- types

abbrev pub is_formed_type : syntax.TypeTerm → Bool
is_formed_type (syntax.TypeTuple at (syntax.MoreTypes t syntax.NoType)) = false
is_formed_type _ = true

abbrev TypeFormedAt : Symbol → Type 0
TypeFormedAt s = (tree : Tree) → fits s tree ≡ true → is_bare_type s tree ≡ true → is_formed_type (type_at s tree) ≡ true

function_formed : TypeFormedAt symbol.TypeExp
function_formed (Leaf x) h b = never h
function_formed (Parts NoTree) h b = never h
function_formed (Parts (MoreTrees tree NoTree)) h b = never b
function_formed (Parts (MoreTrees tree (MoreTrees next trees))) h b = refl
function_formed (Chosen n tree) h b = never h

type_application_formed : TypeFormedAt symbol.TypeApplication
type_application_formed tree h b =
    let parts = symbol.QConId ∷ symbol.TypeArguments ∷ [] in
    let one = parted symbol.TypeArguments (part_of tree 1) refl (part_fits symbol.TypeApplication parts tree 1 symbol.TypeArguments refl h refl) in
    let test : Tree → Bool = λ t. is_formed_type (type_at symbol.TypeApplication t) in
    ap test (sequence_parts symbol.TypeApplication parts tree refl h) ∙ ap (λ t. test (Parts (MoreTrees (part_of tree 0) (MoreTrees t NoTree)))) one

type_constructor_formed : TypeFormedAt symbol.QConId
type_constructor_formed tree h b = refl

type_variable_formed : TypeFormedAt symbol.VarId
type_variable_formed tree h b = refl

unit_type_formed : TypeFormedAt symbol.Unit
unit_type_formed tree h b = refl

several_types : (at : Position) (trees : Trees) → is_single (Parts trees) ≡ false → is_formed_type (type_tuple at (types_of trees)) ≡ true
several_types at NoTree h = refl
several_types at (MoreTrees tree NoTree) h = never (sym h)
several_types at (MoreTrees tree (MoreTrees other trees)) h = refl

tuple_type_formed : TypeFormedAt symbol.TupleType
tuple_type_formed tree h b =
    let two = parted symbol.TypeList (part_of tree 2) refl (part_fits symbol.TupleType (symbol.OpenParen ∷ symbol.NoSixteenTypes ∷ symbol.TypeList ∷ symbol.CloseParen ∷ []) tree 2 symbol.TypeList refl h refl) in
    let components = trees_in (part_of tree 2) in
    ap is_formed_type (types.tuple_with tree components h two)
    ∙ several_types (place (part_of tree 0)) components (sym (ap is_single two) ∙ not-true (is_single (part_of tree 2)) b)

list_type_formed : TypeFormedAt symbol.ListType
list_type_formed tree h b = ap (λ t. is_formed_type (type_at symbol.ListType t)) (sequence_parts symbol.ListType (symbol.OpenSquare ∷ symbol.TypeExp ∷ symbol.CloseSquare ∷ []) tree refl h)

pub type_formed : (s : Symbol) (tree : Tree) → is_type_node s ≡ true → fits s tree ≡ true → is_bare_type s tree ≡ true → is_formed_type (type_at s tree) ≡ true
type_formed s tree e h b =
    among_each TypeFormedAt types.nodes s
    (function_formed, (type_application_formed, (type_constructor_formed, (type_variable_formed, (unit_type_formed, (tuple_type_formed, (list_type_formed, tt)))))))
    e tree h b

type_components : (ts : List TypeTerm) (at : Position) → is_formed_type (syntax.TypeTuple at (types_meaning [] ts)) ≡ true → AreComponents ts
type_components [] at h one = absurd (omega (arith, one))
type_components (t ∷ []) at h one = never h
type_components (t ∷ u ∷ ts) at h one = absurd (omega (arith, one))

pub formed_type_node : (node : TypeNode) → is_formed_type (type_node [] node) ≡ true → TypeNodeIsFormed node
formed_type_node (type_term.Variable name) h = tt
formed_type_node (type_term.Named name arguments) h = tt
formed_type_node (type_term.Function first further result) h = tt
formed_type_node (type_term.Tuple at components) h = type_components components.items (position_of at) h
formed_type_node (type_term.List at element) h = tt

-- patterns

abbrev pub is_formed_pattern : syntax.Pattern → Bool
is_formed_pattern (syntax.PatternTuple at (syntax.MorePatterns p syntax.NoPattern)) = false
is_formed_pattern (syntax.PatternOperators at p syntax.NoConstructor) = false
is_formed_pattern _ = true

abbrev PatternFormedAt : Symbol → Type 0
PatternFormedAt s = (tree : Tree) → fits s tree ≡ true → is_bare_pattern s tree ≡ true → is_formed_pattern (pattern_at s tree) ≡ true

with_constructor : (at : Position) (p : syntax.Pattern) (rest : syntax.PatternRest) → (rest ≡ syntax.NoConstructor → ⊥) → is_formed_pattern (syntax.PatternOperators at p rest) ≡ true
with_constructor at p syntax.NoConstructor some = absurd (some refl)
with_constructor at p (syntax.ThenConstructor name q rest) some = refl

pattern_operators_formed : PatternFormedAt symbol.Pat
pattern_operators_formed tree h b =
    let further = part_of tree 1 in
    let have = part_fits symbol.Pat (symbol.ConPat ∷ symbol.FurtherConPats ∷ []) tree 1 symbol.FurtherConPats refl h refl in
    let one = parted symbol.FurtherConPats further refl have in
    let trees = trees_in further in
    let none : is_empty (Parts trees) ≡ false = ap is_empty (sym one) ∙ not-true (is_empty further) b in
    let at = place (part_of tree 0) in
    let first = pattern_choice symbol.ConPat (part_of tree 0) in
    let some = pattern_forms.some_item trees (sym (ap (fits symbol.FurtherConPats) one) ∙ have) none in
    ap is_formed_pattern (pattern_forms.pat_with tree trees h one ∙ pattern_forms.with_some at first (pattern_rest trees) some) ∙ with_constructor at first (pattern_rest trees) some

negative_formed : PatternFormedAt symbol.NegativePat
negative_formed tree h b = ap (λ t. is_formed_pattern (pattern_at symbol.NegativePat t)) (sequence_parts symbol.NegativePat (symbol.Minus ∷ symbol.Int ∷ []) tree refl h)

constructed_formed : PatternFormedAt symbol.ConApplication
constructed_formed tree h b =
    let parts = symbol.QCon ∷ symbol.PatArguments ∷ [] in
    let one = parted symbol.PatArguments (part_of tree 1) refl (part_fits symbol.ConApplication parts tree 1 symbol.PatArguments refl h refl) in
    let test : Tree → Bool = λ t. is_formed_pattern (pattern_at symbol.ConApplication t) in
    ap test (sequence_parts symbol.ConApplication parts tree refl h) ∙ ap (λ t. test (Parts (MoreTrees (part_of tree 0) (MoreTrees t NoTree)))) one

alias_formed : PatternFormedAt symbol.AliasPat
alias_formed tree h b = ap (λ t. is_formed_pattern (pattern_at symbol.AliasPat t)) (sequence_parts symbol.AliasPat (symbol.VarId ∷ symbol.At ∷ symbol.APat ∷ []) tree refl h)

pattern_variable_formed : PatternFormedAt symbol.VarId
pattern_variable_formed tree h b = refl

wildcard_formed : PatternFormedAt symbol.Underscore
wildcard_formed tree h b = refl

pattern_literal_formed : PatternFormedAt symbol.Literal
pattern_literal_formed tree h b = refl

pattern_constructor_formed : PatternFormedAt symbol.QCon
pattern_constructor_formed tree h b = refl

unit_pattern_formed : PatternFormedAt symbol.Unit
unit_pattern_formed tree h b = refl

several_patterns : (at : Position) (trees : Trees) → is_single (Parts trees) ≡ false → is_formed_pattern (pattern_tuple at (patterns_of trees)) ≡ true
several_patterns at NoTree h = refl
several_patterns at (MoreTrees tree NoTree) h = never (sym h)
several_patterns at (MoreTrees tree (MoreTrees other trees)) h = refl

tuple_pattern_formed : PatternFormedAt symbol.TuplePat
tuple_pattern_formed tree h b =
    let two = parted symbol.PatList (part_of tree 2) refl (part_fits symbol.TuplePat (symbol.OpenParen ∷ symbol.NoSixteenPats ∷ symbol.PatList ∷ symbol.CloseParen ∷ []) tree 2 symbol.PatList refl h refl) in
    let components = trees_in (part_of tree 2) in
    ap is_formed_pattern (pattern_forms.tuple_with tree components h two)
    ∙ several_patterns (place (part_of tree 0)) components (sym (ap is_single two) ∙ not-true (is_single (part_of tree 2)) b)

list_pattern_formed : PatternFormedAt symbol.ListPat
list_pattern_formed tree h b = ap (λ t. is_formed_pattern (pattern_at symbol.ListPat t)) (sequence_parts symbol.ListPat (symbol.OpenSquare ∷ symbol.OptionalPatList ∷ symbol.CloseSquare ∷ []) tree refl h)

pub pattern_formed : (s : Symbol) (tree : Tree) → is_pattern_node s ≡ true → fits s tree ≡ true → is_bare_pattern s tree ≡ true → is_formed_pattern (pattern_at s tree) ≡ true
pattern_formed s tree e h b =
    among_each PatternFormedAt pattern_forms.nodes s
    (pattern_operators_formed, (negative_formed, (constructed_formed, (alias_formed, (pattern_variable_formed, (wildcard_formed, (pattern_literal_formed, (pattern_constructor_formed, (unit_pattern_formed, (tuple_pattern_formed, (list_pattern_formed, tt)))))))))))
    e tree h b

pattern_components : (ps : List Pattern) (at : Position) → is_formed_pattern (syntax.PatternTuple at (patterns_meaning [] ps)) ≡ true → AreComponents ps
pattern_components [] at h one = absurd (omega (arith, one))
pattern_components (p ∷ []) at h one = never h
pattern_components (p ∷ q ∷ ps) at h one = absurd (omega (arith, one))

some_constructors : (is : List ConstructorItem) (at : Position) (p : syntax.Pattern) → is_formed_pattern (syntax.PatternOperators at p (patterns.rest_meaning [] is)) ≡ true → AreSome is
some_constructors [] at p h = never h
some_constructors (i ∷ is) at p h = omega arith

pub formed_pattern_node : (node : PatternNode) → is_formed_pattern (pattern_node [] node) ≡ true → PatternNodeIsFormed node
formed_pattern_node (pattern.Variable name) h = tt
formed_pattern_node (pattern.Alias name inner) h = tt
formed_pattern_node (pattern.Wildcard at) h = tt
formed_pattern_node (pattern.Literal at value) h = tt
formed_pattern_node (pattern.Negative at number) h = tt
formed_pattern_node (pattern.Constructed at name arguments) h = tt
formed_pattern_node (pattern.Tuple at components) h = pattern_components components.items (position_of at) h
formed_pattern_node (pattern.List at elements) h = tt
formed_pattern_node (pattern.Operators items) h = some_constructors items.rest.items (position_of items.place) (pattern_meaning [] items.first) h

-- expressions

abbrev pub is_formed_expression : syntax.Expression → Bool
is_formed_expression (syntax.Application at e syntax.NoExpression) = false
is_formed_expression (syntax.Operators at None e syntax.NoOperator) = false
is_formed_expression (syntax.Lambda at syntax.NoPattern e) = false
is_formed_expression (syntax.Tuple at (syntax.MoreExpressions e syntax.NoExpression)) = false
is_formed_expression (syntax.TupleConstructor at zero) = false
is_formed_expression (syntax.TupleConstructor at (suc zero)) = false
is_formed_expression _ = true

abbrev FormedAt : Symbol → Type 0
FormedAt s = (tree : Tree) → fits s tree ≡ true → is_bare_expression s tree ≡ true → is_formed_expression (expression_at s tree) ≡ true

abbrev test_at : Symbol → Tree → Bool
test_at s tree = is_formed_expression (expression_at s tree)

with_operator : (at : Position) (minus : Option Position) (e : syntax.Expression) (rest : syntax.OperatorRest) → (minus ≡ None → rest ≡ syntax.NoOperator → ⊥)
    → is_formed_expression (syntax.Operators at minus e rest) ≡ true
with_operator at None e syntax.NoOperator some = absurd (some refl refl)
with_operator at None e (syntax.ThenOperator name minus operand rest) some = refl
with_operator at (Some p) e rest some = refl

operators_formed : FormedAt symbol.Exp
operators_formed tree h b =
    let more = expressions.has_more tree h b in
    let at = unwrap_or (minus_of (part_of tree 0)) (place (part_of tree 1)) in
    let first = expression_choice symbol.Operand (part_of tree 1) in
    let rest = operator_rest (trees_in (part_of tree 2)) in
    ap is_formed_expression (expressions.exp_with tree (trees_in (part_of tree 2)) h more.is ∙ expressions.with_some at (minus_of (part_of tree 0)) first rest more.more)
    ∙ with_operator at (minus_of (part_of tree 0)) first rest more.more

some_parameters : (at : Position) (parameters : Tree) (e : syntax.Expression) → fits symbol.PatArguments parameters ≡ true → is_formed_expression (syntax.Lambda at (arguments_in parameters) e) ≡ true
some_parameters at (Leaf x) e h = never h
some_parameters at (Parts NoTree) e h = never h
some_parameters at (Parts (MoreTrees tree trees)) e h = refl
some_parameters at (Chosen n tree) e h = never h

abbrev lambda_parts : List Symbol
lambda_parts = symbol.Backslash ∷ symbol.PatArguments ∷ symbol.RightArrow ∷ symbol.Exp ∷ []

lambda_formed : FormedAt symbol.Lambda
lambda_formed tree h b =
    ap (test_at symbol.Lambda) (sequence_parts symbol.Lambda lambda_parts tree refl h)
    ∙ some_parameters (place (part_of tree 0)) (part_of tree 1) (expression_of (part_of tree 3)) (part_fits symbol.Lambda lambda_parts tree 1 symbol.PatArguments refl h refl)

let_formed : FormedAt symbol.LetExp
let_formed tree h b = ap (test_at symbol.LetExp) (sequence_parts symbol.LetExp (symbol.Let ∷ symbol.Block ∷ symbol.In ∷ symbol.Exp ∷ []) tree refl h)

condition_formed : FormedAt symbol.IfExp
condition_formed tree h b = ap (test_at symbol.IfExp) (sequence_parts symbol.IfExp (symbol.If ∷ symbol.Exp ∷ symbol.Then ∷ symbol.Exp ∷ symbol.Else ∷ symbol.Exp ∷ []) tree refl h)

case_formed : FormedAt symbol.CaseExp
case_formed tree h b =
    let four = parted symbol.AltList (part_of tree 4) refl (part_fits symbol.CaseExp (symbol.CaseWord ∷ case_parts) tree 4 symbol.AltList refl h refl) in
    ap (test_at symbol.CaseExp) (sequence_parts symbol.CaseExp (symbol.CaseWord ∷ case_parts) tree refl h)
    ∙ ap (λ t. test_at symbol.CaseExp (Parts (MoreTrees (part_of tree 0) (MoreTrees (part_of tree 1) (MoreTrees (part_of tree 2) (MoreTrees (part_of tree 3) (MoreTrees t (MoreTrees (part_of tree 5) NoTree)))))))) four

application_formed : FormedAt symbol.Application
application_formed (Leaf x) h b = never h
application_formed (Parts NoTree) h b = never h
application_formed (Parts (MoreTrees tree NoTree)) h b = never b
application_formed (Parts (MoreTrees tree (MoreTrees next trees))) h b = refl
application_formed (Chosen n tree) h b = never h

literal_formed : FormedAt symbol.Literal
literal_formed tree h b = refl

variable_formed : FormedAt symbol.QVar
variable_formed tree h b = refl

constructor_formed : FormedAt symbol.QCon
constructor_formed tree h b = refl

unit_formed : FormedAt symbol.Unit
unit_formed tree h b = refl

two_components : (at : Position) (n k : ℕ) → n ≡ suc (suc k) → is_formed_expression (syntax.TupleConstructor at n) ≡ true
two_components at n k e = ap (λ m. is_formed_expression (syntax.TupleConstructor at m)) e

some_commas : (at : Position) (commas : Tree) → fits symbol.Commas commas ≡ true → is_formed_expression (syntax.TupleConstructor at (count_in commas + 1)) ≡ true
some_commas at (Leaf x) h = never h
some_commas at (Parts NoTree) h = never h
some_commas at (Parts (MoreTrees tree trees)) h = two_components at (count (MoreTrees tree trees) + 1) (count trees) (omega arith)
some_commas at (Chosen n tree) h = never h

abbrev tuple_constructor_parts : List Symbol
tuple_constructor_parts = symbol.OpenParen ∷ symbol.NoFifteenCommas ∷ symbol.Commas ∷ symbol.CloseParen ∷ []

tuple_constructor_formed : FormedAt symbol.TupleCon
tuple_constructor_formed tree h b =
    ap (test_at symbol.TupleCon) (sequence_parts symbol.TupleCon tuple_constructor_parts tree refl h)
    ∙ some_commas (place (part_of tree 0)) (part_of tree 2) (part_fits symbol.TupleCon tuple_constructor_parts tree 2 symbol.Commas refl h refl)

right_section_formed : FormedAt symbol.RightSection
right_section_formed tree h b = ap (test_at symbol.RightSection) (sequence_parts symbol.RightSection (symbol.OpenParen ∷ symbol.NoMinus ∷ symbol.QOp ∷ symbol.Exp ∷ symbol.CloseParen ∷ []) tree refl h)

left_section_formed : FormedAt symbol.LeftSection
left_section_formed tree h b = ap (test_at symbol.LeftSection) (sequence_parts symbol.LeftSection (symbol.OpenParen ∷ symbol.Exp ∷ symbol.QOp ∷ symbol.CloseParen ∷ []) tree refl h)

several_expressions : (at : Position) (trees : Trees) → is_single (Parts trees) ≡ false → is_formed_expression (tuple at (expressions_of trees)) ≡ true
several_expressions at NoTree h = refl
several_expressions at (MoreTrees tree NoTree) h = never (sym h)
several_expressions at (MoreTrees tree (MoreTrees other trees)) h = refl

tuple_formed : FormedAt symbol.Tuple
tuple_formed tree h b =
    let two = parted symbol.ExpList (part_of tree 2) refl (part_fits symbol.Tuple (symbol.OpenParen ∷ symbol.NoSixteenExps ∷ symbol.ExpList ∷ symbol.CloseParen ∷ []) tree 2 symbol.ExpList refl h refl) in
    let components = trees_in (part_of tree 2) in
    ap is_formed_expression (expressions.tuple_with tree components h two)
    ∙ several_expressions (place (part_of tree 0)) components (sym (ap is_single two) ∙ not-true (is_single (part_of tree 2)) b)

empty_list_formed : FormedAt symbol.EmptyList
empty_list_formed tree h b = refl

from_then_formed : FormedAt symbol.FromThen
from_then_formed tree h b =
    ap (test_at symbol.FromThen) (sequence_parts symbol.FromThen (symbol.OpenSquare ∷ symbol.Exp ∷ symbol.Comma ∷ symbol.Exp ∷ symbol.DotDot ∷ symbol.OptionalExp ∷ symbol.CloseSquare ∷ []) tree refl h)

from_formed : FormedAt symbol.From
from_formed tree h b = ap (test_at symbol.From) (sequence_parts symbol.From (symbol.OpenSquare ∷ symbol.Exp ∷ symbol.DotDot ∷ symbol.OptionalExp ∷ symbol.CloseSquare ∷ []) tree refl h)

comprehension_formed : FormedAt symbol.Comprehension
comprehension_formed tree h b =
    let three = parted symbol.QualList (part_of tree 3) refl (part_fits symbol.Comprehension (symbol.OpenSquare ∷ comprehension_parts) tree 3 symbol.QualList refl h refl) in
    ap (test_at symbol.Comprehension) (sequence_parts symbol.Comprehension (symbol.OpenSquare ∷ comprehension_parts) tree refl h)
    ∙ ap (λ t. test_at symbol.Comprehension (Parts (MoreTrees (part_of tree 0) (MoreTrees (part_of tree 1) (MoreTrees (part_of tree 2) (MoreTrees t (MoreTrees (part_of tree 4) NoTree))))))) three

abbrev list_parts : List Symbol
list_parts = symbol.OpenSquare ∷ symbol.ExpList ∷ symbol.CloseSquare ∷ []

list_formed : FormedAt symbol.ListExp
list_formed tree h b =
    let one = parted symbol.ExpList (part_of tree 1) refl (part_fits symbol.ListExp list_parts tree 1 symbol.ExpList refl h refl) in
    ap (test_at symbol.ListExp) (sequence_parts symbol.ListExp list_parts tree refl h)
    ∙ ap (λ t. test_at symbol.ListExp (Parts (MoreTrees (part_of tree 0) (MoreTrees t (MoreTrees (part_of tree 2) NoTree))))) one

pub expression_formed : (s : Symbol) (tree : Tree) → is_expression_node s ≡ true → fits s tree ≡ true → is_bare_expression s tree ≡ true → is_formed_expression (expression_at s tree) ≡ true
expression_formed s tree e h b =
    among_each FormedAt expressions.nodes s
    (operators_formed, (lambda_formed, (let_formed, (condition_formed, (case_formed, (application_formed, (literal_formed, (variable_formed, (constructor_formed, (unit_formed, (tuple_constructor_formed, (right_section_formed, (left_section_formed, (tuple_formed, (empty_list_formed, (from_then_formed, (from_formed, (comprehension_formed, (list_formed, tt)))))))))))))))))))
    e tree h b

some_arguments : (es : List Expression) (at : Position) (e : syntax.Expression) → is_formed_expression (syntax.Application at e (expressions_meaning [] es)) ≡ true → AreSome es
some_arguments [] at e h = never h
some_arguments (x ∷ es) at e h = omega arith

some_operators : (is : List OperatorItem) (at : Position) (minus : Option Place) (e : syntax.Expression)
    → is_formed_expression (syntax.Operators at (maybe_position minus) e (rest_meaning [] is)) ≡ true → HasOperator minus is
some_operators [] at None e h = never h
some_operators (i ∷ is) at None e h = omega arith
some_operators is at (Some place) e h = tt

some_patterns : (ps : List Pattern) (at : Position) (e : syntax.Expression) → is_formed_expression (syntax.Lambda at (patterns_meaning [] ps) e) ≡ true → AreSome ps
some_patterns [] at e h = never h
some_patterns (p ∷ ps) at e h = omega arith

components : (es : List Expression) (at : Position) → is_formed_expression (syntax.Tuple at (expressions_meaning [] es)) ≡ true → AreComponents es
components [] at h one = absurd (omega (arith, one))
components (e ∷ []) at h one = never h
components (e ∷ d ∷ es) at h one = absurd (omega (arith, one))

counted : (n : ℕ) (at : Position) → is_formed_expression (syntax.TupleConstructor at n) ≡ true → 1 < n
counted zero at h = never h
counted (suc zero) at h = never h
counted (suc (suc n)) at h = omega arith

pub formed_expression_node : (node : ExpressionNode) → is_formed_expression (expression_node [] node) ≡ true → ExpressionNodeIsFormed node
formed_expression_node (expression.Variable at name) h = tt
formed_expression_node (expression.Constructor at name) h = tt
formed_expression_node (expression.Literal at value) h = tt
formed_expression_node (expression.Application at function arguments) h = some_arguments arguments.items (position_of at) (expression_meaning [] function) h
formed_expression_node (expression.Operators items) h = some_operators items.rest.items (position_of items.place) items.minus (expression_meaning [] items.first) h
formed_expression_node (expression.Lambda at parameters inner) h = some_patterns parameters.items (position_of at) (expression_meaning [] inner) h
formed_expression_node (expression.Let at local inner) h = tt
formed_expression_node (expression.If at condition chosen other) h = tt
formed_expression_node (expression.Case at word subject alternatives) h = tt
formed_expression_node (expression.Tuple at parts) h = components parts.items (position_of at) h
formed_expression_node (expression.TupleConstructor at n) h = counted n (position_of at) h
formed_expression_node (expression.LeftSection at operand operator) h = tt
formed_expression_node (expression.RightSection at operator operand) h = tt
formed_expression_node (expression.List at elements) h = tt
formed_expression_node (expression.Enumeration at numbers) h = tt
formed_expression_node (expression.Comprehension at element qualifiers) h = tt

-- what a result tells
pub ok_formed : {N W E : Type 0} (told : N → W) (is_formed : W → Bool) (IsFormed : N → Type 0) (r : Result N E) (whole : W) → ((node : N) → is_formed (told node) ≡ true → IsFormed node)
    → is_formed whole ≡ true → IfOk r (λ node. told node ≡ whole) → IfOk r IsFormed
ok_formed told is_formed IsFormed (Ok node) whole formed h is = formed node (ap is_formed is ∙ h)
ok_formed told is_formed IsFormed (Err error) whole formed h is = tt
