-- Where types and patterns stand: what a tree stands for has the place of the tree's first token.
use Rattle.std.specs.Prelude.{◌≡◌, true, false, [], ◌∷◌, refl}
use Rattle.std.proofs.Common.{ap, sym, ◌∙◌}
use Rattle.std.proofs.lemmas.Bool.{and_parts, not-true}
use Rattle.cu_lex.specs.Located.{Position}
use Rattle.cu_peg.specs.Parse.{Leaf, Parts, Chosen, NoTree, MoreTrees}
use Rattle.cu_syntax.specs.declared.symbol.Symbol.{Symbol}
use Rattle.cu_syntax.specs.declared.symbol.Symbol.TheVariants as symbol
use Rattle.cu_syntax.specs.Inside.Fits.{fits, have_parts}
use Rattle.cu_syntax.specs.Forms.{is_pattern_node, is_type_node}
use Rattle.cu_syntax.specs.Patterns.{is_bare_pattern, pattern_at}
use Rattle.cu_syntax.specs.Reading.{Tree, Trees, name_of, pattern_choice, pattern_rest, pattern_tuple, patterns_of, place, type_tuple, types_of}
use Rattle.cu_syntax.specs.Subtrees.{is_empty, is_single, part_of}
use Rattle.cu_syntax.specs.Syntax.{pattern_position, type_position}
use Rattle.cu_syntax.specs.Table.{Many}
use Rattle.cu_syntax.specs.Types.{is_bare_type, type_at}
use Rattle.cu_syntax.proofs.DeclarationLemmas.{among_each}
use Rattle.cu_syntax.proofs.PatternForms as patterns
use Rattle.cu_syntax.proofs.PlaceLemmas.{stands_first}
use Rattle.cu_syntax.proofs.ShapeLemmas.{first_place, first_place_of, never, part_fits, parted, trees_in}
use Rattle.cu_syntax.proofs.TokenLaw.{token_there}
use Rattle.cu_syntax.proofs.TypeForms as types

-- names of one token

variable_leaf : (tree : Tree) → fits symbol.VarId tree ≡ true → place tree ≡ (name_of tree).at
variable_leaf (Leaf x) h = refl
variable_leaf (Parts trees) h = never h
variable_leaf (Chosen n tree) h = never h

constructor_leaf : (tree : Tree) → fits symbol.QConId tree ≡ true → place tree ≡ (name_of tree).at
constructor_leaf (Leaf x) h = refl
constructor_leaf (Parts trees) h = never h
constructor_leaf (Chosen n tree) h = never h

-- types

abbrev place_of_type : Symbol → Tree → Position
place_of_type s tree = type_position (type_at s tree)

abbrev TypeStandsAt : Symbol → Type 0
TypeStandsAt s = (tree : Tree) → fits s tree ≡ true → is_bare_type s tree ≡ true → place tree ≡ place_of_type s tree

function_stands : TypeStandsAt symbol.TypeExp
function_stands (Leaf x) h b = never h
function_stands (Parts NoTree) h b = never h
function_stands (Parts (MoreTrees tree NoTree)) h b = never b
function_stands (Parts (MoreTrees tree (MoreTrees next trees))) h b =
    first_place_of tree (MoreTrees next trees) (token_there symbol.BType tree refl (and_parts (fits symbol.BType tree) (have_parts (Many symbol.BType) (MoreTrees next trees)) h).0)
function_stands (Chosen n tree) h b = never h

application_stands : TypeStandsAt symbol.TypeApplication
application_stands tree h b =
    let parts = symbol.QConId ∷ symbol.TypeArguments ∷ [] in
    let one = parted symbol.TypeArguments (part_of tree 1) refl (part_fits symbol.TypeApplication parts tree 1 symbol.TypeArguments refl h refl) in
    stands_first (place_of_type symbol.TypeApplication) symbol.TypeApplication symbol.QConId (symbol.TypeArguments ∷ []) tree refl refl h
    (constructor_leaf (part_of tree 0) (part_fits symbol.TypeApplication parts tree 0 symbol.QConId refl h refl)
    ∙ sym (ap (λ t. place_of_type symbol.TypeApplication (Parts (MoreTrees (part_of tree 0) (MoreTrees t NoTree)))) one))

type_constructor_stands : TypeStandsAt symbol.QConId
type_constructor_stands tree h b = constructor_leaf tree h

type_variable_stands : TypeStandsAt symbol.VarId
type_variable_stands tree h b = variable_leaf tree h

unit_type_stands : TypeStandsAt symbol.Unit
unit_type_stands tree h b = refl

several_types : (at : Position) (trees : Trees) → is_single (Parts trees) ≡ false → at ≡ type_position (type_tuple at (types_of trees))
several_types at NoTree h = refl
several_types at (MoreTrees tree NoTree) h = never (sym h)
several_types at (MoreTrees tree (MoreTrees other trees)) h = refl

tuple_type_stands : TypeStandsAt symbol.TupleType
tuple_type_stands tree h b =
    let parts = symbol.NoSixteenTypes ∷ symbol.TypeList ∷ symbol.CloseParen ∷ [] in
    let two = parted symbol.TypeList (part_of tree 2) refl (part_fits symbol.TupleType (symbol.OpenParen ∷ parts) tree 2 symbol.TypeList refl h refl) in
    let components = trees_in (part_of tree 2) in
    first_place symbol.TupleType symbol.OpenParen parts tree refl refl h
    ∙ several_types (place (part_of tree 0)) components (sym (ap is_single two) ∙ not-true (is_single (part_of tree 2)) b)
    ∙ sym (ap type_position (types.tuple_with tree components h two))

list_type_stands : TypeStandsAt symbol.ListType
list_type_stands tree h b = stands_first (place_of_type symbol.ListType) symbol.ListType symbol.OpenSquare (symbol.TypeExp ∷ symbol.CloseSquare ∷ []) tree refl refl h refl

-- A type that is more than parentheses round another stands at the first token of its tree.
pub type_stands : (s : Symbol) (tree : Tree) → is_type_node s ≡ true → fits s tree ≡ true → is_bare_type s tree ≡ true → place tree ≡ type_position (type_at s tree)
type_stands s tree e h b =
    among_each TypeStandsAt types.nodes s
    (function_stands, (application_stands, (type_constructor_stands, (type_variable_stands, (unit_type_stands, (tuple_type_stands, (list_type_stands, tt)))))))
    e tree h b

-- patterns

abbrev place_of_pattern : Symbol → Tree → Position
place_of_pattern s tree = pattern_position (pattern_at s tree)

abbrev PatternStandsAt : Symbol → Type 0
PatternStandsAt s = (tree : Tree) → fits s tree ≡ true → is_bare_pattern s tree ≡ true → place tree ≡ place_of_pattern s tree

operators_stand : PatternStandsAt symbol.Pat
operators_stand tree h b =
    let parts = symbol.ConPat ∷ symbol.FurtherConPats ∷ [] in
    let further = part_of tree 1 in
    let have = part_fits symbol.Pat parts tree 1 symbol.FurtherConPats refl h refl in
    let one = parted symbol.FurtherConPats further refl have in
    let trees = trees_in further in
    let none : is_empty (Parts trees) ≡ false = ap is_empty (sym one) ∙ not-true (is_empty further) b in
    let at = place (part_of tree 0) in
    first_place symbol.Pat symbol.ConPat (symbol.FurtherConPats ∷ []) tree refl refl h
    ∙ sym (ap pattern_position (patterns.pat_with tree trees h one
    ∙ patterns.with_some at (pattern_choice symbol.ConPat (part_of tree 0)) (pattern_rest trees) (patterns.some_item trees (sym (ap (fits symbol.FurtherConPats) one) ∙ have) none)))

negative_stands : PatternStandsAt symbol.NegativePat
negative_stands tree h b = stands_first (place_of_pattern symbol.NegativePat) symbol.NegativePat symbol.Minus (symbol.Int ∷ []) tree refl refl h refl

constructed_stands : PatternStandsAt symbol.ConApplication
constructed_stands tree h b =
    let one = parted symbol.PatArguments (part_of tree 1) refl (part_fits symbol.ConApplication (symbol.QCon ∷ symbol.PatArguments ∷ []) tree 1 symbol.PatArguments refl h refl) in
    stands_first (place_of_pattern symbol.ConApplication) symbol.ConApplication symbol.QCon (symbol.PatArguments ∷ []) tree refl refl h
    (sym (ap (λ t. place_of_pattern symbol.ConApplication (Parts (MoreTrees (part_of tree 0) (MoreTrees t NoTree)))) one))

alias_stands : PatternStandsAt symbol.AliasPat
alias_stands tree h b =
    stands_first (place_of_pattern symbol.AliasPat) symbol.AliasPat symbol.VarId (symbol.At ∷ symbol.APat ∷ []) tree refl refl h
    (variable_leaf (part_of tree 0) (part_fits symbol.AliasPat (symbol.VarId ∷ symbol.At ∷ symbol.APat ∷ []) tree 0 symbol.VarId refl h refl))

variable_stands : PatternStandsAt symbol.VarId
variable_stands tree h b = variable_leaf tree h

wildcard_stands : PatternStandsAt symbol.Underscore
wildcard_stands tree h b = refl

literal_stands : PatternStandsAt symbol.Literal
literal_stands tree h b = refl

constructor_stands : PatternStandsAt symbol.QCon
constructor_stands tree h b = refl

unit_stands : PatternStandsAt symbol.Unit
unit_stands tree h b = refl

several_patterns : (at : Position) (trees : Trees) → is_single (Parts trees) ≡ false → at ≡ pattern_position (pattern_tuple at (patterns_of trees))
several_patterns at NoTree h = refl
several_patterns at (MoreTrees tree NoTree) h = never (sym h)
several_patterns at (MoreTrees tree (MoreTrees other trees)) h = refl

tuple_stands : PatternStandsAt symbol.TuplePat
tuple_stands tree h b =
    let parts = symbol.NoSixteenPats ∷ symbol.PatList ∷ symbol.CloseParen ∷ [] in
    let two = parted symbol.PatList (part_of tree 2) refl (part_fits symbol.TuplePat (symbol.OpenParen ∷ parts) tree 2 symbol.PatList refl h refl) in
    let components = trees_in (part_of tree 2) in
    first_place symbol.TuplePat symbol.OpenParen parts tree refl refl h
    ∙ several_patterns (place (part_of tree 0)) components (sym (ap is_single two) ∙ not-true (is_single (part_of tree 2)) b)
    ∙ sym (ap pattern_position (patterns.tuple_with tree components h two))

list_stands : PatternStandsAt symbol.ListPat
list_stands tree h b = stands_first (place_of_pattern symbol.ListPat) symbol.ListPat symbol.OpenSquare (symbol.OptionalPatList ∷ symbol.CloseSquare ∷ []) tree refl refl h refl

-- So does a pattern.
pub pattern_stands : (s : Symbol) (tree : Tree) → is_pattern_node s ≡ true → fits s tree ≡ true → is_bare_pattern s tree ≡ true → place tree ≡ pattern_position (pattern_at s tree)
pattern_stands s tree e h b =
    among_each PatternStandsAt patterns.nodes s
    (operators_stand, (negative_stands, (constructed_stands, (alias_stands, (variable_stands, (wildcard_stands, (literal_stands, (constructor_stands, (unit_stands, (tuple_stands, (list_stands, tt)))))))))))
    e tree h b
