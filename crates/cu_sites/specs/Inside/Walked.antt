-- What stands in the views of a text, at a spot.
use Rattle.std.specs.Prelude.{◌≡◌, ℕ, List, [], ◌∷◌, ◌++◌, Option, None, map}
use Rattle.std.specs.List.{All}
use Rattle.cu_lex.specs.Reading.{position_of}
use Rattle.cu_names.specs.declared.place.Place.{Place}
use Rattle.cu_syntax.specs.declared.declarations.Body.{Body}
use Rattle.cu_syntax.specs.declared.declarations.Body.TheVariants as body
use Rattle.cu_syntax.specs.declared.declarations.Declaration.{Declaration}
use Rattle.cu_syntax.specs.declared.declarations.Guard.{Guard}
use Rattle.cu_syntax.specs.declared.declarations.RightSide.{RightSide}
use Rattle.cu_syntax.specs.declared.expressions.Alternative.{Alternative}
use Rattle.cu_syntax.specs.declared.expressions.Enumeration.{Enumeration}
use Rattle.cu_syntax.specs.declared.expressions.Expression.{Expression}
use Rattle.cu_syntax.specs.declared.expressions.OperatorItem.{OperatorItem}
use Rattle.cu_syntax.specs.declared.expressions.Qualifier.{Qualifier}
use Rattle.cu_syntax.specs.declared.name.Name as code
use Rattle.cu_syntax.specs.declared.patterns.Pattern.{Pattern}
use Rattle.cu_syntax.specs.Declarations.{declaration_meaning, declarations_meaning, guards_meaning, right_meaning}
use Rattle.cu_syntax.specs.ExpressionMeaning.{expression_meaning, expressions_meaning}
use Rattle.cu_syntax.specs.Expressions.{alternatives_meaning, maybe_meaning, qualifier_meaning, qualifiers_meaning, rest_meaning}
use Rattle.cu_syntax.specs.Names.{name_meaning}
use Rattle.cu_syntax.specs.Owners.{ExpressionIsOf, QualifierIsOf}
use Rattle.cu_syntax.specs.Patterns.{pattern_meaning, patterns_meaning}
use Rattle.cu_syntax.specs.Syntax as syntax
use Rattle.cu_translation.specs.Rules.{Begun, leading, one_pattern, rules_in}
use Rattle.cu_translation.specs.Sites.{Function, Lambda, Matched, Node, Spot, Use, all_nodes, alternatives_nodes, declaration_nodes, declarations_nodes, guards_nodes, in_block, in_function, maybe_nodes, node, nodes_on, past, past_all, qualifier_nodes, qualifiers_nodes, rest_nodes, right_nodes, with}
use Rattle.cu_locals.specs.declared.begun.Begun as begun
use Rattle.cu_sites.specs.declared.rules.Rule as rules
use Rattle.cu_sites.specs.declared.sites.Sites.{Sites}
use Rattle.cu_sites.specs.declared.walk.BlockSpot.{BlockSpot}
use Rattle.cu_sites.specs.declared.walk.Step.{Step}
use Rattle.cu_locals.specs.Text.{Text}
use Rattle.cu_sites.specs.Meaning.{qualifiers_after, element_in, qualifiers_in, rule_meaning}
use Rattle.cu_sites.specs.Inside.Entering.{IsAt, IsBlock, Writes}
use Rattle.cu_locals.specs.BegunFound.{IsBefore}
use Rattle.cu_uses.specs.Gathered.{pattern_binds, patterns_bind}

unfoldable pub block_of : List (List ℕ) → List Declaration → syntax.Declarations
block_of names ds = declarations_meaning names ds

unfoldable pub qualifier_of : List (List ℕ) → Qualifier → syntax.Qualifier
qualifier_of names q = qualifier_meaning names q

unfoldable pub qualifiers_of : List (List ℕ) → List Qualifier → syntax.Qualifiers
qualifiers_of names qs = qualifiers_meaning names qs

-- ---- expressions

unfoldable pub applied_has : List (List ℕ) → Spot → List Expression → Expression → List Node
applied_has names spot arguments e =
    nodes_on (map (expression_meaning names) arguments) spot (expression_meaning names e)

unfoldable pub expression_has : List (List ℕ) → Spot → Expression → List Node
expression_has names spot e = nodes_on [] spot (expression_meaning names e)

unfoldable pub expressions_have : List (List ℕ) → Spot → List Expression → List Node
expressions_have names spot es = all_nodes spot (expressions_meaning names es)

unfoldable pub maybe_has : List (List ℕ) → Spot → Option Expression → List Node
maybe_has names spot e = maybe_nodes spot (maybe_meaning names e)

unfoldable pub operands_have : List (List ℕ) → Spot → List OperatorItem → List Node
operands_have names spot items = rest_nodes spot (rest_meaning names items)

unfoldable pub alternatives_have : List (List ℕ) → Spot → List Alternative → List Node
alternatives_have names spot cases = alternatives_nodes spot (alternatives_meaning names cases)

unfoldable pub right_has : List (List ℕ) → Spot → RightSide → List Node
right_has names spot right = right_nodes spot (right_meaning names right)

unfoldable pub guards_have : List (List ℕ) → Spot → List Guard → List Node
guards_have names spot cases = guards_nodes spot (guards_meaning names cases)

unfoldable pub declarations_have : List (List ℕ) → Spot → syntax.Declarations → Option Begun
    → List Declaration → List Node
declarations_have names spot block b ds =
    declarations_nodes spot block b (declarations_meaning names ds)

unfoldable pub declaration_has : List (List ℕ) → Spot → syntax.Declarations → Option Begun
    → List Declaration → Declaration → List Node
declaration_has names spot block b others d =
    declaration_nodes spot block b (declarations_meaning names others) (declaration_meaning names d)

-- what stands in qualifiers of a comprehension with this element
unfoldable pub qualifiers_have : List (List ℕ) → Spot → syntax.Expression → List Qualifier
    → List Node
qualifiers_have names spot element qs = qualifiers_nodes spot element (qualifiers_meaning names qs)

unfoldable pub qualifier_has : List (List ℕ) → Spot → syntax.Expression → syntax.Qualifiers
    → Qualifier → List Node
qualifier_has names spot element others q =
    qualifier_nodes spot element others (qualifier_meaning names q)

-- ---- by their parts

unfoldable pub patterns_of : List (List ℕ) → List Pattern → syntax.Patterns
patterns_of names ps = patterns_meaning names ps

unfoldable pub one_of : List (List ℕ) → Pattern → syntax.Patterns
one_of names p = one_pattern (pattern_meaning names p)

abbrev pub lambda_has : List (List ℕ) → Spot → Place → List Pattern → Expression → List Node
lambda_has names spot at ps body =
    let inner = in_function (position_of at) (patterns_bind names ps) spot in
    node spot (Lambda (position_of at) (patterns_of names ps) (expression_meaning names body)) ∷
    node inner (Matched (patterns_of names ps)) ∷ expression_has names inner body

abbrev pub let_has : List (List ℕ) → Spot → List Declaration → Expression → List Node
let_has names spot ds body =
    let inner = in_block (block_of names ds) spot in
    declarations_have names inner (block_of names ds) None ds ++ expression_has names inner body

abbrev pub alternative_has : List (List ℕ) → Spot → Alternative → List Node
alternative_has names spot a =
    let inner = with (pattern_binds names a.pattern) spot in
    node inner (Matched (one_of names a.pattern)) ∷ right_has names inner a.right

abbrev pub enumeration_has : List (List ℕ) → Spot → Enumeration → List Node
enumeration_has names spot e =
    expression_has names spot e.first ++
    (maybe_has names spot e.second ++ maybe_has names spot e.last)

abbrev pub body_has : List (List ℕ) → Spot → Body → List Node
body_has names spot (body.Plain e) = expression_has names spot e
body_has names spot (body.Guarded cases) = guards_have names spot cases.items

abbrev pub comprehension_has : List (List ℕ) → Spot → Expression → List Qualifier → List Node
comprehension_has names spot element qs =
    expression_has names (past_all (qualifiers_of names qs) spot) element ++
    qualifiers_have names spot (expression_meaning names element) qs

-- These nodes were added to the sites, and this is the function whose rules may go on.
pub record Walks (t : Text) (before : Sites) (added : List Node) (b : Option Begun)
    (found : Option begun.Begun) (after : Sites) : Type 0 where
  pub writes : Writes t before added after
  pub begun : IsBefore t b found

-- the node of a name that is used on arguments
unfoldable pub use_has : List (List ℕ) → Spot → code.Name → List Expression → List Node
use_has names spot x arguments =
    node spot (Use (name_meaning names x) (map (expression_meaning names) arguments)) ∷ []

-- ---- qualifiers

-- An expression is a comprehension with this element and these qualifiers.
pub record IsComprehension (t : Text) (whole : Expression) (element : syntax.Expression)
    (qs : List Qualifier) : Type 0 where
  pub of : ExpressionIsOf t.owner t.names whole
  pub qualifiers : All (QualifierIsOf t.owner t.names) qs
  pub has : qualifiers_in (expression_meaning t.names whole) ≡ qualifiers_meaning t.names qs
  pub element_is : element_in (expression_meaning t.names whole) ≡ element

-- The code's `Step` is that of a qualifier at this spot, in a comprehension with this element, in
-- which these qualifiers follow it.
pub record IsStep (t : Text) (s : Sites) (step : Step) (spot : Spot) (element : syntax.Expression)
    (others : syntax.Qualifiers) (q : Qualifier) : Type 0 where
  pub before : IsAt t s step.before spot
  pub after_it : IsAt t s step.after (past (qualifier_of t.names q) spot)
  pub of : ExpressionIsOf t.owner t.names step.whole
  pub follow : qualifiers_after step.number (qualifiers_in (expression_meaning t.names step.whole))
      ≡ others
  pub element_is : element_in (expression_meaning t.names step.whole) ≡ element

-- ---- blocks

-- The code's `BlockSpot` is that of a block of these declarations at this spot.
pub record IsInner (t : Text) (s : Sites) (inner : BlockSpot) (spot : Spot)
    (block : syntax.Declarations) : Type 0 where
  pub at : IsAt t s inner.at spot
  pub block_is : IsBlock t s inner.block block

-- what stands in a rule, which other declarations follow
unfoldable pub rule_has : List (List ℕ) → Spot → syntax.Declarations → Option Begun
    → List Declaration → rules.Rule → List Node
rule_has names spot block b others r =
    declaration_nodes spot block b (declarations_meaning names others)
    (syntax.FunctionRule (position_of r.place) (name_meaning names r.name)
    (patterns_meaning names r.parameters.items) (right_meaning names r.right))

-- the node of the function that a rule begins
unfoldable pub function_has : List (List ℕ) → Spot → syntax.Declarations → List Declaration
    → rules.Rule → List Node
function_has names spot block others r =
    node spot (Function block (record {
      first = rule_meaning names r;
      others = leading (name_meaning names r.name).text
          (rules_in (declarations_meaning names others));
    })) ∷ []

-- what stands in a rule of a local function
abbrev pub inner_rule_has : List (List ℕ) → Spot → Place → rules.Rule → List Node
inner_rule_has names spot function r =
    let inner = in_function (position_of function) (patterns_bind names r.parameters.items) spot in
    node inner (Matched (patterns_of names r.parameters.items)) ∷ right_has names inner r.right
