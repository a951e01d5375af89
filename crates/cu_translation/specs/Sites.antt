-- All that stands in the text of a function, in the order of the text, each with the spot where it
-- stands: the local functions around it, and the local names in scope there.
use Rattle.std.specs.Prelude.{List, [], ◌∷◌, ◌++◌, Option, None, if◌then◌else◌}
use Rattle.std.specs.List.{flat_map}
use Rattle.cu_lex.specs.Located.{Position}
use Rattle.cu_syntax.specs.Syntax as syntax
use Rattle.cu_syntax.specs.Syntax.{Alternatives, Declaration, Declarations, Expression, Expressions, Guards, MaybeExpression, Name, OperatorRest, Pattern, Patterns, Qualifier, Qualifiers, RightSide}
use Rattle.cu_uses.specs.Binders.{pattern_variables, variables}
use Rattle.cu_translation.specs.LocalNames.{Scope, block_entries, variable_entries}
use Rattle.cu_translation.specs.Rules.{Begun, Group, Rule, begun_by, begun_in, expressions, goes_on, is_of_function, leading, one_pattern, rules_in}

pub record Spot : Type 0 where
  -- the places of the first tokens of the local functions around, the innermost first
  pub functions : List Position
  pub scope : Scope

pub data Site : Type 0 where
  -- a name that is used, on these arguments
  Use : Name → List Expression → Site
  -- an expression with operators, which are names that are used
  Operation : Expression → Site
  -- patterns whose variables are declared together: those of a rule, an alternative, a lambda
  -- expression or a qualifier
  Matched : Patterns → Site
  Lambda : Position → Patterns → Expression → Site
  -- the place of a qualifier's first token, its pattern, the qualifiers after it, and the element
  Generated : Position → Pattern → Qualifiers → Expression → Site
  -- a local function, and the block that may have its signature
  Function : Declarations → Group → Site
  -- a local variable and what it is defined by
  Defined : Name → RightSide → Site
  -- a pattern and what it is bound to
  Bound : Pattern → RightSide → Site
  Free : List Name → Site

pub record Node : Type 0 where
  pub spot : Spot
  pub site : Site

abbrev pub node : Spot → Site → Node
node spot site = record { spot = spot; site = site }

-- ---- spots

-- the spot after names that are declared, which are in scope there
abbrev pub with : List Name → Spot → Spot
with names spot =
    record { functions = spot.functions; scope = variable_entries names ++ spot.scope }

-- the spot in a rule of a local function, where its variables are in scope
abbrev pub in_function : Position → List Name → Spot → Spot
in_function at names spot =
    record { functions = at ∷ spot.functions; scope = variable_entries names ++ spot.scope }

-- the spot in a block, where its names are in scope
abbrev pub in_block : Declarations → Spot → Spot
in_block ds spot = record { functions = spot.functions; scope = block_entries ds ++ spot.scope }

-- The spot after a qualifier. What follows a pattern with its list is inside a function.
abbrev pub past : Qualifier → Spot → Spot
past (syntax.Generator at p list) spot = in_function at (pattern_variables p) spot
past (syntax.LocalDeclarations at ds) spot = in_block ds spot
past (syntax.Condition at condition) spot = spot

abbrev pub past_all : Qualifiers → Spot → Spot
past_all syntax.NoQualifier spot = spot
past_all (syntax.MoreQualifiers q qs) spot = past_all qs (past q spot)

-- ---- all that stands in a text

-- the function that a rule of a block begins, where it doesn't go on with one
abbrev pub first_rule : Spot → Declarations → Option Begun → Declarations → Rule → List Node
first_rule spot block begun others r =
    if goes_on begun r.name then []
    else node spot (Function block
    (record { first = r; others = leading r.name.text (rules_in others) })) ∷ []

abbrev mutual
  -- what stands in an expression on these arguments
  pub nodes_on : List Expression → Spot → Expression → List Node
  nodes_on arguments spot (syntax.Variable at name) = node spot (Use name arguments) ∷ []
  nodes_on arguments spot (syntax.Constructor at name) = []
  nodes_on arguments spot (syntax.LiteralExpression at found) = []
  nodes_on arguments spot (syntax.Application at function es) =
      nodes_on (expressions es) spot function ++ all_nodes spot es
  nodes_on arguments spot (syntax.Operators at minus first rest) =
      node spot (Operation (syntax.Operators at minus first rest)) ∷ nodes_on [] spot first ++
      rest_nodes spot rest
  nodes_on arguments spot (syntax.Lambda at parameters body) =
      let inner = in_function at (variables parameters) spot in
      node spot (Lambda at parameters body) ∷ node inner (Matched parameters) ∷
      nodes_on [] inner body
  nodes_on arguments spot (syntax.Let at ds body) =
      let inner = in_block ds spot in declarations_nodes inner ds None ds ++ nodes_on [] inner body
  nodes_on arguments spot (syntax.If at condition chosen other) =
      nodes_on [] spot condition ++ (nodes_on [] spot chosen ++ nodes_on [] spot other)
  nodes_on arguments spot (syntax.Case at word subject alternatives) =
      nodes_on [] spot subject ++ alternatives_nodes spot alternatives
  nodes_on arguments spot (syntax.Tuple at components) = all_nodes spot components
  nodes_on arguments spot (syntax.TupleConstructor at count) = []
  nodes_on arguments spot (syntax.LeftSection at operand operator) =
      nodes_on [] spot operand ++ node spot (Use operator (operand ∷ [])) ∷ []
  nodes_on arguments spot (syntax.RightSection at operator operand) =
      node spot (Use operator []) ∷ nodes_on [] spot operand
  nodes_on arguments spot (syntax.ListOf at elements) = all_nodes spot elements
  nodes_on arguments spot (syntax.Enumeration at first second last) =
      nodes_on [] spot first ++ (maybe_nodes spot second ++ maybe_nodes spot last)
  nodes_on arguments spot (syntax.Comprehension at element qualifiers) =
      nodes_on [] (past_all qualifiers spot) element ++ qualifiers_nodes spot element qualifiers

  pub all_nodes : Spot → Expressions → List Node
  all_nodes spot syntax.NoExpression = []
  all_nodes spot (syntax.MoreExpressions e es) = nodes_on [] spot e ++ all_nodes spot es

  pub maybe_nodes : Spot → MaybeExpression → List Node
  maybe_nodes spot syntax.Absent = []
  maybe_nodes spot (syntax.Present e) = nodes_on [] spot e

  pub rest_nodes : Spot → OperatorRest → List Node
  rest_nodes spot syntax.NoOperator = []
  rest_nodes spot (syntax.ThenOperator operator minus operand rest) =
      nodes_on [] spot operand ++ rest_nodes spot rest

  pub alternatives_nodes : Spot → Alternatives → List Node
  alternatives_nodes spot syntax.NoAlternative = []
  alternatives_nodes spot (syntax.MoreAlternatives at p right alternatives) =
      let inner = with (pattern_variables p) spot in
      node inner (Matched (one_pattern p)) ∷ right_nodes inner right ++
      alternatives_nodes spot alternatives

  pub right_nodes : Spot → RightSide → List Node
  right_nodes spot (syntax.Plain at e ds) =
      let inner = in_block ds spot in nodes_on [] inner e ++ declarations_nodes inner ds None ds
  right_nodes spot (syntax.Guarded at guards ds) =
      let inner = in_block ds spot
      in guards_nodes inner guards ++ declarations_nodes inner ds None ds

  pub guards_nodes : Spot → Guards → List Node
  guards_nodes spot syntax.NoGuard = []
  guards_nodes spot (syntax.MoreGuards at condition e guards) =
      nodes_on [] spot condition ++ (nodes_on [] spot e ++ guards_nodes spot guards)

  -- what stands in declarations of a block, where the rules of `begun` may go on
  pub declarations_nodes : Spot → Declarations → Option Begun → Declarations → List Node
  declarations_nodes spot block begun syntax.NoDeclaration = []
  declarations_nodes spot block begun (syntax.MoreDeclarations d ds) =
      declaration_nodes spot block begun ds d ++ declarations_nodes spot block (begun_in begun d) ds

  -- what stands in a declaration, of which others follow
  pub declaration_nodes : Spot → Declarations → Option Begun → Declarations → Declaration
      → List Node
  declaration_nodes spot block begun others (syntax.FreeVariables at names) =
      node spot (Free names) ∷ []
  declaration_nodes spot block begun others (syntax.Signature at names t) = []
  declaration_nodes spot block begun others (syntax.FunctionRule at name parameters right) =
      if is_of_function begun name parameters then
      (let inner = in_function (begun_by begun name at).at (variables parameters) spot in
      first_rule spot block begun others
      (record { at = at; name = name; parameters = parameters; right = right }) ++
      node inner (Matched parameters) ∷ right_nodes inner right)
      else node spot (Defined name right) ∷ right_nodes spot right
  declaration_nodes spot block begun others (syntax.PatternBinding at p right) =
      node spot (Bound p right) ∷ right_nodes spot right

  pub qualifiers_nodes : Spot → Expression → Qualifiers → List Node
  qualifiers_nodes spot element syntax.NoQualifier = []
  qualifiers_nodes spot element (syntax.MoreQualifiers q qs) =
      qualifier_nodes spot element qs q ++ qualifiers_nodes (past q spot) element qs

  -- what stands in a qualifier, which others follow
  pub qualifier_nodes : Spot → Expression → Qualifiers → Qualifier → List Node
  qualifier_nodes spot element others (syntax.Generator at p list) =
      node spot (Generated at p others element) ∷
      node (past (syntax.Generator at p list) spot) (Matched (one_pattern p)) ∷
      nodes_on [] spot list
  qualifier_nodes spot element others (syntax.LocalDeclarations at ds) =
      declarations_nodes (in_block ds spot) ds None ds
  qualifier_nodes spot element others (syntax.Condition at condition) = nodes_on [] spot condition

-- what stands in a rule of a top-level function
abbrev pub rule_nodes : Rule → List Node
rule_nodes r =
    let spot = with (variables r.parameters) (record { functions = []; scope = [] }) in
    node spot (Matched r.parameters) ∷ right_nodes spot r.right

abbrev pub rules_nodes : List Rule → List Node
rules_nodes rules = flat_map rule_nodes rules
