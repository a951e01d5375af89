-- What the text of a module asks of its scopes (Curry Report, section on local declarations). A
-- local variable hides what stands outside its scope.
use Rattle.std.specs.Prelude.{ℕ, ◌&&◌, List, [], ◌∷◌, ◌++◌, is_none, map, if◌then◌else◌}
use Rattle.std.specs.List.{flat_map}
use Rattle.cu_syntax.specs.Syntax as syntax
use Rattle.cu_syntax.specs.Syntax.{Alternatives, ConstructorDeclaration, Declaration, Declarations, Expression, Expressions, Goal, Guards, Item, MaybeExpression, Name, OperatorRest, Qualifier, Qualifiers, RightSide, TypeTerms}
use Rattle.cu_uses.specs.Binders.{all_type_constructors, all_type_variables, constructors, declared_in, declared_names, fixed_in, is_among, missing, pattern_constructors, pattern_variables, repeated, second, signed, signed_in, texts, type_constructors, types_by, values_by, variables}
use Rattle.cu_entities.specs.Entities.{Space, Types, Values}

pub data Demand : Type 0 where
  -- a use of an entity of top level
  Uses : Space → Name → Demand
  -- a name that lacks its declaration
  Lacks : Name → Demand
  -- a second declaration of a name
  Repeats : Name → Demand

abbrev pub used : Space → List Name → List Demand
used space names = map (Uses space) names

-- What the use of a name asks where these local variables are in scope. A name with a qualifier is
-- no local variable.
abbrev pub use_of : List (List ℕ) → Name → List Demand
use_of local name = if is_none name.qualifier && is_among local name.text then []
    else Uses Values name ∷ []

-- the local variables that are in scope where these names are bound inside others
abbrev pub with : List Name → List (List ℕ) → List (List ℕ)
with names local = texts names ++ local

-- the names of a block's declarations
abbrev pub block_names : Declarations → List Name
block_names ds = declared_names (declared_in ds)

-- what a block asks beside what each of its declarations asks by itself
abbrev pub block_demands : Declarations → List Demand
block_demands ds =
    map Repeats (second (declared_in ds) ++ repeated [] (signed ds)) ++
    map Lacks (missing (texts (block_names ds)) (signed ds))

-- the variables that a qualifier brings into scope
abbrev pub qualifier_names : Qualifier → List Name
qualifier_names (syntax.Generator at p list) = pattern_variables p
qualifier_names (syntax.LocalDeclarations at ds) = block_names ds
qualifier_names (syntax.Condition at condition) = []

-- the local variables that are in scope after qualifiers
abbrev pub scope_after : List (List ℕ) → Qualifiers → List (List ℕ)
scope_after local syntax.NoQualifier = local
scope_after local (syntax.MoreQualifiers q qualifiers) =
    scope_after (with (qualifier_names q) local) qualifiers

abbrev mutual
  pub expression_demands : List (List ℕ) → Expression → List Demand
  expression_demands local (syntax.Variable at name) = use_of local name
  expression_demands local (syntax.Constructor at name) = Uses Values name ∷ []
  expression_demands local (syntax.LiteralExpression at found) = []
  expression_demands local (syntax.Application at function arguments) =
      expression_demands local function ++ all_demands local arguments
  expression_demands local (syntax.Operators at minus first rest) =
      expression_demands local first ++ rest_demands local rest
  expression_demands local (syntax.Lambda at parameters body) =
      used Values (constructors parameters)
      ++ expression_demands (with (variables parameters) local) body
  expression_demands local (syntax.Let at ds body) =
      let inner = with (block_names ds) local in
      (block_demands ds ++ (declarations_demands inner ds ++ expression_demands inner body))
  expression_demands local (syntax.If at condition chosen other) =
      expression_demands local condition
      ++ (expression_demands local chosen ++ expression_demands local other)
  expression_demands local (syntax.Case at word subject alternatives) =
      expression_demands local subject ++ alternatives_demands local alternatives
  expression_demands local (syntax.Tuple at components) = all_demands local components
  expression_demands local (syntax.TupleConstructor at count) = []
  expression_demands local (syntax.LeftSection at operand operator) =
      expression_demands local operand ++ use_of local operator
  expression_demands local (syntax.RightSection at operator operand) =
      use_of local operator ++ expression_demands local operand
  expression_demands local (syntax.ListOf at elements) = all_demands local elements
  expression_demands local (syntax.Enumeration at first second last) =
      expression_demands local first ++ (maybe_demands local second ++ maybe_demands local last)
  expression_demands local (syntax.Comprehension at element qualifiers) =
      qualifiers_demands local qualifiers
      ++ expression_demands (scope_after local qualifiers) element

  pub all_demands : List (List ℕ) → Expressions → List Demand
  all_demands local syntax.NoExpression = []
  all_demands local (syntax.MoreExpressions e es) =
      expression_demands local e ++ all_demands local es

  pub maybe_demands : List (List ℕ) → MaybeExpression → List Demand
  maybe_demands local syntax.Absent = []
  maybe_demands local (syntax.Present e) = expression_demands local e

  pub rest_demands : List (List ℕ) → OperatorRest → List Demand
  rest_demands local syntax.NoOperator = []
  rest_demands local (syntax.ThenOperator operator minus operand rest) =
      use_of local operator ++ (expression_demands local operand ++ rest_demands local rest)

  pub alternatives_demands : List (List ℕ) → Alternatives → List Demand
  alternatives_demands local syntax.NoAlternative = []
  alternatives_demands local (syntax.MoreAlternatives at p right alternatives) =
      used Values (pattern_constructors p)
      ++ (right_demands (with (pattern_variables p) local) right
      ++ alternatives_demands local alternatives)

  -- What a right-hand side asks. The declarations after `where` hold for the guards too.
  pub right_demands : List (List ℕ) → RightSide → List Demand
  right_demands local (syntax.Plain at e ds) =
      let inner = with (block_names ds) local in
      (expression_demands inner e ++ (block_demands ds ++ declarations_demands inner ds))
  right_demands local (syntax.Guarded at guards ds) =
      let inner = with (block_names ds) local in
      (guards_demands inner guards ++ (block_demands ds ++ declarations_demands inner ds))

  pub guards_demands : List (List ℕ) → Guards → List Demand
  guards_demands local syntax.NoGuard = []
  guards_demands local (syntax.MoreGuards at condition e guards) =
      expression_demands local condition
      ++ (expression_demands local e ++ guards_demands local guards)

  pub declarations_demands : List (List ℕ) → Declarations → List Demand
  declarations_demands local syntax.NoDeclaration = []
  declarations_demands local (syntax.MoreDeclarations d ds) =
      declaration_demands local d ++ declarations_demands local ds

  -- what a declaration asks by itself; the type variables of a signature's type belong to it alone
  pub declaration_demands : List (List ℕ) → Declaration → List Demand
  declaration_demands local (syntax.FreeVariables at names) = []
  declaration_demands local (syntax.Signature at names t) = used Types (type_constructors t)
  declaration_demands local (syntax.FunctionRule at name parameters right) =
      used Values (constructors parameters)
      ++ right_demands (with (variables parameters) local) right
  declaration_demands local (syntax.PatternBinding at p right) =
      used Values (pattern_constructors p) ++ right_demands local right

  -- what qualifiers ask, of which each is in scope in those after it
  pub qualifiers_demands : List (List ℕ) → Qualifiers → List Demand
  qualifiers_demands local syntax.NoQualifier = []
  qualifiers_demands local (syntax.MoreQualifiers q qualifiers) =
      qualifier_demands local q ++ qualifiers_demands (with (qualifier_names q) local) qualifiers

  pub qualifier_demands : List (List ℕ) → Qualifier → List Demand
  qualifier_demands local (syntax.Generator at p list) =
      expression_demands local list ++ used Values (pattern_constructors p)
  qualifier_demands local (syntax.LocalDeclarations at ds) =
      block_demands ds ++ declarations_demands (with (block_names ds) local) ds
  qualifier_demands local (syntax.Condition at condition) = expression_demands local condition

-- what the types ask that stand on the right of the declaration of a type with these parameters
abbrev pub type_demands : List Name → TypeTerms → List Demand
type_demands parameters ts = used Types (all_type_constructors ts)
    ++ map Lacks (missing (texts parameters) (all_type_variables ts))

abbrev pub item_demands : Item → List Demand
item_demands (syntax.ImportItem found) = []
item_demands (syntax.Fixity at to level operators) = []
item_demands (syntax.Data at name parameters cs) =
    map Repeats (repeated [] parameters)
    ++ flat_map (λ (c : ConstructorDeclaration). type_demands parameters c.fields) cs
item_demands (syntax.Synonym at name parameters meant) =
    map Repeats (repeated [] parameters)
    ++ type_demands parameters (syntax.MoreTypes meant syntax.NoType)
item_demands (syntax.DeclarationItem d) = declaration_demands [] d

-- What a module's items ask, where its functions and constructors have these texts. Functions and
-- constructors, types, signatures and fixities are each declared once.
abbrev pub items_demands : List (List ℕ) → List Item → List Demand
items_demands known items =
    map Repeats (second (map values_by items) ++ (repeated [] (flat_map types_by items) ++
    (repeated [] (flat_map signed_in items) ++ repeated [] (flat_map fixed_in items)))) ++
    (map Lacks (missing known (flat_map signed_in items) ++ missing known (flat_map fixed_in items))
    ++ flat_map item_demands items)

-- what a goal asks
abbrev pub goal_demands : Goal → List Demand
goal_demands goal = map Repeats (repeated [] goal.free)
    ++ expression_demands (texts goal.free) goal.expression
