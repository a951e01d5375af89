-- How large syntax is: the size of a whole is larger than that of each of its parts, so that a
-- function may call itself on the parts.
use Rattle.std.specs.Prelude.{ℕ, ◌+◌}
use Rattle.cu_syntax.specs.Syntax as syntax
use Rattle.cu_syntax.specs.Syntax.{Alternatives, Declaration, Declarations, Expression, Expressions, Guards, MaybeExpression, OperatorRest, Pattern, PatternRest, Patterns, Qualifier, Qualifiers, RightSide, TypeTerm, TypeTerms}

unfoldable mutual
  pub size_of_type : TypeTerm → ℕ
  size_of_type (syntax.TypeVariable name) = 1
  size_of_type (syntax.TypeNamed name arguments) = 1 + size_of_types arguments
  size_of_type (syntax.Arrow at parameter result) = 1 + size_of_type parameter + size_of_type result
  size_of_type (syntax.TypeTuple at components) = 1 + size_of_types components
  size_of_type (syntax.TypeList at element) = 1 + size_of_type element

  pub size_of_types : TypeTerms → ℕ
  size_of_types syntax.NoType = 0
  size_of_types (syntax.MoreTypes t others) = size_of_type t + size_of_types others

unfoldable mutual
  pub size_of_pattern : Pattern → ℕ
  size_of_pattern (syntax.PatternVariable name) = 1
  size_of_pattern (syntax.As name inner) = 1 + size_of_pattern inner
  size_of_pattern (syntax.Wildcard at) = 1
  size_of_pattern (syntax.PatternLiteral at value) = 1
  size_of_pattern (syntax.Constructed at name arguments) = 1 + size_of_patterns arguments
  size_of_pattern (syntax.PatternTuple at components) = 1 + size_of_patterns components
  size_of_pattern (syntax.PatternList at elements) = 1 + size_of_patterns elements
  -- the items, an operand and operators with operands, count as one more part
  size_of_pattern (syntax.PatternOperators at first rest) =
      2 + size_of_pattern first + size_of_pattern_rest rest

  pub size_of_patterns : Patterns → ℕ
  size_of_patterns syntax.NoPattern = 0
  size_of_patterns (syntax.MorePatterns p others) = size_of_pattern p + size_of_patterns others

  pub size_of_pattern_rest : PatternRest → ℕ
  size_of_pattern_rest syntax.NoConstructor = 0
  size_of_pattern_rest (syntax.ThenConstructor name p others) =
      1 + size_of_pattern p + size_of_pattern_rest others

unfoldable mutual
  pub size_of_expression : Expression → ℕ
  size_of_expression (syntax.Variable at name) = 1
  size_of_expression (syntax.Constructor at name) = 1
  size_of_expression (syntax.LiteralExpression at value) = 1
  size_of_expression (syntax.Application at function arguments) =
      1 + size_of_expression function + size_of_expressions arguments
  -- the items, operands with operators between them, count as one more part
  size_of_expression (syntax.Operators at minus first rest) =
      2 + size_of_expression first + size_of_operator_rest rest
  size_of_expression (syntax.Lambda at parameters body) =
      1 + size_of_patterns parameters + size_of_expression body
  size_of_expression (syntax.Let at local body) =
      1 + size_of_declarations local + size_of_expression body
  size_of_expression (syntax.If at condition chosen other) =
      1 + size_of_expression condition + size_of_expression chosen + size_of_expression other
  size_of_expression (syntax.Case at word subject alternatives) =
      1 + size_of_expression subject + size_of_alternatives alternatives
  size_of_expression (syntax.Tuple at components) = 1 + size_of_expressions components
  size_of_expression (syntax.TupleConstructor at count) = 1
  size_of_expression (syntax.LeftSection at operand operator) = 1 + size_of_expression operand
  size_of_expression (syntax.RightSection at operator operand) = 1 + size_of_expression operand
  size_of_expression (syntax.ListOf at elements) = 1 + size_of_expressions elements
  -- the numbers of an enumeration count as one more part
  size_of_expression (syntax.Enumeration at first second last) =
      2 + size_of_expression first + size_of_maybe second + size_of_maybe last
  size_of_expression (syntax.Comprehension at element qualifiers) =
      1 + size_of_expression element + size_of_qualifiers qualifiers

  pub size_of_expressions : Expressions → ℕ
  size_of_expressions syntax.NoExpression = 0
  size_of_expressions (syntax.MoreExpressions e others) =
      size_of_expression e + size_of_expressions others

  pub size_of_maybe : MaybeExpression → ℕ
  size_of_maybe syntax.Absent = 0
  size_of_maybe (syntax.Present e) = size_of_expression e

  pub size_of_operator_rest : OperatorRest → ℕ
  size_of_operator_rest syntax.NoOperator = 0
  size_of_operator_rest (syntax.ThenOperator name minus e others) =
      1 + size_of_expression e + size_of_operator_rest others

  pub size_of_alternatives : Alternatives → ℕ
  size_of_alternatives syntax.NoAlternative = 0
  size_of_alternatives (syntax.MoreAlternatives at pattern right others) =
      1 + size_of_pattern pattern + size_of_right right + size_of_alternatives others

  -- the size of a right-hand side; what follows the equals sign or the arrow counts as one more
  -- part
  pub size_of_right : RightSide → ℕ
  size_of_right (syntax.Plain at e local) = 2 + size_of_expression e + size_of_declarations local
  size_of_right (syntax.Guarded at guards local) =
      2 + size_of_guards guards + size_of_declarations local

  pub size_of_guards : Guards → ℕ
  size_of_guards syntax.NoGuard = 0
  size_of_guards (syntax.MoreGuards at condition e others) =
      1 + size_of_expression condition + size_of_expression e + size_of_guards others

  pub size_of_declarations : Declarations → ℕ
  size_of_declarations syntax.NoDeclaration = 0
  size_of_declarations (syntax.MoreDeclarations d others) =
      size_of_declaration d + size_of_declarations others

  pub size_of_declaration : Declaration → ℕ
  size_of_declaration (syntax.FreeVariables at names) = 1
  size_of_declaration (syntax.Signature at names term) = 1 + size_of_type term
  size_of_declaration (syntax.FunctionRule at name parameters right) =
      1 + size_of_patterns parameters + size_of_right right
  size_of_declaration (syntax.PatternBinding at pattern right) =
      1 + size_of_pattern pattern + size_of_right right

  pub size_of_qualifiers : Qualifiers → ℕ
  size_of_qualifiers syntax.NoQualifier = 0
  size_of_qualifiers (syntax.MoreQualifiers q others) =
      size_of_qualifier q + size_of_qualifiers others

  pub size_of_qualifier : Qualifier → ℕ
  size_of_qualifier (syntax.Generator at pattern list) =
      1 + size_of_pattern pattern + size_of_expression list
  size_of_qualifier (syntax.LocalDeclarations at local) = 1 + size_of_declarations local
  size_of_qualifier (syntax.Condition at condition) = 1 + size_of_expression condition
