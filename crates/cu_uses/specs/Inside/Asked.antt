-- What the views of a text ask of its scopes.
use Rattle.std.specs.Prelude.{ℕ, List, ◌++◌, Option}
use Rattle.cu_entities.specs.Entities.{Values}
use Rattle.cu_syntax.specs.declared.declarations.Body.{Body}
use Rattle.cu_syntax.specs.declared.declarations.Body.TheVariants as body
use Rattle.cu_syntax.specs.declared.declarations.Declaration.{Declaration}
use Rattle.cu_syntax.specs.declared.declarations.Guard.{Guard}
use Rattle.cu_syntax.specs.declared.declarations.RightSide.{RightSide}
use Rattle.cu_syntax.specs.declared.expressions.Alternative.{Alternative}
use Rattle.cu_syntax.specs.declared.expressions.Enumeration.{Enumeration}
use Rattle.cu_syntax.specs.declared.expressions.Expression.{Expression}
use Rattle.cu_syntax.specs.declared.expressions.OperatorItem.{OperatorItem}
use Rattle.cu_syntax.specs.declared.expressions.Qualifier.{Qualifier}
use Rattle.cu_syntax.specs.declared.patterns.Pattern.{Pattern}
use Rattle.cu_syntax.specs.Declarations.{declaration_meaning, declarations_meaning, guards_meaning, right_meaning}
use Rattle.cu_syntax.specs.ExpressionMeaning.{expression_meaning, expressions_meaning}
use Rattle.cu_syntax.specs.Expressions.{alternatives_meaning, maybe_meaning, qualifier_meaning, qualifiers_meaning, rest_meaning}
use Rattle.cu_syntax.specs.Syntax.{Name}
use Rattle.cu_uses.specs.Binders.{declared_names}
use Rattle.cu_uses.specs.Demands.{Demand, all_demands, alternatives_demands, scope_after, declaration_demands, declarations_demands, expression_demands, guards_demands, maybe_demands, qualifier_demands, qualifier_names, qualifiers_demands, rest_demands, right_demands, used, with}
use Rattle.cu_uses.specs.Inside.Blocks.{block_asks, block_declares}
use Rattle.cu_uses.specs.Gathered.{pattern_binds, pattern_builds, patterns_bind, patterns_build}

unfoldable pub expression_asks : List (List ℕ) → List (List ℕ) → Expression → List Demand
expression_asks names local e = expression_demands local (expression_meaning names e)

unfoldable pub expressions_ask : List (List ℕ) → List (List ℕ) → List Expression → List Demand
expressions_ask names local es = all_demands local (expressions_meaning names es)

unfoldable pub maybe_asks : List (List ℕ) → List (List ℕ) → Option Expression → List Demand
maybe_asks names local e = maybe_demands local (maybe_meaning names e)

unfoldable pub operands_ask : List (List ℕ) → List (List ℕ) → List OperatorItem → List Demand
operands_ask names local items = rest_demands local (rest_meaning names items)

unfoldable pub alternatives_ask : List (List ℕ) → List (List ℕ) → List Alternative → List Demand
alternatives_ask names local cases = alternatives_demands local (alternatives_meaning names cases)

unfoldable pub right_asks : List (List ℕ) → List (List ℕ) → RightSide → List Demand
right_asks names local right = right_demands local (right_meaning names right)

unfoldable pub guards_ask : List (List ℕ) → List (List ℕ) → List Guard → List Demand
guards_ask names local cases = guards_demands local (guards_meaning names cases)

unfoldable pub declarations_ask : List (List ℕ) → List (List ℕ) → List Declaration → List Demand
declarations_ask names local ds = declarations_demands local (declarations_meaning names ds)

unfoldable pub declaration_asks : List (List ℕ) → List (List ℕ) → Declaration → List Demand
declaration_asks names local d = declaration_demands local (declaration_meaning names d)

unfoldable pub qualifier_asks : List (List ℕ) → List (List ℕ) → Qualifier → List Demand
qualifier_asks names local q = qualifier_demands local (qualifier_meaning names q)

unfoldable pub qualifier_binds : List (List ℕ) → Qualifier → List Name
qualifier_binds names q = qualifier_names (qualifier_meaning names q)

-- what qualifiers ask, and the element after them
unfoldable pub qualifiers_ask : List (List ℕ) → List (List ℕ) → Expression → List Qualifier
    → List Demand
qualifiers_ask names local element qs =
    qualifiers_demands local (qualifiers_meaning names qs)
    ++ expression_demands (scope_after local (qualifiers_meaning names qs))
    (expression_meaning names element)

-- ---- what expressions ask, by their parts

abbrev pub lambda_asks : List (List ℕ) → List (List ℕ) → List Pattern → Expression → List Demand
lambda_asks names local ps e = used Values (patterns_build names ps)
    ++ expression_asks names (with (patterns_bind names ps) local) e

abbrev pub rule_asks : List (List ℕ) → List (List ℕ) → List Pattern → RightSide → List Demand
rule_asks names local ps right = used Values (patterns_build names ps)
    ++ right_asks names (with (patterns_bind names ps) local) right

abbrev pub binding_asks : List (List ℕ) → List (List ℕ) → Pattern → RightSide → List Demand
binding_asks names local p right =
    used Values (pattern_builds names p) ++ right_asks names local right

-- the local variables that are in scope inside a block
abbrev pub in_block : List (List ℕ) → List (List ℕ) → List Declaration → List (List ℕ)
in_block names local ds = with (declared_names (block_declares names ds)) local

abbrev pub let_asks : List (List ℕ) → List (List ℕ) → List Declaration → Expression → List Demand
let_asks names local ds e = block_asks names ds
    ++ (declarations_ask names (in_block names local ds) ds
    ++ expression_asks names (in_block names local ds) e)

abbrev pub alternative_asks : List (List ℕ) → List (List ℕ) → Alternative → List Demand
alternative_asks names local a = used Values (pattern_builds names a.pattern)
    ++ right_asks names (with (pattern_binds names a.pattern) local) a.right

abbrev pub enumeration_asks : List (List ℕ) → List (List ℕ) → Enumeration → List Demand
enumeration_asks names local e =
    expression_asks names local e.first
    ++ (maybe_asks names local e.second ++ maybe_asks names local e.last)

abbrev pub body_asks : List (List ℕ) → List (List ℕ) → Body → List Demand
body_asks names local (body.Plain e) = expression_asks names local e
body_asks names local (body.Guarded cases) = guards_ask names local cases.items
