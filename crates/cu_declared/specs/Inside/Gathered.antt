-- The uses of types in views of a text, and what is found of them.
use Rattle.std.specs.Prelude.{◌≡◌, ℕ, List, ◌++◌, Option, map}
use Rattle.std.specs.List.{All}
use Rattle.cu_names.specs.declared.names.NameId.{NameId}
use Rattle.cu_syntax.specs.declared.declarations.Body.{Body}
use Rattle.cu_syntax.specs.declared.declarations.Body.TheVariants as body
use Rattle.cu_syntax.specs.declared.declarations.Declaration.{Declaration}
use Rattle.cu_syntax.specs.declared.declarations.Guard.{Guard}
use Rattle.cu_syntax.specs.declared.declarations.RightSide.{RightSide}
use Rattle.cu_syntax.specs.declared.expressions.Alternative.{Alternative}
use Rattle.cu_syntax.specs.declared.expressions.Enumeration.{Enumeration}
use Rattle.cu_syntax.specs.declared.expressions.Expression.{Expression}
use Rattle.cu_syntax.specs.declared.expressions.OperatorItem.{OperatorItem}
use Rattle.cu_syntax.specs.declared.expressions.Qualifier.{Qualifier}
use Rattle.cu_syntax.specs.declared.types.TypeTerm.{TypeTerm}
use Rattle.cu_syntax.specs.Declarations.{declaration_meaning, declarations_meaning, guards_meaning}
use Rattle.cu_syntax.specs.Declarations.{right_meaning}
use Rattle.cu_syntax.specs.ExpressionMeaning.{expression_meaning, expressions_meaning}
use Rattle.cu_syntax.specs.Expressions.{alternatives_meaning, maybe_meaning, qualifier_meaning}
use Rattle.cu_syntax.specs.Expressions.{qualifiers_meaning, rest_meaning}
use Rattle.cu_syntax.specs.Names.{name_meaning}
use Rattle.cu_syntax.specs.Owners.{NameIsOf}
use Rattle.cu_syntax.specs.Types.{type_meaning, types_meaning}
use Rattle.cu_declared.specs.declared.found.TypeUse as code
use Rattle.cu_declared.specs.TypeUses.{TypeUse, alternatives_uses, declaration_uses}
use Rattle.cu_declared.specs.TypeUses.{declarations_uses, expression_uses, expressions_uses}
use Rattle.cu_declared.specs.TypeUses.{guards_uses, maybe_uses, qualifier_uses, qualifiers_uses}
use Rattle.cu_declared.specs.TypeUses.{rest_uses, right_uses, type_uses, types_uses}

abbrev pub use_meaning : List (List ℕ) → code.TypeUse → TypeUse
use_meaning names u = record { name = name_meaning names u.name; arguments = u.arguments }

abbrev pub uses_meaning : List (List ℕ) → List code.TypeUse → List TypeUse
uses_meaning names uses = map (use_meaning names) uses

-- the name of a use is of the module, and a table has it
abbrev pub UseIsOf : NameId → List (List ℕ) → code.TypeUse → Type 0
UseIsOf owner names u = NameIsOf owner names u.name

-- The uses found grew by these, whose names are of the module and in the table.
pub record Adds (owner : NameId) (names : List (List ℕ)) (before : List code.TypeUse)
    (added : List TypeUse) (after : List code.TypeUse) : Type 0 where
  pub adds : uses_meaning names after ≡ uses_meaning names before ++ added
  pub owned : All (UseIsOf owner names) before → All (UseIsOf owner names) after

-- ---- the uses in views

unfoldable pub in_type : List (List ℕ) → TypeTerm → List TypeUse
in_type names t = type_uses (type_meaning names t)

unfoldable pub in_types : List (List ℕ) → List TypeTerm → List TypeUse
in_types names ts = types_uses (types_meaning names ts)

unfoldable pub in_expression : List (List ℕ) → Expression → List TypeUse
in_expression names e = expression_uses (expression_meaning names e)

unfoldable pub in_expressions : List (List ℕ) → List Expression → List TypeUse
in_expressions names es = expressions_uses (expressions_meaning names es)

unfoldable pub in_maybe : List (List ℕ) → Option Expression → List TypeUse
in_maybe names e = maybe_uses (maybe_meaning names e)

unfoldable pub in_operands : List (List ℕ) → List OperatorItem → List TypeUse
in_operands names items = rest_uses (rest_meaning names items)

unfoldable pub in_alternatives : List (List ℕ) → List Alternative → List TypeUse
in_alternatives names cases = alternatives_uses (alternatives_meaning names cases)

unfoldable pub in_right : List (List ℕ) → RightSide → List TypeUse
in_right names right = right_uses (right_meaning names right)

unfoldable pub in_guards : List (List ℕ) → List Guard → List TypeUse
in_guards names cases = guards_uses (guards_meaning names cases)

unfoldable pub in_declarations : List (List ℕ) → List Declaration → List TypeUse
in_declarations names ds = declarations_uses (declarations_meaning names ds)

unfoldable pub in_declaration : List (List ℕ) → Declaration → List TypeUse
in_declaration names d = declaration_uses (declaration_meaning names d)

unfoldable pub in_qualifier : List (List ℕ) → Qualifier → List TypeUse
in_qualifier names q = qualifier_uses (qualifier_meaning names q)

unfoldable pub in_qualifiers : List (List ℕ) → List Qualifier → List TypeUse
in_qualifiers names qs = qualifiers_uses (qualifiers_meaning names qs)

abbrev pub in_enumeration : List (List ℕ) → Enumeration → List TypeUse
in_enumeration names e =
    in_expression names e.first ++ (in_maybe names e.second ++ in_maybe names e.last)

abbrev pub in_body : List (List ℕ) → Body → List TypeUse
in_body names (body.Plain e) = in_expression names e
in_body names (body.Guarded cases) = in_guards names cases.items
