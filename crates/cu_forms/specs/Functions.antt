-- What rules and local functions stand for, under a table of names.
use Rattle.std.specs.Prelude.{ℕ, zero, suc, List, ◌++◌, map}
use Rattle.cu_kernel.specs.LocalKernel.{LocalFunction, LocalRule}
use Rattle.cu_lex.specs.Located.{Position}
use Rattle.cu_syntax.specs.declared.declarations.RightSide.{RightSide}
use Rattle.cu_syntax.specs.declared.expressions.Expression.{Expression}
use Rattle.cu_syntax.specs.declared.name.Name as code
use Rattle.cu_syntax.specs.declared.patterns.Pattern.{Pattern}
use Rattle.cu_syntax.specs.ExpressionMeaning.{expression_meaning}
use Rattle.cu_syntax.specs.Patterns.{pattern_meaning, patterns_meaning}
use Rattle.cu_syntax.specs.Syntax as syntax
use Rattle.cu_translation.specs.Functions.{goal_parameter}
use Rattle.cu_translation.specs.LocalFunctions as functions
use Rattle.cu_translation.specs.LocalNames.{At, Scope, variable_entries}
use Rattle.cu_translation.specs.Meaning.{Setting}
use Rattle.cu_translation.specs.PatternTable.{patterns, patterns_of}
use Rattle.cu_uses.specs.Gathered.{names_meaning, pattern_binds, patterns_bind}
use Rattle.cu_forms.specs.Forms.{scope_after, expression_form, right_form}

-- ---- rules

unfoldable pub rule_form : Setting → Scope → List Pattern → RightSide → LocalRule
rule_form w local ps right = record {
  params = patterns w.around At (patterns_meaning w.names ps);
  body = right_form w (variable_entries (patterns_bind w.names ps) ++ local) right;
}

-- the rule of a goal with these variables
unfoldable pub goal_form : Setting → List code.Name → Expression → LocalRule
goal_form w xs e = record {
  params = patterns_of (map (goal_parameter w.around) (names_meaning w.names xs));
  body = expression_form w (variable_entries (names_meaning w.names xs)) e;
}

-- ---- local functions

unfoldable pub lambda_form : Setting → Scope → Position → List Pattern → Expression → LocalFunction
lambda_form w local at ps e =
    functions.lambda_function w.around local at (patterns_meaning w.names ps)
    (expression_meaning w.names e)

-- the functions that select the variables of a pattern
unfoldable pub selectors_of : Setting → Pattern → List LocalFunction
selectors_of w p =
    map (functions.selector w.around (pattern_meaning w.names p)) (pattern_binds w.names p)

-- ---- functions of qualifiers

-- the qualifiers of a comprehension, and none of another expression
abbrev pub qualifiers_in : syntax.Expression → syntax.Qualifiers
qualifiers_in (syntax.Comprehension at element qualifiers) = qualifiers
qualifiers_in _ = syntax.NoQualifier

abbrev pub element_in : syntax.Expression → syntax.Expression
element_in (syntax.Comprehension at element qualifiers) = element
element_in e = e

-- the qualifiers after the first n
abbrev pub after_first : ℕ → syntax.Qualifiers → syntax.Qualifiers
after_first zero qs = qs
after_first (suc n) syntax.NoQualifier = syntax.NoQualifier
after_first (suc n) (syntax.MoreQualifiers q qs) = after_first n qs

-- the function of a qualifier of a comprehension, which is the last of the first `count`
unfoldable pub generator_form : Setting → Scope → Position → Pattern → Expression → ℕ
    → LocalFunction
generator_form w local at p whole count =
    functions.generator_function w.around at (pattern_meaning w.names p)
    (functions.rest_of w.around (scope_after w local p)
    (element_in (expression_meaning w.names whole))
    (after_first count (qualifiers_in (expression_meaning w.names whole))))
