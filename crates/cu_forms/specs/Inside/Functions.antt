-- What rules and local functions are made of.
use Rattle.std.specs.Prelude.{ℕ, Bool, true, false, []}
use Rattle.cu_calculus.specs.Term as calculus
use Rattle.cu_calculus.specs.declared.Mode.TheVariants.{Rigid}
use Rattle.cu_kernel.specs.LocalKernel.{LocalFunction}
use Rattle.cu_kernel.specs.LocalTerm.{Case, LocalTerm, MoreAlternatives, NoAlternative, Variable}
use Rattle.cu_lex.specs.Located.{Position}
use Rattle.cu_syntax.specs.declared.expressions.Expression.{Expression}
use Rattle.cu_syntax.specs.declared.name.Name as code
use Rattle.cu_syntax.specs.declared.patterns.Pattern.{Pattern}
use Rattle.cu_syntax.specs.ExpressionMeaning.{expression_meaning}
use Rattle.cu_syntax.specs.Names.{name_meaning}
use Rattle.cu_syntax.specs.Patterns.{pattern_meaning}
use Rattle.cu_syntax.specs.Syntax as syntax
use Rattle.cu_translation.specs.Around.{Around}
use Rattle.cu_translation.specs.Functions.{goal_parameter}
use Rattle.cu_translation.specs.LocalFunctions as functions
use Rattle.cu_translation.specs.LocalNames.{Otherwise, Scope, Whole}
use Rattle.cu_translation.specs.Meaning.{Setting}
use Rattle.cu_forms.specs.Functions.{after_first, element_in, qualifiers_in}
use Rattle.cu_forms.specs.Inside.Lists.{list_term}

abbrev pub parameter_of : Setting → code.Name → calculus.Pattern
parameter_of w x = goal_parameter w.around (name_meaning w.names x)

-- the function that selects a variable of a pattern
unfoldable pub selector_of : Setting → Pattern → code.Name → LocalFunction
selector_of w p x = functions.selector w.around (pattern_meaning w.names p) (name_meaning w.names x)

-- the rest of a comprehension after so many of its qualifiers
unfoldable pub rest_form : Setting → Scope → Expression → ℕ → LocalTerm
rest_form w local whole count =
    functions.rest_of w.around local (element_in (expression_meaning w.names whole))
    (after_first count (qualifiers_in (expression_meaning w.names whole)))

-- the function of a qualifier, given the rest of the comprehension
unfoldable pub generator_of : Setting → Position → Pattern → LocalTerm → LocalFunction
generator_of w at p rest = functions.generator_function w.around at (pattern_meaning w.names p) rest

abbrev pub is_variable : syntax.Pattern → Bool
is_variable (syntax.PatternVariable x) = true
is_variable _ = false

-- a term where the whole value of the pattern at a place matches it, and else the empty list
abbrev pub matched_term : Around → Position → calculus.Pattern → LocalTerm → LocalTerm
matched_term around at p rest =
    Case Rigid (Variable (around.numbers.variable (Whole at)))
    (MoreAlternatives p rest
    (MoreAlternatives (calculus.Any (around.numbers.variable (Otherwise at)))
    (list_term around.names []) NoAlternative))
