-- The local functions of a top-level function: those of blocks, those of lambda expressions, those
-- that select the variables of patterns, and those of comprehensions.
use Rattle.std.specs.Prelude.{ℕ, List, [], ◌∷◌, ◌++◌, Option, None, Some, map, option_map, length, if◌then◌else◌}
use Rattle.std.specs.List.{flat_map, list_any}
use Rattle.std.specs.Str.{bytes_eq}
use Rattle.cu_calculus.specs.Term as calculus
use Rattle.cu_calculus.specs.declared.Mode.TheVariants.{Rigid}
use Rattle.cu_kernel.specs.LocalKernel.{LocalFunction, LocalRule}
use Rattle.cu_kernel.specs.LocalTerm.{Case, LocalTerm, MoreAlternatives, NoAlternative, Variable}
use Rattle.cu_lex.specs.Located.{Position}
use Rattle.cu_syntax.specs.Syntax as syntax
use Rattle.cu_syntax.specs.Syntax.{Declaration, Declarations, Expression, Name, Pattern, Patterns, Qualifiers, TypeTerm, pattern_position}
use Rattle.cu_uses.specs.Binders.{pattern_variables, variables}
use Rattle.cu_translation.specs.Around.{Around, place_at}
use Rattle.cu_translation.specs.LocalNames.{At, Otherwise, Scope, Selected, Whole, variable_entries}
use Rattle.cu_translation.specs.PatternTable.{pattern, patterns, patterns_of}
use Rattle.cu_translation.specs.Rules.{Group, Rule, pattern_count, rules_of}
use Rattle.cu_translation.specs.Sites.{Bound, Function, Generated, Lambda, Node, Site}
use Rattle.cu_translation.specs.Table.{comprehension, right_term, term}
use Rattle.cu_translation.specs.Terms.{list}
use Rattle.cu_translation.specs.TypeTable.{signature_type}

-- a rule of a function, as a rule before lifting
abbrev pub rule_of : Around → Scope → Rule → LocalRule
rule_of around scope r = record {
  params = patterns around At r.parameters;
  body = right_term around (variable_entries (variables r.parameters) ++ scope) r.right;
}

-- a local function without a declared type, of one rule
abbrev pub new_function : Around → Position → List calculus.Pattern → LocalTerm → LocalFunction
new_function around at parameters body = record {
  place = place_at around.names at;
  declared = None;
  arity = length parameters;
  rules = record { params = patterns_of parameters; body = body } ∷ [];
}

-- ---- functions of blocks

abbrev pub signature_in : List ℕ → Declaration → Option TypeTerm
signature_in name (syntax.Signature at names t) =
    if list_any (λ (x : Name). bytes_eq x.text name) names then Some t else None
signature_in name _ = None

abbrev pub or_else : Option TypeTerm → Option TypeTerm → Option TypeTerm
or_else (Some t) other = Some t
or_else None other = other

-- the type that a block's signature declares for a name, if there is one
abbrev pub signature_of : List ℕ → Declarations → Option TypeTerm
signature_of name syntax.NoDeclaration = None
signature_of name (syntax.MoreDeclarations d ds) =
    or_else (signature_in name d) (signature_of name ds)

abbrev pub block_function : Around → Scope → Declarations → Group → LocalFunction
block_function around scope block g = record {
  place = place_at around.names g.first.at;
  declared = option_map (signature_type around.names) (signature_of g.first.name.text block);
  arity = pattern_count g.first.parameters;
  rules = map (rule_of around scope) (rules_of g);
}

-- ---- functions of comprehensions

-- the function of a qualifier with a list: `\x -> rest`, or `\z -> case z of {p -> rest; _ -> []}`
-- where the pattern is no variable
abbrev pub generator_function : Around → Position → Pattern → LocalTerm → LocalFunction
generator_function around at (syntax.PatternVariable x) rest =
    new_function around at (pattern around At (syntax.PatternVariable x) ∷ []) rest
generator_function around at p rest =
    new_function around at
    (calculus.Any (around.numbers.variable (Whole (pattern_position p))) ∷ [])
    (Case Rigid (Variable (around.numbers.variable (Whole (pattern_position p))))
    (MoreAlternatives (pattern around At p) rest
    (MoreAlternatives (calculus.Any (around.numbers.variable (Otherwise (pattern_position p))))
    (list around.names []) NoAlternative)))

-- the term of the rest of a comprehension after a qualifier
abbrev pub rest_of : Around → Scope → Expression → Qualifiers → LocalTerm
rest_of around scope element qualifiers =
    comprehension around
    (λ inner. list around.names (term around inner element ∷ [])) scope qualifiers

-- ---- functions that select variables

-- the function that selects a variable of a pattern: `s p = x`
abbrev pub selector : Around → Pattern → Name → LocalFunction
selector around p x =
    new_function around x.at (pattern around (Selected x.at) p ∷ [])
    (Variable (around.numbers.variable (Selected x.at x.at)))

-- ---- functions of lambda expressions

abbrev pub lambda_rule : Around → Scope → Patterns → Expression → LocalRule
lambda_rule around scope parameters body = record {
  params = patterns around At parameters;
  body = term around (variable_entries (variables parameters) ++ scope) body;
}

abbrev pub lambda_function : Around → Scope → Position → Patterns → Expression → LocalFunction
lambda_function around scope at parameters body = record {
  place = place_at around.names at;
  declared = None;
  arity = pattern_count parameters;
  rules = lambda_rule around scope parameters body ∷ [];
}

-- ---- all of them

abbrev pub functions_at : Around → Scope → Site → List LocalFunction
functions_at around scope (Lambda at parameters body) =
    lambda_function around scope at parameters body ∷ []
functions_at around scope (Generated at p qualifiers element) =
    generator_function around at p
    (rest_of around (variable_entries (pattern_variables p) ++ scope) element qualifiers) ∷ []
functions_at around scope (Function block g) = block_function around scope block g ∷ []
functions_at around scope (Bound p right) = map (selector around p) (pattern_variables p)
functions_at around scope _ = []

abbrev pub functions_of : Around → Node → List LocalFunction
functions_of around n = functions_at around n.spot.scope n.site

-- the local functions in a text, in its order
abbrev pub local_functions : Around → List Node → List LocalFunction
local_functions around nodes = flat_map (functions_of around) nodes
