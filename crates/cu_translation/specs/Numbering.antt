-- The variables and the local functions of a top-level function, each once, in the order of the
-- text. The number of each is its place among them. They are told apart by the places of tokens,
-- which differ in one text.
use Rattle.std.specs.Prelude.{ℕ, List, [], ◌∷◌, ◌++◌, map}
use Rattle.std.specs.List.{flat_map, position_or_len}
use Rattle.cu_lex.specs.Located.{Position}
use Rattle.cu_syntax.specs.Syntax as syntax
use Rattle.cu_syntax.specs.Syntax.{Name, Pattern, PatternRest, Patterns, pattern_position}
use Rattle.cu_uses.specs.Binders.{pattern_variables}
use Rattle.cu_translation.specs.LocalNames.{At, Binder, Otherwise, Selected, Whole, same_binder, same_place}
use Rattle.cu_translation.specs.Sites.{Bound, Defined, Free, Function, Generated, Lambda, Matched, Node, Operation, Site, Use}

-- the places of the variables and the wildcards of a pattern
abbrev mutual
  pub declared_places : Pattern → List Position
  declared_places (syntax.PatternVariable x) = x.at ∷ []
  declared_places (syntax.As x p) = x.at ∷ declared_places p
  declared_places (syntax.Wildcard at) = at ∷ []
  declared_places (syntax.PatternLiteral at found) = []
  declared_places (syntax.Constructed at c ps) = all_places ps
  declared_places (syntax.PatternTuple at ps) = all_places ps
  declared_places (syntax.PatternList at ps) = all_places ps
  declared_places (syntax.PatternOperators at p rest) = declared_places p ++ places_after rest

  pub all_places : Patterns → List Position
  all_places syntax.NoPattern = []
  all_places (syntax.MorePatterns p ps) = declared_places p ++ all_places ps

  pub places_after : PatternRest → List Position
  places_after syntax.NoConstructor = []
  places_after (syntax.ThenConstructor c p rest) = declared_places p ++ places_after rest

abbrev pub at_name : Name → Binder
at_name x = At x.at

-- The variables of the function that selects a variable of a pattern: each such function has its
-- own.
abbrev pub selected : Pattern → Name → List Binder
selected p x = map (Selected x.at) (declared_places p)

-- the fresh variables of a qualifier; where its pattern is a variable, its function has that as its
-- parameter, and no fresh one
abbrev pub generated : Pattern → List Binder
generated (syntax.PatternVariable x) = []
generated p = Whole (pattern_position p) ∷ Otherwise (pattern_position p) ∷ []

-- the variables that are declared at a site
abbrev pub binders_at : Site → List Binder
binders_at (Use name arguments) = []
binders_at (Operation e) = []
binders_at (Matched ps) = map At (all_places ps)
binders_at (Lambda at parameters body) = []
binders_at (Generated at p qualifiers element) = generated p
binders_at (Function block g) = []
binders_at (Defined x right) = At x.at ∷ []
binders_at (Bound p right) =
    Whole (pattern_position p) ∷ map at_name (pattern_variables p) ++
    flat_map (selected p) (pattern_variables p)
binders_at (Free names) = map at_name names

-- The places of the first tokens of the local functions at a site. A function that selects a
-- variable of a pattern has the place of that variable.
abbrev pub functions_at : Site → List Position
functions_at (Use name arguments) = []
functions_at (Operation e) = []
functions_at (Matched ps) = []
functions_at (Lambda at parameters body) = at ∷ []
functions_at (Generated at p qualifiers element) = at ∷ []
functions_at (Function block g) = g.first.at ∷ []
functions_at (Defined x right) = []
functions_at (Bound p right) = map (λ (x : Name). x.at) (pattern_variables p)
functions_at (Free names) = []

abbrev pub binders_of : Node → List Binder
binders_of n = binders_at n.site

abbrev pub functions_of : Node → List Position
functions_of n = functions_at n.site

-- all variables of a text, in its order
abbrev pub all_binders : List Node → List Binder
all_binders nodes = flat_map binders_of nodes

abbrev pub all_functions : List Node → List Position
all_functions nodes = flat_map functions_of nodes

-- the place of a variable among others, or their number where it is none of them
abbrev pub binder_number : List Binder → Binder → ℕ
binder_number binders b = position_or_len (same_binder b) binders

abbrev pub function_number : List Position → Position → ℕ
function_number functions at = position_or_len (same_place at) functions
