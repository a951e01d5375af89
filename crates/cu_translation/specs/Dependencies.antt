-- Which variables local functions capture (Johnsson, "Lambda lifting", 1985), and on which ones
-- local variables depend.
use Rattle.std.specs.Prelude.{◌≡◌, Contains, ℕ, zero, suc, Bool, true, false, not, ◌&&◌, ◌||◌, List, [], ◌∷◌, length, map, nat_eq}
use Rattle.std.specs.List.{filter, flat_map, list_any}
use Rattle.std.specs.Option.{option_to_list}
use Rattle.cu_lex.specs.Located.{Position}
use Rattle.cu_syntax.specs.Syntax as syntax
use Rattle.cu_syntax.specs.Syntax.{Expression, Name, OperatorRest, pattern_position}
use Rattle.cu_uses.specs.Binders.{pattern_variables}
use Rattle.cu_translation.specs.LocalNames.{At, Binder, Local, LocalFunction, LocalVariable, Scope, Whole, local_named, same_binder, same_place}
use Rattle.cu_translation.specs.Numbering.{all_binders}
use Rattle.cu_translation.specs.Rules.{pattern_count}
use Rattle.cu_translation.specs.Sites.{Bound, Defined, Generated, Lambda, Node, Operation, Site, Spot, Use, right_nodes}

-- ---- uses

abbrev pub operators_in : OperatorRest → List Name
operators_in syntax.NoOperator = []
operators_in (syntax.ThenOperator operator minus e rest) = operator ∷ operators_in rest

abbrev pub operators_of : Expression → List Name
operators_of (syntax.Operators at minus first rest) = operators_in rest
operators_of _ = []

abbrev pub use_of : Scope → Name → List Local
use_of scope name = option_to_list (local_named scope name)

-- the local variables and functions that are used at a site; a lambda expression and a qualifier
-- with a list use their new functions
abbrev pub used_at : Scope → Site → List Local
used_at scope (Use name arguments) = use_of scope name
used_at scope (Operation e) = flat_map (use_of scope) (operators_of e)
used_at scope (Lambda at parameters body) = LocalFunction at (pattern_count parameters) ∷ []
used_at scope (Generated at p qualifiers element) = LocalFunction at 1 ∷ []
used_at scope _ = []

abbrev pub used_by : Node → List Local
used_by n = used_at n.spot.scope n.site

abbrev pub is_variable : Binder → Local → Bool
is_variable b (LocalVariable c) = same_binder b c
is_variable b (LocalFunction at count) = false

abbrev pub uses_variable : List Local → Binder → Bool
uses_variable used b = list_any (is_variable b) used

abbrev pub function_in : Local → List Position
function_in (LocalVariable b) = []
function_in (LocalFunction at count) = at ∷ []

-- ---- captured variables

-- whether this local function is the innermost one around
abbrev pub is_innermost : Position → List Position → Bool
is_innermost f [] = false
is_innermost f (at ∷ functions) = same_place f at

-- what the rules of a local function use, those of the functions inside it apart
abbrev pub own_uses : List Node → Position → List Local
own_uses nodes f = flat_map used_by (filter (λ (n : Node). is_innermost f n.spot.functions) nodes)

-- the functions that the rules of a local function use, those of the functions inside it apart
abbrev pub called : List Node → Position → List Position
called nodes f = flat_map function_in (own_uses nodes f)

-- whether the rules of a local function use a variable
abbrev pub uses : List Node → Position → Binder → Bool
uses nodes f b = uses_variable (own_uses nodes f) b

abbrev pub is_among : List Binder → Binder → Bool
is_among binders b = list_any (same_binder b) binders

-- whether the rules of a local function bind a variable, those of the functions inside it apart
abbrev pub binds : List Node → Position → Binder → Bool
binds nodes f b =
    is_among (all_binders (filter (λ (n : Node). is_innermost f n.spot.functions) nodes)) b

-- The captured variables of local functions are the least sets such that each holds the variables
-- that the function's rules use and don't bind, and those captured by the functions that its rules
-- use.
pub data Captures (nodes : List Node) (b : Binder) : Position → Type 0 where
  own : (f : Position) → binds nodes f b ≡ false → uses nodes f b ≡ true → Captures nodes b f
  through : (f g : Position) → binds nodes f b ≡ false → Contains (called nodes f) g
      → Captures nodes b g → Captures nodes b f

-- whether a local function captures a variable by way of fewer than so many functions
abbrev pub captures_within : ℕ → List Node → Position → Binder → Bool
captures_within zero nodes f b = false
captures_within (suc n) nodes f b =
    not (binds nodes f b) &&
    (uses nodes f b || list_any (λ g. captures_within n nodes g b) (called nodes f))

-- all local functions that are used in a text
abbrev pub all_called : List Node → List Position
all_called nodes = flat_map function_in (flat_map used_by nodes)

-- Whether a local function captures a variable. On the way from it to the use of the variable there
-- are no more functions than are used in the text.
abbrev pub captures : List Node → Position → Binder → Bool
captures nodes f b = captures_within (suc (length (all_called nodes))) nodes f b

-- ---- dependencies

-- a local variable and what its definition uses
pub record Definition : Type 0 where
  pub variable : Binder
  pub used : List Local

-- whether a node stands in a text at this spot, and not in a function inside it
abbrev pub stands_in : Spot → Node → Bool
stands_in spot n = nat_eq (length n.spot.functions) (length spot.functions)

abbrev pub is_bound_outside : List Binder → Local → Bool
is_bound_outside inner (LocalVariable b) = not (is_among inner b)
is_bound_outside inner (LocalFunction at count) = true

-- what a definition with these nodes in it uses and doesn't bind
abbrev pub used_in : Spot → List Node → List Local
used_in spot nodes =
    filter (is_bound_outside (all_binders nodes)) (flat_map used_by (filter (stands_in spot) nodes))

-- The definition of a variable of a pattern uses the pattern's whole value.
abbrev pub selected : Binder → Name → Definition
selected whole x = record { variable = At x.at; used = LocalVariable whole ∷ [] }

abbrev pub definitions_at : Spot → Site → List Definition
definitions_at spot (Defined x right) =
    record { variable = At x.at; used = used_in spot (right_nodes spot right) } ∷ []
definitions_at spot (Bound p right) =
    record { variable = Whole (pattern_position p); used = used_in spot (right_nodes spot right) } ∷
    map (selected (Whole (pattern_position p))) (pattern_variables p)
definitions_at spot _ = []

abbrev pub definitions_of : Node → List Definition
definitions_of n = definitions_at n.spot n.site

abbrev pub definitions : List Node → List Definition
definitions nodes = flat_map definitions_of nodes

-- A definition depends on the variables that it uses, and on those that the functions that it uses
-- capture.
abbrev pub needs : List Node → Definition → Binder → Bool
needs nodes d b =
    uses_variable d.used b || list_any (λ f. captures nodes f b) (flat_map function_in d.used)

abbrev pub defines : Binder → Definition → Bool
defines b d = same_binder b d.variable

-- whether a local variable depends on another
abbrev pub depends : List Node → Binder → Binder → Bool
depends nodes x y = list_any (λ d. needs nodes d y) (filter (defines x) (definitions nodes))

-- A local variable depends on another in one step, or in more.
pub data DependsOn (nodes : List Node) (y : Binder) : Binder → Type 0 where
  at_once : (x : Binder) → depends nodes x y ≡ true → DependsOn nodes y x
  further : (x : Binder) (d : Definition) → Contains (definitions nodes) d
      → depends nodes x d.variable ≡ true → DependsOn nodes y d.variable → DependsOn nodes y x

-- whether the definition of x depends on y by a chain of at most n definitions
abbrev pub depends_within : ℕ → List Node → Binder → Binder → Bool
depends_within zero nodes x y = false
depends_within (suc n) nodes x y =
    depends nodes x y ||
    list_any
    (λ (d : Definition). depends nodes x d.variable && depends_within n nodes d.variable y)
    (definitions nodes)

-- Whether a local variable depends on itself. The chain of definitions has no more of them than the
-- text has.
abbrev pub is_recursive : List Node → Binder → Bool
is_recursive nodes x = depends_within (suc (length (definitions nodes))) nodes x x
