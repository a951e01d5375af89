-- What names patterns, types and declarations have, and which of them are declared a second time.
use Rattle.std.specs.Prelude.{ℕ, Bool, true, false, not, List, [], ◌∷◌, ◌++◌, Option, None, Some, map, if◌then◌else◌}
use Rattle.std.specs.List.{filter, flat_map, list_any}
use Rattle.std.specs.Str.{bytes_eq}
use Rattle.cu_syntax.specs.Syntax.{Arrow, As, Constructed, ConstructorDeclaration, Data, Declaration, DeclarationItem, Declarations, Fixity, FreeVariables, FunctionRule, Item, MoreDeclarations, MorePatterns, MoreTypes, Name, NoConstructor, NoDeclaration, NoPattern, NoType, Pattern, PatternBinding, PatternList, PatternLiteral, PatternOperators, PatternRest, PatternTuple, PatternVariable, Patterns, Signature, Synonym, ThenConstructor, TypeList, TypeNamed, TypeTerm, TypeTerms, TypeTuple, TypeVariable, Wildcard}

abbrev pub texts : List Name → List (List ℕ)
texts names = map (λ name. name.text) names

abbrev pub is_among : List (List ℕ) → List ℕ → Bool
is_among known text = list_any (bytes_eq text) known

-- ---- patterns

abbrev mutual
  -- the variables of a pattern
  pub pattern_variables : Pattern → List Name
  pattern_variables (PatternVariable x) = x ∷ []
  pattern_variables (As x p) = x ∷ pattern_variables p
  pattern_variables (Wildcard at) = []
  pattern_variables (PatternLiteral at found) = []
  pattern_variables (Constructed at c ps) = variables ps
  pattern_variables (PatternTuple at ps) = variables ps
  pattern_variables (PatternList at ps) = variables ps
  pattern_variables (PatternOperators at p rest) = pattern_variables p ++ variables_after rest

  pub variables : Patterns → List Name
  variables NoPattern = []
  variables (MorePatterns p ps) = pattern_variables p ++ variables ps

  pub variables_after : PatternRest → List Name
  variables_after NoConstructor = []
  variables_after (ThenConstructor c p rest) = pattern_variables p ++ variables_after rest

abbrev mutual
  -- the constructors in a pattern
  pub pattern_constructors : Pattern → List Name
  pattern_constructors (PatternVariable x) = []
  pattern_constructors (As x p) = pattern_constructors p
  pattern_constructors (Wildcard at) = []
  pattern_constructors (PatternLiteral at found) = []
  pattern_constructors (Constructed at c ps) = c ∷ constructors ps
  pattern_constructors (PatternTuple at ps) = constructors ps
  pattern_constructors (PatternList at ps) = constructors ps
  pattern_constructors (PatternOperators at p rest) =
      pattern_constructors p ++ constructors_after rest

  pub constructors : Patterns → List Name
  constructors NoPattern = []
  constructors (MorePatterns p ps) = pattern_constructors p ++ constructors ps

  pub constructors_after : PatternRest → List Name
  constructors_after NoConstructor = []
  constructors_after (ThenConstructor c p rest) =
      c ∷ pattern_constructors p ++ constructors_after rest

-- ---- types

abbrev mutual
  -- the type constructors in a type
  pub type_constructors : TypeTerm → List Name
  type_constructors (TypeVariable x) = []
  type_constructors (TypeNamed t ts) = t ∷ all_type_constructors ts
  type_constructors (Arrow at s t) = type_constructors s ++ type_constructors t
  type_constructors (TypeTuple at ts) = all_type_constructors ts
  type_constructors (TypeList at t) = type_constructors t

  pub all_type_constructors : TypeTerms → List Name
  all_type_constructors NoType = []
  all_type_constructors (MoreTypes t ts) = type_constructors t ++ all_type_constructors ts

abbrev mutual
  pub type_variables : TypeTerm → List Name
  type_variables (TypeVariable x) = x ∷ []
  type_variables (TypeNamed t ts) = all_type_variables ts
  type_variables (Arrow at s t) = type_variables s ++ type_variables t
  type_variables (TypeTuple at ts) = all_type_variables ts
  type_variables (TypeList at t) = type_variables t

  pub all_type_variables : TypeTerms → List Name
  all_type_variables NoType = []
  all_type_variables (MoreTypes t ts) = type_variables t ++ all_type_variables ts

-- ---- declarations

-- what one declaration declares in its scope
pub data Declared : Type 0 where
  -- A rule for a name. Where the flag is set the name is a function's, whose other rules may follow
  -- this one at once. Otherwise it is a variable's, and nothing else may declare it.
  Rule : Bool → Name → Declared
  -- each of these names, declared together
  Names : List Name → Declared

-- whether a rule with these patterns has parameters
abbrev pub has_parameters : Patterns → Bool
has_parameters NoPattern = false
has_parameters (MorePatterns p ps) = true

-- the names of a list without those whose text stands earlier in it, or among `seen`
abbrev pub once : List (List ℕ) → List Name → List Name
once seen [] = []
once seen (x ∷ names) = if is_among seen x.text then once seen names
    else x ∷ once (x.text ∷ seen) names

-- What a declaration declares in a block. A variable that stands twice in a pattern is declared
-- once there.
abbrev pub names_by : Declaration → Declared
names_by (FreeVariables at names) = Names names
names_by (Signature at names t) = Names []
names_by (FunctionRule at name parameters right) = Rule (has_parameters parameters) name
names_by (PatternBinding at p right) = Names (once [] (pattern_variables p))

abbrev pub declared_in : Declarations → List Declared
declared_in NoDeclaration = []
declared_in (MoreDeclarations d ds) = names_by d ∷ declared_in ds

-- What an item declares among functions and constructors. At top level a name without parameters is
-- a function's too.
abbrev pub values_by : Item → Declared
values_by (Data at name parameters cs) = Names (map (λ (c : ConstructorDeclaration). c.name) cs)
values_by (DeclarationItem (FunctionRule at name parameters right)) = Rule true name
values_by _ = Names []

-- What an item declares among types: a data type or a synonym.
abbrev pub types_by : Item → List Name
types_by (Data at name parameters cs) = name ∷ []
types_by (Synonym at name parameters meant) = name ∷ []
types_by _ = []

abbrev pub names_of : Declared → List Name
names_of (Rule goes_on name) = name ∷ []
names_of (Names names) = names

abbrev pub declared_names : List Declared → List Name
declared_names declared = flat_map names_of declared

-- ---- second declarations

-- the names of a list whose text stands earlier in it, or among `seen`
abbrev pub repeated : List (List ℕ) → List Name → List Name
repeated seen [] = []
repeated seen (x ∷ names) = if is_among seen x.text then x ∷ repeated seen names
    else repeated (x.text ∷ seen) names

-- whether a declaration is one more rule of a function
abbrev pub continues : Option (List ℕ) → Declared → Bool
continues (Some function) (Rule goes_on name) = bytes_eq function name.text
continues _ _ = false

-- the function whose rules may follow a declaration
abbrev pub function_of : Declared → Option (List ℕ)
function_of (Rule true name) = Some name.text
function_of _ = None

-- The names of declarations, where those of a function's rules stand once for all that follow one
-- another.
abbrev pub declared_once : Option (List ℕ) → List Declared → List Name
declared_once function [] = []
declared_once function (d ∷ declared) =
    if continues function d then declared_once function declared
    else names_of d ++ declared_once (function_of d) declared

-- the names that are declared a second time
abbrev pub second : List Declared → List Name
second declared = repeated [] (declared_once None declared)

-- ---- signatures and fixities

abbrev pub signed_by : Declaration → List Name
signed_by (Signature at names t) = names
signed_by _ = []

abbrev pub signed : Declarations → List Name
signed NoDeclaration = []
signed (MoreDeclarations d ds) = signed_by d ++ signed ds

abbrev pub signed_in : Item → List Name
signed_in (DeclarationItem d) = signed_by d
signed_in _ = []

abbrev pub fixed_in : Item → List Name
fixed_in (Fixity at to level operators) = operators
fixed_in _ = []

-- names whose text isn't among these
abbrev pub missing : List (List ℕ) → List Name → List Name
missing known names = filter (λ name. not (is_among known name.text)) names
