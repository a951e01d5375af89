-- The names that are declared inside a function, and what is in scope at a spot of its text.
use Rattle.std.specs.Prelude.{ℕ, Bool, false, ◌&&◌, List, [], ◌∷◌, ◌++◌, Option, None, find, is_none, map, nat_eq, option_map, if◌then◌else◌}
use Rattle.std.specs.Str.{bytes_eq}
use Rattle.cu_lex.specs.Located.{Position}
use Rattle.cu_syntax.specs.Syntax as syntax
use Rattle.cu_syntax.specs.Syntax.{Declaration, Declarations, Name, Patterns, Qualifier}
use Rattle.cu_uses.specs.Binders.{pattern_variables}
use Rattle.cu_translation.specs.Rules.{Begun, begun_in, goes_on, pattern_count}

-- The variables of a function, each told by where its text declares it.
pub data Binder : Type 0 where
  -- the variable or the wildcard at a place
  At : Position → Binder
  -- the fresh variable for the whole value of the pattern at a place, of a declaration or a
  -- qualifier
  Whole : Position → Binder
  -- the wildcard of the alternative that follows the pattern at a place, of a qualifier
  Otherwise : Position → Binder
  -- the variable or the wildcard at the second place, in the function that selects the variable at
  -- the first
  Selected : Position → Position → Binder

abbrev pub same_place : Position → Position → Bool
same_place p q = nat_eq p.line q.line && nat_eq p.column q.column

abbrev pub same_binder : Binder → Binder → Bool
same_binder (At p) (At q) = same_place p q
same_binder (Whole p) (Whole q) = same_place p q
same_binder (Otherwise p) (Otherwise q) = same_place p q
same_binder (Selected p x) (Selected q y) = same_place p q && same_place x y
same_binder _ _ = false

-- what a name means that is declared inside a function
pub data Local : Type 0 where
  LocalVariable : Binder → Local
  -- the local function whose first token stands at a place, and how many parameters it has
  LocalFunction : Position → ℕ → Local

-- a name and what it means
pub record Entry : Type 0 where
  pub text : List ℕ
  pub means : Local

-- The local names in scope, inner ones first. An inner name hides the outer ones of its text.
abbrev pub Scope : Type 0
Scope = List Entry

abbrev pub entry : List ℕ → Local → Entry
entry text means = record { text = text; means = means }

abbrev pub entry_called : List ℕ → Scope → Option Local
entry_called text scope =
    option_map (λ (e : Entry). e.means) (find (λ (e : Entry). bytes_eq e.text text) scope)

-- what a name means, if it is a local name; a name with a qualifier isn't
abbrev pub local_named : Scope → Name → Option Local
local_named scope name = if is_none name.qualifier then entry_called name.text scope else None

-- ---- what brings names into scope

abbrev pub variable_entry : Name → Entry
variable_entry x = entry x.text (LocalVariable (At x.at))

abbrev pub variable_entries : List Name → Scope
variable_entries names = map variable_entry names

-- what the first rule of a name declares in a block
abbrev pub rule_entry : Position → Name → Patterns → Entry
rule_entry at name syntax.NoPattern = variable_entry name
rule_entry at name (syntax.MorePatterns p ps) =
    entry name.text (LocalFunction at (pattern_count (syntax.MorePatterns p ps)))

abbrev pub declaration_entries : Option Begun → Declaration → Scope
declaration_entries begun (syntax.FreeVariables at names) = variable_entries names
declaration_entries begun (syntax.Signature at names t) = []
declaration_entries begun (syntax.FunctionRule at name parameters right) =
    if goes_on begun name then [] else rule_entry at name parameters ∷ []
declaration_entries begun (syntax.PatternBinding at p right) =
    variable_entries (pattern_variables p)

abbrev pub entries_after : Option Begun → Declarations → Scope
entries_after begun syntax.NoDeclaration = []
entries_after begun (syntax.MoreDeclarations d ds) =
    declaration_entries begun d ++ entries_after (begun_in begun d) ds

-- what a block brings into scope in its declarations, and in the expression that it belongs to
abbrev pub block_entries : Declarations → Scope
block_entries ds = entries_after None ds

-- what a qualifier brings into scope in the qualifiers after it, and in the element
abbrev pub qualifier_entries : Qualifier → Scope
qualifier_entries (syntax.Generator at p list) = variable_entries (pattern_variables p)
qualifier_entries (syntax.LocalDeclarations at ds) = block_entries ds
qualifier_entries (syntax.Condition at condition) = []
