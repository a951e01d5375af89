-- The tasks that are left while types are written, and the texts that they come to.
use Rattle.std.specs.Prelude.{◌≡◌, ℕ, ◌-◌, Bool, true, false, List, [], ◌∷◌, ◌++◌, Option, None, Some, length, reverse, slice_get, slice_index_or, take}
use Rattle.cu_kernel.specs.Kernel.{Synonym}
use Rattle.cu_kernel.specs.TypeExpr.{TypeExpr}
use Rattle.cu_kernel.specs.TypesOf.{type_of}
use Rattle.cu_kernel.specs.declared.type_term.SynonymId.{SynonymId}
use Rattle.cu_kernel.specs.declared.type_term.TypeName.{TypeName}
use Rattle.cu_kernel.specs.declared.type_term.TypeName.TheVariants as named
use Rattle.cu_kernel.specs.declared.type_term.TypeTerm.{TypeTerm}
use Rattle.cu_flattext.specs.Inside.Stands.{lowered_of}
use Rattle.cu_flattext.specs.Naming.{Lowered, further, separated, type_entity}
use Rattle.cu_flattext.specs.TypeTexts.{as_written, constructed_text, expanded_within, is_expanded, type_text, type_variables}
use Rattle.cu_flattext.specs.declared.type_task.Scope.{Scope}
use Rattle.cu_flattext.specs.declared.type_task.TypeTask.{TypeTask}
use Rattle.cu_flattext.specs.declared.type_task.TypeTask.TheVariants as task
use Rattle.cu_flattext.specs.declared.type_task.Variables.{Variables}
use Rattle.cu_flattext.specs.declared.type_task.Variables.TheVariants as variables
use Rattle.cu_flattext.specs.declared.types.Expansion.{Expansion}
use Rattle.cu_flattext.specs.declared.types.Types.{Types}

-- what a scope comes to: the texts of its variables, and how many synonyms may be expanded inside
-- one another
pub record Setting : Type 0 where
  pub depth : ℕ
  pub variables : List (List ℕ)

-- what stands for a scope that there isn't
abbrev pub nowhere : Setting
nowhere = record { depth = 0; variables = [] }

-- what the scope with an index comes to
abbrev pub setting_at : List Setting → ℕ → Setting
setting_at settings i = slice_index_or settings i nowhere

-- the text of a type in a scope
abbrev pub text_in : Lowered → Setting → TypeExpr → List ℕ
text_in program setting t =
    type_text program (expanded_within setting.depth program) setting.variables t

-- the texts of types in a scope
abbrev pub texts_in : Lowered → Setting → List TypeTerm → List (List ℕ)
texts_in program setting [] = []
texts_in program setting (t ∷ ts) =
    text_in program setting (type_of t) ∷ texts_in program setting ts

-- the texts of types in a scope, where there is one
abbrev pub arguments_in : Lowered → List TypeTerm → Option Setting → List (List ℕ)
arguments_in program ts None = []
arguments_in program ts (Some setting) = texts_in program setting ts

-- the texts of a scope's variables, where these scopes stand before it
abbrev pub variables_in : Lowered → List Setting → Variables → List (List ℕ)
variables_in program settings (variables.Parameters count) = type_variables count
variables_in program settings (variables.Arguments ts outer) =
    arguments_in program ts.now (slice_get settings outer)

-- what a scope comes to, where these scopes stand before it
abbrev pub setting_of : Lowered → List Setting → Scope → Setting
setting_of program settings scope =
    record { depth = scope.depth; variables = variables_in program settings scope.variables }

-- what scopes come to, where these stand before the first of them
abbrev pub settings_from : Lowered → List Setting → List Scope → List Setting
settings_from program settings [] = settings
settings_from program settings (s ∷ ss) =
    settings_from program (settings ++ setting_of program settings s ∷ []) ss

-- what scopes come to, the first scope first
abbrev pub settings_of : Lowered → List Scope → List Setting
settings_of program scopes = settings_from program [] scopes

-- the text of a task, in these scopes
abbrev pub type_part : Lowered → List Scope → TypeTask → List ℕ
type_part program scopes (task.Type t i) =
    text_in program (setting_at (settings_of program scopes) i) (type_of t.now)
type_part program scopes (task.Types ts i) =
    separated (texts_in program (setting_at (settings_of program scopes) i) ts.now)
type_part program scopes (task.Further ts i) =
    further (texts_in program (setting_at (settings_of program scopes) i) ts.now)
type_part program scopes (task.Text text) = text.now
type_part program scopes task.Leave = []

-- the scopes after a task
abbrev pub scopes_after : TypeTask → List Scope → List Scope
scopes_after task.Leave scopes = take (length scopes - 1) scopes
scopes_after _ scopes = scopes

-- the text of several tasks, the first task first, in these scopes
abbrev pub type_parts : Lowered → List Scope → List TypeTask → List ℕ
type_parts program scopes [] = []
type_parts program scopes (t ∷ ts) =
    type_part program scopes t ++ type_parts program (scopes_after t scopes) ts

-- the text of the tasks that are left
abbrev pub types_left : Types → List ℕ
types_left s = type_parts (lowered_of s.wording) s.scopes.items (reverse s.tasks.items)

-- the text of the tasks that are left, with one task before them
abbrev pub types_left_with : TypeTask → Types → List ℕ
types_left_with t s = type_parts (lowered_of s.wording) s.scopes.items (t ∷ reverse s.tasks.items)

-- a text, and then that of the tasks that are left
abbrev pub types_left_with_text : List ℕ → Types → List ℕ
types_left_with_text text s = text ++ types_left s

-- what the scope with an index comes to
abbrev pub setting_in : Types → ℕ → Setting
setting_in s i = setting_at (settings_of (lowered_of s.wording) s.scopes.items) i

-- the text of a type in the scope with an index
abbrev pub text_at : Types → ℕ → TypeExpr → List ℕ
text_at s i t = text_in (lowered_of s.wording) (setting_in s i) t

-- the texts of types in the scope with an index
abbrev pub texts_at : Types → ℕ → List TypeTerm → List (List ℕ)
texts_at s i ts = texts_in (lowered_of s.wording) (setting_in s i) ts

-- the text of a variable of a scope, which has this index
abbrev pub variable_text : Types → Scope → ℕ → ℕ → List ℕ
variable_text s scope place x =
    let program = lowered_of s.wording in
    slice_index_or
    (variables_in program (take place (settings_of program s.scopes.items)) scope.variables) x
    []

-- the text of a variable that stands for one of some types in another scope
abbrev pub argument_text : Types → List TypeTerm → ℕ → ℕ → ℕ → List ℕ
argument_text s ts outer place x =
    let program = lowered_of s.wording in
    slice_index_or (arguments_in program ts
    (slice_get (take place (settings_of program s.scopes.items)) outer)) x []

-- the text of a named type on arguments of these texts, in a scope
abbrev pub named_text : Lowered → Setting → TypeName → List (List ℕ) → List ℕ
named_text program setting (named.Data t) arguments =
    constructed_text (type_entity program (named.Data t)) arguments
named_text program setting (named.Synonym s) arguments =
    expanded_within setting.depth program s arguments

-- the text of a named type on arguments of these texts, in the scope with an index
abbrev pub named_at : Types → ℕ → TypeName → List (List ℕ) → List ℕ
named_at s i name arguments = named_text (lowered_of s.wording) (setting_in s i) name arguments

-- the text of a synonym on arguments of these texts, in the scope with an index
abbrev pub synonym_at : Types → ℕ → SynonymId → List (List ℕ) → List ℕ
synonym_at s i synonym arguments =
    expanded_within (setting_in s i).depth (lowered_of s.wording) synonym arguments

-- the text of the type that a synonym stands for, on arguments of these texts
abbrev pub body_at : Types → Expansion → List (List ℕ) → List ℕ
body_at s e arguments =
    type_text (lowered_of s.wording) (expanded_within e.depth (lowered_of s.wording)) arguments
    (type_of e.body.now)

-- the type that a synonym stands for, where it is expanded
abbrev pub body_where : Bool → Synonym → Option TypeExpr
body_where true s = Some s.body
body_where false s = None

-- the type that a synonym on so many arguments stands for, where there is one and it is expanded
abbrev pub expanded_body_of : List Synonym → SynonymId → ℕ → Option Synonym → Option TypeExpr
expanded_body_of synonyms s count None = None
expanded_body_of synonyms s count (Some found) =
    body_where (is_expanded synonyms s count (Some found)) found

-- the type that the synonym of a number stands for on so many arguments, where it is expanded
abbrev pub expanded_body : List Synonym → SynonymId → ℕ → Option TypeExpr
expanded_body synonyms s count = expanded_body_of synonyms s count (slice_get synonyms s.0)

-- the text of a synonym on arguments of these texts: that of its expansion, or as it is written
abbrev pub expansion_text : Lowered → SynonymId → List (List ℕ) → Option Expansion → List ℕ
expansion_text program s arguments None = as_written program s arguments
expansion_text program s arguments (Some e) =
    type_text program (expanded_within e.depth program) arguments (type_of e.body.now)

-- A scope was entered, and is left before the old tasks. A type in it comes to its text, and the
-- old tasks to what they came to before.
pub record Enters (program : Lowered) (scope : Scope) (old new : Types) (place : ℕ) : Type 0 where
  pub tasks : type_parts program new.scopes.items (reverse new.tasks.items)
      ≡ type_parts program old.scopes.items (reverse old.tasks.items)
  pub setting : setting_at (settings_of program new.scopes.items) place
      ≡ setting_of program (settings_of program old.scopes.items) scope
