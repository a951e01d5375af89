-- What the translation of a text knows of the names in it: those of top level, and how the
-- variables and local functions of its function are numbered.
use Rattle.std.specs.Prelude.{ℕ, zero, suc, Bool, List, ◌++◌, Option, None, Some, codes}
use Rattle.cu_lex.specs.Located.{Position}
use Rattle.cu_names.specs.declared.names.NameId.{NameId}
use Rattle.cu_names.specs.declared.place.Place.{Place}
use Rattle.cu_fixity.specs.declared.fixity.Fixity.{Fixity}
use Rattle.cu_kernel.specs.declared.local.LocalHead.{LocalHead}
use Rattle.cu_kernel.specs.declared.local.LocalHead.TheVariants as head
use Rattle.cu_kernel.specs.declared.type_term.TypeName.{TypeName}
use Rattle.cu_syntax.specs.Syntax as syntax
use Rattle.cu_syntax.specs.Syntax.{Expression, Name}
use Rattle.cu_fixity.specs.Pieces.{undeclared}
use Rattle.cu_modules.specs.BuiltInEntities.{commas}
use Rattle.cu_translation.specs.LocalNames.{Binder, Local, LocalFunction, LocalVariable, Scope, local_named}

-- what a name refers to where it stands
pub data Referent : Type 0 where
  -- a variable, by its number
  Variable : ℕ → Referent
  -- a function or a constructor, and how many arguments it takes
  Callable : LocalHead → ℕ → Referent
  -- the name of the set functions of functions of so many parameters
  SetFunction : ℕ → Referent
  -- nothing: the name is none of these
  Nothing : Referent

-- what the names of top level refer to in a module, where no local name hides them
pub record Names : Type 0 where
  pub value : Name → Referent
  pub fixity : Name → Fixity
  pub type : Name → TypeName
  -- the function or the constructor of this text in the Prelude, whatever is in scope
  pub prelude : List ℕ → Referent
  -- the type of this text in the Prelude
  pub prelude_type : List ℕ → TypeName
  -- the number of the module's name
  pub owner : NameId

-- the numbers of the variables and local functions of one top-level function, and which of its
-- variables have to be defined before which
pub record Numbers : Type 0 where
  pub variable : Binder → ℕ
  -- the place, among the local functions, of the one whose first token stands here
  pub function : Position → ℕ
  pub depends : Binder → Binder → Bool

pub record Around : Type 0 where
  pub names : Names
  pub numbers : Numbers

abbrev pub referent_of_local : Around → Local → Referent
referent_of_local around (LocalVariable b) = Variable (around.numbers.variable b)
referent_of_local around (LocalFunction at count) =
    Callable (head.Local (around.numbers.function at)) count

abbrev pub local_or_else : Around → Option Local → Name → Referent
local_or_else around (Some local) name = referent_of_local around local
local_or_else around None name = around.names.value name

-- what a name refers to where it stands
abbrev pub referent : Around → Scope → Name → Referent
referent around scope name = local_or_else around (local_named scope name) name

-- the name of tuples of so many components; unit is that of none
abbrev pub tuple_name : ℕ → List ℕ
tuple_name zero = codes "()"
tuple_name (suc n) = codes "(" ++ (commas n ++ codes ")")

-- what an expression refers to, if it is a name and nothing else
abbrev pub name_alone : Around → Scope → Expression → Option Referent
name_alone around scope (syntax.Variable at name) = Some (referent around scope name)
name_alone around scope (syntax.Constructor at name) = Some (around.names.value name)
name_alone around scope (syntax.TupleConstructor at count) =
    Some (around.names.prelude (tuple_name count))
name_alone around scope _ = None

abbrev pub fixity_unless_local : Names → Option Local → Name → Fixity
fixity_unless_local names (Some local) name = undeclared
fixity_unless_local names None name = names.fixity name

-- the fixity of an operator where it stands; an operator that is a local name has no declaration
abbrev pub fixity_at : Names → Scope → Name → Fixity
fixity_at names scope name = fixity_unless_local names (local_named scope name) name

-- a place of the module's text
abbrev pub place_at : Names → Position → Place
place_at names at = record { «module» = names.owner; line = at.line; column = at.column }
