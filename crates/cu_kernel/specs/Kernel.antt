-- Kernel programs: what a program has beside the rules of its functions, and the program of the
-- calculus that it is.
use Rattle.std.specs.Prelude.{ℕ, ◌+◌, Bool, List, [], ◌∷◌, ◌++◌, Option, length, map, slice_get}
use Rattle.cu_calculus.specs.Program as calculus
use Rattle.cu_calculus.specs.declared.ConId.{ConId}
use Rattle.cu_calculus.specs.declared.FunId.{FunId}
use Rattle.cu_calculus.specs.declared.builtin.Special.{Special}
use Rattle.cu_names.specs.declared.names.NameId.{NameId}
use Rattle.cu_names.specs.declared.place.Place.{Place}
use Rattle.cu_kernel.specs.TypeExpr.{TypeExpr}
use Rattle.cu_kernel.specs.declared.declarations.Operator.{Operator}

-- a constructor: its name, whether its module exports it, and the types of its arguments
pub record Constructor : Type 0 where
  pub name : NameId
  pub public : Bool
  pub fields : List TypeExpr

-- a data type with its constructors
pub record DataType : Type 0 where
  pub name : NameId
  -- the number of the type's module among the program's modules
  pub «module» : ℕ
  -- how many parameters the type has
  pub arity : ℕ
  pub public : Bool
  pub constructors : List Constructor

-- a function: its name, how many parameters it has, and its body
pub record Function : Type 0 where
  pub name : NameId
  pub arity : ℕ
  pub body : calculus.Body

-- a type synonym, and the type that it stands for
pub record Synonym : Type 0 where
  pub name : NameId
  pub «module» : ℕ
  pub public : Bool
  pub arity : ℕ
  pub body : TypeExpr

-- a module: its name, its imports and its operators
pub record Module : Type 0 where
  pub name : NameId
  pub imports : List NameId
  pub operators : List Operator

-- a function's mark: what is known of it beside its rules
pub record Mark : Type 0 where
  pub «module» : ℕ
  pub public : Bool
  pub declared : Option TypeExpr
  -- how many of the function's first parameters are variables that it captured as a local function
  pub captured : ℕ
  pub place : Place

-- a goal: a function, and the names of the goal's free variables
pub record Goal : Type 0 where
  pub function : FunId
  pub names : List NameId

-- a kernel program
pub record Kernel : Type 0 where
  pub types : List DataType
  pub functions : List Function
  pub synonyms : List Synonym
  pub modules : List Module
  -- a mark for each function
  pub marks : List Mark
  pub goal : Option Goal
  pub special : Special

-- the constructors of the type with an index among the program's types
abbrev pub constructors_of : ℕ → List Constructor → List calculus.Constructor
constructors_of place cs = map (λ c. record { of_type = place; arity = length c.fields }) cs

-- the constructors of the types from an index on: those of each type after those of the types
-- before it
abbrev pub constructors_from : ℕ → List DataType → List calculus.Constructor
constructors_from place [] = []
constructors_from place (t ∷ ts) =
    constructors_of place t.constructors ++ constructors_from (place + 1) ts

-- a constructor, and the index of its type among the program's types
pub record Placed : Type 0 where
  pub of_type : ℕ
  pub constructor : Constructor

-- the constructors of the type with an index, each with this index
abbrev pub placed : ℕ → List Constructor → List Placed
placed place cs = map (λ c. record { of_type = place; constructor = c }) cs

-- the constructors of the types from an index on, each with its type's index
abbrev pub placed_from : ℕ → List DataType → List Placed
placed_from place [] = []
placed_from place (t ∷ ts) = placed place t.constructors ++ placed_from (place + 1) ts

-- the constructor with a number, where the types have one; the first type's constructors have the
-- first numbers
abbrev pub constructor_at : List DataType → ConId → Option Placed
constructor_at types c = slice_get (placed_from 0 types) c.0

-- a function of the calculus: its arity and its body, without its name
abbrev pub plain_function : Function → calculus.Function
plain_function f = record { arity = f.arity; body = f.body }

-- the program of the calculus that a kernel program is: the functions with their rules, the
-- constructors and the built-in entities
unfoldable pub program_of : Kernel → calculus.Program
program_of kernel = record {
  functions = map plain_function kernel.functions;
  constructors = constructors_from 0 kernel.types;
  special = kernel.special;
}
