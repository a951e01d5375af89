-- Programs before lifting, and the program of several modules in a row.
use Rattle.std.specs.Prelude.{◌≡◌, ℕ, ◌+◌, List, ◌++◌, Option, None, Some, length}
use Rattle.cu_calculus.specs.Term as calculus
use Rattle.cu_calculus.specs.declared.ConId.{ConId}
use Rattle.cu_calculus.specs.declared.builtin.Primitive.{Primitive}
use Rattle.cu_calculus.specs.declared.builtin.Special.{Special}
use Rattle.cu_names.specs.declared.names.NameId.{NameId}
use Rattle.cu_names.specs.declared.place.Place.{Place}
use Rattle.cu_kernel.specs.Kernel.{DataType, Goal, Mark, Module, Synonym, constructors_from}
use Rattle.cu_kernel.specs.LocalTerm.{LocalTerm}
use Rattle.cu_kernel.specs.TypeExpr.{TypeExpr}
use Rattle.cu_kernel.specs.declared.local_program.Counts.{Counts}

-- a rule before lifting: a pattern for each parameter, and the right side
pub record LocalRule : Type 0 where
  pub params : calculus.Patterns
  pub body : LocalTerm

-- what a top-level function computes: its rules, or an operation that is built in
pub data LocalBody : Type 0 where
  Rules : List LocalRule → LocalBody
  External : Primitive → LocalBody

-- a local function: where it stands, its declared type if it has one, and its rules
pub record LocalFunction : Type 0 where
  -- where the function's first token stands
  pub place : Place
  pub declared : Option TypeExpr
  pub arity : ℕ
  pub rules : List LocalRule

-- a top-level function with its local functions, however deep these are nested
pub record TopFunction : Type 0 where
  pub name : NameId
  pub arity : ℕ
  pub body : LocalBody
  pub locals : List LocalFunction

-- a program before lifting, or the part of one that modules from some module on come to
pub record LocalKernel : Type 0 where
  -- how many of each kind come before these parts
  pub start : Counts
  pub types : List DataType
  pub functions : List TopFunction
  pub synonyms : List Synonym
  pub modules : List Module
  pub marks : List Mark
  pub goal : Option Goal
  pub special : Special

-- The numbers of the second program continue those of the first: its first type has the number
-- after the first program's last type, and likewise for constructors, functions, synonyms and
-- modules.
pub record Follows (first second : LocalKernel) : Type 0 where
  pub types : second.start.types ≡ first.start.types + length first.types
  pub constructors : second.start.constructors
      ≡ first.start.constructors + length (constructors_from 0 first.types)
  pub functions : second.start.functions ≡ first.start.functions + length first.functions
  pub synonyms : second.start.synonyms ≡ first.start.synonyms + length first.synonyms
  pub modules : second.start.modules ≡ first.start.modules + length first.modules

-- the second program's goal where it has one, else the first's
abbrev pub last_goal : Option Goal → Option Goal → Option Goal
last_goal first None = first
last_goal first (Some goal) = Some goal

-- the constructor of the values of set functions: the second program's where it has one, else the
-- first's
abbrev pub last_values : Option ConId → Option ConId → Option ConId
last_values first None = first
last_values first (Some values) = Some values

-- the built-in entities of two joined programs: those of the second, but the first's constructor of
-- the values of set functions where the second has none
abbrev pub last_special : Special → Special → Special
last_special first second = record {
  falsity = second.falsity;
  truth = second.truth;
  nil = second.nil;
  cons = second.cons;
  both = second.both;
  values = last_values first.values second.values;
}

-- two programs joined: the first program's parts and then the second's
abbrev pub joined : LocalKernel → LocalKernel → LocalKernel
joined first second = record {
  start = first.start;
  types = first.types ++ second.types;
  functions = first.functions ++ second.functions;
  synonyms = first.synonyms ++ second.synonyms;
  modules = first.modules ++ second.modules;
  marks = first.marks ++ second.marks;
  goal = last_goal first.goal second.goal;
  special = last_special first.special second.special;
}
