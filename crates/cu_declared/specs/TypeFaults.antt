-- What is wrong with the uses of types in modules and goals, and which of several faults is the
-- first.
use Rattle.std.specs.Prelude.{◌≡◌, ◌≢◌, ◌⊎◌, ℕ, ◌<◌, Bool, false, ◌&&◌, ◌||◌, List, [], ◌∷◌}
use Rattle.std.specs.Prelude.{Some, nat_eq, nat_lt, slice_get}
use Rattle.cu_lex.specs.Located.{Position}
use Rattle.cu_syntax.specs.Syntax.{Goal}
use Rattle.cu_entities.specs.Bindings.{Binding}
use Rattle.cu_entities.specs.Entities.{Entity, Types}
use Rattle.cu_modules.specs.Means.{interfaces_before}
use Rattle.cu_modules.specs.Scopes.{Named, meant, scope}
use Rattle.cu_declared.specs.Parameters.{parameters_of}
use Rattle.cu_declared.specs.SynonymCycles.{LeadsTo, Synonym, synonyms_in}
use Rattle.cu_declared.specs.TypeUses.{TypeUse, goal_uses, items_uses}

pub data Wrong : Type 0 where
  -- a type's name has more arguments than the type has parameters, or fewer
  TypeArity : Wrong
  -- the synonym of this name leads to itself
  SynonymCycle : List ℕ → Wrong

-- what is wrong, and at which place of a text
pub record Fault : Type 0 where
  pub wrong : Wrong
  pub at : Position

abbrev pub arity_fault : TypeUse → Fault
arity_fault used = record { wrong = TypeArity; at = used.name.at }

abbrev pub cycle_fault : Synonym → Fault
cycle_fault s = record { wrong = SynonymCycle s.name; at = s.at }

-- what names mean in the module of a number
abbrev pub scope_at : List Named → ℕ → Named → List Binding
scope_at modules number m = scope (interfaces_before modules number) m

-- A use of a name means one type alone, and that hasn't as many parameters as the name has
-- arguments.
pub record HasWrongNumber (modules : List Named) (bindings : List Binding) (used : TypeUse) : Type 0
  where
    pub entity : Entity
    pub means : meant bindings Types used.name ≡ entity ∷ []
    pub differs : parameters_of modules entity ≢ Some used.arguments

-- the fault that one of these uses has a wrong number of arguments
pub record IsArityFault (modules : List Named) (bindings : List Binding) (uses : List TypeUse)
    (fault : Fault) : Type 0 where
  pub used : TypeUse
  pub place : ℕ
  pub stands : slice_get uses place ≡ Some used
  pub has : HasWrongNumber modules bindings used
  pub is : fault ≡ arity_fault used

-- the fault that one of a module's synonyms leads to itself
pub record IsCycleFault (bindings : List Binding) (m : Named) (fault : Fault) : Type 0 where
  pub number : ℕ
  pub synonym : Synonym
  pub is_there : slice_get (synonyms_in m) number ≡ Some synonym
  pub leads : LeadsTo bindings m number number
  pub is : fault ≡ cycle_fault synonym

-- a fault of the module of a number
abbrev pub IsModuleFault : List Named → ℕ → Named → Fault → Type 0
IsModuleFault modules number m fault =
    IsArityFault modules (scope_at modules number m) (items_uses m.syntax.items) fault
    ⊎ IsCycleFault (scope_at modules number m) m fault

-- a fault of a goal in the module of a number
abbrev pub IsGoalFault : List Named → ℕ → Named → Goal → Fault → Type 0
IsGoalFault modules number m goal fault =
    IsArityFault modules (scope_at modules number m) (goal_uses goal) fault

-- ---- the first

-- the order of faults at one place
abbrev pub rank : Wrong → ℕ
rank TypeArity = 0
rank (SynonymCycle name) = 1

-- whether a fault stands before another: at an earlier place of the text, or at the same place and
-- of an earlier kind
abbrev pub is_before : Fault → Fault → Bool
is_before f g =
    nat_lt f.at.line g.at.line || (nat_eq f.at.line g.at.line &&
    (nat_lt f.at.column g.at.column || (nat_eq f.at.column g.at.column &&
    nat_lt (rank f.wrong) (rank g.wrong))))

-- the module of a number has no fault
pub record IsRight (modules : List Named) (number : ℕ) (m : Named) : Type 0 where
  pub right : (fault : Fault) → IsModuleFault modules number m fault → ⊥

-- no module has a fault
pub record AreRight (modules : List Named) : Type 0 where
  pub each : (number : ℕ) (m : Named) → slice_get modules number ≡ Some m
      → IsRight modules number m

-- The first fault of the first module that has one.
pub record IsWrong (modules : List Named) (name : List ℕ) (fault : Fault) : Type 0 where
  pub number : ℕ
  pub m : Named
  pub is_there : slice_get modules number ≡ Some m
  pub before : (k : ℕ) (other : Named) → k < number → slice_get modules k ≡ Some other
      → IsRight modules k other
  pub is_fault : IsModuleFault modules number m fault
  pub is_first : (other : Fault) → IsModuleFault modules number m other
      → is_before other fault ≡ false
  pub is_named : name ≡ m.name

-- A goal in the module of a number has no fault.
pub record IsGoalRight (modules : List Named) (root : ℕ) (goal : Goal) : Type 0 where
  pub right : (m : Named) (fault : Fault) → slice_get modules root ≡ Some m
      → IsGoalFault modules root m goal fault → ⊥

-- The first fault of a goal in the module of a number.
pub record IsGoalWrong (modules : List Named) (root : ℕ) (goal : Goal) (fault : Fault) : Type 0
  where
    pub m : Named
    pub is_there : slice_get modules root ≡ Some m
    pub is_fault : IsGoalFault modules root m goal fault
    pub is_first : (other : Fault) → IsGoalFault modules root m goal other
        → is_before other fault ≡ false
