-- What is wrong with names that are used, and which of several faults is the first.
use Rattle.std.specs.Prelude.{◌≡◌, ℕ, Bool, false, ◌&&◌, ◌||◌, List, [], ◌∷◌, nat_eq, nat_lt}
use Rattle.std.specs.List.{All, Contains, flat_map}
use Rattle.cu_lex.specs.Located.{Position}
use Rattle.cu_syntax.specs.Syntax.{Name}
use Rattle.cu_entities.specs.Bindings.{Binding, meant_by}
use Rattle.cu_entities.specs.Entities.{Entity}
use Rattle.cu_uses.specs.declared.fault.Wrong.{Wrong}
use Rattle.cu_uses.specs.declared.fault.Wrong.TheVariants.{Ambiguous, Duplicate, NotExported, UnknownName}
use Rattle.cu_uses.specs.Demands.{Demand, Lacks, Repeats, Uses}

-- what is wrong, at which place of a text, and with which name
pub record Fault : Type 0 where
  pub wrong : Wrong
  pub at : Position
  pub name : List ℕ

abbrev pub wrong_name : Wrong → Name → Fault
wrong_name wrong name = record { wrong = wrong; at = name.at; name = name.text }

-- the fault of a name that should mean one entity, where these are the entities that it means
abbrev pub unless_one : Wrong → Name → List Entity → List Fault
unless_one lacking name [] = wrong_name lacking name ∷ []
unless_one lacking name (e ∷ []) = []
unless_one lacking name (e ∷ f ∷ entities) = wrong_name Ambiguous name ∷ []

abbrev pub demand_fault : List Binding → Demand → List Fault
demand_fault bindings (Uses space name) =
    unless_one UnknownName name (meant_by bindings space name.qualifier name.base)
demand_fault bindings (Lacks name) = wrong_name UnknownName name ∷ []
demand_fault bindings (Repeats name) = wrong_name Duplicate name ∷ []

abbrev pub demand_faults : List Binding → List Demand → List Fault
demand_faults bindings demands = flat_map (demand_fault bindings) demands

-- ---- the first

-- the order of faults at one place
abbrev pub rank : Wrong → ℕ
rank NotExported = 0
rank UnknownName = 1
rank Ambiguous = 2
rank Duplicate = 3

-- whether a fault stands before another: at an earlier place of the text, or at the same place and
-- of an earlier kind
abbrev pub is_before : Fault → Fault → Bool
is_before f g =
    nat_lt f.at.line g.at.line || (nat_eq f.at.line g.at.line &&
    (nat_lt f.at.column g.at.column
    || (nat_eq f.at.column g.at.column && nat_lt (rank f.wrong) (rank g.wrong))))

-- One of the faults that has none before it.
pub record IsFirst (found : List Fault) (fault : Fault) : Type 0 where
  pub listed : Contains found fault
  pub first : All (λ g. is_before g fault ≡ false) found
