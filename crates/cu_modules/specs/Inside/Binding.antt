-- What a scope of the code stands for, under a table of names.
use Rattle.std.specs.Prelude.{◌≡◌, ℕ, List, IfSome, map}
use Rattle.std.specs.List.{All}
use Rattle.cu_entities.specs.Bindings.{Binding}
use Rattle.cu_entities.specs.EntityMeaning.{EntityIsKnown}
use Rattle.cu_entities.specs.NameTables.{Tells, binding_of}
use Rattle.cu_names.specs.Texts.{IsKnown}
use Rattle.cu_modules.specs.declared.module_scope.Bound.{Bound}
use Rattle.cu_modules.specs.declared.module_scope.ModuleScope.{ModuleScope}

abbrev pub bound_meaning : List (List ℕ) → Bound → Binding
bound_meaning names b = binding_of names b.qualifier b.entity

pub record BoundIsKnown (names : List (List ℕ)) (b : Bound) : Type 0 where
  pub qualifier : IfSome b.qualifier (IsKnown names)
  pub entity : EntityIsKnown names b.entity

-- A scope of the code has these bindings, in its table and in its list.
pub record IsScope (names : List (List ℕ)) (bindings : List Binding)
    (s : ModuleScope) : Type 0 where
  pub tells : Tells names bindings s.table
  pub listed : map (bound_meaning names) s.bound.items ≡ bindings
  pub known : All (BoundIsKnown names) s.bound.items
