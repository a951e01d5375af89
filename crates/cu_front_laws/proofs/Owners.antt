-- What is in scope in a module belongs to that module or to one before it.
use Rattle.std.proofs.Common.{◌≡◌, ◌<◌, ◌+◌, ℕ, zero, suc, Bool, true, false, not, List, [], ◌∷◌, ◌++◌, Option, None, Some, map, take, get_or, refl, sym, subst, arith, if◌then◌else◌}
use Rattle.std.proofs.lemmas.Bool.{and_parts}
use Rattle.std.proofs.lemmas.Slice.Eq.{bytes_eq-Decides}
use Rattle.std.specs.List.{filter, flat_map, list_all, list_any}
use Rattle.std.specs.Str.{bytes_eq}
use Rattle.cu_entities.specs.Bindings.{Binding, entities_of, is_bound}
use Rattle.cu_entities.specs.Entities.{Constructor, Entity, Function, Space, Types, Values, distinct, same_entity}
use Rattle.cu_syntax.specs.Syntax as syntax
use Rattle.cu_syntax.specs.Syntax.{ConstructorDeclaration, ConstructorsNamed, Export, Import, ImportList, Item, Name}
use Rattle.cu_modules.specs.BuiltInEntities.{built_in_entities, entity, external_names, first_types, prelude_name, set_function_names, set_functions, set_functions_name}
use Rattle.cu_modules.specs.Means.{interfaces_before}
use Rattle.cu_modules.specs.OwnEntities.{declared_by}
use Rattle.cu_modules.specs.Scopes.{Interface, Named, binding, constructors_in, export_list, exports_by, exports_listed, exports_of, import_bindings, imported, imports_of, interface, interfaces, is_hidden, meant, names_entity, names_module, own_bindings, own_entities, qualifier_of, scope, taken, unqualified}
use Rattle.cu_front_laws.proofs.Members.{Every, every_append, every_filter, every_flat_map, every_from, every_map}

module _ (Q : List ℕ → Type 0) where
  abbrev Owned : Entity → Type 0
  Owned e = Q e.owner

  abbrev Bound : Binding → Type 0
  Bound b = Q b.entity.owner

  abbrev OfOwned : Interface → Type 0
  OfOwned i = Every Owned i.entities

  -- ---- a module's own entities

  owned_by : (owner : List ℕ) (es : List Entity) → list_all (λ (e : Entity). bytes_eq e.owner owner) es ≡ true → Q owner → Every Owned es
  owned_by owner [] all q = tt
  owned_by owner (e ∷ es) all q =
      let both = and_parts (bytes_eq e.owner owner) (list_all (λ (e : Entity). bytes_eq e.owner owner) es) all in
      (subst Q (sym ((bytes_eq-Decides e.owner owner).0 both.0)) q, owned_by owner es both.1 q)

  first_owned : Q prelude_name → Every Owned first_types
  first_owned q = owned_by prelude_name first_types refl q

  functions_owned : (owner : List ℕ) (names : List (List ℕ)) → Q owner → Every Owned (map (entity owner Function) names)
  functions_owned owner names q = every_map Owned (entity owner Function) names (every_from (λ (x : List ℕ). Q owner) names (λ x h. q))

  sets_owned : (owner : List ℕ) (n : ℕ) (names : List (List ℕ)) → Q owner → Every Owned (set_functions owner n names)
  sets_owned owner n [] q = tt
  sets_owned owner n (x ∷ names) q = (q, sets_owned owner (n + 1) names q)

  built_in_owned : (owner : List ℕ) → Q prelude_name → Q owner → Every Owned (built_in_entities owner)
  built_in_owned owner p q = by (bytes_eq owner prelude_name) (bytes_eq owner set_functions_name)
    where
      by : (b s : Bool) → Every Owned
          (if b then first_types ++ map (entity owner Function) external_names else if s then set_functions owner 0 set_function_names else [])
      by true s = every_append Owned first_types (map (entity owner Function) external_names) (first_owned p) (functions_owned owner external_names q)
      by false true = sets_owned owner 0 set_function_names q
      by false false = tt

  declared_owned : (owner : List ℕ) (i : Item) → Q owner → Every Owned (declared_by owner i)
  declared_owned owner (syntax.Data at name ps cs) q = (
    q,
    every_map Owned (λ (c : ConstructorDeclaration). entity owner (Constructor name.text) c.name.text) cs
        (every_from (λ (c : ConstructorDeclaration). Q owner) cs (λ c h. q)),
  )
  declared_owned owner (syntax.Synonym at name ps t) q = (q, tt)
  declared_owned owner (syntax.DeclarationItem (syntax.FunctionRule at name ps right)) q = (q, tt)
  declared_owned owner (syntax.DeclarationItem (syntax.FreeVariables at names)) q = tt
  declared_owned owner (syntax.DeclarationItem (syntax.Signature at names t)) q = tt
  declared_owned owner (syntax.DeclarationItem (syntax.PatternBinding at p right)) q = tt
  declared_owned owner (syntax.ImportItem found) q = tt
  declared_owned owner (syntax.Fixity at to level operators) q = tt

  own_owned : (m : Named) → Q prelude_name → Q m.name → Every Owned (own_entities m)
  own_owned m p q =
      every_append Owned (built_in_entities m.name) (flat_map (declared_by m.name) m.syntax.items) (built_in_owned m.name p q)
      (every_flat_map Owned (declared_by m.name) m.syntax.items
      (every_from (λ (i : Item). Every Owned (declared_by m.name i)) m.syntax.items (λ i h. declared_owned m.name i q)))

  -- ---- scopes

  exports_owned : (before : List Interface) (name : List ℕ) → Every OfOwned before → Every Owned (exports_of before name)
  exports_owned before name every =
      every_flat_map Owned (λ (i : Interface). i.entities) (filter (λ (i : Interface). bytes_eq i.name name) before)
      (every_filter OfOwned (λ (i : Interface). bytes_eq i.name name) before every)

  taken_owned : (list : Option ImportList) (es : List Entity) → Every Owned es → Every Owned (taken list es)
  taken_owned None es every = every
  taken_owned (Some list) es every = by list.hides
    where
      by : (b : Bool) → Every Owned
          (if b then filter (λ (e : Entity). not (list_any (names_entity es e) list.entities)) es else filter
          (λ (e : Entity). list_any (names_entity es e) list.entities) es)
      by true = every_filter Owned (λ (e : Entity). not (list_any (names_entity es e) list.entities)) es every
      by false = every_filter Owned (λ (e : Entity). list_any (names_entity es e) list.entities) es every

  imported_owned : (before : List Interface) (found : Import) → Every OfOwned before → Every Owned (imported before found)
  imported_owned before found every = taken_owned found.list (exports_of before found.name.text) (exports_owned before found.name.text every)

  unqualified_owned : (mine : List Entity) (before : List Interface) (found : Import) → Every OfOwned before
      → Every Owned (unqualified mine before found)
  unqualified_owned mine before found every = by found.qualified
    where
      by : (b : Bool) → Every Owned (if b then [] else filter (λ (e : Entity). not (is_hidden mine e)) (imported before found))
      by true = tt
      by false = every_filter Owned (λ (e : Entity). not (is_hidden mine e)) (imported before found) (imported_owned before found every)

  import_owned : (mine : List Entity) (before : List Interface) (found : Import) → Every OfOwned before
      → Every Bound (import_bindings mine before found)
  import_owned mine before found every =
      every_append Bound (map (binding (Some (qualifier_of found.alias found.name))) (imported before found))
      (map (binding None) (unqualified mine before found))
      (every_map Bound (binding (Some (qualifier_of found.alias found.name))) (imported before found) (imported_owned before found every))
      (every_map Bound (binding None) (unqualified mine before found) (unqualified_owned mine before found every))

  scope_owned : (before : List Interface) (m : Named) → Q prelude_name → Q m.name → Every OfOwned before → Every Bound (scope before m)
  scope_owned before m p q every =
      let mine = own_owned m p q in
      let imports = flat_map (import_bindings (own_entities m) before) (imports_of m) in (
        p,
        every_append Bound (own_bindings m.name (own_entities m)) imports
            (every_append Bound (map (binding (Some m.name)) (own_entities m)) (map (binding None) (own_entities m))
            (every_map Bound (binding (Some m.name)) (own_entities m) mine) (every_map Bound (binding None) (own_entities m) mine))
            (every_flat_map Bound (import_bindings (own_entities m) before) (imports_of m)
            (every_from (λ (i : Import). Every Bound (import_bindings (own_entities m) before i)) (imports_of m)
            (λ i h. import_owned (own_entities m) before i every))),
      )

  distinct_owned : (es : List Entity) → Every Owned es → Every Owned (distinct es)
  distinct_owned [] every = tt
  distinct_owned (e ∷ es) every = (every.0, every_filter Owned (λ (f : Entity). not (same_entity e f)) (distinct es) (distinct_owned es every.1))

  entities_owned : (bindings : List Binding) → Every Bound bindings → Every Owned (entities_of bindings)
  entities_owned bindings every = every_map Owned (λ (b : Binding). b.entity) bindings every

  meant_owned : (bindings : List Binding) (space : Space) (name : Name) → Every Bound bindings → Every Owned (meant bindings space name)
  meant_owned bindings space name every =
      let there = filter (is_bound space name.qualifier name.base) bindings in
      distinct_owned (entities_of there) (entities_owned there (every_filter Bound (is_bound space name.qualifier name.base) bindings every))

  -- ---- exports

  constructors_owned : (bindings : List Binding) (cs : ConstructorsNamed) (t : Entity) → Every Bound bindings
      → Every Owned (constructors_in bindings cs t)
  constructors_owned bindings cs t every = every_filter Owned _ (entities_of bindings) (entities_owned bindings every)

  export_owned : (before : List Interface) (m : Named) (x : Export) → Q prelude_name → Q m.name → Every OfOwned before
      → Every Owned (exports_by before m x)
  export_owned before m (syntax.ModuleExport at name) p q every = by (bytes_eq name.text m.name)
    where
      by : (b : Bool) → Every Owned
          (if b then own_entities m else flat_map (unqualified (own_entities m) before) (filter (names_module name.text) (imports_of m)))
      by true = own_owned m p q
      by false =
          every_flat_map Owned (unqualified (own_entities m) before) (filter (names_module name.text) (imports_of m))
          (every_from (λ (i : Import). Every Owned (unqualified (own_entities m) before i)) (filter (names_module name.text) (imports_of m))
          (λ i h. unqualified_owned (own_entities m) before i every))
  export_owned before m (syntax.EntityExport (syntax.VariableEntity at name)) p q every =
      meant_owned (scope before m) Values name (scope_owned before m p q every)
  export_owned before m (syntax.EntityExport (syntax.TypeEntity at name cs)) p q every =
      let bound = scope_owned before m p q every in
      let ts = meant (scope before m) Types name in
      every_append Owned ts (flat_map (constructors_in (scope before m) cs) ts) (meant_owned (scope before m) Types name bound)
      (every_flat_map Owned (constructors_in (scope before m) cs) ts
      (every_from (λ (t : Entity). Every Owned (constructors_in (scope before m) cs t)) ts (λ t h. constructors_owned (scope before m) cs t bound)))

  listed_owned : (before : List Interface) (m : Named) (list : Option (List Export)) → Q prelude_name → Q m.name → Every OfOwned before
      → Every Owned (exports_listed before m list)
  listed_owned before m None p q every = own_owned m p q
  listed_owned before m (Some list) p q every =
      every_flat_map Owned (exports_by before m) list
      (every_from (λ (x : Export). Every Owned (exports_by before m x)) list (λ x h. export_owned before m x p q every))

  interfaces_owned : (before : List Interface) (ms : List Named) → Q prelude_name → Every (λ (m : Named). Q m.name) ms → Every OfOwned before
      → Every OfOwned (interfaces before ms)
  interfaces_owned before [] p all every = every
  interfaces_owned before (m ∷ ms) p all every =
      interfaces_owned (before ++ interface before m ∷ []) ms p all.1
      (every_append OfOwned before (interface before m ∷ []) every (
        distinct_owned (exports_listed before m (export_list m.syntax.header)) (listed_owned before m (export_list m.syntax.header) p all.0 every),
        tt,
      ))

  every_taken : (d : Named) (ms : List Named) (i : ℕ) → ((j : ℕ) → j < i → Q (get_or ms j d).name) → Every (λ (m : Named). Q m.name) (take i ms)
  every_taken d [] zero all = tt
  every_taken d [] (suc i) all = tt
  every_taken d (m ∷ ms) zero all = tt
  every_taken d (m ∷ ms) (suc i) all = (all 0 (omega arith), every_taken d ms i (λ j h. all (suc j) (omega arith)))

  -- what a name means in the module of a number
  pub means_owned : (d : Named) (modules : List Named) (i : ℕ) (m : Named) (space : Space) (name : Name) → Q prelude_name
      → ((j : ℕ) → j < i → Q (get_or modules j d).name) → Q m.name
      → Every (λ (e : Entity). Q e.owner) (meant (scope (interfaces_before modules i) m) space name)
  means_owned d modules i m space name p all q =
      meant_owned (scope (interfaces_before modules i) m) space name
      (scope_owned (interfaces_before modules i) m p q (interfaces_owned [] (take i modules) p (every_taken d modules i all) tt))
