-- In modules of which nothing was refused each name of a type has its number of arguments.
use Rattle.std.proofs.Common.{◌≡◌, ◌∙◌, inl, inr, ◌<◌, ℕ, zero, suc, Bool, true, false, List, [], ◌∷◌, ◌++◌, Option, None, Some, length, map, take, refl, sym, ap, subst, arith, codes}
use Rattle.std.proofs.lemmas.Bool.{both_ways}
use Rattle.std.proofs.lemmas.Bool.Decides.{Decides-eqb}
use Rattle.std.proofs.lemmas.Option.{slice_get-get_or}
use Rattle.std.specs.List.{flat_map, slice_get}
use Rattle.std.specs.Prelude.{nat_eq}
use Rattle.cu_entities.specs.Bindings.{Binding}
use Rattle.cu_entities.specs.Entities.{Entity, Types}
use Rattle.cu_kernel.specs.Kernel.{Kernel}
use Rattle.cu_syntax.specs.Syntax.{Goal, Item, Name}
use Rattle.cu_uses.specs.Binders.{fixed_in, missing, repeated, second, signed_in, values_by}
use Rattle.cu_uses.specs.Binders as binders
use Rattle.cu_uses.specs.Demands.{Demand, Lacks, Repeats, Uses, expression_demands, goal_demands, item_demands, items_demands}
use Rattle.cu_uses.specs.Binders.{texts}
use Rattle.cu_uses.specs.Faults.{demand_fault, demand_faults, unless_one}
use Rattle.cu_uses.specs.declared.fault.Wrong.TheVariants.{UnknownName}
use Rattle.cu_modules.specs.BuiltInEntities.{prelude_name}
use Rattle.cu_modules.specs.Faults.{export_list_faults, faults, goal_faults, import_faults, own_values}
use Rattle.cu_modules.specs.Means.{AreScoped, IsGoalScoped, interfaces_before, no_module, one_more}
use Rattle.cu_modules.specs.Scopes.{Interface, Named, export_list, imports_of, interfaces, meant, scope}
use Rattle.cu_declared.specs.Parameters.{all_parameters, number_at, parameters_of}
use Rattle.cu_declared.specs.TypeFaults.{AreRight, HasWrongNumber, IsGoalRight, arity_fault, scope_at}
use Rattle.cu_declared.specs.TypeUses.{TypeUse, goal_uses, items_uses}
use Rattle.cu_translation.specs.Around.{tuple_name}
use Rattle.cu_translation.specs.ModuleNames as names
use Rattle.cu_translation.specs.ModuleNames.{alone, module_at, names_in, of_entity, synonym_named, type_of}
use Rattle.cu_translation.specs.Numbered.{all_synonyms, all_types}
use Rattle.cu_types.specs.Synonyms.{takes_arguments}
use Rattle.cu_front_laws.proofs.AppliedTypes.{TakeSigns, Takes, size_arity}
use Rattle.cu_front_laws.proofs.Members.{Every, In, Sub, every_from, every_in, in_left, in_right, place_of}
use Rattle.cu_front_laws.proofs.TypeArities.{AreDeclared, DeclaresOnce, HasTypes, first_has, has_arity, takes_arity}
use Rattle.cu_front_laws.proofs.UsesDemanded.{Demanded, expression_demanded, items_demanded}

-- ---- nothing is wrong with the names of each module

none_left : {A : Type 0} (xs ys : List A) → xs ++ ys ≡ [] → xs ≡ []
none_left [] ys e = refl
none_left (x ∷ xs) ys e = absurd cc

none_right : {A : Type 0} (xs ys : List A) → xs ++ ys ≡ [] → ys ≡ []
none_right [] ys e = e
none_right (x ∷ xs) ys e = absurd cc

pub scoped_at : (before : List Interface) (ms : List Named) → AreScoped before ms → (i : ℕ) → i < length ms
    → faults (interfaces before (take i ms)) (module_at ms i) ≡ []
scoped_at before _ (no_module _) i h = absurd (omega arith)
scoped_at before _ (one_more _ m ms none later) zero h = none
scoped_at before _ (one_more _ m ms none later) (suc i) h = scoped_at (interfaces before (m ∷ [])) ms later i (omega arith)

-- what is asked for has no fault
no_fault : (bindings : List Binding) (asked : List Demand) → demand_faults bindings asked ≡ [] → (d : Demand) → In d asked
    → demand_fault bindings d ≡ []
no_fault bindings [] none d h = absurd h
no_fault bindings (x ∷ asked) none d (inl e) = ap (demand_fault bindings) e ∙ none_left (demand_fault bindings x) (demand_faults bindings asked) none
no_fault bindings (x ∷ asked) none d (inr h) = no_fault bindings asked (none_right (demand_fault bindings x) (demand_faults bindings asked) none) d h

-- a name that means one entity
abbrev MeansOne : List Binding → Name → Type 0
MeansOne bindings n = (e : Entity) × (meant bindings Types n ≡ e ∷ [])

one_meant : (bindings : List Binding) (n : Name) → demand_fault bindings (Uses Types n) ≡ [] → MeansOne bindings n
one_meant bindings n none = by (meant bindings Types n) refl none
  where
    by : (es : List Entity) → meant bindings Types n ≡ es → unless_one UnknownName n es ≡ [] → MeansOne bindings n
    by [] is none = absurd cc
    by (e ∷ []) is none = (e, is)
    by (e ∷ f ∷ es) is none = absurd cc

no_demand_fault : (before : List Interface) (m : Named) → faults before m ≡ []
    → demand_faults (scope before m) (items_demands (own_values m) m.syntax.items) ≡ []
no_demand_fault before m none =
    none_right (flat_map (import_faults before) (imports_of m)) (demand_faults (scope before m) (items_demands (own_values m) m.syntax.items))
    (none_right (export_list_faults before m (export_list m.syntax.header))
    (flat_map (import_faults before) (imports_of m) ++ demand_faults (scope before m) (items_demands (own_values m) m.syntax.items)) none)

-- the demands of items are among those of a module
items_among : (known : List (List ℕ)) (items : List Item) → Sub (flat_map item_demands items) (items_demands known items)
items_among known items d h =
    in_right d
    (map Repeats (second (map values_by items) ++
    (repeated [] (flat_map binders.types_by items) ++ (repeated [] (flat_map signed_in items) ++ repeated [] (flat_map fixed_in items)))))
    (map Lacks (missing known (flat_map signed_in items) ++ missing known (flat_map fixed_in items)) ++ flat_map item_demands items)
    (in_right d (map Lacks (missing known (flat_map signed_in items) ++ missing known (flat_map fixed_in items))) (flat_map item_demands items) h)

-- each name of a type in a module means one entity
pub uses_mean_one : (before : List Interface) (m : Named) → faults before m ≡ []
    → Every (λ (u : TypeUse). MeansOne (scope before m) u.name) (items_uses m.syntax.items)
uses_mean_one before m none =
    let asked = items_demands (own_values m) m.syntax.items in
    let demanded = items_demanded asked m.syntax.items (items_among (own_values m) m.syntax.items) in
    every_from (λ (u : TypeUse). MeansOne (scope before m) u.name) (items_uses m.syntax.items)
    (λ u h. one_meant (scope before m) u.name
    (no_fault (scope before m) asked (no_demand_fault before m none) (Uses Types u.name)
    (every_in (Demanded asked) (items_uses m.syntax.items) demanded u h)))

pub goal_uses_mean_one : (before : List Interface) (m : Named) (goal : Goal) → goal_faults before m goal ≡ []
    → Every (λ (u : TypeUse). MeansOne (scope before m) u.name) (goal_uses goal)
goal_uses_mean_one before m goal none =
    let asked = goal_demands goal in
    let demanded = expression_demanded asked (texts goal.free) goal.expression
    (λ d h. in_right d (map Repeats (repeated [] goal.free)) (expression_demands (texts goal.free) goal.expression) h) in
    every_from (λ (u : TypeUse). MeansOne (scope before m) u.name) (goal_uses goal)
    (λ u h. one_meant (scope before m) u.name
    (no_fault (scope before m) asked none (Uses Types u.name) (every_in (Demanded asked) (goal_uses goal) demanded u h)))

-- each type is declared once
repeats_none : (bindings : List Binding) (xs : List Name) (asked : List Demand) → ((x : Name) → In x xs → In (Repeats x) asked)
    → demand_faults bindings asked ≡ [] → xs ≡ []
repeats_none bindings [] asked go none = refl
repeats_none bindings (x ∷ xs) asked go none = absurd (wrong (no_fault bindings asked none (Repeats x) (go x (inl refl))))
  where
    wrong : demand_fault bindings (Repeats x) ≡ [] → ⊥
    wrong e = cc

pub declares_once : (before : List Interface) (m : Named) → faults before m ≡ [] → DeclaresOnce m
declares_once before m none =
    let items = m.syntax.items in
    let others = repeated [] (flat_map signed_in items) ++ repeated [] (flat_map fixed_in items) in
    let types = repeated [] (flat_map binders.types_by items) in
    let values = second (map values_by items) in
    let after = map Lacks (missing (own_values m) (flat_map signed_in items) ++ missing (own_values m) (flat_map fixed_in items)) ++ flat_map
    item_demands items in
    repeats_none (scope before m) types (items_demands (own_values m) items)
    (λ x h. in_left (Repeats x) (map Repeats (values ++ (types ++ others))) after
    (repeats_in x (values ++ (types ++ others)) (in_right x values (types ++ others) (in_left x types others h))))
    (no_demand_fault before m none)
  where
    repeats_in : (x : Name) (xs : List Name) → In x xs → In (Repeats x) (map Repeats xs)
    repeats_in x [] h = absurd h
    repeats_in x (y ∷ xs) (inl e) = inl (ap Repeats e)
    repeats_in x (y ∷ xs) (inr h) = inr (repeats_in x xs h)

-- ---- each has its number of arguments

-- where it isn't wrong to have these arguments, the entity has so many parameters
right_number : (modules : List Named) (bindings : List Binding) (u : TypeUse) (e : Entity) → meant bindings Types u.name ≡ e ∷ []
    → (HasWrongNumber modules bindings u → ⊥)
    → parameters_of modules e ≡ Some u.arguments
right_number modules bindings u e means never = by (parameters_of modules e) refl
  where
    differs : (k : ℕ) → nat_eq k u.arguments ≡ false → Some k ≡ Some u.arguments → ⊥
    differs k other same =
        let e : k ≡ u.arguments = cc in
        both_ways (nat_eq k u.arguments) other ((Decides-eqb k u.arguments).1 e)

    numbered : (k : ℕ) (b : Bool) → nat_eq k u.arguments ≡ b → parameters_of modules e ≡ Some k → Some k ≡ Some u.arguments
    numbered k true same is = ap Some ((Decides-eqb k u.arguments).0 same)
    numbered k false other is = absurd (never (record { entity = e; means = means; differs = λ h. differs k other (sym is ∙ h) }))

    none_not : None ≡ Some u.arguments → ⊥
    none_not e = cc

    by : (o : Option ℕ) → parameters_of modules e ≡ o → parameters_of modules e ≡ Some u.arguments
    by (Some k) is = is ∙ numbered k (nat_eq k u.arguments) refl is
    by None is = absurd (never (record { entity = e; means = means; differs = λ h. none_not (sym is ∙ h) }))

module _ (table : List (List ℕ)) (p : Named) (ms : List Named) (k : Kernel) (are : AreDeclared p ms)
    (has : HasTypes (all_types (p ∷ ms)) (all_synonyms (p ∷ ms)) k) where
  abbrev modules : List Named
  modules = p ∷ ms

  use_takes : (i : ℕ) (u : TypeUse) (e : Entity) → meant (scope_at modules i (module_at modules i)) Types u.name ≡ e ∷ []
      → parameters_of modules e ≡ Some u.arguments
      → Takes k (names_in table modules i) u
  use_takes i u e means number =
      ap (λ (es : List Entity). takes_arguments k (of_entity (type_of modules) (synonym_named None) (alone es)) u.arguments) means
      ∙ takes_arity modules k e.owner e.name u.arguments has (has_arity p ms are e.owner e.name u.arguments number)

  pub uses_take : AreScoped [] modules → AreRight modules → (i : ℕ) → i < length modules
      → Every (Takes k (names_in table modules i)) (items_uses (module_at modules i).syntax.items)
  uses_take scoped right i within =
      let m = module_at modules i in
      let one = uses_mean_one (interfaces_before modules i) m (scoped_at [] modules scoped i within) in
      every_from (Takes k (names_in table modules i)) (items_uses m.syntax.items)
      (λ u h. taken u h (every_in (λ (u : TypeUse). MeansOne (scope_at modules i m) u.name) (items_uses m.syntax.items) one u h))
    where
      taken : (u : TypeUse) → In u (items_uses (module_at modules i).syntax.items) → MeansOne (scope_at modules i (module_at modules i)) u.name
          → Takes k (names_in table modules i) u
      taken u h one =
          let m = module_at modules i in
          let place = place_of u (items_uses m.syntax.items) h in
          use_takes i u one.0 one.1
          (right_number modules (scope_at modules i m) u one.0 one.1
          (λ wrong. (right.each i m (slice_get-get_or modules i names.no_module within)).right (arity_fault u)
          (inl (record { used = u; place = place.0; stands = place.1; has = wrong; is = refl }))))

  pub goal_uses_take : (i : ℕ) (goal : Goal) → i < length modules → IsGoalScoped modules i goal → IsGoalRight modules i goal
      → Every (Takes k (names_in table modules i)) (goal_uses goal)
  goal_uses_take i goal within scoped right =
      let m = module_at modules i in
      let there = slice_get-get_or modules i names.no_module within in
      let one = goal_uses_mean_one (interfaces_before modules i) m goal (scoped_in there) in
      every_from (Takes k (names_in table modules i)) (goal_uses goal)
      (λ u h. taken u h there (every_in (λ (u : TypeUse). MeansOne (scope_at modules i m) u.name) (goal_uses goal) one u h))
    where
      scoped_in : slice_get modules i ≡ Some (module_at modules i) → goal_faults (interfaces_before modules i) (module_at modules i) goal ≡ []
      scoped_in there =
          let same : scoped.m ≡ module_at modules i = cc' scoped.is_there there in
          subst (λ (m : Named). goal_faults (interfaces_before modules i) m goal ≡ []) same scoped.right
        where
          cc' : slice_get modules i ≡ Some scoped.m → slice_get modules i ≡ Some (module_at modules i) → scoped.m ≡ module_at modules i
          cc' one two = cc

      taken : (u : TypeUse) → In u (goal_uses goal) → slice_get modules i ≡ Some (module_at modules i)
          → MeansOne (scope_at modules i (module_at modules i)) u.name → Takes k (names_in table modules i) u
      taken u h there one =
          let m = module_at modules i in
          let place = place_of u (goal_uses goal) h in
          use_takes i u one.0 one.1
          (right_number modules (scope_at modules i m) u one.0 one.1
          (λ wrong. right.right m (arity_fault u) there (record { used = u; place = place.0; stands = place.1; has = wrong; is = refl })))

  pub signs_take : (i : ℕ) → TakeSigns k (names_in table modules i)
  signs_take i = record {
    lists = takes_arity modules k prelude_name (codes "[]") 1 has (inl (first_has p ms are (codes "[]") 1 refl));
    tuples = λ n h. takes_arity modules k prelude_name (tuple_name n) n has (inl (first_has p ms are (tuple_name n) n (size_arity n h)));
  }

  -- a type of the Prelude without parameters
  pub prelude_takes : (x : List ℕ) → number_at (all_parameters modules) prelude_name x ≡ Some 0
      → takes_arguments k (type_of modules prelude_name x) 0 ≡ true
  prelude_takes x e = takes_arity modules k prelude_name x 0 has (has_arity p ms are prelude_name x 0 e)
