-- What imports bring into scope.
use Rattle.std.proofs.Common.{◌≡◌, ◌∙◌, not, ℕ, ◌+◌, ◌<◌, ◌≤◌, true, false, List, [], ◌∷◌, ◌++◌, Option, None, Some, Result, map, take, take_all, get_or, length, refl, sym, ap, ap₂, subst, append_assoc, append-nil, arith, if◌then◌else◌}
use Rattle.std.proofs.lemmas.List.{flat_map_more, map_more}
use Rattle.std.specs.declared.alloc.AllocError.{AllocError}
use Rattle.std.specs.List.{All, filter, flat_map}
use Rattle.std.specs.Prelude.{OnOk}
use Rattle.cu_entities.specs.Bindings.{Binding}
use Rattle.cu_entities.specs.declared.entities.Entity as code
use Rattle.cu_entities.specs.Entities.{Entity}
use Rattle.cu_entities.specs.EntityMeaning.{EntityIsKnown, entities_meaning, entity_meaning}
use Rattle.cu_names.specs.declared.names.NameId.{NameId}
use Rattle.cu_names.specs.Texts.{text_of}
use Rattle.cu_syntax.specs.declared.items.Import.{Import}
use Rattle.cu_syntax.specs.Items.{import_meaning}
use Rattle.cu_syntax.specs.Owners.{ImportIsOf}
use Rattle.cu_syntax.specs.Syntax as syntax
use Rattle.cu_modules.specs.BuiltInEntities.{cons}
use Rattle.cu_modules.specs.declared.module_scope.ModuleScope.{ModuleScope}
use Rattle.cu_modules.specs.Inside.Binding.{IsScope}
use Rattle.cu_modules.specs.Inside.Imported.{AreImportsOf}
use Rattle.cu_modules.specs.Known.{AreEntities}
use Rattle.cu_modules.specs.Scopes.{Interface, binding, import_bindings, imported, is_hidden, qualifier_of}

-- entities that are bound, of which a slice has the meaning
rebound : (names : List (List ℕ)) (bindings : List Binding) (p q : Option (List ℕ)) (meant : List Entity) (slice items : List code.Entity) (s : ModuleScope) → p ≡ q → slice ≡ items → AreEntities names meant items
    → IsScope names (bindings ++ map (binding p) (entities_meaning names slice)) s → IsScope names (bindings ++ map (binding q) meant) s
rebound names bindings p q meant slice items s same is are has =
    subst (λ (bs : List Binding). IsScope names bs s) (ap₂ (λ p es. bindings ++ map (binding p) es) same (ap (entities_meaning names) is ∙ are.are)) has

pub slice_known : (names : List (List ℕ)) (meant : List Entity) (slice items : List code.Entity) → slice ≡ items → AreEntities names meant items → All (EntityIsKnown names) slice
slice_known names meant slice items is are = subst (All (EntityIsKnown names)) (sym is) are.known

-- an import that binds after its qualifier alone
pub brought_after : (names : List (List ℕ)) (bindings : List Binding) (mine : List Entity) (before : List Interface) (i : syntax.Import) (q : NameId) (slice items : List code.Entity) (s : ModuleScope)
    → i.qualified ≡ true → text_of names q ≡ qualifier_of i.alias i.name → slice ≡ items → AreEntities names (imported before i) items
    → IsScope names (bindings ++ map (binding (Some (text_of names q))) (entities_meaning names slice)) s → IsScope names (bindings ++ import_bindings mine before i) s
brought_after names bindings mine before i q slice items s qualified text is are has =
    let after = map (binding (Some (qualifier_of i.alias i.name))) (imported before i) in
    subst (λ (bs : List Binding). IsScope names (bindings ++ bs) s)
    (sym (ap (λ b. after ++ map (binding None) (if b then [] else filter (λ e. not (is_hidden mine e)) (imported before i))) qualified ∙ append-nil after))
    (rebound names bindings (Some (text_of names q)) (Some (qualifier_of i.alias i.name)) (imported before i) slice items s (ap Some text) is are has)

-- one that also binds without one
pub brought_also : (names : List (List ℕ)) (bindings : List Binding) (mine : List Entity) (before : List Interface) (i : syntax.Import) (q : NameId) (slice items visible seen : List code.Entity) (s t : ModuleScope)
    (result : Result (Unit {0}) AllocError) → i.qualified ≡ false → text_of names q ≡ qualifier_of i.alias i.name → slice ≡ items → AreEntities names (imported before i) items
    → IsScope names (bindings ++ map (binding (Some (text_of names q))) (entities_meaning names slice)) s
    → visible ≡ seen → AreEntities names (filter (λ e. not (is_hidden mine e)) (imported before i)) seen
    → ((bs : List Binding) → All (EntityIsKnown names) visible → IsScope names bs s → OnOk result (IsScope names (bs ++ map (binding None) (entities_meaning names visible)) t))
    → OnOk result (IsScope names (bindings ++ import_bindings mine before i) t)
brought_also names bindings mine before i q slice items visible seen s t result qualified text is are has same unhidden binds =
    let after = map (binding (Some (qualifier_of i.alias i.name))) (imported before i) in
    let open' = filter (λ e. not (is_hidden mine e)) (imported before i) in
    let first = rebound names bindings (Some (text_of names q)) (Some (qualifier_of i.alias i.name)) (imported before i) slice items s (ap Some text) is are has in
    let whole : (bindings ++ after) ++ map (binding None) (entities_meaning names visible) ≡ bindings ++ import_bindings mine before i =
    ap (λ es. (bindings ++ after) ++ map (binding None) es) (ap (entities_meaning names) same ∙ unhidden.are) ∙ append_assoc bindings after (map (binding None) open')
    ∙ ap (λ b. bindings ++ (after ++ map (binding None) (if b then [] else open'))) (sym qualified) in
    subst (λ (bs : List Binding). OnOk result (IsScope names bs t)) whole (binds (bindings ++ after) (slice_known names open' visible seen same unhidden) first)

-- ---- imports one after another

pub import_more : (owner : NameId) (names : List (List ℕ)) (bindings : List Binding) (mine : List Entity) (before : List Interface) (imports : List Import) (i : ℕ) (import : Import) (old new : ModuleScope)
    → i < length imports → import ≡ get_or imports i import → All (ImportIsOf owner names) imports
    → ((bs : List Binding) → ImportIsOf owner names import → IsScope names bs old → IsScope names (bs ++ import_bindings mine before (import_meaning names import)) new)
    → IsScope names (bindings ++ flat_map (import_bindings mine before) (map (import_meaning names) (take i imports))) old
    → IsScope names (bindings ++ flat_map (import_bindings mine before) (map (import_meaning names) (take (i + 1) imports))) new
import_more owner names bindings mine before imports i import old new within here owned binds has =
    let done = map (import_meaning names) (take i imports) in
    let own : ImportIsOf owner names import = subst (λ (i : Import). ImportIsOf owner names i) (sym here) (owned i import within) in
    let more : map (import_meaning names) (take (i + 1) imports) ≡ done ++ import_meaning names import ∷ [] =
    map_more (import_meaning names) imports i import within ∙ ap (λ (i : Import). done ++ import_meaning names i ∷ []) (sym here) in
    subst (λ (bs : List Binding). IsScope names bs new)
    (flat_map_more (import_bindings mine before) bindings done (import_meaning names import) ∙ ap (λ is. bindings ++ flat_map (import_bindings mine before) is) (sym more))
    (binds (bindings ++ flat_map (import_bindings mine before) done) own has)

pub all_bound : (owner : NameId) (names : List (List ℕ)) (bindings : List Binding) (mine : List Entity) (before : List Interface) (imports : List Import) (meant : List syntax.Import) (i : ℕ) (s : ModuleScope) → length imports ≤ i
    → AreImportsOf owner names meant imports → IsScope names (bindings ++ flat_map (import_bindings mine before) (map (import_meaning names) (take i imports))) s
    → IsScope names (bindings ++ flat_map (import_bindings mine before) meant) s
all_bound owner names bindings mine before imports meant i s done are has =
    subst (λ is. IsScope names (bindings ++ flat_map (import_bindings mine before) is) s) (ap (map (import_meaning names)) (take_all i imports done) ∙ are.are) has

-- ---- a module's own entities

pub same_bound : (names : List (List ℕ)) (bindings : List Binding) (q : Option (List ℕ)) (meant : List Entity) (items : List code.Entity) (s : ModuleScope) → AreEntities names meant items
    → IsScope names (bindings ++ map (binding q) (entities_meaning names items)) s → IsScope names (bindings ++ map (binding q) meant) s
same_bound names bindings q meant items s are has = rebound names bindings q q meant items items s refl refl are has

pub first_bound : (names : List (List ℕ)) (e : code.Entity) (s : ModuleScope) → AreEntities names (cons ∷ []) (e ∷ []) → (EntityIsKnown names e → IsScope names (binding None (entity_meaning names e) ∷ []) s)
    → IsScope names (binding None cons ∷ []) s
first_bound names e s is binds =
    subst (λ (f : Entity). IsScope names (binding None f ∷ []) s) (ap (λ es. get_or es 0 cons) is.are) (binds (is.known 0 e (omega arith)))
