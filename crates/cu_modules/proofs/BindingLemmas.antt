-- Scopes with more bindings, and interfaces with one more.
use Rattle.std.proofs.Common.{◌≡◌, ◌∙◌, cond, ℕ, ◌+◌, ◌<◌, Bool, true, false, List, [], ◌∷◌, ◌++◌, Option, None, Some, map, take, get_or, length, refl, sym, ap, subst, append_assoc, append-nil, if◌then◌else◌, true≢false}
use Rattle.std.proofs.lemmas.List.{map-append, map_more}
use Rattle.std.proofs.lemmas.List.Concat.{flat_map-append}
use Rattle.std.proofs.lemmas.List.Elements.{All-nil, All-push, filter-append}
use Rattle.std.proofs.lemmas.Slice.Eq.{bytes_eq-Decides}
use Rattle.std.specs.List.{All, filter, flat_map}
use Rattle.std.specs.Option.{option_map}
use Rattle.std.specs.Prelude.{IfSome, nat_eq}
use Rattle.std.specs.Str.{bytes_eq}
use Rattle.std.specs.declared.alloc.Global.{Global}
use Rattle.std.specs.declared.vec.Vec.{Vec}
use Rattle.indexmap.specs.IndexMap.{get}
use Rattle.cu_names.specs.contracts.names.NameIdPartialEq.TheImpl.{eq-value}
use Rattle.cu_names.specs.declared.names.NameId.{NameId}
use Rattle.cu_names.specs.Texts.{AllDiffer, IsKnown, text_of}
use Rattle.cu_entities.specs.Bindings.{Binding}
use Rattle.cu_entities.specs.declared.entities.Entity as code
use Rattle.cu_entities.specs.declared.entities.Sort.TheVariants as sort
use Rattle.cu_entities.specs.Entities.{Entity}
use Rattle.cu_entities.specs.EntityMeaning.{EntityIsKnown, entities_meaning, entity_meaning}
use Rattle.cu_entities.specs.NameTables.{Tells, with_one}
use Rattle.cu_modules.specs.declared.interfaces.Interfaces.{Interfaces}
use Rattle.cu_modules.specs.declared.module_scope.ModuleScope.{ModuleScope}
use Rattle.cu_modules.specs.Inside.Binding.{BoundIsKnown, IsScope, bound_meaning}
use Rattle.cu_modules.specs.Exports.{AreInterfaces, found_items}
use Rattle.cu_modules.specs.Known.{AreEntities}
use Rattle.cu_modules.specs.Scopes.{Interface, binding, exports_of}
use Rattle.cu_modules.proofs.NameLemmas.{same_name}

-- what is read past the end of a list of entities
abbrev pub no_entity : code.Entity
no_entity = record { owner = record { 0 = 0 }; name = record { 0 = 0 }; sort = sort.Function }

-- ---- one binding more

pub one_bound : (names : List (List ℕ)) (bindings : List Binding) (old new : ModuleScope) (qualifier : Option NameId) (e : code.Entity) → Tells names (with_one names bindings qualifier e) new.table
    → new.bound.items ≡ old.bound.items ++ record { qualifier = qualifier; entity = e } ∷ [] → IfSome qualifier (IsKnown names) → EntityIsKnown names e → IsScope names bindings old
    → IsScope names (with_one names bindings qualifier e) new
one_bound names bindings old new qualifier e tells is known_qualifier known before = record {
  tells = tells;
  listed = ap (map (bound_meaning names)) is ∙ map-append (bound_meaning names) old.bound.items (record { qualifier = qualifier; entity = e } ∷ [])
      ∙ ap (λ bs. bs ++ bound_meaning names (record { qualifier = qualifier; entity = e }) ∷ []) before.listed;
  known = subst (All (BoundIsKnown names)) (sym is)
      (All-push (BoundIsKnown names) old.bound.items (record { qualifier = qualifier; entity = e }) before.known (record { qualifier = known_qualifier; entity = known }));
}

pub more_bound : (names : List (List ℕ)) (bindings : List Binding) (qualifier : Option NameId) (es : List code.Entity) (i : ℕ) (d : code.Entity) (new : ModuleScope) → i < length es
    → IsScope names (with_one names (bindings ++ map (binding (option_map (text_of names) qualifier)) (entities_meaning names (take i es))) qualifier (get_or es i d)) new
    → IsScope names (bindings ++ map (binding (option_map (text_of names) qualifier)) (entities_meaning names (take (i + 1) es))) new
more_bound names bindings qualifier es i d new within is =
    let f : Entity → Binding = binding (option_map (text_of names) qualifier) in
    let done = entities_meaning names (take i es) in
    let e = entity_meaning names (get_or es i d) in
    subst (λ bs. IsScope names bs new)
    (append_assoc bindings (map f done) (f e ∷ []) ∙ ap (λ bs. bindings ++ bs) (sym (map-append f done (e ∷ [])) ∙ ap (map f) (sym (map_more (entity_meaning names) es i d within)))) is

-- ---- interfaces

pub no_interface : (names : List (List ℕ)) (s : Interfaces) → ((id : NameId) → get eq-value.it s.exports id ≡ None) → AreInterfaces names [] s
no_interface names s none = record {
  each = λ id known. subst (λ (o : Option (Vec code.Entity Global)). AreEntities names [] (found_items o)) (sym (none id)) (record { are = refl; known = All-nil (EntityIsKnown names) });
}

pub exports_more : (before : List Interface) (i : Interface) (text : List ℕ) → exports_of (before ++ i ∷ []) text ≡ exports_of before text ++ (if bytes_eq i.name text then i.entities else [])
exports_more before i text =
    ap (flat_map (λ (i : Interface). i.entities)) (filter-append (λ (i : Interface). bytes_eq i.name text) before (i ∷ []))
    ∙ flat_map-append (λ (i : Interface). i.entities) (filter (λ (i : Interface). bytes_eq i.name text) before) (filter (λ (i : Interface). bytes_eq i.name text) (i ∷ []))
    ∙ ap (λ es. exports_of before text ++ es) (by (bytes_eq i.name text))
  where
    by : (b : Bool) → flat_map (λ (i : Interface). i.entities) (if b then i ∷ [] else []) ≡ (if b then i.entities else [])
    by true = append-nil i.entities
    by false = refl

pub one_interface : (names : List (List ℕ)) (before : List Interface) (old new : Interfaces) (name : NameId) (found : Vec code.Entity Global) (entities : List Entity) → AllDiffer names → IsKnown names name
    → exports_of before (text_of names name) ≡ [] → AreEntities names entities found.items → AreInterfaces names before old
    → ((id : NameId) → get eq-value.it new.exports id ≡ cond (nat_eq name.0 id.0) (Some found) (get eq-value.it old.exports id))
    → AreInterfaces names (before ++ record { name = text_of names name; entities = entities } ∷ []) new
one_interface names before old new name found entities differ known fresh are is updates = record { each = λ id has. by id has (nat_eq name.0 id.0) (bytes_eq (text_of names name) (text_of names id)) refl refl }
  where
    i : Interface
    i = record { name = text_of names name; entities = entities }

    given : (id : NameId) (h b : Bool) → IsKnown names id → h ≡ b → h ≡ nat_eq name.0 id.0 → bytes_eq (text_of names name) (text_of names id) ≡ b
        → AreEntities names (exports_of before (text_of names id) ++ (if b then entities else [])) (found_items (cond h (Some found) (get eq-value.it old.exports id)))
    given id true true has same is_h is_b =
        let text : text_of names name ≡ text_of names id = (bytes_eq-Decides (text_of names name) (text_of names id)).0 is_b in
        subst (λ (es : List Entity). AreEntities names (es ++ entities) found.items) (sym (ap (exports_of before) (sym text) ∙ fresh)) are
    given id false false has same is_h is_b =
        subst (λ (es : List Entity). AreEntities names es (found_items (get eq-value.it old.exports id))) (sym (append-nil (exports_of before (text_of names id)))) (is.each id has)
    given id true false has same is_h is_b = absurd (true≢false same)
    given id false true has same is_h is_b = absurd (true≢false (sym same))

    by : (id : NameId) → IsKnown names id → (h b : Bool) → nat_eq name.0 id.0 ≡ h → bytes_eq (text_of names name) (text_of names id) ≡ b
        → AreEntities names (exports_of (before ++ i ∷ []) (text_of names id)) (found_items (get eq-value.it new.exports id))
    by id has h b is_h is_b =
        subst (λ (o : Option (Vec code.Entity Global)). AreEntities names (exports_of (before ++ i ∷ []) (text_of names id)) (found_items o)) (sym (updates id ∙ ap (λ h. cond h (Some found) (get eq-value.it old.exports id)) is_h))
        (subst (λ (es : List Entity). AreEntities names es (found_items (cond h (Some found) (get eq-value.it old.exports id))))
        (sym (exports_more before i (text_of names id) ∙ ap (λ b. exports_of before (text_of names id) ++ (if b then entities else [])) is_b))
        (given id h b has (sym is_h ∙ same_name names name id differ known has ∙ is_b) (sym is_h) is_b))

pub exports_found : (names : List (List ℕ)) (before : List Interface) (s : Interfaces) (id : NameId) (found : Option (Vec code.Entity Global)) (items : List code.Entity) → found ≡ get eq-value.it s.exports id
    → items ≡ found_items found → IsKnown names id → AreInterfaces names before s → AreEntities names (exports_of before (text_of names id)) items
exports_found names before s id found items is same known are =
    subst (λ (es : List code.Entity). AreEntities names (exports_of before (text_of names id)) es) (ap found_items (sym is) ∙ sym same) (are.each id known)
