-- A table of what names mean, with one binding more.
use Rattle.std.proofs.Common.{◌≡◌, ◌∙◌, ◌||◌, cond, ℕ, Bool, true, false, List, [], ◌∷◌, ◌++◌, Option, None, Some, refl, sym, ap, subst, append-nil, ap₂, if◌then◌else◌, true≢false}
use Rattle.std.proofs.lemmas.List.{map-append}
use Rattle.std.proofs.lemmas.List.Elements.{filter-append}
use Rattle.std.specs.List.{filter, list_any}
use Rattle.std.specs.Option.{option_map}
use Rattle.std.specs.Prelude.{IfSome}
use Rattle.cu_names.specs.Texts.{text_of}
use Rattle.cu_entities.specs.declared.entities.Entity as code
use Rattle.cu_entities.specs.declared.name_table.Key.{Key}
use Rattle.cu_entities.specs.declared.name_table.Meant.{Meant}
use Rattle.cu_entities.specs.declared.name_table.Meant.TheVariants as meant
use Rattle.cu_entities.specs.Entities.{Entity, Space, distinct, same_entity}
use Rattle.cu_entities.specs.EntityMeaning.{EntityIsKnown, entity_meaning, same_entities, space_meaning}
use Rattle.cu_entities.specs.NameTables.{joined}
use Rattle.cu_entities.specs.Bindings.{Alone, Binding, Count, Many, counted, entities_of, is_bound, meant_by}
use Rattle.cu_entities.specs.NameTables.{IsTable, KeyIsKnown, MeantIsKnown, count_meaning, meant_at}
use Rattle.cu_entities.proofs.DistinctLemmas.{among_distinct, grown}
use Rattle.cu_entities.specs.EntitySets.{alike}

abbrev pub space_of_key : Key → Space
space_of_key k = space_meaning k.space

abbrev pub qualifier_of_key : List (List ℕ) → Key → Option (List ℕ)
qualifier_of_key names k = option_map (text_of names) k.qualifier

abbrev pub base_of_key : List (List ℕ) → Key → List ℕ
base_of_key names k = text_of names k.base

-- what a name means with one more entity
abbrev counted_with : Option Count → Entity → Count
counted_with None e = Alone e
counted_with (Some (Alone f)) e = if same_entity f e then Alone f else Many
counted_with (Some Many) e = Many

one_more : (ds : List Entity) (e : Entity) → counted (if list_any (alike e) ds then ds else ds ++ e ∷ []) ≡ Some (counted_with (counted ds) e)
one_more [] e = refl
one_more (f ∷ []) e = by (same_entity f e)
  where
    by : (b : Bool) → counted (if b || false then f ∷ [] else f ∷ e ∷ []) ≡ Some (if b then Alone f else Many)
    by true = refl
    by false = refl
one_more (f ∷ g ∷ ds) e = by (list_any (alike e) (f ∷ g ∷ ds))
  where
    by : (b : Bool) → counted (if b then f ∷ g ∷ ds else f ∷ g ∷ ds ++ e ∷ []) ≡ Some Many
    by true = refl
    by false = refl

distinct_more : (xs : List Entity) (e : Entity) → counted (distinct (xs ++ e ∷ [])) ≡ Some (counted_with (counted (distinct xs)) e)
distinct_more xs e =
    ap counted (grown xs e) ∙ ap (λ b. counted (if b then distinct xs else distinct xs ++ e ∷ [])) (sym (among_distinct e xs)) ∙ one_more (distinct xs) e

-- a name that means what is bound, and one that doesn't
bound_more : (bs : List Binding) (b : Binding) (space : Space) (qualifier : Option (List ℕ)) (base : List ℕ) (here : Bool) → is_bound space qualifier base b ≡ here
    → counted (meant_by (bs ++ b ∷ []) space qualifier base) ≡ (if here then Some (counted_with (counted (meant_by bs space qualifier base)) b.entity) else counted (meant_by bs space qualifier base))
bound_more bs b space qualifier base here is =
    ap (λ found. counted (distinct (entities_of found)))
    (filter-append (is_bound space qualifier base) bs (b ∷ []) ∙ ap (λ h. filter (is_bound space qualifier base) bs ++ (if h then b ∷ [] else [])) is)
    ∙ by here
  where
    by : (h : Bool) → counted (distinct (entities_of (filter (is_bound space qualifier base) bs ++ (if h then b ∷ [] else []))))
        ≡ (if h then Some (counted_with (counted (distinct (entities_of (filter (is_bound space qualifier base) bs)))) b.entity) else counted (distinct (entities_of (filter (is_bound space qualifier base) bs))))
    by true =
        ap (λ es. counted (distinct es)) (map-append (λ (b : Binding). b.entity) (filter (is_bound space qualifier base) bs) (b ∷ []))
        ∙ distinct_more (entities_of (filter (is_bound space qualifier base) bs)) b.entity
    by false = ap (λ found. counted (distinct (entities_of found))) (append-nil (filter (is_bound space qualifier base) bs))

-- the same by numbers
joined_as : (names : List (List ℕ)) (old : Option Meant) (e : code.Entity) → IfSome old (MeantIsKnown names)
    → ((f : code.Entity) → EntityIsKnown names f → same_entities f e ≡ same_entity (entity_meaning names f) (entity_meaning names e))
    → count_meaning names (joined old e) ≡ counted_with (option_map (count_meaning names) old) (entity_meaning names e)
joined_as names None e known same = refl
joined_as names (Some (meant.One f)) e known same = by (same_entities f e) (same_entity (entity_meaning names f) (entity_meaning names e)) (same f known)
  where
    by : (a b : Bool) → a ≡ b → count_meaning names (if a then meant.One f else meant.Several) ≡ (if b then Alone (entity_meaning names f) else Many)
    by true true h = refl
    by false false h = refl
    by true false h = absurd (true≢false h)
    by false true h = absurd (true≢false (sym h))
joined_as names (Some meant.Several) e known same = refl

joined_known : (names : List (List ℕ)) (old : Option Meant) (e : code.Entity) → IfSome old (MeantIsKnown names) → EntityIsKnown names e → MeantIsKnown names (joined old e)
joined_known names None e known is = is
joined_known names (Some (meant.One f)) e known is = by (same_entities f e)
  where
    by : (b : Bool) → MeantIsKnown names (if b then meant.One f else meant.Several)
    by true = known
    by false = tt
joined_known names (Some meant.Several) e known is = tt

-- A table that gives the joined meaning at one key, and what it gave before at others.
pub table_more : (names : List (List ℕ)) (bindings : List Binding) (b : Binding) (old new : Key → Option Meant) (here : Key → Bool) (key : Key) (e : code.Entity)
    → IsTable names bindings old → EntityIsKnown names e → b.entity ≡ entity_meaning names e
    → ((k : Key) → here k ≡ true → old k ≡ old key)
    → ((k : Key) → new k ≡ cond (here k) (Some (joined (old key) e)) (old k))
    → ((k : Key) → KeyIsKnown names k → here k ≡ is_bound (space_of_key k) (qualifier_of_key names k) (base_of_key names k) b)
    → ((f : code.Entity) → EntityIsKnown names f → same_entities f e ≡ same_entity (entity_meaning names f) (entity_meaning names e))
    → IsTable names (bindings ++ b ∷ []) new
table_more names bindings b old new here key e table known is one gives bound same = record {
  means = λ k has. means k has (here k) refl;
  known = λ k. subst (λ (o : Option Meant). IfSome o (MeantIsKnown names)) (sym (gives k)) (is_known k (here k));
}
  where
    is_known : (k : Key) (h : Bool) → IfSome (cond h (Some (joined (old key) e)) (old k)) (MeantIsKnown names)
    is_known k true = joined_known names (old key) e (table.known key) known
    is_known k false = table.known k

    by : (k : Key) → KeyIsKnown names k → (h : Bool) → here k ≡ h
        → option_map (count_meaning names) (cond h (Some (joined (old key) e)) (old k)) ≡ (if h then Some (counted_with (meant_at names bindings k) b.entity) else meant_at names bindings k)
    by k has true h =
        ap Some (joined_as names (old key) e (table.known key) same
        ∙ ap₂ (λ o f. counted_with (option_map (count_meaning names) o) f) (sym (one k h)) (sym is)
        ∙ ap (λ o. counted_with o b.entity) (table.means k has))
    by k has false h = table.means k has

    means : (k : Key) → KeyIsKnown names k → (h : Bool) → here k ≡ h → option_map (count_meaning names) (new k) ≡ meant_at names (bindings ++ b ∷ []) k
    means k has h is_here =
        ap (option_map (count_meaning names)) (gives k ∙ ap (λ h. cond h (Some (joined (old key) e)) (old k)) is_here)
        ∙ by k has h is_here
        ∙ sym (bound_more bindings b (space_of_key k) (qualifier_of_key names k) (base_of_key names k) h (sym (bound k has) ∙ is_here))
