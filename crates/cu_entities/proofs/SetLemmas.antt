-- Entities, each once, with one more.
use Rattle.std.proofs.Common.{◌≡◌, ◌∙◌, ◌||◌, ◌&&◌, not, cond, ℕ, Bool, true, false, List, [], ◌∷◌, ◌++◌, refl, sym, ap, ap₂, subst, if◌then◌else◌}
use denote.Enum.Bare.{sameb}
use Rattle.std.proofs.lemmas.List.{map-append}
use Rattle.std.proofs.lemmas.List.Elements.{All-push}
use Rattle.std.specs.HashSet.{contains}
use Rattle.std.specs.List.{All, list_any}
use Rattle.std.specs.Prelude.{nat_eq}
use Rattle.cu_names.specs.Texts.{AllDiffer}
use Rattle.cu_entities.specs.contracts.entities.Space.{the_type as the_space}
use Rattle.cu_entities.specs.contracts.entity_set.IdentityPartialEq.TheImpl as identities
use Rattle.cu_entities.specs.declared.entities.Entity as code
use Rattle.cu_entities.specs.declared.entities.Space.{Space}
use Rattle.cu_entities.specs.declared.entities.Space.TheVariants as space
use Rattle.cu_entities.specs.declared.entity_set.EntitySet.{EntitySet}
use Rattle.cu_entities.specs.declared.entity_set.Identity.{Identity}
use Rattle.cu_entities.specs.Entities.{Entity, distinct, same_entity}
use Rattle.cu_entities.specs.EntityMeaning.{EntityIsKnown, entities_meaning, entity_meaning, identity_of, same_entities, same_spaces, sort_in}
use Rattle.cu_entities.specs.EntitySets.{IsSet, alike}
use Rattle.cu_entities.proofs.DistinctLemmas.{grown}
use Rattle.cu_entities.proofs.KeyLemmas.{one_entity}

-- ---- what tells entities apart

same_identity : (e f : code.Entity) → identities.eq-value.it (identity_of e) (identity_of f) ≡ same_entities e f
same_identity e f = ap (λ b. nat_eq e.owner.0 f.owner.0 && (nat_eq e.name.0 f.name.0 && b)) (by (sort_in e.sort) (sort_in f.sort))
  where
    by : (a b : Space) → sameb the_space a b ≡ same_spaces a b
    by space.Types space.Types = refl
    by space.Types space.Values = refl
    by space.Values space.Types = refl
    by space.Values space.Values = refl

-- ---- one more

or_right : (b : Bool) → (b || true) ≡ true
or_right true = refl
or_right false = refl

any_more : (test : Entity → Bool) (xs : List Entity) (e : Entity) → list_any test (xs ++ e ∷ []) ≡ (list_any test xs || test e)
any_more test [] e = by (test e)
  where
    by : (b : Bool) → (b || false) ≡ b
    by true = refl
    by false = refl
any_more test (x ∷ xs) e = ap (λ b. test x || b) (any_more test xs e) ∙ by (test x)
  where
    by : (b : Bool) → (b || (list_any test xs || test e)) ≡ ((b || list_any test xs) || test e)
    by true = refl
    by false = refl

seen_more : (here before : Bool) → cond here true before ≡ (before || here)
seen_more true before = sym (or_right before)
seen_more false true = refl
seen_more false false = refl

-- whether an entity is seen, of which one more was
sees : (names : List (List ℕ)) (entities : List Entity) (old new : EntitySet) (e f : code.Entity) → AllDiffer names → EntityIsKnown names e → EntityIsKnown names f → IsSet names entities old
    → contains identities.eq-value.it new.seen (identity_of f) ≡ cond (identities.eq-value.it (identity_of e) (identity_of f)) true (contains identities.eq-value.it old.seen (identity_of f))
    → contains identities.eq-value.it new.seen (identity_of f) ≡ list_any (alike (entity_meaning names f)) (entities ++ entity_meaning names e ∷ [])
sees names entities old new e f differ known_e known_f is updates =
    updates
    ∙ ap₂ (λ h b. cond h true b) (same_identity e f ∙ one_entity names e f differ known_e known_f) (is.seen f known_f)
    ∙ seen_more (same_entity (entity_meaning names e) (entity_meaning names f)) (list_any (alike (entity_meaning names f)) entities)
    ∙ sym (any_more (alike (entity_meaning names f)) entities (entity_meaning names e))

with_new : (names : List (List ℕ)) (entities : List Entity) (old new : EntitySet) (e : code.Entity) → AllDiffer names → EntityIsKnown names e → IsSet names entities old
    → ((f : code.Entity) → contains identities.eq-value.it new.seen (identity_of f) ≡ cond (identities.eq-value.it (identity_of e) (identity_of f)) true (contains identities.eq-value.it old.seen (identity_of f)))
    → contains identities.eq-value.it old.seen (identity_of e) ≡ false → new.list.items ≡ old.list.items ++ e ∷ []
    → IsSet names (entities ++ entity_meaning names e ∷ []) new
with_new names entities old new e differ known is updates absent lists = record {
  listed = ap (entities_meaning names) lists ∙ map-append (entity_meaning names) old.list.items (e ∷ []) ∙ ap (λ es. es ++ entity_meaning names e ∷ []) is.listed
      ∙ sym (grown entities (entity_meaning names e) ∙ ap (λ b. if b then distinct entities else distinct entities ++ entity_meaning names e ∷ []) (sym (is.seen e known) ∙ absent));
  seen = λ f has. sees names entities old new e f differ known has is (updates f);
  known = subst (All (EntityIsKnown names)) (sym lists) (All-push (EntityIsKnown names) old.list.items e is.known known);
}

with_old : (names : List (List ℕ)) (entities : List Entity) (old new : EntitySet) (e : code.Entity) → AllDiffer names → EntityIsKnown names e → IsSet names entities old
    → ((f : code.Entity) → contains identities.eq-value.it new.seen (identity_of f) ≡ cond (identities.eq-value.it (identity_of e) (identity_of f)) true (contains identities.eq-value.it old.seen (identity_of f)))
    → contains identities.eq-value.it old.seen (identity_of e) ≡ true → new.list.items ≡ old.list.items
    → IsSet names (entities ++ entity_meaning names e ∷ []) new
with_old names entities old new e differ known is updates there lists = record {
  listed = ap (entities_meaning names) lists ∙ is.listed
      ∙ sym (grown entities (entity_meaning names e) ∙ ap (λ b. if b then distinct entities else distinct entities ++ entity_meaning names e ∷ []) (sym (is.seen e known) ∙ there));
  seen = λ f has. sees names entities old new e f differ known has is (updates f);
  known = subst (All (EntityIsKnown names)) (sym lists) is.known;
}

-- ---- as an insertion tells it

-- what an insertion of an identity makes of what is seen
abbrev Inserts : EntitySet → EntitySet → Identity → Type 0
Inserts old new i = (j : Identity) → contains identities.eq-value.it new.seen j ≡ cond (identities.eq-value.it i j) true (contains identities.eq-value.it old.seen j)

turned : (a b : Bool) → a ≡ not b → not a ≡ b
turned true true is = sym is
turned true false is = refl
turned false true is = refl
turned false false is = sym is

pub inserted : (names : List (List ℕ)) (entities : List Entity) (old new : EntitySet) (e : code.Entity) (i : Identity) (added : Bool) → AllDiffer names → EntityIsKnown names e
    → IsSet names entities old → i ≡ identity_of e → Inserts old new i → added ≡ not (contains identities.eq-value.it old.seen i) → added ≡ true → new.list.items ≡ old.list.items ++ e ∷ []
    → IsSet names (entities ++ entity_meaning names e ∷ []) new
inserted names entities old new e i added differ known is of updates added_if true_is lists =
    with_new names entities old new e differ known is (λ f. updates (identity_of f) ∙ ap (λ a. cond (identities.eq-value.it a (identity_of f)) true (contains identities.eq-value.it old.seen (identity_of f))) of)
    (ap (contains identities.eq-value.it old.seen) (sym of) ∙ sym (turned added (contains identities.eq-value.it old.seen i) added_if) ∙ ap not true_is) lists

pub kept : (names : List (List ℕ)) (entities : List Entity) (old new : EntitySet) (e : code.Entity) (i : Identity) (added : Bool) → AllDiffer names → EntityIsKnown names e
    → IsSet names entities old → i ≡ identity_of e → Inserts old new i → added ≡ not (contains identities.eq-value.it old.seen i) → added ≡ false → new.list.items ≡ old.list.items
    → IsSet names (entities ++ entity_meaning names e ∷ []) new
kept names entities old new e i added differ known is of updates added_if false_is lists =
    with_old names entities old new e differ known is (λ f. updates (identity_of f) ∙ ap (λ a. cond (identities.eq-value.it a (identity_of f)) true (contains identities.eq-value.it old.seen (identity_of f))) of)
    (ap (contains identities.eq-value.it old.seen) (sym of) ∙ sym (turned added (contains identities.eq-value.it old.seen i) added_if) ∙ ap not false_is) lists
