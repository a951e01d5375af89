-- Keys of a table of what names mean, and the bindings that they find.
use Rattle.std.proofs.Common.{◌≡◌, ◌∙◌, ◌&&◌, cond, ℕ, true, List, [], ◌∷◌, ◌++◌, Option, None, Some, refl, sym, ap, true≢false}
use denote.Enum.Bare.{sameb}
use Rattle.std.proofs.lemmas.Bool.{and_parts}
use Rattle.std.proofs.lemmas.Bool.Decides.{Decides-eqb, same_from_decides}
use Rattle.std.proofs.lemmas.Slice.Eq.{bytes_eq-Decides}
use Rattle.std.specs.Option.{option_eq, option_map}
use Rattle.std.specs.Prelude.{IfSome, nat_eq}
use Rattle.std.specs.Str.{bytes_eq}
use Rattle.cu_names.specs.contracts.names.NameIdPartialEq.TheImpl as ids
use Rattle.cu_names.specs.declared.names.NameId.{NameId}
use Rattle.cu_names.specs.Texts.{AllDiffer, IsKnown, text_of}
use Rattle.cu_entities.specs.contracts.entities.Space.{the_type as the_space}
use Rattle.cu_entities.specs.contracts.name_table.KeyPartialEq.TheImpl as keys
use Rattle.cu_entities.specs.declared.entities.Entity as code
use Rattle.cu_entities.specs.declared.entities.Sort.{Sort}
use Rattle.cu_entities.specs.declared.entities.Sort.TheVariants as sort
use Rattle.cu_entities.specs.declared.entities.Space.{Space}
use Rattle.cu_entities.specs.declared.entities.Space.TheVariants as space
use Rattle.cu_entities.specs.declared.name_table.Key.{Key}
use Rattle.cu_entities.specs.declared.name_table.Meant.{Meant}
use Rattle.cu_entities.specs.Entities as meant
use Rattle.cu_entities.specs.Entities.{same_entity, same_space, space_of}
use Rattle.cu_entities.specs.EntityMeaning.{EntityIsKnown, entity_meaning, same_entities, same_spaces, sort_in, sort_meaning, space_meaning}
use Rattle.cu_entities.specs.Bindings.{Binding, is_bound, same_qualifier}
use Rattle.cu_entities.specs.NameTables.{IsTable, KeyIsKnown, binding_of, joined, key_of}
use Rattle.cu_entities.proofs.NameLemmas.{same_name}
use Rattle.cu_entities.proofs.TableLemmas.{base_of_key, qualifier_of_key, space_of_key, table_more}

-- ---- keys that are equal

same_id : (a b : NameId) → nat_eq a.0 b.0 ≡ true → a ≡ b
same_id a b is = ap (λ (n : ℕ). record { 0 = n }) ((Decides-eqb a.0 b.0).0 is)

same_option : (p q : Option NameId) → option_eq ids.eq-value.it p q ≡ true → p ≡ q
same_option None None is = refl
same_option None (Some b) is = absurd (true≢false (sym is))
same_option (Some a) None is = absurd (true≢false (sym is))
same_option (Some a) (Some b) is = ap Some (same_id a b is)

-- ---- keys by their texts

bytes_turned : (x y : List ℕ) → bytes_eq x y ≡ bytes_eq y x
bytes_turned x y =
    let there = bytes_eq-Decides x y in
    let converse = bytes_eq-Decides y x in
    same_from_decides (bytes_eq x y) (bytes_eq y x) there (λ e. sym (converse.0 e), λ e. converse.1 (sym e))

turned_name : (names : List (List ℕ)) (a b : NameId) → AllDiffer names → IsKnown names a → IsKnown names b → nat_eq a.0 b.0 ≡ bytes_eq (text_of names b) (text_of names a)
turned_name names a b differ known_a known_b = same_name names a b differ known_a known_b ∙ bytes_turned (text_of names a) (text_of names b)

qualifiers : (names : List (List ℕ)) (p q : Option NameId) → AllDiffer names → IfSome p (IsKnown names) → IfSome q (IsKnown names)
    → option_eq ids.eq-value.it p q ≡ same_qualifier (option_map (text_of names) q) (option_map (text_of names) p)
qualifiers names None None differ p q = refl
qualifiers names None (Some b) differ p q = refl
qualifiers names (Some a) None differ p q = refl
qualifiers names (Some a) (Some b) differ p q = turned_name names a b differ p q

sort_space : (names : List (List ℕ)) (s : Sort) → space_meaning (sort_in s) ≡ space_of (sort_meaning names s)
sort_space names sort.Function = refl
sort_space names (sort.SetFunction n) = refl
sort_space names (sort.Constructor id) = refl
sort_space names sort.DataType = refl
sort_space names sort.Synonym = refl

space_turned : (s t : meant.Space) → same_space s t ≡ same_space t s
space_turned meant.Types meant.Types = refl
space_turned meant.Types meant.Values = refl
space_turned meant.Values meant.Types = refl
space_turned meant.Values meant.Values = refl

-- a key that is made of an entity, and another one
of_entity : (qualifier : Option NameId) (e : code.Entity) (p : Option NameId) (n : NameId) (s : Space)
    → keys.eq-value.it (key_of qualifier e) (record { qualifier = p; base = n; space = s }) ≡ (option_eq ids.eq-value.it qualifier p && (nat_eq e.name.0 n.0 && same_spaces (sort_in e.sort) s))
of_entity qualifier e p n s = ap (λ b. option_eq ids.eq-value.it qualifier p && (nat_eq e.name.0 n.0 && b)) (by (sort_in e.sort) s)
  where
    by : (a b : Space) → sameb the_space a b ≡ same_spaces a b
    by space.Types space.Types = refl
    by space.Types space.Values = refl
    by space.Values space.Types = refl
    by space.Values space.Values = refl

pub finds : (names : List (List ℕ)) (qualifier : Option NameId) (e : code.Entity) (k : Key) → AllDiffer names → IfSome qualifier (IsKnown names) → EntityIsKnown names e → KeyIsKnown names k
    → keys.eq-value.it (key_of qualifier e) k ≡ is_bound (space_of_key k) (qualifier_of_key names k) (base_of_key names k) (binding_of names qualifier e)
finds names qualifier e k differ q known has =
    of_entity qualifier e k.qualifier k.base k.space
    ∙ (λ j. qualifiers names qualifier k.qualifier differ q has.qualifier j
    && (turned_name names e.name k.base differ known.name has.base j
    && (space_turned (space_meaning (sort_in e.sort)) (space_meaning k.space) ∙ ap (same_space (space_meaning k.space)) (sort_space names e.sort)) j))

pub one_entity : (names : List (List ℕ)) (e f : code.Entity) → AllDiffer names → EntityIsKnown names e → EntityIsKnown names f
    → same_entities e f ≡ same_entity (entity_meaning names e) (entity_meaning names f)
one_entity names e f differ known_e known_f = λ j.
    same_name names e.owner f.owner differ known_e.owner known_f.owner j
    && (same_name names e.name f.name differ known_e.name known_f.name j && same_space (sort_space names e.sort j) (sort_space names f.sort j))

pub key_same : (a b : Key) → keys.eq-value.it a b ≡ true → a ≡ b
key_same a b is =
    let outer = and_parts (option_eq ids.eq-value.it a.qualifier b.qualifier) (nat_eq a.base.0 b.base.0 && sameb the_space a.space b.space) is in
    let inner = and_parts (nat_eq a.base.0 b.base.0) (sameb the_space a.space b.space) outer.1 in
    λ j. record { qualifier = same_option a.qualifier b.qualifier outer.0 j; base = same_id a.base b.base inner.0 j; space = spaces a.space b.space inner.1 j }
  where
    spaces : (s t : Space) → sameb the_space s t ≡ true → s ≡ t
    spaces space.Types space.Types is = refl
    spaces space.Values space.Values is = refl
    spaces space.Types space.Values is = absurd (true≢false (sym is))
    spaces space.Values space.Types is = absurd (true≢false (sym is))

-- ---- one binding more

pub bound : (names : List (List ℕ)) (bindings : List Binding) (old new : Key → Option Meant) (key : Key) (found : Meant) (qualifier : Option NameId) (e : code.Entity)
    → AllDiffer names → IfSome qualifier (IsKnown names) → EntityIsKnown names e → IsTable names bindings old → key ≡ key_of qualifier e
    → ((k : Key) → new k ≡ cond (keys.eq-value.it key k) (Some found) (old k)) → found ≡ joined (old key) e
    → IsTable names (bindings ++ binding_of names qualifier e ∷ []) new
bound names bindings old new key found qualifier e differ q known table is gives joins =
    table_more names bindings (binding_of names qualifier e) old new (keys.eq-value.it key) key e table known refl
    (λ k here. ap old (sym (key_same key k here)))
    (λ k. gives k ∙ ap (λ m. cond (keys.eq-value.it key k) (Some m) (old k)) joins)
    (λ k has. ap (λ a. keys.eq-value.it a k) is ∙ finds names qualifier e k differ q known has)
    (λ f has. one_entity names f e differ has known)
