-- A synonym that leads to itself in a program leads to itself in its module.
use Rattle.std.proofs.Common.{◌≡◌, ◌∙◌, ◌⊎◌, inl, inr, ◌<◌, ◌≤◌, ◌+◌, ◌&&◌, ◌||◌, ℕ, zero, suc, Bool, true, false, List, [], ◌∷◌, ◌++◌, Option, None, Some, length, map, get_or, refl, sym, ap, subst, arith, if◌then◌else◌, codes}
use Rattle.std.proofs.lemmas.Bool.{and_from, and_parts, both_ways}
use Rattle.std.proofs.lemmas.Bool.Decides.{Decides-eqb}
use Rattle.std.proofs.lemmas.List.{length-map}
use Rattle.std.proofs.lemmas.Option.{slice_get-get_or, slice_get-map, slice_get_within}
use Rattle.std.proofs.lemmas.Slice.Eq.{bytes_eq-Decides}
use Rattle.std.specs.List.{flat_map, slice_get}
use Rattle.std.specs.Option.{option_map}
use Rattle.std.specs.Prelude.{nat_eq}
use Rattle.std.specs.Str.{bytes_eq}
use Rattle.cu_entities.specs.Entities.{Entity, Types}
use Rattle.cu_kernel.specs.Kernel as kernel
use Rattle.cu_kernel.specs.Kernel.{Kernel}
use Rattle.cu_kernel.specs.TypeExpr as type
use Rattle.cu_kernel.specs.declared.type_term.TypeName.TheVariants as name
use Rattle.cu_kernel.specs.declared.type_term.TypeName.{TypeName}
use Rattle.cu_syntax.specs.Syntax as syntax
use Rattle.cu_syntax.specs.Syntax.{Item, Name, TypeTerm, TypeTerms}
use Rattle.cu_uses.specs.Binders.{is_among, texts}
use Rattle.cu_modules.specs.BuiltInEntities.{prelude_name}
use Rattle.cu_modules.specs.Ordering.{AllNew}
use Rattle.cu_modules.specs.Scopes.{Named, meant}
use Rattle.cu_declared.specs.Parameters.{number_at}
use Rattle.cu_declared.specs.SynonymCycles as cycles
use Rattle.cu_declared.specs.SynonymCycles.{Mentions, numbers_from, synonym_numbers}
use Rattle.cu_declared.specs.TypeFaults.{AreRight, cycle_fault, scope_at}
use Rattle.cu_declared.specs.TypeUses.{TypeUse, item_uses, items_uses, type_uses, types_uses}
use Rattle.cu_translation.specs.Around.{Names, tuple_name}
use Rattle.cu_translation.specs.ModuleNames.{alone, module_at, names_in, no_module, of_entity, synonym_named, type_of}
use Rattle.cu_translation.specs.ModuleTypes as types
use Rattle.cu_translation.specs.ModuleTypes.{Reading}
use Rattle.cu_translation.specs.Numbered as numbered
use Rattle.cu_translation.specs.Numbered.{Declared, all_synonyms, all_types, is_called, synonyms_in}
use Rattle.cu_translation.specs.Parts.{reading}
use Rattle.cu_translation.specs.TypeTable as table_of
use Rattle.cu_translation.specs.TypeTable.{type_count}
use Rattle.cu_types.specs.Synonyms.{LeadsTo, at_once, body_of, further, names_synonym, some_name_synonym}
use Rattle.cu_front_laws.proofs.AppliedTypes.{size_arity}
use Rattle.cu_front_laws.proofs.Members.{Every, In, Sub, at_gather, every_at, gather, gathered, in_left, in_right, one_home, place_of, stands, start_of, starts_same, compare}
use Rattle.cu_front_laws.proofs.NarrowTexts.{NarrowItem, NarrowType, NarrowTypes, is_size}
use Rattle.cu_front_laws.proofs.Owners.{means_owned}
use Rattle.cu_front_laws.proofs.TypeArities.{AreDeclared, FirstAt, among_prefix, among_last, first_at, first_has, first_is_data, synonym_numbered}

-- ---- the synonyms of items

-- the source of a synonym of a program
pub record Declares (r : Reading) (items : List Item) (a : ℕ) (s : kernel.Synonym) : Type 0 where
  pub parameters : List Name
  pub synonym : cycles.Synonym
  pub at : slice_get (flat_map cycles.synonyms_by items) a ≡ Some synonym
  pub body : s.body ≡ table_of.type_of r.names (texts parameters) synonym.right
  pub uses : Sub (type_uses synonym.right) (items_uses items)
  pub narrow : NarrowType synonym.right

abbrev body_if : Option kernel.Synonym → type.TypeExpr
body_if None = type.Variable 0
body_if (Some s) = s.body

after_item : (r : Reading) (i : Item) (items : List Item) (a b : ℕ) (s : kernel.Synonym)
    → ((x : cycles.Synonym) → slice_get (flat_map cycles.synonyms_by items) a ≡ Some x
    → slice_get (flat_map cycles.synonyms_by (i ∷ items)) b ≡ Some x)
    → Declares r items a s → Declares r (i ∷ items) b s
after_item r i items a b s there d = record {
  parameters = d.parameters;
  synonym = d.synonym;
  at = there d.synonym d.at;
  body = d.body;
  uses = λ u h. in_right u (item_uses i) (items_uses items) (d.uses u h);
  narrow = d.narrow;
}

pub declares : (r : Reading) (items : List Item) → Every NarrowItem items → (a : ℕ) (s : kernel.Synonym)
    → slice_get (flat_map (types.synonyms_by r) items) a ≡ Some s → Declares r items a s
declares r [] every a s e = absurd cc
declares r (syntax.Synonym at nm ps t ∷ items) every zero s e =
    record {
      parameters = ps;
      synonym = record { at = at; name = nm.text; right = t };
      at = refl;
      body = ap body_if (sym e);
      uses = λ u h. in_left u (type_uses t) (items_uses items) h;
      narrow = every.0;
    }
declares r (syntax.Synonym at nm ps t ∷ items) every (suc a) s e =
    after_item r (syntax.Synonym at nm ps t) items a (suc a) s (λ x h. h) (declares r items every.1 a s e)
declares r (syntax.Data at nm ps cs ∷ items) every a s e =
    after_item r (syntax.Data at nm ps cs) items a a s (λ x h. h) (declares r items every.1 a s e)
declares r (syntax.ImportItem found ∷ items) every a s e =
    after_item r (syntax.ImportItem found) items a a s (λ x h. h) (declares r items every.1 a s e)
declares r (syntax.Fixity at to level operators ∷ items) every a s e =
    after_item r (syntax.Fixity at to level operators) items a a s (λ x h. h) (declares r items every.1 a s e)
declares r (syntax.DeclarationItem d ∷ items) every a s e =
    after_item r (syntax.DeclarationItem d) items a a s (λ x h. h) (declares r items every.1 a s e)

pub synonym_arities : (r : Reading) (o : List ℕ) (items : List Item)
    → map (λ (s : kernel.Synonym). s.arity) (flat_map (types.synonyms_by r) items) ≡ map (λ (d : Declared). d.arity)
    (flat_map (numbered.synonyms_by o) items)
synonym_arities r o [] = refl
synonym_arities r o (syntax.Synonym at nm ps t ∷ items) = ap (λ xs. length ps ∷ xs) (synonym_arities r o items)
synonym_arities r o (syntax.Data at nm ps cs ∷ items) = synonym_arities r o items
synonym_arities r o (syntax.ImportItem found ∷ items) = synonym_arities r o items
synonym_arities r o (syntax.Fixity at to level operators ∷ items) = synonym_arities r o items
synonym_arities r o (syntax.DeclarationItem d ∷ items) = synonym_arities r o items

synonym_names : (o : List ℕ) (items : List Item)
    → map (λ (s : cycles.Synonym). s.name) (flat_map cycles.synonyms_by items) ≡ map (λ (d : Declared). d.name)
    (flat_map (numbered.synonyms_by o) items)
synonym_names o [] = refl
synonym_names o (syntax.Synonym at nm ps t ∷ items) = ap (λ xs. nm.text ∷ xs) (synonym_names o items)
synonym_names o (syntax.Data at nm ps cs ∷ items) = synonym_names o items
synonym_names o (syntax.ImportItem found ∷ items) = synonym_names o items
synonym_names o (syntax.Fixity at to level operators ∷ items) = synonym_names o items
synonym_names o (syntax.DeclarationItem d ∷ items) = synonym_names o items

synonym_owners : (o : List ℕ) (items : List Item) → Every (λ (d : Declared). d.owner ≡ o) (flat_map (numbered.synonyms_by o) items)
synonym_owners o [] = tt
synonym_owners o (syntax.Synonym at nm ps t ∷ items) = (refl, synonym_owners o items)
synonym_owners o (syntax.Data at nm ps cs ∷ items) = synonym_owners o items
synonym_owners o (syntax.ImportItem found ∷ items) = synonym_owners o items
synonym_owners o (syntax.Fixity at to level operators ∷ items) = synonym_owners o items
synonym_owners o (syntax.DeclarationItem d ∷ items) = synonym_owners o items

-- the first of a name has its place as a number
number_first : (ss : List cycles.Synonym) (c : ℕ) (o q x : List ℕ) (b : ℕ) (s : cycles.Synonym) → bytes_eq o q ≡ true → slice_get ss b ≡ Some s
    → bytes_eq s.name x ≡ true
    → ((k : ℕ) (t : cycles.Synonym) → k < b → slice_get ss k ≡ Some t → bytes_eq t.name x ≡ false)
    → number_at (numbers_from c o ss) q x ≡ Some (c + b)
number_first [] c o q x b s owner at is others = absurd cc
number_first (t ∷ ss) c o q x zero s owner at is others =
    let same : t ≡ s = cc in
    let here : bytes_eq t.name x ≡ true = ap (λ (r : cycles.Synonym). bytes_eq r.name x) same ∙ is in
    let number : c ≡ c + 0 = omega arith in
    ap (λ b. if b then Some c else number_at (numbers_from (c + 1) o ss) q x) (and_from (bytes_eq o q) (bytes_eq t.name x) owner here)
    ∙ ap Some number
number_first (t ∷ ss) c o q x (suc b) s owner at is others =
    let other : (bytes_eq o q && bytes_eq t.name x) ≡ false = (λ j. owner j && others 0 t (omega arith) refl j) in
    let number : c + 1 + b ≡ c + suc b = omega arith in
    ap (λ b. if b then Some c else number_at (numbers_from (c + 1) o ss) q x) other
    ∙ number_first ss (c + 1) o q x b s owner at is (λ k r h e. others (suc k) r (omega arith) e) ∙ ap Some number

there_is : {A : Type 0} (xs : List A) (i : ℕ) → i < length xs → (x : A) × (slice_get xs i ≡ Some x)
there_is [] i h = absurd (omega arith)
there_is (x ∷ xs) zero h = (x, refl)
there_is (x ∷ xs) (suc i) h = there_is xs i (omega arith)

-- ---- the name that is a synonym

-- a synonym that a type names is its head, or is named by its arguments
head_or_rest : (s : ℕ) (n : TypeName) (ts : type.TypeExprs) → names_synonym s (type.Named n ts) ≡ true
    → (n ≡ name.Synonym (record { 0 = s })) ⊎ (some_name_synonym s ts ≡ true)
head_or_rest s (name.Data t) ts h = inr h
head_or_rest s (name.Synonym r) ts h = by (nat_eq r.0 s) refl h
  where
    by : (b : Bool) → nat_eq r.0 s ≡ b → (b || some_name_synonym s ts) ≡ true
        → (name.Synonym r ≡ name.Synonym (record { 0 = s })) ⊎ (some_name_synonym s ts ≡ true)
    by true e h = inl (ap (λ (k : ℕ). name.Synonym (record { 0 = k })) ((Decides-eqb r.0 s).0 e))
    by false e h = inr h

either : (a b : Bool) → (a || b) ≡ true → (a ≡ true) ⊎ (b ≡ true)
either true b h = inl refl
either false b h = inr h

-- a use whose name is this synonym
abbrev UsesSynonym : Names → ℕ → List TypeUse → Type 0
UsesSynonym names s us = (u : TypeUse) × In u us × (names.type u.name ≡ name.Synonym (record { 0 = s }))

use_left : (names : Names) (s : ℕ) (xs ys : List TypeUse) → UsesSynonym names s xs → UsesSynonym names s (xs ++ ys)
use_left names s xs ys h = (h.0, in_left h.0 xs ys h.1, h.2)

use_right : (names : Names) (s : ℕ) (xs ys : List TypeUse) → UsesSynonym names s ys → UsesSynonym names s (xs ++ ys)
use_right names s xs ys h = (h.0, in_right h.0 xs ys h.1, h.2)

-- the signs of lists and tuples mean data types
pub record AreData (names : Names) : Type 0 where
  pub lists : (i : ℕ) × (names.prelude_type (codes "[]") ≡ name.Data (record { 0 = i }))
  pub tuples : (n : ℕ) → is_size n ≡ true → (i : ℕ) × (names.prelude_type (tuple_name n) ≡ name.Data (record { 0 = i }))

data_not : {B : Type 0} (n : TypeName) (i s : ℕ) → n ≡ name.Data (record { 0 = i }) → n ≡ name.Synonym (record { 0 = s }) → B
data_not n i s d e = absurd cc

module _ (names : Names) (data' : AreData names) (variables : List (List ℕ)) (s : ℕ) where
  mutual
    used_synonym : (t : TypeTerm) → NarrowType t → names_synonym s (table_of.type_of names variables t) ≡ true → UsesSynonym names s (type_uses t)
    used_synonym (syntax.TypeVariable x) narrow h = absurd (both_ways false refl h)
    used_synonym (syntax.TypeNamed n ts) narrow h =
        by (head_or_rest s (names.type n) (table_of.types_of names variables ts) h) (used_in_all ts narrow)
      where
        by : (names.type n ≡ name.Synonym (record { 0 = s })) ⊎ (some_name_synonym s (table_of.types_of names variables ts) ≡ true)
            → ((some_name_synonym s (table_of.types_of names variables ts) ≡ true) → UsesSynonym names s (types_uses ts))
            → UsesSynonym names s (type_uses (syntax.TypeNamed n ts))
        by (inl e) go = (_, inl refl, e)
        by (inr h) go = let u = go h in (u.0, inr u.1, u.2)
    used_synonym (syntax.Arrow at a b) narrow h =
        by (either (names_synonym s (table_of.type_of names variables a)) (names_synonym s (table_of.type_of names variables b)) h)
        (used_synonym a narrow.0) (used_synonym b narrow.1)
      where
        by : (names_synonym s (table_of.type_of names variables a) ≡ true) ⊎ (names_synonym s (table_of.type_of names variables b) ≡ true)
            → ((names_synonym s (table_of.type_of names variables a) ≡ true) → UsesSynonym names s (type_uses a))
            → ((names_synonym s (table_of.type_of names variables b) ≡ true) → UsesSynonym names s (type_uses b))
            → UsesSynonym names s (type_uses a ++ type_uses b)
        by (inl h) one two = use_left names s (type_uses a) (type_uses b) (one h)
        by (inr h) one two = use_right names s (type_uses a) (type_uses b) (two h)
    used_synonym (syntax.TypeTuple at ts) narrow h =
        by (head_or_rest s (names.prelude_type (tuple_name (type_count ts))) (table_of.types_of names variables ts) h) (used_in_all ts narrow.1)
      where
        by : (names.prelude_type (tuple_name (type_count ts)) ≡ name.Synonym (record { 0 = s })) ⊎
            (some_name_synonym s (table_of.types_of names variables ts) ≡ true)
            → ((some_name_synonym s (table_of.types_of names variables ts) ≡ true) → UsesSynonym names s (types_uses ts))
            → UsesSynonym names s (types_uses ts)
        by (inl e) go = let d = data'.tuples (type_count ts) narrow.0 in data_not (names.prelude_type (tuple_name (type_count ts))) d.0 s d.1 e
        by (inr h) go = go h
    used_synonym (syntax.TypeList at t) narrow h =
        by (head_or_rest s (names.prelude_type (codes "[]")) (type.MoreTypes (table_of.type_of names variables t) type.NoType) h)
        (used_synonym t narrow)
      where
        by : (names.prelude_type (codes "[]") ≡ name.Synonym (record { 0 = s })) ⊎
            ((names_synonym s (table_of.type_of names variables t) || false) ≡ true)
            → ((names_synonym s (table_of.type_of names variables t) ≡ true) → UsesSynonym names s (type_uses t)) → UsesSynonym names s (type_uses t)
        by (inl e) go = data_not (names.prelude_type (codes "[]")) data'.lists.0 s data'.lists.1 e
        by (inr h) go = go (only (either (names_synonym s (table_of.type_of names variables t)) false h))
          where
            only : (names_synonym s (table_of.type_of names variables t) ≡ true) ⊎ (false ≡ true)
                → names_synonym s (table_of.type_of names variables t) ≡ true
            only (inl h) = h
            only (inr h) = absurd (both_ways false refl h)

    used_in_all : (ts : TypeTerms) → NarrowTypes ts → some_name_synonym s (table_of.types_of names variables ts) ≡ true
        → UsesSynonym names s (types_uses ts)
    used_in_all syntax.NoType narrow h = absurd (both_ways false refl h)
    used_in_all (syntax.MoreTypes t ts) narrow h =
        by (either (names_synonym s (table_of.type_of names variables t)) (some_name_synonym s (table_of.types_of names variables ts)) h)
        (used_synonym t narrow.0) (used_in_all ts narrow.1)
      where
        by : (names_synonym s (table_of.type_of names variables t) ≡ true) ⊎ (some_name_synonym s (table_of.types_of names variables ts) ≡ true)
            → ((names_synonym s (table_of.type_of names variables t) ≡ true) → UsesSynonym names s (type_uses t))
            → ((some_name_synonym s (table_of.types_of names variables ts) ≡ true) → UsesSynonym names s (types_uses ts))
            → UsesSynonym names s (type_uses t ++ types_uses ts)
        by (inl h) one two = use_left names s (type_uses t) (types_uses ts) (one h)
        by (inr h) one two = use_right names s (type_uses t) (types_uses ts) (two h)

-- ---- modules whose names differ

not_before : (d : Named) (before : List (List ℕ)) (ms : List Named) (i : ℕ) (x : List ℕ) → AllNew before ms → i < length ms → is_among before x ≡ true
    → (get_or ms i d).name ≡ x → ⊥
not_before d before [] i x new h in' e = absurd (omega arith)
not_before d before (m ∷ ms) zero x new h in' e = both_ways (is_among before m.name) new.0 (ap (is_among before) e ∙ in')
not_before d before (m ∷ ms) (suc i) x new h in' e =
    not_before d (before ++ m.name ∷ []) ms i x new.1 (omega arith) (among_prefix before (m.name ∷ []) x in') e

differ_at : (d : Named) (before : List (List ℕ)) (ms : List Named) (i j : ℕ) → AllNew before ms → i < j → j < length ms
    → (get_or ms j d).name ≡ (get_or ms i d).name → ⊥
differ_at d before [] i j new h within e = absurd (omega arith)
differ_at d before (m ∷ ms) i zero new h within e = absurd (omega arith)
differ_at d before (m ∷ ms) zero (suc j) new h within e =
    not_before d (before ++ m.name ∷ []) ms j m.name new.1 (omega arith) (among_last before m.name m.name ((bytes_eq-Decides m.name m.name).1 refl)) e
differ_at d before (m ∷ ms) (suc i) (suc j) new h within e = differ_at d (before ++ m.name ∷ []) ms i j new.1 (omega arith) (omega arith) e

pub one_module : (d : Named) (ms : List Named) (i j : ℕ) → AllNew [] ms → i < length ms → j < length ms → (get_or ms i d).name ≡ (get_or ms j d).name
    → i ≡ j
one_module d ms i j new in_i in_j e = by (compare i j)
  where
    by : (i < j) ⊎ ((i ≡ j) ⊎ (j < i)) → i ≡ j
    by (inl h) = absurd (differ_at d [] ms i j new h in_j (sym e))
    by (inr (inl h)) = h
    by (inr (inr h)) = absurd (differ_at d [] ms j i new h in_i e)

-- ---- homes

abbrev parts_of : List (List ℕ) → List Named → ℕ → List kernel.Synonym
parts_of table modules i = flat_map (types.synonyms_by (reading table modules i)) (module_at modules i).syntax.items

abbrev declared_of : List Named → ℕ → List Declared
declared_of modules i = synonyms_in (module_at modules i)

-- what is known of a program that has the synonyms of modules, of which the first is the Prelude
pub record HasParts (table : List (List ℕ)) (p : Named) (ms : List Named) (k : Kernel) : Type 0 where
  pub are : AreDeclared p ms
  pub narrow : (i : ℕ) → i ≤ length ms → Every NarrowItem (module_at (p ∷ ms) i).syntax.items
  pub synonyms : k.synonyms ≡ gather (parts_of table (p ∷ ms)) (length ms)

-- the module and the place there of what is mentioned
pub record Step (modules : List Named) (i a s : ℕ) : Type 0 where
  pub home : ℕ
  pub place : ℕ
  pub not_after : home ≤ i
  pub within : place < length (declared_of modules home)
  pub is : s ≡ start_of (declared_of modules) home + place
  pub mentions : home ≡ i → Mentions (scope_at modules i (module_at modules i)) (module_at modules i) a place

pub record Leads (modules : List Named) (i a s : ℕ) : Type 0 where
  pub home : ℕ
  pub place : ℕ
  pub not_after : home ≤ i
  pub within : place < length (declared_of modules home)
  pub is : s ≡ start_of (declared_of modules) home + place
  pub leads : home ≡ i → cycles.LeadsTo (scope_at modules i (module_at modules i)) (module_at modules i) a place

module _ (table : List (List ℕ)) (p : Named) (ms : List Named) (k : Kernel) (ok : HasParts table p ms k) where
  abbrev modules : List Named
  modules = p ∷ ms

  abbrev last : ℕ
  last = length ms

  within_of : (i : ℕ) → i ≤ last → i < length modules
  within_of i h = omega arith

  lengths : (i : ℕ) → length (parts_of table modules i) ≡ length (declared_of modules i)
  lengths i =
      sym (length-map (parts_of table modules i) (λ (s : kernel.Synonym). s.arity))
      ∙ ap length (synonym_arities (reading table modules i) (module_at modules i).name (module_at modules i).syntax.items)
      ∙ length-map (declared_of modules i) (λ (d : Declared). d.arity)

  starts : (i : ℕ) → start_of (parts_of table modules) i ≡ start_of (declared_of modules) i
  starts i = starts_same (parts_of table modules) (declared_of modules) lengths i

  signs_are_data : (i : ℕ) → AreData (names_in table modules i)
  signs_are_data i = record {
    lists = first_is_data modules prelude_name (codes "[]") 1 (first_has p ms ok.are (codes "[]") 1 refl);
    tuples = λ n h. first_is_data modules prelude_name (tuple_name n) n (first_has p ms ok.are (tuple_name n) n (size_arity n h));
  }

  -- the entity that a use of a synonym means
  entity_of : (i s : ℕ) (n : Name) (es : List Entity) → meant (scope_at modules i (module_at modules i)) Types n ≡ es
      → of_entity (type_of modules) (synonym_named None) (alone es) ≡ name.Synonym (record { 0 = s })
      → (e : Entity) × (meant (scope_at modules i (module_at modules i)) Types n ≡ e ∷ []) ×
      (type_of modules e.owner e.name ≡ name.Synonym (record { 0 = s }))
  entity_of i s n [] is h = absurd cc
  entity_of i s n (e ∷ []) is h = (e, is, h)
  entity_of i s n (e ∷ f ∷ es) is h = absurd cc

  abbrev IsBefore : ℕ → List ℕ → Type 0
  IsBefore i x = (j : ℕ) × (j ≤ i) × ((module_at modules j).name ≡ x)

  owner_before : (i : ℕ) (n : Name) (e : Entity) → meant (scope_at modules i (module_at modules i)) Types n ≡ e ∷ [] → IsBefore i e.owner
  owner_before i n e is =
      (subst (Every (λ (x : Entity). IsBefore i x.owner)) is
      (means_owned (IsBefore i) no_module modules i (module_at modules i) Types n (0, omega arith, ok.are.first) (λ j h. (j, omega arith, refl))
      (i, omega arith, refl))).0

  same_name : (i b : ℕ) (s : cycles.Synonym) (d : Declared) → slice_get (cycles.synonyms_in (module_at modules i)) b ≡ Some s
      → slice_get (declared_of modules i) b ≡ Some d → s.name ≡ d.name
  same_name i b s d at there =
      let both : Some s.name ≡ Some d.name =
      sym (ap (option_map (λ (s : cycles.Synonym). s.name)) at)
      ∙ sym (slice_get-map (λ (s : cycles.Synonym). s.name) (cycles.synonyms_in (module_at modules i)) b)
      ∙ ap (λ xs. slice_get xs b) (synonym_names (module_at modules i).name (module_at modules i).syntax.items)
      ∙ slice_get-map (λ (d : Declared). d.name) (declared_of modules i) b ∙ ap (option_map (λ (d : Declared). d.name)) there in
      cc

  same_length : (i : ℕ) → length (cycles.synonyms_in (module_at modules i)) ≡ length (declared_of modules i)
  same_length i =
      sym (length-map (cycles.synonyms_in (module_at modules i)) (λ (s : cycles.Synonym). s.name))
      ∙ ap length (synonym_names (module_at modules i).name (module_at modules i).syntax.items)
      ∙ length-map (declared_of modules i) (λ (d : Declared). d.name)

  owner_at : (i b : ℕ) (d : Declared) → slice_get (declared_of modules i) b ≡ Some d → d.owner ≡ (module_at modules i).name
  owner_at i b d at = every_at (λ (d : Declared). d.owner ≡ (module_at modules i).name) (declared_of modules i) b d
      (synonym_owners (module_at modules i).name (module_at modules i).syntax.items) at

  other_text : (o q n x : List ℕ) → (bytes_eq o q && bytes_eq n x) ≡ false → bytes_eq o q ≡ true → bytes_eq n x ≡ false
  other_text o q n x h e = sym (ap (λ b. b && bytes_eq n x) e) ∙ h

  -- the number of the synonym in its module
  local_number : (j b : ℕ) (q x : List ℕ) (r : numbered.Numbered) → j ≤ last → (found : FirstAt 0 q x (gather (declared_of modules) last) r)
      → found.place ≡ start_of (declared_of modules) j + b
      → slice_get (declared_of modules j) b ≡ Some found.declared → number_at (synonym_numbers (module_at modules j)) q x ≡ Some b
  local_number j b q x r among found place at =
      let m = module_at modules j in
      let ss = cycles.synonyms_in m in
      let inside : b < length (declared_of modules j) = slice_get_within (declared_of modules j) b found.declared at in
      let lengths = same_length j in
      let there = there_is ss b (omega arith) in
      let parts = and_parts (bytes_eq found.declared.owner q) (bytes_eq found.declared.name x) found.called in
      let owner : bytes_eq m.name q ≡ true = ap (λ o. bytes_eq o q) (sym (owner_at j b found.declared at)) ∙ parts.0 in
      let named : bytes_eq there.0.name x ≡ true = ap (λ n. bytes_eq n x) (same_name j b there.0 found.declared there.1 at) ∙ parts.1 in
      let zero_plus : 0 + b ≡ b = omega arith in
      number_first ss 0 m.name q x b there.0 owner there.1 named (others owner) ∙ ap Some zero_plus
    where
      others : bytes_eq (module_at modules j).name q ≡ true → (k : ℕ) (t : cycles.Synonym) → k < b
          → slice_get (cycles.synonyms_in (module_at modules j)) k ≡ Some t → bytes_eq t.name x ≡ false
      others owner k t h e =
          let inside : b < length (declared_of modules j) = slice_get_within (declared_of modules j) b found.declared at in
          let other = there_is (declared_of modules j) k (omega arith) in
          let global = at_gather (declared_of modules) last j k among (omega arith) ∙ other.1 in
          let not_called = found.others (start_of (declared_of modules) j + k) other.0 (omega arith) global in
          ap (λ n. bytes_eq n x) (same_name j k t other.0 e other.1)
          ∙ other_text other.0.owner q other.0.name x not_called (ap (λ o. bytes_eq o q) (owner_at j k other.0 other.1) ∙ owner)

  all_declared : gather (declared_of modules) last ≡ all_synonyms modules
  all_declared = gathered synonyms_in no_module p ms

  -- a use of a synonym leads to one of the same module, or of one before it
  stepped : (i a s : ℕ) → i ≤ last → (x : cycles.Synonym) → slice_get (cycles.synonyms_in (module_at modules i)) a ≡ Some x
      → UsesSynonym (names_in table modules i) s (type_uses x.right) → Step modules i a s
  stepped i a s among x at u =
      let found = entity_of i s u.0.name (meant (scope_at modules i (module_at modules i)) Types u.0.name) refl u.2 in
      let e = found.0 in
      let numbered = synonym_numbered modules e.owner e.name s found.2 in
      let first = first_at 0 e.owner e.name (all_synonyms modules) numbered.0 numbered.1 in
      in_home e u found.1 numbered.0 numbered.2 (subst (λ (ds : List Declared). FirstAt 0 e.owner e.name ds numbered.0) (sym all_declared) first)
    where
      in_home : (e : Entity) (u : UsesSynonym (names_in table modules i) s (type_uses x.right))
          → meant (scope_at modules i (module_at modules i)) Types u.0.name ≡ e ∷ [] → (r : numbered.Numbered) → r.number ≡ s
          → FirstAt 0 e.owner e.name (gather (declared_of modules) last) r → Step modules i a s
      in_home e u means r number found =
          let stand = stands (declared_of modules) last found.place found.declared found.at in
          let least = stand.among in
          let place = stand.is in
          let inside = slice_get_within (declared_of modules stand.home) stand.place found.declared stand.at in
          let before = owner_before i u.0.name e means in
          let j_least = before.1 in
          let parts = and_parts (bytes_eq found.declared.owner e.owner) (bytes_eq found.declared.name e.name) found.called in
          let same : (module_at modules stand.home).name ≡ (module_at modules before.0).name =
          sym (owner_at stand.home stand.place found.declared stand.at) ∙ (bytes_eq-Decides found.declared.owner e.owner).0 parts.0 ∙ sym before.2 in
          let home : stand.home ≡ before.0 =
          one_module no_module modules stand.home before.0 ok.are.differ (within_of stand.home stand.among) (omega arith) same in
          let is = found.is in
          let used = place_of u.0 (type_uses x.right) u.1 in
          record {
            home = stand.home;
            place = stand.place;
            not_after = omega arith;
            within = inside;
            is = omega arith;
            mentions = λ here. record {
              synonym = x;
              is_there = at;
              used = u.0;
              place = used.0;
              stands = used.1;
              entity = e;
              means = means;
              is_synonym = subst (λ (j : ℕ). number_at (synonym_numbers (module_at modules j)) e.owner e.name ≡ Some stand.place) here
                  (local_number stand.home stand.place e.owner e.name r stand.among found place stand.at);
            };
          }

  -- what the synonym with a number stands for
  step : (i a s : ℕ) → i ≤ last → a < length (declared_of modules i) → names_synonym s (body_of k (start_of (declared_of modules) i + a)) ≡ true
      → Step modules i a s
  step i a s among within h =
      let size = lengths i in
      let there = there_is (parts_of table modules i) a (omega arith) in
      let at : slice_get k.synonyms (start_of (declared_of modules) i + a) ≡ Some there.0 =
      ap (λ xs. slice_get xs (start_of (declared_of modules) i + a)) ok.synonyms
      ∙ ap (λ n. slice_get (gather (parts_of table modules) last) (n + a)) (sym (starts i))
      ∙ at_gather (parts_of table modules) last i a among (omega arith) ∙ there.1 in
      let source = declares (reading table modules i) (module_at modules i).syntax.items (ok.narrow i among) a there.0 there.1 in
      stepped i a s among source.synonym source.at
      (used_synonym (names_in table modules i) (signs_are_data i) (texts source.parameters) s source.synonym.right source.narrow
      (ap (names_synonym s) (sym source.body) ∙ body_at (start_of (declared_of modules) i + a) there.0 at h))
    where
      body_at : (n : ℕ) (x : kernel.Synonym) → slice_get k.synonyms n ≡ Some x → names_synonym s (body_of k n) ≡ true → names_synonym s x.body ≡ true
      body_at n x at h = rw at at h

  abbrev Cycle : ℕ → ℕ → ℕ → Type 0
  Cycle i a b = cycles.LeadsTo (scope_at modules i (module_at modules i)) (module_at modules i) a b

  lead : (r s : ℕ) → LeadsTo k r s → (i a : ℕ) → i ≤ last → a < length (declared_of modules i) → r ≡ start_of (declared_of modules) i + a
      → Leads modules i a s
  lead r s (at_once _ _ h) i a among within is =
      let next = step i a s among within (subst (λ (n : ℕ). names_synonym s (body_of k n) ≡ true) is h) in
      record {
        home = next.home;
        place = next.place;
        not_after = next.not_after;
        within = next.within;
        is = next.is;
        leads = λ here. cycles.at_once a next.place (next.mentions here);
      }
  lead r s (further _ q _ h later) i a among within is =
      let next = step i a q among within (subst (λ (n : ℕ). names_synonym q (body_of k n) ≡ true) is h) in
      let least = next.not_after in
      let after = lead q s later next.home next.place (omega arith) next.within next.is in
      let lower = after.not_after in
      record {
        home = after.home;
        place = after.place;
        not_after = omega arith;
        within = after.within;
        is = after.is;
        leads = λ here. joined next.home next.place after.home after.place here least lower next.mentions after.leads;
      }
    where
      joined : (j b l c : ℕ) → l ≡ i → j ≤ i → l ≤ j → (j ≡ i → Mentions (scope_at modules i (module_at modules i)) (module_at modules i) a b)
          → (l ≡ j → Cycle j b c) → Cycle i a c
      joined j b l c here least lower mentions leads =
          let same : j ≡ i = omega arith in
          let other : l ≡ j = omega arith in
          cycles.by_way_of a b c (mentions same) (subst (λ (x : ℕ). Cycle x b c) same (leads other))

  first_name : (r s : ℕ) → LeadsTo k r s → (x : kernel.Synonym) × (slice_get k.synonyms r ≡ Some x)
  first_name r s h = by (slice_get k.synonyms r) refl (begins r s h)
    where
      begins : (r s : ℕ) → LeadsTo k r s → (q : ℕ) × (names_synonym q (body_of k r) ≡ true)
      begins r s (at_once _ _ h) = (s, h)
      begins r s (further _ q _ h later) = (q, h)

      by : (o : Option kernel.Synonym) → slice_get k.synonyms r ≡ o → (q : ℕ) × (names_synonym q (body_of k r) ≡ true)
          → (x : kernel.Synonym) × (slice_get k.synonyms r ≡ Some x)
      by (Some x) e h = (x, e)
      by None e h = absurd (both_ways false refl (rw e at h.1))

  -- no synonym leads to itself
  pub acyclic : AreRight modules → (s : ℕ) → LeadsTo k s s → ⊥
  acyclic right s h =
      let there = first_name s s h in
      let stand = stands (parts_of table modules) last s there.0 (ap (λ xs. slice_get xs s) (sym ok.synonyms) ∙ there.1) in
      let inside = slice_get_within (parts_of table modules stand.home) stand.place there.0 stand.at in
      let size = lengths stand.home in
      let begin = starts stand.home in
      let place = stand.is in
      let around = lead s s h stand.home stand.place stand.among (omega arith) (omega arith) in
      let again = around.is in
      let same = one_home (declared_of modules) around.home stand.home around.place stand.place around.within (omega arith) (omega arith) in
      refuted stand.home stand.place stand.among (converse stand.home around.home stand.place around.place same around.leads)
    where
      converse : (i j a b : ℕ) → (j ≡ i) × (b ≡ a) → (j ≡ i → Cycle i a b) → Cycle i a a
      converse i j a b same leads = subst (λ (c : ℕ). Cycle i a c) same.1 (leads same.0)

      refuted : (i a : ℕ) → i ≤ last → Cycle i a a → ⊥
      refuted i a among leads =
          let m = module_at modules i in
          let synonym = mentioned leads in
          (right.each i m (slice_get-get_or modules i no_module (within_of i among))).right (cycle_fault synonym.0)
          (inr (record { number = a; synonym = synonym.0; is_there = synonym.1; leads = leads; is = refl }))
        where
          mentioned : Cycle i a a → (x : cycles.Synonym) × (slice_get (cycles.synonyms_in (module_at modules i)) a ≡ Some x)
          mentioned (cycles.at_once _ _ h) = (h.synonym, h.is_there)
          mentioned (cycles.by_way_of _ _ _ h later) = (h.synonym, h.is_there)
