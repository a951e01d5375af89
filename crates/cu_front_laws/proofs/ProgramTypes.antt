-- The types, synonyms and marks of a program of modules.
use Rattle.std.proofs.Common.{◌≡◌, ◌∙◌, ◌+◌, ◌&&◌, ℕ, zero, suc, Bool, true, false, List, [], ◌∷◌, ◌++◌, Some, length, map, refl, sym, ap, if◌then◌else◌, codes}
use Rattle.std.proofs.lemmas.Bool.{and_from}
use Rattle.std.proofs.lemmas.List.{map-append}
use Rattle.std.specs.List.{flat_map, list_all, slice_get}
use Rattle.std.specs.Str.{bytes_eq}
use Rattle.cu_kernel.specs.Kernel as kernel
use Rattle.cu_kernel.specs.Kernel.{Kernel}
use Rattle.cu_syntax.specs.Syntax as syntax
use Rattle.cu_syntax.specs.Syntax.{ConstructorDeclaration, Item, Name, TypeTerm}
use Rattle.cu_uses.specs.Binders.{texts}
use Rattle.cu_modules.specs.BuiltInEntities.{prelude_name}
use Rattle.cu_modules.specs.Scopes.{Named}
use Rattle.cu_declared.specs.TypeUses.{constructor_uses, item_uses, items_uses, type_uses, types_uses}
use Rattle.cu_translation.specs.ModuleNames.{module_at}
use Rattle.cu_translation.specs.ModuleTypes as types
use Rattle.cu_translation.specs.ModuleTypes.{Reading, declared_constructor, tuple_type, variables_from}
use Rattle.cu_translation.specs.Numbered as numbered
use Rattle.cu_translation.specs.Numbered.{Declared, of_tuples, only_in_prelude, tuple_sizes}
use Rattle.cu_translation.specs.Parts.{reading}
use Rattle.cu_types.specs.Synonyms.{is_applied, takes_arguments}
use Rattle.cu_front_laws.proofs.AppliedTypes.{TakeSigns, Takes, applied, fields_applied}
use Rattle.cu_front_laws.proofs.Members.{Every, every_append, every_from, every_in, every_left, every_map, every_right, gather, gather_same, gathered, map_gather, place_of}
use Rattle.cu_front_laws.proofs.NarrowTexts.{NarrowItem, NarrowTypes}
use Rattle.cu_front_laws.proofs.SynonymHomes.{declares, synonym_arities}

-- ---- the constructors of one type

abbrev pub FieldsApplied : Kernel → kernel.Constructor → Type 0
FieldsApplied k c = list_all (is_applied k) c.fields ≡ true

abbrev pub TypeApplied : Kernel → kernel.DataType → Type 0
TypeApplied k t = list_all (λ (c : kernel.Constructor). list_all (is_applied k) c.fields) t.constructors ≡ true

pub all_from : {A : Type 0} (test : A → Bool) (xs : List A) → Every (λ x. test x ≡ true) xs → list_all test xs ≡ true
all_from test [] every = refl
all_from test (x ∷ xs) every = and_from (test x) (list_all test xs) every.0 (all_from test xs every.1)

variables_applied : (k : Kernel) (count n : ℕ) → list_all (is_applied k) (variables_from count n) ≡ true
variables_applied k zero n = refl
variables_applied k (suc count) n = variables_applied k count (n + 1)

tuple_applied : (k : Kernel) (r : Reading) (n : ℕ) → TypeApplied k (tuple_type r n)
tuple_applied k r n = and_from (list_all (is_applied k) (variables_from n 0)) true (variables_applied k n 0) refl

pub in_prelude_or_none : {A : Type 0} (P : A → Type 0) (owner : List ℕ) (xs : List A) → Every P xs → Every P (only_in_prelude owner xs)
in_prelude_or_none P owner xs every = by (bytes_eq owner prelude_name)
  where
    by : (b : Bool) → Every P (if b then xs else [])
    by true = every
    by false = tt

module _ (k : Kernel) (r : Reading) (signs : TakeSigns k r.names) where
  first_applied : Every (TypeApplied k) (types.first_types r)
  first_applied = (
    lists,
    (
      tuple_applied k r 0,
      every_append (TypeApplied k) (map (tuple_type r) tuple_sizes)
          (types.data_type r (codes "Int") 0 [] ∷ types.data_type r (codes "Char") 0 [] ∷ [])
          (every_map (TypeApplied k) (tuple_type r) tuple_sizes
          (every_from (λ (n : ℕ). TypeApplied k (tuple_type r n)) tuple_sizes (λ n h. tuple_applied k r n))) (refl, (refl, tt)),
    ),
  )
    where
      lists : ((takes_arguments k (r.names.prelude_type (codes "[]")) 1 && true) && true) && true ≡ true
      lists = ap (λ b. ((b && true) && true) && true) signs.lists

  constructors_applied : (ps : List Name) (cs : List ConstructorDeclaration) → Every (Takes k r.names) (flat_map constructor_uses cs)
      → Every (λ (c : ConstructorDeclaration). NarrowTypes c.fields) cs
      → Every (FieldsApplied k) (map (declared_constructor r ps) cs)
  constructors_applied ps [] every narrow = tt
  constructors_applied ps (c ∷ cs) every narrow = (
    fields_applied k r.names signs (texts ps) c.fields (every_left (Takes k r.names) (types_uses c.fields) (flat_map constructor_uses cs) every)
        narrow.0,
    constructors_applied ps cs (every_right (Takes k r.names) (types_uses c.fields) (flat_map constructor_uses cs) every) narrow.1,
  )

  item_applied : (i : Item) → Every (Takes k r.names) (item_uses i) → NarrowItem i → Every (TypeApplied k) (types.types_by r i)
  item_applied (syntax.Data at nm ps cs) every narrow = (
    all_from (λ (c : kernel.Constructor). list_all (is_applied k) c.fields) (map (declared_constructor r ps) cs)
        (constructors_applied ps cs every narrow),
    tt,
  )
  item_applied (syntax.Synonym at nm ps t) every narrow = tt
  item_applied (syntax.ImportItem found) every narrow = tt
  item_applied (syntax.Fixity at to level operators) every narrow = tt
  item_applied (syntax.DeclarationItem d) every narrow = tt

  items_applied : (items : List Item) → Every (Takes k r.names) (items_uses items) → Every NarrowItem items
      → Every (TypeApplied k) (flat_map (types.types_by r) items)
  items_applied [] every narrow = tt
  items_applied (i ∷ items) every narrow =
      every_append (TypeApplied k) (types.types_by r i) (flat_map (types.types_by r) items)
      (item_applied i (every_left (Takes k r.names) (item_uses i) (items_uses items) every) narrow.0)
      (items_applied items (every_right (Takes k r.names) (item_uses i) (items_uses items) every) narrow.1)

  pub types_applied : Every (Takes k r.names) (items_uses r.m.syntax.items) → Every NarrowItem r.m.syntax.items
      → Every (TypeApplied k) (types.types_in r)
  types_applied every narrow =
      every_append (TypeApplied k) (only_in_prelude r.m.name (types.first_types r)) (flat_map (types.types_by r) r.m.syntax.items)
      (in_prelude_or_none (TypeApplied k) r.m.name (types.first_types r) first_applied) (items_applied r.m.syntax.items every narrow)

  abbrev Body : kernel.Synonym → Type 0
  Body s = is_applied k s.body ≡ true

  pub synonyms_applied : (items : List Item) → Every (Takes k r.names) (items_uses items) → Every NarrowItem items
      → Every Body (flat_map (types.synonyms_by r) items)
  synonyms_applied items every narrow =
      every_from Body (flat_map (types.synonyms_by r) items)
      (λ s h. let place = place_of s (flat_map (types.synonyms_by r) items) h in body_of s place.0 place.1)
    where
      body_of : (s : kernel.Synonym) (a : ℕ) → slice_get (flat_map (types.synonyms_by r) items) a ≡ Some s → Body s
      body_of s a at =
          let source = declares r items narrow a s at in
          ap (is_applied k) source.body
          ∙ applied k r.names signs (texts source.parameters) source.synonym.right
          (every_from (Takes k r.names) (type_uses source.synonym.right)
          (λ u h. every_in (Takes k r.names) (items_uses items) every u (source.uses u h))) source.narrow

-- ---- numbers of parameters

type_arities_by : (r : Reading) (o : List ℕ) (items : List Item)
    → map (λ (t : kernel.DataType). t.arity) (flat_map (types.types_by r) items) ≡ map (λ (d : Declared). d.arity)
    (flat_map (numbered.types_by o) items)
type_arities_by r o [] = refl
type_arities_by r o (syntax.Data at nm ps cs ∷ items) = ap (λ xs. length ps ∷ xs) (type_arities_by r o items)
type_arities_by r o (syntax.Synonym at nm ps t ∷ items) = type_arities_by r o items
type_arities_by r o (syntax.ImportItem found ∷ items) = type_arities_by r o items
type_arities_by r o (syntax.Fixity at to level operators ∷ items) = type_arities_by r o items
type_arities_by r o (syntax.DeclarationItem d ∷ items) = type_arities_by r o items

first_arities : (r : Reading) (owner : List ℕ)
    → map (λ (t : kernel.DataType). t.arity) (only_in_prelude owner (types.first_types r)) ≡ map (λ (d : Declared). d.arity)
    (only_in_prelude owner numbered.first_types)
first_arities r owner = by (bytes_eq owner prelude_name)
  where
    by : (b : Bool) → map (λ (t : kernel.DataType). t.arity) (if b then types.first_types r else []) ≡ map (λ (d : Declared). d.arity)
        (if b then numbered.first_types else [])
    by true = refl
    by false = refl

type_arities : (r : Reading) → map (λ (t : kernel.DataType). t.arity) (types.types_in r) ≡ map (λ (d : Declared). d.arity) (numbered.types_in r.m)
type_arities r =
    map-append (λ (t : kernel.DataType). t.arity) (only_in_prelude r.m.name (types.first_types r)) (flat_map (types.types_by r) r.m.syntax.items)
    ∙ (λ j. first_arities r r.m.name j ++ type_arities_by r r.m.name r.m.syntax.items j)
    ∙ sym (map-append (λ (d : Declared). d.arity) (only_in_prelude r.m.name numbered.first_types)
    (flat_map (numbered.types_by r.m.name) r.m.syntax.items))

-- ---- all parts

abbrev pub types_at : List (List ℕ) → List Named → ℕ → List kernel.DataType
types_at table modules i = types.types_in (reading table modules i)

abbrev pub synonyms_at : List (List ℕ) → List Named → ℕ → List kernel.Synonym
synonyms_at table modules i = flat_map (types.synonyms_by (reading table modules i)) (module_at modules i).syntax.items

pub types_arities : (table : List (List ℕ)) (p : Named) (ms : List Named)
    → map (λ (t : kernel.DataType). t.arity) (gather (types_at table (p ∷ ms)) (length ms)) ≡ map (λ (d : Declared). d.arity)
    (numbered.all_types (p ∷ ms))
types_arities table p ms =
    map_gather (λ (t : kernel.DataType). t.arity) (types_at table (p ∷ ms)) (length ms)
    ∙ gather_same (λ i. map (λ (t : kernel.DataType). t.arity) (types_at table (p ∷ ms) i))
    (λ i. map (λ (d : Declared). d.arity) (numbered.types_in (module_at (p ∷ ms) i)))
    (λ i. type_arities (reading table (p ∷ ms) i)) (length ms)
    ∙ sym (map_gather (λ (d : Declared). d.arity) (λ i. numbered.types_in (module_at (p ∷ ms) i)) (length ms))
    ∙ ap (map (λ (d : Declared). d.arity)) (gathered numbered.types_in _ p ms)

pub synonyms_arities : (table : List (List ℕ)) (p : Named) (ms : List Named)
    → map (λ (s : kernel.Synonym). s.arity) (gather (synonyms_at table (p ∷ ms)) (length ms)) ≡ map (λ (d : Declared). d.arity)
    (numbered.all_synonyms (p ∷ ms))
synonyms_arities table p ms =
    map_gather (λ (s : kernel.Synonym). s.arity) (synonyms_at table (p ∷ ms)) (length ms)
    ∙ gather_same (λ i. map (λ (s : kernel.Synonym). s.arity) (synonyms_at table (p ∷ ms) i))
    (λ i. map (λ (d : Declared). d.arity) (numbered.synonyms_in (module_at (p ∷ ms) i)))
    (λ i. synonym_arities (reading table (p ∷ ms) i) (module_at (p ∷ ms) i).name (module_at (p ∷ ms) i).syntax.items) (length ms)
    ∙ sym (map_gather (λ (d : Declared). d.arity) (λ i. numbered.synonyms_in (module_at (p ∷ ms) i)) (length ms))
    ∙ ap (map (λ (d : Declared). d.arity)) (gathered numbered.synonyms_in _ p ms)
