-- The numbers of a part begin where those of the part before end.
use Rattle.std.specs.Prelude.{◌≡◌, ◌<◌, ◌+◌, ℕ, zero, suc, Bool, true, false, List, [], ◌∷◌, ◌++◌, cond, flat_map, length, map, slice_index_or, take, refl}
use Rattle.std.specs.Str.{bytes_eq}
use Rattle.std.proofs.Common.{ap, ap₂, arith, sym, ◌∙◌, append_assoc, append-nil, length-append}
use Rattle.std.proofs.lemmas.List.{length-map, take_all}
use Rattle.cu_kernel.specs.Kernel as kernel
use Rattle.cu_kernel.specs.Kernel.{constructors_from, constructors_of}
use Rattle.cu_kernel.specs.LocalKernel.{Follows}
use Rattle.cu_syntax.specs.Syntax as syntax
use Rattle.cu_syntax.specs.Syntax.{Goal, Item}
use Rattle.cu_modules.specs.BuiltInEntities.{prelude_name}
use Rattle.cu_modules.specs.Scopes.{Named}
use Rattle.cu_translation.specs.Externals.{externals}
use Rattle.cu_translation.specs.Functions.{external_function, top_function}
use Rattle.cu_translation.specs.ModuleNames.{no_module}
use Rattle.cu_translation.specs.Numbered as numbered
use Rattle.cu_translation.specs.Numbered.{groups_in}
use Rattle.cu_translation.specs.ModuleTypes as module_types
use Rattle.cu_translation.specs.Parts as parts
use Rattle.cu_translation.specs.ModuleTypes.{Reading, declared_constructor}
use Rattle.cu_translation.specs.Parts.{counts, goal_part, module_part, reading}

-- ---- lengths

pub chosen : {X Y : Type 0} (b : Bool) (xs : List X) (ys : List Y) → length xs ≡ length ys → length (cond b xs []) ≡ length (cond b ys [])
chosen true xs ys e = e
chosen false xs ys e = refl

pub added : {X Y : Type 0} (xs us : List X) (ys vs : List Y) → length xs ≡ length ys → length us ≡ length vs → length (xs ++ us) ≡ length (ys ++ vs)
added xs us ys vs e f = length-append xs us ∙ ap₂ (λ m n. m + n) e f ∙ sym (length-append ys vs)

each_same : {Z X Y : Type 0} (f : Z → List X) (g : Z → List Y) → ((z : Z) → length (f z) ≡ length (g z)) → (zs : List Z)
    → length (flat_map f zs) ≡ length (flat_map g zs)
each_same f g h [] = refl
each_same f g h (z ∷ zs) = added (f z) (flat_map f zs) (g z) (flat_map g zs) (h z) (each_same f g h zs)

pub all_mapped : {X Y Z : Type 0} (f : X → Y) (g : X → Z) (xs : List X) → length (map f xs) ≡ length (map g xs)
all_mapped f g xs = length-map xs f ∙ sym (length-map xs g)

-- ---- types

item_types : (r : Reading) (i : Item) → length (module_types.types_by r i) ≡ length (numbered.types_by r.m.name i)
item_types r (syntax.ImportItem found) = refl
item_types r (syntax.Fixity at side level operators) = refl
item_types r (syntax.Data at name parameters cs) = refl
item_types r (syntax.Synonym at name parameters meant) = refl
item_types r (syntax.DeclarationItem d) = refl

types_are : (r : Reading) → length (module_types.types_in r) ≡ length (numbered.types_in r.m)
types_are r =
    added (cond (bytes_eq r.m.name prelude_name) (module_types.first_types r) []) (flat_map (module_types.types_by r) r.m.syntax.items)
    (cond (bytes_eq r.m.name prelude_name) numbered.first_types []) (flat_map (numbered.types_by r.m.name) r.m.syntax.items)
    (chosen (bytes_eq r.m.name prelude_name) (module_types.first_types r) numbered.first_types refl)
    (each_same (module_types.types_by r) (numbered.types_by r.m.name) (item_types r) r.m.syntax.items)

-- ---- constructors

abbrev built_by : kernel.DataType → List kernel.Constructor
built_by t = t.constructors

counted : (n : ℕ) (ts : List kernel.DataType) → length (constructors_from n ts) ≡ length (flat_map built_by ts)
counted n [] = refl
counted n (t ∷ ts) =
    added (constructors_of n t.constructors) (constructors_from (n + 1) ts) t.constructors (flat_map built_by ts)
    (length-map t.constructors (λ c. record { of_type = n; arity = length c.fields })) (counted (n + 1) ts)

flat_map-append : {X Y : Type 0} (f : X → List Y) (xs ys : List X) → flat_map f (xs ++ ys) ≡ flat_map f xs ++ flat_map f ys
flat_map-append f [] ys = refl
flat_map-append f (x ∷ xs) ys = ap (λ zs. f x ++ zs) (flat_map-append f xs ys) ∙ sym (append_assoc (f x) (flat_map f xs) (flat_map f ys))

item_constructors : (r : Reading) (i : Item) → length (flat_map built_by (module_types.types_by r i)) ≡ length (numbered.constructors_by r.m.name i)
item_constructors r (syntax.ImportItem found) = refl
item_constructors r (syntax.Fixity at side level operators) = refl
item_constructors r (syntax.Data at name parameters cs) =
    ap length (append-nil (map (declared_constructor r parameters) cs)) ∙ all_mapped (declared_constructor r parameters) (numbered.constructor r.m.name) cs
item_constructors r (syntax.Synonym at name parameters meant) = refl
item_constructors r (syntax.DeclarationItem d) = refl

items_constructors : (r : Reading) (items : List Item)
    → length (flat_map built_by (flat_map (module_types.types_by r) items)) ≡ length (flat_map (numbered.constructors_by r.m.name) items)
items_constructors r [] = refl
items_constructors r (i ∷ items) =
    ap length (flat_map-append built_by (module_types.types_by r i) (flat_map (module_types.types_by r) items))
    ∙ added (flat_map built_by (module_types.types_by r i)) (flat_map built_by (flat_map (module_types.types_by r) items))
    (numbered.constructors_by r.m.name i) (flat_map (numbered.constructors_by r.m.name) items) (item_constructors r i) (items_constructors r items)

chosen_constructors : (b : Bool) (r : Reading)
    → length (flat_map built_by (cond b (module_types.first_types r) [])) ≡ length (cond b numbered.first_constructors [])
chosen_constructors true r = refl
chosen_constructors false r = refl

constructors_are : (r : Reading) → length (constructors_from 0 (module_types.types_in r)) ≡ length (numbered.constructors_in r.m)
constructors_are r =
    counted 0 (module_types.types_in r)
    ∙ ap length (flat_map-append built_by (cond (bytes_eq r.m.name prelude_name) (module_types.first_types r) []) (flat_map (module_types.types_by r) r.m.syntax.items))
    ∙ added (flat_map built_by (cond (bytes_eq r.m.name prelude_name) (module_types.first_types r) [])) (flat_map built_by (flat_map (module_types.types_by r) r.m.syntax.items))
    (cond (bytes_eq r.m.name prelude_name) numbered.first_constructors []) (flat_map (numbered.constructors_by r.m.name) r.m.syntax.items)
    (chosen_constructors (bytes_eq r.m.name prelude_name) r) (items_constructors r r.m.syntax.items)

-- ---- synonyms and functions

item_synonyms : (r : Reading) (i : Item) → length (module_types.synonyms_by r i) ≡ length (numbered.synonyms_by r.m.name i)
item_synonyms r (syntax.ImportItem found) = refl
item_synonyms r (syntax.Fixity at side level operators) = refl
item_synonyms r (syntax.Data at name parameters cs) = refl
item_synonyms r (syntax.Synonym at name parameters meant) = refl
item_synonyms r (syntax.DeclarationItem d) = refl

synonyms_are : (r : Reading) → length (flat_map (module_types.synonyms_by r) r.m.syntax.items) ≡ length (numbered.synonyms_in r.m)
synonyms_are r = each_same (module_types.synonyms_by r) (numbered.synonyms_by r.m.name) (item_synonyms r) r.m.syntax.items

functions_are : (modules : List Named) (r : Reading) → length (parts.part_of modules r).functions ≡ length (numbered.functions_in r.m)
functions_are modules r =
    added (cond (bytes_eq r.m.name prelude_name) (map (external_function r.table) externals) []) (map (top_function r.table r.names) (groups_in r.m))
    (cond (bytes_eq r.m.name prelude_name) (map numbered.external externals) []) (map (numbered.function r.m.name) (groups_in r.m))
    (chosen (bytes_eq r.m.name prelude_name) (map (external_function r.table) externals) (map numbered.external externals)
    (all_mapped (external_function r.table) numbered.external externals))
    (all_mapped (top_function r.table r.names) (numbered.function r.m.name) (groups_in r.m))

-- ---- one module more

one_more : {X Y : Type 0} (f : X → List Y) (d : X) (xs : List X) (k : ℕ) → k < length xs
    → flat_map f (take (suc k) xs) ≡ flat_map f (take k xs) ++ f (slice_index_or xs k d)
one_more f d [] k l = absurd (omega (arith, l))
one_more f d (x ∷ xs) zero l = append-nil (f x)
one_more f d (x ∷ xs) (suc k) l =
    ap (λ zs. f x ++ zs) (one_more f d xs k (omega (arith, l))) ∙ sym (append_assoc (f x) (flat_map f (take k xs)) (f (slice_index_or xs k d)))

count_more : {X Y Z : Type 0} (f : X → List Y) (d : X) (xs : List X) (k : ℕ) (zs : List Z) → k < length xs
    → length zs ≡ length (f (slice_index_or xs k d)) → length (flat_map f (take (suc k) xs)) ≡ length (flat_map f (take k xs)) + length zs
count_more f d xs k zs l e =
    ap length (one_more f d xs k l) ∙ length-append (flat_map f (take k xs)) (f (slice_index_or xs k d))
    ∙ ap (λ n. length (flat_map f (take k xs)) + n) (sym e)

length_more : {X : Type 0} (xs : List X) (k : ℕ) → k < length xs → length (take (suc k) xs) ≡ length (take k xs) + 1
length_more [] k l = absurd (omega (arith, l))
length_more (x ∷ xs) zero l = refl
length_more (x ∷ xs) (suc k) l = let e = length_more xs k (omega (arith, l)) in omega (arith, e)

pub parts_follow : (table : List (List ℕ)) (modules : List Named) (k : ℕ) → k < length modules
    → Follows (module_part table modules k) (module_part table modules (suc k))
parts_follow table modules k l = record {
  types = count_more numbered.types_in no_module modules k (module_types.types_in (reading table modules k)) l (types_are (reading table modules k));
  constructors =
      count_more numbered.constructors_in no_module modules k (constructors_from 0 (module_types.types_in (reading table modules k))) l
      (constructors_are (reading table modules k));
  functions =
      count_more numbered.functions_in no_module modules k (module_part table modules k).functions l (functions_are modules (reading table modules k));
  synonyms =
      count_more numbered.synonyms_in no_module modules k (flat_map (module_types.synonyms_by (reading table modules k)) (reading table modules k).m.syntax.items) l
      (synonyms_are (reading table modules k));
  modules = length_more modules k l;
}

pub goal_follows : (table : List (List ℕ)) (modules : List Named) (root k : ℕ) (goal : Goal) → length modules ≡ suc k
    → Follows (module_part table modules k) (goal_part table modules root goal)
goal_follows table modules root k goal e =
    let p = parts_follow table modules k (omega (arith, e)) in
    let all : modules ≡ take (suc k) modules = sym (take_all (suc k) modules (omega (arith, e))) in
    record {
      types = ap (λ ms. (counts ms).types) all ∙ p.types;
      constructors = ap (λ ms. (counts ms).constructors) all ∙ p.constructors;
      functions = ap (λ ms. (counts ms).functions) all ∙ p.functions;
      synonyms = ap (λ ms. (counts ms).synonyms) all ∙ p.synonyms;
      modules = ap (λ ms. (counts ms).modules) all ∙ p.modules;
    }
