-- The names that are printed are UTF-8 without a quote.
use Rattle.std.proofs.Common.{◌≡◌, ℕ, zero, suc, ◌+◌, ◌≤◌, ◌<◌, ◌^◌, Bool, ◌&&◌, not, ◌⊎◌, List, [], ◌∷◌, ◌++◌, All, Contains, IsTrue, Option, None, Some, codes, decimal, get_or, length, map, nat_eq, nat_lt, slice_get, slice_index, refl, ap, subst, ⊎_elim, arith, lt-ltb, ltb-true, ne_eqb}
use Rattle.std.proofs.lemmas.Bool.{and_from, and_parts, eqb-false, not-true}
use Rattle.std.proofs.lemmas.List.Elements.{All-head, All-tail, Contains-append_cases}
use Rattle.std.proofs.lemmas.Str.{IsUtf8-append, IsUtf8-from_ascii}
use Rattle.std.specs.List.{flat_map, list_all}
use Rattle.cu_calculus.specs.declared.ConId.{ConId}
use Rattle.cu_calculus.specs.declared.FunId.{FunId}
use Rattle.cu_calculus.specs.declared.Head.{Head}
use Rattle.cu_calculus.specs.declared.Head.TheVariants as head
use Rattle.cu_flatlaws.proofs.NumberTexts.{Digits, decimal_digits}
use Rattle.cu_flatlaws.specs.DeclaredNames.{declared_names, module_names, type_names}
use Rattle.cu_flatlaws.specs.Printed.{built_in_name}
use Rattle.cu_flatlaws.specs.PrintedExpressions.{apply_entity, head_entity, set_entity}
use Rattle.cu_flatlaws.specs.PrintedTypes.{entity}
use Rattle.cu_flatlaws.specs.Readable.{HasName}
use Rattle.cu_flatread.specs.FlatText.{IsEntity, IsName, IsNumber}
use Rattle.cu_flatread.specs.Notation.{Entity}
use Rattle.cu_flattext.specs.ExpressionTexts.{arity}
use Rattle.cu_flattext.specs.Naming.{Lowered, constructor_entity, constructor_entity_of, data_type_entity, entity_of, function_entity, function_entity_of, module_label, module_name, no_entity, placed_entity, synonym_entity, type_entity}
use Rattle.cu_flattext.specs.Text.{imports_of, operators_of}
use Rattle.cu_kernel.specs.Kernel as kernel
use Rattle.cu_kernel.specs.Kernel.{DataType, Mark, Module, Placed, Synonym, constructor_at, placed, placed_from}
use Rattle.cu_kernel.specs.declared.declarations.Operator.{Operator}
use Rattle.cu_kernel.specs.declared.type_term.TypeName.{TypeName}
use Rattle.cu_kernel.specs.declared.type_term.TypeName.TheVariants as named
use Rattle.cu_names.specs.declared.names.NameId.{NameId}

-- ---- texts

-- whether a byte is one of ASCII and no quote
abbrev is_plain : ℕ → Bool
is_plain b = nat_lt b 128 && not (nat_eq b 34)

ascii_at : (text : List ℕ) → IsTrue (list_all is_plain text) → (k : ℕ) → slice_index text k < 128
ascii_at [] all k = omega arith
ascii_at (b ∷ bs) all zero =
    let here = and_parts (is_plain b) (list_all is_plain bs) all in
    ltb-true b 128 (and_parts (nat_lt b 128) (not (nat_eq b 34)) here.0).0
ascii_at (b ∷ bs) all (suc k) = ascii_at bs (and_parts (is_plain b) (list_all is_plain bs) all).1 k

no_quote_at : (text : List ℕ) → IsTrue (list_all is_plain text) → (k : ℕ) → k < length text → get_or text k 34 ≡ 34 → ⊥
no_quote_at [] all k below is = omega (arith, below)
no_quote_at (b ∷ bs) all zero below is =
    let here = and_parts (is_plain b) (list_all is_plain bs) all in
    eqb-false b 34 (not-true (nat_eq b 34) (and_parts (nat_lt b 128) (not (nat_eq b 34)) here.0).1) is
no_quote_at (b ∷ bs) all (suc k) below is =
    no_quote_at bs (and_parts (is_plain b) (list_all is_plain bs) all).1 k (omega (arith, below)) is

-- a text of such bytes is a name
plain_name : (text : List ℕ) → IsTrue (list_all is_plain text) → IsName text
plain_name text all =
    (IsUtf8-from_ascii text (ascii_at text all), λ (c : Contains text 34). no_quote_at text all c.0 c.1 c.2)

digits_are_plain : (ds : List ℕ) → Digits ds → IsTrue (list_all is_plain ds)
digits_are_plain [] digits = refl
digits_are_plain (d ∷ ds) digits =
    let low : 48 ≤ d = digits.0 in
    let high : d ≤ 57 = digits.1 in
    and_from (is_plain d) (list_all is_plain ds)
    (and_from (nat_lt d 128) (not (nat_eq d 34)) (lt-ltb d 128 (omega (arith, high)))
    (ap not (ne_eqb d 34 (λ e. omega (arith, e, low)))))
    (digits_are_plain ds digits.2)

number_named : (n : ℕ) → IsNumber n → IsName (decimal n)
number_named n small = plain_name (decimal n) (digits_are_plain (decimal n) (decimal_digits n (omega (arith, small))))

pub no_name : IsName []
no_name = plain_name [] refl

names_joined : (xs ys : List ℕ) → IsName xs → IsName ys → IsName (xs ++ ys)
names_joined xs ys one two = (
  IsUtf8-append xs ys one.0 two.0,
  λ (c : Contains (xs ++ ys) 34). ⊎_elim one.1 two.1 (Contains-append_cases xs ys 34 c),
)

-- ---- what a program declares

-- all elements have a property, by recursion
abbrev pub Each : {A : Type 0} → (A → Type 0) → List A → Type 0
Each P [] = Unit {0}
Each P (x ∷ xs) = P x × Each P xs

pub each_of_all : {A : Type 0} (P : A → Type 0) (xs : List A) → All P xs → Each P xs
each_of_all P [] all = tt
each_of_all P (x ∷ xs) all =
    (All-head P x xs all, each_of_all P xs (All-tail P x xs all))

each_in_front : {A : Type 0} (P : A → Type 0) (xs ys : List A) → Each P (xs ++ ys) → Each P xs
each_in_front P [] ys each = tt
each_in_front P (x ∷ xs) ys each = (each.0, each_in_front P xs ys each.1)

each_in_back : {A : Type 0} (P : A → Type 0) (xs ys : List A) → Each P (xs ++ ys) → Each P ys
each_in_back P [] ys each = each
each_in_back P (x ∷ xs) ys each = each_in_back P xs ys each.1

each_in_both : {A : Type 0} (P : A → Type 0) (xs ys : List A) → Each P xs → Each P ys → Each P (xs ++ ys)
each_in_both P [] ys one two = two
each_in_both P (x ∷ xs) ys one two = (one.0, each_in_both P xs ys one.1 two)

-- of lists that are put together, each has it of its elements
each_of_parts : {A B : Type 0} (P : B → Type 0) (f : A → List B) (xs : List A) → Each P (flat_map f xs)
    → Each (λ (x : A). Each P (f x)) xs
each_of_parts P f [] each = tt
each_of_parts P f (x ∷ xs) each =
    (each_in_front P (f x) (flat_map f xs) each, each_of_parts P f xs (each_in_back P (f x) (flat_map f xs) each))

pub each_mapped : {A B : Type 0} (P : B → Type 0) (f : A → B) (xs : List A) → Each P (map f xs) → Each (λ (x : A). P (f x)) xs
each_mapped P f [] each = tt
each_mapped P f (x ∷ xs) each = (each.0, each_mapped P f xs each.1)

pub each_at : {A : Type 0} (P : A → Type 0) (xs : List A) (k : ℕ) (d : A) → Each P xs → k < length xs → P (get_or xs k d)
each_at P [] k d each below = absurd (omega (arith, below))
each_at P (x ∷ xs) zero d each below = each.0
each_at P (x ∷ xs) (suc k) d each below = each_at P xs k d each.1 (omega (arith, below))

each_found : {A : Type 0} (P : A → Type 0) (xs : List A) (k : ℕ) (x : A) → Each P xs → slice_get xs k ≡ Some x → P x
each_found P [] k x each found = let no : ⊥ = cc in absurd no
each_found P (y ∷ xs) zero x each found =
    let same : y ≡ x = cc in subst P same each.0
each_found P (y ∷ xs) (suc k) x each found = each_found P xs k x each.1 found

-- what a program declares has names
pub record AreNames (program : Lowered) : Type 0 where
  pub modules : Each (λ (m : Module). Each (HasName program.names) (module_names m)) program.kernel.modules
  pub types : Each (λ (t : DataType). Each (HasName program.names) (type_names t)) program.kernel.types
  pub functions : Each (λ (f : kernel.Function). HasName program.names f.name) program.kernel.functions
  pub synonyms : Each (λ (s : Synonym). HasName program.names s.name) program.kernel.synonyms

pub names_of_program : (program : Lowered) → All (HasName program.names) (declared_names program.kernel) → AreNames program
names_of_program program all =
    let k = program.kernel in
    let ss = map (λ (s : Synonym). s.name) k.synonyms in
    let fs = map (λ (f : kernel.Function). f.name) k.functions in
    let ts = flat_map type_names k.types in
    let ms = flat_map module_names k.modules in
    let each = each_of_all (HasName program.names) (declared_names k) all in
    let rest = each_in_back (HasName program.names) ms (ts ++ (fs ++ ss)) each in
    let last = each_in_back (HasName program.names) ts (fs ++ ss) rest in
    record {
      modules = each_of_parts (HasName program.names) module_names k.modules (each_in_front (HasName program.names) ms (ts ++ (fs ++ ss)) each);
      types = each_of_parts (HasName program.names) type_names k.types (each_in_front (HasName program.names) ts (fs ++ ss) rest);
      functions = each_mapped (HasName program.names) (λ (f : kernel.Function). f.name) k.functions (each_in_front (HasName program.names) fs ss last);
      synonyms = each_mapped (HasName program.names) (λ (s : Synonym). s.name) k.synonyms (each_in_back (HasName program.names) fs ss last);
    }

-- ---- entities

label_named : (program : Lowered) (home : ℕ) (found : Option Module) → AreNames program
    → slice_get program.kernel.modules home ≡ found → IsName (module_label program.names found)
label_named program home None names is = no_name
label_named program home (Some m) names is =
    (each_found (λ (m : Module). Each (HasName program.names) (module_names m)) program.kernel.modules home m names.modules is).0

pub module_named : (program : Lowered) (home : ℕ) → AreNames program → IsName (module_name program home)
module_named program home names = label_named program home (slice_get program.kernel.modules home) names refl

pub entity_named : (program : Lowered) (home : ℕ) (name : NameId) → AreNames program → HasName program.names name
    → IsEntity (entity (entity_of program home name))
entity_named program home name names own = (module_named program home names, own)

nothing_named : IsEntity (entity no_entity)
nothing_named = (no_name, no_name)

data_type_named : (program : Lowered) (k : ℕ) (found : Option DataType) → AreNames program
    → slice_get program.kernel.types k ≡ found → IsEntity (entity (data_type_entity program found))
data_type_named program k None names is = nothing_named
data_type_named program k (Some t) names is =
    entity_named program t.module t.name names
    (each_found (λ (t : DataType). Each (HasName program.names) (type_names t)) program.kernel.types k t names.types is).0

synonym_named : (program : Lowered) (k : ℕ) (found : Option Synonym) → AreNames program
    → slice_get program.kernel.synonyms k ≡ found → IsEntity (entity (synonym_entity program found))
synonym_named program k None names is = nothing_named
synonym_named program k (Some s) names is =
    entity_named program s.module s.name names
    (each_found (λ (s : Synonym). HasName program.names s.name) program.kernel.synonyms k s names.synonyms is)

pub type_named : (program : Lowered) (name : TypeName) → AreNames program → IsEntity (entity (type_entity program name))
type_named program (named.Data t) names = data_type_named program t.0 (slice_get program.kernel.types t.0) names refl
type_named program (named.Synonym s) names = synonym_named program s.0 (slice_get program.kernel.synonyms s.0) names refl

-- a constructor with its type's index has a name
abbrev PlacedName : Lowered → Placed → Type 0
PlacedName program p = HasName program.names p.constructor.name

one_type_placed : (program : Lowered) (place : ℕ) (cs : List kernel.Constructor)
    → Each (HasName program.names) (map (λ (c : kernel.Constructor). c.name) cs) → Each (PlacedName program) (placed place cs)
one_type_placed program place [] each = tt
one_type_placed program place (c ∷ cs) each = (each.0, one_type_placed program place cs each.1)

all_placed : (program : Lowered) (place : ℕ) (ts : List DataType)
    → Each (λ (t : DataType). Each (HasName program.names) (type_names t)) ts
    → Each (PlacedName program) (placed_from place ts)
all_placed program place [] each = tt
all_placed program place (t ∷ ts) each =
    each_in_both (PlacedName program) (placed place t.constructors) (placed_from (place + 1) ts)
    (one_type_placed program place t.constructors each.0.1) (all_placed program (place + 1) ts each.1)

of_type_named : (program : Lowered) (name : NameId) (found : Option DataType) → AreNames program → HasName program.names name
    → IsEntity (entity (constructor_entity_of program name found))
of_type_named program name None names own = nothing_named
of_type_named program name (Some t) names own = entity_named program t.module name names own

placed_named : (program : Lowered) (k : ℕ) (found : Option Placed) → AreNames program
    → slice_get (placed_from 0 program.kernel.types) k ≡ found → IsEntity (entity (placed_entity program found))
placed_named program k None names is = nothing_named
placed_named program k (Some p) names is =
    of_type_named program p.constructor.name (slice_get program.kernel.types p.of_type) names
    (each_found (PlacedName program) (placed_from 0 program.kernel.types) k p
    (all_placed program 0 program.kernel.types names.types) is)

pub constructor_named : (program : Lowered) (c : ConId) → AreNames program → IsEntity (entity (constructor_entity program c))
constructor_named program c names = placed_named program c.0 (constructor_at program.kernel.types c) names refl

marked_named : (program : Lowered) (k : ℕ) (f : Option kernel.Function) (mark : Option Mark) → AreNames program
    → slice_get program.kernel.functions k ≡ f → IsEntity (entity (function_entity_of program f mark))
marked_named program k None mark names is = nothing_named
marked_named program k (Some f) None names is = nothing_named
marked_named program k (Some f) (Some mark) names is =
    entity_named program mark.module f.name names
    (each_found (λ (f : kernel.Function). HasName program.names f.name) program.kernel.functions k f names.functions is)

pub function_named : (program : Lowered) (f : FunId) → AreNames program → IsEntity (entity (function_entity program f))
function_named program f names =
    marked_named program f.0 (slice_get program.kernel.functions f.0) (slice_get program.kernel.marks f.0) names refl

-- the imports and the operators of a module have names
pub imports_named : (program : Lowered) (home : ℕ) (found : Option Module) → AreNames program
    → slice_get program.kernel.modules home ≡ found → Each (HasName program.names) (imports_of found)
imports_named program home None names is = tt
imports_named program home (Some m) names is =
    let own = each_found (λ (m : Module). Each (HasName program.names) (module_names m)) program.kernel.modules home m names.modules is in
    each_in_front (HasName program.names) m.imports (map (λ (o : Operator). o.name) m.operators) own.1

pub operators_named : (program : Lowered) (home : ℕ) (found : Option Module) → AreNames program
    → slice_get program.kernel.modules home ≡ found → Each (λ (o : Operator). HasName program.names o.name) (operators_of found)
operators_named program home None names is = tt
operators_named program home (Some m) names is =
    let own = each_found (λ (m : Module). Each (HasName program.names) (module_names m)) program.kernel.modules home m names.modules is in
    each_mapped (HasName program.names) (λ (o : Operator). o.name) m.operators
    (each_in_back (HasName program.names) m.imports (map (λ (o : Operator). o.name) m.operators) own.1)

-- ---- names that are written as they are

set_named : (n : ℕ) → IsNumber n → IsEntity (set_entity n)
set_named n small = (
  plain_name (codes "SetFunctions") refl,
  names_joined (codes "set") (decimal n) (plain_name (codes "set") refl) (number_named n small),
)

pub apply_named : IsEntity apply_entity
apply_named = (plain_name (codes "Prelude") refl, plain_name (codes "apply") refl)

pub head_named : (program : Lowered) (h : Head) → AreNames program → IsNumber (arity program h)
    → IsEntity (head_entity program h)
head_named program (head.Fun f) names small = function_named program f names
head_named program (head.Con c) names small = constructor_named program c names
head_named program (head.Set f) names small = set_named (arity program (head.Set f)) small

pub built_in_named : (e : Entity) → IsEntity e → IsName (built_in_name e)
built_in_named e is =
    names_joined e.owner (codes "." ++ e.name) is.0 (names_joined (codes ".") e.name (plain_name (codes ".") refl) is.1)
