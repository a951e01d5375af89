-- How many parameters a type has: by the declarations of modules, and by the numbers of types and
-- synonyms.
use Rattle.std.proofs.Common.{◌≡◌, ◌∙◌, ◌⊎◌, inl, inr, ◌<◌, ◌+◌, ◌&&◌, ◌||◌, ℕ, zero, suc, Bool, true, false, List, [], ◌∷◌, ◌++◌, Option, None, Some, length, map, refl, sym, ap, subst, arith, if◌then◌else◌, codes}
use Rattle.std.proofs.lemmas.Bool.{and_parts, both_ways, or_left, or_right}
use Rattle.std.proofs.lemmas.Bool.Decides.{Decides-eqb}
use Rattle.std.proofs.lemmas.List.{append_assoc}
use Rattle.std.proofs.lemmas.Option.{slice_get-map}
use Rattle.std.proofs.lemmas.Slice.Eq.{bytes_eq-Decides}
use Rattle.std.specs.List.{flat_map, list_all, slice_get}
use Rattle.std.specs.Option.{option_map}
use Rattle.std.specs.Str.{bytes_eq}
use Rattle.cu_kernel.specs.Kernel as kernel
use Rattle.cu_kernel.specs.Kernel.{Kernel}
use Rattle.cu_kernel.specs.declared.type_term.TypeName.TheVariants as name
use Rattle.cu_kernel.specs.declared.type_term.TypeName.{TypeName}
use Rattle.cu_syntax.specs.Syntax as syntax
use Rattle.cu_syntax.specs.Syntax.{Item, Name}
use Rattle.cu_uses.specs.Binders as binders
use Rattle.cu_uses.specs.Binders.{is_among, repeated}
use Rattle.cu_modules.specs.BuiltInEntities.{prelude_name}
use Rattle.cu_modules.specs.Ordering.{AllNew}
use Rattle.cu_modules.specs.Scopes.{Named}
use Rattle.cu_declared.specs.Parameters as parameters
use Rattle.cu_declared.specs.Parameters.{all_parameters, belongs_to, built_in_parameters, number_at, parameters_by, parameters_in}
use Rattle.cu_translation.specs.ModuleNames.{synonym_named, type_named, type_of}
use Rattle.cu_translation.specs.Numbered.{Declared, Numbered, all_synonyms, all_types, first_types, in_prelude, is_called, numbered, numbered_from, of_tuples, only_in_prelude, synonyms_by, synonyms_in, tuple_sizes, types_by}
use Rattle.cu_types.specs.Synonyms.{takes_arguments}
use Rattle.cu_front_laws.proofs.Members.{Every}
use Rattle.cu_front_laws.proofs.NarrowTexts.{Unsigned, opens}

-- ---- the first of a name

abbrev pub or_else : Option ℕ → Option ℕ → Option ℕ
or_else (Some n) other = Some n
or_else None other = other

abbrev pub first_arity : List Declared → List ℕ → List ℕ → Option ℕ
first_arity [] o x = None
first_arity (d ∷ ds) o x = if is_called o x d then Some d.arity else first_arity ds o x

append_if : (b : Bool) (n : ℕ) (whole first second : Option ℕ) → whole ≡ or_else first second
    → (if b then Some n else whole) ≡ or_else (if b then Some n else first) second
append_if true n whole first second e = refl
append_if false n whole first second e = e

pub first_append : (xs ys : List Declared) (o x : List ℕ) → first_arity (xs ++ ys) o x ≡ or_else (first_arity xs o x) (first_arity ys o x)
first_append [] ys o x = refl
first_append (d ∷ xs) ys o x =
    append_if (is_called o x d) d.arity (first_arity (xs ++ ys) o x) (first_arity xs o x) (first_arity ys o x) (first_append xs ys o x)

pub number_append : (xs ys : List parameters.Numbered) (o x : List ℕ) → number_at (xs ++ ys) o x ≡ or_else (number_at xs o x) (number_at ys o x)
number_append [] ys o x = refl
number_append (n ∷ xs) ys o x =
    append_if (belongs_to o x n) n.number (number_at (xs ++ ys) o x) (number_at xs o x) (number_at ys o x) (number_append xs ys o x)

-- ---- declared types are data types or synonyms

-- the number of parameters of what is declared is that of a data type, or else of a synonym
abbrev pub Splits : Option ℕ → Option ℕ → Option ℕ → Type 0
Splits p d y = (p ≡ or_else d y) × ((d ≡ None) ⊎ (y ≡ None))

abbrev Both : Option ℕ → Option ℕ → Option ℕ → Option ℕ → Type 0
Both d y e z = (or_else (or_else d y) (or_else e z) ≡ or_else (or_else d e) (or_else y z)) × ((or_else d e ≡ None) ⊎ (or_else y z ≡ None))

some_not : {B : Type 0} (n : ℕ) → ◌≡◌ {A = Option ℕ} (Some n) None → B
some_not n e = absurd cc

both_of : (d y e z : Option ℕ) → (d ≡ None) ⊎ (y ≡ None) → (e ≡ None) ⊎ (z ≡ None) → (or_else d y ≡ None) ⊎ (or_else e z ≡ None) → Both d y e z
both_of None None e z one two apart = (refl, two)
both_of (Some n) (Some k) e z (inl h) two apart = some_not n h
both_of (Some n) (Some k) e z (inr h) two apart = some_not k h
both_of (Some n) None None None one two apart = (refl, inr refl)
both_of (Some n) None (Some k) z one two (inl h) = some_not n h
both_of (Some n) None (Some k) z one two (inr h) = some_not k h
both_of (Some n) None None (Some k) one two (inl h) = some_not n h
both_of (Some n) None None (Some k) one two (inr h) = some_not k h
both_of None (Some n) None None one two apart = (refl, inl refl)
both_of None (Some n) (Some k) z one two (inl h) = some_not n h
both_of None (Some n) (Some k) z one two (inr h) = some_not k h
both_of None (Some n) None (Some k) one two (inl h) = some_not n h
both_of None (Some n) None (Some k) one two (inr h) = some_not k h

splits_both : (p d y q e z : Option ℕ) → Splits p d y → Splits q e z → (p ≡ None) ⊎ (q ≡ None) → Splits (or_else p q) (or_else d e) (or_else y z)
splits_both p d y q e z one two apart =
    let both = both_of d y e z one.1 two.1 (as_parts apart) in
    ((λ j. or_else (one.0 j) (two.0 j)) ∙ both.0, both.1)
  where
    as_parts : (p ≡ None) ⊎ (q ≡ None) → (or_else d y ≡ None) ⊎ (or_else e z ≡ None)
    as_parts (inl h) = inl (sym one.0 ∙ h)
    as_parts (inr h) = inr (sym two.0 ∙ h)

none_splits : Splits None None None
none_splits = (refl, inl refl)

if_some : (b : Bool) (n : ℕ) → Splits (if b then Some n else None) (if b then Some n else None) None
if_some true n = (refl, inr refl)
if_some false n = (refl, inr refl)

or_some : (b : Bool) (n : ℕ) → Splits (if b then Some n else None) None (if b then Some n else None)
or_some true n = (refl, inl refl)
or_some false n = (refl, inl refl)

item_splits : (o q x : List ℕ) (i : Item)
    → Splits (number_at (parameters_by o i) q x) (first_arity (types_by o i) q x) (first_arity (synonyms_by o i) q x)
item_splits o q x (syntax.Data at name ps cs) = if_some (bytes_eq o q && bytes_eq name.text x) (length ps)
item_splits o q x (syntax.Synonym at name ps t) = or_some (bytes_eq o q && bytes_eq name.text x) (length ps)
item_splits o q x (syntax.ImportItem found) = none_splits
item_splits o q x (syntax.Fixity at to level operators) = none_splits
item_splits o q x (syntax.DeclarationItem d) = none_splits

-- ---- items of one module, which declare no type twice

nil_not : {A B : Type 0} (x : A) (xs : List A) → x ∷ xs ≡ [] → B
nil_not x xs e = absurd cc

-- the names after one that isn't repeated
once_more : (seen : List (List ℕ)) (name : Name) (names : List Name) → repeated seen (name ∷ names) ≡ []
    → (is_among seen name.text ≡ false) × (repeated (name.text ∷ seen) names ≡ [])
once_more seen name names e = by (is_among seen name.text) refl e
  where
    by : (b : Bool) → is_among seen name.text ≡ b → (if b then name ∷ repeated seen names else repeated (name.text ∷ seen) names) ≡ []
        → (is_among seen name.text ≡ false) × (repeated (name.text ∷ seen) names ≡ [])
    by true is e = nil_not name (repeated seen names) e
    by false is e = (is, e)

among_cons : (seen : List (List ℕ)) (y x : List ℕ) → is_among seen x ≡ true → is_among (y ∷ seen) x ≡ true
among_cons seen y x h = or_right (bytes_eq x y) (is_among seen x) h

other_name : (seen : List (List ℕ)) (y x : List ℕ) (b : Bool) → bytes_eq y x ≡ b → is_among seen y ≡ false → is_among seen x ≡ true → b ≡ false
other_name seen y x true same out inside =
    absurd (both_ways (is_among seen x) (sym (ap (is_among seen) ((bytes_eq-Decides y x).0 same)) ∙ out) inside)
other_name seen y x false same out inside = refl

and_false : (a b : Bool) → b ≡ false → (a && b) ≡ false
and_false true b h = h
and_false false b h = refl

unless_called : (b : Bool) (n : ℕ) (more : Option ℕ) → b ≡ false → more ≡ None → (if b then Some n else more) ≡ None
unless_called true n more e none = absurd (both_ways true e refl)
unless_called false n more e none = none

-- a name that was seen is declared no more
pub seen_no_more : (o q x : List ℕ) (items : List Item) (seen : List (List ℕ)) → repeated seen (flat_map binders.types_by items) ≡ []
    → is_among seen x ≡ true
    → number_at (flat_map (parameters_by o) items) q x ≡ None
seen_no_more o q x [] seen once in' = refl
seen_no_more o q x (syntax.Data at name ps cs ∷ items) seen once in' =
    let more = once_more seen name (flat_map binders.types_by items) once in
    unless_called (bytes_eq o q && bytes_eq name.text x) (length ps) (number_at (flat_map (parameters_by o) items) q x)
    (and_false (bytes_eq o q) (bytes_eq name.text x) (other_name seen name.text x (bytes_eq name.text x) refl more.0 in'))
    (seen_no_more o q x items (name.text ∷ seen) more.1 (among_cons seen name.text x in'))
seen_no_more o q x (syntax.Synonym at name ps t ∷ items) seen once in' =
    let more = once_more seen name (flat_map binders.types_by items) once in
    unless_called (bytes_eq o q && bytes_eq name.text x) (length ps) (number_at (flat_map (parameters_by o) items) q x)
    (and_false (bytes_eq o q) (bytes_eq name.text x) (other_name seen name.text x (bytes_eq name.text x) refl more.0 in'))
    (seen_no_more o q x items (name.text ∷ seen) more.1 (among_cons seen name.text x in'))
seen_no_more o q x (syntax.ImportItem found ∷ items) seen once in' = seen_no_more o q x items seen once in'
seen_no_more o q x (syntax.Fixity at to level operators ∷ items) seen once in' = seen_no_more o q x items seen once in'
seen_no_more o q x (syntax.DeclarationItem d ∷ items) seen once in' = seen_no_more o q x items seen once in'

pub split_same : {p p' d d' y y' : Option ℕ} → p ≡ p' → d ≡ d' → y ≡ y' → Splits p d y → Splits p' d' y'
split_same {d = d} {d' = d'} {y = y} {y' = y'} ps ds ys s = (sym ps ∙ s.0 ∙ (λ j. or_else (ds j) (ys j)), apart s.1)
  where
    apart : (d ≡ None) ⊎ (y ≡ None) → (d' ≡ None) ⊎ (y' ≡ None)
    apart (inl h) = inl (sym ds ∙ h)
    apart (inr h) = inr (sym ys ∙ h)

-- what is declared after another type has its number
pub prefix_number : (o x : List ℕ) (name : Name) (n k : ℕ) (items : List Item) (seen : List (List ℕ))
    → repeated seen (name ∷ flat_map binders.types_by items) ≡ []
    → ((seen : List (List ℕ)) → repeated seen (flat_map binders.types_by items) ≡ [] → number_at (flat_map (parameters_by o) items) o x ≡ Some k)
    → number_at (parameters.numbered o name.text n ∷ flat_map (parameters_by o) items) o x ≡ Some k
prefix_number o x name n k items seen once go =
    let more = once_more seen name (flat_map binders.types_by items) once in
    by (bytes_eq name.text x) refl (go (name.text ∷ seen) more.1) more.1
  where
    by : (b : Bool) → bytes_eq name.text x ≡ b → number_at (flat_map (parameters_by o) items) o x ≡ Some k
        → repeated (name.text ∷ seen) (flat_map binders.types_by items) ≡ []
        → number_at (parameters.numbered o name.text n ∷ flat_map (parameters_by o) items) o x ≡ Some k
    by false other later more =
        ap (λ b. if b then Some n else number_at (flat_map (parameters_by o) items) o x) (and_false (bytes_eq o o) (bytes_eq name.text x) other)
        ∙ later
    by true same later more =
        let none = seen_no_more o o x items (name.text ∷ seen) more
        (or_left (bytes_eq x name.text) (is_among seen x) ((bytes_eq-Decides x name.text).1 (sym ((bytes_eq-Decides name.text x).0 same)))) in
        absurd (no (sym none ∙ later))
      where
        no : None ≡ Some k → ⊥
        no e = cc

more_splits : (o q x : List ℕ) (i : Item) (items : List Item)
    → Splits (number_at (flat_map (parameters_by o) items) q x) (first_arity (flat_map (types_by o) items) q x)
    (first_arity (flat_map (synonyms_by o) items) q x)
    → (number_at (parameters_by o i) q x ≡ None) ⊎ (number_at (flat_map (parameters_by o) items) q x ≡ None)
    → Splits (number_at (flat_map (parameters_by o) (i ∷ items)) q x) (first_arity (flat_map (types_by o) (i ∷ items)) q x)
    (first_arity (flat_map (synonyms_by o) (i ∷ items)) q x)
more_splits o q x i items later apart =
    let ps = number_append (parameters_by o i) (flat_map (parameters_by o) items) q x in
    let ds = first_append (types_by o i) (flat_map (types_by o) items) q x in
    let ys = first_append (synonyms_by o i) (flat_map (synonyms_by o) items) q x in
    let both = splits_both (number_at (parameters_by o i) q x) (first_arity (types_by o i) q x) (first_arity (synonyms_by o i) q x)
    (number_at (flat_map (parameters_by o) items) q x) (first_arity (flat_map (types_by o) items) q x)
    (first_arity (flat_map (synonyms_by o) items) q x)
    (item_splits o q x i) later apart in
    split_same (sym ps) (sym ds) (sym ys) both

same_text : (x y : List ℕ) → bytes_eq y x ≡ true → bytes_eq x y ≡ true
same_text x y h = (bytes_eq-Decides x y).1 (sym ((bytes_eq-Decides y x).0 h))

named_or_not : (o q x : List ℕ) (name : Name) (n : ℕ) (later : Option ℕ) → ((bytes_eq x name.text ≡ true) → later ≡ None)
    → ((if bytes_eq o q && bytes_eq name.text x then Some n else None) ≡ None) ⊎ (later ≡ None)
named_or_not o q x name n later go = by (bytes_eq o q && bytes_eq name.text x) refl
  where
    by : (b : Bool) → (bytes_eq o q && bytes_eq name.text x) ≡ b → ((if b then Some n else None) ≡ None) ⊎ (later ≡ None)
    by true is = inr (go (same_text x name.text (and_parts (bytes_eq o q) (bytes_eq name.text x) is).1))
    by false is = inl refl

items_split : (o q x : List ℕ) (items : List Item) (seen : List (List ℕ)) → repeated seen (flat_map binders.types_by items) ≡ []
    → Splits (number_at (flat_map (parameters_by o) items) q x) (first_arity (flat_map (types_by o) items) q x)
    (first_arity (flat_map (synonyms_by o) items) q x)
items_split o q x [] seen once = none_splits
items_split o q x (syntax.Data at name ps cs ∷ items) seen once =
    let more = once_more seen name (flat_map binders.types_by items) once in
    more_splits o q x (syntax.Data at name ps cs) items (items_split o q x items (name.text ∷ seen) more.1)
    (named_or_not o q x name (length ps) (number_at (flat_map (parameters_by o) items) q x)
    (λ is. seen_no_more o q x items (name.text ∷ seen) more.1 (or_left (bytes_eq x name.text) (is_among seen x) is)))
items_split o q x (syntax.Synonym at name ps t ∷ items) seen once =
    let more = once_more seen name (flat_map binders.types_by items) once in
    more_splits o q x (syntax.Synonym at name ps t) items (items_split o q x items (name.text ∷ seen) more.1)
    (named_or_not o q x name (length ps) (number_at (flat_map (parameters_by o) items) q x)
    (λ is. seen_no_more o q x items (name.text ∷ seen) more.1 (or_left (bytes_eq x name.text) (is_among seen x) is)))
items_split o q x (syntax.ImportItem found ∷ items) seen once =
    more_splits o q x (syntax.ImportItem found) items (items_split o q x items seen once) (inl refl)
items_split o q x (syntax.Fixity at to level operators ∷ items) seen once =
    more_splits o q x (syntax.Fixity at to level operators) items (items_split o q x items seen once) (inl refl)
items_split o q x (syntax.DeclarationItem d ∷ items) seen once =
    more_splits o q x (syntax.DeclarationItem d) items (items_split o q x items seen once) (inl refl)

-- ---- modules whose names differ

-- each type of a module is declared once
abbrev pub DeclaresOnce : Named → Type 0
DeclaresOnce m = repeated [] (flat_map binders.types_by m.syntax.items) ≡ []

false_and : (a b : Bool) → a ≡ false → (a && b) ≡ false
false_and true b h = absurd (both_ways true h refl)
false_and false b h = refl

number_elsewhere : (o q x : List ℕ) (items : List Item) → bytes_eq o q ≡ false → number_at (flat_map (parameters_by o) items) q x ≡ None
number_elsewhere o q x [] other = refl
number_elsewhere o q x (syntax.Data at name ps cs ∷ items) other =
    unless_called (bytes_eq o q && bytes_eq name.text x) (length ps) (number_at (flat_map (parameters_by o) items) q x)
    (false_and (bytes_eq o q) (bytes_eq name.text x) other) (number_elsewhere o q x items other)
number_elsewhere o q x (syntax.Synonym at name ps t ∷ items) other =
    unless_called (bytes_eq o q && bytes_eq name.text x) (length ps) (number_at (flat_map (parameters_by o) items) q x)
    (false_and (bytes_eq o q) (bytes_eq name.text x) other) (number_elsewhere o q x items other)
number_elsewhere o q x (syntax.ImportItem found ∷ items) other = number_elsewhere o q x items other
number_elsewhere o q x (syntax.Fixity at to level operators ∷ items) other = number_elsewhere o q x items other
number_elsewhere o q x (syntax.DeclarationItem d ∷ items) other = number_elsewhere o q x items other

pub among_prefix : (xs ys : List (List ℕ)) (x : List ℕ) → is_among xs x ≡ true → is_among (xs ++ ys) x ≡ true
among_prefix [] ys x h = absurd (both_ways false refl h)
among_prefix (y ∷ xs) ys x h = by (bytes_eq x y) h (among_prefix xs ys x)
  where
    by : (b : Bool) → (b || is_among xs x) ≡ true → ((is_among xs x ≡ true) → is_among (xs ++ ys) x ≡ true) → (b || is_among (xs ++ ys) x) ≡ true
    by true h go = refl
    by false h go = go h

pub among_last : (xs : List (List ℕ)) (y x : List ℕ) → bytes_eq x y ≡ true → is_among (xs ++ y ∷ []) x ≡ true
among_last [] y x h = or_left (bytes_eq x y) false h
among_last (z ∷ xs) y x h = or_right (bytes_eq x z) (is_among (xs ++ y ∷ []) x) (among_last xs y x h)

-- what modules declare, where the owner is one before them
known_elsewhere : (q x : List ℕ) (before : List (List ℕ)) (ms : List Named) → is_among before q ≡ true → AllNew before ms
    → number_at (flat_map parameters_in ms) q x ≡ None
known_elsewhere q x before [] in' new = refl
known_elsewhere q x before (m ∷ ms) in' new =
    let other = other_name before m.name q (bytes_eq m.name q) refl new.0 in' in
    number_append (parameters_in m) (flat_map parameters_in ms) q x
    ∙ (λ j. or_else (number_elsewhere m.name q x m.syntax.items other j)
    (known_elsewhere q x (before ++ m.name ∷ []) ms (among_prefix before (m.name ∷ []) q in') new.1 j))

apart_modules : (q x : List ℕ) (before : List (List ℕ)) (m : Named) (ms : List Named) → AllNew (before ++ m.name ∷ []) ms
    → (number_at (parameters_in m) q x ≡ None) ⊎ (number_at (flat_map parameters_in ms) q x ≡ None)
apart_modules q x before m ms new = by (bytes_eq m.name q) refl
  where
    by : (b : Bool) → bytes_eq m.name q ≡ b → (number_at (parameters_in m) q x ≡ None) ⊎ (number_at (flat_map parameters_in ms) q x ≡ None)
    by true same = inr (known_elsewhere q x (before ++ m.name ∷ []) ms (among_last before m.name q (same_text q m.name same)) new)
    by false other = inl (number_elsewhere m.name q x m.syntax.items other)

abbrev data_of : Named → List Declared
data_of m = flat_map (types_by m.name) m.syntax.items

modules_splits : (q x : List ℕ) (before : List (List ℕ)) (m : Named) (ms : List Named) → AllNew (before ++ m.name ∷ []) ms → DeclaresOnce m
    → Splits (number_at (flat_map parameters_in ms) q x) (first_arity (all_types ms) q x) (first_arity (all_synonyms ms) q x)
    → Splits (number_at (flat_map parameters_in (m ∷ ms)) q x) (first_arity (data_of m ++ all_types ms) q x) (first_arity (all_synonyms (m ∷ ms)) q x)
modules_splits q x before m ms new once later =
    split_same (sym (number_append (parameters_in m) (flat_map parameters_in ms) q x)) (sym (first_append (data_of m) (all_types ms) q x))
    (sym (first_append (synonyms_in m) (all_synonyms ms) q x))
    (splits_both (number_at (parameters_in m) q x) (first_arity (data_of m) q x) (first_arity (synonyms_in m) q x)
    (number_at (flat_map parameters_in ms) q x) (first_arity (all_types ms) q x) (first_arity (all_synonyms ms) q x)
    (items_split m.name q x m.syntax.items [] once) later (apart_modules q x before m ms new))

others_split : (q x : List ℕ) (before : List (List ℕ)) (ms : List Named) → is_among before prelude_name ≡ true → AllNew before ms
    → Every DeclaresOnce ms
    → Splits (number_at (flat_map parameters_in ms) q x) (first_arity (all_types ms) q x) (first_arity (all_synonyms ms) q x)
others_split q x before [] in' new once = none_splits
others_split q x before (m ∷ ms) in' new once =
    let other : bytes_eq m.name prelude_name ≡ false = other_name before m.name prelude_name (bytes_eq m.name prelude_name) refl new.0 in' in
    let none : only_in_prelude m.name first_types ≡ [] = ap (λ b. if b then first_types else []) other in
    split_same refl (ap (λ ds. first_arity ((ds ++ data_of m) ++ all_types ms) q x) (sym none)) refl
    (modules_splits q x before m ms new.1 once.0
    (others_split q x (before ++ m.name ∷ []) ms (among_prefix before (m.name ∷ []) prelude_name in') new.1 once.1))

-- ---- what is built in

sign_differs : (x y : List ℕ) (b : Bool) → bytes_eq y x ≡ b → opens y ≡ false → opens x ≡ true → b ≡ false
sign_differs x y true same out inside = absurd (both_ways (opens x) (sym (ap opens ((bytes_eq-Decides y x).0 same)) ∙ out) inside)
sign_differs x y false same out inside = refl

unsigned_none : (o q x : List ℕ) (items : List Item) → Every Unsigned items → opens x ≡ true → number_at (flat_map (parameters_by o) items) q x ≡ None
unsigned_none o q x [] every sign = refl
unsigned_none o q x (syntax.Data at name ps cs ∷ items) every sign =
    unless_called (bytes_eq o q && bytes_eq name.text x) (length ps) (number_at (flat_map (parameters_by o) items) q x)
    (and_false (bytes_eq o q) (bytes_eq name.text x) (sign_differs x name.text (bytes_eq name.text x) refl every.0 sign))
    (unsigned_none o q x items every.1 sign)
unsigned_none o q x (syntax.Synonym at name ps t ∷ items) every sign =
    unless_called (bytes_eq o q && bytes_eq name.text x) (length ps) (number_at (flat_map (parameters_by o) items) q x)
    (and_false (bytes_eq o q) (bytes_eq name.text x) (sign_differs x name.text (bytes_eq name.text x) refl every.0 sign))
    (unsigned_none o q x items every.1 sign)
unsigned_none o q x (syntax.ImportItem found ∷ items) every sign = unsigned_none o q x items every.1 sign
unsigned_none o q x (syntax.Fixity at to level operators ∷ items) every sign = unsigned_none o q x items every.1 sign
unsigned_none o q x (syntax.DeclarationItem d ∷ items) every sign = unsigned_none o q x items every.1 sign

-- the types whose names are signs
abbrev signs : List Declared
signs = in_prelude (codes "[]") 1 ∷ in_prelude (codes "()") 0 ∷ map of_tuples tuple_sizes

abbrev literals : List Declared
literals = in_prelude (codes "Int") 0 ∷ in_prelude (codes "Char") 0 ∷ []

abbrev is_sign : Declared → Bool
is_sign d = bytes_eq d.owner prelude_name && opens d.name

all_signs : list_all is_sign signs ≡ true
all_signs = refl

-- a name of such a list is a sign, and of the Prelude
signs_open : (ds : List Declared) (q x : List ℕ) (a : ℕ) → list_all is_sign ds ≡ true → first_arity ds q x ≡ Some a
    → (bytes_eq prelude_name q ≡ true) × (opens x ≡ true)
signs_open [] q x a all e = absurd cc
signs_open (d ∷ ds) q x a all e =
    let both = and_parts (is_sign d) (list_all is_sign ds) all in
    by (is_called q x d) refl e both.0 (signs_open ds q x a both.1)
  where
    by : (b : Bool) → is_called q x d ≡ b → (if b then Some d.arity else first_arity ds q x) ≡ Some a → is_sign d ≡ true
        → ((first_arity ds q x ≡ Some a) → (bytes_eq prelude_name q ≡ true) × (opens x ≡ true)) → (bytes_eq prelude_name q ≡ true) × (opens x ≡ true)
    by true is e sign go =
        let parts = and_parts (bytes_eq d.owner q) (bytes_eq d.name x) is in
        let signs = and_parts (bytes_eq d.owner prelude_name) (opens d.name) sign in
        let owner = (bytes_eq-Decides d.owner prelude_name).0 signs.0 in
        (ap (λ o. bytes_eq o q) (sym owner) ∙ parts.0, ap opens (sym ((bytes_eq-Decides d.name x).0 parts.1)) ∙ signs.1)
    by false is e sign go = go e

literals_same : (q x : List ℕ) → number_at built_in_parameters q x ≡ first_arity literals q x
literals_same q x = refl

at_names : (o y q x : List ℕ) → bytes_eq o q ≡ true → bytes_eq y x ≡ true → first_arity first_types q x ≡ first_arity first_types o y
at_names o y q x p e = λ j. first_arity first_types (sym ((bytes_eq-Decides o q).0 p) j) (sym ((bytes_eq-Decides y x).0 e) j)

-- Int and Char have no signs
literal_first : (q x : List ℕ) (b : ℕ) → number_at built_in_parameters q x ≡ Some b → first_arity first_types q x ≡ Some b
literal_first q x b e = by (bytes_eq prelude_name q) (bytes_eq (codes "Int") x) (bytes_eq (codes "Char") x) refl refl refl e
  where
    by : (p i c : Bool) → bytes_eq prelude_name q ≡ p → bytes_eq (codes "Int") x ≡ i → bytes_eq (codes "Char") x ≡ c
        → (if p && i then Some 0 else if p && c then Some 0 else None) ≡ Some b → first_arity first_types q x ≡ Some b
    by true true c p i is e = at_names prelude_name (codes "Int") q x p i ∙ e
    by true false true p i is e = at_names prelude_name (codes "Char") q x p is ∙ e
    by true false false p i is e = absurd cc
    by false i c p is are e = absurd cc

none_not : {B : Type 0} (n : ℕ) → ◌≡◌ {A = Option ℕ} None (Some n) → B
none_not n e = absurd cc

-- a first type that isn't Int or Char has a sign
first_sign : (q x : List ℕ) (a : ℕ) → first_arity first_types q x ≡ Some a → number_at built_in_parameters q x ≡ None
    → (bytes_eq prelude_name q ≡ true) × (opens x ≡ true)
first_sign q x a e none = by (first_arity signs q x) refl
  where
    by : (o : Option ℕ) → first_arity signs q x ≡ o → (bytes_eq prelude_name q ≡ true) × (opens x ≡ true)
    by (Some n) is = signs_open signs q x n all_signs is
    by None is =
        none_not a (sym none ∙ literals_same q x ∙ sym (first_append signs literals q x ∙ ap (λ o. or_else o (first_arity literals q x)) is) ∙ e)

-- ---- all modules, the Prelude first

-- what is known of modules, of which the first is the Prelude
pub record AreDeclared (p : Named) (ms : List Named) : Type 0 where
  pub first : p.name ≡ prelude_name
  pub differ : AllNew [] (p ∷ ms)
  pub once : Every DeclaresOnce (p ∷ ms)
  pub unsigned : Every Unsigned p.syntax.items

-- so many parameters has the data type of a name, or else the synonym
abbrev pub HasArity : List Declared → List Declared → List ℕ → List ℕ → ℕ → Type 0
HasArity ts ys q x n = (first_arity ts q x ≡ Some n) ⊎ ((first_arity ts q x ≡ None) × (first_arity ys q x ≡ Some n))

decided : (b r f d y : Option ℕ) (n : ℕ) → Splits r d y → ((k : ℕ) → b ≡ Some k → f ≡ Some k) → ((k : ℕ) → f ≡ Some k → b ≡ None → r ≡ None)
    → or_else b r ≡ Some n
    → (or_else f d ≡ Some n) ⊎ ((or_else f d ≡ None) × (y ≡ Some n))
decided (Some k) r f d y n splits go converse e = inl (ap (λ o. or_else o d) (go k refl) ∙ e)
decided None r (Some k) d y n splits go converse e = none_not n (sym (converse k refl refl) ∙ e)
decided None r None (Some k) y n splits go converse e = inl (sym splits.0 ∙ e)
decided None r None None y n splits go converse e = inr (refl, sym splits.0 ∙ e)

module _ (p : Named) (ms : List Named) (are : AreDeclared p ms) where
  first_here : only_in_prelude p.name first_types ≡ first_types
  first_here = ap (λ b. if b then first_types else []) ((bytes_eq-Decides p.name prelude_name).1 are.first)

  all_first : (q x : List ℕ)
      → first_arity (all_types (p ∷ ms)) q x ≡ or_else (first_arity first_types q x) (first_arity (data_of p ++ all_types ms) q x)
  all_first q x =
      ap (λ ds. first_arity ((ds ++ data_of p) ++ all_types ms) q x) first_here
      ∙ ap (λ ds. first_arity ds q x) (append_assoc first_types (data_of p) (all_types ms))
      ∙ first_append first_types (data_of p ++ all_types ms) q x

  pub has_arity : (q x : List ℕ) (n : ℕ) → number_at (all_parameters (p ∷ ms)) q x ≡ Some n
      → HasArity (all_types (p ∷ ms)) (all_synonyms (p ∷ ms)) q x n
  has_arity q x n e =
      by (decided (number_at built_in_parameters q x) (number_at (flat_map parameters_in (p ∷ ms)) q x) (first_arity first_types q x)
      (first_arity (data_of p ++ all_types ms) q x) (first_arity (all_synonyms (p ∷ ms)) q x) n
      (modules_splits q x [] p ms are.differ.1 are.once.0 (others_split q x (p.name ∷ []) ms known are.differ.1 are.once.1))
      (literal_first q x) converse (sym (number_append built_in_parameters (flat_map parameters_in (p ∷ ms)) q x) ∙ e))
    where
      known : is_among (p.name ∷ []) prelude_name ≡ true
      known = or_left (bytes_eq prelude_name p.name) false ((bytes_eq-Decides prelude_name p.name).1 (sym are.first))

      converse : (k : ℕ) → first_arity first_types q x ≡ Some k → number_at built_in_parameters q x ≡ None
          → number_at (flat_map parameters_in (p ∷ ms)) q x ≡ None
      converse k f none =
          let sign = first_sign q x k f none in
          number_append (parameters_in p) (flat_map parameters_in ms) q x
          ∙ (λ j. or_else (unsigned_none p.name q x p.syntax.items are.unsigned sign.1 j)
          (known_elsewhere q x (p.name ∷ []) ms
          (or_left (bytes_eq q p.name) false ((bytes_eq-Decides q p.name).1 (sym ((bytes_eq-Decides prelude_name q).0 sign.0) ∙ sym are.first)))
          are.differ.1 j))

      by : (or_else (first_arity first_types q x) (first_arity (data_of p ++ all_types ms) q x) ≡ Some n)
          ⊎ ((or_else (first_arity first_types q x) (first_arity (data_of p ++ all_types ms) q x) ≡ None) ×
          (first_arity (all_synonyms (p ∷ ms)) q x ≡ Some n))
          → HasArity (all_types (p ∷ ms)) (all_synonyms (p ∷ ms)) q x n
      by (inl h) = inl (all_first q x ∙ h)
      by (inr h) = inr (all_first q x ∙ h.0, h.1)

  -- a first type has its place and its arity, whatever else is declared
  pub first_has : (x : List ℕ) (n : ℕ) → first_arity first_types prelude_name x ≡ Some n → first_arity (all_types (p ∷ ms)) prelude_name x ≡ Some n
  first_has x n e = all_first prelude_name x ∙ ap (λ o. or_else o (first_arity (data_of p ++ all_types ms) prelude_name x)) e

-- ---- numbers

first_numbered : (n : ℕ) (q x : List ℕ) (ds : List Declared) → option_map (λ (r : Numbered). r.arity) (numbered_from n q x ds) ≡ first_arity ds q x
first_numbered n q x [] = refl
first_numbered n q x (d ∷ ds) = by (is_called q x d) (first_numbered (n + 1) q x ds)
  where
    by : (b : Bool) → option_map (λ (r : Numbered). r.arity) (numbered_from (n + 1) q x ds) ≡ first_arity ds q x
        → option_map (λ (r : Numbered). r.arity) (if b then Some (record { number = n; arity = d.arity }) else numbered_from (n + 1) q x ds) ≡
        (if b then Some d.arity else first_arity ds q x)
    by true later = refl
    by false later = later

-- the first of a name stands here
pub record FirstAt (n : ℕ) (q x : List ℕ) (ds : List Declared) (r : Numbered) : Type 0 where
  pub place : ℕ
  pub declared : Declared
  pub is : r.number ≡ n + place
  pub at : slice_get ds place ≡ Some declared
  pub arity : declared.arity ≡ r.arity
  pub called : is_called q x declared ≡ true
  pub others : (k : ℕ) (d : Declared) → k < place → slice_get ds k ≡ Some d → is_called q x d ≡ false

pub first_at : (n : ℕ) (q x : List ℕ) (ds : List Declared) (r : Numbered) → numbered_from n q x ds ≡ Some r → FirstAt n q x ds r
first_at n q x [] r e = absurd cc
first_at n q x (d ∷ ds) r e = by (is_called q x d) refl e (first_at (n + 1) q x ds r)
  where
    others_of : (place : ℕ) → is_called q x d ≡ false → ((k : ℕ) (f : Declared) → k < place → slice_get ds k ≡ Some f → is_called q x f ≡ false)
        → (k : ℕ) (f : Declared) → k < suc place → slice_get (d ∷ ds) k ≡ Some f → is_called q x f ≡ false
    others_of place is later zero f h at =
        let same : d ≡ f = cc in
        subst (λ (g : Declared). is_called q x g ≡ false) same is
    others_of place is later (suc k) f h at = later k f (omega arith) at

    by : (b : Bool) → is_called q x d ≡ b → (if b then Some (record { number = n; arity = d.arity }) else numbered_from (n + 1) q x ds) ≡ Some r
        → ((numbered_from (n + 1) q x ds ≡ Some r) → FirstAt (n + 1) q x ds r) → FirstAt n q x (d ∷ ds) r
    by true is e later =
        let same : ◌≡◌ {A = Numbered} (record { number = n; arity = d.arity }) r = cc in
        record {
          place = 0;
          declared = d;
          is = ap (λ (r : Numbered). r.number) (sym same) ∙ (omega arith);
          at = refl;
          arity = ap (λ (r : Numbered). r.arity) same;
          called = is;
          others = λ k f h at. absurd (omega arith);
        }
    by false is e later =
        let found = later e in
        let number = found.is in
        record {
          place = suc found.place;
          declared = found.declared;
          is = omega arith;
          at = found.at;
          arity = found.arity;
          called = found.called;
          others = others_of found.place is found.others;
        }

-- a program has the types and synonyms of modules, with their numbers of parameters
pub record HasTypes (ts ys : List Declared) (k : Kernel) : Type 0 where
  pub types : map (λ (t : kernel.DataType). t.arity) k.types ≡ map (λ (d : Declared). d.arity) ts
  pub synonyms : map (λ (s : kernel.Synonym). s.arity) k.synonyms ≡ map (λ (d : Declared). d.arity) ys

takes_data : (ts ys : List Declared) (k : Kernel) (place : ℕ) (d : Declared) → HasTypes ts ys k → slice_get ts place ≡ Some d
    → takes_arguments k (name.Data (record { 0 = place })) d.arity ≡ true
takes_data ts ys k place d has at =
    by (slice_get k.types place) refl
    (sym (slice_get-map (λ (t : kernel.DataType). t.arity) k.types place) ∙ ap (λ xs. slice_get xs place) has.types
    ∙ slice_get-map (λ (d : Declared). d.arity) ts place ∙ ap (option_map (λ (d : Declared). d.arity)) at)
  where
    by : (o : Option kernel.DataType) → slice_get k.types place ≡ o → option_map (λ (t : kernel.DataType). t.arity) o ≡ Some d.arity
        → takes_arguments k (name.Data (record { 0 = place })) d.arity ≡ true
    by None e h = absurd cc
    by (Some t) e h =
        let same : t.arity ≡ d.arity = cc in
        rw e ((Decides-eqb d.arity t.arity).1 (sym same))

takes_synonym : (ts ys : List Declared) (k : Kernel) (place : ℕ) (d : Declared) → HasTypes ts ys k → slice_get ys place ≡ Some d
    → takes_arguments k (name.Synonym (record { 0 = place })) d.arity ≡ true
takes_synonym ts ys k place d has at =
    by (slice_get k.synonyms place) refl
    (sym (slice_get-map (λ (t : kernel.Synonym). t.arity) k.synonyms place) ∙ ap (λ xs. slice_get xs place) has.synonyms
    ∙ slice_get-map (λ (d : Declared). d.arity) ys place ∙ ap (option_map (λ (d : Declared). d.arity)) at)
  where
    by : (o : Option kernel.Synonym) → slice_get k.synonyms place ≡ o → option_map (λ (t : kernel.Synonym). t.arity) o ≡ Some d.arity
        → takes_arguments k (name.Synonym (record { 0 = place })) d.arity ≡ true
    by None e h = absurd cc
    by (Some t) e h =
        let same : t.arity ≡ d.arity = cc in
        rw e ((Decides-eqb d.arity t.arity).1 (sym same))

-- what a name stands for takes as many arguments as it has parameters
pub takes_arity : (modules : List Named) (k : Kernel) (q x : List ℕ) (n : ℕ) → HasTypes (all_types modules) (all_synonyms modules) k
    → HasArity (all_types modules) (all_synonyms modules) q x n → takes_arguments k (type_of modules q x) n ≡ true
takes_arity modules k q x n has arity =
    by (numbered q x (all_types modules)) (numbered q x (all_synonyms modules)) refl refl arity
  where
    takes_of : (place : ℕ) (d : Declared) (r : Numbered) → takes_arguments k (name.Data (record { 0 = place })) d.arity ≡ true → r.number ≡ 0 + place
        → d.arity ≡ r.arity → r.arity ≡ n
        → takes_arguments k (name.Data (record { 0 = r.number })) n ≡ true
    takes_of place d r takes is same e =
        let here : place ≡ r.number = omega arith in
        subst (λ (i : ℕ). takes_arguments k (name.Data (record { 0 = i })) n ≡ true) here
        (subst (λ (a : ℕ). takes_arguments k (name.Data (record { 0 = place })) a ≡ true) (same ∙ e) takes)

    synonym_takes_of : (place : ℕ) (d : Declared) (r : Numbered) → takes_arguments k (name.Synonym (record { 0 = place })) d.arity ≡ true
        → r.number ≡ 0 + place → d.arity ≡ r.arity → r.arity ≡ n
        → takes_arguments k (name.Synonym (record { 0 = r.number })) n ≡ true
    synonym_takes_of place d r takes is same e =
        let here : place ≡ r.number = omega arith in
        subst (λ (i : ℕ). takes_arguments k (name.Synonym (record { 0 = i })) n ≡ true) here
        (subst (λ (a : ℕ). takes_arguments k (name.Synonym (record { 0 = place })) a ≡ true) (same ∙ e) takes)

    by : (t s : Option Numbered) → numbered q x (all_types modules) ≡ t → numbered q x (all_synonyms modules) ≡ s
        → HasArity (all_types modules) (all_synonyms modules) q x n
        → takes_arguments k (type_named t (synonym_named s)) n ≡ true
    by (Some r) s is are (inl h) =
        let found = first_at 0 q x (all_types modules) r is in
        let same : Some r.arity ≡ Some n = sym (ap (option_map (λ (r : Numbered). r.arity)) is) ∙ first_numbered 0 q x (all_types modules) ∙ h in
        let e : r.arity ≡ n = cc in
        takes_of found.place found.declared r (takes_data (all_types modules) (all_synonyms modules) k found.place found.declared has found.at)
        found.is found.arity e
    by (Some r) s is are (inr h) =
        some_not r.arity (sym (ap (option_map (λ (r : Numbered). r.arity)) is) ∙ first_numbered 0 q x (all_types modules) ∙ h.0)
    by None s is are (inl h) = none_not n (sym (ap (option_map (λ (r : Numbered). r.arity)) is) ∙ first_numbered 0 q x (all_types modules) ∙ h)
    by None None is are (inr h) =
        none_not n (sym (ap (option_map (λ (r : Numbered). r.arity)) are) ∙ first_numbered 0 q x (all_synonyms modules) ∙ h.1)
    by None (Some r) is are (inr h) =
        let found = first_at 0 q x (all_synonyms modules) r are in
        let same : Some r.arity ≡ Some n = sym (ap (option_map (λ (r : Numbered). r.arity)) are) ∙ first_numbered 0 q x (all_synonyms modules)
        ∙ h.1 in
        let e : r.arity ≡ n = cc in
        synonym_takes_of found.place found.declared r
        (takes_synonym (all_types modules) (all_synonyms modules) k found.place found.declared has found.at) found.is found.arity e

-- a first type is a data type
pub first_is_data : (modules : List Named) (q x : List ℕ) (n : ℕ) → first_arity (all_types modules) q x ≡ Some n
    → (i : ℕ) × (type_of modules q x ≡ name.Data (record { 0 = i }))
first_is_data modules q x n e = by (numbered q x (all_types modules)) refl
  where
    by : (t : Option Numbered) → numbered q x (all_types modules) ≡ t
        → (i : ℕ) × (type_named t (synonym_named (numbered q x (all_synonyms modules))) ≡ name.Data (record { 0 = i }))
    by (Some r) is = (r.number, refl)
    by None is = none_not n (sym (ap (option_map (λ (r : Numbered). r.arity)) is) ∙ first_numbered 0 q x (all_types modules) ∙ e)

-- what is a synonym has a number among these
pub synonym_numbered : (modules : List Named) (q x : List ℕ) (s : ℕ) → type_of modules q x ≡ name.Synonym (record { 0 = s })
    → (r : Numbered) × (numbered q x (all_synonyms modules) ≡ Some r) × (r.number ≡ s)
synonym_numbered modules q x s e = by (numbered q x (all_types modules)) (numbered q x (all_synonyms modules)) refl e
  where
    number_in : TypeName → ℕ
    number_in (name.Data t) = 0
    number_in (name.Synonym s) = s.0

    by : (t y : Option Numbered) → numbered q x (all_synonyms modules) ≡ y → type_named t (synonym_named y) ≡ name.Synonym (record { 0 = s })
        → (r : Numbered) × (numbered q x (all_synonyms modules) ≡ Some r) × (r.number ≡ s)
    by (Some t) y is e = absurd cc
    by None None is e = absurd cc
    by None (Some r) is e = (r, is, ap number_in e)
