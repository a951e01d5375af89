-- What types of the source stand for.
use Rattle.std.proofs.Common.{◌≡◌, ◌∙◌, ℕ, suc, ◌+◌, ◌<◌, Bool, true, false, List, [], ◌∷◌, ◌++◌, Option, None, Some, map, take, refl, sym, ap, ap₂, get_or, length, arith, if◌then◌else◌}
use Rattle.std.proofs.Math.Numerals.{add-one}
use Rattle.std.proofs.lemmas.Bool.{both_ways}
use Rattle.std.proofs.lemmas.Bool.Decides.{Decides-ltb}
use Rattle.std.proofs.lemmas.List.{append_assoc, length-map, map-append, map_more}
use Rattle.std.proofs.lemmas.List.Elements.{All-head, All-tail}
use Rattle.std.proofs.lemmas.List.Sums.{prefix_len-le-length}
use Rattle.std.specs.List.{All, position_or_len}
use Rattle.std.specs.Prelude.{IfOk, OnOk, Result, Ok, Err, nat_eq, nat_lt, not, position}
use Rattle.std.specs.Str.{bytes_eq}
use Rattle.std.specs.declared.alloc.Global.{Global}
use Rattle.std.specs.declared.vec.Vec.{Vec}
use Rattle.cu_kernel.specs.declared.type_term.TypeName.{TypeName}
use Rattle.cu_kernel.specs.declared.type_term.TypeTerm as boxed
use Rattle.cu_kernel.specs.declared.type_term.TypeTerm.TheVariants as variant
use Rattle.cu_kernel.specs.TypeExpr as kernel
use Rattle.cu_kernel.specs.TypeExpr.{TypeExpr}
use Rattle.cu_kernel.specs.TypesOf as code
use Rattle.cu_names.specs.declared.names.NameId.{NameId}
use Rattle.cu_names.specs.Texts.{AllDiffer, IsKnown, text_of}
use Rattle.cu_syntax.specs.declared.name.Name.{Name}
use Rattle.cu_syntax.specs.declared.types.TypeNode.{TypeNode}
use Rattle.cu_syntax.specs.declared.types.TypeNode.TheVariants as node
use Rattle.cu_syntax.specs.declared.types.TypeTerm.{TypeTerm}
use Rattle.cu_syntax.specs.Names.{name_meaning}
use Rattle.cu_syntax.specs.Owners.{NameIsOf}
use Rattle.cu_syntax.specs.Syntax as syntax
use Rattle.cu_syntax.specs.Types.{function_type, type_meaning, type_node, types_meaning}
use Rattle.cu_toplevel.specs.Inside.Arrows.{arrows}
use Rattle.cu_translation.specs.Around.{Names, tuple_name}
use Rattle.cu_translation.specs.TypeTable.{fields_of, type_count, type_of, types, types_of}
use Rattle.cu_uses.specs.Binders.{texts}
use Rattle.cu_toplevel.proofs.NameLemmas.{bytes_turned, same_name}

-- ---- results

pub if_ok : {A E : Type 0} {P Q : A → Type 0} (r : Result A E) → ((a : A) → P a → Q a) → IfOk r P → IfOk r Q
if_ok (Ok a) f p = f a p
if_ok (Err e) f p = tt

pub on_ok : {A E : Type 0} {P Q : Type 0} (r : Result A E) → (P → Q) → OnOk r P → OnOk r Q
on_ok (Ok a) f p = f p
on_ok (Err e) f p = tt

-- ---- lists that are made one element after another

pub pushed_more : {A B C : Type 0} (g : B → C) (f : A → C) (before : List C) (xs : List A) (i : ℕ) (d : A) (old new : List B) (made : B) → i < length xs → new ≡ old ++ made ∷ [] → g made ≡ f (get_or xs i d)
    → map g old ≡ before ++ map f (take i xs) → map g new ≡ before ++ map f (take (i + 1) xs)
pushed_more g f before xs i d old new made within pushed is all =
    ap (map g) pushed ∙ map-append g old (made ∷ [])
    ∙ ap₂ (λ ys (y : _). ys ++ y ∷ []) all is
    ∙ append_assoc before (map f (take i xs)) (f (get_or xs i d) ∷ [])
    ∙ ap (λ ys. before ++ ys) (sym (map_more f xs i d within))

-- ---- places of type variables

some_place : {X : Type 0} (p : X → Bool) (xs : List X) (k : ℕ) → position p xs ≡ Some k → k ≡ position_or_len p xs
some_place p xs k is = by (nat_lt (position_or_len p xs) (length xs)) is
  where
    by : (h : Bool) → (if h then Some (position_or_len p xs) else None) ≡ Some k → k ≡ position_or_len p xs
    by true is = cc
    by false is = let no : ⊥ = cc in absurd no

no_place : {X : Type 0} (p : X → Bool) (xs : List X) → position p xs ≡ None → length xs ≡ position_or_len p xs
no_place p xs is = by (nat_lt (position_or_len p xs) (length xs)) refl is
  where
    by : (h : Bool) → nat_lt (position_or_len p xs) (length xs) ≡ h → (if h then Some (position_or_len p xs) else None) ≡ None → length xs ≡ position_or_len p xs
    by true less is = let no : ⊥ = cc in absurd no
    by false less is =
        let most = prefix_len-le-length (λ x. not (p x)) xs in
        let not_less : position_or_len p xs < length xs → ⊥ = λ w. both_ways (nat_lt (position_or_len p xs) (length xs)) less ((Decides-ltb (position_or_len p xs) (length xs)).1 w) in
        omega (arith, most, not_less)

place_same : (owner : NameId) (table : List (List ℕ)) (names : List Name) (text : NameId) → AllDiffer table → IsKnown table text → All (NameIsOf owner table) names
    → position_or_len (λ (name : Name). nat_eq name.text.0 text.0) names ≡ position_or_len (bytes_eq (text_of table text)) (texts (map (name_meaning table) names))
place_same owner table [] text differ known all = refl
place_same owner table (x ∷ xs) text differ known all = λ j.
    if not ((same_name table x.text text differ (All-head (NameIsOf owner table) x xs all).text known ∙ bytes_turned (text_of table x.text) (text_of table text)) j)
    then 1 + place_same owner table xs text differ known (All-tail (NameIsOf owner table) x xs all) j else 0

pub place_there : (owner : NameId) (table : List (List ℕ)) (names : List Name) (text : NameId) (found : Option ℕ) (k : ℕ) → found ≡ Some k → found ≡ position (λ (name : Name). nat_eq name.text.0 text.0) names
    → AllDiffer table → IsKnown table text → All (NameIsOf owner table) names → k ≡ position_or_len (bytes_eq (text_of table text)) (texts (map (name_meaning table) names))
place_there owner table names text found k there is differ known all =
    some_place (λ (name : Name). nat_eq name.text.0 text.0) names k (sym is ∙ there) ∙ place_same owner table names text differ known all

pub place_absent : (owner : NameId) (table : List (List ℕ)) (names : List Name) (text : NameId) (found : Option ℕ) → found ≡ None → found ≡ position (λ (name : Name). nat_eq name.text.0 text.0) names
    → AllDiffer table → IsKnown table text → All (NameIsOf owner table) names → length names ≡ position_or_len (bytes_eq (text_of table text)) (texts (map (name_meaning table) names))
place_absent owner table names text found there is differ known all =
    no_place (λ (name : Name). nat_eq name.text.0 text.0) names (sym is ∙ there) ∙ place_same owner table names text differ known all

-- ---- several types

abbrev pub meant_type : List (List ℕ) → Names → List Name → TypeTerm → TypeExpr
meant_type names around variables t = type_of around (texts (map (name_meaning names) variables)) (type_meaning names t)

pub fields_are : (names : List (List ℕ)) (around : Names) (variables : List Name) (ts : List TypeTerm)
    → map (meant_type names around variables) ts ≡ fields_of around (texts (map (name_meaning names) variables)) (types_meaning names ts)
fields_are names around variables [] = refl
fields_are names around variables (t ∷ ts) = ap (λ xs. meant_type names around variables t ∷ xs) (fields_are names around variables ts)

-- types in a list of their own
listed : (xs : List boxed.TypeTerm) → code.types_of xs ≡ types (map code.type_of xs)
listed [] = refl
listed (x ∷ xs) = ap (kernel.MoreTypes (code.type_of x)) (listed xs)

fields_listed : (around : Names) (variables : List (List ℕ)) (ts : syntax.TypeTerms) → types (fields_of around variables ts) ≡ types_of around variables ts
fields_listed around variables syntax.NoType = refl
fields_listed around variables (syntax.MoreTypes t ts) = ap (kernel.MoreTypes (type_of around variables t)) (fields_listed around variables ts)

pub types_are : (around : Names) (variables : List (List ℕ)) (ts : syntax.TypeTerms) (xs : List boxed.TypeTerm) → map code.type_of xs ≡ fields_of around variables ts → code.types_of xs ≡ types_of around variables ts
types_are around variables ts xs same = listed xs ∙ ap types same ∙ fields_listed around variables ts

counted : (around : Names) (variables : List (List ℕ)) (ts : syntax.TypeTerms) → length (fields_of around variables ts) ≡ type_count ts
counted around variables syntax.NoType = refl
counted around variables (syntax.MoreTypes t ts) = ap suc (counted around variables ts) ∙ sym (add-one (type_count ts))

pub as_many : (around : Names) (variables : List (List ℕ)) (ts : syntax.TypeTerms) (xs : List boxed.TypeTerm) → map code.type_of xs ≡ fields_of around variables ts → length xs ≡ type_count ts
as_many around variables ts xs same = sym (length-map xs code.type_of) ∙ ap length same ∙ counted around variables ts

-- ---- what a node tells

pub type_is : (names : List (List ℕ)) (around : Names) (variables : List Name) (t : TypeTerm) (v n : TypeNode) (made : TypeExpr) → type_node names v ≡ type_meaning names t → v ≡ n
    → made ≡ type_of around (texts (map (name_meaning names) variables)) (type_node names n) → made ≡ meant_type names around variables t
type_is names around variables t v n made meaning is same =
    same ∙ ap (type_of around (texts (map (name_meaning names) variables))) (ap (type_node names) (sym is) ∙ meaning)

-- the types of further parameters, and of the result
further_are : (names : List (List ℕ)) (around : Names) (variables : List (List ℕ)) (ts : List TypeTerm) (to : syntax.TypeTerm)
    → arrows (fields_of around variables (types_meaning names ts)) (type_of around variables to) ≡ type_of around variables (function_type names ts to)
further_are names around variables [] to = refl
further_are names around variables (t ∷ ts) to = ap (kernel.Arrow (type_of around variables (type_meaning names t))) (further_are names around variables ts to)

pub function_is : (names : List (List ℕ)) (around : Names) (variables : List Name) (first : TypeTerm) (further : Vec TypeTerm Global) (to : TypeTerm) (made_first made_to made : boxed.TypeTerm) (made_further : List boxed.TypeTerm)
    → code.type_of made_first ≡ meant_type names around variables first → map code.type_of made_further ≡ fields_of around (texts (map (name_meaning names) variables)) (types_meaning names further.items)
    → code.type_of made_to ≡ meant_type names around variables to
    → code.type_of made ≡ arrows (code.type_of made_first ∷ map code.type_of made_further) (code.type_of made_to)
    → code.type_of made ≡ type_of around (texts (map (name_meaning names) variables)) (type_node names (node.Function first further to))
function_is names around variables first further to made_first made_to made made_further first_is further_are_so to_is whole =
    whole
    ∙ ap₂ kernel.Arrow first_is (ap₂ arrows further_are_so to_is ∙ further_are names around (texts (map (name_meaning names) variables)) further.items (type_meaning names to))

pub named_is : (names : List (List ℕ)) (around : Names) (variables : List Name) (name : Name) (arguments : Vec TypeTerm Global) (id : TypeName) (made : Vec boxed.TypeTerm Global) → id ≡ around.type (name_meaning names name)
    → map code.type_of made.items ≡ fields_of around (texts (map (name_meaning names) variables)) (types_meaning names arguments.items)
    → code.type_of (variant.Named id made) ≡ type_of around (texts (map (name_meaning names) variables)) (type_node names (node.Named name arguments))
named_is names around variables name arguments id made named same =
    code.type_of-Named id made ∙ ap₂ kernel.Named named (types_are around (texts (map (name_meaning names) variables)) (types_meaning names arguments.items) made.items same)

pub tuple_is : (names : List (List ℕ)) (around : Names) (variables : List (List ℕ)) (components : List TypeTerm) (made : TypeExpr) (made_components : List boxed.TypeTerm)
    → map code.type_of made_components ≡ fields_of around variables (types_meaning names components)
    → made ≡ kernel.Named (around.prelude_type (tuple_name (length made_components))) (code.types_of made_components)
    → made ≡ kernel.Named (around.prelude_type (tuple_name (type_count (types_meaning names components)))) (types_of around variables (types_meaning names components))
tuple_is names around variables components made made_components same whole =
    whole ∙ ap₂ (λ n ts. kernel.Named (around.prelude_type (tuple_name n)) ts) (as_many around variables (types_meaning names components) made_components same)
    (types_are around variables (types_meaning names components) made_components same)

-- ---- functions of several parameters

-- the last of the parameters is the first that is put before the result
pub last_arrow : (ts : List TypeExpr) (t to : TypeExpr) → arrows (ts ++ t ∷ []) to ≡ arrows ts (kernel.Arrow t to)
last_arrow [] t to = refl
last_arrow (s ∷ ts) t to = ap (kernel.Arrow s) (last_arrow ts t to)

pub popped : (left all : List boxed.TypeTerm) (from whole made : boxed.TypeTerm) (rest : TypeExpr) → all ≡ left ++ from ∷ [] → code.type_of made ≡ kernel.Arrow (code.type_of from) (code.type_of whole)
    → arrows (map code.type_of all) (code.type_of whole) ≡ rest → arrows (map code.type_of left) (code.type_of made) ≡ rest
popped left all from whole made rest is put before =
    ap (arrows (map code.type_of left)) put
    ∙ sym (last_arrow (map code.type_of left) (code.type_of from) (code.type_of whole))
    ∙ ap (λ ts. arrows ts (code.type_of whole)) (sym (ap (map code.type_of) is ∙ map-append code.type_of left (from ∷ [])))
    ∙ before
