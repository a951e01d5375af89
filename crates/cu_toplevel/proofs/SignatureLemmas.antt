-- The variables of a type, each where it first stands.
use Rattle.std.proofs.Common.{◌≡◌, ◌∙◌, ℕ, ◌+◌, ◌<◌, Bool, true, false, List, [], ◌∷◌, ◌++◌, map, take, refl, sym, ap, subst, get_or, length, append-nil, append_assoc, if◌then◌else◌}
use Rattle.std.proofs.lemmas.List.{flat_map_more, map-append, map_more}
use Rattle.std.proofs.lemmas.List.Elements.{All-head, All-push, All-tail}
use Rattle.std.proofs.lemmas.List.Folds.{list_any-append}
use Rattle.std.specs.List.{All, flat_map, list_any}
use Rattle.std.specs.Prelude.{◌||◌, nat_eq}
use Rattle.std.specs.Str.{bytes_eq}
use Rattle.cu_names.specs.declared.names.NameId.{NameId}
use Rattle.cu_names.specs.Texts.{AllDiffer, IsKnown, text_of}
use Rattle.cu_syntax.specs.declared.name.Name as code
use Rattle.cu_syntax.specs.declared.types.TypeNode.{TypeNode}
use Rattle.cu_syntax.specs.declared.types.TypeTerm.{TypeTerm}
use Rattle.cu_syntax.specs.Names.{name_meaning}
use Rattle.cu_syntax.specs.Owners.{NameIsOf}
use Rattle.cu_syntax.specs.Syntax as syntax
use Rattle.cu_syntax.specs.Syntax.{Name}
use Rattle.cu_syntax.specs.Types.{function_type, type_meaning, type_node, types_meaning}
use Rattle.cu_toplevel.specs.Inside.Variables.{AddsOnce, and_once}
use Rattle.cu_uses.specs.Binders.{all_type_variables, is_among, once, texts, type_variables}
use Rattle.cu_toplevel.proofs.NameLemmas.{bytes_turned, same_name}

-- ---- texts that stand before

-- what stands before matters by its texts alone
once_same : (s u : List (List ℕ)) → ((t : List ℕ) → is_among s t ≡ is_among u t) → (xs : List Name) → once s xs ≡ once u xs
once_same s u same [] = refl
once_same s u same (x ∷ xs) = λ j. if same x.text j then once_same s u same xs j else x ∷ once_same (x.text ∷ s) (x.text ∷ u) (λ t k. bytes_eq t x.text || same t k) xs j

turned : (a b c : Bool) → (a || (b || c)) ≡ (b || (a || c))
turned true true c = refl
turned true false c = refl
turned false b c = refl

moved : (x : List ℕ) (s u : List (List ℕ)) (t : List ℕ) → is_among ((x ∷ s) ++ u) t ≡ is_among (s ++ x ∷ u) t
moved x s u t =
    ap (λ h. bytes_eq t x || h) (list_any-append (bytes_eq t) s u)
    ∙ turned (bytes_eq t x) (is_among s t) (is_among u t)
    ∙ sym (list_any-append (bytes_eq t) s (x ∷ u))

once_append : (s : List (List ℕ)) (xs ys : List Name) → once s (xs ++ ys) ≡ once s xs ++ once (s ++ texts (once s xs)) ys
once_append s [] ys = ap (λ u. once u ys) (sym (append-nil s))
once_append s (x ∷ xs) ys = by (once_append s xs ys) (once_append (x.text ∷ s) xs ys) (is_among s x.text)
  where
    by : once s (xs ++ ys) ≡ once s xs ++ once (s ++ texts (once s xs)) ys
        → once (x.text ∷ s) (xs ++ ys) ≡ once (x.text ∷ s) xs ++ once ((x.text ∷ s) ++ texts (once (x.text ∷ s) xs)) ys
        → (h : Bool) → (if h then once s (xs ++ ys) else x ∷ once (x.text ∷ s) (xs ++ ys))
        ≡ (if h then once s xs else x ∷ once (x.text ∷ s) xs) ++ once (s ++ texts (if h then once s xs else x ∷ once (x.text ∷ s) xs)) ys
    by stands new true = stands
    by stands new false =
        let more = once (x.text ∷ s) xs in
        ap (λ zs. x ∷ zs) (new ∙ ap (λ zs. more ++ zs) (once_same ((x.text ∷ s) ++ texts more) (s ++ x.text ∷ texts more) (moved x.text s (texts more)) ys))

-- ---- names that are gathered

and_both : (before xs ys : List Name) → and_once (and_once before xs) ys ≡ and_once before (xs ++ ys)
and_both before xs ys =
    let new = once (texts before) xs in
    append_assoc before new (once (texts (before ++ new)) ys)
    ∙ ap (λ zs. before ++ zs) (ap (λ u. new ++ once u ys) (map-append (λ (n : Name). n.text) before new) ∙ sym (once_append (texts before) xs ys))

pub adds_both : {owner : NameId} {table : List (List ℕ)} {a b c : List code.Name} {xs ys : List Name} → AddsOnce owner table a xs b → AddsOnce owner table b ys c → AddsOnce owner table a (xs ++ ys) c
adds_both {owner} {table} {a} {b} {c} {xs} {ys} first second = record {
  adds = λ all. second.adds (first.owned all) ∙ ap (λ ns. and_once ns ys) (first.adds all) ∙ and_both (map (name_meaning table) a) xs ys;
  owned = λ all. second.owned (first.owned all);
}

pub adds_none : (owner : NameId) (table : List (List ℕ)) (a : List code.Name) → AddsOnce owner table a [] a
adds_none owner table a = record { adds = λ all. sym (append-nil (map (name_meaning table) a)); owned = λ all. all }

pub there_already : (owner : NameId) (table : List (List ℕ)) (a : List code.Name) (x : code.Name) (found : Bool) → found ≡ true
    → (All (NameIsOf owner table) a → found ≡ is_among (texts (map (name_meaning table) a)) (text_of table x.text)) → AddsOnce owner table a (name_meaning table x ∷ []) a
there_already owner table a x found is among = record {
  adds = λ all. let ns = map (name_meaning table) a in
      sym (append-nil ns) ∙ ap (λ (h : Bool). ns ++ (if h then [] else name_meaning table x ∷ [])) (sym is ∙ among all);
  owned = λ all. all;
}

pub new_name : (owner : NameId) (table : List (List ℕ)) (a b : List code.Name) (x : code.Name) (found : Bool) → found ≡ false → b ≡ a ++ x ∷ [] → NameIsOf owner table x
    → (All (NameIsOf owner table) a → found ≡ is_among (texts (map (name_meaning table) a)) (text_of table x.text)) → AddsOnce owner table a (name_meaning table x ∷ []) b
new_name owner table a b x found is pushed own among = record {
  adds = λ all. let ns = map (name_meaning table) a in
      ap (map (name_meaning table)) pushed ∙ map-append (name_meaning table) a (x ∷ [])
      ∙ ap (λ (h : Bool). ns ++ (if h then [] else name_meaning table x ∷ [])) (sym is ∙ among all);
  owned = λ all. subst (All (NameIsOf owner table)) (sym pushed) (All-push (NameIsOf owner table) a x all own);
}

-- ---- a text among those of names

pub among_is : (owner : NameId) (table : List (List ℕ)) (names : List code.Name) (text : NameId) → AllDiffer table → IsKnown table text → All (NameIsOf owner table) names
    → list_any (λ (name : code.Name). nat_eq name.text.0 text.0) names ≡ is_among (texts (map (name_meaning table) names)) (text_of table text)
among_is owner table [] text differ known all = refl
among_is owner table (x ∷ xs) text differ known all = λ j.
    (same_name table x.text text differ (All-head (NameIsOf owner table) x xs all).text known ∙ bytes_turned (text_of table x.text) (text_of table text)) j
    || among_is owner table xs text differ known (All-tail (NameIsOf owner table) x xs all) j

-- ---- types

further_bind : (table : List (List ℕ)) (ts : List TypeTerm) (to : syntax.TypeTerm) → all_type_variables (types_meaning table ts) ++ type_variables to ≡ type_variables (function_type table ts to)
further_bind table [] to = refl
further_bind table (t ∷ ts) to =
    append_assoc (type_variables (type_meaning table t)) (all_type_variables (types_meaning table ts)) (type_variables to)
    ∙ ap (λ xs. type_variables (type_meaning table t) ++ xs) (further_bind table ts to)

pub adds_function : (owner : NameId) (table : List (List ℕ)) (first to : TypeTerm) (further : List TypeTerm) (a b c d : List code.Name) → AddsOnce owner table a (type_variables (type_meaning table first)) b
    → AddsOnce owner table b (all_type_variables (types_meaning table further)) c → AddsOnce owner table c (type_variables (type_meaning table to)) d
    → AddsOnce owner table a (type_variables (type_meaning table first) ++ type_variables (function_type table further (type_meaning table to))) d
adds_function owner table first to further a b c d one two three =
    adds_both one (subst (λ xs. AddsOnce owner table b xs d) (further_bind table further (type_meaning table to)) (adds_both two three))

pub node_adds : (owner : NameId) (table : List (List ℕ)) (t : TypeTerm) (v n : TypeNode) (a b : List code.Name) → type_node table v ≡ type_meaning table t → v ≡ n
    → AddsOnce owner table a (type_variables (type_node table n)) b → AddsOnce owner table a (type_variables (type_meaning table t)) b
node_adds owner table t v n a b meaning is adds =
    subst (λ m. AddsOnce owner table a (type_variables m) b) (ap (type_node table) (sym is) ∙ meaning) adds

-- ---- several types

abbrev pub variables_of : List (List ℕ) → List TypeTerm → List Name
variables_of table ts = flat_map type_variables (map (type_meaning table) ts)

pub all_variables : (table : List (List ℕ)) (ts : List TypeTerm) → variables_of table ts ≡ all_type_variables (types_meaning table ts)
all_variables table [] = refl
all_variables table (t ∷ ts) = ap (λ xs. type_variables (type_meaning table t) ++ xs) (all_variables table ts)

pub adds_more : (owner : NameId) (table : List (List ℕ)) (ts : List TypeTerm) (i : ℕ) (t : TypeTerm) (a b c : List code.Name) → i < length ts → t ≡ get_or ts i t
    → AddsOnce owner table a (variables_of table (take i ts)) b → AddsOnce owner table b (type_variables (type_meaning table t)) c → AddsOnce owner table a (variables_of table (take (i + 1) ts)) c
adds_more owner table ts i t a b c within here before adds =
    let f = type_meaning table in
    subst (λ xs. AddsOnce owner table a xs c)
    (flat_map_more type_variables [] (map f (take i ts)) (f t)
    ∙ ap (flat_map type_variables) (sym (map_more f ts i t within ∙ ap (λ x. map f (take i ts) ++ f x ∷ []) (sym here))))
    (adds_both before adds)
