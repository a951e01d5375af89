-- Functions that begin among rules, one rule after another.
use Rattle.std.proofs.Common.{◌≡◌, ◌∙◌, ℕ, ◌+◌, ◌<◌, Bool, true, false, List, [], ◌∷◌, ◌++◌, Option, None, Some, map, take, get_or, length, refl, sym, ap, ap₂, subst, append-nil, arith, if◌then◌else◌}
use Rattle.std.proofs.lemmas.List.{length-map, map-append, map_more}
use Rattle.std.proofs.lemmas.Slice.Eq.{bytes_eq-Decides}
use Rattle.std.specs.Option.{option_eq, option_map}
use Rattle.std.specs.Str.{bytes_eq}
use Rattle.cu_lex.specs.Located.{Position}
use Rattle.cu_names.specs.contracts.names.NameIdPartialEq.TheImpl as ids
use Rattle.cu_names.specs.declared.names.NameId.{NameId}
use Rattle.cu_names.specs.Texts.{AllDiffer, IsKnown, text_of}
use Rattle.cu_names.specs.declared.place.Place.{Place}
use Rattle.cu_lex.specs.Reading.{position_of}
use Rattle.cu_syntax.specs.declared.name.Name as names_code
use Rattle.cu_syntax.specs.declared.patterns.Pattern as code
use Rattle.cu_syntax.specs.Names.{name_meaning}
use Rattle.cu_syntax.specs.Patterns.{pattern_meaning, patterns_from, patterns_meaning}
use Rattle.cu_syntax.specs.Syntax.{Name, Pattern, RightSide}
use Rattle.cu_toplevel.specs.declared.function_heads.FunctionHead.{FunctionHead}
use Rattle.cu_toplevel.specs.Heads.{Head, head_meaning, head_of_group, head_of_rule}
use Rattle.cu_toplevel.specs.Inside.Heads.{IsBegun, begun_after, begun_with, heads_with}
use Rattle.cu_translation.specs.Rules.{Begun, Rule, begun_by, goes_on, groups, groups_after, leading, pattern_count}
use Rattle.cu_toplevel.proofs.NameLemmas.{same_id, same_name}

abbrev heads_after : Option Begun → List (Option Rule) → List Head
heads_after b ds = map head_of_group (groups_after b ds)

-- a rule that goes on belongs to the function that began
still : (b : Option Begun) (name : Name) (at : Position) → goes_on b name ≡ true → Some (begun_by b name at) ≡ b
still None name at goes = let no : ⊥ = cc in absurd no
still (Some b) name at goes = ap (λ h. Some (if h then b else record { name = name.text; at = at })) goes

begun_name : (b : Option Begun) (name : Name) (at : Position) → (begun_by b name at).name ≡ name.text
begun_name None name at = refl
begun_name (Some b) name at = by (bytes_eq b.name name.text) refl
  where
    by : (h : Bool) → bytes_eq b.name name.text ≡ h → (if h then b else record { name = name.text; at = at }).name ≡ name.text
    by true is = (bytes_eq-Decides b.name name.text).0 is
    by false is = refl

one_more : (b : Option Begun) (ds : List (Option Rule)) (d : Option Rule) → heads_after b (ds ++ d ∷ []) ≡ heads_after b ds ++ heads_with (begun_after b ds) d
one_more b [] None = refl
one_more b [] (Some r) = by (goes_on b r.name)
  where
    by : (h : Bool) → map head_of_group (if h then groups_after b [] else record { first = r; others = [] } ∷ groups_after (Some (begun_by b r.name r.at)) []) ≡ (if h then [] else head_of_rule r ∷ [])
    by true = refl
    by false = refl
one_more b (None ∷ ds) d = one_more None ds d
one_more b (Some r ∷ ds) d = by (one_more b ds d) (one_more (Some (begun_by b r.name r.at)) ds d) (goes_on b r.name) refl
  where
    next : Option Begun
    next = Some (begun_by b r.name r.at)

    by : heads_after b (ds ++ d ∷ []) ≡ heads_after b ds ++ heads_with (begun_after b ds) d
        → heads_after next (ds ++ d ∷ []) ≡ heads_after next ds ++ heads_with (begun_after next ds) d
        → (h : Bool) → goes_on b r.name ≡ h
        → map head_of_group (if h then groups_after b (ds ++ d ∷ []) else record { first = r; others = leading r.name.text (ds ++ d ∷ []) } ∷ groups_after next (ds ++ d ∷ []))
        ≡ map head_of_group (if h then groups_after b ds else record { first = r; others = leading r.name.text ds } ∷ groups_after next ds) ++ heads_with (begun_after next ds) d
    by same other true goes = same ∙ ap (λ c. heads_after b ds ++ heads_with (begun_after c ds) d) (sym (still b r.name r.at goes))
    by same other false goes = ap (λ hs. head_of_rule r ∷ hs) other

begun_more : (b : Option Begun) (ds : List (Option Rule)) (d : Option Rule) → begun_after b (ds ++ d ∷ []) ≡ begun_with (begun_after b ds) d
begun_more b [] d = refl
begun_more b (e ∷ ds) d = begun_more (begun_with b e) ds d

-- ---- one item

same_begun : (names : List (List ℕ)) (b : Option Begun) (c : Option NameId) (id : NameId) (name : Name) → AllDiffer names → IsBegun names b c → IsKnown names id
    → text_of names id ≡ name.text → option_eq ids.eq-value.it c (Some id) ≡ goes_on b name
same_begun names None None id name differ begun known is = refl
same_begun names None (Some c) id name differ begun known is = let e = begun.same in let no : ⊥ = cc in absurd no
same_begun names (Some b) None id name differ begun known is = let e = begun.same in let no : ⊥ = cc in absurd no
same_begun names (Some b) (Some c) id name differ begun known is =
    let e = begun.same in
    let same : text_of names c ≡ b.name = cc in
    same_name names c id differ begun.known known ∙ ap₂ bytes_eq same is

pub same_option : (c : Option NameId) (id : NameId) → option_eq ids.eq-value.it c (Some id) ≡ true → c ≡ Some id
same_option None id is = let no : ⊥ = cc in absurd no
same_option (Some c) id is = ap Some (same_id c id is)

no_rule : (names : List (List ℕ)) (d : Option Rule) (found : Option FunctionHead) → found ≡ None → option_map (head_meaning names) found ≡ option_map head_of_rule d → d ≡ None
no_rule names None found none is = refl
no_rule names (Some r) found none is =
    let e : None ≡ Some (head_of_rule r) = sym (ap (option_map (head_meaning names)) none) ∙ is in
    let no : ⊥ = cc in absurd no

pub none_begun : (names : List (List ℕ)) (before : Option Begun) (d : Option Rule) (found : Option FunctionHead) → found ≡ None → option_map (head_meaning names) found ≡ option_map head_of_rule d
    → IsBegun names (begun_with before d) None
none_begun names before d found none is = subst (λ (d : Option Rule). IsBegun names (begun_with before d) None) (sym (no_rule names d found none is)) (record { same = refl; known = tt })

pub none_heads : (names : List (List ℕ)) (before : Option Begun) (d : Option Rule) (found : Option FunctionHead) (heads : List FunctionHead) (first : List Head)
    → found ≡ None → option_map (head_meaning names) found ≡ option_map head_of_rule d → map (head_meaning names) heads ≡ first
    → map (head_meaning names) heads ≡ first ++ heads_with before d
none_heads names before d found heads first none is are = are ∙ sym (append-nil first) ∙ ap (λ d. first ++ heads_with before d) (sym (no_rule names d found none is))

-- the rule that an item is
a_rule : (names : List (List ℕ)) (d : Option Rule) (head : FunctionHead) (found : Option FunctionHead) → found ≡ Some head → option_map (head_meaning names) found ≡ option_map head_of_rule d
    → (r : Rule) × (d ≡ Some r) × (head_meaning names head ≡ head_of_rule r)
a_rule names None head found some is =
    let e : Some (head_meaning names head) ≡ None = sym (ap (option_map (head_meaning names)) some) ∙ is in
    let no : ⊥ = cc in absurd no
a_rule names (Some r) head found some is =
    let e : Some (head_meaning names head) ≡ Some (head_of_rule r) = sym (ap (option_map (head_meaning names)) some) ∙ is in
    let same : head_meaning names head ≡ head_of_rule r = cc in
    (r, refl, same)

pub some_begun : (names : List (List ℕ)) (before : Option Begun) (d : Option Rule) (head : FunctionHead) (found : Option FunctionHead) → found ≡ Some head
    → option_map (head_meaning names) found ≡ option_map head_of_rule d → IsKnown names head.name → IsBegun names (begun_with before d) (Some head.name)
some_begun names before d head found some is known =
    let r = a_rule names d head found some is in
    subst (λ (d : Option Rule). IsBegun names (begun_with before d) (Some head.name)) (sym r.1)
    (record { same = ap Some (ap (λ (h : Head). h.name) r.2 ∙ sym (begun_name before r.0.name r.0.at)); known = known })

-- whether a head is that of a function that began before
test_is : (names : List (List ℕ)) (before : Option Begun) (c : Option NameId) (head : FunctionHead) (r : Rule) (test : Bool) → AllDiffer names → IsBegun names before c → IsKnown names head.name
    → head_meaning names head ≡ head_of_rule r → test ≡ option_eq ids.eq-value.it c (Some head.name) → goes_on before r.name ≡ test
test_is names before c head r test differ begun known means tests =
    sym (tests ∙ same_begun names before c head.name r.name differ begun known (ap (λ (h : Head). h.name) means))

heads_if : (before : Option Begun) (d : Option Rule) (r : Rule) (h : Bool) → d ≡ Some r → goes_on before r.name ≡ h → heads_with before d ≡ (if h then [] else head_of_rule r ∷ [])
heads_if before d r h is goes = ap (heads_with before) is ∙ ap (λ h. if h then [] else head_of_rule r ∷ []) goes

pub kept_heads : (names : List (List ℕ)) (before : Option Begun) (c : Option NameId) (d : Option Rule) (head : FunctionHead) (found : Option FunctionHead) (heads : List FunctionHead) (first : List Head) (test : Bool)
    → AllDiffer names → IsBegun names before c → IsKnown names head.name → found ≡ Some head → option_map (head_meaning names) found ≡ option_map head_of_rule d
    → test ≡ option_eq ids.eq-value.it c (Some head.name) → test ≡ true → map (head_meaning names) heads ≡ first
    → map (head_meaning names) heads ≡ first ++ heads_with before d
kept_heads names before c d head found heads first test differ begun known some is tests goes are =
    let r = a_rule names d head found some is in
    are ∙ sym (append-nil first)
    ∙ ap (λ hs. first ++ hs) (sym (heads_if before d r.0 true r.1 (test_is names before c head r.0 test differ begun known r.2 tests ∙ goes)))

pub more_heads : (names : List (List ℕ)) (before : Option Begun) (c : Option NameId) (d : Option Rule) (head : FunctionHead) (found : Option FunctionHead) (old new : List FunctionHead) (first : List Head) (test : Bool)
    → AllDiffer names → IsBegun names before c → IsKnown names head.name → found ≡ Some head → option_map (head_meaning names) found ≡ option_map head_of_rule d
    → test ≡ option_eq ids.eq-value.it c (Some head.name) → test ≡ false → new ≡ old ++ head ∷ [] → map (head_meaning names) old ≡ first
    → map (head_meaning names) new ≡ first ++ heads_with before d
more_heads names before c d head found old new first test differ begun known some is tests goes pushed are =
    let r = a_rule names d head found some is in
    ap (map (head_meaning names)) pushed ∙ map-append (head_meaning names) old (head ∷ []) ∙ ap₂ (λ hs (h : Head). hs ++ h ∷ []) are r.2
    ∙ ap (λ hs. first ++ hs) (sym (heads_if before d r.0 false r.1 (test_is names before c head r.0 test differ begun known r.2 tests ∙ goes)))

-- ---- all items

pub begun_next : (names : List (List ℕ)) (T : Type 0) (rule : T → Option Rule) (xs : List T) (i : ℕ) (x : T) (c : Option NameId) → i < length xs → x ≡ get_or xs i x
    → IsBegun names (begun_with (begun_after None (map rule (take i xs))) (rule x)) c → IsBegun names (begun_after None (map rule (take (i + 1) xs))) c
begun_next names T rule xs i x c within here begun =
    subst (λ (b : Option Begun). IsBegun names b c)
    (sym (ap (begun_after None) (map_more rule xs i x within ∙ ap (λ x. map rule (take i xs) ++ rule x ∷ []) (sym here)) ∙ begun_more None (map rule (take i xs)) (rule x))) begun

pub heads_next : (T : Type 0) (rule : T → Option Rule) (xs : List T) (i : ℕ) (x : T) (heads : List Head) → i < length xs → x ≡ get_or xs i x
    → heads ≡ map head_of_group (groups (map rule (take i xs))) ++ heads_with (begun_after None (map rule (take i xs))) (rule x)
    → heads ≡ map head_of_group (groups (map rule (take (i + 1) xs)))
heads_next T rule xs i x heads within here are =
    are ∙ sym (one_more None (map rule (take i xs)) (rule x)) ∙ ap (λ ds. map head_of_group (groups ds)) (sym (map_more rule xs i x within ∙ ap (λ x. map rule (take i xs) ++ rule x ∷ []) (sym here)))

pub count_is : (ps : List Pattern) → pattern_count (patterns_from ps) ≡ length ps
count_is [] = refl
count_is (p ∷ ps) = ap (λ n. n + 1) (count_is ps) ∙ omega arith

pub rule_head : (names : List (List ℕ)) (place : Place) (name : names_code.Name) (ps : List code.Pattern) (n : ℕ) (right : RightSide) (d : Option Rule)
    → d ≡ Some (record { at = position_of place; name = name_meaning names name; parameters = patterns_meaning names ps; right = right }) → n ≡ length ps
    → Some (head_meaning names (record { name = name.text; arity = n; place = place })) ≡ option_map head_of_rule d
rule_head names place name ps n right d is counted =
    ap (λ (n : ℕ). Some (record { name = text_of names name.text; arity = n; at = position_of place }))
    (counted ∙ sym (length-map ps (pattern_meaning names)) ∙ sym (count_is (map (pattern_meaning names) ps)))
    ∙ sym (ap (option_map head_of_rule) is)
