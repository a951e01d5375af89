-- What stands inside definitions, and what they use.
use Rattle.std.proofs.Common.{Bor, ◌≡◌, ◌∙◌, ◌<◌, ◌≤◌, ◌+◌, ◌||◌, ℕ, Bool, true, false, not, cond, List, [], ◌∷◌, ◌++◌, Option, None, Some, arith, is_some, length, drop, get_or, map, option_copied, refl, sym, ap, ap₂, subst, take}
use Rattle.std.proofs.lemmas.Bool.{lt-ltb, ltb-true}
use Rattle.std.proofs.lemmas.List.Folds.{list_any_at}
use Rattle.std.proofs.lemmas.List.Sums.{passes_at_first}
use Rattle.std.proofs.lemmas.List.{append-nil, append_assoc, drop-map, drop_all, drop_more, map-append, take-map, take_all, take_more}
use Rattle.std.proofs.lemmas.List.Elements.{filter-append}
use Rattle.std.specs.Prelude.{nat_eq, nat_lt}
use Rattle.std.specs.List.{filter, flat_map, list_any, position, position_or_len}
use Rattle.cu_sites.proofs.MemberLemmas.{any_to, one_more}
use Rattle.cu_lex.specs.Reading.{position_of}
use Rattle.cu_syntax.specs.declared.name.Name as code_name
use Rattle.cu_syntax.specs.declared.patterns.Pattern as patterns_found
use Rattle.std.specs.declared.alloc.Global.{Global}
use Rattle.std.specs.declared.vec.Vec.{Vec}
use Rattle.cu_syntax.specs.declared.declarations.Declaration.{Declaration}
use Rattle.cu_syntax.specs.declared.declarations.RightSide.{RightSide}
use Rattle.cu_syntax.specs.Declarations.{right_meaning}
use Rattle.cu_syntax.specs.Owners.{PatternIsOf}
use Rattle.cu_syntax.specs.Names.{name_meaning}
use Rattle.cu_syntax.specs.Patterns.{pattern_meaning}
use Rattle.cu_syntax.specs.Syntax.{Pattern, pattern_position}
use Rattle.cu_uses.specs.Gathered.{Adds, names_meaning, pattern_binds}
use Rattle.cu_locals.specs.Text.{Text}
use Rattle.cu_translation.specs.declared.local_names.Binder as code
use Rattle.cu_translation.specs.declared.local_names.Local as locals_found
use Rattle.cu_translation.specs.declared.local_names.Local.TheVariants as local
use Rattle.cu_translation.specs.declared.position.Position as places_found
use Rattle.cu_translation.specs.Dependencies.{Definition, definitions, definitions_at, definitions_of, is_bound_outside, selected, stands_in, used_by, used_in}
use Rattle.cu_translation.specs.LocalNames.{At, Binder, Local, LocalVariable, Whole, same_binder}
use Rattle.cu_translation.specs.Numbering.{all_binders, binders_of}
use Rattle.cu_translation.specs.Sites.{Bound, Defined, Node, Site, Spot, right_nodes}
use Rattle.cu_translation.specs.declared.local_names.Binder.TheVariants as binder
use Rattle.cu_translation.specs.Meaning.{binder_meaning, local_meaning, position_meaning}
use Rattle.cu_sites.specs.Numbered.{IsBinderTable, binders_meaning}
use Rattle.cu_sites.specs.declared.definitions.Definition as found
use Rattle.cu_sites.specs.declared.numbers.BinderTable.{BinderTable}
use Rattle.cu_sites.specs.declared.uses.Usage as usages_found
use Rattle.cu_sites.specs.declared.sites.Node as nodes_found
use Rattle.cu_sites.specs.declared.sites.ScopeEntry.{ScopeEntry}
use Rattle.cu_sites.specs.declared.sites.Site as sites_found
use Rattle.cu_sites.specs.declared.sites.Site.TheVariants as site_found
use Rattle.cu_sites.specs.Meaning.{AreNodes, IsNode, IsSite, inside, inside_at}
use Rattle.cu_sites.specs.Numbered as numbered
use Rattle.cu_sites.specs.Inside.Defining.{DeclaresAll, Defines, declared_in, definition_meaning, definitions_meaning, has_depth, selections, used_among, used_in_one}
use Rattle.cu_sites.specs.Inside.Using.{Finds, Usage, locals_meaning, usage_meaning, usage_of, usages_meaning}
use Rattle.cu_sites.proofs.GraphLemmas.{first_within}
use Rattle.cu_sites.proofs.TableLemmas.{same_binders}
use Rattle.cu_sites.proofs.CountLemmas.{node_at}
use Rattle.cu_sites.proofs.UseLemmas.{as_many, taken_one, finds_as, finds_both, finds_none, finds_one}
use Rattle.cu_sites.proofs.RelationLemmas.{same_truth}

-- ---- tables

some_if : {X : Type 0} (b : Bool) (x : X) → is_some (cond b (Some x) None) ≡ b
some_if true x = refl
some_if false x = refl

within_any : {X : Type 0} (p : X → Bool) (xs : List X) → nat_lt (position_or_len p xs) (length xs) ≡ true → list_any p xs ≡ true
within_any p [] e = let no : 0 < 0 = ltb-true 0 0 e in absurd (omega (arith, no))
within_any p (x ∷ xs) e =
    let low = ltb-true (position_or_len p (x ∷ xs)) (length (x ∷ xs)) e in
    list_any_at p (x ∷ xs) (position_or_len p (x ∷ xs)) x low (passes_at_first p (x ∷ xs) x low)

any_within : {X : Type 0} (p : X → Bool) (xs : List X) → list_any p xs ≡ true → nat_lt (position_or_len p xs) (length xs) ≡ true
any_within p xs e =
    let m = any_to p xs e in lt-ltb (position_or_len p xs) (length xs) (first_within p m.x xs m.among m.passes)

pub has_position : {X : Type 0} (p : X → Bool) (xs : List X) → is_some (position p xs) ≡ list_any p xs
has_position p xs =
    some_if (nat_lt (position_or_len p xs) (length xs)) (position_or_len p xs)
    ∙ same_truth (nat_lt (position_or_len p xs) (length xs)) (list_any p xs) (within_any p xs) (any_within p xs)

copied_some : {T : Type 0} (o : Option (Bor T)) → is_some o ≡ is_some (option_copied o)
copied_some None = refl
copied_some (Some b) = refl

pub some_found : {T X : Type 0} (p : X → Bool) (xs : List X) (o : Option (Bor T)) (found : Option T) → option_copied o ≡ found → is_some found ≡ is_some (position p xs)
    → is_some o ≡ list_any p xs
some_found p xs o found e f = copied_some o ∙ ap is_some e ∙ f ∙ has_position p xs

-- ---- what is bound inside a definition

any_meant : (b : code.Binder) (keys : List code.Binder) → list_any (numbered.same_binder b) keys ≡ list_any (same_binder (binder_meaning b)) (binders_meaning keys)
any_meant b [] = refl
any_meant b (k ∷ keys) = ap₂ (λ x y. x || y) (same_binders b k) (any_meant b keys)

pub inner_variable : (keys : List code.Binder) (l : locals_found.Local) (b : code.Binder) (found : Bool) → l ≡ local.Variable b
    → found ≡ list_any (numbered.same_binder b) keys → not found ≡ is_bound_outside (binders_meaning keys) (local_meaning l)
inner_variable keys l b found is e =
    ap not (e ∙ any_meant b keys) ∙ sym (ap (λ (k : locals_found.Local). is_bound_outside (binders_meaning keys) (local_meaning k)) is)

pub inner_function : (keys : List code.Binder) (l : locals_found.Local) (p : places_found.Position) (n : ℕ) → l ≡ local.Function p n
    → true ≡ is_bound_outside (binders_meaning keys) (local_meaning l)
inner_function keys l p n is = sym (ap (λ (k : locals_found.Local). is_bound_outside (binders_meaning keys) (local_meaning k)) is)

-- ---- what is used outside

abbrev pub outer_left : (Local → Bool) → List locals_found.Local → List Local
outer_left p ls = filter p (locals_meaning ls)

filter_no : {X : Type 0} (p : X → Bool) (x : X) (xs : List X) → p x ≡ false → filter p (x ∷ xs) ≡ filter p xs
filter_no p x xs e = rw e refl

filter_yes : {X : Type 0} (p : X → Bool) (x : X) (xs : List X) → p x ≡ true → filter p (x ∷ xs) ≡ x ∷ filter p xs
filter_yes p x xs e = rw e refl

outer_first : (p : Local → Bool) (ls : List locals_found.Local) (i : ℕ) (d : locals_found.Local) → i < length ls
    → outer_left p (drop i ls) ≡ outer_left p (get_or ls i d ∷ drop (i + 1) ls)
outer_first p ls i d low = ap (outer_left p) (drop_more ls i d low)

pub outer_take : (p : Local → Bool) (ls : List locals_found.Local) (i : ℕ) (d : locals_found.Local) (a b c : List locals_found.Local) → i < length ls
    → p (local_meaning (get_or ls i d)) ≡ true → b ≡ a ++ get_or ls i d ∷ [] → Finds b (outer_left p (drop (i + 1) ls)) c → Finds a (outer_left p (drop i ls)) c
outer_take p ls i d a b c low e pushed after =
    let l = get_or ls i d in
    finds_as a c (outer_left p (drop i ls)) (local_meaning l ∷ outer_left p (drop (i + 1) ls))
    (outer_first p ls i d low ∙ filter_yes p (local_meaning l) (locals_meaning (drop (i + 1) ls)) e)
    (finds_both (finds_one a b l (local_meaning l) pushed refl) after)

pub outer_skip : (p : Local → Bool) (ls : List locals_found.Local) (i : ℕ) (d : locals_found.Local) (a c : List locals_found.Local) → i < length ls
    → p (local_meaning (get_or ls i d)) ≡ false → Finds a (outer_left p (drop (i + 1) ls)) c → Finds a (outer_left p (drop i ls)) c
outer_skip p ls i d a c low e after =
    finds_as a c (outer_left p (drop i ls)) (outer_left p (drop (i + 1) ls))
    (outer_first p ls i d low ∙ filter_no p (local_meaning (get_or ls i d)) (locals_meaning (drop (i + 1) ls)) e) after

pub outer_end : (p : Local → Bool) (ls : List locals_found.Local) (i : ℕ) (a : List locals_found.Local) → length ls ≤ i → Finds a (outer_left p (drop i ls)) a
outer_end p ls i a past = finds_as a a (outer_left p (drop i ls)) [] (ap (outer_left p) (drop_all i ls past)) (finds_none a)

-- ---- what is declared inside

pub declares_none : (table : BinderTable) → IsBinderTable [] table → DeclaresAll [] table
declares_none table counted = record { keys = []; counted = counted; keys_are = refl }

pub declares_more : (us : List usages_found.Usage) (i : ℕ) (u : usages_found.Usage) (bs : List code.Binder) (a b : BinderTable) → u ≡ get_or us i u → i < length us
    → bs ≡ u.declared.items → DeclaresAll (usages_meaning (take i us)) a
    → ((before : List code.Binder) → IsBinderTable before a → IsBinderTable (before ++ bs) b) → DeclaresAll (usages_meaning (take (i + 1) us)) b
declares_more us i u bs a b is low same before more = record {
  keys = before.keys ++ bs;
  counted = more before.keys before.counted;
  keys_are =
      map-append binder_meaning before.keys bs ∙ ap₂ (λ (xs ys : List Binder). xs ++ ys) before.keys_are (ap binders_meaning same)
      ∙ sym (one_more declared_in (usages_meaning (take i us)) (usage_meaning u))
      ∙ sym (ap (flat_map declared_in) (ap usages_meaning (take_more us i u low ∙ ap (λ x. take i us ++ x ∷ []) (sym is)) ∙ map-append usage_meaning (take i us) (u ∷ [])));
}

pub declares_all : (us : List usages_found.Usage) (i : ℕ) (table : BinderTable) → length us ≤ i → DeclaresAll (usages_meaning (take i us)) table
    → DeclaresAll (usages_meaning us) table
declares_all us i table past before = subst (λ (vs : List usages_found.Usage). DeclaresAll (usages_meaning vs) table) (take_all i us past) before

-- ---- what a definition uses

abbrev pub deep_left : (Local → Bool) → ℕ → List usages_found.Usage → List Local
deep_left p depth us = filter p (flat_map used_in_one (filter (has_depth depth) (usages_meaning us)))

first_left : (p : Local → Bool) (depth : ℕ) (us : List usages_found.Usage) (i : ℕ) (u : usages_found.Usage) → u ≡ get_or us i u → i < length us
    → deep_left p depth (drop i us) ≡ deep_left p depth (u ∷ drop (i + 1) us)
first_left p depth us i u is low = ap (deep_left p depth) (drop_more us i u low ∙ ap (λ y. y ∷ drop (i + 1) us) (sym is))

pub deep_take : (p : Local → Bool) (depth : ℕ) (us : List usages_found.Usage) (i : ℕ) (u : usages_found.Usage) (ls : List locals_found.Local)
    (a b c : List locals_found.Local) → u ≡ get_or us i u → i < length us → nat_eq u.depth depth ≡ true → ls ≡ u.used.items → Finds a (outer_left p ls) b
    → Finds b (deep_left p depth (drop (i + 1) us)) c → Finds a (deep_left p depth (drop i us)) c
deep_take p depth us i u ls a b c is low e at here after =
    finds_as a c (deep_left p depth (drop i us)) (outer_left p ls ++ deep_left p depth (drop (i + 1) us))
    (first_left p depth us i u is low
    ∙ ap (λ vs. filter p (flat_map used_in_one vs)) (filter_yes (has_depth depth) (usage_meaning u) (usages_meaning (drop (i + 1) us)) e)
    ∙ filter-append p (locals_meaning u.used.items) (flat_map used_in_one (filter (has_depth depth) (usages_meaning (drop (i + 1) us))))
    ∙ ap (λ xs. outer_left p xs ++ deep_left p depth (drop (i + 1) us)) (sym at)) (finds_both here after)

pub deep_skip : (p : Local → Bool) (depth : ℕ) (us : List usages_found.Usage) (i : ℕ) (u : usages_found.Usage) (a c : List locals_found.Local) → u ≡ get_or us i u
    → i < length us → nat_eq u.depth depth ≡ false → Finds a (deep_left p depth (drop (i + 1) us)) c → Finds a (deep_left p depth (drop i us)) c
deep_skip p depth us i u a c is low e after =
    finds_as a c (deep_left p depth (drop i us)) (deep_left p depth (drop (i + 1) us))
    (first_left p depth us i u is low
    ∙ ap (λ vs. filter p (flat_map used_in_one vs)) (filter_no (has_depth depth) (usage_meaning u) (usages_meaning (drop (i + 1) us)) e)) after

pub deep_end : (p : Local → Bool) (depth : ℕ) (us : List usages_found.Usage) (i : ℕ) (a : List locals_found.Local) → length us ≤ i
    → Finds a (deep_left p depth (drop i us)) a
deep_end p depth us i a past = finds_as a a (deep_left p depth (drop i us)) [] (ap (deep_left p depth) (drop_all i us past)) (finds_none a)

-- ---- definitions

pub defines_none : (a : List found.Definition) → Defines a [] a
defines_none a = record { defines = sym (append-nil (definitions_meaning a)) }

pub defines_both : {a b c : List found.Definition} {xs ys : List Definition} → Defines a xs b → Defines b ys c → Defines a (xs ++ ys) c
defines_both {a = a} {xs = xs} {ys = ys} one two =
    record { defines = two.defines ∙ ap (λ zs. zs ++ ys) one.defines ∙ append_assoc (definitions_meaning a) xs ys }

pub defines_as : (a b : List found.Definition) (xs ys : List Definition) → xs ≡ ys → Defines a ys b → Defines a xs b
defines_as a b xs ys e f = subst (λ zs. Defines a zs b) (sym e) f

pub defines_one : (a b : List found.Definition) (d : found.Definition) (e : Definition) → b ≡ a ++ d ∷ [] → definition_meaning d ≡ e → Defines a (e ∷ []) b
defines_one a b d e pushed is = record {
  defines = ap definitions_meaning pushed ∙ map-append definition_meaning a (d ∷ []) ∙ ap (λ z. definitions_meaning a ++ z ∷ []) is;
}

abbrev pub definition : Binder → List Local → Definition
definition x used = record { variable = x; used = used }

pub definition_is : (d : found.Definition) (x : Binder) (used : List Local) → binder_meaning d.variable ≡ x → locals_meaning d.used.items ≡ used
    → definition_meaning d ≡ definition x used
definition_is d x used e f = ap₂ definition e f

-- ---- variables of patterns

abbrev pub selected_left : List (List ℕ) → Pattern → List code_name.Name → List Definition
selected_left names p xs = map (selected (Whole (pattern_position p))) (names_meaning names xs)

pub selections_next : (names : List (List ℕ)) (p : Pattern) (xs : List code_name.Name) (i : ℕ) (x e : code_name.Name) (d : found.Definition) (a b c : List found.Definition)
    (whole at : places_found.Position) → x ≡ get_or xs i e → i < length xs → b ≡ a ++ d ∷ [] → d.variable ≡ binder.At at → position_meaning at ≡ position_of x.place
    → d.used.items ≡ local.Variable (binder.Whole whole) ∷ [] → position_meaning whole ≡ pattern_position p
    → Defines b (selected_left names p (drop (i + 1) xs)) c → Defines a (selected_left names p (drop i xs)) c
selections_next names p xs i x e d a b c whole at is low pushed variable here used there after =
    defines_as a c (selected_left names p (drop i xs)) (selected (Whole (pattern_position p)) (name_meaning names x) ∷ selected_left names p (drop (i + 1) xs))
    (ap (selected_left names p) (drop_more xs i e low ∙ ap (λ y. y ∷ drop (i + 1) xs) (sym is)))
    (defines_both
    (defines_one a b d (selected (Whole (pattern_position p)) (name_meaning names x)) pushed
    (definition_is d (At (position_of x.place)) (LocalVariable (Whole (pattern_position p)) ∷ []) (ap binder_meaning variable ∙ ap At here)
    (ap locals_meaning used ∙ ap (λ q. LocalVariable (Whole q) ∷ []) there))) after)

pub selections_end : (names : List (List ℕ)) (p : Pattern) (xs : List code_name.Name) (i : ℕ) (a : List found.Definition) → length xs ≤ i
    → Defines a (selected_left names p (drop i xs)) a
selections_end names p xs i a past = defines_as a a (selected_left names p (drop i xs)) [] (ap (selected_left names p) (drop_all i xs past)) (defines_none a)

pub selections_all : (t : Text) (p : patterns_found.Pattern) (xs ys : List code_name.Name) (a b : List found.Definition) → ys ≡ xs
    → Adds t.owner t.names [] (pattern_binds t.names p) xs → Defines a (selected_left t.names (pattern_meaning t.names p) ys) b
    → Defines a (selections (pattern_meaning t.names p)) b
unfolding pattern_binds
selections_all t p xs ys a b same found defined =
    subst (λ vs. Defines a (map (selected (Whole (pattern_position (pattern_meaning t.names p)))) vs) b) (ap (names_meaning t.names) same ∙ found.adds) defined

-- ---- sites

pub definitions_as : (spot : Spot) (s r : Site) (a b : List found.Definition) → s ≡ r → Defines a (definitions_at spot r) b → Defines a (definitions_at spot s) b
definitions_as spot s r a b e defined = subst (λ x. Defines a (definitions_at spot x) b) (sym e) defined

used_more : (s : Spot) (m : Node) (ms : List Node) (b : Bool) → stands_in s m ≡ b
    → flat_map used_by (filter (stands_in s) ms) ≡ flat_map used_in_one (filter (has_depth (length s.functions)) (map usage_of ms))
    → flat_map used_by (filter (stands_in s) (m ∷ ms)) ≡ flat_map used_in_one (filter (has_depth (length s.functions)) (map usage_of (m ∷ ms)))
used_more s m ms true e rest =
    ap (flat_map used_by) (filter_yes (stands_in s) m ms e) ∙ ap (λ xs. used_by m ++ xs) rest
    ∙ sym (ap (flat_map used_in_one) (filter_yes (has_depth (length s.functions)) (usage_of m) (map usage_of ms) e))
used_more s m ms false e rest =
    ap (flat_map used_by) (filter_no (stands_in s) m ms e) ∙ rest
    ∙ sym (ap (flat_map used_in_one) (filter_no (has_depth (length s.functions)) (usage_of m) (map usage_of ms) e))

-- what a definition uses is what was found inside
pub used_as : (spot : Spot) (ns : List Node) → used_in spot ns ≡ used_among (length spot.functions) (map usage_of ns)
used_as spot ns =
    ap₂ (λ (bs : List Binder) (xs : List Local). filter (is_bound_outside bs) xs) (declared_all ns) (used_all spot ns)
  where
    declared_all : (ms : List Node) → all_binders ms ≡ flat_map declared_in (map usage_of ms)
    declared_all [] = refl
    declared_all (m ∷ ms) = ap (λ xs. binders_of m ++ xs) (declared_all ms)

    used_all : (s : Spot) (ms : List Node)
        → flat_map used_by (filter (stands_in s) ms) ≡ flat_map used_in_one (filter (has_depth (length s.functions)) (map usage_of ms))
    used_all s [] = refl
    used_all s (m ∷ ms) = used_more s m ms (stands_in s m) refl (used_all s ms)

used_here : (n : Node) (depth : ℕ) (us : List Usage) (used : List Local) → used ≡ used_among depth us → us ≡ map usage_of (inside n) → depth ≡ length n.spot.functions
    → used ≡ used_in n.spot (inside n)
used_here n depth us used e f g = e ∙ ap₂ used_among g f ∙ sym (used_as n.spot (inside n))

pub defined_found : (t : Text) (es : List ScopeEntry) (bs : List (Vec Declaration Global)) (node : nodes_found.Node) (n : Node) (others : List Node) (x : code_name.Name)
    (right : RightSide) (at : places_found.Position) (us : List Usage) (d : found.Definition) (a b : List found.Definition) → IsNode t es bs node n others
    → node.site ≡ site_found.Defined x right → us ≡ map usage_of (inside n) → locals_meaning d.used.items ≡ used_among node.spot.depth us
    → d.variable ≡ binder.At at → position_meaning at ≡ position_of x.place → b ≡ a ++ d ∷ [] → Defines a (definitions_of n) b
defined_found t es bs node n others x right at us d a b is it inner used variable here pushed =
    let meant = subst (λ (s : sites_found.Site). IsSite t bs s n.site) it is.site in
    definitions_as n.spot n.site (Defined (name_meaning t.names x) (right_meaning t.names right)) a b meant.0
    (defines_one a b d (definition (At (position_of x.place)) (used_in n.spot (right_nodes n.spot (right_meaning t.names right)))) pushed
    (definition_is d (At (position_of x.place)) (used_in n.spot (right_nodes n.spot (right_meaning t.names right))) (ap binder_meaning variable ∙ ap At here)
    (used_here n node.spot.depth us (locals_meaning d.used.items) used inner is.spot.depth ∙ ap (λ s. used_in n.spot (inside_at n.spot s)) meant.0)))

pub bound_found : (t : Text) (es : List ScopeEntry) (bs : List (Vec Declaration Global)) (node : nodes_found.Node) (n : Node) (others : List Node)
    (p : patterns_found.Pattern) (right : RightSide) (at : places_found.Position) (us : List Usage) (d : found.Definition) (a m b : List found.Definition)
    → IsNode t es bs node n others → node.site ≡ site_found.Bound p right → us ≡ map usage_of (inside n)
    → locals_meaning d.used.items ≡ used_among node.spot.depth us → d.variable ≡ binder.Whole at
    → position_meaning at ≡ pattern_position (pattern_meaning t.names p) → m ≡ a ++ d ∷ [] → Defines m (selections (pattern_meaning t.names p)) b
    → Defines a (definitions_of n) b
bound_found t es bs node n others p right at us d a m b is it inner used variable here pushed after =
    let meant = subst (λ (s : sites_found.Site). IsSite t bs s n.site) it is.site in
    let whole = Whole (pattern_position (pattern_meaning t.names p)) in
    definitions_as n.spot n.site (Bound (pattern_meaning t.names p) (right_meaning t.names right)) a b meant.0
    (defines_both
    (defines_one a m d (definition whole (used_in n.spot (right_nodes n.spot (right_meaning t.names right)))) pushed
    (definition_is d whole (used_in n.spot (right_nodes n.spot (right_meaning t.names right))) (ap binder_meaning variable ∙ ap Whole here)
    (used_here n node.spot.depth us (locals_meaning d.used.items) used inner is.spot.depth ∙ ap (λ s. used_in n.spot (inside_at n.spot s)) meant.0))) after)

-- the pattern of a site is of the text's module
pub bound_owned : (t : Text) (bs : List (Vec Declaration Global)) (s : sites_found.Site) (m : Site) (p : patterns_found.Pattern) (right : RightSide) → IsSite t bs s m
    → s ≡ site_found.Bound p right → PatternIsOf t.owner t.names p
bound_owned t bs s m p right is it = let meant = subst (λ (x : sites_found.Site). IsSite t bs x m) it is in meant.1

-- ---- a whole text

-- what follows a definition is what stands inside it
pub inside_usages : (t : Text) (es : List ScopeEntry) (bs : List (Vec Declaration Global)) (node : nodes_found.Node) (n : Node) (i : ℕ) (ns : List Node)
    (us : List usages_found.Usage) (some : List usages_found.Usage) → IsNode t es bs node n (drop (i + 1) ns) → usages_meaning us ≡ map usage_of ns
    → some ≡ take node.extent (drop (i + 1) us) → usages_meaning some ≡ map usage_of (inside n)
inside_usages t es bs node n i ns us some is all e =
    ap usages_meaning e ∙ sym (take-map usage_meaning node.extent (drop (i + 1) us)) ∙ ap (take node.extent) (sym (drop-map usage_meaning (i + 1) us) ∙ ap (drop (i + 1)) all ∙ drop-map usage_of (i + 1) ns)
    ∙ ap₂ (λ k xs. take k (map usage_of xs)) is.extent is.followed
    ∙ take-map usage_of (length (inside n)) (inside n ++ is.rest) ∙ ap (map usage_of) (take_prefix (inside n) is.rest)
  where
    take_prefix : {X : Type 0} (xs ys : List X) → take (length xs) (xs ++ ys) ≡ xs
    take_prefix [] [] = refl
    take_prefix [] (y ∷ ys) = refl
    take_prefix (x ∷ xs) ys = ap (λ zs. x ∷ zs) (take_prefix xs ys)

pub definitions_next : (t : Text) (es : List ScopeEntry) (bs : List (Vec Declaration Global)) (xs : List nodes_found.Node) (ns : List Node) (i : ℕ) (x : nodes_found.Node)
    (ds es' : List found.Definition) → x ≡ get_or xs i x → i < length xs → AreNodes t es bs xs ns
    → ((n : Node) → IsNode t es bs x n (drop (i + 1) ns) → Defines ds (definitions_of n) es') → definitions_meaning ds ≡ definitions (take i ns)
    → definitions_meaning es' ≡ definitions (take (i + 1) ns)
definitions_next t es bs xs ns i x ds es' is low are one before =
    let at = node_at t es bs xs ns i x is low are in
    (one at.n at.is).defines ∙ ap (λ ys. ys ++ definitions_of at.n) before
    ∙ sym (ap definitions (taken_one at.n (drop (i + 1) ns) ns i at.split) ∙ one_more definitions_of (take i ns) at.n)

pub definitions_end : (t : Text) (es : List ScopeEntry) (bs : List (Vec Declaration Global)) (xs : List nodes_found.Node) (ns : List Node) (i : ℕ)
    (ds : List found.Definition) → length xs ≤ i → AreNodes t es bs xs ns → definitions_meaning ds ≡ definitions (take i ns) → definitions_meaning ds ≡ definitions ns
definitions_end t es bs xs ns i ds past are before =
    let size = as_many t es bs xs ns are in before ∙ ap definitions (take_all i ns (omega (arith, past, size)))
