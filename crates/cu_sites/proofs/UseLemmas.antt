-- What names mean where they are used.
use Rattle.std.proofs.Common.{◌≡◌, ◌∙◌, ◌<◌, ◌≤◌, ◌+◌, ◌-◌, ℕ, zero, suc, true, false, List, [], ◌∷◌, ◌++◌, Option, None, Some, arith, drop, get_or, is_none, is_some, length, map, min, option_map, refl, sym, ap, ap₂, add-one, subst, take}
use Rattle.std.proofs.lemmas.List.{append-nil, append_assoc, drop_all, drop_more, map-append, take_all}
use Rattle.std.specs.List.{flat_map}
use Rattle.std.specs.Prelude.{nat_eq, slice_get}
use Rattle.std.specs.Str.{bytes_eq}
use Rattle.std.specs.declared.alloc.Global.{Global}
use Rattle.std.specs.declared.vec.Vec.{Vec}
use Rattle.cu_lex.specs.Reading.{position_of}
use Rattle.cu_names.specs.Texts.{text_of}
use Rattle.cu_names.specs.declared.place.Place.{Place}
use Rattle.cu_syntax.specs.declared.declarations.Declaration.{Declaration}
use Rattle.cu_syntax.specs.declared.expressions.Expression.{Expression}
use Rattle.cu_syntax.specs.declared.patterns.Pattern.{Pattern}
use Rattle.cu_syntax.specs.Patterns.{patterns_meaning}
use Rattle.cu_syntax.specs.declared.name.Name as code_name
use Rattle.cu_syntax.specs.declared.expressions.ExpressionNode.{ExpressionNode}
use Rattle.cu_syntax.specs.declared.expressions.ExpressionNode.TheVariants as node
use Rattle.cu_syntax.specs.declared.expressions.Items.{Items}
use Rattle.cu_syntax.specs.declared.expressions.OperatorItem.{OperatorItem}
use Rattle.cu_syntax.specs.Expressions.{expression_node, rest_meaning}
use Rattle.cu_syntax.specs.Names.{name_meaning}
use Rattle.cu_syntax.specs.Syntax as syntax
use Rattle.cu_syntax.specs.Owners.{NameIsOf}
use Rattle.cu_entities.proofs.NameLemmas.{same_name}
use Rattle.cu_translation.specs.declared.local_names.Local as code
use Rattle.cu_translation.specs.Rules.{pattern_count}
use Rattle.cu_translation.specs.Sites.{Node, Site}
use Rattle.cu_sites.specs.Numbered.{binders_meaning}
use Rattle.cu_sites.specs.declared.sites.Site as sites_found
use Rattle.cu_sites.specs.declared.sites.Site.TheVariants as site_found
use Rattle.cu_translation.specs.Dependencies.{operators_in, operators_of, use_of, used_at, used_by}
use Rattle.cu_translation.specs.LocalNames.{Binder, Entry, Local, LocalFunction, Scope, entry_called, local_named}
use Rattle.cu_translation.specs.Meaning.{entry_meaning, local_meaning, position_meaning}
use Rattle.cu_locals.specs.Text.{Text}
use Rattle.cu_sites.specs.declared.sites.ScopeEntry.{ScopeEntry}
use Rattle.cu_sites.specs.Meaning.{AreNodes, IsNode, IsScope, IsSite, innermost}
use Rattle.cu_sites.specs.Inside.Using.{Finds, locals_meaning, operators_mean, usage_from, usage_meaning, usage_of, usages_meaning}
use Rattle.cu_sites.specs.Inside.Counting.{Counts}
use Rattle.cu_sites.specs.declared.sites.Node as nodes_found
use Rattle.cu_sites.specs.declared.uses.Usage as usages_found
use Rattle.cu_sites.proofs.CountLemmas.{node_at}
use Rattle.cu_translation.specs.declared.local_names.Binder as binders_found
use Rattle.cu_translation.specs.Numbering.{binders_at, binders_of}
use Rattle.cu_lex.specs.Located.{Position}
use Rattle.cu_sites.proofs.TopLemmas.{empty_at, headed, missing}

-- ---- names in scope

-- What a name means in what is left of a scope is what it means in the whole.
pub record Seeks (t : Text) (es : List ScopeEntry) (whole : Scope) (number : ℕ) (text : List ℕ) : Type 0 where
  pub rest : Scope
  pub at : IsScope t es number rest
  pub same : entry_called text rest ≡ entry_called text whole

pub seeks_all : (t : Text) (es : List ScopeEntry) (whole : Scope) (number : ℕ) (text : List ℕ) → IsScope t es number whole → Seeks t es whole number text
seeks_all t es whole number text at = record { rest = whole; at = at; same = refl }

called_first : (e : Entry) (rest : Scope) (text : List ℕ) → bytes_eq e.text text ≡ true → entry_called text (e ∷ rest) ≡ Some e.means
called_first e rest text is = rw is refl

called_later : (e : Entry) (rest : Scope) (text : List ℕ) → bytes_eq e.text text ≡ false → entry_called text (e ∷ rest) ≡ entry_called text rest
called_later e rest text is = rw is refl

pub seeks_found : (t : Text) (es : List ScopeEntry) (whole : Scope) (number : ℕ) (x : code_name.Name) (first : ScopeEntry) → 0 < number
    → slice_get es (number - 1) ≡ Some first → NameIsOf t.owner t.names x → nat_eq first.entry.text.0 x.text.0 ≡ true
    → Seeks t es whole number (text_of t.names x.text) → Some (local_meaning first.entry.means) ≡ entry_called (text_of t.names x.text) whole
seeks_found t es whole number x first some gets of is s =
    let h = headed t es number s.rest first some gets s.at in
    let text = text_of t.names x.text in
    let same : bytes_eq (text_of t.names first.entry.text) text ≡ true = sym (same_name t.names first.entry.text x.text t.differ h.known of.text) ∙ is in
    sym (called_first (entry_meaning t.names first.entry) h.rest text same) ∙ sym (ap (entry_called text) h.is) ∙ s.same

pub seeks_on : (t : Text) (es : List ScopeEntry) (whole : Scope) (number next : ℕ) (x : code_name.Name) (first : ScopeEntry) → 0 < number
    → slice_get es (number - 1) ≡ Some first → NameIsOf t.owner t.names x → nat_eq first.entry.text.0 x.text.0 ≡ false
    → next ≡ min first.around (number - 1) → Seeks t es whole number (text_of t.names x.text) → Seeks t es whole next (text_of t.names x.text)
seeks_on t es whole number next x first some gets of is outer s =
    let h = headed t es number s.rest first some gets s.at in
    let text = text_of t.names x.text in
    let other : bytes_eq (text_of t.names first.entry.text) text ≡ false = sym (same_name t.names first.entry.text x.text t.differ h.known of.text) ∙ is in
    record {
      rest = h.rest;
      at = subst (λ k. IsScope t es k h.rest) (sym outer) h.at;
      same = sym (called_later (entry_meaning t.names first.entry) h.rest text other) ∙ sym (ap (entry_called text) h.is) ∙ s.same;
    }

pub seeks_none : (t : Text) (es : List ScopeEntry) (whole : Scope) (number : ℕ) (text : List ℕ) → number ≡ 0 → Seeks t es whole number text → None ≡ entry_called text whole
seeks_none t es whole number text none s = sym (ap (entry_called text) (empty_at t es number s.rest none s.at)) ∙ s.same

pub seeks_missing : (t : Text) (es : List ScopeEntry) (whole : Scope) (number : ℕ) (text : List ℕ) → 0 < number → slice_get es (number - 1) ≡ None
    → Seeks t es whole number text → ⊥
seeks_missing t es whole number text some gets s = missing t es number s.rest some gets s.at

-- ---- names with a qualifier

some_mapped : {X Y : Type 0} (f : X → Y) (o : Option X) → is_some o ≡ true → is_none (option_map f o) ≡ false
some_mapped f None e = let no : ⊥ = cc in absurd no
some_mapped f (Some x) e = refl

none_mapped : {X Y : Type 0} (f : X → Y) (o : Option X) → is_some o ≡ false → is_none (option_map f o) ≡ true
none_mapped f None e = refl
none_mapped f (Some x) e = let no : ⊥ = cc in absurd no

pub qualified : (names : List (List ℕ)) (scope : Scope) (x : code_name.Name) → is_some x.qualifier ≡ true → None ≡ local_named scope (name_meaning names x)
qualified names scope x e = rw (some_mapped (text_of names) x.qualifier e) refl

pub unqualified : (names : List (List ℕ)) (scope : Scope) (x : code_name.Name) → is_some x.qualifier ≡ false
    → local_named scope (name_meaning names x) ≡ entry_called (text_of names x.text) scope
unqualified names scope x e = rw (none_mapped (text_of names) x.qualifier e) refl

-- ---- what is found

pub finds_none : (a : List code.Local) → Finds a [] a
finds_none a = record { finds = sym (append-nil (locals_meaning a)) }

pub finds_both : {a b c : List code.Local} {xs ys : List Local} → Finds a xs b → Finds b ys c → Finds a (xs ++ ys) c
finds_both {a = a} {xs = xs} {ys = ys} one two = record { finds = two.finds ∙ ap (λ zs. zs ++ ys) one.finds ∙ append_assoc (locals_meaning a) xs ys }

pub finds_one : (a b : List code.Local) (l : code.Local) (m : Local) → b ≡ a ++ l ∷ [] → local_meaning l ≡ m → Finds a (m ∷ []) b
finds_one a b l m pushed is = record { finds = ap locals_meaning pushed ∙ map-append local_meaning a (l ∷ []) ∙ ap (λ z. locals_meaning a ++ z ∷ []) is }

pub finds_as : (a b : List code.Local) (xs ys : List Local) → xs ≡ ys → Finds a ys b → Finds a xs b
finds_as a b xs ys e f = subst (λ zs. Finds a zs b) (sym e) f

-- ---- operators

pub operators_next : (names : List (List ℕ)) (scope : Scope) (items : List OperatorItem) (i : ℕ) (x d : OperatorItem) (a b c : List code.Local) → x ≡ get_or items i d
    → i < length items → Finds a (use_of scope (name_meaning names x.operator)) b → Finds b (operators_mean names scope (drop (i + 1) items)) c
    → Finds a (operators_mean names scope (drop i items)) c
operators_next names scope items i x d a b c is low here after =
    finds_as a c (operators_mean names scope (drop i items)) (use_of scope (name_meaning names x.operator) ++ operators_mean names scope (drop (i + 1) items))
    (ap (operators_mean names scope) (drop_more items i d low ∙ ap (λ y. y ∷ drop (i + 1) items) (sym is))) (finds_both here after)

pub operators_end : (names : List (List ℕ)) (scope : Scope) (items : List OperatorItem) (i : ℕ) (a : List code.Local) → length items ≤ i
    → Finds a (operators_mean names scope (drop i items)) a
operators_end names scope items i a past = finds_as a a (operators_mean names scope (drop i items)) [] (ap (operators_mean names scope) (drop_all i items past)) (finds_none a)

operators_are : (names : List (List ℕ)) (scope : Scope) (items : List OperatorItem)
    → flat_map (use_of scope) (operators_in (rest_meaning names items)) ≡ operators_mean names scope items
operators_are names scope [] = refl
operators_are names scope (i ∷ items) = ap (λ xs. use_of scope (name_meaning names i.operator) ++ xs) (operators_are names scope items)

pub operation_found : (names : List (List ℕ)) (scope : Scope) (e : syntax.Expression) (v : ExpressionNode) (items : Items) (a b : List code.Local)
    → expression_node names v ≡ e → v ≡ node.Operators items → Finds a (operators_mean names scope items.rest.items) b
    → Finds a (flat_map (use_of scope) (operators_of e)) b
operation_found names scope e v items a b meaning is found =
    finds_as a b (flat_map (use_of scope) (operators_of e)) (operators_mean names scope items.rest.items)
    (ap (λ (x : syntax.Expression). flat_map (use_of scope) (operators_of x)) (sym meaning ∙ ap (expression_node names) is) ∙ operators_are names scope items.rest.items) found

no_operators : (names : List (List ℕ)) (v : ExpressionNode) → ((items : Items) → v ≡ node.Operators items → ⊥) → operators_of (expression_node names v) ≡ []
no_operators names (node.Variable at name) none = refl
no_operators names (node.Constructor at name) none = refl
no_operators names (node.Literal at found) none = refl
no_operators names (node.Application at function arguments) none = refl
no_operators names (node.Operators items) none = absurd (none items refl)
no_operators names (node.Lambda at parameters body) none = refl
no_operators names (node.Let at local body) none = refl
no_operators names (node.If at condition chosen other) none = refl
no_operators names (node.Case at word subject alternatives) none = refl
no_operators names (node.Tuple at components) none = refl
no_operators names (node.TupleConstructor at count) none = refl
no_operators names (node.LeftSection at operand operator) none = refl
no_operators names (node.RightSection at operator operand) none = refl
no_operators names (node.List at elements) none = refl
no_operators names (node.Enumeration at enumeration) none = refl
no_operators names (node.Comprehension at element qualifiers) none = refl

pub operation_none : (names : List (List ℕ)) (scope : Scope) (e : syntax.Expression) (v : ExpressionNode) (a : List code.Local) → expression_node names v ≡ e
    → ((items : Items) → v ≡ node.Operators items → ⊥) → Finds a (flat_map (use_of scope) (operators_of e)) a
operation_none names scope e v a meaning none =
    finds_as a a (flat_map (use_of scope) (operators_of e)) []
    (ap (λ (x : syntax.Expression). flat_map (use_of scope) (operators_of x)) (sym meaning) ∙ ap (flat_map (use_of scope)) (no_operators names v none)) (finds_none a)

-- ---- new functions

parameters_counted : (names : List (List ℕ)) (ps : List Pattern) → pattern_count (patterns_meaning names ps) ≡ length ps
parameters_counted names [] = refl
parameters_counted names (p ∷ ps) = ap (λ n. n + 1) (parameters_counted names ps) ∙ add-one (length ps)

pub lambda_found : (t : Text) (blocks : List (Vec Declaration Global)) (found : sites_found.Site) (s : Site) (scope : Scope) (place : Place) (ps : Vec Pattern Global) (body : Expression)
    (n : ℕ) (a b : List code.Local) → IsSite t blocks found s → found ≡ site_found.Lambda place ps body → n ≡ length ps.items
    → Finds a (LocalFunction (position_of place) n ∷ []) b → Finds a (used_at scope s) b
lambda_found t blocks found s scope place ps body n a b is it count pushed =
    let meant = subst (λ (x : sites_found.Site). IsSite t blocks x s) it is in
    finds_as a b (used_at scope s) (LocalFunction (position_of place) n ∷ [])
    (ap (used_at scope) meant.0 ∙ ap (λ (k : ℕ). LocalFunction (position_of place) k ∷ []) (parameters_counted t.names ps.items ∙ sym count)) pushed

-- ---- usages

usage_is : (f g : Option Position) (d e : ℕ) (u v : List Local) (b c : List Binder) → f ≡ g → d ≡ e → u ≡ v → b ≡ c
    → usage_from f d u b ≡ usage_from g e v c
usage_is f g d e u v b c p q r s =
    ap (λ (x : Option Position). usage_from x d u b) p ∙ ap (λ (x : ℕ). usage_from g x u b) q ∙ ap (λ (x : List Local). usage_from g e x b) r
    ∙ ap (λ (x : List Binder). usage_from g e v x) s

pub usage_made : (t : Text) (es : List ScopeEntry) (bs : List (Vec Declaration Global)) (found : nodes_found.Node) (n : Node) (others : List Node) (u : usages_found.Usage)
    (no_local : List code.Local) (no_binder : List binders_found.Binder) → IsNode t es bs found n others → u.function ≡ found.spot.function → u.depth ≡ found.spot.depth
    → no_local ≡ [] → no_binder ≡ [] → Finds no_local (used_at n.spot.scope n.site) u.used.items → Counts no_binder (binders_at n.site) u.declared.items
    → usage_meaning u ≡ usage_of n
usage_made t es bs found n others u no_local no_binder is function depth none_l none_b finds counts =
    usage_is (option_map position_meaning u.function) (innermost n.spot.functions) u.depth (length n.spot.functions) (locals_meaning u.used.items) (used_by n)
    (binders_meaning u.declared.items) (binders_of n) (ap (option_map position_meaning) function ∙ is.spot.function) (depth ∙ is.spot.depth)
    (finds.finds ∙ ap (λ xs. locals_meaning xs ++ used_at n.spot.scope n.site) none_l) (counts.counts ∙ ap (λ xs. binders_meaning xs ++ binders_at n.site) none_b)

taken_suc : {X : Type 0} (x : X) (rest xs : List X) (i : ℕ) → drop i xs ≡ x ∷ rest → take (suc i) xs ≡ take i xs ++ x ∷ []
taken_suc x rest [] zero e = let no : ⊥ = cc in absurd no
taken_suc x rest [] (suc i) e = let no : ⊥ = cc in absurd no
taken_suc x rest (y ∷ xs) zero e = let same : y ≡ x = cc in ap (λ z. z ∷ []) same
taken_suc x rest (y ∷ xs) (suc i) e = ap (λ zs. y ∷ zs) (taken_suc x rest xs i e)

pub taken_one : {X : Type 0} (x : X) (rest xs : List X) (i : ℕ) → drop i xs ≡ x ∷ rest → take (i + 1) xs ≡ take i xs ++ x ∷ []
taken_one x rest xs i e = ap (λ k. take k xs) (add-one i) ∙ taken_suc x rest xs i e

pub usages_next : (t : Text) (es : List ScopeEntry) (bs : List (Vec Declaration Global)) (xs : List nodes_found.Node) (ns : List Node) (i : ℕ) (x : nodes_found.Node)
    (us vs : List usages_found.Usage) (u : usages_found.Usage) → x ≡ get_or xs i x → i < length xs → AreNodes t es bs xs ns → vs ≡ us ++ u ∷ []
    → ((n : Node) (others : List Node) → IsNode t es bs x n others → usage_meaning u ≡ usage_of n) → usages_meaning us ≡ map usage_of (take i ns)
    → usages_meaning vs ≡ map usage_of (take (i + 1) ns)
usages_next t es bs xs ns i x us vs u is low are pushed one before =
    let at = node_at t es bs xs ns i x is low are in
    ap usages_meaning pushed ∙ map-append usage_meaning us (u ∷ [])
    ∙ ap₂ (λ ys y. ys ++ y ∷ []) before (one at.n (drop (i + 1) ns) at.is)
    ∙ sym (ap (map usage_of) (taken_one at.n (drop (i + 1) ns) ns i at.split) ∙ map-append usage_of (take i ns) (at.n ∷ []))

pub as_many : (t : Text) (es : List ScopeEntry) (bs : List (Vec Declaration Global)) (xs : List nodes_found.Node) (ns : List Node) → AreNodes t es bs xs ns → length xs ≡ length ns
as_many t es bs [] [] are = refl
as_many t es bs [] (n ∷ ns) are = absurd are
as_many t es bs (x ∷ xs) [] are = absurd are
as_many t es bs (x ∷ xs) (n ∷ ns) are = ap suc (as_many t es bs xs ns are.1)

pub usages_end : (t : Text) (es : List ScopeEntry) (bs : List (Vec Declaration Global)) (xs : List nodes_found.Node) (ns : List Node) (i : ℕ) (us : List usages_found.Usage)
    → length xs ≤ i → AreNodes t es bs xs ns → usages_meaning us ≡ map usage_of (take i ns) → usages_meaning us ≡ map usage_of ns
usages_end t es bs xs ns i us past are before =
    let size = as_many t es bs xs ns are in before ∙ ap (map usage_of) (take_all i ns (omega (arith, past, size)))
