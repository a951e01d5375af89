-- Variables and local functions that are found and counted.
use Rattle.std.proofs.Common.{◌≡◌, ◌∙◌, ◌<◌, ◌≤◌, ◌+◌, ℕ, zero, suc, List, [], ◌∷◌, ◌++◌, arith, length, drop, get_or, map, refl, sym, ap, subst, add-one}
use Rattle.std.proofs.lemmas.List.{append-nil, append_assoc, drop_all, map-append}
use Rattle.std.proofs.lemmas.Option.{get_or_from_slice_get, slice_get-get_or}
use Rattle.std.specs.List.{flat_map}
use Rattle.std.specs.declared.alloc.Global.{Global}
use Rattle.std.specs.declared.vec.Vec.{Vec}
use Rattle.cu_lex.specs.Located as located
use Rattle.cu_lex.specs.Reading.{position_of}
use Rattle.cu_syntax.specs.declared.declarations.Declaration.{Declaration}
use Rattle.cu_syntax.specs.declared.name.Name as code_name
use Rattle.cu_syntax.specs.declared.patterns.Pattern.{Pattern}
use Rattle.cu_syntax.specs.declared.patterns.PatternNode.{PatternNode}
use Rattle.cu_syntax.specs.declared.patterns.PatternNode.TheVariants as pattern
use Rattle.cu_syntax.specs.Names.{name_meaning}
use Rattle.cu_syntax.specs.Patterns.{pattern_meaning, pattern_node, patterns_meaning}
use Rattle.cu_syntax.specs.Syntax.{pattern_position}
use Rattle.cu_translation.specs.declared.local_names.Binder as code
use Rattle.cu_translation.specs.declared.local_names.Binder.TheVariants as binder
use Rattle.cu_translation.specs.declared.position.Position.{Position}
use Rattle.cu_translation.specs.LocalNames.{At, Binder, Otherwise, Selected, Whole}
use Rattle.cu_translation.specs.Meaning.{binder_meaning, position_meaning}
use Rattle.cu_translation.specs.Numbering.{all_binders, all_functions, all_places, at_name, binders_at, binders_of, declared_places, functions_at, functions_of, generated, selected}
use Rattle.cu_translation.specs.Sites.{Node, Site}
use Rattle.cu_uses.specs.Binders.{pattern_variables}
use Rattle.cu_uses.specs.Gathered.{Adds, names_meaning, pattern_binds}
use Rattle.cu_uses.proofs.FoundLemmas.{prefix, nothing_left}
use Rattle.cu_locals.specs.Places.{pattern_places, patterns_place, positions_meaning}
use Rattle.cu_locals.specs.Text.{Text}
use Rattle.cu_sites.specs.Numbered.{binders_meaning}
use Rattle.cu_sites.specs.declared.sites.Node as nodes
use Rattle.cu_sites.specs.declared.sites.ScopeEntry.{ScopeEntry}
use Rattle.cu_sites.specs.Meaning.{AreNodes, IsNode}
use Rattle.cu_sites.specs.Inside.Counting.{Counts, Lists, bound_binders, name_places}

-- ---- lists that grow

pub counts_none : (a : List code.Binder) → Counts a [] a
counts_none a = record { counts = sym (append-nil (binders_meaning a)) }

pub counts_both : {a b c : List code.Binder} {xs ys : List Binder} → Counts a xs b → Counts b ys c → Counts a (xs ++ ys) c
counts_both {a = a} {xs = xs} {ys = ys} one two = record { counts = two.counts ∙ ap (λ zs. zs ++ ys) one.counts ∙ append_assoc (binders_meaning a) xs ys }

pub counts_one : (a b : List code.Binder) (x : code.Binder) (y : Binder) → b ≡ a ++ x ∷ [] → binder_meaning x ≡ y → Counts a (y ∷ []) b
counts_one a b x y pushed is = record { counts = ap binders_meaning pushed ∙ map-append binder_meaning a (x ∷ []) ∙ ap (λ z. binders_meaning a ++ z ∷ []) is }

pub lists_none : (a : List Position) → Lists a [] a
lists_none a = record { lists = sym (append-nil (positions_meaning a)) }

pub lists_both : {a b c : List Position} {xs ys : List located.Position} → Lists a xs b → Lists b ys c → Lists a (xs ++ ys) c
lists_both {a = a} {xs = xs} {ys = ys} one two = record { lists = two.lists ∙ ap (λ zs. zs ++ ys) one.lists ∙ append_assoc (positions_meaning a) xs ys }

pub lists_one : (a b : List Position) (x : Position) (y : located.Position) → b ≡ a ++ x ∷ [] → position_meaning x ≡ y → Lists a (y ∷ []) b
lists_one a b x y pushed is = record { lists = ap positions_meaning pushed ∙ map-append position_meaning a (x ∷ []) ∙ ap (λ z. positions_meaning a ++ z ∷ []) is }

-- what is left to count gives all
pub counts_prefix : {X : Type 0} (F : List X → List Binder) (f : X → List Binder) → ((x : X) (xs : List X) → F (x ∷ xs) ≡ f x ++ F xs)
    → (xs : List X) (i : ℕ) (x : X) (a b c : List code.Binder) → x ≡ get_or xs i x → i < length xs → Counts a (f x) b → Counts b (F (drop (i + 1) xs)) c → Counts a (F (drop i xs)) c
counts_prefix F f cons xs i x a b c is within here suffix = subst (λ ys. Counts a ys c) (prefix F f cons xs i x is within) (counts_both here suffix)

pub counts_end : {X : Type 0} (F : List X → List Binder) → F [] ≡ [] → (xs : List X) (i : ℕ) (a : List code.Binder) → length xs ≤ i → Counts a (F (drop i xs)) a
counts_end F empty xs i a past = subst (λ ys. Counts a ys a) (sym (nothing_left F empty xs i past)) (counts_none a)

pub lists_prefix : {X : Type 0} (F : List X → List located.Position) (f : X → List located.Position) → ((x : X) (xs : List X) → F (x ∷ xs) ≡ f x ++ F xs)
    → (xs : List X) (i : ℕ) (x : X) (a b c : List Position) → x ≡ get_or xs i x → i < length xs → Lists a (f x) b → Lists b (F (drop (i + 1) xs)) c → Lists a (F (drop i xs)) c
lists_prefix F f cons xs i x a b c is within here suffix = subst (λ ys. Lists a ys c) (prefix F f cons xs i x is within) (lists_both here suffix)

pub lists_end : {X : Type 0} (F : List X → List located.Position) → F [] ≡ [] → (xs : List X) (i : ℕ) (a : List Position) → length xs ≤ i → Lists a (F (drop i xs)) a
lists_end F empty xs i a past = subst (λ ys. Lists a ys a) (sym (nothing_left F empty xs i past)) (lists_none a)

-- ---- nodes

-- the node that stands at a place of a list
pub record NodeAt (t : Text) (es : List ScopeEntry) (bs : List (Vec Declaration Global)) (x : nodes.Node) (i : ℕ) (ns : List Node) : Type 0 where
  pub n : Node
  pub split : drop i ns ≡ n ∷ drop (i + 1) ns
  pub is : IsNode t es bs x n (drop (i + 1) ns)

drop_more : {X : Type 0} (x : X) (i : ℕ) (xs : List X) → drop (suc i + 1) (x ∷ xs) ≡ drop (i + 1) xs
drop_more x i xs = ap (λ k. drop k (x ∷ xs)) (add-one (suc i)) ∙ sym (ap (λ k. drop k xs) (add-one i))

pub node_at : (t : Text) (es : List ScopeEntry) (bs : List (Vec Declaration Global)) (xs : List nodes.Node) (ns : List Node) (i : ℕ) (x : nodes.Node) → x ≡ get_or xs i x → i < length xs → AreNodes t es bs xs ns → NodeAt t es bs x i ns
node_at t es bs [] [] i x is within are = absurd (omega (arith, within))
node_at t es bs [] (n ∷ ns) i x is within are = absurd are
node_at t es bs (y ∷ xs) [] i x is within are = absurd are
node_at t es bs (y ∷ xs) (n ∷ ns) zero x is within are =
    record { n = n; split = refl; is = subst (λ z. IsNode t es bs z n ns) (sym is) are.0 }
node_at t es bs (y ∷ xs) (n ∷ ns) (suc i) x is within are =
    let inner = node_at t es bs xs ns i x is (omega (arith, within)) are.1 in
    let further = drop_more n i ns in
    record { n = inner.n; split = inner.split ∙ ap (λ zs. inner.n ∷ zs) (sym further); is = subst (λ zs. IsNode t es bs x inner.n zs) (sym further) inner.is }

nodes_past : (t : Text) (es : List ScopeEntry) (bs : List (Vec Declaration Global)) (xs : List nodes.Node) (ns : List Node) (i : ℕ) → length xs ≤ i → AreNodes t es bs xs ns → drop i ns ≡ []
nodes_past t es bs [] [] i past are = drop_all i [] (omega arith)
nodes_past t es bs [] (n ∷ ns) i past are = absurd are
nodes_past t es bs (y ∷ xs) [] i past are = absurd are
nodes_past t es bs (y ∷ xs) (n ∷ ns) zero past are = absurd (omega (arith, past))
nodes_past t es bs (y ∷ xs) (n ∷ ns) (suc i) past are = nodes_past t es bs xs ns i (omega (arith, past)) are.1

-- what is left to count of nodes gives all
pub binders_prefix : (t : Text) (es : List ScopeEntry) (bs : List (Vec Declaration Global)) (xs : List nodes.Node) (ns : List Node) (i : ℕ) (x : nodes.Node) (a b c : List code.Binder) → (at : NodeAt t es bs x i ns)
    → Counts a (binders_of at.n) b → Counts b (all_binders (drop (i + 1) ns)) c → Counts a (all_binders (drop i ns)) c
binders_prefix t es bs xs ns i x a b c at here after = subst (λ zs. Counts a (all_binders zs) c) (sym at.split) (counts_both here after)

pub binders_end : (t : Text) (es : List ScopeEntry) (bs : List (Vec Declaration Global)) (xs : List nodes.Node) (ns : List Node) (i : ℕ) (a : List code.Binder) → length xs ≤ i → AreNodes t es bs xs ns → Counts a (all_binders (drop i ns)) a
binders_end t es bs xs ns i a past are = subst (λ zs. Counts a (all_binders zs) a) (sym (nodes_past t es bs xs ns i past are)) (counts_none a)

pub functions_prefix : (t : Text) (es : List ScopeEntry) (bs : List (Vec Declaration Global)) (xs : List nodes.Node) (ns : List Node) (i : ℕ) (x : nodes.Node) (a b c : List Position) → (at : NodeAt t es bs x i ns)
    → Lists a (functions_of at.n) b → Lists b (all_functions (drop (i + 1) ns)) c → Lists a (all_functions (drop i ns)) c
functions_prefix t es bs xs ns i x a b c at here after = subst (λ zs. Lists a (all_functions zs) c) (sym at.split) (lists_both here after)

pub functions_end : (t : Text) (es : List ScopeEntry) (bs : List (Vec Declaration Global)) (xs : List nodes.Node) (ns : List Node) (i : ℕ) (a : List Position) → length xs ≤ i → AreNodes t es bs xs ns → Lists a (all_functions (drop i ns)) a
functions_end t es bs xs ns i a past are = subst (λ zs. Lists a (all_functions zs) a) (sym (nodes_past t es bs xs ns i past are)) (lists_none a)

-- ---- one round of a loop that pushes what it makes of each element

here_is : {X : Type 0} (xs : List X) (i : ℕ) (d : X) → i < length xs → get_or xs i d ≡ get_or xs i (get_or xs i d)
here_is xs i d within = sym (get_or_from_slice_get xs i (get_or xs i d) (get_or xs i d) (slice_get-get_or xs i d within))

pub counts_next : {X : Type 0} (F : List X → List Binder) (f : X → List Binder) → ((x : X) (xs : List X) → F (x ∷ xs) ≡ f x ++ F xs) → (xs : List X) (i : ℕ) (d : X) (a b c : List code.Binder) → i < length xs
    → Counts a (f (get_or xs i d)) b → Counts b (F (drop (i + 1) xs)) c → Counts a (F (drop i xs)) c
counts_next F f cons xs i d a b c within here after = counts_prefix F f cons xs i (get_or xs i d) a b c (here_is xs i d within) within here after

pub counts_pushed : {X : Type 0} (F : List X → List Binder) (f : X → Binder) → ((x : X) (xs : List X) → F (x ∷ xs) ≡ f x ∷ F xs) → (xs : List X) (i : ℕ) (d : X) (e : code.Binder) (a b c : List code.Binder) → i < length xs
    → b ≡ a ++ e ∷ [] → binder_meaning e ≡ f (get_or xs i d) → Counts b (F (drop (i + 1) xs)) c → Counts a (F (drop i xs)) c
counts_pushed F f cons xs i d e a b c within pushed is after = counts_next F (λ x. f x ∷ []) cons xs i d a b c within (counts_one a b e (f (get_or xs i d)) pushed is) after

pub lists_pushed : {X : Type 0} (F : List X → List located.Position) (f : X → located.Position) → ((x : X) (xs : List X) → F (x ∷ xs) ≡ f x ∷ F xs) → (xs : List X) (i : ℕ) (d : X) (e : Position) (a b c : List Position) → i < length xs
    → b ≡ a ++ e ∷ [] → position_meaning e ≡ f (get_or xs i d) → Lists b (F (drop (i + 1) xs)) c → Lists a (F (drop i xs)) c
lists_pushed F f cons xs i d e a b c within pushed is after =
    lists_prefix F (λ x. f x ∷ []) cons xs i (get_or xs i d) a b c (here_is xs i d within) within (lists_one a b e (f (get_or xs i d)) pushed is) after

-- ---- patterns

generated_in : (names : List (List ℕ)) (v : PatternNode) → ((x : code_name.Name) → v ≡ pattern.Variable x → ⊥)
    → generated (pattern_node names v) ≡ Whole (pattern_position (pattern_node names v)) ∷ Otherwise (pattern_position (pattern_node names v)) ∷ []
generated_in names (pattern.Variable x) other = absurd (other x refl)
generated_in names (pattern.Alias x p) other = refl
generated_in names (pattern.Wildcard at) other = refl
generated_in names (pattern.Literal at found) other = refl
generated_in names (pattern.Negative at n) other = refl
generated_in names (pattern.Constructed at x ps) other = refl
generated_in names (pattern.Tuple at ps) other = refl
generated_in names (pattern.List at ps) other = refl
generated_in names (pattern.Operators items) other = refl

pub generated_none : (names : List (List ℕ)) (p : Pattern) (v : PatternNode) (x : code_name.Name) (a : List code.Binder) → pattern_node names v ≡ pattern_meaning names p → v ≡ pattern.Variable x → Counts a (generated (pattern_meaning names p)) a
generated_none names p v x a meaning is = subst (λ q. Counts a (generated q) a) (ap (pattern_node names) (sym is) ∙ meaning) (counts_none a)

pub generated_two : (names : List (List ℕ)) (p : Pattern) (v : PatternNode) (at : Position) (a b c : List code.Binder) → pattern_node names v ≡ pattern_meaning names p → ((x : code_name.Name) → v ≡ pattern.Variable x → ⊥)
    → position_meaning at ≡ pattern_position (pattern_meaning names p) → b ≡ a ++ binder.Whole at ∷ [] → c ≡ b ++ binder.Otherwise at ∷ [] → Counts a (generated (pattern_meaning names p)) c
generated_two names p v at a b c meaning other here one two =
    let is = subst (λ q. generated q ≡ Whole (pattern_position q) ∷ Otherwise (pattern_position q) ∷ []) meaning (generated_in names v other) in
    let place = pattern_position (pattern_meaning names p) in
    subst (λ bs. Counts a bs c) (sym is) (counts_both (counts_one a b (binder.Whole at) (Whole place) one (ap Whole here)) (counts_one b c (binder.Otherwise at) (Otherwise place) two (ap Otherwise here)))

pub selected_counted : (names : List (List ℕ)) (p : Pattern) (x : code_name.Name) (at : Position) (places : List Position) (a b : List code.Binder) → position_meaning at ≡ position_of x.place
    → positions_meaning places ≡ pattern_places names p → Counts a (map (Selected (position_meaning at)) (positions_meaning places)) b → Counts a (selected (pattern_meaning names p) (name_meaning names x)) b
unfolding pattern_places
selected_counted names p x at places a b here are counted =
    subst (λ q. Counts a (map (Selected q) (declared_places (pattern_meaning names p))) b) here (subst (λ ps. Counts a (map (Selected (position_meaning at)) ps) b) are counted)

-- the variables that the functions of so many names of a pattern have
abbrev pub selected_all : List (List ℕ) → Pattern → List code_name.Name → List Binder
selected_all names p xs = flat_map (selected (pattern_meaning names p)) (names_meaning names xs)

pub bound_counted : (t : Text) (p : Pattern) (xs : List code_name.Name) (at : Position) (a b c after : List code.Binder) → position_meaning at ≡ pattern_position (pattern_meaning t.names p) → Adds t.owner t.names [] (pattern_binds t.names p) xs
    → b ≡ a ++ binder.Whole at ∷ [] → Counts b (map at_name (names_meaning t.names xs)) c → Counts c (selected_all t.names p xs) after → Counts a (bound_binders (pattern_meaning t.names p)) after
unfolding pattern_binds
bound_counted t p xs at a b c after here found pushed named rest =
    let whole = Whole (pattern_position (pattern_meaning t.names p)) in
    subst (λ vs. Counts a (whole ∷ map at_name vs ++ flat_map (selected (pattern_meaning t.names p)) vs) after) found.adds
    (counts_both (counts_one a b (binder.Whole at) whole pushed (ap Whole here)) (counts_both named rest))

pub bound_functions : (t : Text) (p : Pattern) (xs : List code_name.Name) (a b : List Position) → Adds t.owner t.names [] (pattern_binds t.names p) xs → Lists a (name_places (names_meaning t.names xs)) b
    → Lists a (name_places (pattern_variables (pattern_meaning t.names p))) b
unfolding pattern_binds
bound_functions t p xs a b found listed = subst (λ vs. Lists a (name_places vs) b) found.adds listed

pub matched_counted : (names : List (List ℕ)) (ps written : List Pattern) (places : List Position) (a b : List code.Binder) → written ≡ ps → positions_meaning places ≡ patterns_place names written
    → Counts a (map At (positions_meaning places)) b → Counts a (map At (all_places (patterns_meaning names ps))) b
unfolding patterns_place
matched_counted names ps written places a b is are counted = subst (λ qs. Counts a (map At qs) b) (are ∙ ap (patterns_place names) is) counted

-- ---- sites

pub counts_as : (s r : Site) (a b : List code.Binder) → s ≡ r → Counts a (binders_at r) b → Counts a (binders_at s) b
counts_as s r a b is counted = subst (λ x. Counts a (binders_at x) b) (sym is) counted

pub lists_as : (s r : Site) (a b : List Position) → s ≡ r → Lists a (functions_at r) b → Lists a (functions_at s) b
lists_as s r a b is listed = subst (λ x. Lists a (functions_at x) b) (sym is) listed

-- what was counted from nothing
pub counts_all : (a b : List code.Binder) (xs : List Binder) → a ≡ [] → Counts a xs b → binders_meaning b ≡ xs
counts_all a b xs none counted = counted.counts ∙ ap (λ ys. binders_meaning ys ++ xs) none

pub lists_all : (a b : List Position) (xs : List located.Position) → a ≡ [] → Lists a xs b → positions_meaning b ≡ xs
lists_all a b xs none listed = listed.lists ∙ ap (λ ys. positions_meaning ys ++ xs) none
