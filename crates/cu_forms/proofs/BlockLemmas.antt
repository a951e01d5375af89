-- Blocks, guards, and what stands around the rest of a comprehension.
use Rattle.std.proofs.Common.{◌≡◌, ◌∙◌, ◌+◌, ◌<◌, ◌≤◌, ℕ, zero, suc, Bool, true, false, List, [], ◌∷◌, ◌++◌, Option, None, Some, length, map, take, drop, get_or, refl, sym, ap, ap₂, append_assoc, append-nil, add-one, arith, rules}
use Rattle.std.proofs.lemmas.List.{drop_all, length-map, map-append}
use Rattle.std.proofs.Math.Seq.{drop-cons, take-suc}
use Rattle.std.specs.Prelude.{cond, nat_eq, not, slice_get, ◌&&◌, ◌||◌}
use Rattle.std.specs.List.{filter, find, list_any, remove}
use Rattle.std.specs.declared.alloc.Global.{Global}
use Rattle.std.specs.declared.boxed.Box.{Box}
use Rattle.std.specs.declared.vec.Vec.{Vec}
use Rattle.cu_kernel.specs.LocalTerm as local
use Rattle.cu_kernel.specs.LocalTermsOf.{local_term_of, local_term_of-Free, local_term_of-Let, local_term_of-Var, local_term_of-Whole, local_terms_of}
use Rattle.cu_kernel.specs.declared.local.LocalHead.TheVariants as head
use Rattle.cu_kernel.specs.declared.local.LocalTerm.{LocalTerm}
use Rattle.cu_kernel.specs.declared.local.LocalTerm.TheVariants as boxed
use Rattle.cu_lex.specs.Located as located
use Rattle.cu_names.specs.declared.place.Place.{Place}
use Rattle.cu_syntax.specs.Declarations.{declaration_meaning, declaration_node, declarations_meaning}
use Rattle.cu_syntax.specs.Names.{name_meaning}
use Rattle.cu_syntax.specs.Patterns.{pattern_meaning}
use Rattle.cu_syntax.specs.Syntax as syntax
use Rattle.cu_syntax.specs.Syntax.{pattern_position}
use Rattle.cu_syntax.specs.declared.declarations.Declaration.{Declaration}
use Rattle.cu_syntax.specs.declared.declarations.DeclarationNode.{DeclarationNode}
use Rattle.cu_syntax.specs.declared.declarations.DeclarationNode.TheVariants as node
use Rattle.cu_syntax.specs.declared.name.Name.{Name}
use Rattle.cu_syntax.specs.declared.patterns.Pattern.{Pattern}
use Rattle.cu_uses.specs.Gathered.{names_meaning, pattern_binds}
use Rattle.cu_translation.specs.Around.{Around, Names}
use Rattle.cu_translation.specs.Blocks as definitions
use Rattle.cu_translation.specs.Blocks.{bound, depends_on_none, first_and_others, free_in, frees, is_other, ordered, ordered_within, selection, with_free, with_lets}
use Rattle.cu_translation.specs.LocalNames as binder
use Rattle.cu_translation.specs.LocalNames.{Binder, same_binder, same_place}
use Rattle.cu_translation.specs.Meaning.{Setting, binder_meaning, position_meaning}
use Rattle.cu_translation.specs.contracts.local_names.BinderPartialEq.TheImpl as binders
use Rattle.cu_translation.specs.declared.local_names.Binder as code
use Rattle.cu_translation.specs.declared.local_names.Binder.TheVariants as binders_of
use Rattle.cu_translation.specs.declared.position.Position.{Position}
use Rattle.cu_forms.specs.Forms.{block_term, free_form, selections_form}
use Rattle.cu_forms.specs.Inside.Blocks.{before_guards, bound_meaning, bounds_meaning, chosen, is_of_other, layer_around, layers_around}
use Rattle.cu_forms.specs.Inside.Lists.{distinction}
use Rattle.cu_forms.specs.declared.blocks.Bound.{Bound}
use Rattle.cu_forms.specs.declared.layers.Layer.{Layer}

-- what stands for a name outside a slice
abbrev pub default_name : Name
default_name = record { text = record { 0 = 0 }; qualifier = None; base = record { 0 = 0 }; place = record { «module» = record { 0 = 0 }; line = 0; column = 0 } }

-- ---- one more at the end

pub last_let : (around : Around) (bounds : List definitions.Bound) (b : definitions.Bound) (t : local.LocalTerm)
    → with_lets around (bounds ++ b ∷ []) t ≡ with_lets around bounds (with_lets around (b ∷ []) t)
last_let around [] b t = refl
last_let around (c ∷ bounds) b t = ap (local.Let (around.numbers.variable c.variable) c.definition) (last_let around bounds b t)

pub last_free : (around : Around) (xs : List syntax.Name) (x : syntax.Name) (t : local.LocalTerm) → with_free around (xs ++ x ∷ []) t ≡ with_free around xs (with_free around (x ∷ []) t)
last_free around [] x t = refl
last_free around (y ∷ xs) x t = ap (local.Free (around.numbers.variable (binder.At y.at))) (last_free around xs x t)

pub last_guard : (names : Names) (guards : List (local.LocalTerm × local.LocalTerm)) (g : local.LocalTerm × local.LocalTerm) (t : local.LocalTerm)
    → before_guards names (guards ++ g ∷ []) t ≡ before_guards names guards (distinction names g.0 g.1 t)
last_guard names [] g t = refl
last_guard names (h ∷ guards) g t = ap (distinction names h.0 h.1) (last_guard names guards g t)

pub last_layer : (w : Setting) (layers : List Layer) (l : Layer) (t : local.LocalTerm) → layers_around w (layers ++ l ∷ []) t ≡ layers_around w layers (layer_around w l t)
last_layer w [] l t = refl
last_layer w (k ∷ layers) l t = ap (layer_around w k) (last_layer w layers l t)

-- ---- definitions and free variables

pub let_is : (around : Around) (b : Bound) (x : ℕ) (definition term : Box LocalTerm Global) (t : LocalTerm) → x ≡ around.numbers.variable (binder_meaning b.variable) → definition.value ≡ b.definition
    → term.value ≡ t → local_term_of (boxed.Let x definition term) ≡ with_lets around (bound_meaning b ∷ []) (local_term_of t)
let_is around b x definition term t numbered defined is =
    local_term_of-Let x definition term
    ∙ ap₂ (λ y s. local.Let y s (local_term_of term.value)) numbered (ap local_term_of defined)
    ∙ ap (λ s. local.Let (around.numbers.variable (binder_meaning b.variable)) (local_term_of b.definition) (local_term_of s)) is

pub free_is : (w : Setting) (free : List Name) (n m : ℕ) (d : Name) (at : Position) (x : ℕ) (term : Box LocalTerm Global) (t : LocalTerm) (whole : local.LocalTerm) → n < length free → m ≡ suc n
    → position_meaning at ≡ (name_meaning w.names (get_or free n d)).at → x ≡ w.around.numbers.variable (binder.At (position_meaning at)) → term.value ≡ t
    → with_free w.around (names_meaning w.names (take m free)) (local_term_of t) ≡ whole
    → with_free w.around (names_meaning w.names (take n free)) (local_term_of (boxed.Free x term)) ≡ whole
free_is w free n m d at x term t whole within next placed numbered value before =
    let f = name_meaning w.names in
    let name = get_or free n d in
    ap (with_free w.around (names_meaning w.names (take n free)))
    (local_term_of-Free x term ∙ ap₂ local.Free (numbered ∙ ap (λ p. w.around.numbers.variable (binder.At p)) placed) (ap local_term_of value))
    ∙ sym (last_free w.around (names_meaning w.names (take n free)) (f name) (local_term_of t))
    ∙ ap (λ xs. with_free w.around xs (local_term_of t))
    (sym (ap (λ k. map f (take k free)) next ∙ ap (map f) (take-suc free n d within) ∙ map-append f (take n free) (name ∷ [])))
    ∙ before

-- a block, from its definitions in order
pub block_is : (w : Setting) (free : List Name) (bounds found : List Bound) (inner term : LocalTerm) → local_term_of inner ≡ with_lets w.around (bounds_meaning found) (local_term_of term)
    → bounds_meaning found ≡ ordered w.around.numbers.depends (bounds_meaning bounds)
    → with_free w.around (names_meaning w.names free) (local_term_of inner) ≡ block_term w (names_meaning w.names free) (bounds_meaning bounds) (local_term_of term)
unfolding block_term
block_is w free bounds found inner term inside order =
    ap (with_free w.around (names_meaning w.names free)) (inside ∙ ap (λ bs. with_lets w.around bs (local_term_of term)) order)

-- ---- the variables of a pattern

pub selected : (w : Setting) (p : syntax.Pattern) (x : Name) (place at also : Position) (whole selector : ℕ) (arguments : Vec LocalTerm Global)
    → position_meaning place ≡ pattern_position p → position_meaning at ≡ (name_meaning w.names x).at → position_meaning also ≡ (name_meaning w.names x).at
    → whole ≡ w.around.numbers.variable (binder.Whole (position_meaning place)) → selector ≡ w.around.numbers.function (position_meaning at) → arguments.items ≡ boxed.Var whole ∷ []
    → bound (binder.At (position_meaning also)) (local_term_of (boxed.Whole (head.Local selector) arguments)) ≡ selection w.around p (name_meaning w.names x)
selected w p x place at also whole selector arguments from here there numbered selects one =
    ap₂ bound (ap binder.At there)
    (local_term_of-Whole (head.Local selector) arguments
    ∙ ap₂ (λ f ts. local.Whole (head.Local f) ts) (selects ∙ ap w.around.numbers.function here)
    (ap local_terms_of one
    ∙ ap (λ t. local.MoreTerms t local.NoTerm) (local_term_of-Var whole ∙ ap local.Variable (numbered ∙ ap (λ q. w.around.numbers.variable (binder.Whole q)) from))))

map_map : {X Y Z : Type 0} (f : X → Y) (g : Y → Z) (xs : List X) → map (λ x. g (f x)) xs ≡ map g (map f xs)
map_map f g [] = refl
map_map f g (x ∷ xs) = ap (λ ys. g (f x) ∷ ys) (map_map f g xs)

abbrev pub selection_of : Setting → Pattern → Name → definitions.Bound
selection_of w p x = selection w.around (pattern_meaning w.names p) (name_meaning w.names x)

pub selections_are : (w : Setting) (p : Pattern) (found : List Name) → names_meaning w.names found ≡ pattern_binds w.names p → map (selection_of w p) found ≡ selections_form w p
unfolding pattern_binds selections_form
selections_are w p found is =
    map_map (name_meaning w.names) (selection w.around (pattern_meaning w.names p)) found ∙ ap (map (selection w.around (pattern_meaning w.names p))) is

-- ---- the order of definitions

nat_same : (n : ℕ) → nat_eq n n ≡ true
nat_same n = search rules

same_place_itself : (p : located.Position) → same_place p p ≡ true
same_place_itself p = ap₂ (λ a b. a && b) (nat_same p.line) (nat_same p.column)

same_binder_itself : (x : Binder) → same_binder x x ≡ true
same_binder_itself (binder.At p) = same_place_itself p
same_binder_itself (binder.Whole p) = same_place_itself p
same_binder_itself (binder.Otherwise p) = same_place_itself p
same_binder_itself (binder.Selected p q) = ap₂ (λ a b. a && b) (same_place_itself p) (same_place_itself q)

same_binders : (x y : code.Binder) → binders.eq-value.it x y ≡ same_binder (binder_meaning x) (binder_meaning y)
same_binders (binders_of.At p) (binders_of.At q) = refl
same_binders (binders_of.At p) (binders_of.Whole q) = refl
same_binders (binders_of.At p) (binders_of.Otherwise q) = refl
same_binders (binders_of.At p) (binders_of.Selected q r) = refl
same_binders (binders_of.Whole p) (binders_of.At q) = refl
same_binders (binders_of.Whole p) (binders_of.Whole q) = refl
same_binders (binders_of.Whole p) (binders_of.Otherwise q) = refl
same_binders (binders_of.Whole p) (binders_of.Selected q r) = refl
same_binders (binders_of.Otherwise p) (binders_of.At q) = refl
same_binders (binders_of.Otherwise p) (binders_of.Whole q) = refl
same_binders (binders_of.Otherwise p) (binders_of.Otherwise q) = refl
same_binders (binders_of.Otherwise p) (binders_of.Selected q r) = refl
same_binders (binders_of.Selected p o) (binders_of.At q) = refl
same_binders (binders_of.Selected p o) (binders_of.Whole q) = refl
same_binders (binders_of.Selected p o) (binders_of.Otherwise q) = refl
same_binders (binders_of.Selected p o) (binders_of.Selected q r) = refl

pub is_other_unless : (x : code.Binder) (b : Bound) (same found : Bool) → found ≡ binders.eq-value.it x b.variable → found ≡ same → is_of_other (binder_meaning x) (bound_meaning b) ≡ not same
is_other_unless x b same found is e = ap not (sym (same_binders x b.variable) ∙ sym is ∙ e)

-- what a filter takes out anyway may be gone before
filter_without : {X Y : Type 0} (f : X → Y) (q : Y → Bool) (xs : List X) (i : ℕ) (d : X) → i < length xs → q (f (get_or xs i d)) ≡ false → filter q (map f xs) ≡ filter q (map f (remove xs i))
filter_without f q [] i d within e = absurd (omega (arith, within))
filter_without f q (x ∷ xs) zero d within e = ap (λ b. cond b (f x ∷ filter q (map f xs)) (filter q (map f xs))) e
filter_without f q (x ∷ xs) (suc i) d within e =
    let less : i < length xs = omega (arith, within) in
    ap (λ ys. cond (q (f x)) (f x ∷ ys) ys) (filter_without f q xs i d less e)

get_mapped : {X Y : Type 0} (f : X → Y) (xs : List X) (i : ℕ) (d : X) → i < length xs → slice_get (map f xs) i ≡ Some (f (get_or xs i d))
get_mapped f [] i d within = absurd (omega (arith, within))
get_mapped f (x ∷ xs) zero d within = refl
get_mapped f (x ∷ xs) (suc i) d within = let less : i < length xs = omega (arith, within) in get_mapped f xs i d less

abbrev pub from_left : ℕ → (Binder → Binder → Bool) → List Bound → List definitions.Bound
from_left n depends left = ordered_within n depends (bounds_meaning left)

pub next_is : (depends : Binder → Binder → Bool) (n m i : ℕ) (left rest others : List Bound) (b : Bound) (found : Option ℕ) → m ≡ suc n → i < length left → found ≡ Some i
    → chosen (bounds_meaning left) found ≡ find (depends_on_none depends (bounds_meaning left)) (bounds_meaning left) → b ≡ get_or left i b → rest ≡ remove left i
    → bounds_meaning others ≡ filter (is_of_other (binder_meaning b.variable)) (bounds_meaning rest) → from_left m depends left ≡ bound_meaning b ∷ from_left n depends others
next_is depends n m i left rest others b found more within some is at removed are =
    let B = bounds_meaning left in
    let order = ordered_within n depends in
    let c = bound_meaning b in
    let chosen_is : find (depends_on_none depends B) B ≡ Some c = sym is ∙ ap (chosen B) some ∙ get_mapped bound_meaning left i b within ∙ ap (λ y. Some (bound_meaning y)) (sym at) in
    let itself : is_other c (bound_meaning (get_or left i b)) ≡ false = ap (λ y. is_other c (bound_meaning y)) (sym at) ∙ ap not (same_binder_itself (binder_meaning b.variable)) in
    ap (λ k. ordered_within k depends B) more ∙ ap (first_and_others order B) chosen_is
    ∙ ap (λ ys. c ∷ order ys) (filter_without bound_meaning (is_other c) left i b within itself ∙ ap (λ ys. filter (is_other c) (bounds_meaning ys)) (sym removed) ∙ sym are)

pub none_next : (depends : Binder → Binder → Bool) (n m : ℕ) (left : List Bound) (found : Option ℕ) → m ≡ suc n → found ≡ None
    → chosen (bounds_meaning left) found ≡ find (depends_on_none depends (bounds_meaning left)) (bounds_meaning left) → from_left m depends left ≡ bounds_meaning left
none_next depends n m left found more none is =
    let B = bounds_meaning left in
    ap (λ k. ordered_within k depends B) more ∙ ap (first_and_others (ordered_within n depends) B) (sym is ∙ ap (chosen B) none)

pub all_ordered : (depends : Binder → Binder → Bool) (bounds found : List Bound) (n : ℕ) → found ≡ [] → n ≡ length bounds → bounds_meaning found ++ from_left n depends bounds ≡ ordered depends (bounds_meaning bounds)
all_ordered depends bounds found n none count =
    ap (λ xs. bounds_meaning xs ++ from_left n depends bounds) none ∙ ap (λ k. ordered_within k depends (bounds_meaning bounds)) (count ∙ sym (length-map bounds bound_meaning))

pub all_left : (depends : Binder → Binder → Bool) (found left : List Bound) (n : ℕ) (whole : List definitions.Bound) → n ≡ 0 → bounds_meaning found ++ from_left n depends left ≡ whole → bounds_meaning found ≡ whole
all_left depends found left n whole none all = sym (append-nil (bounds_meaning found)) ∙ ap (λ k. bounds_meaning found ++ from_left k depends left) (sym none) ∙ all

pub one_ordered : (before after : List Bound) (b : Bound) (later rest whole : List definitions.Bound) → after ≡ before ++ b ∷ [] → later ≡ bound_meaning b ∷ rest
    → bounds_meaning before ++ later ≡ whole → bounds_meaning after ++ rest ≡ whole
one_ordered before after b later rest whole pushed is all =
    ap (λ ys. ys ++ rest) (ap bounds_meaning pushed ∙ map-append bound_meaning before (b ∷ [])) ∙ append_assoc (bounds_meaning before) (bound_meaning b ∷ []) rest
    ∙ ap (λ ys. bounds_meaning before ++ ys) (sym is) ∙ all

pub rest_ordered : (before left after : List Bound) (later whole : List definitions.Bound) → after ≡ before ++ left → later ≡ bounds_meaning left → bounds_meaning before ++ later ≡ whole
    → bounds_meaning after ≡ whole
rest_ordered before left after later whole pushed is all =
    ap bounds_meaning pushed ∙ map-append bound_meaning before left ∙ ap (λ ys. bounds_meaning before ++ ys) (sym is) ∙ all

-- the first that depends on none
pub find_later : (p : definitions.Bound → Bool) (left : List Bound) (i : ℕ) (b : Bound) (whole : Option definitions.Bound) → i < length left → b ≡ get_or left i b → p (bound_meaning b) ≡ false
    → find p (bounds_meaning (drop i left)) ≡ whole → find p (bounds_meaning (drop (i + 1) left)) ≡ whole
find_later p left i b whole within at fails before =
    let rest = find p (bounds_meaning (drop (i + 1) left)) in
    ap (λ c. cond c (Some (bound_meaning b)) rest) (sym fails)
    ∙ ap (λ ys. find p (bounds_meaning ys)) (ap₂ (λ y n. y ∷ drop n left) at (add-one i) ∙ sym (drop-cons left i b within)) ∙ before

pub find_here : (p : definitions.Bound → Bool) (left : List Bound) (i : ℕ) (b : Bound) (whole : Option definitions.Bound) → i < length left → b ≡ get_or left i b → p (bound_meaning b) ≡ true
    → find p (bounds_meaning (drop i left)) ≡ whole → chosen (bounds_meaning left) (Some i) ≡ whole
find_here p left i b whole within at holds before =
    let rest = find p (bounds_meaning (drop (i + 1) left)) in
    get_mapped bound_meaning left i b within ∙ ap (λ y. Some (bound_meaning y)) (sym at)
    ∙ ap (λ c. cond c (Some (bound_meaning b)) rest) (sym holds)
    ∙ ap (λ ys. find p (bounds_meaning ys)) (ap₂ (λ y n. y ∷ drop n left) at (add-one i) ∙ sym (drop-cons left i b within)) ∙ before

pub find_nowhere : (p : definitions.Bound → Bool) (left : List Bound) (i : ℕ) (whole : Option definitions.Bound) → length left ≤ i → find p (bounds_meaning (drop i left)) ≡ whole → None ≡ whole
find_nowhere p left i whole past before = ap (λ ys. find p (bounds_meaning ys)) (sym (drop_all i left past)) ∙ before

-- whether one of these is depended on
pub any_later : (p : definitions.Bound → Bool) (left : List Bound) (i : ℕ) (b : Bound) (whole : Bool) → i < length left → b ≡ get_or left i b → p (bound_meaning b) ≡ false
    → list_any p (bounds_meaning (drop i left)) ≡ whole → list_any p (bounds_meaning (drop (i + 1) left)) ≡ whole
any_later p left i b whole within at fails before =
    let rest = list_any p (bounds_meaning (drop (i + 1) left)) in
    ap (λ c. c || rest) (sym fails)
    ∙ ap (λ ys. list_any p (bounds_meaning ys)) (ap₂ (λ y n. y ∷ drop n left) at (add-one i) ∙ sym (drop-cons left i b within)) ∙ before

pub any_here : (p : definitions.Bound → Bool) (left : List Bound) (i : ℕ) (b : Bound) (whole : Bool) → i < length left → b ≡ get_or left i b → p (bound_meaning b) ≡ true
    → list_any p (bounds_meaning (drop i left)) ≡ whole → true ≡ whole
any_here p left i b whole within at holds before =
    let rest = list_any p (bounds_meaning (drop (i + 1) left)) in
    ap (λ c. c || rest) (sym holds)
    ∙ ap (λ ys. list_any p (bounds_meaning ys)) (ap₂ (λ y n. y ∷ drop n left) at (add-one i) ∙ sym (drop-cons left i b within)) ∙ before

pub any_nowhere : (p : definitions.Bound → Bool) (left : List Bound) (i : ℕ) (whole : Bool) → length left ≤ i → list_any p (bounds_meaning (drop i left)) ≡ whole → false ≡ whole
any_nowhere p left i whole past before = ap (λ ys. list_any p (bounds_meaning ys)) (sym (drop_all i left past)) ∙ before

-- definitions of other variables
pub kept : (q : definitions.Bound → Bool) (found after before rest : List Bound) (b : Bound) (whole : List definitions.Bound) → before ≡ b ∷ rest → after ≡ found ++ b ∷ [] → q (bound_meaning b) ≡ true
    → bounds_meaning found ++ filter q (bounds_meaning before) ≡ whole → bounds_meaning after ++ filter q (bounds_meaning rest) ≡ whole
kept q found after before rest b whole next pushed passes all =
    let later = filter q (bounds_meaning rest) in
    ap (λ ys. ys ++ later) (ap bounds_meaning pushed ∙ map-append bound_meaning found (b ∷ [])) ∙ append_assoc (bounds_meaning found) (bound_meaning b ∷ []) later
    ∙ ap (λ ys. bounds_meaning found ++ ys) (ap (λ c. cond c (bound_meaning b ∷ later) later) (sym passes) ∙ ap (λ ys. filter q (bounds_meaning ys)) (sym next)) ∙ all

pub dropped : (q : definitions.Bound → Bool) (found before rest : List Bound) (b : Bound) (whole : List definitions.Bound) → before ≡ b ∷ rest → q (bound_meaning b) ≡ false
    → bounds_meaning found ++ filter q (bounds_meaning before) ≡ whole → bounds_meaning found ++ filter q (bounds_meaning rest) ≡ whole
dropped q found before rest b whole next fails all =
    let after = filter q (bounds_meaning rest) in
    ap (λ ys. bounds_meaning found ++ ys) (ap (λ c. cond c (bound_meaning b ∷ after) after) (sym fails) ∙ ap (λ ys. filter q (bounds_meaning ys)) (sym next)) ∙ all

-- ---- the free variables of a block

abbrev pub frees_of : List (List ℕ) → List Declaration → List syntax.Name
frees_of names ds = frees (declarations_meaning names ds)

pub free_all : (names : List (List ℕ)) (ds : List Declaration) → frees_of names ds ≡ free_form names ds
unfolding free_form
free_all names ds = refl

pub free_more : (names : List (List ℕ)) (ds : List Declaration) (i : ℕ) (d : Declaration) (before after : List Name) (whole : List syntax.Name) → i < length ds → d ≡ get_or ds i d
    → names_meaning names after ≡ names_meaning names before ++ free_in (declaration_meaning names d) → names_meaning names before ++ frees_of names (drop i ds) ≡ whole
    → names_meaning names after ++ frees_of names (drop (i + 1) ds) ≡ whole
free_more names ds i d before after whole within at added all =
    let rest = frees_of names (drop (i + 1) ds) in
    ap (λ ys. ys ++ rest) added ∙ append_assoc (names_meaning names before) (free_in (declaration_meaning names d)) rest
    ∙ ap (λ ys. names_meaning names before ++ ys)
    (ap (frees_of names) (ap₂ (λ y n. y ∷ drop n ds) at (add-one i) ∙ sym (drop-cons ds i d within))) ∙ all

pub free_end : (names : List (List ℕ)) (ds : List Declaration) (i : ℕ) (found : List Name) (whole : List syntax.Name) → length ds ≤ i
    → names_meaning names found ++ frees_of names (drop i ds) ≡ whole → names_meaning names found ≡ whole
free_end names ds i found whole past all =
    sym (append-nil (names_meaning names found)) ∙ ap (λ ys. names_meaning names found ++ frees_of names ys) (sym (drop_all i ds past)) ∙ all

freed_in : (names : List (List ℕ)) (before after found : List Name) (v : DeclarationNode) (at : Place) (xs : Vec Name Global) → v ≡ node.FreeVariables at xs → found ≡ xs.items → after ≡ before ++ found
    → names_meaning names after ≡ names_meaning names before ++ free_in (declaration_node names v)
freed_in names before after found v at xs is same added =
    ap (names_meaning names) (added ∙ ap (λ ys. before ++ ys) same) ∙ map-append (name_meaning names) before xs.items
    ∙ ap (λ n. names_meaning names before ++ free_in (declaration_node names n)) (sym is)

pub freed : (names : List (List ℕ)) (d : Declaration) (before after found : List Name) (v : DeclarationNode) (at : Place) (xs : Vec Name Global) → declaration_node names v ≡ declaration_meaning names d
    → v ≡ node.FreeVariables at xs → found ≡ xs.items → after ≡ before ++ found → names_meaning names after ≡ names_meaning names before ++ free_in (declaration_meaning names d)
freed names d before after found v at xs meaning is same added =
    freed_in names before after found v at xs is same added ∙ ap (λ e. names_meaning names before ++ free_in e) meaning

nothing_free : (names : List (List ℕ)) (v : DeclarationNode) → ((at : Place) (xs : Vec Name Global) → v ≡ node.FreeVariables at xs → ⊥) → free_in (declaration_node names v) ≡ []
nothing_free names (node.FreeVariables at xs) other = absurd (other at xs refl)
nothing_free names (node.Signature at xs t) other = refl
nothing_free names (node.FunctionRule at x ps right) other = refl
nothing_free names (node.PatternBinding at p right) other = refl

pub none_freed : (names : List (List ℕ)) (d : Declaration) (before : List Name) (v : DeclarationNode) → declaration_node names v ≡ declaration_meaning names d
    → ((at : Place) (xs : Vec Name Global) → v ≡ node.FreeVariables at xs → ⊥) → names_meaning names before ≡ names_meaning names before ++ free_in (declaration_meaning names d)
none_freed names d before v meaning other =
    sym (append-nil (names_meaning names before)) ∙ ap (λ ys. names_meaning names before ++ ys) (sym (nothing_free names v other) ∙ ap free_in meaning)
