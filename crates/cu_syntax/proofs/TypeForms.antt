-- What trees of types say, by their parts.
use Rattle.std.specs.Prelude.{◌≡◌, ℕ, true, false, ◌||◌, not, List, [], ◌∷◌, ◌++◌, IfNone, IfSome, Option, None, Some, map, refl}
use Rattle.std.specs.List.{All}
use Rattle.std.proofs.Common.{ap, ap₂, subst, sym, true≢false, ◌∙◌}
use Rattle.std.proofs.lemmas.Bool.{not-true}
use Rattle.std.proofs.lemmas.List.Elements.{All-head, All-tail}
use Rattle.cu_lex.specs.Located.{Position}
use Rattle.cu_peg.specs.Parse.{Leaf, Parts, Chosen, NoTree, MoreTrees, only}
use Rattle.cu_syntax.specs.declared.symbol.Symbol.{Symbol}
use Rattle.cu_syntax.specs.declared.symbol.Symbol.TheVariants as symbol
use Rattle.cu_syntax.specs.declared.types.TypeTerm.{TypeTerm}
use Rattle.cu_syntax.specs.Inside.Fits.{fits}
use Rattle.cu_syntax.specs.Forms.{is_type, is_type_node}
use Rattle.cu_syntax.specs.Reading.{Tree, Trees, argument_types, arrows, name_of, place, type_as, type_of, type_tuple, types_of}
use Rattle.cu_syntax.specs.declared.subtree.Subtree.{Subtree}
use Rattle.cu_syntax.specs.SubtreeMeaning.{tree_of}
use Rattle.cu_syntax.specs.Subtrees.{Takes, has_token, is_single, part_of, trees_from}
use Rattle.cu_syntax.specs.Syntax as syntax
use Rattle.cu_syntax.specs.Types.{function_type, is_bare_type, parameter_place, type_at, type_meaning, type_tree, types_meaning}
use Rattle.cu_syntax.proofs.ShapeLemmas.{Each, among_all, among_rest, each_at, first_place, fits_as, never, sequence_parts, taken, takes_as}

-- a type as the alternative of another one
as_a_type : (tree : Tree) → type_as symbol.AType tree ≡ type_at symbol.AType tree
as_a_type (Leaf x) = refl
as_a_type (Parts trees) = refl
as_a_type (Chosen n tree) = refl

abbrev IsAlternative : Symbol → Type 0
IsAlternative s = ((tree : Tree) → type_as s tree ≡ type_at s tree) × (is_type s ≡ true)

b_types : Each IsAlternative (symbol.TypeApplication ∷ symbol.AType ∷ [])
b_types = ((λ tree. refl, refl), ((as_a_type, refl), tt))

a_types : Each IsAlternative (symbol.QConId ∷ symbol.VarId ∷ symbol.Unit ∷ symbol.TupleType ∷ symbol.ListType ∷ [])
a_types = ((λ tree. refl, refl), ((λ tree. refl, refl), ((λ tree. refl, refl), ((λ tree. refl, refl), ((λ tree. refl, refl), tt)))))

-- What a choice took is the same type.
pub record SameType (s : Symbol) (tree : Tree) (chosen : Symbol) (inner : Tree) : Type 0 where
  pub is_type : is_type chosen ≡ true
  pub same : type_at chosen inner ≡ type_at s tree

pub b_type_taken : (s : Symbol) (tree : Tree) (chosen : Symbol) (inner : Tree) → s ≡ symbol.BType → fits s tree ≡ true → Takes s tree chosen inner → SameType s tree chosen inner
b_type_taken s tree chosen inner e h t =
    let m = taken symbol.BType (symbol.TypeApplication ∷ symbol.AType ∷ []) tree chosen inner refl (fits_as s symbol.BType tree e h) (takes_as s symbol.BType tree chosen inner e t) in
    let at = each_at IsAlternative (symbol.TypeApplication ∷ symbol.AType ∷ []) m.number chosen b_types m.found in
    record { is_type = at.1; same = sym (at.0 inner) ∙ ap (λ a. type_as a inner) (sym m.symbol) ∙ sym (ap (type_at symbol.BType) m.is) ∙ sym (ap (λ a. type_at a tree) e) }

pub a_type_taken : (s : Symbol) (tree : Tree) (chosen : Symbol) (inner : Tree) → s ≡ symbol.AType → fits s tree ≡ true → Takes s tree chosen inner → SameType s tree chosen inner
a_type_taken s tree chosen inner e h t =
    let m = taken symbol.AType (symbol.QConId ∷ symbol.VarId ∷ symbol.Unit ∷ symbol.TupleType ∷ symbol.ListType ∷ []) tree chosen inner refl
    (fits_as s symbol.AType tree e h) (takes_as s symbol.AType tree chosen inner e t) in
    let at = each_at IsAlternative (symbol.QConId ∷ symbol.VarId ∷ symbol.Unit ∷ symbol.TupleType ∷ symbol.ListType ∷ []) m.number chosen a_types m.found in
    record { is_type = at.1; same = sym (at.0 inner) ∙ ap (λ a. type_as a inner) (sym m.symbol) ∙ sym (ap (type_at symbol.AType) m.is) ∙ sym (ap (λ a. type_at a tree) e) }

-- a type alone is not a function type
pub one_type : (names : List (List ℕ)) (s : Symbol) (tree : Tree) (found : Option Subtree) → s ≡ symbol.TypeExp → IfSome found (λ part. part.symbol ≡ symbol.BType)
    → IfSome found (λ part. tree ≡ Parts (only (tree_of names part))) → IfSome found (λ part. type_at part.symbol (tree_of names part) ≡ type_at s tree)
one_type names s tree None e h t = tt
one_type names s tree (Some part) e h t = ap (λ a. type_at a (tree_of names part)) h ∙ sym (ap type_of t) ∙ sym (ap (λ a. type_at a tree) e)

-- a tuple of types, by its parts
tuple_is : (tree : Tree) → fits symbol.TupleType tree ≡ true
    → tree ≡ Parts (MoreTrees (part_of tree 0) (MoreTrees (part_of tree 1) (MoreTrees (part_of tree 2) (MoreTrees (part_of tree 3) NoTree))))
tuple_is tree h = sequence_parts symbol.TupleType (symbol.OpenParen ∷ symbol.NoSixteenTypes ∷ symbol.TypeList ∷ symbol.CloseParen ∷ []) tree refl h

pub tuple_with : (tree : Tree) (components : Trees) → fits symbol.TupleType tree ≡ true → part_of tree 2 ≡ Parts components
    → type_as symbol.TupleType tree ≡ type_tuple (place (part_of tree 0)) (types_of components)
tuple_with tree components h e =
    ap (type_as symbol.TupleType) (tuple_is tree h)
    ∙ ap (λ t. type_as symbol.TupleType (Parts (MoreTrees (part_of tree 0) (MoreTrees (part_of tree 1) (MoreTrees t (MoreTrees (part_of tree 3) NoTree)))))) e

-- a type in parentheses is itself
pub in_parentheses : (names : List (List ℕ)) (s : Symbol) (tree part : Tree) (found : Option Subtree) → s ≡ symbol.TupleType → fits s tree ≡ true → part ≡ part_of tree 2
    → IfSome found (λ part. part.symbol ≡ symbol.TypeExp) → IfSome found (λ inner. part ≡ Parts (only (tree_of names inner)))
    → IfSome found (λ inner. type_at inner.symbol (tree_of names inner) ≡ type_at s tree)
in_parentheses names s tree part None e h p k t = tt
in_parentheses names s tree part (Some inner) e h p k t =
    ap (λ a. type_at a (tree_of names inner)) k ∙ sym (tuple_with tree (only (tree_of names inner)) (fits_as s symbol.TupleType tree e h) (sym p ∙ t)) ∙ sym (ap (λ a. type_at a tree) e)

-- what is more than another type
pub bare_function : (s : Symbol) (tree : Tree) (found : Option Subtree) → s ≡ symbol.TypeExp → IfNone found (is_single tree ≡ false) → IfNone found (is_bare_type s tree ≡ true)
bare_function s tree None e h = ap (λ a. is_bare_type a tree) e ∙ ap not h
bare_function s tree (Some part) e h = tt

pub bare_tuple : (s : Symbol) (tree part : Tree) (found : Option Subtree) → s ≡ symbol.TupleType → part ≡ part_of tree 2 → IfNone found (is_single part ≡ false)
    → IfNone found (is_bare_type s tree ≡ true)
bare_tuple s tree part None e p h = ap (λ a. is_bare_type a tree) e ∙ ap not (ap is_single (sym p) ∙ h)
bare_tuple s tree part (Some inner) e p h = tt

pub other_type : (s : Symbol) → ¬ (s ≡ symbol.BType) → ¬ (s ≡ symbol.AType) → is_type s ≡ true → is_type_node s ≡ true
other_type s b a h =
    sym (ap (λ t. t || is_type_node s) (among_rest s symbol.BType (symbol.AType ∷ []) b ∙ among_rest s symbol.AType [] a)) ∙ h

pub other_bare : (s : Symbol) (tree : Tree) → ¬ (s ≡ symbol.TypeExp) → ¬ (s ≡ symbol.TupleType) → is_bare_type s tree ≡ true
other_bare symbol.TypeExp tree e t = absurd (e refl)
other_bare symbol.TupleType tree e t = absurd (t refl)
other_bare _ tree e t = refl

abbrev pub nodes : List Symbol
nodes = symbol.TypeExp ∷ symbol.TypeApplication ∷ symbol.QConId ∷ symbol.VarId ∷ symbol.Unit ∷ symbol.TupleType ∷ symbol.ListType ∷ []

pub type_node_has_token : (s : Symbol) → is_type_node s ≡ true → has_token s ≡ true
type_node_has_token s h = among_all has_token nodes s refl h

-- forms

-- the part of a tree that a type is
abbrev pub subtree : TypeTerm → Subtree
subtree t = t.tree

pub term_is : (names : List (List ℕ)) (t : TypeTerm) (part : Subtree) (s : Symbol) (tree : Tree) → t.tree ≡ part → part.symbol ≡ s → tree_of names part ≡ tree
    → type_meaning names t ≡ type_at s tree
term_is names t part s tree e h p = ap (λ (x : Subtree). type_at x.symbol (tree_of names x)) e ∙ ap₂ type_at h p

list_type : (tree : Tree) → fits symbol.ListType tree ≡ true → type_as symbol.ListType tree ≡ syntax.TypeList (place tree) (type_of (part_of tree 1))
list_type tree h =
    ap (type_as symbol.ListType) (sequence_parts symbol.ListType (symbol.OpenSquare ∷ symbol.TypeExp ∷ symbol.CloseSquare ∷ []) tree refl h)
    ∙ ap (λ p. syntax.TypeList p (type_of (part_of tree 1))) (sym (first_place symbol.ListType symbol.OpenSquare (symbol.TypeExp ∷ symbol.CloseSquare ∷ []) tree refl refl h))

pub list_with : (names : List (List ℕ)) (s : Symbol) (tree : Tree) (at : Position) (part : Subtree) (t : TypeTerm) → s ≡ symbol.ListType → fits s tree ≡ true → at ≡ place tree
    → t.tree ≡ part → part.symbol ≡ symbol.TypeExp → tree_of names part ≡ part_of tree 1 → syntax.TypeList at (type_meaning names t) ≡ type_as symbol.ListType tree
list_with names s tree at part t l h a e k p =
    ap₂ syntax.TypeList a (term_is names t part symbol.TypeExp (part_of tree 1) e k p) ∙ sym (list_type tree (fits_as s symbol.ListType tree l h))

type_application : (tree : Tree) (arguments : Trees) → fits symbol.TypeApplication tree ≡ true → part_of tree 1 ≡ Parts arguments
    → type_as symbol.TypeApplication tree ≡ syntax.TypeNamed (name_of (part_of tree 0)) (argument_types arguments)
type_application tree arguments h e =
    ap (type_as symbol.TypeApplication) (sequence_parts symbol.TypeApplication (symbol.QConId ∷ symbol.TypeArguments ∷ []) tree refl h)
    ∙ ap (λ t. type_as symbol.TypeApplication (Parts (MoreTrees (part_of tree 0) (MoreTrees t NoTree)))) e

-- lists of types

abbrev pub HasSymbol : Symbol → TypeTerm → Type 0
HasSymbol s t = t.tree.symbol ≡ s

meaning_at : (names : List (List ℕ)) (t : TypeTerm) (s : Symbol) → t.tree.symbol ≡ s → type_meaning names t ≡ type_at s (type_tree names t)
meaning_at names t s e = ap (λ a. type_at a (type_tree names t)) e

arrows_are : (names : List (List ℕ)) (types : List TypeTerm) (result : TypeTerm) → All (HasSymbol symbol.BType) (types ++ result ∷ [])
    → function_type names types (type_meaning names result) ≡ arrows (trees_from (map (type_tree names) (types ++ result ∷ [])))
arrows_are names [] result h = meaning_at names result symbol.BType (All-head (HasSymbol symbol.BType) result [] h)
arrows_are names (t ∷ []) result h =
    ap₂ (λ x y. syntax.Arrow (place (type_tree names t)) x y) (meaning_at names t symbol.BType (All-head (HasSymbol symbol.BType) t (result ∷ []) h))
    (arrows_are names [] result (All-tail (HasSymbol symbol.BType) t (result ∷ []) h))
arrows_are names (t ∷ u ∷ types) result h =
    ap₂ (λ x y. syntax.Arrow (place (type_tree names t)) x y) (meaning_at names t symbol.BType (All-head (HasSymbol symbol.BType) t (u ∷ types ++ result ∷ []) h))
    (arrows_are names (u ∷ types) result (All-tail (HasSymbol symbol.BType) t (u ∷ types ++ result ∷ []) h))

pub function_is : (names : List (List ℕ)) (tree : Tree) (all types further : List TypeTerm) (first result : TypeTerm) → tree ≡ Parts (trees_from (map (type_tree names) all))
    → All (HasSymbol symbol.BType) all → all ≡ types ++ result ∷ [] → types ≡ first ∷ further
    → syntax.Arrow (parameter_place names first) (type_meaning names first) (function_type names further (type_meaning names result)) ≡ type_of tree
function_is names tree all types further first result t h e f =
    sym (ap (λ ts. function_type names ts (type_meaning names result)) f) ∙ arrows_are names types result (subst (All (HasSymbol symbol.BType)) e h)
    ∙ ap (λ ts. arrows (trees_from (map (type_tree names) ts))) (sym e) ∙ sym (ap type_of t)

pub no_types : (names : List (List ℕ)) (s : Symbol) (tree : Tree) (types : List TypeTerm) → s ≡ symbol.TypeExp → fits s tree ≡ true
    → tree ≡ Parts (trees_from (map (type_tree names) types)) → types ≡ [] → ⊥
no_types names s tree types e h t none =
    true≢false (sym (fits_as s symbol.TypeExp tree e h) ∙ ap (fits symbol.TypeExp) (t ∙ ap (λ ts. Parts (trees_from (map (type_tree names) ts))) none))

-- a type alone
pub one_alone : (names : List (List ℕ)) (s : Symbol) (tree : Tree) (all types : List TypeTerm) (result : TypeTerm) → s ≡ symbol.TypeExp → is_bare_type s tree ≡ true
    → tree ≡ Parts (trees_from (map (type_tree names) all)) → all ≡ types ++ result ∷ [] → types ≡ [] → ⊥
one_alone names s tree all types result e b t a none =
    let one : tree ≡ Parts (only (type_tree names result)) = t ∙ ap (λ ts. Parts (trees_from (map (type_tree names) ts))) (a ∙ ap (λ ts. ts ++ result ∷ []) none) in
    true≢false (sym (ap is_single one) ∙ not-true (is_single tree) (sym (ap (λ a. is_bare_type a tree) e) ∙ b))

pub arguments_are : (names : List (List ℕ)) (types : List TypeTerm) → All (HasSymbol symbol.AType) types
    → types_meaning names types ≡ argument_types (trees_from (map (type_tree names) types))
arguments_are names [] h = refl
arguments_are names (t ∷ types) h =
    ap₂ syntax.MoreTypes (meaning_at names t symbol.AType (All-head (HasSymbol symbol.AType) t types h)) (arguments_are names types (All-tail (HasSymbol symbol.AType) t types h))

pub application_is : (names : List (List ℕ)) (s : Symbol) (tree first part : Tree) (name : syntax.Name) (arguments : List TypeTerm) → s ≡ symbol.TypeApplication → fits s tree ≡ true
    → first ≡ part_of tree 0 → name ≡ name_of first → part ≡ part_of tree 1 → part ≡ Parts (trees_from (map (type_tree names) arguments)) → All (HasSymbol symbol.AType) arguments
    → syntax.TypeNamed name (types_meaning names arguments) ≡ type_as symbol.TypeApplication tree
application_is names s tree first part name arguments e h f n p t k =
    ap₂ syntax.TypeNamed (n ∙ ap name_of f) (arguments_are names arguments k)
    ∙ sym (type_application tree (trees_from (map (type_tree names) arguments)) (fits_as s symbol.TypeApplication tree e h) (sym p ∙ t))

components_are : (names : List (List ℕ)) (types : List TypeTerm) → All (HasSymbol symbol.TypeExp) types
    → types_meaning names types ≡ types_of (trees_from (map (type_tree names) types))
components_are names [] h = refl
components_are names (t ∷ types) h =
    ap₂ syntax.MoreTypes (meaning_at names t symbol.TypeExp (All-head (HasSymbol symbol.TypeExp) t types h)) (components_are names types (All-tail (HasSymbol symbol.TypeExp) t types h))

several : (at : Position) (trees : Trees) → is_single (Parts trees) ≡ false → type_tuple at (types_of trees) ≡ syntax.TypeTuple at (types_of trees)
several at NoTree h = refl
several at (MoreTrees tree NoTree) h = never (sym h)
several at (MoreTrees tree (MoreTrees other trees)) h = refl

pub tuple_of_types : (names : List (List ℕ)) (s : Symbol) (tree part : Tree) (at : Position) (components : List TypeTerm) → s ≡ symbol.TupleType → fits s tree ≡ true
    → is_bare_type s tree ≡ true → at ≡ place tree → part ≡ part_of tree 2 → part ≡ Parts (trees_from (map (type_tree names) components)) → All (HasSymbol symbol.TypeExp) components
    → syntax.TypeTuple at (types_meaning names components) ≡ type_as symbol.TupleType tree
tuple_of_types names s tree part at components e h' b' a p t k =
    let h = fits_as s symbol.TupleType tree e h' in
    let b = sym (ap (λ a. is_bare_type a tree) e) ∙ b' in
    let trees = trees_from (map (type_tree names) components) in
    let two : part_of tree 2 ≡ Parts trees = sym p ∙ t in
    let first = first_place symbol.TupleType symbol.OpenParen (symbol.NoSixteenTypes ∷ symbol.TypeList ∷ symbol.CloseParen ∷ []) tree refl refl h in
    ap₂ syntax.TypeTuple (a ∙ first) (components_are names components k)
    ∙ sym (several (place (part_of tree 0)) trees (sym (ap is_single two) ∙ not-true (is_single (part_of tree 2)) b))
    ∙ sym (tuple_with tree trees h two)
