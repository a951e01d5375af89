-- What trees of patterns say, by their parts.
use Rattle.std.specs.Prelude.{◌≡◌, ℕ, true, false, ◌||◌, not, List, [], ◌∷◌, IfNone, IfSome, Option, None, Some, ℤ, map, refl}
use Rattle.std.specs.List.{All}
use Rattle.std.proofs.Common.{ap, ap₂, sym, true≢false, ◌∙◌}
use Rattle.std.proofs.lemmas.Bool.{not-true}
use Rattle.std.proofs.lemmas.List.Elements.{All-head, All-tail}
use Rattle.std.proofs.Math.IntN.{neg_ℤ}
use Rattle.cu_lex.specs.Located.{Position}
use Rattle.cu_peg.specs.Parse.{Leaf, Parts, Chosen, NoTree, MoreTrees, only}
use Rattle.cu_syntax.specs.declared.patterns.ConstructorItem.{ConstructorItem}
use Rattle.cu_syntax.specs.declared.patterns.Pattern.{Pattern}
use Rattle.cu_syntax.specs.declared.subtree.Subtree.{Subtree}
use Rattle.cu_syntax.specs.declared.symbol.Symbol.{Symbol}
use Rattle.cu_syntax.specs.declared.symbol.Symbol.TheVariants as symbol
use Rattle.cu_syntax.specs.Inside.Fits.{fits, have_parts}
use Rattle.cu_syntax.specs.Forms.{is_pattern, is_pattern_node}
use Rattle.cu_syntax.specs.Patterns.{is_bare_pattern, pattern_at, pattern_meaning, pattern_tree, patterns_meaning, rest_meaning, rest_of, with_item}
use Rattle.cu_syntax.specs.Reading.{Tree, Trees, argument_patterns, literal_of, name_of, negated, optional_patterns, pattern_as, pattern_choice, pattern_of, pattern_rest, pattern_tuple, patterns_of, place, with_operators}
use Rattle.cu_syntax.specs.SubtreeMeaning.{tree_of}
use Rattle.cu_syntax.specs.Subtrees.{Takes, has_token, is_empty, is_single, part_of, trees_from}
use Rattle.cu_syntax.specs.Syntax as syntax
use Rattle.cu_syntax.specs.Table.{Many}
use Rattle.cu_syntax.proofs.ShapeLemmas.{Each, among_all, among_rest, each_at, empty_tree, first_place, fits_as, never, parted, sequence_parts, taken, takes_as, trees_in}
use Rattle.cu_syntax.proofs.ViewLemmas.{folded}
use Rattle.std.proofs.lemmas.Bool.{and_parts}

-- a pattern as the alternative of another one
as_a_pattern : (tree : Tree) → pattern_as symbol.APat tree ≡ pattern_at symbol.APat tree
as_a_pattern (Leaf x) = refl
as_a_pattern (Parts trees) = refl
as_a_pattern (Chosen n tree) = refl

abbrev IsAlternative : Symbol → Type 0
IsAlternative s = ((tree : Tree) → pattern_as s tree ≡ pattern_at s tree) × (is_pattern s ≡ true)

abbrev con_alternatives : List Symbol
con_alternatives = symbol.NegativePat ∷ symbol.ConApplication ∷ symbol.APat ∷ []

con_patterns : Each IsAlternative con_alternatives
con_patterns = ((λ tree. refl, refl), ((λ tree. refl, refl), ((as_a_pattern, refl), tt)))

abbrev a_alternatives : List Symbol
a_alternatives = symbol.AliasPat ∷ symbol.VarId ∷ symbol.Underscore ∷ symbol.Literal ∷ symbol.QCon ∷ symbol.Unit ∷ symbol.TuplePat ∷ symbol.ListPat ∷ []

a_patterns : Each IsAlternative a_alternatives
a_patterns = (
  (λ tree. refl, refl),
  (
    (λ tree. refl, refl),
    (
      (λ tree. refl, refl),
      (
        (λ tree. refl, refl),
        (
          (λ tree. refl, refl),
          (
            (λ tree. refl, refl),
            (
              (λ tree. refl, refl),
              ((λ tree. refl, refl), tt),
            ),
          ),
        ),
      ),
    ),
  ),
)

-- What a choice took is the same pattern.
pub record SamePattern (s : Symbol) (tree : Tree) (chosen : Symbol) (inner : Tree) : Type 0 where
  pub is_pattern : is_pattern chosen ≡ true
  pub same : pattern_at chosen inner ≡ pattern_at s tree

pub con_pattern_taken : (s : Symbol) (tree : Tree) (chosen : Symbol) (inner : Tree) → s ≡ symbol.ConPat → fits s tree ≡ true → Takes s tree chosen inner
    → SamePattern s tree chosen inner
con_pattern_taken s tree chosen inner e h t =
    let m = taken symbol.ConPat con_alternatives tree chosen inner refl (fits_as s symbol.ConPat tree e h) (takes_as s symbol.ConPat tree chosen inner e t) in
    let at = each_at IsAlternative con_alternatives m.number chosen con_patterns m.found in
    record {
      is_pattern = at.1;
      same = sym (at.0 inner) ∙ ap (λ a. pattern_as a inner) (sym m.symbol) ∙ sym (ap (pattern_at symbol.ConPat) m.is) ∙ sym (ap (λ a. pattern_at a tree) e);
    }

pub a_pattern_taken : (s : Symbol) (tree : Tree) (chosen : Symbol) (inner : Tree) → s ≡ symbol.APat → fits s tree ≡ true → Takes s tree chosen inner
    → SamePattern s tree chosen inner
a_pattern_taken s tree chosen inner e h t =
    let m = taken symbol.APat a_alternatives tree chosen inner refl (fits_as s symbol.APat tree e h) (takes_as s symbol.APat tree chosen inner e t) in
    let at = each_at IsAlternative a_alternatives m.number chosen a_patterns m.found in
    record {
      is_pattern = at.1;
      same = sym (at.0 inner) ∙ ap (λ a. pattern_as a inner) (sym m.symbol) ∙ sym (ap (pattern_at symbol.APat) m.is) ∙ sym (ap (λ a. pattern_at a tree) e);
    }

-- patterns with operators between them

pub pat_with : (tree : Tree) (further : Trees) → fits symbol.Pat tree ≡ true → part_of tree 1 ≡ Parts further
    → pattern_of tree ≡ with_operators (place (part_of tree 0)) (pattern_choice symbol.ConPat (part_of tree 0)) (pattern_rest further)
pat_with tree further h e =
    ap pattern_of (sequence_parts symbol.Pat (symbol.ConPat ∷ symbol.FurtherConPats ∷ []) tree refl h)
    ∙ ap (λ t. pattern_of (Parts (MoreTrees (part_of tree 0) (MoreTrees t NoTree)))) e

-- one pattern without operators
pub lone_pattern : (s : Symbol) (tree first further : Tree) (t : Symbol) → s ≡ symbol.Pat → fits s tree ≡ true → first ≡ part_of tree 0 → further ≡ part_of tree 1
    → is_empty further ≡ true → t ≡ symbol.ConPat → pattern_at t first ≡ pattern_at s tree
lone_pattern s tree first further t e h f r none k =
    ap₂ pattern_at k f ∙ sym (pat_with tree NoTree (fits_as s symbol.Pat tree e h) (sym r ∙ empty_tree further none)) ∙ sym (ap (λ a. pattern_at a tree) e)

pub bare_operators : (s : Symbol) (tree further : Tree) → s ≡ symbol.Pat → further ≡ part_of tree 1 → is_empty further ≡ false → is_bare_pattern s tree ≡ true
bare_operators s tree further e r some = ap (λ a. is_bare_pattern a tree) e ∙ ap not (ap is_empty (sym r) ∙ some)

one_item : (tree : Tree) (rest : Trees) → fits symbol.FurtherConPat tree ≡ true
    → pattern_rest (MoreTrees tree rest) ≡ syntax.ThenConstructor (name_of (part_of tree 0)) (pattern_choice symbol.ConPat (part_of tree 1)) (pattern_rest rest)
one_item tree rest h =
    ap (λ t. pattern_rest (MoreTrees t rest)) (sequence_parts symbol.FurtherConPat (symbol.ConOp ∷ symbol.ConPat ∷ []) tree refl h)

pub some_item : (trees : Trees) → have_parts (Many symbol.FurtherConPat) trees ≡ true → is_empty (Parts trees) ≡ false → pattern_rest trees ≡ syntax.NoConstructor → ⊥
some_item NoTree h some e = true≢false some
some_item (MoreTrees tree trees) h some e =
    let both = and_parts (fits symbol.FurtherConPat tree) (have_parts (Many symbol.FurtherConPat) trees) h in
    let no : syntax.NoConstructor ≡ syntax.ThenConstructor (name_of (part_of tree 0)) (pattern_choice symbol.ConPat (part_of tree 1)) (pattern_rest trees) =
    sym e ∙ one_item tree trees both.0 in
    cc

pub with_some : (at : Position) (p : syntax.Pattern) (rest : syntax.PatternRest) → (rest ≡ syntax.NoConstructor → ⊥) → with_operators at p rest ≡ syntax.PatternOperators at p rest
with_some at p syntax.NoConstructor some = absurd (some refl)
with_some at p (syntax.ThenConstructor operator operand rest) some = refl

pub operators_are : (names : List (List ℕ)) (s : Symbol) (tree : Tree) (first : Subtree) (further : Tree) (t : Symbol) (at : Position) (p : Pattern) (items : List ConstructorItem)
    → s ≡ symbol.Pat → fits s tree ≡ true → is_bare_pattern s tree ≡ true → first.symbol ≡ symbol.ConPat → tree_of names first ≡ part_of tree 0 → p.tree ≡ first
    → at ≡ place (tree_of names first) → t ≡ symbol.FurtherConPats → fits t further ≡ true → further ≡ part_of tree 1 → rest_of further ≡ rest_meaning names items
    → syntax.PatternOperators at (pattern_meaning names p) (rest_meaning names items) ≡ pattern_of tree
operators_are names s tree first further t at p items e h b k f q a l g r m =
    let trees = trees_in further in
    let g' = fits_as t symbol.FurtherConPats further l g in
    let is : further ≡ Parts trees = parted symbol.FurtherConPats further refl g' in
    let none : is_empty (Parts trees) ≡ false = ap is_empty (sym is ∙ r) ∙ not-true (is_empty (part_of tree 1)) (sym (ap (λ a. is_bare_pattern a tree) e) ∙ b) in
    let have : have_parts (Many symbol.FurtherConPat) trees ≡ true = sym (ap (fits symbol.FurtherConPats) is) ∙ g' in
    let rest : pattern_rest trees ≡ rest_meaning names items = sym (ap rest_of is) ∙ m in
    let meant : pattern_meaning names p ≡ pattern_choice symbol.ConPat (part_of tree 0) =
    ap (λ (x : Subtree). pattern_at x.symbol (tree_of names x)) q ∙ ap₂ pattern_at k f in
    ap₂ (λ x y. syntax.PatternOperators x (pattern_meaning names p) y) (a ∙ ap place f) (sym rest)
    ∙ ap (λ x. syntax.PatternOperators (place (part_of tree 0)) x (pattern_rest trees)) meant
    ∙ sym (with_some (place (part_of tree 0)) (pattern_choice symbol.ConPat (part_of tree 0)) (pattern_rest trees) (some_item trees have none))
    ∙ sym (pat_with tree trees (fits_as s symbol.Pat tree e h) (sym r ∙ is))

pub item_is : (names : List (List ℕ)) (s : Symbol) (tree first : Tree) (second : Subtree) (name : syntax.Name) (p : Pattern) (rest : Trees) → s ≡ symbol.FurtherConPat
    → fits s tree ≡ true → first ≡ part_of tree 0 → name ≡ name_of first → second.symbol ≡ symbol.ConPat → tree_of names second ≡ part_of tree 1 → p.tree ≡ second
    → pattern_rest (MoreTrees tree rest) ≡ syntax.ThenConstructor name (pattern_meaning names p) (pattern_rest rest)
item_is names s tree first second name p rest e h f n k t q =
    let meant : pattern_meaning names p ≡ pattern_choice symbol.ConPat (part_of tree 1) =
    ap (λ (x : Subtree). pattern_at x.symbol (tree_of names x)) q ∙ ap₂ pattern_at k t in
    one_item tree rest (fits_as s symbol.FurtherConPat tree e h)
    ∙ ap₂ (λ x y. syntax.ThenConstructor x y (pattern_rest rest)) (sym (n ∙ ap name_of f)) (sym meant)

pub rest_folded : (names : List (List ℕ)) (items : List ConstructorItem) → folded (with_item names) items syntax.NoConstructor ≡ rest_meaning names items
rest_folded names [] = refl
rest_folded names (item ∷ items) = ap (with_item names item) (rest_folded names items)

-- a tuple of patterns, by its parts

pub tuple_with : (tree : Tree) (components : Trees) → fits symbol.TuplePat tree ≡ true → part_of tree 2 ≡ Parts components
    → pattern_as symbol.TuplePat tree ≡ pattern_tuple (place (part_of tree 0)) (patterns_of components)
tuple_with tree components h e =
    ap (pattern_as symbol.TuplePat) (sequence_parts symbol.TuplePat (symbol.OpenParen ∷ symbol.NoSixteenPats ∷ symbol.PatList ∷ symbol.CloseParen ∷ []) tree refl h)
    ∙ ap (λ t. pattern_as symbol.TuplePat (Parts (MoreTrees (part_of tree 0) (MoreTrees (part_of tree 1) (MoreTrees t (MoreTrees (part_of tree 3) NoTree)))))) e

-- a pattern in parentheses is itself
pub in_parentheses : (names : List (List ℕ)) (s : Symbol) (tree part : Tree) (found : Option Subtree) → s ≡ symbol.TuplePat → fits s tree ≡ true → part ≡ part_of tree 2
    → IfSome found (λ part. part.symbol ≡ symbol.Pat) → IfSome found (λ inner. part ≡ Parts (only (tree_of names inner)))
    → IfSome found (λ inner. pattern_at inner.symbol (tree_of names inner) ≡ pattern_at s tree)
in_parentheses names s tree part None e h p k t = tt
in_parentheses names s tree part (Some inner) e h p k t =
    ap (λ a. pattern_at a (tree_of names inner)) k ∙ sym (tuple_with tree (only (tree_of names inner)) (fits_as s symbol.TuplePat tree e h) (sym p ∙ t)) ∙ sym (ap (λ a. pattern_at a tree) e)

pub bare_tuple : (s : Symbol) (tree part : Tree) (found : Option Subtree) → s ≡ symbol.TuplePat → part ≡ part_of tree 2 → IfNone found (is_single part ≡ false)
    → IfNone found (is_bare_pattern s tree ≡ true)
bare_tuple s tree part None e p h = ap (λ a. is_bare_pattern a tree) e ∙ ap not (ap is_single (sym p) ∙ h)
bare_tuple s tree part (Some inner) e p h = tt

pub other_pattern : (s : Symbol) → ¬ (s ≡ symbol.ConPat) → ¬ (s ≡ symbol.APat) → is_pattern s ≡ true → is_pattern_node s ≡ true
other_pattern s b a h =
    sym (ap (λ t. t || is_pattern_node s) (among_rest s symbol.ConPat (symbol.APat ∷ []) b ∙ among_rest s symbol.APat [] a)) ∙ h

pub other_bare : (s : Symbol) (tree : Tree) → ¬ (s ≡ symbol.Pat) → ¬ (s ≡ symbol.TuplePat) → is_bare_pattern s tree ≡ true
other_bare symbol.Pat tree e t = absurd (e refl)
other_bare symbol.TuplePat tree e t = absurd (t refl)
other_bare _ tree e t = refl

abbrev pub nodes : List Symbol
nodes =
    symbol.Pat ∷ symbol.NegativePat ∷ symbol.ConApplication ∷ symbol.AliasPat ∷ symbol.VarId ∷ symbol.Underscore ∷ symbol.Literal ∷ symbol.QCon ∷ symbol.Unit ∷
    symbol.TuplePat ∷ symbol.ListPat ∷ []

pub pattern_node_has_token : (s : Symbol) → is_pattern_node s ≡ true → has_token s ≡ true
pattern_node_has_token s h = among_all has_token nodes s refl h

-- lists of patterns

-- the part of a tree that a pattern is
abbrev pub subtree : Pattern → Subtree
subtree p = p.tree

abbrev pub HasSymbol : Symbol → Pattern → Type 0
HasSymbol s p = p.tree.symbol ≡ s

meaning_at : (names : List (List ℕ)) (p : Pattern) (s : Symbol) → p.tree.symbol ≡ s → pattern_meaning names p ≡ pattern_at s (pattern_tree names p)
meaning_at names p s e = ap (λ a. pattern_at a (pattern_tree names p)) e

pub pattern_is : (names : List (List ℕ)) (p : Pattern) (part : Subtree) (s : Symbol) (tree : Tree) → p.tree ≡ part → part.symbol ≡ s → tree_of names part ≡ tree
    → pattern_meaning names p ≡ pattern_at s tree
pattern_is names p part s tree e h t = ap (λ (x : Subtree). pattern_at x.symbol (tree_of names x)) e ∙ ap₂ pattern_at h t

pub arguments_are : (names : List (List ℕ)) (patterns : List Pattern) → All (HasSymbol symbol.APat) patterns
    → patterns_meaning names patterns ≡ argument_patterns (trees_from (map (pattern_tree names) patterns))
arguments_are names [] h = refl
arguments_are names (p ∷ patterns) h =
    ap₂ syntax.MorePatterns (meaning_at names p symbol.APat (All-head (HasSymbol symbol.APat) p patterns h)) (arguments_are names patterns (All-tail (HasSymbol symbol.APat) p patterns h))

components_are : (names : List (List ℕ)) (patterns : List Pattern) → All (HasSymbol symbol.Pat) patterns
    → patterns_meaning names patterns ≡ patterns_of (trees_from (map (pattern_tree names) patterns))
components_are names [] h = refl
components_are names (p ∷ patterns) h =
    ap₂ syntax.MorePatterns (meaning_at names p symbol.Pat (All-head (HasSymbol symbol.Pat) p patterns h)) (components_are names patterns (All-tail (HasSymbol symbol.Pat) p patterns h))

-- forms

pub negative_is : (s : Symbol) (tree number : Tree) (at : Position) (n : ℤ) → s ≡ symbol.NegativePat → fits s tree ≡ true → at ≡ place tree → number ≡ part_of tree 1
    → literal_of number ≡ syntax.Int n → syntax.PatternLiteral at (syntax.Int (neg_ℤ n)) ≡ pattern_as symbol.NegativePat tree
negative_is s tree number at n e h' a p l =
    let h = fits_as s symbol.NegativePat tree e h' in
    ap₂ (λ x y. syntax.PatternLiteral x (negated y)) (a ∙ first_place symbol.NegativePat symbol.Minus (symbol.Int ∷ []) tree refl refl h) (sym l ∙ ap literal_of p)
    ∙ sym (ap (pattern_as symbol.NegativePat) (sequence_parts symbol.NegativePat (symbol.Minus ∷ symbol.Int ∷ []) tree refl h))

pub application_is : (names : List (List ℕ)) (s : Symbol) (tree first part : Tree) (at : Position) (name : syntax.Name) (arguments : List Pattern) → s ≡ symbol.ConApplication
    → fits s tree ≡ true → at ≡ place tree → first ≡ part_of tree 0 → name ≡ name_of first → part ≡ part_of tree 1
    → part ≡ Parts (trees_from (map (pattern_tree names) arguments)) → All (HasSymbol symbol.APat) arguments
    → syntax.Constructed at name (patterns_meaning names arguments) ≡ pattern_as symbol.ConApplication tree
application_is names s tree first part at name arguments e h' a f n p t k =
    let h = fits_as s symbol.ConApplication tree e h' in
    let trees = trees_from (map (pattern_tree names) arguments) in
    ap₂ (λ x y. syntax.Constructed x y (patterns_meaning names arguments))
    (a ∙ first_place symbol.ConApplication symbol.QCon (symbol.PatArguments ∷ []) tree refl refl h) (n ∙ ap name_of f)
    ∙ ap (syntax.Constructed (place (part_of tree 0)) (name_of (part_of tree 0))) (arguments_are names arguments k)
    ∙ sym (ap (λ t. pattern_as symbol.ConApplication (Parts (MoreTrees (part_of tree 0) (MoreTrees t NoTree)))) (sym p ∙ t))
    ∙ sym (ap (pattern_as symbol.ConApplication) (sequence_parts symbol.ConApplication (symbol.QCon ∷ symbol.PatArguments ∷ []) tree refl h))

pub alias_is : (names : List (List ℕ)) (s : Symbol) (tree first : Tree) (last : Subtree) (name : syntax.Name) (p : Pattern) → s ≡ symbol.AliasPat → fits s tree ≡ true
    → first ≡ part_of tree 0 → name ≡ name_of first → last.symbol ≡ symbol.APat → tree_of names last ≡ part_of tree 2 → p.tree ≡ last
    → syntax.As name (pattern_meaning names p) ≡ pattern_as symbol.AliasPat tree
alias_is names s tree first last name p e h f n k t q =
    ap₂ syntax.As (n ∙ ap name_of f) (pattern_is names p last symbol.APat (part_of tree 2) q k t)
    ∙ sym (ap (pattern_as symbol.AliasPat) (sequence_parts symbol.AliasPat (symbol.VarId ∷ symbol.At ∷ symbol.APat ∷ []) tree refl (fits_as s symbol.AliasPat tree e h)))

several : (at : Position) (trees : Trees) → is_single (Parts trees) ≡ false → pattern_tuple at (patterns_of trees) ≡ syntax.PatternTuple at (patterns_of trees)
several at NoTree h = refl
several at (MoreTrees tree NoTree) h = never (sym h)
several at (MoreTrees tree (MoreTrees other trees)) h = refl

pub tuple_of_patterns : (names : List (List ℕ)) (s : Symbol) (tree part : Tree) (at : Position) (components : List Pattern) → s ≡ symbol.TuplePat → fits s tree ≡ true
    → is_bare_pattern s tree ≡ true → at ≡ place tree → part ≡ part_of tree 2 → part ≡ Parts (trees_from (map (pattern_tree names) components)) → All (HasSymbol symbol.Pat) components
    → syntax.PatternTuple at (patterns_meaning names components) ≡ pattern_as symbol.TuplePat tree
tuple_of_patterns names s tree part at components e h' b' a p t k =
    let h = fits_as s symbol.TuplePat tree e h' in
    let b = sym (ap (λ a. is_bare_pattern a tree) e) ∙ b' in
    let trees = trees_from (map (pattern_tree names) components) in
    let two : part_of tree 2 ≡ Parts trees = sym p ∙ t in
    let first = first_place symbol.TuplePat symbol.OpenParen (symbol.NoSixteenPats ∷ symbol.PatList ∷ symbol.CloseParen ∷ []) tree refl refl h in
    ap₂ syntax.PatternTuple (a ∙ first) (components_are names components k)
    ∙ sym (several (place (part_of tree 0)) trees (sym (ap is_single two) ∙ not-true (is_single (part_of tree 2)) b))
    ∙ sym (tuple_with tree trees h two)

list_is : (tree : Tree) → fits symbol.ListPat tree ≡ true → pattern_as symbol.ListPat tree ≡ syntax.PatternList (place tree) (optional_patterns (part_of tree 1))
list_is tree h =
    ap (pattern_as symbol.ListPat) (sequence_parts symbol.ListPat (symbol.OpenSquare ∷ symbol.OptionalPatList ∷ symbol.CloseSquare ∷ []) tree refl h)
    ∙ ap (λ p. syntax.PatternList p (optional_patterns (part_of tree 1)))
    (sym (first_place symbol.ListPat symbol.OpenSquare (symbol.OptionalPatList ∷ symbol.CloseSquare ∷ []) tree refl refl h))

pub list_of_patterns : (names : List (List ℕ)) (s : Symbol) (tree part inner : Tree) (at : Position) (elements : List Pattern) → s ≡ symbol.ListPat → fits s tree ≡ true
    → at ≡ place tree → part ≡ part_of tree 1 → part ≡ Parts (only inner) → inner ≡ Parts (trees_from (map (pattern_tree names) elements)) → All (HasSymbol symbol.Pat) elements
    → syntax.PatternList at (patterns_meaning names elements) ≡ pattern_as symbol.ListPat tree
list_of_patterns names s tree part inner at elements e h a p o t k =
    ap₂ syntax.PatternList a (components_are names elements k ∙ sym (ap optional_patterns (sym p ∙ o ∙ ap (λ x. Parts (only x)) t)))
    ∙ sym (list_is tree (fits_as s symbol.ListPat tree e h))

pub list_of_none : (names : List (List ℕ)) (s : Symbol) (tree part : Tree) (at : Position) (elements : List Pattern) → s ≡ symbol.ListPat → fits s tree ≡ true → at ≡ place tree
    → part ≡ part_of tree 1 → part ≡ Parts NoTree → elements ≡ [] → syntax.PatternList at (patterns_meaning names elements) ≡ pattern_as symbol.ListPat tree
list_of_none names s tree part at elements e h a p o none =
    ap₂ syntax.PatternList a (ap (patterns_meaning names) none ∙ sym (ap optional_patterns (sym p ∙ o)))
    ∙ sym (list_is tree (fits_as s symbol.ListPat tree e h))
