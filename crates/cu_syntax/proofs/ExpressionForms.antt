-- What trees of expressions say, by their parts.
use Rattle.std.specs.Prelude.{◌≡◌, ℕ, true, false, ◌&&◌, ◌||◌, not, List, [], ◌∷◌, IfNone, IfSome, Option, None, Some, is_some, map, refl}
use Rattle.std.specs.List.{All}
use Rattle.std.specs.Option.{option_map, unwrap_or}
use Rattle.std.proofs.Common.{ap, ap₂, sym, true≢false, ◌∙◌}
use Rattle.std.proofs.lemmas.Bool.{and_left, and_parts, and_right, not-true}
use Rattle.std.proofs.lemmas.List.Elements.{All-head, All-tail}
use Rattle.cu_lex.specs.Located.{Position, first_position}
use Rattle.cu_lex.specs.Tokens.{Lexeme}
use Rattle.cu_peg.specs.Parse.{Leaf, Parts, Chosen, NoTree, MoreTrees, only}
use Rattle.cu_syntax.specs.declared.expressions.Expression.{Expression}
use Rattle.cu_syntax.specs.declared.expressions.OperatorItem.{OperatorItem}
use Rattle.cu_syntax.specs.declared.subtree.Subtree.{Subtree}
use Rattle.cu_syntax.specs.declared.symbol.Symbol.{Symbol}
use Rattle.cu_syntax.specs.declared.symbol.Symbol.TheVariants as symbol
use Rattle.cu_syntax.specs.ExpressionMeaning.{expression_at, expression_meaning, expression_tree, expressions_meaning}
use Rattle.cu_syntax.specs.Expressions.{is_bare_expression, rest_meaning, rest_of, with_item}
use Rattle.cu_syntax.specs.Inside.Fits.{fits, have_parts}
use Rattle.cu_syntax.specs.Forms.{is_expression, is_expression_node}
use Rattle.cu_syntax.specs.Reading.{Tree, Trees, atoms_of, expression_as, expression_choice, expression_of, expressions_of, first_token, minus_of, name_of, operator_rest, operators, or_else, place, tuple}
use Rattle.cu_syntax.specs.SubtreeMeaning.{tree_of}
use Rattle.cu_syntax.specs.Subtrees.{Takes, has_token, is_empty, is_single, part_of, trees_from}
use Rattle.cu_syntax.specs.Syntax as syntax
use Rattle.cu_syntax.specs.Table.{Many}
use Rattle.cu_syntax.proofs.ShapeLemmas.{Each, among_all, among_rest, each_at, empty_tree, first_place, fits_as, never, part_fits, parted, sequence_parts, taken, takes_as, trees_in}
use Rattle.cu_syntax.proofs.TokenLaw.{token_there}
use Rattle.cu_syntax.proofs.ViewLemmas.{ap₃, folded}

abbrev IsAlternative : Symbol → Type 0
IsAlternative s = ((tree : Tree) → expression_as s tree ≡ expression_at s tree) × (is_expression s ≡ true)

abbrev operand_alternatives : List Symbol
operand_alternatives = symbol.Lambda ∷ symbol.LetExp ∷ symbol.IfExp ∷ symbol.CaseExp ∷ symbol.Application ∷ []

operand_expressions : Each IsAlternative operand_alternatives
operand_expressions = ((λ tree. refl, refl), ((λ tree. refl, refl), ((λ tree. refl, refl), ((λ tree. refl, refl), ((λ tree. refl, refl), tt)))))

abbrev atom_alternatives : List Symbol
atom_alternatives =
    symbol.Literal ∷ symbol.QVar ∷ symbol.QCon ∷ symbol.Unit ∷ symbol.TupleCon ∷ symbol.RightSection ∷ symbol.LeftSection ∷ symbol.Tuple ∷ symbol.EmptyList ∷
    symbol.FromThen ∷ symbol.From ∷ symbol.Comprehension ∷ symbol.ListExp ∷ []

atom_expressions : Each IsAlternative atom_alternatives
atom_expressions = (
  (λ tree. refl, refl),
  (
    (λ tree. refl, refl),
    (
      (λ tree. refl, refl),
      (
        (λ tree. refl, refl),
        (
          (λ tree. refl, refl),
          (
            (λ tree. refl, refl),
            (
              (λ tree. refl, refl),
              ((λ tree. refl, refl), ((λ tree. refl, refl), ((λ tree. refl, refl), ((λ tree. refl, refl), ((λ tree. refl, refl), ((λ tree. refl, refl), tt)))))),
            ),
          ),
        ),
      ),
    ),
  ),
)

-- What a choice took is the same expression.
pub record SameExpression (s : Symbol) (tree : Tree) (chosen : Symbol) (inner : Tree) : Type 0 where
  pub is_expression : is_expression chosen ≡ true
  pub same : expression_at chosen inner ≡ expression_at s tree

pub operand_taken : (s : Symbol) (tree : Tree) (chosen : Symbol) (inner : Tree) → s ≡ symbol.Operand → fits s tree ≡ true → Takes s tree chosen inner
    → SameExpression s tree chosen inner
operand_taken s tree chosen inner e h t =
    let m = taken symbol.Operand operand_alternatives tree chosen inner refl (fits_as s symbol.Operand tree e h) (takes_as s symbol.Operand tree chosen inner e t) in
    let at = each_at IsAlternative operand_alternatives m.number chosen operand_expressions m.found in
    record {
      is_expression = at.1;
      same = sym (at.0 inner) ∙ ap (λ a. expression_as a inner) (sym m.symbol) ∙ sym (ap (expression_at symbol.Operand) m.is) ∙ sym (ap (λ a. expression_at a tree) e);
    }

pub atom_taken : (s : Symbol) (tree : Tree) (chosen : Symbol) (inner : Tree) → s ≡ symbol.Atom → fits s tree ≡ true → Takes s tree chosen inner
    → SameExpression s tree chosen inner
atom_taken s tree chosen inner e h t =
    let m = taken symbol.Atom atom_alternatives tree chosen inner refl (fits_as s symbol.Atom tree e h) (takes_as s symbol.Atom tree chosen inner e t) in
    let at = each_at IsAlternative atom_alternatives m.number chosen atom_expressions m.found in
    record {
      is_expression = at.1;
      same = sym (at.0 inner) ∙ ap (λ a. expression_as a inner) (sym m.symbol) ∙ sym (ap (expression_at symbol.Atom) m.is) ∙ sym (ap (λ a. expression_at a tree) e);
    }

-- a function alone
pub one_atom : (names : List (List ℕ)) (s : Symbol) (tree : Tree) (found : Option Subtree) → s ≡ symbol.Application → IfSome found (λ part. part.symbol ≡ symbol.Atom)
    → IfSome found (λ part. tree ≡ Parts (only (tree_of names part))) → IfSome found (λ part. expression_at part.symbol (tree_of names part) ≡ expression_at s tree)
one_atom names s tree None e h t = tt
one_atom names s tree (Some part) e h t =
    ap (λ a. expression_at a (tree_of names part)) h ∙ sym (ap (expression_as symbol.Application) t) ∙ sym (ap (λ a. expression_at a tree) e)

pub bare_application : (s : Symbol) (tree : Tree) (found : Option Subtree) → s ≡ symbol.Application → IfNone found (is_single tree ≡ false)
    → IfNone found (is_bare_expression s tree ≡ true)
bare_application s tree None e h = ap (λ a. is_bare_expression a tree) e ∙ ap not h
bare_application s tree (Some part) e h = tt

-- a tuple of expressions, by its parts

pub tuple_with : (tree : Tree) (components : Trees) → fits symbol.Tuple tree ≡ true → part_of tree 2 ≡ Parts components
    → expression_as symbol.Tuple tree ≡ tuple (place (part_of tree 0)) (expressions_of components)
tuple_with tree components h e =
    ap (expression_as symbol.Tuple) (sequence_parts symbol.Tuple (symbol.OpenParen ∷ symbol.NoSixteenExps ∷ symbol.ExpList ∷ symbol.CloseParen ∷ []) tree refl h)
    ∙ ap (λ t. expression_as symbol.Tuple (Parts (MoreTrees (part_of tree 0) (MoreTrees (part_of tree 1) (MoreTrees t (MoreTrees (part_of tree 3) NoTree)))))) e

-- an expression in parentheses is itself
pub in_parentheses : (names : List (List ℕ)) (s : Symbol) (tree part : Tree) (found : Option Subtree) → s ≡ symbol.Tuple → fits s tree ≡ true → part ≡ part_of tree 2
    → IfSome found (λ part. part.symbol ≡ symbol.Exp) → IfSome found (λ inner. part ≡ Parts (only (tree_of names inner)))
    → IfSome found (λ inner. expression_at inner.symbol (tree_of names inner) ≡ expression_at s tree)
in_parentheses names s tree part None e h p k t = tt
in_parentheses names s tree part (Some inner) e h p k t =
    ap (λ a. expression_at a (tree_of names inner)) k ∙ sym (tuple_with tree (only (tree_of names inner)) (fits_as s symbol.Tuple tree e h) (sym p ∙ t))
    ∙ sym (ap (λ a. expression_at a tree) e)

pub bare_tuple : (s : Symbol) (tree part : Tree) (found : Option Subtree) → s ≡ symbol.Tuple → part ≡ part_of tree 2 → IfNone found (is_single part ≡ false)
    → IfNone found (is_bare_expression s tree ≡ true)
bare_tuple s tree part None e p h = ap (λ a. is_bare_expression a tree) e ∙ ap not (ap is_single (sym p) ∙ h)
bare_tuple s tree part (Some inner) e p h = tt

pub other_expression : (s : Symbol) → ¬ (s ≡ symbol.Operand) → ¬ (s ≡ symbol.Atom) → is_expression s ≡ true → is_expression_node s ≡ true
other_expression s b a h =
    sym (ap (λ t. t || is_expression_node s) (among_rest s symbol.Operand (symbol.Atom ∷ []) b ∙ among_rest s symbol.Atom [] a)) ∙ h

pub other_bare : (s : Symbol) (tree : Tree) → ¬ (s ≡ symbol.Exp) → ¬ (s ≡ symbol.Application) → ¬ (s ≡ symbol.Tuple) → is_bare_expression s tree ≡ true
other_bare symbol.Exp tree e a t = absurd (e refl)
other_bare symbol.Application tree e a t = absurd (a refl)
other_bare symbol.Tuple tree e a t = absurd (t refl)
other_bare _ tree e a t = refl

abbrev pub nodes : List Symbol
nodes =
    symbol.Exp ∷ symbol.Lambda ∷ symbol.LetExp ∷ symbol.IfExp ∷ symbol.CaseExp ∷ symbol.Application ∷ symbol.Literal ∷ symbol.QVar ∷ symbol.QCon ∷ symbol.Unit ∷
    symbol.TupleCon ∷ symbol.RightSection ∷ symbol.LeftSection ∷ symbol.Tuple ∷ symbol.EmptyList ∷ symbol.FromThen ∷ symbol.From ∷ symbol.Comprehension ∷ symbol.ListExp ∷ []

pub expression_has_token : (s : Symbol) → is_expression_node s ≡ true → has_token s ≡ true
expression_has_token s h = among_all has_token nodes s refl h

-- the part of a tree that an expression is
abbrev pub subtree : Expression → Subtree
subtree e = e.tree

abbrev pub HasSymbol : Symbol → Expression → Type 0
HasSymbol s x = x.tree.symbol ≡ s

pub expression_is : (names : List (List ℕ)) (x : Expression) (part : Subtree) (s : Symbol) (tree : Tree) → x.tree ≡ part → part.symbol ≡ s → tree_of names part ≡ tree
    → expression_meaning names x ≡ expression_at s tree
expression_is names x part s tree e h t = ap (λ (y : Subtree). expression_at y.symbol (tree_of names y)) e ∙ ap₂ expression_at h t

-- operands with operators between them

abbrev exp_parts : List Symbol
exp_parts = symbol.OptionalMinus ∷ symbol.Operand ∷ symbol.FurtherOperands ∷ []

exp_is : (tree : Tree) → fits symbol.Exp tree ≡ true → tree ≡ Parts (MoreTrees (part_of tree 0) (MoreTrees (part_of tree 1) (MoreTrees (part_of tree 2) NoTree)))
exp_is tree h = sequence_parts symbol.Exp exp_parts tree refl h

pub exp_with : (tree : Tree) (further : Trees) → fits symbol.Exp tree ≡ true → part_of tree 2 ≡ Parts further
    → expression_of tree ≡ operators (unwrap_or (minus_of (part_of tree 0)) (place (part_of tree 1))) (minus_of (part_of tree 0)) (expression_choice symbol.Operand (part_of tree 1)) (operator_rest further)
exp_with tree further h e =
    ap expression_of (exp_is tree h) ∙ ap (λ t. expression_of (Parts (MoreTrees (part_of tree 0) (MoreTrees (part_of tree 1) (MoreTrees t NoTree))))) e

place_after : (a b c : Option Lexeme) → (b ≡ None → ⊥)
    → elim (or_else a (or_else b c)) [ Some x ↦ x.at | None ↦ first_position ] ≡ unwrap_or (option_map (λ (x : Lexeme). x.at) a) (elim b [ Some x ↦ x.at | None ↦ first_position ])
place_after (Some x) b c some = refl
place_after None (Some x) c some = refl
place_after None None c some = absurd (some refl)

pub exp_place : (tree : Tree) → fits symbol.Exp tree ≡ true → place tree ≡ unwrap_or (minus_of (part_of tree 0)) (place (part_of tree 1))
exp_place tree h =
    let some : first_token (part_of tree 1) ≡ None → ⊥ = token_there symbol.Operand (part_of tree 1) refl (part_fits symbol.Exp exp_parts tree 1 symbol.Operand refl h refl) in
    ap place (exp_is tree h) ∙ place_after (first_token (part_of tree 0)) (first_token (part_of tree 1)) (or_else (first_token (part_of tree 2)) None) some

-- one operand without a minus or an operator
pub lone_operand_is : (s : Symbol) (tree minus operand further : Tree) → s ≡ symbol.Exp → fits s tree ≡ true → minus ≡ part_of tree 0 → minus ≡ Parts NoTree → operand ≡ part_of tree 1
    → further ≡ part_of tree 2 → is_empty further ≡ true → expression_at symbol.Operand operand ≡ expression_of tree
lone_operand_is s tree minus operand further e h' m none o f empty =
    let h = fits_as s symbol.Exp tree e h' in
    let no : minus_of (part_of tree 0) ≡ None = ap minus_of (sym m ∙ none) in
    ap (expression_choice symbol.Operand) o
    ∙ sym (ap (λ (n : Option Position). operators (unwrap_or n (place (part_of tree 1))) n (expression_choice symbol.Operand (part_of tree 1)) syntax.NoOperator) no)
    ∙ sym (exp_with tree NoTree h (sym f ∙ empty_tree further empty))

pub bare_minus : (tree minus inner : Tree) → minus ≡ part_of tree 0 → minus ≡ Parts (only inner) → is_bare_expression symbol.Exp tree ≡ true
bare_minus tree minus inner m s = ap not (and_left (is_empty (part_of tree 0)) (is_empty (part_of tree 2)) (ap is_empty (sym m ∙ s)))

pub bare_operators : (tree further : Tree) → further ≡ part_of tree 2 → is_empty further ≡ false → is_bare_expression symbol.Exp tree ≡ true
bare_operators tree further f some = ap not (and_right (is_empty (part_of tree 0)) (is_empty (part_of tree 2)) (ap is_empty (sym f) ∙ some))

pub minus_found : (names : List (List ℕ)) (tree minus : Tree) (found : Option Subtree) → minus ≡ part_of tree 0 → is_some found ≡ true
    → IfSome found (λ part. minus ≡ Parts (only (tree_of names part))) → is_bare_expression symbol.Exp tree ≡ true
minus_found names tree minus None m s h = never s
minus_found names tree minus (Some part) m s h = bare_minus tree minus (tree_of names part) m h

pub none_found : {P : Type 0} (found : Option Subtree) → is_some found ≡ false → IfNone found P → P
none_found None s h = h
none_found (Some part) s h = absurd (true≢false s)

pub lone_same : (names : List (List ℕ)) (s : Symbol) (tree : Tree) (found : Option Subtree) → s ≡ symbol.Exp → IfSome found (λ part. part.symbol ≡ symbol.Operand)
    → IfSome found (λ part. expression_at symbol.Operand (tree_of names part) ≡ expression_of tree)
    → IfSome found (λ part. expression_at part.symbol (tree_of names part) ≡ expression_at s tree)
lone_same names s tree None e k h = tt
lone_same names s tree (Some part) e k h = ap (λ a. expression_at a (tree_of names part)) k ∙ h ∙ sym (ap (λ a. expression_at a tree) e)

-- the place of a minus

pub minus_there : (names : List (List ℕ)) (tree : Tree) (part : Subtree) (at : Position) → tree ≡ Parts (only (tree_of names part)) → part.symbol ≡ symbol.Minus
    → fits part.symbol (tree_of names part) ≡ true → at ≡ place (tree_of names part) → Some at ≡ minus_of tree
minus_there names tree part at t k h a = go (first_token (tree_of names part)) (token_there symbol.Minus (tree_of names part) refl (fits_as part.symbol symbol.Minus (tree_of names part) k h)) a ∙ sym (ap minus_of t)
  where
    go : (o : Option Lexeme) → (o ≡ None → ⊥) → at ≡ elim o [ Some x ↦ x.at | None ↦ first_position ] → Some at ≡ option_map (λ (x : Lexeme). x.at) (or_else o None)
    go (Some x) some a = ap Some a
    go None some a = absurd (some refl)

no_minus : (tree : Tree) → fits symbol.OptionalMinus tree ≡ true → minus_of tree ≡ None → is_empty tree ≡ true
no_minus (Leaf x) h e = never h
no_minus (Parts NoTree) h e = refl
no_minus (Parts (MoreTrees tree NoTree)) h e = absurd (token_there symbol.Minus tree refl h (go (first_token tree) e))
  where
    go : (o : Option Lexeme) → option_map (λ (x : Lexeme). x.at) (or_else o None) ≡ None → o ≡ None
    go (Some x) e = absurd cc
    go None e = refl
no_minus (Parts (MoreTrees tree (MoreTrees other trees))) h e = never h
no_minus (Chosen n tree) h e = never h

one_item : (tree : Tree) (rest : Trees) → fits symbol.FurtherOperand tree ≡ true
    → operator_rest (MoreTrees tree rest) ≡ syntax.ThenOperator (name_of (part_of tree 0)) (minus_of (part_of tree 1)) (expression_choice symbol.Operand (part_of tree 2)) (operator_rest rest)
one_item tree rest h =
    ap (λ t. operator_rest (MoreTrees t rest)) (sequence_parts symbol.FurtherOperand (symbol.QOp ∷ symbol.OptionalMinus ∷ symbol.Operand ∷ []) tree refl h)

some_item : (trees : Trees) → have_parts (Many symbol.FurtherOperand) trees ≡ true → operator_rest trees ≡ syntax.NoOperator → is_empty (Parts trees) ≡ true
some_item NoTree h e = refl
some_item (MoreTrees tree trees) h e =
    let both = and_parts (fits symbol.FurtherOperand tree) (have_parts (Many symbol.FurtherOperand) trees) h in
    let no : syntax.NoOperator ≡ syntax.ThenOperator (name_of (part_of tree 0)) (minus_of (part_of tree 1)) (expression_choice symbol.Operand (part_of tree 2)) (operator_rest trees) =
    sym e ∙ one_item tree trees both.0 in
    absurd cc

pub with_some : (at : Position) (minus : Option Position) (x : syntax.Expression) (rest : syntax.OperatorRest) → (minus ≡ None → rest ≡ syntax.NoOperator → ⊥)
    → operators at minus x rest ≡ syntax.Operators at minus x rest
with_some at None x syntax.NoOperator some = absurd (some refl refl)
with_some at None x (syntax.ThenOperator operator minus operand rest) some = refl
with_some at (Some p) x rest some = refl

-- What is there beside the first operand.
pub record HasMore (tree : Tree) : Type 0 where
  pub is : part_of tree 2 ≡ Parts (trees_in (part_of tree 2))
  pub more : minus_of (part_of tree 0) ≡ None → operator_rest (trees_in (part_of tree 2)) ≡ syntax.NoOperator → ⊥

pub has_more : (tree : Tree) → fits symbol.Exp tree ≡ true → is_bare_expression symbol.Exp tree ≡ true → HasMore tree
has_more tree h b =
    let zero_fits = part_fits symbol.Exp exp_parts tree 0 symbol.OptionalMinus refl h refl in
    let two_fits = part_fits symbol.Exp exp_parts tree 2 symbol.FurtherOperands refl h refl in
    let is = parted symbol.FurtherOperands (part_of tree 2) refl two_fits in
    let have : have_parts (Many symbol.FurtherOperand) (trees_in (part_of tree 2)) ≡ true = sym (ap (fits symbol.FurtherOperands) is) ∙ two_fits in
    record {
      is = is;
      more = λ m r.
          let first : is_empty (part_of tree 0) ≡ true = no_minus (part_of tree 0) zero_fits m in
          let second : is_empty (part_of tree 2) ≡ true = ap is_empty is ∙ some_item (trees_in (part_of tree 2)) have r in
          let both : (is_empty (part_of tree 0) && is_empty (part_of tree 2)) ≡ true = ap₂ (λ x y. x && y) first second in
          true≢false (sym both ∙ not-true (is_empty (part_of tree 0) && is_empty (part_of tree 2)) b);
    }

pub operators_are : (names : List (List ℕ)) (s : Symbol) (tree minus further : Tree) (operand : Subtree) (x : Expression) (at : Position) (m : Option Position) (items : List OperatorItem)
    → s ≡ symbol.Exp → fits s tree ≡ true → is_bare_expression s tree ≡ true → at ≡ place tree → minus ≡ part_of tree 0 → m ≡ minus_of minus
    → x.tree ≡ operand → operand.symbol ≡ symbol.Operand → tree_of names operand ≡ part_of tree 1 → further ≡ part_of tree 2 → rest_of further ≡ rest_meaning names items
    → syntax.Operators at m (expression_meaning names x) (rest_meaning names items) ≡ expression_of tree
operators_are names s tree minus further operand x at m items e h' b' a n k q l o f r =
    let h = fits_as s symbol.Exp tree e h' in
    let more = has_more tree h (sym (ap (λ a. is_bare_expression a tree) e) ∙ b') in
    let rest : rest_meaning names items ≡ operator_rest (trees_in (part_of tree 2)) = sym r ∙ ap rest_of f ∙ ap rest_of more.is in
    ap₂ (λ y z. syntax.Operators y z (expression_meaning names x) (rest_meaning names items)) (a ∙ exp_place tree h) (k ∙ ap minus_of n)
    ∙ ap₂ (λ y z. syntax.Operators (unwrap_or (minus_of (part_of tree 0)) (place (part_of tree 1))) (minus_of (part_of tree 0)) y z) (expression_is names x operand symbol.Operand (part_of tree 1) q l o) rest
    ∙ sym (with_some (unwrap_or (minus_of (part_of tree 0)) (place (part_of tree 1))) (minus_of (part_of tree 0)) (expression_choice symbol.Operand (part_of tree 1)) (operator_rest (trees_in (part_of tree 2))) more.more)
    ∙ sym (exp_with tree (trees_in (part_of tree 2)) h more.is)

pub item_is : (names : List (List ℕ)) (s : Symbol) (tree first second : Tree) (third : Subtree) (name : syntax.Name) (m : Option Position) (x : Expression) (rest : Trees)
    → s ≡ symbol.FurtherOperand → fits s tree ≡ true → first ≡ part_of tree 0 → name ≡ name_of first → second ≡ part_of tree 1 → m ≡ minus_of second
    → x.tree ≡ third → third.symbol ≡ symbol.Operand → tree_of names third ≡ part_of tree 2
    → operator_rest (MoreTrees tree rest) ≡ syntax.ThenOperator name m (expression_meaning names x) (operator_rest rest)
item_is names s tree first second third name m x rest e h f n g k q l t =
    one_item tree rest (fits_as s symbol.FurtherOperand tree e h)
    ∙ sym (ap₃ (λ y z w. syntax.ThenOperator y z w (operator_rest rest)) (n ∙ ap name_of f) (k ∙ ap minus_of g) (expression_is names x third symbol.Operand (part_of tree 2) q l t))

pub rest_folded : (names : List (List ℕ)) (items : List OperatorItem) → folded (with_item names) items syntax.NoOperator ≡ rest_meaning names items
rest_folded names [] = refl
rest_folded names (item ∷ items) = ap (with_item names item) (rest_folded names items)

-- lists of expressions

pub components_are : (names : List (List ℕ)) (xs : List Expression) → All (HasSymbol symbol.Exp) xs
    → expressions_meaning names xs ≡ expressions_of (trees_from (map (expression_tree names) xs))
components_are names [] h = refl
components_are names (x ∷ xs) h =
    ap₂ syntax.MoreExpressions (ap (λ a. expression_at a (expression_tree names x)) (All-head (HasSymbol symbol.Exp) x xs h)) (components_are names xs (All-tail (HasSymbol symbol.Exp) x xs h))

pub atoms_are : (names : List (List ℕ)) (xs : List Expression) → All (HasSymbol symbol.Atom) xs
    → expressions_meaning names xs ≡ atoms_of (trees_from (map (expression_tree names) xs))
atoms_are names [] h = refl
atoms_are names (x ∷ xs) h =
    ap₂ syntax.MoreExpressions (ap (λ a. expression_at a (expression_tree names x)) (All-head (HasSymbol symbol.Atom) x xs h)) (atoms_are names xs (All-tail (HasSymbol symbol.Atom) x xs h))

several : (at : Position) (trees : Trees) → is_single (Parts trees) ≡ false → tuple at (expressions_of trees) ≡ syntax.Tuple at (expressions_of trees)
several at NoTree h = refl
several at (MoreTrees tree NoTree) h = never (sym h)
several at (MoreTrees tree (MoreTrees other trees)) h = refl

pub tuple_of_expressions : (names : List (List ℕ)) (s : Symbol) (tree part : Tree) (at : Position) (components : List Expression) → s ≡ symbol.Tuple → fits s tree ≡ true
    → is_bare_expression s tree ≡ true → at ≡ place tree → part ≡ part_of tree 2 → part ≡ Parts (trees_from (map (expression_tree names) components))
    → All (HasSymbol symbol.Exp) components → syntax.Tuple at (expressions_meaning names components) ≡ expression_as symbol.Tuple tree
tuple_of_expressions names s tree part at components e h' b' a p t k =
    let h = fits_as s symbol.Tuple tree e h' in
    let b = sym (ap (λ a. is_bare_expression a tree) e) ∙ b' in
    let trees = trees_from (map (expression_tree names) components) in
    let two : part_of tree 2 ≡ Parts trees = sym p ∙ t in
    let first = first_place symbol.Tuple symbol.OpenParen (symbol.NoSixteenExps ∷ symbol.ExpList ∷ symbol.CloseParen ∷ []) tree refl refl h in
    ap₂ syntax.Tuple (a ∙ first) (components_are names components k)
    ∙ sym (several (place (part_of tree 0)) trees (sym (ap is_single two) ∙ not-true (is_single (part_of tree 2)) b))
    ∙ sym (tuple_with tree trees h two)
