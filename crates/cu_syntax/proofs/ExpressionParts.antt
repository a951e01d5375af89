-- What the forms of expressions say, by their parts.
use Rattle.std.specs.Prelude.{◌≡◌, ◌<◌, ℕ, zero, suc, ◌+◌, true, false, List, [], ◌∷◌, Some, map, refl, slice_get}
use Rattle.std.specs.List.{All}
use Rattle.std.proofs.Common.{ap, ap₂, arith, subst, sym, true≢false, ◌∙◌}
use Rattle.std.proofs.lemmas.Bool.{not-true}
use Rattle.std.proofs.lemmas.List.Elements.{All-head, All-tail}
use Rattle.cu_lex.specs.Located.{Position}
use Rattle.cu_peg.specs.Parse.{Parts, Chosen, NoTree, MoreTrees, only}
use Rattle.cu_syntax.specs.declared.declarations.RightSide.{RightSide}
use Rattle.cu_syntax.specs.declared.expressions.Alternative.{Alternative}
use Rattle.cu_syntax.specs.declared.expressions.CaseWord.{CaseWord}
use Rattle.cu_syntax.specs.declared.expressions.CaseWord.TheVariants as case_words
use Rattle.cu_syntax.specs.declared.expressions.Expression.{Expression}
use Rattle.cu_syntax.specs.declared.expressions.Qualifier.{Qualifier}
use Rattle.cu_syntax.specs.declared.patterns.Pattern.{Pattern}
use Rattle.cu_syntax.specs.declared.subtree.Subtree.{Subtree}
use Rattle.cu_syntax.specs.declared.symbol.Symbol.{Symbol}
use Rattle.cu_syntax.specs.declared.symbol.Symbol.TheVariants as symbol
use Rattle.cu_syntax.specs.Declarations.{right_meaning}
use Rattle.cu_syntax.specs.ExpressionMeaning.{expression_at, expression_meaning, expression_tree, expressions_meaning}
use Rattle.cu_syntax.specs.Expressions.{alternatives_in, alternatives_meaning, is_bare_expression, qualifier_meaning, qualifiers_in, qualifiers_meaning, with_alternative}
use Rattle.cu_syntax.specs.Inside.Fits.{fits}
use Rattle.cu_syntax.specs.Forms.{is_qualifier}
use Rattle.cu_syntax.specs.Patterns.{pattern_meaning, pattern_tree, patterns_meaning}
use Rattle.cu_syntax.specs.Reading.{Tree, Trees, alternatives_of, applied, arguments_in, block_of, case_word, count_in, expression_as, expression_choice, maybe_expression, name_of, place, qualifier_as, qualifiers_of, right_side, where_block}
use Rattle.cu_syntax.specs.SubtreeMeaning.{tree_of}
use Rattle.cu_syntax.specs.Subtrees.{Takes, is_single, part_of, trees_from}
use Rattle.cu_syntax.specs.Syntax as syntax
use Rattle.cu_syntax.proofs.ExpressionForms.{HasSymbol, atoms_are, components_are, expression_is}
use Rattle.cu_syntax.proofs.PatternForms.{HasSymbol as PatternSymbol, arguments_are, pattern_is}
use Rattle.cu_syntax.proofs.ShapeLemmas.{each_at, first_place_of, fits_as, form, part_fits, parted, taken, takes_as, trees_in}
use Rattle.cu_syntax.proofs.TokenLaw.{token_there}
use Rattle.cu_syntax.proofs.ViewLemmas.{ap₃, ap₄, folded}

pub lambda_is : (names : List (List ℕ)) (s : Symbol) (tree part : Tree) (body : Subtree) (at : Position) (parameters : List Pattern) (x : Expression) → s ≡ symbol.Lambda
    → fits s tree ≡ true → at ≡ place tree → part ≡ part_of tree 1 → part ≡ Parts (trees_from (map (pattern_tree names) parameters)) → All (PatternSymbol symbol.APat) parameters
    → x.tree ≡ body → body.symbol ≡ symbol.Exp → tree_of names body ≡ part_of tree 3
    → syntax.Lambda at (patterns_meaning names parameters) (expression_meaning names x) ≡ expression_as symbol.Lambda tree
lambda_is names s tree part body at parameters x e h a p t k q l b =
    let m = form s symbol.Lambda symbol.Backslash (symbol.PatArguments ∷ symbol.RightArrow ∷ symbol.Exp ∷ []) tree e h refl refl in
    ap₃ syntax.Lambda (a ∙ m.at) (arguments_are names parameters k ∙ ap arguments_in (sym t ∙ p)) (expression_is names x body symbol.Exp (part_of tree 3) q l b)
    ∙ sym (ap (expression_as symbol.Lambda) m.is)

pub let_is : (names : List (List ℕ)) (s : Symbol) (tree part : Tree) (body : Subtree) (at : Position) (local : syntax.Declarations) (x : Expression) → s ≡ symbol.LetExp
    → fits s tree ≡ true → at ≡ place tree → part ≡ part_of tree 1 → local ≡ block_of part → x.tree ≡ body → body.symbol ≡ symbol.Exp → tree_of names body ≡ part_of tree 3
    → syntax.Let at local (expression_meaning names x) ≡ expression_as symbol.LetExp tree
let_is names s tree part body at local x e h a p d q l b =
    let m = form s symbol.LetExp symbol.Let (symbol.Block ∷ symbol.In ∷ symbol.Exp ∷ []) tree e h refl refl in
    ap₃ syntax.Let (a ∙ m.at) (d ∙ ap block_of p) (expression_is names x body symbol.Exp (part_of tree 3) q l b) ∙ sym (ap (expression_as symbol.LetExp) m.is)

pub condition_is : (names : List (List ℕ)) (s : Symbol) (tree : Tree) (one two three : Subtree) (at : Position) (x y z : Expression) → s ≡ symbol.IfExp → fits s tree ≡ true
    → at ≡ place tree → x.tree ≡ one → one.symbol ≡ symbol.Exp → tree_of names one ≡ part_of tree 1 → y.tree ≡ two → two.symbol ≡ symbol.Exp → tree_of names two ≡ part_of tree 3
    → z.tree ≡ three → three.symbol ≡ symbol.Exp → tree_of names three ≡ part_of tree 5
    → syntax.If at (expression_meaning names x) (expression_meaning names y) (expression_meaning names z) ≡ expression_as symbol.IfExp tree
condition_is names s tree one two three at x y z e h a p q r p' q' r' p'' q'' r'' =
    let m = form s symbol.IfExp symbol.If (symbol.Exp ∷ symbol.Then ∷ symbol.Exp ∷ symbol.Else ∷ symbol.Exp ∷ []) tree e h refl refl in
    ap₄ syntax.If (a ∙ m.at) (expression_is names x one symbol.Exp (part_of tree 1) p q r) (expression_is names y two symbol.Exp (part_of tree 3) p' q' r')
    (expression_is names z three symbol.Exp (part_of tree 5) p'' q'' r'')
    ∙ sym (ap (expression_as symbol.IfExp) m.is)

-- case distinctions

rigid_at : (n : ℕ) (chosen : Symbol) (inner : Tree) → slice_get (symbol.Case ∷ symbol.Fcase ∷ []) n ≡ Some chosen → chosen ≡ symbol.Case → case_word (Chosen n inner) ≡ case_words.Case
rigid_at zero chosen inner f e = refl
rigid_at (suc zero) chosen inner f e = absurd cc
rigid_at (suc (suc n)) chosen inner f e = absurd cc

flexible_at : (n : ℕ) (chosen : Symbol) (inner : Tree) → slice_get (symbol.Case ∷ symbol.Fcase ∷ []) n ≡ Some chosen → ¬ (chosen ≡ symbol.Case)
    → case_word (Chosen n inner) ≡ case_words.Fcase
flexible_at zero chosen inner f other = let same : chosen ≡ symbol.Case = cc in absurd (other same)
flexible_at (suc zero) chosen inner f other = refl
flexible_at (suc (suc n)) chosen inner f other = absurd cc

pub rigid : (s : Symbol) (tree : Tree) (chosen : Symbol) (inner : Tree) → s ≡ symbol.CaseWord → fits s tree ≡ true → Takes s tree chosen inner → chosen ≡ symbol.Case
    → case_words.Case ≡ case_word tree
rigid s tree chosen inner e h t c =
    let m = taken symbol.CaseWord (symbol.Case ∷ symbol.Fcase ∷ []) tree chosen inner refl (fits_as s symbol.CaseWord tree e h) (takes_as s symbol.CaseWord tree chosen inner e t) in
    sym (ap case_word m.is ∙ rigid_at m.number chosen inner m.found c)

pub flexible : (s : Symbol) (tree : Tree) (chosen : Symbol) (inner : Tree) → s ≡ symbol.CaseWord → fits s tree ≡ true → Takes s tree chosen inner → ¬ (chosen ≡ symbol.Case)
    → case_words.Fcase ≡ case_word tree
flexible s tree chosen inner e h t c =
    let m = taken symbol.CaseWord (symbol.Case ∷ symbol.Fcase ∷ []) tree chosen inner refl (fits_as s symbol.CaseWord tree e h) (takes_as s symbol.CaseWord tree chosen inner e t) in
    sym (ap case_word m.is ∙ flexible_at m.number chosen inner m.found c)

abbrev pub case_parts : List Symbol
case_parts = symbol.Exp ∷ symbol.Of ∷ symbol.OpenBrace ∷ symbol.AltList ∷ symbol.CloseBrace ∷ []

pub case_is : (names : List (List ℕ)) (s : Symbol) (tree word list : Tree) (subject : Subtree) (at : Position) (w : CaseWord) (x : Expression) (found : List Alternative)
    → s ≡ symbol.CaseExp → fits s tree ≡ true → at ≡ place tree → word ≡ part_of tree 0 → w ≡ case_word word → x.tree ≡ subject → subject.symbol ≡ symbol.Exp
    → tree_of names subject ≡ part_of tree 1 → list ≡ part_of tree 4 → alternatives_in list ≡ alternatives_meaning names found
    → syntax.Case at w (expression_meaning names x) (alternatives_meaning names found) ≡ expression_as symbol.CaseExp tree
case_is names s tree word list subject at w x found e h a f c q l t p r =
    let m = form s symbol.CaseExp symbol.CaseWord case_parts tree e h refl refl in
    let four = parted symbol.AltList (part_of tree 4) refl (part_fits symbol.CaseExp (symbol.CaseWord ∷ case_parts) tree 4 symbol.AltList refl (fits_as s symbol.CaseExp tree e h) refl) in
    ap₄ syntax.Case (a ∙ m.at) (c ∙ ap case_word f) (expression_is names x subject symbol.Exp (part_of tree 1) q l t) (sym r ∙ ap alternatives_in (p ∙ four))
    ∙ sym (ap (λ t. expression_as symbol.CaseExp (Parts (MoreTrees (part_of tree 0) (MoreTrees (part_of tree 1) (MoreTrees (part_of tree 2) (MoreTrees (part_of tree 3) (MoreTrees t (MoreTrees (part_of tree 5) NoTree)))))))) four)
    ∙ sym (ap (expression_as symbol.CaseExp) m.is)

pub alternative_is : (names : List (List ℕ)) (s : Symbol) (tree : Tree) (first body local : Subtree) (at : Position) (p : Pattern) (r : RightSide) (rest : Trees) → s ≡ symbol.Alt → fits s tree ≡ true
    → at ≡ place tree → p.tree ≡ first → first.symbol ≡ symbol.Pat → tree_of names first ≡ part_of tree 0 → r.body ≡ body → body.symbol ≡ symbol.AltBody → tree_of names body ≡ part_of tree 1
    → r.local ≡ local → tree_of names local ≡ part_of tree 2
    → alternatives_of (MoreTrees (Parts (only tree)) rest) ≡ syntax.MoreAlternatives at (pattern_meaning names p) (right_meaning names r) (alternatives_of rest)
alternative_is names s tree first body local at p r rest e h a q k t b l u c v =
    let m = form s symbol.Alt symbol.Pat (symbol.AltBody ∷ symbol.OptionalWhere ∷ []) tree e h refl refl in
    let right : right_meaning names r ≡ right_side symbol.AltBody (part_of tree 1) (where_block (part_of tree 2)) =
    ap₂ (λ (x y : Subtree). right_side x.symbol (tree_of names x) (where_block (tree_of names y))) b c ∙ ap₃ right_side l u (ap where_block v) in
    ap (λ t. alternatives_of (MoreTrees (Parts (only t)) rest)) m.is
    ∙ sym (ap₃ (λ x y z. syntax.MoreAlternatives x y z (alternatives_of rest)) (a ∙ m.at) (pattern_is names p first symbol.Pat (part_of tree 0) q k t) right)

pub alternatives_folded : (names : List (List ℕ)) (found : List Alternative) → folded (with_alternative names) found syntax.NoAlternative ≡ alternatives_meaning names found
alternatives_folded names [] = refl
alternatives_folded names (a ∷ found) = ap (with_alternative names a) (alternatives_folded names found)

-- applications

some_arguments : (names : List (List ℕ)) (at : Position) (x : syntax.Expression) (tree : Tree) (arguments : List Expression)
    → is_single (Parts (MoreTrees tree (trees_from (map (expression_tree names) arguments)))) ≡ false
    → applied at x (expressions_meaning names arguments) ≡ syntax.Application at x (expressions_meaning names arguments)
some_arguments names at x tree [] h = absurd (true≢false h)
some_arguments names at x tree (y ∷ arguments) h = refl

pub application_is : (names : List (List ℕ)) (s : Symbol) (tree : Tree) (at : Position) (all : List Expression) (x : Expression) (arguments : List Expression) → s ≡ symbol.Application
    → is_bare_expression s tree ≡ true → at ≡ place tree → tree ≡ Parts (trees_from (map (expression_tree names) all)) → All (HasSymbol symbol.Atom) all → all ≡ x ∷ arguments
    → syntax.Application at (expression_meaning names x) (expressions_meaning names arguments) ≡ expression_as symbol.Application tree
application_is names s tree at all x arguments e b a t k same =
    let first = expression_tree names x in
    let others = trees_from (map (expression_tree names) arguments) in
    let is : tree ≡ Parts (MoreTrees first others) = t ∙ ap (λ xs. Parts (trees_from (map (expression_tree names) xs))) same in
    let each = subst (All (HasSymbol symbol.Atom)) same k in
    let atom : x.tree.symbol ≡ symbol.Atom = All-head (HasSymbol symbol.Atom) x arguments each in
    let some = token_there symbol.Atom first refl (fits_as x.tree.symbol symbol.Atom first atom (x.tree.fits names)) in
    let several : is_single (Parts (MoreTrees first others)) ≡ false = ap is_single (sym is) ∙ not-true (is_single tree) (sym (ap (λ a. is_bare_expression a tree) e) ∙ b) in
    let meant : expression_meaning names x ≡ expression_choice symbol.Atom first = ap (λ a. expression_at a first) atom in
    ap₂ (λ y z. syntax.Application y z (expressions_meaning names arguments)) (a ∙ ap place is ∙ first_place_of first others some) meant
    ∙ sym (some_arguments names (place first) (expression_choice symbol.Atom first) first arguments several)
    ∙ ap (applied (place first) (expression_choice symbol.Atom first)) (atoms_are names arguments (All-tail (HasSymbol symbol.Atom) x arguments each))
    ∙ sym (ap (expression_as symbol.Application) is)

pub no_atoms : (names : List (List ℕ)) (s : Symbol) (tree : Tree) (all : List Expression) → s ≡ symbol.Application → fits s tree ≡ true
    → tree ≡ Parts (trees_from (map (expression_tree names) all)) → all ≡ [] → ⊥
no_atoms names s tree all e h t none =
    true≢false (sym (fits_as s symbol.Application tree e h) ∙ ap (fits symbol.Application) (t ∙ ap (λ xs. Parts (trees_from (map (expression_tree names) xs))) none))

pub some_length : (n : ℕ) → (n ≡ 0 → ⊥) → 0 < n
some_length zero some = absurd (some refl)
some_length (suc n) some = omega arith

-- what stands in parentheses

pub tuple_constructor_is : (s : Symbol) (tree part : Tree) (at : Position) (n : ℕ) → s ≡ symbol.TupleCon → fits s tree ≡ true → at ≡ place tree → part ≡ part_of tree 2
    → n ≡ count_in part → syntax.TupleConstructor at (n + 1) ≡ expression_as symbol.TupleCon tree
tuple_constructor_is s tree part at n e h a p c =
    let m = form s symbol.TupleCon symbol.OpenParen (symbol.NoFifteenCommas ∷ symbol.Commas ∷ symbol.CloseParen ∷ []) tree e h refl refl in
    ap₂ (λ x y. syntax.TupleConstructor x (y + 1)) (a ∙ m.at) (c ∙ ap count_in p) ∙ sym (ap (expression_as symbol.TupleCon) m.is)

pub right_section_is : (names : List (List ℕ)) (s : Symbol) (tree first : Tree) (second : Subtree) (at : Position) (name : syntax.Name) (x : Expression) → s ≡ symbol.RightSection
    → fits s tree ≡ true → at ≡ place tree → first ≡ part_of tree 2 → name ≡ name_of first → x.tree ≡ second → second.symbol ≡ symbol.Exp → tree_of names second ≡ part_of tree 3
    → syntax.RightSection at name (expression_meaning names x) ≡ expression_as symbol.RightSection tree
right_section_is names s tree first second at name x e h a f n q l t =
    let m = form s symbol.RightSection symbol.OpenParen (symbol.NoMinus ∷ symbol.QOp ∷ symbol.Exp ∷ symbol.CloseParen ∷ []) tree e h refl refl in
    ap₃ syntax.RightSection (a ∙ m.at) (n ∙ ap name_of f) (expression_is names x second symbol.Exp (part_of tree 3) q l t) ∙ sym (ap (expression_as symbol.RightSection) m.is)

pub left_section_is : (names : List (List ℕ)) (s : Symbol) (tree second : Tree) (first : Subtree) (at : Position) (name : syntax.Name) (x : Expression) → s ≡ symbol.LeftSection
    → fits s tree ≡ true → at ≡ place tree → second ≡ part_of tree 2 → name ≡ name_of second → x.tree ≡ first → first.symbol ≡ symbol.Exp → tree_of names first ≡ part_of tree 1
    → syntax.LeftSection at (expression_meaning names x) name ≡ expression_as symbol.LeftSection tree
left_section_is names s tree second first at name x e h a f n q l t =
    let m = form s symbol.LeftSection symbol.OpenParen (symbol.Exp ∷ symbol.QOp ∷ symbol.CloseParen ∷ []) tree e h refl refl in
    ap₃ syntax.LeftSection (a ∙ m.at) (expression_is names x first symbol.Exp (part_of tree 1) q l t) (n ∙ ap name_of f) ∙ sym (ap (expression_as symbol.LeftSection) m.is)

-- lists

pub maybe_there : (names : List (List ℕ)) (tree : Tree) (part : Subtree) (x : Expression) → tree ≡ Parts (only (tree_of names part)) → part.symbol ≡ symbol.Exp → x.tree ≡ part
    → syntax.Present (expression_meaning names x) ≡ maybe_expression tree
maybe_there names tree part x t l q = ap syntax.Present (expression_is names x part symbol.Exp (tree_of names part) q l refl) ∙ sym (ap maybe_expression t)

pub from_then_is : (names : List (List ℕ)) (s : Symbol) (tree third : Tree) (one two : Subtree) (at : Position) (x y : Expression) (last : syntax.MaybeExpression) → s ≡ symbol.FromThen
    → fits s tree ≡ true → at ≡ place tree → x.tree ≡ one → one.symbol ≡ symbol.Exp → tree_of names one ≡ part_of tree 1 → y.tree ≡ two → two.symbol ≡ symbol.Exp
    → tree_of names two ≡ part_of tree 3 → third ≡ part_of tree 5 → last ≡ maybe_expression third
    → syntax.Enumeration at (expression_meaning names x) (syntax.Present (expression_meaning names y)) last ≡ expression_as symbol.FromThen tree
from_then_is names s tree third one two at x y last e h a p q r p' q' r' f l =
    let m = form s symbol.FromThen symbol.OpenSquare (symbol.Exp ∷ symbol.Comma ∷ symbol.Exp ∷ symbol.DotDot ∷ symbol.OptionalExp ∷ symbol.CloseSquare ∷ []) tree e h refl refl in
    ap₄ syntax.Enumeration (a ∙ m.at) (expression_is names x one symbol.Exp (part_of tree 1) p q r)
    (ap syntax.Present (expression_is names y two symbol.Exp (part_of tree 3) p' q' r')) (l ∙ ap maybe_expression f)
    ∙ sym (ap (expression_as symbol.FromThen) m.is)

pub from_is : (names : List (List ℕ)) (s : Symbol) (tree second : Tree) (one : Subtree) (at : Position) (x : Expression) (last : syntax.MaybeExpression) → s ≡ symbol.From
    → fits s tree ≡ true → at ≡ place tree → x.tree ≡ one → one.symbol ≡ symbol.Exp → tree_of names one ≡ part_of tree 1 → second ≡ part_of tree 3 → last ≡ maybe_expression second
    → syntax.Enumeration at (expression_meaning names x) syntax.Absent last ≡ expression_as symbol.From tree
from_is names s tree second one at x last e h a p q r f l =
    let m = form s symbol.From symbol.OpenSquare (symbol.Exp ∷ symbol.DotDot ∷ symbol.OptionalExp ∷ symbol.CloseSquare ∷ []) tree e h refl refl in
    ap₃ (λ y z w. syntax.Enumeration y z syntax.Absent w) (a ∙ m.at) (expression_is names x one symbol.Exp (part_of tree 1) p q r) (l ∙ ap maybe_expression f)
    ∙ sym (ap (expression_as symbol.From) m.is)

abbrev pub comprehension_parts : List Symbol
comprehension_parts = symbol.Exp ∷ symbol.Bar ∷ symbol.QualList ∷ symbol.CloseSquare ∷ []

pub comprehension_is : (names : List (List ℕ)) (s : Symbol) (tree list : Tree) (one : Subtree) (at : Position) (x : Expression) (found : List Qualifier) → s ≡ symbol.Comprehension
    → fits s tree ≡ true → at ≡ place tree → x.tree ≡ one → one.symbol ≡ symbol.Exp → tree_of names one ≡ part_of tree 1 → list ≡ part_of tree 3
    → qualifiers_in list ≡ qualifiers_meaning names found
    → syntax.Comprehension at (expression_meaning names x) (qualifiers_meaning names found) ≡ expression_as symbol.Comprehension tree
comprehension_is names s tree list one at x found e h a p q r l f =
    let m = form s symbol.Comprehension symbol.OpenSquare comprehension_parts tree e h refl refl in
    let three = parted symbol.QualList (part_of tree 3) refl
    (part_fits symbol.Comprehension (symbol.OpenSquare ∷ comprehension_parts) tree 3 symbol.QualList refl (fits_as s symbol.Comprehension tree e h) refl) in
    ap₃ syntax.Comprehension (a ∙ m.at) (expression_is names x one symbol.Exp (part_of tree 1) p q r) (sym f ∙ ap qualifiers_in (l ∙ three))
    ∙ sym (ap (λ t. expression_as symbol.Comprehension (Parts (MoreTrees (part_of tree 0) (MoreTrees (part_of tree 1) (MoreTrees (part_of tree 2) (MoreTrees t (MoreTrees (part_of tree 4) NoTree))))))) three)
    ∙ sym (ap (expression_as symbol.Comprehension) m.is)

pub list_is : (names : List (List ℕ)) (s : Symbol) (tree part : Tree) (at : Position) (elements : List Expression) → s ≡ symbol.ListExp → fits s tree ≡ true → at ≡ place tree
    → part ≡ part_of tree 1 → part ≡ Parts (trees_from (map (expression_tree names) elements)) → All (HasSymbol symbol.Exp) elements
    → syntax.ListOf at (expressions_meaning names elements) ≡ expression_as symbol.ListExp tree
list_is names s tree part at elements e h a p t k =
    let m = form s symbol.ListExp symbol.OpenSquare (symbol.ExpList ∷ symbol.CloseSquare ∷ []) tree e h refl refl in
    ap₂ syntax.ListOf (a ∙ m.at) (components_are names elements k)
    ∙ sym (ap (λ t. expression_as symbol.ListExp (Parts (MoreTrees (part_of tree 0) (MoreTrees t (MoreTrees (part_of tree 2) NoTree))))) (sym p ∙ t))
    ∙ sym (ap (expression_as symbol.ListExp) m.is)

-- qualifiers

abbrev IsQualifier : Symbol → Type 0
IsQualifier s = is_qualifier s ≡ true

-- What a choice took is the qualifier.
pub record QualifierTaken (tree : Tree) (chosen : Symbol) (inner : Tree) : Type 0 where
  pub is_qualifier : is_qualifier chosen ≡ true
  pub is : (rest : Trees) → qualifiers_of (MoreTrees tree rest) ≡ syntax.MoreQualifiers (qualifier_as chosen inner) (qualifiers_of rest)

pub qualifier_taken : (s : Symbol) (tree : Tree) (chosen : Symbol) (inner : Tree) → s ≡ symbol.Qual → fits s tree ≡ true → Takes s tree chosen inner → QualifierTaken tree chosen inner
qualifier_taken s tree chosen inner e h t =
    let m = taken symbol.Qual (symbol.Generator ∷ symbol.LetQual ∷ symbol.Exp ∷ []) tree chosen inner refl (fits_as s symbol.Qual tree e h) (takes_as s symbol.Qual tree chosen inner e t) in
    record {
      is_qualifier = each_at IsQualifier (symbol.Generator ∷ symbol.LetQual ∷ symbol.Exp ∷ []) m.number chosen (refl, (refl, (refl, tt))) m.found;
      is = λ rest. ap (λ t. qualifiers_of (MoreTrees t rest)) m.is ∙ ap (λ a. syntax.MoreQualifiers (qualifier_as a inner) (qualifiers_of rest)) m.symbol;
    }

-- a qualifier before others
abbrev pub with_qualifier : List (List ℕ) → Qualifier → syntax.Qualifiers → syntax.Qualifiers
with_qualifier names q rest = syntax.MoreQualifiers (qualifier_meaning names q) rest

pub qualifiers_folded : (names : List (List ℕ)) (found : List Qualifier) → folded (with_qualifier names) found syntax.NoQualifier ≡ qualifiers_meaning names found
qualifiers_folded names [] = refl
qualifiers_folded names (q ∷ found) = ap (with_qualifier names q) (qualifiers_folded names found)

pub generator_is : (names : List (List ℕ)) (s : Symbol) (tree : Tree) (one two : Subtree) (at : Position) (p : Pattern) (x : Expression) → s ≡ symbol.Generator → fits s tree ≡ true
    → at ≡ place tree → p.tree ≡ one → one.symbol ≡ symbol.Pat → tree_of names one ≡ part_of tree 0 → x.tree ≡ two → two.symbol ≡ symbol.Exp → tree_of names two ≡ part_of tree 2
    → syntax.Generator at (pattern_meaning names p) (expression_meaning names x) ≡ qualifier_as s tree
generator_is names s tree one two at p x e h a q l t q' l' t' =
    let m = form s symbol.Generator symbol.Pat (symbol.LeftArrow ∷ symbol.Exp ∷ []) tree e h refl refl in
    ap₃ syntax.Generator (a ∙ m.at) (pattern_is names p one symbol.Pat (part_of tree 0) q l t) (expression_is names x two symbol.Exp (part_of tree 2) q' l' t')
    ∙ sym (ap (qualifier_as symbol.Generator) m.is) ∙ sym (ap (λ a. qualifier_as a tree) e)

pub local_is : (s : Symbol) (tree part : Tree) (at : Position) (local : syntax.Declarations) → s ≡ symbol.LetQual → fits s tree ≡ true → at ≡ place tree → part ≡ part_of tree 1
    → local ≡ block_of part → syntax.LocalDeclarations at local ≡ qualifier_as s tree
local_is s tree part at local e h a p d =
    let m = form s symbol.LetQual symbol.Let (symbol.Block ∷ symbol.NoIn ∷ []) tree e h refl refl in
    ap₂ syntax.LocalDeclarations (a ∙ m.at) (d ∙ ap block_of p) ∙ sym (ap (qualifier_as symbol.LetQual) m.is) ∙ sym (ap (λ a. qualifier_as a tree) e)

pub condition_holds : (names : List (List ℕ)) (part : Subtree) (at : Position) (x : Expression) → part.symbol ≡ symbol.Exp → fits part.symbol (tree_of names part) ≡ true
    → at ≡ place (tree_of names part) → x.tree ≡ part → syntax.Condition at (expression_meaning names x) ≡ qualifier_as part.symbol (tree_of names part)
condition_holds names part at x e h a q =
    let tree = tree_of names part in
    let is : tree ≡ Parts (trees_in tree) = parted symbol.Exp tree refl (fits_as part.symbol symbol.Exp tree e h) in
    ap₂ syntax.Condition (a ∙ ap place is) (expression_is names x part symbol.Exp (Parts (trees_in tree)) q e is)
    ∙ sym (ap (qualifier_as symbol.Exp) is) ∙ sym (ap (λ a. qualifier_as a tree) e)
