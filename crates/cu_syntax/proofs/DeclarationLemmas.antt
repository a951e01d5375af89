-- What trees of declarations say, by their parts.
use Rattle.std.specs.Prelude.{◌≡◌, ℕ, Bool, true, List, [], ◌∷◌, ◌++◌, IfOk, Some, Result, Ok, Err, map, refl, slice_get}
use Rattle.std.specs.List.{All}
use Rattle.std.proofs.Common.{ap, ap₂, subst, sym, ◌∙◌}
use Rattle.std.proofs.lemmas.Bool.{or_cases}
use denote.Enum.Bare.{sameb, same_true}
use mathlib.Core.Logic.{inl, inr}
use Rattle.cu_lex.specs.Located.{Position}
use Rattle.cu_peg.specs.Parse.{Parts, NoTree, MoreTrees, only}
use Rattle.cu_syntax.specs.contracts.symbol.Symbol as symbols
use Rattle.cu_syntax.specs.declared.declaration_forms.Left.{Left}
use Rattle.cu_syntax.specs.declared.declarations.Declaration.{Declaration}
use Rattle.cu_syntax.specs.declared.declarations.Guard.{Guard}
use Rattle.cu_syntax.specs.declared.declarations.RightSide.{RightSide}
use Rattle.cu_syntax.specs.declared.expressions.Expression.{Expression}
use Rattle.cu_syntax.specs.declared.name.Name.{Name}
use Rattle.cu_syntax.specs.declared.patterns.Pattern.{Pattern}
use Rattle.cu_syntax.specs.declared.patterns.PatternNode.{PatternNode}
use Rattle.cu_syntax.specs.declared.patterns.PatternNode.TheVariants as node
use Rattle.cu_syntax.specs.declared.subtree.Subtree.{Subtree}
use Rattle.cu_syntax.specs.declared.symbol.Symbol.{Symbol}
use Rattle.cu_syntax.specs.declared.symbol.Symbol.TheVariants as symbol
use Rattle.cu_syntax.specs.declared.types.TypeTerm.{TypeTerm}
use Rattle.cu_syntax.specs.Declarations.{Guards, One, declaration_meaning, declarations_meaning, guards_in, guards_meaning, left_meaning, right_meaning, right_of, with_guard}
use Rattle.cu_syntax.specs.ExpressionMeaning.{expression_meaning}
use Rattle.cu_syntax.specs.Inside.Fits.{fits}
use Rattle.cu_syntax.specs.Forms.{is_among, is_body, is_declaration, is_guard, is_left_node, is_left_side, is_right_node, is_rule, left_of}
use Rattle.cu_syntax.specs.Names.{name_meaning}
use Rattle.cu_syntax.specs.Patterns.{pattern_meaning, pattern_node, pattern_tree, patterns_meaning}
use Rattle.cu_syntax.specs.Reading.{LeftSide, OfFunction, OfPattern, Tree, Trees, and_patterns, arguments_in, block_of, declaration_as, declarations_of, expression_of, guards_of, left_as, left_choice, name_of, names_in, place, right_as, right_side, rule_of, where_block, with_arguments}
use Rattle.cu_syntax.specs.SubtreeMeaning.{tree_of}
use Rattle.cu_syntax.specs.Subtrees.{Takes, has_token, is_choice, part_of, sequence, trees_from}
use Rattle.cu_syntax.specs.Syntax as syntax
use Rattle.cu_syntax.specs.Table as table
use Rattle.cu_syntax.specs.Types.{type_meaning}
use Rattle.cu_syntax.proofs.ExpressionForms.{expression_is}
use Rattle.cu_syntax.proofs.PatternForms.{HasSymbol, arguments_are, pattern_is}
use Rattle.cu_syntax.proofs.ShapeLemmas.{Each, among_all, among_rest, each_at, fits_as, form, never, parted, part_fits, taken, takes_as}
use Rattle.cu_syntax.proofs.TypeForms.{term_is}
use Rattle.cu_syntax.proofs.ViewLemmas.{ap₃, folded, folded_push}

-- what holds of each symbol of a list holds of one among them
pub among_each : (P : Symbol → Type 0) (ts : List Symbol) (s : Symbol) → Each P ts → is_among ts s ≡ true → P s
among_each P [] s h e = never e
among_each P (t ∷ ts) s h e =
    elim (or_cases (sameb symbols.the_type t s) (is_among ts s) e) [
      | inl same ↦ subst P (same_true symbols.the_type tt t s same) h.0
      | inr other ↦ among_each P ts s h.1 other
    ]

-- a symbol with this part
abbrev pub HasPart : ℕ → Symbol → Symbol → Type 0
HasPart n p s = slice_get (sequence (table.rule_of s)) n ≡ Some p

pub has_part : (s t : Symbol) (n : ℕ) (p : Symbol) → s ≡ t → HasPart n p t → HasPart n p s
has_part s t n p e h = ap (λ (a : Symbol). slice_get (sequence (table.rule_of a)) n) e ∙ h

-- what is inside a result, by a function of it
pub ok_through : {X Y Z E : Type 0} (f : X → Y) (g : Y → Z) (r : Result X E) (y : Y) (z : Z) → IfOk r (λ x. f x ≡ y) → g y ≡ z → IfOk r (λ x. g (f x) ≡ z)
ok_through f g (Ok x) y z h e = ap g h ∙ e
ok_through f g (Err error) y z h e = tt

-- lists of things, each read by itself

-- something before others
abbrev pub before : {X A : Type 0} → (X → A) → X → List A → List A
before f x rest = f x ∷ rest

pub before_folded : {X A : Type 0} (f : X → A) (xs : List X) → folded (before f) xs [] ≡ map f xs
before_folded f [] = refl
before_folded f (x ∷ xs) = ap (λ ys. f x ∷ ys) (before_folded f xs)

-- declarations of free variables, and signatures

pub free_is : (s : Symbol) (tree part : Tree) (at : Position) (variables : List syntax.Name) → s ≡ symbol.FreeDecl → fits s tree ≡ true → at ≡ place tree → part ≡ part_of tree 0
    → variables ≡ names_in part → syntax.FreeVariables at variables ≡ declaration_as symbol.FreeDecl tree
free_is s tree part at variables e h a p n =
    let m = form s symbol.FreeDecl symbol.VarIdList (symbol.Free ∷ []) tree e h refl refl in
    ap₂ syntax.FreeVariables (a ∙ m.at) (n ∙ ap names_in p) ∙ sym (ap (declaration_as symbol.FreeDecl) m.is)

pub signature_is : (names : List (List ℕ)) (s : Symbol) (tree first : Tree) (last : Subtree) (at : Position) (functions : List syntax.Name) (t : TypeTerm) → s ≡ symbol.Signature
    → fits s tree ≡ true → at ≡ place tree → first ≡ part_of tree 0 → functions ≡ names_in first → t.tree ≡ last → last.symbol ≡ symbol.TypeExp → tree_of names last ≡ part_of tree 2
    → syntax.Signature at functions (type_meaning names t) ≡ declaration_as symbol.Signature tree
signature_is names s tree first last at functions t e h a f n q k p =
    let m = form s symbol.Signature symbol.VarList (symbol.DoubleColon ∷ symbol.TypeExp ∷ []) tree e h refl refl in
    ap₃ syntax.Signature (a ∙ m.at) (n ∙ ap names_in f) (term_is names t last symbol.TypeExp (part_of tree 2) q k p) ∙ sym (ap (declaration_as symbol.Signature) m.is)

-- rules

abbrev rules : List Symbol
rules = symbol.Rule ∷ symbol.TopRule ∷ []

pub rule_has_token : (s : Symbol) → is_rule s ≡ true → has_token s ≡ true
rule_has_token s h = among_all has_token rules s refl h

pub rule_part : (s : Symbol) → is_rule s ≡ true → HasPart 1 symbol.Rhs s
rule_part s h = among_each (HasPart 1 symbol.Rhs) rules s (refl, (refl, tt)) h

abbrev ReadsRule : Symbol → Type 0
ReadsRule s = (tree body local : Tree) → fits s tree ≡ true → part_of tree 1 ≡ Parts (MoreTrees body (only local))
    → declaration_as s tree ≡ rule_of (place tree) (left_choice (left_of s) (part_of tree 0)) (right_side symbol.RhsBody body (where_block local))

pub reads_local : ReadsRule symbol.Rule
reads_local tree body local h r =
    let m = form symbol.Rule symbol.Rule symbol.Lhs (symbol.Rhs ∷ []) tree refl h refl refl in
    ap (declaration_as symbol.Rule) m.is
    ∙ ap (λ t. declaration_as symbol.Rule (Parts (MoreTrees (part_of tree 0) (MoreTrees t NoTree)))) r
    ∙ ap (λ at. rule_of at (left_choice symbol.Lhs (part_of tree 0)) (right_side symbol.RhsBody body (where_block local))) (sym m.at)

pub reads_top : ReadsRule symbol.TopRule
reads_top tree body local h r =
    let m = form symbol.TopRule symbol.TopRule symbol.FunctionLhs (symbol.Rhs ∷ []) tree refl h refl refl in
    ap (declaration_as symbol.TopRule) m.is
    ∙ ap (λ t. declaration_as symbol.TopRule (Parts (MoreTrees (part_of tree 0) (MoreTrees t NoTree)))) r
    ∙ ap (λ at. rule_of at (left_choice symbol.FunctionLhs (part_of tree 0)) (right_side symbol.RhsBody body (where_block local))) (sym m.at)

-- What a rule's left-hand and right-hand sides say is what the rule says.
pub rule_is : (names : List (List ℕ)) (s t : Symbol) (tree left rhs : Tree) (at : Position) (found : LeftSide) (r : RightSide) (d : syntax.Declaration) → is_rule s ≡ true → fits s tree ≡ true
    → left ≡ part_of tree 0 → left_of s ≡ t → at ≡ place tree → found ≡ left_choice t left → r.body.symbol ≡ symbol.RhsBody → rhs ≡ part_of tree 1
    → rhs ≡ Parts (MoreTrees (tree_of names r.body) (only (tree_of names r.local))) → d ≡ rule_of at found (right_meaning names r) → d ≡ declaration_as s tree
rule_is names s t tree left rhs at found r d e h l k a f b p q i =
    let side = right_side symbol.RhsBody (tree_of names r.body) (where_block (tree_of names r.local)) in
    let same : right_meaning names r ≡ side = ap (λ x. right_side x (tree_of names r.body) (where_block (tree_of names r.local))) b in
    i ∙ ap₃ rule_of a (f ∙ ap₂ left_choice (sym k) l) same
    ∙ sym (among_each ReadsRule rules s (reads_local, (reads_top, tt)) e tree (tree_of names r.body) (tree_of names r.local) h (sym p ∙ q))

-- a variable alone
pub variable_rule : (names : List (List ℕ)) (at : Position) (n : syntax.Name) (p : syntax.Pattern) (parameters : List Pattern) (r : syntax.RightSide) → syntax.PatternVariable n ≡ p
    → parameters ≡ [] → syntax.FunctionRule at n (patterns_meaning names parameters) r ≡ rule_of at (OfPattern p) r
variable_rule names at n p parameters r e none = ap (λ ps. syntax.FunctionRule at n (patterns_meaning names ps) r) none ∙ ap (λ x. rule_of at (OfPattern x) r) e

-- another pattern
not_variable : (names : List (List ℕ)) (found : PatternNode) (at : Position) (r : syntax.RightSide) → ((x : Name) → found ≡ node.Variable x → ⊥)
    → syntax.PatternBinding at (pattern_node names found) r ≡ rule_of at (OfPattern (pattern_node names found)) r
not_variable names (node.Variable x) at r other = absurd (other x refl)
not_variable names (node.Alias x p) at r other = refl
not_variable names (node.Wildcard p) at r other = refl
not_variable names (node.Literal p l) at r other = refl
not_variable names (node.Negative p n) at r other = refl
not_variable names (node.Constructed p x arguments) at r other = refl
not_variable names (node.Tuple p components) at r other = refl
not_variable names (node.List p elements) at r other = refl
not_variable names (node.Operators items) at r other = refl

pub binding_rule : (names : List (List ℕ)) (found : PatternNode) (at : Position) (p : syntax.Pattern) (r : syntax.RightSide) → pattern_node names found ≡ p
    → ((x : Name) → found ≡ node.Variable x → ⊥) → syntax.PatternBinding at p r ≡ rule_of at (OfPattern p) r
binding_rule names found at p r e other = subst (λ (x : syntax.Pattern). syntax.PatternBinding at x r ≡ rule_of at (OfPattern x) r) e (not_variable names found at r other)

-- left-hand sides

abbrev left_nodes : List Symbol
left_nodes = symbol.InfixLhs ∷ symbol.PrefixLhs ∷ symbol.PatternLhs ∷ []

-- those in parentheses too
abbrev pub is_left : Symbol → Bool
is_left = is_among (symbol.ParenthesizedLhs ∷ symbol.InfixLhs ∷ symbol.PrefixLhs ∷ symbol.PatternLhs ∷ [])

pub left_bare : (s : Symbol) → ¬ (s ≡ symbol.ParenthesizedLhs) → is_left s ≡ true → is_left_node s ≡ true
left_bare s other h = sym (among_rest s symbol.ParenthesizedLhs left_nodes other) ∙ h

abbrev left_sides : List Symbol
left_sides = symbol.Lhs ∷ symbol.FunctionLhs ∷ []

pub left_choices : (s : Symbol) → is_left_side s ≡ true → is_choice (table.rule_of s) ≡ true
left_choices s h = among_all (λ t. is_choice (table.rule_of t)) left_sides s refl h

-- What a choice took is the same left-hand side.
pub record SameLeft (s : Symbol) (tree : Tree) (chosen : Symbol) (inner : Tree) : Type 0 where
  pub is_left : is_left chosen ≡ true
  pub same : left_as chosen inner ≡ left_choice s tree

abbrev IsLeft : Symbol → Type 0
IsLeft s = is_left s ≡ true

abbrev TakesLeft : Symbol → Type 0
TakesLeft s = (tree : Tree) (chosen : Symbol) (inner : Tree) → fits s tree ≡ true → Takes s tree chosen inner → SameLeft s tree chosen inner

abbrev local_alternatives : List Symbol
local_alternatives = symbol.InfixLhs ∷ symbol.ParenthesizedLhs ∷ symbol.PrefixLhs ∷ symbol.PatternLhs ∷ []

left_taken_local : TakesLeft symbol.Lhs
left_taken_local tree chosen inner h t =
    let m = taken symbol.Lhs local_alternatives tree chosen inner refl h t in
    record {
      is_left = each_at IsLeft local_alternatives m.number chosen (refl, (refl, (refl, (refl, tt)))) m.found;
      same = ap (λ a. left_as a inner) (sym m.symbol) ∙ sym (ap (left_choice symbol.Lhs) m.is);
    }

abbrev top_alternatives : List Symbol
top_alternatives = symbol.InfixLhs ∷ symbol.ParenthesizedLhs ∷ symbol.PrefixLhs ∷ []

left_taken_top : TakesLeft symbol.FunctionLhs
left_taken_top tree chosen inner h t =
    let m = taken symbol.FunctionLhs top_alternatives tree chosen inner refl h t in
    record {
      is_left = each_at IsLeft top_alternatives m.number chosen (refl, (refl, (refl, tt))) m.found;
      same = ap (λ a. left_as a inner) (sym m.symbol) ∙ sym (ap (left_choice symbol.FunctionLhs) m.is);
    }

pub left_taken : (s : Symbol) (tree : Tree) (chosen : Symbol) (inner : Tree) → is_left_side s ≡ true → fits s tree ≡ true → Takes s tree chosen inner → SameLeft s tree chosen inner
left_taken s tree chosen inner e h t = among_each TakesLeft left_sides s (left_taken_local, (left_taken_top, tt)) e tree chosen inner h t

-- the left-hand side with the parameters of a tree after it
abbrev pub with_further : List (List ℕ) → Subtree → LeftSide → LeftSide
with_further names part left = with_arguments left (arguments_in (tree_of names part))

-- What stands in parentheses, with the parameters after them.
pub left_inside : (names : List (List ℕ)) (s t : Symbol) (tree first chosen : Tree) (c : Symbol) (last : Subtree) (further after : List Subtree) (whole : LeftSide)
    → s ≡ symbol.ParenthesizedLhs → fits s tree ≡ true → tree_of names last ≡ part_of tree 3 → first ≡ part_of tree 1 → t ≡ symbol.Lhs → left_as c chosen ≡ left_choice t first
    → after ≡ further ++ last ∷ [] → folded (with_further names) further (left_as s tree) ≡ whole → folded (with_further names) after (left_as c chosen) ≡ whole
left_inside names s t tree first chosen c last further after whole e h l f k same a w =
    let m = form s symbol.ParenthesizedLhs symbol.OpenParen (symbol.Lhs ∷ symbol.CloseParen ∷ symbol.PatArguments ∷ []) tree e h refl refl in
    let here : left_as s tree ≡ with_further names last (left_as c chosen) =
    ap (λ a. left_as a tree) e ∙ ap (left_as symbol.ParenthesizedLhs) m.is
    ∙ sym (ap₂ (λ x y. with_arguments x (arguments_in y)) (same ∙ ap₂ left_choice k f) l) in
    ap (λ xs. folded (with_further names) xs (left_as c chosen)) a ∙ folded_push (with_further names) further last (left_as c chosen)
    ∙ sym (ap (folded (with_further names) further) here) ∙ w

-- The parameters after the parentheses are added to the function's.
pub left_outside : (names : List (List ℕ)) (last : Subtree) (further before : List Subtree) (arguments : List Pattern) (left after whole : LeftSide) → before ≡ further ++ last ∷ []
    → tree_of names last ≡ Parts (trees_from (map (pattern_tree names) arguments)) → All (HasSymbol symbol.APat) arguments → after ≡ with_arguments left (patterns_meaning names arguments)
    → folded (with_further names) before left ≡ whole → folded (with_further names) further after ≡ whole
left_outside names last further before arguments left after whole b t k a w =
    let here : after ≡ with_further names last left = a ∙ ap (with_arguments left) (arguments_are names arguments k ∙ sym (ap arguments_in t)) in
    ap (folded (with_further names) further) here ∙ sym (folded_push (with_further names) further last left) ∙ sym (ap (λ xs. folded (with_further names) xs left) b) ∙ w

pub left_done : (names : List (List ℕ)) (further : List Subtree) (left whole : LeftSide) → further ≡ [] → folded (with_further names) further left ≡ whole → left ≡ whole
left_done names further left whole none w = sym (ap (λ xs. folded (with_further names) xs left) none) ∙ w

pub left_begun : (names : List (List ℕ)) (further : List Subtree) (left whole : LeftSide) → further ≡ [] → left ≡ whole → folded (with_further names) further left ≡ whole
left_begun names further left whole none w = ap (λ xs. folded (with_further names) xs left) none ∙ w

pub infix_is : (names : List (List ℕ)) (s : Symbol) (tree : Tree) (one two : Subtree) (middle : Tree) (name : syntax.Name) (p q : Pattern) (parameters : List Pattern) → s ≡ symbol.InfixLhs
    → fits s tree ≡ true → p.tree ≡ one → one.symbol ≡ symbol.Pat → tree_of names one ≡ part_of tree 0 → q.tree ≡ two → two.symbol ≡ symbol.Pat → tree_of names two ≡ part_of tree 2
    → middle ≡ part_of tree 1 → name ≡ name_of middle → parameters ≡ p ∷ q ∷ [] → OfFunction name (patterns_meaning names parameters) ≡ left_as s tree
infix_is names s tree one two middle name p q parameters e h p' k t q' l u m n v =
    let f = form s symbol.InfixLhs symbol.Pat (symbol.VarOp ∷ symbol.Pat ∷ []) tree e h refl refl in
    ap (λ ps. OfFunction name (patterns_meaning names ps)) v
    ∙ ap₃ (λ x y z. OfFunction x (syntax.MorePatterns y (syntax.MorePatterns z syntax.NoPattern))) (n ∙ ap name_of m)
    (pattern_is names p one symbol.Pat (part_of tree 0) p' k t) (pattern_is names q two symbol.Pat (part_of tree 2) q' l u)
    ∙ sym (ap (left_as symbol.InfixLhs) f.is) ∙ sym (ap (λ a. left_as a tree) e)

pub prefix_is : (names : List (List ℕ)) (s : Symbol) (tree first part : Tree) (name : syntax.Name) (parameters : List Pattern) → s ≡ symbol.PrefixLhs → fits s tree ≡ true
    → first ≡ part_of tree 0 → name ≡ name_of first → part ≡ part_of tree 1 → part ≡ Parts (trees_from (map (pattern_tree names) parameters)) → All (HasSymbol symbol.APat) parameters
    → OfFunction name (patterns_meaning names parameters) ≡ left_as s tree
prefix_is names s tree first part name parameters e h f n p t k =
    let m = form s symbol.PrefixLhs symbol.Var (symbol.APats ∷ symbol.RhsAhead ∷ []) tree e h refl refl in
    ap₂ OfFunction (n ∙ ap name_of f) (arguments_are names parameters k ∙ ap arguments_in (sym t ∙ p))
    ∙ sym (ap (left_as symbol.PrefixLhs) m.is) ∙ sym (ap (λ a. left_as a tree) e)

pub pattern_side_is : (names : List (List ℕ)) (s : Symbol) (tree : Tree) (part : Subtree) (p : Pattern) → s ≡ symbol.PatternLhs → fits s tree ≡ true → p.tree ≡ part
    → part.symbol ≡ symbol.Pat → tree_of names part ≡ part_of tree 0 → OfPattern (pattern_meaning names p) ≡ left_as s tree
pattern_side_is names s tree part p e h q k t =
    let m = form s symbol.PatternLhs symbol.Pat (symbol.EqualsAhead ∷ []) tree e h refl refl in
    ap OfPattern (pattern_is names p part symbol.Pat (part_of tree 0) q k t) ∙ sym (ap (left_as symbol.PatternLhs) m.is) ∙ sym (ap (λ a. left_as a tree) e)

pub more_patterns : (names : List (List ℕ)) (some others : List Pattern) → patterns_meaning names (some ++ others) ≡ and_patterns (patterns_meaning names some) (patterns_meaning names others)
more_patterns names [] others = refl
more_patterns names (p ∷ some) others = ap (syntax.MorePatterns (pattern_meaning names p)) (more_patterns names some others)

pub added_parameters : (names : List (List ℕ)) (left : Left) (name : Name) (some more : List Pattern) (after arguments : List Pattern) → OfFunction (name_meaning names name) (patterns_meaning names some) ≡ left_meaning names left
    → after ≡ some ++ more → more ≡ arguments → OfFunction (name_meaning names name) (patterns_meaning names after) ≡ with_arguments (left_meaning names left) (patterns_meaning names arguments)
added_parameters names left name some more after arguments e a m =
    ap (λ ps. OfFunction (name_meaning names name) (patterns_meaning names ps)) a ∙ ap (OfFunction (name_meaning names name)) (more_patterns names some more)
    ∙ ap₂ (λ x ps. with_arguments x (patterns_meaning names ps)) e m

-- right-hand sides

abbrev bodies : List Symbol
bodies = symbol.RhsBody ∷ symbol.AltBody ∷ []

pub body_choices : (s : Symbol) → is_body s ≡ true → is_choice (table.rule_of s) ≡ true
body_choices s h = among_all (λ t. is_choice (table.rule_of t)) bodies s refl h

-- What a choice took is the same right-hand side.
pub record SameRight (s : Symbol) (tree : Tree) (chosen : Symbol) (inner : Tree) : Type 0 where
  pub is_right : is_right_node chosen ≡ true
  pub same : (local : syntax.Declarations) → right_as chosen inner local ≡ right_side s tree local

abbrev IsRight : Symbol → Type 0
IsRight s = is_right_node s ≡ true

abbrev TakesRight : Symbol → Type 0
TakesRight s = (tree : Tree) (chosen : Symbol) (inner : Tree) → fits s tree ≡ true → Takes s tree chosen inner → SameRight s tree chosen inner

right_taken_rule : TakesRight symbol.RhsBody
right_taken_rule tree chosen inner h t =
    let m = taken symbol.RhsBody (symbol.PlainRhs ∷ symbol.GuardedRhs ∷ []) tree chosen inner refl h t in
    record {
      is_right = each_at IsRight (symbol.PlainRhs ∷ symbol.GuardedRhs ∷ []) m.number chosen (refl, (refl, tt)) m.found;
      same = λ local. ap (λ a. right_as a inner local) (sym m.symbol) ∙ sym (ap (λ x. right_side symbol.RhsBody x local) m.is);
    }

right_taken_alternative : TakesRight symbol.AltBody
right_taken_alternative tree chosen inner h t =
    let m = taken symbol.AltBody (symbol.PlainAlt ∷ symbol.GuardedAlts ∷ []) tree chosen inner refl h t in
    record {
      is_right = each_at IsRight (symbol.PlainAlt ∷ symbol.GuardedAlts ∷ []) m.number chosen (refl, (refl, tt)) m.found;
      same = λ local. ap (λ a. right_as a inner local) (sym m.symbol) ∙ sym (ap (λ x. right_side symbol.AltBody x local) m.is);
    }

pub right_taken : (s : Symbol) (tree : Tree) (chosen : Symbol) (inner : Tree) → is_body s ≡ true → fits s tree ≡ true → Takes s tree chosen inner → SameRight s tree chosen inner
right_taken s tree chosen inner e h t = among_each TakesRight bodies s (right_taken_rule, (right_taken_alternative, tt)) e tree chosen inner h t

abbrev pub right_nodes : List Symbol
right_nodes = symbol.PlainRhs ∷ symbol.GuardedRhs ∷ symbol.PlainAlt ∷ symbol.GuardedAlts ∷ []

pub right_has_token : (s : Symbol) → is_right_node s ≡ true → has_token s ≡ true
right_has_token s h = among_all has_token right_nodes s refl h

pub plain_rule_is : (names : List (List ℕ)) (s : Symbol) (tree : Tree) (part : Subtree) (x : Expression) (local : syntax.Declarations) → s ≡ symbol.PlainRhs → fits s tree ≡ true
    → x.tree ≡ part → part.symbol ≡ symbol.Exp → tree_of names part ≡ part_of tree 1 → right_of (place tree) (One (expression_meaning names x)) local ≡ right_as s tree local
plain_rule_is names s tree part x local e h q k t =
    let m = form s symbol.PlainRhs symbol.Equals (symbol.Exp ∷ []) tree e h refl refl in
    ap₂ (λ a y. syntax.Plain a y local) m.at (expression_is names x part symbol.Exp (part_of tree 1) q k t)
    ∙ sym (ap (λ y. right_as symbol.PlainRhs y local) m.is) ∙ sym (ap (λ a. right_as a tree local) e)

pub plain_alternative_is : (names : List (List ℕ)) (s : Symbol) (tree : Tree) (part : Subtree) (x : Expression) (local : syntax.Declarations) → s ≡ symbol.PlainAlt → fits s tree ≡ true
    → x.tree ≡ part → part.symbol ≡ symbol.Exp → tree_of names part ≡ part_of tree 1 → right_of (place tree) (One (expression_meaning names x)) local ≡ right_as s tree local
plain_alternative_is names s tree part x local e h q k t =
    let m = form s symbol.PlainAlt symbol.RightArrow (symbol.Exp ∷ []) tree e h refl refl in
    ap₂ (λ a y. syntax.Plain a y local) m.at (expression_is names x part symbol.Exp (part_of tree 1) q k t)
    ∙ sym (ap (λ y. right_as symbol.PlainAlt y local) m.is) ∙ sym (ap (λ a. right_as a tree local) e)

-- guards

pub guarded_rule_is : (s : Symbol) (tree : Tree) (local : syntax.Declarations) → s ≡ symbol.GuardedRhs → fits s tree ≡ true
    → right_of (place tree) (Guards (guards_in tree)) local ≡ right_as s tree local
guarded_rule_is s tree local e h =
    let t = parted symbol.GuardedRhs tree refl (fits_as s symbol.GuardedRhs tree e h) in
    ap (λ x. right_of (place x) (Guards (guards_in x)) local) t ∙ sym (ap (λ x. right_as symbol.GuardedRhs x local) t) ∙ sym (ap (λ a. right_as a tree local) e)

pub guarded_alternative_is : (s : Symbol) (tree : Tree) (local : syntax.Declarations) → s ≡ symbol.GuardedAlts → fits s tree ≡ true
    → right_of (place tree) (Guards (guards_in tree)) local ≡ right_as s tree local
guarded_alternative_is s tree local e h =
    let t = parted symbol.GuardedAlts tree refl (fits_as s symbol.GuardedAlts tree e h) in
    ap (λ x. right_of (place x) (Guards (guards_in x)) local) t ∙ sym (ap (λ x. right_as symbol.GuardedAlts x local) t) ∙ sym (ap (λ a. right_as a tree local) e)

pub guards_folded : (names : List (List ℕ)) (found : List Guard) → folded (with_guard names) found syntax.NoGuard ≡ guards_meaning names found
guards_folded names [] = refl
guards_folded names (g ∷ found) = ap (with_guard names g) (guards_folded names found)

abbrev guard_symbols : List Symbol
guard_symbols = symbol.GuardedExp ∷ symbol.GuardedAlt ∷ []

abbrev ReadsGuard : Symbol → Type 0
ReadsGuard s = (tree : Tree) (rest : Trees) → fits s tree ≡ true
    → guards_of (MoreTrees tree rest) ≡ syntax.MoreGuards (place tree) (expression_of (part_of tree 1)) (expression_of (part_of tree 3)) (guards_of rest)

guard_of_rule : ReadsGuard symbol.GuardedExp
guard_of_rule tree rest h =
    let m = form symbol.GuardedExp symbol.GuardedExp symbol.Bar (symbol.Exp ∷ symbol.Equals ∷ symbol.Exp ∷ []) tree refl h refl refl in
    ap (λ t. guards_of (MoreTrees t rest)) m.is
    ∙ ap (λ at. syntax.MoreGuards at (expression_of (part_of tree 1)) (expression_of (part_of tree 3)) (guards_of rest)) (sym m.at)

guard_of_alternative : ReadsGuard symbol.GuardedAlt
guard_of_alternative tree rest h =
    let m = form symbol.GuardedAlt symbol.GuardedAlt symbol.Bar (symbol.Exp ∷ symbol.RightArrow ∷ symbol.Exp ∷ []) tree refl h refl refl in
    ap (λ t. guards_of (MoreTrees t rest)) m.is
    ∙ ap (λ at. syntax.MoreGuards at (expression_of (part_of tree 1)) (expression_of (part_of tree 3)) (guards_of rest)) (sym m.at)

pub guard_is : (names : List (List ℕ)) (s : Symbol) (tree : Tree) (one two : Subtree) (at : Position) (x y : Expression) (rest : Trees) → is_guard s ≡ true → fits s tree ≡ true
    → at ≡ place tree → x.tree ≡ one → one.symbol ≡ symbol.Exp → tree_of names one ≡ part_of tree 1 → y.tree ≡ two → two.symbol ≡ symbol.Exp → tree_of names two ≡ part_of tree 3
    → guards_of (MoreTrees tree rest) ≡ syntax.MoreGuards at (expression_meaning names x) (expression_meaning names y) (guards_of rest)
guard_is names s tree one two at x y rest e h a q k t r l u =
    among_each ReadsGuard guard_symbols s (guard_of_rule, (guard_of_alternative, tt)) e tree rest h
    ∙ sym (ap₃ (λ b c d. syntax.MoreGuards b c d (guards_of rest)) a (expression_is names x one symbol.Exp (part_of tree 1) q k t)
    (expression_is names y two symbol.Exp (part_of tree 3) r l u))

-- blocks

pub where_is : (s : Symbol) (tree inner part : Tree) → tree ≡ Parts (only inner) → s ≡ symbol.WhereBlock → fits s inner ≡ true → part ≡ part_of inner 1 → block_of part ≡ where_block tree
where_is s tree inner part t e h p =
    let m = form s symbol.WhereBlock symbol.Where (symbol.Block ∷ []) inner e h refl refl in
    ap block_of p ∙ sym (ap (λ x. where_block (Parts (only x))) m.is) ∙ sym (ap where_block t)

-- the declarations of a list of them
abbrev pub declarations_in : Tree → syntax.Declarations
declarations_in (Parts trees) = declarations_of trees
declarations_in _ = syntax.NoDeclaration

abbrev block_parts : List Symbol
block_parts = symbol.OpenBrace ∷ symbol.DeclList ∷ symbol.CloseBrace ∷ []

pub block_is : (s : Symbol) (tree part : Tree) → s ≡ symbol.Block → fits s tree ≡ true → part ≡ part_of tree 1 → declarations_in part ≡ block_of tree
block_is s tree part e h p =
    let m = form s symbol.Block symbol.OpenBrace (symbol.DeclList ∷ symbol.CloseBrace ∷ []) tree e h refl refl in
    let one = parted symbol.DeclList (part_of tree 1) refl (part_fits symbol.Block block_parts tree 1 symbol.DeclList refl (fits_as s symbol.Block tree e h) refl) in
    ap declarations_in (p ∙ one)
    ∙ sym (ap (λ t. block_of (Parts (MoreTrees (part_of tree 0) (MoreTrees t (MoreTrees (part_of tree 2) NoTree))))) one)
    ∙ sym (ap block_of m.is)

-- a declaration before others
abbrev pub with_declaration : List (List ℕ) → Declaration → syntax.Declarations → syntax.Declarations
with_declaration names d rest = syntax.MoreDeclarations (declaration_meaning names d) rest

pub declarations_folded : (names : List (List ℕ)) (found : List Declaration) → folded (with_declaration names) found syntax.NoDeclaration ≡ declarations_meaning names found
declarations_folded names [] = refl
declarations_folded names (d ∷ found) = ap (with_declaration names d) (declarations_folded names found)

abbrev IsDeclaration : Symbol → Type 0
IsDeclaration s = is_declaration s ≡ true

-- What a choice took is the declaration.
pub record DeclarationTaken (tree : Tree) (chosen : Symbol) (inner : Tree) : Type 0 where
  pub is_declaration : is_declaration chosen ≡ true
  pub is : (rest : Trees) → declarations_of (MoreTrees (Parts (only tree)) rest) ≡ syntax.MoreDeclarations (declaration_as chosen inner) (declarations_of rest)

pub declaration_taken : (s : Symbol) (tree : Tree) (chosen : Symbol) (inner : Tree) → s ≡ symbol.Decl → fits s tree ≡ true → Takes s tree chosen inner → DeclarationTaken tree chosen inner
declaration_taken s tree chosen inner e h t =
    let m = taken symbol.Decl (symbol.FreeDecl ∷ symbol.Signature ∷ symbol.Rule ∷ []) tree chosen inner refl (fits_as s symbol.Decl tree e h) (takes_as s symbol.Decl tree chosen inner e t) in
    record {
      is_declaration = each_at IsDeclaration (symbol.FreeDecl ∷ symbol.Signature ∷ symbol.Rule ∷ []) m.number chosen (refl, (refl, (refl, tt))) m.found;
      is = λ rest. ap (λ x. declarations_of (MoreTrees (Parts (only x)) rest)) m.is ∙ ap (λ a. syntax.MoreDeclarations (declaration_as a inner) (declarations_of rest)) m.symbol;
    }

-- the declaration at a place of a block
pub declaration_there : (names : List (List ℕ)) (spot inner : Tree) (chosen : Subtree) (d : Declaration) (rest : Trees) → spot ≡ Parts (only inner)
    → DeclarationTaken inner chosen.symbol (tree_of names chosen) → d.tree ≡ chosen
    → declarations_of (MoreTrees spot rest) ≡ with_declaration names d (declarations_of rest)
declaration_there names spot inner chosen d rest p t q =
    ap (λ x. declarations_of (MoreTrees x rest)) p ∙ t.is rest
    ∙ sym (ap (λ (x : Subtree). syntax.MoreDeclarations (declaration_as x.symbol (tree_of names x)) (declarations_of rest)) q)

pub no_declaration : (spot : Tree) (rest : Trees) → spot ≡ Parts NoTree → declarations_of (MoreTrees spot rest) ≡ declarations_of rest
no_declaration spot rest p = ap (λ x. declarations_of (MoreTrees x rest)) p

-- declarations

abbrev pub declarations : List Symbol
declarations = symbol.FreeDecl ∷ symbol.Signature ∷ symbol.Rule ∷ symbol.TopRule ∷ []

pub declaration_has_token : (s : Symbol) → is_declaration s ≡ true → has_token s ≡ true
declaration_has_token s h = among_all has_token declarations s refl h
