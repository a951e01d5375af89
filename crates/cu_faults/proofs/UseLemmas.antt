-- Names of set functions, and operators in the order of their tree.
use Rattle.std.proofs.Common.{◌≡◌, ◌∙◌, ◌<◌, ◌≤◌, ◌+◌, ◌-◌, arith, ℕ, true, false, List, [], ◌∷◌, ◌++◌, Option, None, Some, IfNone, IfSome, length, drop, get_or, map, refl, sym, ap, ap₂, add-one}
use Rattle.std.proofs.Math.Seq.{drop-cons}
use Rattle.std.proofs.lemmas.List.{append-nil, append_assoc, drop_all, length-drop, length-map}
use Rattle.std.specs.Option.{is_some, option_map}
use Rattle.std.specs.declared.alloc.Global.{Global}
use Rattle.std.specs.declared.vec.Vec.{Vec}
use Rattle.cu_calculus.specs.declared.Head.TheVariants as global
use Rattle.cu_fixity.specs.Grouping.{Applied, Between, HasNoTree, Infix, Item, Leaf, Tree}
use Rattle.cu_fixity.specs.Operators.{IsGrouped, Minus, Named, Operator, expression_items, fixity_with, polish}
use Rattle.cu_fixity.specs.Owners.{PartIsOf}
use Rattle.cu_fixity.specs.Resolving.{expression_parts, item_of}
use Rattle.cu_fixity.specs.declared.fixity.Fixity.{Fixity}
use Rattle.cu_fixity.specs.declared.part.Part.{Part}
use Rattle.cu_fixity.specs.declared.part.Part.TheVariants as part
use Rattle.cu_forms.specs.Forms.{name_alone_form}
use Rattle.cu_kernel.specs.declared.local.LocalHead.TheVariants as head
use Rattle.cu_lex.specs.Reading.{position_of}
use Rattle.cu_syntax.specs.declared.expressions.Expression as code
use Rattle.cu_syntax.specs.declared.expressions.ExpressionNode.{ExpressionNode}
use Rattle.cu_syntax.specs.declared.expressions.ExpressionNode.TheVariants as node
use Rattle.cu_syntax.specs.declared.expressions.Items.{Items}
use Rattle.cu_syntax.specs.declared.name.Name as names
use Rattle.cu_syntax.specs.ExpressionMeaning.{expression_meaning}
use Rattle.cu_syntax.specs.Expressions.{expression_node, items_meaning}
use Rattle.cu_syntax.specs.Names.{name_meaning}
use Rattle.cu_names.specs.declared.names.NameId.{NameId}
use Rattle.cu_syntax.specs.Owners.{ExpressionIsOf, NameIsOf}
use Rattle.cu_syntax.specs.Syntax.{Expression, Name, expression_position}
use Rattle.cu_translation.proofs.Trees.{grouped_exactly, none_exactly}
use Rattle.cu_translation.specs.Around as around
use Rattle.cu_translation.specs.Around.{Around, Referent, fixity_at}
use Rattle.cu_translation.specs.FaultOrder.{Fault, FixityClash, SetName, at_name, fault}
use Rattle.cu_translation.specs.Faults.{clash_unless, clashes_at, faults_in_tree, is_set_call, leaf_name, operation_faults, tree_faults, tree_of, use_faults}
use Rattle.cu_translation.specs.LocalNames.{Local, LocalFunction, LocalVariable, Scope, local_named}
use Rattle.cu_translation.specs.Meaning.{Setting, referent_meaning}
use Rattle.cu_translation.specs.Sites.{Operation}
use Rattle.cu_translation.specs.declared.referents.Referent as referents
use Rattle.cu_translation.specs.declared.referents.Referent.TheVariants as referent
use Rattle.cu_faults.specs.declared.first.First.{First}
use Rattle.cu_faults.specs.Inside.Uses.{argument_name, before_faults, is_set_name, items_faults, operand_in, operand_name, operation_clash, operation_told, operator_in, operator_name, part_faults, parts_faults, use_told}
use Rattle.cu_faults.specs.Telling.{Told}
use Rattle.cu_faults.proofs.ClashLemmas.{is_tree, no_tree}
use Rattle.cu_faults.proofs.ToldLemmas.{told_as, told_both, told_none}

-- ---- names of set functions

pub no_argument : (w : Setting) (local : Scope) (found : Option code.Expression) → found ≡ None → None ≡ argument_name w local found
unfolding argument_name
no_argument w local found is = ap (argument_name w local) (sym is)

pub one_argument : (w : Setting) (local : Scope) (found : Option code.Expression) (e : code.Expression) → found ≡ Some e
    → name_alone_form w local e ≡ argument_name w local found
unfolding argument_name name_alone_form
one_argument w local found e is = ap (argument_name w local) (sym is)

-- what is no name of set functions
pub no_set_name : (r : referents.Referent) (m : Referent) (name : Name) (arguments : List (Option Referent)) → ((n : ℕ) → r ≡ referent.SetFunction n → ⊥) → referent_meaning r ≡ m
    → use_faults m name arguments ≡ []
no_set_name (referent.Variable x) m name arguments other is = ap (λ k. use_faults k name arguments) (sym is)
no_set_name (referent.Callable h n) m name arguments other is = ap (λ k. use_faults k name arguments) (sym is)
no_set_name (referent.SetFunction n) m name arguments other is = absurd (other n refl)
no_set_name referent.Nothing m name arguments other is = ap (λ k. use_faults k name arguments) (sym is)

set_name_by : (r : referents.Referent) (m : Referent) (n : ℕ) (name : Name) (arguments : List (Option Referent)) → r ≡ referent.SetFunction n → referent_meaning r ≡ m
    → use_faults m name arguments ≡ use_faults (around.SetFunction n) name arguments
set_name_by r m n name arguments is means = ap (λ k. use_faults k name arguments) (sym means ∙ ap referent_meaning is)

pub right_call : (r : referents.Referent) (m : Referent) (n : ℕ) (name : Name) (arguments : List (Option Referent)) → r ≡ referent.SetFunction n → referent_meaning r ≡ m
    → is_set_call n arguments ≡ true → use_faults m name arguments ≡ []
right_call r m n name arguments is means right = set_name_by r m n name arguments is means ∙ (rw right refl)

pub wrong_call : (r : referents.Referent) (m : Referent) (n : ℕ) (name : Name) (arguments : List (Option Referent)) → r ≡ referent.SetFunction n → referent_meaning r ≡ m
    → is_set_call n arguments ≡ false → use_faults m name arguments ≡ at_name SetName name ∷ []
wrong_call r m n name arguments is means wrong = set_name_by r m n name arguments is means ∙ (rw wrong refl)

-- no local name is one of set functions
not_of_top_level : (w : Setting) (found : Option Local) (name : Name) (arguments : List (Option Referent)) (r : Referent) → w.around.names.value name ≡ r → is_set_name r ≡ false
    → use_faults (around.local_or_else w.around found name) name arguments ≡ []
not_of_top_level w (Some (LocalVariable b)) name arguments r is other = refl
not_of_top_level w (Some (LocalFunction at n)) name arguments r is other = refl
not_of_top_level w None name arguments (around.Variable x) is other = ap (λ k. use_faults k name arguments) is
not_of_top_level w None name arguments (around.Callable h n) is other = ap (λ k. use_faults k name arguments) is
not_of_top_level w None name arguments (around.SetFunction n) is other = let no : ⊥ = cc in absurd no
not_of_top_level w None name arguments around.Nothing is other = ap (λ k. use_faults k name arguments) is

pub no_set_name_used : (w : Setting) (local : Scope) (name : names.Name) (arguments : List code.Expression) (r : referents.Referent)
    → referent_meaning r ≡ w.around.names.value (name_meaning w.names name) → is_set_name (referent_meaning r) ≡ false → use_told w local name arguments ≡ []
unfolding use_told
no_set_name_used w local name arguments r means other =
    not_of_top_level w (local_named local (name_meaning w.names name)) (name_meaning w.names name)
    (map (around.name_alone w.around local) (map (expression_meaning w.names) arguments)) (referent_meaning r) (sym means) other

without_arguments : (m : Referent) (name : Name) → use_faults m name (None ∷ []) ≡ use_faults m name []
without_arguments (around.Variable x) name = refl
without_arguments (around.Callable h n) name = refl
without_arguments (around.SetFunction n) name = refl
without_arguments around.Nothing name = refl

-- a name without arguments, and one with some
pub used_alone : (w : Setting) (local : Scope) (name : names.Name) (arguments : List code.Expression) → arguments ≡ []
    → use_faults (around.referent w.around local (name_meaning w.names name)) (name_meaning w.names name) (argument_name w local None ∷ []) ≡ use_told w local name arguments
unfolding use_told argument_name
used_alone w local name arguments is =
    without_arguments (around.referent w.around local (name_meaning w.names name)) (name_meaning w.names name)
    ∙ ap (λ es. use_faults (around.referent w.around local (name_meaning w.names name)) (name_meaning w.names name)
    (map (around.name_alone w.around local) (map (expression_meaning w.names) es))) (sym is)

-- the names of arguments
abbrev pub names_alone : Setting → Scope → List code.Expression → List (Option Referent)
names_alone w local es = map (around.name_alone w.around local) (map (expression_meaning w.names) es)

-- lists by their lengths
pub nothing_in : {X : Type 0} (xs : List X) → length xs < 1 → xs ≡ []
nothing_in [] below = refl
nothing_in (x ∷ xs) below = absurd (omega (arith, below))

pub headed : {X : Type 0} (xs : List X) (x : X) → x ≡ get_or xs 0 x → 1 ≤ length xs → xs ≡ x ∷ drop 1 xs
headed [] x is some = absurd (omega (arith, some))
headed (y ∷ ys) x is some = ap (λ z. z ∷ ys) (sym is)

pub names_counted : (w : Setting) (local : Scope) (es : List code.Expression) → length (names_alone w local (drop 1 es)) ≡ length es - 1
names_counted w local es =
    length-map (map (expression_meaning w.names) (drop 1 es)) (around.name_alone w.around local) ∙ length-map (drop 1 es) (expression_meaning w.names) ∙ length-drop 1 es

pub used_on : (w : Setting) (local : Scope) (name : names.Name) (arguments others : List code.Expression) (e : code.Expression) → arguments ≡ e ∷ others
    → use_faults (around.referent w.around local (name_meaning w.names name)) (name_meaning w.names name) (argument_name w local (Some e) ∷ names_alone w local others)
    ≡ use_told w local name arguments
unfolding use_told argument_name
used_on w local name arguments others e is =
    ap (λ es. use_faults (around.referent w.around local (name_meaning w.names name)) (name_meaning w.names name) (names_alone w local es)) (sym is)

-- ---- operators in the order of their tree

-- of the second argument only counts that it is there
set_call_on_two : (n : ℕ) (l r : Option Referent) → is_set_call n (l ∷ None ∷ []) ≡ is_set_call n (l ∷ r ∷ [])
set_call_on_two n None r = refl
set_call_on_two n (Some (around.Variable x)) r = refl
set_call_on_two n (Some (around.Callable (head.Global (global.Fun f)) arity)) r = refl
set_call_on_two n (Some (around.Callable (head.Global (global.Con c)) arity)) r = refl
set_call_on_two n (Some (around.Callable (head.Global (global.Set f)) arity)) r = refl
set_call_on_two n (Some (around.Callable (head.Local f) arity)) r = refl
set_call_on_two n (Some (around.SetFunction m)) r = refl
set_call_on_two n (Some around.Nothing) r = refl

use_on_two : (m : Referent) (name : Name) (l r : Option Referent) → use_faults m name (l ∷ None ∷ []) ≡ use_faults m name (l ∷ r ∷ [])
use_on_two (around.Variable x) name l r = refl
use_on_two (around.Callable h n) name l r = refl
use_on_two (around.SetFunction n) name l r = rw (set_call_on_two n l r) refl
use_on_two around.Nothing name l r = refl

abbrev named : Operator → Option Name
named (Minus at) = None
named (Named name) = Some name

operation_is : (a : Around) (local : Scope) (o : Operator) (l r : Option Referent)
    → before_faults a local (named o) l ≡ operation_faults a local o (l ∷ r ∷ [])
operation_is a local (Minus at) l r = refl
operation_is a local (Named name) l r = use_on_two (around.referent a local name) name l r

name_of_infix : (o : Operator) → operator_name (Infix o) ≡ named o
name_of_infix (Minus at) = refl
name_of_infix (Named name) = refl

tree_after : (a : Around) (local : Scope) (before : Option Name) (t : Tree Expression Operator) (rest : List (Item Expression Operator))
    → items_faults a local before (polish t ++ rest)
    ≡ before_faults a local before (leaf_name a local t) ++ (tree_faults a local t ++ items_faults a local None rest)
tree_after a local before (Leaf e) rest = refl
tree_after a local before (Applied o t) rest =
    ap (λ fs. before_faults a local before None ++ fs) (tree_after a local None t rest)
tree_after a local before (Between l o r) rest =
    ap (λ fs. before_faults a local before None ++ fs)
    (ap (λ b. items_faults a local b ((polish l ++ polish r) ++ rest)) (name_of_infix o)
    ∙ ap (items_faults a local (named o)) (append_assoc (polish l) (polish r) rest)
    ∙ tree_after a local (named o) l (polish r ++ rest)
    ∙ ap₂ (λ fs gs. fs ++ (tree_faults a local l ++ gs)) (operation_is a local o (leaf_name a local l) (leaf_name a local r)) (tree_after a local None r rest)
    ∙ ap (λ fs. operation_faults a local o (leaf_name a local l ∷ leaf_name a local r ∷ []) ++ fs)
    (sym (append_assoc (tree_faults a local l) (tree_faults a local r) (items_faults a local None rest)))
    ∙ sym (append_assoc (operation_faults a local o (leaf_name a local l ∷ leaf_name a local r ∷ []))
    (tree_faults a local l ++ tree_faults a local r) (items_faults a local None rest)))

in_tree : (a : Around) (local : Scope) (t : Tree Expression Operator) → items_faults a local None (polish t) ≡ tree_faults a local t
in_tree a local t =
    ap (items_faults a local None) (sym (append-nil (polish t))) ∙ tree_after a local None t [] ∙ append-nil (tree_faults a local t)

-- ---- expressions with operators

abbrev NoOperators : ExpressionNode → Type 0
NoOperators v = (items : Items) → v ≡ node.Operators items → ⊥

-- what has no operators has the tree of one leaf
one_leaf : (w : Setting) (local : Scope) (v : ExpressionNode) → NoOperators v
    → tree_of w.around.names local (expression_node w.names v) ≡ Some (Leaf (expression_node w.names v))
one_leaf w local (node.Variable at x) other = refl
one_leaf w local (node.Constructor at c) other = refl
one_leaf w local (node.Literal at found) other = refl
one_leaf w local (node.Application at f es) other = refl
one_leaf w local (node.Operators items) other = absurd (other items refl)
one_leaf w local (node.Lambda at ps e) other = refl
one_leaf w local (node.Let at ds e) other = refl
one_leaf w local (node.If at condition chosen rest) other = refl
one_leaf w local (node.Case at word e alternatives) other = refl
one_leaf w local (node.Tuple at es) other = refl
one_leaf w local (node.TupleConstructor at n) other = refl
one_leaf w local (node.LeftSection at e o) other = refl
one_leaf w local (node.RightSection at o e) other = refl
one_leaf w local (node.List at es) other = refl
one_leaf w local (node.Enumeration at numbers) other = refl
one_leaf w local (node.Comprehension at e qualifiers) other = refl

abbrev clash_in : Setting → Scope → Expression → List Fault
clash_in w local e = clashes_at w.around.names local (Operation e)

pub no_clash : (w : Setting) (local : Scope) (e : code.Expression) (v : ExpressionNode) → expression_node w.names v ≡ expression_meaning w.names e → NoOperators v
    → operation_clash w local e ≡ []
unfolding operation_clash
no_clash w local e v meaning other =
    ap (clash_in w local) (sym meaning) ∙ ap (clash_unless (expression_position (expression_node w.names v))) (one_leaf w local v other)

pub no_faults : (w : Setting) (local : Scope) (e : code.Expression) (v : ExpressionNode) → expression_node w.names v ≡ expression_meaning w.names e → NoOperators v
    → operation_told w local e ≡ []
unfolding operation_told
no_faults w local e v meaning other =
    ap (λ x. faults_in_tree w.around local (tree_of w.around.names local x)) (sym meaning) ∙ ap (faults_in_tree w.around local) (one_leaf w local v other)

abbrev pub fixity_in : Setting → Scope → Operator → Fixity
fixity_in w local = fixity_with (fixity_at w.around.names local)

operators_are : (w : Setting) (e : code.Expression) (v : ExpressionNode) (items : Items) → expression_node w.names v ≡ expression_meaning w.names e → v ≡ node.Operators items
    → expression_meaning w.names e ≡ items_meaning w.names items
operators_are w e v items meaning is = sym meaning ∙ ap (expression_node w.names) is

grouped_clash : (w : Setting) (local : Scope) (e : code.Expression) (v : ExpressionNode) (items : Items) (parts : List (Part code.Expression))
    → expression_node w.names v ≡ expression_meaning w.names e → v ≡ node.Operators items
    → IsGrouped (fixity_in w local) (expression_items (items_meaning w.names items)) (expression_parts w.names parts) → operation_clash w local e ≡ []
unfolding operation_clash
grouped_clash w local e v items parts meaning is grouped =
    ap (clash_in w local) (operators_are w e v items meaning is)
    ∙ is_tree (fixity_in w local) (expression_items (items_meaning w.names items)) (position_of items.place) grouped.tree grouped.grouped

clash_found : (w : Setting) (local : Scope) (e : code.Expression) (v : ExpressionNode) (items : Items)
    → expression_node w.names v ≡ expression_meaning w.names e → v ≡ node.Operators items
    → HasNoTree (fixity_in w local) (expression_items (items_meaning w.names items)) → operation_clash w local e ≡ fault FixityClash (position_of items.place) ∷ []
unfolding operation_clash
clash_found w local e v items meaning is none =
    ap (clash_in w local) (operators_are w e v items meaning is)
    ∙ no_tree (fixity_in w local) (expression_items (items_meaning w.names items)) (position_of items.place) none

pub no_clash_in_tree : (w : Setting) (local : Scope) (e : code.Expression) (v : ExpressionNode) (items : Items) (found : Option (Vec (Part code.Expression) Global))
    → expression_node w.names v ≡ expression_meaning w.names e → v ≡ node.Operators items
    → IfSome found (λ parts. IsGrouped (fixity_in w local) (expression_items (items_meaning w.names items)) (expression_parts w.names parts.items))
    → is_some found ≡ true → operation_clash w local e ≡ []
no_clash_in_tree w local e v items None meaning is grouped some = let no : ⊥ = cc in absurd no
no_clash_in_tree w local e v items (Some parts) meaning is grouped some = grouped_clash w local e v items parts.items meaning is grouped

pub clash_without_tree : (w : Setting) (local : Scope) (e : code.Expression) (v : ExpressionNode) (items : Items) (found : Option (Vec (Part code.Expression) Global))
    → expression_node w.names v ≡ expression_meaning w.names e → v ≡ node.Operators items
    → IfNone found (HasNoTree (fixity_in w local) (expression_items (items_meaning w.names items)))
    → is_some found ≡ false → operation_clash w local e ≡ fault FixityClash (position_of items.place) ∷ []
clash_without_tree w local e v items None meaning is none some = clash_found w local e v items meaning is none
clash_without_tree w local e v items (Some parts) meaning is none some = let no : ⊥ = cc in absurd no

abbrev told_in : Setting → Scope → Option (Tree Expression Operator) → List Fault
told_in w local t = faults_in_tree w.around local t

pub grouped_faults : (w : Setting) (local : Scope) (e : code.Expression) (v : ExpressionNode) (items : Items) (parts : List (Part code.Expression))
    → expression_node w.names v ≡ expression_meaning w.names e → v ≡ node.Operators items
    → IsGrouped (fixity_in w local) (expression_items (items_meaning w.names items)) (expression_parts w.names parts)
    → parts_faults w local None parts ≡ operation_told w local e
unfolding operation_told parts_faults
grouped_faults w local e v items parts meaning is grouped =
    ap (items_faults w.around local None) (sym grouped.spelled) ∙ in_tree w.around local grouped.tree
    ∙ sym (ap (λ x. told_in w local (tree_of w.around.names local x)) (operators_are w e v items meaning is)
    ∙ ap (told_in w local) ((grouped_exactly (fixity_in w local) (expression_items (items_meaning w.names items)) grouped.tree).0 grouped.grouped))

pub no_tree_faults : (w : Setting) (local : Scope) (e : code.Expression) (v : ExpressionNode) (items : Items)
    → expression_node w.names v ≡ expression_meaning w.names e → v ≡ node.Operators items
    → HasNoTree (fixity_in w local) (expression_items (items_meaning w.names items)) → operation_told w local e ≡ []
unfolding operation_told
no_tree_faults w local e v items meaning is none =
    ap (λ x. told_in w local (tree_of w.around.names local x)) (operators_are w e v items meaning is)
    ∙ ap (told_in w local) ((none_exactly (fixity_in w local) (expression_items (items_meaning w.names items))).0 none)

-- ---- a walk over its parts

operator_meant : (w : Setting) (x : Part code.Expression) → operator_name (item_of (expression_meaning w.names) w.names x) ≡ option_map (name_meaning w.names) (operator_in x)
operator_meant w (part.Operand e) = refl
operator_meant w (part.Minus at) = refl
operator_meant w (part.Operator name) = refl

part_cons : (w : Setting) (local : Scope) (before : Option names.Name) (x : Part code.Expression) (xs : List (Part code.Expression))
    → part_faults w local before x ++ parts_faults w local (operator_in x) xs ≡ parts_faults w local before (x ∷ xs)
unfolding part_faults parts_faults
part_cons w local before x xs =
    ap (λ o. before_faults w.around local (option_map (name_meaning w.names) before) (operand_name w.around local (item_of (expression_meaning w.names) w.names x))
    ++ items_faults w.around local o (expression_parts w.names xs)) (sym (operator_meant w x))

no_parts : (w : Setting) (local : Scope) (before : Option names.Name) → parts_faults w local before [] ≡ []
unfolding parts_faults
no_parts w local before = refl

operand_meant : (w : Setting) (local : Scope) (x : Part code.Expression)
    → argument_name w local (operand_in x) ≡ operand_name w.around local (item_of (expression_meaning w.names) w.names x)
unfolding argument_name
operand_meant w local (part.Operand e) = refl
operand_meant w local (part.Minus at) = refl
operand_meant w local (part.Operator name) = refl

-- an operator before a part, and none
pub on_operand : (w : Setting) (local : Scope) (name : names.Name) (before : Option names.Name) (x : Part code.Expression) (e : Option code.Expression) → before ≡ Some name → e ≡ operand_in x
    → use_faults (around.referent w.around local (name_meaning w.names name)) (name_meaning w.names name) (argument_name w local e ∷ None ∷ []) ≡ part_faults w local before x
unfolding part_faults
on_operand w local name before x e is operand =
    ap (λ r. use_faults (around.referent w.around local (name_meaning w.names name)) (name_meaning w.names name) (r ∷ None ∷ []))
    (ap (argument_name w local) operand ∙ operand_meant w local x)
    ∙ ap (λ o. before_faults w.around local (option_map (name_meaning w.names) o) (operand_name w.around local (item_of (expression_meaning w.names) w.names x))) (sym is)

pub no_operator : (w : Setting) (local : Scope) (before : Option names.Name) (x : Part code.Expression) → before ≡ None → part_faults w local before x ≡ []
unfolding part_faults
no_operator w local before x is =
    ap (λ o. before_faults w.around local (option_map (name_meaning w.names) o) (operand_name w.around local (item_of (expression_meaning w.names) w.names x))) is

pub operand_owned : (owner : NameId) (names : List (List ℕ)) (x : Part code.Expression) → PartIsOf ExpressionIsOf owner names x → IfSome (operand_in x) (ExpressionIsOf owner names)
operand_owned owner names (part.Operand e) of = of
operand_owned owner names (part.Minus at) of = tt
operand_owned owner names (part.Operator name) of = tt

pub operator_owned : (owner : NameId) (names : List (List ℕ)) (x : Part code.Expression) → PartIsOf ExpressionIsOf owner names x → IfSome (operator_in x) (NameIsOf owner names)
operator_owned owner names (part.Operand e) of = tt
operator_owned owner names (part.Minus at) of = tt
operator_owned owner names (part.Operator name) of = of

pub part_prefix : (w : Setting) (local : Scope) (before : Option names.Name) (xs : List (Part code.Expression)) (i : ℕ) (x : Part code.Expression) (a b c : First)
    → x ≡ get_or xs i x → i < length xs → Told w.owner a (part_faults w local before x) b
    → Told w.owner b (parts_faults w local (operator_in x) (drop (i + 1) xs)) c → Told w.owner a (parts_faults w local before (drop i xs)) c
part_prefix w local before xs i x a b c is within one rest =
    told_as
    (part_cons w local before x (drop (i + 1) xs)
    ∙ ap (parts_faults w local before) (sym (drop-cons xs i x within ∙ ap₂ (λ y n. y ∷ drop n xs) (sym is) (sym (add-one i))))) (told_both one rest)

pub part_end : (w : Setting) (local : Scope) (before : Option names.Name) (xs : List (Part code.Expression)) (i : ℕ) (a : First) → length xs ≤ i
    → Told w.owner a (parts_faults w local before (drop i xs)) a
part_end w local before xs i a past = told_as (sym (ap (parts_faults w local before) (drop_all i xs past) ∙ no_parts w local before)) (told_none w.owner a)
