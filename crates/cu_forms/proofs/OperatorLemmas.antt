-- Expressions with operators.
use Rattle.std.proofs.Common.{◌≡◌, ◌∙◌, ◌<◌, ℕ, ℤ, List, [], ◌∷◌, ◌++◌, Option, None, Some, IfSome, IfNone, length, map, refl, sym, ap, ap₂, subst, codes, arith, reverse}
use Rattle.std.proofs.lemmas.List.{map-append}
use Rattle.std.proofs.lemmas.List.Elements.{All-append, All-cons, All-head, All-nil, All-tail}
use Rattle.std.specs.List.{All}
use Rattle.std.specs.Option.{option_map}
use Rattle.std.specs.Prelude.{neg_ℤ}
use Rattle.std.specs.declared.alloc.Global.{Global}
use Rattle.std.specs.declared.vec.Vec.{Vec}
use denote.Param.Weighed.{most}
use Rattle.cu_fixity.specs.declared.fixity.Fixity.{Fixity}
use Rattle.cu_fixity.specs.declared.part.Part.{Part}
use Rattle.cu_fixity.specs.declared.part.Part.TheVariants as part
use Rattle.cu_fixity.specs.declared.piece.Piece.{Piece}
use Rattle.cu_fixity.specs.Grouping.{Applied, Between, HasNoTree, Infix, Item, Leaf, Operand, Prefix, Tree}
use Rattle.cu_fixity.specs.Operators as operators
use Rattle.cu_fixity.specs.Operators.{IsGrouped, Named, Operator, expression_items, fixity_with, polish}
use Rattle.cu_fixity.specs.Owners.{PartIsOf, part_size}
use Rattle.cu_fixity.specs.Parts.{HasNone, IsOrder, operand_parts, rest_parts, written_parts}
use Rattle.cu_fixity.specs.Resolving.{expression_parts, item_of}
use Rattle.cu_fixity.proofs.OwnerLemmas.{owned_in_order, smaller_in_order}
use Rattle.cu_kernel.specs.LocalTermsOf.{local_term_of}
use Rattle.cu_kernel.specs.declared.local.LocalTerm.{LocalTerm}
use Rattle.cu_names.specs.declared.names.NameId.{NameId}
use Rattle.cu_names.specs.declared.place.Place.{Place}
use Rattle.cu_syntax.specs.ExpressionMeaning.{expression_meaning}
use Rattle.cu_syntax.specs.Expressions.{expression_node, items_meaning, maybe_position, rest_meaning}
use Rattle.cu_syntax.specs.Names.{literal_meaning, name_meaning}
use Rattle.cu_syntax.specs.Owners.{ExpressionIsOf, ItemsAreOf, OperatorItemIsOf, PlaceIsOf}
use Rattle.cu_syntax.specs.Smaller.{expression_size, items_size}
use Rattle.cu_syntax.specs.Syntax as syntax
use Rattle.cu_syntax.specs.declared.expressions.Expression.{Expression}
use Rattle.cu_syntax.specs.declared.expressions.ExpressionNode.{ExpressionNode}
use Rattle.cu_syntax.specs.declared.expressions.ExpressionNode.TheVariants as node
use Rattle.cu_syntax.specs.declared.expressions.Items.{Items}
use Rattle.cu_syntax.specs.declared.expressions.OperatorItem.{OperatorItem}
use Rattle.cu_syntax.specs.declared.name.Literal.{Literal}
use Rattle.cu_syntax.specs.declared.name.Literal.TheVariants as literal
use Rattle.cu_syntax.specs.declared.name.Name as syntax_name
use Rattle.cu_translation.specs.Around as around
use Rattle.cu_translation.specs.Around.{Names, Referent, fixity_at}
use Rattle.cu_translation.specs.LocalNames.{Scope}
use Rattle.cu_translation.specs.Meaning.{Setting, referent_meaning}
use Rattle.cu_translation.specs.Table as table
use Rattle.cu_translation.specs.Table.{Operation, operation, tree_operand, tree_term}
use Rattle.cu_translation.specs.Terms as terms
use Rattle.cu_translation.specs.Terms.{built_in, negated, no_term, plain, referred}
use Rattle.cu_translation.specs.declared.referents.Referent as referents
use Rattle.cu_translation.proofs.Trees.{grouped_exactly, none_exactly}
use Rattle.cu_forms.specs.Forms.{expression_form, name_alone_form, number_alone_form, operand_form, operators_term}
use Rattle.cu_forms.specs.Inside.Calls.{built_in_term, referred_on}
use Rattle.cu_forms.specs.Inside.Lists.{number_term}
use Rattle.cu_forms.specs.Operands.{first_term, number_of, operand_meaning, operated, operated_on, operated_term, operator_piece, part_item}
use Rattle.cu_forms.specs.declared.operators.Operand as code
use Rattle.cu_forms.proofs.CallLemmas.{referred_by_terms}
use Rattle.cu_forms.proofs.OrderLemmas.{Shows, in_order, no_tree}
use Rattle.cu_forms.proofs.PatternLemmas.{if_none, if_some, top_of}

-- ---- parts as items of the table

-- a part as the table has it
abbrev operator_item : Setting → Scope → Part Expression → Item terms.Operand Operation
operator_item w local (part.Operand e) = Operand (operand_form w local e)
operator_item w local (part.Minus at) = Prefix (table.negation w.around.names)
operator_item w local (part.Operator name) = Infix (operation w.around local (name_meaning w.names name))

abbrev fixity_in : Operation → Fixity
fixity_in o = o.fixity

shows : (w : Setting) (local : Scope) (p : Part Expression) → Shows fixity_in (operator_piece w local p) (operator_item w local p)
shows w local (part.Operand e) = tt
shows w local (part.Minus at) = refl
shows w local (part.Operator name) = refl

abbrev named : Item terms.Operand Operation → Item terms.Operand Referent
named (Operand o) = Operand o
named (Prefix o) = Prefix around.Nothing
named (Infix o) = Infix o.means

named_part : (w : Setting) (local : Scope) (ps : List (Part Expression)) → map named (map (operator_item w local) ps) ≡ map (part_item w local) ps
named_part w local [] = refl
named_part w local (part.Operand e ∷ ps) = ap (λ xs. Operand (operand_form w local e) ∷ xs) (named_part w local ps)
named_part w local (part.Minus at ∷ ps) = ap (λ xs. Prefix around.Nothing ∷ xs) (named_part w local ps)
named_part w local (part.Operator name ∷ ps) = ap (λ xs. Infix (around.referent w.around local (name_meaning w.names name)) ∷ xs) (named_part w local ps)

operand_written : (w : Setting) (local : Scope) (minus : Option Place) (e : Expression)
    → map (operator_item w local) (operand_parts minus e) ≡ table.operand_items w.around.names (maybe_position minus) (operand_form w local e)
operand_written w local None e = refl
operand_written w local (Some at) e = refl

rest_written : (w : Setting) (local : Scope) (rest : List OperatorItem) → map (operator_item w local) (rest_parts rest) ≡ table.rest_items w.around local (rest_meaning w.names rest)
unfolding expression_form name_alone_form number_alone_form
rest_written w local [] = refl
rest_written w local (i ∷ rest) =
    ap (λ xs. Infix (operation w.around local (name_meaning w.names i.operator)) ∷ xs)
    (map-append (operator_item w local) (operand_parts i.minus i.operand) (rest_parts rest)
    ∙ ap₂ (λ xs ys. xs ++ ys) (operand_written w local i.minus i.operand) (rest_written w local rest))

written : (w : Setting) (local : Scope) (items : Items) → table.grouped w.around.names (map (operator_item w local) (written_parts items)) ≡ operators_term w local items
unfolding expression_form name_alone_form number_alone_form operators_term
written w local items =
    ap (table.grouped w.around.names)
    (map-append (operator_item w local) (operand_parts items.minus items.first) (rest_parts items.rest.items)
    ∙ ap₂ (λ xs ys. xs ++ ys) (operand_written w local items.minus items.first) (rest_written w local items.rest.items))

-- ---- a tree, from its parts

pub operated_append : (names : Names) (xs ys : List (Item terms.Operand Referent)) (os : List terms.Operand) → operated_on names (xs ++ ys) os ≡ operated_on names xs (operated_on names ys os)
operated_append names [] ys os = refl
operated_append names (x ∷ xs) ys os = ap (operated names x) (operated_append names xs ys os)

operated_tree : (names : Names) (t : Tree terms.Operand Operation) (os : List terms.Operand) → operated_on names (map named (polish t)) os ≡ tree_operand names t ∷ os
operated_tree names (Leaf o) os = refl
operated_tree names (Applied o t) os = ap (operated names (Prefix around.Nothing)) (operated_tree names t os)
operated_tree names (Between l o r) os =
    ap (operated names (Infix o.means))
    (ap (λ xs. operated_on names xs os) (map-append named (polish l) (polish r))
    ∙ operated_append names (map named (polish l)) (map named (polish r)) os
    ∙ ap (operated_on names (map named (polish l))) (operated_tree names r os)
    ∙ operated_tree names l (tree_operand names r ∷ os))

term_in_order : (w : Setting) (local : Scope) (items : Items) (all ordered : List (Part Expression)) → all ≡ written_parts items → IsOrder (map (operator_piece w local) all) all ordered
    → operated_term w.around.names (map (part_item w local) ordered) ≡ operators_term w local items
term_in_order w local items all ordered e order =
    let m = operator_item w local in
    let names = w.around.names in
    let k = in_order fixity_in (operator_piece w local) m all ordered (shows w local) order in
    ap (operated_term names) (sym (named_part w local ordered) ∙ ap (map named) (sym k.spelled)) ∙ ap first_term (operated_tree names k.tree [])
    ∙ ap (tree_term names) (sym ((grouped_exactly fixity_in (map m all) k.tree).0 k.grouped)) ∙ ap (λ xs. table.grouped names (map m xs)) e
    ∙ written w local items

term_of_none : (w : Setting) (local : Scope) (items : Items) (all : List (Part Expression)) → all ≡ written_parts items → HasNone (map (operator_piece w local) all)
    → no_term ≡ operators_term w local items
term_of_none w local items all e none =
    let m = operator_item w local in
    let names = w.around.names in
    ap (tree_term names) (sym ((none_exactly fixity_in (map m all)).0 (no_tree fixity_in (operator_piece w local) m all (shows w local) none)))
    ∙ ap (λ xs. table.grouped names (map m xs)) e ∙ written w local items

-- ---- parts as items of the text

operand_means : (names : List (List ℕ)) (minus : Option Place) (e : Expression)
    → expression_parts names (operand_parts minus e) ≡ operators.operand_items (maybe_position minus) (expression_meaning names e)
operand_means names None e = refl
operand_means names (Some at) e = refl

rest_means : (names : List (List ℕ)) (rest : List OperatorItem) → expression_parts names (rest_parts rest) ≡ operators.rest_items (rest_meaning names rest)
rest_means names [] = refl
rest_means names (i ∷ rest) =
    ap (λ xs. Infix (Named (name_meaning names i.operator)) ∷ xs)
    (map-append (item_of (expression_meaning names) names) (operand_parts i.minus i.operand) (rest_parts rest)
    ∙ ap₂ (λ xs ys. xs ++ ys) (operand_means names i.minus i.operand) (rest_means names rest))

written_means : (names : List (List ℕ)) (items : Items) (all : List (Part Expression)) → all ≡ written_parts items → expression_parts names all ≡ expression_items (items_meaning names items)
written_means names items all e =
    ap (expression_parts names) e
    ∙ map-append (item_of (expression_meaning names) names) (operand_parts items.minus items.first) (rest_parts items.rest.items)
    ∙ ap₂ (λ xs ys. xs ++ ys) (operand_means names items.minus items.first) (rest_means names items.rest.items)

abbrev fixities : Setting → Scope → Operator → Fixity
fixities w local = fixity_with (fixity_at w.around.names local)

abbrev text_item : Setting → Part Expression → Item syntax.Expression Operator
text_item w = item_of (expression_meaning w.names) w.names

shows_text : (w : Setting) (local : Scope) (p : Part Expression) → Shows (fixities w local) (operator_piece w local p) (text_item w p)
shows_text w local (part.Operand e) = tt
shows_text w local (part.Minus at) = refl
shows_text w local (part.Operator name) = refl

tree_in_order : (w : Setting) (local : Scope) (items : Items) (all ordered : List (Part Expression)) → all ≡ written_parts items → IsOrder (map (operator_piece w local) all) all ordered
    → IsGrouped (fixities w local) (expression_items (items_meaning w.names items)) (expression_parts w.names ordered)
tree_in_order w local items all ordered e order =
    subst (λ xs. IsGrouped (fixities w local) xs (expression_parts w.names ordered)) (written_means w.names items all e)
    (in_order (fixities w local) (operator_piece w local) (text_item w) all ordered (shows_text w local) order)

tree_of_none : (w : Setting) (local : Scope) (items : Items) (all : List (Part Expression)) → all ≡ written_parts items → HasNone (map (operator_piece w local) all)
    → HasNoTree (fixities w local) (expression_items (items_meaning w.names items))
tree_of_none w local items all e none =
    subst (HasNoTree (fixities w local)) (written_means w.names items all e)
    (no_tree (fixities w local) (operator_piece w local) (text_item w) all (shows_text w local) none)

-- ---- what is found, if something is

pub some_smaller : (items : Items) (ps : List Piece) (all : List (Part Expression)) (found : Option (Vec (Part Expression) Global)) → all ≡ written_parts items
    → IfSome found (λ parts. IsOrder ps all parts.items) → IfSome found (λ parts. most (part_size expression_size) parts.items < items_size items)
some_smaller items ps all found e h = if_some _ _ found (λ parts order. smaller_in_order items ps all parts.items e order) h

pub some_owned : (owner : NameId) (names : List (List ℕ)) (items : Items) (ps : List Piece) (all : List (Part Expression)) (found : Option (Vec (Part Expression) Global)) → all ≡ written_parts items
    → ItemsAreOf owner names items → IfSome found (λ parts. IsOrder ps all parts.items) → IfSome found (λ parts. All (PartIsOf ExpressionIsOf owner names) parts.items)
some_owned owner names items ps all found e of h = if_some _ _ found (λ parts order. owned_in_order owner names items ps all parts.items of e order) h

pub some_tree : (w : Setting) (local : Scope) (items : Items) (ps : List Piece) (all : List (Part Expression)) (found : Option (Vec (Part Expression) Global)) → all ≡ written_parts items
    → ps ≡ map (operator_piece w local) all → IfSome found (λ parts. IsOrder ps all parts.items)
    → IfSome found (λ parts. IsGrouped (fixities w local) (expression_items (items_meaning w.names items)) (expression_parts w.names parts.items))
some_tree w local items ps all found e seen h =
    if_some _ _ found (λ parts order. tree_in_order w local items all parts.items e (subst (λ qs. IsOrder qs all parts.items) seen order)) h

pub none_tree : (w : Setting) (local : Scope) (items : Items) (ps : List Piece) (all : List (Part Expression)) (found : Option (Vec (Part Expression) Global)) → all ≡ written_parts items
    → ps ≡ map (operator_piece w local) all → IfNone found (HasNone ps) → IfNone found (HasNoTree (fixities w local) (expression_items (items_meaning w.names items)))
none_tree w local items ps all found e seen h = if_none _ _ found (λ none. tree_of_none w local items all e (subst HasNone seen none)) h

pub some_term : (w : Setting) (local : Scope) (items : Items) (ps : List Piece) (all : List (Part Expression)) (found : Option (Vec (Part Expression) Global)) → all ≡ written_parts items
    → ps ≡ map (operator_piece w local) all → IfSome found (λ parts. IsOrder ps all parts.items)
    → IfSome found (λ parts. operated_term w.around.names (map (part_item w local) parts.items) ≡ operators_term w local items)
some_term w local items ps all found e seen h =
    if_some _ _ found (λ parts order. term_in_order w local items all parts.items e (subst (λ qs. IsOrder qs all parts.items) seen order)) h

pub none_term : (w : Setting) (local : Scope) (items : Items) (ps : List Piece) (all : List (Part Expression)) (found : Option (Vec (Part Expression) Global)) → all ≡ written_parts items
    → ps ≡ map (operator_piece w local) all → IfNone found (HasNone ps) → IfNone found (no_term ≡ operators_term w local items)
none_term w local items ps all found e seen h = if_none _ _ found (λ none. term_of_none w local items all e (subst HasNone seen none)) h

-- ---- the parts as they are written are of the module

operand_owned : (owner : NameId) (names : List (List ℕ)) (minus : Option Place) (e : Expression) → IfSome minus (PlaceIsOf owner) → ExpressionIsOf owner names e
    → All (PartIsOf ExpressionIsOf owner names) (operand_parts minus e)
operand_owned owner names None e at of = let P = PartIsOf ExpressionIsOf owner names in All-cons P (part.Operand e) [] of (All-nil P)
operand_owned owner names (Some place) e at of =
    let P = PartIsOf ExpressionIsOf owner names in
    All-cons P (part.Minus place) (part.Operand e ∷ []) at (All-cons P (part.Operand e) [] of (All-nil P))

rest_owned : (owner : NameId) (names : List (List ℕ)) (rest : List OperatorItem) → All (OperatorItemIsOf owner names) rest → All (PartIsOf ExpressionIsOf owner names) (rest_parts rest)
rest_owned owner names [] h = All-nil (PartIsOf ExpressionIsOf owner names)
rest_owned owner names (i ∷ rest) h =
    let P = PartIsOf ExpressionIsOf owner names in
    let one = All-head (OperatorItemIsOf owner names) i rest h in
    All-cons P (part.Operator i.operator) (operand_parts i.minus i.operand ++ rest_parts rest) one.0
    (All-append P (operand_parts i.minus i.operand) (rest_parts rest) (operand_owned owner names i.minus i.operand one.1 one.2)
    (rest_owned owner names rest (All-tail (OperatorItemIsOf owner names) i rest h)))

pub written_owned : (owner : NameId) (names : List (List ℕ)) (items : Items) (all : List (Part Expression)) → all ≡ written_parts items → ItemsAreOf owner names items
    → All (PartIsOf ExpressionIsOf owner names) all
written_owned owner names items all e of =
    let P = PartIsOf ExpressionIsOf owner names in
    subst (All P) (sym e)
    (All-append P (operand_parts items.minus items.first) (rest_parts items.rest.items) (operand_owned owner names items.minus items.first of.1 of.2)
    (rest_owned owner names items.rest.items of.3))

-- ---- the stack

pub operated_two : (names : Names) (r : referents.Referent) (t : LocalTerm) (arguments : List LocalTerm) (before one_left two_left after : List code.Operand) (first second pushed : code.Operand)
    → local_term_of t ≡ referred_on (referent_meaning r) (option_map referent_meaning first.name) (map local_term_of arguments) → arguments ≡ first.term ∷ second.term ∷ []
    → operand_meaning pushed ≡ plain (local_term_of t) → before ≡ one_left ++ first ∷ [] → one_left ≡ two_left ++ second ∷ [] → after ≡ two_left ++ pushed ∷ []
    → map operand_meaning (reverse after) ≡ operated names (Infix (referent_meaning r)) (map operand_meaning (reverse before))
operated_two names r t arguments before one_left two_left after first second pushed is both plainly e f g =
    let m = referent_meaning r in
    top_of operand_meaning two_left after pushed g
    ∙ ap (λ o. o ∷ map operand_meaning (reverse two_left))
    (plainly ∙ ap plain (is ∙ ap (λ ts. referred_on m (option_map referent_meaning first.name) (map local_term_of ts)) both ∙ sym (referred_by_terms m (operand_meaning first ∷ operand_meaning second ∷ []))))
    ∙ sym (ap (operated names (Infix m)) (top_of operand_meaning one_left before first e ∙ ap (λ os. operand_meaning first ∷ os) (top_of operand_meaning two_left one_left second f)))

pub operated_one : (names : Names) (t : LocalTerm) (before left after : List code.Operand) (operand pushed : code.Operand)
    → local_term_of t ≡ negated names (operand_meaning operand) → operand_meaning pushed ≡ plain (local_term_of t) → before ≡ left ++ operand ∷ [] → after ≡ left ++ pushed ∷ []
    → map operand_meaning (reverse after) ≡ operated names (Prefix around.Nothing) (map operand_meaning (reverse before))
operated_one names t before left after operand pushed is plainly e f =
    top_of operand_meaning left after pushed f ∙ ap (λ o. o ∷ map operand_meaning (reverse left)) (plainly ∙ ap plain is)
    ∙ sym (ap (operated names (Prefix around.Nothing)) (top_of operand_meaning left before operand e))

pub operated_none : (names : Names) (before after : List code.Operand) → length before ≡ 0 → before ≡ after ++ []
    → map operand_meaning (reverse after) ≡ operated names (Prefix around.Nothing) (map operand_meaning (reverse before))
operated_none names [] [] none e = refl
operated_none names [] (o ∷ after) none e = let no : ⊥ = cc in absurd no
operated_none names (o ∷ before) after none e = absurd (omega (arith, none))

pub nothing_on_stack : (stack : List code.Operand) → length stack ≡ 0 → no_term ≡ first_term (map operand_meaning (reverse stack))
nothing_on_stack [] e = refl
nothing_on_stack (o ∷ stack) e = absurd (omega (arith, e))

-- ---- minus

pub negated_number : (names : Names) (o : code.Operand) (n : ℤ) → o.number ≡ Some n → number_term (neg_ℤ n) ≡ negated names (operand_meaning o)
negated_number names o n e = ap (λ k. terms.negation k (built_in names (codes "negate") (local_term_of o.term ∷ []))) (sym e)

pub negated_call : (names : Names) (o : code.Operand) (arguments : List LocalTerm) → o.number ≡ None → arguments ≡ o.term ∷ []
    → built_in_term names (codes "negate") (map local_term_of arguments) ≡ negated names (operand_meaning o)
unfolding built_in_term
negated_call names o arguments e one =
    ap (λ ts. built_in names (codes "negate") (map local_term_of ts)) one
    ∙ ap (λ k. terms.negation k (built_in names (codes "negate") (local_term_of o.term ∷ []))) (sym e)

-- ---- what expressions are alone

abbrev node_number : ExpressionNode → Option ℤ
node_number (node.Literal at found) = number_of (literal_meaning found)
node_number _ = None

numbered_in : (names : List (List ℕ)) (n : ExpressionNode) → node_number n ≡ table.number_alone (expression_node names n)
numbered_in names (node.Variable at name) = refl
numbered_in names (node.Constructor at name) = refl
numbered_in names (node.Literal at (literal.Int n)) = refl
numbered_in names (node.Literal at (literal.Char n)) = refl
numbered_in names (node.Literal at (literal.String n)) = refl
numbered_in names (node.Application at f es) = refl
numbered_in names (node.Operators items) = refl
numbered_in names (node.Lambda at ps e) = refl
numbered_in names (node.Let at ds e) = refl
numbered_in names (node.If at condition chosen other) = refl
numbered_in names (node.Case at word e rows) = refl
numbered_in names (node.Tuple at es) = refl
numbered_in names (node.TupleConstructor at count) = refl
numbered_in names (node.LeftSection at e name) = refl
numbered_in names (node.RightSection at name e) = refl
numbered_in names (node.List at es) = refl
numbered_in names (node.Enumeration at e) = refl
numbered_in names (node.Comprehension at e qs) = refl

-- the number that an expression is, by what it is
pub numbered : (names : List (List ℕ)) (e : Expression) (v n : ExpressionNode) → expression_node names v ≡ expression_meaning names e → v ≡ n → node_number n ≡ number_alone_form names e
unfolding number_alone_form
numbered names e v n meaning is = numbered_in names n ∙ ap table.number_alone (ap (expression_node names) (sym is) ∙ meaning)

abbrev node_name : Setting → Scope → ExpressionNode → Option Referent
node_name w local (node.Variable at name) = Some (around.referent w.around local (name_meaning w.names name))
node_name w local (node.Constructor at name) = Some (w.around.names.value (name_meaning w.names name))
node_name w local (node.TupleConstructor at count) = Some (w.around.names.prelude (around.tuple_name count))
node_name w local _ = None

named_in : (w : Setting) (local : Scope) (n : ExpressionNode) → node_name w local n ≡ around.name_alone w.around local (expression_node w.names n)
named_in w local (node.Variable at name) = refl
named_in w local (node.Constructor at name) = refl
named_in w local (node.Literal at found) = refl
named_in w local (node.Application at f es) = refl
named_in w local (node.Operators items) = refl
named_in w local (node.Lambda at ps e) = refl
named_in w local (node.Let at ds e) = refl
named_in w local (node.If at condition chosen other) = refl
named_in w local (node.Case at word e rows) = refl
named_in w local (node.Tuple at es) = refl
named_in w local (node.TupleConstructor at count) = refl
named_in w local (node.LeftSection at e name) = refl
named_in w local (node.RightSection at name e) = refl
named_in w local (node.List at es) = refl
named_in w local (node.Enumeration at e) = refl
named_in w local (node.Comprehension at e qs) = refl

-- what an expression refers to, by what it is
pub named_alone : (w : Setting) (local : Scope) (e : Expression) (v n : ExpressionNode) → expression_node w.names v ≡ expression_meaning w.names e → v ≡ n
    → node_name w local n ≡ name_alone_form w local e
unfolding name_alone_form
named_alone w local e v n meaning is = named_in w local n ∙ ap (around.name_alone w.around local) (ap (expression_node w.names) (sym is) ∙ meaning)

pub nameless : (w : Setting) (local : Scope) (e : Expression) (v : ExpressionNode) → expression_node w.names v ≡ expression_meaning w.names e
    → ((at : Place) (name : syntax_name.Name) → v ≡ node.Variable at name → ⊥) → ((at : Place) (name : syntax_name.Name) → v ≡ node.Constructor at name → ⊥)
    → ((at : Place) (count : ℕ) → v ≡ node.TupleConstructor at count → ⊥) → None ≡ name_alone_form w local e
nameless w local e (node.Variable at name) is x c t = absurd (x at name refl)
nameless w local e (node.Constructor at name) is x c t = absurd (c at name refl)
nameless w local e (node.TupleConstructor at count) is x c t = absurd (t at count refl)
nameless w local e (node.Literal at found) is x c t = named_alone w local e _ (node.Literal at found) is refl
nameless w local e (node.Application at f es) is x c t = named_alone w local e _ (node.Application at f es) is refl
nameless w local e (node.Operators items) is x c t = named_alone w local e _ (node.Operators items) is refl
nameless w local e (node.Lambda at ps b) is x c t = named_alone w local e _ (node.Lambda at ps b) is refl
nameless w local e (node.Let at ds b) is x c t = named_alone w local e _ (node.Let at ds b) is refl
nameless w local e (node.If at condition chosen other) is x c t = named_alone w local e _ (node.If at condition chosen other) is refl
nameless w local e (node.Case at word b rows) is x c t = named_alone w local e _ (node.Case at word b rows) is refl
nameless w local e (node.Tuple at es) is x c t = named_alone w local e _ (node.Tuple at es) is refl
nameless w local e (node.LeftSection at b name) is x c t = named_alone w local e _ (node.LeftSection at b name) is refl
nameless w local e (node.RightSection at name b) is x c t = named_alone w local e _ (node.RightSection at name b) is refl
nameless w local e (node.List at es) is x c t = named_alone w local e _ (node.List at es) is refl
nameless w local e (node.Enumeration at b) is x c t = named_alone w local e _ (node.Enumeration at b) is refl
nameless w local e (node.Comprehension at b qs) is x c t = named_alone w local e _ (node.Comprehension at b qs) is refl

pub numberless : (names : List (List ℕ)) (e : Expression) (v : ExpressionNode) → expression_node names v ≡ expression_meaning names e
    → ((at : Place) (found : Literal) → v ≡ node.Literal at found → ⊥) → None ≡ number_alone_form names e
numberless names e (node.Literal at found) is l = absurd (l at found refl)
numberless names e (node.Variable at name) is l = numbered names e _ (node.Variable at name) is refl
numberless names e (node.Constructor at name) is l = numbered names e _ (node.Constructor at name) is refl
numberless names e (node.TupleConstructor at count) is l = numbered names e _ (node.TupleConstructor at count) is refl
numberless names e (node.Application at f es) is l = numbered names e _ (node.Application at f es) is refl
numberless names e (node.Operators items) is l = numbered names e _ (node.Operators items) is refl
numberless names e (node.Lambda at ps b) is l = numbered names e _ (node.Lambda at ps b) is refl
numberless names e (node.Let at ds b) is l = numbered names e _ (node.Let at ds b) is refl
numberless names e (node.If at condition chosen other) is l = numbered names e _ (node.If at condition chosen other) is refl
numberless names e (node.Case at word b rows) is l = numbered names e _ (node.Case at word b rows) is refl
numberless names e (node.Tuple at es) is l = numbered names e _ (node.Tuple at es) is refl
numberless names e (node.LeftSection at b name) is l = numbered names e _ (node.LeftSection at b name) is refl
numberless names e (node.RightSection at name b) is l = numbered names e _ (node.RightSection at name b) is refl
numberless names e (node.List at es) is l = numbered names e _ (node.List at es) is refl
numberless names e (node.Enumeration at b) is l = numbered names e _ (node.Enumeration at b) is refl
numberless names e (node.Comprehension at b qs) is l = numbered names e _ (node.Comprehension at b qs) is refl
