-- Expressions and patterns as their parts.
use Rattle.std.specs.Prelude.{◌≡◌, ℕ, suc, ◌+◌, ◌<◌, IfErr, IsErrAnd, List, [], ◌∷◌, ◌++◌, Option, None, Some, Result, Ok, Err, drop, length, map, refl}
use Rattle.std.specs.List.{All}
use Rattle.std.proofs.Common.{ap, ap₂, append_assoc, arith, subst, sym, ◌∙◌}
use Rattle.std.proofs.Math.ListN.{get_or}
use Rattle.std.proofs.lemmas.List.{map-append}
use Rattle.std.proofs.Math.Seq.{drop-cons}
use Rattle.std.proofs.lemmas.List.Elements.{All-append, All-cons, All-head, All-nil, All-tail}
use Rattle.cu_names.specs.declared.place.Place.{Place}
use Rattle.cu_syntax.specs.declared.expressions.Expression.{Expression}
use Rattle.cu_syntax.specs.declared.expressions.Items.{Items}
use Rattle.cu_syntax.specs.declared.expressions.OperatorItem.{OperatorItem}
use Rattle.cu_syntax.specs.declared.patterns.ConstructorItem.{ConstructorItem}
use Rattle.cu_syntax.specs.declared.patterns.PatItems.{PatItems}
use Rattle.cu_syntax.specs.declared.patterns.Pattern.{Pattern}
use Rattle.cu_syntax.specs.declared.name.Name as syntax_name
use Rattle.cu_syntax.specs.ExpressionMeaning.{expression_meaning}
use Rattle.cu_syntax.specs.Expressions as expressions
use Rattle.cu_syntax.specs.Names.{name_meaning}
use Rattle.cu_syntax.specs.Patterns as patterns
use Rattle.cu_syntax.specs.Syntax.{Name}
use Rattle.cu_fixity.specs.declared.fixity.Fixity.{Fixity}
use Rattle.cu_fixity.specs.declared.part.Part.{Part}
use Rattle.cu_fixity.specs.declared.part.Part.TheVariants as part
use Rattle.cu_fixity.specs.declared.resolving.FixityClash.{FixityClash}
use Rattle.cu_fixity.specs.declared.resolving.FixityClash.TheVariants as clash
use Rattle.cu_fixity.specs.Fixities.{Table, fixity_in}
use Rattle.cu_fixity.specs.Grouping.{HasNoTree, Infix, Operand}
use Rattle.cu_fixity.specs.Operators.{IsGrouped, Named, expression_items, fixity_with, operand_items, pattern_items, pattern_rest_items, rest_items}
use Rattle.cu_fixity.specs.Parts.{HasNone, IsOrder, operand_parts, pattern_rest, piece_of, rest_parts, written_parts, written_pattern}
use Rattle.cu_fixity.specs.Resolving.{Clashes, HaveFixities, constructors_of, expression_parts, item_of, operators_of, pattern_parts}
use Rattle.cu_fixity.proofs.PartLemmas.{Declared, in_order, no_tree}

operand_means : (names : List (List ℕ)) (minus : Option Place) (e : Expression)
    → expression_parts names (operand_parts minus e) ≡ operand_items (expressions.maybe_position minus) (expression_meaning names e)
operand_means names None e = refl
operand_means names (Some at) e = refl

rest_means : (names : List (List ℕ)) (rest : List OperatorItem) → expression_parts names (rest_parts rest) ≡ rest_items (expressions.rest_meaning names rest)
rest_means names [] = refl
rest_means names (item ∷ rest) =
    ap (λ xs. Infix (Named (name_meaning names item.operator)) ∷ xs)
    (map-append (item_of (expression_meaning names) names) (operand_parts item.minus item.operand) (rest_parts rest)
    ∙ ap₂ (λ xs ys. xs ++ ys) (operand_means names item.minus item.operand) (rest_means names rest))

written_means : (names : List (List ℕ)) (items : Items) → expression_parts names (written_parts items) ≡ expression_items (expressions.items_meaning names items)
written_means names items =
    map-append (item_of (expression_meaning names) names) (operand_parts items.minus items.first) (rest_parts items.rest.items)
    ∙ ap₂ (λ xs ys. xs ++ ys) (operand_means names items.minus items.first) (rest_means names items.rest.items)

pattern_rest_means : (names : List (List ℕ)) (rest : List ConstructorItem)
    → pattern_parts names (pattern_rest rest) ≡ pattern_rest_items (patterns.rest_meaning names rest)
pattern_rest_means names [] = refl
pattern_rest_means names (item ∷ rest) =
    ap (λ xs. Infix (Named (name_meaning names item.operator)) ∷ Operand (patterns.pattern_meaning names item.operand) ∷ xs) (pattern_rest_means names rest)

pattern_means : (names : List (List ℕ)) (items : PatItems) → pattern_parts names (written_pattern items) ≡ pattern_items (patterns.pat_items_meaning names items)
pattern_means names items = ap (λ xs. Operand (patterns.pattern_meaning names items.first) ∷ xs) (pattern_rest_means names items.rest.items)

operand_declared : {T : Type 0} (names : List (List ℕ)) (fixity : Name → Fixity) (table : Table) (minus : Option Place) (x : T)
    → All (Declared names fixity table) (operand_parts minus x)
operand_declared {T} names fixity table None x = All-cons (Declared {T = T} names fixity table) (part.Operand x) [] tt (All-nil (Declared {T = T} names fixity table))
operand_declared {T} names fixity table (Some at) x =
    All-cons (Declared {T = T} names fixity table) (part.Minus at) (part.Operand x ∷ []) tt
    (All-cons (Declared {T = T} names fixity table) (part.Operand x) [] tt (All-nil (Declared {T = T} names fixity table)))

abbrev Fixed : List (List ℕ) → (Name → Fixity) → Table → syntax_name.Name → Type 0
Fixed names fixity table name = fixity (name_meaning names name) ≡ fixity_in table name.text

rest_declared : (names : List (List ℕ)) (fixity : Name → Fixity) (table : Table) (rest : List OperatorItem)
    → HaveFixities names fixity table (map (λ item. item.operator) rest) → All (Declared names fixity table) (rest_parts rest)
rest_declared names fixity table [] h = All-nil (Declared {T = Expression} names fixity table)
rest_declared names fixity table (item ∷ rest) h =
    All-cons (Declared {T = Expression} names fixity table) (part.Operator item.operator) (operand_parts item.minus item.operand ++ rest_parts rest)
    (All-head (Fixed names fixity table) item.operator (map (λ i. i.operator) rest) h)
    (All-append (Declared {T = Expression} names fixity table) (operand_parts item.minus item.operand) (rest_parts rest)
    (operand_declared names fixity table item.minus item.operand)
    (rest_declared names fixity table rest (All-tail (Fixed names fixity table) item.operator (map (λ i. i.operator) rest) h)))

written_declared : (names : List (List ℕ)) (fixity : Name → Fixity) (table : Table) (items : Items)
    → HaveFixities names fixity table (operators_of items) → All (Declared names fixity table) (written_parts items)
written_declared names fixity table items h =
    All-append (Declared {T = Expression} names fixity table) (operand_parts items.minus items.first) (rest_parts items.rest.items)
    (operand_declared names fixity table items.minus items.first) (rest_declared names fixity table items.rest.items h)

pattern_rest_declared : (names : List (List ℕ)) (fixity : Name → Fixity) (table : Table) (rest : List ConstructorItem)
    → HaveFixities names fixity table (map (λ item. item.operator) rest) → All (Declared names fixity table) (pattern_rest rest)
pattern_rest_declared names fixity table [] h = All-nil (Declared {T = Pattern} names fixity table)
pattern_rest_declared names fixity table (item ∷ rest) h =
    All-cons (Declared {T = Pattern} names fixity table) (part.Operator item.operator) (part.Operand item.operand ∷ pattern_rest rest)
    (All-head (Fixed names fixity table) item.operator (map (λ i. i.operator) rest) h)
    (All-cons (Declared {T = Pattern} names fixity table) (part.Operand item.operand) (pattern_rest rest) tt
    (pattern_rest_declared names fixity table rest (All-tail (Fixed names fixity table) item.operator (map (λ i. i.operator) rest) h)))

pattern_declared : (names : List (List ℕ)) (fixity : Name → Fixity) (table : Table) (items : PatItems)
    → HaveFixities names fixity table (constructors_of items) → All (Declared names fixity table) (written_pattern items)
pattern_declared names fixity table items h =
    All-cons (Declared {T = Pattern} names fixity table) (part.Operand items.first) (pattern_rest items.rest.items) tt
    (pattern_rest_declared names fixity table items.rest.items h)

pub resolved : (names : List (List ℕ)) (fixity : Name → Fixity) (table : Table) (items : Items) (written ordered : List (Part Expression))
    → HaveFixities names fixity table (operators_of items) → written ≡ written_parts items → IsOrder (map (piece_of table) written) written ordered
    → IsGrouped (fixity_with fixity) (expression_items (expressions.items_meaning names items)) (expression_parts names ordered)
resolved names fixity table items written ordered h e o =
    subst (λ xs. IsGrouped (fixity_with fixity) xs (expression_parts names ordered)) (ap (expression_parts names) e ∙ written_means names items)
    (in_order (expression_meaning names) names fixity table written ordered
    (subst (All (Declared names fixity table)) (sym e) (written_declared names fixity table items h)) o)

pub clashes : (names : List (List ℕ)) (fixity : Name → Fixity) (table : Table) (items : Items) (written : List (Part Expression))
    → HaveFixities names fixity table (operators_of items) → written ≡ written_parts items
    → HasNone (map (piece_of table) written)
    → HasNoTree (fixity_with fixity) (expression_items (expressions.items_meaning names items))
clashes names fixity table items written h e none =
    subst (HasNoTree (fixity_with fixity)) (ap (expression_parts names) e ∙ written_means names items)
    (no_tree (expression_meaning names) names fixity table written
    (subst (All (Declared names fixity table)) (sym e) (written_declared names fixity table items h)) none)

pub pattern_resolved : (names : List (List ℕ)) (fixity : Name → Fixity) (table : Table) (items : PatItems) (written ordered : List (Part Pattern))
    → HaveFixities names fixity table (constructors_of items) → written ≡ written_pattern items → IsOrder (map (piece_of table) written) written ordered
    → IsGrouped (fixity_with fixity) (pattern_items (patterns.pat_items_meaning names items)) (pattern_parts names ordered)
pattern_resolved names fixity table items written ordered h e o =
    subst (λ xs. IsGrouped (fixity_with fixity) xs (pattern_parts names ordered)) (ap (pattern_parts names) e ∙ pattern_means names items)
    (in_order (patterns.pattern_meaning names) names fixity table written ordered
    (subst (All (Declared names fixity table)) (sym e) (pattern_declared names fixity table items h)) o)

pub pattern_clashes : (names : List (List ℕ)) (fixity : Name → Fixity) (table : Table) (items : PatItems) (written : List (Part Pattern))
    → HaveFixities names fixity table (constructors_of items) → written ≡ written_pattern items
    → HasNone (map (piece_of table) written)
    → HasNoTree (fixity_with fixity) (pattern_items (patterns.pat_items_meaning names items))
pattern_clashes names fixity table items written h e none =
    subst (HasNoTree (fixity_with fixity)) (ap (pattern_parts names) e ∙ pattern_means names items)
    (no_tree (patterns.pattern_meaning names) names fixity table written
    (subst (All (Declared names fixity table)) (sym e) (pattern_declared names fixity table items h)) none)

clashes_map : (place : Place) (P Q : Type 0) (e : FixityClash) → (P → Q) → Clashes place P e → Clashes place Q e
clashes_map place P Q (clash.At at) f h = (h.0, f h.1)
clashes_map place P Q clash.NoMemory f h = tt

told_same : {T E : Type 0} (P : E → Type 0) (r : Result T E) (e : E) → IsErrAnd r (λ x. x ≡ e) → P e → IfErr r P
told_same P (Ok x) e is p = absurd is
told_same P (Err x) e is p = subst P (sym is) p

-- a clash that is passed on
pub told : {T : Type 0} (r : Result T FixityClash) (e : FixityClash) (place : Place) (P Q : Type 0) → IsErrAnd r (λ x. x ≡ e) → (P → Q) → Clashes place P e
    → IfErr r (Clashes place Q)
told r e place P Q is f h = told_same (Clashes place Q) r e is (clashes_map place P Q e f h)

left : {X : Type 0} (xs : List X) (i : ℕ) (x : X) → i < length xs → x ≡ get_or xs i x → drop i xs ≡ x ∷ drop (i + 1) xs
left xs i x h e =
    let next : suc i ≡ i + 1 = omega arith in drop-cons xs i x h ∙ ap₂ (λ y n. y ∷ drop n xs) (sym e) next

-- one more operator and its operand are written
pub item_written : (rest seen : List OperatorItem) (i : ℕ) (item : OperatorItem) (before pushed after whole : List (Part Expression)) → seen ≡ rest → i < length seen
    → item ≡ get_or seen i item → before ++ rest_parts (drop i rest) ≡ whole → pushed ≡ before ++ part.Operator item.operator ∷ []
    → after ≡ pushed ++ operand_parts item.minus item.operand → after ++ rest_parts (drop (i + 1) rest) ≡ whole
item_written rest seen i item before pushed after whole same h e w p q =
    let more = rest_parts (drop (i + 1) rest) in
    let one = operand_parts item.minus item.operand in
    let next : drop i rest ≡ item ∷ drop (i + 1) rest =
    subst (λ xs. drop i xs ≡ item ∷ drop (i + 1) xs) same (left seen i item h e) in
    ap (λ xs. xs ++ more) (q ∙ ap (λ xs. xs ++ one) p) ∙ append_assoc (before ++ part.Operator item.operator ∷ []) one more
    ∙ append_assoc before (part.Operator item.operator ∷ []) (one ++ more) ∙ ap (λ xs. before ++ rest_parts xs) (sym next) ∙ w

pub constructor_written : (rest seen : List ConstructorItem) (i : ℕ) (item : ConstructorItem) (before pushed after whole : List (Part Pattern)) → seen ≡ rest
    → i < length seen → item ≡ get_or seen i item → before ++ pattern_rest (drop i rest) ≡ whole → pushed ≡ before ++ part.Operator item.operator ∷ []
    → after ≡ pushed ++ part.Operand item.operand ∷ [] → after ++ pattern_rest (drop (i + 1) rest) ≡ whole
constructor_written rest seen i item before pushed after whole same h e w p q =
    let more = pattern_rest (drop (i + 1) rest) in
    let next : drop i rest ≡ item ∷ drop (i + 1) rest =
    subst (λ xs. drop i xs ≡ item ∷ drop (i + 1) xs) same (left seen i item h e) in
    ap (λ xs. xs ++ more) (q ∙ ap (λ xs. xs ++ part.Operand item.operand ∷ []) p)
    ∙ append_assoc (before ++ part.Operator item.operator ∷ []) (part.Operand item.operand ∷ []) more
    ∙ append_assoc before (part.Operator item.operator ∷ []) (part.Operand item.operand ∷ more) ∙ ap (λ xs. before ++ pattern_rest xs) (sym next) ∙ w
