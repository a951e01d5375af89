-- What holds of each part as it is written holds of each part in the order of a tree.
use Rattle.std.specs.Prelude.{◌≡◌, ◌<◌, ◌≤◌, ℕ, zero, suc, IfSome, List, [], ◌∷◌, ◌++◌, None, Option, Some, map, slice_get}
use Rattle.std.specs.List.{All}
use Rattle.std.proofs.Common.{ap, arith, subst, sym, ◌∙◌}
use Rattle.std.proofs.lemmas.List.Elements.{All-append, All-cons, All-head, All-nil, All-tail}
use denote.Param.Weighed.{most}
use Rattle.cu_names.specs.declared.names.NameId.{NameId}
use Rattle.cu_names.specs.declared.place.Place.{Place}
use Rattle.cu_syntax.specs.declared.expressions.Expression.{Expression}
use Rattle.cu_syntax.specs.declared.expressions.Items.{Items}
use Rattle.cu_syntax.specs.declared.expressions.OperatorItem.{OperatorItem}
use Rattle.cu_syntax.specs.declared.patterns.ConstructorItem.{ConstructorItem}
use Rattle.cu_syntax.specs.declared.patterns.PatItems.{PatItems}
use Rattle.cu_syntax.specs.declared.patterns.Pattern.{Pattern}
use Rattle.cu_syntax.specs.Owners.{ConstructorItemIsOf, ExpressionIsOf, ItemsAreOf, OperatorItemIsOf, PatItemsAreOf, PatternIsOf, PlaceIsOf}
use Rattle.cu_syntax.specs.Smaller.{constructor_item_size, expression_size, items_size, operator_item_size, pat_items_size, pattern_size}
use Rattle.cu_fixity.specs.declared.part.Part.{Part}
use Rattle.cu_fixity.specs.declared.part.Part.TheVariants as part
use Rattle.cu_fixity.specs.declared.piece.Piece.{Piece}
use Rattle.cu_fixity.specs.declared.tree.Cell.{Cell}
use Rattle.cu_fixity.specs.Owners.{PartIsOf, part_size}
use Rattle.cu_fixity.specs.Parts.{IsOrder, operand_parts, pattern_rest, rest_parts, taken, written_parts, written_pattern}
use Rattle.cu_fixity.specs.Ranges.{number}
use Rattle.cu_fixity.specs.Spelling.{spelled}

-- taking over

one_of : {X : Type 0} (P : X → Type 0) (xs : List X) (n : ℕ) (x : X) → All P xs → Some x ≡ slice_get xs n → P x
one_of P [] n x h e = let no : ⊥ = cc in absurd no
one_of P (y ∷ xs) zero x h e = let same : y ≡ x = cc in subst P same (All-head P y xs h)
one_of P (y ∷ xs) (suc n) x h e = one_of P xs n x (All-tail P y xs h) e

head_is : {X : Type 0} (x y : X) (xs ys : List X) → x ∷ xs ≡ y ∷ ys → x ≡ y
head_is x y xs ys e = cc

tail_is : {X : Type 0} (x y : X) (xs ys : List X) → x ∷ xs ≡ y ∷ ys → xs ≡ ys
tail_is x y xs ys e = cc

all_taken : {T : Type 0} (P : Part T → Type 0) (written ordered : List (Part T)) (cells : List Cell) → All P written → map Some ordered ≡ map (taken written) cells → All P ordered
all_taken P written [] cells h e = All-nil P
all_taken P written (x ∷ ordered) [] h e = let no : ⊥ = cc in absurd no
all_taken P written (x ∷ ordered) (c ∷ cells) h e =
    All-cons P x ordered (one_of P written (number c) x h (head_is (Some x) (taken written c) (map Some ordered) (map (taken written) cells) e))
    (all_taken P written ordered cells h (tail_is (Some x) (taken written c) (map Some ordered) (map (taken written) cells) e))

pub all_in_order : {T : Type 0} (P : Part T → Type 0) (pieces : List Piece) (written ordered : List (Part T)) → All P written → IsOrder pieces written ordered → All P ordered
all_in_order P pieces written ordered h order = all_taken P written ordered (spelled order.tree) h order.all_taken

-- owners

operand_owned : (owner : NameId) (names : List (List ℕ)) (minus : Option Place) (e : Expression) → IfSome minus (PlaceIsOf owner) → ExpressionIsOf owner names e
    → All (PartIsOf ExpressionIsOf owner names) (operand_parts minus e)
operand_owned owner names None e m h = let P = PartIsOf ExpressionIsOf owner names in All-cons P (part.Operand e) [] h (All-nil P)
operand_owned owner names (Some at) e m h =
    let P = PartIsOf ExpressionIsOf owner names in
    All-cons P (part.Minus at) (part.Operand e ∷ []) m (All-cons P (part.Operand e) [] h (All-nil P))

rest_owned : (owner : NameId) (names : List (List ℕ)) (rest : List OperatorItem) → All (OperatorItemIsOf owner names) rest → All (PartIsOf ExpressionIsOf owner names) (rest_parts rest)
rest_owned owner names [] h = All-nil (PartIsOf ExpressionIsOf owner names)
rest_owned owner names (i ∷ rest) h =
    let P = PartIsOf ExpressionIsOf owner names in
    let one = All-head (OperatorItemIsOf owner names) i rest h in
    All-cons P (part.Operator i.operator) (operand_parts i.minus i.operand ++ rest_parts rest) one.0
    (All-append P (operand_parts i.minus i.operand) (rest_parts rest) (operand_owned owner names i.minus i.operand one.1 one.2) (rest_owned owner names rest (All-tail (OperatorItemIsOf owner names) i rest h)))

pub owned_in_order : (owner : NameId) (names : List (List ℕ)) (items : Items) (pieces : List Piece) (written ordered : List (Part Expression)) → ItemsAreOf owner names items
    → written ≡ written_parts items → IsOrder pieces written ordered → All (PartIsOf ExpressionIsOf owner names) ordered
owned_in_order owner names items pieces written ordered h e order =
    let P = PartIsOf ExpressionIsOf owner names in
    all_in_order P pieces written ordered
    (subst (All P) (sym e) (All-append P (operand_parts items.minus items.first) (rest_parts items.rest.items) (operand_owned owner names items.minus items.first h.1 h.2) (rest_owned owner names items.rest.items h.3))) order

pattern_rest_owned : (owner : NameId) (names : List (List ℕ)) (rest : List ConstructorItem) → All (ConstructorItemIsOf owner names) rest → All (PartIsOf PatternIsOf owner names) (pattern_rest rest)
pattern_rest_owned owner names [] h = All-nil (PartIsOf PatternIsOf owner names)
pattern_rest_owned owner names (i ∷ rest) h =
    let P = PartIsOf PatternIsOf owner names in
    let one = All-head (ConstructorItemIsOf owner names) i rest h in
    All-cons P (part.Operator i.operator) (part.Operand i.operand ∷ pattern_rest rest) one.0
    (All-cons P (part.Operand i.operand) (pattern_rest rest) one.1 (pattern_rest_owned owner names rest (All-tail (ConstructorItemIsOf owner names) i rest h)))

pub pattern_owned_in_order : (owner : NameId) (names : List (List ℕ)) (items : PatItems) (pieces : List Piece) (written ordered : List (Part Pattern)) → PatItemsAreOf owner names items
    → written ≡ written_pattern items → IsOrder pieces written ordered → All (PartIsOf PatternIsOf owner names) ordered
pattern_owned_in_order owner names items pieces written ordered h e order =
    let P = PartIsOf PatternIsOf owner names in
    all_in_order P pieces written ordered
    (subst (All P) (sym e) (All-cons P (part.Operand items.first) (pattern_rest items.rest.items) h.1 (pattern_rest_owned owner names items.rest.items h.2))) order

-- sizes

abbrev IsBelow : {T : Type 0} → (T → ℕ) → ℕ → Part T → Type 0
IsBelow size n p = part_size size p < n

largest_below : {T : Type 0} (size : T → ℕ) (n : ℕ) (parts : List (Part T)) → 0 < n → All (IsBelow size n) parts → most (part_size size) parts < n
largest_below size n [] some h = some
largest_below size n (p ∷ parts) some h =
    omega (arith, All-head (IsBelow size n) p parts h, largest_below size n parts some (All-tail (IsBelow size n) p parts h))

operand_below : (minus : Option Place) (e : Expression) (n : ℕ) → expression_size e < n → All (IsBelow expression_size n) (operand_parts minus e)
operand_below None e n less = let P = IsBelow expression_size n in All-cons P (part.Operand e) [] less (All-nil P)
operand_below (Some at) e n less =
    let P = IsBelow expression_size n in
    All-cons P (part.Minus at) (part.Operand e ∷ []) (omega (arith, less)) (All-cons P (part.Operand e) [] less (All-nil P))

rest_below : (rest : List OperatorItem) (n : ℕ) → most operator_item_size rest < n → All (IsBelow expression_size n) (rest_parts rest)
rest_below [] n less = All-nil (IsBelow expression_size n)
rest_below (i ∷ rest) n less =
    let P = IsBelow expression_size n in
    All-cons P (part.Operator i.operator) (operand_parts i.minus i.operand ++ rest_parts rest) (omega (arith, less))
    (All-append P (operand_parts i.minus i.operand) (rest_parts rest) (operand_below i.minus i.operand n (omega (arith, less))) (rest_below rest n (omega (arith, less))))

pub smaller_in_order : (items : Items) (pieces : List Piece) (written ordered : List (Part Expression)) → written ≡ written_parts items → IsOrder pieces written ordered
    → most (part_size expression_size) ordered < items_size items
smaller_in_order items pieces written ordered e order =
    let n = items_size items in
    let P = IsBelow expression_size n in
    let first : expression_size items.first < n = omega arith in
    let rest : most operator_item_size items.rest.items < n = omega arith in
    largest_below expression_size n ordered (omega arith)
    (all_in_order P pieces written ordered
    (subst (All P) (sym e) (All-append P (operand_parts items.minus items.first) (rest_parts items.rest.items) (operand_below items.minus items.first n first) (rest_below items.rest.items n rest))) order)

pattern_rest_below : (rest : List ConstructorItem) (n : ℕ) → most constructor_item_size rest < n → All (IsBelow pattern_size n) (pattern_rest rest)
pattern_rest_below [] n less = All-nil (IsBelow pattern_size n)
pattern_rest_below (i ∷ rest) n less =
    let P = IsBelow pattern_size n in
    All-cons P (part.Operator i.operator) (part.Operand i.operand ∷ pattern_rest rest) (omega (arith, less))
    (All-cons P (part.Operand i.operand) (pattern_rest rest) (omega (arith, less)) (pattern_rest_below rest n (omega (arith, less))))

pub pattern_smaller_in_order : (items : PatItems) (pieces : List Piece) (written ordered : List (Part Pattern)) → written ≡ written_pattern items → IsOrder pieces written ordered
    → most (part_size pattern_size) ordered < pat_items_size items
pattern_smaller_in_order items pieces written ordered e order =
    let n = pat_items_size items in
    let P = IsBelow pattern_size n in
    let first : pattern_size items.first < n = omega arith in
    let rest : most constructor_item_size items.rest.items < n = omega arith in
    largest_below pattern_size n ordered (omega arith)
    (all_in_order P pieces written ordered
    (subst (All P) (sym e) (All-cons P (part.Operand items.first) (pattern_rest items.rest.items) first (pattern_rest_below items.rest.items n rest))) order)
