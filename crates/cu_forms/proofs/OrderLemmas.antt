-- Trees of pieces, and the parts that stand for them.
use Rattle.std.specs.Prelude.{◌≡◌, ℕ, suc, ◌+◌, ◌<◌, List, [], ◌∷◌, ◌++◌, Some, length, map, refl, slice_get}
use Rattle.std.specs.List.{All, AllZip}
use Rattle.std.specs.Option.{option_map}
use Rattle.std.proofs.Common.{ap, ap₂, arith, subst, sym, ◌∙◌}
use Rattle.std.proofs.lemmas.List.{map-append}
use Rattle.std.proofs.lemmas.List.Elements.{All-append, All-cons, All-head, All-nil, All-tail}
use Rattle.std.proofs.lemmas.Option.{slice_get-map}
use Rattle.cu_fixity.specs.declared.fixity.Fixity.{Fixity}
use Rattle.cu_fixity.specs.declared.piece.Piece.{Piece}
use Rattle.cu_fixity.specs.declared.piece.Piece.TheVariants as piece
use Rattle.cu_fixity.specs.declared.part.Part.{Part}
use Rattle.cu_fixity.specs.declared.tree.Cell.{Cell}
use Rattle.cu_fixity.specs.declared.tree.Cell.TheVariants as cell
use Rattle.cu_fixity.specs.Grouping.{Applied, Between, Grouped, HasNoTree, Infix, Item, Leaf, Operand, Prefix, Tree, flatten}
use Rattle.cu_fixity.specs.Operators.{IsGrouped, polish}
use Rattle.cu_fixity.specs.Parts.{HasNone, IsOrder, taken}
use Rattle.cu_fixity.specs.Pieces as pieces
use Rattle.cu_fixity.specs.Pieces.{fixity_at, fixity_of, items_of, minus, numbered}
use Rattle.cu_fixity.specs.Ranges.{number}
use Rattle.cu_fixity.specs.Spelling.{spelled}
use Rattle.cu_fixity.proofs.Relabel.{Alike, none_renamed, renamed, zip_map}

-- ---- the cells of a tree have numbers of pieces

abbrev pub place_of : Item ℕ ℕ → ℕ
place_of (Operand n) = n
place_of (Prefix n) = n
place_of (Infix n) = n

all_prefix : {X : Type 0} (P : X → Type 0) (xs ys : List X) → All P (xs ++ ys) → All P xs
all_prefix P [] ys h = All-nil P
all_prefix P (x ∷ xs) ys h = All-cons P x xs (All-head P x (xs ++ ys) h) (all_prefix P xs ys (All-tail P x (xs ++ ys) h))

all_suffix : {X : Type 0} (P : X → Type 0) (xs ys : List X) → All P (xs ++ ys) → All P ys
all_suffix P [] ys h = h
all_suffix P (x ∷ xs) ys h = all_suffix P xs ys (All-tail P x (xs ++ ys) h)

place_is : (n : ℕ) (p : Piece) → place_of (pieces.item_of n p) ≡ n
place_is n piece.Operand = refl
place_is n piece.Minus = refl
place_is n (piece.Operator f) = refl

numbered_below : (end n : ℕ) (ps : List Piece) → n + length ps ≡ end → All (λ i. place_of i < end) (numbered n ps)
numbered_below end n [] e = All-nil (λ (i : Item ℕ ℕ). place_of i < end)
numbered_below end n (p ∷ ps) e =
    let first : place_of (pieces.item_of n p) < end = omega (arith, e, place_is n p) in
    All-cons (λ (i : Item ℕ ℕ). place_of i < end) (pieces.item_of n p) (numbered (suc n) ps) first (numbered_below end (suc n) ps (omega (arith, e)))

cells_below : (end : ℕ) (t : Tree ℕ ℕ) → All (λ i. place_of i < end) (flatten t) → All (λ c. number c < end) (spelled t)
cells_below end (Leaf n) h =
    All-cons (λ (c : Cell). number c < end) (cell.Operand n) [] (All-head (λ (i : Item ℕ ℕ). place_of i < end) (Operand n) [] h)
    (All-nil (λ (c : Cell). number c < end))
cells_below end (Applied n t) h =
    All-cons (λ (c : Cell). number c < end) (cell.Minus n) (spelled t) (All-head (λ (i : Item ℕ ℕ). place_of i < end) (Prefix n) (flatten t) h)
    (cells_below end t (All-tail (λ (i : Item ℕ ℕ). place_of i < end) (Prefix n) (flatten t) h))
cells_below end (Between l n r) h =
    let after = all_suffix (λ (i : Item ℕ ℕ). place_of i < end) (flatten l) (Infix n ∷ flatten r) h in
    All-cons (λ (c : Cell). number c < end) (cell.Operator n) (spelled l ++ spelled r)
    (All-head (λ (i : Item ℕ ℕ). place_of i < end) (Infix n) (flatten r) after)
    (All-append (λ (c : Cell). number c < end) (spelled l) (spelled r)
    (cells_below end l (all_prefix (λ (i : Item ℕ ℕ). place_of i < end) (flatten l) (Infix n ∷ flatten r) h))
    (cells_below end r (All-tail (λ (i : Item ℕ ℕ). place_of i < end) (Infix n) (flatten r) after)))

pub all_within : (end : ℕ) (ps : List Piece) (t : Tree ℕ ℕ) (cells : List Cell) → length ps ≡ end → Grouped (fixity_at ps) (items_of ps) t → cells ≡ spelled t
    → All (λ c. number c < end) cells
all_within end ps t cells size g s =
    subst (All (λ c. number c < end)) (sym s)
    (cells_below end t (subst (All (λ (i : Item ℕ ℕ). place_of i < end)) (sym g.flattens) (numbered_below end 0 ps (omega (arith, size)))))

pub order_is : {T : Type 0} (ps : List Piece) (written ordered : List (Part T)) (t : Tree ℕ ℕ) (cells : List Cell) → Grouped (fixity_at ps) (items_of ps) t → cells ≡ spelled t
    → map Some ordered ≡ map (taken written) cells → IsOrder ps written ordered
order_is ps written ordered t cells g s e = record { tree = t; grouped = g; all_taken = e ∙ ap (map (taken written)) s }

-- ---- parts as items

-- A piece is what grouping sees of an item.
abbrev pub Shows : {A O : Type 0} → (O → Fixity) → Piece → Item A O → Type 0
Shows fixity piece.Operand (Operand a) = Unit {0}
Shows fixity piece.Minus (Prefix o) = minus ≡ fixity o
Shows fixity (piece.Operator f) (Infix o) = f ≡ fixity o
Shows fixity _ _ = ⊥

alike_at : {A O : Type 0} (fixity : O → Fixity) (whole : List Piece) (n : ℕ) (p : Piece) (i : Item A O) → Shows fixity p i → slice_get whole n ≡ Some p
    → Alike (fixity_at whole) fixity (pieces.item_of n p) i
alike_at fixity whole n piece.Operand (Operand a) s e = tt
alike_at fixity whole n piece.Operand (Prefix o) s e = absurd s
alike_at fixity whole n piece.Operand (Infix o) s e = absurd s
alike_at fixity whole n piece.Minus (Operand a) s e = absurd s
alike_at fixity whole n piece.Minus (Prefix o) s e = ap fixity_of e ∙ s
alike_at fixity whole n piece.Minus (Infix o) s e = absurd s
alike_at fixity whole n (piece.Operator f) (Operand a) s e = absurd s
alike_at fixity whole n (piece.Operator f) (Prefix o) s e = absurd s
alike_at fixity whole n (piece.Operator f) (Infix o) s e = ap fixity_of e ∙ s

abbrev Stands : {A O : Type 0} → (ℕ → Fixity) → (O → Fixity) → List (Item A O) → Item ℕ ℕ → Item A O → Type 0
Stands f g items x y = Alike f g x y × (slice_get items (place_of x) ≡ Some y)

stand : {T A O : Type 0} (fixity : O → Fixity) (seen : Part T → Piece) (m : Part T → Item A O) (whole : List (Part T)) → ((p : Part T) → Shows fixity (seen p) (m p)) → (n : ℕ) (left : List (Part T))
    → ((k : ℕ) → slice_get whole (n + k) ≡ slice_get left k)
    → AllZip (Stands (fixity_at (map seen whole)) fixity (map m whole)) (numbered n (map seen left)) (map m left)
stand fixity seen m whole shows n [] same = tt
stand fixity seen m whole shows n (p ∷ left) same =
    let first : n ≡ n + 0 = omega arith in
    let here : slice_get whole n ≡ Some p = ap (slice_get whole) first ∙ same 0 in
    let shown : slice_get (map seen whole) n ≡ Some (seen p) = slice_get-map seen whole n ∙ ap (option_map seen) here in
    let found : slice_get (map m whole) n ≡ Some (m p) = slice_get-map m whole n ∙ ap (option_map m) here in
    let later : (k : ℕ) → slice_get whole (suc n + k) ≡ slice_get left k =
    λ k. (let e : suc n + k ≡ n + suc k = omega arith in ap (slice_get whole) e ∙ same (suc k)) in (
      (alike_at fixity (map seen whole) n (seen p) (m p) (shows p) shown, ap (slice_get (map m whole)) (place_is n (seen p)) ∙ found),
      stand fixity seen m whole shows (suc n) left later,
    )

all_stand : {T A O : Type 0} (fixity : O → Fixity) (seen : Part T → Piece) (m : Part T → Item A O) (written : List (Part T)) → ((p : Part T) → Shows fixity (seen p) (m p))
    → AllZip (Stands (fixity_at (map seen written)) fixity (map m written)) (items_of (map seen written)) (map m written)
all_stand fixity seen m written shows = stand fixity seen m written shows 0 written (λ k. (let e : 0 + k ≡ k = omega arith in ap (slice_get written) e))

abbrev cell_item : Cell → Item ℕ ℕ
cell_item (cell.Operand n) = Operand n
cell_item (cell.Minus n) = Prefix n
cell_item (cell.Operator n) = Infix n

place_number : (c : Cell) → place_of (cell_item c) ≡ number c
place_number (cell.Operand n) = refl
place_number (cell.Minus n) = refl
place_number (cell.Operator n) = refl

polish_cells : (t : Tree ℕ ℕ) → polish t ≡ map cell_item (spelled t)
polish_cells (Leaf n) = refl
polish_cells (Applied n t) = ap (λ xs. Prefix n ∷ xs) (polish_cells t)
polish_cells (Between l n r) =
    ap (λ xs. Infix n ∷ xs)
    (ap₂ (λ xs ys. xs ++ ys) (polish_cells l) (polish_cells r) ∙ sym (map-append cell_item (spelled l) (spelled r)))

cons_parts : {X : Type 0} (x y : X) (xs ys : List X) → x ∷ xs ≡ y ∷ ys → (x ≡ y) × (xs ≡ ys)
cons_parts x y xs ys e = let h : x ≡ y = cc in let k : xs ≡ ys = cc in (h, k)

read_taken : {T A O : Type 0} (f : ℕ → Fixity) (g : O → Fixity) (m : Part T → Item A O) (written : List (Part T)) (cells : List Cell) (ordered : List (Part T))
    (items : List (Item A O)) → map Some ordered ≡ map (taken written) cells → AllZip (Stands f g (map m written)) (map cell_item cells) items
    → items ≡ map m ordered
read_taken f g m written [] [] [] e h = refl
read_taken f g m written [] (p ∷ ordered) items e h = absurd cc
read_taken f g m written (c ∷ cells) [] items e h = absurd cc
read_taken f g m written [] [] (i ∷ items) e h = absurd h
read_taken f g m written (c ∷ cells) (p ∷ ordered) [] e h = absurd h
read_taken f g m written (c ∷ cells) (p ∷ ordered) (i ∷ items) e h =
    let parts = cons_parts (Some p) (taken written c) (map Some ordered) (map (taken written) cells) e in
    let found : Some i ≡ Some (m p) =
    sym h.0.1 ∙ ap (slice_get (map m written)) (place_number c) ∙ slice_get-map m written (number c) ∙ ap (option_map m) (sym parts.0) in
    let same : i ≡ m p = cc in ap₂ (λ x xs. x ∷ xs) same (read_taken f g m written cells ordered items parts.1 h.1)

pub in_order : {T A O : Type 0} (fixity : O → Fixity) (seen : Part T → Piece) (m : Part T → Item A O) (written ordered : List (Part T)) → ((p : Part T) → Shows fixity (seen p) (m p))
    → IsOrder (map seen written) written ordered → IsGrouped fixity (map m written) (map m ordered)
in_order fixity seen m written ordered shows o =
    let f = fixity_at (map seen written) in
    let k = renamed f fixity (Stands f fixity (map m written)) (λ x y h. h.0) (items_of (map seen written)) (map m written) o.tree
    (all_stand fixity seen m written shows) o.grouped in
    let same = read_taken f fixity m written (spelled o.tree) ordered (polish k.tree) o.all_taken
    (subst (λ xs. AllZip (Stands f fixity (map m written)) xs (polish k.tree)) (polish_cells o.tree) k.polished) in
    record { tree = k.tree; grouped = k.grouped; spelled = same }

pub no_tree : {T A O : Type 0} (fixity : O → Fixity) (seen : Part T → Piece) (m : Part T → Item A O) (written : List (Part T)) → ((p : Part T) → Shows fixity (seen p) (m p))
    → HasNone (map seen written) → HasNoTree fixity (map m written)
no_tree fixity seen m written shows none =
    let f = fixity_at (map seen written) in
    none_renamed f fixity (items_of (map seen written)) (map m written)
    (zip_map (Stands f fixity (map m written)) (Alike f fixity) (λ x y h. h.0) (items_of (map seen written)) (map m written)
    (all_stand fixity seen m written shows)) none
