-- Parts, their pieces and the items that they are.
use Rattle.std.specs.Prelude.{◌≡◌, ℕ, suc, ◌+◌, ◌<◌, List, [], ◌∷◌, ◌++◌, Some, length, map, refl, slice_get, take}
use Rattle.std.specs.List.{All, AllZip}
use Rattle.std.specs.Option.{option_map}
use Rattle.std.proofs.Common.{ap, ap₂, arith, subst, sym, ◌∙◌}
use Rattle.std.proofs.Math.ListN.{get_or}
use Rattle.std.proofs.lemmas.List.{length-map, map-append, take_more}
use Rattle.std.proofs.lemmas.List.Elements.{All-append, All-cons, All-head, All-nil, All-tail}
use Rattle.std.proofs.lemmas.Option.{slice_get-get_or, slice_get-map}
use Rattle.cu_syntax.specs.Names.{name_meaning}
use Rattle.cu_syntax.specs.Syntax.{Name}
use Rattle.cu_fixity.specs.declared.fixity.Fixity.{Fixity}
use Rattle.cu_fixity.specs.declared.piece.Piece.{Piece}
use Rattle.cu_fixity.specs.declared.piece.Piece.TheVariants as piece
use Rattle.cu_fixity.specs.declared.part.Part.{Part}
use Rattle.cu_fixity.specs.declared.part.Part.TheVariants as part
use Rattle.cu_fixity.specs.declared.tree.Cell.{Cell}
use Rattle.cu_fixity.specs.declared.tree.Cell.TheVariants as cell
use Rattle.cu_fixity.specs.Fixities.{Table, fixity_in}
use Rattle.cu_fixity.specs.Grouping.{Applied, Between, Grouped, HasNoTree, Infix, Item, Leaf, Operand, Prefix, Tree, flatten}
use Rattle.cu_fixity.specs.Operators.{IsGrouped, Operator, fixity_with, polish}
use Rattle.cu_fixity.specs.Parts.{HasNone, IsOrder, piece_of, taken}
use Rattle.cu_fixity.specs.Pieces as pieces
use Rattle.cu_fixity.specs.Pieces.{fixity_at, fixity_of, items_of, minus, numbered}
use Rattle.cu_fixity.specs.Ranges.{number}
use Rattle.cu_fixity.specs.Resolving.{item_of}
use Rattle.cu_fixity.specs.Spelling.{spelled}
use Rattle.cu_fixity.proofs.Relabel.{Alike, none_renamed, renamed, zip_map}

-- An operator has its fixity in a table of declarations.
abbrev pub Declared : {T : Type 0} → List (List ℕ) → (Name → Fixity) → Table → Part T → Type 0
Declared names fixity table (part.Operator name) = fixity (name_meaning names name) ≡ fixity_in table name.text
Declared names fixity table _ = Unit {0}

abbrev pub place_of : Item ℕ ℕ → ℕ
place_of (Operand n) = n
place_of (Prefix n) = n
place_of (Infix n) = n

place_is : {T : Type 0} (table : Table) (n : ℕ) (p : Part T) → place_of (pieces.item_of n (piece_of table p)) ≡ n
place_is table n (part.Operand x) = refl
place_is table n (part.Minus at) = refl
place_is table n (part.Operator name) = refl

alike_at : {T A : Type 0} (value : T → A) (names : List (List ℕ)) (fixity : Name → Fixity) (table : Table) (whole : List (Part T)) (n : ℕ) (p : Part T)
    → Declared names fixity table p → slice_get (map (piece_of table) whole) n ≡ Some (piece_of table p)
    → Alike (fixity_at (map (piece_of table) whole)) (fixity_with fixity) (pieces.item_of n (piece_of table p)) (item_of value names p)
alike_at value names fixity table whole n (part.Operand x) d e = tt
alike_at value names fixity table whole n (part.Minus at) d e = ap fixity_of e
alike_at value names fixity table whole n (part.Operator name) d e = ap fixity_of e ∙ sym d

-- The item of a number is like that of its part.
abbrev Stands : {A : Type 0} → (ℕ → Fixity) → (Operator → Fixity) → List (Item A Operator) → Item ℕ ℕ → Item A Operator → Type 0
Stands f g items x y = Alike f g x y × (slice_get items (place_of x) ≡ Some y)

stand : {T A : Type 0} (value : T → A) (names : List (List ℕ)) (fixity : Name → Fixity) (table : Table) (whole : List (Part T)) (n : ℕ) (left : List (Part T))
    → ((k : ℕ) → slice_get whole (n + k) ≡ slice_get left k) → All (Declared names fixity table) left
    → AllZip (Stands (fixity_at (map (piece_of table) whole)) (fixity_with fixity) (map (item_of value names) whole))
    (numbered n (map (piece_of table) left)) (map (item_of value names) left)
stand value names fixity table whole n [] same d = tt
stand value names fixity table whole n (p ∷ left) same d =
    let first : n ≡ n + 0 = omega arith in
    let here : slice_get whole n ≡ Some p = ap (slice_get whole) first ∙ same 0 in
    let seen : slice_get (map (piece_of table) whole) n ≡ Some (piece_of table p) =
    slice_get-map (piece_of table) whole n ∙ ap (option_map (piece_of table)) here in
    let found : slice_get (map (item_of value names) whole) n ≡ Some (item_of value names p) =
    slice_get-map (item_of value names) whole n ∙ ap (option_map (item_of value names)) here in
    let later : (k : ℕ) → slice_get whole (suc n + k) ≡ slice_get left k =
    λ k. (let e : suc n + k ≡ n + suc k = omega arith in ap (slice_get whole) e ∙ same (suc k)) in (
      (
        alike_at value names fixity table whole n p (All-head (Declared names fixity table) p left d) seen,
        ap (slice_get (map (item_of value names) whole)) (place_is table n p) ∙ found,
      ),
      stand value names fixity table whole (suc n) left later (All-tail (Declared names fixity table) p left d),
    )

all_stand : {T A : Type 0} (value : T → A) (names : List (List ℕ)) (fixity : Name → Fixity) (table : Table) (written : List (Part T))
    → All (Declared names fixity table) written
    → AllZip (Stands (fixity_at (map (piece_of table) written)) (fixity_with fixity) (map (item_of value names) written))
    (items_of (map (piece_of table) written)) (map (item_of value names) written)
all_stand value names fixity table written d = stand value names fixity table written 0 written (λ k. (let e : 0 + k ≡ k = omega arith in ap (slice_get written) e)) d

-- a cell as an item
abbrev cell_item : Cell → Item ℕ ℕ
cell_item (cell.Operand n) = Operand n
cell_item (cell.Minus n) = Prefix n
cell_item (cell.Operator n) = Infix n

place_number : (c : Cell) → place_of (cell_item c) ≡ number c
place_number (cell.Operand n) = refl
place_number (cell.Minus n) = refl
place_number (cell.Operator n) = refl

polish_cells : (t : Tree ℕ ℕ) → polish t ≡ map cell_item (spelled t)
polish_cells (Leaf n) = refl
polish_cells (Applied n t) = ap (λ xs. Prefix n ∷ xs) (polish_cells t)
polish_cells (Between l n r) =
    ap (λ xs. Infix n ∷ xs)
    (ap₂ (λ xs ys. xs ++ ys) (polish_cells l) (polish_cells r) ∙ sym (map-append cell_item (spelled l) (spelled r)))

cons_parts : {X : Type 0} (x y : X) (xs ys : List X) → x ∷ xs ≡ y ∷ ys → (x ≡ y) × (xs ≡ ys)
cons_parts x y xs ys e = let h : x ≡ y = cc in let k : xs ≡ ys = cc in (h, k)

-- the items of the parts that were taken
read_taken : {T A : Type 0} (f : ℕ → Fixity) (g : Operator → Fixity) (m : Part T → Item A Operator) (written : List (Part T)) (cells : List Cell) (ordered : List (Part T))
    (items : List (Item A Operator)) → map Some ordered ≡ map (taken written) cells → AllZip (Stands f g (map m written)) (map cell_item cells) items
    → items ≡ map m ordered
read_taken f g m written [] [] [] e h = refl
read_taken f g m written [] (p ∷ ordered) items e h = absurd cc
read_taken f g m written (c ∷ cells) [] items e h = absurd cc
read_taken f g m written [] [] (i ∷ items) e h = absurd h
read_taken f g m written (c ∷ cells) (p ∷ ordered) [] e h = absurd h
read_taken f g m written (c ∷ cells) (p ∷ ordered) (i ∷ items) e h =
    let parts = cons_parts (Some p) (taken written c) (map Some ordered) (map (taken written) cells) e in
    let found : Some i ≡ Some (m p) =
    sym h.0.1 ∙ ap (slice_get (map m written)) (place_number c) ∙ slice_get-map m written (number c) ∙ ap (option_map m) (sym parts.0) in
    let same : i ≡ m p = cc in ap₂ (λ x xs. x ∷ xs) same (read_taken f g m written cells ordered items parts.1 h.1)

pub in_order : {T A : Type 0} (value : T → A) (names : List (List ℕ)) (fixity : Name → Fixity) (table : Table) (written ordered : List (Part T))
    → All (Declared names fixity table) written → IsOrder (map (piece_of table) written) written ordered
    → IsGrouped (fixity_with fixity) (map (item_of value names) written) (map (item_of value names) ordered)
in_order value names fixity table written ordered d o =
    let f = fixity_at (map (piece_of table) written) in
    let g = fixity_with fixity in
    let m = item_of value names in
    let k = renamed f g (Stands f g (map m written)) (λ x y h. h.0) (items_of (map (piece_of table) written)) (map m written) o.tree
    (all_stand value names fixity table written d) o.grouped in
    let same = read_taken f g m written (spelled o.tree) ordered (polish k.tree) o.all_taken
    (subst (λ xs. AllZip (Stands f g (map m written)) xs (polish k.tree)) (polish_cells o.tree) k.polished) in
    record { tree = k.tree; grouped = k.grouped; spelled = same }

pub no_tree : {T A : Type 0} (value : T → A) (names : List (List ℕ)) (fixity : Name → Fixity) (table : Table) (written : List (Part T))
    → All (Declared names fixity table) written
    → HasNone (map (piece_of table) written)
    → HasNoTree (fixity_with fixity) (map (item_of value names) written)
no_tree value names fixity table written d none =
    let f = fixity_at (map (piece_of table) written) in
    let g = fixity_with fixity in
    let m = item_of value names in
    none_renamed f g (items_of (map (piece_of table) written)) (map m written)
    (zip_map (Stands f g (map m written)) (Alike f g) (λ x y h. h.0) (items_of (map (piece_of table) written)) (map m written)
    (all_stand value names fixity table written d)) none

-- The cells of a tree of all pieces have numbers of pieces.
all_prefix : {X : Type 0} (P : X → Type 0) (xs ys : List X) → All P (xs ++ ys) → All P xs
all_prefix P [] ys h = All-nil P
all_prefix P (x ∷ xs) ys h = All-cons P x xs (All-head P x (xs ++ ys) h) (all_prefix P xs ys (All-tail P x (xs ++ ys) h))

all_suffix : {X : Type 0} (P : X → Type 0) (xs ys : List X) → All P (xs ++ ys) → All P ys
all_suffix P [] ys h = h
all_suffix P (x ∷ xs) ys h = all_suffix P xs ys (All-tail P x (xs ++ ys) h)

piece_place : (n : ℕ) (p : Piece) → place_of (pieces.item_of n p) ≡ n
piece_place n piece.Operand = refl
piece_place n piece.Minus = refl
piece_place n (piece.Operator f) = refl

numbered_below : (end n : ℕ) (ps : List Piece) → n + length ps ≡ end → All (λ i. place_of i < end) (numbered n ps)
numbered_below end n [] e = All-nil (λ (i : Item ℕ ℕ). place_of i < end)
numbered_below end n (p ∷ ps) e =
    let first : place_of (pieces.item_of n p) < end = omega (arith, e, piece_place n p) in
    All-cons (λ (i : Item ℕ ℕ). place_of i < end) (pieces.item_of n p) (numbered (suc n) ps) first (numbered_below end (suc n) ps (omega (arith, e)))

cells_below : (end : ℕ) (t : Tree ℕ ℕ) → All (λ i. place_of i < end) (flatten t) → All (λ c. number c < end) (spelled t)
cells_below end (Leaf n) h =
    All-cons (λ (c : Cell). number c < end) (cell.Operand n) [] (All-head (λ (i : Item ℕ ℕ). place_of i < end) (Operand n) [] h)
    (All-nil (λ (c : Cell). number c < end))
cells_below end (Applied n t) h =
    All-cons (λ (c : Cell). number c < end) (cell.Minus n) (spelled t) (All-head (λ (i : Item ℕ ℕ). place_of i < end) (Prefix n) (flatten t) h)
    (cells_below end t (All-tail (λ (i : Item ℕ ℕ). place_of i < end) (Prefix n) (flatten t) h))
cells_below end (Between l n r) h =
    let after = all_suffix (λ (i : Item ℕ ℕ). place_of i < end) (flatten l) (Infix n ∷ flatten r) h in
    All-cons (λ (c : Cell). number c < end) (cell.Operator n) (spelled l ++ spelled r)
    (All-head (λ (i : Item ℕ ℕ). place_of i < end) (Infix n) (flatten r) after)
    (All-append (λ (c : Cell). number c < end) (spelled l) (spelled r)
    (cells_below end l (all_prefix (λ (i : Item ℕ ℕ). place_of i < end) (flatten l) (Infix n ∷ flatten r) h))
    (cells_below end r (All-tail (λ (i : Item ℕ ℕ). place_of i < end) (Infix n) (flatten r) after)))

pub all_within : {T : Type 0} (table : Table) (written : List (Part T)) (ps : List Piece) (found : Tree ℕ ℕ) (cells : List Cell)
    → ps ≡ map (piece_of table) written → Grouped (fixity_at ps) (items_of ps) found → cells ≡ spelled found → All (λ c. number c < length written) cells
all_within table written ps found cells e g s =
    let size : length ps ≡ length written = ap length e ∙ length-map written (piece_of table) in
    let below = subst (All (λ (i : Item ℕ ℕ). place_of i < length written)) (sym g.flattens) (numbered_below (length written) 0 ps (omega (arith, size))) in
    subst (All (λ c. number c < length written)) (sym s) (cells_below (length written) found below)

pub order_of : {T : Type 0} (table : Table) (written ordered : List (Part T)) (ps : List Piece) (found : Tree ℕ ℕ) (cells : List Cell)
    → ps ≡ map (piece_of table) written → Grouped (fixity_at ps) (items_of ps) found → cells ≡ spelled found → map Some ordered ≡ map (taken written) cells
    → IsOrder (map (piece_of table) written) written ordered
order_of table written ordered ps found cells e g s t = record {
  tree = found;
  grouped = subst (λ qs. Grouped (fixity_at qs) (items_of qs) found) e g;
  all_taken = t ∙ ap (map (taken written)) s;
}

pub none_of : {T : Type 0} (table : Table) (written : List (Part T)) (ps : List Piece) → ps ≡ map (piece_of table) written
    → HasNone ps → HasNone (map (piece_of table) written)
none_of table written ps e none = subst HasNone e none

-- one more part is taken
pub one_taken : {T : Type 0} (parts : List (Part T)) (cells : List Cell) (i : ℕ) (d : Cell) (n : ℕ) (p : Part T) (before after : List (Part T))
    → map Some before ≡ map (taken parts) (take i cells) → i < length cells → n ≡ number (get_or cells i d) → slice_get parts n ≡ Some p
    → after ≡ before ++ p ∷ [] → map Some after ≡ map (taken parts) (take (i + 1) cells)
one_taken parts cells i d n p before after h lt e found pushed =
    ap (map Some) pushed ∙ map-append Some before (p ∷ []) ∙ ap₂ (λ xs x. xs ++ x ∷ []) h (sym found ∙ ap (slice_get parts) e)
    ∙ sym (map-append (taken parts) (take i cells) (get_or cells i d ∷ [])) ∙ ap (map (taken parts)) (sym (take_more cells i d lt))

pub found_part : {T : Type 0} (parts : List (Part T)) (n : ℕ) (p : Part T) → n < length parts → p ≡ get_or parts n p → slice_get parts n ≡ Some p
found_part parts n p h e = slice_get-get_or parts n p h ∙ ap Some (sym e)
