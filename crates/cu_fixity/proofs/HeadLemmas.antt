-- The first cell of a tree of a range, by the operator that is found in it.
use Rattle.std.specs.Prelude.{◌≡◌, ℕ, zero, suc, ◌+◌, ◌-◌, ◌<◌, ◌≤◌, Bool, true, false, List, [], ◌∷◌, ◌++◌, IfNone, IfSome, Option, None, Some, if◌then◌else◌, length, nat_eq, refl, slice_get}
use Rattle.std.proofs.Common.{ap, ap₂, arith, eq-eqb, eqb-true, get_or, subst, sym, true≢false, ◌∙◌, append-nil}
use Rattle.std.proofs.lemmas.Option.{slice_get-get_or}
use Rattle.std.proofs.lemmas.Bool.{and_parts}
use Rattle.cu_fixity.specs.declared.fixity.Fixity.{Fixity}
use Rattle.cu_fixity.specs.declared.grouping.Task.{Task}
use Rattle.cu_fixity.specs.declared.grouping.Under.{Under}
use Rattle.cu_fixity.specs.declared.grouping.Under.TheVariants as under
use Rattle.cu_fixity.specs.declared.piece.Piece.{Piece}
use Rattle.cu_fixity.specs.declared.piece.Piece.TheVariants as piece
use Rattle.cu_fixity.specs.declared.tree.Cell.{Cell}
use Rattle.cu_fixity.specs.declared.tree.Cell.TheVariants as cell
use Rattle.cu_fixity.specs.Grouping.{Applied, Between, Infix, Item, Leaf, Operand, Prefix, Tree, fits_after, flatten, is_grouped, top}
use Rattle.cu_fixity.specs.Pieces.{fixity_at, item_of, items_of}
use Rattle.cu_fixity.specs.Ranges.{Candidate, HasNoHead, IsHead, IsWithin, SolveAll, Solves, between, candidate, fits, parts, root, spelled_all}
use Rattle.cu_fixity.specs.Spelling.{spelled}
use Rattle.cu_fixity.proofs.OneTree.{place, split_alike}
use Rattle.cu_fixity.proofs.RangeLemmas.{piece_at, range_end, range_step}
use Rattle.cu_fixity.proofs.Roots.{fitting, root_found, top_at}

-- a range is what stands before a piece, the piece, and what stands after it
pub range_split : (pieces : List Piece) (k from n to : ℕ) (p : Piece) → n ≡ from + k → n < to → to ≤ length pieces → slice_get pieces n ≡ Some p
    → between from to (items_of pieces) ≡ between from n (items_of pieces) ++ item_of n p ∷ between (n + 1) to (items_of pieces)
range_split pieces zero from n to p e h w s =
    let same : from ≡ n = omega (arith, e) in
    ap (λ m. between m to (items_of pieces)) same ∙ range_step pieces n to p h s
    ∙ ap (λ xs. xs ++ item_of n p ∷ between (n + 1) to (items_of pieces))
    (sym (range_end pieces n) ∙ ap (λ m. between m n (items_of pieces)) (sym same))
range_split pieces (suc k) from n to p e h w s =
    let q = piece_at pieces from (omega (arith, e, h, w)) in
    range_step pieces from to q.0 (omega (arith, e, h)) q.1
    ∙ ap (λ xs. item_of from q.0 ∷ xs) (range_split pieces k (from + 1) n to p (omega (arith, e)) h w s)
    ∙ ap (λ xs. xs ++ item_of n p ∷ between (n + 1) to (items_of pieces)) (sym (range_step pieces from n q.0 (omega (arith, e)) q.1))

pub range_length : (pieces : List Piece) (k from to : ℕ) → to ≡ from + k → to ≤ length pieces → length (between from to (items_of pieces)) ≡ k
range_length pieces zero from to e w =
    let same : to ≡ from = omega (arith, e) in ap length (ap (λ m. between from m (items_of pieces)) same ∙ range_end pieces from)
range_length pieces (suc k) from to e w =
    let q = piece_at pieces from (omega (arith, e, w)) in
    ap length (range_step pieces from to q.0 (omega (arith, e)) q.1) ∙ ap suc (range_length pieces k (from + 1) to (omega (arith, e)) w)

-- what is found in the range of a task
abbrev pub found : List Piece → Task → Option (Candidate ℕ)
found pieces task = root (fixity_at pieces) task.from None (between task.from task.to (items_of pieces))

-- a tree of the range has what is found at its top
pub top_is : (pieces : List Piece) (task : Task) (best : Option ℕ) (tree : Tree ℕ ℕ) → candidate best ≡ found pieces task → Solves pieces task tree
    → top_at task.from tree ≡ candidate best
top_is pieces task best tree e s =
    sym (root_found (fixity_at pieces) tree task.from s.grouped.fits) ∙ ap (root (fixity_at pieces) task.from None) s.grouped.flattens ∙ sym e

abbrev leaf : ℕ → Tree ℕ ℕ
leaf n = Leaf n

-- the tree of a range without operators
leaf_is : (pieces : List Piece) (task : Task) (tree : Tree ℕ ℕ) → IsWithin (length pieces) task → top_at task.from tree ≡ None → Solves pieces task tree
    → (tree ≡ Leaf task.from) × (task.to - task.from ≡ 1)
leaf_is pieces task (Applied o t) w e s = let no : ⊥ = cc in absurd no
leaf_is pieces task (Between l o r) w e s = let no : ⊥ = cc in absurd no
leaf_is pieces task (Leaf a) w e s =
    let long : 1 ≡ task.to - task.from =
    ap length s.grouped.flattens ∙ range_length pieces (task.to - task.from) task.from task.to (omega (arith, w.rises)) w.ends in
    let q = piece_at pieces task.from (omega (arith, long, w.rises, w.ends)) in
    let first : Operand a ∷ [] ≡ item_of task.from q.0 ∷ between (task.from + 1) task.to (items_of pieces) =
    s.grouped.flattens ∙ range_step pieces task.from task.to q.0 (omega (arith, long)) q.1 in
    (named q.0 (heads first), omega (arith, long))
  where
    heads : {x y : Item ℕ ℕ} {xs ys : List (Item ℕ ℕ)} → x ∷ xs ≡ y ∷ ys → x ≡ y
    heads h = cc

    named : (p : Piece) → Operand a ≡ item_of task.from p → leaf a ≡ leaf task.from
    named piece.Operand h = let same : a ≡ task.from = cc in ap leaf same
    named piece.Minus h = absurd cc
    named (piece.Operator f) h = absurd cc

-- no operator is found among one piece
alone_is : (pieces : List Piece) (task : Task) → IsWithin (length pieces) task → None ≡ found pieces task → task.to - task.from ≡ 1
    → between task.from task.to (items_of pieces) ≡ Operand task.from ∷ []
alone_is pieces task w e long =
    let q = piece_at pieces task.from (omega (arith, long, w.ends)) in
    let last : task.to ≡ task.from + 1 = omega (arith, long) in
    let step = range_step pieces task.from task.to q.0 (omega (arith, long)) q.1
    ∙ ap (λ xs. item_of task.from q.0 ∷ xs) (ap (λ m. between (task.from + 1) m (items_of pieces)) last ∙ range_end pieces (task.from + 1)) in
    step ∙ named q.0 (e ∙ ap (root (fixity_at pieces) task.from None) step)
  where
    named : (p : Piece) → None ≡ root (fixity_at pieces) task.from None (item_of task.from p ∷ []) → item_of task.from p ∷ [] ≡ Operand task.from ∷ []
    named piece.Operand h = refl
    named piece.Minus h = absurd cc
    named (piece.Operator f) h = absurd cc

-- the fit of nothing
fits_nothing : (fixity : ℕ → Fixity) (u : Under) → fits fixity u None ≡ true
fits_nothing fixity under.Nothing = refl
fits_nothing fixity (under.Minus n) = refl
fits_nothing fixity (under.LeftOf n) = refl
fits_nothing fixity (under.RightOf n) = refl

pub operand_head : (pieces : List Piece) (task : Task) → IsWithin (length pieces) task → None ≡ found pieces task → task.to - task.from ≡ 1
    → IsHead pieces task (cell.Operand task.from)
operand_head pieces task w e long = record {
  after = omega arith;
  before = omega (arith, long);
  taken = λ tree s. ([], tt, ap spelled (leaf_is pieces task tree w (top_is pieces task None tree e s) s).0);
  given = given;
}
  where
    given : (trees : List (Tree ℕ ℕ)) → SolveAll pieces [] trees → (tree : Tree ℕ ℕ) × Solves pieces task tree × (spelled tree ≡ cell.Operand task.from ∷ spelled_all trees)
    given [] s = (
      Leaf task.from,
      (record {
        grouped = record { flattens = sym (alone_is pieces task w e long); fits = refl };
        fits = fits_nothing (fixity_at pieces) task.under;
      }),
      refl,
    )
    given (t ∷ trees) s = absurd s

pub no_operand : (pieces : List Piece) (task : Task) → IsWithin (length pieces) task → None ≡ found pieces task → (task.to - task.from ≡ 1 → ⊥)
    → HasNoHead pieces task
no_operand pieces task w e long = λ tree s. long (leaf_is pieces task tree w (top_is pieces task None tree e s) s).1

-- what stands at the top of a tree of a range, where the piece p of the number n is found
data TopOf (pieces : List Piece) (task : Task) (n : ℕ) (p : Piece) : Tree ℕ ℕ → Type 0 where
  applied : (t : Tree ℕ ℕ) → task.from ≡ n → item_of n p ≡ Prefix n → flatten t ≡ between (n + 1) task.to (items_of pieces)
      → TopOf pieces task n p (Applied n t)
  between_two : (l r : Tree ℕ ℕ) → item_of n p ≡ Infix n → flatten l ≡ between task.from n (items_of pieces)
      → flatten r ≡ between (n + 1) task.to (items_of pieces) → TopOf pieces task n p (Between l n r)

abbrev number_at : Option (Candidate ℕ) → ℕ
number_at None = 0
number_at (Some c) = c.operator

top_of : (pieces : List Piece) (task : Task) (n : ℕ) (p : Piece) (tree : Tree ℕ ℕ) → task.from ≤ n → n < task.to → task.to ≤ length pieces
    → slice_get pieces n ≡ Some p → top_at task.from tree ≡ candidate (Some n) → flatten tree ≡ between task.from task.to (items_of pieces)
    → TopOf pieces task n p tree
top_of pieces task n p (Leaf a) a1 b w s e f = let no : ⊥ = cc in absurd no
top_of pieces task n p (Applied o t) a1 b w s e f =
    let at : task.from ≡ n = ap place e in
    let named : o ≡ n = ap number_at e in
    let here : Prefix o ∷ flatten t ≡ item_of n p ∷ between (n + 1) task.to (items_of pieces) =
    f ∙ ap (λ m. between m task.to (items_of pieces)) at ∙ range_step pieces n task.to p b s in
    let first : Prefix o ≡ item_of n p = cc in
    let rest : flatten t ≡ between (n + 1) task.to (items_of pieces) = cc in
    subst (λ k. TopOf pieces task n p (Applied k t)) (sym named) (applied t at (sym first ∙ ap Prefix named) rest)
top_of pieces task n p (Between l o r) a1 b w s e f =
    let at : task.from + length (flatten l) ≡ n = ap place e in
    let named : o ≡ n = ap number_at e in
    let here : flatten l ++ Infix o ∷ flatten r ≡ between task.from n (items_of pieces) ++ item_of n p ∷ between (n + 1) task.to (items_of pieces) =
    f ∙ range_split pieces (n - task.from) task.from n task.to p (omega (arith, a1)) b w s in
    let long : length (flatten l) ≡ length (between task.from n (items_of pieces)) =
    omega (arith, at, range_length pieces (n - task.from) task.from n (omega (arith, a1)) (omega (arith, b, w))) in
    let both = split_alike (flatten l) (between task.from n (items_of pieces)) (Infix o ∷ flatten r) (item_of n p ∷ between (n + 1) task.to (items_of pieces)) long here in
    let tail : Infix o ∷ flatten r ≡ item_of n p ∷ between (n + 1) task.to (items_of pieces) = both.1 in
    let first : Infix o ≡ item_of n p = cc in
    let rest : flatten r ≡ between (n + 1) task.to (items_of pieces) = cc in
    subst (λ k. TopOf pieces task n p (Between l k r)) (sym named) (between_two l r (sym first ∙ ap Infix named) both.0 rest)

-- The operator of a number is found in a range, and its piece is p.
pub record IsFound (pieces : List Piece) (task : Task) (n : ℕ) (p : Piece) : Type 0 where
  pub within : IsWithin (length pieces) task
  pub is : candidate (Some n) ≡ found pieces task
  pub after : task.from ≤ n
  pub before : n < task.to
  pub piece : slice_get pieces n ≡ Some p

solved : (pieces : List Piece) (task : Task) (n : ℕ) (p : Piece) (tree : Tree ℕ ℕ) → IsFound pieces task n p → Solves pieces task tree
    → TopOf pieces task n p tree
solved pieces task n p tree h s =
    top_of pieces task n p tree h.after h.before h.within.ends h.piece (top_is pieces task (Some n) tree h.is s) s.grouped.flattens

top_number : (pieces : List Piece) (task : Task) (n : ℕ) (p : Piece) (tree : Tree ℕ ℕ) → TopOf pieces task n p tree → top tree ≡ Some n
top_number pieces task n p _ (applied t at is rest) = refl
top_number pieces task n p _ (between_two l r is left right) = refl

pub unfit : (pieces : List Piece) (task : Task) (n : ℕ) → IsWithin (length pieces) task → candidate (Some n) ≡ found pieces task
    → (task.from ≤ n) × (n < task.to) → fits (fixity_at pieces) task.under (Some n) ≡ false → HasNoHead pieces task
unfit pieces task n w is within bad = λ tree s.
    let q = piece_at pieces n (omega (arith, within.1, w.ends)) in
    let h : IsFound pieces task n q.0 = record { within = w; is = is; after = within.0; before = within.1; piece = q.1 } in
    true≢false (sym s.fits ∙ ap (fits (fixity_at pieces) task.under) (top_number pieces task n q.0 tree (solved pieces task n q.0 tree h s)) ∙ bad)

pub operand_inside : (pieces : List Piece) (task : Task) (n : ℕ) → IsFound pieces task n piece.Operand → HasNoHead pieces task
operand_inside pieces task n h = λ tree s. go tree (solved pieces task n piece.Operand tree h s)
  where
    go : (tree : Tree ℕ ℕ) → TopOf pieces task n piece.Operand tree → ⊥
    go _ (applied t at is rest) = cc
    go _ (between_two l r is left right) = cc

pub minus_inside : (pieces : List Piece) (task : Task) (n : ℕ) → IsFound pieces task n piece.Minus → (n ≡ task.from → ⊥) → HasNoHead pieces task
minus_inside pieces task n h later = λ tree s. go tree (solved pieces task n piece.Minus tree h s)
  where
    go : (tree : Tree ℕ ℕ) → TopOf pieces task n piece.Minus tree → ⊥
    go _ (applied t at is rest) = later (sym at)
    go _ (between_two l r is left right) = cc

pub minus_head : (pieces : List Piece) (task : Task) (n : ℕ) → IsFound pieces task n piece.Minus → n ≡ task.from
    → fits (fixity_at pieces) task.under (Some n) ≡ true → IsHead pieces task (cell.Minus n)
minus_head pieces task n h first fit = record {
  after = h.after;
  before = h.before;
  taken = λ tree s. taken tree s (solved pieces task n piece.Minus tree h s);
  given = given;
}
  where
    taken : (tree : Tree ℕ ℕ) → Solves pieces task tree → TopOf pieces task n piece.Minus tree
        → (trees : List (Tree ℕ ℕ)) × SolveAll pieces (parts task (cell.Minus n)) trees × (spelled tree ≡ cell.Minus n ∷ spelled_all trees)
    taken _ s (applied t at is rest) =
        let p = and_parts (fits_after (fixity_at pieces) n (top t)) (is_grouped (fixity_at pieces) t) s.grouped.fits in
        (t ∷ [], ((record { grouped = record { flattens = rest; fits = p.1 }; fits = p.0 }), tt), ap (λ cs. cell.Minus n ∷ cs) (sym (append-nil (spelled t))))
    taken _ s (between_two l r is left right) = absurd cc

    given : (trees : List (Tree ℕ ℕ)) → SolveAll pieces (parts task (cell.Minus n)) trees
        → (tree : Tree ℕ ℕ) × Solves pieces task tree × (spelled tree ≡ cell.Minus n ∷ spelled_all trees)
    given [] s = absurd s
    given (t ∷ u ∷ trees) s = absurd s.1
    given (t ∷ []) s = (
      Applied n t,
      (record {
        grouped = record {
          flattens = ap (λ xs. Prefix n ∷ xs) s.0.grouped.flattens ∙ sym (range_step pieces n task.to piece.Minus h.before h.piece)
              ∙ ap (λ m. between m task.to (items_of pieces)) first;
          fits = rw (s.0.fits, s.0.grouped.fits) refl;
        };
        fits = fit;
      }),
      ap (λ cs. cell.Minus n ∷ cs) (sym (append-nil (spelled t))),
    )

pub operator_head : (pieces : List Piece) (task : Task) (n : ℕ) (f : Fixity) → IsFound pieces task n (piece.Operator f)
    → fits (fixity_at pieces) task.under (Some n) ≡ true → IsHead pieces task (cell.Operator n)
operator_head pieces task n f h fit = record {
  after = h.after;
  before = h.before;
  taken = λ tree s. taken tree s (solved pieces task n (piece.Operator f) tree h s);
  given = given;
}
  where
    taken : (tree : Tree ℕ ℕ) → Solves pieces task tree → TopOf pieces task n (piece.Operator f) tree
        → (trees : List (Tree ℕ ℕ)) × SolveAll pieces (parts task (cell.Operator n)) trees × (spelled tree ≡ cell.Operator n ∷ spelled_all trees)
    taken _ s (applied t at is rest) = absurd cc
    taken _ s (between_two l r is left right) =
        let k = fitting (fixity_at pieces) l n r s.grouped.fits in (
          l ∷ r ∷ [],
          (
            (record { grouped = record { flattens = left; fits = k.on_left }; fits = k.left }),
            ((record { grouped = record { flattens = right; fits = k.on_right }; fits = k.right }), tt),
          ),
          ap (λ cs. cell.Operator n ∷ (spelled l ++ cs)) (sym (append-nil (spelled r))),
        )

    given : (trees : List (Tree ℕ ℕ)) → SolveAll pieces (parts task (cell.Operator n)) trees
        → (tree : Tree ℕ ℕ) × Solves pieces task tree × (spelled tree ≡ cell.Operator n ∷ spelled_all trees)
    given [] s = absurd s
    given (t ∷ []) s = absurd s.1
    given (l ∷ r ∷ u ∷ trees) s = absurd s.1.1
    given (l ∷ r ∷ []) s = (
      Between l n r,
      (record {
        grouped = record {
          flattens = ap₂ (λ xs ys. xs ++ Infix n ∷ ys) s.0.grouped.flattens s.1.0.grouped.flattens
              ∙ sym (range_split pieces (n - task.from) task.from n task.to (piece.Operator f) (omega (arith, h.after)) h.before h.within.ends h.piece);
          fits = rw (s.0.fits, s.1.0.fits, s.0.grouped.fits, s.1.0.grouped.fits) refl;
        };
        fits = fit;
      }),
      ap (λ cs. cell.Operator n ∷ (spelled l ++ cs)) (sym (append-nil (spelled r))),
    )

pub no_operator : (pieces : List Piece) (task : Task) (head : Option Cell) → IsWithin (length pieces) task → None ≡ found pieces task
    → head ≡ (if nat_eq (task.to - task.from) 1 then Some (cell.Operand task.from) else None)
    → IfSome head (IsHead pieces task) × IfNone head (HasNoHead pieces task)
no_operator pieces task head w e is = subst (λ h. IfSome h (IsHead pieces task) × IfNone h (HasNoHead pieces task)) (sym is) (go (nat_eq (task.to - task.from) 1) refl)
  where
    go : (b : Bool) → nat_eq (task.to - task.from) 1 ≡ b
        → IfSome (if b then Some (cell.Operand task.from) else None) (IsHead pieces task) × IfNone (if b then Some (cell.Operand task.from) else None) (HasNoHead pieces task)
    go true t = (operand_head pieces task w e (eqb-true (task.to - task.from) 1 t), tt)
    go false t = (tt, no_operand pieces task w e (λ long. true≢false (sym (eq-eqb (task.to - task.from) 1 long) ∙ t)))

pub minus_found : (pieces : List Piece) (task : Task) (n : ℕ) (head : Option Cell) → IsFound pieces task n piece.Minus
    → fits (fixity_at pieces) task.under (Some n) ≡ true → head ≡ (if nat_eq n task.from then Some (cell.Minus n) else None)
    → IfSome head (IsHead pieces task) × IfNone head (HasNoHead pieces task)
minus_found pieces task n head h fit is = subst (λ h. IfSome h (IsHead pieces task) × IfNone h (HasNoHead pieces task)) (sym is) (go (nat_eq n task.from) refl)
  where
    go : (b : Bool) → nat_eq n task.from ≡ b
        → IfSome (if b then Some (cell.Minus n) else None) (IsHead pieces task) × IfNone (if b then Some (cell.Minus n) else None) (HasNoHead pieces task)
    go true t = (minus_head pieces task n h (eqb-true n task.from t) fit, tt)
    go false t = (tt, minus_inside pieces task n h (λ same. true≢false (sym (eq-eqb n task.from same) ∙ t)))

-- the facts at a piece that was found
pub is_found : (pieces : List Piece) (task : Task) (n : ℕ) (p d : Piece) → IsWithin (length pieces) task → candidate (Some n) ≡ found pieces task
    → (task.from ≤ n) × (n < task.to) → get_or pieces n d ≡ p → IsFound pieces task n p
is_found pieces task n p d w is within at = record {
  within = w;
  is = is;
  after = within.0;
  before = within.1;
  piece = slice_get-get_or pieces n d (omega (arith, within.1, w.ends)) ∙ ap Some at;
}
