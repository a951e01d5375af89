-- What was built and what is left to build give the trees of all pieces.
use Rattle.std.specs.Prelude.{◌≡◌, ℕ, suc, ◌+◌, ◌-◌, ◌*◌, ◌<◌, ◌≤◌, List, [], ◌∷◌, ◌++◌, length, refl, reverse, take}
use Rattle.std.proofs.Common.{ap, arith, subst, sym, ◌∙◌, append-nil, append_assoc}
use Rattle.std.proofs.Math.Seq.{take-length}
use Rattle.std.proofs.lemmas.List.{reverse-append}
use Rattle.cu_fixity.specs.declared.grouping.Task.{Task}
use Rattle.cu_fixity.specs.declared.grouping.Under.TheVariants as under
use Rattle.cu_fixity.specs.declared.piece.Piece.{Piece}
use Rattle.cu_fixity.specs.declared.tree.Cell.{Cell}
use Rattle.cu_fixity.specs.declared.tree.Cell.TheVariants as cell
use Rattle.cu_fixity.specs.Grouping.{Grouped, HasNoTree, Tree}
use Rattle.cu_fixity.specs.Pieces.{fixity_at, items_of, numbered}
use Rattle.cu_fixity.specs.Ranges.{AllWithin, Builds, HasNoHead, IsHead, IsWithin, SolveAll, between, number, parts, spelled_all, weight}
use Rattle.cu_fixity.specs.Spelling.{read, read-spelled, spelled}

spelled_append : (us vs : List (Tree ℕ ℕ)) → spelled_all (us ++ vs) ≡ spelled_all us ++ spelled_all vs
spelled_append [] vs = refl
spelled_append (u ∷ us) vs = ap (λ cs. spelled u ++ cs) (spelled_append us vs) ∙ sym (append_assoc (spelled u) (spelled_all us) (spelled_all vs))

-- trees that solve tasks, and then others
solve_both : (pieces : List Piece) (ps tasks : List Task) (us vs : List (Tree ℕ ℕ)) → SolveAll pieces ps us → SolveAll pieces tasks vs
    → SolveAll pieces (ps ++ tasks) (us ++ vs)
solve_both pieces [] tasks [] vs s t = t
solve_both pieces [] tasks (u ∷ us) vs s t = absurd s
solve_both pieces (p ∷ ps) tasks [] vs s t = absurd s
solve_both pieces (p ∷ ps) tasks (u ∷ us) vs s t = (s.0, solve_both pieces ps tasks us vs s.1 t)

record Apart (pieces : List Piece) (ps tasks : List Task) (trees : List (Tree ℕ ℕ)) : Type 0 where
  pub first : List (Tree ℕ ℕ)
  pub others : List (Tree ℕ ℕ)
  pub whole : trees ≡ first ++ others
  pub solve_first : SolveAll pieces ps first
  pub solve_others : SolveAll pieces tasks others

apart : (pieces : List Piece) (ps tasks : List Task) (trees : List (Tree ℕ ℕ)) → SolveAll pieces (ps ++ tasks) trees → Apart pieces ps tasks trees
apart pieces [] tasks trees s = record { first = []; others = trees; whole = refl; solve_first = tt; solve_others = s }
apart pieces (p ∷ ps) tasks [] s = absurd s
apart pieces (p ∷ ps) tasks (t ∷ trees) s =
    let rest = apart pieces ps tasks trees s.1 in
    record {
      first = t ∷ rest.first;
      others = rest.others;
      whole = ap (λ xs. t ∷ xs) rest.whole;
      solve_first = (s.0, rest.solve_first);
      solve_others = rest.solve_others;
    }

within_both : (count : ℕ) (ps tasks : List Task) → AllWithin count ps → AllWithin count tasks → AllWithin count (ps ++ tasks)
within_both count [] tasks w v = v
within_both count (p ∷ ps) tasks w v = (w.0, within_both count ps tasks w.1 v)

parts_within : (count : ℕ) (task : Task) (c : Cell) → IsWithin count task → task.from ≤ number c → number c < task.to → AllWithin count (parts task c)
parts_within count task (cell.Operand n) w a b = tt
parts_within count task (cell.Minus n) w a b = ((record { rises = omega (arith, b); ends = w.ends }), tt)
parts_within count task (cell.Operator n) w a b =
    ((record { rises = a; ends = omega (arith, b, w.ends) }), ((record { rises = omega (arith, b); ends = w.ends }), tt))

weight_both : (ps tasks : List Task) → weight (ps ++ tasks) ≡ weight ps + weight tasks
weight_both [] tasks = omega arith
weight_both (p ∷ ps) tasks = let e = weight_both ps tasks in omega (arith, e)

parts_weight : (task : Task) (c : Cell) → task.from ≤ number c → number c < task.to → weight (parts task c) < 2 * (task.to - task.from) + 1
parts_weight task (cell.Operand n) a b = omega (arith, a, b)
parts_weight task (cell.Minus n) a b = omega (arith, a, b)
parts_weight task (cell.Operator n) a b = omega (arith, a, b)

-- the parts of a task weigh less than it
pub lighter : (pieces : List Piece) (task : Task) (tasks : List Task) (c : Cell) → IsHead pieces task c
    → weight (parts task c ++ tasks) < weight (task ∷ tasks)
lighter pieces task tasks c h =
    let e = weight_both (parts task c) tasks in
    let f = parts_weight task c h.after h.before in
    omega (arith, e, f)

-- one more cell
pub build_on : (pieces : List Piece) (cells : List Cell) (task : Task) (tasks : List Task) (c : Cell) → Builds pieces cells (task ∷ tasks) → IsHead pieces task c
    → Builds pieces (cells ++ c ∷ []) (parts task c ++ tasks)
build_on pieces cells task tasks c b h = record {
  within = within_both (length pieces) (parts task c) tasks (parts_within (length pieces) task c b.within.0 h.after h.before) b.within.1;
  taken = λ tree g. let k = b.taken tree g in taken tree k.0 k.1 k.2;
  given = λ trees s. given trees (apart pieces (parts task c) tasks trees s);
}
  where
    one_cell : (xs ys : List Cell) → cells ++ ((c ∷ xs) ++ ys) ≡ (cells ++ c ∷ []) ++ (xs ++ ys)
    one_cell xs ys = sym (append_assoc cells (c ∷ []) (xs ++ ys))

    taken : (tree : Tree ℕ ℕ) (trees : List (Tree ℕ ℕ)) → SolveAll pieces (task ∷ tasks) trees → spelled tree ≡ cells ++ spelled_all trees
        → (others : List (Tree ℕ ℕ)) × SolveAll pieces (parts task c ++ tasks) others × (spelled tree ≡ (cells ++ c ∷ []) ++ spelled_all others)
    taken tree [] s e = absurd s
    taken tree (t ∷ trees) s e =
        let k = h.taken t s.0 in (
          k.0 ++ trees,
          solve_both pieces (parts task c) tasks k.0 trees k.1 s.1,
          e ∙ ap (λ cs. cells ++ (cs ++ spelled_all trees)) k.2 ∙ one_cell (spelled_all k.0) (spelled_all trees)
              ∙ ap (λ cs. (cells ++ c ∷ []) ++ cs) (sym (spelled_append k.0 trees)),
        )

    given : (trees : List (Tree ℕ ℕ)) → Apart pieces (parts task c) tasks trees
        → (tree : Tree ℕ ℕ) × Grouped (fixity_at pieces) (items_of pieces) tree × (spelled tree ≡ (cells ++ c ∷ []) ++ spelled_all trees)
    given trees a =
        let k = h.given a.first a.solve_first in
        let w = b.given (k.0 ∷ a.others) (k.1, a.solve_others) in (
          w.0,
          w.1,
          w.2 ∙ ap (λ cs. cells ++ (cs ++ spelled_all a.others)) k.2 ∙ one_cell (spelled_all a.first) (spelled_all a.others)
              ∙ ap (λ cs. (cells ++ c ∷ []) ++ cs) (sym (spelled_append a.first a.others) ∙ ap spelled_all (sym a.whole)),
        )

numbered_length : (n : ℕ) (pieces : List Piece) → length (numbered n pieces) ≡ length pieces
numbered_length n [] = refl
numbered_length n (p ∷ pieces) = ap suc (numbered_length (suc n) pieces)

all_between : (pieces : List Piece) → between 0 (length pieces) (items_of pieces) ≡ items_of pieces
all_between pieces =
    let long : length pieces - 0 ≡ length (items_of pieces) = let e = numbered_length 0 pieces in omega (arith, e) in
    ap (λ n. take n (items_of pieces)) long ∙ take-length (items_of pieces)

-- at the start
pub build_first : (pieces : List Piece) → Builds pieces [] ((record { from = 0; to = length pieces; under = under.Nothing }) ∷ [])
build_first pieces = record {
  within = ((record { rises = omega arith; ends = omega arith }), tt);
  taken = λ tree g.
      (tree ∷ [], ((record { grouped = subst (λ xs. Grouped (fixity_at pieces) xs tree) (sym (all_between pieces)) g; fits = refl }), tt), sym (append-nil (spelled tree)));
  given = given;
}
  where
    given : (trees : List (Tree ℕ ℕ)) → SolveAll pieces ((record { from = 0; to = length pieces; under = under.Nothing }) ∷ []) trees
        → (tree : Tree ℕ ℕ) × Grouped (fixity_at pieces) (items_of pieces) tree × (spelled tree ≡ spelled_all trees)
    given [] s = absurd s
    given (t ∷ u ∷ trees) s = absurd s.1
    given (t ∷ []) s = (t, subst (λ xs. Grouped (fixity_at pieces) xs t) (all_between pieces) s.0.grouped, sym (append-nil (spelled t)))

-- at the end
pub built : (pieces : List Piece) (cells : List Cell) → Builds pieces cells [] → Grouped (fixity_at pieces) (items_of pieces) (read cells) × (spelled (read cells) ≡ cells)
built pieces cells b =
    let w = b.given [] tt in
    let spells : spelled w.0 ≡ cells = w.2 ∙ append-nil cells in
    let same : read cells ≡ w.0 = ap read (sym spells) ∙ read-spelled w.0 in
    (subst (λ t. Grouped (fixity_at pieces) (items_of pieces) t) (sym same) w.1, ap spelled same ∙ spells)

pub stuck : (pieces : List Piece) (cells : List Cell) (task : Task) (tasks : List Task) → Builds pieces cells (task ∷ tasks) → HasNoHead pieces task
    → HasNoTree (fixity_at pieces) (items_of pieces)
stuck pieces cells task tasks b none = λ tree g. let k = b.taken tree g in go k.0 k.1
  where
    go : (trees : List (Tree ℕ ℕ)) → SolveAll pieces (task ∷ tasks) trees → ⊥
    go [] s = s
    go (t ∷ trees) s = none t s.0

-- the last task of a list stands first in its turn
popped : (pieces : List Piece) (cells : List Cell) (all rest : List Task) (task : Task) → all ≡ rest ++ task ∷ [] → Builds pieces cells (reverse all)
    → Builds pieces cells (task ∷ reverse rest)
popped pieces cells all rest task e b = subst (Builds pieces cells) (ap reverse e ∙ reverse-append rest (task ∷ [])) b

pub head_within : (pieces : List Piece) (cells : List Cell) (all rest : List Task) (task : Task) → all ≡ rest ++ task ∷ [] → Builds pieces cells (reverse all)
    → IsWithin (length pieces) task
head_within pieces cells all rest task e b = (popped pieces cells all rest task e b).within.0

pub turn : (pieces : List Piece) (cells longer : List Cell) (all rest next : List Task) (task : Task) (c : Cell) → all ≡ rest ++ task ∷ []
    → Builds pieces cells (reverse all) → IsHead pieces task c → longer ≡ cells ++ c ∷ [] → reverse next ≡ parts task c ++ reverse rest
    → Builds pieces longer (reverse next)
turn pieces cells longer all rest next task c e b h l n =
    subst (λ cs. Builds pieces cs (reverse next)) (sym l)
    (subst (Builds pieces (cells ++ c ∷ [])) (sym n) (build_on pieces cells task (reverse rest) c (popped pieces cells all rest task e b) h))

pub turn_lighter : (pieces : List Piece) (all rest next : List Task) (task : Task) (c : Cell) → all ≡ rest ++ task ∷ [] → IsHead pieces task c
    → reverse next ≡ parts task c ++ reverse rest → weight (reverse next) < weight (reverse all)
turn_lighter pieces all rest next task c e h n =
    let f : weight (reverse all) ≡ weight (task ∷ reverse rest) = ap weight (ap reverse e ∙ reverse-append rest (task ∷ [])) in
    let g : weight (reverse next) ≡ weight (parts task c ++ reverse rest) = ap weight n in
    let k = lighter pieces task (reverse rest) c h in
    omega (arith, f, g, k)

pub turn_stuck : (pieces : List Piece) (cells : List Cell) (all rest : List Task) (task : Task) → all ≡ rest ++ task ∷ []
    → Builds pieces cells (reverse all) → HasNoHead pieces task → HasNoTree (fixity_at pieces) (items_of pieces)
turn_stuck pieces cells all rest task e b h = stuck pieces cells task (reverse rest) (popped pieces cells all rest task e b) h

pub done : (pieces : List Piece) (cells : List Cell) (all : List Task) → all ≡ [] → Builds pieces cells (reverse all)
    → Grouped (fixity_at pieces) (items_of pieces) (read cells) × (spelled (read cells) ≡ cells)
done pieces cells all e b = built pieces cells (subst (λ ts. Builds pieces cells (reverse ts)) e b)
