-- The parts that are still to be read, and the trees that they have.
use Rattle.std.proofs.Common.{◌≡◌, ℕ, zero, suc, ◌+◌, ◌-◌, ◌<◌, ◌≤◌, Bool, true, false, List, [], ◌∷◌, ◌++◌, Option, None, Some, length, drop, nat_lt, refl, ap, sym, subst, ◌∙◌, arith, add-one, append-nil, append_assoc, length-append, ◌^◌, ◌⊎◌, inl, inr, get_or}
use Rattle.std.specs.Prelude.{min, slice_get, is_some, if◌then◌else◌, unwrap_or}
use Rattle.std.specs.Option.{option_and_then, option_map, option_to_list}
use Rattle.std.proofs.lemmas.List.{same_from_push}
use Rattle.std.proofs.lemmas.Option.{slice_get_cases, slice_get_within}
use borrow.Author.Tests.{lt-ltb, le-ltb}
use Rattle.cu_peg.specs.Inside.Cursors.{cursor, first_alternative, first_parts, form_of, next_part, next_parts, node_of, nodes_at, part_at}
use Rattle.cu_peg.specs.declared.class.Class.{Class}
use Rattle.cu_peg.specs.declared.node.Form.TheVariants as form
use Rattle.cu_peg.specs.declared.node.Node.{Node}
use Rattle.cu_peg.specs.declared.reading.Cursor.{Cursor}
use Rattle.cu_peg.specs.declared.row.Row.{Row}
use Rattle.cu_peg.specs.declared.row.Row.TheVariants as row
use Rattle.cu_peg.specs.declared.table.End.{End}
use Rattle.cu_peg.specs.Inside.Ends.{IsEnd, IsRight, capped, end_at, last}
use Rattle.cu_peg.specs.Matches as m
use Rattle.cu_peg.specs.Matches.{Fails, Matches, RowFails, RowMatches}
use Rattle.cu_peg.specs.Parse.{ParseTree, ParseTrees, Leaf, Parts, Chosen, NoTree, MoreTrees, only, size, sizes, spelled, spelled_all}
use Rattle.cu_peg.specs.Spelling.{size-positive}
use Rattle.cu_peg.proofs.OneTree.{once, refutes}
use Rattle.cu_peg.proofs.KeptLemmas.{is_nothing}
use Rattle.cu_peg.proofs.TransferLemmas.{matches-some}
use Rattle.cu_peg.proofs.RowLemmas.{of_row}

-- what a list has from one place on
at_drop : (xs : List ℕ) (i p : ℕ) (ps : List ℕ) → drop i xs ≡ p ∷ ps → (slice_get xs i ≡ Some p) × (drop (i + 1) xs ≡ ps) × (length ps + (i + 1) ≡ length xs)
at_drop [] zero p ps e = let never : ⊥ = cc in absurd never
at_drop [] (suc i) p ps e = let never : ⊥ = cc in absurd never
at_drop (x ∷ xs) zero p ps e =
    let first : x ≡ p = cc in
    let others : xs ≡ ps = cc in
    (ap Some first, others, omega (arith, ap length others))
at_drop (x ∷ xs) (suc i) p ps e =
    let h = at_drop xs i p ps e in
    (h.0, ap (λ k. drop k (x ∷ xs)) (add-one (suc i)) ∙ ap (λ k. drop k xs) (sym (add-one i)) ∙ h.1, omega (arith, h.2))

-- trees before others
pub join : ParseTrees ℕ → ParseTrees ℕ → ParseTrees ℕ
join NoTree others = others
join (MoreTrees tree trees) others = MoreTrees tree (join trees others)

pub spelled_all-join : (trees others : ParseTrees ℕ) → spelled_all (join trees others) ≡ spelled_all trees ++ spelled_all others
unfolding join
spelled_all-join NoTree others = refl
spelled_all-join (MoreTrees tree trees) others =
    ap (λ (xs : List Node). spelled tree ++ xs) (spelled_all-join trees others) ∙ sym (append_assoc (spelled tree) (spelled_all trees) (spelled_all others))

join-none : (others : ParseTrees ℕ) → join NoTree others ≡ others
unfolding join
join-none others = refl

join-more : (tree : ParseTree ℕ) (trees others : ParseTrees ℕ) → join (MoreTrees tree trees) others ≡ MoreTrees tree (join trees others)
unfolding join
join-more tree trees others = refl

mutual
  pub length-spelled : (tree : ParseTree ℕ) → length (spelled tree) ≡ size tree
  length-spelled (Leaf k) = refl
  length-spelled (Parts trees) = omega (arith, length-spelled_all trees)
  length-spelled (Chosen k tree) = omega (arith, length-spelled tree)

  pub length-spelled_all : (trees : ParseTrees ℕ) → length (spelled_all trees) ≡ sizes trees
  length-spelled_all NoTree = refl
  length-spelled_all (MoreTrees tree trees) = omega (arith, length-append (spelled tree) (spelled_all trees), length-spelled tree, length-spelled_all trees)

min_small : (top x : ℕ) → x < top → min x top ≡ x
min_small top x h = omega arith

small_min : (top x : ℕ) → min x top < top → min x top ≡ x
small_min top x h = omega arith

-- the trees of a tree's parts
abbrev pub parts_under : ParseTree ℕ → ParseTrees ℕ
parts_under (Leaf k) = NoTree
parts_under (Parts trees) = trees
parts_under (Chosen k tree) = only tree

module _ (rows : List Row) (has : Class → ℕ → Bool) (n : ℕ) (table : List (List (Option End))) (right : IsRight rows has n table) (long : length table ≡ n + 1) where
  abbrev cell : ℕ → ℕ → Option End
  cell = end_at table

  known : (q k : ℕ) → q < length rows → k ≤ n → IsEnd rows has n q k (cell q k)
  known q k within h = right k q (omega (arith, long)) within

  -- what the table says where a row matches
  pub record Found (p k : ℕ) (rest : List ℕ) (t : ParseTree ℕ) : Type 0 where
    pub end : End
    pub is : cell p k ≡ Some end
    pub within : end.left ≤ k
    pub left : rest ≡ last n end.left
    pub counted : end.nodes ≡ capped (size t)

  row_within : {p : ℕ} {text rest : List ℕ} {t : ParseTree ℕ} → Matches rows has p text rest t → p < length rows
  row_within (m.matches r e text rest t is d) = slice_get_within rows r e is

  row_fails_within : {p : ℕ} {text : List ℕ} → Fails rows has p text → p < length rows
  row_fails_within (m.fails r e text is d) = slice_get_within rows r e is

  pub known_some : (p k : ℕ) (text rest : List ℕ) (t : ParseTree ℕ) → text ≡ last n k → k ≤ n → Matches rows has p text rest t → Found p k rest t
  known_some p k text rest t e h d = by (cell p k) refl (known p k (row_within d) h)
    where
      by : (o : Option End) → cell p k ≡ o → IsEnd rows has n p k o → Found p k rest t
      by None is f = absurd (refutes rows has d (subst (λ (x : List ℕ). Fails rows has p x) (sym e) f))
      by (Some end) is f =
          let one = once rows has d (subst (λ (x : List ℕ). Matches rows has p x (last n end.left) f.tree) (sym e) f.matched) in
          record { end = end; is = is; within = f.within; left = one.0; counted = f.counted ∙ ap (λ u. capped (size u)) (sym one.1) }

  known_none : (p k : ℕ) (text : List ℕ) → text ≡ last n k → k ≤ n → Fails rows has p text → cell p k ≡ None
  known_none p k text e h f = by (cell p k) refl (known p k (row_fails_within f) h)
    where
      by : (o : Option End) → cell p k ≡ o → IsEnd rows has n p k o → cell p k ≡ None
      by None is g = is
      by (Some end) is d = absurd (refutes rows has d.matched (subst (λ (x : List ℕ). Fails rows has p x) e f))

  -- The parts of a row, from one on, have these trees; there is one at least.
  pub data Under : Row → ℕ → ℕ → ParseTrees ℕ → Type 0 where
    sequence : (all ps : List ℕ) (i k : ℕ) (rest : List ℕ) (t : ParseTree ℕ) (ts : ParseTrees ℕ) → drop i all ≡ ps
        → RowMatches rows has (row.Sequence ps) (last n k) rest (Parts (MoreTrees t ts)) → Under (row.Sequence all) i k (MoreTrees t ts)
    choice : (ps : List ℕ) (i p k : ℕ) (rest : List ℕ) (t : ParseTree ℕ) → slice_get ps i ≡ Some p → Matches rows has p (last n k) rest t
        → Under (row.Choice ps) i k (only t)
    optional : (p i k : ℕ) (rest : List ℕ) (t : ParseTree ℕ) → Matches rows has p (last n k) rest t → Under (row.Optional p) i k (only t)
    many : (p i k : ℕ) (rest : List ℕ) (t : ParseTree ℕ) (ts : ParseTrees ℕ) → RowMatches rows has (row.Many p) (last n k) rest (Parts (MoreTrees t ts))
        → Under (row.Many p) i k (MoreTrees t ts)
    at_least_one : (p i k : ℕ) (rest : List ℕ) (t : ParseTree ℕ) (ts : ParseTrees ℕ) → RowMatches rows has (row.Many p) (last n k) rest (Parts (MoreTrees t ts))
        → Under (row.AtLeastOne p) i k (MoreTrees t ts)
    separated : (p s i k : ℕ) (rest : List ℕ) (t : ParseTree ℕ) (ts : ParseTrees ℕ) → RowMatches rows has (row.SeparatedBy p s) (last n k) rest (Parts (MoreTrees t ts))
        → Under (row.SeparatedBy p s) i k (MoreTrees t ts)

  pub record Open (c : Cursor) (trees : ParseTrees ℕ) : Type 0 where
    pub owner : Row
    pub is : slice_get rows c.row ≡ Some owner
    pub within : c.left ≤ n
    pub under : Under owner c.part c.left trees

  abbrev pub MaybeOpen : Option Cursor → ParseTrees ℕ → Type 0
  MaybeOpen None trees = trees ≡ NoTree
  MaybeOpen (Some c) trees = Open c trees

  some_open : (b : Bool) (c : Cursor) (trees : ParseTrees ℕ) → b ≡ true → Open c trees → MaybeOpen (if b then Some c else None) trees
  some_open true c trees e o = o
  some_open false c trees e o = let never : ⊥ = cc in absurd never

  none_open : (b : Bool) (c : Cursor) → b ≡ false → MaybeOpen (if b then Some c else None) NoTree
  none_open true c e = let never : ⊥ = cc in absurd never
  none_open false c e = refl

  there : (p k : ℕ) (rest : List ℕ) (t : ParseTree ℕ) → Found p k rest t → is_some (cell p k) ≡ true
  there p k rest t f = ap is_some f.is

  moved : (e : Row) (text other rest : List ℕ) (t : ParseTree ℕ) → text ≡ other → RowMatches rows has e text rest t → RowMatches rows has e other rest t
  moved e text other rest t same d = subst (λ (x : List ℕ). RowMatches rows has e x rest t) same d

  moved_part : (p : ℕ) (text other rest : List ℕ) (t : ParseTree ℕ) → text ≡ other → Matches rows has p text rest t → Matches rows has p other rest t
  moved_part p text other rest t same d = subst (λ (x : List ℕ). Matches rows has p x rest t) same d

  -- the alternative that matches is the first
  record Alternative (ps : List ℕ) (k i : ℕ) (text rest : List ℕ) (t : ParseTree ℕ) : Type 0 where
    chosen : ℕ
    first : first_alternative cell ps k ≡ Some i
    at : slice_get ps i ≡ Some chosen
    matched : Matches rows has chosen text rest t

  alternative : (ps : List ℕ) (k i : ℕ) (text rest : List ℕ) (t : ParseTree ℕ) → text ≡ last n k → k ≤ n → RowMatches rows has (row.Choice ps) text rest (Chosen i t)
      → Alternative ps k i text rest t
  alternative _ k _ _ _ _ e h (m.first p ps text rest t d) =
      let f = known_some p k text rest t e h d in
      record { chosen = p; first = ap (λ (b : Bool). if b then Some 0 else option_map (λ n. n + 1) (first_alternative cell ps k)) (there p k rest t f); at = refl; matched = d }
  alternative _ k _ _ _ _ e h (m.later p ps text rest i t f d) =
      let a = alternative ps k i text rest t e h d in
      record {
        chosen = a.chosen;
        first = ap (λ (o : Option End). if is_some o then Some 0 else option_map (λ n. n + 1) (first_alternative cell ps k)) (known_none p k text e h f)
            ∙ ap (option_map (λ n. n + 1)) a.first ∙ ap Some (omega arith);
        at = a.at;
        matched = a.matched;
      }

  -- the first parts of a row that matches
  pub first_open : (r k : ℕ) {e : Row} {text rest : List ℕ} {t : ParseTree ℕ} → slice_get rows r ≡ Some e → text ≡ last n k → k ≤ n → RowMatches rows has e text rest t
      → MaybeOpen (first_parts cell e r k) (parts_under t)
  first_open r k is e h (m.token c x rest held) = refl
  first_open r k is e h (m.empty text) = refl
  first_open r k is e h (m.sequence p ps text after rest t ts d ds) =
      some_open (nat_lt 0 (length (p ∷ ps))) (cursor r 0 k) (MoreTrees t ts) (lt-ltb 0 (length (p ∷ ps)) (omega arith))
      (record {
        owner = row.Sequence (p ∷ ps);
        is = is;
        within = h;
        under = sequence (p ∷ ps) (p ∷ ps) 0 k rest t ts refl (moved (row.Sequence (p ∷ ps)) text (last n k) rest (Parts (MoreTrees t ts)) e (m.sequence p ps text after rest t ts d ds));
      })
  first_open r k is e h (m.first p ps text rest t d) =
      let a = alternative (p ∷ ps) k 0 text rest t e h (m.first p ps text rest t d) in
      subst (λ (o : Option ℕ). MaybeOpen (option_map (λ i. cursor r i k) o) (only t)) (sym a.first)
      (record { owner = row.Choice (p ∷ ps); is = is; within = h; under = choice (p ∷ ps) 0 a.chosen k rest t a.at (moved_part a.chosen text (last n k) rest t e a.matched) })
  first_open r k is e h (m.later p ps text rest i t f d) =
      let a = alternative (p ∷ ps) k (suc i) text rest t e h (m.later p ps text rest i t f d) in
      subst (λ (o : Option ℕ). MaybeOpen (option_map (λ i. cursor r i k) o) (only t)) (sym a.first)
      (record { owner = row.Choice (p ∷ ps); is = is; within = h; under = choice (p ∷ ps) (suc i) a.chosen k rest t a.at (moved_part a.chosen text (last n k) rest t e a.matched) })
  first_open r k is e h (m.present p text rest t d) =
      some_open (is_some (cell p k)) (cursor r 0 k) (only t) (there p k rest t (known_some p k text rest t e h d))
      (record { owner = row.Optional p; is = is; within = h; under = optional p 0 k rest t (moved_part p text (last n k) rest t e d) })
  first_open r k is e h (m.absent p text f) = none_open (is_some (cell p k)) (cursor r 0 k) (ap is_some (known_none p k text e h f))
  first_open r k is e h (m.no_more p text f) = none_open (is_some (cell p k)) (cursor r 0 k) (ap is_some (known_none p k text e h f))
  first_open r k is e h (m.one_more p text after rest t ts d ds) =
      some_open (is_some (cell p k)) (cursor r 0 k) (MoreTrees t ts) (there p k after t (known_some p k text after t e h d))
      (record {
        owner = row.Many p;
        is = is;
        within = h;
        under = many p 0 k rest t ts (moved (row.Many p) text (last n k) rest (Parts (MoreTrees t ts)) e (m.one_more p text after rest t ts d ds));
      })
  first_open r k is e h (m.at_least_one p text after rest t ts d ds) =
      record {
        owner = row.AtLeastOne p;
        is = is;
        within = h;
        under = at_least_one p 0 k rest t ts (moved (row.Many p) text (last n k) rest (Parts (MoreTrees t ts)) e (m.one_more p text after rest t ts d ds));
      }
  first_open r k is e h (m.last p s text rest t d f) =
      record {
        owner = row.SeparatedBy p s;
        is = is;
        within = h;
        under = separated p s 0 k rest t NoTree (moved (row.SeparatedBy p s) text (last n k) rest (Parts (only t)) e (m.last p s text rest t d f));
      }
  first_open r k is e h (m.separated p s text after suffix rest t u ts d g ds) =
      record {
        owner = row.SeparatedBy p s;
        is = is;
        within = h;
        under = separated p s 0 k rest t ts (moved (row.SeparatedBy p s) text (last n k) rest (Parts (MoreTrees t ts)) e (m.separated p s text after suffix rest t u ts d g ds));
      }
  first_open r k is e h (m.ahead p text rest t d) = refl
  first_open r k is e h (m.not_ahead p text f) = refl

  -- the first of some parts, and those after it
  pub record Next (c : Cursor) (trees : ParseTrees ℕ) : Type 0 where
    pub owner : Row
    pub owned : slice_get rows c.row ≡ Some owner
    pub part : ℕ
    pub parts : Option Cursor
    pub found : next_part cell owner c ≡ Some (part, parts)
    pub tree : ParseTree ℕ
    pub others : ParseTrees ℕ
    pub are : trees ≡ MoreTrees tree others
    pub rest : List ℕ
    pub matched : Matches rows has part (last n c.left) rest tree
    pub open_after : MaybeOpen parts others

  next_is : (c : Cursor) (e : Row) (p : ℕ) (end : End) → part_at e c.part ≡ Some p → cell p c.left ≡ Some end → next_part cell e c ≡ Some (p, next_parts cell e c end.left)
  next_is c e p end h k =
      ap (option_and_then (λ p. option_map (λ end. (p, next_parts cell e c end.left)) (cell p c.left))) h
      ∙ ap (option_map (λ end. (p, next_parts cell e c end.left))) k

  sequence_rest : (r : ℕ) (all ps : List ℕ) (i k : ℕ) (after rest : List ℕ) (ts : ParseTrees ℕ) → slice_get rows r ≡ Some (row.Sequence all) → drop (i + 1) all ≡ ps
      → length ps + (i + 1) ≡ length all → after ≡ last n k → k ≤ n → RowMatches rows has (row.Sequence ps) after rest (Parts ts)
      → MaybeOpen (if nat_lt (i + 1) (length all) then Some (cursor r (i + 1) k) else None) ts
  sequence_rest r all _ i k after _ _ is d l e h (m.empty _) = none_open (nat_lt (i + 1) (length all)) (cursor r (i + 1) k) (le-ltb (i + 1) (length all) (omega arith))
  sequence_rest r all _ i k after rest _ is d l e h (m.sequence p ps _ mid _ t ts m1 ms) =
      some_open (nat_lt (i + 1) (length all)) (cursor r (i + 1) k) (MoreTrees t ts) (lt-ltb (i + 1) (length all) (omega arith))
      (record {
        owner = row.Sequence all;
        is = is;
        within = h;
        under = sequence all (p ∷ ps) (i + 1) k rest t ts d (moved (row.Sequence (p ∷ ps)) after (last n k) rest (Parts (MoreTrees t ts)) e (m.sequence p ps after mid rest t ts m1 ms));
      })

  many_rest : (r p k : ℕ) (after rest : List ℕ) (ts : ParseTrees ℕ) → after ≡ last n k → k ≤ n → RowMatches rows has (row.Many p) after rest (Parts ts)
      → ((t : ParseTree ℕ) (us : ParseTrees ℕ) → RowMatches rows has (row.Many p) (last n k) rest (Parts (MoreTrees t us)) → Open (cursor r 0 k) (MoreTrees t us))
      → MaybeOpen (if is_some (cell p k) then Some (cursor r 0 k) else None) ts
  many_rest r p k after _ _ e h (m.no_more _ _ f) more = none_open (is_some (cell p k)) (cursor r 0 k) (ap is_some (known_none p k after e h f))
  many_rest r p k after rest _ e h (m.one_more _ _ mid _ t ts d ds) more =
      some_open (is_some (cell p k)) (cursor r 0 k) (MoreTrees t ts) (there p k mid t (known_some p k after mid t e h d))
      (more t ts (moved (row.Many p) after (last n k) rest (Parts (MoreTrees t ts)) e (m.one_more p after mid rest t ts d ds)))

  first_there : (p s k : ℕ) (text rest : List ℕ) (trees : ParseTrees ℕ) → text ≡ last n k → k ≤ n → RowMatches rows has (row.SeparatedBy p s) text rest (Parts trees) → is_some (cell p k) ≡ true
  first_there p s k text _ _ e h (m.last _ _ _ rest t d f) = there p k rest t (known_some p k text rest t e h d)
  first_there p s k text rest _ e h (m.separated _ _ _ after suffix _ t u ts d g ds) = there p k after t (known_some p k text after t e h d)

  abbrev after_of : (r p s : ℕ) → Option End → Option Cursor
  after_of r p s o = option_and_then (λ suffix. if is_some (cell p suffix.left) then Some (cursor r 0 suffix.left) else None) o

  none_after : (r p s k : ℕ) (text : List ℕ) → text ≡ last n k → k ≤ n → RowFails rows has (row.Sequence (s ∷ p ∷ [])) text → MaybeOpen (after_of r p s (cell s k)) NoTree
  none_after r p s k text e h (m.part_fails _ _ _ f) = subst (λ (o : Option End). MaybeOpen (after_of r p s o) NoTree) (sym (known_none s k text e h f)) refl
  none_after r p s k text e h (m.rest_fails _ _ _ mid u d (m.part_fails _ _ _ f)) =
      let b = known_some s k text mid u e h d in
      subst (λ (o : Option End). MaybeOpen (after_of r p s o) NoTree) (sym b.is)
      (none_open (is_some (cell p b.end.left)) (cursor r 0 b.end.left) (ap is_some (known_none p b.end.left mid b.left (omega (arith, b.within)) f)))
  none_after r p s k text e h (m.rest_fails _ _ _ mid u d (m.rest_fails _ _ _ _ _ _ f)) = elim f [ ]

  some_after : (r p s k : ℕ) (text suffix rest : List ℕ) (u t : ParseTree ℕ) (ts : ParseTrees ℕ) → slice_get rows r ≡ Some (row.SeparatedBy p s) → text ≡ last n k → k ≤ n
      → Matches rows has s text suffix u → RowMatches rows has (row.SeparatedBy p s) suffix rest (Parts (MoreTrees t ts)) → MaybeOpen (after_of r p s (cell s k)) (MoreTrees t ts)
  some_after r p s k text suffix rest u t ts is e h d ds =
      let b = known_some s k text suffix u e h d in
      let near : b.end.left ≤ n = omega (arith, b.within) in
      subst (λ (o : Option End). MaybeOpen (after_of r p s o) (MoreTrees t ts)) (sym b.is)
      (some_open (is_some (cell p b.end.left)) (cursor r 0 b.end.left) (MoreTrees t ts) (first_there p s b.end.left suffix rest (MoreTrees t ts) b.left near ds)
      (record {
        owner = row.SeparatedBy p s;
        is = is;
        within = near;
        under = separated p s 0 b.end.left rest t ts (moved (row.SeparatedBy p s) suffix (last n b.end.left) rest (Parts (MoreTrees t ts)) b.left ds);
      }))

  -- what is separated has a part
  separated_more : (p s : ℕ) (text rest : List ℕ) (ts : ParseTrees ℕ) → RowMatches rows has (row.SeparatedBy p s) text rest (Parts ts) → (t : ParseTree ℕ) × (us : ParseTrees ℕ) × (ts ≡ MoreTrees t us)
  separated_more p s text _ _ (m.last _ _ _ rest t d f) = (t, NoTree, refl)
  separated_more p s text rest _ (m.separated _ _ _ after suffix _ t u ts d g ds) = (t, ts, refl)

  next_of : (c : Cursor) (e : Row) (trees : ParseTrees ℕ) → slice_get rows c.row ≡ Some e → c.left ≤ n → Under e c.part c.left trees → Next c trees
  next_of c _ _ is h (sequence all _ _ _ rest t ts e (m.sequence p ps _ after _ _ _ d ds)) =
      let place = at_drop all c.part p ps e in
      let f = known_some p c.left (last n c.left) after t refl h d in
      record {
        owner = row.Sequence all;
        owned = is;
        part = p;
        parts = next_parts cell (row.Sequence all) c f.end.left;
        found = next_is c (row.Sequence all) p f.end place.0 f.is;
        tree = t;
        others = ts;
        are = refl;
        rest = after;
        matched = d;
        open_after = sequence_rest c.row all ps c.part f.end.left after rest ts is place.1 place.2 f.left (omega (arith, f.within)) ds;
      }
  next_of c _ _ is h (choice ps _ p _ rest t at d) =
      let f = known_some p c.left (last n c.left) rest t refl h d in
      record {
        owner = row.Choice ps;
        owned = is;
        part = p;
        parts = None;
        found = next_is c (row.Choice ps) p f.end at f.is;
        tree = t;
        others = NoTree;
        are = refl;
        rest = rest;
        matched = d;
        open_after = refl;
      }
  next_of c _ _ is h (optional p _ _ rest t d) =
      let f = known_some p c.left (last n c.left) rest t refl h d in
      record {
        owner = row.Optional p;
        owned = is;
        part = p;
        parts = None;
        found = next_is c (row.Optional p) p f.end refl f.is;
        tree = t;
        others = NoTree;
        are = refl;
        rest = rest;
        matched = d;
        open_after = refl;
      }
  next_of c _ _ is h (many p _ _ rest t ts (m.one_more _ _ after _ _ _ d ds)) =
      let f = known_some p c.left (last n c.left) after t refl h d in
      let near : f.end.left ≤ n = omega (arith, f.within) in
      record {
        owner = row.Many p;
        owned = is;
        part = p;
        parts = next_parts cell (row.Many p) c f.end.left;
        found = next_is c (row.Many p) p f.end refl f.is;
        tree = t;
        others = ts;
        are = refl;
        rest = after;
        matched = d;
        open_after = many_rest c.row p f.end.left after rest ts f.left near ds
            (λ u us more. record { owner = row.Many p; is = is; within = near; under = many p 0 f.end.left rest u us more });
      }
  next_of c _ _ is h (at_least_one p _ _ rest t ts (m.one_more _ _ after _ _ _ d ds)) =
      let f = known_some p c.left (last n c.left) after t refl h d in
      let near : f.end.left ≤ n = omega (arith, f.within) in
      record {
        owner = row.AtLeastOne p;
        owned = is;
        part = p;
        parts = next_parts cell (row.AtLeastOne p) c f.end.left;
        found = next_is c (row.AtLeastOne p) p f.end refl f.is;
        tree = t;
        others = ts;
        are = refl;
        rest = after;
        matched = d;
        open_after = many_rest c.row p f.end.left after rest ts f.left near ds
            (λ u us more. record { owner = row.AtLeastOne p; is = is; within = near; under = at_least_one p 0 f.end.left rest u us more });
      }
  next_of c _ _ is h (separated p s _ _ rest t _ (m.last _ _ _ _ _ d fails)) =
      let f = known_some p c.left (last n c.left) rest t refl h d in
      record {
        owner = row.SeparatedBy p s;
        owned = is;
        part = p;
        parts = next_parts cell (row.SeparatedBy p s) c f.end.left;
        found = next_is c (row.SeparatedBy p s) p f.end refl f.is;
        tree = t;
        others = NoTree;
        are = refl;
        rest = rest;
        matched = d;
        open_after = none_after c.row p s f.end.left rest f.left (omega (arith, f.within)) fails;
      }
  next_of c _ _ is h (separated p s _ _ rest t ts (m.separated _ _ _ after suffix _ _ u _ d g ds)) =
      let f = known_some p c.left (last n c.left) after t refl h d in
      let more = separated_more p s suffix rest ts ds in
      record {
        owner = row.SeparatedBy p s;
        owned = is;
        part = p;
        parts = next_parts cell (row.SeparatedBy p s) c f.end.left;
        found = next_is c (row.SeparatedBy p s) p f.end refl f.is;
        tree = t;
        others = ts;
        are = refl;
        rest = after;
        matched = d;
        open_after =
            subst (λ (us : ParseTrees ℕ). MaybeOpen (after_of c.row p s (cell s f.end.left)) us) (sym more.2)
            (some_after c.row p s f.end.left after suffix rest u more.0 more.1 is f.left (omega (arith, f.within)) g
            (subst (λ (us : ParseTrees ℕ). RowMatches rows has (row.SeparatedBy p s) suffix rest (Parts us)) more.2 ds));
      }

  -- what a tree spells begins with its node
  token_form : (c : Class) (k x : ℕ) (rest : List ℕ) → x ∷ rest ≡ last n k → k ≤ n → form_of cell (row.Token c) n k ≡ form.Leaf x
  token_form c zero x rest e h = let never : ⊥ = cc in absurd never
  token_form c (suc k) x rest e h = let first : x ≡ n - suc k = cc in ap form.Leaf (sym first)

  shape : (k : ℕ) {e : Row} {text rest : List ℕ} {t : ParseTree ℕ} → text ≡ last n k → k ≤ n → RowMatches rows has e text rest t
      → spelled t ≡ (record { form = form_of cell e n k; size = size t }) ∷ spelled_all (parts_under t)
  shape k e h (m.token c x rest held) = ap (λ f. (record { form = f; size = 1 }) ∷ []) (sym (token_form c k x rest e h))
  shape k e h (m.empty text) = refl
  shape k e h (m.sequence p ps text after rest t ts d ds) = refl
  shape k e h (m.first p ps text rest t d) =
      let a = alternative (p ∷ ps) k 0 text rest t e h (m.first p ps text rest t d) in
      rw (append-nil (spelled t)) (ap (λ (o : Option ℕ). (record { form = form.Chosen (unwrap_or o 0); size = 1 + size t }) ∷ spelled t) (sym a.first))
  shape k e h (m.later p ps text rest i t f d) =
      let a = alternative (p ∷ ps) k (suc i) text rest t e h (m.later p ps text rest i t f d) in
      rw (append-nil (spelled t)) (ap (λ (o : Option ℕ). (record { form = form.Chosen (unwrap_or o 0); size = 1 + size t }) ∷ spelled t) (sym a.first))
  shape k e h (m.present p text rest t d) = refl
  shape k e h (m.absent p text f) = refl
  shape k e h (m.no_more p text f) = refl
  shape k e h (m.one_more p text after rest t ts d ds) = refl
  shape k e h (m.at_least_one p text after rest t ts d ds) = refl
  shape k e h (m.last p s text rest t d f) = refl
  shape k e h (m.separated p s text after suffix rest t u ts d g ds) = refl
  shape k e h (m.ahead p text rest t d) = refl
  shape k e h (m.not_ahead p text f) = refl

  -- a tree that isn't too large spells its node of the table, and then its parts
  node_first : (p k : ℕ) (e : Row) (rest : List ℕ) (t : ParseTree ℕ) → slice_get rows p ≡ Some e → k ≤ n → Matches rows has p (last n k) rest t → size t < 2 ^ 64 - 1
      → spelled t ≡ node_of cell e p n k ∷ spelled_all (parts_under t)
  node_first p k e rest t is h d few =
      let f = known_some p k (last n k) rest t refl h d in
      let counted : size t ≡ nodes_at (cell p k) = sym (ap nodes_at f.is ∙ f.counted ∙ min_small (2 ^ 64 - 1) (size t) few) in
      shape k refl h (of_row rows has p e (last n k) rest t is d)
      ∙ ap (λ (s : ℕ). (record { form = form_of cell e n k; size = s }) ∷ spelled_all (parts_under t)) counted

  -- Parts that are to be read, the last first, have these trees together.
  pub data Pending : List Cursor → ParseTrees ℕ → Type 0 where
    nothing : Pending [] NoTree
    more : (cs longer : List Cursor) (c : Cursor) (trees others all : ParseTrees ℕ) → Pending cs others → Open c trees → longer ≡ cs ++ c ∷ [] → all ≡ join trees others
        → Pending longer all

  pending_push : (cs : List Cursor) (o : Option Cursor) (trees others : ParseTrees ℕ) → Pending cs others → MaybeOpen o trees → Pending (cs ++ option_to_list o) (join trees others)
  pending_push cs None trees others p e =
      subst (λ (xs : List Cursor). Pending xs (join trees others)) (sym (append-nil cs))
      (subst (λ (ts : ParseTrees ℕ). Pending cs ts) (sym (ap (λ (ts : ParseTrees ℕ). join ts others) e ∙ join-none others)) p)
  pending_push cs (Some c) trees others p o = more cs (cs ++ c ∷ []) c trees others (join trees others) p o refl refl

  -- Nodes that were read, and parts that are still to be read, are those of a tree.
  pub record Reading (nodes : List Node) (pending : List Cursor) (tree : ParseTree ℕ) : Type 0 where
    pub trees : ParseTrees ℕ
    pub open_parts : Pending pending trees
    pub are : nodes ++ spelled_all trees ≡ spelled tree

  -- the last of pending parts
  record Top (cs : List Cursor) (c : Cursor) (all : ParseTrees ℕ) : Type 0 where
    trees : ParseTrees ℕ
    others : ParseTrees ℕ
    below : Pending cs others
    top : Open c trees
    are : all ≡ join trees others

  top_of : (cs longer : List Cursor) (c : Cursor) (all : ParseTrees ℕ) → longer ≡ cs ++ c ∷ [] → Pending longer all → Top cs c all
  top_of cs _ c _ e nothing = absurd (omega (arith, ap length e, length-append cs (c ∷ [])))
  top_of cs _ c _ e (more ds longer d trees others all p o is made) =
      let same = same_from_push cs ds c d (sym e ∙ is) in
      record {
        trees = trees;
        others = others;
        below = subst (λ (xs : List Cursor). Pending xs others) (sym same.0) p;
        top = subst (λ (x : Cursor). Open x trees) (sym same.1) o;
        are = made;
      }

  -- after the last node
  pub at_end : (nodes : List Node) (tree : ParseTree ℕ) → Reading nodes [] tree → nodes ≡ spelled tree
  at_end nodes tree r = by [] r.trees refl r.open_parts r.are
    where
      by : (cs : List Cursor) (trees : ParseTrees ℕ) → cs ≡ [] → Pending cs trees → nodes ++ spelled_all trees ≡ spelled tree → nodes ≡ spelled tree
      by _ _ e nothing is = sym (append-nil nodes) ∙ is
      by _ _ e (more cs longer c trees others all p o grown made) is = absurd (omega (arith, ap length (sym grown ∙ e), length-append cs (c ∷ [])))

  -- the row that a number has
  pub record Has (r : ℕ) : Type 0 where
    pub e : Row
    pub is : slice_get rows r ≡ Some e

  pub has_row : (r : ℕ) → r < length rows → Has r
  has_row r h = by (slice_get_cases rows r).1
    where
      by : ((e : Row) × (r < length rows) × (slice_get rows r ≡ Some e) × (get_or rows r e ≡ e)) ⊎ ((length rows ≤ r) × (slice_get rows r ≡ None)) → Has r
      by (inl (e, _, is, _)) = record { e = e; is = is }
      by (inr past) = absurd (omega (arith, past.0))

  -- one tree more is read: its node, and then its parts
  read_more : (nodes : List Node) (cs : List Cursor) (whole t : ParseTree ℕ) (others : ParseTrees ℕ) (p k : ℕ) (e : Row) (rest : List ℕ) → slice_get rows p ≡ Some e → k ≤ n
      → Matches rows has p (last n k) rest t → Pending cs others → nodes ++ (spelled t ++ spelled_all others) ≡ spelled whole → size t < 2 ^ 64 - 1
      → Reading (nodes ++ node_of cell e p n k ∷ []) (cs ++ option_to_list (first_parts cell e p k)) whole
  read_more nodes cs whole t others p k e rest is h d pending all few =
      let node = node_of cell e p n k in
      let under = parts_under t in
      record {
        trees = join under others;
        open_parts = pending_push cs (first_parts cell e p k) under others pending (first_open p k is refl h (of_row rows has p e (last n k) rest t is d));
        are = ap (λ (xs : List Node). nodes ++ node ∷ [] ++ xs) (spelled_all-join under others)
            ∙ append_assoc nodes (node ∷ []) (spelled_all under ++ spelled_all others)
            ∙ ap (λ (xs : List Node). nodes ++ (xs ++ spelled_all others)) (sym (node_first p k e rest t is h d few)) ∙ all;
      }

  pub begins : (p : ℕ) (e : Row) (tree : ParseTree ℕ) → slice_get rows p ≡ Some e → Matches rows has p (last n n) [] tree → size tree < 2 ^ 64 - 1
      → Reading ([] ++ node_of cell e p n n ∷ []) ([] ++ option_to_list (first_parts cell e p n)) tree
  begins p e tree is d few = read_more [] [] tree tree NoTree p n e [] is (omega arith) d nothing (append-nil (spelled tree)) few

  -- what is read next
  pub record Goes (nodes : List Node) (cs : List Cursor) (c : Cursor) (tree : ParseTree ℕ) : Type 0 where
    pub owner : Row
    pub owned : slice_get rows c.row ≡ Some owner
    pub part : ℕ
    pub parts : Option Cursor
    pub found : next_part cell owner c ≡ Some (part, parts)
    pub within : part < length rows
    pub place : c.left ≤ n
    pub takes : (e : Row) → slice_get rows part ≡ Some e → is_nothing e ≡ false
    pub more_nodes : length nodes < size tree
    pub reads : (e : Row) → slice_get rows part ≡ Some e
        → Reading (nodes ++ node_of cell e part n c.left ∷ []) (cs ++ option_to_list parts ++ option_to_list (first_parts cell e part c.left)) tree

  pub goes_on : (nodes : List Node) (cs longer : List Cursor) (c : Cursor) (tree : ParseTree ℕ) → longer ≡ cs ++ c ∷ [] → Reading nodes longer tree → size tree < 2 ^ 64 - 1 → Goes nodes cs c tree
  goes_on nodes cs longer c tree e r few =
      let top = top_of cs longer c r.trees e r.open_parts in
      let next = next_of c top.top.owner top.trees top.top.is top.top.within top.top.under in
      let all : nodes ++ (spelled next.tree ++ spelled_all (join next.others top.others)) ≡ spelled tree =
      ap (λ (ts : ParseTrees ℕ). nodes ++ spelled_all ts) (sym (top.are ∙ ap (λ (ts : ParseTrees ℕ). join ts top.others) next.are ∙ join-more next.tree next.others top.others)) ∙ r.are in
      let counts : length nodes + (size next.tree + length (spelled_all (join next.others top.others))) ≡ size tree =
      omega (
        arith,
        length-append nodes (spelled next.tree ++ spelled_all (join next.others top.others)),
        length-append (spelled next.tree) (spelled_all (join next.others top.others)),
        length-spelled next.tree,
        length-spelled tree,
        ap length all,
      ) in
      record {
        owner = next.owner;
        owned = next.owned;
        part = next.part;
        parts = next.parts;
        found = next.found;
        within = row_within next.matched;
        place = top.top.within;
        takes = λ e is. matches-some rows has e (last n c.left) next.rest next.tree (of_row rows has next.part e (last n c.left) next.rest next.tree is next.matched);
        more_nodes = omega (arith, counts, size-positive next.tree);
        reads = λ f is. read_more nodes (cs ++ option_to_list next.parts) tree next.tree (join next.others top.others) next.part c.left f next.rest is top.top.within next.matched
            (pending_push cs next.parts next.others top.others top.below next.open_after) all (omega (arith, counts));
      }

  -- how many nodes the whole tree has
  pub whole_size : (p : ℕ) (tree : ParseTree ℕ) (end : End) → Matches rows has p (last n n) [] tree → cell p n ≡ Some end → end.nodes < 2 ^ 64 - 1 → size tree ≡ end.nodes
  whole_size p tree end d is few =
      let f = known_some p n (last n n) [] tree refl (omega arith) d in
      let same : f.end ≡ end = same_end f.end end (cell p n) f.is is in
      let counted : end.nodes ≡ min (size tree) (2 ^ 64 - 1) = ap (λ (x : End). x.nodes) (sym same) ∙ f.counted in
      sym (counted ∙ small_min (2 ^ 64 - 1) (size tree) (subst (λ (k : ℕ). k < 2 ^ 64 - 1) counted few))
    where
      same_end : (a b : End) (o : Option End) → o ≡ Some a → o ≡ Some b → a ≡ b
      same_end a b o p q = cc

  -- the tree of all tokens
  pub record Whole (p : ℕ) : Type 0 where
    pub tree : ParseTree ℕ
    pub matched : Matches rows has p (last n n) [] tree

  pub whole_tree : (p : ℕ) (end : End) → p < length rows → cell p n ≡ Some end → end.left ≡ 0 → Whole p
  whole_tree p end within is all =
      let d = subst (λ (o : Option End). IsEnd rows has n p n o) is (known p n within (omega arith)) in
      record { tree = d.tree; matched = subst (λ (k : ℕ). Matches rows has p (last n n) (last n k) d.tree) all d.matched }

  -- while the tree of all tokens is read
  pub continues : (p : ℕ) (end : End) → cell p n ≡ Some end → end.nodes < 2 ^ 64 - 1 → (nodes : List Node) (cs longer : List Cursor) (c : Cursor) → longer ≡ cs ++ c ∷ []
      → ((tree : ParseTree ℕ) → Matches rows has p (last n n) [] tree → Reading nodes longer tree) → (tree : ParseTree ℕ) → Matches rows has p (last n n) [] tree → Goes nodes cs c tree
  continues p end is few nodes cs longer c e reading tree d =
      goes_on nodes cs longer c tree e (reading tree d) (subst (λ (k : ℕ). k < 2 ^ 64 - 1) (sym (whole_size p tree end d is few)) few)

  pub same_reading : (nodes others : List Node) (cs ds : List Cursor) (tree : ParseTree ℕ) → others ≡ nodes → ds ≡ cs → Reading nodes cs tree → Reading others ds tree
  same_reading nodes others cs ds tree e f r =
      subst (λ (xs : List Node). Reading xs ds tree) (sym e) (subst (λ (xs : List Cursor). Reading nodes xs tree) (sym f) r)

  pub starts : (p : ℕ) (e : Row) (end : End) (tree : ParseTree ℕ) → slice_get rows p ≡ Some e → cell p n ≡ Some end → end.nodes < 2 ^ 64 - 1 → Matches rows has p (last n n) [] tree
      → Reading ([] ++ node_of cell e p n n ∷ []) ([] ++ option_to_list (first_parts cell e p n)) tree
  starts p e end tree is h few d = begins p e tree is d (subst (λ (k : ℕ). k < 2 ^ 64 - 1) (sym (whole_size p tree end d h few)) few)
