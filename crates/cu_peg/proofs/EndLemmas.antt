-- What the table says of a row is so, where what it says of the rows that it calls is.
use Rattle.std.proofs.Common.{◌≡◌, ℕ, zero, suc, ◌+◌, ◌-◌, ◌^◌, ◌<◌, ◌≤◌, ◌⊎◌, inl, inr, Bool, true, false, List, [], ◌∷◌, Option, None, Some, length, refl, ap, sym, subst, ◌∙◌, arith, lit≤}
use Rattle.std.specs.Prelude.{All, slice_get, min, if◌then◌else◌}
use Rattle.std.specs.Option.{option_and_then, option_map}
use Rattle.cu_peg.specs.declared.class.Class.{Class}
use Rattle.cu_peg.specs.declared.row.Row.{Row}
use Rattle.cu_peg.specs.declared.row.Row.TheVariants as row
use Rattle.cu_peg.specs.declared.table.End.{End}
use Rattle.cu_peg.specs.Inside.Ends.{EndsAt, IsEnd, ahead_end, alone, capped, choice_end, chosen_end, joined, last, many_end, not_ahead_end, optional_end, row_end, sequence_end, with_nodes}
use Rattle.cu_peg.specs.Matches as m
use Rattle.cu_peg.specs.Matches.{Fails, Matches, RowFails, RowMatches}
use Rattle.cu_peg.specs.Parse.{ParseTree, ParseTrees, Leaf, Parts, Chosen, NoTree, MoreTrees, only, size, sizes}
use Rattle.cu_peg.specs.WellFormed as w
use Rattle.cu_peg.specs.WellFormed.{IsNullable, IsWellFormed, RowCalls, named}
use Rattle.cu_peg.proofs.FoundedRows.{All-tail, row_calls_within}
use Rattle.cu_peg.proofs.RowLemmas as parts
use Rattle.cu_peg.proofs.RowLemmas.{as_many, chosen_of, fails_of_row, many_never_fails, no_more_of, no_part_after, of_row, parts_of}
use Rattle.cu_peg.proofs.Takes.{Takes, some, none, takes}

min_sum : (top x y : ℕ) → min (min x top + min y top) top ≡ min (x + y) top
min_sum top x y = omega arith

pub capped_sum : (a b x y : ℕ) → a ≡ capped x → b ≡ capped y → capped (a + b) ≡ capped (x + y)
capped_sum a b x y e f = ap (λ n. capped (n + b)) e ∙ ap (λ n. capped (capped x + n)) f ∙ min_sum (2 ^ 64 - 1) x y

one_more : (top b y : ℕ) → b ≡ min y top → 1 ≤ top → min (1 + b) top ≡ min (1 + y) top
one_more top b y e h = omega arith

pub capped_more : (b y : ℕ) → b ≡ capped y → capped (1 + b) ≡ capped (1 + y)
capped_more b y e = one_more (2 ^ 64 - 1) b y e (lit≤ tt)

pub capped_one : 1 ≡ capped 1
capped_one = refl

pub length-last : (n k : ℕ) → length (last n k) ≡ k
length-last n zero = refl
length-last n (suc k) = ap suc (length-last n k)

module _ (rows : List Row) (has : Class → ℕ → Bool) (n : ℕ) where
  -- what is said of a row, its parts being rows of the table
  pub record RowEndsAt (e : Row) (left : ℕ) (end : End) : Type 0 where
    pub tree : ParseTree ℕ
    pub within : end.left ≤ left
    pub matched : RowMatches rows has e (last n left) (last n end.left) tree
    pub counted : end.nodes ≡ capped (size tree)

  abbrev pub RowIsEnd : Row → ℕ → Option End → Type 0
  RowIsEnd e left None = RowFails rows has e (last n left)
  RowIsEnd e left (Some end) = RowEndsAt e left end

  pub is_end_by : (r : ℕ) (e : Row) (left : ℕ) (o : Option End) → slice_get rows r ≡ Some e → RowIsEnd e left o → IsEnd rows has n r left o
  is_end_by r e left None is f = m.fails r e (last n left) is f
  is_end_by r e left (Some end) is d =
      record { tree = d.tree; within = d.within; matched = m.matches r e (last n left) (last n end.left) d.tree is d.matched; counted = d.counted }

  pub row_is_end : (r : ℕ) (e : Row) (left : ℕ) (o : Option End) → slice_get rows r ≡ Some e → IsEnd rows has n r left o → RowIsEnd e left o
  row_is_end r e left None is f = fails_of_row rows has r e (last n left) is f
  row_is_end r e left (Some end) is d =
      record { tree = d.tree; within = d.within; matched = of_row rows has r e (last n left) (last n end.left) d.tree is d.matched; counted = d.counted }

  -- a row took something, or it may take nothing
  pub passed : (p left : ℕ) (end : End) → EndsAt rows has n p left end → (end.left < left) ⊎ ((end.left ≡ left) × IsNullable rows p)
  passed p left end d = by (takes rows has d.matched)
    where
      by : Takes (last n left) (last n end.left) (IsNullable rows p) → (end.left < left) ⊎ ((end.left ≡ left) × IsNullable rows p)
      by (some h) = inl (omega (arith, length-last n left, length-last n end.left))
      by (none e k) = inr (sym (length-last n end.left) ∙ ap length e ∙ length-last n left, k)

  module _ (cell : ℕ → ℕ → Option End) where
    -- what the table says of a row where some tokens are left
    abbrev Known : ℕ → ℕ → Type 0
    Known q left = IsEnd rows has n q left (cell q left)

    -- All is so where fewer are left.
    abbrev Before : ℕ → Type 0
    Before left = (k q : ℕ) → k < left → q < length rows → Known q k

    next_known : (p q left : ℕ) (end : End) → EndsAt rows has n p left end → q < length rows → Before left → (IsNullable rows p → Known q left) → Known q end.left
    next_known p q left end d within before here = by (passed p left end d)
      where
        by : (end.left < left) ⊎ ((end.left ≡ left) × IsNullable rows p) → Known q end.left
        by (inl h) = before end.left q h within
        by (inr (e, k)) = subst (λ (j : ℕ). Known q j) (sym e) (here k)

    -- sequences
    record SequenceEndsAt (ps : List ℕ) (left count : ℕ) (end : End) : Type 0 where
      trees : ParseTrees ℕ
      within : end.left ≤ left
      matched : RowMatches rows has (row.Sequence ps) (last n left) (last n end.left) (Parts trees)
      counted : end.nodes ≡ capped (count + sizes trees)

    abbrev SequenceIsEnd : List ℕ → ℕ → ℕ → Option End → Type 0
    SequenceIsEnd ps left count None = RowFails rows has (row.Sequence ps) (last n left)
    SequenceIsEnd ps left count (Some end) = SequenceEndsAt ps left count end

    sequence_more : (p : ℕ) (ps : List ℕ) (left count : ℕ) (next : End) (d : EndsAt rows has n p left next) (o : Option End)
        → SequenceIsEnd ps next.left (count + size d.tree) o → SequenceIsEnd (p ∷ ps) left count o
    sequence_more p ps left count next d None f = m.rest_fails p ps (last n left) (last n next.left) d.tree d.matched f
    sequence_more p ps left count next d (Some end) s = record {
      trees = MoreTrees d.tree s.trees;
      within = omega (arith, d.within, s.within);
      matched = m.sequence p ps (last n left) (last n next.left) (last n end.left) d.tree s.trees d.matched s.matched;
      counted = s.counted ∙ ap capped (omega arith);
    }

    sequence_by : (p : ℕ) (ps : List ℕ) (count : ℕ) (start : End) (o : Option End) → IsEnd rows has n p start.left o
        → ((next : End) (d : EndsAt rows has n p start.left next) → SequenceIsEnd ps next.left (count + size d.tree) (sequence_end cell ps (with_nodes start.nodes next)))
        → SequenceIsEnd (p ∷ ps) start.left count (option_and_then (λ next. sequence_end cell ps (with_nodes start.nodes next)) o)
    sequence_by p ps count start None f others = m.part_fails p ps (last n start.left) f
    sequence_by p ps count start (Some next) d others =
        sequence_more p ps start.left count next d (sequence_end cell ps (with_nodes start.nodes next)) (others next d)

    sequence_right : (ps : List ℕ) (count : ℕ) (start : End) → start.nodes ≡ capped count → All (λ p. p < length rows) ps → Before start.left
        → ((q : ℕ) → RowCalls rows (row.Sequence ps) q → Known q start.left) → SequenceIsEnd ps start.left count (sequence_end cell ps start)
    sequence_right [] count start e all before here = record { trees = NoTree; within = omega arith; matched = m.empty (last n start.left); counted = e ∙ ap capped (omega arith) }
    sequence_right (p ∷ ps) count start e all before here =
        let tail = All-tail (λ q. q < length rows) p ps all in
        sequence_by p ps count start (cell p start.left) (here p (w.first_part p ps))
        (λ next d. sequence_right ps (count + size d.tree) (with_nodes start.nodes next) (capped_sum start.nodes next.nodes count (size d.tree) e d.counted) tail
        (λ k q h within. before k q (omega (arith, d.within)) within)
        (λ q c. next_known p q start.left next d (row_calls_within rows (length rows) (row.Sequence ps) q tail c) before (λ z. here q (w.later_part p ps q z c))))

    sequence_end_is : (ps : List ℕ) (left : ℕ) (o : Option End) → SequenceIsEnd ps left 1 o → RowIsEnd (row.Sequence ps) left o
    sequence_end_is ps left None f = f
    sequence_end_is ps left (Some end) s = record { tree = Parts s.trees; within = s.within; matched = s.matched; counted = s.counted }

    -- choices
    choice_by : (p : ℕ) (ps : List ℕ) (left : ℕ) (o later : Option End) → IsEnd rows has n p left o → RowIsEnd (row.Choice ps) left later
        → RowIsEnd (row.Choice (p ∷ ps)) left (chosen_end o later)
    choice_by p ps left (Some end) later d l = record {
      tree = Chosen zero d.tree;
      within = d.within;
      matched = m.first p ps (last n left) (last n end.left) d.tree d.matched;
      counted = capped_more end.nodes (size d.tree) d.counted;
    }
    choice_by p ps left None None f l = m.all_fail p ps (last n left) f l
    choice_by p ps left None (Some end) f l =
        let is = chosen_of rows has ps (last n left) (last n end.left) l.tree l.matched in
        record {
          tree = Chosen (suc is.0) is.1;
          within = l.within;
          matched = m.later p ps (last n left) (last n end.left) is.0 is.1 f is.2;
          counted = l.counted ∙ ap (λ t. capped (size t)) is.3;
        }

    choice_right : (ps : List ℕ) (left : ℕ) → ((q : ℕ) → RowCalls rows (row.Choice ps) q → Known q left) → RowIsEnd (row.Choice ps) left (choice_end cell ps left)
    choice_right [] left here = m.no_alternative (last n left)
    choice_right (p ∷ ps) left here =
        choice_by p ps left (cell p left) (choice_end cell ps left) (here p (w.first_alternative p ps)) (choice_right ps left (λ q c. here q (w.later_alternative p ps q c)))

    -- the others
    alone_ends : (e : Row) (left : ℕ) → RowMatches rows has e (last n left) (last n left) (Parts NoTree) → RowEndsAt e left (alone left)
    alone_ends e left d = record { tree = Parts NoTree; within = omega arith; matched = d; counted = capped_one }

    only_counted : (nodes : ℕ) (tree : ParseTree ℕ) → nodes ≡ capped (size tree) → capped (1 + nodes) ≡ capped (size (Parts (only tree)))
    only_counted nodes tree e = capped_more nodes (size tree) e ∙ ap capped (omega arith)

    optional_right : (p left : ℕ) (o : Option End) → IsEnd rows has n p left o → RowIsEnd (row.Optional p) left (Some (optional_end left o))
    optional_right p left None f = alone_ends (row.Optional p) left (m.absent p (last n left) f)
    optional_right p left (Some end) d = record {
      tree = Parts (only d.tree);
      within = d.within;
      matched = m.present p (last n left) (last n end.left) d.tree d.matched;
      counted = only_counted end.nodes d.tree d.counted;
    }

    ahead_right : (p left : ℕ) (o : Option End) → IsEnd rows has n p left o → RowIsEnd (row.Ahead p) left (ahead_end left o)
    ahead_right p left None f = m.not_found p (last n left) f
    ahead_right p left (Some end) d = alone_ends (row.Ahead p) left (m.ahead p (last n left) (last n end.left) d.tree d.matched)

    not_ahead_right : (p left : ℕ) (o : Option End) → IsEnd rows has n p left o → RowIsEnd (row.NotAhead p) left (not_ahead_end left o)
    not_ahead_right p left None f = alone_ends (row.NotAhead p) left (m.not_ahead p (last n left) f)
    not_ahead_right p left (Some end) d = m.found p (last n left) (last n end.left) d.tree d.matched

    more_counted : (a b : ℕ) (tree : ParseTree ℕ) (trees : ParseTrees ℕ) → a ≡ capped (size tree) → b ≡ capped (size (Parts trees)) → capped (a + b) ≡ capped (size (Parts (MoreTrees tree trees)))
    more_counted a b tree trees e f = capped_sum a b (size tree) (size (Parts trees)) e f ∙ ap capped (omega arith)

    many_more : (r p left : ℕ) (end : End) (d : EndsAt rows has n p left end) (o : Option End) → slice_get rows r ≡ Some (row.Many p) → IsEnd rows has n r end.left o
        → RowIsEnd (row.Many p) left (option_map (with_nodes end.nodes) o)
    many_more r p left end d None is f = absurd (many_never_fails rows has p (last n end.left) (fails_of_row rows has r (row.Many p) (last n end.left) is f))
    many_more r p left end d (Some rest) is f =
        let s = row_is_end r (row.Many p) end.left (Some rest) is f in
        let all = parts_of rows has (row.Many p) (last n end.left) (last n rest.left) s.tree (parts.many p) s.matched in
        record {
          tree = Parts (MoreTrees d.tree all.0);
          within = omega (arith, d.within, s.within);
          matched = m.one_more p (last n left) (last n end.left) (last n rest.left) d.tree all.0 d.matched all.1;
          counted = more_counted end.nodes rest.nodes d.tree all.0 d.counted (s.counted ∙ ap (λ t. capped (size t)) all.2);
        }

    many_right : (r p left : ℕ) (o : Option End) → slice_get rows r ≡ Some (row.Many p) → IsEnd rows has n p left o
        → ((end : End) → EndsAt rows has n p left end → Known r end.left) → RowIsEnd (row.Many p) left (many_end (cell r) left o)
    many_right r p left None is f again = alone_ends (row.Many p) left (m.no_more p (last n left) f)
    many_right r p left (Some end) is d again = many_more r p left end d (cell r end.left) is (again end d)

    one_more_right : (r p left : ℕ) (end : End) (d : EndsAt rows has n p left end) (o : Option End) → slice_get rows r ≡ Some (row.AtLeastOne p) → IsEnd rows has n r end.left o
        → RowIsEnd (row.AtLeastOne p) left (Some (joined end o))
    one_more_right r p left end d None is f = record {
      tree = Parts (only d.tree);
      within = d.within;
      matched = m.at_least_one p (last n left) (last n end.left) (last n end.left) d.tree NoTree d.matched
          (no_more_of rows has p (last n end.left) (fails_of_row rows has r (row.AtLeastOne p) (last n end.left) is f));
      counted = only_counted end.nodes d.tree d.counted;
    }
    one_more_right r p left end d (Some rest) is f =
        let s = row_is_end r (row.AtLeastOne p) end.left (Some rest) is f in
        let all = parts_of rows has (row.AtLeastOne p) (last n end.left) (last n rest.left) s.tree (parts.at_least_one p) s.matched in
        record {
          tree = Parts (MoreTrees d.tree all.0);
          within = omega (arith, d.within, s.within);
          matched = m.at_least_one p (last n left) (last n end.left) (last n rest.left) d.tree all.0 d.matched (as_many rows has p (last n end.left) (last n rest.left) all.0 all.1);
          counted = more_counted end.nodes rest.nodes d.tree all.0 d.counted (s.counted ∙ ap (λ t. capped (size t)) all.2);
        }

    at_least_one_right : (r p left : ℕ) (o : Option End) → slice_get rows r ≡ Some (row.AtLeastOne p) → IsEnd rows has n p left o
        → ((end : End) → EndsAt rows has n p left end → Known r end.left) → RowIsEnd (row.AtLeastOne p) left (option_map (λ end. joined end (cell r end.left)) o)
    at_least_one_right r p left None is f again = m.not_even_one p (last n left) f
    at_least_one_right r p left (Some end) is d again = one_more_right r p left end d (cell r end.left) is (again end d)

    -- what is separated
    no_other : (p s left : ℕ) (end : End) (d : EndsAt rows has n p left end) → RowFails rows has (row.Sequence (s ∷ p ∷ [])) (last n end.left)
        → RowIsEnd (row.SeparatedBy p s) left (Some (with_nodes 1 end))
    no_other p s left end d f = record {
      tree = Parts (only d.tree);
      within = d.within;
      matched = m.last p s (last n left) (last n end.left) d.tree d.matched f;
      counted = only_counted end.nodes d.tree d.counted;
    }

    others_right : (r p s left : ℕ) (end : End) (d : EndsAt rows has n p left end) (after : End) → EndsAt rows has n s end.left after → (o : Option End)
        → slice_get rows r ≡ Some (row.SeparatedBy p s) → IsEnd rows has n r after.left o → RowIsEnd (row.SeparatedBy p s) left (Some (joined end o))
    others_right r p s left end d after b None is f =
        no_other p s left end d (no_part_after rows has p s (last n end.left) (last n after.left) b.tree b.matched
        (fails_of_row rows has r (row.SeparatedBy p s) (last n after.left) is f))
    others_right r p s left end d after b (Some rest) is f =
        let t = row_is_end r (row.SeparatedBy p s) after.left (Some rest) is f in
        let all = parts_of rows has (row.SeparatedBy p s) (last n after.left) (last n rest.left) t.tree (parts.separated p s) t.matched in
        record {
          tree = Parts (MoreTrees d.tree all.0);
          within = omega (arith, d.within, b.within, t.within);
          matched = m.separated p s (last n left) (last n end.left) (last n after.left) (last n rest.left) d.tree b.tree all.0 d.matched b.matched all.1;
          counted = more_counted end.nodes rest.nodes d.tree all.0 d.counted (t.counted ∙ ap (λ t. capped (size t)) all.2);
        }

    separator_right : (r p s left : ℕ) (end : End) (d : EndsAt rows has n p left end) (o : Option End) → slice_get rows r ≡ Some (row.SeparatedBy p s)
        → IsEnd rows has n s end.left o → ((after : End) → EndsAt rows has n s end.left after → Known r after.left)
        → RowIsEnd (row.SeparatedBy p s) left (Some (joined end (option_and_then (λ after. cell r after.left) o)))
    separator_right r p s left end d None is f again = no_other p s left end d (m.part_fails s (p ∷ []) (last n end.left) f)
    separator_right r p s left end d (Some after) is b again = others_right r p s left end d after b (cell r after.left) is (again after b)

    separated_right : (r p s left : ℕ) (o : Option End) → slice_get rows r ≡ Some (row.SeparatedBy p s) → IsEnd rows has n p left o
        → ((end : End) → EndsAt rows has n p left end → Known s end.left)
        → ((end after : End) → EndsAt rows has n p left end → EndsAt rows has n s end.left after → Known r after.left)
        → RowIsEnd (row.SeparatedBy p s) left (option_map (λ end. joined end (option_and_then (λ after. cell r after.left) (cell s end.left))) o)
    separated_right r p s left None is f separator again = m.no_part p s (last n left) f
    separated_right r p s left (Some end) is d separator again =
        separator_right r p s left end d (cell s end.left) is (separator end d) (λ after b. again end after d b)

    -- tokens
    token_right : (c : Class) (left : ℕ) (next : Class → Bool) → left ≤ n → (next c ≡ true → 0 < left) → (0 < left → next c ≡ has c (n - left))
        → RowIsEnd (row.Token c) left (if next c then Some (alone (left - 1)) else None)
    token_right c zero next h given same = by (next c) refl
      where
        by : (b : Bool) → next c ≡ b → RowIsEnd (row.Token c) zero (if b then Some (alone (zero - 1)) else None)
        by true e = absurd (omega (arith, given e))
        by false e = m.no_token c
    token_right c (suc left) next h given same = by (next c) refl
      where
        less_one : (suc left) - 1 ≡ left
        less_one = omega arith

        by : (b : Bool) → next c ≡ b → RowIsEnd (row.Token c) (suc left) (if b then Some (alone (suc left - 1)) else None)
        by true e = record {
          tree = Leaf (n - suc left);
          within = omega arith;
          matched = subst (λ (k : ℕ). RowMatches rows has (row.Token c) (last n (suc left)) (last n k) (Leaf (n - suc left))) (sym less_one)
              (m.token c (n - suc left) (last n left) (sym (same (omega arith)) ∙ e));
          counted = capped_one;
        }
        by false e = m.other_token c (n - suc left) (last n left) (sym (same (omega arith)) ∙ e)

    shrinks : (p left : ℕ) (end : End) → (IsNullable rows p → ⊥) → EndsAt rows has n p left end → end.left < left
    shrinks p left end never d = by (passed p left end d)
      where
        by : (end.left < left) ⊎ ((end.left ≡ left) × IsNullable rows p) → end.left < left
        by (inl h) = h
        by (inr (e, k)) = absurd (never k)

    shrinks_both : (p s left : ℕ) (end after : End) → (IsNullable rows p → IsNullable rows s → ⊥) → EndsAt rows has n p left end → EndsAt rows has n s end.left after → after.left < left
    shrinks_both p s left end after never d b = by (passed p left end d) (passed s end.left after b)
      where
        by : (end.left < left) ⊎ ((end.left ≡ left) × IsNullable rows p) → (after.left < end.left) ⊎ ((after.left ≡ end.left) × IsNullable rows s) → after.left < left
        by (inl h) other = omega (arith, b.within)
        by (inr (e, k)) (inl h) = omega arith
        by (inr (e, k)) (inr (f, l)) = absurd (never k l)

    row_right : (r left : ℕ) (e : Row) (next : Class → Bool) → slice_get rows r ≡ Some e → r < length rows → All (λ p. p < length rows) (named e) → IsWellFormed rows
        → left ≤ n → ((c : Class) → next c ≡ true → 0 < left) → ((c : Class) → 0 < left → next c ≡ has c (n - left)) → Before left
        → ((q : ℕ) → RowCalls rows e q → Known q left) → RowIsEnd e left (row_end next cell e r left)
    row_right r left (row.Token c) next is within all good h given same before here = token_right c left next h (given c) (same c)
    row_right r left (row.Sequence ps) next is within all good h given same before here =
        sequence_end_is ps left (sequence_end cell ps (alone left)) (sequence_right ps 1 (alone left) capped_one all before here)
    row_right r left (row.Choice ps) next is within all good h given same before here = choice_right ps left here
    row_right r left (row.Optional p) next is within all good h given same before here = optional_right p left (cell p left) (here p (w.optional_part p))
    row_right r left (row.Many p) next is within all good h given same before here =
        let never = λ (z : IsNullable rows p). good r (inr (record { repeater = row.Many p; is = is; repeats = w.repeated_many p z })) in
        many_right r p left (cell p left) is (here p (w.many_part p)) (λ end d. before end.left r (shrinks p left end never d) within)
    row_right r left (row.AtLeastOne p) next is within all good h given same before here =
        let never = λ (z : IsNullable rows p). good r (inr (record { repeater = row.AtLeastOne p; is = is; repeats = w.repeated_at_least_one p z })) in
        at_least_one_right r p left (cell p left) is (here p (w.at_least_one_part p)) (λ end d. before end.left r (shrinks p left end never d) within)
    row_right r left (row.SeparatedBy p s) next is within all good h given same before here =
        let never = λ (z : IsNullable rows p) (k : IsNullable rows s). good r (inr (record { repeater = row.SeparatedBy p s; is = is; repeats = w.repeated_separated p s z k })) in
        separated_right r p s left (cell p left) is (here p (w.separated_part p s))
        (λ end d. next_known p s left end d (all 1 0 (omega arith)) before (λ z. here s (w.separator p s z)))
        (λ end after d b. before after.left r (shrinks_both p s left end after never d b) within)
    row_right r left (row.Ahead p) next is within all good h given same before here = ahead_right p left (cell p left) (here p (w.ahead_part p))
    row_right r left (row.NotAhead p) next is within all good h given same before here = not_ahead_right p left (cell p left) (here p (w.not_ahead_part p))

    pub cell_right : (r left : ℕ) (e : Row) (next : Class → Bool) → slice_get rows r ≡ Some e → r < length rows → All (λ p. p < length rows) (named e) → IsWellFormed rows
        → left ≤ n → ((c : Class) → next c ≡ true → 0 < left) → ((c : Class) → 0 < left → next c ≡ has c (n - left)) → ((k q : ℕ) → k < left → q < length rows → IsEnd rows has n q k (cell q k))
        → ((q : ℕ) → RowCalls rows e q → IsEnd rows has n q left (cell q left)) → IsEnd rows has n r left (row_end next cell e r left)
    cell_right r left e next is within all good h given same before here =
        is_end_by r e left (row_end next cell e r left) is (row_right r left e next is within all good h given same before here)
