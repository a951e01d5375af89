-- Each row of a well-formed table matches or fails on each text.
use Rattle.std.proofs.Common.{◌≡◌, ℕ, zero, suc, ◌+◌, ◌<◌, ◌≤◌, ◌⊎◌, inl, inr, Bool, true, false, List, [], ◌∷◌, None, Some, get_or, length, refl, ap, sym, subst, arith}
use Rattle.std.specs.Prelude.{All, slice_get}
use Rattle.std.proofs.lemmas.Option.{slice_get_cases}
use Rattle.cu_peg.specs.declared.class.Class.{Class}
use Rattle.cu_peg.specs.declared.row.Row.{Row}
use Rattle.cu_peg.specs.declared.row.Row.TheVariants as row
use Rattle.cu_peg.specs.Law.{Decided, match, fail}
use Rattle.cu_peg.specs.Matches as m
use Rattle.cu_peg.specs.Matches.{Fails, Matches, RowFails, RowMatches}
use Rattle.cu_peg.specs.Parse.{ParseTree, Leaf, Parts, Chosen, NoTree, MoreTrees, only}
use Rattle.cu_peg.specs.WellFormed as w
use Rattle.cu_peg.specs.WellFormed.{Calls, IsClosed, IsNullable, IsWellFormed, RowCalls, named}
use Rattle.cu_peg.proofs.FoundedRows.{All-tail, Founded, founded, all_founded, calls_within, named_within, row_calls_within}
use Rattle.cu_peg.proofs.RowLemmas as parts
use Rattle.cu_peg.proofs.RowLemmas.{as_many, chosen_of, fails_of_row, many_never_fails, no_more_of, no_part_after, of_row, parts_of, taken}
use Rattle.cu_peg.proofs.Takes.{Takes, some, none, takes, and_then}

module _ {T : Type 0} (rows : List Row) (has : Class → T → Bool) where
  -- what a row may do, where its parts are rows of the table
  data RowDecided (e : Row) (text : List T) : Type 0 where
    matched : (rest : List T) (tree : ParseTree T) → RowMatches rows has e text rest tree → RowDecided e text
    failed : RowFails rows has e text → RowDecided e text

  -- All rows are decided on all texts that are shorter than one.
  Shorter : List T → Type 0
  Shorter text = (other : List T) → length other < length text → (r : ℕ) → r < length rows → Decided rows has r other

  -- the next part is decided, whether something was taken or nothing
  step : {N : Type 0} (text after : List T) (q : ℕ) → Takes text after N → q < length rows → Shorter text → (N → Decided rows has q text) → Decided rows has q after
  unfolding Shorter
  step text after q (some h) within short here = short after h q within
  step text after q (none e n) within short here = subst (λ (t : List T). Decided rows has q t) (sym e) (here n)

  -- what is left is never longer
  shorter : {N : Type 0} (text after : List T) → Takes text after N → Shorter text → Shorter after
  unfolding Shorter
  shorter text after (some h) short other k r within = short other (omega arith) r within
  shorter text after (none e n) short other k r within = short other (omega (arith, ap length e)) r within

  sequence_end : (p : ℕ) (ps : List ℕ) (text after : List T) (tree : ParseTree T) → Matches rows has p text after tree → RowDecided (row.Sequence ps) after
      → RowDecided (row.Sequence (p ∷ ps)) text
  sequence_end p ps text after tree d (matched rest others ds) =
      let is = parts_of rows has (row.Sequence ps) after rest others (parts.sequence ps) ds in
      matched rest (Parts (MoreTrees tree is.0)) (m.sequence p ps text after rest tree is.0 d is.1)
  sequence_end p ps text after tree d (failed f) = failed (m.rest_fails p ps text after tree d f)

  sequence_by : (p : ℕ) (ps : List ℕ) (text : List T) → Decided rows has p text
      → ((after : List T) (tree : ParseTree T) → Matches rows has p text after tree → RowDecided (row.Sequence ps) after) → RowDecided (row.Sequence (p ∷ ps)) text
  sequence_by p ps text (fail f) others = failed (m.part_fails p ps text f)
  sequence_by p ps text (match after tree d) others = sequence_end p ps text after tree d (others after tree d)

  sequence : (ps : List ℕ) (text : List T) → All (λ p. p < length rows) ps → Shorter text
      → ((q : ℕ) → RowCalls rows (row.Sequence ps) q → Decided rows has q text) → RowDecided (row.Sequence ps) text
  sequence [] text all short here = matched text (Parts NoTree) (m.empty text)
  sequence (p ∷ ps) text all short here =
      let tail = All-tail (λ q. q < length rows) p ps all in
      sequence_by p ps text (here p (w.first_part p ps))
      (λ after tree d. sequence ps after tail (shorter text after (takes rows has d) short)
      (λ q c. step text after q (takes rows has d) (row_calls_within rows (length rows) (row.Sequence ps) q tail c) short
      (λ n. here q (w.later_part p ps q n c))))

  choice_by : (p : ℕ) (ps : List ℕ) (text : List T) → Decided rows has p text → RowDecided (row.Choice ps) text → RowDecided (row.Choice (p ∷ ps)) text
  choice_by p ps text (match rest tree d) others = matched rest (Chosen zero tree) (m.first p ps text rest tree d)
  choice_by p ps text (fail f) (matched rest tree d) =
      let is = chosen_of rows has ps text rest tree d in
      matched rest (Chosen (suc is.0) is.1) (m.later p ps text rest is.0 is.1 f is.2)
  choice_by p ps text (fail f) (failed fs) = failed (m.all_fail p ps text f fs)

  choice : (ps : List ℕ) (text : List T) → ((q : ℕ) → RowCalls rows (row.Choice ps) q → Decided rows has q text) → RowDecided (row.Choice ps) text
  choice [] text here = failed (m.no_alternative text)
  choice (p ∷ ps) text here = choice_by p ps text (here p (w.first_alternative p ps)) (choice ps text (λ q c. here q (w.later_alternative p ps q c)))

  optional : (p : ℕ) (text : List T) → Decided rows has p text → RowDecided (row.Optional p) text
  optional p text (match rest tree d) = matched rest (Parts (only tree)) (m.present p text rest tree d)
  optional p text (fail f) = matched text (Parts NoTree) (m.absent p text f)

  ahead : (p : ℕ) (text : List T) → Decided rows has p text → RowDecided (row.Ahead p) text
  ahead p text (match rest tree d) = matched text (Parts NoTree) (m.ahead p text rest tree d)
  ahead p text (fail f) = failed (m.not_found p text f)

  not_ahead : (p : ℕ) (text : List T) → Decided rows has p text → RowDecided (row.NotAhead p) text
  not_ahead p text (match rest tree d) = failed (m.found p text rest tree d)
  not_ahead p text (fail f) = matched text (Parts NoTree) (m.not_ahead p text f)

  many_end : (r p : ℕ) (text after : List T) (tree : ParseTree T) → slice_get rows r ≡ Some (row.Many p) → Matches rows has p text after tree
      → Decided rows has r after → RowDecided (row.Many p) text
  many_end r p text after tree is d (match rest others ds) =
      let all = parts_of rows has (row.Many p) after rest others (parts.many p) (of_row rows has r (row.Many p) after rest others is ds) in
      matched rest (Parts (MoreTrees tree all.0)) (m.one_more p text after rest tree all.0 d all.1)
  many_end r p text after tree is d (fail f) = absurd (many_never_fails rows has p after (fails_of_row rows has r (row.Many p) after is f))

  many : (r p : ℕ) (text : List T) → slice_get rows r ≡ Some (row.Many p) → r < length rows → (IsNullable rows p → ⊥) → Shorter text → Decided rows has p text
      → RowDecided (row.Many p) text
  unfolding Shorter
  many r p text is within never short (match after tree d) = many_end r p text after tree is d (short after (taken text after never (takes rows has d)) r within)
  many r p text is within never short (fail f) = matched text (Parts NoTree) (m.no_more p text f)

  at_least_one_end : (r p : ℕ) (text after : List T) (tree : ParseTree T) → slice_get rows r ≡ Some (row.AtLeastOne p) → Matches rows has p text after tree
      → Decided rows has r after → RowDecided (row.AtLeastOne p) text
  at_least_one_end r p text after tree is d (match rest others ds) =
      let all = parts_of rows has (row.AtLeastOne p) after rest others (parts.at_least_one p) (of_row rows has r (row.AtLeastOne p) after rest others is ds) in
      matched rest (Parts (MoreTrees tree all.0)) (m.at_least_one p text after rest tree all.0 d (as_many rows has p after rest all.0 all.1))
  at_least_one_end r p text after tree is d (fail f) =
      matched after (Parts (only tree))
      (m.at_least_one p text after after tree NoTree d (no_more_of rows has p after (fails_of_row rows has r (row.AtLeastOne p) after is f)))

  at_least_one : (r p : ℕ) (text : List T) → slice_get rows r ≡ Some (row.AtLeastOne p) → r < length rows → (IsNullable rows p → ⊥) → Shorter text
      → Decided rows has p text → RowDecided (row.AtLeastOne p) text
  unfolding Shorter
  at_least_one r p text is within never short (match after tree d) =
      at_least_one_end r p text after tree is d (short after (taken text after never (takes rows has d)) r within)
  at_least_one r p text is within never short (fail f) = failed (m.not_even_one p text f)

  separated_end : (r p s : ℕ) (text after suffix : List T) (tree separator : ParseTree T) → slice_get rows r ≡ Some (row.SeparatedBy p s)
      → Matches rows has p text after tree → Matches rows has s after suffix separator → Decided rows has r suffix → RowDecided (row.SeparatedBy p s) text
  separated_end r p s text after suffix tree separator is d e (match rest others ds) =
      let all = parts_of rows has (row.SeparatedBy p s) suffix rest others (parts.separated p s) (of_row rows has r (row.SeparatedBy p s) suffix rest others is ds) in
      matched rest (Parts (MoreTrees tree all.0)) (m.separated p s text after suffix rest tree separator all.0 d e all.1)
  separated_end r p s text after suffix tree separator is d e (fail f) =
      matched after (Parts (only tree))
      (m.last p s text after tree d (no_part_after rows has p s after suffix separator e (fails_of_row rows has r (row.SeparatedBy p s) suffix is f)))

  separated_then : (r p s : ℕ) (text after : List T) (tree : ParseTree T) → slice_get rows r ≡ Some (row.SeparatedBy p s) → r < length rows
      → (IsNullable rows p → IsNullable rows s → ⊥) → Shorter text → Matches rows has p text after tree → Decided rows has s after
      → RowDecided (row.SeparatedBy p s) text
  unfolding Shorter
  separated_then r p s text after tree is within never short d (match suffix separator e) =
      let both = and_then text after suffix {L = IsNullable rows p × IsNullable rows s} (λ n k. (n, k)) (takes rows has d) (takes rows has e) in
      separated_end r p s text after suffix tree separator is d e (short suffix (taken text suffix (λ b. never b.0 b.1) both) r within)
  separated_then r p s text after tree is within never short d (fail f) =
      matched after (Parts (only tree)) (m.last p s text after tree d (m.part_fails s (p ∷ []) after f))

  separated : (r p s : ℕ) (text : List T) → slice_get rows r ≡ Some (row.SeparatedBy p s) → r < length rows → s < length rows
      → (IsNullable rows p → IsNullable rows s → ⊥) → Shorter text → Decided rows has p text → (IsNullable rows p → Decided rows has s text)
      → RowDecided (row.SeparatedBy p s) text
  separated r p s text is within known never short (match after tree d) here =
      separated_then r p s text after tree is within never short d (step text after s (takes rows has d) known short here)
  separated r p s text is within known never short (fail f) here = failed (m.no_part p s text f)

  token : (c : Class) (text : List T) → RowDecided (row.Token c) text
  token c [] = failed (m.no_token c)
  token c (x ∷ text) = by (has c x) refl
    where
      by : (b : Bool) → has c x ≡ b → RowDecided (row.Token c) (x ∷ text)
      by true h = matched text (Leaf x) (m.token c x text h)
      by false h = failed (m.other_token c x text h)

  row_decided : (r : ℕ) (e : Row) (text : List T) → slice_get rows r ≡ Some e → r < length rows → All (λ p. p < length rows) (named e) → IsWellFormed rows
      → Shorter text → ((q : ℕ) → RowCalls rows e q → Decided rows has q text) → RowDecided e text
  row_decided r (row.Token c) text is within all good short here = token c text
  row_decided r (row.Sequence ps) text is within all good short here = sequence ps text all short here
  row_decided r (row.Choice ps) text is within all good short here = choice ps text here
  row_decided r (row.Optional p) text is within all good short here = optional p text (here p (w.optional_part p))
  row_decided r (row.Many p) text is within all good short here =
      many r p text is within (λ n. good r (inr (record { repeater = row.Many p; is = is; repeats = w.repeated_many p n }))) short (here p (w.many_part p))
  row_decided r (row.AtLeastOne p) text is within all good short here =
      at_least_one r p text is within (λ n. good r (inr (record { repeater = row.AtLeastOne p; is = is; repeats = w.repeated_at_least_one p n }))) short
      (here p (w.at_least_one_part p))
  row_decided r (row.SeparatedBy p s) text is within all good short here =
      separated r p s text is within (all 1 0 (omega arith))
      (λ n k. good r (inr (record { repeater = row.SeparatedBy p s; is = is; repeats = w.repeated_separated p s n k }))) short
      (here p (w.separated_part p s)) (λ n. here s (w.separator p s n))
  row_decided r (row.Ahead p) text is within all good short here = ahead p text (here p (w.ahead_part p))
  row_decided r (row.NotAhead p) text is within all good short here = not_ahead p text (here p (w.not_ahead_part p))

  decided_by : (r : ℕ) (e : Row) (text : List T) → slice_get rows r ≡ Some e → RowDecided e text → Decided rows has r text
  decided_by r e text is (matched rest tree d) = match rest tree (m.matches r e text rest tree is d)
  decided_by r e text is (failed f) = fail (m.fails r e text is f)

  -- a row, where the rows that it calls at this place are decided, and all rows at shorter texts
  at_row : IsClosed rows → IsWellFormed rows → (text : List T) → Shorter text → (r : ℕ) → r < length rows
      → ((q : ℕ) → Calls rows r q → Decided rows has q text) → Decided rows has r text
  at_row closed good text short r within here = by (slice_get_cases rows r).1
    where
      by : ((e : Row) × (r < length rows) × (slice_get rows r ≡ Some e) × (get_or rows r e ≡ e)) ⊎ ((length rows ≤ r) × (slice_get rows r ≡ None)) → Decided rows has r text
      by (inl (e, _, is, _)) =
          decided_by r e text is (row_decided r e text is within (named_within rows closed r e is) good short
          (λ q c. here q (record { caller = e; is = is; calls = c })))
      by (inr past) = absurd (omega (arith, past.0))

  at_founded : IsClosed rows → IsWellFormed rows → (text : List T) → Shorter text → (r : ℕ) → Founded rows r → r < length rows → Decided rows has r text
  at_founded closed good text short r (founded _ calls) within =
      at_row closed good text short r within (λ q c. at_founded closed good text short q (calls q c) (calls_within rows closed r q c))

  below : IsClosed rows → IsWellFormed rows → (n : ℕ) (text : List T) → length text < n → (r : ℕ) → r < length rows → Decided rows has r text
  unfolding Shorter
  below closed good zero text h r within = absurd (omega arith)
  below closed good (suc n) text h r within =
      at_founded closed good text (λ other k q known. below closed good n other (omega arith) q known) r (all_founded rows closed good r within) within

  pub total : IsClosed rows → IsWellFormed rows → (r : ℕ) → r < length rows → (text : List T) → Decided rows has r text
  total closed good r within text = below closed good (length text + 1) text (omega arith) r within
