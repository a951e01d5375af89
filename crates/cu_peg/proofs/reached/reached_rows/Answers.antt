use Rattle.std.proofs.Common.{◌≡◌, ◌∙◌, ℕ, ◌<◌, ◌∷◌, [], Option, None, Some, length, length-append, get_or, refl, ap, sym, subst, arith}
use Rattle.std.specs.Prelude.{All, Contains, MatchOption}
use Rattle.std.proofs.lemmas.List.{length-replicate, nil_from_length}
use Rattle.std.proofs.lemmas.List.Elements.{Contains-push}
use Rattle.std.proofs.lemmas.Option.{slice_get-get_or}
use Rattle.cu_peg.specs.declared.row.Row.TheVariants as row
use Rattle.cu_peg.specs.WellFormed.{named}
use Rattle.cu_peg.proofs.ClosureLemmas.{marked_within}
use Rattle.cu_peg.proofs.FoundedRows.{named_within}
use Rattle.cu_peg.proofs.ReachLemmas.{going-done, going-more, going-start}
use Rattle.cu_peg.proofs.reached.reached_rows.Goals as goal

pub loop-row-init : goal.loop-row-init
loop-row-init c =
    let none = c.in_ok-marks.ensures.items_if_clones_equal (λ y e. e) in
    going-start c.args.rows.now c.args.start (length c.args.rows.now) c.in_ok-marks.marks.items c.reach.new.marks.items c.new-pending.result.items c.reach.new.pending.items none c.new-pending.ensures.items refl
    (ap length none ∙ length-replicate (length c.args.rows.now) _) c.in_ok-reach.ensures.spreads c.in_ok-reach.ensures.reached

pub reach_row-requires-clause-row : goal.reach_row-requires-clause-row
reach_row-requires-clause-row c =
    let k = c.loop-row.invariant in
    let here : Contains c.loop-row.pending.items c.in-Some.row = subst (λ ps. Contains ps c.in-Some.row) (sym c.in-Some.ensures.items) (Contains-push c.pop.new.self.items c.in-Some.row) in
    subst (λ n. c.in-Some.row < n) k.long (marked_within c.loop-row.marks.items c.in-Some.row (k.known c.in-Some.row here))

pub reach_row-requires-clause-named : goal.reach_row-requires-clause-named
reach_row-requires-clause-named c = λ e is. subst (λ n. All (λ p. p < n) (named e)) (sym c.loop-row.invariant.long) (named_within c.args.rows.now c.requires.closed c.in-Some.row e is)

pub loop-row-preserved : goal.loop-row-preserved
loop-row-preserved c =
    let k = c.loop-row.invariant in
    let here : Contains c.loop-row.pending.items c.in-Some.row = subst (λ ps. Contains ps c.in-Some.row) (sym c.in-Some.ensures.items) (Contains-push c.pop.new.self.items c.in-Some.row) in
    let inside : c.in-Some.row < length c.args.rows.now = subst (λ n. c.in-Some.row < n) k.long (marked_within c.loop-row.marks.items c.in-Some.row (k.known c.in-Some.row here)) in
    let at = slice_get-get_or c.args.rows.now c.in-Some.row (row.Choice []) inside in
    going-more c.args.rows.now c.args.start c.in-Some.row (get_or c.args.rows.now c.in-Some.row (row.Choice [])) c.loop-row.marks.items c.reach_row.new.marks.items c.loop-row.pending.items c.pop.new.self.items
    c.reach_row.new.pending.items c.in-Some.ensures.items k at c.in_ok-reach_row.ensures.spreads (c.in_ok-reach_row.ensures.reached _ at)

pub loop-row-smaller : goal.loop-row-smaller
loop-row-smaller c = omega (arith, c.in_ok-reach_row.ensures.spreads.fewer, ap length c.in-Some.ensures.items, length-append c.pop.new.self.items (c.in-Some.row ∷ []))

-- where nothing was popped, nothing was there
nothing_left : (o : Option ℕ) (a b : ℕ) (P : ℕ → Type 0) → o ≡ None → MatchOption o ((a ≡ 0) × (b ≡ 0)) P → a ≡ 0
nothing_left None a b P e h = h.0
nothing_left (Some x) a b P e h = let never : ⊥ = cc in absurd never

pub returns : goal.returns
returns c =
    going-done c.args.rows.now c.args.start c.loop-row.marks.items c.loop-row.pending.items
    (nil_from_length c.loop-row.pending.items (sym c.loop-row.pending.ok.0 ∙ nothing_left c.pop.result _ _ (λ x. _) c.in_default.is c.pop.ensures.cases)) c.loop-row.invariant
