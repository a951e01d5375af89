-- The search goes on by a look, or ends, or keeps marks from then on.
use Rattle.std.proofs.Common.{◌≡◌, sym, ◌∙◌, vec_len}
use Rattle.cu_step.specs.Inside.Occurring.{are_reached}
use Rattle.cu_step.proofs.Builds.{if_ok}
use Rattle.cu_step.proofs.Occurrences.{looked_there, looks_after, looks_again, looks_begin, looks_found, looks_last, looks_none, marks_count}
use Rattle.cu_step.proofs.Reversals.{none_taken}
use Rattle.cu_step.proofs.occurs.are_reached.Goals as goal

pub unmarked-init : goal.unmarked-init
unmarked-init g c =
    looks_begin (g.S.Store.content c.args.store.now) c.args.sought c.args.ids.now c.new.result.items c.in_ok-from_slice.field-0.items c.requires.ids
    c.in_ok-from_slice.ensures.items c.new.ensures.items

pub returns-in_default : goal.returns-in_default
returns-in_default g c =
    looks_none (g.S.Store.content c.args.store.now) c.args.sought c.args.ids.now c.unmarked.search.seen.items c.unmarked.search.pending.items
    (none_taken c.unmarked.search.pending.items c.pop.new.self.items (vec_len c.unmarked.search.pending) c.in_default.ensures.cases.0 c.in_default.ensures.rest
    c.in_default.ensures.items)
    c.unmarked.invariant

pub look-requires-clause-id : goal.look-requires-clause-id
look-requires-clause-id g c κs within =
    looked_there (g.S.Store.content c.args.store.now) c.args.sought c.args.ids.now c.unmarked.search.seen.items c.unmarked.search.pending.items c.pop.new.self.items
    c.in-Some.id c.in-Some.ensures.items c.unmarked.invariant

pub returns-then-found : goal.returns-then-found
returns-then-found g c =
    looks_found (g.S.Store.content c.args.store.now) c.args.sought c.args.ids.now c.unmarked.search.seen.items c.unmarked.search.pending.items c.pop.new.self.items
    c.in-Some.id c.requires.arguments c.requires.acyclic c.in-Some.ensures.items c.unmarked.invariant (sym c.in_ok-found.ensures.found ∙ c.if-found.true)

pub unmarked-preserved : goal.unmarked-preserved
unmarked-preserved g c =
    looks_after (g.S.Store.content c.args.store.now) c.args.sought c.args.ids.now c.unmarked.search.seen.items c.look.new.self.seen.items
    c.unmarked.search.pending.items c.pop.new.self.items c.look.new.self.pending.items c.in-Some.id c.requires.arguments c.requires.acyclic c.in-Some.ensures.items
    c.unmarked.invariant (sym c.in_ok-found.ensures.found ∙ c.if-found.false) (c.in_ok-found.ensures.seen c.if-found.false) (c.in_ok-found.ensures.pending c.if-found.false)

pub finish-requires-clause-looks : goal.finish-requires-clause-looks
finish-requires-clause-looks g c κs within =
    looks_again (g.S.Store.content c.args.store.now) c.args.sought c.args.ids.now c.unmarked.search.seen.items c.keep_marks.new.self.seen.items
    c.unmarked.search.pending.items c.keep_marks.new.self.pending.items c.len.result c.unmarked.invariant c.in_ok-keep_marks.ensures.seen c.len.ensures
    c.keep_marks.ensures.pending

pub finish-requires-clause-marked : goal.finish-requires-clause-marked
finish-requires-clause-marked g c κs within =
    marks_count (g.S.Store.content c.args.store.now) c.keep_marks.new.self.seen.items c.len.result c.in_ok-keep_marks.ensures.seen c.len.ensures

pub returns : goal.returns
returns g c =
    let graph = g.S.Store.content c.args.store.now in
    if_ok c.finish.result (λ yes. yes ≡ are_reached graph c.args.sought c.keep_marks.new.self.pending.items) (λ yes. yes ≡ are_reached graph c.args.sought c.args.ids.now)
    (λ yes is.
    is ∙ looks_last graph c.args.sought c.args.ids.now c.unmarked.search.seen.items c.unmarked.search.pending.items c.keep_marks.new.self.pending.items
    c.unmarked.invariant c.keep_marks.ensures.pending)
    c.finish.ensures
