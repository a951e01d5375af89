-- An outcome that ends the search does so whatever is left of the level; else it is added to what
-- became of the branches before it.
use Rattle.std.specs.Vec.Iter.{into_iter_items, into_iter_len}
use Rattle.cu_machine.specs.Next.{stepped}
use Rattle.cu_step.specs.Outcome.{next_of, state_of}
use Rattle.cu_sets.specs.Inside.Frames.{states_left}
use Rattle.cu_sets.specs.Inside.Levels.{level_of}
use Rattle.cu_sets.proofs.FrameLemmas.{first_valid, gives_all, gives_ending, gives_next, no_ending, nothing_left, others_valid, some_ending}
use Rattle.cu_sets.proofs.searches.give.Goals as goal

pub returns-in-Some-clause-next : goal.returns-in-Some-clause-next
returns-in-Some-clause-next g c = λ program.
    let content = g.S.Store.content in
    let frame = c.args.frame in
    let running = frame.running in
    gives_ending c.args.limits.now (content running.store) running.root running.goals.items running.call running.found.items (level_of content frame.after)
    (next_of content c.args.outcome) c.in-Some.ending (stepped program c.args.limits.now (states_left content frame)) (next_of content c.in_ok-outcome.outcome)
    (some_ending c.in_ok-ending.field-0 c.in-Some.ending _ c.in-Some.is c.in_ok-ending.ensures.ends) (c.in_ok-outcome.ensures.next c.args.limits.now)

pub returns-in_default-next-clause-next : goal.returns-in_default-next-clause-next
returns-in_default-next-clause-next g c = λ program.
    let content = g.S.Store.content in
    let frame = c.args.frame in
    let running = frame.running in
    gives_all (state_of content) program c.args.limits.now (content running.store) running.root running.goals.items running.call running.found.items (level_of content frame.after)
    (level_of content c.add.new.self) (next_of content c.args.outcome) (next_of content c.in_ok-outcome-2.outcome) (into_iter_items frame.left)
    (nothing_left (into_iter_items frame.left) (into_iter_len frame.left) c.in_default-next.ensures.cases.0 frame.left.rest.ok.0)
    (no_ending c.in_ok-ending.field-0 _ c.in_default.is c.in_ok-ending.ensures.adds) c.in_ok-outcome-2.ensures.next

pub returns-clause-next : goal.returns-clause-next
returns-clause-next g c = λ program.
    let content = g.S.Store.content in
    let frame = c.args.frame in
    let running = frame.running in
    gives_next (state_of content) program c.args.limits.now (content running.store) running.root running.goals.items running.call running.found.items (level_of content frame.after)
    (level_of content c.add.new.self) (next_of content c.args.outcome) (into_iter_items frame.left) (into_iter_items c.next.new.self) c.in-Some-next.branch c.in-Some-next.ensures.items
    (no_ending c.in_ok-ending.field-0 _ c.in_default.is c.in_ok-ending.ensures.adds)

pub returns-clause-valid : goal.returns-clause-valid
returns-clause-valid g c = λ program valid.
    let content = g.S.Store.content in
    let frame = c.args.frame in (
      record {
        call = valid.call;
        left = others_valid (state_of content) program (into_iter_items frame.left) (into_iter_items c.next.new.self) c.in-Some-next.branch c.in-Some-next.ensures.items valid.left;
      },
      first_valid (state_of content) program (into_iter_items frame.left) (into_iter_items c.next.new.self) c.in-Some-next.branch c.in-Some-next.ensures.items valid.left,
    )
