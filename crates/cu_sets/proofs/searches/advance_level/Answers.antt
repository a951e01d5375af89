-- A branch of a level is stepped within the search that it belongs to. An outcome goes to the
-- innermost search, and where none is left it is that of the branch.
use Rattle.std.proofs.Common.{vec_len}
use Rattle.cu_step.proofs.StepLemmas.{follow_valid}
use Rattle.cu_step.specs.Outcome.{state_of}
use Rattle.cu_sets.proofs.FrameLemmas.{done_whole, falls_given, falls_into, given_frame, into_valid, nothing_left, stands_begin, stands_done, stands_given, stands_into}
use Rattle.cu_sets.proofs.searches.advance_level.Goals as goal

pub turns-init : goal.turns-init
turns-init g c =
    let content = g.S.Store.content in
    stands_begin content c.args.program.now c.args.limits.now (state_of content c.args.branch) c.new-frames.result.items c.in_ok-turn.turn c.new-frames.ensures.items
    c.in_ok-turn.ensures.next c.in_ok-turn.ensures.valid

pub begin-requires-in-Into-clause-valid : goal.begin-requires-in-Into-clause-valid
begin-requires-in-Into-clause-valid g c κs within =
    let content = g.S.Store.content in
    into_valid content c.args.program.now c.args.limits.now (state_of content c.args.branch) c.turns.frames.items c.turns.turn c.in-Into.frame c.in-Into.branch c.in-Into.is c.turns.invariant

pub turns-smaller-in-Into : goal.turns-smaller-in-Into
turns-smaller-in-Into g c =
    falls_into g.S.Store.content c.turns.frames.items c.push.new.self.items c.turns.turn c.in_ok-turn-in-Into.turn c.in-Into.frame c.in-Into.branch c.in-Into.is
    c.in_ok-push-in-Into.ensures.items c.in_ok-turn-in-Into.ensures.falls

pub turns-preserved-in-Into : goal.turns-preserved-in-Into
turns-preserved-in-Into g c =
    let content = g.S.Store.content in
    stands_into content c.args.program.now c.args.limits.now (state_of content c.args.branch) c.turns.frames.items c.push.new.self.items c.turns.turn c.in-Into.frame c.in-Into.branch
    c.in_ok-turn-in-Into.turn c.in-Into.is c.in_ok-push-in-Into.ensures.items c.turns.invariant c.in_ok-turn-in-Into.ensures.next c.in_ok-turn-in-Into.ensures.valid

pub returns-in_default-clause-next : goal.returns-in_default-clause-next
returns-in_default-clause-next g c =
    let content = g.S.Store.content in
    stands_done content c.args.program.now c.args.limits.now (state_of content c.args.branch) c.turns.frames.items c.turns.turn c.in-Done.outcome c.in-Done.is
    (nothing_left c.turns.frames.items (vec_len c.turns.frames) c.in_default.ensures.cases.0 c.turns.frames.ok.0) c.turns.invariant

pub returns-in_default-clause-inner : goal.returns-in_default-clause-inner
returns-in_default-clause-inner g c =
    let content = g.S.Store.content in
    done_whole content c.args.program.now c.args.limits.now (state_of content c.args.branch) c.turns.frames.items c.turns.turn c.in-Done.outcome c.in-Done.is c.turns.invariant

pub returns-in_default-clause-valid : goal.returns-in_default-clause-valid
returns-in_default-clause-valid g c =
    let content = g.S.Store.content in
    follow_valid content c.args.program.now c.args.limits.now (state_of content c.args.branch) c.begin.ensures.well_formed c.requires.valid c.in-Done.outcome
    (returns-in_default-clause-next g c)

pub give-requires-clause-call : goal.give-requires-clause-call
give-requires-clause-call g c κs within =
    let content = g.S.Store.content in
    (given_frame content c.args.program.now c.args.limits.now (state_of content c.args.branch) c.turns.frames.items c.pop.new.self.items c.turns.turn c.in-Some.frame c.in-Some.ensures.items
    c.turns.invariant).call

pub give-requires-clause-inner : goal.give-requires-clause-inner
give-requires-clause-inner g c κs within =
    let content = g.S.Store.content in
    done_whole content c.args.program.now c.args.limits.now (state_of content c.args.branch) c.turns.frames.items c.turns.turn c.in-Done.outcome c.in-Done.is c.turns.invariant

pub turns-smaller : goal.turns-smaller
turns-smaller g c =
    falls_given g.S.Store.content c.turns.frames.items c.pop.new.self.items c.turns.turn c.in_ok-turn-in-Done.turn c.in-Some.frame c.in-Some.ensures.items c.in_ok-turn-in-Done.ensures.falls

pub turns-preserved : goal.turns-preserved
turns-preserved g c =
    let content = g.S.Store.content in
    let start = state_of content c.args.branch in
    let program = c.args.program.now in
    let limits = c.args.limits.now in
    stands_given content program limits start c.turns.frames.items c.pop.new.self.items c.turns.turn c.in-Some.frame c.in-Done.outcome c.in_ok-turn-in-Done.turn c.in-Done.is
    c.in-Some.ensures.items c.turns.invariant (c.in_ok-turn-in-Done.ensures.next program)
    (c.in_ok-turn-in-Done.ensures.valid program
    (given_frame content program limits start c.turns.frames.items c.pop.new.self.items c.turns.turn c.in-Some.frame c.in-Some.ensures.items c.turns.invariant))
