-- The search goes on by a look, or ends.
use Rattle.std.proofs.Common.{◌<◌, sym, ◌∙◌, refl, length}
use Rattle.cu_machine.specs.Graph.{head_of}
use Rattle.cu_step.proofs.Occurrences.{cost_after, head_there, looked_there, looks_after, looks_found}
use Rattle.cu_step.proofs.occurs.Search.finish.Goals as goal

pub look-requires-clause-id : goal.look-requires-clause-id
look-requires-clause-id g c κs within =
    looked_there (g.S.Store.content c.args.store.now) c.args.sought c.args.self.pending.items c.loop-id.self.seen.items c.loop-id.self.pending.items c.pop.new.self.items
    c.in-Some.id c.in-Some.ensures.items c.loop-id.invariant.looks

pub returns-then-found : goal.returns-then-found
returns-then-found g c =
    looks_found (g.S.Store.content c.args.store.now) c.args.sought c.args.self.pending.items c.loop-id.self.seen.items c.loop-id.self.pending.items c.pop.new.self.items
    c.in-Some.id c.requires.arguments c.requires.acyclic c.in-Some.ensures.items c.loop-id.invariant.looks (sym c.in_ok-found.ensures.found ∙ c.if-found.true)

pub loop-id-smaller : goal.loop-id-smaller
loop-id-smaller g c =
    let graph = g.S.Store.content c.args.store.now in
    let below : c.in-Some.id < length graph =
    looked_there graph c.args.sought c.args.self.pending.items c.loop-id.self.seen.items c.loop-id.self.pending.items c.pop.new.self.items c.in-Some.id
    c.in-Some.ensures.items c.loop-id.invariant.looks in
    (cost_after graph c.loop-id.self.seen.items c.look.new.self.seen.items c.loop-id.self.pending.items c.pop.new.self.items c.look.new.self.pending.items
    c.in-Some.id (head_there graph c.in-Some.id (head_of graph c.in-Some.id) c.requires.arguments c.requires.acyclic below refl) c.loop-id.invariant.marked
    c.in-Some.ensures.items (c.in_ok-found.ensures.seen c.if-found.false) (c.in_ok-found.ensures.pending c.if-found.false)).less

pub loop-id-preserved : goal.loop-id-preserved
loop-id-preserved g c =
    let graph = g.S.Store.content c.args.store.now in
    let below : c.in-Some.id < length graph =
    looked_there graph c.args.sought c.args.self.pending.items c.loop-id.self.seen.items c.loop-id.self.pending.items c.pop.new.self.items c.in-Some.id
    c.in-Some.ensures.items c.loop-id.invariant.looks in
    record {
      looks = looks_after graph c.args.sought c.args.self.pending.items c.loop-id.self.seen.items c.look.new.self.seen.items
          c.loop-id.self.pending.items c.pop.new.self.items c.look.new.self.pending.items c.in-Some.id c.requires.arguments c.requires.acyclic c.in-Some.ensures.items
          c.loop-id.invariant.looks (sym c.in_ok-found.ensures.found ∙ c.if-found.false) (c.in_ok-found.ensures.seen c.if-found.false) (c.in_ok-found.ensures.pending c.if-found.false);
      marked = (cost_after graph c.loop-id.self.seen.items c.look.new.self.seen.items c.loop-id.self.pending.items c.pop.new.self.items c.look.new.self.pending.items
          c.in-Some.id (head_there graph c.in-Some.id (head_of graph c.in-Some.id) c.requires.arguments c.requires.acyclic below refl) c.loop-id.invariant.marked
          c.in-Some.ensures.items (c.in_ok-found.ensures.seen c.if-found.false) (c.in_ok-found.ensures.pending c.if-found.false)).marked;
    }
