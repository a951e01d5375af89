use Rattle.std.proofs.Common.{rules, ◌≡◌, length}
use Rattle.cu_cycles.proofs.Changes.{close_falls, close_good}
use Rattle.cu_cycles.proofs.components.Search.close.Goals as goal

pub returns-clause-good : goal.returns-clause-good
returns-clause-good c g good done =
    let s = c.args.self.now in
    let t = c.close_from.new.self in
    let e = c.close_from.ensures in
    let size : Rattle.std.specs.Vec.vec_len s.parts ≡ length s.parts.items = search rules in
    close_good g s.places.items t.places.items s.path.items t.path.items s.pending.items t.pending.items s.parts.items c.pop.new.self.items t.parts.items
    s.closed t.closed (Rattle.std.specs.Vec.vec_len s.parts) c.args.part c.requires.last size c.pop.ensures.rest e.places e.pending e.parts
    good done e.sized e.path e.closed

pub returns-clause-falls : goal.returns-clause-falls
returns-clause-falls c g =
    let s = c.args.self.now in
    let t = c.close_from.new.self in
    let e = c.close_from.ensures in
    let size : Rattle.std.specs.Vec.vec_len s.parts ≡ length s.parts.items = search rules in
    close_falls g s.places.items t.places.items s.path.items t.path.items s.pending.items t.pending.items s.parts.items c.pop.new.self.items t.parts.items
    s.closed t.closed (Rattle.std.specs.Vec.vec_len s.parts) c.args.part c.requires.last size c.pop.ensures.rest e.places e.pending e.parts
