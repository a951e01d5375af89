use Rattle.std.proofs.Common.{rules, ◌≡◌, ◌<◌, length, refl, arith}
use Rattle.cu_cycles.proofs.Changes.{closes_first, closes_step, popped_within}
use Rattle.cu_cycles.proofs.components.Search.close_from.Goals as goal

pub loop-self-init : goal.loop-self-init
loop-self-init c = closes_first c.args.start c.args.self.now c.requires.start c.requires.at_open

pub index_mut-requires : goal.index_mut-requires
index_mut-requires c =
    let s = c.loop-self.self in
    let size : Rattle.std.specs.Vec.vec_len s.places ≡ length s.places.items = search rules in
    let low : c.in-Some.node < length s.places.items =
    popped_within c.args.start c.args.self.now s c.pop.new.self.items c.in-Some.node c.requires.open_at c.requires.at_open c.loop-self.invariant
    c.in-Some.ensures.items in
    omega arith

pub loop-self-preserved-in-Some : goal.loop-self-preserved-in-Some
loop-self-preserved-in-Some c =
    let s = c.loop-self.self in
    let less : c.args.start < length s.path.items = search rules in
    closes_step c.args.start c.args.self.now s c.pop.new.self.items c.in-Some.node c.requires.open_at c.requires.at_open c.loop-self.invariant
    c.in-Some.ensures.items c.pop.new.self _ refl refl less
