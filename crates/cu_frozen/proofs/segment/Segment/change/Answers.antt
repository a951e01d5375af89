use Rattle.std.proofs.Common.{◌≡◌, ◌<◌, false, nat_eq, sym, subst}
use Rattle.std.specs.List.{list_any}
use Rattle.cu_machine.specs.Graph.{Node}
use Rattle.cu_frozen.specs.Layers.{Layer}
use Rattle.cu_frozen.proofs.Bits.{inserted, marked_more, whole_more}
use Rattle.cu_frozen.proofs.segment.Segment.change.Goals as goal

pub invariant_of-self-2 : goal.invariant_of-self-2
invariant_of-self-2 c =
    let node : Node = record { kind = c.args.kind; args = c.args.args.now } in
    let below : c.args.id < c.self.inside.base = subst (λ (s : Layer). c.args.id < s.base) (sym c.self.view_is) c.requires.below in
    let fresh : list_any (nat_eq c.args.id) c.self.inside.changed.keys ≡ false =
    subst (λ (s : Layer). list_any (nat_eq c.args.id) s.changed ≡ false) (sym c.self.view_is) c.requires.fresh in
    let more = inserted c.self.inside.changed.keys c.reserve.new.self.keys c.insert.new.self.keys c.args.id c.reserve.ensures.keys c.in_ok-insert.ensures.keys fresh in
    record {
      whole =
          whole_more c.self.inside.base c.self.inside.changed.keys c.insert.new.self.keys c.self.inside.changes c.push.new.self c.self.inside.added c.args.id node
          c.self.invariant.whole below more c.in_ok-push.ensures.ok;
      marked =
          marked_more c.self.inside.marks c.with-self-inside.result c.self.inside.changed.keys c.insert.new.self.keys c.args.id c.self.invariant.marked more
          c.with-self-inside.ensures.kept c.with-self-inside.ensures.added;
    }
