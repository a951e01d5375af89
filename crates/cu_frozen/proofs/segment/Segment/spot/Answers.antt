use Rattle.std.proofs.Common.{◌<◌, ◌+◌, ◌-◌, length, sym, subst}
use Rattle.cu_frozen.specs.Layers.{Layer, layer_of, Holds, Leaves}
use Rattle.cu_frozen.proofs.Bits.{unmarked}
use Rattle.cu_frozen.proofs.Overlays.{shows_added, shows_changed, shows_below}
use Rattle.cu_frozen.proofs.segment.Segment.spot.Goals as goal

pub returns-then-id-self-clause-here : goal.returns-then-id-self-clause-here
returns-then-id-self-clause-here c =
    subst (λ (s : Layer). c.args.id < s.base + length s.added → Holds s c.args.id c.self.inside.added (c.args.id - c.self.inside.base)) c.self.view_is
    (shows_added (layer_of c.self.inside.base c.self.inside.changed.keys c.self.inside.changes c.self.inside.added) c.args.id c.if-id-self.true) c.requires

pub returns-then-not-may_have-clause-elsewhere : goal.returns-then-not-may_have-clause-elsewhere
returns-then-not-may_have-clause-elsewhere c =
    λ _. subst (λ (s : Layer). Leaves s c.args.id) c.self.view_is
    (unmarked c.self.inside.marks (layer_of c.self.inside.base c.self.inside.changed.keys c.self.inside.changes c.self.inside.added) c.args.id
    c.self.invariant.marked (sym c.if-not-may_have.ensures) c.if-id-self.false)

pub returns-in_err-place-clause-elsewhere : goal.returns-in_err-place-clause-elsewhere
returns-in_err-place-clause-elsewhere c =
    λ _. subst (λ (s : Layer). Leaves s c.args.id) c.self.view_is
    (shows_below (layer_of c.self.inside.base c.self.inside.changed.keys c.self.inside.changes c.self.inside.added) c.args.id c.if-id-self.false (sym c.in_err-place.ensures.found))

pub returns-clause-here : goal.returns-clause-here
returns-clause-here c =
    subst (λ (s : Layer). Holds s c.args.id c.self.inside.changes c.in_ok-place.place) c.self.view_is
    (shows_changed (layer_of c.self.inside.base c.self.inside.changed.keys c.self.inside.changes c.self.inside.added) c.args.id c.in_ok-place.place c.if-id-self.false c.self.invariant.whole.paired (sym c.in_ok-place.ensures.index))
