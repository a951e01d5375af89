use Rattle.std.proofs.Common.{◌-◌, ◌<◌, List, [], map, length, refl, sym, subst, arith}
use Rattle.std.proofs.lemmas.List.{length-map}
use Rattle.std.specs.Arc.{arc_value}
use Rattle.cu_frozen.specs.Layers.{Layer, Shows, laid}
use Rattle.cu_frozen.proofs.Stacks.{reaches_again, reached_inside, reached_shown, reached_below, none_reached, stands_in}
use Rattle.cu_frozen.proofs.frozen.Frozen.spot.Goals as goal

pub spot-requires : goal.spot-requires
spot-requires c =
    let layers : List Layer = map arc_value c.self.inside.segments.items in
    let within : c.loop-left.left - 1 < length c.self.inside.segments.items =
    omega (arith, length-map c.self.inside.segments.items arc_value) in
    let stands = stands_in arc_value c.self.inside.segments.items (c.loop-left.left - 1) c.index.result.now c.deref-segment.result.now
    c.self.invariant.laid within (sym c.index.ensures) (sym c.deref-segment.ensures) in
    let reaches = reaches_again layers c.loop-left.left c.args.id c.loop-left-test.true c.loop-left.invariant in
    reached_inside layers (c.loop-left.left - 1) c.args.id c.deref-segment.result.now stands reaches

pub returns-in-Some : goal.returns-in-Some
returns-in-Some c =
    let layers : List Layer = map arc_value c.self.inside.segments.items in
    let within : c.loop-left.left - 1 < length c.self.inside.segments.items =
    omega (arith, length-map c.self.inside.segments.items arc_value) in
    let stands = stands_in arc_value c.self.inside.segments.items (c.loop-left.left - 1) c.index.result.now c.deref-segment.result.now
    c.self.invariant.laid within (sym c.index.ensures) (sym c.deref-segment.ensures) in
    let reaches = reaches_again layers c.loop-left.left c.args.id c.loop-left-test.true c.loop-left.invariant in
    subst (λ (ls : List Layer). Shows c.in-Some.spot.nodes.now c.in-Some.spot.place (laid [] ls) c.args.id) c.self.view_is
    (reached_shown layers (c.loop-left.left - 1) c.args.id c.deref-segment.result.now c.in-Some.spot.nodes.now c.in-Some.spot.place stands reaches
    c.in-Some.ensures.here)

pub loop-left-preserved : goal.loop-left-preserved
loop-left-preserved c =
    let layers : List Layer = map arc_value c.self.inside.segments.items in
    let within : c.loop-left.left - 1 < length c.self.inside.segments.items =
    omega (arith, length-map c.self.inside.segments.items arc_value) in
    let stands = stands_in arc_value c.self.inside.segments.items (c.loop-left.left - 1) c.index.result.now c.deref-segment.result.now
    c.self.invariant.laid within (sym c.index.ensures) (sym c.deref-segment.ensures) in
    let reaches = reaches_again layers c.loop-left.left c.args.id c.loop-left-test.true c.loop-left.invariant in
    reached_below layers (c.loop-left.left - 1) c.args.id c.deref-segment.result.now stands reaches
    (c.in_default.ensures.below refl) (c.in_default.ensures.elsewhere refl)

pub unreachable-requires : goal.unreachable-requires
unreachable-requires c =
    none_reached (map arc_value c.self.inside.segments.items) c.loop-left.left c.args.id c.loop-left-test.false c.loop-left.invariant
