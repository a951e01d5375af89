use Rattle.std.proofs.Common.{◌<◌, get_or, length}
use Rattle.cu_types.proofs.Walks.{places_more}
use Rattle.cu_types.proofs.order.Walk.places_of.Goals as goal
use Rattle.cu_types.specs.Inside.Ordering.{class_of}
use Rattle.std.proofs.lemmas.Option.{slice_get-get_or}

pub loop-argument-preserved : goal.loop-argument-preserved
loop-argument-preserved c =
    let qs = c.args.arguments.now in
    let i = c.loop-argument.argument-index in
    let within : c.loop-argument.argument-index < length c.args.arguments.now = c.loop-argument-test.true in
    let inside : class_of c.args.classes.now (get_or qs i 0) < length c.args.self.now.states.items =
    c.requires.classes (get_or qs i 0) (c.requires.arguments i (get_or qs i 0) (slice_get-get_or qs i 0 within)) in
    places_more c.args.self.now.states.items c.args.classes.now qs i c.index.result.now c.place_in.result c.loop-argument.found.items
    c.push.new.self.items within inside c.index.ensures c.place_in.ensures c.loop-argument.invariant c.in_ok-push.ensures.items
