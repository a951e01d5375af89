use Rattle.std.proofs.Common.{nat_eq}
use Rattle.indexmap.specs.IndexMap.{get}
use Rattle.cu_types.proofs.ReadingSteps.{reading_applied}
use Rattle.cu_types.proofs.reader.Reader.finish.Goals as goal
use Rattle.cu_types.specs.Inside.Reading.{shapes}

pub returns : goal.returns
returns c = λ before t steps w.
    reading_applied before (get nat_eq c.args.self.now.variables) (get nat_eq c.apply.new.self.variables) (shapes c.args.self.now)
    (shapes c.apply.new.self) steps c.args.places.now.items c.take_last.new.places.items c.push.new.self.items
    c.in_ok-arguments.arguments.items t c.args.head c.args.count c.in_ok-place.place c.in_ok-arguments.ensures.taken
    c.in_ok-arguments.ensures.left c.in_ok-place.ensures.reader c.in_ok-place.ensures.read c.in_ok-push.ensures.items w
