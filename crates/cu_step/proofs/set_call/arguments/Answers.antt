-- The last argument is read as the root, and the others as goal variables.
use Rattle.std.proofs.Common.{ap, option_map, sym, ◌∙◌}
use Rattle.cu_step.specs.Outcome.{reading_of}
use Rattle.cu_step.proofs.SetCalls.{some_read}
use Rattle.cu_step.proofs.set_call.arguments.Goals as goal

pub returns : goal.returns
returns g c =
    some_read (g.S.Store.content c.args.store.now) c.args.limit c.args.args.now c.in-Some.others.now c.in-Some.last.now (reading_of c.in-Some-2.reading) c.push.new.self.items
    c.in-Some.ensures.cases.0 (sym (ap (option_map reading_of) c.in-Some-2.is) ∙ c.in_ok-reading.ensures) c.in_ok-push.ensures.items
