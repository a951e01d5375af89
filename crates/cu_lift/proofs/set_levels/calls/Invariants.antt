use Rattle.cu_lift.specs.Inside.Levelling.{AreCalls}
use Rattle.cu_lift.proofs.set_levels.calls.Given as goal

abbrev pub invariant-loop-caller : goal.invariant-loop-caller
invariant-loop-caller l = AreCalls l.graph l.found.ranks.items l.found.count l.caller l.calls.items
