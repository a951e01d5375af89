use Rattle.std.proofs.Common.{◌≡◌, length}
use Rattle.cu_lift.specs.Inside.Capturing.{AllOwned, AreLocals}
use Rattle.cu_lift.proofs.captures.survey_of.Given as goal

abbrev pub invariant-loop-function : goal.invariant-loop-function
invariant-loop-function l =
    (length l.locals.items ≡ l.function-index) × AreLocals l.functions l.locals.items × AllOwned l.locals.items l.variables.keys
