-- A branch in which no search runs takes a step of its own.
use Rattle.std.proofs.Common.{sym, ◌∙◌}
use Rattle.cu_step.proofs.Builds.{if_ok}
use Rattle.cu_sets.proofs.searches.advance_with.Goals as goal

pub returns-clause-next : goal.returns-clause-next
returns-clause-next g c = if_ok c.step_with.result _ _ (λ o is. is (sym c.is_running.ensures ∙ c.if-is_running.false)) c.step_with.ensures.next

pub returns-clause-inner : goal.returns-clause-inner
returns-clause-inner g c = if_ok c.step_with.result _ _ (λ o is. is ∙ (sym c.is_running.ensures ∙ c.if-is_running.false)) c.step_with.ensures.inner
