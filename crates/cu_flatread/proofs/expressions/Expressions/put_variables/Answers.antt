use Rattle.std.proofs.Common.{◌∙◌, refl}
use Rattle.cu_flatread.proofs.ExpressionGoesLemmas.{pushed_variable}
use Rattle.cu_flatread.proofs.expressions.Expressions.put_variables.Goals as goal

pub loop-left-preserved : goal.loop-left-preserved
loop-left-preserved c = (
  pushed_variable c.loop-left.self.cells.items c.push.new.self.items c.loop-left.left.now
      _ 0 c.in-len1-up.len_at_least refl c.in_ok-push.ensures.items
      ∙ c.loop-left.invariant.0,
  c.loop-left.invariant.1,
)
