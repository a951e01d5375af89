-- What is inside stands for the whole.
use Rattle.std.proofs.Common.{◌∙◌}
use Rattle.cu_syntax.proofs.pattern_forms.inside.Goals as goal

pub loop-next-preserved : goal.loop-next-preserved
loop-next-preserved c = record {
  symbol = c.in-Some.ensures.symbol;
  owned = λ owner names whole. c.in-Some.ensures.owned owner names (c.loop-next.invariant.owned owner names whole);
  same = λ names. c.in-Some.ensures.same names ∙ c.loop-next.invariant.same names;
}
