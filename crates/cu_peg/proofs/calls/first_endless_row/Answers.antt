use Rattle.std.proofs.Common.{◌∙◌, ℕ, sym, arith, true≢false, below_more}
use Rattle.cu_peg.specs.WellFormed.{IsEndless}
use Rattle.cu_peg.proofs.CallLemmas.{endless_within}
use Rattle.cu_peg.proofs.calls.first_endless_row.Goals as goal

pub is_endless-requires-clause-calls : goal.is_endless-requires-clause-calls
is_endless-requires-clause-calls c = c.as_slice.ensures.value ∙ c.in_ok-calls.ensures

pub loop-number-preserved : goal.loop-number-preserved
loop-number-preserved c =
    below_more (λ (q : ℕ). ¬ (IsEndless c.args.rows.now q)) c.loop-number.number c.loop-number.invariant
    (λ endless. true≢false (sym (c.in_ok-is_endless.ensures.1 endless) ∙ c.if-branch.false))

pub returns : goal.returns
returns c = λ r endless. c.loop-number.invariant r (omega (arith, endless_within c.args.rows.now r endless)) endless
