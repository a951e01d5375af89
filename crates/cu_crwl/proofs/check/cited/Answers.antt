use Rattle.std.proofs.Common.{ap, map, sym}
use Rattle.cu_calculus.specs.Proof.{statements}
use Rattle.cu_crwl.specs.Meaning.{statements_at, step_of}
use Rattle.cu_crwl.specs.Steps.{cited_by}
use Rattle.cu_crwl.specs.declared.claim.Step.{Step}
use Rattle.cu_crwl.proofs.CheckForms.{cited_one, cited_past}
use Rattle.cu_crwl.proofs.check.cited.Goals as goal

pub returns-then-place-before : goal.returns-then-place-before
returns-then-place-before c =
    cited_past c.args.before.now c.args.cites.now c.loop-place.place-index (statements_at c.loop-place.found.items)
    (cited_by (statements (map step_of c.args.before.now)) c.args.cites.now) c.loop-place-test.true c.if-place-before.true c.loop-place.invariant

pub loop-place-preserved : goal.loop-place-preserved
loop-place-preserved c =
    cited_one c.args.before.now c.args.cites.now c.loop-place.place-index c.loop-place.found.items c.push.new.self.items c.index-before-place.result _
    (cited_by (statements (map step_of c.args.before.now)) c.args.cites.now) c.loop-place-test.true c.if-place-before.false c.index-before-place.is
    (ap (λ (s : Step). s.statement) (sym c.index-before-place.is))
    c.in_ok-push.ensures.items c.loop-place.invariant
