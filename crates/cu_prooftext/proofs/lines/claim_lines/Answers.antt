use Rattle.std.proofs.Common.{◌∙◌, ◌-◌, ◌∷◌, [], List, ap, arith, map, sym}
use Rattle.std.proofs.lemmas.List.{map-append}
use Rattle.cu_calculus.specs.Gives.{Claim}
use Rattle.cu_crwl.specs.Meaning.{claim_of}
use Rattle.cu_prooftext.specs.Inside.Lines.{claim_at}
use Rattle.cu_prooftext.specs.Inside.Loops.{with_front}
use Rattle.cu_prooftext.specs.Inside.Readers.{many}
use Rattle.cu_prooftext.proofs.CellSteps.{front_none}
use Rattle.cu_prooftext.proofs.GivesLaws.{fails_on, gives_err}
use Rattle.cu_prooftext.proofs.LineSteps.{more_ends, more_fails, more_goes}
use Rattle.cu_prooftext.proofs.lines.claim_lines.Goals as goal

pub returns-in_err-claim : goal.returns-in_err-claim
returns-in_err-claim c =
    let k = c.loop-left in
    gives_err _ c.from_residual.result c.in_err-claim.field-0.0 (many claim_at c.args.count c.args.bytes.now) c.from_residual.ensures.1
    (fails_on c.in_err-claim.field-0.0 (claim_at k.rest.now) (many claim_at c.args.count c.args.bytes.now)
    (λ n e. sym k.invariant ∙ more_fails claim_at (map claim_of k.claims.items) k.left k.rest.now n c.loop-left-test.true e) c.in_err-claim.ensures)

pub loop-left-init : goal.loop-left-init
loop-left-init c =
    ap (λ (z : List Claim). with_front z (many claim_at c.args.count c.args.bytes.now)) (ap (map claim_of) c.new-claims.ensures.items) ∙ front_none (many claim_at c.args.count c.args.bytes.now)

pub loop-left-preserved : goal.loop-left-preserved
loop-left-preserved c =
    let k = c.loop-left in
    ap (λ (z : List Claim). with_front z (many claim_at (k.left - 1) c.in_ok-claim.more.now)) (ap (map claim_of) c.in_ok-push.ensures.items ∙ map-append claim_of k.claims.items (c.in_ok-claim.claim ∷ []))
    ∙ more_goes claim_at (map claim_of k.claims.items) k.left k.rest.now c.in_ok-claim.more.now (claim_of c.in_ok-claim.claim) c.loop-left-test.true c.in_ok-claim.ensures
    ∙ k.invariant

pub returns : goal.returns
returns c =
    let k = c.loop-left in
    sym k.invariant ∙ more_ends claim_at (map claim_of k.claims.items) k.left k.rest.now (omega arith)
