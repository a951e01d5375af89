use Rattle.std.proofs.Common.{List, map, subst, sym}
use Rattle.cu_calculus.specs.Proof.{Step}
use Rattle.cu_crwl.specs.Meaning.{claim_of, step_of}
use Rattle.cu_prooftext.specs.Faults.{IsTextOf}
use Rattle.cu_prooftext.proofs.LineLaws.{read_is}
use Rattle.cu_prooftext.proofs.LineSteps.{some_steps}
use Rattle.cu_prooftext.proofs.reading.read_proof.Goals as goal

pub new-requires : goal.new-requires
new-requires c =
    some_steps c.in-Ok.read.1.items (read_is c.args.bytes.now (map claim_of c.in-Ok.read.0.items) (map step_of c.in-Ok.read.1.items) c.in-Ok.ensures).ordered.begun

pub returns-in-Ok-clause-text : goal.returns-in-Ok-clause-text
returns-in-Ok-clause-text c =
    subst (λ (ss : List Step). IsTextOf (map claim_of c.in-Ok.read.0.items) ss c.args.bytes.now) (sym c.new.ensures)
    (read_is c.args.bytes.now (map claim_of c.in-Ok.read.0.items) (map step_of c.in-Ok.read.1.items) c.in-Ok.ensures)
