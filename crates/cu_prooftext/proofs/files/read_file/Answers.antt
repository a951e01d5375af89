use Rattle.std.proofs.Common.{List, map, subst, sym}
use Rattle.cu_calculus.specs.Proof.{Step}
use Rattle.cu_crwl.specs.Meaning.{claim_of, step_of}
use Rattle.cu_prooftext.specs.Files.{IsFileOf}
use Rattle.cu_prooftext.proofs.FileLaws.{file_is}
use Rattle.cu_prooftext.proofs.LineSteps.{some_steps}
use Rattle.cu_prooftext.proofs.files.read_file.Goals as goal

pub new-requires : goal.new-requires
new-requires c =
    some_steps c.in-Ok.read.1.1.items
    (file_is c.args.bytes.now c.in-Ok.read.0.now (map claim_of c.in-Ok.read.1.0.items) (map step_of c.in-Ok.read.1.1.items) c.in-Ok.ensures).is_body.ordered.begun

pub returns-in-Ok-clause-file : goal.returns-in-Ok-clause-file
returns-in-Ok-clause-file c =
    subst (λ (ss : List Step). IsFileOf c.in-Ok.read.0.now (map claim_of c.in-Ok.read.1.0.items) ss c.args.bytes.now) (sym c.new.ensures)
    (file_is c.args.bytes.now c.in-Ok.read.0.now (map claim_of c.in-Ok.read.1.0.items) (map step_of c.in-Ok.read.1.1.items) c.in-Ok.ensures)
