use Rattle.std.proofs.Common.{subst}
use Rattle.cu_prooftext.specs.Inside.Gives.{Fails}
use Rattle.cu_prooftext.specs.Inside.Lines.{lines_at, read_alone}
use Rattle.cu_prooftext.specs.declared.fault.Fault.{Fault}
use Rattle.cu_prooftext.proofs.LineLaws.{first_fault}
use Rattle.cu_prooftext.proofs.reading.located.Goals as goal

pub overflow_sub-result : goal.overflow_sub-result
overflow_sub-result c = (first_fault c.args.bytes.now c.in-Left.left (subst (λ (f : Fault). Fails f (read_alone lines_at c.args.bytes.now)) c.in-Left.is c.requires)).0

pub returns-in-Left : goal.returns-in-Left
returns-in-Left c = (first_fault c.args.bytes.now c.in-Left.left (subst (λ (f : Fault). Fails f (read_alone lines_at c.args.bytes.now)) c.in-Left.is c.requires)).1
