use Rattle.std.proofs.Common.{subst}
use Rattle.cu_prooftext.specs.Files.{in_text}
use Rattle.cu_prooftext.specs.Inside.Gives.{Fails}
use Rattle.cu_prooftext.specs.Inside.Lines.{file_at, read_alone}
use Rattle.cu_prooftext.specs.declared.fault.Fault.{Fault}
use Rattle.cu_prooftext.proofs.FileLaws.{file_fault}
use Rattle.cu_prooftext.proofs.files.located.Goals as goal

pub overflow_sub-result : goal.overflow_sub-result
overflow_sub-result c = (file_fault c.args.bytes.now c.in-Left.left (subst (λ (f : Fault). Fails f (read_alone file_at c.args.bytes.now)) c.in-Left.is c.requires.fails)).0

pub returns-in-Left : goal.returns-in-Left
returns-in-Left c =
    in_text c.requires.short (file_fault c.args.bytes.now c.in-Left.left (subst (λ (f : Fault). Fails f (read_alone file_at c.args.bytes.now)) c.in-Left.is c.requires.fails)).1
