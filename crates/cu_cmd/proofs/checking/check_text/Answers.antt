use Rattle.std.proofs.Common.{refl, subst}
use Rattle.cu_prooftext.specs.Reads.{IsFirstFileFault}
use Rattle.cu_cmd.specs.Checking.{FileReport, bad_proof, bad_proof_line, faulty}
use Rattle.cu_cmd.specs.declared.status.Status.TheVariants as status
use Rattle.cu_cmd.proofs.CheckLemmas.{file_refusal_whole, line_ends}
use Rattle.cu_cmd.proofs.checking.check_text.Goals as goal

pub returns-in-Ok-clause-ends : goal.returns-in-Ok-clause-ends
returns-in-Ok-clause-ends g c = λ held root are.
    c.check_goal.ensures.ends held root c.args.bytes.now are (record { size = c.in-Ok.ensures.short; is_file = c.in-Ok.ensures.file })

pub returns-in-Err-BadProof-clause-ends : goal.returns-in-Err-BadProof-clause-ends
returns-in-Err-BadProof-clause-ends g c = λ held root are.
    line_ends (FileReport held root c.args.bytes.now) c.refuse_proof.result (bad_proof_line c.in-Err-BadProof.offset) status.Refused _ _
    (bad_proof c.in-Err-BadProof.offset (subst (IsFirstFileFault c.args.bytes.now) c.in-Err-BadProof.field-0-is c.in-Err-BadProof.ensures.fault))
    c.refuse_proof.ensures.status c.refuse_proof.ensures.whole c.refuse_proof.ensures.prefix

pub returns-in-Err-BadProof-clause-whole : goal.returns-in-Err-BadProof-clause-whole
returns-in-Err-BadProof-clause-whole g c = λ check.
    file_refusal_whole c.refuse_proof.result check (bad_proof_line c.in-Err-BadProof.offset) _ _ _ _ (faulty c.in-Err-BadProof.offset refl) c.refuse_proof.ensures.status
    c.refuse_proof.ensures.whole c.refuse_proof.ensures.cause
