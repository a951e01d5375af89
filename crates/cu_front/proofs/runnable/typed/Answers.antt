use Rattle.cu_front.proofs.RunLemmas.{clash_told, signature_told}
use Rattle.cu_front.proofs.runnable.typed.Goals as goal

pub returns-in-Err-TypeClash-clause-fault : goal.returns-in-Err-TypeClash-clause-fault
returns-in-Err-TypeClash-clause-fault c =
    clash_told c.args.names.now c.args.program.now c.in-Err-TypeClash.f c.in-Err-TypeClash.field-0-1
    c.in-Err-TypeClash.field-0 c.of_clash.result c.in-Err-TypeClash.field-0-is
    c.clashes_leave_no_solution.ensures c.requires.levels c.in-Err-TypeClash.ensures.fault
    c.of_clash.ensures

pub returns-in-Err-Signature-clause-fault : goal.returns-in-Err-Signature-clause-fault
returns-in-Err-Signature-clause-fault c =
    signature_told c.args.names.now c.args.program.now c.in-Err-Signature.f c.in-Err-Signature.field-0
    c.of_signature.result c.in-Err-Signature.field-0-is c.requires.levels
    c.in-Err-Signature.ensures.fault c.of_signature.ensures
