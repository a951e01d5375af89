use Rattle.cu_kernel.proofs.MarkLemmas.{unmatched_marks}
use Rattle.cu_kernel.proofs.declared.marks_fit.Goals as goal
use Rattle.cu_kernel.specs.KernelOf.{kernel_of}

pub returns-then-marks-functions : goal.returns-then-marks-functions
returns-then-marks-functions c =
    unmatched_marks (kernel_of c.args.parts.now) c.args.marks.now c.args.functions.now c.if-marks-functions.true
