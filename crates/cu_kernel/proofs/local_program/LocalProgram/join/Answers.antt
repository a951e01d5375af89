use Rattle.cu_kernel.proofs.Joining.{still_part}
use Rattle.cu_kernel.proofs.local_program.LocalProgram.join.Goals as goal
use Rattle.cu_kernel.specs.LocalKernelOf.{local_kernel_of}

pub invariant_of-self : goal.invariant_of-self
invariant_of-self c =
    still_part c.append.result (local_kernel_of c.self.inside.parts) (local_kernel_of c.next.inside.parts) (local_kernel_of c.append.new.self) c.self.invariant
    c.next.invariant c.append.ensures.whole c.append.ensures.unchanged
