use Rattle.cu_kernel.specs.TypesOf.{type_of}
use Rattle.cu_types.proofs.reader.Reader.read.Given as goal
use Rattle.cu_types.specs.Inside.Reading.{shapes}
use Rattle.cu_types.specs.Inside.Tasks.{ReaderReads, efforts, steps_of}

abbrev pub invariant-loop-task : goal.invariant-loop-task
invariant-loop-task l = ReaderReads (shapes l.initial.self) (type_of l.term) l.self (steps_of l.tasks.items) l.places.items

abbrev pub decreases-loop-task : goal.decreases-loop-task
decreases-loop-task l = efforts (steps_of l.tasks.items)
