use Rattle.std.proofs.Common.{◌/◌, ◌%◌}
use Rattle.cu_frozen.specs.declared.marks.Marks.{Marks}
use Rattle.cu_frozen.proofs.Bits.{adds, keeps}
use Rattle.cu_frozen.proofs.marks.Marks.with.Goals as goal

pub returns-clause-added : goal.returns-clause-added
returns-clause-added c =
    let new : Marks = record { first = c.with_set-first.result; second = c.with_set-second.result } in
    adds new c.args.id c.with_set-first.ensures.set c.with_set-second.ensures.set

pub returns-clause-kept : goal.returns-clause-kept
returns-clause-kept c = λ other.
    let new : Marks = record { first = c.with_set-first.result; second = c.with_set-second.result } in
    keeps c.args.self new other (c.with_set-first.ensures.kept (other % 64)) (c.with_set-second.ensures.kept (other / 64 % 64))
