use Rattle.std.proofs.Common.{◌≡◌, false}
use Rattle.cu_types.proofs.group.Inference.settle.Goals as goal

pub keeps-requires-clause-table : goal.keeps-requires-clause-table
keeps-requires-clause-table c = c.requires.table

pub keeps-requires-clause-places : goal.keeps-requires-clause-places
keeps-requires-clause-places c = c.requires.places

pub leave-requires-clause-table : goal.leave-requires-clause-table
leave-requires-clause-table c = c.requires.table

pub leave-requires-clause-places : goal.leave-requires-clause-places
leave-requires-clause-places c = c.requires.places

pub returns-then-not-kept : goal.returns-then-not-kept
returns-then-not-kept c = λ kernel are keeps.
    let yes' = (c.in_ok-kept.ensures kernel are).1 keeps in
    let no : c.in_ok-kept.kept ≡ false = c.if-not-kept.true in
    let absurd' : ⊥ = cc in
    absurd'

pub returns : goal.returns
returns c = λ kernel are. ((c.in_ok-kept.ensures kernel are).0 c.if-not-kept.false, c.in_ok-leave.ensures)
