use Rattle.std.proofs.Common.{Some, ap}
use Rattle.cu_types.proofs.KeepingLemmas.{member_told, not_nothing, not_typed}
use Rattle.cu_types.proofs.known.Known.keeps.Goals as goal
use Rattle.cu_types.specs.Meaning.{subst_of}

pub returns-in-Nothing : goal.returns-in-Nothing
returns-in-Nothing c = λ kernel f m of_group. absurd (not_nothing kernel (Some c.args.self.now) f m (ap Some c.in-Nothing.is) of_group)

pub returns-in-Typed : goal.returns-in-Typed
returns-in-Typed c = λ kernel f m of_group.
    absurd (not_typed kernel (Some c.args.self.now) f m c.in-Typed.field-0 (ap Some c.in-Typed.is) of_group)

pub keeps-requires-clause-table : goal.keeps-requires-clause-table
keeps-requires-clause-table c = c.requires.table

pub keeps-requires-clause-places : goal.keeps-requires-clause-places
keeps-requires-clause-places c = c.requires.places

pub returns-in_ok-kept-in-Member : goal.returns-in_ok-kept-in-Member
returns-in_ok-kept-in-Member c = λ kernel f m of_group.
    member_told kernel (Some c.args.self.now) f c.in-Member.member m (subst_of c.args.subst.now) c.args.seen.now.keys c.keeps.new.seen.keys
    c.in_ok-kept-in-Member.kept (ap Some c.in-Member.is) of_group c.in_ok-kept-in-Member.ensures
