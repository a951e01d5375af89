use Rattle.std.proofs.Common.{sym}
use Rattle.cu_types.proofs.GrowingLemmas.{grows_known, grows_unknown}
use Rattle.cu_types.proofs.unification.Subst.place_or_add.Goals as goal

pub returns-in-Some : goal.returns-in-Some
returns-in-Some c = grows_known c.args.self.now c.args.x c.in-Some.place c.requires.table c.requires.places (sym c.in-Some.ensures)

pub add-requires-clause-table : goal.add-requires-clause-table
add-requires-clause-table c = c.requires.table

pub add-requires-clause-places : goal.add-requires-clause-places
add-requires-clause-places c = c.requires.places

pub add-requires-clause-may : goal.add-requires-clause-may
add-requires-clause-may c = tt

pub returns-in_ok-place-in-None : goal.returns-in_ok-place-in-None
returns-in_ok-place-in-None c =
    grows_unknown c.args.self.now c.add.new.self c.args.x c.in_ok-place-in-None.place (sym c.in-None.ensures) c.in_ok-place-in-None.ensures
