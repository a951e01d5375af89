use Rattle.cu_types.proofs.GrowingLemmas.{grown_within, grows_taking}
use Rattle.cu_types.proofs.unification.Subst.taking.Goals as goal
use Rattle.cu_types.specs.Meaning.{subst_of}

pub arrow-requires-clause-table : goal.arrow-requires-clause-table
arrow-requires-clause-table c = c.in_ok-left.ensures.table

pub arrow-requires-clause-places : goal.arrow-requires-clause-places
arrow-requires-clause-places c = c.in_ok-left.ensures.places

pub arrow-requires-clause-left : goal.arrow-requires-clause-left
arrow-requires-clause-left c = c.in_ok-left.ensures.within

pub arrow-requires-clause-right : goal.arrow-requires-clause-right
arrow-requires-clause-right c =
    grown_within c.args.self.now c.place_or_add.new.self (subst_of c.args.self.now c.args.x) c.in_ok-left.left c.args.place
    c.in_ok-left.ensures c.requires.within

pub returns : goal.returns
returns c =
    grows_taking c.args.self.now c.place_or_add.new.self c.arrow.new.self (subst_of c.args.self.now c.args.x) c.in_ok-left.left c.args.place
    c.in_ok-whole.whole c.in_ok-left.ensures c.requires.within c.in_ok-whole.ensures
