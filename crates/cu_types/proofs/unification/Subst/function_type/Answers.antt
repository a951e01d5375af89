use Rattle.cu_types.proofs.GrowingLemmas.{function_grows}
use Rattle.cu_types.proofs.unification.Subst.function_type.Goals as goal

pub place_or_add-requires-clause-table : goal.place_or_add-requires-clause-table
place_or_add-requires-clause-table c = c.requires.table

pub place_or_add-requires-clause-places : goal.place_or_add-requires-clause-places
place_or_add-requires-clause-places c = c.requires.places

pub arrows-requires-clause-table : goal.arrows-requires-clause-table
arrows-requires-clause-table c = c.in_ok-right-in-Some.ensures.table

pub arrows-requires-clause-places : goal.arrows-requires-clause-places
arrows-requires-clause-places c = c.in_ok-right-in-Some.ensures.places

pub arrows-requires-clause-within : goal.arrows-requires-clause-within
arrows-requires-clause-within c = c.in_ok-right-in-Some.ensures.within

pub arrows-requires-clause-fits : goal.arrows-requires-clause-fits
arrows-requires-clause-fits c = c.in-Some.ensures.0

pub returns-in_ok-whole-in-Some : goal.returns-in_ok-whole-in-Some
returns-in_ok-whole-in-Some c =
    function_grows c.args.self.now c.place_or_add.new.self c.arrows.new.self c.args.first c.args.arity c.in-Some.last
    c.in_ok-right-in-Some.right c.in_ok-whole-in-Some.whole c.in-Some.ensures.1 c.in_ok-right-in-Some.ensures c.in_ok-whole-in-Some.ensures
