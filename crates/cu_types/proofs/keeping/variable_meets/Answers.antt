use Rattle.std.proofs.Common.{refl, sym}
use Rattle.cu_types.proofs.KeepingLemmas.{own_meets, placed_meets, placed_within}
use Rattle.cu_types.proofs.keeping.variable_meets.Goals as goal
use Rattle.cu_types.specs.Inside.Keeping.{meets}

pub bounds-found-place : goal.bounds-found-place
bounds-found-place c =
    placed_within c.args.subst.now c.args.x c.in-Some.place (meets c.args.variables.now) c.args.found.now c.requires.places
    (sym c.in-Some.ensures) c.requires.found

pub returns-in-Some : goal.returns-in-Some
returns-in-Some c =
    placed_meets c.args.subst.now c.args.x c.in-Some.place c.args.variables.now c.args.found.now _ c.requires.places
    (sym c.in-Some.ensures) c.requires.found refl

pub returns-in-None : goal.returns-in-None
returns-in-None c =
    own_meets c.args.subst.now c.args.x c.args.variables.now c.contains.result (sym c.in-None.ensures) c.contains.ensures.value
