-- The node that is rewritten isn't a set function's call, and the walk to it goes on.
use Rattle.std.proofs.Common.{◌∙◌, sym}
use Rattle.cu_machine.specs.Graph.{node_at}
use Rattle.cu_step.specs.Inside.Moved.{move_of}
use Rattle.cu_step.proofs.Rewritten.{walk_moves}
use Rattle.cu_step.proofs.StepLemmas.{need_place, no_set_call, valid_acyclic, valid_arguments, valid_root}
use Rattle.cu_step.proofs.rewrite_step.Goals as goal

pub kind-requires : goal.kind-requires
kind-requires g c =
    let aim = c.args.aim in
    let graph = g.S.Store.content c.args.store in
    let valid = c.requires.valid in
    need_place c.args.program.now.special.truth graph aim.root c.args.id (valid_arguments c.args.program.now graph aim.root aim.goals.items valid)
    (valid_root c.args.program.now graph aim.root aim.goals.items valid) (sym c.requires.need)

pub begin-requires-clause-id : goal.begin-requires-clause-id
begin-requires-clause-id g c κs within =
    let aim = c.args.aim in
    let graph = g.S.Store.content c.args.store in
    let valid = c.requires.valid in
    need_place c.args.program.now.special.truth graph aim.root c.args.id (valid_arguments c.args.program.now graph aim.root aim.goals.items valid)
    (valid_root c.args.program.now graph aim.root aim.goals.items valid) (sym c.requires.need)

pub begin-requires-clause-arguments : goal.begin-requires-clause-arguments
begin-requires-clause-arguments g c κs within =
    let aim = c.args.aim in
    valid_arguments c.args.program.now (g.S.Store.content c.args.store) aim.root aim.goals.items c.requires.valid

pub begin-requires-clause-acyclic : goal.begin-requires-clause-acyclic
begin-requires-clause-acyclic g c κs within =
    let aim = c.args.aim in
    valid_acyclic c.args.program.now (g.S.Store.content c.args.store) aim.root aim.goals.items c.requires.valid

pub rewrite_step-requires-clause-id : goal.rewrite_step-requires-clause-id
rewrite_step-requires-clause-id g c κs within =
    let aim = c.args.aim in
    let graph = g.S.Store.content c.args.store in
    let valid = c.requires.valid in
    need_place c.args.program.now.special.truth graph aim.root c.args.id (valid_arguments c.args.program.now graph aim.root aim.goals.items valid)
    (valid_root c.args.program.now graph aim.root aim.goals.items valid) (sym c.requires.need)

pub rewrite_step-requires-clause-call : goal.rewrite_step-requires-clause-call
rewrite_step-requires-clause-call g c κs within =
    no_set_call (node_at (g.S.Store.content c.args.store) c.args.id).kind (λ f is. c.in_default.not-SetCall f (c.kind.ensures ∙ is))

pub rewrite_step-requires-clause-arguments : goal.rewrite_step-requires-clause-arguments
rewrite_step-requires-clause-arguments g c κs within =
    let aim = c.args.aim in
    valid_arguments c.args.program.now (g.S.Store.content c.args.store) aim.root aim.goals.items c.requires.valid

pub rewrite_step-requires-clause-acyclic : goal.rewrite_step-requires-clause-acyclic
rewrite_step-requires-clause-acyclic g c κs within =
    let aim = c.args.aim in
    valid_acyclic c.args.program.now (g.S.Store.content c.args.store) aim.root aim.goals.items c.requires.valid

pub following-requires-clause-walk : goal.following-requires-clause-walk
following-requires-clause-walk g c κs within =
    let aim = c.args.aim in
    let graph = g.S.Store.content c.args.store in
    walk_moves c.args.program.now graph aim.root c.args.id aim.goals.items aim.walk (move_of g.S.Store.content c.in_ok-graphs-in_default.graphs) c.requires.code c.requires.valid
    c.requires.need c.in_ok-graphs-in_default.ensures c.requires.stands c.requires.walk
