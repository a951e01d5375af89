-- What the value needs is found from the walk that is kept, and an answer may be read from where it
-- began.
use Rattle.std.proofs.Common.{◌≡◌, ◌∙◌, ap, subst, sym}
use Rattle.cu_calculus.specs.declared.builtin.Special.{Special}
use Rattle.cu_machine.specs.Need.{Done, need_all}
use Rattle.cu_machine.specs.Next.{answered, next_by}
use Rattle.cu_machine.specs.Validity.{are_places}
use Rattle.cu_step.specs.declared.need.Demand.{Demand}
use Rattle.cu_step.specs.Inside.Kept.{DemandFits}
use Rattle.cu_step.specs.Inside.Needed.{need_in}
use Rattle.cu_step.proofs.Builds.{if_ok}
use Rattle.cu_step.proofs.Resumed.{answered_start}
use Rattle.cu_step.proofs.StepLemmas.{valid_acyclic, valid_arguments, valid_goals, valid_root}
use Rattle.cu_step.proofs.by_need.Goals as goal

pub find-requires-clause-root : goal.find-requires-clause-root
find-requires-clause-root g c κs within =
    let aim = c.args.aim in
    valid_root c.args.program.now (g.S.Store.content c.args.store) aim.root aim.goals.items c.requires.valid

pub find-requires-clause-arguments : goal.find-requires-clause-arguments
find-requires-clause-arguments g c κs within =
    let aim = c.args.aim in
    valid_arguments c.args.program.now (g.S.Store.content c.args.store) aim.root aim.goals.items c.requires.valid

pub find-requires-clause-acyclic : goal.find-requires-clause-acyclic
find-requires-clause-acyclic g c κs within =
    let aim = c.args.aim in
    valid_acyclic c.args.program.now (g.S.Store.content c.args.store) aim.root aim.goals.items c.requires.valid

pub find-requires-clause-kept : goal.find-requires-clause-kept
find-requires-clause-kept g c κs within = c.requires.walk

pub answered-requires-clause-goals : goal.answered-requires-clause-goals
answered-requires-clause-goals g c κs within =
    let aim = c.args.aim in
    let graph = g.S.Store.content c.args.store in
    ap (are_places _) c.as_slice.ensures.value ∙ valid_goals c.args.program.now graph aim.root aim.goals.items c.requires.valid

pub answered-requires-clause-arguments : goal.answered-requires-clause-arguments
answered-requires-clause-arguments g c κs within =
    let aim = c.args.aim in
    valid_arguments c.args.program.now (g.S.Store.content c.args.store) aim.root aim.goals.items c.requires.valid

pub answered-requires-clause-acyclic : goal.answered-requires-clause-acyclic
answered-requires-clause-acyclic g c κs within =
    let aim = c.args.aim in
    valid_acyclic c.args.program.now (g.S.Store.content c.args.store) aim.root aim.goals.items c.requires.valid

pub returns-in-There-clause-next : goal.returns-in-There-clause-next
returns-in-There-clause-next g c =
    let aim = c.args.aim in
    let graph = g.S.Store.content c.args.store in
    let program = c.args.program.now in
    let limits = c.args.limits.now in
    let goals = aim.goals.items in
    let need : Done ≡ need_all program.special.truth graph aim.root = sym (ap need_in c.in-There.is) ∙ c.in_ok-id.ensures.need
    ∙ ap (λ (s : Special). need_all s.truth graph aim.root) c.special.ensures.special in
    let fits = subst (λ (d : Demand). DemandFits c.special.result.now.truth graph aim.root d) c.in-There.is c.in_ok-id.ensures.fits in
    if_ok c.answered.result _ _
    (λ o is. is ∙ ap (answered limits graph c.in-There.id) c.as_slice.ensures.value ∙ sym (answered_start limits graph aim.root c.in-There.id goals fits.1)
    ∙ ap (next_by program limits graph aim.root goals) need)
    c.answered.ensures.next
