use Rattle.std.proofs.Common.{subst, sym}
use Rattle.cu_names.proofs.Growth.{extends-itself, extends-trans, known_at}
use Rattle.cu_names.specs.Texts.{Extends}
use Rattle.cu_modules.proofs.InternLemmas.{built_in_kept}
use Rattle.cu_modules.proofs.MeaningLemmas.{all_have}
use Rattle.cu_modules.specs.Ordering.{modules_of}
use Rattle.cu_translation.specs.Functions.{goal_name}
use Rattle.cu_front.specs.Inside.Stages.{RefusesBoth}
use Rattle.cu_front.specs.Inside.StageFaults.{Tells}
use Rattle.cu_front.proofs.ReadLemmas.{both_refused, goal_is_read, goal_owned, grows, programs_at, same_compiled, same_refused, stays_at, still_ordered}
use Rattle.cu_front.proofs.RunLemmas.{err_same}
use Rattle.cu_front.proofs.TableLemmas.{named_at}
use Rattle.cu_front.proofs.stages.in_modules.Goals as goal

pub returns-in_err-owner-clause-names : goal.returns-in_err-owner-clause-names
returns-in_err-owner-clause-names c = subst (Extends c.args.names.now) (sym c.in_err-owner.ensures.err) (extends-itself c.args.names.now)

pub read_goal-goal-requires : goal.read_goal-goal-requires
read_goal-goal-requires c = record { known = known_at c.intern.new.self c.in_ok-owner.owner goal_name c.in_ok-owner.ensures.id }

pub root_in-requires : goal.root_in-requires
root_in-requires c =
    let new = c.read_goal-goal.new.names in
    let grown = grows c.args.names.now c.intern.new.self new goal_name c.in_ok-owner.ensures.names c.read_goal-goal.ensures.names in
    all_have grown c.args.modules.now c.requires.known

pub returns-in_default-clause-names : goal.returns-in_default-clause-names
returns-in_default-clause-names c =
    grows c.args.names.now c.intern.new.self c.read_goal-goal.new.names goal_name c.in_ok-owner.ensures.names c.read_goal-goal.ensures.names

pub programs_of-requires-clause-built_in : goal.programs_of-requires-clause-built_in
programs_of-requires-clause-built_in c =
    let new = c.read_goal-goal.new.names in
    let grown = grows c.args.names.now c.intern.new.self new goal_name c.in_ok-owner.ensures.names c.read_goal-goal.ensures.names in
    built_in_kept c.args.names.now new grown c.requires.built_in

pub programs_of-requires-clause-known : goal.programs_of-requires-clause-known
programs_of-requires-clause-known c =
    let new = c.read_goal-goal.new.names in
    let grown = grows c.args.names.now c.intern.new.self new goal_name c.in_ok-owner.ensures.names c.read_goal-goal.ensures.names in
    all_have grown c.args.modules.now c.requires.known

pub programs_of-requires-clause-ordered : goal.programs_of-requires-clause-ordered
programs_of-requires-clause-ordered c =
    let new = c.read_goal-goal.new.names in
    let grown = grows c.args.names.now c.intern.new.self new goal_name c.in_ok-owner.ensures.names c.read_goal-goal.ensures.names in
    still_ordered c.args.names.now new c.args.modules.now grown c.requires.known c.requires.ordered

pub programs_of-requires-clause-root : goal.programs_of-requires-clause-root
programs_of-requires-clause-root c = c.in-Some.ensures.within

pub programs_of-requires-clause-owned : goal.programs_of-requires-clause-owned
programs_of-requires-clause-owned c =
    let new = c.read_goal-goal.new.names in
    let owner = c.in_ok-owner.owner in
    goal_owned new owner c.read_goal-goal.result (c.read_goal-goal.ensures.differ c.in_ok-owner.ensures.differ)
    (stays_at c.intern.new.self new owner goal_name c.read_goal-goal.ensures.names c.in_ok-owner.ensures.id) c.read_goal-goal.ensures.owned

pub programs_of-requires-clause-named : goal.programs_of-requires-clause-named
programs_of-requires-clause-named c =
    let new = c.read_goal-goal.new.names in
    let owner = c.in_ok-owner.owner in
    named_at new owner goal_name (c.read_goal-goal.ensures.differ c.in_ok-owner.ensures.differ)
    (stays_at c.intern.new.self new owner goal_name c.read_goal-goal.ensures.names c.in_ok-owner.ensures.id)

pub returns-in_err-found-clause-fault : goal.returns-in_err-found-clause-fault
returns-in_err-found-clause-fault c =
    let old = c.args.names.now in
    let new = c.read_goal-goal.new.names in
    let ms = c.args.modules.now in
    let root = c.args.asked.root.now in
    let text = c.args.asked.goal.now in
    let grown = grows old c.intern.new.self new goal_name c.in_ok-owner.ensures.names c.read_goal-goal.ensures.names in
    err_same (Tells new (RefusesBoth (modules_of old ms) root text)) c.from_residual-in_err-found.result c.in_err-found.field-0.0
    c.from_residual-in_err-found.ensures.1
    (both_refused old new ms root text c.in_err-found.field-0.0 grown c.requires.known (c.in_err-found.ensures.fault root))

pub returns-in_err-found-clause-names : goal.returns-in_err-found-clause-names
returns-in_err-found-clause-names c =
    grows c.args.names.now c.intern.new.self c.read_goal-goal.new.names goal_name c.in_ok-owner.ensures.names c.read_goal-goal.ensures.names

pub returns-clause-program : goal.returns-clause-program
returns-clause-program c =
    let old = c.args.names.now in
    let new = c.read_goal-goal.new.names in
    let ms = c.args.modules.now in
    let root = c.args.asked.root.now in
    let text = c.args.asked.goal.now in
    let owner = c.in_ok-owner.owner in
    let grown = grows old c.intern.new.self new goal_name c.in_ok-owner.ensures.names c.read_goal-goal.ensures.names in
    let at = stays_at c.intern.new.self new owner goal_name c.read_goal-goal.ensures.names c.in_ok-owner.ensures.id in
    let read = goal_is_read new owner text c.as_bytes.result.now c.read_goal-goal.result c.as_bytes.ensures.value at c.read_goal-goal.ensures.read
    c.read_goal-goal.ensures.fault in
    let are = programs_at new ms root text c.in-Some.root c.in_ok-found.found c.in-Some.ensures.number (c.in_ok-found.ensures.programs text read) in
    same_compiled old new c.run.new.names ms root text c.run.result grown c.requires.known (c.run.ensures.program (modules_of new ms) root text are)

pub returns-clause-fault : goal.returns-clause-fault
returns-clause-fault c =
    let old = c.args.names.now in
    let new = c.read_goal-goal.new.names in
    let ms = c.args.modules.now in
    let root = c.args.asked.root.now in
    let text = c.args.asked.goal.now in
    let owner = c.in_ok-owner.owner in
    let grown = grows old c.intern.new.self new goal_name c.in_ok-owner.ensures.names c.read_goal-goal.ensures.names in
    let at = stays_at c.intern.new.self new owner goal_name c.read_goal-goal.ensures.names c.in_ok-owner.ensures.id in
    let read = goal_is_read new owner text c.as_bytes.result.now c.read_goal-goal.result c.as_bytes.ensures.value at c.read_goal-goal.ensures.read
    c.read_goal-goal.ensures.fault in
    let are = programs_at new ms root text c.in-Some.root c.in_ok-found.found c.in-Some.ensures.number (c.in_ok-found.ensures.programs text read) in
    same_refused old new c.run.new.names ms root text c.run.result grown c.requires.known (c.run.ensures.fault (modules_of new ms) root text are)

pub returns-clause-names : goal.returns-clause-names
returns-clause-names c =
    let new = c.read_goal-goal.new.names in
    extends-trans (grows c.args.names.now c.intern.new.self new goal_name c.in_ok-owner.ensures.names c.read_goal-goal.ensures.names) c.run.ensures.names
