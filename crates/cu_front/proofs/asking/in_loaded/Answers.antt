use Rattle.std.proofs.Common.{◌<◌, List, length, refl, subst, sym}
use Rattle.std.specs.List.{All}
use Rattle.cu_names.proofs.Growth.{extends-itself, extends-trans, known_at}
use Rattle.cu_names.specs.Texts.{Extends}
use Rattle.cu_modules.specs.declared.modules.Module.{Module}
use Rattle.cu_modules.specs.Ordering.{AreOrdered, modules_of}
use Rattle.cu_modules.specs.Reading.{HasModule}
use Rattle.cu_translation.specs.Functions.{goal_name}
use Rattle.cu_front.specs.Inside.Questions.{RefusesQuestion}
use Rattle.cu_front.specs.Inside.StageFaults.{Tells}
use Rattle.cu_front.proofs.LoadedLemmas.{modules_not_whole, question_not_run, question_runs, still_loaded}
use Rattle.cu_front.proofs.ReadLemmas.{goal_is_read, goal_owned, grows, stays_at}
use Rattle.cu_front.proofs.RunLemmas.{err_same}
use Rattle.cu_front.proofs.TableLemmas.{named_at}
use Rattle.cu_front.proofs.asking.in_loaded.Goals as goal

pub returns-in_err-owner-clause-names : goal.returns-in_err-owner-clause-names
returns-in_err-owner-clause-names c = subst (Extends c.args.names.now) (sym c.in_err-owner.ensures.err) (extends-itself c.args.names.now)

pub read_goal-goal-requires : goal.read_goal-goal-requires
read_goal-goal-requires c = record { known = known_at c.intern.new.self c.in_ok-owner.owner goal_name c.in_ok-owner.ensures.id }

pub whole_in-requires-clause-built_in : goal.whole_in-requires-clause-built_in
whole_in-requires-clause-built_in c =
    let new = c.read_goal-goal.new.names in
    let grown = grows c.args.names.now c.intern.new.self new goal_name c.in_ok-owner.ensures.names c.read_goal-goal.ensures.names in
    (still_loaded c.args.names.now new c.args.loaded.now grown c.requires).built_in

pub whole_in-requires-clause-known : goal.whole_in-requires-clause-known
whole_in-requires-clause-known c =
    let new = c.read_goal-goal.new.names in
    let grown = grows c.args.names.now c.intern.new.self new goal_name c.in_ok-owner.ensures.names c.read_goal-goal.ensures.names in
    subst (λ (xs : List Module). All (HasModule new) xs) (sym c.as_slice.ensures.value)
    (still_loaded c.args.names.now new c.args.loaded.now grown c.requires).known

pub whole_in-requires-clause-ordered : goal.whole_in-requires-clause-ordered
whole_in-requires-clause-ordered c =
    let new = c.read_goal-goal.new.names in
    let grown = grows c.args.names.now c.intern.new.self new goal_name c.in_ok-owner.ensures.names c.read_goal-goal.ensures.names in
    subst (λ (xs : List Module). AreOrdered (modules_of new xs)) (sym c.as_slice.ensures.value)
    (still_loaded c.args.names.now new c.args.loaded.now grown c.requires).ordered

pub whole_in-requires-clause-root : goal.whole_in-requires-clause-root
whole_in-requires-clause-root c =
    subst (λ (xs : List Module). c.args.loaded.now.root < length xs) (sym c.as_slice.ensures.value) c.requires.root

pub whole_in-requires-clause-owned : goal.whole_in-requires-clause-owned
whole_in-requires-clause-owned c =
    let new = c.read_goal-goal.new.names in
    let owner = c.in_ok-owner.owner in
    goal_owned new owner c.read_goal-goal.result (c.read_goal-goal.ensures.differ c.in_ok-owner.ensures.differ)
    (stays_at c.intern.new.self new owner goal_name c.read_goal-goal.ensures.names c.in_ok-owner.ensures.id) c.read_goal-goal.ensures.owned

pub whole_in-requires-clause-named : goal.whole_in-requires-clause-named
whole_in-requires-clause-named c =
    let new = c.read_goal-goal.new.names in
    let owner = c.in_ok-owner.owner in
    named_at new owner goal_name (c.read_goal-goal.ensures.differ c.in_ok-owner.ensures.differ)
    (stays_at c.intern.new.self new owner goal_name c.read_goal-goal.ensures.names c.in_ok-owner.ensures.id)

pub returns-in_err-whole-clause-fault : goal.returns-in_err-whole-clause-fault
returns-in_err-whole-clause-fault c =
    let old = c.args.names.now in
    let new = c.read_goal-goal.new.names in
    let loaded = c.args.loaded.now in
    let text = c.args.text.now in
    let grown = grows old c.intern.new.self new goal_name c.in_ok-owner.ensures.names c.read_goal-goal.ensures.names in
    err_same (Tells new (RefusesQuestion (modules_of old loaded.modules.items) loaded.root text)) c.from_residual-in_err-whole.result
    c.in_err-whole.field-0.0 c.from_residual-in_err-whole.ensures.1
    (modules_not_whole old new c.as_slice.result.now loaded text c.in_err-whole.field-0.0 c.as_slice.ensures.value grown c.requires
    (λ root. c.in_err-whole.ensures.fault root))

pub returns-in_err-whole-clause-names : goal.returns-in_err-whole-clause-names
returns-in_err-whole-clause-names c =
    grows c.args.names.now c.intern.new.self c.read_goal-goal.new.names goal_name c.in_ok-owner.ensures.names c.read_goal-goal.ensures.names

pub returns-clause-program : goal.returns-clause-program
returns-clause-program c =
    let old = c.args.names.now in
    let new = c.read_goal-goal.new.names in
    let loaded = c.args.loaded.now in
    let slice = c.as_slice.result.now in
    let text = c.args.text.now in
    let owner = c.in_ok-owner.owner in
    let grown = grows old c.intern.new.self new goal_name c.in_ok-owner.ensures.names c.read_goal-goal.ensures.names in
    let at = stays_at c.intern.new.self new owner goal_name c.read_goal-goal.ensures.names c.in_ok-owner.ensures.id in
    let read = goal_is_read new owner text text c.read_goal-goal.result refl at c.read_goal-goal.ensures.read c.read_goal-goal.ensures.fault in
    question_runs old new c.run_whole.new.names slice loaded text c.run_whole.result c.as_slice.ensures.value grown c.requires
    (c.run_whole.ensures.program new (modules_of new slice) loaded.root text (extends-itself new) (c.in_ok-whole.ensures.whole text read))

pub returns-clause-fault : goal.returns-clause-fault
returns-clause-fault c =
    let old = c.args.names.now in
    let new = c.read_goal-goal.new.names in
    let loaded = c.args.loaded.now in
    let slice = c.as_slice.result.now in
    let text = c.args.text.now in
    let owner = c.in_ok-owner.owner in
    let grown = grows old c.intern.new.self new goal_name c.in_ok-owner.ensures.names c.read_goal-goal.ensures.names in
    let at = stays_at c.intern.new.self new owner goal_name c.read_goal-goal.ensures.names c.in_ok-owner.ensures.id in
    let read = goal_is_read new owner text text c.read_goal-goal.result refl at c.read_goal-goal.ensures.read c.read_goal-goal.ensures.fault in
    question_not_run old new c.run_whole.new.names slice loaded text c.run_whole.result c.as_slice.ensures.value grown c.requires
    (c.run_whole.ensures.fault new (modules_of new slice) loaded.root text (extends-itself new) (c.in_ok-whole.ensures.whole text read))

pub returns-clause-names : goal.returns-clause-names
returns-clause-names c =
    let new = c.read_goal-goal.new.names in
    extends-trans (grows c.args.names.now c.intern.new.self new goal_name c.in_ok-owner.ensures.names c.read_goal-goal.ensures.names) c.run_whole.ensures.names
