-- The reading goes on with a goal variable, or with the root.
use Rattle.std.proofs.Common.{◌≡◌, ◌<◌, ◌≤◌, ◌+◌, refl, arith, get_or, length, nat_lt}
use Rattle.cu_machine.specs.Next.{read, spelled_all}
use Rattle.cu_machine.specs.Places.{joined}
use Rattle.cu_machine.specs.Spell.{cells, cells_of_all, ordinal, renumbered, spelled, variables_in}
use Rattle.cu_step.proofs.Readings.{fits_if, if_some, large_goal, large_if, large_root, none_if, read_all_of, read_more}
use Rattle.cu_step.proofs.read.read.Goals as goal

pub returns-in_default : goal.returns-in_default
returns-in_default g c =
    let graph = g.S.Store.content c.args.store.now in
    let goals = c.args.goals.now in
    let at = get_or c.args.goals.now c.loop-goal.goal-index 0 in
    let test = c.loop-goal-test.true in
    let within : c.loop-goal.goal-index < length c.args.goals.now = omega arith in
    none_if (nat_lt c.args.limit (cells_of_all (spelled_all graph c.args.root goals))) (read graph c.args.root goals)
    (large_goal graph c.args.limit c.args.root goals c.loop-goal.goal-index c.loop-goal.bindings.items c.loop-goal.reader.room c.loop-goal.reader.numbering.variables.keys at within refl
    c.loop-goal.invariant
    (large_if (nat_lt c.loop-goal.reader.room (cells (spelled graph at))) (renumbered (ordinal c.value.new.self.numbering.variables.keys) (spelled graph at)) c.in_ok-binding.field-0
    c.in_default.is c.in_ok-binding.ensures.value))

pub loop-goal-preserved : goal.loop-goal-preserved
loop-goal-preserved g c =
    let graph = g.S.Store.content c.args.store.now in
    let goals = c.args.goals.now in
    let at = get_or c.args.goals.now c.loop-goal.goal-index 0 in
    let test = c.loop-goal-test.true in
    let within : c.loop-goal.goal-index < length c.args.goals.now = omega arith in
    read_more graph c.args.limit goals c.loop-goal.goal-index c.loop-goal.bindings.items c.push.new.self.items c.loop-goal.reader.room c.value.new.self.room
    c.loop-goal.reader.numbering.variables.keys c.value.new.self.numbering.variables.keys at c.in-Some.binding within refl c.loop-goal.invariant
    (if_some (c.value.new.self.numbering.variables.keys ≡ joined c.loop-goal.reader.numbering.variables.keys (variables_in (spelled graph at)))
    c.in_ok-binding.field-0 c.in-Some.binding c.in-Some.is c.in_ok-binding.ensures.met)
    (fits_if (nat_lt c.loop-goal.reader.room (cells (spelled graph at))) (renumbered (ordinal c.value.new.self.numbering.variables.keys) (spelled graph at)) c.in-Some.binding
    c.in_ok-binding.field-0 c.in-Some.is c.in_ok-binding.ensures.value)
    (if_some (c.value.new.self.room + cells (spelled graph at) ≡ c.loop-goal.reader.room) c.in_ok-binding.field-0 c.in-Some.binding c.in-Some.is c.in_ok-binding.ensures.room)
    c.in_ok-push.ensures.items

pub returns-in_default-2 : goal.returns-in_default-2
returns-in_default-2 g c =
    let graph = g.S.Store.content c.args.store.now in
    let goals = c.args.goals.now in
    let test = c.loop-goal-test.false in
    let all : length c.args.goals.now ≤ c.loop-goal.goal-index = omega arith in
    none_if (nat_lt c.args.limit (cells_of_all (spelled_all graph c.args.root goals))) (read graph c.args.root goals)
    (large_root graph c.args.limit c.args.root goals c.loop-goal.goal-index c.loop-goal.bindings.items c.loop-goal.reader.room c.loop-goal.reader.numbering.variables.keys all
    c.loop-goal.invariant
    (large_if (nat_lt c.loop-goal.reader.room (cells (spelled graph c.args.root))) (renumbered (ordinal c.value-2.new.self.numbering.variables.keys) (spelled graph c.args.root))
    c.in_ok-value.field-0 c.in_default-2.is c.in_ok-value.ensures.value))

pub returns : goal.returns
returns g c =
    let graph = g.S.Store.content c.args.store.now in
    let goals = c.args.goals.now in
    let test = c.loop-goal-test.false in
    let all : length c.args.goals.now ≤ c.loop-goal.goal-index = omega arith in
    read_all_of graph c.args.limit c.args.root goals c.loop-goal.goal-index c.loop-goal.bindings.items c.loop-goal.reader.room c.value-2.new.self.room
    c.loop-goal.reader.numbering.variables.keys c.value-2.new.self.numbering.variables.keys c.in-Some-2.value all c.loop-goal.invariant
    (if_some (c.value-2.new.self.numbering.variables.keys ≡ joined c.loop-goal.reader.numbering.variables.keys (variables_in (spelled graph c.args.root)))
    c.in_ok-value.field-0 c.in-Some-2.value c.in-Some-2.is c.in_ok-value.ensures.met)
    (fits_if (nat_lt c.loop-goal.reader.room (cells (spelled graph c.args.root))) (renumbered (ordinal c.value-2.new.self.numbering.variables.keys) (spelled graph c.args.root))
    c.in-Some-2.value c.in_ok-value.field-0 c.in-Some-2.is c.in_ok-value.ensures.value)
    (if_some (c.value-2.new.self.room + cells (spelled graph c.args.root) ≡ c.loop-goal.reader.room) c.in_ok-value.field-0 c.in-Some-2.value c.in-Some-2.is
    c.in_ok-value.ensures.room)
