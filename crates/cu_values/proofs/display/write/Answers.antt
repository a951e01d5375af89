-- Each step writes a part of what was left.
use Rattle.std.proofs.Common.{rules, ◌≡◌, ◌<◌, ◌≤◌, ◌+◌, ◌-◌, ◌*◌, ℕ, List, [], ◌∷◌, ◌++◌, arith, ap, length, sym, ◌∙◌}
use Rattle.std.specs.String.{string_bytes}
use Rattle.cu_values.specs.Cells.{read}
use Rattle.cu_values.specs.Display.{display}
use Rattle.cu_values.specs.Inside.LabelsOf.{labels_meaning}
use Rattle.cu_values.specs.declared.task.Task.{Task}
use Rattle.cu_values.specs.declared.task.Task.TheVariants.{Alone}
use Rattle.cu_values.proofs.StepLemmas.{all_written, begin_ready, begin_whole, popped, same_on}
use Rattle.cu_values.proofs.display.write.Goals as goal

pub loop-task-init : goal.loop-task-init
loop-task-init c =
    let cells = c.args.layout.now.cells.now in
    let labels = labels_meaning c.args.layout.now.names.now in
    let one = sym c.requires.one in
    let alone : c.push.new.self.items ≡ Alone ∷ [] = c.in_ok-push.ensures.items ∙ ap (λ ts. ts ++ Alone ∷ []) c.clear-2.ensures.items in
    record {
      ready = begin_ready labels (read cells) cells c.push.new.self.items one alone;
      whole = begin_whole labels (read cells) cells c.push.new.self.items (string_bytes c.clear.new.self) one alone c.clear.ensures.bytes;
    }

pub step-requires-clause-ready : goal.step-requires-clause-ready
step-requires-clause-ready c =
    popped (labels_meaning c.args.layout.now.names.now) c.args.layout.now.cells.now c.loop-task.at c.loop-task.pen.tasks.items c.pop.new.self.items c.in-Some.task
    c.loop-task.invariant.ready c.in-Some.ensures.items

-- a step leaves less than there was before its task was popped
less_left : (n at next : ℕ) (before rest after : List Task) (t : Task) → 8 * (n - next) + length after + 1 ≤ 8 * (n - at) + length (rest ++ t ∷ []) → before ≡ rest ++ t ∷ []
    → 8 * (n - next) + length after < 8 * (n - at) + length before
less_left n at next before rest after t less is = omega (arith, less, ap length is)

pub loop-task-smaller : goal.loop-task-smaller
loop-task-smaller c =
    less_left (length c.args.layout.now.cells.now) c.loop-task.at c.in_ok-at.at c.loop-task.pen.tasks.items c.pop.new.self.items c.step.new.pen.tasks.items c.in-Some.task
    c.in_ok-at.ensures.less c.in-Some.ensures.items

pub loop-task-preserved : goal.loop-task-preserved
loop-task-preserved c =
    let cells = c.args.layout.now.cells.now in
    let labels = labels_meaning c.args.layout.now.names.now in
    record {
      ready = c.in_ok-at.ensures.ready;
      whole = same_on labels cells c.loop-task.at c.loop-task.pen.tasks.items c.pop.new.self.items c.in-Some.task (string_bytes c.loop-task.pen.text)
          c.in_ok-at.at c.step.new.pen.tasks.items (string_bytes c.step.new.pen.text) (display labels (read cells)) c.in_ok-at.ensures c.in-Some.ensures.items
          c.loop-task.invariant.whole;
    }

pub returns : goal.returns
returns c =
    let cells = c.args.layout.now.cells.now in
    let labels = labels_meaning c.args.layout.now.names.now in
    let h = c.in_default.ensures in
    let none : c.loop-task.pen.tasks.items ≡ [] = search rules in
    all_written labels cells c.loop-task.at c.loop-task.pen.tasks.items (string_bytes c.loop-task.pen.text) (display labels (read cells)) none
    c.loop-task.invariant.whole
