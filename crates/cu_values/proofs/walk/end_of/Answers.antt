-- Each step passes one value and counts its arguments.
use Rattle.std.proofs.Common.{◌≤◌, ◌+◌, ◌-◌, arith, drop, length, refl}
use Rattle.cu_values.specs.declared.cell.Cell.TheVariants.{Bottom}
use Rattle.cu_values.specs.Cells.{suffix, read_all}
use Rattle.cu_values.proofs.CellLemmas.{pass_at, room, some_value}
use Rattle.cu_values.proofs.walk.end_of.Goals as goal

pub loop-pending-init : goal.loop-pending-init
loop-pending-init c = record {
  passed = record {
    spelled = c.requires.spelled;
    enough = some_value c.args.cells.now c.args.start Bottom c.requires.within;
    others = refl;
  };
  within = omega arith;
  after = omega arith;
}

pub overflow_add-pending : goal.overflow_add-pending
overflow_add-pending c =
    let cells = c.args.cells.now in
    let i = c.loop-pending.i in
    let goal = suffix 1 (read_all (drop c.args.start cells)) in
    let within : c.loop-pending.pending ≤ length cells - i = room cells i c.loop-pending.pending goal c.loop-pending.invariant.passed in
    let passed = pass_at cells i c.loop-pending.pending Bottom goal (omega arith) (omega arith) c.loop-pending.invariant.passed in
    omega (arith, room cells (i + 1) _ goal passed, c.arity.ensures, c.well_formed)

pub loop-pending-preserved : goal.loop-pending-preserved
loop-pending-preserved c =
    let cells = c.args.cells.now in
    let i = c.loop-pending.i in
    let goal = suffix 1 (read_all (drop c.args.start cells)) in
    let within : c.loop-pending.pending ≤ length cells - i = room cells i c.loop-pending.pending goal c.loop-pending.invariant.passed in
    record {
      passed = rw (c.arity.ensures) (pass_at cells i c.loop-pending.pending Bottom goal (omega arith) (omega arith) c.loop-pending.invariant.passed);
      within = omega arith;
      after = omega arith;
    }
