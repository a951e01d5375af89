use Rattle.std.proofs.Common.{◌≡◌, ◌-◌, ◌<◌, Some, arith, drop, length, take, ◌∙◌}
use Rattle.cu_calculus.specs.Value.{count}
use Rattle.cu_values.proofs.ArgumentLemmas.{read_by, spelled_by}
use Rattle.cu_values.proofs.ViewLemmas.{after_counted, after_read, after_spelled, rest_slice, split_some}
use Rattle.cu_values.proofs.views.ValuesRef.split_first.Goals as goal
use Rattle.cu_values.specs.Cells.{suffix, first, read, read_all, spell_all}

pub invariant_of-first : goal.invariant_of-first
invariant_of-first c =
    let cells = c.args.self.cells.now in
    record { spelled = spelled_by (first (read_all cells)) (take c.end_of_first-end.result cells) c.end_of_first-end.ensures.first }

pub invariant_of-others : goal.invariant_of-others
invariant_of-others c =
    let cells = c.args.self.cells.now in
    let end = c.end_of_first-end.result in
    let rest = take (length cells - end) (drop end cells) in
    let left : rest ≡ spell_all (suffix 1 (read_all cells)) = rest_slice end cells ∙ c.end_of_first-end.ensures.others in
    record {
      spelled = after_spelled (suffix 1 (read_all cells)) rest left;
      counted = after_counted (read_all cells) rest c.args.self.count left c.args.self.counted;
    }

pub returns : goal.returns
returns c =
    let cells = c.args.self.cells.now in
    let end = c.end_of_first-end.result in
    let rest = take (length cells - end) (drop end cells) in
    let one : read (take end cells) ≡ first (read_all cells) = read_by (first (read_all cells)) (take end cells) c.end_of_first-end.ensures.first in
    let others : read_all rest ≡ suffix 1 (read_all cells) =
    after_read (suffix 1 (read_all cells)) rest (rest_slice end cells ∙ c.end_of_first-end.ensures.others) in
    let some : 0 < count (read_all cells) = omega (arith, c.args.self.counted, c.if-self-eq0.false) in
    (λ i. Some (one i, others i)) ∙ split_some (read_all cells) some
