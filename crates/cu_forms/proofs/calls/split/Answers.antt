use Rattle.std.proofs.Common.{◌<◌, ◌≤◌, length, arith}
use Rattle.std.specs.Vec.Iter.{into_iter_items}
use Rattle.cu_forms.proofs.CallLemmas.{splits_first, splits_other}
use Rattle.cu_forms.proofs.calls.split.Goals as goal

pub loop-term-preserved-then-len-count : goal.loop-term-preserved-then-len-count
loop-term-preserved-then-len-count c =
    let few : length c.loop-term.first.items < c.args.count = omega arith in
    splits_first c.args.count c.args.terms.items c.loop-term.first.items c.loop-term.others.items (into_iter_items c.next.new.self) (into_iter_items c.loop-term.term-iterator) c.push.new.self.items c.in-Some.term
    c.in-Some.ensures.steps.0 few c.in_ok-push.ensures.items c.loop-term.invariant

pub loop-term-preserved : goal.loop-term-preserved
loop-term-preserved c =
    let full : c.args.count ≤ length c.loop-term.first.items = omega arith in
    splits_other c.args.count c.args.terms.items c.loop-term.first.items c.loop-term.others.items (into_iter_items c.next.new.self) (into_iter_items c.loop-term.term-iterator) c.push-in-loop-term.new.self.items c.in-Some.term
    c.in-Some.ensures.steps.0 full c.in_ok-push-2.ensures.items c.loop-term.invariant
