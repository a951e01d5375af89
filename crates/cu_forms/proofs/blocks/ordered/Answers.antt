use Rattle.std.proofs.Common.{◌≡◌, ◌-◌, ◌+◌, ◌<◌, List, ap, arith, length, subst, suc}
use Rattle.std.specs.List.{find}
use Rattle.cu_translation.specs.Blocks.{depends_on_none, ordered}
use Rattle.cu_forms.specs.Inside.Blocks.{bounds_meaning, chosen}
use Rattle.cu_forms.specs.declared.blocks.Bound.{Bound}
use Rattle.cu_forms.proofs.BlockLemmas.{all_left, all_ordered, from_left, next_is, none_next, one_ordered, rest_ordered}
use Rattle.cu_forms.proofs.blocks.ordered.Goals as goal

pub loop-round-init : goal.loop-round-init
loop-round-init g c w tells =
    let all : length c.args.bounds.items - 0 ≡ length c.args.bounds.items = omega arith in
    all_ordered w.around.numbers.depends c.args.bounds.items c.new-ordered.result.items (length c.args.bounds.items - 0) c.new-ordered.ensures.items all

pub loop-round-preserved : goal.loop-round-preserved
loop-round-preserved g c w tells =
    let depends = w.around.numbers.depends in
    let left = c.loop-round.left.items in
    let count = length c.args.bounds.items in
    let n = count - (c.loop-round._round + 1) in
    let before : c.loop-round._round < count = omega (arith, c.loop-round-test.true, c.len-round-end.ensures) in
    let more : count - c.loop-round._round ≡ suc n = omega (arith, before) in
    let within : c.in-Some.index < length left = omega (arith, c.in-Some.ensures.within, ap length c.as_slice.ensures.value) in
    let first = subst (λ (xs : List Bound). chosen (bounds_meaning xs) c.independent.result ≡ find (depends_on_none depends (bounds_meaning xs)) (bounds_meaning xs)) c.as_slice.ensures.value
    (c.independent.ensures.first w tells) in
    one_ordered c.loop-round.ordered.items c.push.new.self.items c.remove-next.result (from_left (count - c.loop-round._round) depends left) (from_left n depends c.in_ok-left.left.items)
    (ordered depends (bounds_meaning c.args.bounds.items)) c.in_ok-push.ensures.items
    (next_is depends n (count - c.loop-round._round) c.in-Some.index left c.remove-next.new.self.items c.in_ok-left.left.items c.remove-next.result c.independent.result more within c.in-Some.is first
    c.remove-next.ensures.value c.remove-next.ensures.items c.in_ok-left.ensures)
    (c.loop-round.invariant w tells)

pub returns-in_default : goal.returns-in_default
returns-in_default g c w tells =
    let depends = w.around.numbers.depends in
    let left = c.loop-round.left.items in
    let count = length c.args.bounds.items in
    let n = count - (c.loop-round._round + 1) in
    let before : c.loop-round._round < count = omega (arith, c.loop-round-test.true, c.len-round-end.ensures) in
    let more : count - c.loop-round._round ≡ suc n = omega (arith, before) in
    let first = subst (λ (xs : List Bound). chosen (bounds_meaning xs) c.independent.result ≡ find (depends_on_none depends (bounds_meaning xs)) (bounds_meaning xs)) c.as_slice.ensures.value
    (c.independent.ensures.first w tells) in
    rest_ordered c.loop-round.ordered.items left c.append.new.bounds.items (from_left (count - c.loop-round._round) depends left) (ordered depends (bounds_meaning c.args.bounds.items)) c.in_ok-append.ensures
    (none_next depends n (count - c.loop-round._round) left c.independent.result more c.in_default.is first) (c.loop-round.invariant w tells)

pub returns : goal.returns
returns g c w tells =
    let count = length c.args.bounds.items in
    let over : count - c.loop-round._round ≡ 0 = omega (arith, c.loop-round-test.false, c.len-round-end.ensures) in
    all_left w.around.numbers.depends c.loop-round.ordered.items c.loop-round.left.items (count - c.loop-round._round) (ordered w.around.numbers.depends (bounds_meaning c.args.bounds.items)) over (c.loop-round.invariant w tells)
