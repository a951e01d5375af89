use Rattle.std.proofs.Common.{◌≡◌, ◌-◌, ◌<◌, ◌≤◌, suc, map, sym, ◌∙◌, arith}
use Rattle.cu_types.proofs.FunctionalLemmas.{IsArrowAt, arrow_at, holds_sized, takes_end, takes_no, takes_step, takes_yes}
use Rattle.cu_types.specs.Inference.{takes_function}
use Rattle.cu_types.specs.Table.{at, shape_of, trees}
use Rattle.cu_types.proofs.functional.takes.Goals as goal

pub bounds-types-here : goal.bounds-types-here
bounds-types-here c = c.loop-left.invariant.within

pub bounds-holds-argument : goal.bounds-holds-argument
bounds-holds-argument c =
    let nodes = c.args.types.now in
    let arrow : IsArrowAt nodes c.loop-left.here c.in-Arrow.argument c.in-Arrow.value =
    arrow_at nodes c.loop-left.here c.in-Arrow.argument c.in-Arrow.value c.index-types-here.result c.requires.table c.loop-left.invariant.within
    c.index-types-here.is (sym c.in-Arrow.is ∙ c.at_top.ensures) in
    let sized = holds_sized nodes c.args.holds.now c.requires.holds in
    let inside = arrow.left_within in
    omega (arith, sized, inside)

pub returns-then-holds-argument : goal.returns-then-holds-argument
returns-then-holds-argument c =
    let nodes = c.args.types.now in
    let arrow : IsArrowAt nodes c.loop-left.here c.in-Arrow.argument c.in-Arrow.value =
    arrow_at nodes c.loop-left.here c.in-Arrow.argument c.in-Arrow.value c.index-types-here.result c.requires.table c.loop-left.invariant.within
    c.index-types-here.is (sym c.in-Arrow.is ∙ c.at_top.ensures) in
    let some : 0 < c.loop-left.left = c.loop-left-test.true in
    let more : c.loop-left.left ≡ suc (c.loop-left.left - 1) = omega (arith, some) in
    takes_yes nodes c.args.holds.now c.loop-left.here c.in-Arrow.argument c.in-Arrow.value c.loop-left.left (c.loop-left.left - 1)
    (takes_function c.args.count (at (trees (map shape_of nodes)) c.args.place)) arrow c.requires.holds more c.if-holds-argument.true
    c.loop-left.invariant.same

pub loop-left-preserved : goal.loop-left-preserved
loop-left-preserved c =
    let nodes = c.args.types.now in
    let arrow : IsArrowAt nodes c.loop-left.here c.in-Arrow.argument c.in-Arrow.value =
    arrow_at nodes c.loop-left.here c.in-Arrow.argument c.in-Arrow.value c.index-types-here.result c.requires.table c.loop-left.invariant.within
    c.index-types-here.is (sym c.in-Arrow.is ∙ c.at_top.ensures) in
    let some : 0 < c.loop-left.left = c.loop-left-test.true in
    let more : c.loop-left.left ≡ suc (c.loop-left.left - 1) = omega (arith, some) in
    record {
      within = arrow.right_within;
      same = takes_step nodes c.args.holds.now c.loop-left.here c.in-Arrow.argument c.in-Arrow.value c.loop-left.left (c.loop-left.left - 1)
          (takes_function c.args.count (at (trees (map shape_of nodes)) c.args.place)) arrow c.requires.holds more c.if-holds-argument.false
          c.loop-left.invariant.same;
    }

pub returns-in-Other : goal.returns-in-Other
returns-in-Other c =
    let nodes = c.args.types.now in
    let some : 0 < c.loop-left.left = c.loop-left-test.true in
    let more : c.loop-left.left ≡ suc (c.loop-left.left - 1) = omega (arith, some) in
    takes_no nodes c.loop-left.here c.loop-left.left (c.loop-left.left - 1) c.index-types-here.result
    (takes_function c.args.count (at (trees (map shape_of nodes)) c.args.place)) c.requires.table c.loop-left.invariant.within
    c.index-types-here.is (sym c.in-Other.is ∙ c.at_top.ensures) more c.loop-left.invariant.same

pub bounds-holds-here : goal.bounds-holds-here
bounds-holds-here c =
    let sized = holds_sized c.args.types.now c.args.holds.now c.requires.holds in
    let inside = c.loop-left.invariant.within in
    omega (arith, sized, inside)

pub returns : goal.returns
returns c =
    let nodes = c.args.types.now in
    let past : c.loop-left.left ≤ 0 = c.loop-left-test.false in
    let none : c.loop-left.left ≡ 0 = omega (arith, past) in
    takes_end nodes c.args.holds.now c.loop-left.here c.loop-left.left (takes_function c.args.count (at (trees (map shape_of nodes)) c.args.place))
    c.requires.holds c.loop-left.invariant.within none c.loop-left.invariant.same
