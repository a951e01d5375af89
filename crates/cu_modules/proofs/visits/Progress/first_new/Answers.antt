use Rattle.std.proofs.Common.{◌∙◌, sym, ap, length, subst, arith}
use Rattle.std.specs.Vec.Iter.{into_iter_items, into_iter_len}
use Rattle.cu_syntax.proofs.ViewLemmas.{nothing_left}
use Rattle.cu_modules.specs.Inside.Frames.{Skipped}
use Rattle.cu_modules.proofs.SeekLemmas.{known_next, none_skipped, one_skipped, one_sought}
use Rattle.cu_modules.proofs.visits.Progress.first_new.Goals as goal

pub left-init : goal.left-init
left-init c = λ names differ has known. none_skipped names c.args.self.now.done.items (into_iter_items c.args.left.now)

pub left-preserved : goal.left-preserved
left-preserved c = λ names differ has known.
    let done = c.args.self.now.done.items in
    let all = into_iter_items c.args.left.now in
    let skipped = c.left.invariant names differ has known in
    let id = known_next names done all (into_iter_items c.left.left) (into_iter_items c.next.new.self) c.in-Some.name c.in-Some.ensures.items known skipped in
    one_skipped names done all (into_iter_items c.left.left) (into_iter_items c.next.new.self) c.in-Some.name c.in-Some.ensures.items (sym (c.is_done.ensures names differ has id) ∙ c.if-not-is_done.false) skipped

pub left-smaller : goal.left-smaller
left-smaller c = omega (arith, ap length c.in-Some.ensures.items)

pub returns : goal.returns
returns c = λ names differ has known.
    subst (Skipped names c.args.self.now.done.items (into_iter_items c.args.left.now)) (nothing_left (into_iter_items c.left.left) (into_iter_len c.left.left) c.in_default.ensures.cases.0 c.left.left.rest.ok.0)
    (c.left.invariant names differ has known)

pub returns-then-not-is_done : goal.returns-then-not-is_done
returns-then-not-is_done c = λ names differ has known.
    let done = c.args.self.now.done.items in
    let all = into_iter_items c.args.left.now in
    let skipped = c.left.invariant names differ has known in
    let id = known_next names done all (into_iter_items c.left.left) (into_iter_items c.next.new.self) c.in-Some.name c.in-Some.ensures.items known skipped in
    one_sought names done all (into_iter_items c.left.left) (into_iter_items c.next.new.self) c.in-Some.name c.in-Some.ensures.items (sym (c.is_done.ensures names differ has id) ∙ c.if-not-is_done.true) skipped
