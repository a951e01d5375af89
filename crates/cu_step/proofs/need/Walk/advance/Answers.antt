-- The innermost node is read once: it is left, or its next argument is looked at.
use Rattle.std.proofs.Common.{◌≡◌, ◌<◌, ◌∙◌, ℕ, Option, IfOk, IfSome, IfNone, length, arith, ap, subst, sym}
use Rattle.cu_machine.specs.declared.Kind.{Kind}
use Rattle.cu_machine.specs.Need.{Done}
use Rattle.cu_step.specs.declared.need.Needed.{Needed}
use Rattle.cu_step.specs.Inside.Kept.{EndsAt, Stands}
use Rattle.cu_step.specs.Inside.Needed.{need_of}
use Rattle.cu_step.specs.Inside.Walk.{Fits, Found, Goes, found, left, left_answer, looked_at, outcome, outside_of}
use Rattle.cu_step.proofs.Advances.{frame_next, frame_there, leave_answer, leave_goes, next_answer, next_goes, read_count, read_look, within_args}
use Rattle.cu_step.proofs.Innermost.{innermost_there}
use Rattle.cu_step.proofs.KeptLooks.{leave_ends, leave_stands, next_ends, next_stands}
use Rattle.cu_step.proofs.need.Walk.advance.Goals as goal

pub node-node-requires : goal.node-node-requires
node-node-requires g c =
    let graph = g.S.Store.content c.args.store.now in
    let f = outside_of (found c.args.self.now) in
    let fits = subst (λ (h : Found). Fits c.args.truth graph h Done) c.requires.innermost c.requires.fits in
    frame_there c.args.truth graph f c.args.frame fits

pub leave-requires : goal.leave-requires
leave-requires g c =
    innermost_there (found c.args.self.now) c.args.frame c.requires.innermost

pub returns-then-next-looked_at_count-clause-answer : goal.returns-then-next-looked_at_count-clause-answer
returns-then-next-looked_at_count-clause-answer g c =
    let graph = g.S.Store.content c.args.store.now in
    let f = outside_of (found c.args.self.now) in
    let count : c.looked_at_count.result ≡ length (looked_at graph c.args.frame.node) =
    c.looked_at_count.ensures ∙ read_count graph c.args.frame.node c.node-node.result.kind c.node-node.result.args.now c.node-node.ensures.kind c.node-node.ensures.args in
    let last : c.args.frame.next ≡ length (looked_at graph c.args.frame.node) = c.if-next-looked_at_count.true ∙ count in
    let answers = c.leave.ensures.answer ∙ ap (λ (k : Kind). left_answer c.args.frame k c.args.frame.waits) c.node-node.ensures.kind in
    subst (λ (h : Found). IfSome c.leave.result (λ needed. need_of needed ≡ outcome c.args.truth graph h Done)) (sym c.requires.innermost)
    (leave_answer c.args.truth graph f c.args.frame c.leave.result last answers)

pub returns-then-next-looked_at_count-clause-goes : goal.returns-then-next-looked_at_count-clause-goes
returns-then-next-looked_at_count-clause-goes g c =
    let graph = g.S.Store.content c.args.store.now in
    let f = outside_of (found c.args.self.now) in
    let fits = subst (λ (h : Found). Fits c.args.truth graph h Done) c.requires.innermost c.requires.fits in
    let count : c.looked_at_count.result ≡ length (looked_at graph c.args.frame.node) =
    c.looked_at_count.ensures ∙ read_count graph c.args.frame.node c.node-node.result.kind c.node-node.result.args.now c.node-node.ensures.kind c.node-node.ensures.args in
    let last : c.args.frame.next ≡ length (looked_at graph c.args.frame.node) = c.if-next-looked_at_count.true ∙ count in
    let answers = c.leave.ensures.answer ∙ ap (λ (k : Kind). left_answer c.args.frame k c.args.frame.waits) c.node-node.ensures.kind in
    let left_so = c.leave.ensures.found ∙ ap (λ (k : Kind). left f c.args.frame k c.args.frame.waits) c.node-node.ensures.kind in
    subst (λ (h : Found). IfNone c.leave.result (Goes c.args.truth graph h (found c.leave.new.self))) (sym c.requires.innermost)
    (leave_goes c.args.truth graph f (found c.leave.new.self) c.args.frame c.leave.result fits last answers left_so)

pub returns-then-next-looked_at_count-clause-stands : goal.returns-then-next-looked_at_count-clause-stands
returns-then-next-looked_at_count-clause-stands g c =
    let graph = g.S.Store.content c.args.store.now in
    let f = outside_of (found c.args.self.now) in
    let fits = subst (λ (h : Found). Fits c.args.truth graph h Done) c.requires.innermost c.requires.fits in
    let count : c.looked_at_count.result ≡ length (looked_at graph c.args.frame.node) =
    c.looked_at_count.ensures ∙ read_count graph c.args.frame.node c.node-node.result.kind c.node-node.result.args.now c.node-node.ensures.kind c.node-node.ensures.args in
    let last : c.args.frame.next ≡ length (looked_at graph c.args.frame.node) = c.if-next-looked_at_count.true ∙ count in
    let answers = c.leave.ensures.answer ∙ ap (λ (k : Kind). left_answer c.args.frame k c.args.frame.waits) c.node-node.ensures.kind in
    let left_so = c.leave.ensures.found ∙ ap (λ (k : Kind). left f c.args.frame k c.args.frame.waits) c.node-node.ensures.kind in
    subst (λ (h : Found). IfNone c.leave.result ((root : ℕ) → Stands c.args.truth graph root h → Stands c.args.truth graph root (found c.leave.new.self))) (sym c.requires.innermost)
    (leave_stands c.args.truth graph f (found c.leave.new.self) c.args.frame c.leave.result c.requires.arguments c.requires.acyclic fits last answers left_so)

pub returns-then-next-looked_at_count-clause-ends : goal.returns-then-next-looked_at_count-clause-ends
returns-then-next-looked_at_count-clause-ends g c =
    let graph = g.S.Store.content c.args.store.now in
    let f = outside_of (found c.args.self.now) in
    let fits = subst (λ (h : Found). Fits c.args.truth graph h Done) c.requires.innermost c.requires.fits in
    let count : c.looked_at_count.result ≡ length (looked_at graph c.args.frame.node) =
    c.looked_at_count.ensures ∙ read_count graph c.args.frame.node c.node-node.result.kind c.node-node.result.args.now c.node-node.ensures.kind c.node-node.ensures.args in
    let last : c.args.frame.next ≡ length (looked_at graph c.args.frame.node) = c.if-next-looked_at_count.true ∙ count in
    let answers = c.leave.ensures.answer ∙ ap (λ (k : Kind). left_answer c.args.frame k c.args.frame.waits) c.node-node.ensures.kind in
    let left_so = c.leave.ensures.found ∙ ap (λ (k : Kind). left f c.args.frame k c.args.frame.waits) c.node-node.ensures.kind in
    subst (λ (h : Found). IfSome c.leave.result (λ needed. (root : ℕ) → Stands c.args.truth graph root h → EndsAt c.args.truth graph root (found c.leave.new.self) (need_of needed))) (sym c.requires.innermost)
    (leave_ends c.args.truth graph f (found c.leave.new.self) c.args.frame c.leave.result fits last answers left_so)

pub bounds-node-next : goal.bounds-node-next
bounds-node-next g c =
    let graph = g.S.Store.content c.args.store.now in
    let f = outside_of (found c.args.self.now) in
    let fits = subst (λ (h : Found). Fits c.args.truth graph h Done) c.requires.innermost c.requires.fits in
    let count : c.looked_at_count.result ≡ length (looked_at graph c.args.frame.node) =
    c.looked_at_count.ensures ∙ read_count graph c.args.frame.node c.node-node.result.kind c.node-node.result.args.now c.node-node.ensures.kind c.node-node.ensures.args in
    let most = frame_next c.args.truth graph f c.args.frame fits in
    let differs = c.if-next-looked_at_count.false in
    let within : c.args.frame.next < length (looked_at graph c.args.frame.node) = omega arith in
    subst (λ n. c.args.frame.next < n) (sym (ap length c.node-node.ensures.args)) (within_args graph c.args.frame within)

pub overflow_add-frame : goal.overflow_add-frame
overflow_add-frame g c =
    let graph = g.S.Store.content c.args.store.now in
    let f = outside_of (found c.args.self.now) in
    let fits = subst (λ (h : Found). Fits c.args.truth graph h Done) c.requires.innermost c.requires.fits in
    let count : c.looked_at_count.result ≡ length (looked_at graph c.args.frame.node) =
    c.looked_at_count.ensures ∙ read_count graph c.args.frame.node c.node-node.result.kind c.node-node.result.args.now c.node-node.ensures.kind c.node-node.ensures.args in
    let most = frame_next c.args.truth graph f c.args.frame fits in
    let differs = c.if-next-looked_at_count.false in
    let within : c.args.frame.next < length (looked_at graph c.args.frame.node) = omega arith in
    let below = subst (λ n. c.args.frame.next < n) (sym (ap length c.node-node.ensures.args)) (within_args graph c.args.frame within) in
    let few = c.node-node.ensures.few in
    omega arith

pub put_innermost-requires : goal.put_innermost-requires
put_innermost-requires g c =
    innermost_there (found c.args.self.now) c.args.frame c.requires.innermost

pub returns-clause-answer : goal.returns-clause-answer
returns-clause-answer g c =
    let graph = g.S.Store.content c.args.store.now in
    let f = outside_of (found c.args.self.now) in
    let fits = subst (λ (h : Found). Fits c.args.truth graph h Done) c.requires.innermost c.requires.fits in
    let count : c.looked_at_count.result ≡ length (looked_at graph c.args.frame.node) =
    c.looked_at_count.ensures ∙ read_count graph c.args.frame.node c.node-node.result.kind c.node-node.result.args.now c.node-node.ensures.kind c.node-node.ensures.args in
    let most = frame_next c.args.truth graph f c.args.frame fits in
    let differs = c.if-next-looked_at_count.false in
    let within : c.args.frame.next < length (looked_at graph c.args.frame.node) = omega arith in
    let looks = read_look c.args.truth graph c.args.frame c.node-node.result.args.now _ c.look_at.result c.node-node.ensures.args within c.look_at.ensures in
    subst (λ (h : Found). IfOk c.meet.result (λ (answer : Option Needed). IfSome answer (λ needed. need_of needed ≡ outcome c.args.truth graph h Done))) (sym c.requires.innermost)
    (next_answer c.args.truth graph f c.args.frame c.look_at.result c.meet.result c.requires.arguments c.requires.acyclic
    fits within looks c.meet.ensures.answer)

pub returns-clause-goes : goal.returns-clause-goes
returns-clause-goes g c =
    let graph = g.S.Store.content c.args.store.now in
    let f = outside_of (found c.args.self.now) in
    let fits = subst (λ (h : Found). Fits c.args.truth graph h Done) c.requires.innermost c.requires.fits in
    let count : c.looked_at_count.result ≡ length (looked_at graph c.args.frame.node) =
    c.looked_at_count.ensures ∙ read_count graph c.args.frame.node c.node-node.result.kind c.node-node.result.args.now c.node-node.ensures.kind c.node-node.ensures.args in
    let most = frame_next c.args.truth graph f c.args.frame fits in
    let differs = c.if-next-looked_at_count.false in
    let within : c.args.frame.next < length (looked_at graph c.args.frame.node) = omega arith in
    let looks = read_look c.args.truth graph c.args.frame c.node-node.result.args.now _ c.look_at.result c.node-node.ensures.args within c.look_at.ensures in
    subst (λ (h : Found). IfOk c.meet.result (λ (answer : Option Needed). IfNone answer (Goes c.args.truth graph h (found c.meet.new.self)))) (sym c.requires.innermost)
    (next_goes c.args.truth graph f (found c.put_innermost.new.self) (found c.meet.new.self) c.args.frame c.look_at.result c.meet.result c.requires.arguments c.requires.acyclic
    fits within looks c.put_innermost.ensures c.meet.ensures.answer c.meet.ensures.found)

pub returns-clause-stands : goal.returns-clause-stands
returns-clause-stands g c =
    let graph = g.S.Store.content c.args.store.now in
    let f = outside_of (found c.args.self.now) in
    let fits = subst (λ (h : Found). Fits c.args.truth graph h Done) c.requires.innermost c.requires.fits in
    let count : c.looked_at_count.result ≡ length (looked_at graph c.args.frame.node) =
    c.looked_at_count.ensures ∙ read_count graph c.args.frame.node c.node-node.result.kind c.node-node.result.args.now c.node-node.ensures.kind c.node-node.ensures.args in
    let most = frame_next c.args.truth graph f c.args.frame fits in
    let differs = c.if-next-looked_at_count.false in
    let within : c.args.frame.next < length (looked_at graph c.args.frame.node) = omega arith in
    let looks = read_look c.args.truth graph c.args.frame c.node-node.result.args.now _ c.look_at.result c.node-node.ensures.args within c.look_at.ensures in
    subst (λ (h : Found). IfOk c.meet.result (λ (answer : Option Needed). IfNone answer ((root : ℕ) → Stands c.args.truth graph root h → Stands c.args.truth graph root (found c.meet.new.self)))) (sym c.requires.innermost)
    (next_stands c.args.truth graph f (found c.put_innermost.new.self) (found c.meet.new.self) c.args.frame c.look_at.result c.meet.result c.requires.arguments c.requires.acyclic
    fits within looks c.put_innermost.ensures c.meet.ensures.answer c.meet.ensures.found)

pub returns-clause-ends : goal.returns-clause-ends
returns-clause-ends g c =
    let graph = g.S.Store.content c.args.store.now in
    let f = outside_of (found c.args.self.now) in
    let fits = subst (λ (h : Found). Fits c.args.truth graph h Done) c.requires.innermost c.requires.fits in
    let count : c.looked_at_count.result ≡ length (looked_at graph c.args.frame.node) =
    c.looked_at_count.ensures ∙ read_count graph c.args.frame.node c.node-node.result.kind c.node-node.result.args.now c.node-node.ensures.kind c.node-node.ensures.args in
    let most = frame_next c.args.truth graph f c.args.frame fits in
    let differs = c.if-next-looked_at_count.false in
    let within : c.args.frame.next < length (looked_at graph c.args.frame.node) = omega arith in
    let looks = read_look c.args.truth graph c.args.frame c.node-node.result.args.now _ c.look_at.result c.node-node.ensures.args within c.look_at.ensures in
    subst (λ (h : Found). IfOk c.meet.result (λ (answer : Option Needed). IfSome answer (λ needed. (root : ℕ) → Stands c.args.truth graph root h → EndsAt c.args.truth graph root (found c.meet.new.self) (need_of needed)))) (sym c.requires.innermost)
    (next_ends c.args.truth graph f (found c.put_innermost.new.self) (found c.meet.new.self) c.args.frame c.look_at.result c.meet.result
    within looks c.put_innermost.ensures c.meet.ensures.answer c.meet.ensures.found)
