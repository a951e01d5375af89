use Rattle.std.proofs.Common.{arith, ◌<◌, ◌≤◌, ◌^◌, ◌≡◌, ap, subst, ℕ, List, length, get_or, ◌∙◌}
use Rattle.std.proofs.lemmas.Option.{slice_get-get_or}
use Rattle.cu_sites.specs.Depending.{row}
use Rattle.cu_sites.specs.Inside.Relating.{Meets}
use Rattle.cu_sites.proofs.RelationLemmas.{walks_begin, walks_end, walks_on}
use Rattle.cu_sites.proofs.relations.Walk.run.Goals as goal

pub loop-next-init : goal.loop-next-init
loop-next-init c seeds shut h = walks_begin c.args.relation.now seeds shut c.args.self.now h

pub loop-next-preserved : goal.loop-next-preserved
loop-next-preserved c seeds shut h =
    let keys = c.loop-next.self.found.keys in
    let i = c.loop-next.next in
    let size : c.len.result ≡ length keys = c.len.ensures.len in
    let within : i < c.len.result = c.loop-next-test.true in
    let at = slice_get-get_or keys i 0 (omega arith) in
    walks_on c.args.relation.now seeds shut i (get_or keys i 0) c.loop-next.self c.meet_all.new.self (c.loop-next.invariant seeds shut h) at
    (subst (λ (xs : List ℕ). Meets xs c.loop-next.self c.meet_all.new.self)
    (c.row.ensures ∙ ap (λ (xs : List ℕ). row c.args.relation.now (get_or xs i 0)) c.as_slice.ensures.keys) c.in_ok-meet_all.ensures)

pub loop-next-smaller : goal.loop-next-smaller
loop-next-smaller c =
    let within : c.loop-next.next < c.len.result = c.loop-next-test.true in
    let small : c.len.result < 2 ^ 63 = c.len.ensures.small in
    omega arith

pub returns : goal.returns
returns c seeds shut h =
    let size : c.len.result ≡ length c.loop-next.self.found.keys = c.len.ensures.len in
    let end : c.len.result ≤ c.loop-next.next = c.loop-next-test.false in
    walks_end c.args.relation.now seeds shut c.loop-next.next c.loop-next.self (c.loop-next.invariant seeds shut h) (omega arith)
