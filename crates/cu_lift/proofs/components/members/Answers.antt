use Rattle.std.proofs.Common.{rules, ◌≡◌, ◌<◌, ◌≤◌, ◌++◌, ◌∷◌, [], ℕ, List, Some, ap, get_or, length, refl, slice_get, ◌∙◌, subst, arith}
use Rattle.std.proofs.Math.ListN.{length-set}
use Rattle.std.proofs.lemmas.Option.{slice_get-get_or, slice_get_read}
use Rattle.cu_lift.proofs.Members.{member_step, members_done}
use Rattle.cu_lift.proofs.components.members.Goals as goal

pub loop-function-preserved : goal.loop-function-preserved
loop-function-preserved c =
    let ranks = c.args.found.now.ranks.items in
    let slice = c.deref-rank-items.result.now in
    let members = c.loop-function.members.items in
    let f = c.loop-function.function in
    let low : f < length slice = omega arith in
    let x = get_or slice f 0 in
    let e : slice_get ranks f ≡ Some x =
    subst (λ (xs : List ℕ). slice_get xs f ≡ Some x) c.deref-rank-items.ensures.value (slice_get-get_or slice f 0 low) in
    let less : x < c.args.found.now.count = c.requires f x e in
    let size : length members ≡ c.args.found.now.count = c.loop-function.invariant.0 in
    let under : x < length members = omega arith in
    let old = slice_get_read members (length members) x c.index_mut.result.now refl under c.index_mut.ensures.value in
    let pushed : c.push.new.self.items ≡ c.index_mut.result.now.items ++ record { 0 = f } ∷ [] = search rules in (
      length-set members x c.push.new.self ∙ size,
      member_step ranks members f x c.index_mut.result.now c.push.new.self c.loop-function.invariant.1 e old pushed,
    )

pub returns : goal.returns
returns c =
    let ranks = c.args.found.now.ranks.items in
    let same : length c.deref-rank-items.result.now ≡ length ranks = ap length c.deref-rank-items.ensures.value in
    let end : length ranks ≤ c.loop-function.function = omega arith in
    members_done ranks c.args.found.now.count c.loop-function.function c.loop-function.members.items end c.loop-function.invariant.0
    c.loop-function.invariant.1
