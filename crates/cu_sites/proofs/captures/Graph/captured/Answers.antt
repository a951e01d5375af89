use Rattle.std.proofs.Common.{arith, subst, ◌≡◌, ◌<◌, ◌≤◌, ◌+◌, [], ℕ, List, length, suc, map}
use Rattle.cu_sites.specs.Inside.Relating.{Gains, Holds, pair_to}
use Rattle.cu_sites.proofs.CaptureLemmas.{captured_all, captured_more, captured_none, reached_as}
use Rattle.cu_sites.proofs.captures.Graph.captured.Goals as goal

pub loop-variable-init : goal.loop-variable-init
loop-variable-init c binders functions h =
    let size : c.function_count.result ≡ length functions = c.function_count.ensures binders functions h in
    let all : c.function_count.result + 1 ≡ suc (length functions) = omega arith in
    captured_none (suc (length functions)) c.args.self.now c.in_ok-captured.captured
    (subst (λ (n : ℕ). Holds n [] c.in_ok-captured.captured) all c.in_ok-captured.ensures)

pub loop-variable-preserved : goal.loop-variable-preserved
loop-variable-preserved c binders functions h =
    captured_more (suc (length functions)) c.args.self.now c.loop-variable.variable c.loop-variable.captured c.add_to_all.new.self c.in_ok-found.found.keys
    (c.loop-variable.invariant binders functions h)
    (reached_as c.args.self.now c.loop-variable.variable c.in_ok-found.found.keys c.row-uses.result.now c.row-binds.result.now c.row-uses.ensures
    c.row-binds.ensures c.in_ok-found.ensures)
    (subst (λ (xs : List ℕ). Gains (map (pair_to c.loop-variable.variable) xs) c.loop-variable.captured c.add_to_all.new.self) c.as_slice.ensures.keys
    c.in_ok-add_to_all.ensures)

pub loop-variable-smaller : goal.loop-variable-smaller
loop-variable-smaller c =
    let count : c.count.result ≡ length c.args.self.now.uses.rows.items = c.count.ensures in
    let low : c.loop-variable.variable < c.count.result = c.loop-variable-test.true in
    omega arith

pub returns : goal.returns
returns c binders functions h =
    let count : c.count.result ≡ length c.args.self.now.uses.rows.items = c.count.ensures in
    let past : c.count.result ≤ c.loop-variable.variable = c.loop-variable-test.false in
    captured_all (suc (length functions)) c.args.self.now c.loop-variable.variable c.loop-variable.captured (c.loop-variable.invariant binders functions h)
    (omega arith)
