-- The loop ends at the head, and the node that was read there is its node.
use Rattle.std.proofs.Common.{◌∙◌, ◌+◌, ◌-◌, ℕ, ap, sym, arith}
use Rattle.cu_machine.specs.Graph.{node_at}
use Rattle.cu_step.proofs.Heads.{head_read, last_visited, one_further, read_target}
use Rattle.cu_step.proofs.head.read.Goals as goal

pub returns-in-None-clause-id : goal.returns-in-None-clause-id
returns-in-None-clause-id g c =
    let graph = g.S.Store.content c.args.store.now in
    let here = head_read (c.len-end.result - c.loop.counter) graph c.args.id c.loop.head c.at-node.result.kind c.at-node.result.args.now
    c.at-node.ensures.kind c.at-node.ensures.args c.in-None.ensures c.loop.invariant in
    here

pub returns-in-None-clause-kind : goal.returns-in-None-clause-kind
returns-in-None-clause-kind g c =
    let graph = g.S.Store.content c.args.store.now in
    let here = head_read (c.len-end.result - c.loop.counter) graph c.args.id c.loop.head c.at-node.result.kind c.at-node.result.args.now
    c.at-node.ensures.kind c.at-node.ensures.args c.in-None.ensures c.loop.invariant in
    c.at-node.ensures.kind ∙ ap (λ (i : ℕ). (node_at graph i).kind) here

pub returns-in-None-clause-args : goal.returns-in-None-clause-args
returns-in-None-clause-args g c =
    let graph = g.S.Store.content c.args.store.now in
    let here = head_read (c.len-end.result - c.loop.counter) graph c.args.id c.loop.head c.at-node.result.kind c.at-node.result.args.now
    c.at-node.ensures.kind c.at-node.ensures.args c.in-None.ensures c.loop.invariant in
    c.at-node.ensures.args ∙ ap (λ (i : ℕ). (node_at graph i).args) here

pub returns-clause-id : goal.returns-clause-id
returns-clause-id g c =
    let graph = g.S.Store.content c.args.store.now in
    let here = last_visited (c.len-end.result - c.loop.counter) graph c.args.id c.loop.head (omega arith) c.loop.invariant in
    here

pub returns-clause-kind : goal.returns-clause-kind
returns-clause-kind g c =
    let graph = g.S.Store.content c.args.store.now in
    let here = last_visited (c.len-end.result - c.loop.counter) graph c.args.id c.loop.head (omega arith) c.loop.invariant in
    c.at.ensures.kind ∙ ap (λ (i : ℕ). (node_at graph i).kind) here

pub returns-clause-args : goal.returns-clause-args
returns-clause-args g c =
    let graph = g.S.Store.content c.args.store.now in
    let here = last_visited (c.len-end.result - c.loop.counter) graph c.args.id c.loop.head (omega arith) c.loop.invariant in
    c.at.ensures.args ∙ ap (λ (i : ℕ). (node_at graph i).args) here

pub loop-preserved : goal.loop-preserved
loop-preserved g c =
    let graph = g.S.Store.content c.args.store.now in
    let leads = c.in-Some.ensures ∙ read_target graph c.loop.head c.at-node.result.kind c.at-node.result.args.now c.at-node.ensures.kind c.at-node.ensures.args in
    sym (one_further (c.len-end.result - c.loop.counter) (c.len-end.result - (c.loop.counter + 1)) graph c.loop.head c.in-Some.target (omega arith) leads) ∙ c.loop.invariant
