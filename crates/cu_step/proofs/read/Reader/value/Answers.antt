-- The reading goes on by a cell, or ends.
use Rattle.std.proofs.Common.{◌≡◌, ◌<◌, ◌≤◌, ◌-◌, suc, [], ◌∙◌, arith, length, nat_lt, vec_len}
use Rattle.cu_machine.specs.Graph.{head_of}
use Rattle.cu_machine.specs.Spell.{cells, ordinal, renumbered, spelled}
use Rattle.cu_step.proofs.Readings.{head_there, none_if, one_read, one_spelled, some_if, too_many, written_all, written_on}
use Rattle.cu_step.proofs.Reversals.{none_taken}
use Rattle.cu_step.proofs.read.Reader.value.Goals as goal

pub returns-then-self-len-clause-value : goal.returns-then-self-len-clause-value
returns-then-self-len-clause-value g c =
    let graph = g.S.Store.content c.args.store.now in
    let full : c.loop-id.self.room ≤ length c.pop.new.self.items = omega (arith, c.if-self-len.true, c.len.ensures) in
    none_if (nat_lt c.args.self.now.room (cells (spelled graph c.args.id))) (renumbered (ordinal c.loop-id.self.numbering.variables.keys) (spelled graph c.args.id))
    (too_many graph c.args.id c.args.self.now.numbering.variables.keys c.loop-id.self.room c.loop-id.cells.items c.loop-id.pending.items c.pop.new.self.items c.args.self.now.room
    c.loop-id.self.numbering.variables.keys c.in-Some.id c.in-Some.ensures.items full c.loop-id.invariant)

pub cell_at-requires-clause-id : goal.cell_at-requires-clause-id
cell_at-requires-clause-id g c κs within =
    let graph = g.S.Store.content c.args.store.now in
    let below : head_of graph c.in-Some.id < length graph =
    head_there graph c.args.id c.args.self.now.numbering.variables.keys c.loop-id.self.room c.loop-id.cells.items c.loop-id.pending.items c.pop.new.self.items c.args.self.now.room
    c.loop-id.self.numbering.variables.keys c.in-Some.id c.requires.arguments c.requires.acyclic c.in-Some.ensures.items c.loop-id.invariant in
    let head = c.find-head.ensures in
    omega arith

pub push_parts-requires-after_bounds : goal.push_parts-requires-after_bounds
push_parts-requires-after_bounds g c κs within =
    let graph = g.S.Store.content c.args.store.now in
    let below : head_of graph c.in-Some.id < length graph =
    head_there graph c.args.id c.args.self.now.numbering.variables.keys c.loop-id.self.room c.loop-id.cells.items c.loop-id.pending.items c.pop.new.self.items c.args.self.now.room
    c.loop-id.self.numbering.variables.keys c.in-Some.id c.requires.arguments c.requires.acyclic c.in-Some.ensures.items c.loop-id.invariant in
    let head = c.find-head.ensures in
    omega arith

pub loop-id-preserved : goal.loop-id-preserved
loop-id-preserved g c =
    let graph = g.S.Store.content c.args.store.now in
    let test = c.if-self-len.false in
    let shorter : c.loop-id.self.room ≡ suc (c.loop-id.self.room - 1) = omega arith in
    written_on graph c.args.id c.args.self.now.numbering.variables.keys c.loop-id.self.room (c.loop-id.self.room - 1) c.loop-id.cells.items c.push.new.self.items
    c.loop-id.pending.items c.pop.new.self.items c.push_parts.new.pending.items c.args.self.now.room c.loop-id.self.numbering.variables.keys c.cell_at.new.numbering.variables.keys c.in-Some.id
    c.find-head.result c.in_ok-cell_at.field-0 c.requires.arguments c.requires.acyclic c.in-Some.ensures.items c.find-head.ensures shorter c.in_ok-cell_at.ensures.met
    c.in_ok-cell_at.ensures.cell c.in_ok-push.ensures.items c.in_ok-push_parts.ensures c.loop-id.invariant

pub spelled-requires : goal.spelled-requires
spelled-requires g c =
    let graph = g.S.Store.content c.args.store.now in
    let none : c.loop-id.pending.items ≡ [] =
    none_taken c.loop-id.pending.items c.pop.new.self.items (vec_len c.loop-id.pending) c.in_default.ensures.cases.0 c.in_default.ensures.rest c.in_default.ensures.items in
    let all = written_all graph c.args.id c.args.self.now.numbering.variables.keys c.loop-id.self.room c.loop-id.cells.items c.loop-id.pending.items c.args.self.now.room
    c.loop-id.self.numbering.variables.keys none c.loop-id.invariant in
    one_spelled c.loop-id.cells.items (renumbered (ordinal c.loop-id.self.numbering.variables.keys) (spelled graph c.args.id)) all.writes

pub returns-clause-value : goal.returns-clause-value
returns-clause-value g c =
    let graph = g.S.Store.content c.args.store.now in
    let none : c.loop-id.pending.items ≡ [] =
    none_taken c.loop-id.pending.items c.pop.new.self.items (vec_len c.loop-id.pending) c.in_default.ensures.cases.0 c.in_default.ensures.rest c.in_default.ensures.items in
    let all = written_all graph c.args.id c.args.self.now.numbering.variables.keys c.loop-id.self.room c.loop-id.cells.items c.loop-id.pending.items c.args.self.now.room
    c.loop-id.self.numbering.variables.keys none c.loop-id.invariant in
    some_if (nat_lt c.args.self.now.room (cells (spelled graph c.args.id))) c.spelled.result (renumbered (ordinal c.loop-id.self.numbering.variables.keys) (spelled graph c.args.id))
    all.fits (c.spelled.ensures.read ∙ one_read c.loop-id.cells.items (renumbered (ordinal c.loop-id.self.numbering.variables.keys) (spelled graph c.args.id)) all.writes)

pub returns-clause-room : goal.returns-clause-room
returns-clause-room g c =
    let graph = g.S.Store.content c.args.store.now in
    let none : c.loop-id.pending.items ≡ [] =
    none_taken c.loop-id.pending.items c.pop.new.self.items (vec_len c.loop-id.pending) c.in_default.ensures.cases.0 c.in_default.ensures.rest c.in_default.ensures.items in
    (written_all graph c.args.id c.args.self.now.numbering.variables.keys c.loop-id.self.room c.loop-id.cells.items c.loop-id.pending.items c.args.self.now.room
    c.loop-id.self.numbering.variables.keys none c.loop-id.invariant).counts
