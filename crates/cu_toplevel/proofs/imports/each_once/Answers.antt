use Rattle.std.proofs.Common.{◌≡◌, ◌∙◌, List, subst}
use Rattle.std.specs.Prelude.{IfOk}
use Rattle.cu_names.specs.declared.names.NameId.{NameId}
use Rattle.cu_toplevel.proofs.ImportLemmas.{once_begun, once_done, once_more}
use Rattle.cu_toplevel.proofs.imports.each_once.Goals as goal

pub names-init : goal.names-init
names-init c = λ table differ known. once_begun table c.args.names.now c.new-once.result.keys c.new-once.ensures.empty

pub names-preserved : goal.names-preserved
names-preserved c = λ table differ known.
    let d : NameId = record { 0 = 0 } in
    once_more table c.args.names.now c.names.name-index d c.names.once.keys c.insert.new.self.keys differ known c.names-test.true c.in_ok-insert.ensures.keys (c.names.invariant table differ known)

pub returns : goal.returns
returns c = λ table differ known.
    subst (λ (all : List NameId). IfOk c.from_slice.result (λ found. found.items ≡ all))
    (c.as_slice.ensures.keys ∙ once_done table c.args.names.now c.names.name-index c.names.once.keys differ c.names-test.false (c.names.invariant table differ known))
    c.from_slice.ensures.items
