use Rattle.std.proofs.Common.{◌≡◌, ◌<◌, false, nat_eq, OnOk, sym, subst}
use Rattle.std.specs.List.{list_any}
use Rattle.std.proofs.lemmas.Result.{on_ok_weaker}
use Rattle.cu_machine.specs.Graph.{Node, put}
use Rattle.cu_frozen.specs.Layers.{Layer, layer_of, Amends}
use Rattle.cu_frozen.proofs.Overlays.{puts_added, puts_changed, puts_new}
use Rattle.cu_frozen.proofs.segment.Segment.put.Goals as goal

pub returns-then-id-self-clause-ok : goal.returns-then-id-self-clause-ok
returns-then-id-self-clause-ok c =
    let node : Node = record { kind = c.args.kind; args = c.args.args.now } in
    subst (λ (s : Layer). OnOk c.put.result (Amends s (layer_of c.self.inside.base c.self.inside.changed.keys c.self.inside.changes c.put.new.self) (λ graph. put graph c.args.id node)))
    c.self.view_is
    (on_ok_weaker c.put.result (puts_added (layer_of c.self.inside.base c.self.inside.changed.keys c.self.inside.changes c.self.inside.added) c.put.new.self c.args.id node c.if-id-self.true) c.put.ensures.ok)

pub returns-in-Some-clause-ok : goal.returns-in-Some-clause-ok
returns-in-Some-clause-ok c =
    let node : Node = record { kind = c.args.kind; args = c.args.args.now } in
    subst (λ (s : Layer). OnOk c.put-in-Some.result (Amends s (layer_of c.self.inside.base c.self.inside.changed.keys c.put-in-Some.new.self c.self.inside.added) (λ graph. put graph c.args.id node)))
    c.self.view_is
    (on_ok_weaker c.put-in-Some.result
    (puts_changed (layer_of c.self.inside.base c.self.inside.changed.keys c.self.inside.changes c.self.inside.added) c.put-in-Some.new.self c.args.id c.in-Some.place node c.if-id-self.false c.self.invariant.whole.paired (sym c.in-Some.ensures.index))
    c.put-in-Some.ensures.ok)

pub returns-in-None-clause-ok : goal.returns-in-None-clause-ok
returns-in-None-clause-ok c =
    puts_new c.change.result c.args.self.now c.change.new.self c.args.id (record { kind = c.args.kind; args = c.args.args.now })
    (subst (λ (s : Layer). c.args.id < s.base) c.self.view_is c.if-id-self.false)
    c.change.ensures.paired
    (subst (λ (s : Layer). list_any (nat_eq c.args.id) s.changed ≡ false) c.self.view_is (sym c.in-None.ensures.found))
    c.change.ensures.base c.change.ensures.added c.change.ensures.changed c.change.ensures.changes
