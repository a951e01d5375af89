use Rattle.std.proofs.Common.{[], ◌++◌, List, None, map}
use Rattle.cu_uses.specs.Binders.{declared_once, repeated, second}
use Rattle.cu_uses.specs.Demands.{Repeats}
use Rattle.cu_uses.proofs.FoundLemmas.{on_ok}
use Rattle.cu_uses.proofs.TopLemmas.{mapped_both, once_added, repeats, signed_added, told_added, told_last}
use Rattle.cu_uses.proofs.top_level.TopLevel.tell_second.Goals as goal

pub returns : goal.returns
returns c w t differ is =
    let once = told_added repeats w (declared_once None t.declared) c.args.self.now.values.once.items c.as_slice.result.now c.args.first.now c.tell_repeated.new.first c.as_slice.ensures.value
    (once_added w.owner w.names t.declared t.signs c.args.self.now.values is.values) (c.in_ok-tell_repeated.ensures w differ) in
    let types = told_added repeats w t.types c.args.self.now.types.items c.as_slice-2.result.now c.tell_repeated.new.first c.tell_repeated-2.new.first c.as_slice-2.ensures.value
    is.types (c.in_ok-tell_repeated-2.ensures w differ) in
    let signs = told_added repeats w t.signs c.args.self.now.values.signed.items c.as_slice-3.result.now c.tell_repeated-2.new.first c.tell_repeated-3.new.first c.as_slice-3.ensures.value
    (signed_added w.owner w.names t.declared t.signs c.args.self.now.values is.values) (c.in_ok-tell_repeated-3.ensures w differ) in
    on_ok c.tell_repeated-4.result
    (λ fixes. mapped_both Repeats w (second t.declared) (repeated [] t.types ++ (repeated [] t.signs ++ repeated [] t.fixes)) c.args.first.now c.tell_repeated.new.first c.tell_repeated-4.new.first once
    (mapped_both Repeats w (repeated [] t.types) (repeated [] t.signs ++ repeated [] t.fixes) c.tell_repeated.new.first c.tell_repeated-2.new.first c.tell_repeated-4.new.first types
    (mapped_both Repeats w (repeated [] t.signs) (repeated [] t.fixes) c.tell_repeated-2.new.first c.tell_repeated-3.new.first c.tell_repeated-4.new.first signs fixes)))
    (told_last repeats w t.fixes c.args.self.now.fixed.items c.as_slice-4.result.now c.tell_repeated-3.new.first c.tell_repeated-4.new.first c.tell_repeated-4.result c.as_slice-4.ensures.value is.fixed
    (c.tell_repeated-4.ensures w differ))
