use Rattle.std.proofs.Common.{◌<◌, ◌≤◌, List, length, sym, take, subst, arith}
use Rattle.std.proofs.lemmas.Option.{slice_get-get_or}
use Rattle.cu_lift.proofs.Noting.{notes_none, take_next, take_whole}
use Rattle.cu_lift.specs.Inside.Capturing.{IsLocal}
use Rattle.cu_lift.specs.declared.captures.Part.{Part}
use Rattle.cu_lift.proofs.captures.Local.of.Goals as goal

pub loop-part-init : goal.loop-part-init
loop-part-init c = notes_none (record { uses = c.new.result; binds = c.new-2.result; calls = c.new-3.result }) c.new.ensures.empty c.new-2.ensures.empty c.new-3.ensures.items

pub loop-part-preserved : goal.loop-part-preserved
loop-part-preserved c =
    let ps = c.args.parts.now in
    let i = c.loop-part.part-index in
    let low : i < length ps = omega arith in
    subst (λ (xs : List Part). IsLocal xs c.note.new.self) (sym (take_next ps i _ (slice_get-get_or ps i _ low)))
    (c.in_ok-note.ensures (take i ps) c.loop-part.invariant)

pub returns : goal.returns
returns c =
    let ps = c.args.parts.now in
    let end : length ps ≤ c.loop-part.part-index = omega arith in
    subst (λ (xs : List Part). IsLocal xs c.loop-part.local) (take_whole ps c.loop-part.part-index end) c.loop-part.invariant
