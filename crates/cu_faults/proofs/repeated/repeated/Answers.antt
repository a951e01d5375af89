use Rattle.std.proofs.Common.{◌∷◌, ◌∙◌, get_or, sym}
use Rattle.cu_names.specs.Texts.{text_of}
use Rattle.cu_uses.proofs.ListLemmas.{more_first, no_name}
use Rattle.cu_faults.proofs.RepeatLemmas.{repeated_again, repeated_end, repeated_new}
use Rattle.cu_faults.proofs.repeated.repeated.Goals as goal

pub loop-name-preserved : goal.loop-name-preserved
loop-name-preserved c w differ all =
    let names = c.args.names.now in
    let i = c.loop-name.name-index in
    let here = all i no_name c.loop-name-test.true in
    let before = c.loop-name.invariant w differ all in
    let text = text_of w.names (get_or names i no_name).text in (
      text ∷ before.0,
      more_first w.names before.0 text c.add.new.self (c.in_ok-add.ensures w.names before.0 differ here.text before.1),
      λ after rest. before.2 after
          (repeated_new w before.0 names i no_name c.loop-name.first after c.loop-name-test.true (sym (c.has.ensures w.names before.0 here.text before.1) ∙ c.if-has.false) rest),
    )

pub loop-name-preserved-then-has : goal.loop-name-preserved-then-has
loop-name-preserved-then-has c w differ all =
    let names = c.args.names.now in
    let i = c.loop-name.name-index in
    let here = all i no_name c.loop-name-test.true in
    let before = c.loop-name.invariant w differ all in (
      before.0,
      before.1,
      λ after rest. before.2 after
          (repeated_again w before.0 names i no_name c.loop-name.first c.tell.new.self after c.loop-name-test.true (sym (c.has.ensures w.names before.0 here.text before.1) ∙ c.if-has.true)
          (c.tell.ensures w.owner here.place) rest),
    )

pub returns : goal.returns
returns c w differ all =
    let before = c.loop-name.invariant w differ all in
    before.2 c.loop-name.first (repeated_end w before.0 c.args.names.now c.loop-name.name-index c.loop-name.first c.loop-name-test.false)
