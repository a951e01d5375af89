use Rattle.std.proofs.Common.{map, refl, subst, sym, ◌∙◌, ◌∷◌, drop, ◌+◌}
use Rattle.cu_names.specs.Texts.{text_of}
use Rattle.cu_syntax.specs.Names.{name_meaning}
use Rattle.cu_uses.specs.Binders.{repeated}
use Rattle.cu_uses.specs.Demands.{Repeats}
use Rattle.cu_uses.specs.Gathered.{names_meaning}
use Rattle.cu_uses.specs.Inside.Worlds.{Told}
use Rattle.cu_uses.specs.Telling.{HasTexts}
use Rattle.cu_uses.proofs.ListLemmas.{more_first, name_at, no_name, repeated_end, repeated_prefix_again, repeated_prefix_new}
use Rattle.cu_uses.proofs.lists.tell_repeated.Goals.{then-has, else-has+in_ok-add}
use Rattle.cu_uses.proofs.lists.tell_repeated.Goals as goal

pub loop-name-preserved : goal.loop-name-preserved
loop-name-preserved c w differ all =
    let here = all c.loop-name.name-index no_name c.loop-name-test.true in
    let before = c.loop-name.invariant w differ all in
    elim c.if-has.branch [
      | then-has s ↦ (
        before.0,
        subst (HasTexts w.names before.0) (sym s.seen-is) before.1,
        λ after rest.
            before.2 after (repeated_prefix_again w before.0 c.args.names.now c.loop-name.name-index c.loop-name.first s.tell.new.first after c.loop-name-test.true
            (sym (c.has.ensures w.names before.0 here.text before.1) ∙ s.if-has.true)
            (s.tell.ensures w (Repeats (name_meaning w.names (name_at c.args.names.now c.loop-name.name-index))) here refl)
            (subst (λ f. Told w f (map Repeats (repeated before.0 (names_meaning w.names (drop (c.loop-name.name-index + 1) c.args.names.now)))) after) s.first-is rest)),
      )
      | else-has+in_ok-add s ↦ (
        text_of w.names (name_at c.args.names.now c.loop-name.name-index).text ∷ before.0,
        more_first w.names before.0 (text_of w.names (name_at c.args.names.now c.loop-name.name-index).text) c.if-has.seen
            (subst (HasTexts w.names _) (sym s.seen-is) (s.in_ok-add.ensures w.names before.0 differ here.text before.1)),
        λ after rest. before.2 after (repeated_prefix_new w before.0 c.args.names.now c.loop-name.name-index c.loop-name.first after c.loop-name-test.true
            (sym (c.has.ensures w.names before.0 here.text before.1) ∙ s.if-has.false)
            (subst (λ f. Told w f (map Repeats (repeated (text_of w.names (name_at c.args.names.now c.loop-name.name-index).text ∷ before.0) (names_meaning w.names (drop (c.loop-name.name-index + 1) c.args.names.now)))) after) s.first-is rest)),
      )
    ]

pub returns : goal.returns
returns c w differ all =
    let before = c.loop-name.invariant w differ all in
    before.2 c.loop-name.first (repeated_end w before.0 c.args.names.now c.loop-name.name-index c.loop-name.first c.loop-name-test.false)
