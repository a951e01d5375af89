use Rattle.std.proofs.Common.{refl, subst, sym, ◌∙◌, ◌∷◌, drop, ◌+◌}
use Rattle.std.proofs.lemmas.List.Elements.{All-push}
use Rattle.std.specs.List.{All}
use Rattle.cu_names.specs.Texts.{text_of}
use Rattle.cu_syntax.specs.Owners.{NameIsOf}
use Rattle.cu_uses.proofs.ListLemmas.{more_first, name_at, no_name, once_end, once_prefix_again, once_prefix_new}
use Rattle.cu_uses.proofs.lists.first_places.Goals as goal

pub loop-name-preserved : goal.loop-name-preserved
loop-name-preserved c owner table differ all =
    let here = all c.loop-name.name-index no_name c.loop-name-test.true in
    let before = c.loop-name.invariant owner table differ all in (
      text_of table (name_at c.args.names.now c.loop-name.name-index).text ∷ before.0,
      more_first table before.0 (text_of table (name_at c.args.names.now c.loop-name.name-index).text) c.add.new.self (c.in_ok-add.ensures table before.0 differ here.text before.1),
      subst (All (NameIsOf owner table)) (sym c.in_ok-push.ensures.items) (All-push (NameIsOf owner table) c.loop-name.found.items (name_at c.args.names.now c.loop-name.name-index) before.2 here),
      once_prefix_new table before.0 c.args.names.now c.loop-name.found.items c.push.new.self.items c.loop-name.name-index c.loop-name-test.true
          (sym (c.has.ensures table before.0 here.text before.1) ∙ c.if-has.false) c.in_ok-push.ensures.items ∙ before.3,
    )

pub returns : goal.returns
returns c owner table differ all =
    let before = c.loop-name.invariant owner table differ all in
    once_end owner table before.0 c.args.names.now c.loop-name.found.items c.loop-name.name-index c.loop-name-test.false before.2 before.3
