use Rattle.std.proofs.Common.{ap, subst}
use Rattle.std.proofs.lemmas.List.{take_all}
use Rattle.cu_uses.specs.Binders.{texts}
use Rattle.cu_uses.specs.Gathered.{names_meaning}
use Rattle.cu_uses.specs.Telling.{HasTexts}
use Rattle.std.proofs.Common.{take}
use Rattle.cu_uses.proofs.ListLemmas.{no_name, texts_more}
use Rattle.cu_uses.proofs.lists.text_set.Goals as goal

pub loop-name-preserved : goal.loop-name-preserved
loop-name-preserved c owner table differ all =
    texts_more table c.args.names.now c.loop-name.name-index c.add.new.self c.loop-name-test.true
    (c.in_ok-add.ensures table (texts (names_meaning table (take c.loop-name.name-index c.args.names.now))) differ (all c.loop-name.name-index no_name c.loop-name-test.true).text
    (c.loop-name.invariant owner table differ all))

pub returns : goal.returns
returns c owner table differ all =
    subst (λ ns. HasTexts table (texts (names_meaning table ns)) c.loop-name.set) (take_all c.loop-name.name-index c.args.names.now c.loop-name-test.false) (c.loop-name.invariant owner table differ all)
