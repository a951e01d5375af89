use Rattle.std.proofs.Common.{◌∙◌, ◌++◌, List, ap, map, subst, sym}
use Rattle.std.specs.List.{All}
use Rattle.std.specs.Prelude.{OnOk}
use Rattle.cu_syntax.specs.Answer.{item_meaning}
use Rattle.cu_syntax.specs.Items.{item_node}
use Rattle.cu_syntax.specs.Names.{name_meaning}
use Rattle.cu_syntax.specs.Owners.{ItemNodeIsOf, NameIsOf}
use Rattle.cu_toplevel.specs.FixityTables.{Declares}
use Rattle.cu_translation.specs.ModuleNames.{Declared, declaration, fixities_by}
use Rattle.cu_toplevel.proofs.FixityLemmas.{no_operator, other_fixities}
use Rattle.cu_toplevel.proofs.fixities.ModuleFixities.add_item.Goals as goal

pub returns-in-Fixity : goal.returns-in-Fixity
returns-in-Fixity c = λ owner names before differ owned has.
    let own = subst (ItemNodeIsOf owner names) c.in-Fixity.is (c.in_ok-side.ensures.owned owner names owned) in
    let all = subst (All (NameIsOf owner names)) (sym c.as_slice.ensures.value) own.1 in
    subst (λ (ds : List Declared). OnOk c.add_all.result (Declares names (before ++ ds) c.add_all.new.self))
    (ap (λ operators. map (declaration c.in-Fixity.side c.in-Fixity.level) (map (name_meaning names) operators)) c.as_slice.ensures.value
    ∙ sym (ap fixities_by (sym (c.in_ok-side.ensures.meaning names) ∙ ap (item_node names) c.in-Fixity.is)))
    (c.add_all.ensures owner names before differ all has)

pub returns : goal.returns
returns c = λ owner names before differ owned has.
    subst (λ (ds : List Declared). Declares names (before ++ ds) c.args.self.now)
    (other_fixities names (item_meaning names c.args.item.now) c.in_ok-side.field-0 (c.in_ok-side.ensures.meaning names) c.in_default.not-Fixity) (no_operator names before c.args.self.now has)
