use Rattle.std.proofs.Common.{◌∙◌, ap, subst, sym}
use Rattle.indexmap.specs.IndexMap.{get}
use Rattle.cu_modules.specs.Ordering.{module_of}
use Rattle.cu_names.specs.contracts.names.NameIdPartialEq.TheImpl.{eq-value}
use Rattle.cu_names.specs.Texts.{IsKnown, text_of}
use Rattle.cu_toplevel.proofs.FixityLemmas.{module_kept, module_more}
use Rattle.cu_toplevel.proofs.fixities.FixityTable.add.Goals as goal

pub returns-then-contains_key : goal.returns-then-contains_key
returns-then-contains_key c = λ names before differ has_module has. record {
  gives = module_kept names before (module_of names c.args.module.now) c.name-name.result (get eq-value.it c.args.self.now.modules) differ (subst (IsKnown names) (sym c.name-name.ensures) has_module.known)
      (ap (text_of names) (sym c.name-name.ensures)) has.gives (sym c.contains_key.ensures ∙ c.if-contains_key.true);
}

pub returns : goal.returns
returns c = λ names before differ has_module has. record {
  gives = module_more names before (module_of names c.args.module.now) c.name-name.result c.in_ok-fixities.fixities (get eq-value.it c.args.self.now.modules) (get eq-value.it c.insert.new.self)
      differ (subst (IsKnown names) (sym c.name-name.ensures) has_module.known) (ap (text_of names) (sym c.name-name.ensures)) has.gives (sym c.contains_key.ensures ∙ c.if-contains_key.false)
      (c.in_ok-fixities.ensures names differ has_module) (λ k. c.in_ok-insert.ensures.updates.0 k);
}
