use Rattle.std.proofs.Common.{◌∙◌, ap}
use Rattle.std.specs.Option.{unwrap_or}
use Rattle.indexmap.specs.IndexMap.{get}
use Rattle.cu_names.specs.contracts.names.NameIdPartialEq.TheImpl.{eq-value}
use Rattle.cu_toplevel.proofs.FixityLemmas.{fixity_more}
use Rattle.cu_toplevel.proofs.fixities.ModuleFixities.add.Goals as goal

pub returns : goal.returns
returns c = λ names before differ known has. record {
  gives = fixity_more names before c.args.operator c.args.fixity c.found_or-first.result (get eq-value.it c.args.self.now.of) (get eq-value.it c.insert.new.self) differ known has.gives
      (c.found_or-first.ensures ∙ ap (λ o. unwrap_or o c.args.fixity) c.get.ensures.value) (λ k. c.in_ok-insert.ensures.updates.0 k);
}
