use Rattle.std.proofs.Common.{◌∙◌, ap}
use Rattle.std.specs.HashMap.{get}
use Rattle.cu_entities.specs.contracts.name_table.KeyPartialEq.TheImpl.{eq-value}
use Rattle.cu_entities.specs.NameTables.{joined}
use Rattle.cu_entities.proofs.KeyLemmas.{bound}
use Rattle.cu_entities.proofs.name_table.NameTable.bind.Goals as goal

pub returns : goal.returns
returns c names bindings differ q known table = record {
  is_table = bound names bindings (get eq-value.it c.args.self.now.meant) (get eq-value.it c.insert.new.self) c.of-key.result c.joined-meant.result c.args.qualifier c.args.entity
      differ q known table.is_table c.of-key.ensures (λ k. c.in_ok-insert.ensures.updates.0 k) (c.joined-meant.ensures ∙ ap (λ o. joined o c.args.entity) c.get.ensures.value);
}
