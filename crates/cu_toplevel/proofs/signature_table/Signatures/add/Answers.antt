use Rattle.std.proofs.Common.{◌∙◌, ap}
use Rattle.std.specs.Option.{unwrap_or}
use Rattle.indexmap.specs.IndexMap.{get}
use Rattle.cu_names.specs.contracts.names.NameIdPartialEq.TheImpl.{eq-value}
use Rattle.cu_toplevel.proofs.SignatureTableLemmas.{one_more}
use Rattle.cu_toplevel.proofs.signature_table.Signatures.add.Goals as goal

pub returns : goal.returns
returns c = λ owner names told differ known own has. record {
  gives = one_more owner names told c.args.function c.args.declared c.found_or-first.result (get eq-value.it c.args.self.now.of) (get eq-value.it c.insert.new.self) differ known own has.gives
      (c.found_or-first.ensures ∙ ap (λ o. unwrap_or o c.args.declared) c.get.ensures.value) (λ k. c.in_ok-insert.ensures.updates.0 k);
}
