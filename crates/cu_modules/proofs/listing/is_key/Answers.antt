use Rattle.std.proofs.Common.{◌∙◌, ap}
use Rattle.cu_entities.proofs.KeyLemmas.{finds}
use Rattle.cu_entities.specs.contracts.name_table.KeyPartialEq.TheImpl as keys
use Rattle.cu_entities.specs.declared.name_table.Key.{Key}
use Rattle.cu_modules.proofs.listing.is_key.Goals as goal

pub returns : goal.returns
returns c = λ names differ known has.
    c.eq.ensures ∙ ap (λ (k : Key). keys.eq-value.it k c.args.key) c.of.ensures
    ∙ finds names c.args.bound.now.qualifier c.args.bound.now.entity c.args.key differ known.qualifier known.entity has
