use Rattle.std.proofs.Common.{◌∙◌, ap}
use Rattle.std.specs.HashMap.{get}
use Rattle.cu_declared.specs.contracts.numbers.KeyPartialEq.TheImpl.{eq-value}
use Rattle.cu_declared.specs.Inside.Numbers.{first_or}
use Rattle.cu_declared.proofs.NumberLemmas.{gained}
use Rattle.cu_declared.proofs.numbers.Numbers.add.Goals as goal

pub returns : goal.returns
returns c names differ ko kn =
    gained names (get eq-value.it c.args.self.now.numbers) (get eq-value.it c.insert.new.self) c.args.owner c.args.name c.args.number c.first_or-number.result c.args.self.now
    (record { numbers = c.insert.new.self }) (λ numbers have. have.are) (λ numbers are. record { are = are }) differ ko kn (λ k. c.in_ok-insert.ensures.updates.0 k)
    (c.first_or-number.ensures ∙ ap (λ o. first_or o c.args.number) c.get.ensures.value)
