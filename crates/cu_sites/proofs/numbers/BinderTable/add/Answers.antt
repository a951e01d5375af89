use Rattle.std.proofs.Common.{◌≡◌, ◌+◌, refl, rules}
use Rattle.cu_sites.proofs.TableLemmas.{new_binder, old_binder}
use Rattle.cu_sites.proofs.numbers.BinderTable.add.Goals as goal

pub returns-then-contains_key : goal.returns-then-contains_key
returns-then-contains_key c = λ keys has.
    let more : c.in_ok-self.field-0 ≡ c.args.self.now.count + 1 = search rules in
    old_binder keys c.args.binder c.args.self.now (record { numbers = c.args.self.now.numbers; count = c.in_ok-self.field-0 }) c.contains_key.result has more c.contains_key.ensures c.if-contains_key.true refl

pub returns : goal.returns
returns c = λ keys has.
    let more : c.in_ok-self.field-0 ≡ c.args.self.now.count + 1 = search rules in
    new_binder keys c.args.binder c.args.self.now (record { numbers = c.insert.new.self; count = c.in_ok-self.field-0 }) c.contains_key.result has more c.contains_key.ensures c.if-contains_key.false c.in_ok-insert.ensures.updates.0
