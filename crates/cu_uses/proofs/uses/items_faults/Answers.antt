use Rattle.cu_uses.specs.Inside.Tops.{items_top}
use Rattle.cu_uses.specs.Inside.Worlds.{World}
use Rattle.cu_uses.proofs.FoundLemmas.{on_ok}
use Rattle.cu_uses.proofs.TopLemmas.{items_told}
use Rattle.cu_uses.proofs.WalkLemmas.{sees_top}
use Rattle.cu_uses.proofs.uses.items_faults.Goals as goal

pub returns : goal.returns
returns c owner names texts bindings faults differ tells has all told =
    let w : World = record { owner = owner; names = names; bindings = bindings } in
    let sees = sees_top w c.args.table.now c.top-top.result differ tells c.top-top.ensures.table c.top-top.ensures.local in
    let is = c.in_ok-declared.ensures owner names differ all in
    on_ok c.items_uses.result
    (λ walked. (items_told w texts c.args.items.now c.args.first.now c.tell_second.new.first c.tell_lacking.new.first c.items_uses.new.first
    (c.in_ok-tell_second.ensures w (items_top names c.args.items.now) differ is) (c.tell_lacking.ensures w (items_top names c.args.items.now) texts is has) walked).told faults told)
    (c.items_uses.ensures w sees all)
