use Rattle.std.proofs.Common.{◌∙◌, ◌<◌, ℕ, length, subst, sym}
use Rattle.cu_front.proofs.ReadLemmas.{root_at}
use Rattle.cu_front.proofs.stages.root_in.Goals as goal

pub returns-in-Ok-clause-number : goal.returns-in-Ok-clause-number
returns-in-Ok-clause-number c =
    (root_at c.args.names.now c.args.modules.now c.args.root.now c.in_ok-name.name c.place_of.result c.in_ok-number.number
    c.in_ok-name.ensures.differ c.in_ok-name.ensures.found c.requires c.place_of.ensures c.in_ok-number.was).0 ∙ sym c.in-Ok.ensures.1

pub returns-in-Ok-clause-within : goal.returns-in-Ok-clause-within
returns-in-Ok-clause-within c =
    subst (λ (n : ℕ). n < length c.args.modules.now) (sym c.in-Ok.ensures.1)
    (root_at c.args.names.now c.args.modules.now c.args.root.now c.in_ok-name.name c.place_of.result c.in_ok-number.number
    c.in_ok-name.ensures.differ c.in_ok-name.ensures.found c.requires c.place_of.ensures c.in_ok-number.was).1
