use Rattle.std.proofs.Common.{List, Bool, ◌∙◌, ap, refl, sym}
use Rattle.cu_peg.specs.Inside.Closure.{marked}
use Rattle.cu_peg.proofs.ReachLemmas.{spreads-one}
use Rattle.cu_peg.proofs.reached.reach.Goals as goal

pub returns-clause-spreads : goal.returns-clause-spreads
returns-clause-spreads c =
    spreads-one c.args.marks.now.items _ c.args.pending.now.items c.push.new.self.items c.args.row c.requires
    (sym (c.if-is_marked.ensures ∙ ap (λ (ms : List Bool). marked ms c.args.row) c.as_slice.ensures.value)) refl c.in_ok-push.ensures.items
