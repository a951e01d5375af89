use Rattle.std.proofs.Common.{[], ◌∷◌}
use Rattle.std.proofs.lemmas.List.Elements.{All-cons, All-nil}
use Rattle.cu_syntax.specs.Owners.{TypeIsOf}
use Rattle.cu_uses.specs.Gathered.{names_meaning}
use Rattle.cu_uses.proofs.FoundLemmas.{on_ok}
use Rattle.cu_uses.proofs.ToldLemmas.{told_both}
use Rattle.cu_uses.proofs.item_uses.synonym_uses.Goals as goal

pub returns : goal.returns
returns c w local sees all of =
    on_ok c.types_uses.result (λ rest. told_both (c.in_ok-known.ensures.told w sees.differ all) rest)
    (c.types_uses.ensures w local (names_meaning w.names c.args.parameters.now) sees (c.in_ok-known.ensures.has w.owner w.names sees.differ all)
    (All-cons (TypeIsOf w.owner w.names) c.args.meant [] of (All-nil (TypeIsOf w.owner w.names))))
