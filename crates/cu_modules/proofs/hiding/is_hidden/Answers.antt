use Rattle.std.proofs.Common.{None, map, subst, sym}
use Rattle.cu_entities.specs.NameTables.{KeyIsKnown}
use Rattle.cu_modules.specs.Scopes.{binding}
use Rattle.cu_modules.proofs.HidingLemmas.{hidden}
use Rattle.cu_modules.proofs.hiding.is_hidden.Goals as goal

pub returns : goal.returns
returns c = λ names mine known is.
    hidden names mine c.args.entity c.of.result c.find.result c.is_some.result c.of.ensures c.is_some.ensures
    (c.find.ensures.meaning names (map (binding None) mine) (subst (KeyIsKnown names) (sym c.of.ensures) (record { qualifier = tt; base = known.name })) is.tells)
