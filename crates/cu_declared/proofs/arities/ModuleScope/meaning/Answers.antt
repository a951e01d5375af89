use Rattle.std.specs.Option.{option_map}
use Rattle.cu_entities.specs.EntityMeaning.{entity_meaning}
use Rattle.cu_declared.specs.Inside.Gathered.{use_meaning}
use Rattle.cu_declared.proofs.ArityLemmas.{is_meant, named}
use Rattle.cu_declared.proofs.arities.ModuleScope.meaning.Goals as goal

pub returns-clause-meaning : goal.returns-clause-meaning
returns-clause-meaning c w at of =
    is_meant w c.args.self.number (use_meaning w.names c.args.used) (option_map (entity_meaning w.names) c.meaning.result) at.number_is at.is_there
    (λ e. c.meaning.ensures.meaning w.names w.modules (use_meaning w.names c.args.used).name e at.scopes (named w.owner w.names c.args.used.name of))

pub returns-clause-known : goal.returns-clause-known
returns-clause-known c w at = c.meaning.ensures.known w.names w.modules at.scopes
