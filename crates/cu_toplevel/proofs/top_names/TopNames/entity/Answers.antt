use Rattle.std.proofs.Common.{refl}
use Rattle.cu_entities.specs.EntityMeaning.{space_meaning}
use Rattle.cu_syntax.specs.Names.{name_meaning}
use Rattle.cu_toplevel.proofs.TopLemmas.{entity_is}
use Rattle.cu_toplevel.proofs.top_names.TopNames.entity.Goals as goal

pub returns-clause-meaning : goal.returns-clause-meaning
returns-clause-meaning c = λ owner names modules scopes within own.
    entity_is names modules c.args.self.now.module (space_meaning c.args.space) (name_meaning names c.args.name) c.meaning.result within
    (λ e. c.meaning.ensures.meaning names modules (name_meaning names c.args.name) e scopes (record { qualifier_is = refl; base_is = refl; qualifier_known = own.qualifier; base_known = own.base }))

pub returns-clause-known : goal.returns-clause-known
returns-clause-known c = λ names modules scopes. c.meaning.ensures.known names modules scopes
