use Rattle.std.proofs.Common.{[], List, ◌∙◌, ap, subst, sym}
use Rattle.cu_entities.specs.Entities.{Entity}
use Rattle.cu_modules.specs.Known.{AreEntities}
use Rattle.cu_modules.specs.Scopes.{exports_of, interfaces}
use Rattle.cu_modules.proofs.OutcomeLemmas.{exports_are}
use Rattle.cu_modules.proofs.scopes.Scopes.exports.Goals as goal

pub returns : goal.returns
returns c = λ names modules number m are known at named.
    subst (λ (es : List Entity). AreEntities names es c.of.result.now) (ap (exports_of (interfaces [] modules)) (sym named) ∙ exports_are modules number m are.differ at)
    (c.of.ensures names (interfaces [] modules) known are.exports)
