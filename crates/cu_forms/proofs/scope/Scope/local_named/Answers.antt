use Rattle.std.proofs.Common.{◌∙◌, ap}
use Rattle.std.specs.Option.{option_map}
use Rattle.cu_translation.specs.Meaning.{local_meaning}
use Rattle.cu_forms.proofs.ScopeLemmas.{meant_locally, qualified, unqualified}
use Rattle.cu_forms.proofs.scope.Scope.local_named.Goals as goal

pub returns-in-Some : goal.returns-in-Some
returns-in-Some c w local sees of = qualified w.names local c.args.name c.in-Some.field-0 c.in-Some.is

pub returns-in-None : goal.returns-in-None
returns-in-None c w local sees of =
    ap (option_map local_meaning) c.called.ensures ∙ meant_locally w local c.args.self.now c.args.name.text sees of.text ∙ unqualified w.names local c.args.name c.in-None.is
