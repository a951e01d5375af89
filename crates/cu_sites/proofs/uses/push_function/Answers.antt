use Rattle.std.proofs.Common.{ap}
use Rattle.cu_lex.specs.Reading.{position_of}
use Rattle.cu_translation.specs.declared.local_names.Local.TheVariants as local
use Rattle.cu_translation.specs.LocalNames.{LocalFunction}
use Rattle.cu_sites.proofs.UseLemmas.{finds_one}
use Rattle.cu_sites.proofs.uses.push_function.Goals as goal

pub returns : goal.returns
returns c =
    finds_one c.args.found.now.items c.push.new.self.items (local.Function c.of.result c.args.parameters)
    (LocalFunction (position_of c.args.place) c.args.parameters) c.in_ok-push.ensures.items (ap (λ at. LocalFunction at c.args.parameters) c.of.ensures)
