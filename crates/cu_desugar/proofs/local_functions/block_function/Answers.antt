use Rattle.std.proofs.Common.{◌≡◌, ◌∙◌, length}
use Rattle.cu_faults.specs.Telling.{setting}
use Rattle.cu_desugar.proofs.FunctionLemmas.{counted}
use Rattle.cu_desugar.proofs.local_functions.block_function.Goals as goal

pub returns : goal.returns
returns c t a local around sees all of =
    let first = c.args.group.now.first in
    let owner = c.owner.ensures (setting t a) around in
    let declared = c.in_ok-declared.ensures t a.names around.top of.first.name.text all in
    let size : c.len.result ≡ length first.parameters.items = c.len.ensures ∙ first.parameters.ok.0 in
    let many = c.in_ok-arity.ensures ∙ size ∙ counted t.names first.parameters.items in
    let ruled = c.in_ok-rules.ensures t a local around sees of in
    λ j. record {
      place = record { «module» = owner j; line = first.place.line; column = first.place.column };
      declared = declared j;
      arity = many j;
      rules = ruled j;
    }
