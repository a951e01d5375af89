use Rattle.std.proofs.Common.{◌∙◌, sym, ap}
use Rattle.std.specs.Option.{option_copied, option_map}
use Rattle.cu_syntax.specs.Answer.{header_meaning}
use Rattle.cu_modules.proofs.ExportLemmas.{in_header}
use Rattle.cu_modules.proofs.checking.export_list.Goals as goal

pub returns-in-Some-clause-meaning : goal.returns-in-Some-clause-meaning
returns-in-Some-clause-meaning c = λ names.
    let header = c.in-Some.header.now in
    let is = sym (c.header.ensures.meaning names) ∙ ap (λ found. option_map (header_meaning names) (option_copied found)) c.in-Some.is in
    in_header names (option_map (header_meaning names) c.args.module.now.syntax.header) (header_meaning names header) c.exports.result is (c.exports.ensures.meaning names)

pub returns-in-Some-clause-owned : goal.returns-in-Some-clause-owned
returns-in-Some-clause-owned c = λ names has.
    let owner = c.args.module.now.name in
    c.exports.ensures.owned owner names (c.in-Some.ensures.owned owner names has.owned)
