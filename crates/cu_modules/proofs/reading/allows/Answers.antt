use Rattle.std.proofs.Common.{◌∙◌, sym, ap}
use Rattle.std.specs.Option.{option_copied, option_map}
use Rattle.cu_names.specs.Texts.{text_of}
use Rattle.cu_syntax.specs.Answer.{header_meaning}
use Rattle.cu_modules.proofs.NameLemmas.{allowed_by, same_name}
use Rattle.cu_modules.proofs.reading.allows.Goals as goal

pub returns-in-Some : goal.returns-in-Some
returns-in-Some c = λ names known differ owned.
    let header = c.in-Some.header.now in
    let is = sym (c.header.ensures.meaning names) ∙ ap (λ found. option_map (header_meaning names) (option_copied found)) c.in-Some.is in
    let text = ap (λ name. name.text) (c.name.ensures.meaning names) in
    let of_header = c.in-Some.ensures.owned c.args.name names owned in
    c.eq.ensures
    ∙ same_name names c.name.result.text c.args.name differ (c.name.ensures.owned c.args.name names of_header).text known
    ∙ allowed_by (option_map (header_meaning names) c.args.module.now.header) (header_meaning names header) (text_of names c.args.name) (text_of names c.name.result.text) is text
