use Rattle.std.proofs.Common.{◌≡◌, ◌∙◌, None, rules}
use Rattle.cu_words.proofs.RequestLemmas.{no_characters, number_in_characters}
use Rattle.cu_words.proofs.requests.number.Goals as goal

pub returns-in_err-characters-clause-read : goal.returns-in_err-characters-clause-read
returns-in_err-characters-clause-read c =
    let none : c.from_residual.result ≡ None = search rules in
    none ∙ no_characters c.args.high c.args.text.now c.in_err-characters.ensures.refused

pub returns-clause-read : goal.returns-clause-read
returns-clause-read c =
    number_in_characters c.args.high c.in_ok-characters.field-0.now c.args.text.now c.read_number.result c.in_ok-characters.ensures.read
    c.read_number.ensures.read c.read_number.ensures.refused
