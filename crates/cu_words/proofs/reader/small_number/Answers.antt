use Rattle.std.proofs.Common.{◌≡◌, ℕ, rules, subst}
use Rattle.clap.specs.Words.{found_of, rows_of}
use Rattle.cu_words.specs.Words.{HasNumber}
use Rattle.cu_words.proofs.ReaderLemmas.{refuses}
use Rattle.cu_words.proofs.reader.small_number.Goals as goal

pub returns-in_err-number-clause-refused : goal.returns-in_err-number-clause-refused
returns-in_err-number-clause-refused c =
    let same : c.from.result ≡ c.args.high = search rules in
    refuses _ (HasNumber (rows_of (found_of c.args.found.now)) c.args.name.now c.args.high)
    (subst (λ (high : ℕ). (n : ℕ) → HasNumber (rows_of (found_of c.args.found.now)) c.args.name.now high n → ⊥) same c.in_err-number.ensures.refused)
