use Rattle.std.proofs.Common.{◌∙◌, sym, ap, subst}
use Rattle.std.specs.Char.{is_ascii_lowercase}
use Rattle.cu_lex.specs.Located.{characters}
use Rattle.cu_lex.specs.Inside.Scanning.{left, IsOfKind}
use Rattle.cu_lex.specs.Words.{begins_with, has_variable_form, is_name_character}
use Rattle.cu_lex.proofs.AsciiLemmas.{small-name}
use Rattle.cu_lex.proofs.ScanLemmas.{ends-skip}
use Rattle.cu_lex.proofs.WordLemmas.{run-text, word-at, variable-form, variable-first}
use Rattle.cu_lex.proofs.word.variable.Goals as goal

pub text_to-requires : goal.text_to-requires
text_to-requires c = rw c.skip-end.ensures (ends-skip is_name_character (left c.args.start))

pub variable_kind-kind-requires : goal.variable_kind-kind-requires
variable_kind-kind-requires c =
    ap has_variable_form (run-text is_name_character (left c.args.start) (left c.skip-end.result) c.text_to.result.now small-name c.skip-end.ensures c.text_to.ensures)
    ∙ variable-form (left c.args.start) (ap (λ t. begins_with is_ascii_lowercase (characters t)) (sym c.skip-letter.ensures) ∙ sym c.begins.ensures ∙ c.if-not-begins.false)

pub returns : goal.returns
returns c =
    word-at is_name_character (left c.args.start) (left c.skip-end.result) c.variable_kind-kind.result c.variable_kind-kind.ensures.class c.skip-end.ensures
    (variable-first (left c.args.start) (ap (λ t. begins_with is_ascii_lowercase (characters t)) (sym c.skip-letter.ensures) ∙ sym c.begins.ensures ∙ c.if-not-begins.false))
    (subst (IsOfKind c.variable_kind-kind.result) (run-text is_name_character (left c.args.start) (left c.skip-end.result) c.text_to.result.now small-name c.skip-end.ensures c.text_to.ensures) c.variable_kind-kind.ensures.is)
