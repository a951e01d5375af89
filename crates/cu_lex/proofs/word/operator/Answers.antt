use Rattle.std.proofs.Common.{◌∙◌, sym, ap, subst}
use Rattle.cu_lex.specs.Inside.Scanning.{left, IsOfKind}
use Rattle.cu_lex.specs.Words.{is_run, is_symbol}
use Rattle.cu_lex.proofs.AsciiLemmas.{small-symbol}
use Rattle.cu_lex.proofs.ScanLemmas.{ends-skip}
use Rattle.cu_lex.proofs.WordLemmas.{run-text, word-at, is-run}
use Rattle.cu_lex.proofs.word.operator.Goals as goal

pub text_to-requires : goal.text_to-requires
text_to-requires c = rw c.skip-end.ensures (ends-skip is_symbol (left c.args.start))

pub operator_kind-kind-requires : goal.operator_kind-kind-requires
operator_kind-kind-requires c =
    ap (is_run is_symbol) (run-text is_symbol (left c.args.start) (left c.skip-end.result) c.text_to.result.now small-symbol c.skip-end.ensures c.text_to.ensures)
    ∙ is-run is_symbol (left c.args.start) (sym c.begins.ensures ∙ c.if-not-begins.false)

pub returns : goal.returns
returns c =
    word-at is_symbol (left c.args.start) (left c.skip-end.result) c.operator_kind-kind.result c.operator_kind-kind.ensures.class c.skip-end.ensures
    (sym c.begins.ensures ∙ c.if-not-begins.false)
    (subst (IsOfKind c.operator_kind-kind.result) (run-text is_symbol (left c.args.start) (left c.skip-end.result) c.text_to.result.now small-symbol c.skip-end.ensures c.text_to.ensures) c.operator_kind-kind.ensures.is)
