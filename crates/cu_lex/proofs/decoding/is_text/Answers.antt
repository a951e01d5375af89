use Rattle.std.proofs.Common.{◌≡◌, ◌++◌, ◌∙◌, ap, sym, subst}
use Rattle.std.proofs.lemmas.Str.{is_utf8-from_IsUtf8, IsUtf8-from_is_utf8}
use Rattle.std.specs.Str.{is_utf8, IsUtf8}
use Rattle.cu_lex.proofs.DecodingLemmas.{false-when}
use Rattle.cu_lex.proofs.decoding.is_text.Goals as goal

pub returns-in-Ok : goal.returns-in-Ok
returns-in-Ok c =
    let whole : c.deref.result.now ≡ c.args.bytes.now ++ c.args.ending.now =
    c.deref.ensures.value ∙ c.in_ok-extend_from_slice-2.ensures.items ∙ ap (λ t. t ++ c.args.ending.now) (c.in_ok-extend_from_slice.ensures.items ∙ ap (λ t. t ++ c.args.bytes.now) c.new-text.ensures.items) in
    sym (is_utf8-from_IsUtf8 (c.args.bytes.now ++ c.args.ending.now) (subst IsUtf8 whole c.in-Ok.ensures.cases.1))

pub returns : goal.returns
returns c =
    let whole : c.deref.result.now ≡ c.args.bytes.now ++ c.args.ending.now =
    c.deref.ensures.value ∙ c.in_ok-extend_from_slice-2.ensures.items ∙ ap (λ t. t ++ c.args.ending.now) (c.in_ok-extend_from_slice.ensures.items ∙ ap (λ t. t ++ c.args.bytes.now) c.new-text.ensures.items) in
    false-when (is_utf8 (c.args.bytes.now ++ c.args.ending.now)) (λ is. c.in-Err.ensures.cases.0 (subst IsUtf8 (sym whole) (IsUtf8-from_is_utf8 (c.args.bytes.now ++ c.args.ending.now) is)))
