use Rattle.std.proofs.Common.{◌≡◌, ◌<◌, ◌+◌, ◌*◌, ◌∙◌, Some, sym, ap, subst}
use Rattle.std.specs.Char.{digit_value}
use Rattle.cu_lex.specs.Inside.Scanning.{left, first_of, digits, digits_from, is_digit_of, skip, within}
use Rattle.cu_lex.proofs.ScanLemmas.{digits-step, digits-skip}
use Rattle.cu_lex.proofs.number.digits_at.Goals as goal

pub loop-c-preserved : goal.loop-c-preserved
loop-c-preserved c =
    let n = c.loop-c.invariant.so_far.0 in
    let at : first_of (left c.loop-c.end) ≡ Some c.in-Some.c = sym c.peek.ensures ∙ c.in-Some.is in
    let small : digit_value c.in-Some.c < c.args.base = subst (λ d. d < c.args.base) c.digit_value-digit.ensures c.if-digit-base.false in
    record {
      so_far = (
        n * c.args.base + digit_value c.in-Some.c,
        c.with_digit-value.ensures n c.loop-c.invariant.so_far.1 ∙ ap (λ d. within (n * c.args.base + d)) c.digit_value-digit.ensures,
        ap (λ t. digits_from c.args.base (n * c.args.base + digit_value c.in-Some.c) (digits c.args.base t)) c.after-end.ensures.left
            ∙ sym (digits-step c.args.base n (left c.loop-c.end) c.in-Some.c at small) ∙ c.loop-c.invariant.so_far.2,
      );
      end = ap (skip (is_digit_of c.args.base)) c.after-end.ensures.left ∙ sym (digits-skip c.args.base (left c.loop-c.end) c.in-Some.c at small) ∙ c.loop-c.invariant.end;
    }
