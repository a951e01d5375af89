use Rattle.std.proofs.Common.{◌≡◌, ◌∙◌, sym, ap, subst, Some, Ok, refl}
use Rattle.cu_lex.specs.Inside.Items.{item_scan, joined, so_far, string_items, IsQuoted}
use Rattle.cu_lex.specs.Literals.{item}
use Rattle.cu_lex.specs.Munch.{cut_all}
use Rattle.cu_lex.specs.Pieces.{codes_of, with_code}
use Rattle.cu_lex.specs.Inside.Scanning.{first_of, later, left, position}
use Rattle.cu_lex.proofs.LiteralLemmas.{found-item, cut-code, left-at, no-item, step-item, quote-ends, ended, quoted, quoted-first, same-char, other-char, all-read}
use Rattle.cu_lex.proofs.literal.string_literal.Goals as goal

pub returns-in_default : goal.returns-in_default
returns-in_default c = λ end q.
    let over : (string_items (left c.args.start)).left ≡ left c.loop-rest.rest =
    sym c.loop-rest.invariant.left_over ∙ ap (λ cut. cut.left) (ended 34 (left c.loop-rest.rest) (no-item (item_scan 34 (left c.loop-rest.rest)) c.in_default.ensures)) in
    other-char c.peek.result 34 c.ne.result c.ne.ensures c.loop-rest-test.true (c.peek.ensures ∙ ap first_of (sym over) ∙ quoted-first 34 (string_items (left c.args.start)).left end q)

pub loop-rest-smaller : goal.loop-rest-smaller
loop-rest-smaller c =
    let found = found-item (item_scan 34 (left c.loop-rest.rest)) c.in-Some.item.code (left c.in-Some.item.end) c.in-Some.ensures in
    let step = step-item 34 (left c.loop-rest.rest) (position c.loop-rest.rest) found.what (left c.in-Some.item.end) (λ first t at. left-at c.loop-rest.rest first t at) found.is in
    step.shorter

pub loop-rest-preserved : goal.loop-rest-preserved
loop-rest-preserved c =
    let found = found-item (item_scan 34 (left c.loop-rest.rest)) c.in-Some.item.code (left c.in-Some.item.end) c.in-Some.ensures in
    let step = step-item 34 (left c.loop-rest.rest) (position c.loop-rest.rest) found.what (left c.in-Some.item.end) (λ first t at. left-at c.loop-rest.rest first t at) found.is in
    let more = codes_of (cut_all (item 34) (left c.in-Some.item.end)).pieces in
    record {
      left_over = sym step.left_over ∙ c.loop-rest.invariant.left_over;
      codes = c.in_ok-bad.ensures more
          ∙ ap (joined (so_far c.loop-rest.value c.loop-rest.bad)) (ap (λ code. with_code code (position c.loop-rest.rest) more) found.cut ∙ cut-code found.what (position c.loop-rest.rest) more ∙ sym step.codes)
          ∙ c.loop-rest.invariant.codes;
    }

pub returns-in-Some-bad : goal.returns-in-Some-bad
returns-in-Some-bad c =
    let first : first_of (left c.loop-rest.rest) ≡ Some 34 = sym c.peek.ensures ∙ same-char c.peek.result 34 c.ne.result c.ne.ensures c.loop-rest-test.false in
    let cut = ended 34 (left c.loop-rest.rest) (quote-ends (left c.loop-rest.rest) first) in
    let over = ap (λ x. x.left) (sym cut) ∙ c.loop-rest.invariant.left_over in (
      later (left c.loop-rest.rest),
      subst (λ t. IsQuoted 34 t (later (left c.loop-rest.rest))) over (quoted 34 (left c.loop-rest.rest) (later (left c.loop-rest.rest)) first refl),
      sym c.loop-rest.invariant.codes ∙ ap (λ bad. joined (so_far c.loop-rest.value bad) (codes_of (cut_all (item 34) (left c.loop-rest.rest)).pieces)) c.in-Some-bad.is,
    )

pub returns : goal.returns
returns c =
    let first : first_of (left c.loop-rest.rest) ≡ Some 34 = sym c.peek.ensures ∙ same-char c.peek.result 34 c.ne.result c.ne.ensures c.loop-rest-test.false in
    let cut = ended 34 (left c.loop-rest.rest) (quote-ends (left c.loop-rest.rest) first) in
    let over = ap (λ x. x.left) (sym cut) ∙ c.loop-rest.invariant.left_over in (
      subst (λ t. IsQuoted 34 t (left c.after.result)) over (quoted 34 (left c.loop-rest.rest) (left c.after.result) first c.after.ensures.left),
      all-read c.loop-rest.value (codes_of (string_items (left c.args.start)).pieces)
          (ap (λ x. joined (Ok c.loop-rest.value) (codes_of x.pieces)) (sym cut) ∙ ap (λ bad. joined (so_far c.loop-rest.value bad) (codes_of (cut_all (item 34) (left c.loop-rest.rest)).pieces)) (sym c.in-None.is) ∙ c.loop-rest.invariant.codes),
    )
