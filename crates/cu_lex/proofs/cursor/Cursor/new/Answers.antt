use Rattle.std.proofs.Common.{◌∙◌, ap, sym, arith}
use Rattle.std.specs.Str.{chars}
use Rattle.std.proofs.lemmas.Str.{is_utf8-from_IsUtf8}
use Rattle.cu_lex.specs.Located.{first_position, located_from}
use Rattle.cu_lex.specs.Inside.Scanning.{left, position}
use Rattle.cu_lex.proofs.CursorLemmas.{same-text, start-plain, first-located, is-some-mark, no-some-mark}
use Rattle.cu_lex.proofs.cursor.Cursor.new.Goals as goal

pub invariant_of-start : goal.invariant_of-start
invariant_of-start c = record { utf8 = is_utf8-from_IsUtf8 c.args.text.now c.utf8.text; lines = omega arith; columns = omega arith }

pub returns-then-eq : goal.returns-then-eq
unfolding left
returns-then-eq c =
    same-text first_position (position c.after.result) first_position (chars c.args.text.now) (chars c.after.result.text.now) c.after.ensures.left
    (first-located first_position (chars c.args.text.now) ∙ sym c.peek.ensures ∙ is-some-mark c.peek.result 65279 c.if-eq.ensures)

pub returns : goal.returns
unfolding left
returns c =
    ap (located_from first_position) (sym (start-plain (chars c.args.text.now)
    (λ is. no-some-mark c.peek.result 65279 c.if-eq.ensures (c.peek.ensures ∙ sym (first-located first_position (chars c.args.text.now)) ∙ is))))
