use Rattle.std.proofs.Common.{◌≡◌, ◌++◌, ◌+◌, ◌≤◌, ◌∙◌, ap, sym, length, arith}
use lib.Utf8.{encode}
use Rattle.cu_lex.specs.Located.{position_after}
use Rattle.cu_lex.specs.Inside.Scanning.{left, position}
use Rattle.cu_lex.proofs.CursorLemmas.{at_pair, later-end, later-char, utf8-later, shorter-later, after-line, after-tab, after-other, in_lines, in_columns}
use Rattle.cu_lex.proofs.cursor.Cursor.after.Goals as goal
use Rattle.cu_lex.proofs.cursor.Cursor.after.Goals.{then-first-eq10, else-first-eq10+then-first-eq9, else-first-eq10+else-first-eq9}

pub returns-in_default-clause-left : goal.returns-in_default-clause-left
unfolding left
returns-in_default-clause-left c = later-end (position c.args.self) c.args.self.text.now (ap length (sym c.chars-chars.ensures.rest) ∙ c.in_default.ensures.steps.0.0)

pub invariant_of-result : goal.invariant_of-result
invariant_of-result c =
    let is : c.args.self.text.now ≡ encode c.in-Some.first ++ c.as_str-text.result.now =
    sym c.chars-chars.ensures.rest ∙ c.in-Some.ensures.steps.0 ∙ ap (λ t. encode c.in-Some.first ++ t) (sym c.as_str-text.ensures) in
    let shorter = shorter-later c.args.self.text.now c.as_str-text.result.now c.in-Some.first is in
    let line : c.if-first-eq10.line.0 ≤ c.args.self.line + 1 = elim c.if-first-eq10.branch [
      | then-first-eq10 w ↦ omega (arith, ap (λ x. x.0) w.line-is)
      | else-first-eq10+then-first-eq9 w ↦ omega (arith, ap (λ x. x.0) w.line-is)
      | else-first-eq10+else-first-eq9 w ↦ omega (arith, ap (λ x. x.0) w.line-is)
    ] in
    let column : c.if-first-eq10.line.1 ≤ c.args.self.column + 8 = elim c.if-first-eq10.branch [
      | then-first-eq10 w ↦ omega (arith, ap (λ x. x.1) w.line-is)
      | else-first-eq10+then-first-eq9 w ↦ omega (arith, ap (λ x. x.1) w.line-is)
      | else-first-eq10+else-first-eq9 w ↦ omega (arith, ap (λ x. x.1) w.line-is)
    ] in
    record {
      utf8 = utf8-later c.args.self.text.now c.as_str-text.result.now c.in-Some.first c.args.self.utf8 is;
      lines = in_lines c.args.self.line c.if-first-eq10.line.0 c.args.self.text.now c.as_str-text.result.now shorter c.args.self.lines line;
      columns = in_columns c.args.self.column c.if-first-eq10.line.1 c.args.self.text.now c.as_str-text.result.now shorter c.args.self.columns column;
    }

pub returns-clause-left : goal.returns-clause-left
unfolding left
returns-clause-left c =
    let is : c.args.self.text.now ≡ encode c.in-Some.first ++ c.as_str-text.result.now =
    sym c.chars-chars.ensures.rest ∙ c.in-Some.ensures.steps.0 ∙ ap (λ t. encode c.in-Some.first ++ t) (sym c.as_str-text.ensures) in
    let moved : at_pair c.if-first-eq10.line ≡ position_after c.in-Some.first (position c.args.self) = elim c.if-first-eq10.branch [
      | then-first-eq10 w ↦ after-line (position c.args.self) c.in-Some.first c.if-first-eq10.line w.if-first-eq10.true w.line-is
      | else-first-eq10+then-first-eq9 w ↦ after-tab (position c.args.self) c.in-Some.first c.if-first-eq10.line w.if-first-eq9.true w.line-is
      | else-first-eq10+else-first-eq9 w ↦ after-other (position c.args.self) c.in-Some.first c.if-first-eq10.line w.if-first-eq10.false w.if-first-eq9.false w.line-is
    ] in
    later-char (position c.args.self) (at_pair c.if-first-eq10.line) c.args.self.text.now c.as_str-text.result.now c.in-Some.first c.args.self.utf8 is moved

pub returns-clause-shorter : goal.returns-clause-shorter
returns-clause-shorter c =
    let is : c.args.self.text.now ≡ encode c.in-Some.first ++ c.as_str-text.result.now =
    sym c.chars-chars.ensures.rest ∙ c.in-Some.ensures.steps.0 ∙ ap (λ t. encode c.in-Some.first ++ t) (sym c.as_str-text.ensures) in
    let shorter = shorter-later c.args.self.text.now c.as_str-text.result.now c.in-Some.first is in
    omega arith
