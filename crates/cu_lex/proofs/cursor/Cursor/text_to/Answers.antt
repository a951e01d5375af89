use Rattle.std.proofs.Common.{◌∙◌}
use lib.Utf8.{encodes}
use Rattle.cu_lex.specs.Located.{characters}
use Rattle.cu_lex.specs.Inside.Scanning.{left, position}
use Rattle.cu_lex.proofs.CursorLemmas.{before, fits-before, boundary, taken}
use Rattle.cu_lex.proofs.cursor.Cursor.text_to.Goals as goal

pub overflow_sub-self : goal.overflow_sub-self
unfolding left
overflow_sub-self c =
    fits-before (encodes (characters c.requires.0)) c.args.self.text.now c.args.end.text.now
    (before c.requires.0 (position c.args.self) (position c.args.end) c.args.self.text.now c.args.end.text.now c.args.self.utf8 c.args.end.utf8 c.requires.1)

pub range-requires-clause-end_boundary : goal.range-requires-clause-end_boundary
unfolding left
range-requires-clause-end_boundary c =
    boundary (encodes (characters c.requires.0)) c.args.self.text.now c.args.end.text.now c.args.end.utf8
    (before c.requires.0 (position c.args.self) (position c.args.end) c.args.self.text.now c.args.end.text.now c.args.self.utf8 c.args.end.utf8 c.requires.1)

pub returns : goal.returns
unfolding left
returns c = λ prefix whole.
    c.range.ensures.value ∙ taken (encodes (characters prefix)) c.args.self.text.now c.args.end.text.now
    (before prefix (position c.args.self) (position c.args.end) c.args.self.text.now c.args.end.text.now c.args.self.utf8 c.args.end.utf8 whole)
