use Rattle.std.proofs.Common.{ap, slice_get, ◌∙◌}
use Rattle.std.specs.Str.{chars}
use Rattle.cu_lex.specs.Inside.Scanning.{left, position}
use Rattle.cu_lex.proofs.CursorLemmas.{first-located}
use Rattle.cu_lex.proofs.cursor.Cursor.peek.Goals as goal

pub returns : goal.returns
unfolding left
returns c = c.next.ensures.steps.2 ∙ ap (λ t. slice_get (chars t) 0) c.chars.ensures.rest ∙ first-located (position c.args.self) (chars c.args.self.text.now)
