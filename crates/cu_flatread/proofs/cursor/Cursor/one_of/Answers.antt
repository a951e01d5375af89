use Rattle.std.proofs.Common.{◌∙◌, ap, length, sym, arith}
use Rattle.cu_flatread.proofs.ListLemmas.{first_word, other_words}
use Rattle.cu_flatread.proofs.cursor.Cursor.one_of.Goals as goal

pub returns-in-Ok-clause-gives : goal.returns-in-Ok-clause-gives
returns-in-Ok-clause-gives g c =
    sym c.loop-left.invariant.0
    ∙ first_word (λ w. (w.0.now, w.1)) c.loop-left.left.now c.first-item.result _
    c.loop-left.self.rest.now c.in-Ok.rest.now c.loop-left.least c.in-len1-up.len_at_least
    c.first-item.is c.in-Ok.ensures.ok

pub returns-in-Ok-clause-shorter : goal.returns-in-Ok-clause-shorter
returns-in-Ok-clause-shorter g c =
    omega (arith, c.in-Ok.ensures.shorter, ap length c.loop-left.invariant.1)

pub loop-left-preserved : goal.loop-left-preserved
loop-left-preserved g c =
    rw c.min-least.ensures (
      other_words (λ w. (w.0.now, w.1)) c.loop-left.left.now c.first-item.result _
          c.loop-left.self.rest.now c.loop-left.least c.in-Err.parted c.in-len1-up.len_at_least
          c.first-item.is c.in-Err.ensures.err ∙ c.loop-left.invariant.0,
      c.loop-left.invariant.1,
    )
