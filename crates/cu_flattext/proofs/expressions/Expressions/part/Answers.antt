use Rattle.std.proofs.Common.{ℕ, OnOk, sym, subst}
use Rattle.cu_calculus.specs.FlatProgram.{term_within, terms_of}
use Rattle.cu_flattext.specs.Inside.Tasks.{Writes, left_of, left_with_part}
use Rattle.cu_flattext.proofs.Looks.{count_terms}
use Rattle.cu_flattext.proofs.expressions.Expressions.part.Goals as goal

pub returns : goal.returns
returns c =
    let part = term_within c.args.arguments.depth c.args.self.now.wording.flat.now in
    let ts = terms_of part c.args.arguments.es.now in
    subst (λ (n : ℕ). OnOk c.counted_part.result (Writes c.args.page.now.text.items (left_with_part c.args.head n ts c.args.self.now)
    c.counted_part.new.page.text.items (left_of c.counted_part.new.self)))
    (sym (count_terms part c.args.arguments.es.now)) c.counted_part.ensures
