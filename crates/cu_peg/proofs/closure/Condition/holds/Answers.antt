use Rattle.std.proofs.Common.{rules, ap, sym, ◌∙◌}
use Rattle.std.proofs.lemmas.Iterator.{YieldsList-from_slice}
use Rattle.std.proofs.lemmas.Iterator.Search.{all_from_yields_List, any_from_yields_List}
use borrow.Author.Tests.{tests}
use Rattle.cu_peg.specs.Inside.Closure.{holds_of, marked}
use Rattle.cu_peg.specs.declared.closure.Quantifier.{Quantifier}
use Rattle.cu_peg.proofs.closure.Condition.holds.Goals as goal

pub returns-in-All : goal.returns-in-All
returns-in-All c =
    all_from_yields_List (marked c.args.marks.now) _ _ c.all.result c.all.ensures.ran (YieldsList-from_slice c.args.self.now.numbers cc) (λ x b q k. search (rules, tests))
    ∙ ap (λ (q : Quantifier). holds_of c.args.marks.now q c.args.self.now.numbers) (sym c.in-All.is)

pub returns-in-Any : goal.returns-in-Any
returns-in-Any c =
    any_from_yields_List (marked c.args.marks.now) _ _ c.any.result c.any.ensures.ran (YieldsList-from_slice c.args.self.now.numbers cc) (λ x b q k. search (rules, tests))
    ∙ ap (λ (q : Quantifier). holds_of c.args.marks.now q c.args.self.now.numbers) (sym c.in-Any.is)
