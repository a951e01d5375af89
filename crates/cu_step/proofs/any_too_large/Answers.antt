-- The closure tests each graph as the definition does.
use Rattle.std.proofs.Common.{rules, length}
use borrow.Author.Tests.{tests}
use Rattle.std.proofs.lemmas.Iterator.{YieldsList-from_slice}
use Rattle.std.proofs.lemmas.Iterator.Search.{any_from_yields_List}
use Rattle.cu_machine.specs.Next.{is_above}
use Rattle.cu_step.proofs.any_too_large.Goals as goal

pub returns : goal.returns
returns g c =
    any_from_yields_List (λ store. is_above c.args.limits.now (length (g.S.Store.content store))) _ _ _ c.any.ensures.ran
    (YieldsList-from_slice c.args.stores.now cc) (λ x b q k. search (rules, tests))
