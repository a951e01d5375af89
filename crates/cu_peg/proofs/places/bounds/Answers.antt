use Rattle.std.proofs.Common.{◌≤◌, suc, get_or, subst}
use Rattle.cu_peg.proofs.PlaceLemmas.{next-past, next-within, span-fits, span-order}
use Rattle.cu_peg.proofs.places.bounds.Goals as goal

pub returns-then-place-begins-clause-order : goal.returns-then-place-begins-clause-order
returns-then-place-begins-clause-order c =
    subst (λ n. get_or c.args.begins.now c.args.place 0 ≤ n) (next-within c.args.begins.now c.args.place c.args.count c.if-place-begins.true)
    (span-order c.args.begins.now c.args.count c.args.place c.requires.within c.requires.rising)

pub returns-then-place-begins-clause-fits : goal.returns-then-place-begins-clause-fits
returns-then-place-begins-clause-fits c =
    subst (λ n. n ≤ c.args.count) (next-within c.args.begins.now c.args.place c.args.count c.if-place-begins.true) (span-fits c.args.begins.now c.args.count (suc c.args.place) c.requires.rising)

pub returns-clause-order : goal.returns-clause-order
returns-clause-order c =
    subst (λ n. get_or c.args.begins.now c.args.place 0 ≤ n) (next-past c.args.begins.now c.args.place c.args.count c.if-place-begins.false)
    (span-order c.args.begins.now c.args.count c.args.place c.requires.within c.requires.rising)
