use Rattle.std.proofs.Common.{◌||◌, ◌+◌, drop, ap, arith, ◌∙◌}
use Rattle.cu_sites.proofs.RelationLemmas.{set_ends, set_goes_on}
use Rattle.cu_sites.proofs.relations.set_of.Goals as goal
use Rattle.cu_sites.specs.Depending.{is_in}

pub loop-number-init : goal.loop-number-init
loop-number-init c k = ap (λ ks. is_in ks k || is_in c.args.numbers.now k) c.new-set.ensures.empty

pub loop-number-preserved : goal.loop-number-preserved
loop-number-preserved c k =
    ap (λ ks. is_in ks k || is_in (drop (c.loop-number.number-index + 1) c.args.numbers.now) k) c.in_ok-insert.ensures.keys
    ∙ set_goes_on c.loop-number.set.keys c.args.numbers.now c.loop-number.number-index k (is_in c.args.numbers.now k) (omega arith) (c.loop-number.invariant k)

pub returns : goal.returns
returns c k = set_ends c.loop-number.set.keys c.args.numbers.now c.loop-number.number-index k (is_in c.args.numbers.now k) (omega arith) (c.loop-number.invariant k)
