use Rattle.std.proofs.Common.{◌≡◌, ◌+◌, ◌<◌, ◌≤◌, ℕ, false, get_or, length, max, slice_get, Some, ap, sym, ◌∙◌, subst, arith}
use Rattle.std.proofs.lemmas.Option.{slice_get-get_or}
use Rattle.cu_lift.proofs.Demands.{demand_all, demand_first, demand_next}
use Rattle.cu_lift.specs.Inside.Levelling.{IsDemand, demand}
use Rattle.cu_lift.specs.declared.mentions.Mention.{Mention}
use Rattle.cu_lift.proofs.set_levels.row_demand.Goals as goal

abbrev none : Mention
none = record { function = record { 0 = 0 }; collected = false }

pub loop-mention-init : goal.loop-mention-init
loop-mention-init c = demand_first c.args.levels.now c.args.row.now c.args.least

pub demand_of-demanded-requires-clause-within : goal.demand_of-demanded-requires-clause-within
demand_of-demanded-requires-clause-within c =
    let i = c.loop-mention.mention-index in
    let row = c.args.row.now in
    let low : i < length row = omega arith in
    c.requires.within i (get_or row i none) (slice_get-get_or row i none low)

pub loop-mention-preserved : goal.loop-mention-preserved
loop-mention-preserved c =
    let i = c.loop-mention.mention-index in
    let row = c.args.row.now in
    let low : i < length row = omega arith in
    let m = get_or row i none in
    let greater : c.max-level.result ≡ max c.loop-mention.level c.demand_of-demanded.result = c.max-level.ensures in
    let demanded : c.demand_of-demanded.result ≡ demand c.args.levels.now m = c.demand_of-demanded.ensures in
    subst (λ (n : ℕ). IsDemand c.args.levels.now (Rattle.std.proofs.Common.take (i + 1) row) c.args.least n)
    (sym (greater ∙ ap (max c.loop-mention.level) demanded))
    (demand_next c.args.levels.now row c.args.least c.loop-mention.level i m c.loop-mention.invariant (slice_get-get_or row i none low))

pub returns : goal.returns
returns c =
    let end : length c.args.row.now ≤ c.loop-mention.mention-index = omega arith in
    demand_all c.args.levels.now c.args.row.now c.args.least c.loop-mention.level c.loop-mention.mention-index end c.loop-mention.invariant
