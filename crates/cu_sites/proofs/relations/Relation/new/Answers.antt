use Rattle.std.proofs.Common.{rules, ◌≡◌, ◌≤◌, ◌+◌, ◌++◌, ◌∷◌, [], ap, arith, length, length-append, List, subst, sym, ◌∙◌}
use Rattle.cu_sites.proofs.RelationLemmas.{AllEmpty, Row, holds_none, no_rows, one_more_row}
use Rattle.cu_sites.proofs.relations.Relation.new.Goals as goal

pub loop-number-init : goal.loop-number-init
loop-number-init c = (ap length c.new-rows.ensures.items, omega arith, no_rows c.new-rows.result.items c.new-rows.ensures.items)

pub loop-number-preserved : goal.loop-number-preserved
loop-number-preserved c =
    let pushed : c.push.new.self.items ≡ c.loop-number.rows.items ++ c.new-row.result ∷ [] = search rules in
    let longer : length c.push.new.self.items ≡ length c.loop-number.rows.items + 1 =
    ap length pushed ∙ length-append c.loop-number.rows.items (c.new-row.result ∷ []) in
    let old : length c.loop-number.rows.items ≡ c.loop-number.number = c.loop-number.invariant.0 in (
      omega arith,
      omega arith,
      subst (λ (xs : List Row). AllEmpty xs) (sym pushed)
          (one_more_row c.loop-number.rows.items c.new-row.result c.new-row.ensures.empty c.loop-number.invariant.2),
    )

pub returns : goal.returns
returns c =
    let size : length c.loop-number.rows.items ≡ c.loop-number.number = c.loop-number.invariant.0 in
    let end : c.args.count ≤ c.loop-number.number = c.loop-number-test.false in
    holds_none c.args.count (record { rows = c.loop-number.rows }) (omega arith) c.loop-number.invariant.2
