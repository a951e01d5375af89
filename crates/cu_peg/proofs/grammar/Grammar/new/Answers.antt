use Rattle.std.proofs.Common.{◌≡◌, ℕ, List, Option, None, subst}
use Rattle.std.specs.Prelude.{MatchOption}
use Rattle.cu_peg.specs.declared.row.Row.{Row}
use Rattle.cu_peg.specs.Order.{IsOrder}
use Rattle.cu_peg.specs.WellFormed.{IsFirstEndless, IsWellFormed}
use Rattle.cu_peg.proofs.grammar.Grammar.new.Goals as goal

-- no row that may match without end was found
none_found : (rows : List Row) (found : Option ℕ) → found ≡ None → MatchOption found (IsWellFormed rows) (IsFirstEndless rows) → IsWellFormed rows
none_found rows found e h = subst (λ (o : Option ℕ). MatchOption o (IsWellFormed rows) (IsFirstEndless rows)) e h

pub call_order-requires-clause-well_formed : goal.call_order-requires-clause-well_formed
call_order-requires-clause-well_formed c = none_found c.as_slice-table.result.now c.in_ok-row.field-0 c.in_default.is c.in_ok-row.ensures

pub invariant_of-result : goal.invariant_of-result
invariant_of-result c =
    let rows = c.as_slice-table.ensures.value in
    record {
      closed = c.requires;
      well_formed = subst (λ (rows : List Row). IsWellFormed rows) rows (none_found c.as_slice-table.result.now c.in_ok-row.field-0 c.in_default.is c.in_ok-row.ensures);
      ordered = subst (λ (rows : List Row). IsOrder rows c.in_ok-order.order.items) rows c.in_ok-order.ensures;
    }

pub returns-clause-well_formed : goal.returns-clause-well_formed
returns-clause-well_formed c =
    subst (λ (rows : List Row). IsWellFormed rows) c.as_slice-table.ensures.value
    (none_found c.as_slice-table.result.now c.in_ok-row.field-0 c.in_default.is c.in_ok-row.ensures)
