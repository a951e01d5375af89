-- None of the grammar's rows may match without end.
use Rattle.cu_syntax.proofs.Accepted.{never_endless}
use Rattle.cu_syntax.proofs.rows.grammar.Goals as goal

pub unreachable-requires : goal.unreachable-requires
unreachable-requires c =
    never_endless c.in_ok-rows.rows.items c.in-Err-Row.field-0 c.in-Err-Row.field-0-0 c.in_ok-rows.ensures c.in-Err-Row.field-0-is c.in-Err-Row.ensures.endless
