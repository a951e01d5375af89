use Rattle.std.proofs.Common.{◌≡◌, ◌≤◌, ◌∙◌, length, arith}
use Rattle.cu_kernel.specs.Kernel.{program_of}
use Rattle.cu_lift.proofs.InRange.{rows_whole}
use Rattle.cu_lift.proofs.RowsOf.{all_rows, function_rows, rows_graph}
use Rattle.cu_lift.specs.Inside.MentionsOf.{graph_of, rows_of}
use Rattle.cu_lift.proofs.mentions.graph.Goals as goal

pub returns : goal.returns
returns c =
    let rows = c.loop-function.rows.items in
    let functions = c.functions-functions.result.now in
    let end : length functions ≤ c.loop-function.function-index = omega arith in
    let all : rows_of rows ≡ function_rows functions = all_rows (rows_of rows) functions c.loop-function.function-index end c.loop-function.invariant in
    let same : rows_of rows ≡ graph_of (program_of c.args.program.now) =
    all ∙ rows_graph c.args.program.now functions c.functions-functions.ensures.functions in
    record { graph = same; whole = rows_whole (program_of c.args.program.now) rows c.functions-functions.ensures.valid.program same }
