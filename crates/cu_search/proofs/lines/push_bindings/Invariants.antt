use Rattle.std.proofs.Common.{◌≡◌, ◌++◌}
use Rattle.cu_search.specs.Lines.{bindings_text}
use Rattle.cu_search.specs.Stands.{notation_of}
use Rattle.cu_search.proofs.LineLemmas.{rest_of_bindings}
use Rattle.cu_search.proofs.lines.push_bindings.Given as goal

-- the line so far, and the bindings that are left, are the line with all
abbrev pub invariant-loop-place : goal.invariant-loop-place
invariant-loop-place l =
    let notation = notation_of l.wording in
    l.page.line.items ++ rest_of_bindings notation.labels notation.variables l.values l.place
    ≡ l.fn.page.line.items ++ bindings_text notation.labels notation.variables l.values
