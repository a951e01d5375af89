use Rattle.std.proofs.Common.{◌≡◌, ◌∷◌, ◌++◌, drop}
use Rattle.cu_search.specs.Lines.{further_waits, waits_text}
use Rattle.cu_search.specs.Stands.{notation_of}
use Rattle.cu_search.proofs.lines.push_waits_on.Given as goal

-- the line so far, and the variables that are left, are the line with all
abbrev pub invariant-loop-other : goal.invariant-loop-other
invariant-loop-other l =
    l.page.line.items ++ further_waits (notation_of l.wording).variables (drop l.other-index l.others)
    ≡ l.fn.page.line.items ++ waits_text (notation_of l.wording).variables (l.fn.first ∷ l.others)
