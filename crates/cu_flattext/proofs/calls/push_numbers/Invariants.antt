use Rattle.std.proofs.Common.{◌≡◌, ◌+◌, ◌-◌, ◌++◌, codes}
use Rattle.cu_flattext.specs.Naming.{further, separated}
use Rattle.cu_flattext.specs.TypeTexts.{numbers_from}
use Rattle.cu_flattext.proofs.calls.push_numbers.Given as goal

-- the text so far, and the numbers that are left, are the whole
abbrev pub invariant-loop-i : goal.invariant-loop-i
invariant-loop-i l =
    l.page.text.items ++ further (numbers_from (l.first + l.i) (l.count - l.i))
    ≡ l.fn.page.text.items ++ (codes "[" ++ separated (numbers_from l.first l.count))
