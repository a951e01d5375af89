use Rattle.std.proofs.Common.{◌≡◌, ◌+◌, drop}
use Rattle.cu_flattext.specs.ExpressionTexts.{all_numbered}
use Rattle.cu_flattext.specs.Inside.Stands.{numbers_of}
use Rattle.cu_flattext.specs.Inside.Tasks.{Restores}
use Rattle.cu_flattext.proofs.expressions.Expressions.bind_all.Given as goal

-- the variables that are left get the next numbers, and all get back what they had
abbrev pub invariant-loop-x : goal.invariant-loop-x
invariant-loop-x l = record {
  numbers : all_numbered (drop l.x-index l.variables) l.self.next (numbers_of l.self.numbers)
      ≡ all_numbered l.variables l.fn.self.next (numbers_of l.fn.self.numbers);
  next : l.self.next ≡ l.fn.self.next + l.x-index;
  wording : l.self.wording ≡ l.fn.self.wording;
  tasks : Restores l.fn.self l.self;
}
