use Rattle.std.proofs.Common.{◌≡◌, ℕ, length}
use Rattle.cu_lex.specs.Inside.Scanning.{digits, digits_from, is_digit_of, left, skip, within}
use Rattle.cu_lex.proofs.number.digits_at.Given as goal

abbrev pub invariant-loop-c : goal.invariant-loop-c
invariant-loop-c l = record {
  so_far : (n : ℕ) × (l.value ≡ within n) × (digits_from l.base n (digits l.base (left l.end)) ≡ digits_from l.base 0 (digits l.base (left l.start)));
  end : skip (is_digit_of l.base) (left l.end) ≡ skip (is_digit_of l.base) (left l.start);
}

abbrev pub decreases-loop-c : goal.decreases-loop-c
decreases-loop-c l = length (left l.end)
