-- A source that reads the system's input.
use Rattle.std.specs.Prelude.{ℕ, zero, suc, ◌-◌, Bool, true}
use Rattle.cu_io.specs.declared.source.Took.{Took}
use Rattle.cu_io.specs.declared.source.Took.TheVariants.{Bytes, Failed}
use Rattle.cu_io.specs.Calls.{one_more}

-- how many reads may still take bytes, whether the end of the input was answered, and the count of
-- faults
pub record Intake : Type 0 where
  pub reads : ℕ
  pub ended : Bool
  pub faults : ℕ

-- The source after an answer: the end of the input is kept, a read that took bytes is one less of
-- those that may, and a fault is counted once.
abbrev pub after_took : Intake → Took → Intake
after_took s (Bytes zero) = record { reads = s.reads; ended = true; faults = s.faults }
after_took s (Bytes (suc n)) =
    record { reads = s.reads - 1; ended = s.ended; faults = s.faults }
after_took s Failed =
    record { reads = s.reads; ended = s.ended; faults = one_more s.faults }
