-- A source in memory.
use Rattle.std.specs.Prelude.{ℕ, ◌-◌, ◌==◌, min, Bool, ◌||◌, ◌&&◌, not, if◌then◌else◌, List, length, drop}
use Rattle.cu_io.specs.declared.source.Took.{Took}
use Rattle.cu_io.specs.declared.source.Took.TheVariants.{Bytes, Failed}
use Rattle.cu_io.specs.declared.calls.Calls.{Calls}
use Rattle.cu_io.specs.Calls.{counted, is_listed}

-- the bytes that are left, how many reads may still take bytes, the reads that are to fail, and the
-- reads so far
pub record Input : Type 0 where
  pub left : List ℕ
  pub reads : ℕ
  pub failing : List ℕ
  pub calls : Calls

-- whether the next read fails: it is to fail, or no read may take what is left
abbrev pub read_fails : Input → Bool
read_fails s = is_listed s.failing s.calls.next || (s.reads == 0 && not (length s.left == 0))

-- how many bytes the next read takes into a room: as many as there are and as fit
abbrev pub read_count : Input → List ℕ → ℕ
read_count s room = if read_fails s then 0 else min (length s.left) (length room)

-- the answer of the next read
abbrev pub read_answer : Input → List ℕ → Took
read_answer s room = if read_fails s then Failed else Bytes (read_count s room)

-- the source after a read
abbrev pub after_read : Input → List ℕ → Input
after_read s room = record {
  left = drop (read_count s room) s.left;
  reads = if read_count s room == 0 then s.reads else s.reads - 1;
  failing = s.failing;
  calls = counted s.calls (read_fails s);
}
