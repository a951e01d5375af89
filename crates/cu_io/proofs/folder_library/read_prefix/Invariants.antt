-- The text is what was read so far.
use Rattle.std.proofs.Common.{◌-◌, ◌≤◌, vec_len}
use Rattle.std.specs.Io.KnownBytes.{Consumes}
use Rattle.cu_io.proofs.folder_library.read_prefix.Given as goal

abbrev pub invariant-loop-text : goal.invariant-loop-text
invariant-loop-text g l =
    (vec_len l.text ≤ l.most) × Consumes (g.F.Read.remaining l.initial.file) (g.F.Read.remaining l.file) l.text.items

abbrev pub decreases-loop-text : goal.decreases-loop-text
decreases-loop-text g l = l.most - vec_len l.text
