use Rattle.std.proofs.Common.{◌≡◌, ◌++◌, ℕ, List, map, take}
use Rattle.std.specs.List.{All}
use Rattle.cu_kernel.specs.KernelOf.{mark_meaning}
use Rattle.cu_toplevel.specs.Heads.{HeadIsOf, head_meaning}
use Rattle.cu_toplevel.specs.Inside.Marks.{head_mark}
use Rattle.cu_toplevel.specs.Inside.SignatureTables.{AreSignatures}
use Rattle.cu_toplevel.specs.Readings.{IsReading}
use Rattle.cu_translation.specs.ModuleTypes.{Reading}
use Rattle.cu_translation.specs.Parts.{signature_of}
use Rattle.cu_toplevel.proofs.function_marks.add_marks.Given as goal

abbrev pub invariant-functions : goal.invariant-functions
invariant-functions l = (names : List (List ℕ)) (r : Reading) → IsReading names r l.reading → All (HeadIsOf l.reading.«module».now.name names) l.functions
    → AreSignatures l.reading.«module».now.name names (λ text. signature_of text r.m.syntax.items) l.signatures
    → map mark_meaning l.marks.items ≡ map mark_meaning l.fn.marks.items ++ map (λ h. head_mark r (head_meaning names h)) (take l.head-index l.functions)
