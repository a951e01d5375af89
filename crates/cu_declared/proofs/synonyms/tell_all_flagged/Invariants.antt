use Rattle.std.proofs.Common.{map}
use Rattle.std.specs.List.{All}
use Rattle.cu_declared.specs.declared.first_fault.FirstFault.{FirstFault}
use Rattle.cu_declared.specs.Inside.Synonyms.{SynonymIsOf, flagged_faults, kept_by}
use Rattle.cu_declared.specs.Inside.Told.{Told, World}
use Rattle.cu_declared.proofs.SynonymLemmas.{flags_left}
use Rattle.cu_declared.proofs.synonyms.tell_all_flagged.Given as goal

abbrev pub invariant-loop-number : goal.invariant-loop-number
invariant-loop-number l =
    (w : World) (after : FirstFault) → All (SynonymIsOf w.owner w.names) l.synonyms → Told w l.first (flags_left w l.flags l.synonyms l.number) after
    → Told w l.fn.first (flagged_faults l.flags (map (kept_by w.names) l.synonyms)) after
