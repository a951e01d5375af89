use Rattle.std.proofs.Common.{List, drop}
use Rattle.cu_lex.specs.Located as located
use Rattle.cu_translation.specs.LocalNames as local
use Rattle.cu_translation.specs.Meaning.{position_meaning}
use Rattle.cu_sites.specs.declared.captures.Graph.{Graph}
use Rattle.cu_sites.specs.Inside.Capturing.{Notes, binds_in, calls_in, uses_in}
use Rattle.cu_sites.specs.Inside.Using.{usage_meaning}
use Rattle.cu_sites.specs.Numbered.{HasNumbers}
use Rattle.cu_sites.proofs.NoteLemmas.{NotesBound, NotesUses}
use Rattle.cu_sites.proofs.captures.Graph.note.Given as goal

abbrev pub invariant-loop-used : goal.invariant-loop-used
invariant-loop-used l =
    (binders : List local.Binder) (functions : List located.Position) (end : Graph) → HasNumbers binders functions l.numbers
    → NotesUses binders functions (position_meaning l.function) (drop l.used-index l.usage.used.items) l.self end
    → NotesUses binders functions (position_meaning l.function) l.usage.used.items l.fn.self end

abbrev pub invariant-loop-binder : goal.invariant-loop-binder
invariant-loop-binder l =
    (binders : List local.Binder) (functions : List located.Position) (end : Graph) → HasNumbers binders functions l.numbers
    → NotesBound binders functions (position_meaning l.function) (drop l.binder-index l.usage.declared.items) l.self end
    → Notes (uses_in binders functions (usage_meaning l.usage)) (binds_in binders functions (usage_meaning l.usage))
    (calls_in functions (usage_meaning l.usage)) l.fn.self end
