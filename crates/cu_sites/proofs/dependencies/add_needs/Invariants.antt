use Rattle.std.proofs.Common.{List, drop}
use Rattle.cu_lex.specs.Located as located
use Rattle.cu_translation.specs.LocalNames as local
use Rattle.cu_translation.specs.Meaning.{binder_meaning}
use Rattle.cu_sites.specs.declared.relations.Relation.{Relation}
use Rattle.cu_sites.specs.Inside.Relating.{Gains}
use Rattle.cu_sites.specs.Numbered.{HasNumbers}
use Rattle.cu_sites.proofs.DefinedLemmas.{needs_left}
use Rattle.cu_sites.proofs.dependencies.add_needs.Given as goal

abbrev pub invariant-loop-used : goal.invariant-loop-used
invariant-loop-used l =
    (binders : List local.Binder) (functions : List located.Position) (end : Relation) → HasNumbers binders functions l.numbers
    → Gains (needs_left binders functions l.captured (binder_meaning l.definition.variable) (drop l.used-index l.definition.used.items)) l.needs end
    → Gains (needs_left binders functions l.captured (binder_meaning l.definition.variable) l.definition.used.items) l.fn.needs end
