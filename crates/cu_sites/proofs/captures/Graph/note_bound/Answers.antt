use Rattle.std.proofs.Common.{refl}
use Rattle.cu_translation.specs.Meaning.{binder_meaning, position_meaning}
use Rattle.cu_sites.proofs.NoteLemmas.{noted_bound}
use Rattle.cu_uses.proofs.FoundLemmas.{on_ok}
use Rattle.cu_sites.proofs.captures.Graph.note_bound.Goals as goal

pub returns : goal.returns
returns c binders functions h =
    on_ok c.add.result
    (λ gains.
    noted_bound binders functions (position_meaning c.args.function) (binder_meaning c.args.binder) c.variable.result c.function-binding.result
    c.args.self.now _ (c.variable.ensures binders functions h) (c.function-binding.ensures binders functions h) gains refl refl)
    c.add.ensures
