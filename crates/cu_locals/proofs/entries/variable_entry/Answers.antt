use Rattle.std.proofs.Common.{refl}
use Rattle.cu_translation.specs.declared.local_names.Binder.TheVariants as binder
use Rattle.cu_translation.specs.declared.local_names.Local.TheVariants as local
use Rattle.cu_locals.proofs.EntryLemmas.{variable_is}
use Rattle.cu_locals.proofs.entries.variable_entry.Goals as goal

pub returns : goal.returns
returns c t of =
    variable_is t c.args.name c.of.result (record { text = c.args.name.text; means = local.Variable (binder.At c.of.result) }) refl c.of.ensures of
