use Rattle.std.proofs.Common.{length, refl, sym, ◌∙◌}
use Rattle.cu_translation.specs.declared.local_names.Local.TheVariants as local
use Rattle.cu_locals.proofs.EntryLemmas.{function_is, none_there, rule_with, rule_without, some_there}
use Rattle.cu_locals.proofs.entries.rule_entry.Goals as goal

pub returns-then-is_empty : goal.returns-then-is_empty
returns-then-is_empty c t of =
    rule_without t c.args.place c.args.name c.args.parameters.now c.variable_entry.result (none_there c.args.parameters.now (sym c.is_empty.ensures ∙ c.if-is_empty.true)) (c.variable_entry.ensures t of)

pub returns : goal.returns
returns c t of =
    rule_with t c.args.place c.args.name c.args.parameters.now (record { text = c.args.name.text; means = local.Function c.of.result (length c.args.parameters.now) })
    (some_there c.args.parameters.now (sym c.is_empty.ensures ∙ c.if-is_empty.false))
    (function_is t c.args.name c.of.result c.args.place (length c.args.parameters.now) (record { text = c.args.name.text; means = local.Function c.of.result (length c.args.parameters.now) }) refl c.of.ensures of)
