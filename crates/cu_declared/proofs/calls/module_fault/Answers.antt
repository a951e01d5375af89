use Rattle.std.proofs.Common.{◌∙◌, ap}
use Rattle.cu_declared.specs.Inside.Items.{in_items}
use Rattle.cu_declared.specs.Parameters.{all_parameters}
use Rattle.cu_declared.specs.TypeUses.{items_uses}
use Rattle.cu_declared.proofs.CallLemmas.{module_done, module_text, synonyms_here, uses_whole}
use Rattle.cu_declared.proofs.ItemLemmas.{items_are}
use Rattle.cu_declared.proofs.calls.module_fault.Goals as goal

pub tell_cycles-requires : goal.tell_cycles-requires
tell_cycles-requires c =
    let w = c.requires.0 in
    let is = c.requires.1 in
    let m = c.args.«module».now in
    let text = module_text w c.args.number m c.args.scopes.now c.syntax.result.now c.items-text.result.now is c.syntax.ensures c.items-text.ensures.meaning c.items-text.ensures.owned in (
      w,
      synonyms_here w c.args.number m c.args.scopes.now c.items-text.result.now c.name.result c.in_ok-synonyms.synonyms.items c.as_slice-2.result.now is text.0 c.name.ensures
          (c.in_ok-synonyms.ensures w.owner w.names text.1) c.as_slice-2.ensures.value,
    )

pub returns : goal.returns
returns c w is have =
    let m = c.args.«module».now in
    let text = module_text w c.args.number m c.args.scopes.now c.syntax.result.now c.items-text.result.now is c.syntax.ensures c.items-text.ensures.meaning c.items-text.ensures.owned in
    let uses = uses_whole w (in_items w.names c.items-text.result.now) c.new-uses.result.items c.items_uses.new.found.items c.as_slice.result.now c.new-uses.ensures.items (c.in_ok-items_uses.ensures w.owner w.names text.1) c.as_slice.ensures.value in
    let are = synonyms_here w c.args.number m c.args.scopes.now c.items-text.result.now c.name.result c.in_ok-synonyms.synonyms.items c.as_slice-2.result.now is text.0 c.name.ensures
    (c.in_ok-synonyms.ensures w.owner w.names text.1) c.as_slice-2.ensures.value in
    let cycles = c.in_ok-tell_cycles.ensures w are in
    module_done w cycles.0 c.as_slice.result.now c.new-first.result c.tell_arities.new.first c.tell_cycles.new.first c.fault.result
    (uses.0 ∙ items_are w.names c.items-text.result.now ∙ ap items_uses text.0) (c.new-first.ensures w.owner w.names)
    (c.tell_arities.ensures w (all_parameters w.modules) is.is_at uses.1 have) cycles.1 cycles.2 (c.fault.ensures w.owner w.names)
