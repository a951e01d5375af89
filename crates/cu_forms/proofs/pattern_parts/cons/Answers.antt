use Rattle.cu_forms.proofs.PatternLemmas.{cons_is}
use Rattle.cu_forms.proofs.pattern_parts.cons.Goals as goal

pub returns : goal.returns
returns g c w tells =
    cons_is w.around.names c.prelude.result c.constructor_of.result c.in_ok-parts.parts c.args.element c.args.list c.constructor_of.ensures (c.prelude.ensures w tells) c.in_ok-parts.ensures.items
