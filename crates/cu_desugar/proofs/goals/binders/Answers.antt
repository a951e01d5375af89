use Rattle.std.proofs.Common.{◌∙◌, ◌++◌, ap, map, sym}
use Rattle.cu_syntax.specs.Names.{name_meaning}
use Rattle.cu_toplevel.proofs.NameLemmas.{map_twice}
use Rattle.cu_translation.specs.Meaning.{binder_meaning}
use Rattle.cu_translation.specs.Numbering.{at_name}
use Rattle.cu_desugar.proofs.goals.binders.Goals as goal

pub loop-name-init : goal.loop-name-init
loop-name-init c table =
    let xs = c.args.names.now in
    ap (λ bs. map binder_meaning bs ++ map (λ x. at_name (name_meaning table x)) xs) c.new-found.ensures.items ∙ sym (map_twice at_name (name_meaning table) xs)
