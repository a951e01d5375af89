use Rattle.std.proofs.Common.{◌∙◌, Option, ap, subst, sym}
use Rattle.std.specs.Option.{option_map}
use Rattle.std.specs.Prelude.{IfSome}
use Rattle.cu_syntax.specs.declared.types.TypeTerm.{TypeTerm}
use Rattle.cu_syntax.specs.Owners.{TypeIsOf}
use Rattle.cu_syntax.specs.Types.{type_meaning}
use Rattle.cu_toplevel.proofs.signature_table.Signatures.find.Goals as goal

pub returns-clause-meaning : goal.returns-clause-meaning
returns-clause-meaning c = λ owner names told known has.
    ap (option_map (type_meaning names)) (c.copied.ensures ∙ c.get.ensures.value) ∙ has.gives.each c.args.function known

pub returns-clause-owned : goal.returns-clause-owned
returns-clause-owned c = λ owner names told known has.
    subst (λ (o : Option TypeTerm). IfSome o (TypeIsOf owner names)) (sym (c.copied.ensures ∙ c.get.ensures.value)) (has.gives.owned c.args.function known)
