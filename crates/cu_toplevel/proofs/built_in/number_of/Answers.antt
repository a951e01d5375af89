use Rattle.std.proofs.Common.{◌≡◌, ◌∙◌, ℕ, Option, Some, ap, subst, sym}
use Rattle.std.specs.Prelude.{IfSome, slice_get}
use Rattle.cu_names.specs.declared.names.NameId.{NameId}
use Rattle.cu_toplevel.proofs.TopLemmas.{id_is, no_id}
use Rattle.cu_toplevel.proofs.built_in.number_of.Goals as goal

pub returns-in-Some : goal.returns-in-Some
returns-in-Some c = λ text is.
    let names = c.args.names.now in
    let at = subst (λ (o : Option NameId). IfSome o (λ id. slice_get names id.0 ≡ Some text)) c.in-Some.is is.is in
    sym (id_is names c.in-Some.id text c.count-count.ensures.differ at)

pub returns-in-None : goal.returns-in-None
returns-in-None c = λ text is. ap (λ (n : ℕ). record { 0 = n }) c.count-count.ensures.count ∙ sym (no_id c.args.names.now text (is.absent c.in-None.is))
