use Rattle.std.proofs.Common.{◌≡◌, ◌∙◌, ℕ, List, Option, Some, ap, subst, sym}
use Rattle.std.specs.Prelude.{IfSome, slice_get}
use Rattle.cu_names.specs.declared.names.NameId.{NameId}
use Rattle.cu_toplevel.specs.Surrounding.{type_text}
use Rattle.cu_toplevel.specs.TupleTables.{AreTuples, IsFound}
use Rattle.cu_translation.specs.Around.{Names}
use Rattle.cu_translation.specs.ModuleNames.{type_of}
use Rattle.cu_toplevel.proofs.TopLemmas.{no_type, of_prelude}
use Rattle.cu_toplevel.proofs.top_names.TopNames.prelude_type.Goals as goal

pub returns-in-Some : goal.returns-in-Some
returns-in-Some c = λ names top tells.
    let e = c.args.self.now.entities.now in
    let tuples = subst (λ (n : List (List ℕ)). AreTuples n e.tuples) (sym tells.table) tells.entities.tuples in
    let found = subst (λ (n : List (List ℕ)). IsFound n (type_text c.args.what) c.type_name_of.result) tells.table (c.type_name_of.ensures tuples) in
    let at = subst (λ (o : Option NameId). IfSome o (λ id. slice_get names id.0 ≡ Some (type_text c.args.what))) c.in-Some.is found.is in
    of_prelude names tells.modules e c.in-Some.name (type_text c.args.what) (type_of tells.modules) _ tells.entities at
    (λ known known_name. c.type_of.ensures names tells.modules known known_name tells.entities)
    ∙ sym (ap (λ (n : Names). n.prelude_type (type_text c.args.what)) tells.is)

pub returns-in-None : goal.returns-in-None
returns-in-None c = λ names top tells.
    let e = c.args.self.now.entities.now in
    let tuples = subst (λ (n : List (List ℕ)). AreTuples n e.tuples) (sym tells.table) tells.entities.tuples in
    let found = subst (λ (n : List (List ℕ)). IsFound n (type_text c.args.what) c.type_name_of.result) tells.table (c.type_name_of.ensures tuples) in
    no_type names tells.modules e (type_text c.args.what) (found.absent c.in-None.is) tells.entities
    ∙ sym (ap (λ (n : Names). n.prelude_type (type_text c.args.what)) tells.is)
