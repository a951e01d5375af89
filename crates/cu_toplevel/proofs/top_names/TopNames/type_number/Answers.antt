use Rattle.std.proofs.Common.{◌≡◌, ℕ, List, subst, sym}
use Rattle.cu_toplevel.specs.Surrounding.{type_text}
use Rattle.cu_toplevel.specs.TupleTables.{AreTuples}
use Rattle.cu_translation.specs.ModuleNames.{id_of}
use Rattle.cu_toplevel.proofs.top_names.TopNames.type_number.Goals as goal

pub returns : goal.returns
returns c = λ names top tells.
    let tuples = subst (λ (n : List (List ℕ)). AreTuples n c.args.self.now.entities.now.tuples) (sym tells.table) tells.entities.tuples in
    subst (λ (n : List (List ℕ)). c.number_of.result ≡ id_of n (type_text c.args.what)) tells.table (c.number_of.ensures (type_text c.args.what) (c.type_name_of.ensures tuples))
