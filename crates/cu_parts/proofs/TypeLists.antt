-- Types in a list of their own, and in a plain list.
use Rattle.std.proofs.Common.{◌≡◌, ◌<◌, ℕ, Bool, List, [], ◌∷◌, ◌&&◌, length, map, refl, sym, ◌∙◌, ap}
use Rattle.std.proofs.lemmas.Bool.{lt-ltb}
use Rattle.std.proofs.lemmas.List.{length-map}
use Rattle.std.specs.List.{list_all}
use Rattle.cu_calculus.specs.Valid.{is_arity}
use Rattle.cu_kernel.specs.KernelOf.{constructor_meaning}
use Rattle.cu_kernel.specs.LocalKernel.{LocalKernel}
use Rattle.cu_kernel.specs.LocalValid.{all_have_parameters, all_name_types, has_parameters, is_constructor, names_types}
use Rattle.cu_kernel.specs.TypesOf.{type_of, types_of}
use Rattle.cu_kernel.specs.declared.declarations.Constructor.{Constructor}
use Rattle.cu_kernel.specs.declared.type_term.TypeTerm.{TypeTerm}

pub parameters-types_of : (count : ℕ) (ts : List TypeTerm)
    → all_have_parameters count (types_of ts) ≡ list_all (has_parameters count) (map type_of ts)
parameters-types_of count [] = refl
parameters-types_of count (t ∷ ts) = ap (λ b. has_parameters count (type_of t) && b) (parameters-types_of count ts)

pub names-types_of : (kernel : LocalKernel) (ts : List TypeTerm)
    → all_name_types kernel (types_of ts) ≡ list_all (names_types kernel) (map type_of ts)
names-types_of kernel [] = refl
names-types_of kernel (t ∷ ts) = ap (λ b. names_types kernel (type_of t) && b) (names-types_of kernel ts)

pub ruleset listed = (parameters-types_of, names-types_of)

-- a constructor with few enough fields
pub constructor_by : (count : ℕ) (c : Constructor) (b : Bool) → length c.fields.items < 4294967295 → b ≡ all_have_parameters count (types_of c.fields.items)
    → b ≡ is_constructor count (constructor_meaning c)
constructor_by count c b low is =
    let ts = c.fields.items in
    let few : is_arity (length (map type_of ts)) ≡ is_arity (length ts) = ap is_arity (length-map ts type_of) in
    is ∙ parameters-types_of count ts
    ∙ sym (ap (λ x. x && list_all (has_parameters count) (map type_of ts)) (few ∙ lt-ltb (length ts) 4294967295 low))
