use Rattle.cu_calculus.specs.declared.builtin.Primitive.TheVariants as prim
use Rattle.cu_kernel.specs.TypesOf.{type_of}
use Rattle.cu_toplevel.proofs.ExternalLemmas.{compares, computes, is_type_of, tests_any}
use Rattle.cu_toplevel.proofs.TypeLemmas.{if_ok}
use Rattle.cu_toplevel.proofs.external_types.external_type.Goals as goal

pub returns-in-Add : goal.returns-in-Add
returns-in-Add c = λ names around tells. if_ok c.from_two_to.result (λ made. computes around c.args.operation (type_of made) c.in-Add.is) (c.from_two_to.ensures names around tells)

pub returns-in-Less : goal.returns-in-Less
returns-in-Less c = λ names around tells. if_ok c.from_two_to-in-Less.result (λ made. compares around c.args.operation (type_of made) c.in-Less.is) (c.from_two_to-in-Less.ensures names around tells)

pub returns-in-Equal : goal.returns-in-Equal
returns-in-Equal c = λ names around tells. if_ok c.on_any.result (λ made. tests_any around c.args.operation (type_of made) c.in-Equal.is) (c.on_any.ensures names around tells)

pub returns-in-And : goal.returns-in-And
returns-in-And c = λ names around tells. if_ok c.from_two_to-in-And.result (λ made. is_type_of around c.args.operation prim.And (type_of made) c.in-And.is) (c.from_two_to-in-And.ensures names around tells)

pub returns-in-Ord : goal.returns-in-Ord
returns-in-Ord c = λ names around tells. if_ok c.from_to.result (λ made. is_type_of around c.args.operation prim.Ord (type_of made) c.in-Ord.is) (c.from_to.ensures names around tells)

pub returns-in-Chr : goal.returns-in-Chr
returns-in-Chr c = λ names around tells. if_ok c.from_to-in-Chr.result (λ made. is_type_of around c.args.operation prim.Chr (type_of made) c.in-Chr.is) (c.from_to-in-Chr.ensures names around tells)
