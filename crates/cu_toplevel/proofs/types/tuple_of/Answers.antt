use Rattle.std.proofs.Common.{◌≡◌, ◌∙◌, ap, arith, length}
use Rattle.cu_kernel.specs.declared.type_term.TypeName.{TypeName}
use Rattle.cu_kernel.specs.TypeExpr.{Named}
use Rattle.cu_kernel.specs.TypesOf.{type_of-Named, types_of}
use Rattle.cu_translation.specs.Around.{tuple_name}
use Rattle.cu_toplevel.proofs.types.tuple_of.Goals as goal

pub returns : goal.returns
returns c = λ names around tells.
    let size : c.len.result ≡ length c.args.components.items = omega arith in
    type_of-Named c.prelude_type-name.result c.args.components
    ∙ ap (λ (id : TypeName). Named id (types_of c.args.components.items)) (c.prelude_type-name.ensures names around tells ∙ ap (λ n. around.prelude_type (tuple_name n)) size)
