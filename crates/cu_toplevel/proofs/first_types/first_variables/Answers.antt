use Rattle.std.proofs.Common.{◌≡◌, ◌∙◌, ◌++◌, ◌∷◌, List, [], ap, ap₂, arith, map}
use Rattle.std.proofs.lemmas.List.{map-append}
use Rattle.cu_kernel.specs.TypeExpr.{TypeExpr}
use Rattle.cu_kernel.specs.declared.type_term.TypeTerm.TheVariants as variant
use Rattle.cu_kernel.specs.TypesOf.{type_of, type_of-Var}
use Rattle.cu_translation.specs.ModuleTypes.{variables_from}
use Rattle.cu_toplevel.proofs.FirstTypeLemmas.{variables_more}
use Rattle.cu_toplevel.proofs.first_types.first_variables.Goals as goal

pub variables-preserved : goal.variables-preserved
variables-preserved c =
    let n = c.variables.number in
    ap (map type_of) c.in_ok-push.ensures.items ∙ map-append type_of c.variables.variables.items (variant.Var n ∷ [])
    ∙ ap₂ (λ (ts : List TypeExpr) (t : TypeExpr). ts ++ t ∷ []) c.variables.invariant (type_of-Var n) ∙ variables_more n

pub returns : goal.returns
returns c =
    let all : c.variables.number ≡ c.args.count = omega (arith, c.variables-test.false, c.variables.auto.number-end) in
    c.variables.invariant ∙ ap (λ n. variables_from n 0) all
