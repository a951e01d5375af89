use Rattle.std.proofs.Common.{List, Option, sym, ap, ◌∙◌}
use Rattle.cu_kernel.specs.TypeExpr.{TypeExpr}
use Rattle.cu_types.proofs.KnownLemmas.{variables_taken}
use Rattle.cu_types.specs.BuiltInTypes.{variables_from}
use Rattle.cu_types.specs.Equations as asked
use Rattle.cu_types.specs.Inside.Knowing.{member_scheme}
use Rattle.cu_types.proofs.known.Member.scheme.Goals as goal

pub returns-in-Some : goal.returns-in-Some
returns-in-Some c =
    ap (λ (ts : List TypeExpr). asked.Polymorphic ts c.in-Some.declared)
    (ap (variables_from c.args.self.now.first) c.min.ensures
    ∙ sym (variables_taken c.args.self.now.captured c.args.self.now.first c.args.self.now.arity))
    ∙ sym (ap (λ (d : Option TypeExpr). member_scheme c.args.self.now d) c.in-Some.is)
