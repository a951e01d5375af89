use Rattle.std.proofs.Common.{OnOk, [], refl, sym, subst}
use Rattle.cu_calculus.specs.declared.Head.TheVariants as variants
use Rattle.cu_calculus.specs.declared.Head.{Head}
use Rattle.cu_kernel.specs.TypeExpr.{TypeExpr}
use Rattle.cu_types.proofs.WalkLemmas.{scheme_walks, with_asking}
use Rattle.cu_types.specs.Equations as asked
use Rattle.cu_types.specs.Equations.{head_asks}
use Rattle.cu_types.specs.Inside.Asking.{StandsAt}
use Rattle.cu_types.specs.Inside.Knowing.{scheme_of}
use Rattle.cu_types.specs.Inside.Walking.{Walks, heads}
use Rattle.cu_types.proofs.walk.Walk.head.Goals as goal

pub returns-in_ok-scheme-in-Fun : goal.returns-in_ok-scheme-in-Fun
returns-in_ok-scheme-in-Fun c = λ t at_whole.
    subst (λ (h : Head). Walks c.args.self.now (with_asking c.args.self.now c.scheme.new.self) (head_asks (heads c.args.self.now) h t))
    (sym c.in-Fun.is)
    (scheme_walks c.args.self.now c.scheme.new.self (variants.Fun c.in-Fun.f) (scheme_of c.function-scheme.result)
    ((heads c.args.self.now).function c.in-Fun.f) t c.function-scheme.ensures (c.in_ok-scheme-in-Fun.ensures t at_whole) refl)

pub returns-in_ok-scheme-in-Con : goal.returns-in_ok-scheme-in-Con
returns-in_ok-scheme-in-Con c = λ t at_whole.
    subst (λ (h : Head). Walks c.args.self.now (with_asking c.args.self.now c.scheme-in-Con.new.self) (head_asks (heads c.args.self.now) h t))
    (sym c.in-Con.is)
    (scheme_walks c.args.self.now c.scheme-in-Con.new.self (variants.Con c.in-Con.c) (scheme_of c.constructor-scheme.result)
    (asked.Polymorphic [] ((heads c.args.self.now).constructor c.in-Con.c)) t c.constructor-scheme.ensures
    (c.in_ok-scheme-in-Con.ensures t at_whole) refl)

pub returns-in-Set : goal.returns-in-Set
returns-in-Set c =
    subst (λ (h : Head). OnOk c.set.result ((t : TypeExpr) → StandsAt c.args.self.now.asking c.args.whole t
    → Walks c.args.self.now c.set.new.self (head_asks (heads c.args.self.now) h t))) (sym c.in-Set.is) c.set.ensures
