use Rattle.std.proofs.Common.{ℕ, List, Option, IfOk, [], ◌∷◌, ◌++◌, sym, ap, ◌∙◌, subst}
use Rattle.cu_types.proofs.AskingLemmas.{adds_values}
use Rattle.cu_types.specs.Inside.Asking.{Adds}
use Rattle.cu_types.specs.Inside.Knowing.{values_at}
use Rattle.cu_types.specs.Inside.Reading.{shapes}
use Rattle.cu_types.specs.Table.{at, trees}
use Rattle.cu_types.proofs.asking.Asking.values.Goals as goal

pub returns-in_ok-made-in-Some : goal.returns-in_ok-made-in-Some
returns-in_ok-made-in-Some c =
    subst (λ (v : Option ℕ). Adds c.args.self.now (record { reader = c.apply.new.self; pairs = c.args.self.now.pairs; next = c.args.self.now.next })
    (values_at v (at (trees (shapes c.args.self.now.reader)) c.args.place)) c.in_ok-made-in-Some.made) (sym c.in-Some.is)
    (adds_values c.args.self.now c.apply.new.self c.in-Some.data_type c.args.place c.push.new.self.items c.in_ok-made-in-Some.made
    (c.in_ok-push-in-Some.ensures.items ∙ ap (λ (xs : List ℕ). xs ++ c.args.place ∷ []) c.new-arguments.ensures.items)
    c.in_ok-made-in-Some.ensures.reader c.in_ok-made-in-Some.ensures.read)

pub returns-in-None : goal.returns-in-None
returns-in-None c =
    subst (λ (v : Option ℕ). IfOk c.variable.result (Adds c.args.self.now c.variable.new.self
    (values_at v (at (trees (shapes c.args.self.now.reader)) c.args.place)))) (sym c.in-None.is) c.variable.ensures
