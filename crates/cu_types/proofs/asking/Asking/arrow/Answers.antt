use Rattle.std.proofs.Common.{List, ℕ, ◌∷◌, ◌++◌, [], ap, ◌∙◌}
use Rattle.cu_types.proofs.AskingLemmas.{adds_arrow}
use Rattle.cu_types.proofs.asking.Asking.arrow.Goals as goal

pub returns : goal.returns
returns c =
    adds_arrow c.args.self.now c.apply.new.self c.args.left c.args.right c.push-2.new.self.items c.in_ok-place.place
    (c.in_ok-push-2.ensures.items ∙ ap (λ (xs : List ℕ). xs ++ c.args.right ∷ [])
    (c.in_ok-push.ensures.items ∙ ap (λ (xs : List ℕ). xs ++ c.args.left ∷ []) c.new-arguments.ensures.items))
    c.in_ok-place.ensures.reader c.in_ok-place.ensures.read
