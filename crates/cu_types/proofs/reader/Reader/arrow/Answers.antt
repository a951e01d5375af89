use Rattle.std.proofs.Common.{List, ℕ, ◌∷◌, ◌++◌, [], ap, ◌∙◌}
use Rattle.cu_types.proofs.BuiltInLemmas.{arrow_read}
use Rattle.cu_types.proofs.reader.Reader.arrow.Goals as goal
use Rattle.cu_types.specs.Inside.Reading.{shapes}

pub returns-clause-read : goal.returns-clause-read
returns-clause-read c =
    arrow_read (shapes c.args.self.now) (shapes c.apply.new.self) c.args.left c.args.right c.push-2.new.self.items c.in_ok-place.place
    (c.in_ok-push-2.ensures.items ∙ ap (λ (xs : List ℕ). xs ++ c.args.right ∷ [])
    (c.in_ok-push.ensures.items ∙ ap (λ (xs : List ℕ). xs ++ c.args.left ∷ []) c.new-arguments.ensures.items))
    c.in_ok-place.ensures.read
