use Rattle.std.proofs.Common.{ℕ, List, subst, sym}
use Rattle.cu_front.specs.Loaded.{IsLoaded}
use Rattle.translation_tests.proofs.loaded.answer.Goals as goal

pub ask-requires : goal.ask-requires
ask-requires c = subst (λ (t : List (List ℕ)). IsLoaded t c.args.loaded.now) (sym c.in_ok-table.ensures) c.requires
