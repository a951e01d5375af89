use Rattle.std.proofs.Common.{◌≡◌, [], length, ap, ◌∙◌}
use Rattle.std.proofs.lemmas.Result.{IfOk-weaker}
use Rattle.std.specs.Arc.{arc_value}
use Rattle.cu_frozen.specs.Layers.{laid}
use Rattle.cu_frozen.proofs.Stacks.{none_laid}
use Rattle.cu_frozen.proofs.store.FrozenStoreStore.empty.Goals as goal

pub over-requires : goal.over-requires
over-requires c = ap (λ layers. length (laid [] layers)) (c.in_ok-frozen.ensures.ok ∙ c.new.ensures) ∙ ap length (none_laid [])

pub returns : goal.returns
returns c =
    IfOk-weaker c.over.result (λ store. store ≡ laid [] (arc_value c.in_ok-frozen.frozen)) (λ store. store ≡ [])
    (λ _ same. same ∙ ap (laid []) (c.in_ok-frozen.ensures.ok ∙ c.new.ensures) ∙ none_laid []) c.over.ensures
