use Rattle.std.proofs.Common.{ℕ, ◌≡◌, List, None, map, take}
use Rattle.std.specs.List.{All}
use Rattle.cu_modules.specs.Reading.{HasModule}
use Rattle.cu_names.specs.Texts.{AllDiffer}
use Rattle.cu_syntax.specs.Answer.{item_meaning}
use Rattle.cu_toplevel.specs.Heads.{HeadIsOf, head_meaning, head_of_group}
use Rattle.cu_toplevel.specs.Inside.Heads.{IsBegun, begun_after}
use Rattle.cu_translation.specs.Rules.{groups, rule_in_item}
use Rattle.cu_toplevel.proofs.function_heads.heads.Given as goal

abbrev pub invariant-items : goal.invariant-items
invariant-items l = (names : List (List ℕ)) → AllDiffer names → HasModule names l.«module»
    → IsBegun names (begun_after None (map (λ i. rule_in_item (item_meaning names i)) (take l.item-index l.item-items))) l.begun
    × (map (head_meaning names) l.heads.items ≡ map head_of_group (groups (map (λ i. rule_in_item (item_meaning names i)) (take l.item-index l.item-items))))
    × All (HeadIsOf l.«module».name names) l.heads.items
