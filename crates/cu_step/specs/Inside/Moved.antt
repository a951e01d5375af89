-- The move that the code's outcome of a row of the step table stands for, however graphs are kept.
use Rattle.std.specs.Prelude.{map}
use Rattle.cu_machine.specs.Graph.{Graph}
use Rattle.cu_machine.specs.Rewrite as rewrite
use Rattle.cu_machine.specs.Rewrite.{Move}
use Rattle.cu_step.specs.declared.moved.Moved.{Moved}
use Rattle.cu_step.specs.declared.moved.Moved.TheVariants as moved

-- the move that an outcome of the code stands for, where `content` says which graph a store has
abbrev pub move_of : {S : Type 0} → (S → Graph) → Moved S → Move
move_of content (moved.Alone store) = rewrite.alone_follows (content store)
move_of content (moved.Become stores) = rewrite.Become (map content stores.items)
move_of content (moved.Overflow operation m n) = rewrite.Overflows operation m n
