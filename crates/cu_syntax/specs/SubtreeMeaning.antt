-- What a part of a tree stands for, under a table of names.
use Rattle.std.specs.Prelude.{ℕ, List, map}
use Rattle.cu_lex.specs.Reading.{lexeme_of}
use Rattle.cu_peg.specs.Spelling.{read}
use Rattle.cu_syntax.specs.declared.subtree.Subtree.{Subtree}
use Rattle.cu_syntax.specs.Reading.{Tree}
use Rattle.cu_syntax.specs.Subtrees.{over}

abbrev pub tree_of : List (List ℕ) → Subtree → Tree
tree_of names part = over (map (lexeme_of names) part.tokens.now) (read part.nodes.now)
