-- Maximal munch: texts in pieces, each the longest that its classes allow.
use Rattle.std.specs.Prelude.{◌≡◌, ℕ, zero, suc, ◌<◌, ◌≤◌, List, [], ◌∷◌, ◌++◌, length, Option, None, Some, IsSome}
use Rattle.std.specs.Option.{option_map, option_or}
use Rattle.cu_lex.specs.Located.{Position, Located}

-- What classes say of a prefix of a text before what follows it: what it is, or None where it is of
-- no class.
abbrev pub Classes : Type 0 → Type 0
Classes X = List Located → List Located → Option X

-- A prefix of a text, what it is, and what follows it.
pub record Cut (X : Type 0) : Type 0 where
  pub prefix : List Located
  pub what : X
  pub rest : List Located

-- The cut between a prefix and what is left.
abbrev pub cut_at : {X : Type 0} → List Located → List Located → X → Cut X
cut_at begun left x = record { prefix = begun; what = x; rest = left }

-- The longest prefix of a class, of the prefixes that begin with `begun` and go on into `text`.
unfoldable pub longest_after : {X : Type 0} → Classes X → List Located → List Located
    → Option (Cut X)
longest_after classes begun [] = None
longest_after classes begun (c ∷ text) =
    let prefix = begun ++ c ∷ [] in
    option_or (longest_after classes prefix text)
    (option_map (cut_at prefix text) (classes prefix text))

-- The longest prefix of a class.
abbrev pub longest : {X : Type 0} → Classes X → List Located → Option (Cut X)
longest classes text = longest_after classes [] text

-- What makes a cut the longest: its prefix has a character at least and is of a class, and no
-- longer prefix is.
pub record IsLongest {X : Type 0} (classes : Classes X) (text : List Located)
    (cut : Cut X) : Type 0 where
  pub whole : cut.prefix ++ cut.rest ≡ text
  pub some : 0 < length cut.prefix
  pub allowed : classes cut.prefix cut.rest ≡ Some cut.what
  pub most : (prefix rest : List Located) → prefix ++ rest ≡ text → IsSome (classes prefix rest)
      → length prefix ≤ length cut.prefix

-- A piece of a text, at the place of its first character.
pub record Placed (X : Type 0) : Type 0 where
  pub what : X
  pub at : Position

-- The pieces of a text in order, and what is left of it where no piece begins.
pub record Pieces (X : Type 0) : Type 0 where
  pub pieces : List (Placed X)
  pub left : List Located

-- No pieces, and all of the text is left.
abbrev pub no_pieces : {X : Type 0} → List Located → Pieces X
no_pieces text = record { pieces = []; left = text }

-- One more piece, before the others.
abbrev pub with_piece : {X : Type 0} → X → Position → Pieces X → Pieces X
with_piece x p more =
    record { pieces = record { what = x; at = p } ∷ more.pieces; left = more.left }

-- The pieces from a cut on, where `further` gives those of what follows.
abbrev pub pieces_from : {X : Type 0} → (List Located → Pieces X) → Located → List Located
    → Option (Cut X) → Pieces X
pieces_from further c text None = no_pieces (c ∷ text)
pieces_from further c text (Some cut) = with_piece cut.what c.at (further cut.rest)

-- The longest pieces from the left, at most n of them.
unfoldable pub cut_within : {X : Type 0} → Classes X → ℕ → List Located → Pieces X
cut_within classes zero text = no_pieces text
cut_within classes (suc n) [] = no_pieces []
cut_within classes (suc n) (c ∷ text) =
    pieces_from (cut_within classes n) c text (longest classes (c ∷ text))

-- The longest pieces from the left. Each takes a character at least, so there are no more of them
-- than characters.
abbrev pub cut_all : {X : Type 0} → Classes X → List Located → Pieces X
cut_all classes text = cut_within classes (length text) text
