-- Laws of the definition of tokens.
use Rattle.std.specs.Prelude.{◌≡◌, ℕ, ◌<◌, ◌≤◌, ◌↔◌, List, ◌++◌, length, None, Some, IsTrue}
use Rattle.std.specs.Str.{IsUtf8}
use Rattle.cu_lex.specs.Decoding.{begins_text}
use Rattle.cu_lex.specs.Located.{Located}
use Rattle.cu_lex.specs.Munch.{Cut, Classes, cut_all, cut_within, longest, IsLongest}

-- `longest` gives a cut exactly where it is the longest of a class.
abbrev pub GivesLongest : {X : Type 0} → Classes X → Type 0
GivesLongest {X} classes = (text : List Located) (cut : Cut X)
    → (longest classes text ≡ Some cut) ↔ IsLongest classes text cut

-- `longest` gives nothing exactly where no class allows a prefix of the text.
abbrev pub GivesNone : {X : Type 0} → Classes X → Type 0
GivesNone classes =
    (text : List Located)
    → (longest classes text ≡ None) ↔ ((prefix rest : List Located) → prefix ++ rest ≡ text
    → 0 < length prefix → classes prefix rest ≡ None)

-- Bytes begin a UTF-8 text where some bytes complete them to one.
abbrev pub BeginsTexts : Type 0
BeginsTexts = (bytes : List ℕ)
    → IsTrue (begins_text bytes) ↔ ((rest : List ℕ) × IsUtf8 (bytes ++ rest))

-- The pieces of a text are the same, however many steps above the number of its characters are
-- allowed.
abbrev pub StepsSuffice : {X : Type 0} → Classes X → Type 0
StepsSuffice classes = (n : ℕ) (text : List Located) → length text ≤ n
    → cut_within classes n text ≡ cut_all classes text
