-- The notation of FlatCurry's text (Hanus and others): quoted names, lists and parentheses. Texts
-- are lists of bytes, in UTF-8.
use Rattle.std.specs.Prelude.{ℕ, Bool, true, false, List, [], ◌∷◌, ◌++◌, codes, if◌then◌else◌, map, nat_eq}
use Rattle.std.specs.List.{flat_map}
use Rattle.cu_kernel.specs.declared.declarations.Side.{Side}
use Rattle.cu_kernel.specs.declared.declarations.Side.TheVariants as to

-- ---- names

-- a byte in a quoted text: a backslash stands twice
abbrev pub escaped_byte : ℕ → List ℕ
escaped_byte b = if nat_eq b 92 then 92 ∷ 92 ∷ [] else b ∷ []

-- a text in quotes, in which a backslash stands twice
abbrev pub quoted : List ℕ → List ℕ
quoted text = codes "\"" ++ (flat_map escaped_byte text ++ codes "\"")

-- an entity: the name of the module that declares it, and its own name
pub record Entity : Type 0 where
  pub owner : List ℕ
  pub name : List ℕ

-- an entity as a pair of quoted names, as `("M","f")`
abbrev pub entity_text : Entity → List ℕ
entity_text e = codes "(" ++ (quoted e.owner ++ (codes "," ++ (quoted e.name ++ codes ")")))

-- ---- lists

-- further elements of a list, each after a comma, as `,b,c`
abbrev pub further : List (List ℕ) → List ℕ
further [] = []
further (x ∷ xs) = codes "," ++ (x ++ further xs)

-- the elements of a list with commas between them, as `a,b,c`
abbrev pub separated : List (List ℕ) → List ℕ
separated [] = []
separated (x ∷ xs) = x ++ further xs

-- a list in square brackets, as `[a,b,c]`
abbrev pub list_text : List (List ℕ) → List ℕ
list_text xs = codes "[" ++ (separated xs ++ codes "]")

-- a text on a new line
abbrev pub on_a_line : List ℕ → List ℕ
on_a_line text = codes "\n" ++ text

-- a list whose elements stand on lines of their own
abbrev pub lines_text : List (List ℕ) → List ℕ
lines_text texts = list_text (map on_a_line texts)

-- A term in parentheses. A term with arguments has them where it is an argument itself, but not as
-- an element of a list or of a pair.
abbrev pub in_parentheses : List ℕ → List ℕ
in_parentheses text = codes "(" ++ (text ++ codes ")")

-- ---- words

-- whether an entity is public
abbrev pub visibility_text : Bool → List ℕ
visibility_text true = codes "Public"
visibility_text false = codes "Private"

-- on which side an operator associates
abbrev pub side_text : Side → List ℕ
side_text to.Left = codes "InfixlOp"
side_text to.Right = codes "InfixrOp"
side_text to.Neither = codes "InfixOp"
