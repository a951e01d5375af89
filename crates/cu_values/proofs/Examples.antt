-- Displays of values, computed. The values stand as lists of cells.
use Rattle.std.specs.Prelude.{◌≡◌, ℕ, List, [], ◌∷◌, codes, map, refl, nat_le, ◌&&◌, pos, negsuc, slice_index_or}
use Rattle.std.specs.Char.{encode_utf8}
use Rattle.std.specs.Fmt.{digits}
use Rattle.std.proofs.Common.{◌-◌}
use Rattle.cu_calculus.specs.declared.Head.TheVariants as head
use Rattle.cu_calculus.specs.declared.Lit.TheVariants as lit
use Rattle.cu_values.specs.declared.cell.Cell.{Cell}
use Rattle.cu_values.specs.declared.cell.Cell.TheVariants as cell
use Rattle.cu_values.specs.Cells.{read}
use Rattle.cu_values.specs.Display.{display, Labels}

abbrev names : List (List ℕ)
names =
    codes "[]" ∷ codes ":" ∷ codes "()" ∷ codes "(,)" ∷ codes "(,,)" ∷ codes "Just" ∷ codes "Nothing" ∷ codes ":+" ∷ codes "Tree" ∷ []

abbrev labels : Labels
labels = record {
  constructor = λ c. slice_index_or names c.0 [];
  tuple = λ c. nat_le 2 c.0 && nat_le c.0 4;
  function = λ f. slice_index_or (codes "f" ∷ codes "g'" ∷ []) f.0 [];
  arity = λ f. slice_index_or (1 ∷ 2 ∷ []) f.0 0;
  nil = record { 0 = 0 };
  cons = record { 0 = 1 };
}

abbrev con : ℕ → ℕ → Cell
con c n = cell.Con (record { 0 = c }) n

abbrev nil : Cell
nil = con 0 0

abbrev cons : Cell
cons = con 1 2

abbrev pair : Cell
pair = con 3 2

abbrev just : Cell
just = con 5 1

abbrev int : ℕ → Cell
int n = cell.Lit (lit.Int (pos n))

-- a negative integer
abbrev minus : ℕ → Cell
minus n = cell.Lit (lit.Int (negsuc (n - 1)))

abbrev char : ℕ → Cell
char c = cell.Lit (lit.Char c)

abbrev function : ℕ → ℕ → Cell
function f n = cell.Part (head.Fun (record { 0 = f })) n

abbrev set_function : ℕ → ℕ → Cell
set_function f n = cell.Part (head.Set (record { 0 = f })) n

abbrev constructor : ℕ → ℕ → Cell
constructor c n = cell.Part (head.Con (record { 0 = c })) n

abbrev displays : List (List Cell × List ℕ)
displays =
    (int 1 ∷ [], codes "1")
    ∷ (minus 1 ∷ [], codes "-1")
    ∷ (minus 9223372036854775808 ∷ [], codes "-9223372036854775808")
    ∷ (char 97 ∷ [], codes "'a'")
    ∷ (char 10 ∷ [], codes "'\\n'")
    ∷ (char 39 ∷ [], codes "'\\''")
    ∷ (char 34 ∷ [], codes "'\"'")
    ∷ (char 233 ∷ [], 39 ∷ 195 ∷ 169 ∷ 39 ∷ [])
    ∷ (char 92 ∷ [], codes "'\\\\'")
    ∷ (char 127 ∷ [], codes "'\\127'")
    ∷ (cell.LVar 1 ∷ [], codes "_1")
    ∷ (nil ∷ [], codes "[]")
    ∷ (con 2 0 ∷ [], codes "()")
    ∷ (con 6 0 ∷ [], codes "Nothing")
    ∷ (just ∷ int 1 ∷ [], codes "Just 1")
    ∷ (just ∷ minus 1 ∷ [], codes "Just (-1)")
    ∷ (con 7 2 ∷ int 1 ∷ int 2 ∷ [], codes "(:+) 1 2")
    ∷ (function 0 0 ∷ [], codes "<f>")
    ∷ (constructor 5 0 ∷ [], codes "<Just>")
    ∷ (set_function 1 1 ∷ just ∷ int 1 ∷ [], codes "<set2>")
    ∷ (constructor 1 1 ∷ int 1 ∷ [], codes "<:>")
    ∷ (just ∷ function 1 1 ∷ int 1 ∷ [], codes "Just <g'>")
    ∷ (con 8 3 ∷ just ∷ minus 1 ∷ con 6 0 ∷ cell.LVar 1 ∷ [], codes "Tree (Just (-1)) Nothing _1")
    ∷ (just ∷ just ∷ just ∷ int 2 ∷ [], codes "Just (Just (Just 2))")
    ∷ (cons ∷ int 1 ∷ cons ∷ int 2 ∷ nil ∷ [], codes "[1,2]")
    ∷ (cons ∷ minus 1 ∷ nil ∷ [], codes "[-1]")
    ∷ (cons ∷ int 1 ∷ cons ∷ int 2 ∷ cell.LVar 1 ∷ [], codes "1:2:_1")
    ∷ (cons ∷ minus 1 ∷ cons ∷ just ∷ int 1 ∷ cell.LVar 1 ∷ [], codes "(-1):(Just 1):_1")
    ∷ (just ∷ cons ∷ int 1 ∷ cell.LVar 1 ∷ [], codes "Just (1:_1)")
    ∷ (cons ∷ cons ∷ int 1 ∷ cell.LVar 1 ∷ cell.LVar 2 ∷ [], codes "(1:_1):_2")
    ∷ (cons ∷ int 1 ∷ int 2 ∷ [], codes "(:) 1 2")
    ∷ (just ∷ cons ∷ int 1 ∷ int 2 ∷ [], codes "Just ((:) 1 2)")
    ∷ (cons ∷ int 1 ∷ cons ∷ int 2 ∷ con 6 0 ∷ [], codes "(:) 1 ((:) 2 Nothing)")
    ∷ (cons ∷ cons ∷ int 1 ∷ nil ∷ cons ∷ nil ∷ nil ∷ [], codes "[[1],[]]")
    ∷ (cons ∷ just ∷ int 1 ∷ cons ∷ cons ∷ int 1 ∷ cell.LVar 1 ∷ nil ∷ [], codes "[Just 1,1:_1]")
    ∷ (pair ∷ int 1 ∷ minus 1 ∷ [], codes "(1,-1)")
    ∷ (just ∷ pair ∷ int 1 ∷ int 2 ∷ [], codes "Just (1,2)")
    ∷ (just ∷ nil ∷ [], codes "Just []")
    ∷ (just ∷ cons ∷ int 1 ∷ nil ∷ [], codes "Just [1]")
    ∷ (cons ∷ cons ∷ int 1 ∷ nil ∷ cell.LVar 1 ∷ [], codes "[1]:_1")
    ∷ (con 4 3 ∷ just ∷ int 1 ∷ cons ∷ int 1 ∷ cell.LVar 1 ∷ nil ∷ [], codes "(Just 1,1:_1,[])")
    ∷ (cons ∷ pair ∷ int 1 ∷ int 2 ∷ cell.LVar 1 ∷ [], codes "(1,2):_1")
    ∷ (cons ∷ char 97 ∷ cell.LVar 1 ∷ [], codes "'a':_1")
    ∷ (cons ∷ char 97 ∷ cons ∷ int 1 ∷ nil ∷ [], codes "['a',1]")
    ∷ (cons ∷ int 1 ∷ cons ∷ char 97 ∷ nil ∷ [], codes "[1,'a']")
    ∷ (just ∷ just ∷ con 2 0 ∷ [], codes "Just (Just ())")
    -- a text between other components
    ∷ (
      con 4 3 ∷ cons ∷ char 1 ∷ cons ∷ char 57 ∷ cons ∷ char 39 ∷ nil ∷ just ∷ minus 1 ∷ cons ∷ minus 2 ∷ nil ∷ [],
      codes "(\"\\1\\&9'\",Just (-1),[-2])",
    )
    ∷ (cons ∷ cons ∷ char 97 ∷ nil ∷ cons ∷ cons ∷ char 98 ∷ nil ∷ nil ∷ [], codes "[\"a\",\"b\"]")
    ∷ []

pub displays_hold : map (λ p. display labels (read p.0)) displays ≡ map (λ p. p.1) displays
unfolding digits encode_utf8
displays_hold = refl
