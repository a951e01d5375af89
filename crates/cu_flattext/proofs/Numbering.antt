-- Numbers of variables, and lists of numbers.
use Rattle.std.proofs.Common.{◌≡◌, ℕ, zero, suc, ◌+◌, ◌-◌, ◌<◌, List, ◌∷◌, ◌++◌, codes, drop, get_or, length, refl, sym, ap, ◌∙◌, arith, append_assoc}
use Rattle.std.proofs.lemmas.List.{drop_more}
use Rattle.std.proofs.lemmas.Bool.{eqb-true}
use Rattle.std.specs.Fmt.{decimal}
use mathlib.Core.Path.{fun_ext}
use Rattle.std.specs.Prelude.{Bool, true, false, nat_eq}
use Rattle.cu_flattext.specs.ExpressionTexts.{Numbers, all_numbered, apply_text, numbered, set_text}
use Rattle.cu_flattext.specs.Naming.{further, separated}
use Rattle.cu_flattext.specs.TypeTexts.{numbers_from}

pub numbers_more : (n k : ℕ) → 0 < k → numbers_from n k ≡ decimal n ∷ numbers_from (n + 1) (k - 1)
numbers_more n zero h = absurd (omega (arith, h))
numbers_more n (suc k) h = let e : suc k - 1 ≡ k = omega arith in rw e refl

-- the first number of a list
pub first_number : (n count : ℕ) (old bracket text : List ℕ) → 0 < count → bracket ≡ old ++ codes "[" → text ≡ bracket ++ decimal n
    → text ++ further (numbers_from (n + 1) (count - 1)) ≡ old ++ (codes "[" ++ separated (numbers_from n count))
first_number n count old bracket text some e f =
    rw (f, e, numbers_more n count some, append_assoc, append_assoc) refl

-- one more number
pub one_more_number : (n count i : ℕ) (text comma after : List ℕ) → i < count → comma ≡ text ++ codes "," → after ≡ comma ++ decimal (n + i)
    → after ++ further (numbers_from (n + (i + 1)) (count - (i + 1))) ≡ text ++ further (numbers_from (n + i) (count - i))
one_more_number n count i text comma after some e f =
    let k : n + i + 1 ≡ n + (i + 1) = omega arith in
    let m : count - i - 1 ≡ count - (i + 1) = omega arith in
    rw (f, e, numbers_more (n + i) (count - i) (omega (arith, some)), k, m, append_assoc, append_assoc) refl

by_test : (x y k : ℕ) (numbers : Numbers) (b : Bool) → nat_eq x y ≡ b → numbered x (numbers x) (numbered x k numbers) y ≡ numbers y
by_test x y k numbers true e = rw e (ap numbers (eqb-true x y e))
by_test x y k numbers false e = rw e refl

-- a variable gets the number back that it had
pub rebound : (x k : ℕ) (numbers : Numbers) → numbered x (numbers x) (numbered x k numbers) ≡ numbers
rebound x k numbers = fun_ext (λ y. by_test x y k numbers (nat_eq x y) refl)

-- one more variable gets a number
pub one_more_bound : (xs : List ℕ) (i y n m : ℕ) (numbers after whole : Numbers) → i < length xs → y ≡ get_or xs i 0 → m ≡ n + 1
    → after ≡ numbered y n numbers → all_numbered (drop i xs) n numbers ≡ whole → all_numbered (drop (i + 1) xs) m after ≡ whole
one_more_bound xs i y n m numbers after whole below is next e before =
    rw (e, next, is) (ap (λ ys. all_numbered ys n numbers) (sym (drop_more xs i 0 below)) ∙ before)

pub set_written : (n : ℕ) (old first second third : List ℕ) → first ≡ old ++ codes "(\"SetFunctions\",\"set" → second ≡ first ++ decimal n
    → third ≡ second ++ codes "\")" → third ≡ old ++ set_text n
unfolding set_text
set_written n old first second third e f g =
    let a = codes "(\"SetFunctions\",\"set" in
    let b = codes "\")" in
    g ∙ ap (λ (t : List ℕ). t ++ b) (f ∙ ap (λ (t : List ℕ). t ++ decimal n) e)
    ∙ append_assoc (old ++ a) (decimal n) b ∙ append_assoc old a (decimal n ++ b)

pub apply_written : (old new : List ℕ) → new ≡ old ++ codes "FuncCall (\"Prelude\",\"apply\")" → new ≡ old ++ apply_text
unfolding apply_text
apply_written old new e = e
