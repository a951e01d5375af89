-- In the code of a program each expression stands after its parts.
use Rattle.std.proofs.Common.{◌≡◌, ℕ, ◌+◌, ◌-◌, ◌≤◌, true, List, [], ◌∷◌, ◌++◌, IsTrue, length, nat_lt, refl, subst, arith, length-append}
use Rattle.std.proofs.lemmas.Bool.{and_from, and_parts, lt-ltb}
use Rattle.cu_calculus.specs.Code as code
use Rattle.cu_calculus.specs.Code.{Expr}
use Rattle.cu_calculus.specs.Program as calculus
use Rattle.cu_calculus.specs.Program.{Body, Function, Program}
use Rattle.cu_calculus.specs.Term as term
use Rattle.cu_calculus.specs.Term.{Alternatives, Term, Terms}
use Rattle.cu_calculus.specs.Valid.{all_variables, variables_of}
use Rattle.cu_flat.specs.Layout.{binding, body_layout, body_size, branch_layouts, branch_sizes, branches, expressions_from, kept_of, laid_out, layout, layouts, place, places, size, sizes}
use Rattle.cu_flat.specs.Order.{are_below, bodies_of, parts_of, stand_after_parts}
use Rattle.cu_flat.proofs.Lengths.{length-body, length-branch_layouts, length-layout, length-layouts, size-some}

-- expressions after others
after-append : (n m : ℕ) (xs ys : List Expr) → n + length xs ≡ m → IsTrue (stand_after_parts n xs) → IsTrue (stand_after_parts m ys)
    → IsTrue (stand_after_parts n (xs ++ ys))
after-append n m [] ys is first second = subst (λ (k : ℕ). IsTrue (stand_after_parts k ys)) (omega (arith, is)) second
after-append n m (x ∷ xs) ys is first second =
    let parts = and_parts (are_below n (parts_of x)) (stand_after_parts (n + 1) xs) first in
    and_from (are_below n (parts_of x)) (stand_after_parts (n + 1) (xs ++ ys)) parts.0
    (after-append (n + 1) m xs ys (omega (arith, is)) parts.1 second)

-- an expression after others, among which its parts are
after-own : (n m : ℕ) (xs : List Expr) (e : Expr) → n + length xs ≡ m → IsTrue (stand_after_parts n xs) → IsTrue (are_below m (parts_of e))
    → IsTrue (stand_after_parts n (xs ++ e ∷ []))
after-own n m xs e is first below = after-append n m xs (e ∷ []) is first (and_from (are_below m (parts_of e)) true below refl)

place-below : (n m : ℕ) (t : Term) → n + size t ≤ m → IsTrue (nat_lt (place n t).0 m)
place-below n m t le = lt-ltb (n + (size t - 1)) m (omega (arith, size-some t, le))

one-below : (n m : ℕ) (t : Term) → n + size t ≤ m → IsTrue (are_below m (place n t ∷ []))
one-below n m t le = and_from (nat_lt (place n t).0 m) true (place-below n m t le) refl

two-below : (n k m : ℕ) (a b : Term) → n + size a ≤ m → k + size b ≤ m → IsTrue (are_below m (place n a ∷ place k b ∷ []))
two-below n k m a b first second = and_from (nat_lt (place n a).0 m) (are_below m (place k b ∷ [])) (place-below n m a first) (one-below k m b second)

places-below : (n m : ℕ) (ts : Terms) → n + sizes ts ≤ m → IsTrue (are_below m (places n ts))
places-below n m term.NoTerm le = refl
places-below n m (term.MoreTerms t ts) le =
    and_from (nat_lt (place n t).0 m) (are_below m (places (n + size t) ts)) (place-below n m t (omega (arith, le)))
    (places-below (n + size t) m ts (omega (arith, le)))

bodies-below : (n m : ℕ) (alternatives : Alternatives) → n + branch_sizes alternatives ≤ m → IsTrue (are_below m (bodies_of (branches n alternatives)))
bodies-below n m term.NoAlternative le = refl
bodies-below n m (term.MoreAlternatives p t alternatives) le =
    and_from (nat_lt (place n t).0 m) (are_below m (bodies_of (branches (n + size t) alternatives))) (place-below n m t (omega (arith, le)))
    (bodies-below (n + size t) m alternatives (omega (arith, le)))

pair-after : (n : ℕ) (scope inner : List ℕ) (a b : Term) (e : Expr) → IsTrue (stand_after_parts n (layout n scope a))
    → IsTrue (stand_after_parts (n + size a) (layout (n + size a) inner b)) → IsTrue (are_below (n + size a + size b) (parts_of e))
    → IsTrue (stand_after_parts n (layout n scope a ++ layout (n + size a) inner b ++ e ∷ []))
pair-after n scope inner a b e first second below =
    let m = n + size a in
    let xs = layout n scope a in
    let ys = layout m inner b in
    after-own n (m + size b) (xs ++ ys) e (omega (arith, length-append xs ys, length-layout n scope a, length-layout m inner b))
    (after-append n m xs ys (omega (arith, length-layout n scope a)) first second) below

mutual
  term-after : (n : ℕ) (scope : List ℕ) (t : Term) → IsTrue (stand_after_parts n (layout n scope t))
  term-after n scope (term.Variable x) = refl
  term-after n scope (term.Literal l) = refl
  term-after n scope (term.Whole h ts) =
      after-own n (n + sizes ts) (layouts n scope ts) (code.Whole h (places n ts)) (omega (arith, length-layouts n scope ts)) (terms-after n scope ts)
      (places-below n (n + sizes ts) ts (omega arith))
  term-after n scope (term.Part h ts) =
      after-own n (n + sizes ts) (layouts n scope ts) (code.Part h (places n ts)) (omega (arith, length-layouts n scope ts)) (terms-after n scope ts)
      (places-below n (n + sizes ts) ts (omega arith))
  term-after n scope (term.Apply f a) =
      pair-after n scope scope f a (code.Apply (place n f) (place (n + size f) a)) (term-after n scope f) (term-after (n + size f) scope a)
      (two-below n (n + size f) (n + size f + size a) f a (omega arith) (omega arith))
  term-after n scope (term.Let x a b) =
      pair-after n scope (binding (x ∷ []) scope) a b (code.Let x (place n a) (place (n + size a) b)) (term-after n scope a)
      (term-after (n + size a) (binding (x ∷ []) scope) b) (two-below n (n + size a) (n + size a + size b) a b (omega arith) (omega arith))
  term-after n scope (term.Free x t) =
      after-own n (n + size t) (layout n (binding (x ∷ []) scope) t) (code.Free x (place n t)) (omega (arith, length-layout n (binding (x ∷ []) scope) t))
      (term-after n (binding (x ∷ []) scope) t) (one-below n (n + size t) t (omega arith))
  term-after n scope (term.Or a b) =
      pair-after n scope scope a b (code.Or (place n a) (place (n + size a) b)) (term-after n scope a) (term-after (n + size a) scope b)
      (two-below n (n + size a) (n + size a + size b) a b (omega arith) (omega arith))
  term-after n scope (term.Case mode a alternatives) =
      let m = n + size a in
      let xs = layout n scope a in
      let ys = branch_layouts m scope alternatives in
      let end = m + branch_sizes alternatives in
      after-own n end (xs ++ ys) (code.Case mode (kept_of scope alternatives) (place n a) (branches m alternatives))
      (omega (arith, length-append xs ys, length-layout n scope a, length-branch_layouts m scope alternatives))
      (after-append n m xs ys (omega (arith, length-layout n scope a)) (term-after n scope a) (branches-after m scope alternatives))
      (and_from (nat_lt (place n a).0 end) (are_below end (bodies_of (branches m alternatives))) (place-below n end a (omega arith))
      (bodies-below m end alternatives (omega arith)))

  terms-after : (n : ℕ) (scope : List ℕ) (ts : Terms) → IsTrue (stand_after_parts n (layouts n scope ts))
  terms-after n scope term.NoTerm = refl
  terms-after n scope (term.MoreTerms t ts) =
      after-append n (n + size t) (layout n scope t) (layouts (n + size t) scope ts) (omega (arith, length-layout n scope t)) (term-after n scope t)
      (terms-after (n + size t) scope ts)

  branches-after : (n : ℕ) (scope : List ℕ) (alternatives : Alternatives) → IsTrue (stand_after_parts n (branch_layouts n scope alternatives))
  branches-after n scope term.NoAlternative = refl
  branches-after n scope (term.MoreAlternatives p t alternatives) =
      let inner = binding (variables_of p) scope in
      after-append n (n + size t) (layout n inner t) (branch_layouts (n + size t) scope alternatives) (omega (arith, length-layout n inner t))
      (term-after n inner t) (branches-after (n + size t) scope alternatives)

body-after : (n : ℕ) (body : Body) → IsTrue (stand_after_parts n (body_layout n body))
body-after n (calculus.Rules []) = refl
body-after n (calculus.Rules (rule ∷ [])) = term-after n (all_variables rule.params) rule.body
body-after n (calculus.Rules (rule ∷ other ∷ rules)) = refl
body-after n (calculus.External operation) = refl

bodies-after : (n : ℕ) (fs : List Function) → IsTrue (stand_after_parts n (expressions_from n fs))
bodies-after n [] = refl
bodies-after n (f ∷ fs) =
    after-append n (n + body_size f.body) (body_layout n f.body) (expressions_from (n + body_size f.body) fs) (omega (arith, length-body n f.body))
    (body-after n f.body) (bodies-after (n + body_size f.body) fs)

pub laid-after : (of : Program) → IsTrue (stand_after_parts 0 (laid_out of).expressions)
laid-after of = bodies-after 0 of.functions
