-- Values of a program: what is below one is one, matching gives such values, and so do the built-in
-- operations.
use Rattle.std.proofs.Common.{◌≡◌, ℕ, ◌+◌, ◌-◌, ◌^◌, Bool, true, false, ◌&&◌, List, [], ◌∷◌, if◌then◌else◌, Option, None, Some, IsTrue, nat_eq, nat_lt, nat_le, refl, ap, sym, subst, arith, ℤ, pos, negsuc, ◌+ℤ◌, ◌-ℤ◌, ◌*ℤ◌, ltb-true, leb-true, le-leb, ◌⊎◌, inl, inr}
use Rattle.std.specs.List.{list_all}
use Rattle.std.specs.Prelude.{int_le, int_lt}
use Rattle.std.specs.Ordering.{int_eq}
use Rattle.std.proofs.lemmas.Bool.{and_from, and_parts, or_cases}
use Rattle.cu_calculus.specs.declared.ConId.{ConId}
use Rattle.cu_calculus.specs.declared.Head.TheVariants as head
use Rattle.cu_calculus.specs.declared.Lit.{Lit}
use Rattle.cu_calculus.specs.declared.Lit.TheVariants.{Char, Int}
use Rattle.cu_calculus.specs.declared.builtin.Primitive.{Primitive}
use Rattle.cu_calculus.specs.declared.builtin.Primitive.TheVariants as prim
use Rattle.cu_calculus.specs.Below as below
use Rattle.cu_calculus.specs.Below.{AllBelow, Below}
use Rattle.cu_calculus.specs.Builtin as builtin
use Rattle.cu_int.specs.Integers.{floor_quotient, floor_rest}
use Rattle.cu_calculus.specs.Builtin.{Answers, character, integer, literals, on_integers, on_literals, truth_of}
use Rattle.cu_calculus.specs.Gives.{collected, listed}
use Rattle.cu_int.specs.Integers.{is_integer}
use Rattle.cu_calculus.specs.Literal.{is_scalar, same_literal}
use Rattle.cu_calculus.specs.Match.{Bindings, Environment, all_matched, bind, bind_all, matched, same_constructor}
use Rattle.cu_calculus.specs.Program.{Program, arity_in}
use Rattle.cu_calculus.specs.Shape.{are_of, is_allowed, is_of, takes, takes_more}
use Rattle.cu_calculus.specs.Term as term
use Rattle.cu_calculus.specs.Term.{Pattern, Patterns}
use Rattle.cu_calculus.specs.Valid.{HasSpecial}
use Rattle.cu_calculus.specs.Value as value
use Rattle.cu_calculus.specs.Value.{Value, Values, and_then, count}
use Rattle.cu_calculus.proofs.Lists.{all_append}
use Rattle.cu_calculus.proofs.Matches.{after, halves, tested}
use Rattle.cu_calculus.proofs.Weaken.{same_count}

mutual
  pub below_of : (program : Program) (u v : Value) → Below u v → IsTrue (is_of program v) → IsTrue (is_of program u)
  below_of program _ _ (below.bottom v) h = refl
  below_of program _ _ (below.variable x) h = h
  below_of program _ _ (below.literal l) h = h
  below_of program _ _ (below.constructed c us vs p) h =
      let parts = and_parts (takes (arity_in program (head.Con c)) (count vs)) (are_of program vs) h in
      let whole : IsTrue (takes (arity_in program (head.Con c)) (count us)) =
      subst (λ (n : ℕ). IsTrue (takes (arity_in program (head.Con c)) n)) (sym (same_count us vs p)) parts.0 in
      and_from (takes (arity_in program (head.Con c)) (count us)) (are_of program us) whole (all_below_of program us vs p parts.1)
  below_of program _ _ (below.partial k us vs p) h =
      let parts = and_parts (is_allowed program k && takes_more (arity_in program k) (count vs)) (are_of program vs) h in
      let fewer : IsTrue (is_allowed program k && takes_more (arity_in program k) (count us)) =
      subst (λ (n : ℕ). IsTrue (is_allowed program k && takes_more (arity_in program k) n)) (sym (same_count us vs p)) parts.0 in
      and_from (is_allowed program k && takes_more (arity_in program k) (count us)) (are_of program us) fewer (all_below_of program us vs p parts.1)

  pub all_below_of : (program : Program) (us vs : Values) → AllBelow us vs → IsTrue (are_of program vs) → IsTrue (are_of program us)
  all_below_of program _ _ below.none h = refl
  all_below_of program _ _ (below.more u v us vs p ps) h =
      let parts = and_parts (is_of program v) (are_of program vs) h in
      and_from (is_of program u) (are_of program us) (below_of program u v p parts.0) (all_below_of program us vs ps parts.1)

-- bindings to values of a program
abbrev pub bindings_of : Program → Bindings → Bool
bindings_of program bindings = list_all (λ b. is_of program b.1) bindings

matched_literal : (program : Program) (l : Lit) (v : Value) (bindings : Bindings) → matched (term.Exactly l) v ≡ Some bindings
    → IsTrue (bindings_of program bindings)
matched_literal program l value.Bottom bindings e = let no : ⊥ = cc in absurd no
matched_literal program l (value.Variable x) bindings e = let no : ⊥ = cc in absurd no
matched_literal program l (value.Constructed c vs) bindings e = let no : ⊥ = cc in absurd no
matched_literal program l (value.Partial h vs) bindings e = let no : ⊥ = cc in absurd no
matched_literal program l (value.Literal m) bindings e =
    let parts = tested (same_literal l m) (Some []) bindings e in
    let none : [] ≡ bindings = cc in
    subst (λ (x : Bindings). IsTrue (bindings_of program x)) none refl

matched_built : (program : Program) (c : ConId) (ps : Patterns) (v : Value) (bindings : Bindings) → matched (term.Built c ps) v ≡ Some bindings
    → IsTrue (is_of program v) → ((vs : Values) → all_matched ps vs ≡ Some bindings → IsTrue (are_of program vs) → IsTrue (bindings_of program bindings))
    → IsTrue (bindings_of program bindings)
matched_built program c ps value.Bottom bindings e h inner = let no : ⊥ = cc in absurd no
matched_built program c ps (value.Variable x) bindings e h inner = let no : ⊥ = cc in absurd no
matched_built program c ps (value.Literal m) bindings e h inner = let no : ⊥ = cc in absurd no
matched_built program c ps (value.Partial k vs) bindings e h inner = let no : ⊥ = cc in absurd no
matched_built program c ps (value.Constructed d vs) bindings e h inner =
    inner vs (tested (same_constructor c d) (all_matched ps vs) bindings e).1
    (and_parts (takes (arity_in program (head.Con d)) (count vs)) (are_of program vs) h).1

mutual
  pub matched_of : (program : Program) (p : Pattern) (v : Value) (bindings : Bindings) → matched p v ≡ Some bindings → IsTrue (is_of program v)
      → IsTrue (bindings_of program bindings)
  matched_of program (term.Any x) v bindings e h =
      let same : (x, v) ∷ [] ≡ bindings = cc in
      subst (λ (b : Bindings). IsTrue (bindings_of program b)) same (and_from (is_of program v) true h refl)
  matched_of program (term.Exactly l) v bindings e h = matched_literal program l v bindings e
  matched_of program (term.Built c ps) v bindings e h =
      matched_built program c ps v bindings e h (λ vs f g. all_matched_of program ps vs bindings f g)
  matched_of program (term.Named x p) v bindings e h =
      let found = after x v (matched p v) bindings e in
      subst (λ (b : Bindings). IsTrue (bindings_of program b)) (sym found.whole)
      (and_from (is_of program v) (bindings_of program found.rest) h (matched_of program p v found.rest found.is h))

  pub all_matched_of : (program : Program) (ps : Patterns) (vs : Values) (bindings : Bindings) → all_matched ps vs ≡ Some bindings
      → IsTrue (are_of program vs) → IsTrue (bindings_of program bindings)
  all_matched_of program term.NoPattern value.NoValue bindings e h =
      let none : [] ≡ bindings = cc in subst (λ (x : Bindings). IsTrue (bindings_of program x)) none refl
  all_matched_of program term.NoPattern (value.MoreValues v vs) bindings e h = let no : ⊥ = cc in absurd no
  all_matched_of program (term.MorePatterns p ps) value.NoValue bindings e h = let no : ⊥ = cc in absurd no
  all_matched_of program (term.MorePatterns p ps) (value.MoreValues v vs) bindings e h =
      let found = halves (matched p v) (all_matched ps vs) bindings e in
      let parts = and_parts (is_of program v) (are_of program vs) h in
      subst (λ (b : Bindings). IsTrue (bindings_of program b)) (sym found.whole)
      (all_append (λ (b : ℕ × Value). is_of program b.1) found.one found.two (matched_of program p v found.one found.is_one parts.0)
      (all_matched_of program ps vs found.two found.is_two parts.1))

-- an environment of values of a program
abbrev pub EnvOf : Program → Environment → Type 0
EnvOf program env = (x : ℕ) → IsTrue (is_of program (env x))

pub bind_of : (program : Program) (env : Environment) (x : ℕ) (v : Value) → EnvOf program env → IsTrue (is_of program v)
    → EnvOf program (bind env x v)
bind_of program env x v h k y = by (nat_eq x y)
  where
    by : (b : Bool) → IsTrue (is_of program (if b then v else env y))
    by true = k
    by false = h y

pub bind_all_of : (program : Program) (env : Environment) (bindings : Bindings) → EnvOf program env → IsTrue (bindings_of program bindings)
    → EnvOf program (bind_all env bindings)
bind_all_of program env [] h k = h
bind_all_of program env ((x, v) ∷ bindings) h k =
    let parts = and_parts (is_of program v) (bindings_of program bindings) k in
    bind_of program (bind_all env bindings) x v (bind_all_of program env bindings h parts.1) parts.0

-- one value more
pub and_then_of : (program : Program) (us : Values) (u : Value) → IsTrue (are_of program us) → IsTrue (is_of program u)
    → IsTrue (are_of program (and_then us u))
and_then_of program value.NoValue u h k = and_from (is_of program u) true k refl
and_then_of program (value.MoreValues v us) u h k =
    let parts = and_parts (is_of program v) (are_of program us) h in
    and_from (is_of program v) (are_of program (and_then us u)) parts.0 (and_then_of program us u parts.1 k)

pub and_then_count : (us : Values) (u : Value) → count (and_then us u) ≡ count us + 1
and_then_count value.NoValue u = refl
and_then_count (value.MoreValues v us) u = ap (λ n. n + 1) (and_then_count us u)

-- what an operation answers, where it answers
abbrev pub answer_of : Program → Option Value → Bool
answer_of program None = true
answer_of program (Some v) = is_of program v

pub truth_is_of : (program : Program) → HasSpecial program → (b : Bool) → IsTrue (is_of program (truth_of program b))
truth_is_of program special true = rw special.truth refl
truth_is_of program special false = rw special.falsity refl

answer_if : (program : Program) (b : Bool) (v : Value) → (IsTrue b → IsTrue (is_of program v)) → IsTrue (answer_of program (if b then Some v else None))
answer_if program true v h = h refl
answer_if program false v h = refl

answer_unless : (program : Program) (b : Bool) (answer : Option Value) → IsTrue (answer_of program answer)
    → IsTrue (answer_of program (if b then None else answer))
answer_unless program true answer h = refl
answer_unless program false answer h = h

integer_is_of : (program : Program) (n : ℤ) → IsTrue (answer_of program (integer n))
integer_is_of program n = answer_if program (is_integer n) (value.Literal (Int n)) (λ h. h)

pub on_integers_of : (program : Program) → HasSpecial program → (operation : Primitive) (m n : ℤ) → IsTrue (answer_of program (on_integers program operation m n))
on_integers_of program special prim.Add m n = integer_is_of program (m +ℤ n)
on_integers_of program special prim.Sub m n = integer_is_of program (m -ℤ n)
on_integers_of program special prim.Mul m n = integer_is_of program (m *ℤ n)
on_integers_of program special prim.Div m n =
    answer_unless program (int_eq n (pos 0)) (integer (floor_quotient m n)) (integer_is_of program (floor_quotient m n))
on_integers_of program special prim.Mod m n =
    answer_unless program (int_eq n (pos 0)) (integer (floor_rest m n)) (integer_is_of program (floor_rest m n))
on_integers_of program special prim.Less m n = truth_is_of program special (int_lt m n)
on_integers_of program special prim.AtMost m n = truth_is_of program special (int_le m n)
on_integers_of program special prim.Greater m n = truth_is_of program special (int_lt n m)
on_integers_of program special prim.AtLeast m n = truth_is_of program special (int_le n m)
on_integers_of program special _ m n = refl

character_is_of : (program : Program) (n : ℤ) → IsTrue (answer_of program (character n))
character_is_of program (pos n) = answer_if program (is_scalar n) (value.Literal (Char n)) (λ h. h)
character_is_of program (negsuc n) = refl

-- a number below a bound is at most any that is no smaller
below_bound : (n top most : ℕ) → IsTrue (nat_le top most) → IsTrue (nat_lt n top) → IsTrue (nat_le n most)
below_bound n top most h k = le-leb n most (omega (arith, leb-true top most h, ltb-true n top k))

-- the number of a character is an integer of the language
pub scalar_fits : (n : ℕ) → IsTrue (is_scalar n) → IsTrue (is_integer (pos n))
scalar_fits n h = by (or_cases (nat_lt n 0xD800) (nat_le 0xE000 n && nat_lt n 0x110000) h)
  where
    by : ((nat_lt n 0xD800 ≡ true) ⊎ ((nat_le 0xE000 n && nat_lt n 0x110000) ≡ true)) → IsTrue (is_integer (pos n))
    by (inl low) = below_bound n 0xD800 (2 ^ 127 - 1) refl low
    by (inr high) = below_bound n 0x110000 (2 ^ 127 - 1) refl (and_parts (nat_le 0xE000 n) (nat_lt n 0x110000) high).1

pub on_literals_of : (program : Program) → HasSpecial program → (operation : Primitive) (ls : List Lit) → IsTrue (are_of program (literals ls))
    → IsTrue (answer_of program (on_literals program operation ls))
on_literals_of program special operation (Int m ∷ Int n ∷ []) h = on_integers_of program special operation m n
on_literals_of program special prim.Ord (Char c ∷ []) h = scalar_fits c (and_parts (is_scalar c) true h).0
on_literals_of program special prim.Chr (Int n ∷ []) h = character_is_of program n
on_literals_of program special _ _ h = refl

pub answers_of : (program : Program) → HasSpecial program → (operation : Primitive) (us : Values) (v : Value) → Answers program operation us v
    → IsTrue (are_of program us) → IsTrue (is_of program v)
answers_of program special operation us v (builtin.of_literals _ ls _ _ e f) h =
    let arguments : IsTrue (are_of program (literals ls)) = subst (λ (x : Values). IsTrue (are_of program x)) e h in
    subst (λ (x : Option Value). IsTrue (answer_of program x)) f (on_literals_of program special operation ls arguments)
answers_of program special _ _ v (builtin.equal a b _ answer c e) h =
    subst (λ (x : Value). IsTrue (is_of program x)) (sym e) (truth_is_of program special answer)
answers_of program special _ _ v (builtin.unified a b _ alike total e) h =
    subst (λ (x : Value). IsTrue (is_of program x)) (sym e) (truth_is_of program special true)
answers_of program special _ _ v (builtin.conjoined a b _ p q e) h =
    subst (λ (x : Value). IsTrue (is_of program x)) (sym e) (truth_is_of program special true)

-- the values of a set function, as one value
listed_of : (program : Program) → HasSpecial program → (vs : List Value) → IsTrue (list_all (is_of program) vs)
    → IsTrue (is_of program (listed program.special.nil program.special.cons vs))
listed_of program special [] h = rw special.nil refl
listed_of program special (v ∷ vs) h =
    let parts = and_parts (is_of program v) (list_all (is_of program) vs) h in
    let rest = listed_of program special vs parts.1 in
    let tail = listed program.special.nil program.special.cons vs in
    rw special.cons (and_from (is_of program v) (is_of program tail && true) parts.0 (and_from (is_of program tail) true rest refl))

pub collected_of : (program : Program) → HasSpecial program → (c : ConId) (vs : List Value) → program.special.values ≡ Some c
    → IsTrue (list_all (is_of program) vs) → IsTrue (is_of program (collected program c vs))
collected_of program special c vs s h =
    let arity : arity_in program (head.Con c) ≡ Some 1 = special.values c s in
    rw arity (and_from (is_of program (listed program.special.nil program.special.cons vs)) true (listed_of program special vs h) refl)
