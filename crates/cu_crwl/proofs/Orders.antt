-- Values are one where their order says so.
use Rattle.std.proofs.Common.{◌≡◌, ℕ, Bool, true, false, ◌&&◌, nat_eq, nat_lt, if◌then◌else◌, arith, eqb-true, ltb-true, refl, ap₂, sym, ◌∙◌}
use Rattle.std.specs.Cmp.{tied_then}
use Rattle.std.specs.declared.cmp.Ordering.TheVariants.{Equal, Greater, Less}
use Rattle.std.specs.Ordering.{is_eq, nat_cmp}
use Rattle.cu_calculus.specs.declared.Head.{Head}
use Rattle.cu_calculus.specs.declared.Head.TheVariants as head
use Rattle.cu_calculus.specs.declared.Lit.{Lit}
use Rattle.cu_calculus.specs.declared.Lit.TheVariants.{Char, Int}
use Rattle.cu_calculus.specs.Answered.{same_head, same_value, same_values}
use Rattle.cu_calculus.specs.Literal.{same_literal}
use Rattle.cu_calculus.specs.Order.{head_order, literal_order, value_order, values_order}
use Rattle.cu_calculus.specs.Value as value
use Rattle.cu_calculus.specs.Value.{Value, Values}

number_alike : (m n : ℕ) → is_eq (nat_cmp m n) ≡ nat_eq m n
number_alike m n = by (nat_lt m n) (nat_eq m n) refl refl
  where
    by : (a b : Bool) → nat_lt m n ≡ a → nat_eq m n ≡ b → is_eq (if a then Less else if b then Equal else Greater) ≡ b
    by true true e f = absurd (omega (arith, ltb-true m n e, eqb-true m n f))
    by true false e f = refl
    by false true e f = refl
    by false false e f = refl

literal_alike : (l m : Lit) → is_eq (literal_order l m) ≡ same_literal l m
literal_alike (Int m) (Int n) = refl
literal_alike (Char c) (Char d) = number_alike c d
literal_alike (Int m) (Char d) = refl
literal_alike (Char c) (Int n) = refl

head_alike : (h k : Head) → is_eq (head_order h k) ≡ same_head h k
head_alike (head.Fun f) (head.Fun g) = number_alike f.0 g.0
head_alike (head.Con c) (head.Con d) = number_alike c.0 d.0
head_alike (head.Set f) (head.Set g) = number_alike f.0 g.0
head_alike _ _ = refl

mutual
  pub alike : (u v : Value) → is_eq (value_order u v) ≡ same_value u v
  alike value.Bottom value.Bottom = refl
  alike (value.Variable x) (value.Variable y) = number_alike x y
  alike (value.Literal l) (value.Literal m) = literal_alike l m
  alike (value.Constructed c us) (value.Constructed d vs) =
      sym (tied_then (nat_cmp c.0 d.0) (values_order us vs)) ∙ ap₂ (λ (a b : Bool). a && b) (number_alike c.0 d.0) (all_alike us vs)
  alike (value.Partial h us) (value.Partial k vs) =
      sym (tied_then (head_order h k) (values_order us vs)) ∙ ap₂ (λ (a b : Bool). a && b) (head_alike h k) (all_alike us vs)
  alike _ _ = refl

  pub all_alike : (us vs : Values) → is_eq (values_order us vs) ≡ same_values us vs
  all_alike value.NoValue value.NoValue = refl
  all_alike value.NoValue (value.MoreValues v vs) = refl
  all_alike (value.MoreValues u us) value.NoValue = refl
  all_alike (value.MoreValues u us) (value.MoreValues v vs) =
      sym (tied_then (value_order u v) (values_order us vs)) ∙ ap₂ (λ (a b : Bool). a && b) (alike u v) (all_alike us vs)
