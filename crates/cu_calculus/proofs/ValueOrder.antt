-- The order on values is total, and only one value is equal to another in it.
use Rattle.std.proofs.Common.{◌≡◌, ℕ, ◌<◌, ◌≤◌, ◌⊎◌, inl, inr, arith, refl, ap, ap₂, sym, ◌∙◌, subst, ℤ, ◌<ℤ◌, Ordering, Less, Equal, Greater, nat_cmp, int_cmp}
use Rattle.std.specs.Cmp.{IsTotalOrder, nat_cmp_is}
use Rattle.std.proofs.lemmas.Bool.{cases_eq}
use Rattle.std.specs.Ordering.{MatchOrdering, ordering_reverse, ordering_then}
use Rattle.std.proofs.lemmas.Cmp.{int_cmp_total, int_ranked, nat_cmp_total, ranked}
use Rattle.cu_calculus.specs.declared.ConId.{ConId}
use Rattle.cu_calculus.specs.declared.FunId.{FunId}
use Rattle.cu_calculus.specs.declared.Head.{Head}
use Rattle.cu_calculus.specs.declared.Head.TheVariants as head
use Rattle.cu_calculus.specs.declared.Lit.{Lit}
use Rattle.cu_calculus.specs.declared.Lit.TheVariants.{Char, Int}
use Rattle.cu_calculus.specs.Order.{head_kind, head_number, head_order, kind_of, literal_order, value_order, values_order}
use Rattle.cu_calculus.specs.Value as value
use Rattle.cu_calculus.specs.Value.{Value, Values}

-- numbers that are equal in their order are one
number_same : (m n : ℕ) → nat_cmp m n ≡ Equal → m ≡ n
number_same m n e = subst (λ (o : Ordering). MatchOrdering o (m < n) (m ≡ n) (n < m)) e (ranked m n (nat_cmp m n) refl)

integer_same : (m n : ℤ) → int_cmp m n ≡ Equal → m ≡ n
integer_same m n e = subst (λ (o : Ordering). MatchOrdering o (m <ℤ n) (m ≡ n) (n <ℤ m)) e (int_ranked m n (int_cmp m n) refl)

function_same : (f g : FunId) → nat_cmp f.0 g.0 ≡ Equal → f ≡ g
function_same f g e = ap (λ (n : ℕ). let h : FunId = record { 0 = n } in h) (number_same f.0 g.0 e)

constructor_same : (c d : ConId) → nat_cmp c.0 d.0 ≡ Equal → c ≡ d
constructor_same c d e = ap (λ (n : ℕ). let h : ConId = record { 0 = n } in h) (number_same c.0 d.0 e)

-- one order and then another
then_equal : (one two : Ordering) → ordering_then one two ≡ Equal → (one ≡ Equal) × (two ≡ Equal)
then_equal Less two e = let no : ⊥ = cc in absurd no
then_equal Equal two e = (refl, e)
then_equal Greater two e = let no : ⊥ = cc in absurd no

then_swapped : (one two swapped_one swapped_two : Ordering) → one ≡ ordering_reverse swapped_one → two ≡ ordering_reverse swapped_two
    → ordering_then one two ≡ ordering_reverse (ordering_then swapped_one swapped_two)
then_swapped one two Less swapped_two e f = ap (λ (o : Ordering). ordering_then o two) e
then_swapped one two Equal swapped_two e f = ap (λ (o : Ordering). ordering_then o two) e ∙ f
then_swapped one two Greater swapped_two e f = ap (λ (o : Ordering). ordering_then o two) e

-- Less comes from the first, or from the second where the first is equal
then_less : (one two three first second third : Ordering) → (one ≡ Less → two ≡ Less → three ≡ Less) → (one ≡ Equal → two ≡ three)
    → (two ≡ Equal → one ≡ three) → (first ≡ Less → second ≡ Less → third ≡ Less) → ordering_then one first ≡ Less
    → ordering_then two second ≡ Less → ordering_then three third ≡ Less
then_less Less Less three first second third both left right inner e f = ap (λ (o : Ordering). ordering_then o third) (both refl refl)
then_less Less Equal three first second third both left right inner e f = ap (λ (o : Ordering). ordering_then o third) (sym (right refl))
then_less Less Greater three first second third both left right inner e f = let no : ⊥ = cc in absurd no
then_less Equal two three first second third both left right inner e f =
    let same : two ≡ three = left refl in
    subst (λ (o : Ordering). ordering_then o third ≡ Less) same (less_again two second third (inner e) f)
  where
    less_again : (o second third : Ordering) → (second ≡ Less → third ≡ Less) → ordering_then o second ≡ Less → ordering_then o third ≡ Less
    less_again Less second third h f = refl
    less_again Equal second third h f = h f
    less_again Greater second third h f = f
then_less Greater two three first second third both left right inner e f = let no : ⊥ = cc in absurd no

-- where equal ones are one, an order's answers to either are alike
same_left : {K : Type 0} (R : K → K → Ordering) (x y z : K) → (R x y ≡ Equal → x ≡ y) → R x y ≡ Equal → R y z ≡ R x z
same_left R x y z h e = ap (λ k. R k z) (sym (h e))

same_right : {K : Type 0} (R : K → K → Ordering) (x y z : K) → (R y z ≡ Equal → y ≡ z) → R y z ≡ Equal → R x y ≡ R x z
same_right R x y z h e = ap (λ k. R x k) (h e)

-- heads
head_swapped : (h k : Head) → head_order h k ≡ ordering_reverse (head_order k h)
head_swapped h k =
    then_swapped (nat_cmp (head_kind h) (head_kind k)) (nat_cmp (head_number h) (head_number k)) (nat_cmp (head_kind k) (head_kind h))
    (nat_cmp (head_number k) (head_number h)) (nat_cmp_total.antisymm (head_kind h) (head_kind k))
    (nat_cmp_total.antisymm (head_number h) (head_number k))

head_less : (h k l : Head) → head_order h k ≡ Less → head_order k l ≡ Less → head_order h l ≡ Less
head_less h k l e f =
    then_less (nat_cmp (head_kind h) (head_kind k)) (nat_cmp (head_kind k) (head_kind l)) (nat_cmp (head_kind h) (head_kind l))
    (nat_cmp (head_number h) (head_number k)) (nat_cmp (head_number k) (head_number l)) (nat_cmp (head_number h) (head_number l))
    (nat_cmp_total.trans (head_kind h) (head_kind k) (head_kind l))
    (same_left nat_cmp (head_kind h) (head_kind k) (head_kind l) (number_same (head_kind h) (head_kind k)))
    (same_right nat_cmp (head_kind h) (head_kind k) (head_kind l) (number_same (head_kind k) (head_kind l)))
    (nat_cmp_total.trans (head_number h) (head_number k) (head_number l)) e f

head_same : (h k : Head) → head_order h k ≡ Equal → h ≡ k
head_same (head.Fun f) (head.Fun g) e = ap head.Fun (function_same f g e)
head_same (head.Con c) (head.Con d) e = ap head.Con (constructor_same c d e)
head_same (head.Set f) (head.Set g) e = ap head.Set (function_same f g e)
head_same _ _ e = let no : ⊥ = cc in absurd no

-- literals
literal_swapped : (l m : Lit) → literal_order l m ≡ ordering_reverse (literal_order m l)
literal_swapped (Int m) (Int n) = int_cmp_total.antisymm m n
literal_swapped (Int m) (Char n) = refl
literal_swapped (Char m) (Int n) = refl
literal_swapped (Char m) (Char n) = nat_cmp_total.antisymm m n

literal_less : (l m n : Lit) → literal_order l m ≡ Less → literal_order m n ≡ Less → literal_order l n ≡ Less
literal_less (Int l) (Int m) (Int n) e f = int_cmp_total.trans l m n e f
literal_less (Char l) (Char m) (Char n) e f = nat_cmp_total.trans l m n e f
literal_less (Int l) _ (Char n) e f = refl
literal_less (Char l) (Int m) _ e f = let no : ⊥ = cc in absurd no
literal_less _ (Char m) (Int n) e f = let no : ⊥ = cc in absurd no

literal_same : (l m : Lit) → literal_order l m ≡ Equal → l ≡ m
literal_same (Int m) (Int n) e = ap Int (integer_same m n e)
literal_same (Char m) (Char n) e = ap Char (number_same m n e)
literal_same (Int m) (Char n) e = let no : ⊥ = cc in absurd no
literal_same (Char m) (Int n) e = let no : ⊥ = cc in absurd no

-- values that are equal in the order are one
mutual
  pub order_same : (u v : Value) → value_order u v ≡ Equal → u ≡ v
  order_same value.Bottom value.Bottom e = refl
  order_same (value.Variable x) (value.Variable y) e = ap value.Variable (number_same x y e)
  order_same (value.Literal l) (value.Literal m) e = ap value.Literal (literal_same l m e)
  order_same (value.Constructed c us) (value.Constructed d vs) e =
      let parts = then_equal (nat_cmp c.0 d.0) (values_order us vs) e in
      ap₂ value.Constructed (constructor_same c d parts.0) (orders_same us vs parts.1)
  order_same (value.Partial h us) (value.Partial k vs) e =
      let parts = then_equal (head_order h k) (values_order us vs) e in ap₂ value.Partial (head_same h k parts.0) (orders_same us vs parts.1)
  order_same _ _ e = let no : ⊥ = cc in absurd no

  pub orders_same : (us vs : Values) → values_order us vs ≡ Equal → us ≡ vs
  orders_same value.NoValue value.NoValue e = refl
  orders_same value.NoValue (value.MoreValues v vs) e = let no : ⊥ = cc in absurd no
  orders_same (value.MoreValues u us) value.NoValue e = let no : ⊥ = cc in absurd no
  orders_same (value.MoreValues u us) (value.MoreValues v vs) e =
      let parts = then_equal (value_order u v) (values_order us vs) e in
      ap₂ value.MoreValues (order_same u v parts.0) (orders_same us vs parts.1)

mutual
  pub order_swapped : (u v : Value) → value_order u v ≡ ordering_reverse (value_order v u)
  order_swapped value.Bottom value.Bottom = refl
  order_swapped (value.Variable x) (value.Variable y) = nat_cmp_total.antisymm x y
  order_swapped (value.Literal l) (value.Literal m) = literal_swapped l m
  order_swapped (value.Constructed c us) (value.Constructed d vs) =
      then_swapped (nat_cmp c.0 d.0) (values_order us vs) (nat_cmp d.0 c.0) (values_order vs us) (nat_cmp_total.antisymm c.0 d.0) (orders_swapped us vs)
  order_swapped (value.Partial h us) (value.Partial k vs) =
      then_swapped (head_order h k) (values_order us vs) (head_order k h) (values_order vs us) (head_swapped h k) (orders_swapped us vs)
  order_swapped _ _ = refl

  pub orders_swapped : (us vs : Values) → values_order us vs ≡ ordering_reverse (values_order vs us)
  orders_swapped value.NoValue value.NoValue = refl
  orders_swapped value.NoValue (value.MoreValues v vs) = refl
  orders_swapped (value.MoreValues u us) value.NoValue = refl
  orders_swapped (value.MoreValues u us) (value.MoreValues v vs) =
      then_swapped (value_order u v) (values_order us vs) (value_order v u) (values_order vs us) (order_swapped u v) (orders_swapped us vs)

-- values of different kinds are in the order of their kinds
by_kinds : (u v : Value) → (kind_of u ≡ kind_of v → ⊥) → value_order u v ≡ nat_cmp (kind_of u) (kind_of v)
by_kinds value.Bottom value.Bottom h = absurd (h refl)
by_kinds (value.Variable x) (value.Variable y) h = absurd (h refl)
by_kinds (value.Literal l) (value.Literal m) h = absurd (h refl)
by_kinds (value.Constructed c us) (value.Constructed d vs) h = absurd (h refl)
by_kinds (value.Partial k us) (value.Partial l vs) h = absurd (h refl)
by_kinds _ _ h = refl

number_less : (m n : ℕ) → nat_cmp m n ≡ Less → m < n
number_less m n e = subst (λ (o : Ordering). MatchOrdering o (m < n) (m ≡ n) (n < m)) e (ranked m n (nat_cmp m n) refl)

less_kinds : (u v : Value) → value_order u v ≡ Less → kind_of u ≤ kind_of v
less_kinds u v e = by (cases_eq (kind_of u) (kind_of v))
  where
    by : (kind_of u ≡ kind_of v) ⊎ (kind_of u ≡ kind_of v → ⊥) → kind_of u ≤ kind_of v
    by (inl same) = omega arith
    by (inr differ) = let less = number_less (kind_of u) (kind_of v) (sym (by_kinds u v differ) ∙ e) in omega arith

kinds_less : (u v : Value) → kind_of u < kind_of v → value_order u v ≡ Less
kinds_less u v l = by_kinds u v (λ same. omega arith) ∙ sym (nat_cmp_is (kind_of u) (kind_of v) Less l)

mixed_less : (u v w : Value) → (kind_of u ≡ kind_of v → kind_of v ≡ kind_of w → ⊥) → value_order u v ≡ Less → value_order v w ≡ Less
    → value_order u w ≡ Less
mixed_less u v w h e f = kinds_less u w (by (cases_eq (kind_of u) (kind_of v)) (less_kinds u v e) (less_kinds v w f))
  where
    by : (kind_of u ≡ kind_of v) ⊎ (kind_of u ≡ kind_of v → ⊥) → kind_of u ≤ kind_of v → kind_of v ≤ kind_of w → kind_of u < kind_of w
    by (inl same) l k = let differ : kind_of v ≡ kind_of w → ⊥ = h same in omega arith
    by (inr differ) l k = omega arith

mutual
  pub order_less : (u v w : Value) → value_order u v ≡ Less → value_order v w ≡ Less → value_order u w ≡ Less
  order_less (value.Variable x) (value.Variable y) (value.Variable z) e f = nat_cmp_total.trans x y z e f
  order_less (value.Literal l) (value.Literal m) (value.Literal n) e f = literal_less l m n e f
  order_less (value.Constructed a us) (value.Constructed b vs) (value.Constructed c ws) e f =
      then_less (nat_cmp a.0 b.0) (nat_cmp b.0 c.0) (nat_cmp a.0 c.0) (values_order us vs) (values_order vs ws) (values_order us ws)
      (nat_cmp_total.trans a.0 b.0 c.0) (same_left nat_cmp a.0 b.0 c.0 (number_same a.0 b.0))
      (same_right nat_cmp a.0 b.0 c.0 (number_same b.0 c.0)) (orders_less us vs ws) e f
  order_less (value.Partial h us) (value.Partial k vs) (value.Partial l ws) e f =
      then_less (head_order h k) (head_order k l) (head_order h l) (values_order us vs) (values_order vs ws) (values_order us ws)
      (head_less h k l) (same_left head_order h k l (head_same h k)) (same_right head_order h k l (head_same k l)) (orders_less us vs ws) e f
  order_less value.Bottom value.Bottom value.Bottom e f = let no : ⊥ = cc in absurd no
  order_less u v w e f = mixed_less u v w (λ p q. omega arith) e f

  pub orders_less : (us vs ws : Values) → values_order us vs ≡ Less → values_order vs ws ≡ Less → values_order us ws ≡ Less
  orders_less (value.MoreValues u us) (value.MoreValues v vs) (value.MoreValues w ws) e f =
      then_less (value_order u v) (value_order v w) (value_order u w) (values_order us vs) (values_order vs ws) (values_order us ws)
      (order_less u v w) (same_left value_order u v w (order_same u v)) (same_right value_order u v w (order_same v w)) (orders_less us vs ws) e f
  orders_less value.NoValue value.NoValue ws e f = let no : ⊥ = cc in absurd no
  orders_less value.NoValue (value.MoreValues v vs) value.NoValue e f = let no : ⊥ = cc in absurd no
  orders_less value.NoValue (value.MoreValues v vs) (value.MoreValues w ws) e f = refl
  orders_less (value.MoreValues u us) value.NoValue ws e f = let no : ⊥ = cc in absurd no
  orders_less (value.MoreValues u us) (value.MoreValues v vs) value.NoValue e f = let no : ⊥ = cc in absurd no

pub order_itself : (v : Value) → value_order v v ≡ Equal
order_itself v = by (value_order v v) (order_swapped v v)
  where
    by : (o : Ordering) → o ≡ ordering_reverse o → o ≡ Equal
    by Less e = let no : ⊥ = cc in absurd no
    by Equal e = refl
    by Greater e = let no : ⊥ = cc in absurd no

pub order_total : IsTotalOrder value_order
order_total = record {
  antisymm = order_swapped;
  trans = order_less;
  congr = λ u v w e. ap (λ (x : Value). value_order x w) (order_same u v e);
}

pub order_from_same : (u v : Value) → u ≡ v → value_order u v ≡ Equal
order_from_same u v e = subst (λ (x : Value). value_order u x ≡ Equal) e (order_itself u)
