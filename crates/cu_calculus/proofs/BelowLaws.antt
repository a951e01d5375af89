-- Approximation is a partial order.
use Rattle.std.proofs.Common.{◌≡◌, refl, ap, subst}
use Rattle.cu_calculus.specs.declared.ConId.{ConId}
use Rattle.cu_calculus.specs.declared.Head.{Head}
use Rattle.cu_calculus.specs.Below as below
use Rattle.cu_calculus.specs.Below.{AllBelow, Below}
use Rattle.cu_calculus.specs.Value as value
use Rattle.cu_calculus.specs.Value.{Value, Values}

mutual
  pub below_itself : (v : Value) → Below v v
  below_itself value.Bottom = below.bottom value.Bottom
  below_itself (value.Variable x) = below.variable x
  below_itself (value.Literal l) = below.literal l
  below_itself (value.Constructed c vs) = below.constructed c vs vs (all_below_themselves vs)
  below_itself (value.Partial h vs) = below.partial h vs vs (all_below_themselves vs)

  pub all_below_themselves : (vs : Values) → AllBelow vs vs
  all_below_themselves value.NoValue = below.none
  all_below_themselves (value.MoreValues v vs) = below.more v v vs vs (below_itself v) (all_below_themselves vs)

mutual
  pub below_trans : (u v w : Value) → Below u v → Below v w → Below u w
  below_trans _ _ w (below.bottom v) q = below.bottom w
  below_trans _ _ w (below.variable x) q = q
  below_trans _ _ w (below.literal l) q = q
  below_trans _ _ _ (below.constructed c us vs p) (below.constructed _ _ ws q) = below.constructed c us ws (all_below_trans us vs ws p q)
  below_trans _ _ _ (below.partial h us vs p) (below.partial _ _ ws q) = below.partial h us ws (all_below_trans us vs ws p q)

  pub all_below_trans : (us vs ws : Values) → AllBelow us vs → AllBelow vs ws → AllBelow us ws
  all_below_trans _ _ _ below.none below.none = below.none
  all_below_trans _ _ _ (below.more u v us vs p ps) (below.more _ w _ ws q qs) =
      below.more u w us ws (below_trans u v w p q) (all_below_trans us vs ws ps qs)

-- only Bottom is below Bottom
pub only_bottom : (v w : Value) → Below v w → w ≡ value.Bottom → w ≡ v
only_bottom _ _ (below.bottom w) e = e
only_bottom _ _ (below.variable x) e = refl
only_bottom _ _ (below.literal l) e = refl
only_bottom _ _ (below.constructed c us vs p) e = let no : ⊥ = cc in absurd no
only_bottom _ _ (below.partial h us vs p) e = let no : ⊥ = cc in absurd no

-- what stands below a constructor's or a partial application's arguments, whatever the derivation
pub below_arguments : (x y : Value) → Below x y → (c d : ConId) (us vs : Values) → x ≡ value.Constructed c us → y ≡ value.Constructed d vs
    → AllBelow us vs
below_arguments _ _ (below.bottom v) c d us vs e f = let no : ⊥ = cc in absurd no
below_arguments _ _ (below.variable x) c d us vs e f = let no : ⊥ = cc in absurd no
below_arguments _ _ (below.literal l) c d us vs e f = let no : ⊥ = cc in absurd no
below_arguments _ _ (below.partial h ws xs p) c d us vs e f = let no : ⊥ = cc in absurd no
below_arguments _ _ (below.constructed b ws xs p) c d us vs e f =
    let first : ws ≡ us = cc in
    let second : xs ≡ vs = cc in
    subst (λ (x : Values). AllBelow us x) second (subst (λ (x : Values). AllBelow x xs) first p)

pub below_partial_arguments : (x y : Value) → Below x y → (h k : Head) (us vs : Values) → x ≡ value.Partial h us → y ≡ value.Partial k vs
    → AllBelow us vs
below_partial_arguments _ _ (below.bottom v) h k us vs e f = let no : ⊥ = cc in absurd no
below_partial_arguments _ _ (below.variable x) h k us vs e f = let no : ⊥ = cc in absurd no
below_partial_arguments _ _ (below.literal l) h k us vs e f = let no : ⊥ = cc in absurd no
below_partial_arguments _ _ (below.constructed b ws xs p) h k us vs e f = let no : ⊥ = cc in absurd no
below_partial_arguments _ _ (below.partial b ws xs p) h k us vs e f =
    let first : ws ≡ us = cc in
    let second : xs ≡ vs = cc in
    subst (λ (x : Values). AllBelow us x) second (subst (λ (x : Values). AllBelow x xs) first p)

mutual
  pub below_antisym : (u v : Value) → Below u v → Below v u → u ≡ v
  below_antisym _ _ (below.bottom v) q = only_bottom v value.Bottom q refl
  below_antisym _ _ (below.variable x) q = refl
  below_antisym _ _ (below.literal l) q = refl
  below_antisym _ _ (below.constructed c us vs p) q =
      ap (value.Constructed c) (all_below_antisym us vs p (below_arguments _ _ q c c vs us refl refl))
  below_antisym _ _ (below.partial h us vs p) q =
      ap (value.Partial h) (all_below_antisym us vs p (below_partial_arguments _ _ q h h vs us refl refl))

  pub all_below_antisym : (us vs : Values) → AllBelow us vs → AllBelow vs us → us ≡ vs
  all_below_antisym _ _ below.none q = refl
  all_below_antisym _ _ (below.more u v us vs p ps) (below.more _ _ _ _ q qs) =
      let first : u ≡ v = below_antisym u v p q in
      let others : us ≡ vs = all_below_antisym us vs ps qs in
      cc
