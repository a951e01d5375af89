-- A derivation stays where its value is lowered and its environment is raised.
use Rattle.std.proofs.Common.{◌≡◌, ℕ, ◌+◌, ◌⊎◌, inl, inr, List, [], ◌∷◌, Bool, true, false, if◌then◌else◌, nat_eq, Option, None, Some, IsTrue, refl, ap, sym, subst, ◌∙◌, ℤ, pos, negsuc, ◌+ℤ◌, ◌-ℤ◌, ◌*ℤ◌}
use Rattle.std.specs.Prelude.{int_le, int_lt}
use Rattle.std.specs.Ordering.{int_eq}
use Rattle.cu_calculus.specs.declared.Lit.{Lit}
use Rattle.cu_calculus.specs.declared.Lit.TheVariants.{Char, Int}
use Rattle.cu_calculus.specs.declared.builtin.Primitive.{Primitive}
use Rattle.cu_calculus.specs.declared.builtin.Primitive.TheVariants as prim
use Rattle.cu_calculus.specs.declared.Head.{Head}
use Rattle.cu_calculus.specs.declared.Head.TheVariants as head
use Rattle.cu_calculus.specs.Below as below
use Rattle.cu_calculus.specs.Below.{AllBelow, Below, EnvBelow}
use Rattle.cu_calculus.specs.Builtin as builtin
use Rattle.cu_int.specs.Integers.{floor_quotient, floor_rest}
use Rattle.cu_calculus.specs.Builtin.{Answers, character, integer, on_integers, on_literals, truth_of}
use Rattle.cu_int.specs.Integers.{is_integer}
use Rattle.cu_calculus.specs.Literal.{is_scalar}
use Rattle.cu_calculus.specs.Gives as gives
use Rattle.cu_calculus.specs.Gives.{AllGive, Applied, AppliedTo, Claim, Gives, collected}
use Rattle.cu_calculus.specs.Match.{Bindings, Environment, bind, bind_all, empty}
use Rattle.cu_calculus.specs.declared.ConId.{ConId}
use Rattle.cu_calculus.specs.declared.FunId.{FunId}
use Rattle.cu_calculus.specs.Program.{Program, arity_in}
use Rattle.cu_calculus.specs.Shape.{takes, takes_more}
use Rattle.cu_calculus.specs.Term as term
use Rattle.cu_calculus.specs.Term.{Term, Terms}
use Rattle.cu_calculus.specs.Value as value
use Rattle.cu_calculus.specs.Value.{Value, Values, and_then, count}
use Rattle.cu_calculus.proofs.BelowLaws.{all_below_themselves, below_itself, below_trans, only_bottom}

-- binding a variable to the same value on both sides
pub bind_below : (low high : Environment) (x : ℕ) (v : Value) → EnvBelow low high → EnvBelow (bind low x v) (bind high x v)
bind_below low high x v h y = by (nat_eq x y)
  where
    by : (b : Bool) → Below (if b then v else low y) (if b then v else high y)
    by true = below_itself v
    by false = h y

pub bind_all_below : (low high : Environment) (bindings : Bindings) → EnvBelow low high → EnvBelow (bind_all low bindings) (bind_all high bindings)
bind_all_below low high [] h = h
bind_all_below low high ((x, v) ∷ bindings) h = bind_below (bind_all low bindings) (bind_all high bindings) x v (bind_all_below low high bindings h)

-- what is below a partial application is nothing or one of the same head, and likewise for a
-- constructor
pub data LowPartial (h : Head) (us : Values) : Value → Type 0 where
  nothing : LowPartial h us value.Bottom
  same : (ws : Values) → AllBelow ws us → LowPartial h us (value.Partial h ws)

pub below_partial : (w v : Value) → Below w v → (h : Head) (us : Values) → v ≡ value.Partial h us → LowPartial h us w
below_partial _ _ (below.bottom v) h us e = nothing
below_partial _ _ (below.variable x) h us e = let no : ⊥ = cc in absurd no
below_partial _ _ (below.literal l) h us e = let no : ⊥ = cc in absurd no
below_partial _ _ (below.constructed c ws xs p) h us e = let no : ⊥ = cc in absurd no
below_partial _ _ (below.partial k ws xs p) h us e =
    let heads : k ≡ h = cc in
    let arguments : xs ≡ us = cc in
    subst (λ (g : Head). LowPartial h us (value.Partial g ws)) (sym heads) (same ws (subst (λ (x : Values). AllBelow ws x) arguments p))

-- what is below a value and others is a value and others
pub record LowMore (ws us : Values) (u : Value) : Type 0 where
  pub first : Value
  pub others : Values
  pub is : ws ≡ value.MoreValues first others
  pub below_first : Below first u
  pub below_others : AllBelow others us

pub below_more : (ws vs : Values) → AllBelow ws vs → (u : Value) (us : Values) → vs ≡ value.MoreValues u us → LowMore ws us u
below_more _ _ below.none u us e = let no : ⊥ = cc in absurd no
below_more _ _ (below.more w v ws vs p ps) u us e =
    let first : v ≡ u = cc in
    let others : vs ≡ us = cc in
    record {
      first = w;
      others = ws;
      is = refl;
      below_first = subst (λ (x : Value). Below w x) first p;
      below_others = subst (λ (x : Values). AllBelow ws x) others ps;
    }

pub below_none : (ws vs : Values) → AllBelow ws vs → vs ≡ value.NoValue → ws ≡ value.NoValue
below_none _ _ below.none e = refl
below_none _ _ (below.more w v ws vs p ps) e = let no : ⊥ = cc in absurd no

-- values below some values and one more are values and one more
pub record Split (ws us : Values) (u : Value) : Type 0 where
  pub prefix : Values
  pub last : Value
  pub is : ws ≡ and_then prefix last
  pub below_prefix : AllBelow prefix us
  pub below_last : Below last u

pub split : (us ws : Values) (u : Value) → AllBelow ws (and_then us u) → Split ws us u
split value.NoValue ws u h =
    let low = below_more ws (and_then value.NoValue u) h u value.NoValue refl in
    let none : low.others ≡ value.NoValue = below_none low.others value.NoValue low.below_others refl in
    record {
      prefix = value.NoValue;
      last = low.first;
      is = low.is ∙ ap (value.MoreValues low.first) none;
      below_prefix = below.none;
      below_last = low.below_first;
    }
split (value.MoreValues v us) ws u h =
    let low = below_more ws (and_then (value.MoreValues v us) u) h v (and_then us u) refl in
    let rest = split us low.others u low.below_others in
    record {
      prefix = value.MoreValues low.first rest.prefix;
      last = rest.last;
      is = low.is ∙ ap (value.MoreValues low.first) rest.is;
      below_prefix = below.more low.first v rest.prefix us low.below_first rest.below_prefix;
      below_last = rest.below_last;
    }

-- values that are below others are as many
pub same_count : (us vs : Values) → AllBelow us vs → count us ≡ count vs
same_count _ _ below.none = refl
same_count _ _ (below.more u v us vs p ps) = ap (λ n. n + 1) (same_count us vs ps)

-- values without parts that could be lowered: literals, and constructors without arguments
abbrev pub is_bare : Option Value → Bool
is_bare None = true
is_bare (Some (value.Literal l)) = true
is_bare (Some (value.Constructed c value.NoValue)) = true
is_bare (Some _) = false

pub bare_if : (b : Bool) (answer : Option Value) → is_bare answer ≡ true → is_bare (if b then answer else None) ≡ true
bare_if true answer h = h
bare_if false answer h = refl

pub bare_truth : (program : Program) (b : Bool) → is_bare (Some (truth_of program b)) ≡ true
bare_truth program true = refl
bare_truth program false = refl

pub bare_integer : (n : ℤ) → is_bare (integer n) ≡ true
bare_integer n = bare_if (is_integer n) (Some (value.Literal (Int n))) refl

pub bare_unless : (b : Bool) (answer : Option Value) → is_bare answer ≡ true → is_bare (if b then None else answer) ≡ true
bare_unless true answer h = refl
bare_unless false answer h = h

pub bare_on_integers : (program : Program) (operation : Primitive) (m n : ℤ) → is_bare (on_integers program operation m n) ≡ true
bare_on_integers program prim.Add m n = bare_integer (m +ℤ n)
bare_on_integers program prim.Sub m n = bare_integer (m -ℤ n)
bare_on_integers program prim.Mul m n = bare_integer (m *ℤ n)
bare_on_integers program prim.Div m n = bare_unless (int_eq n (pos 0)) (integer (floor_quotient m n)) (bare_integer (floor_quotient m n))
bare_on_integers program prim.Mod m n = bare_unless (int_eq n (pos 0)) (integer (floor_rest m n)) (bare_integer (floor_rest m n))
bare_on_integers program prim.Less m n = bare_truth program (int_lt m n)
bare_on_integers program prim.AtMost m n = bare_truth program (int_le m n)
bare_on_integers program prim.Greater m n = bare_truth program (int_lt n m)
bare_on_integers program prim.AtLeast m n = bare_truth program (int_le n m)
bare_on_integers program _ m n = refl

pub bare_character : (n : ℤ) → is_bare (character n) ≡ true
bare_character (pos n) = bare_if (is_scalar n) (Some (value.Literal (Char n))) refl
bare_character (negsuc n) = refl

pub bare_on_literals : (program : Program) (operation : Primitive) (ls : List Lit) → is_bare (on_literals program operation ls) ≡ true
bare_on_literals program operation (Int m ∷ Int n ∷ []) = bare_on_integers program operation m n
bare_on_literals program prim.Ord (Char c ∷ []) = refl
bare_on_literals program prim.Chr (Int n ∷ []) = bare_character n
bare_on_literals program _ _ = refl

-- what is below such a value is nothing or that value
pub below_bare : (w v : Value) → Below w v → is_bare (Some v) ≡ true → (w ≡ value.Bottom) ⊎ (w ≡ v)
below_bare _ _ (below.bottom v) h = inl refl
below_bare _ _ (below.variable x) h = inr refl
below_bare _ _ (below.literal l) h = inr refl
below_bare _ _ (below.constructed c us vs below.none) h = inr refl
below_bare _ _ (below.constructed c us vs (below.more u v us' vs' p ps)) h = let no : ⊥ = cc in absurd no
below_bare _ _ (below.partial k us vs p) h = let no : ⊥ = cc in absurd no

-- what is below the value of a built-in operation is nothing or that value
pub below_answer : (program : Program) (operation : Primitive) (us : Values) (v w : Value) → Answers program operation us v → Below w v
    → (w ≡ value.Bottom) ⊎ (w ≡ v)
below_answer program operation us v w (builtin.of_literals _ ls _ _ e f) h =
    below_bare w v h (ap is_bare (sym f) ∙ bare_on_literals program operation ls)
below_answer program _ _ v w (builtin.equal a b _ answer c e) h = below_bare w v h (ap (λ x. is_bare (Some x)) e ∙ bare_truth program answer)
below_answer program _ _ v w (builtin.unified a b _ alike total e) h = below_bare w v h (ap (λ x. is_bare (Some x)) e ∙ bare_truth program true)
below_answer program _ _ v w (builtin.conjoined a b _ p q e) h = below_bare w v h (ap (λ x. is_bare (Some x)) e ∙ bare_truth program true)

-- what a head gives, as it is needed below: nothing, or the same head on lower arguments
abbrev pub Lowered : Program → List Claim → Head → Values → Value → Type 0
Lowered program claims h us w = (w ≡ value.Bottom) ⊎ ((vs : Values) × AllBelow vs us × Applied program claims h vs w)

-- a term has the value Bottom
pub at_bottom : (program : Program) (claims : List Claim) (env : Environment) (t : Term) (w : Value) → w ≡ value.Bottom → Gives program claims env t w
at_bottom program claims env t w e = subst (λ (x : Value). Gives program claims env t x) (sym e) (gives.bottom env t)

-- what is below a constructor's value is nothing or one of the same constructor
pub data LowConstructed (c : ConId) (us : Values) : Value → Type 0 where
  no_value : LowConstructed c us value.Bottom
  as_low : (ws : Values) → AllBelow ws us → LowConstructed c us (value.Constructed c ws)

pub below_constructed : (w v : Value) → Below w v → (c : ConId) (us : Values) → v ≡ value.Constructed c us → LowConstructed c us w
below_constructed _ _ (below.bottom v) c us e = no_value
below_constructed _ _ (below.variable x) c us e = let no : ⊥ = cc in absurd no
below_constructed _ _ (below.literal l) c us e = let no : ⊥ = cc in absurd no
below_constructed _ _ (below.partial k ws xs p) c us e = let no : ⊥ = cc in absurd no
below_constructed _ _ (below.constructed d ws xs p) c us e =
    let heads : d ≡ c = cc in
    let arguments : xs ≡ us = cc in
    subst (λ (g : ConId). LowConstructed c us (value.Constructed g ws)) (sym heads) (as_low ws (subst (λ (x : Values). AllBelow ws x) arguments p))

pub lower_constructed : (program : Program) (claims : List Claim) (c : ConId) (us : Values) (w : Value) → LowConstructed c us w
    → Lowered program claims (head.Con c) us w
lower_constructed program claims c us _ no_value = inl refl
lower_constructed program claims c us _ (as_low ws p) = inr (ws, p, gives.constructed c ws)

-- a partial application of lower values
pub lower_part : (program : Program) (claims : List Claim) (high : Environment) (k : Head) (ts : Terms) (us : Values) (w : Value) → LowPartial k us w
    → ((ws : Values) → AllBelow ws us → AllGive program claims high ts ws) → Gives program claims high (term.Part k ts) w
lower_part program claims high k ts us _ nothing give = gives.bottom high (term.Part k ts)
lower_part program claims high k ts us _ (same ws p) give = gives.part high k ts ws (give ws p)

-- what one argument more gives, as it is needed below: nothing, or what lower values give
pub record LowerTo (program : Program) (claims : List Claim) (w u x : Value) : Type 0 where
  pub function : Value
  pub argument : Value
  pub below_function : Below function w
  pub below_argument : Below argument u
  pub applied : AppliedTo program claims function argument x

abbrev pub LoweredTo : Program → List Claim → Value → Value → Value → Type 0
LoweredTo program claims w u x = (x ≡ value.Bottom) ⊎ LowerTo program claims w u x

pub lower_extended : (program : Program) (claims : List Claim) (k : Head) (us more : Values) (u x : Value) → LowPartial k more x
    → more ≡ and_then us u → IsTrue (takes_more (arity_in program k) (count more)) → LoweredTo program claims (value.Partial k us) u x
lower_extended program claims k us more u _ nothing m l = inl refl
lower_extended program claims k us more u _ (same ws p) m l =
    let parts = split us ws u (subst (λ (x : Values). AllBelow ws x) m p) in
    let fewer : IsTrue (takes_more (arity_in program k) (count ws)) =
    subst (λ (n : ℕ). IsTrue (takes_more (arity_in program k) n)) (sym (same_count ws more p)) l in
    inr (record {
      function = value.Partial k parts.prefix;
      argument = parts.last;
      below_function = below.partial k parts.prefix us parts.below_prefix;
      below_argument = parts.below_last;
      applied = gives.extended k parts.prefix ws parts.last parts.is fewer;
    })

pub lower_completed : (program : Program) (claims : List Claim) (k : Head) (us all : Values) (u x : Value) → Lowered program claims k all x
    → all ≡ and_then us u → IsTrue (takes (arity_in program k) (count all)) → LoweredTo program claims (value.Partial k us) u x
lower_completed program claims k us all u x (inl e) m l = inl e
lower_completed program claims k us all u x (inr found) m l =
    let parts = split us found.0 u (subst (λ (y : Values). AllBelow found.0 y) m found.1) in
    let as_many : IsTrue (takes (arity_in program k) (count found.0)) =
    subst (λ (n : ℕ). IsTrue (takes (arity_in program k) n)) (sym (same_count found.0 all found.1)) l in
    inr (record {
      function = value.Partial k parts.prefix;
      argument = parts.last;
      below_function = below.partial k parts.prefix us parts.below_prefix;
      below_argument = parts.below_last;
      applied = gives.completed k parts.prefix found.0 parts.last x parts.is as_many found.2;
    })

pub lower_applied : (program : Program) (claims : List Claim) (high : Environment) (f a : Term) (w u x : Value) → LoweredTo program claims w u x
    → ((y : Value) → Below y w → Gives program claims high f y) → ((y : Value) → Below y u → Gives program claims high a y)
    → Gives program claims high (term.Apply f a) x
lower_applied program claims high f a w u x (inl e) give_f give_a = at_bottom program claims high (term.Apply f a) x e
lower_applied program claims high f a w u x (inr low) give_f give_a =
    gives.applied high f a low.function low.argument x (give_f low.function low.below_function) (give_a low.argument low.below_argument) low.applied

pub lower_whole : (program : Program) (claims : List Claim) (high : Environment) (k : Head) (ts : Terms) (us : Values) (w : Value)
    → Lowered program claims k us w → ((ws : Values) → AllBelow ws us → AllGive program claims high ts ws)
    → Gives program claims high (term.Whole k ts) w
lower_whole program claims high k ts us w (inl e) give = at_bottom program claims high (term.Whole k ts) w e
lower_whole program claims high k ts us w (inr found) give = gives.whole high k ts found.0 w (give found.0 found.1) found.2

pub lower_literal : (program : Program) (claims : List Claim) (high : Environment) (l : Lit) (w : Value) → (w ≡ value.Bottom) ⊎ (w ≡ value.Literal l)
    → Gives program claims high (term.Literal l) w
lower_literal program claims high l w (inl e) = at_bottom program claims high (term.Literal l) w e
lower_literal program claims high l w (inr e) = subst (λ (x : Value). Gives program claims high (term.Literal l) x) (sym e) (gives.literal high l)

pub lower_builtin : (program : Program) (claims : List Claim) (f : FunId) (us : Values) (v w : Value) → Applied program claims (head.Fun f) us v
    → (w ≡ value.Bottom) ⊎ (w ≡ v) → Lowered program claims (head.Fun f) us w
lower_builtin program claims f us v w app (inl e) = inl e
lower_builtin program claims f us v w app (inr e) =
    inr (us, all_below_themselves us, subst (λ (x : Value). Applied program claims (head.Fun f) us x) (sym e) app)

mutual
  pub weaken : (program : Program) (claims : List Claim) (low high : Environment) (t : Term) (v w : Value)
      → Gives program claims low t v → EnvBelow low high → Below w v → Gives program claims high t w
  weaken program claims low high _ _ w (gives.bottom _ t) env h = at_bottom program claims high t w (sym (only_bottom w value.Bottom h refl))
  weaken program claims low high _ _ w (gives.variable _ x v p) env h =
      gives.variable high x w (below_trans w v (high x) h (below_trans v (low x) (high x) p (env x)))
  weaken program claims low high _ _ w (gives.literal _ l) env h = lower_literal program claims high l w (below_bare w (value.Literal l) h refl)
  weaken program claims low high _ _ w (gives.whole _ k ts us v ps app) env h =
      lower_whole program claims high k ts us w (lower program claims k us v w app h)
      (λ ws below_us. all_weaken program claims low high ts us ws ps env below_us)
  weaken program claims low high _ _ w (gives.part _ k ts us ps) env h =
      lower_part program claims high k ts us w (below_partial w (value.Partial k us) h k us refl)
      (λ ws below_us. all_weaken program claims low high ts us ws ps env below_us)
  weaken program claims low high _ _ x (gives.applied _ f a w u v p q app) env h =
      lower_applied program claims high f a w u x (lower_to program claims w u v x app h)
      (λ y below_w. weaken program claims low high f w y p env below_w) (λ y below_u. weaken program claims low high a u y q env below_u)
  weaken program claims low high _ _ w (gives.bound _ x a b u v p q) env h =
      gives.bound high x a b u w (weaken program claims low high a u u p env (below_itself u))
      (weaken program claims (bind low x u) (bind high x u) b v w q (bind_below low high x u env) h)
  weaken program claims low high _ _ w (gives.free _ x t u v total fits p) env h =
      gives.free high x t u w total fits (weaken program claims (bind low x u) (bind high x u) t v w p (bind_below low high x u env) h)
  weaken program claims low high _ _ w (gives.left _ a b v p) env h = gives.left high a b w (weaken program claims low high a v w p env h)
  weaken program claims low high _ _ w (gives.right _ a b v p) env h = gives.right high a b w (weaken program claims low high b v w p env h)
  weaken program claims low high _ _ w (gives.chosen _ mode a t alternatives bindings u v p selects q) env h =
      gives.chosen high mode a t alternatives bindings u w (weaken program claims low high a u u p env (below_itself u)) selects
      (weaken program claims (bind_all low bindings) (bind_all high bindings) t v w q (bind_all_below low high bindings env) h)

  pub all_weaken : (program : Program) (claims : List Claim) (low high : Environment) (ts : Terms) (vs ws : Values)
      → AllGive program claims low ts vs → EnvBelow low high → AllBelow ws vs → AllGive program claims high ts ws
  all_weaken program claims low high _ _ ws (gives.none _) env h =
      subst (λ (x : Values). AllGive program claims high term.NoTerm x) (sym (below_none ws value.NoValue h refl)) (gives.none high)
  all_weaken program claims low high _ _ ws (gives.more _ t ts v vs p ps) env h =
      let lowered = below_more ws (value.MoreValues v vs) h v vs refl in
      subst (λ (x : Values). AllGive program claims high (term.MoreTerms t ts) x) (sym lowered.is)
      (gives.more high t ts lowered.first lowered.others (weaken program claims low high t v lowered.first p env lowered.below_first)
      (all_weaken program claims low high ts vs lowered.others ps env lowered.below_others))

  pub lower : (program : Program) (claims : List Claim) (k : Head) (us : Values) (v w : Value) → Applied program claims k us v → Below w v
      → Lowered program claims k us w
  lower program claims _ _ _ w (gives.constructed c us) h =
      lower_constructed program claims c us w (below_constructed w (value.Constructed c us) h c us refl)
  lower program claims _ _ _ w (gives.by_rule f function rules k rule bindings us v e b r m p) h =
      inr (
        us,
        all_below_themselves us,
        gives.by_rule f function rules k rule bindings us w e b r m
            (weaken program claims (bind_all empty bindings) (bind_all empty bindings) rule.body v w p (λ x. below_itself (bind_all empty bindings x)) h),
      )
  lower program claims _ _ _ w (gives.builtin f function operation us v e b answers) h =
      lower_builtin program claims f us v w (gives.builtin f function operation us v e b answers) (below_answer program operation us v w answers h)
  lower program claims _ _ _ w (gives.collect f claim k c us v g e f' a s p) h =
      inr (us, all_below_themselves us, gives.collect f claim k c us w g e f' a s (below_trans w v (collected program c claim.values) h p))

  pub lower_to : (program : Program) (claims : List Claim) (w u v x : Value) → AppliedTo program claims w u v → Below x v
      → LoweredTo program claims w u x
  lower_to program claims _ _ _ x (gives.extended k us more u m l) h =
      lower_extended program claims k us more u x (below_partial x (value.Partial k more) h k more refl) m l
  lower_to program claims _ _ _ x (gives.completed k us all u v m l app) h =
      lower_completed program claims k us all u x (lower program claims k all v x app h) m l
