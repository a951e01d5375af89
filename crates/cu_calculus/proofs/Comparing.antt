-- The relation of comparing and its function say the same.
use Rattle.std.proofs.Common.{◌≡◌, ℕ, Bool, true, false, Option, None, Some, if◌then◌else◌, refl, ap, sym, ◌∙◌, subst, eq-eqb, eqb-true}
use Rattle.cu_calculus.specs.declared.ConId.{ConId}
use Rattle.cu_calculus.specs.declared.Lit.{Lit}
use Rattle.cu_calculus.specs.Builtin as builtin
use Rattle.cu_calculus.specs.Builtin.{AllCompare, Compares}
use Rattle.cu_calculus.specs.Compared.{all_compared, and_compared, compared}
use Rattle.cu_calculus.specs.Literal.{same_literal}
use Rattle.cu_calculus.specs.Match.{same_constructor}
use Rattle.cu_calculus.specs.Value as value
use Rattle.cu_calculus.specs.Value.{Value, Values}

-- a constructor is the same as itself, and as no other
pub same_itself : (c : ConId) → same_constructor c c ≡ true
same_itself c = eq-eqb c.0 c.0 refl

pub same_is : (c d : ConId) → same_constructor c d ≡ true → c ≡ d
same_is c d h = let places : c.0 ≡ d.0 = eqb-true c.0 d.0 h in ap (λ (n : ℕ). let e : ConId = record { 0 = n } in e) places

mutual
  pub compares_compared : (u v : Value) (b : Bool) → Compares u v b → compared u v ≡ Some b
  compares_compared _ _ b (builtin.two_literals l m _ e) = ap Some (sym e)
  compares_compared _ _ _ (builtin.literal_first l c vs) = refl
  compares_compared _ _ _ (builtin.literal_second c us l) = refl
  compares_compared _ _ _ (builtin.different c d us vs e) = ap (λ x. if x then all_compared us vs else Some false) e
  compares_compared _ _ b (builtin.alike c us vs _ p) =
      ap (λ x. if x then all_compared us vs else Some false) (same_itself c) ∙ all_compare_compared us vs b p

  pub all_compare_compared : (us vs : Values) (b : Bool) → AllCompare us vs b → all_compared us vs ≡ Some b
  all_compare_compared _ _ _ builtin.none = refl
  all_compare_compared _ _ _ (builtin.first_differs u v us vs p) =
      ap (λ x. and_compared x (all_compared us vs)) (compares_compared u v false p)
  all_compare_compared _ _ b (builtin.first_alike u v us vs _ p ps) =
      ap (λ x. and_compared x (all_compared us vs)) (compares_compared u v true p) ∙ all_compare_compared us vs b ps

literals_compare : (l m : Lit) (b : Bool) → Some (same_literal l m) ≡ Some b → Compares (value.Literal l) (value.Literal m) b
literals_compare l m b e = let same : same_literal l m ≡ b = cc in builtin.two_literals l m b (sym same)

constructors_compare : (c d : ConId) (us vs : Values) (b s : Bool) → same_constructor c d ≡ s
    → (if s then all_compared us vs else Some false) ≡ Some b → (all_compared us vs ≡ Some b → AllCompare us vs b)
    → Compares (value.Constructed c us) (value.Constructed d vs) b
constructors_compare c d us vs b false differ e inner =
    let answer : false ≡ b = cc in
    subst (λ (x : Bool). Compares (value.Constructed c us) (value.Constructed d vs) x) answer (builtin.different c d us vs differ)
constructors_compare c d us vs b true same e inner =
    subst (λ (x : ConId). Compares (value.Constructed c us) (value.Constructed x vs) b) (same_is c d same) (builtin.alike c us vs b (inner e))

pairs_compare : (u v : Value) (us vs : Values) (b : Bool) (first rest : Option Bool) → and_compared first rest ≡ Some b
    → ((x : Bool) → first ≡ Some x → Compares u v x) → (rest ≡ Some b → AllCompare us vs b)
    → AllCompare (value.MoreValues u us) (value.MoreValues v vs) b
pairs_compare u v us vs b None rest e one others = let no : ⊥ = cc in absurd no
pairs_compare u v us vs b (Some true) rest e one others = builtin.first_alike u v us vs b (one true refl) (others e)
pairs_compare u v us vs b (Some false) rest e one others =
    let answer : false ≡ b = cc in
    subst (λ (x : Bool). AllCompare (value.MoreValues u us) (value.MoreValues v vs) x) answer (builtin.first_differs u v us vs (one false refl))

mutual
  pub compared_compares : (u v : Value) (b : Bool) → compared u v ≡ Some b → Compares u v b
  compared_compares (value.Literal l) (value.Literal m) b e = literals_compare l m b e
  compared_compares (value.Literal l) (value.Constructed c vs) b e =
      let answer : false ≡ b = cc in
      subst (λ (x : Bool). Compares (value.Literal l) (value.Constructed c vs) x) answer (builtin.literal_first l c vs)
  compared_compares (value.Constructed c us) (value.Literal l) b e =
      let answer : false ≡ b = cc in
      subst (λ (x : Bool). Compares (value.Constructed c us) (value.Literal l) x) answer (builtin.literal_second c us l)
  compared_compares (value.Constructed c us) (value.Constructed d vs) b e =
      constructors_compare c d us vs b (same_constructor c d) refl e (all_compared_compare us vs b)
  compared_compares _ _ b e = let no : ⊥ = cc in absurd no

  pub all_compared_compare : (us vs : Values) (b : Bool) → all_compared us vs ≡ Some b → AllCompare us vs b
  all_compared_compare value.NoValue value.NoValue b e =
      let answer : true ≡ b = cc in subst (λ (x : Bool). AllCompare value.NoValue value.NoValue x) answer builtin.none
  all_compared_compare value.NoValue (value.MoreValues v vs) b e = let no : ⊥ = cc in absurd no
  all_compared_compare (value.MoreValues u us) value.NoValue b e = let no : ⊥ = cc in absurd no
  all_compared_compare (value.MoreValues u us) (value.MoreValues v vs) b e =
      pairs_compare u v us vs b (compared u v) (all_compared us vs) e (λ x f. compared_compares u v x f) (all_compared_compare us vs b)
