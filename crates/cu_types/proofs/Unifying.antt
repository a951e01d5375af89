-- What equations make equal is made the same by each substitution that solves them.
use Rattle.std.proofs.Common.{◌≡◌, ℕ, List, ◌∷◌, Some, map, option_map, slice_get, refl, sym, ap, ◌∙◌}
use Rattle.std.proofs.lemmas.Option.{slice_get-map}
use Rattle.cu_kernel.specs.TypeExpr as type
use Rattle.cu_kernel.specs.TypeExpr.{TypeExpr, TypeExprs}
use Rattle.cu_kernel.specs.TypesOf.{type_list}
use Rattle.cu_types.specs.Types.{HaveOneHead, Substitution, apply, apply_all, arguments, head_of, listed}
use Rattle.cu_types.specs.Unification as made
use Rattle.cu_types.specs.Unification.{AllMadeEqual, Equation, MadeEqual, Solves}
use Rattle.cu_types.specs.declared.node.TypeHead.{TypeHead}

pub applied_list : (σ : Substitution) (ts : TypeExprs) → listed (apply_all σ ts) ≡ map (apply σ) (listed ts)
applied_list σ type.NoType = refl
applied_list σ (type.MoreTypes t ts) = ap (λ (xs : List TypeExpr). apply σ t ∷ xs) (applied_list σ ts)

pub list_again : (ts : TypeExprs) → type_list (listed ts) ≡ ts
list_again type.NoType = refl
list_again (type.MoreTypes t ts) = ap (type.MoreTypes t) (list_again ts)

-- the arguments of a type that is no variable, after a substitution
pub applied_arguments : (σ : Substitution) (t : TypeExpr) (h : TypeHead) → head_of t ≡ Some h
    → arguments (apply σ t) ≡ map (apply σ) (arguments t)
applied_arguments σ (type.Variable x) h is = let no : ⊥ = cc in absurd no
applied_arguments σ (type.Arrow a b) h is = refl
applied_arguments σ (type.Named name ts) h is = applied_list σ ts

pub applied_head : (σ : Substitution) (t : TypeExpr) (h : TypeHead) → head_of t ≡ Some h → head_of (apply σ t) ≡ Some h
applied_head σ (type.Variable x) h is = let no : ⊥ = cc in absurd no
applied_head σ (type.Arrow a b) h is = is
applied_head σ (type.Named name ts) h is = is

-- types with one head and the same arguments are one
pub same_by_arguments : (s t : TypeExpr) (h : TypeHead) → head_of s ≡ Some h → head_of t ≡ Some h
    → arguments s ≡ arguments t → s ≡ t
same_by_arguments (type.Arrow a b) (type.Arrow c d) h p q e = cc
same_by_arguments (type.Named m ts) (type.Named n us) h p q e =
    let same : ts ≡ us = sym (list_again ts) ∙ ap type_list e ∙ list_again us in cc
same_by_arguments _ _ h p q e = let no : ⊥ = cc in absurd no

-- what stands at one place of lists that a function makes the same
mapped_at : (f : TypeExpr → TypeExpr) (ss ts : List TypeExpr) (k : ℕ) (a b : TypeExpr) → map f ss ≡ map f ts
    → slice_get ss k ≡ Some a → slice_get ts k ≡ Some b → f a ≡ f b
mapped_at f ss ts k a b e p q =
    let left = slice_get-map f ss k in
    let right = slice_get-map f ts k in
    let same : Some (f a) ≡ Some (f b) =
    sym (ap (option_map f) p) ∙ sym left ∙ ap (λ (xs : List TypeExpr). slice_get xs k) e ∙ right ∙ ap (option_map f) q in
    cc

-- an argument of types that are the same after a substitution
same_argument : (σ : Substitution) (s t a b : TypeExpr) (k : ℕ) → HaveOneHead s t → apply σ s ≡ apply σ t
    → slice_get (arguments s) k ≡ Some a → slice_get (arguments t) k ≡ Some b → apply σ a ≡ apply σ b
same_argument σ s t a b k one e p q =
    let es : arguments (apply σ s) ≡ map (apply σ) (arguments s) = applied_arguments σ s one.head one.left in
    let et : arguments (apply σ t) ≡ map (apply σ) (arguments t) = applied_arguments σ t one.head one.right in
    let same : map (apply σ) (arguments s) ≡ map (apply σ) (arguments t) = sym es ∙ ap arguments e ∙ et in
    mapped_at (apply σ) (arguments s) (arguments t) k a b same p q

mutual
  pub unified : (equations : List Equation) (σ : Substitution) → Solves σ equations → (s t : TypeExpr)
      → MadeEqual equations s t → apply σ s ≡ apply σ t
  unified equations σ solves s t (made.given k e is) = solves k e is
  unified equations σ solves s t (made.reflexive u) = refl
  unified equations σ solves s t (made.symmetric u v m) = sym (unified equations σ solves u v m)
  unified equations σ solves s t (made.transitive u v w m n) = unified equations σ solves u v m ∙ unified equations σ solves v w n
  unified equations σ solves s t (made.argument u v a b k one m p q) =
      same_argument σ u v a b k one (unified equations σ solves u v m) p q
  unified equations σ solves s t (made.whole u v one ms) =
      same_by_arguments (apply σ u) (apply σ v) one.head (applied_head σ u one.head one.left) (applied_head σ v one.head one.right)
      (applied_arguments σ u one.head one.left ∙ all_unified equations σ solves (arguments u) (arguments v) ms
      ∙ sym (applied_arguments σ v one.head one.right))

  pub all_unified : (equations : List Equation) (σ : Substitution) → Solves σ equations → (ss ts : List TypeExpr)
      → AllMadeEqual equations ss ts → map (apply σ) ss ≡ map (apply σ) ts
  all_unified equations σ solves ss ts made.none = refl
  all_unified equations σ solves ss ts (made.more u v us vs m ms) =
      let e : apply σ u ≡ apply σ v = unified equations σ solves u v m in
      let es : map (apply σ) us ≡ map (apply σ) vs = all_unified equations σ solves us vs ms in
      cc
