-- A program has at most one interface: the types of a group's functions follow from those of what the group mentions.
use Rattle.std.proofs.Common.{◌≡◌, ℕ, zero, suc, ◌<◌, ◌≤◌, ◌⊎◌, inl, inr, List, [], ◌∷◌, Some, length, slice_get, slice_index_or, refl, sym, ap, ◌∙◌, subst, arith}
use Rattle.std.proofs.lemmas.Bool.{cases_lt}
use Rattle.cu_calculus.specs.declared.FunId.{FunId}
use Rattle.cu_kernel.specs.Kernel.{Kernel, program_of}
use Rattle.cu_kernel.specs.TypeExpr as type
use Rattle.cu_kernel.specs.TypeExpr.{TypeExpr}
use Rattle.cu_lift.proofs.Bridges.{function_at}
use Rattle.cu_cycles.proofs.Places.{take_less}
use Rattle.cu_lift.specs.Groups.{AreGroups, IsFunction, IsGroup, IsIn}
use Rattle.cu_lift.specs.Walks.{Mentions}
use Rattle.cu_types.proofs.Connections.{group_has, group_is, group_of, is_group, own_group, reached, reaches_fewer, reaches_mentioned, reaches_on}
use Rattle.cu_types.proofs.Inferring.{equations_same, functions_length, in_or_lacks, lacks_in, member_at}
use Rattle.cu_types.proofs.Renaming.{instances_alike}
use Rattle.cu_types.specs.Equations.{Member, equations, member_type}
use Rattle.cu_types.specs.Inference.{HasPrincipalTypes, PrincipallyTyped, type_in}
use Rattle.cu_types.specs.Numbered.{numbered}
use Rattle.cu_types.specs.Types.{Substitution, apply}
use Rattle.cu_types.specs.Unification.{Equation, IsMostGeneral}

-- ---- a group

-- what a group's functions mention is in the group, or has one type in both interfaces
abbrev pub Agree : Kernel → List TypeExpr → List TypeExpr → List FunId → Type 0
Agree p i j fs = (f g : FunId) → IsIn fs f → Mentions (program_of p) f g → IsIn fs g ⊎ (type_in i g ≡ type_in j g)

-- two most general solutions of a group's equations
alike : (es : List Equation) (σ τ : Substitution) (t : TypeExpr) → IsMostGeneral σ es → IsMostGeneral τ es
    → numbered (apply σ t) ≡ numbered (apply τ t)
alike es σ τ t one two = instances_alike σ τ t (one.general τ two.solves) (two.general σ one.solves)

pub group_agrees : (p : Kernel) (i j : List TypeExpr) (fs : List FunId) → HasPrincipalTypes p i fs → HasPrincipalTypes p j fs → Agree p i j fs
    → (f : FunId) → IsIn fs f → type_in i f ≡ type_in j f
group_agrees p i j fs one two agree f there =
    let found = member_at p fs f there in
    let m : Member = found.1 in
    let same : equations p i fs ≡ equations p j fs = equations_same p i j fs agree in
    let most : IsMostGeneral two.solution (equations p i fs) = subst (IsMostGeneral two.solution) (sym same) two.general in
    let types : type_in i m.function ≡ type_in j m.function =
    one.types found.0 m found.2
    ∙ alike (equations p i fs) one.solution two.solution (member_type m) one.general most
    ∙ sym (two.types found.0 m found.2) in
    subst (λ (g : FunId). type_in i g ≡ type_in j g) found.3 types

-- ---- all functions

outside : (types : List TypeExpr) (k : ℕ) → length types ≤ k → slice_index_or types k (type.Variable 0) ≡ type.Variable 0
outside [] k out = refl
outside (t ∷ types) zero out = absurd (omega arith)
outside (t ∷ types) (suc k) out = outside types k (omega arith)

no_function : (p : Kernel) (i : List TypeExpr) (g : FunId) → PrincipallyTyped p i → length (program_of p).functions ≤ g.0
    → type_in i g ≡ type.Variable 0
no_function p i g typed out =
    let sized : length i ≡ length p.functions = typed.typed.each in
    let long : length (program_of p).functions ≡ length p.functions = functions_length p in
    outside i g.0 (omega (arith, sized, long, out))

module _ (p : Kernel) (i j : List TypeExpr) (one : PrincipallyTyped p i) (two : PrincipallyTyped p j) where
  -- a function that another one mentions from its group is there, or reaches fewer
  mentioned_agrees : (k : ℕ) (f : FunId) → IsFunction (program_of p) f → reached (program_of p) f < suc k
      → ((g : FunId) → IsFunction (program_of p) g → reached (program_of p) g < k → type_in i g ≡ type_in j g)
      → Agree p i j (group_of (program_of p) f)
  mentioned_agrees k f inside few below h g at_h mentions = elim (in_or_lacks g (group_of (program_of p) f)) [
    | inl there ↦ inl there
    | inr lacks ↦
        let member = group_is (program_of p) f h at_h in
        let forth = reaches_on (program_of p) f h g member.1 (reaches_mentioned (program_of p) h g mentions) in
        elim (cases_lt g.0 (length (program_of p).functions)) [
          | inl low ↦
              let fewer : reached (program_of p) g < reached (program_of p) f =
              reaches_fewer (program_of p) f g inside forth
              (λ converse. lacks_in g (group_of (program_of p) f) (group_has (program_of p) f g low forth converse) lacks) in
              inr (below g low (omega (arith, fewer, few)))
          | inr out ↦ inr (no_function p i g one out ∙ sym (no_function p j g two out))
        ]
  ]

  agree_below : (k : ℕ) (f : FunId) → IsFunction (program_of p) f → reached (program_of p) f < k → type_in i f ≡ type_in j f
  agree_below zero f inside few = absurd (omega arith)
  agree_below (suc k) f inside few =
      let group : IsGroup (program_of p) (group_of (program_of p) f) = is_group (program_of p) f inside in
      group_agrees p i j (group_of (program_of p) f) (one.general (group_of (program_of p) f) group)
      (two.general (group_of (program_of p) f) group)
      (mentioned_agrees k f inside few (λ g low less. agree_below k g low less)) f (own_group (program_of p) f inside)

  agree : (k : ℕ) → k < length i → slice_index_or i k (type.Variable 0) ≡ slice_index_or j k (type.Variable 0)
  agree k low =
      let sized : length i ≡ length p.functions = one.typed.each in
      let long : length (program_of p).functions ≡ length p.functions = functions_length p in
      agree_below (suc (reached (program_of p) (function_at k))) (function_at k) (omega (arith, low, sized, long)) (omega arith)

same_list : (xs ys : List TypeExpr) → length xs ≡ length ys
    → ((k : ℕ) → k < length xs → slice_index_or xs k (type.Variable 0) ≡ slice_index_or ys k (type.Variable 0)) → xs ≡ ys
same_list [] [] sized same = refl
same_list [] (y ∷ ys) sized same = absurd (omega arith)
same_list (x ∷ xs) [] sized same = absurd (omega arith)
same_list (x ∷ xs) (y ∷ ys) sized same =
    ap (λ (t : TypeExpr). t ∷ xs) (same 0 (omega arith))
    ∙ ap (λ (ts : List TypeExpr). y ∷ ts) (same_list xs ys (omega arith) (λ k low. same (suc k) (omega (arith, low))))

pub one_interface : (p : Kernel) (i j : List TypeExpr) → PrincipallyTyped p i → PrincipallyTyped p j → i ≡ j
one_interface p i j one two =
    same_list i j (one.typed.each ∙ sym two.typed.each) (λ k low. agree p i j one two k low)

-- ---- groups one after another

-- the groups before a place have their most general types
abbrev pub TypedBefore : Kernel → List (List FunId) → ℕ → List TypeExpr → Type 0
TypedBefore p groups place i =
    (k : ℕ) (other : List FunId) → k < place → slice_get groups k ≡ Some other → HasPrincipalTypes p i other

module _ (p : Kernel) (groups : List (List FunId)) (are : AreGroups (program_of p) groups) (i j : List TypeExpr) (place : ℕ)
    (one : TypedBefore p groups place i) (two : TypedBefore p groups place j) where
  placed_agree : (k q : ℕ) (fs : List FunId) → q < k → k ≤ place → slice_get groups q ≡ Some fs → (f : FunId) → IsIn fs f
      → type_in i f ≡ type_in j f
  placed_agree zero q fs less low at f there = absurd (omega arith)
  placed_agree (suc k) q fs less low at f there =
      let here : q < place = omega (arith, less, low) in
      group_agrees p i j fs (one q fs here at) (two q fs here at)
      (λ h g at_h mentions. elim (are.ready q fs at h g at_h mentions) [
        | inl inside ↦ inl inside
        | inr placed ↦
            let before = take_less groups q placed.1.0 placed.0 placed.1.1 in
            let lower : placed.1.0 < q = before.0 in
            inr (placed_agree k placed.1.0 placed.0 (omega (arith, lower, less)) (omega (arith, low)) before.1 g placed.2)
      ])
      f there

  -- the next group asks for the same in both
  pub next_agrees : (fs : List FunId) → slice_get groups place ≡ Some fs → equations p i fs ≡ equations p j fs
  next_agrees fs at =
      equations_same p i j fs
      (λ h g at_h mentions. elim (are.ready place fs at h g at_h mentions) [
        | inl inside ↦ inl inside
        | inr placed ↦
            let before = take_less groups place placed.1.0 placed.0 placed.1.1 in
            inr (placed_agree place placed.1.0 placed.0 before.0 (omega arith) before.1 g placed.2)
      ])
