-- A free variable is equated with a constructor, by the arguments.
use Rattle.std.proofs.Common.{◌≡◌, ℕ, suc, ◌+◌, ◌<◌, true, false, List, [], ◌∷◌, ◌++◌, length, refl, arith}
use Rattle.std.specs.Prelude.{zip}
use Rattle.cu_calculus.specs.declared.ConId.{ConId}
use Rattle.cu_calculus.specs.declared.builtin.Special.{Special}
use Rattle.cu_machine.specs.declared.Kind.TheVariants as kind
use Rattle.cu_machine.specs.Graph.{Graph, put}
use Rattle.cu_machine.specs.Rewrite.{binding_step, decomposition_step, failing_step, imitation_step, occurs_in}
use Rattle.cu_machine.specs.State.{free_nodes, numbers}

module _ (special : Special) (graph : Graph) (id v other : ℕ) (c : ConId) where
  pub imitates_none : (args : List ℕ) → length args ≡ 0 → imitation_step special graph id v other c args ≡ binding_step special graph id v other
  imitates_none [] none = refl
  imitates_none (arg ∷ args) none = let no : ⊥ = omega arith in absurd no

  pub imitates_itself : (args : List ℕ) → 0 < length args → occurs_in graph v args ≡ true → imitation_step special graph id v other c args ≡ failing_step graph id
  imitates_itself [] some occurs = let no : ⊥ = omega arith in absurd no
  imitates_itself (arg ∷ args) some occurs = rw occurs refl

  pub imitates_others : (args : List ℕ) → 0 < length args → occurs_in graph v args ≡ false
      → imitation_step special graph id v other c args
      ≡ decomposition_step special (put (graph ++ free_nodes (length args)) v (record { kind = kind.Cons c; args = numbers (length graph) (length args) })) id
      (zip (numbers (length graph) (length args)) args)
  imitates_others [] some occurs = let no : ⊥ = omega arith in absurd no
  imitates_others (arg ∷ args) some occurs =
      let e : length args + 1 ≡ suc (length args) = omega arith in
      rw (occurs, e) refl

pub ruleset imitations = (imitates_none, imitates_itself, imitates_others)
