-- The test that a scope stands for: which variables it binds.
use Rattle.std.specs.Prelude.{◌≡◌, ℕ, Bool, List}
use Rattle.std.proofs.Common.{sym, ap, ◌∙◌}
use denote.Ref.{Bor}
use Rattle.cu_calculus.specs.Valid.{also, also_all}
use Rattle.cu_kernel.specs.Inside.Scope.{held_by}
use Rattle.cu_parts.specs.declared.scope.Scope.TheFolds.{fold-Scope, fold-roll-Scope}
use Rattle.cu_parts.specs.declared.scope.Scope.TheOpen as layer
use Rattle.cu_parts.specs.declared.scope.Scope.TheOpen.{Scope-F}
use Rattle.cu_parts.specs.declared.scope.Scope.TheVariants as scope
use Rattle.cu_parts.specs.declared.scope.Scope.{Scope}

-- the test that one layer of a scope makes of the test around it
abbrev one_scope : Scope-F (ℕ → Bool) → ℕ → Bool
one_scope (layer.Parameters xs) = held_by xs.now
one_scope (layer.With x around) = also x around.now
one_scope (layer.WithAll xs around) = also_all xs.now around.now

pub bound_in : Scope → ℕ → Bool
bound_in = fold-Scope (ℕ → Bool) one_scope

pub bound_in-Parameters : (xs : Bor (List ℕ)) → bound_in (scope.Parameters xs) ≡ held_by xs.now
unfolding bound_in
bound_in-Parameters xs = ap bound_in (sym (scope.rolls-Parameters xs)) ∙ fold-roll-Scope (ℕ
    → Bool) one_scope (layer.Parameters xs)

pub bound_in-With : (x : ℕ) (around : Bor Scope)
    → bound_in (scope.With x around) ≡ also x (bound_in around.now)
unfolding bound_in
bound_in-With x around = ap bound_in (sym (scope.rolls-With x around)) ∙ fold-roll-Scope (ℕ
    → Bool) one_scope (layer.With x around)

pub bound_in-WithAll : (xs : Bor (List ℕ)) (around : Bor Scope)
    → bound_in (scope.WithAll xs around) ≡ also_all xs.now (bound_in around.now)
unfolding bound_in
bound_in-WithAll xs around =
    ap bound_in (sym (scope.rolls-WithAll xs around)) ∙ fold-roll-Scope (ℕ
    → Bool) one_scope (layer.WithAll xs around)

pub ruleset bound_variants = (bound_in-Parameters, bound_in-With, bound_in-WithAll)
