-- The variables that a scope of the code allows in a term, as a test.
use Rattle.std.specs.Prelude.{◌≡◌, ℕ, Bool, true, List}
use Rattle.std.proofs.Common.{sym, ap, ◌∙◌}
use denote.Ref.{Bor}
use Rattle.cu_calculus.specs.Valid.{also, also_all, but, holds}
use Rattle.cu_kernel.specs.declared.scope.Scope.TheFolds.{fold-Scope, fold-roll-Scope}
use Rattle.cu_kernel.specs.declared.scope.Scope.TheOpen as layer
use Rattle.cu_kernel.specs.declared.scope.Scope.TheOpen.{Scope-F}
use Rattle.cu_kernel.specs.declared.scope.Scope.TheVariants as scope
use Rattle.cu_kernel.specs.declared.scope.Scope.{Scope}

-- whether a variable is one of these
abbrev pub held_by : List ℕ → ℕ → Bool
held_by xs y = holds y xs

-- the test of one layer of a scope, where the scope around it stands for a test
abbrev one_scope : Scope-F (ℕ → Bool) → ℕ → Bool
one_scope layer.All = λ x. true
one_scope (layer.Parameters xs) = held_by xs.now
one_scope (layer.With x around) = also x around.now
one_scope (layer.WithAll xs around) = also_all xs.now around.now
one_scope (layer.Without x around) = but x around.now

-- whether a scope of the code allows a variable
pub allowed : Scope → ℕ → Bool
allowed = fold-Scope (ℕ → Bool) one_scope

pub allowed-All : allowed scope.All ≡ (λ x. true)
unfolding allowed
allowed-All = ap allowed (sym scope.rolls-All) ∙ fold-roll-Scope (ℕ → Bool) one_scope layer.All

pub allowed-Parameters : (xs : Bor (List ℕ)) → allowed (scope.Parameters xs) ≡ held_by xs.now
unfolding allowed
allowed-Parameters xs = ap allowed (sym (scope.rolls-Parameters xs)) ∙ fold-roll-Scope (ℕ
    → Bool) one_scope (layer.Parameters xs)

pub allowed-With : (x : ℕ) (around : Bor Scope) → allowed (scope.With x around)
    ≡ also x (allowed around.now)
unfolding allowed
allowed-With x around = ap allowed (sym (scope.rolls-With x around)) ∙ fold-roll-Scope (ℕ
    → Bool) one_scope (layer.With x around)

pub allowed-WithAll : (xs : Bor (List ℕ)) (around : Bor Scope)
    → allowed (scope.WithAll xs around) ≡ also_all xs.now (allowed around.now)
unfolding allowed
allowed-WithAll xs around =
    ap allowed (sym (scope.rolls-WithAll xs around)) ∙ fold-roll-Scope (ℕ
    → Bool) one_scope (layer.WithAll xs around)

pub allowed-Without : (x : ℕ) (around : Bor Scope)
    → allowed (scope.Without x around) ≡ but x (allowed around.now)
unfolding allowed
allowed-Without x around =
    ap allowed (sym (scope.rolls-Without x around)) ∙ fold-roll-Scope (ℕ
    → Bool) one_scope (layer.Without x around)

pub ruleset allowed_variants =
    (allowed-All, allowed-Parameters, allowed-With, allowed-WithAll, allowed-Without)
