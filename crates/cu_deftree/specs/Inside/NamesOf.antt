-- The names that a scope stands for.
use Rattle.std.specs.Prelude.{◌≡◌, ℕ, List, [], ◌∷◌, ◌++◌, Option, None, Some, if◌then◌else◌, nat_eq}
use Rattle.std.proofs.Common.{sym, ap, ◌∙◌}
use denote.Ref.{Bor}
use Rattle.cu_deftree.specs.Rows as rows
use Rattle.cu_deftree.specs.declared.names.Names.TheFolds.{fold-Names, fold-roll-Names}
use Rattle.cu_deftree.specs.declared.names.Names.TheOpen as layer
use Rattle.cu_deftree.specs.declared.names.Names.TheOpen.{Names-F}
use Rattle.cu_deftree.specs.declared.names.Names.TheVariants as names
use Rattle.cu_deftree.specs.declared.names.Names.{Names}

-- one layer of a scope, around which there are names
abbrev one_scope : Names-F rows.Names → rows.Names
one_scope layer.Nothing = []
one_scope (layer.With x name around) = (x, name) ∷ around.now
one_scope (layer.WithAll more around) = more.now ++ around.now

pub names_of : Names → rows.Names
names_of = fold-Names rows.Names one_scope

pub names_of-Nothing : names_of names.Nothing ≡ []
unfolding names_of
names_of-Nothing =
    ap names_of (sym names.rolls-Nothing) ∙ fold-roll-Names rows.Names one_scope layer.Nothing

pub names_of-With : (x name : ℕ) (around : Bor Names)
    → names_of (names.With x name around) ≡ (x, name) ∷ names_of around.now
unfolding names_of
names_of-With x name around =
    ap names_of (sym (names.rolls-With x name around)) ∙ fold-roll-Names rows.Names one_scope
    (layer.With x name around)

pub names_of-WithAll : (more : Bor (List (ℕ × ℕ))) (around : Bor Names)
    → names_of (names.WithAll more around) ≡ more.now ++ names_of around.now
unfolding names_of
names_of-WithAll more around =
    ap names_of (sym (names.rolls-WithAll more around)) ∙ fold-roll-Names rows.Names one_scope
    (layer.WithAll more around)

pub ruleset names_of_variants = (names_of-Nothing, names_of-With, names_of-WithAll)

-- what the first of names calls a variable
abbrev pub found_name : rows.Names → ℕ → Option ℕ
found_name [] x = None
found_name ((y, z) ∷ more) x = if nat_eq y x then Some z else found_name more x
