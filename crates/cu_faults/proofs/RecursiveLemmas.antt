-- Variables that depend on themselves.
use Rattle.std.proofs.Common.{◌≡◌, ◌∙◌, ◌<◌, ◌≤◌, ◌+◌, ℕ, Bool, true, false, List, [], ◌∷◌, ◌++◌, length, drop, get_or, map, refl, sym, ap, add-one, if◌then◌else◌}
use Rattle.std.proofs.Math.Seq.{drop-cons}
use Rattle.std.specs.List.{flat_map}
use Rattle.cu_names.specs.declared.names.NameId.{NameId}
use Rattle.cu_translation.specs.declared.local_names.Binder as code
use Rattle.cu_translation.specs.declared.local_names.Binder.TheVariants as binder
use Rattle.cu_translation.specs.declared.position.Position.{Position}
use Rattle.cu_translation.specs.Dependencies.{Definition, definitions, is_recursive}
use Rattle.cu_translation.specs.FaultOrder.{Fault, RecursiveLocal, fault}
use Rattle.cu_translation.specs.Faults.{recursive_at, recursive_fault}
use Rattle.cu_translation.specs.LocalNames.{At}
use Rattle.cu_translation.specs.Meaning.{binder_meaning, position_meaning}
use Rattle.cu_translation.specs.Sites.{Node}
use Rattle.cu_uses.proofs.FoundLemmas.{nothing_left}
use Rattle.cu_faults.specs.declared.first.First.{First}
use Rattle.cu_faults.specs.Telling.{Told}
use Rattle.cu_faults.proofs.ToldLemmas.{told_as, told_both, told_none}

-- ---- one

pub unnamed : (nodes : List Node) (b : code.Binder) → ((p : Position) → b ≡ binder.At p → ⊥) → recursive_at nodes (binder_meaning b) ≡ []
unnamed nodes (binder.At p) other = absurd (other p refl)
unnamed nodes (binder.Whole p) other = refl
unnamed nodes (binder.Otherwise p) other = refl
unnamed nodes (binder.Selected p q) other = refl

abbrev told_if : Position → Bool → List Fault
told_if p recursive = if recursive then fault RecursiveLocal (position_meaning p) ∷ [] else []

pub recursive_told : (nodes : List Node) (b : code.Binder) (p : Position) → b ≡ binder.At p → is_recursive nodes (At (position_meaning p)) ≡ true
    → recursive_at nodes (binder_meaning b) ≡ fault RecursiveLocal (position_meaning p) ∷ []
recursive_told nodes b p is recursive = ap (λ x. recursive_at nodes (binder_meaning x)) is ∙ ap (told_if p) recursive

pub not_recursive : (nodes : List Node) (b : code.Binder) (p : Position) → b ≡ binder.At p → is_recursive nodes (At (position_meaning p)) ≡ false
    → recursive_at nodes (binder_meaning b) ≡ []
not_recursive nodes b p is other = ap (λ x. recursive_at nodes (binder_meaning x)) is ∙ ap (told_if p) other

-- ---- all

abbrev pub all_recursive : List Node → List code.Binder → List Fault
all_recursive nodes bs = flat_map (recursive_at nodes) (map binder_meaning bs)

pub all_prefix : (nodes : List Node) (owner : NameId) (bs : List code.Binder) (i : ℕ) (d : code.Binder) (x y z : First) → i < length bs
    → Told owner x (recursive_at nodes (binder_meaning (get_or bs i d))) y → Told owner y (all_recursive nodes (drop (i + 1) bs)) z → Told owner x (all_recursive nodes (drop i bs)) z
all_prefix nodes owner bs i d x y z within one rest =
    told_as (sym (ap (all_recursive nodes) (drop-cons bs i d within ∙ ap (λ n. get_or bs i d ∷ drop n bs) (sym (add-one i))))) (told_both one rest)

pub all_end : (nodes : List Node) (owner : NameId) (bs : List code.Binder) (i : ℕ) (x : First) → length bs ≤ i → Told owner x (all_recursive nodes (drop i bs)) x
all_end nodes owner bs i x past = told_as (sym (nothing_left (all_recursive nodes) refl bs i past)) (told_none owner x)

defined : (nodes : List Node) (ds : List Definition) → flat_map (recursive_at nodes) (map (λ (d : Definition). d.variable) ds) ≡ flat_map (recursive_fault nodes) ds
defined nodes [] = refl
defined nodes (d ∷ ds) = ap (λ fs. recursive_fault nodes d ++ fs) (defined nodes ds)

-- those of all definitions
pub all_are : (nodes : List Node) (bs : List code.Binder) → map binder_meaning bs ≡ map (λ (d : Definition). d.variable) (definitions nodes)
    → all_recursive nodes bs ≡ flat_map (recursive_fault nodes) (definitions nodes)
all_are nodes bs same = ap (flat_map (recursive_at nodes)) same ∙ defined nodes (definitions nodes)
