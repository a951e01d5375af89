-- Names that are among the first have texts.
use Rattle.std.proofs.Common.{◌≡◌, ◌<◌, ◌&&◌, ℕ, zero, suc, Bool, true, false, nat_lt, List, [], ◌∷◌, Some, length, slice_get, subst, sym, ◌∙◌, ap, refl}
use Rattle.std.proofs.lemmas.Bool.{ltb-true}
use Rattle.std.specs.List.{list_all}
use Rattle.cu_kernel.specs.LocalKernel.{LocalKernel, TopFunction}
use Rattle.cu_lift.specs.Lifting.{AreNamed}
use Rattle.kernel_tests.specs.Inside.Naming.{has_name}

both : (a b : Bool) → a && b ≡ true → (a ≡ true) × (b ≡ true)
both true b h = (refl, h)
both false b h = let absent : ⊥ = cc in absurd absent

named_at : (n : ℕ) (fs : List TopFunction) → list_all (has_name n) fs ≡ true → (i : ℕ) (f : TopFunction) → slice_get fs i ≡ Some f → f.name.0 < n
named_at n [] h i f e = let absent : ⊥ = cc in absurd absent
named_at n (g ∷ fs) h zero f e =
    let same : g ≡ f = cc in
    subst (λ (x : TopFunction). x.name.0 < n) same (ltb-true g.name.0 n (both (has_name n g) (list_all (has_name n) fs) h).0)
named_at n (g ∷ fs) h (suc i) f e = named_at n fs (both (has_name n g) (list_all (has_name n) fs) h).1 i f e

pub are_named : (texts : List (List ℕ)) (kernel : LocalKernel) (fs : List TopFunction) (n : ℕ) (b : Bool) → n ≡ length texts → fs ≡ kernel.functions
    → b ≡ list_all (has_name n) fs → b ≡ true → AreNamed texts kernel
are_named texts kernel fs n b size same is h i f e =
    subst (λ (k : ℕ). f.name.0 < k) size (named_at n fs (sym is ∙ h) i f (ap (λ (gs : List TopFunction). slice_get gs i) same ∙ e))
