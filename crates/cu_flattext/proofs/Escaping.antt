-- Texts in which a backslash stands twice.
use Rattle.std.proofs.Common.{◌≡◌, ℕ, List, [], ◌∷◌, ◌++◌, codes, refl, ap, ◌∙◌, sym, append_assoc}
use Rattle.std.specs.List.{flat_map}
use Rattle.cu_flattext.specs.Naming.{escaped_byte}

escaped_both : (xs ys : List ℕ) → flat_map escaped_byte (xs ++ ys) ≡ flat_map escaped_byte xs ++ flat_map escaped_byte ys
escaped_both [] ys = refl
escaped_both (x ∷ xs) ys =
    ap (λ (zs : List ℕ). escaped_byte x ++ zs) (escaped_both xs ys)
    ∙ sym (append_assoc (escaped_byte x) (flat_map escaped_byte xs) (flat_map escaped_byte ys))

-- a module's name, a full stop, and a name
pub escaped_path : (owner name : List ℕ)
    → flat_map escaped_byte (owner ++ (codes "." ++ name)) ≡ flat_map escaped_byte owner ++ (codes "." ++ flat_map escaped_byte name)
escaped_path owner name = escaped_both owner (codes "." ++ name)
