-- Bytes that were written, one part after another.
use Rattle.std.proofs.Common.{◌≡◌, ℕ, suc, ◌+◌, List, [], ◌∷◌, ◌++◌, Option, None, Some, length, take, refl, sym, ap, ◌∙◌, arith, append_assoc, length-append}
use Rattle.std.proofs.lemmas.List.{append-nil, take-append-le, take_all}
use Rattle.std.specs.Option.{option_map}
use Rattle.cu_session.specs.Ends.{Adds, AddsPrefix}

-- nothing was added
pub Adds-nothing : (x : Option (List ℕ)) → Adds x x []
Adds-nothing None = refl
Adds-nothing (Some xs) = ap Some (sym (append-nil xs))

-- one addition after another
pub Adds-append : (a b c : Option (List ℕ)) (xs ys : List ℕ) → Adds a b xs → Adds b c ys → Adds a c (xs ++ ys)
Adds-append None b c xs ys h k = k ∙ ap (option_map (λ told. told ++ ys)) h
Adds-append (Some told) b c xs ys h k = k ∙ ap (option_map (λ told. told ++ ys)) h ∙ ap Some (append_assoc told xs ys)

take-append-add : (n : ℕ) (xs ys : List ℕ) → take (length xs + n) (xs ++ ys) ≡ xs ++ take n ys
take-append-add n [] ys = ap (λ k. take k ys) (omega arith)
take-append-add n (x ∷ xs) ys =
    let e : length (x ∷ xs) + n ≡ suc (length xs + n) = omega arith
    in ap (λ k. take k (x ∷ xs ++ ys)) e ∙ ap (λ zs. x ∷ zs) (take-append-add n xs ys)

-- some bytes, and then a prefix of others
pub prefix_after : (a b c : Option (List ℕ)) (xs ys : List ℕ) → Adds a b xs → AddsPrefix b c ys → AddsPrefix a c (xs ++ ys)
prefix_after a b c xs ys h k =
    (length xs + k.0, rw length-append (omega (arith, k.1)), rw take-append-add (Adds-append a b c xs (take k.0 ys) h k.2))

-- a prefix of the first part is a prefix of the whole
pub part_prefix : (a b : Option (List ℕ)) (xs ys : List ℕ) → AddsPrefix a b xs → AddsPrefix a b (xs ++ ys)
part_prefix a b xs ys h = (h.0, rw length-append (omega (arith, h.1)), rw (take-append-le h.0 xs ys h.1) h.2)

-- nothing is a prefix of anything
pub nothing_prefix : (a : Option (List ℕ)) (whole : List ℕ) → AddsPrefix a a whole
nothing_prefix a whole = (0, omega arith, Adds-nothing a)

-- the whole is a prefix of itself
pub whole_prefix : (a b : Option (List ℕ)) (whole : List ℕ) → Adds a b whole → AddsPrefix a b whole
whole_prefix a b whole h = (length whole, omega arith, rw (take_all (length whole) whole (omega arith)) h)
