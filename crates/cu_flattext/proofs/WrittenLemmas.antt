-- Bytes that were written, and what is left of a whole.
use Rattle.std.proofs.Common.{◌≡◌, ℕ, suc, ◌+◌, List, [], ◌∷◌, ◌++◌, Option, None, Some, length, take, refl, sym, ap, subst, ◌∙◌, arith, append_assoc, length-append}
use Rattle.std.proofs.lemmas.List.{append-nil, take-append-le, take_all}
use Rattle.std.specs.Option.{option_map}
use Rattle.std.specs.Prelude.{Err, Ok, OnErr, Result}
use Rattle.cu_flattext.specs.Inside.Progress.{Continues}
use Rattle.cu_flattext.specs.Inside.Tasks.{Writes}
use Rattle.cu_flattext.specs.Written.{Adds, AddsPrefix}

-- nothing was added
pub Adds-nothing : (x : Option (List ℕ)) → Adds x x []
Adds-nothing None = refl
Adds-nothing (Some xs) = ap Some (sym (append-nil xs))

-- one addition after another
pub Adds-append : (a b c : Option (List ℕ)) (xs ys : List ℕ) → Adds a b xs → Adds b c ys → Adds a c (xs ++ ys)
Adds-append None b c xs ys h k = k ∙ ap (option_map (λ told. told ++ ys)) h
Adds-append (Some told) b c xs ys h k = k ∙ ap (option_map (λ told. told ++ ys)) h ∙ ap Some (append_assoc told xs ys)

pub begins : (x : Option (List ℕ)) (whole : List ℕ) → Continues x x whole whole
begins x whole = record { done = []; told = Adds-nothing x; joined = refl }

pub continues : (a b c : Option (List ℕ)) (whole xs rest : List ℕ) → Continues a b whole (xs ++ rest) → Adds b c xs → Continues a c whole rest
continues a b c whole xs rest h k =
    record { done = h.done ++ xs; told = Adds-append a b c h.done xs h.told k; joined = h.joined ∙ sym (append_assoc h.done xs rest) }

pub ends : (a b c : Option (List ℕ)) (whole rest : List ℕ) → Continues a b whole rest → Adds b c rest → Adds a c whole
ends a b c whole rest h k = rw h.joined (Adds-append a b c h.done rest h.told k)

take-append-add : (n : ℕ) (xs ys : List ℕ) → take (length xs + n) (xs ++ ys) ≡ xs ++ take n ys
take-append-add n [] ys = ap (λ k. take k ys) (omega arith)
take-append-add n (x ∷ xs) ys =
    let e : length (x ∷ xs) + n ≡ suc (length xs + n) = omega arith
    in ap (λ k. take k (x ∷ xs ++ ys)) e ∙ ap (λ zs. x ∷ zs) (take-append-add n xs ys)

-- a prefix of the rest makes a prefix of the whole
pub prefix : (a b c : Option (List ℕ)) (whole rest : List ℕ) → Continues a b whole rest → AddsPrefix b c rest → AddsPrefix a c whole
prefix a b c whole rest h k =
    rw h.joined (
      length h.done + k.0,
      rw length-append (omega (arith, k.1)),
      rw take-append-add (Adds-append a b c h.done (take k.0 rest) h.told k.2),
    )

-- a prefix of the first part of the rest makes a prefix of the whole
pub prefix_part : (a b c : Option (List ℕ)) (whole xs rest : List ℕ) → Continues a b whole (xs ++ rest) → AddsPrefix b c xs → AddsPrefix a c whole
prefix_part a b c whole xs rest h k =
    prefix a b c whole (xs ++ rest) h
    (k.0, rw length-append (omega (arith, k.1)), rw (take-append-le k.0 xs rest k.1) k.2)

-- a prefix of the first part is a prefix of the whole
pub part_prefix : (a b : Option (List ℕ)) (xs rest : List ℕ) → AddsPrefix a b xs → AddsPrefix a b (xs ++ rest)
part_prefix a b xs rest h = prefix_part a a b (xs ++ rest) xs rest (begins a (xs ++ rest)) h

-- nothing is a prefix of anything
pub nothing_prefix : (a : Option (List ℕ)) (whole : List ℕ) → AddsPrefix a a whole
nothing_prefix a whole = (0, omega arith, Adds-nothing a)

-- the whole is a prefix of itself
pub whole_prefix : (a b : Option (List ℕ)) (whole : List ℕ) → Adds a b whole → AddsPrefix a b whole
whole_prefix a b whole h = (length whole, omega arith, rw (take_all (length whole) whole (omega arith)) h)

pub OnErr-always : {T E P : Type 0} (r : Result T E) → P → OnErr r P
OnErr-always (Ok x) p = tt
OnErr-always (Err e) p = p

pub OnErr-map : {T E P Q : Type 0} (r : Result T E) → (P → Q) → OnErr r P → OnErr r Q
OnErr-map (Ok x) f p = tt
OnErr-map (Err e) f p = f p

-- what was added until it breaks off is a prefix of the whole
pub breaks_off : (a b : Option (List ℕ)) (whole rest : List ℕ) → Continues a b whole rest → AddsPrefix a b whole
breaks_off a b whole rest h = prefix a b b whole rest h (nothing_prefix b rest)

-- some of what was left was written to the piece
pub writes_on : (a b : Option (List ℕ)) (whole old left new now : List ℕ) → Continues a b whole (old ++ left) → Writes old left new now
    → Continues a b whole (new ++ now)
writes_on a b whole old left new now h k = subst (Continues a b whole) (sym k) h

-- a part of the piece was added
pub adds_part : (a b c : Option (List ℕ)) (whole piece rest left : List ℕ) → Continues a b whole (piece ++ left) → Continues b c piece rest
    → Continues a c whole (rest ++ left)
adds_part a b c whole piece rest left h k =
    let parts : piece ++ left ≡ k.done ++ (rest ++ left) = ap (λ text. text ++ left) k.joined ∙ append_assoc k.done rest left in
    continues a b c whole k.done (rest ++ left) (subst (Continues a b whole) parts h) k.told
