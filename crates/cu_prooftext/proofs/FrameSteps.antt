-- The loops over parts with frames around them, step by step.
use Rattle.std.proofs.Common.{◌≡◌, ℕ, ◌+◌, ◌-◌, List, [], ◌∷◌, ◌++◌, Result, Ok, Err, length, map, refl, ap, sym, ◌∙◌, ◌⊎◌, inl, inr, arith}
use Rattle.std.proofs.lemmas.List.{length-map, map-append}
use Rattle.cu_prooftext.specs.Inside.Frames.{resume}
use Rattle.cu_prooftext.specs.Inside.FramesOf.{progress_of}
use Rattle.cu_prooftext.specs.Inside.Readers.{Reader}
use Rattle.cu_prooftext.specs.declared.progress.Progress.{Progress}
use Rattle.cu_prooftext.specs.declared.progress.Progress.TheVariants as progress
use Rattle.cu_prooftext.proofs.FrameLaws.{Frames, begin_done, begin_fails, begin_open, close_done, close_fails, close_open}

popped : {O F : Type 0} (f : O → F) (all xs : List O) (x : O) → all ≡ xs ++ x ∷ [] → map f all ≡ map f xs ++ f x ∷ []
popped f all xs x e = ap (map f) e ∙ map-append f xs (x ∷ [])

level : {O F : Type 0} (f : O → F) (levels within : ℕ) (xs : List O) → within ≡ levels - (length xs + 1) → within ≡ levels - (length (map f xs) + 1)
level f levels within xs w = w ∙ ap (λ (k : ℕ). levels - (k + 1)) (sym (length-map xs f))

left : {O F : Type 0} (f : O → F) (levels within : ℕ) (xs : List O) → within ≡ levels - length xs → within ≡ levels - length (map f xs)
left f levels within xs w = w ∙ ap (λ (k : ℕ). levels - k) (sym (length-map xs f))

-- the one around it is whole
pub closed_done : {O A F : Type 0} (at : ℕ → Reader A) (after_it : ℕ → F → A × List ℕ → Result (A × List ℕ) ℕ) (begin : ℕ → Reader (A ⊎ F)) (take : ℕ → F → A → Reader (A ⊎ F)) (f : O → F)
    → Frames at after_it begin take → (levels within : ℕ) (all xs : List O) (x : O) (p y : A) (bytes rest : List ℕ)
    → within ≡ levels - (length xs + 1) → all ≡ xs ++ x ∷ [] → take within (f x) p bytes ≡ Ok (inl y, rest)
    → resume after_it (levels - 1) (map f all) (Ok (p, bytes)) ≡ resume after_it (levels - 1) (map f xs) (Ok (y, rest))
closed_done {O} {A} {F} at after_it begin take f frames levels within all xs x p y bytes rest w e h =
    ap (λ (z : List F). resume after_it (levels - 1) z (Ok (p, bytes))) (popped f all xs x e)
    ∙ close_done at after_it begin take frames levels (map f xs) (f x) p y bytes rest (ap (λ (k : ℕ). take k (f x) p bytes) (sym (level f levels within xs w)) ∙ h)

-- another part of the one around it is to be read
pub closed_open : {O A F : Type 0} (at : ℕ → Reader A) (after_it : ℕ → F → A × List ℕ → Result (A × List ℕ) ℕ) (begin : ℕ → Reader (A ⊎ F)) (take : ℕ → F → A → Reader (A ⊎ F)) (f : O → F)
    → Frames at after_it begin take → (levels within : ℕ) (all xs new : List O) (x o : O) (p : A) (bytes rest : List ℕ)
    → within ≡ levels - (length xs + 1) → all ≡ xs ++ x ∷ [] → new ≡ xs ++ o ∷ [] → take within (f x) p bytes ≡ Ok (inr (f o), rest)
    → resume after_it (levels - 1) (map f all) (Ok (p, bytes)) ≡ resume after_it (levels - 1) (map f new) (at (levels - length (map f new)) rest)
closed_open {O} {A} {F} at after_it begin take f frames levels within all xs new x o p bytes rest w e i h =
    ap (λ (z : List F). resume after_it (levels - 1) z (Ok (p, bytes))) (popped f all xs x e)
    ∙ close_open at after_it begin take frames levels (map f xs) (f x) (f o) p bytes rest (ap (λ (k : ℕ). take k (f x) p bytes) (sym (level f levels within xs w)) ∙ h)
    ∙ ap (λ (z : List F). resume after_it (levels - 1) z (at (levels - length z) rest)) (sym (popped f new xs o i))

pub closed_fails : {O A F : Type 0} (at : ℕ → Reader A) (after_it : ℕ → F → A × List ℕ → Result (A × List ℕ) ℕ) (begin : ℕ → Reader (A ⊎ F)) (take : ℕ → F → A → Reader (A ⊎ F)) (f : O → F)
    → Frames at after_it begin take → (levels within : ℕ) (all xs : List O) (x : O) (p : A) (bytes : List ℕ) (n : ℕ)
    → within ≡ levels - (length xs + 1) → all ≡ xs ++ x ∷ [] → take within (f x) p bytes ≡ Err n
    → resume after_it (levels - 1) (map f all) (Ok (p, bytes)) ≡ Err n
closed_fails {O} {A} {F} at after_it begin take f frames levels within all xs x p bytes n w e h =
    ap (λ (z : List F). resume after_it (levels - 1) z (Ok (p, bytes))) (popped f all xs x e)
    ∙ close_fails at after_it begin take frames levels (map f xs) (f x) p bytes n (ap (λ (k : ℕ). take k (f x) p bytes) (sym (level f levels within xs w)) ∙ h)

-- the length that a clause names is that of the frames
same_start : {O A F : Type 0} (at : ℕ → Reader A) (after_it : ℕ → F → A × List ℕ → Result (A × List ℕ) ℕ) (f : O → F) (levels : ℕ) (xs : List O) (bytes : List ℕ)
    → resume after_it (levels - 1) (map f xs) (at (levels - length xs) bytes) ≡ resume after_it (levels - 1) (map f xs) (at (levels - length (map f xs)) bytes)
same_start at after_it f levels xs bytes = ap (λ (k : ℕ). resume after_it (levels - 1) (map f xs) (at (levels - k) bytes)) (sym (length-map xs f))

pub begun_done : {O A F : Type 0} (at : ℕ → Reader A) (after_it : ℕ → F → A × List ℕ → Result (A × List ℕ) ℕ) (begin : ℕ → Reader (A ⊎ F)) (take : ℕ → F → A → Reader (A ⊎ F)) (f : O → F)
    → Frames at after_it begin take → (levels within : ℕ) (xs : List O) (y : A) (bytes rest : List ℕ)
    → within ≡ levels - length xs → begin within bytes ≡ Ok (inl y, rest)
    → resume after_it (levels - 1) (map f xs) (at (levels - length xs) bytes) ≡ resume after_it (levels - 1) (map f xs) (Ok (y, rest))
begun_done at after_it begin take f frames levels within xs y bytes rest w h =
    same_start at after_it f levels xs bytes
    ∙ begin_done at after_it begin take frames levels (map f xs) y bytes rest (ap (λ (k : ℕ). begin k bytes) (sym (left f levels within xs w)) ∙ h)

pub begun_open : {O A F : Type 0} (at : ℕ → Reader A) (after_it : ℕ → F → A × List ℕ → Result (A × List ℕ) ℕ) (begin : ℕ → Reader (A ⊎ F)) (take : ℕ → F → A → Reader (A ⊎ F)) (f : O → F)
    → Frames at after_it begin take → (levels within : ℕ) (xs new : List O) (o : O) (bytes rest : List ℕ)
    → within ≡ levels - length xs → new ≡ xs ++ o ∷ [] → begin within bytes ≡ Ok (inr (f o), rest)
    → resume after_it (levels - 1) (map f xs) (at (levels - length xs) bytes) ≡ resume after_it (levels - 1) (map f new) (at (levels - length (map f new)) rest)
begun_open {O} {A} {F} at after_it begin take f frames levels within xs new o bytes rest w i h =
    same_start at after_it f levels xs bytes
    ∙ begin_open at after_it begin take frames levels (map f xs) (f o) bytes rest (ap (λ (k : ℕ). begin k bytes) (sym (left f levels within xs w)) ∙ h)
    ∙ ap (λ (z : List F). resume after_it (levels - 1) z (at (levels - length z) rest)) (sym (popped f new xs o i))

pub begun_fails : {O A F : Type 0} (at : ℕ → Reader A) (after_it : ℕ → F → A × List ℕ → Result (A × List ℕ) ℕ) (begin : ℕ → Reader (A ⊎ F)) (take : ℕ → F → A → Reader (A ⊎ F)) (f : O → F)
    → Frames at after_it begin take → (levels within : ℕ) (xs : List O) (bytes : List ℕ) (n : ℕ)
    → within ≡ levels - length xs → begin within bytes ≡ Err n → resume after_it (levels - 1) (map f xs) (at (levels - length xs) bytes) ≡ Err n
begun_fails at after_it begin take f frames levels within xs bytes n w h =
    same_start at after_it f levels xs bytes
    ∙ begin_fails at after_it begin take frames levels (map f xs) bytes n (ap (λ (k : ℕ). begin k bytes) (sym (left f levels within xs w)) ∙ h)

-- the loop goes on from the frames that are left
pub goes_from : {O A F : Type 0} (at : ℕ → Reader A) (after_it : ℕ → F → A × List ℕ → Result (A × List ℕ) ℕ) (f : O → F) (levels : ℕ) (xs : List O) (bytes : List ℕ)
    → resume after_it (levels - 1) (map f xs) (at (levels - length (map f xs)) bytes) ≡ resume after_it (levels - 1) (map f xs) (at (levels - length xs) bytes)
goes_from at after_it f levels xs bytes = sym (same_start at after_it f levels xs bytes)

no_items : {O : Type 0} (xs : List O) → length xs ≡ 0 → xs ≡ []
no_items [] h = refl
no_items (x ∷ xs) h = let never : ⊥ = omega (arith, h) in absurd never

-- nothing is around the part
pub none_around : {O A F : Type 0} (after_it : ℕ → F → A × List ℕ → Result (A × List ℕ) ℕ) (f : O → F) (within : ℕ) (xs : List O) (m : Result (A × List ℕ) ℕ) → length xs ≡ 0
    → resume after_it within (map f xs) m ≡ m
none_around {O} after_it f within xs m h = ap (λ (z : List O). resume after_it within (map f z) m) (no_items xs h)

-- before anything is read nothing is around it
pub starts : {O A F : Type 0} (at : ℕ → Reader A) (after_it : ℕ → F → A × List ℕ → Result (A × List ℕ) ℕ) (f : O → F) (levels : ℕ) (xs : List O) (bytes : List ℕ) → xs ≡ []
    → resume after_it (levels - 1) (map f xs) (at (levels - length xs) bytes) ≡ at levels bytes
starts {O} at after_it f levels xs bytes e =
    let same : levels - 0 ≡ levels = omega arith in
    ap (λ (z : List O). resume after_it (levels - 1) (map f z) (at (levels - length z) bytes)) e ∙ ap (λ (k : ℕ). at k bytes) same

-- ---- what is read or begun

pub is_done : {T O A F : Type 0} (part : T → A) (frame : O → F) (p : Progress T O) (t : T) (m : Result ((A ⊎ F) × List ℕ) ℕ) (rest : List ℕ)
    → p ≡ progress.Done t → m ≡ Ok (progress_of part frame p, rest) → m ≡ Ok (inl (part t), rest)
is_done {T} {O} {A} {F} part frame p t m rest is h =
    h ∙ ap (λ (z : Progress T O). let o : Result ((A ⊎ F) × List ℕ) ℕ = Ok (progress_of part frame z, rest) in o) is

pub is_open : {T O A F : Type 0} (part : T → A) (frame : O → F) (p : Progress T O) (f : O) (m : Result ((A ⊎ F) × List ℕ) ℕ) (rest : List ℕ)
    → p ≡ progress.Open f → m ≡ Ok (progress_of part frame p, rest) → m ≡ Ok (inr (frame f), rest)
is_open {T} {O} {A} {F} part frame p f m rest is h =
    h ∙ ap (λ (z : Progress T O). let o : Result ((A ⊎ F) × List ℕ) ℕ = Ok (progress_of part frame z, rest) in o) is
