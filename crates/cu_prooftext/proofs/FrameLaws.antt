-- What is said of parts that have frames around them.
use Rattle.std.proofs.Common.{◌≡◌, ℕ, zero, suc, ◌+◌, ◌-◌, ◌<◌, ◌≤◌, Bool, true, false, List, [], ◌∷◌, ◌++◌, Option, None, Some, Result, Ok, Err, length, refl, ap, sym, ◌∙◌, append_assoc, append-nil, ◌⊎◌, inl, inr, arith, codes, cond, nat_eq, length-append}
use Rattle.std.proofs.lemmas.Bool.Decides.{nat_tests}
use Rattle.cu_prooftext.specs.Inside.Frames.{awaiting, goes_on, resume}
use Rattle.cu_prooftext.specs.Inside.Readers.{◌>>=◌, Reader, after, choose, chosen, made, many, pair, word, word_at}
use Rattle.cu_prooftext.specs.Inside.Reading.{nothing, part_at}
use Rattle.cu_prooftext.proofs.LoopLaws.{bind_same}
use Rattle.cu_prooftext.proofs.ReaderLaws.{AnyUnit, Reads, always, bind_ok, word_reads}

-- ---- one step after another

pub bind_assoc : {A B C : Type 0} (m : Result A ℕ) (f : A → Result B ℕ) (g : B → Result C ℕ) → ((m >>= f) >>= g) ≡ (m >>= λ x. f x >>= g)
bind_assoc (Ok x) f g = refl
bind_assoc (Err n) f g = refl

-- a part and what was read before it
abbrev pub tie : {A B : Type 0} → A → B × List ℕ → Result ((A × B) × List ℕ) ℕ
tie x q = Ok ((x, q.0), q.1)

-- what a part stands for
abbrev pub stands : {A B : Type 0} → (A → B) → A × List ℕ → Result (B × List ℕ) ℕ
stands f q = Ok (f q.0, q.1)

made_of : {A B C : Type 0} (m : Result (B × List ℕ) ℕ) (x : A) (f : A × B → C) → ((m >>= tie x) >>= stands f) ≡ (m >>= stands (λ y. f (x, y)))
made_of (Ok q) x f = refl
made_of (Err n) x f = refl

pair_at : {A B C : Type 0} (m : Result (A × List ℕ) ℕ) (s : A → Reader B) (f : A × B → C)
    → ((m >>= λ p. s p.0 p.1 >>= tie p.0) >>= stands f) ≡ (m >>= λ p. s p.0 p.1 >>= stands (λ y. f (p.0, y)))
pair_at (Ok p) s f = made_of (s p.0 p.1) p.0 f
pair_at (Err n) s f = refl

-- what two parts make
pub pair_made : {A B C : Type 0} (f : A × B → C) (r : Reader A) (s : A → Reader B) (bytes : List ℕ)
    → made f (pair r s) bytes ≡ (r bytes >>= λ p. s p.0 p.1 >>= stands (λ y. f (p.0, y)))
pair_made f r s bytes = pair_at (r bytes) s f

abbrev after_unit : {A : Type 0} → (Unit {0} × A) → A
after_unit p = p.1

space_last : {A : Type 0} (m : Result (A × List ℕ) ℕ) → ((m >>= tie tt) >>= stands after_unit) ≡ m
space_last (Ok q) = refl
space_last (Err n) = refl

abbrev pub lone : List ℕ → Result (Unit {0} × List ℕ) ℕ
lone z = Ok (tt, z)

space_at : {A : Type 0} (m : Result (List ℕ) ℕ) (r : Reader A) → (((m >>= lone) >>= λ p. r p.1 >>= tie p.0) >>= stands after_unit) ≡ (m >>= r)
space_at (Ok z) r = space_last (r z)
space_at (Err n) r = refl

pub after_word_is : {A : Type 0} (w : List ℕ) (r : Reader A) (bytes : List ℕ) → after w r bytes ≡ (word_at w bytes >>= r)
after_word_is w r bytes = space_at (word_at w bytes) r

abbrev pub in_front : {A : Type 0} → A × List A → List A
in_front p = p.0 ∷ p.1

many_last : {A B : Type 0} (f : List A → B) (x : A) (m : Result (List A × List ℕ) ℕ) → (((m >>= tie x) >>= stands in_front) >>= stands f) ≡ (m >>= stands (λ xs. f (x ∷ xs)))
many_last f x (Ok q) = refl
many_last f x (Err n) = refl

pub many_at : {A B : Type 0} (f : List A → B) (m : Result (A × List ℕ) ℕ) (k : A × List ℕ → Result (List A × List ℕ) ℕ)
    → (((m >>= λ p. k p >>= tie p.0) >>= stands in_front) >>= stands f) ≡ (m >>= λ p. k p >>= stands (λ xs. f (p.0 ∷ xs)))
many_at f (Ok p) k = many_last f p.0 (k p)
many_at f (Err n) k = refl

-- what one more part makes with the others
pub many_more : {A B : Type 0} (f : List A → B) (part : Reader A) (n : ℕ) (bytes : List ℕ)
    → made f (many part (suc n)) bytes ≡ (part bytes >>= λ p. many part n p.1 >>= stands (λ xs. f (p.0 ∷ xs)))
many_more f part n bytes = many_at f (part bytes) (λ p. many part n p.1)

-- ---- frames

abbrev pub around : {A F : Type 0} → F → Unit {0} → A ⊎ F
around f u = inr f

awaits_at : {A F : Type 0} (m : Result (List ℕ) ℕ) (r : Reader A) (after_it : F → A × List ℕ → Result (A × List ℕ) ℕ) (f : F)
    → (((m >>= lone) >>= stands (around f)) >>= goes_on r after_it) ≡ ((m >>= r) >>= after_it f)
awaits_at (Ok z) r after_it f = refl
awaits_at (Err n) r after_it f = refl

-- a frame before a space, and what is read then
pub awaits : {A F : Type 0} (r : Reader A) (after_it : F → A × List ℕ → Result (A × List ℕ) ℕ) (f : F) (bytes : List ℕ)
    → (awaiting f bytes >>= goes_on r after_it) ≡ (part_at r bytes >>= after_it f)
awaits {A} r after_it f bytes =
    awaits_at (word_at (codes " ") bytes) r after_it f ∙ ap (λ (m : Result (A × List ℕ) ℕ). m >>= after_it f) (sym (after_word_is (codes " ") r bytes))

abbrev pub whole_of : {A B F : Type 0} → (B → A) → B → A ⊎ F
whole_of f x = inl (f x)

leaf_at : {A B F : Type 0} (m : Result (B × List ℕ) ℕ) (f : B → A) (r : Reader A) (after_it : F → A × List ℕ → Result (A × List ℕ) ℕ)
    → (m >>= stands f) ≡ ((m >>= stands (whole_of f)) >>= goes_on r after_it)
leaf_at (Ok p) f r after_it = refl
leaf_at (Err n) f r after_it = refl

-- a part with none in it
pub leaf : {A B F : Type 0} (s : Reader B) (f : B → A) (r : Reader A) (after_it : F → A × List ℕ → Result (A × List ℕ) ℕ) (bytes : List ℕ)
    → made f s bytes ≡ (made (whole_of f) s bytes >>= goes_on r after_it)
leaf s f r after_it bytes = leaf_at (s bytes) f r after_it

pub one_more : {A : Type 0} (front : List A) (x : A) (more : List A) → (front ++ x ∷ []) ++ more ≡ front ++ x ∷ more
one_more front x more = append_assoc front (x ∷ []) more

abbrev pub next_of : {A F : Type 0} → (List A → A) → (List A → ℕ → F) → List A → ℕ → Reader (A ⊎ F)
next_of build frame front left bytes = cond (nat_eq left 0) (Ok (inl (build front), bytes)) (awaiting (frame front (left - 1)) bytes)

-- a choice whose test is false
pub second : {B : Type 0} (t : Bool) (x y : B) → t ≡ false → y ≡ cond t x y
second true x y h = let never : ⊥ = cc h in absurd never
second false x y h = refl

-- so many parts of one, of which some are read
pub counted : {A F : Type 0} (r : Reader A) (after_it : F → A × List ℕ → Result (A × List ℕ) ℕ) (build : List A → A) (frame : List A → ℕ → F)
    → ((xs : List A) (left : ℕ) (p : A × List ℕ) → after_it (frame xs left) p ≡ made (λ more. build ((xs ++ p.0 ∷ []) ++ more)) (many (part_at r) left) p.1)
    → (front : List A) (left : ℕ) (bytes : List ℕ)
    → made (λ more. build (front ++ more)) (many (part_at r) left) bytes ≡ (next_of build frame front left bytes >>= goes_on r after_it)
counted {A} r after_it build frame is front zero bytes =
    ap (λ (z : List A). let m : Result (A × List ℕ) ℕ = Ok (build z, bytes) in m) (append-nil front)
counted {A} {F} r after_it build frame is front (suc n) bytes =
    let less : n ≡ suc n - 1 = omega arith in
    let more : nat_eq (suc n) 0 ≡ false = grind (arith, nat_tests) in
    many_more (λ more. build (front ++ more)) (part_at r) n bytes
    ∙ bind_same (part_at r bytes) (λ p. many (part_at r) n p.1 >>= stands (λ xs. build (front ++ p.0 ∷ xs))) (after_it (frame front (suc n - 1)))
    (λ p e.
    bind_same (many (part_at r) n p.1) (stands (λ xs. build (front ++ p.0 ∷ xs))) (stands (λ xs. build ((front ++ p.0 ∷ []) ++ xs)))
    (λ q i. ap (λ (z : List A). let m : Result (A × List ℕ) ℕ = Ok (build z, q.1) in m) (sym (one_more front p.0 q.0)))
    ∙ sym (is front n p) ∙ ap (λ (k : ℕ). after_it (frame front k) p) less)
    ∙ sym (awaits r after_it (frame front (suc n - 1)) bytes)
    ∙ ap (λ (z : Result ((A ⊎ F) × List ℕ) ℕ). z >>= goes_on r after_it)
    (second {B = Result ((A ⊎ F) × List ℕ) ℕ} (nat_eq (suc n) 0) (Ok (inl (build front), bytes)) (awaiting (frame front (suc n - 1)) bytes) more)

-- ---- tables

-- two readers of a byte's part: the whole of it, and its beginning
abbrev pub Linked : {A F : Type 0} → Reader A → (F → A × List ℕ → Result (A × List ℕ) ℕ) → Option (Reader A) → Option (Reader (A ⊎ F)) → Type 0
Linked r after_it None None = Unit {0}
Linked r after_it None (Some s) = ⊥
Linked r after_it (Some s) None = ⊥
Linked r after_it (Some s) (Some t) = (bytes : List ℕ) → s bytes ≡ (t bytes >>= goes_on r after_it)

pub if_linked : {A F : Type 0} (r : Reader A) (after_it : F → A × List ℕ → Result (A × List ℕ) ℕ) (b : Bool) (s : Reader A) (t : Reader (A ⊎ F)) (o : Option (Reader A)) (u : Option (Reader (A ⊎ F)))
    → ((bytes : List ℕ) → s bytes ≡ (t bytes >>= goes_on r after_it)) → Linked r after_it o u → Linked r after_it (cond b (Some s) o) (cond b (Some t) u)
if_linked r after_it true s t o u here others = here
if_linked r after_it false s t o u here others = others

pub chosen_linked : {A F : Type 0} (r : Reader A) (after_it : F → A × List ℕ → Result (A × List ℕ) ℕ) (o : Option (Reader A)) (u : Option (Reader (A ⊎ F))) (b : ℕ) (bs : List ℕ)
    → Linked r after_it o u → chosen o b bs ≡ (chosen u b bs >>= goes_on r after_it)
chosen_linked r after_it None None b bs h = refl
chosen_linked r after_it None (Some t) b bs h = absurd h
chosen_linked r after_it (Some s) None b bs h = absurd h
chosen_linked r after_it (Some s) (Some t) b bs h = h bs

pub choose_linked : {A F : Type 0} (r : Reader A) (after_it : F → A × List ℕ → Result (A × List ℕ) ℕ) (whole : ℕ → Option (Reader A)) (begun : ℕ → Option (Reader (A ⊎ F)))
    → ((b : ℕ) → Linked r after_it (whole b) (begun b)) → (bytes : List ℕ) → choose whole bytes ≡ (choose begun bytes >>= goes_on r after_it)
choose_linked r after_it whole begun linked [] = refl
choose_linked r after_it whole begun linked (b ∷ bs) = chosen_linked r after_it (whole b) (begun b) b bs (linked b)

-- ---- how many bytes are left

-- no more bytes are left than there were
abbrev pub Shrinks : {A : Type 0} → Reader A → Type 0
Shrinks {A} r = (bytes : List ℕ) (x : A) (rest : List ℕ) → r bytes ≡ Ok (x, rest) → length rest ≤ length bytes

pub reads_shrink : {A : Type 0} (stop : ℕ → Bool) (r : Reader A) (t : A → List ℕ) (G : A → Type 0) → Reads stop r t G → Shrinks r
reads_shrink stop r t G reads bytes x rest e =
    omega (arith, ap length (reads.takes bytes x rest e).splits, length-append (t x) rest)

pub bind_shrinks : {A B : Type 0} (r : Reader A) (s : A → Reader B) → Shrinks r → ((x : A) → Shrinks (s x)) → Shrinks (λ bytes. r bytes >>= λ p. s p.0 p.1)
bind_shrinks r s first second bytes y rest e =
    let one = bind_ok (r bytes) (λ p. s p.0 p.1) (y, rest) e in
    let a = first bytes one.0.0 one.0.1 one.1 in
    let b = second one.0.0 one.0.1 y rest one.2 in
    omega (arith, a, b)

pub nothing_shrinks : {A : Type 0} (x : A) → Shrinks (nothing x)
nothing_shrinks {A} x bytes y rest e =
    let same : (x, bytes) ≡ (y, rest) = cc e in
    let lengths = ap (λ (p : A × List ℕ). length p.1) same in
    omega (arith, lengths)

pub made_shrinks : {A B : Type 0} (f : A → B) (r : Reader A) → Shrinks r → Shrinks (made f r)
made_shrinks f r first = bind_shrinks r (λ x. nothing (f x)) first (λ x. nothing_shrinks (f x))

awaited : {A F : Type 0} (m : Result (Unit {0} × List ℕ) ℕ) (f : F) (x : A ⊎ F) (rest : List ℕ) → (m >>= stands (around f)) ≡ Ok (x, rest) → m ≡ Ok (tt, rest)
awaited {A} {F} (Ok z) f x rest e =
    let o : A ⊎ F = inr f in
    let same : (o, z.1) ≡ (x, rest) = cc e in
    ap (λ (p : (A ⊎ F) × List ℕ). lone p.1) same
awaited (Err n) f x rest e = let never : ⊥ = cc e in absurd never

pub awaiting_shrinks : {A F : Type 0} (f : F) → Shrinks (let r : Reader (A ⊎ F) = awaiting f in r)
awaiting_shrinks {A} {F} f bytes x rest e =
    reads_shrink always (word (codes " ")) (λ u. codes " ") AnyUnit (word_reads always (codes " ")) bytes tt rest (awaited (word (codes " ") bytes) f x rest e)

abbrev pub EachShrinks : {A : Type 0} → Option (Reader A) → Type 0
EachShrinks None = Unit {0}
EachShrinks (Some r) = Shrinks r

pub if_shrinks : {A : Type 0} (t : Bool) (r : Reader A) (o : Option (Reader A)) → Shrinks r → EachShrinks o → EachShrinks (cond t (Some r) o)
if_shrinks true r o here others = here
if_shrinks false r o here others = others

pub cond_shrinks : {A : Type 0} (t : Bool) (r s : Reader A) → Shrinks r → Shrinks s → Shrinks (λ bytes. cond t (r bytes) (s bytes))
cond_shrinks true r s a b = a
cond_shrinks false r s a b = b

chosen_shrinks : {A : Type 0} (o : Option (Reader A)) (b : ℕ) (bs : List ℕ) (x : A) (rest : List ℕ) → EachShrinks o → chosen o b bs ≡ Ok (x, rest) → length rest ≤ length bs
chosen_shrinks None b bs x rest h e = let never : ⊥ = cc e in absurd never
chosen_shrinks (Some r) b bs x rest h e = h bs x rest e

-- of what a byte chooses, fewer bytes are left
pub choose_shorter : {A : Type 0} (table : ℕ → Option (Reader A)) → ((b : ℕ) → EachShrinks (table b)) → (bytes : List ℕ) (x : A) (rest : List ℕ) → choose table bytes ≡ Ok (x, rest)
    → length rest < length bytes
choose_shorter table shrink [] x rest e = let never : ⊥ = cc e in absurd never
choose_shorter table shrink (b ∷ bs) x rest e = let less = chosen_shrinks (table b) b bs x rest (shrink b) e in omega (arith, less)

-- ---- frames around frames

pub resume_last : {A F : Type 0} (after_it : ℕ → F → A × List ℕ → Result (A × List ℕ) ℕ) (within : ℕ) (fs : List F) (g : F) (m : Result (A × List ℕ) ℕ)
    → resume after_it within (fs ++ g ∷ []) m ≡ resume after_it within fs (m >>= after_it (within - length fs) g)
resume_last after_it within [] g m =
    let same : within ≡ within - 0 = omega arith in ap (λ (k : ℕ). m >>= after_it k g) same
resume_last {A} after_it within (f ∷ fs) g m =
    let same : (within - 1) - length fs ≡ within - length (f ∷ fs) = omega arith in
    ap (λ (z : Result (A × List ℕ) ℕ). z >>= after_it within f)
    (resume_last after_it (within - 1) fs g m ∙ ap (λ (k : ℕ). resume after_it (within - 1) fs (m >>= after_it k g)) same)

pub resume_fails : {A F : Type 0} (after_it : ℕ → F → A × List ℕ → Result (A × List ℕ) ℕ) (within : ℕ) (fs : List F) (n : ℕ) → resume after_it within fs (Err n) ≡ Err n
resume_fails after_it within [] n = refl
resume_fails {A} after_it within (f ∷ fs) n = ap (λ (z : Result (A × List ℕ) ℕ). z >>= after_it within f) (resume_fails after_it (within - 1) fs n)

-- how a reader goes part by part
pub record Frames {A F : Type 0} (at : ℕ → Reader A) (after_it : ℕ → F → A × List ℕ → Result (A × List ℕ) ℕ) (begin : ℕ → Reader (A ⊎ F)) (take : ℕ → F → A → Reader (A ⊎ F)) : Type 0 where
  pub begins : (levels : ℕ) (bytes : List ℕ) → at levels bytes ≡ (begin levels bytes >>= goes_on (at (levels - 1)) (after_it (levels - 1)))
  pub takes : (within : ℕ) (f : F) (x : A) (bytes : List ℕ) → after_it within f (x, bytes) ≡ (take within f x bytes >>= goes_on (at within) (after_it within))
  pub begin_shorter : (levels : ℕ) (bytes : List ℕ) (x : A ⊎ F) (rest : List ℕ) → begin levels bytes ≡ Ok (x, rest) → length rest < length bytes
  pub take_shorter : (within : ℕ) (f : F) (x : A) (bytes : List ℕ) (y : A ⊎ F) (rest : List ℕ) → take within f x bytes ≡ Ok (y, rest) → length rest ≤ length bytes

inside : (levels n : ℕ) → (levels - 1) - n ≡ levels - (n + 1)
inside levels n = omega arith

last_length : {F : Type 0} (fs : List F) (f : F) → length (fs ++ f ∷ []) ≡ length fs + 1
last_length fs f = length-append fs (f ∷ [])

pub pushed : {A F : Type 0} (at : ℕ → Reader A) (after_it : ℕ → F → A × List ℕ → Result (A × List ℕ) ℕ) (levels : ℕ) (fs : List F) (f : F) (rest : List ℕ)
    → resume after_it (levels - 1) fs (at (levels - (length fs + 1)) rest >>= after_it (levels - (length fs + 1)) f)
    ≡ resume after_it (levels - 1) (fs ++ f ∷ []) (at (levels - length (fs ++ f ∷ [])) rest)
pushed at after_it levels fs f rest =
    ap (λ (k : ℕ). resume after_it (levels - 1) fs (at (levels - (length fs + 1)) rest >>= after_it k f)) (sym (inside levels (length fs)))
    ∙ sym (resume_last after_it (levels - 1) fs f (at (levels - (length fs + 1)) rest))
    ∙ ap (λ (k : ℕ). resume after_it (levels - 1) (fs ++ f ∷ []) (at (levels - k) rest)) (sym (last_length fs f))

taken : {A F : Type 0} (at : ℕ → Reader A) (after_it : ℕ → F → A × List ℕ → Result (A × List ℕ) ℕ) (begin : ℕ → Reader (A ⊎ F)) (take : ℕ → F → A → Reader (A ⊎ F))
    → Frames at after_it begin take → (levels : ℕ) (fs : List F) (g : F) (x : A) (bytes : List ℕ) (m : Result ((A ⊎ F) × List ℕ) ℕ) → take (levels - (length fs + 1)) g x bytes ≡ m
    → resume after_it (levels - 1) (fs ++ g ∷ []) (Ok (x, bytes))
    ≡ resume after_it (levels - 1) fs (m >>= goes_on (at (levels - (length fs + 1))) (after_it (levels - (length fs + 1))))
taken {A} {F} at after_it begin take frames levels fs g x bytes m e =
    resume_last after_it (levels - 1) fs g (Ok (x, bytes))
    ∙ ap (λ (k : ℕ). resume after_it (levels - 1) fs (after_it k g (x, bytes))) (inside levels (length fs))
    ∙ ap (resume after_it (levels - 1) fs) (frames.takes (levels - (length fs + 1)) g x bytes)
    ∙ ap (λ (z : Result ((A ⊎ F) × List ℕ) ℕ). resume after_it (levels - 1) fs (z >>= goes_on (at (levels - (length fs + 1))) (after_it (levels - (length fs + 1))))) e

-- the part that is read makes the one around it whole
pub close_done : {A F : Type 0} (at : ℕ → Reader A) (after_it : ℕ → F → A × List ℕ → Result (A × List ℕ) ℕ) (begin : ℕ → Reader (A ⊎ F)) (take : ℕ → F → A → Reader (A ⊎ F))
    → Frames at after_it begin take → (levels : ℕ) (fs : List F) (g : F) (x y : A) (bytes rest : List ℕ) → take (levels - (length fs + 1)) g x bytes ≡ Ok (inl y, rest)
    → resume after_it (levels - 1) (fs ++ g ∷ []) (Ok (x, bytes)) ≡ resume after_it (levels - 1) fs (Ok (y, rest))
close_done at after_it begin take frames levels fs g x y bytes rest e = taken at after_it begin take frames levels fs g x bytes (Ok (inl y, rest)) e

-- another part of the one around it is to be read
pub close_open : {A F : Type 0} (at : ℕ → Reader A) (after_it : ℕ → F → A × List ℕ → Result (A × List ℕ) ℕ) (begin : ℕ → Reader (A ⊎ F)) (take : ℕ → F → A → Reader (A ⊎ F))
    → Frames at after_it begin take → (levels : ℕ) (fs : List F) (g f : F) (x : A) (bytes rest : List ℕ) → take (levels - (length fs + 1)) g x bytes ≡ Ok (inr f, rest)
    → resume after_it (levels - 1) (fs ++ g ∷ []) (Ok (x, bytes)) ≡ resume after_it (levels - 1) (fs ++ f ∷ []) (at (levels - length (fs ++ f ∷ [])) rest)
close_open at after_it begin take frames levels fs g f x bytes rest e =
    taken at after_it begin take frames levels fs g x bytes (Ok (inr f, rest)) e ∙ pushed at after_it levels fs f rest

pub close_fails : {A F : Type 0} (at : ℕ → Reader A) (after_it : ℕ → F → A × List ℕ → Result (A × List ℕ) ℕ) (begin : ℕ → Reader (A ⊎ F)) (take : ℕ → F → A → Reader (A ⊎ F))
    → Frames at after_it begin take → (levels : ℕ) (fs : List F) (g : F) (x : A) (bytes : List ℕ) (n : ℕ) → take (levels - (length fs + 1)) g x bytes ≡ Err n
    → resume after_it (levels - 1) (fs ++ g ∷ []) (Ok (x, bytes)) ≡ Err n
close_fails at after_it begin take frames levels fs g x bytes n e =
    taken at after_it begin take frames levels fs g x bytes (Err n) e ∙ resume_fails after_it (levels - 1) fs n

begun : {A F : Type 0} (at : ℕ → Reader A) (after_it : ℕ → F → A × List ℕ → Result (A × List ℕ) ℕ) (begin : ℕ → Reader (A ⊎ F)) (take : ℕ → F → A → Reader (A ⊎ F))
    → Frames at after_it begin take → (levels : ℕ) (fs : List F) (bytes : List ℕ) (m : Result ((A ⊎ F) × List ℕ) ℕ) → begin (levels - length fs) bytes ≡ m
    → resume after_it (levels - 1) fs (at (levels - length fs) bytes)
    ≡ resume after_it (levels - 1) fs (m >>= goes_on (at (levels - (length fs + 1))) (after_it (levels - (length fs + 1))))
begun {A} {F} at after_it begin take frames levels fs bytes m e =
    let same : (levels - length fs) - 1 ≡ levels - (length fs + 1) = omega arith in
    ap (resume after_it (levels - 1) fs) (frames.begins (levels - length fs) bytes)
    ∙ ap (λ (k : ℕ). resume after_it (levels - 1) fs (begin (levels - length fs) bytes >>= goes_on (at k) (after_it k))) same
    ∙ ap (λ (z : Result ((A ⊎ F) × List ℕ) ℕ). resume after_it (levels - 1) fs (z >>= goes_on (at (levels - (length fs + 1))) (after_it (levels - (length fs + 1))))) e

pub begin_done : {A F : Type 0} (at : ℕ → Reader A) (after_it : ℕ → F → A × List ℕ → Result (A × List ℕ) ℕ) (begin : ℕ → Reader (A ⊎ F)) (take : ℕ → F → A → Reader (A ⊎ F))
    → Frames at after_it begin take → (levels : ℕ) (fs : List F) (x : A) (bytes rest : List ℕ) → begin (levels - length fs) bytes ≡ Ok (inl x, rest)
    → resume after_it (levels - 1) fs (at (levels - length fs) bytes) ≡ resume after_it (levels - 1) fs (Ok (x, rest))
begin_done at after_it begin take frames levels fs x bytes rest e = begun at after_it begin take frames levels fs bytes (Ok (inl x, rest)) e

pub begin_open : {A F : Type 0} (at : ℕ → Reader A) (after_it : ℕ → F → A × List ℕ → Result (A × List ℕ) ℕ) (begin : ℕ → Reader (A ⊎ F)) (take : ℕ → F → A → Reader (A ⊎ F))
    → Frames at after_it begin take → (levels : ℕ) (fs : List F) (f : F) (bytes rest : List ℕ) → begin (levels - length fs) bytes ≡ Ok (inr f, rest)
    → resume after_it (levels - 1) fs (at (levels - length fs) bytes) ≡ resume after_it (levels - 1) (fs ++ f ∷ []) (at (levels - length (fs ++ f ∷ [])) rest)
begin_open at after_it begin take frames levels fs f bytes rest e =
    begun at after_it begin take frames levels fs bytes (Ok (inr f, rest)) e ∙ pushed at after_it levels fs f rest

pub begin_fails : {A F : Type 0} (at : ℕ → Reader A) (after_it : ℕ → F → A × List ℕ → Result (A × List ℕ) ℕ) (begin : ℕ → Reader (A ⊎ F)) (take : ℕ → F → A → Reader (A ⊎ F))
    → Frames at after_it begin take → (levels : ℕ) (fs : List F) (bytes : List ℕ) (n : ℕ) → begin (levels - length fs) bytes ≡ Err n
    → resume after_it (levels - 1) fs (at (levels - length fs) bytes) ≡ Err n
begin_fails at after_it begin take frames levels fs bytes n e =
    begun at after_it begin take frames levels fs bytes (Err n) e ∙ resume_fails after_it (levels - 1) fs n
