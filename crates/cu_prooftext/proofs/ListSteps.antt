-- The loops over the items of lists, step by step.
use Rattle.std.proofs.Common.{◌≡◌, ℕ, suc, ◌+◌, ◌-◌, ◌^◌, ◌<◌, Bool, true, false, ◌&&◌, List, [], ◌∷◌, ◌++◌, Some, Result, Ok, Err, length, refl, ap, sym, ◌∙◌, append-nil, arith, codes, cond, nat_lt, decimal}
use Rattle.std.proofs.lemmas.Bool.{and_from}
use Rattle.std.proofs.lemmas.Bool.Decides.{nat_tests}
use Rattle.cu_calculus.specs.Value.{Value}
use Rattle.cu_prooftext.specs.Inside.Lines.{always_more, binding_at, cites_at, further_bindings, further_cites, further_values, last_of, may_rise, no_state}
use Rattle.cu_prooftext.specs.Inside.Loops.{with_first, with_front}
use Rattle.cu_prooftext.specs.Inside.Readers.{◌>>=◌, Reader, either, word_at}
use Rattle.cu_prooftext.specs.Inside.Reading.{comma_first, dash_first, further_at, items_at, list_with, more_follow, next_item, up_to, value_at}
use Rattle.cu_prooftext.specs.Text.{binding_text, further_text, value_text}
use Rattle.cu_prooftext.specs.Format.{ValueInRange}
use Rattle.cu_prooftext.proofs.CellSteps.{after_fails, after_is, front_first}
use Rattle.cu_prooftext.proofs.FrameLaws.{stands, tie}
use Rattle.cu_prooftext.proofs.LineLaws.{OneState, Rises, binding_items, cited_items, value_items}
use Rattle.cu_prooftext.proofs.ListLaws.{AnyState, Items, and_false, item_loops, list_end}
use Rattle.cu_prooftext.proofs.LoopLaws.{whole_end, whole_go}
use Rattle.cu_prooftext.proofs.NumberLaws.{no_digit}
use Rattle.cu_prooftext.proofs.ReaderLaws.{bind_at, bind_fails}
use Rattle.std.proofs.Common.{length-append}

goes_on : {S : Type 0} (may : S → Bool) (s : S) (bytes others : List ℕ) → may s ≡ true → bytes ≡ 44 ∷ others → more_follow may s bytes ≡ true
goes_on may s bytes others m e = and_from (may s) (comma_first bytes) m (ap comma_first e)

-- an item after a comma is read, and then the others
item_goes : {S A : Type 0} (may : S → Bool) (r : S → Reader A) (next : S → A → S) (t : A → List ℕ) (G : S → A → Type 0) → Items may r next t G
    → (front : List A) (s : S) (bytes others rest : List ℕ) (x : A) → may s ≡ true → bytes ≡ 44 ∷ others → r s others ≡ Ok (x, rest)
    → with_front (front ++ x ∷ []) (further_at may r next (next s x) rest) ≡ with_front front (further_at may r next s bytes)
item_goes may r next t G items front s bytes others rest x m e f =
    sym (front_first front x (further_at may r next (next s x) rest))
    ∙ ap (with_front front)
    (sym (whole_go no_digit list_end (more_follow may) (next_item r) next (further_text t) G AnyState (item_loops may r next t G items) s bytes (goes_on may s bytes others m e)
    ∙ bind_at (next_item r s bytes) (λ p. further_at may r next (next s p.0) p.1 >>= with_first p.0) (x, rest)
    (after_is (codes ",") bytes others rest (r s) x (ap (word_at (codes ",")) e) f)))

item_fails : {S A : Type 0} (may : S → Bool) (r : S → Reader A) (next : S → A → S) (t : A → List ℕ) (G : S → A → Type 0) → Items may r next t G
    → (front : List A) (s : S) (bytes others : List ℕ) (n : ℕ) → may s ≡ true → bytes ≡ 44 ∷ others → r s others ≡ Err n
    → with_front front (further_at may r next s bytes) ≡ Err n
item_fails may r next t G items front s bytes others n m e f =
    ap (with_front front)
    (whole_go no_digit list_end (more_follow may) (next_item r) next (further_text t) G AnyState (item_loops may r next t G items) s bytes (goes_on may s bytes others m e)
    ∙ bind_fails (next_item r s bytes) (λ p. further_at may r next (next s p.0) p.1 >>= with_first p.0) n
    (after_fails (codes ",") bytes others (r s) n (ap (word_at (codes ",")) e) f))

item_ends : {S A : Type 0} (may : S → Bool) (r : S → Reader A) (next : S → A → S) (front : List A) (s : S) (bytes : List ℕ) → more_follow may s bytes ≡ false
    → with_front front (further_at may r next s bytes) ≡ Ok (front, bytes)
item_ends {S} {A} may r next front s bytes h =
    ap (with_front front) (whole_end (more_follow may) (next_item r) next s bytes h)
    ∙ ap (λ (z : List A). let m : Result (List A × List ℕ) ℕ = Ok (z, bytes) in m) (append-nil front)

item_shrinks : {S A : Type 0} (may : S → Bool) (r : S → Reader A) (next : S → A → S) (t : A → List ℕ) (G : S → A → Type 0) → Items may r next t G
    → (s : S) (bytes others rest : List ℕ) (x : A) → may s ≡ true → bytes ≡ 44 ∷ others → r s others ≡ Ok (x, rest) → length rest < length bytes
item_shrinks may r next t G items s bytes others rest x m e f =
    omega (arith, ap length e, ap length ((items.reads s m).takes others x rest f).splits, length-append (t x) rest)

-- the first item, and then the others
first_is : {A : Type 0} (front : List A) (x : A) (m : Result (List A × List ℕ) ℕ) → front ≡ x ∷ [] → with_front front m ≡ ((m >>= tie x) >>= stands list_with)
first_is {A} front x (Ok q) e = ap (λ (z : List A). let m : Result (List A × List ℕ) ℕ = Ok (z ++ q.0, q.1) in m) e
first_is front x (Err n) e = refl

pub items_are : {S A : Type 0} (may : S → Bool) (r : S → Reader A) (next : S → A → S) (s : S) (front : List A) (x : A) (bytes rest : List ℕ) → front ≡ x ∷ [] → r s bytes ≡ Ok (x, rest)
    → with_front front (further_at may r next (next s x) rest) ≡ items_at may r next s bytes
items_are {S} {A} may r next s front x bytes rest e f =
    first_is front x (further_at may r next (next s x) rest) e
    ∙ ap (λ (m : Result (A × List ℕ) ℕ). (m >>= λ p. further_at may r next (next s p.0) p.1 >>= tie p.0) >>= stands list_with) (sym f)

-- a list that begins with no dash has items
pub no_dash : {A : Type 0} (r s : Reader A) (bytes : List ℕ) → dash_first bytes ≡ false → either 45 r s bytes ≡ s bytes
no_dash r s [] h = refl
no_dash {A} r s (b ∷ bs) h = ap (λ (t : Bool). cond t (r bs) (s (b ∷ bs))) h

-- ---- values

pub value_goes : (front : List Value) (bytes others rest : List ℕ) (v : Value) → bytes ≡ 44 ∷ others → value_at others ≡ Ok (v, rest)
    → with_front (front ++ v ∷ []) (further_values rest) ≡ with_front front (further_values bytes)
value_goes front bytes others rest v e f =
    item_goes always_more (λ u. value_at) no_state value_text (OneState ValueInRange) value_items front tt bytes others rest v refl e f

pub value_fails : (front : List Value) (bytes others : List ℕ) (n : ℕ) → bytes ≡ 44 ∷ others → value_at others ≡ Err n → with_front front (further_values bytes) ≡ Err n
value_fails front bytes others n e f =
    item_fails always_more (λ u. value_at) no_state value_text (OneState ValueInRange) value_items front tt bytes others n refl e f

pub value_ends : (front : List Value) (bytes : List ℕ) → comma_first bytes ≡ false → with_front front (further_values bytes) ≡ Ok (front, bytes)
value_ends front bytes h = item_ends always_more (λ u. value_at) no_state front tt bytes (and_false true (comma_first bytes) h)

pub value_shorter : (bytes others rest : List ℕ) (v : Value) → bytes ≡ 44 ∷ others → value_at others ≡ Ok (v, rest) → length rest < length bytes
value_shorter bytes others rest v e f =
    item_shrinks always_more (λ u. value_at) no_state value_text (OneState ValueInRange) value_items tt bytes others rest v refl e f

-- ---- cites

pub cite_goes : (last : ℕ) → last < 2 ^ 64 → (front : List ℕ) (bytes others rest : List ℕ) (k : ℕ) → bytes ≡ 44 ∷ others → up_to last others ≡ Ok (k, rest)
    → with_front (front ++ k ∷ []) (further_cites last rest) ≡ with_front front (further_cites last bytes)
cite_goes last small front bytes others rest k e f =
    item_goes always_more (λ u. up_to last) no_state decimal (OneState (λ k. k < suc last)) (cited_items last (omega arith)) front tt bytes others rest k refl e f

pub cite_fails : (last : ℕ) → last < 2 ^ 64 → (front : List ℕ) (bytes others : List ℕ) (n : ℕ) → bytes ≡ 44 ∷ others → up_to last others ≡ Err n
    → with_front front (further_cites last bytes) ≡ Err n
cite_fails last small front bytes others n e f =
    item_fails always_more (λ u. up_to last) no_state decimal (OneState (λ k. k < suc last)) (cited_items last (omega arith)) front tt bytes others n refl e f

pub cite_ends : (last : ℕ) (front : List ℕ) (bytes : List ℕ) → comma_first bytes ≡ false → with_front front (further_cites last bytes) ≡ Ok (front, bytes)
cite_ends last front bytes h = item_ends always_more (λ u. up_to last) no_state front tt bytes (and_false true (comma_first bytes) h)

pub cite_shorter : (last : ℕ) → last < 2 ^ 64 → (bytes others rest : List ℕ) (k : ℕ) → bytes ≡ 44 ∷ others → up_to last others ≡ Ok (k, rest) → length rest < length bytes
cite_shorter last small bytes others rest k e f =
    item_shrinks always_more (λ u. up_to last) no_state decimal (OneState (λ k. k < suc last)) (cited_items last (omega arith)) tt bytes others rest k refl e f

-- the step of a number cites those up to the one before it
pub cites_below : (number : ℕ) → 0 < number → (bytes : List ℕ) → cites_at (suc (number - 1)) bytes ≡ cites_at number bytes
cites_below number more bytes = let same : suc (number - 1) ≡ number = omega (arith, more) in ap (λ (k : ℕ). cites_at k bytes) same

-- ---- bindings

rises : (last : ℕ) → last < 4294967295 → may_rise (Some last) ≡ true
rises last h = grind (arith, nat_tests)

pub binding_goes : (front : List (ℕ × Value)) (last : ℕ) (bytes others rest : List ℕ) (b : ℕ × Value) → last < 4294967295 → bytes ≡ 44 ∷ others → binding_at (Some last) others ≡ Ok (b, rest)
    → with_front (front ++ b ∷ []) (further_bindings b.0 rest) ≡ with_front front (further_bindings last bytes)
binding_goes front last bytes others rest b less e f =
    item_goes may_rise binding_at last_of binding_text Rises binding_items front (Some last) bytes others rest b (rises last less) e f

pub binding_fails : (front : List (ℕ × Value)) (last : ℕ) (bytes others : List ℕ) (n : ℕ) → last < 4294967295 → bytes ≡ 44 ∷ others → binding_at (Some last) others ≡ Err n
    → with_front front (further_bindings last bytes) ≡ Err n
binding_fails front last bytes others n less e f =
    item_fails may_rise binding_at last_of binding_text Rises binding_items front (Some last) bytes others n (rises last less) e f

pub binding_ends : (front : List (ℕ × Value)) (last : ℕ) (bytes : List ℕ) → more_follow may_rise (Some last) bytes ≡ false
    → with_front front (further_bindings last bytes) ≡ Ok (front, bytes)
binding_ends front last bytes h = item_ends may_rise binding_at last_of front (Some last) bytes h

pub binding_shorter : (last : ℕ) (bytes others rest : List ℕ) (b : ℕ × Value) → last < 4294967295 → bytes ≡ 44 ∷ others → binding_at (Some last) others ≡ Ok (b, rest)
    → length rest < length bytes
binding_shorter last bytes others rest b less e f =
    item_shrinks may_rise binding_at last_of binding_text Rises binding_items (Some last) bytes others rest b (rises last less) e f

pub last_follows : (last : ℕ) (bytes : List ℕ) → last ≡ 4294967295 → more_follow may_rise (Some last) bytes ≡ false
last_follows last bytes h =
    let none : nat_lt last 4294967295 ≡ false = grind (arith, nat_tests) in
    ap (λ (t : Bool). t && comma_first bytes) none

pub no_comma_follows : (last : ℕ) (bytes : List ℕ) → comma_first bytes ≡ false → more_follow may_rise (Some last) bytes ≡ false
no_comma_follows last bytes h = and_false (nat_lt last 4294967295) (comma_first bytes) h
