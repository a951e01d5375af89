-- Sets of texts with one more.
use Rattle.std.proofs.Common.{◌≡◌, ◌∙◌, ◌||◌, cond, ℕ, Bool, true, false, List, [], ◌∷◌, ◌++◌, refl, sym, ap, ap₂, Decides}
use Rattle.std.proofs.lemmas.Bool.Decides.{same_from_decides}
use Rattle.std.proofs.lemmas.Slice.Eq.{bytes_eq-Decides}
use Rattle.indexmap.specs.IndexSet.{contains}
use Rattle.std.specs.List.{list_any}
use Rattle.std.specs.Prelude.{nat_eq}
use Rattle.std.specs.Str.{bytes_eq}
use Rattle.cu_names.specs.Texts.{AllDiffer, IsKnown, text_of}
use Rattle.cu_names.specs.contracts.names.NameIdPartialEq.TheImpl.{eq-value}
use Rattle.cu_names.specs.declared.names.NameId.{NameId}
use Rattle.cu_entities.proofs.NameLemmas.{same_name}
use Rattle.cu_uses.specs.declared.text_set.TextSet.{TextSet}
use Rattle.cu_uses.specs.Binders.{is_among}
use Rattle.cu_uses.specs.Telling.{HasTexts}

pub bytes_turned : (x y : List ℕ) → bytes_eq x y ≡ bytes_eq y x
bytes_turned x y =
    let there = bytes_eq-Decides x y in
    let converse = bytes_eq-Decides y x in
    same_from_decides (bytes_eq x y) (bytes_eq y x) there (λ e. sym (converse.0 e), λ e. converse.1 (sym e))

or_false : (b : Bool) → (b || false) ≡ b
or_false true = refl
or_false false = refl

or_assoc : (a b c : Bool) → (a || (b || c)) ≡ ((a || b) || c)
or_assoc true b c = refl
or_assoc false b c = refl

pub among_more : (texts : List (List ℕ)) (x text : List ℕ) → is_among (texts ++ x ∷ []) text ≡ (is_among texts text || bytes_eq text x)
among_more [] x text = or_false (bytes_eq text x)
among_more (y ∷ texts) x text = ap (λ b. bytes_eq text y || b) (among_more texts x text) ∙ or_assoc (bytes_eq text y) (is_among texts text) (bytes_eq text x)

seen_more : (here before : Bool) → cond here true before ≡ (before || here)
seen_more true true = refl
seen_more true false = refl
seen_more false true = refl
seen_more false false = refl

-- what is among the texts when one was added
abbrev Inserts : TextSet → TextSet → NameId → Type 0
Inserts old new name = (id : NameId) → contains eq-value.it new.texts id ≡ cond (eq-value.it name id) true (contains eq-value.it old.texts id)

pub one_more_text : (names texts : List (List ℕ)) (old new : TextSet) (name : NameId) → AllDiffer names → IsKnown names name → HasTexts names texts old → Inserts old new name
    → HasTexts names (texts ++ text_of names name ∷ []) new
one_more_text names texts old new name differ known is inserts = record {
  has = λ id has.
      inserts id
      ∙ ap₂ (λ h b. cond h true b) (same_name names name id differ known has ∙ bytes_turned (text_of names name) (text_of names id)) (is.has id has)
      ∙ seen_more (bytes_eq (text_of names id) (text_of names name)) (is_among texts (text_of names id))
      ∙ sym (among_more texts (text_of names name) (text_of names id));
}
