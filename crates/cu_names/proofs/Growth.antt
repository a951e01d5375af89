-- What crates above cite of tables of names that grow.
use Rattle.std.proofs.Common.{◌≡◌, ℕ, Bool, true, false, List, [], ◌∷◌, ◌++◌, slice_get, get_or, Some, if◌then◌else◌, refl, sym, ap, ◌∙◌, append_assoc, arith}
use Rattle.std.proofs.lemmas.List.{append-nil, get_or_append_left, length-append}
use Rattle.std.proofs.lemmas.Option.{get_or_from_slice_get, slice_get_within}
use Rattle.std.specs.List.{list_any}
use Rattle.std.specs.Str.{bytes_eq}
use Rattle.cu_names.specs.declared.names.NameId.{NameId}
use Rattle.cu_names.specs.Texts.{interned, text_of, IsKnown, Extends}

-- a name that a place of the table has
pub text_of-at : (texts : List (List ℕ)) (id : NameId) (text : List ℕ) → slice_get texts id.0 ≡ Some text → text_of texts id ≡ text
text_of-at texts id text at = get_or_from_slice_get texts id.0 text [] at

pub known_at : (texts : List (List ℕ)) (id : NameId) (text : List ℕ) → slice_get texts id.0 ≡ Some text → IsKnown texts id
known_at texts id text at = slice_get_within texts id.0 text at

-- a table that grows keeps the texts of its names
pub text_of-extends : {old new : List (List ℕ)} → Extends old new → (id : NameId) → IsKnown old id → text_of new id ≡ text_of old id
text_of-extends {old} {new} grown id known =
    ap (λ texts. get_or texts id.0 []) grown.appended ∙ get_or_append_left old grown.more [] id.0 known

pub known-extends : {old new : List (List ℕ)} → Extends old new → (id : NameId) → IsKnown old id → IsKnown new id
known-extends {old} {new} grown id known = rw grown.appended (omega (arith, length-append old grown.more))

pub extends-itself : (texts : List (List ℕ)) → Extends texts texts
extends-itself texts = record { more = []; appended = sym (append-nil texts) }

pub extends-trans : {old middle new : List (List ℕ)} → Extends old middle → Extends middle new → Extends old new
extends-trans {old} first second = record {
  more = first.more ++ second.more;
  appended = second.appended ∙ ap (λ texts. texts ++ second.more) first.appended ∙ append_assoc old first.more second.more;
}

-- interning only adds
pub interned-extends : (texts : List (List ℕ)) (text : List ℕ) → Extends texts (interned texts text)
interned-extends texts text = by (list_any (bytes_eq text) texts)
  where
    by : (b : Bool) → Extends texts (if b then texts else texts ++ text ∷ [])
    by true = extends-itself texts
    by false = record { more = text ∷ []; appended = refl }
