-- Names that a table tells apart.
use Rattle.std.proofs.Common.{◌≡◌, ◌∙◌, ℕ, List, [], Some, Option, sym, ap, Decides, get_or}
use Rattle.std.proofs.lemmas.Bool.Decides.{same_from_decides, Decides-eqb}
use Rattle.std.proofs.lemmas.Option.{slice_get-get_or}
use Rattle.std.proofs.lemmas.Slice.Eq.{bytes_eq-Decides}
use Rattle.std.specs.Prelude.{nat_eq, slice_get}
use Rattle.std.specs.Str.{bytes_eq}
use Rattle.cu_names.specs.declared.names.NameId.{NameId}
use Rattle.cu_names.specs.Texts.{AllDiffer, IsKnown, text_of}
use Rattle.cu_syntax.specs.Syntax as syntax
use Rattle.cu_modules.specs.Texts.{allows}

pub stands : (names : List (List ℕ)) (a : NameId) → IsKnown names a → slice_get names a.0 ≡ Some (text_of names a)
stands names a known = slice_get-get_or names a.0 [] known

-- numbers of a table are alike where their texts are
pub same_name : (names : List (List ℕ)) (a b : NameId) → AllDiffer names → IsKnown names a → IsKnown names b → nat_eq a.0 b.0 ≡ bytes_eq (text_of names a) (text_of names b)
same_name names a b differ known_a known_b =
    let texts = bytes_eq-Decides (text_of names a) (text_of names b) in
    let by_texts : Decides (bytes_eq (text_of names a) (text_of names b)) (a.0 ≡ b.0) =
    (λ e. differ a.0 b.0 (text_of names a) (stands names a known_a) (stands names b known_b ∙ ap Some (sym (texts.0 e))), λ e. texts.1 (ap (λ i. get_or names i []) e)) in
    same_from_decides (nat_eq a.0 b.0) (bytes_eq (text_of names a) (text_of names b)) (Decides-eqb a.0 b.0) by_texts

-- a header lets a module have a name
pub allowed_by : (header : Option syntax.Header) (found : syntax.Header) (name text : List ℕ) → header ≡ Some found → text ≡ found.name.text → bytes_eq text name ≡ allows header name
allowed_by header found name text e at = ap (λ t. bytes_eq t name) at ∙ sym (ap (λ h. allows h name) e)
