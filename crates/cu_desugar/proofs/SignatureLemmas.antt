-- Signatures of names in blocks.
use Rattle.std.proofs.Common.{◌≡◌, ◌∙◌, ◌<◌, ◌≤◌, ◌+◌, ◌||◌, ℕ, Bool, true, false, List, [], ◌∷◌, Option, None, Some, length, drop, get_or, map, refl, sym, ap, add-one}
use Rattle.std.proofs.Math.Seq.{drop-cons}
use Rattle.std.proofs.lemmas.List.{drop_all}
use Rattle.std.proofs.lemmas.List.Elements.{All-head, All-tail}
use Rattle.std.specs.List.{All, list_any}
use Rattle.std.specs.Prelude.{if◌then◌else◌, is_some, nat_eq}
use Rattle.std.specs.Str.{bytes_eq}
use Rattle.cu_locals.specs.Text.{Text}
use Rattle.cu_names.specs.declared.names.NameId.{NameId}
use Rattle.cu_names.specs.Texts.{IsKnown, text_of}
use Rattle.cu_syntax.specs.declared.declarations.Declaration as code
use Rattle.cu_syntax.specs.declared.name.Name as code_name
use Rattle.cu_syntax.specs.declared.types.TypeTerm as code_type
use Rattle.cu_syntax.specs.Declarations.{declaration_meaning, declarations_meaning}
use Rattle.cu_syntax.specs.Names.{name_meaning}
use Rattle.cu_syntax.specs.Owners.{NameIsOf, TypeIsOf}
use Rattle.cu_syntax.specs.Syntax.{Name, TypeTerm}
use Rattle.cu_syntax.specs.Types.{type_meaning}
use Rattle.cu_toplevel.proofs.NameLemmas.{same_name}
use Rattle.cu_translation.specs.LocalFunctions.{or_else, signature_in, signature_of}
use Rattle.cu_desugar.specs.Inside.Signatures.{IsSignature}

-- whether names have a text
abbrev pub has_text : NameId → List code_name.Name → Bool
has_text text xs = list_any (λ (x : code_name.Name). nat_eq x.text.0 text.0) xs

pub among : (t : Text) (text : NameId) (xs : List code_name.Name) → IsKnown t.names text → All (NameIsOf t.owner t.names) xs
    → has_text text xs ≡ list_any (λ (x : Name). bytes_eq x.text (text_of t.names text)) (map (name_meaning t.names) xs)
among t text [] known all = refl
among t text (x ∷ xs) known all = λ j.
    same_name t.names x.text text t.differ (All-head (NameIsOf t.owner t.names) x xs all).text known j
    || among t text xs known (All-tail (NameIsOf t.owner t.names) x xs all) j

-- nothing is found
pub none_found : (t : Text) (declared : Option TypeTerm) → None ≡ declared → IsSignature t declared None
none_found t declared is = record { meaning = is; owned = tt }

abbrev taken : Bool → TypeTerm → Option TypeTerm
taken found declared = if found then Some declared else None

pub found_here : (t : Text) (found here : Bool) (term : code_type.TypeTerm) (declared : Option TypeTerm) → found ≡ true → found ≡ here → TypeIsOf t.owner t.names term
    → taken here (type_meaning t.names term) ≡ declared → IsSignature t declared (Some term)
found_here t found here term declared is same owned whole = record {
  meaning = ap (λ b. taken b (type_meaning t.names term)) (sym is ∙ same) ∙ whole;
  owned = owned;
}

pub not_here : (t : Text) (found here : Bool) (term : TypeTerm) (declared : Option TypeTerm) → found ≡ false → found ≡ here → taken here term ≡ declared → IsSignature t declared None
not_here t found here term declared is same whole = none_found t declared (ap (λ b. taken b term) (sym is ∙ same) ∙ whole)

-- ---- blocks

abbrev after_of : Text → List ℕ → List code.Declaration → ℕ → Option TypeTerm
after_of t text ds i = signature_of text (declarations_meaning t.names (drop i ds))

step : (t : Text) (text : List ℕ) (ds : List code.Declaration) (i : ℕ) (d : code.Declaration) → i < length ds
    → after_of t text ds i ≡ or_else (signature_in text (declaration_meaning t.names (get_or ds i d))) (after_of t text ds (i + 1))
step t text ds i d within =
    ap (λ rest. signature_of text (declarations_meaning t.names rest)) (drop-cons ds i d within)
    ∙ ap (λ k. or_else (signature_in text (declaration_meaning t.names (get_or ds i d))) (after_of t text ds k)) (sym (add-one i))

pub found_in : (t : Text) (text : List ℕ) (ds : List code.Declaration) (i : ℕ) (d : code.Declaration) (found : Option code_type.TypeTerm) (whole : Option TypeTerm)
    → i < length ds → is_some found ≡ true → IsSignature t (signature_in text (declaration_meaning t.names (get_or ds i d))) found → after_of t text ds i ≡ whole → IsSignature t whole found
found_in t text ds i d (Some term) whole within some one before = record {
  meaning = ap (λ o. or_else o (after_of t text ds (i + 1))) one.meaning ∙ sym (step t text ds i d within) ∙ before;
  owned = one.owned;
}
found_in t text ds i d None whole within some one before = let never : ⊥ = cc in absurd never

pub not_in : (t : Text) (text : List ℕ) (ds : List code.Declaration) (i : ℕ) (d : code.Declaration) (found : Option code_type.TypeTerm) (whole : Option TypeTerm)
    → i < length ds → is_some found ≡ false → IsSignature t (signature_in text (declaration_meaning t.names (get_or ds i d))) found → after_of t text ds i ≡ whole → after_of t text ds (i + 1) ≡ whole
not_in t text ds i d None whole within none one before =
    ap (λ o. or_else o (after_of t text ds (i + 1))) one.meaning ∙ sym (step t text ds i d within) ∙ before
not_in t text ds i d (Some term) whole within none one before = let never : ⊥ = cc in absurd never

pub not_in_block : (t : Text) (text : List ℕ) (ds : List code.Declaration) (i : ℕ) (whole : Option TypeTerm) → length ds ≤ i → after_of t text ds i ≡ whole → IsSignature t whole None
not_in_block t text ds i whole past before =
    none_found t whole (sym (ap (λ rest. signature_of text (declarations_meaning t.names rest)) (drop_all i ds past)) ∙ before)
