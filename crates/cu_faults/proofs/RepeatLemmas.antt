-- Names whose text stands before.
use Rattle.std.proofs.Common.{◌≡◌, ◌∙◌, ◌<◌, ◌≤◌, ◌+◌, ℕ, true, false, List, [], ◌∷◌, length, drop, get_or, map, refl, sym, ap, add-one}
use Rattle.std.proofs.Math.Seq.{drop-cons}
use Rattle.std.proofs.lemmas.List.{drop_all}
use Rattle.cu_lex.specs.Reading.{position_of}
use Rattle.cu_names.specs.Texts.{text_of}
use Rattle.cu_syntax.specs.declared.name.Name as code
use Rattle.cu_syntax.specs.declared.patterns.Pattern.{Pattern}
use Rattle.cu_syntax.specs.Names.{name_meaning}
use Rattle.cu_translation.specs.FaultOrder.{NonLinear, at_name, fault}
use Rattle.cu_translation.specs.Meaning.{Setting}
use Rattle.cu_uses.specs.Gathered.{patterns_bind}
use Rattle.cu_uses.specs.Binders.{is_among, repeated}
use Rattle.cu_faults.specs.declared.first.First.{First}
use Rattle.cu_faults.specs.Inside.Patterns.{repeats, variables_told}
use Rattle.cu_faults.specs.Telling.{Told}
use Rattle.cu_faults.proofs.ToldLemmas.{told_as, told_both, told_none}

again : (names seen : List (List ℕ)) (x : code.Name) (xs : List code.Name) → is_among seen (text_of names x.text) ≡ true
    → repeats names seen (x ∷ xs) ≡ fault NonLinear (position_of x.place) ∷ repeats names seen xs
unfolding repeats
again names seen x xs is = rw is refl

new : (names seen : List (List ℕ)) (x : code.Name) (xs : List code.Name) → is_among seen (text_of names x.text) ≡ false
    → repeats names seen (x ∷ xs) ≡ repeats names (text_of names x.text ∷ seen) xs
unfolding repeats
new names seen x xs is = rw is refl

none : (names seen : List (List ℕ)) → repeats names seen [] ≡ []
unfolding repeats
none names seen = refl

dropped : (xs : List code.Name) (i : ℕ) (d : code.Name) → i < length xs → drop i xs ≡ get_or xs i d ∷ drop (i + 1) xs
dropped xs i d within = drop-cons xs i d within ∙ ap (λ n. get_or xs i d ∷ drop n xs) (sym (add-one i))

pub repeated_again : (w : Setting) (seen : List (List ℕ)) (xs : List code.Name) (i : ℕ) (d : code.Name) (a b c : First) → i < length xs
    → is_among seen (text_of w.names (get_or xs i d).text) ≡ true → Told w.owner a (fault NonLinear (position_of (get_or xs i d).place) ∷ []) b
    → Told w.owner b (repeats w.names seen (drop (i + 1) xs)) c → Told w.owner a (repeats w.names seen (drop i xs)) c
repeated_again w seen xs i d a b c within is one rest =
    told_as (sym (ap (repeats w.names seen) (dropped xs i d within) ∙ again w.names seen (get_or xs i d) (drop (i + 1) xs) is)) (told_both one rest)

pub repeated_new : (w : Setting) (seen : List (List ℕ)) (xs : List code.Name) (i : ℕ) (d : code.Name) (a c : First) → i < length xs
    → is_among seen (text_of w.names (get_or xs i d).text) ≡ false
    → Told w.owner a (repeats w.names (text_of w.names (get_or xs i d).text ∷ seen) (drop (i + 1) xs)) c → Told w.owner a (repeats w.names seen (drop i xs)) c
repeated_new w seen xs i d a c within is rest =
    told_as (sym (ap (repeats w.names seen) (dropped xs i d within) ∙ new w.names seen (get_or xs i d) (drop (i + 1) xs) is)) rest

pub repeated_end : (w : Setting) (seen : List (List ℕ)) (xs : List code.Name) (i : ℕ) (a : First) → length xs ≤ i → Told w.owner a (repeats w.names seen (drop i xs)) a
repeated_end w seen xs i a past = told_as (sym (ap (repeats w.names seen) (drop_all i xs past) ∙ none w.names seen)) (told_none w.owner a)

pub variables_are : (names : List (List ℕ)) (ps : List Pattern) (slice found : List code.Name) → slice ≡ found → map (name_meaning names) found ≡ patterns_bind names ps
    → repeats names [] slice ≡ variables_told names ps
unfolding repeats variables_told patterns_bind
variables_are names ps slice found sliced meaning =
    ap (λ xs. map (at_name NonLinear) (repeated [] xs)) (ap (map (name_meaning names)) sliced ∙ meaning)
