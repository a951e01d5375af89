-- Lists of names, from the one that a loop has come to.
use Rattle.std.proofs.Common.{◌≡◌, ◌∙◌, ◌<◌, ◌≤◌, ◌+◌, ◌&&◌, ◌||◌, ℕ, Bool, true, false, List, [], ◌∷◌, ◌++◌, Option, None, Some, length, drop, take, get_or, map, refl, sym, ap, ap₂, subst, add-one, if◌then◌else◌}
use Rattle.std.proofs.Math.Seq.{drop-cons, take-suc}
use Rattle.std.proofs.lemmas.List.{append_assoc, append-nil, drop_all, map-append}
use Rattle.std.proofs.lemmas.List.Elements.{All-push}
use Rattle.std.proofs.lemmas.List.Folds.{list_any-append}
use Rattle.std.specs.List.{All}
use Rattle.std.specs.Option.{option_map}
use Rattle.std.specs.Prelude.{is_none}
use Rattle.std.specs.Str.{bytes_eq}
use Rattle.cu_entities.specs.Entities.{Space, Values}
use Rattle.cu_names.specs.Texts.{text_of}
use Rattle.cu_names.specs.declared.names.NameId.{NameId}
use Rattle.cu_syntax.specs.declared.name.Name as code
use Rattle.cu_syntax.specs.Names.{name_meaning}
use Rattle.cu_syntax.specs.Owners.{NameIsOf}
use Rattle.cu_syntax.specs.Syntax.{Name}
use Rattle.cu_uses.specs.declared.first_fault.FirstFault.{FirstFault}
use Rattle.cu_uses.specs.declared.text_set.TextSet.{TextSet}
use Rattle.cu_uses.specs.Binders.{is_among, missing, once, repeated, texts}
use Rattle.cu_uses.specs.Demands.{Demand, Lacks, Repeats, Uses, use_of, used}
use Rattle.cu_uses.specs.Telling.{HasTexts}
use Rattle.cu_uses.specs.Gathered.{Adds, names_meaning}
use Rattle.cu_uses.specs.Inside.Worlds.{Told, World}
use Rattle.cu_uses.proofs.TextLemmas.{among_more}
use Rattle.cu_uses.proofs.ToldLemmas.{told_both, told_none}

-- what a loop over names takes for a name past their end
abbrev pub no_name : code.Name
no_name = record { text = record { 0 = 0 }; qualifier = None; base = record { 0 = 0 }; place = record { «module» = record { 0 = 0 }; line = 0; column = 0 } }

abbrev pub name_at : List code.Name → ℕ → code.Name
name_at xs i = get_or xs i no_name

dropped : (names : List (List ℕ)) (xs : List code.Name) (i : ℕ) → i < length xs → names_meaning names (drop i xs) ≡ name_meaning names (name_at xs i) ∷ names_meaning names (drop (i + 1) xs)
dropped names xs i within = ap (names_meaning names) (drop-cons xs i no_name within ∙ ap (λ n. name_at xs i ∷ drop n xs) (sym (add-one i)))

none_left : (names : List (List ℕ)) (xs : List code.Name) (i : ℕ) → length xs ≤ i → names_meaning names (drop i xs) ≡ []
none_left names xs i past = ap (names_meaning names) (drop_all i xs past)

-- ---- uses

pub used_prefix : (w : World) (space : Space) (xs : List code.Name) (i : ℕ) (a b c : FirstFault) → i < length xs → Told w a (Uses space (name_meaning w.names (name_at xs i)) ∷ []) b
    → Told w b (used space (names_meaning w.names (drop (i + 1) xs))) c → Told w a (used space (names_meaning w.names (drop i xs))) c
used_prefix w space xs i a b c within one rest = subst (λ ns. Told w a (used space ns) c) (sym (dropped w.names xs i within)) (told_both one rest)

pub used_end : (w : World) (space : Space) (xs : List code.Name) (i : ℕ) (a : FirstFault) → length xs ≤ i → Told w a (used space (names_meaning w.names (drop i xs))) a
used_end w space xs i a past = subst (λ ns. Told w a (used space ns) a) (sym (none_left w.names xs i past)) (told_none w a)

unqualified : (names : List (List ℕ)) (q : Option NameId) → is_none (option_map (text_of names) q) ≡ is_none q
unqualified names None = refl
unqualified names (Some id) = refl

variable_if : (names local : List (List ℕ)) (name : code.Name) (b : Bool) → b ≡ (is_none name.qualifier && is_among local (text_of names name.text))
    → use_of local (name_meaning names name) ≡ (if b then [] else Uses Values (name_meaning names name) ∷ [])
variable_if names local name b is =
    ap (λ t. if t then [] else Uses Values (name_meaning names name) ∷ []) (ap (λ q. q && is_among local (text_of names name.text)) (unqualified names name.qualifier) ∙ sym is)

pub use_of_variable : (w : World) (local : List (List ℕ)) (name : code.Name) (b : Bool) (a : FirstFault) → b ≡ (is_none name.qualifier && is_among local (text_of w.names name.text)) → b ≡ true
    → Told w a (use_of local (name_meaning w.names name)) a
use_of_variable w local name b a is here =
    subst (λ ds. Told w a ds a) (sym (variable_if w.names local name b is ∙ ap (λ t. if t then [] else Uses Values (name_meaning w.names name) ∷ []) here)) (told_none w a)

pub use_of_entity : (w : World) (local : List (List ℕ)) (name : code.Name) (b : Bool) (a c : FirstFault) → b ≡ (is_none name.qualifier && is_among local (text_of w.names name.text)) → b ≡ false
    → Told w a (Uses Values (name_meaning w.names name) ∷ []) c → Told w a (use_of local (name_meaning w.names name)) c
use_of_entity w local name b a c is other told =
    subst (λ ds. Told w a ds c) (sym (variable_if w.names local name b is ∙ ap (λ t. if t then [] else Uses Values (name_meaning w.names name) ∷ []) other)) told

-- ---- missing names

missing_has : (known : List (List ℕ)) (x : Name) (xs : List Name) → is_among known x.text ≡ true → missing known (x ∷ xs) ≡ missing known xs
missing_has known x xs is = rw is refl

missing_lacks : (known : List (List ℕ)) (x : Name) (xs : List Name) → is_among known x.text ≡ false → missing known (x ∷ xs) ≡ x ∷ missing known xs
missing_lacks known x xs is = rw is refl

pub missing_prefix_lacks : (w : World) (known : List (List ℕ)) (xs : List code.Name) (i : ℕ) (a b c : FirstFault) → i < length xs → is_among known (text_of w.names (name_at xs i).text) ≡ false
    → Told w a (Lacks (name_meaning w.names (name_at xs i)) ∷ []) b → Told w b (map Lacks (missing known (names_meaning w.names (drop (i + 1) xs)))) c
    → Told w a (map Lacks (missing known (names_meaning w.names (drop i xs)))) c
missing_prefix_lacks w known xs i a b c within lacks one rest =
    subst (λ ns. Told w a (map Lacks ns) c)
    (sym (ap (missing known) (dropped w.names xs i within) ∙ missing_lacks known (name_meaning w.names (name_at xs i)) (names_meaning w.names (drop (i + 1) xs)) lacks)) (told_both one rest)

pub missing_prefix_has : (w : World) (known : List (List ℕ)) (xs : List code.Name) (i : ℕ) (a c : FirstFault) → i < length xs → is_among known (text_of w.names (name_at xs i).text) ≡ true
    → Told w a (map Lacks (missing known (names_meaning w.names (drop (i + 1) xs)))) c → Told w a (map Lacks (missing known (names_meaning w.names (drop i xs)))) c
missing_prefix_has w known xs i a c within has rest =
    subst (λ ns. Told w a (map Lacks ns) c)
    (sym (ap (missing known) (dropped w.names xs i within) ∙ missing_has known (name_meaning w.names (name_at xs i)) (names_meaning w.names (drop (i + 1) xs)) has)) rest

pub missing_end : (w : World) (known : List (List ℕ)) (xs : List code.Name) (i : ℕ) (a : FirstFault) → length xs ≤ i → Told w a (map Lacks (missing known (names_meaning w.names (drop i xs)))) a
missing_end w known xs i a past = subst (λ ns. Told w a (map Lacks (missing known ns)) a) (sym (none_left w.names xs i past)) (told_none w a)

-- ---- texts that were seen

or_turned : (a b : Bool) → (a || b) ≡ (b || a)
or_turned true true = refl
or_turned true false = refl
or_turned false true = refl
or_turned false false = refl

-- one more text, as the first
pub more_first : (names seen : List (List ℕ)) (x : List ℕ) (s : TextSet) → HasTexts names (seen ++ x ∷ []) s → HasTexts names (x ∷ seen) s
more_first names seen x s is = record {
  has = λ id known. is.has id known ∙ among_more seen x (text_of names id) ∙ or_turned (is_among seen (text_of names id)) (bytes_eq (text_of names id) x);
}

repeated_again : (seen : List (List ℕ)) (x : Name) (xs : List Name) → is_among seen x.text ≡ true → repeated seen (x ∷ xs) ≡ x ∷ repeated seen xs
repeated_again seen x xs is = rw is refl

repeated_new : (seen : List (List ℕ)) (x : Name) (xs : List Name) → is_among seen x.text ≡ false → repeated seen (x ∷ xs) ≡ repeated (x.text ∷ seen) xs
repeated_new seen x xs is = rw is refl

pub repeated_prefix_again : (w : World) (seen : List (List ℕ)) (xs : List code.Name) (i : ℕ) (a b c : FirstFault) → i < length xs → is_among seen (text_of w.names (name_at xs i).text) ≡ true
    → Told w a (Repeats (name_meaning w.names (name_at xs i)) ∷ []) b → Told w b (map Repeats (repeated seen (names_meaning w.names (drop (i + 1) xs)))) c
    → Told w a (map Repeats (repeated seen (names_meaning w.names (drop i xs)))) c
repeated_prefix_again w seen xs i a b c within again one rest =
    subst (λ ns. Told w a (map Repeats ns) c)
    (sym (ap (repeated seen) (dropped w.names xs i within) ∙ repeated_again seen (name_meaning w.names (name_at xs i)) (names_meaning w.names (drop (i + 1) xs)) again)) (told_both one rest)

pub repeated_prefix_new : (w : World) (seen : List (List ℕ)) (xs : List code.Name) (i : ℕ) (a c : FirstFault) → i < length xs → is_among seen (text_of w.names (name_at xs i).text) ≡ false
    → Told w a (map Repeats (repeated (text_of w.names (name_at xs i).text ∷ seen) (names_meaning w.names (drop (i + 1) xs)))) c
    → Told w a (map Repeats (repeated seen (names_meaning w.names (drop i xs)))) c
repeated_prefix_new w seen xs i a c within new rest =
    subst (λ ns. Told w a (map Repeats ns) c)
    (sym (ap (repeated seen) (dropped w.names xs i within) ∙ repeated_new seen (name_meaning w.names (name_at xs i)) (names_meaning w.names (drop (i + 1) xs)) new)) rest

pub repeated_end : (w : World) (seen : List (List ℕ)) (xs : List code.Name) (i : ℕ) (a : FirstFault) → length xs ≤ i → Told w a (map Repeats (repeated seen (names_meaning w.names (drop i xs)))) a
repeated_end w seen xs i a past = subst (λ ns. Told w a (map Repeats (repeated seen ns)) a) (sym (none_left w.names xs i past)) (told_none w a)

once_again : (seen : List (List ℕ)) (x : Name) (xs : List Name) → is_among seen x.text ≡ true → once seen (x ∷ xs) ≡ once seen xs
once_again seen x xs is = rw is refl

once_new : (seen : List (List ℕ)) (x : Name) (xs : List Name) → is_among seen x.text ≡ false → once seen (x ∷ xs) ≡ x ∷ once (x.text ∷ seen) xs
once_new seen x xs is = rw is refl

pub once_prefix_again : (names seen : List (List ℕ)) (xs : List code.Name) (i : ℕ) → i < length xs → is_among seen (text_of names (name_at xs i).text) ≡ true
    → once seen (names_meaning names (drop (i + 1) xs)) ≡ once seen (names_meaning names (drop i xs))
once_prefix_again names seen xs i within again =
    sym (ap (once seen) (dropped names xs i within) ∙ once_again seen (name_meaning names (name_at xs i)) (names_meaning names (drop (i + 1) xs)) again)

pub once_prefix_new : (names seen : List (List ℕ)) (xs found more : List code.Name) (i : ℕ) → i < length xs → is_among seen (text_of names (name_at xs i).text) ≡ false → more ≡ found ++ name_at xs i ∷ []
    → names_meaning names more ++ once (text_of names (name_at xs i).text ∷ seen) (names_meaning names (drop (i + 1) xs)) ≡ names_meaning names found ++ once seen (names_meaning names (drop i xs))
once_prefix_new names seen xs found more i within new pushed =
    ap (λ ms. ms ++ once (text_of names (name_at xs i).text ∷ seen) (names_meaning names (drop (i + 1) xs))) (ap (names_meaning names) pushed ∙ map-append (name_meaning names) found (name_at xs i ∷ []))
    ∙ append_assoc (names_meaning names found) (name_meaning names (name_at xs i) ∷ []) (once (text_of names (name_at xs i).text ∷ seen) (names_meaning names (drop (i + 1) xs)))
    ∙ ap (λ ns. names_meaning names found ++ ns)
    (sym (ap (once seen) (dropped names xs i within) ∙ once_new seen (name_meaning names (name_at xs i)) (names_meaning names (drop (i + 1) xs)) new))

pub once_end : (owner : NameId) (names seen : List (List ℕ)) (xs found : List code.Name) (i : ℕ) → length xs ≤ i → All (NameIsOf owner names) found
    → names_meaning names found ++ once seen (names_meaning names (drop i xs)) ≡ once [] (names_meaning names xs) → Adds owner names [] (once [] (names_meaning names xs)) found
once_end owner names seen xs found i past of is = record {
  adds = sym (append-nil (names_meaning names found)) ∙ ap (λ ns. names_meaning names found ++ once seen ns) (sym (none_left names xs i past)) ∙ is;
  owned = λ _. of;
}

-- ---- sets of texts

pub texts_more : (names : List (List ℕ)) (xs : List code.Name) (i : ℕ) (s : TextSet) → i < length xs
    → HasTexts names (texts (names_meaning names (take i xs)) ++ text_of names (name_at xs i).text ∷ []) s → HasTexts names (texts (names_meaning names (take (i + 1) xs))) s
texts_more names xs i s within is =
    subst (λ ts. HasTexts names ts s)
    (sym (ap (λ n. texts (names_meaning names (take n xs))) (add-one i) ∙ ap (λ ns. texts (names_meaning names ns)) (take-suc xs i no_name within)
    ∙ ap texts (map-append (name_meaning names) (take i xs) (name_at xs i ∷ [])) ∙ map-append (λ (n : Name). n.text) (names_meaning names (take i xs)) (name_meaning names (name_at xs i) ∷ []))) is

-- names that were found, and told as uses
pub used_found : (w : World) (space : Space) (fresh found slice : List code.Name) (xs : List Name) (a b : FirstFault) → fresh ≡ [] → slice ≡ found → Adds w.owner w.names fresh xs found
    → Told w a (used space (names_meaning w.names slice)) b → Told w a (used space xs) b
used_found w space fresh found slice xs a b empty sliced adds told =
    subst (λ ns. Told w a (used space ns) b) (ap (names_meaning w.names) sliced ∙ adds.adds ∙ ap (λ ns. names_meaning w.names ns ++ xs) empty) told
