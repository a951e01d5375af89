-- The variables of a line, one after another.
use Rattle.std.proofs.Common.{◌≡◌, ℕ, zero, suc, ◌+◌, ◌<◌, ◌≤◌, ◌⊎◌, inl, inr, List, [], ◌∷◌, ◌++◌, codes, drop, get_or, length, refl, sym, ap, ◌∙◌, append_assoc, arith}
use Rattle.std.proofs.lemmas.List.{drop_more, drop_all}
use Rattle.cu_calculus.specs.Value.{Value}
use Rattle.cu_machine.specs.declared.Waited.{Waited}
use Rattle.cu_values.specs.Display.{Labels}
use Rattle.std.specs.Fmt.{decimal}
use Rattle.cu_machine.specs.declared.End.TheVariants.{NoMore}
use Rattle.cu_search.specs.Lines.{binding_text, bindings_text, end_text, floundered_text, further_bindings, further_waits, waited_text, waits_text}

-- one more variable that is waited for
pub one_more_wait : (variables : List (List ℕ)) (xs : List Waited) (i : ℕ) (d : Waited) (before comma after : List ℕ) → i < length xs
    → comma ≡ before ++ codes ", " → after ≡ comma ++ waited_text variables (get_or xs i d)
    → after ++ further_waits variables (drop (i + 1) xs) ≡ before ++ further_waits variables (drop i xs)
one_more_wait variables xs i d before comma after below is_comma is_after =
    let x = get_or xs i d in
    let rest = further_waits variables (drop (i + 1) xs) in
    ap (λ (text : List ℕ). text ++ rest) (is_after ∙ ap (λ (text : List ℕ). text ++ waited_text variables x) is_comma)
    ∙ append_assoc (before ++ codes ", ") (waited_text variables x) rest
    ∙ append_assoc before (codes ", ") (waited_text variables x ++ rest)
    ∙ ap (λ (names : List Waited). before ++ further_waits variables names) (sym (drop_more xs i d below))

-- the first variable that is waited for
pub first_wait : (variables : List (List ℕ)) (name : Waited) (names : List Waited) (before mark after : List ℕ)
    → mark ≡ before ++ codes "waits on " → after ≡ mark ++ waited_text variables name
    → after ++ further_waits variables names ≡ before ++ waits_text variables (name ∷ names)
first_wait variables name names before mark after is_mark is_after =
    let rest = further_waits variables names in
    ap (λ (text : List ℕ). text ++ rest) (is_after ∙ ap (λ (text : List ℕ). text ++ waited_text variables name) is_mark)
    ∙ append_assoc (before ++ codes "waits on ") (waited_text variables name) rest
    ∙ append_assoc before (codes "waits on ") (waited_text variables name ++ rest)

floundered_text-some : (k : ℕ) → (k ≡ 0 → ⊥) → floundered_text k ≡ codes "; " ++ (decimal k ++ codes " floundered")
floundered_text-some zero h = absurd (h refl)
floundered_text-some (suc k) h = refl

-- the last line where branches wait
pub floundered : (k : ℕ) (before first second third : List ℕ) → (k ≡ 0 → ⊥) → first ≡ before ++ codes "no more; " → second ≡ first ++ decimal k
    → third ≡ second ++ codes " floundered\n" → third ≡ before ++ end_text (NoMore k)
floundered k before first second third some is_first is_second is_third =
    let digits = decimal k in
    is_third
    ∙ ap (λ (text : List ℕ). text ++ codes " floundered\n") (is_second ∙ ap (λ (text : List ℕ). text ++ digits) is_first)
    ∙ append_assoc (before ++ codes "no more; ") digits (codes " floundered\n")
    ∙ append_assoc before (codes "no more; ") (digits ++ codes " floundered\n")
    ∙ ap (λ (text : List ℕ). before ++ (codes "no more; " ++ text)) (sym (append_assoc digits (codes " floundered") (codes "\n")))
    ∙ ap (λ (text : List ℕ). before ++ (codes "no more" ++ (text ++ codes "\n"))) (sym (floundered_text-some k some))

module _ (labels : Labels) (names : List (List ℕ)) (values : List Value) where
  -- the bindings from a place on, and what closes them
  abbrev pub rest_of_bindings : ℕ → List ℕ
  rest_of_bindings i = further_bindings labels (drop i names) (drop i values) ++ codes "} "

  further-more : (i : ℕ) (d : Value) → i < length names → i < length values
      → further_bindings labels (drop i names) (drop i values)
      ≡ codes ", " ++ (binding_text labels (get_or names i []) (get_or values i d) ++ further_bindings labels (drop (i + 1) names) (drop (i + 1) values))
  further-more i d in_names in_values =
      ap (λ xs. further_bindings labels xs (drop i values)) (drop_more names i [] in_names)
      ∙ ap (λ xs. further_bindings labels (get_or names i [] ∷ drop (i + 1) names) xs) (drop_more values i d in_values)

  -- one more binding
  pub one_more_binding : (i : ℕ) (v : Value) (before comma after : List ℕ) → i < length names → i < length values → v ≡ get_or values i v
      → comma ≡ before ++ codes ", " → after ≡ comma ++ binding_text labels (get_or names i []) v
      → after ++ rest_of_bindings (i + 1) ≡ before ++ rest_of_bindings i
  one_more_binding i v before comma after in_names in_values is is_comma is_after =
      let binding = binding_text labels (get_or names i []) (get_or values i v) in
      let rest = further_bindings labels (drop (i + 1) names) (drop (i + 1) values) in
      ap (λ (text : List ℕ). text ++ rest_of_bindings (i + 1))
      (is_after ∙ ap (λ (text : List ℕ). text ++ binding_text labels (get_or names i []) v) is_comma
      ∙ ap (λ w. (before ++ codes ", ") ++ binding_text labels (get_or names i []) w) is)
      ∙ append_assoc (before ++ codes ", ") binding (rest ++ codes "} ")
      ∙ append_assoc before (codes ", ") (binding ++ (rest ++ codes "} "))
      ∙ ap (λ (text : List ℕ). before ++ (codes ", " ++ text)) (sym (append_assoc binding rest (codes "} ")))
      ∙ ap (λ (text : List ℕ). before ++ text) (sym (append_assoc (codes ", ") (binding ++ rest) (codes "} ")))
      ∙ ap (λ (text : List ℕ). before ++ (text ++ codes "} ")) (sym (further-more i v in_names in_values))

  -- the first binding
  pub first_binding : (v : Value) (before brace after : List ℕ) → 0 < length names → 0 < length values → v ≡ get_or values 0 v
      → brace ≡ before ++ codes "{" → after ≡ brace ++ binding_text labels (get_or names 0 []) v
      → after ++ rest_of_bindings 1 ≡ before ++ bindings_text labels names values
  first_binding v before brace after in_names in_values is is_brace is_after =
      let binding = binding_text labels (get_or names 0 []) (get_or values 0 v) in
      ap (λ (text : List ℕ). text ++ rest_of_bindings 1)
      (is_after ∙ ap (λ (text : List ℕ). text ++ binding_text labels (get_or names 0 []) v) is_brace
      ∙ ap (λ w. (before ++ codes "{") ++ binding_text labels (get_or names 0 []) w) is)
      ∙ append_assoc (before ++ codes "{") binding (rest_of_bindings 1)
      ∙ append_assoc before (codes "{") (binding ++ rest_of_bindings 1)
      ∙ ap (λ (text : List ℕ). before ++ text) (sym (
      ap (λ xs. bindings_text labels xs values) (drop_more names 0 [] in_names)
      ∙ ap (λ xs. bindings_text labels (get_or names 0 [] ∷ drop 1 names) xs) (drop_more values 0 v in_values)))

-- a count that is all of the names or all of the values
pub all-counted : (n count i : ℕ) (names : List (List ℕ)) (values : List Value) → n ≡ length names → count ≤ i → n ≤ count ⊎ length values ≤ count
    → length names ≤ i ⊎ length values ≤ i
all-counted n count i names values is past (inl h) = inl (omega (arith, is, past, h))
all-counted n count i names values is past (inr h) = inr (omega (arith, past, h))

-- no bindings
pub no_bindings : (labels : Labels) (names : List (List ℕ)) (values : List Value) (count : ℕ) → length names ≤ count ⊎ length values ≤ count → count ≡ 0
    → bindings_text labels names values ≡ []
no_bindings labels [] values count past zero_is = refl
no_bindings labels (name ∷ names) [] count past zero_is = refl
no_bindings labels (name ∷ names) (value ∷ values) count (inl h) zero_is = absurd (omega (arith, h, zero_is))
no_bindings labels (name ∷ names) (value ∷ values) count (inr h) zero_is = absurd (omega (arith, h, zero_is))

-- no more bindings
pub no_more_bindings : (labels : Labels) (names : List (List ℕ)) (values : List Value) (i : ℕ) → length names ≤ i ⊎ length values ≤ i
    → further_bindings labels (drop i names) (drop i values) ≡ []
no_more_bindings labels names values i (inl h) = ap (λ xs. further_bindings labels xs (drop i values)) (drop_all i names h)
no_more_bindings labels names values i (inr h) = ap (λ xs. further_bindings labels (drop i names) xs) (drop_all i values h) ∙ without_values (drop i names)
  where
    without_values : (xs : List (List ℕ)) → further_bindings labels xs [] ≡ []
    without_values [] = refl
    without_values (x ∷ xs) = refl

-- after the last binding
pub last_binding : (labels : Labels) (names : List (List ℕ)) (values : List Value) (i : ℕ) (now closed whole : List ℕ) → length names ≤ i ⊎ length values ≤ i
    → now ++ rest_of_bindings labels names values i ≡ whole → closed ≡ now ++ codes "} " → closed ≡ whole
last_binding labels names values i now closed whole past is is_closed =
    is_closed ∙ ap (λ (text : List ℕ). now ++ (text ++ codes "} ")) (sym (no_more_bindings labels names values i past)) ∙ is
