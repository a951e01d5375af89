-- The steps of a display, each for the code that takes it.
use Rattle.std.specs.Prelude.{◌≡◌, ℕ, zero, suc, ◌+◌, ◌-◌, ◌<◌, ◌≤◌, Bool, true, false, ◌&&◌, List, [], ◌∷◌, ◌++◌, if◌then◌else◌, codes, length, refl}
use Rattle.std.specs.declared.alloc.AllocError.{AllocError}
use Rattle.std.specs.Prelude.{Err, IfOk, Ok, Result}
use Rattle.std.proofs.Common.{ap, append-nil, append_assoc, arith, drop, get_or, reverse, sym, subst, ◌∙◌}
use Rattle.cu_calculus.specs.declared.ConId.{ConId}
use Rattle.cu_calculus.specs.Value as value
use Rattle.cu_calculus.specs.Value.{Value, Values, count}
use Rattle.cu_values.specs.declared.cell.Cell.{Cell}
use Rattle.cu_values.specs.declared.cell.Cell.TheVariants as cell
use Rattle.cu_values.specs.declared.shape.Shape.{Shape}
use Rattle.cu_values.specs.declared.shape.Shape.TheVariants as shape
use Rattle.cu_values.specs.declared.task.Task.{Task}
use Rattle.cu_values.specs.declared.task.Task.TheVariants as task
use Rattle.cu_values.specs.Cells.{arity_of, suffix, first, prefix, put, read_all, spell, IsSpelled}
use Rattle.cu_values.specs.Display as d
use Rattle.cu_values.specs.Display.{display, Labels}
use Rattle.cu_values.specs.Inside.Shapes.{is_enclosed, is_no_list, shape_of, shapes_at}
use Rattle.cu_values.specs.Inside.Tasks.{all_fit, are_characters, due, fit, takes, written, Ready, Step}
use Rattle.cu_values.proofs.CellLemmas.{read_all_one, spelled_one}
use Rattle.cu_values.proofs.PlaceLemmas.{here, taken, Here}
use Rattle.cu_values.proofs.ShapeLemmas as s
use Rattle.cu_values.proofs.ShapeLemmas.{list_parts, open_parts, Parted}
use Rattle.cu_values.proofs.WriteLemmas as w
use Rattle.cu_values.proofs.WriteLemmas.{Rule}

pub length_shapes : (labels : Labels) (cells : List Cell) → length (shapes_at labels cells) ≡ length cells
length_shapes labels [] = refl
length_shapes labels (c ∷ cs) = ap (λ n. suc n) (length_shapes labels cs)

pub shape_at : (labels : Labels) (cells : List Cell) (at : ℕ) (x : Shape) → at < length cells
    → get_or (shapes_at labels cells) at x ≡ shape_of labels (first (read_all (drop at cells)))
shape_at labels [] at x within = absurd (omega (arith, within))
shape_at labels (c ∷ cs) zero x within = refl
shape_at labels (c ∷ cs) (suc at) x within = shape_at labels cs at x (omega (arith, within))

-- the shape at a place is that of the value there
pub shape_here : (labels : Labels) (cells : List Cell) (shapes : List Shape) (at : ℕ) (x : Shape) → shapes ≡ shapes_at labels cells → at < length cells
    → get_or shapes at x ≡ shape_of labels (first (read_all (drop at cells)))
shape_here labels cells shapes at x e within = rw e (shape_at labels cells at x within)

pub shapes_within : (labels : Labels) (cells : List Cell) (shapes : List Shape) (at : ℕ) → shapes ≡ shapes_at labels cells → at < length cells
    → at < length shapes
shapes_within labels cells shapes at e within = omega (arith, ap length e, length_shapes labels cells, within)

pub both_left : (a b : Bool) → (a && b) ≡ true → a ≡ true
both_left true b e = refl
both_left false b e = let no : ⊥ = cc in absurd no

pub fits_here : (labels : Labels) (cells : List Cell) (at : ℕ) (tasks : List Task) (t : Task) → Ready labels cells at (tasks ++ t ∷ [])
    → fit labels t (first (read_all (drop at cells))) ≡ true
fits_here labels cells at tasks t ready =
    let vs = read_all (drop at cells) in
    both_left (fit labels t (first vs)) (all_fit labels (reverse tasks) (suffix (takes t) vs))
    (ap (λ (x : List Task). all_fit labels x vs) (sym (w.reverse_snoc tasks t)) ∙ ready.fit)

pub has_by_count : (vs : Values) → 0 < count vs → d.has_arguments vs ≡ true
has_by_count value.NoValue some = absurd (omega (arith, some))
has_by_count (value.MoreValues v vs) some = refl

-- The rest of a finite list.

pub elements_end_any : (labels : Labels) (c : Cell) (us : Values) (ts : List Task) → arity_of c ≡ 0 → d.is_list labels (first (put c us)) ≡ true
    → Rule labels (put c us) (task.Elements ∷ ts) [] us ts
elements_end_any labels (cell.Con k n) us ts e f =
    subst (λ (m : ℕ). Rule labels (put (cell.Con k m) us) (task.Elements ∷ ts) [] us ts) (sym e) (w.elements_end_rule labels k us ts)
elements_end_any labels cell.Bottom us ts e f = let no : ⊥ = cc in absurd no
elements_end_any labels (cell.LVar x) us ts e f = let no : ⊥ = cc in absurd no
elements_end_any labels (cell.Lit l) us ts e f = let no : ⊥ = cc in absurd no
elements_end_any labels (cell.Part h n) us ts e f = let no : ⊥ = cc in absurd no

pub elements_any : (labels : Labels) (c : Cell) (us : Values) (ts : List Task) → 0 < arity_of c → count (prefix (arity_of c) us) ≡ arity_of c
    → d.is_list labels (first (put c us)) ≡ true → Rule labels (put c us) (task.Elements ∷ ts) (codes ",") us (task.Alone ∷ task.Elements ∷ ts)
elements_any labels (cell.Con k n) us ts some whole f =
    let has : d.has_arguments (prefix n us) ≡ true = has_by_count (prefix n us) (omega (arith, some, whole)) in
    let p : Parted (prefix n us) (d.is_list labels) = list_parts labels k (prefix n us) f has in
    let rule = w.elements_rule labels (value.Constructed k (prefix n us)) p.element p.rest (suffix n us) ts f p.tested
    (ap (λ (x : Values). d.further_elements labels (value.Constructed k x)) p.parts) in
    subst (λ (x : Values). Rule labels (put (cell.Con k n) us) (task.Elements ∷ ts) (codes ",") x (task.Alone ∷ task.Elements ∷ ts))
    (sym (taken n us _ p.parts)) rule
elements_any labels cell.Bottom us ts some whole f = let no : ⊥ = cc in absurd no
elements_any labels (cell.LVar x) us ts some whole f = let no : ⊥ = cc in absurd no
elements_any labels (cell.Lit l) us ts some whole f = let no : ⊥ = cc in absurd no
elements_any labels (cell.Part h n) us ts some whole f = let no : ⊥ = cc in absurd no

pub elements_end_step : (labels : Labels) (cells : List Cell) (at : ℕ) (tasks : List Task) (text : List ℕ)
    → Ready labels cells at (tasks ++ task.Elements ∷ []) → arity_of (get_or cells at cell.Bottom) ≡ 0
    → Step labels cells 1 at (tasks ++ task.Elements ∷ []) text (at + 1) tasks text
elements_end_step labels cells at tasks text ready none =
    let c = get_or cells at cell.Bottom in
    let p : Here cells at c = here cells at c (w.place labels cells at tasks task.Elements ready refl) refl ready.spelled in
    let list : d.is_list labels (first (put c (read_all (drop (at + 1) cells)))) ≡ true =
    subst (λ (x : Values). d.is_list labels (first x) ≡ true) p.read (fits_here labels cells at tasks task.Elements ready) in
    w.head_step labels cells 1 at tasks task.Elements text tasks text [] c (reverse tasks) ready p
    (elements_end_any labels c (read_all (drop (at + 1) cells)) (reverse tasks) none list) refl (sym (append-nil text)) (omega arith)

pub elements_step : (labels : Labels) (cells : List Cell) (at : ℕ) (tasks one two : List Task) (text longer : List ℕ)
    → Ready labels cells at (tasks ++ task.Elements ∷ []) → (arity_of (get_or cells at cell.Bottom) ≡ 0 → ⊥)
    → longer ≡ text ++ codes "," → one ≡ tasks ++ task.Elements ∷ [] → two ≡ one ++ task.Alone ∷ []
    → Step labels cells 1 at (tasks ++ task.Elements ∷ []) text (at + 1) two longer
elements_step labels cells at tasks one two text longer ready some e f g =
    let c = get_or cells at cell.Bottom in
    let p : Here cells at c = here cells at c (w.place labels cells at tasks task.Elements ready refl) refl ready.spelled in
    let list : d.is_list labels (first (put c (read_all (drop (at + 1) cells)))) ≡ true =
    subst (λ (x : Values). d.is_list labels (first x) ≡ true) p.read (fits_here labels cells at tasks task.Elements ready) in
    rw (g, f)
    (w.head_step labels cells 1 at tasks task.Elements text ((tasks ++ task.Elements ∷ []) ++ task.Alone ∷ []) longer (codes ",") c
    (task.Alone ∷ task.Elements ∷ reverse tasks) ready p
    (elements_any labels c (read_all (drop (at + 1) cells)) (reverse tasks) (omega (arith, some)) p.after.whole list) (w.reverse_two tasks task.Elements task.Alone) e
    (omega (arith, w.length_snoc (tasks ++ task.Elements ∷ []) task.Alone, w.length_snoc tasks task.Elements)))

-- The rest of a list that ends in a variable.

pub open_rest_any : (labels : Labels) (c : Cell) (us : Values) (ts : List Task) → ((n : ℕ) → c ≡ cell.LVar n → ⊥) → d.is_open labels (first (put c us)) ≡ true
    → Rule labels (put c us) (task.OpenRest ∷ ts) (codes ":") us (task.Argument ∷ task.OpenRest ∷ ts)
open_rest_any labels (cell.Con k n) us ts other f =
    let p : Parted (prefix n us) (d.is_open labels) = open_parts labels k (prefix n us) f in
    let rule = w.open_rest_rule labels (value.Constructed k (prefix n us)) p.element p.rest (suffix n us) ts p.tested
    (ap (λ (x : Values). d.open_rest labels (value.Constructed k x)) p.parts) in
    subst (λ (x : Values). Rule labels (put (cell.Con k n) us) (task.OpenRest ∷ ts) (codes ":") x (task.Argument ∷ task.OpenRest ∷ ts))
    (sym (taken n us _ p.parts)) rule
open_rest_any labels cell.Bottom us ts other f = let no : ⊥ = cc in absurd no
open_rest_any labels (cell.LVar x) us ts other f = absurd (other x refl)
open_rest_any labels (cell.Lit l) us ts other f = let no : ⊥ = cc in absurd no
open_rest_any labels (cell.Part h n) us ts other f = let no : ⊥ = cc in absurd no

pub open_end_step : (labels : Labels) (cells : List Cell) (at n : ℕ) (tasks : List Task) (text between longer : List ℕ)
    → Ready labels cells at (tasks ++ task.OpenRest ∷ []) → get_or cells at cell.Bottom ≡ cell.LVar n
    → between ≡ text ++ codes ":" → longer ≡ between ++ d.variable_text n
    → Step labels cells 1 at (tasks ++ task.OpenRest ∷ []) text (at + 1) tasks longer
open_end_step labels cells at n tasks text between longer ready is e f =
    let p : Here cells at (cell.LVar n) = here cells at (cell.LVar n) (w.place labels cells at tasks task.OpenRest ready refl) is ready.spelled in
    w.head_step labels cells 1 at tasks task.OpenRest text tasks longer (codes ":" ++ d.variable_text n) (cell.LVar n) (reverse tasks) ready p
    (w.open_end_rule labels n (read_all (drop (at + 1) cells)) (reverse tasks)) refl
    (f ∙ ap (λ (x : List ℕ). x ++ d.variable_text n) e ∙ append_assoc text (codes ":") (d.variable_text n)) (omega arith)

pub open_rest_step : (labels : Labels) (cells : List Cell) (at : ℕ) (tasks one two : List Task) (text longer : List ℕ)
    → Ready labels cells at (tasks ++ task.OpenRest ∷ []) → ((n : ℕ) → get_or cells at cell.Bottom ≡ cell.LVar n → ⊥)
    → longer ≡ text ++ codes ":" → one ≡ tasks ++ task.OpenRest ∷ [] → two ≡ one ++ task.Argument ∷ []
    → Step labels cells 1 at (tasks ++ task.OpenRest ∷ []) text (at + 1) two longer
open_rest_step labels cells at tasks one two text longer ready other e f g =
    let c = get_or cells at cell.Bottom in
    let p : Here cells at c = here cells at c (w.place labels cells at tasks task.OpenRest ready refl) refl ready.spelled in
    let open_one : d.is_open labels (first (put c (read_all (drop (at + 1) cells)))) ≡ true =
    subst (λ (x : Values). d.is_open labels (first x) ≡ true) p.read (fits_here labels cells at tasks task.OpenRest ready) in
    rw (g, f)
    (w.head_step labels cells 1 at tasks task.OpenRest text ((tasks ++ task.OpenRest ∷ []) ++ task.Argument ∷ []) longer (codes ":") c
    (task.Argument ∷ task.OpenRest ∷ reverse tasks) ready p
    (open_rest_any labels c (read_all (drop (at + 1) cells)) (reverse tasks) other open_one) (w.reverse_two tasks task.OpenRest task.Argument) e
    (omega (arith, w.length_snoc (tasks ++ task.OpenRest ∷ []) task.Argument, w.length_snoc tasks task.OpenRest)))

-- Constructors.

-- the place of a constructor, and the shape of the value there
pub record Headed (labels : Labels) (cells : List Cell) (at : ℕ) (k : ConId) (n : ℕ) (x : Shape) : Type 0 where
  pub here : Here cells at (cell.Con k n)
  pub shape : x ≡ shape_of labels (value.Constructed k (prefix n (read_all (drop (at + 1) cells))))

pub headed : (labels : Labels) (cells : List Cell) (shapes : List Shape) (at : ℕ) (tasks : List Task) (k : ConId) (n : ℕ) (x : Shape)
    → Ready labels cells at (tasks ++ task.Alone ∷ []) → get_or cells at cell.Bottom ≡ cell.Con k n → shapes ≡ shapes_at labels cells
    → Headed labels cells at k n (get_or shapes at x)
headed labels cells shapes at tasks k n x ready is shaped =
    let p : Here cells at (cell.Con k n) = here cells at (cell.Con k n) (w.place labels cells at tasks task.Alone ready refl) is ready.spelled in
    record {
      here = p;
      shape = shape_here labels cells shapes at x shaped p.within ∙ ap (λ (y : Values). shape_of labels (first y)) p.read;
    }

pub unit_step : (labels : Labels) (cells : List Cell) (at : ℕ) (tasks others : List Task) (text longer : List ℕ) (k : ConId) (n : ℕ) (x : Shape)
    → Ready labels cells at (tasks ++ task.Alone ∷ []) → Headed labels cells at k n x → is_no_list x ≡ true → labels.tuple k ≡ true
    → n ≡ 0 → longer ≡ text ++ codes "(" → others ≡ tasks ++ task.ClosingParenthesis ∷ []
    → Step labels cells 6 at (tasks ++ task.Alone ∷ []) text (at + 1) others longer
unit_step labels cells at tasks others text longer k n x ready head none tuple zero_is e f =
    let h : Headed labels cells at k 0 x = subst (λ (m : ℕ). Headed labels cells at k m x) zero_is head in
    let shown : display labels (value.Constructed k value.NoValue) ≡ codes "(" ++ codes ")" =
    s.shown_other labels k value.NoValue (ap is_no_list (sym h.shape) ∙ none)
    ∙ ap (λ b. if b then codes "(" ++ codes ")" else d.in_parentheses (d.is_operator (labels.constructor k)) (labels.constructor k) ++ []) tuple in
    rw f
    (w.head_step labels cells 6 at tasks task.Alone text (tasks ++ task.ClosingParenthesis ∷ []) longer (codes "(") (cell.Con k 0)
    (task.ClosingParenthesis ∷ reverse tasks) ready h.here (w.unit_rule labels k (read_all (drop (at + 1) cells)) (reverse tasks) shown)
    (w.reverse_snoc tasks task.ClosingParenthesis) e (omega (arith, w.length_snoc tasks task.ClosingParenthesis)))

pub tuple_step : (labels : Labels) (cells : List Cell) (at : ℕ) (tasks one two three : List Task) (text longer : List ℕ) (k : ConId) (n m : ℕ) (x : Shape)
    → Ready labels cells at (tasks ++ task.Alone ∷ []) → Headed labels cells at k n x → is_no_list x ≡ true → labels.tuple k ≡ true
    → n ≡ suc m → longer ≡ text ++ codes "(" → one ≡ tasks ++ task.ClosingParenthesis ∷ [] → two ≡ one ++ task.Components m ∷ []
    → three ≡ two ++ task.Alone ∷ [] → Step labels cells 6 at (tasks ++ task.Alone ∷ []) text (at + 1) three longer
tuple_step labels cells at tasks one two three text longer k n m x ready head none tuple more e f g i =
    let h : Headed labels cells at k (suc m) x = subst (λ (y : ℕ). Headed labels cells at k y x) more head in
    let us = read_all (drop (at + 1) cells) in
    let shown : display labels (value.Constructed k (prefix (suc m) us)) ≡ codes "(" ++ (d.components labels (prefix (suc m) us) ++ codes ")") =
    s.shown_other labels k (prefix (suc m) us) (ap is_no_list (sym h.shape) ∙ none)
    ∙ ap (λ b. if b then codes "(" ++ (d.components labels (prefix (suc m) us) ++ codes ")")
    else d.in_parentheses (d.is_operator (labels.constructor k)) (labels.constructor k) ++ d.arguments labels (prefix (suc m) us)) tuple in
    let a = tasks ++ task.ClosingParenthesis ∷ [] in
    let b = a ++ task.Components m ∷ [] in
    rw (i, g, f)
    (w.head_step labels cells 6 at tasks task.Alone text (b ++ task.Alone ∷ []) longer (codes "(") (cell.Con k (suc m))
    (task.Alone ∷ task.Components m ∷ task.ClosingParenthesis ∷ reverse tasks) ready h.here
    (w.tuple_rule labels k m us (reverse tasks) h.here.after.whole shown)
    (w.reverse_three tasks task.ClosingParenthesis (task.Components m) task.Alone) e
    (omega (arith, w.length_snoc tasks task.ClosingParenthesis, w.length_snoc a (task.Components m), w.length_snoc b task.Alone)))

pub application_step : (labels : Labels) (cells : List Cell) (at : ℕ) (tasks others : List Task) (text longer : List ℕ) (k : ConId) (n : ℕ) (x : Shape)
    → Ready labels cells at (tasks ++ task.Alone ∷ []) → Headed labels cells at k n x → is_no_list x ≡ true → labels.tuple k ≡ false
    → longer ≡ text ++ d.in_parentheses (d.is_operator (labels.constructor k)) (labels.constructor k) → others ≡ tasks ++ task.Arguments n ∷ []
    → Step labels cells 6 at (tasks ++ task.Alone ∷ []) text (at + 1) others longer
application_step labels cells at tasks others text longer k n x ready h none tuple e f =
    let us = read_all (drop (at + 1) cells) in
    let name = d.in_parentheses (d.is_operator (labels.constructor k)) (labels.constructor k) in
    let shown : display labels (value.Constructed k (prefix n us)) ≡ name ++ d.arguments labels (prefix n us) =
    s.shown_other labels k (prefix n us) (ap is_no_list (sym h.shape) ∙ none)
    ∙ ap (λ b. if b then codes "(" ++ (d.components labels (prefix n us) ++ codes ")") else name ++ d.arguments labels (prefix n us)) tuple in
    rw f
    (w.head_step labels cells 6 at tasks task.Alone text (tasks ++ task.Arguments n ∷ []) longer name (cell.Con k n)
    (task.Arguments n ∷ reverse tasks) ready h.here (w.application_rule labels k n us (reverse tasks) name h.here.after.whole shown)
    (w.reverse_snoc tasks (task.Arguments n)) e (omega (arith, w.length_snoc tasks (task.Arguments n))))

pub empty_step : (labels : Labels) (cells : List Cell) (at : ℕ) (tasks : List Task) (text longer : List ℕ) (k : ConId) (n : ℕ) (x : Shape)
    → Ready labels cells at (tasks ++ task.Alone ∷ []) → Headed labels cells at k n x → x ≡ shape.Empty → longer ≡ text ++ codes "[]"
    → Step labels cells 6 at (tasks ++ task.Alone ∷ []) text (at + 1) tasks longer
empty_step labels cells at tasks text longer k n x ready h is e =
    let us = read_all (drop (at + 1) cells) in
    let shown = s.shown_empty labels k (prefix n us) (sym h.shape ∙ is) in
    let none : n ≡ 0 = sym h.here.after.whole ∙ ap count shown.0 in
    let read : read_all (drop at cells) ≡ value.MoreValues (value.Constructed k (prefix n us)) us =
    h.here.read ∙ ap (λ m. value.MoreValues (value.Constructed k (prefix n us)) (suffix m us)) none in
    w.whole_step labels cells at tasks text (at + 1) longer (codes "[]") ready (omega arith) (omega (arith, h.here.within)) h.here.after.others
    (ap (λ (y : Values). suffix 1 y) (sym read)) (ap (λ (y : Values). display labels (first y)) read ∙ shown.1) e

pub list_step : (labels : Labels) (cells : List Cell) (at : ℕ) (tasks one two three : List Task) (text longer : List ℕ) (k : ConId) (n : ℕ) (x : Shape)
    → Ready labels cells at (tasks ++ task.Alone ∷ []) → Headed labels cells at k n x → x ≡ shape.List → longer ≡ text ++ codes "["
    → one ≡ tasks ++ task.ClosingBracket ∷ [] → two ≡ one ++ task.Elements ∷ [] → three ≡ two ++ task.Alone ∷ []
    → Step labels cells 6 at (tasks ++ task.Alone ∷ []) text (at + 1) three longer
list_step labels cells at tasks one two three text longer k n x ready h is e f g i =
    let us = read_all (drop (at + 1) cells) in
    let shaped : shape_of labels (value.Constructed k (prefix n us)) ≡ shape.List = sym h.shape ∙ is in
    let list : d.is_list labels (value.Constructed k (prefix n us)) ≡ true = s.list_by_shape labels (value.Constructed k (prefix n us)) ∙ ap s.lists shaped in
    let p : Parted (prefix n us) (d.is_list labels) = list_parts labels k (prefix n us) list (s.argumentless labels k (prefix n us) shaped) in
    let shown : display labels (value.Constructed k (prefix n us)) ≡ codes "[" ++ ((display labels p.element ++ d.further_elements labels p.rest) ++ codes "]") =
    s.shown_list labels k (prefix n us) shaped ∙ ap (λ (y : Values). codes "[" ++ (d.elements labels y ++ codes "]")) p.parts in
    let rule = w.list_rule labels (value.Constructed k (prefix n us)) p.element p.rest (suffix n us) (reverse tasks) p.tested shown in
    let rule_here : Rule labels (put (cell.Con k n) us) (task.Alone ∷ reverse tasks) (codes "[") us (task.Alone ∷ task.Elements ∷ task.ClosingBracket ∷ reverse tasks) =
    subst (λ (y : Values). Rule labels (put (cell.Con k n) us) (task.Alone ∷ reverse tasks) (codes "[") y (task.Alone ∷ task.Elements ∷ task.ClosingBracket ∷ reverse tasks))
    (sym (taken n us _ p.parts)) rule in
    let a = tasks ++ task.ClosingBracket ∷ [] in
    let b = a ++ task.Elements ∷ [] in
    rw (i, g, f)
    (w.head_step labels cells 6 at tasks task.Alone text (b ++ task.Alone ∷ []) longer (codes "[") (cell.Con k n)
    (task.Alone ∷ task.Elements ∷ task.ClosingBracket ∷ reverse tasks) ready h.here rule_here
    (w.reverse_three tasks task.ClosingBracket task.Elements task.Alone) e
    (omega (arith, w.length_snoc tasks task.ClosingBracket, w.length_snoc a task.Elements, w.length_snoc b task.Alone)))

pub open_step : (labels : Labels) (cells : List Cell) (at : ℕ) (tasks one two : List Task) (text : List ℕ) (k : ConId) (n : ℕ) (x : Shape)
    → Ready labels cells at (tasks ++ task.Alone ∷ []) → Headed labels cells at k n x → x ≡ shape.Open
    → one ≡ tasks ++ task.OpenRest ∷ [] → two ≡ one ++ task.Argument ∷ []
    → Step labels cells 6 at (tasks ++ task.Alone ∷ []) text (at + 1) two text
open_step labels cells at tasks one two text k n x ready h is f g =
    let us = read_all (drop (at + 1) cells) in
    let shaped : shape_of labels (value.Constructed k (prefix n us)) ≡ shape.Open = sym h.shape ∙ is in
    let open_one : d.is_open labels (value.Constructed k (prefix n us)) ≡ true = s.open_by_shape labels (value.Constructed k (prefix n us)) ∙ ap s.opens shaped in
    let p : Parted (prefix n us) (d.is_open labels) = open_parts labels k (prefix n us) open_one in
    let shown = s.shown_open labels k (prefix n us) shaped ∙ ap (λ (y : Values). d.open_elements labels y) p.parts in
    let rule = w.open_rule labels (value.Constructed k (prefix n us)) p.element p.rest (suffix n us) (reverse tasks) p.tested shown in
    let rule_here : Rule labels (put (cell.Con k n) us) (task.Alone ∷ reverse tasks) [] us (task.Argument ∷ task.OpenRest ∷ reverse tasks) =
    subst (λ (y : Values). Rule labels (put (cell.Con k n) us) (task.Alone ∷ reverse tasks) [] y (task.Argument ∷ task.OpenRest ∷ reverse tasks))
    (sym (taken n us _ p.parts)) rule in
    let a = tasks ++ task.OpenRest ∷ [] in
    rw (g, f)
    (w.head_step labels cells 6 at tasks task.Alone text (a ++ task.Argument ∷ []) text [] (cell.Con k n)
    (task.Argument ∷ task.OpenRest ∷ reverse tasks) ready h.here rule_here (w.reverse_two tasks task.OpenRest task.Argument) (sym (append-nil text))
    (omega (arith, w.length_snoc tasks task.OpenRest, w.length_snoc a task.Argument)))

pub other_shape_by : (labels : Labels) (cells : List Cell) (at : ℕ) (k : ConId) (n : ℕ) (x : Shape) → Headed labels cells at k n x
    → (x ≡ shape.Text → ⊥) → (x ≡ shape.Empty → ⊥) → (x ≡ shape.List → ⊥) → (x ≡ shape.Open → ⊥) → is_no_list x ≡ true
other_shape_by labels cells at k n x h a b c e =
    s.no_list_by x a b c e (ap s.is_variable_shape h.shape ∙ s.variable_constructed labels k (prefix n (read_all (drop (at + 1) cells))))

-- Strings.

pub string_letters : (labels : Labels) (cells : List Cell) (shapes : List Shape) (at : ℕ) (x : Shape) → shapes ≡ shapes_at labels cells → at < length cells
    → get_or shapes at x ≡ shape.Text → are_characters (first (read_all (drop at cells))) ≡ true
string_letters labels cells shapes at x shaped within is =
    let v = first (read_all (drop at cells)) in
    s.text_characters labels v (s.text_by_shape labels v ∙ ap s.texts (sym (shape_here labels cells shapes at x shaped within) ∙ is))

pub string_step : (labels : Labels) (cells : List Cell) (shapes : List Shape) (at : ℕ) (tasks : List Task) (text one two longer : List ℕ) (next : ℕ) (x : Shape)
    → Ready labels cells at (tasks ++ task.Alone ∷ []) → shapes ≡ shapes_at labels cells → get_or shapes at x ≡ shape.Text
    → at < next → next ≤ length cells → IsSpelled (drop next cells) → read_all (drop next cells) ≡ suffix 1 (read_all (drop at cells))
    → one ≡ text ++ 34 ∷ [] → two ≡ one ++ d.string_text (d.characters (first (read_all (drop at cells)))) → longer ≡ two ++ 34 ∷ []
    → Step labels cells 6 at (tasks ++ task.Alone ∷ []) text next tasks longer
string_step labels cells shapes at tasks text one two longer next x ready shaped is after within spelled others e f g =
    let v = first (read_all (drop at cells)) in
    let middle = d.string_text (d.characters v) in
    let here_is : shape_of labels v ≡ shape.Text =
    sym (shape_here labels cells shapes at x shaped (w.place labels cells at tasks task.Alone ready refl)) ∙ is in
    w.whole_step labels cells at tasks text next longer (34 ∷ (middle ++ 34 ∷ [])) ready after within spelled others (s.shown_text_any labels v here_is)
    (g ∙ ap (λ (y : List ℕ). y ++ 34 ∷ []) (f ∙ ap (λ (y : List ℕ). y ++ middle) e ∙ append_assoc text (34 ∷ []) middle)
    ∙ append_assoc text (34 ∷ middle) (34 ∷ []))

-- Arguments and components.

pub enclosed_here : (labels : Labels) (cells : List Cell) (shapes : List Shape) (at : ℕ) (x : Shape) (b : Bool) → shapes ≡ shapes_at labels cells → at < length cells
    → b ≡ is_enclosed (get_or shapes at x) → d.takes_parentheses labels (first (read_all (drop at cells))) ≡ b
enclosed_here labels cells shapes at x b shaped within e =
    s.enclosed_by_shape labels (first (read_all (drop at cells))) ∙ ap is_enclosed (sym (shape_here labels cells shapes at x shaped within)) ∙ sym e

-- What a call did, after a rule that passes no cell.
pub composed_ok : (r : Result ℕ AllocError) (labels : Labels) (cells : List Cell) (at : ℕ) (tasks : List Task) (t : Task) (between_tasks : List Task) (s : Task)
    (bytes : List ℕ) (rs : List Task) (text between : List ℕ) (others : List Task) (longer : List ℕ) (light heavy : ℕ)
    → Rule labels (read_all (drop at cells)) (t ∷ reverse tasks) bytes (read_all (drop at cells)) (s ∷ rs) → reverse between_tasks ≡ rs
    → between ≡ text ++ bytes → IfOk r (λ next. Step labels cells heavy at (between_tasks ++ s ∷ []) between next others longer)
    → length between_tasks + light ≤ length tasks + heavy → IfOk r (λ next. Step labels cells light at (tasks ++ t ∷ []) text next others longer)
composed_ok (Ok next) labels cells at tasks t between_tasks s bytes rs text between others longer light heavy rule e f step less =
    w.composed labels cells at tasks t between_tasks s bytes rs text between next others longer light heavy rule e f step less
composed_ok (Err _) labels cells at tasks t between_tasks s bytes rs text between others longer light heavy rule e f step less = tt

pub room_here : (labels : Labels) (cells : List Cell) (at : ℕ) (tasks : List Task) (t : Task) → Ready labels cells at (tasks ++ t ∷ [])
    → takes t ≤ count (read_all (drop at cells))
room_here labels cells at tasks t ready =
    let all : due (t ∷ reverse tasks) ≡ count (read_all (drop at cells)) = ap due (sym (w.reverse_snoc tasks t)) ∙ ready.due in
    omega (arith, all)

pub arguments_here : (labels : Labels) (cells : List Cell) (at : ℕ) (tasks : List Task) (n : ℕ) → Ready labels cells at (tasks ++ task.Arguments n ∷ [])
    → (n ≡ 0 → ⊥)
    → Rule labels (read_all (drop at cells)) (task.Arguments n ∷ reverse tasks) (codes " ") (read_all (drop at cells)) (task.Argument ∷ task.Arguments (n - 1) ∷ reverse tasks)
arguments_here labels cells at tasks n ready some =
    let e : n ≡ suc (n - 1) = omega (arith, some) in
    let room : n ≤ count (read_all (drop at cells)) = room_here labels cells at tasks (task.Arguments n) ready in
    subst
    (λ (k : ℕ). Rule labels (read_all (drop at cells)) (task.Arguments k ∷ reverse tasks) (codes " ") (read_all (drop at cells))
    (task.Argument ∷ task.Arguments (n - 1) ∷ reverse tasks))
    (sym e) (w.arguments_rule labels (n - 1) (read_all (drop at cells)) (reverse tasks) (omega (arith, room, some)))

pub components_here : (labels : Labels) (cells : List Cell) (at : ℕ) (tasks : List Task) (n : ℕ) → Ready labels cells at (tasks ++ task.Components n ∷ [])
    → (n ≡ 0 → ⊥)
    → Rule labels (read_all (drop at cells)) (task.Components n ∷ reverse tasks) (codes ",") (read_all (drop at cells)) (task.Alone ∷ task.Components (n - 1) ∷ reverse tasks)
components_here labels cells at tasks n ready some =
    let e : n ≡ suc (n - 1) = omega (arith, some) in
    let room : n ≤ count (read_all (drop at cells)) = room_here labels cells at tasks (task.Components n) ready in
    subst
    (λ (k : ℕ). Rule labels (read_all (drop at cells)) (task.Components k ∷ reverse tasks) (codes ",") (read_all (drop at cells))
    (task.Alone ∷ task.Components (n - 1) ∷ reverse tasks))
    (sym e) (w.components_rule labels (n - 1) (read_all (drop at cells)) (reverse tasks) (omega (arith, room, some)))

pub pushed : (tasks others : List Task) (t : Task) → others ≡ tasks ++ t ∷ [] → reverse others ≡ t ∷ reverse tasks
pushed tasks others t e = ap reverse e ∙ w.reverse_snoc tasks t

pub pushed_length : (tasks others : List Task) (t : Task) → others ≡ tasks ++ t ∷ [] → length others ≡ length tasks + 1
pushed_length tasks others t e = ap length e ∙ w.length_snoc tasks t

-- The whole display.

pub begin_ready : (labels : Labels) (v : Value) (cells : List Cell) (tasks : List Task) → cells ≡ spell v → tasks ≡ task.Alone ∷ [] → Ready labels cells 0 tasks
begin_ready labels v cells tasks e f =
    rw (e, f) record {
      within = omega arith;
      spelled = spelled_one v;
      due = rw (read_all_one v) refl;
      fit = refl;
    }

pub begin_whole : (labels : Labels) (v : Value) (cells : List Cell) (tasks : List Task) (text : List ℕ) → cells ≡ spell v → tasks ≡ task.Alone ∷ [] → text ≡ []
    → text ++ written labels (reverse tasks) (read_all cells) ≡ display labels v
begin_whole labels v cells tasks text e f g = rw (e, f, g, read_all_one v) (append-nil (display labels v))

pub popped : (labels : Labels) (cells : List Cell) (at : ℕ) (tasks rest : List Task) (t : Task) → Ready labels cells at tasks → tasks ≡ rest ++ t ∷ []
    → Ready labels cells at (rest ++ t ∷ [])
popped labels cells at tasks rest t ready e = subst (λ (x : List Task). Ready labels cells at x) e ready

pub same_on : (labels : Labels) (cells : List Cell) (at : ℕ) (tasks rest : List Task) (t : Task) (text : List ℕ) (next : ℕ) (others : List Task) (longer whole : List ℕ)
    → Step labels cells 1 at (rest ++ t ∷ []) text next others longer → tasks ≡ rest ++ t ∷ []
    → text ++ written labels (reverse tasks) (read_all (drop at cells)) ≡ whole
    → longer ++ written labels (reverse others) (read_all (drop next cells)) ≡ whole
same_on labels cells at tasks rest t text next others longer whole step e h =
    step.same ∙ ap (λ (x : List Task). text ++ written labels (reverse x) (read_all (drop at cells))) (sym e) ∙ h

pub all_written : (labels : Labels) (cells : List Cell) (at : ℕ) (tasks : List Task) (text whole : List ℕ) → tasks ≡ []
    → text ++ written labels (reverse tasks) (read_all (drop at cells)) ≡ whole → text ≡ whole
all_written labels cells at tasks text whole e h =
    sym (append-nil text) ∙ ap (λ (x : List Task). text ++ written labels (reverse x) (read_all (drop at cells))) (sym e) ∙ h
