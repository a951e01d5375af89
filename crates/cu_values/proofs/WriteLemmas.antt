-- What a step of a display does to what is written and what is left.
use Rattle.std.specs.Prelude.{◌≡◌, ℕ, suc, ◌+◌, ◌-◌, ◌*◌, ◌<◌, ◌≤◌, true, false, List, [], ◌∷◌, ◌++◌, codes, length, refl}
use Rattle.std.proofs.Common.{ap, append_assoc, arith, drop, get_or, length-append, reverse, sym, subst, ◌∙◌}
use Rattle.std.proofs.lemmas.List.{reverse-append}
use Rattle.cu_calculus.specs.declared.ConId.{ConId}
use Rattle.cu_calculus.specs.Value as value
use Rattle.cu_calculus.specs.Value.{Value, Values, count}
use Rattle.cu_values.specs.declared.cell.Cell.{Cell}
use Rattle.cu_values.specs.declared.cell.Cell.TheVariants as cell
use Rattle.cu_values.specs.declared.task.Task.{Task}
use Rattle.cu_values.specs.declared.task.Task.TheVariants as task
use Rattle.cu_values.specs.Cells.{suffix, first, prefix, put, read_all, IsSpelled}
use Rattle.cu_values.specs.Display as d
use Rattle.cu_values.specs.Display.{display, Labels}
use Rattle.cu_values.specs.Inside.Tasks.{all_fit, due, takes, written, Ready, Step}
use Rattle.cu_values.proofs.CellLemmas.{count-prefix-suffix, some_cell}
use Rattle.cu_values.proofs.PlaceLemmas.{here, Here}
use Rattle.cu_values.proofs.ShapeLemmas.{right_true}

-- Tasks `ts` on values `vs` come to some bytes, and then tasks `rs` on values `us`.
pub record Rule (labels : Labels) (vs : Values) (ts : List Task) (bytes : List ℕ) (us : Values) (rs : List Task) : Type 0 where
  pub dues : due ts ≡ count vs → due rs ≡ count us
  pub fits : all_fit labels ts vs ≡ true → all_fit labels rs us ≡ true
  pub same : written labels ts vs ≡ bytes ++ written labels rs us

pub reverse_snoc : (ts : List Task) (t : Task) → reverse (ts ++ t ∷ []) ≡ t ∷ reverse ts
reverse_snoc ts t = reverse-append ts (t ∷ [])

-- A rule and what was done make a step.
pub step_by : (labels : Labels) (cells : List Cell) (weight at : ℕ) (tasks : List Task) (t : Task) (text : List ℕ) (next : ℕ) (others : List Task)
    (longer bytes : List ℕ) (rs : List Task) → Ready labels cells at (tasks ++ t ∷ []) → next ≤ length cells → IsSpelled (drop next cells)
    → Rule labels (read_all (drop at cells)) (t ∷ reverse tasks) bytes (read_all (drop next cells)) rs → reverse others ≡ rs → longer ≡ text ++ bytes
    → 8 * (length cells - next) + length others + weight ≤ 8 * (length cells - at) + (length tasks + 1)
    → Step labels cells weight at (tasks ++ t ∷ []) text next others longer
step_by labels cells weight at tasks t text next others longer bytes rs ready within spelled rule e f less =
    let snoc : reverse (tasks ++ t ∷ []) ≡ t ∷ reverse tasks = reverse_snoc tasks t in
    let us = read_all (drop next cells) in
    record {
      ready = record {
        within = within;
        spelled = spelled;
        due = rw e (rule.dues (ap due (sym snoc) ∙ ready.due));
        fit = rw e (rule.fits (ap (λ (x : List Task). all_fit labels x (read_all (drop at cells))) (sym snoc) ∙ ready.fit));
      };
      same =
          ap (λ (x : List Task). longer ++ written labels x us) e ∙ ap (λ (x : List ℕ). x ++ written labels rs us) f
          ∙ append_assoc text bytes (written labels rs us) ∙ ap (λ (x : List ℕ). text ++ x) (sym rule.same)
          ∙ ap (λ (x : List Task). text ++ written labels x (read_all (drop at cells))) (sym snoc);
      less = omega (arith, length-append tasks (t ∷ []), less);
    }

-- A rule that passes no cell, before a step.
pub prepared : (labels : Labels) (cells : List Cell) (at : ℕ) (tasks : List Task) (t : Task) (others : List Task) (s : Task) (bytes : List ℕ) (rs : List Task)
    → Ready labels cells at (tasks ++ t ∷ []) → Rule labels (read_all (drop at cells)) (t ∷ reverse tasks) bytes (read_all (drop at cells)) (s ∷ rs)
    → reverse others ≡ rs → Ready labels cells at (others ++ s ∷ [])
prepared labels cells at tasks t others s bytes rs ready rule e =
    let snoc : reverse (tasks ++ t ∷ []) ≡ t ∷ reverse tasks = reverse_snoc tasks t in
    let snoc2 : reverse (others ++ s ∷ []) ≡ s ∷ rs = reverse_snoc others s ∙ ap (λ (x : List Task). s ∷ x) e in
    record {
      within = ready.within;
      spelled = ready.spelled;
      due = rw snoc2 (rule.dues (ap due (sym snoc) ∙ ready.due));
      fit = rw snoc2 (rule.fits (ap (λ (x : List Task). all_fit labels x (read_all (drop at cells))) (sym snoc) ∙ ready.fit));
    }

pub composed : (labels : Labels) (cells : List Cell) (at : ℕ) (tasks : List Task) (t : Task) (between_tasks : List Task) (s : Task) (bytes : List ℕ)
    (rs : List Task) (text between : List ℕ) (next : ℕ) (others : List Task) (longer : List ℕ) (light heavy : ℕ)
    → Rule labels (read_all (drop at cells)) (t ∷ reverse tasks) bytes (read_all (drop at cells)) (s ∷ rs) → reverse between_tasks ≡ rs
    → between ≡ text ++ bytes → Step labels cells heavy at (between_tasks ++ s ∷ []) between next others longer
    → length between_tasks + light ≤ length tasks + heavy → Step labels cells light at (tasks ++ t ∷ []) text next others longer
composed labels cells at tasks t between_tasks s bytes rs text between next others longer light heavy rule e f step less =
    let snoc : reverse (tasks ++ t ∷ []) ≡ t ∷ reverse tasks = reverse_snoc tasks t in
    let snoc2 : reverse (between_tasks ++ s ∷ []) ≡ s ∷ rs = reverse_snoc between_tasks s ∙ ap (λ (x : List Task). s ∷ x) e in
    let vs = read_all (drop at cells) in
    record {
      ready = step.ready;
      same =
          step.same ∙ ap (λ (x : List Task). between ++ written labels x vs) snoc2 ∙ ap (λ (x : List ℕ). x ++ written labels (s ∷ rs) vs) f
          ∙ append_assoc text bytes (written labels (s ∷ rs) vs) ∙ ap (λ (x : List ℕ). text ++ x) (sym rule.same)
          ∙ ap (λ (x : List Task). text ++ written labels x vs) (sym snoc);
      less = omega (arith, length-append tasks (t ∷ []), length-append between_tasks (s ∷ []), step.less, less);
    }

-- The rules.

-- a value that is written whole
pub whole_rule : (labels : Labels) (vs us : Values) (ts : List Task) (bytes : List ℕ) → 1 ≤ count vs → us ≡ suffix 1 vs → display labels (first vs) ≡ bytes
    → Rule labels vs (task.Alone ∷ ts) bytes us ts
whole_rule labels value.NoValue us ts bytes some e f = absurd (omega (arith, some))
whole_rule labels (value.MoreValues v vs) us ts bytes some e f = record {
  dues = λ h. rw e (omega (arith, h));
  fits = λ h. rw e h;
  same = rw (e, f) refl;
}

pub some_due : (labels : Labels) (cells : List Cell) (at : ℕ) (tasks : List Task) (t : Task) → Ready labels cells at (tasks ++ t ∷ []) → takes t ≡ 1
    → 1 ≤ count (read_all (drop at cells))
some_due labels cells at tasks t ready one =
    let all : due (t ∷ reverse tasks) ≡ count (read_all (drop at cells)) = ap due (sym (reverse_snoc tasks t)) ∙ ready.due in
    omega (arith, all, one)

pub place : (labels : Labels) (cells : List Cell) (at : ℕ) (tasks : List Task) (t : Task) → Ready labels cells at (tasks ++ t ∷ []) → takes t ≡ 1
    → at < length cells
place labels cells at tasks t ready one = some_cell cells at (some_due labels cells at tasks t ready one)

-- an application: its arguments are left
pub application_rule : (labels : Labels) (k : ConId) (n : ℕ) (us : Values) (ts : List Task) (bytes : List ℕ) → count (prefix n us) ≡ n
    → display labels (value.Constructed k (prefix n us)) ≡ bytes ++ d.arguments labels (prefix n us)
    → Rule labels (put (cell.Con k n) us) (task.Alone ∷ ts) bytes us (task.Arguments n ∷ ts)
application_rule labels k n us ts bytes whole e = record {
  dues = λ h. omega (arith, h, count-prefix-suffix n us, whole);
  fits = λ h. h;
  same = ap (λ (x : List ℕ). x ++ written labels ts (suffix n us)) e ∙ append_assoc bytes (d.arguments labels (prefix n us)) (written labels ts (suffix n us));
}

-- unit
pub unit_rule : (labels : Labels) (k : ConId) (us : Values) (ts : List Task)
    → display labels (value.Constructed k value.NoValue) ≡ codes "(" ++ codes ")"
    → Rule labels (put (cell.Con k 0) us) (task.Alone ∷ ts) (codes "(") us (task.ClosingParenthesis ∷ ts)
unit_rule labels k us ts e = record {
  dues = λ h. omega (arith, h);
  fits = λ h. h;
  same = ap (λ (x : List ℕ). x ++ written labels ts us) e;
}

-- a tuple: its first component, the others and the parenthesis are left
pub tuple_rule : (labels : Labels) (k : ConId) (m : ℕ) (us : Values) (ts : List Task) → count (prefix (suc m) us) ≡ suc m
    → display labels (value.Constructed k (prefix (suc m) us)) ≡ codes "(" ++ (d.components labels (prefix (suc m) us) ++ codes ")")
    → Rule labels (put (cell.Con k (suc m)) us) (task.Alone ∷ ts) (codes "(") us (task.Alone ∷ task.Components m ∷ task.ClosingParenthesis ∷ ts)
tuple_rule labels k m value.NoValue ts whole e = absurd (omega (arith, whole))
tuple_rule labels k m (value.MoreValues v us) ts whole e = record {
  dues = λ h. omega (arith, h, count-prefix-suffix m us, whole);
  fits = λ h. h;
  same =
      ap (λ (x : List ℕ). x ++ written labels ts (suffix m us)) e
      ∙ ap (λ (x : List ℕ). codes "(" ++ x)
      (append_assoc (display labels v ++ d.further_components labels (prefix m us)) (codes ")") (written labels ts (suffix m us))
      ∙ append_assoc (display labels v) (d.further_components labels (prefix m us)) (codes ")" ++ written labels ts (suffix m us)));
}

-- a finite list: its first element, the others and the bracket are left
pub list_rule : (labels : Labels) (v x rest : Value) (us : Values) (ts : List Task) → d.is_list labels rest ≡ true
    → display labels v ≡ codes "[" ++ ((display labels x ++ d.further_elements labels rest) ++ codes "]")
    → Rule labels (value.MoreValues v us) (task.Alone ∷ ts) (codes "[") (value.MoreValues x (value.MoreValues rest us)) (task.Alone ∷ task.Elements ∷ task.ClosingBracket ∷ ts)
list_rule labels v x rest us ts e f = record {
  dues = λ h. omega (arith, h);
  fits = λ h. rw e h;
  same =
      ap (λ (x : List ℕ). x ++ written labels ts us) f
      ∙ ap (λ (x : List ℕ). codes "[" ++ x)
      (append_assoc (display labels x ++ d.further_elements labels rest) (codes "]") (written labels ts us)
      ∙ append_assoc (display labels x) (d.further_elements labels rest) (codes "]" ++ written labels ts us));
}

-- a list that ends in a variable: its first element and the rest are left
pub open_rule : (labels : Labels) (v x rest : Value) (us : Values) (ts : List Task) → d.is_open labels rest ≡ true
    → display labels v ≡ d.in_parentheses (d.takes_parentheses labels x) (display labels x) ++ (codes ":" ++ d.open_rest labels rest)
    → Rule labels (value.MoreValues v us) (task.Alone ∷ ts) [] (value.MoreValues x (value.MoreValues rest us)) (task.Argument ∷ task.OpenRest ∷ ts)
open_rule labels v x rest us ts e f = record {
  dues = λ h. omega (arith, h);
  fits = λ h. rw e h;
  same =
      ap (λ (x : List ℕ). x ++ written labels ts us) f
      ∙ append_assoc (d.in_parentheses (d.takes_parentheses labels x) (display labels x)) (codes ":" ++ d.open_rest labels rest) (written labels ts us);
}

-- the rest of a finite list
pub elements_end_rule : (labels : Labels) (k : ConId) (us : Values) (ts : List Task) → Rule labels (put (cell.Con k 0) us) (task.Elements ∷ ts) [] us ts
elements_end_rule labels k us ts = record {
  dues = λ h. omega (arith, h);
  fits = λ h. right_true (d.is_list labels (value.Constructed k value.NoValue)) (all_fit labels ts us) h;
  same = refl;
}

pub elements_rule : (labels : Labels) (v x rest : Value) (us : Values) (ts : List Task) → d.is_list labels v ≡ true → d.is_list labels rest ≡ true
    → d.further_elements labels v ≡ codes "," ++ (display labels x ++ d.further_elements labels rest)
    → Rule labels (value.MoreValues v us) (task.Elements ∷ ts) (codes ",") (value.MoreValues x (value.MoreValues rest us)) (task.Alone ∷ task.Elements ∷ ts)
elements_rule labels v x rest us ts list e f = record {
  dues = λ h. omega (arith, h);
  fits = λ h. rw e (right_true (d.is_list labels v) (all_fit labels ts us) h);
  same =
      ap (λ (x : List ℕ). x ++ written labels ts us) f
      ∙ ap (λ (x : List ℕ). codes "," ++ x) (append_assoc (display labels x) (d.further_elements labels rest) (written labels ts us));
}

-- the rest of a list that ends in a variable
pub open_end_rule : (labels : Labels) (n : ℕ) (us : Values) (ts : List Task)
    → Rule labels (put (cell.LVar n) us) (task.OpenRest ∷ ts) (codes ":" ++ d.variable_text n) us ts
open_end_rule labels n us ts = record {
  dues = λ h. omega (arith, h);
  fits = λ h. h;
  same = refl;
}

pub open_rest_rule : (labels : Labels) (v x rest : Value) (us : Values) (ts : List Task) → d.is_open labels rest ≡ true
    → d.open_rest labels v ≡ d.in_parentheses (d.takes_parentheses labels x) (display labels x) ++ (codes ":" ++ d.open_rest labels rest)
    → Rule labels (value.MoreValues v us) (task.OpenRest ∷ ts) (codes ":") (value.MoreValues x (value.MoreValues rest us)) (task.Argument ∷ task.OpenRest ∷ ts)
open_rest_rule labels v x rest us ts e f = record {
  dues = λ h. omega (arith, h);
  fits = λ h. rw e (right_true (d.is_open labels v) (all_fit labels ts us) h);
  same =
      ap (λ (x : List ℕ). (codes ":" ++ x) ++ written labels ts us) f
      ∙ ap (λ (x : List ℕ). codes ":" ++ x)
      (append_assoc (d.in_parentheses (d.takes_parentheses labels x) (display labels x)) (codes ":" ++ d.open_rest labels rest) (written labels ts us));
}

-- arguments
pub argument_rule : (labels : Labels) (vs : Values) (ts : List Task) → d.takes_parentheses labels (first vs) ≡ false
    → Rule labels vs (task.Argument ∷ ts) [] vs (task.Alone ∷ ts)
argument_rule labels vs ts e = record {
  dues = λ h. h;
  fits = λ h. h;
  same = ap (λ b. d.in_parentheses b (display labels (first vs)) ++ written labels ts (suffix 1 vs)) e;
}

pub enclosed_rule : (labels : Labels) (vs : Values) (ts : List Task) → d.takes_parentheses labels (first vs) ≡ true
    → Rule labels vs (task.Argument ∷ ts) (codes "(") vs (task.Alone ∷ task.ClosingParenthesis ∷ ts)
enclosed_rule labels vs ts e = record {
  dues = λ h. omega (arith, h);
  fits = λ h. h;
  same =
      ap (λ b. d.in_parentheses b (display labels (first vs)) ++ written labels ts (suffix 1 vs)) e
      ∙ ap (λ (x : List ℕ). codes "(" ++ x) (append_assoc (display labels (first vs)) (codes ")") (written labels ts (suffix 1 vs)));
}

pub no_arguments_rule : (labels : Labels) (vs : Values) (ts : List Task) → Rule labels vs (task.Arguments 0 ∷ ts) [] vs ts
no_arguments_rule labels vs ts = record { dues = λ h. omega (arith, h); fits = λ h. h; same = refl }

pub arguments_rule : (labels : Labels) (m : ℕ) (vs : Values) (ts : List Task) → 1 ≤ count vs
    → Rule labels vs (task.Arguments (suc m) ∷ ts) (codes " ") vs (task.Argument ∷ task.Arguments m ∷ ts)
arguments_rule labels m value.NoValue ts some = absurd (omega (arith, some))
arguments_rule labels m (value.MoreValues v vs) ts some = record {
  dues = λ h. omega (arith, h);
  fits = λ h. h;
  same = ap (λ (x : List ℕ). codes " " ++ x)
      (append_assoc (d.in_parentheses (d.takes_parentheses labels v) (display labels v)) (d.arguments labels (prefix m vs)) (written labels ts (suffix m vs)));
}

pub no_components_rule : (labels : Labels) (vs : Values) (ts : List Task) → Rule labels vs (task.Components 0 ∷ ts) [] vs ts
no_components_rule labels vs ts = record { dues = λ h. omega (arith, h); fits = λ h. h; same = refl }

pub components_rule : (labels : Labels) (m : ℕ) (vs : Values) (ts : List Task) → 1 ≤ count vs
    → Rule labels vs (task.Components (suc m) ∷ ts) (codes ",") vs (task.Alone ∷ task.Components m ∷ ts)
components_rule labels m value.NoValue ts some = absurd (omega (arith, some))
components_rule labels m (value.MoreValues v vs) ts some = record {
  dues = λ h. omega (arith, h);
  fits = λ h. h;
  same = ap (λ (x : List ℕ). codes "," ++ x) (append_assoc (display labels v) (d.further_components labels (prefix m vs)) (written labels ts (suffix m vs)));
}

pub parenthesis_rule : (labels : Labels) (vs : Values) (ts : List Task) → Rule labels vs (task.ClosingParenthesis ∷ ts) (codes ")") vs ts
parenthesis_rule labels vs ts = record { dues = λ h. omega (arith, h); fits = λ h. h; same = refl }

pub bracket_rule : (labels : Labels) (vs : Values) (ts : List Task) → Rule labels vs (task.ClosingBracket ∷ ts) (codes "]") vs ts
bracket_rule labels vs ts = record { dues = λ h. omega (arith, h); fits = λ h. h; same = refl }

-- Steps that write a value whole.

pub whole_step : (labels : Labels) (cells : List Cell) (at : ℕ) (tasks : List Task) (text : List ℕ) (next : ℕ) (longer bytes : List ℕ)
    → Ready labels cells at (tasks ++ task.Alone ∷ []) → at < next → next ≤ length cells → IsSpelled (drop next cells)
    → read_all (drop next cells) ≡ suffix 1 (read_all (drop at cells)) → display labels (first (read_all (drop at cells))) ≡ bytes → longer ≡ text ++ bytes
    → Step labels cells 6 at (tasks ++ task.Alone ∷ []) text next tasks longer
whole_step labels cells at tasks text next longer bytes ready after within spelled others shown e =
    step_by labels cells 6 at tasks task.Alone text next tasks longer bytes (reverse tasks) ready within spelled
    (whole_rule labels (read_all (drop at cells)) (read_all (drop next cells)) (reverse tasks) bytes (some_due labels cells at tasks task.Alone ready refl) others shown)
    refl e (omega (arith, after, within))

pub leaf_step : (labels : Labels) (cells : List Cell) (at : ℕ) (tasks : List Task) (text longer bytes : List ℕ) (c : Cell) (v : Value)
    → Ready labels cells at (tasks ++ task.Alone ∷ []) → get_or cells at cell.Bottom ≡ c → ((us : Values) → put c us ≡ value.MoreValues v us)
    → display labels v ≡ bytes → longer ≡ text ++ bytes
    → Step labels cells 6 at (tasks ++ task.Alone ∷ []) text (at + 1) tasks longer
leaf_step labels cells at tasks text longer bytes c v ready is leaf shown e =
    let p : Here cells at c = here cells at c (place labels cells at tasks task.Alone ready refl) is ready.spelled in
    let us = read_all (drop (at + 1) cells) in
    let read : read_all (drop at cells) ≡ value.MoreValues v us = p.read ∙ leaf us in
    whole_step labels cells at tasks text (at + 1) longer bytes ready (omega arith) (omega (arith, p.within)) p.after.others
    (ap (λ (x : Values). suffix 1 x) (sym read)) (ap (λ (x : Values). display labels (first x)) read ∙ shown) e

-- a step that passes a head and leaves tasks
pub head_step : (labels : Labels) (cells : List Cell) (weight at : ℕ) (tasks : List Task) (t : Task) (text : List ℕ) (others : List Task) (longer bytes : List ℕ)
    (c : Cell) (rs : List Task) → Ready labels cells at (tasks ++ t ∷ []) → Here cells at c
    → Rule labels (put c (read_all (drop (at + 1) cells))) (t ∷ reverse tasks) bytes (read_all (drop (at + 1) cells)) rs → reverse others ≡ rs
    → longer ≡ text ++ bytes → length others + weight ≤ length tasks + 9
    → Step labels cells weight at (tasks ++ t ∷ []) text (at + 1) others longer
head_step labels cells weight at tasks t text others longer bytes c rs ready p rule e f less =
    step_by labels cells weight at tasks t text (at + 1) others longer bytes rs ready (omega (arith, p.within)) p.after.others
    (subst (λ (x : Values). Rule labels x (t ∷ reverse tasks) bytes (read_all (drop (at + 1) cells)) rs) (sym p.read) rule) e f
    (omega (arith, p.within, less))

pub reverse_two : (ts : List Task) (a b : Task) → reverse ((ts ++ a ∷ []) ++ b ∷ []) ≡ b ∷ a ∷ reverse ts
reverse_two ts a b = reverse_snoc (ts ++ a ∷ []) b ∙ ap (λ (x : List Task). b ∷ x) (reverse_snoc ts a)

pub reverse_three : (ts : List Task) (a b c : Task) → reverse (((ts ++ a ∷ []) ++ b ∷ []) ++ c ∷ []) ≡ c ∷ b ∷ a ∷ reverse ts
reverse_three ts a b c = reverse_snoc ((ts ++ a ∷ []) ++ b ∷ []) c ∙ ap (λ (x : List Task). c ∷ x) (reverse_two ts a b)

pub length_snoc : (ts : List Task) (t : Task) → length (ts ++ t ∷ []) ≡ length ts + 1
length_snoc ts t = length-append ts (t ∷ [])
