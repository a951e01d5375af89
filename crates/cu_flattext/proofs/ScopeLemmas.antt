-- Scopes of types, and what they come to.
use Rattle.std.proofs.Common.{◌≡◌, ℕ, zero, suc, ◌+◌, ◌-◌, ◌<◌, ◌≤◌, List, [], ◌∷◌, ◌++◌, Option, None, Some, get_or, length, map, reverse, take, refl, sym, ap, ◌∙◌, arith, append_assoc, length-append}
use Rattle.std.proofs.lemmas.List.{append-nil, reverse-append}
use Rattle.std.proofs.lemmas.Option.{get_or_from_slice_get, slice_get-get_or, slice_get_past}
use Rattle.std.specs.List.{slice_get}
use denote.Ref.{Bor}
use Rattle.std.specs.Fmt.{decimal}
use Rattle.std.specs.Prelude.{Bool, true, false, if◌then◌else◌}
use Rattle.cu_kernel.specs.Kernel.{Synonym}
use Rattle.cu_kernel.specs.TypeExpr as type
use Rattle.cu_kernel.specs.TypeExpr.{TypeExpr}
use Rattle.cu_kernel.specs.TypesOf.{type_of, types_of}
use Rattle.cu_kernel.specs.declared.type_term.SynonymId.{SynonymId}
use Rattle.cu_kernel.specs.declared.type_term.TypeName.{TypeName}
use Rattle.cu_kernel.specs.declared.type_term.TypeName.TheVariants as named
use Rattle.cu_kernel.specs.declared.type_term.TypeTerm.{TypeTerm}
use Rattle.cu_flattext.specs.Inside.Stands.{lowered_of}
use Rattle.cu_flattext.specs.Inside.TypeTasks.{Enters, Setting, arguments_in, body_at, body_where, expanded_body, expanded_body_of, named_text, texts_at, types_left, nowhere, setting_at, setting_of, settings_from, settings_of, text_in, texts_in, type_parts}
use Rattle.cu_flattext.specs.Naming.{Lowered, separated}
use Rattle.cu_flattext.specs.TypeTexts.{Synonyms, as_written, body_text, expanded_within, is_expanded, numbers_from, type_text, type_texts, type_variable_text}
use Rattle.cu_flattext.specs.declared.type_task.Scope.{Scope}
use Rattle.cu_flattext.specs.declared.type_task.TypeTask.{TypeTask}
use Rattle.cu_flattext.specs.declared.type_task.TypeTask.TheVariants as task
use Rattle.cu_flattext.specs.declared.type_task.Variables.TheVariants as variables
use Rattle.cu_flattext.specs.declared.types.Expansion.{Expansion}
use Rattle.cu_flattext.specs.declared.types.Types.{Types}
use Rattle.cu_flattext.specs.declared.wording.Wording.{Wording}

-- ---- lists

middle : {A : Type 0} → (xs : List A) (x : A) (ys : List A) → slice_get (xs ++ x ∷ ys) (length xs) ≡ Some x
middle [] x ys = refl
middle (z ∷ xs) x ys = middle xs x ys

prefix : {A : Type 0} → (xs ys : List A) → take (length xs) (xs ++ ys) ≡ xs
prefix [] ys = refl
prefix (x ∷ xs) ys = ap (λ zs. x ∷ zs) (prefix xs ys)

all_but_last : {A : Type 0} → (xs : List A) (x : A) → take (length (xs ++ x ∷ []) - 1) (xs ++ x ∷ []) ≡ xs
all_but_last xs x =
    let count = length-append xs (x ∷ []) in
    let e : length (xs ++ x ∷ []) - 1 ≡ length xs = omega arith in
    ap (λ n. take n (xs ++ x ∷ [])) e ∙ prefix xs (x ∷ [])

pub taken_none : {A : Type 0} → (xs : List A) (n i : ℕ) → n ≤ i → slice_get (take n xs) i ≡ None
taken_none [] zero i le = refl
taken_none [] (suc n) i le = refl
taken_none (x ∷ xs) zero i le = refl
taken_none (x ∷ xs) (suc n) zero le = absurd (omega arith)
taken_none (x ∷ xs) (suc n) (suc i) le = taken_none xs n i (omega arith)

pub taken_some : {A : Type 0} → (xs : List A) (n i : ℕ) → i < n → slice_get (take n xs) i ≡ slice_get xs i
taken_some [] zero i less = refl
taken_some [] (suc n) i less = refl
taken_some (x ∷ xs) zero i less = absurd (omega arith)
taken_some (x ∷ xs) (suc n) zero less = refl
taken_some (x ∷ xs) (suc n) (suc i) less = taken_some xs n i (omega arith)

record Parted {A : Type 0} (xs : List A) (i : ℕ) (x : A) : Type 0 where
  before : List A
  after : List A
  whole : xs ≡ before ++ x ∷ after
  count : length before ≡ i

parted : {A : Type 0} → (xs : List A) (i : ℕ) (x : A) → slice_get xs i ≡ Some x → Parted xs i x
parted [] i x is = let no : ⊥ = cc in absurd no
parted (y ∷ ys) zero x is = record { before = []; after = ys; whole = (let e : y ≡ x = cc in ap (λ z. z ∷ ys) e); count = refl }
parted (y ∷ ys) (suc i) x is =
    let w = parted ys i x is in
    record { before = y ∷ w.before; after = w.after; whole = ap (λ zs. y ∷ zs) w.whole; count = (let e = w.count in omega arith) }

-- ---- what scopes come to

-- what came first stays
record Kept (program : Lowered) (settings : List Setting) (ss : List Scope) : Type 0 where
  more : List Setting
  whole : settings_from program settings ss ≡ settings ++ more
  count : length more ≡ length ss

kept : (program : Lowered) (settings : List Setting) (ss : List Scope) → Kept program settings ss
kept program settings [] = record { more = []; whole = sym (append-nil settings); count = refl }
kept program settings (s ∷ ss) =
    let x = setting_of program settings s in
    let w = kept program (settings ++ x ∷ []) ss in
    record {
      more = x ∷ w.more;
      whole = w.whole ∙ append_assoc settings (x ∷ []) w.more;
      count = (let e = w.count in omega arith);
    }

joined : (program : Lowered) (settings : List Setting) (xs ys : List Scope)
    → settings_from program settings (xs ++ ys) ≡ settings_from program (settings_from program settings xs) ys
joined program settings [] ys = refl
joined program settings (x ∷ xs) ys = joined program (settings ++ setting_of program settings x ∷ []) xs ys

pub setting_count : (program : Lowered) (ss : List Scope) → length (settings_of program ss) ≡ length ss
setting_count program ss = let w = kept program [] ss in ap length w.whole ∙ w.count

-- one more scope
pushed : (program : Lowered) (ss : List Scope) (s : Scope)
    → settings_of program (ss ++ s ∷ []) ≡ settings_of program ss ++ setting_of program (settings_of program ss) s ∷ []
pushed program ss s = joined program [] ss (s ∷ [])

found_at : (program : Lowered) (settings before more : List Setting) (s : Scope) (i : ℕ)
    → settings ≡ before ++ setting_of program before s ∷ more → length before ≡ i
    → slice_get settings i ≡ Some (setting_of program (take i settings) s)
found_at program settings before more s i is count =
    let x = setting_of program before s in
    let same : before ≡ take i settings =
    sym (prefix before (x ∷ more)) ∙ ap (λ n. take n (before ++ x ∷ more)) count ∙ ap (take i) (sym is) in
    ap (λ (xs : List Setting). slice_get xs i) is
    ∙ ap (λ n. slice_get (before ++ x ∷ more) n) (sym count)
    ∙ middle before x more
    ∙ ap (λ (xs : List Setting). Some (setting_of program xs s)) same

-- the scope at a place comes to what it is after those before it
pub setting_found : (program : Lowered) (ss : List Scope) (i : ℕ) (s : Scope) → slice_get ss i ≡ Some s
    → slice_get (settings_of program ss) i ≡ Some (setting_of program (take i (settings_of program ss)) s)
setting_found program ss i s is =
    let w = parted ss i s is in
    let before = settings_of program w.before in
    let x = setting_of program before s in
    let m = kept program (before ++ x ∷ []) w.after in
    found_at program (settings_of program ss) before m.more s i
    (ap (settings_of program) w.whole ∙ joined program [] w.before (s ∷ w.after) ∙ m.whole ∙ append_assoc before (x ∷ []) m.more)
    (setting_count program w.before ∙ w.count)

pub setting_is : (program : Lowered) (ss : List Scope) (i : ℕ) (s : Scope) → slice_get ss i ≡ Some s
    → setting_at (settings_of program ss) i ≡ setting_of program (take i (settings_of program ss)) s
setting_is program ss i s is =
    get_or_from_slice_get (settings_of program ss) i (setting_of program (take i (settings_of program ss)) s) nowhere (setting_found program ss i s is)

pub past : {A : Type 0} → (xs : List A) (i : ℕ) (d : A) → slice_get xs i ≡ None → get_or xs i d ≡ d
past [] i d is = refl
past (x ∷ xs) zero d is = let no : ⊥ = cc in absurd no
past (x ∷ xs) (suc i) d is = past xs i d is

pub none_past : {A : Type 0} → (xs : List A) (i : ℕ) → slice_get xs i ≡ None → length xs ≤ i
none_past [] i is = omega arith
none_past (x ∷ xs) zero is = let no : ⊥ = cc in absurd no
none_past (x ∷ xs) (suc i) is = let le = none_past xs i is in omega arith

pub no_setting : (program : Lowered) (ss : List Scope) (i : ℕ) → slice_get ss i ≡ None → setting_at (settings_of program ss) i ≡ nowhere
no_setting program ss i is =
    let le = none_past ss i is in
    let count = setting_count program ss in
    past (settings_of program ss) i nowhere (slice_get_past (settings_of program ss) i (omega arith))

-- the scope at a place that there is
pub setting_there : (program : Lowered) (ss : List Scope) (i : ℕ) → i < length ss
    → slice_get (settings_of program ss) i ≡ Some (setting_at (settings_of program ss) i)
setting_there program ss i less =
    let count = setting_count program ss in
    slice_get-get_or (settings_of program ss) i nowhere (omega arith)

-- ---- entering

pub entered : (program : Lowered) (scope : Scope) (old new : Types) (place : ℕ) → place ≡ length old.scopes.items → new.scopes.items ≡ old.scopes.items ++ scope ∷ []
    → new.tasks.items ≡ old.tasks.items ++ task.Leave ∷ [] → Enters program scope old new place
entered program scope old new place count scopes tasks =
    let ss = old.scopes.items in
    let ts = old.tasks.items in
    record {
      tasks = ap (λ (us : List TypeTask). type_parts program new.scopes.items (reverse us)) tasks
          ∙ ap (λ (us : List TypeTask). type_parts program new.scopes.items us) (reverse-append ts (task.Leave ∷ []))
          ∙ ap (λ (xs : List Scope). type_parts program (take (length xs - 1) xs) (reverse ts)) scopes
          ∙ ap (λ (xs : List Scope). type_parts program xs (reverse ts)) (all_but_last ss scope);
      setting = ap (λ n. setting_at (settings_of program new.scopes.items) n) count
          ∙ ap (λ (xs : List Setting). setting_at xs (length ss)) (ap (settings_of program) scopes ∙ pushed program ss scope)
          ∙ ap (λ n. setting_at (settings_of program ss ++ setting_of program (settings_of program ss) scope ∷ []) n) (sym (setting_count program ss))
          ∙ get_or_from_slice_get (settings_of program ss ++ setting_of program (settings_of program ss) scope ∷ []) (length (settings_of program ss))
          (setting_of program (settings_of program ss) scope) nowhere
          (middle (settings_of program ss) (setting_of program (settings_of program ss) scope) []);
    }

-- ---- texts in scopes

pub text_count : (program : Lowered) (setting : Setting) (ts : List TypeTerm) → length (texts_in program setting ts) ≡ length ts
text_count program setting [] = refl
text_count program setting (t ∷ ts) = let e = text_count program setting ts in omega arith

listed : (program : Lowered) (setting : Setting) (ts : List TypeTerm)
    → type_texts program (expanded_within setting.depth program) setting.variables (types_of ts) ≡ texts_in program setting ts
listed program setting [] = refl
listed program setting (t ∷ ts) = ap (λ (xs : List (List ℕ)). text_in program setting (type_of t) ∷ xs) (listed program setting ts)

-- a named type's text is that of the name on the arguments' texts
pub name_read : (program : Lowered) (setting : Setting) (name : TypeName) (ts : List TypeTerm)
    → text_in program setting (type.Named name (types_of ts)) ≡ named_text program setting name (texts_in program setting ts)
name_read program setting (named.Data t) ts = ap (named_text program setting (named.Data t)) (listed program setting ts)
name_read program setting (named.Synonym s) ts = ap (named_text program setting (named.Synonym s)) (listed program setting ts)

text_of_argument : (program : Lowered) (setting : Setting) (ts : List TypeTerm) (x : ℕ) (t : TypeTerm) → slice_get ts x ≡ Some t
    → get_or (texts_in program setting ts) x [] ≡ text_in program setting (type_of t)
text_of_argument program setting [] x t is = let no : ⊥ = cc in absurd no
text_of_argument program setting (u ∷ us) zero t is = let e : u ≡ t = cc in ap (λ (v : TypeTerm). text_in program setting (type_of v)) e
text_of_argument program setting (u ∷ us) (suc x) t is = text_of_argument program setting us x t is

no_argument : (program : Lowered) (setting : Setting) (ts : List TypeTerm) (x : ℕ) → slice_get ts x ≡ None
    → get_or (texts_in program setting ts) x [] ≡ []
no_argument program setting [] x is = refl
no_argument program setting (u ∷ us) zero is = let no : ⊥ = cc in absurd no
no_argument program setting (u ∷ us) (suc x) is = no_argument program setting us x is

-- an argument in a scope before the one that has it
pub argument_read : (program : Lowered) (ss : List Scope) (ts : List TypeTerm) (outer place x : ℕ) (t : TypeTerm) → outer < place
    → place < length ss → slice_get ts x ≡ Some t
    → get_or (arguments_in program ts (slice_get (take place (settings_of program ss)) outer)) x []
    ≡ text_in program (setting_at (settings_of program ss) outer) (type_of t)
argument_read program ss ts outer place x t before there is =
    let settings = settings_of program ss in
    let found : slice_get (take place settings) outer ≡ Some (setting_at settings outer) =
    taken_some settings place outer before ∙ setting_there program ss outer (omega arith) in
    ap (λ (s : Option Setting). get_or (arguments_in program ts s) x []) found
    ∙ text_of_argument program (setting_at settings outer) ts x t is

-- the text of an argument whose scope isn't there
pub no_scope_before : (program : Lowered) (settings : List Setting) (ts : List TypeTerm) (outer place x : ℕ) → place ≤ outer
    → get_or (arguments_in program ts (slice_get (take place settings) outer)) x [] ≡ []
no_scope_before program settings ts outer place x le =
    ap (λ (s : Option Setting). get_or (arguments_in program ts s) x []) (taken_none settings place outer le)

absent : (program : Lowered) (ts : List TypeTerm) (x : ℕ) (s : Option Setting) → slice_get ts x ≡ None
    → get_or (arguments_in program ts s) x [] ≡ []
absent program ts x None is = refl
absent program ts x (Some s) is = no_argument program s ts x is

pub no_such_argument : (program : Lowered) (settings : List Setting) (ts : List TypeTerm) (outer place x : ℕ) → slice_get ts x ≡ None
    → get_or (arguments_in program ts (slice_get (take place settings) outer)) x [] ≡ []
no_such_argument program settings ts outer place x is = absent program ts x (slice_get (take place settings) outer) is

-- ---- tasks

-- a type in a scope, before the tasks that there were
pub type_pushed : (program : Lowered) (ss : List Scope) (old new : List TypeTask) (t : Bor TypeTerm) (i : ℕ) → new ≡ old ++ task.Type t i ∷ []
    → type_parts program ss (reverse new)
    ≡ text_in program (setting_at (settings_of program ss) i) (type_of t.now) ++ type_parts program ss (reverse old)
type_pushed program ss old new t i is =
    ap (λ (us : List TypeTask). type_parts program ss (reverse us)) is
    ∙ ap (λ (us : List TypeTask). type_parts program ss us) (reverse-append old (task.Type t i ∷ []))

-- a type in a scope that was entered
pub type_entered : (program : Lowered) (scope : Scope) (old new : Types) (place : ℕ) (tasks : List TypeTask) (t : Bor TypeTerm)
    → Enters program scope old new place → tasks ≡ new.tasks.items ++ task.Type t place ∷ []
    → type_parts program new.scopes.items (reverse tasks)
    ≡ text_in program (setting_of program (settings_of program old.scopes.items) scope) (type_of t.now)
    ++ type_parts program old.scopes.items (reverse old.tasks.items)
type_entered program scope old new place tasks t into is =
    type_pushed program new.scopes.items new.tasks.items tasks t place is
    ∙ ap (λ (s : Setting). text_in program s (type_of t.now) ++ type_parts program new.scopes.items (reverse new.tasks.items)) into.setting
    ∙ ap (λ (rest : List ℕ). text_in program (setting_of program (settings_of program old.scopes.items) scope) (type_of t.now) ++ rest) into.tasks

-- what a synonym stands for, in a scope that was entered for it
pub body_entered : (w : Wording) (old new : Types) (place inner : ℕ) (e : Expansion) (ts : Bor (List TypeTerm)) (tasks : List TypeTask)
    → place < length old.scopes.items → w ≡ old.wording
    → Enters (lowered_of old.wording) (record { variables = variables.Arguments ts place; depth = e.depth }) old new inner
    → tasks ≡ new.tasks.items ++ task.Type e.body inner ∷ []
    → type_parts (lowered_of w) new.scopes.items (reverse tasks) ≡ body_at old e (texts_at old place ts.now) ++ types_left old
body_entered w old new place inner e ts tasks there same into is =
    let program = lowered_of old.wording in
    ap (λ (v : Wording). type_parts (lowered_of v) new.scopes.items (reverse tasks)) same
    ∙ type_entered program (record { variables = variables.Arguments ts place; depth = e.depth }) old new inner tasks e.body into is
    ∙ ap (λ (s : Option Setting). type_text program (expanded_within e.depth program) (arguments_in program ts.now s) (type_of e.body.now) ++ types_left old)
    (setting_there program old.scopes.items place there)

-- a type of a declaration
pub declared_left : (v u w : Wording) (scope : Scope) (nothing new : Types) (place : ℕ) (tasks : List TypeTask) (t : Bor TypeTerm)
    → nothing.tasks.items ≡ [] → nothing.scopes.items ≡ [] → v ≡ u → u ≡ w → Enters (lowered_of u) scope nothing new place
    → tasks ≡ new.tasks.items ++ task.Type t place ∷ []
    → type_parts (lowered_of v) new.scopes.items (reverse tasks) ≡ text_in (lowered_of w) (setting_of (lowered_of w) [] scope) (type_of t.now)
declared_left v u w scope nothing new place tasks t no_task no_scope same other into is =
    ap (λ (x : Wording). type_parts (lowered_of x) new.scopes.items (reverse tasks)) same
    ∙ type_entered (lowered_of u) scope nothing new place tasks t into is
    ∙ ap (λ (ss : List Scope). text_in (lowered_of u) (setting_of (lowered_of u) (settings_of (lowered_of u) ss) scope) (type_of t.now)
    ++ type_parts (lowered_of u) ss (reverse nothing.tasks.items)) no_scope
    ∙ ap (λ (us : List TypeTask). text_in (lowered_of u) (setting_of (lowered_of u) [] scope) (type_of t.now) ++ type_parts (lowered_of u) [] (reverse us)) no_task
    ∙ append-nil (text_in (lowered_of u) (setting_of (lowered_of u) [] scope) (type_of t.now))
    ∙ ap (λ (x : Wording). text_in (lowered_of x) (setting_of (lowered_of x) [] scope) (type_of t.now)) other

types_entered : (program : Lowered) (scope : Scope) (old new : Types) (place : ℕ) (tasks : List TypeTask) (ts : Bor (List TypeTerm))
    → Enters program scope old new place → tasks ≡ new.tasks.items ++ task.Types ts place ∷ []
    → type_parts program new.scopes.items (reverse tasks)
    ≡ separated (texts_in program (setting_of program (settings_of program old.scopes.items) scope) ts.now)
    ++ type_parts program old.scopes.items (reverse old.tasks.items)
types_entered program scope old new place tasks ts into is =
    ap (λ (us : List TypeTask). type_parts program new.scopes.items (reverse us)) is
    ∙ ap (λ (us : List TypeTask). type_parts program new.scopes.items us) (reverse-append new.tasks.items (task.Types ts place ∷ []))
    ∙ ap (λ (s : Setting). separated (texts_in program s ts.now) ++ type_parts program new.scopes.items (reverse new.tasks.items)) into.setting
    ∙ ap (λ (rest : List ℕ). separated (texts_in program (setting_of program (settings_of program old.scopes.items) scope) ts.now) ++ rest) into.tasks

-- types of a declaration
pub all_declared_left : (v u w : Wording) (scope : Scope) (nothing new : Types) (place : ℕ) (tasks : List TypeTask) (ts : Bor (List TypeTerm))
    → nothing.tasks.items ≡ [] → nothing.scopes.items ≡ [] → v ≡ u → u ≡ w → Enters (lowered_of u) scope nothing new place
    → tasks ≡ new.tasks.items ++ task.Types ts place ∷ []
    → type_parts (lowered_of v) new.scopes.items (reverse tasks)
    ≡ separated (texts_in (lowered_of w) (setting_of (lowered_of w) [] scope) ts.now)
all_declared_left v u w scope nothing new place tasks ts no_task no_scope same other into is =
    ap (λ (x : Wording). type_parts (lowered_of x) new.scopes.items (reverse tasks)) same
    ∙ types_entered (lowered_of u) scope nothing new place tasks ts into is
    ∙ ap (λ (ss : List Scope). separated (texts_in (lowered_of u) (setting_of (lowered_of u) (settings_of (lowered_of u) ss) scope) ts.now)
    ++ type_parts (lowered_of u) ss (reverse nothing.tasks.items)) no_scope
    ∙ ap (λ (us : List TypeTask). separated (texts_in (lowered_of u) (setting_of (lowered_of u) [] scope) ts.now) ++ type_parts (lowered_of u) [] (reverse us)) no_task
    ∙ append-nil (separated (texts_in (lowered_of u) (setting_of (lowered_of u) [] scope) ts.now))
    ∙ ap (λ (x : Wording). separated (texts_in (lowered_of x) (setting_of (lowered_of x) [] scope) ts.now)) other

-- ---- synonyms

expanded_of : (program : Lowered) (inner : Synonyms) (s : SynonymId) (arguments : List (List ℕ)) (count : ℕ) (t : TypeExpr) (y : Synonym) (b : Bool)
    → is_expanded program.kernel.synonyms s count (Some y) ≡ b → Some t ≡ body_where b y
    → (if b then body_text program inner arguments (Some y) else as_written program s arguments) ≡ type_text program inner arguments t
expanded_of program inner s arguments count t y true is found =
    let e : y.body ≡ t = cc in ap (type_text program inner arguments) e
expanded_of program inner s arguments count t y false is found = let no : ⊥ = cc in absurd no

not_expanded_of : (program : Lowered) (inner : Synonyms) (s : SynonymId) (arguments : List (List ℕ)) (y : Synonym) (b : Bool)
    → None ≡ body_where b y → (if b then body_text program inner arguments (Some y) else as_written program s arguments) ≡ as_written program s arguments
not_expanded_of program inner s arguments y true found = let no : ⊥ = cc in absurd no
not_expanded_of program inner s arguments y false found = refl

expanded_at : (program : Lowered) (inner : Synonyms) (s : SynonymId) (arguments : List (List ℕ)) (t : TypeExpr) (found : Option Synonym)
    → Some t ≡ expanded_body_of program.kernel.synonyms s (length arguments) found
    → (if is_expanded program.kernel.synonyms s (length arguments) found then body_text program inner arguments found else as_written program s arguments)
    ≡ type_text program inner arguments t
expanded_at program inner s arguments t None is = let no : ⊥ = cc in absurd no
expanded_at program inner s arguments t (Some y) is =
    expanded_of program inner s arguments (length arguments) t y (is_expanded program.kernel.synonyms s (length arguments) (Some y)) refl is

not_expanded_at : (program : Lowered) (inner : Synonyms) (s : SynonymId) (arguments : List (List ℕ)) (found : Option Synonym)
    → None ≡ expanded_body_of program.kernel.synonyms s (length arguments) found
    → (if is_expanded program.kernel.synonyms s (length arguments) found then body_text program inner arguments found else as_written program s arguments)
    ≡ as_written program s arguments
not_expanded_at program inner s arguments None is = refl
not_expanded_at program inner s arguments (Some y) is =
    not_expanded_of program inner s arguments y (is_expanded program.kernel.synonyms s (length arguments) (Some y)) is

-- a synonym that is expanded
pub expanded_in_full : (program : Lowered) (depth : ℕ) (s : SynonymId) (arguments : List (List ℕ)) (count : ℕ) (t : TypeExpr) → (depth ≡ 0 → ⊥)
    → length arguments ≡ count → Some t ≡ expanded_body program.kernel.synonyms s count
    → expanded_within depth program s arguments ≡ type_text program (expanded_within (depth - 1) program) arguments t
expanded_in_full program zero s arguments count t some long is = absurd (some refl)
expanded_in_full program (suc d) s arguments count t some long is =
    let down : suc d - 1 ≡ d = omega arith in
    rw down (expanded_at program (expanded_within d program) s arguments t (slice_get program.kernel.synonyms s.0)
    (is ∙ ap (λ n. expanded_body program.kernel.synonyms s n) (sym long)))

-- a synonym that isn't
pub not_expanded : (program : Lowered) (depth : ℕ) (s : SynonymId) (arguments : List (List ℕ)) (count : ℕ)
    → length arguments ≡ count → None ≡ expanded_body program.kernel.synonyms s count
    → expanded_within depth program s arguments ≡ as_written program s arguments
not_expanded program zero s arguments count long is = refl
not_expanded program (suc d) s arguments count long is =
    not_expanded_at program (expanded_within d program) s arguments (slice_get program.kernel.synonyms s.0)
    (is ∙ ap (λ n. expanded_body program.kernel.synonyms s n) (sym long))

-- ---- parameters

pub parameter_there : (n count x : ℕ) → x < count → get_or (map type_variable_text (numbers_from n count)) x [] ≡ type_variable_text (decimal (n + x))
parameter_there n zero x less = absurd (omega arith)
parameter_there n (suc count) zero less = ap (λ k. type_variable_text (decimal k)) (let e : n ≡ n + 0 = omega arith in e)
parameter_there n (suc count) (suc x) less =
    parameter_there (n + 1) count x (omega arith) ∙ ap (λ k. type_variable_text (decimal k)) (let e : n + 1 + x ≡ n + suc x = omega arith in e)

pub parameter_absent : (n count x : ℕ) → count ≤ x → get_or (map type_variable_text (numbers_from n count)) x [] ≡ []
parameter_absent n zero x le = refl
parameter_absent n (suc count) zero le = absurd (omega arith)
parameter_absent n (suc count) (suc x) le = parameter_absent (n + 1) count x (omega arith)
