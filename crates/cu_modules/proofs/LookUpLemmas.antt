-- Which text is looked at, and why there is none.
use Rattle.std.proofs.Common.{◌≡◌, ◌∙◌, ◌≢◌, ◌<◌, ◌≤◌, ◌+◌, ℕ, Bool, true, false, List, Some, None, Option, Ok, Err, Result, refl, sym, ap, subst, arith, length, take, if◌then◌else◌, inl, inr}
use Rattle.std.proofs.lemmas.Bool.{lt-ltb, ltb-false, ltb-true}
use Rattle.std.proofs.lemmas.List.{length-take-le, take_all}
use Rattle.std.specs.Prelude.{IfErr, IfOk, IfSome, OnOk, is_some, nat_lt, slice_get}
use Rattle.std.specs.declared.alloc.Global.{Global}
use Rattle.std.specs.declared.vec.Vec.{Vec}
use Rattle.cu_io.specs.declared.library.Fetched.{Fetched}
use Rattle.cu_io.specs.declared.library.Fetched.TheVariants as fetched
use Rattle.cu_io.specs.Fetches as io
use Rattle.cu_io.specs.Holdings.{Holdings}
use Rattle.cu_lex.specs.Tokens as tokens
use Rattle.cu_lex.specs.Tokens.{Lexeme}
use Rattle.cu_names.proofs.Growth.{text_of-at, text_of-extends}
use Rattle.cu_names.specs.declared.names.NameId.{NameId}
use Rattle.cu_names.specs.Texts.{Extends, IsKnown, text_of}
use Rattle.cu_prelude.specs.BuiltIn.{built_in}
use Rattle.cu_syntax.specs.Answer.{module_meaning}
use Rattle.cu_syntax.specs.declared.text.Module.{Module}
use Rattle.cu_syntax.specs.Syntax as syntax
use Rattle.cu_modules.specs.declared.fault.OrderFault.{OrderFault}
use Rattle.cu_modules.specs.declared.fault.OrderFault.TheVariants as answer
use Rattle.cu_modules.specs.Ordering.{IsOwn, Tells}
use Rattle.cu_modules.specs.Inside.Progress.{IsFound, IsFree, IsLacking, fetched_with, missing, too_many, unread}
use Rattle.cu_modules.specs.Reading.{IsFaultOf}
use Rattle.cu_modules.specs.Texts as texts
use Rattle.cu_modules.specs.Texts.{HasLayout, IsRead, TextFault}
use Rattle.cu_modules.specs.Walk.{MissingModule, Refusal, TooManyModules, is_built_in, most_modules, source}

-- ---- facts on parts of answers

pub tells_map : (names : List (List ℕ)) (P Q : Refusal → Type 0) → ((r : Refusal) → P r → Q r) → (fault : OrderFault) → Tells names P fault → Tells names Q fault
tells_map names P Q go (answer.MissingModule id) told = go _ told
tells_map names P Q go (answer.SourceTooBig id) told = go _ told
tells_map names P Q go (answer.NotUtf8 id offset) told = go _ told
tells_map names P Q go (answer.BadToken place) told = go _ told
tells_map names P Q go (answer.LiteralRange place) told = go _ told
tells_map names P Q go (answer.TooDeep place) told = go _ told
tells_map names P Q go (answer.TooLong id line) told = go _ told
tells_map names P Q go (answer.Syntax id line) told = go _ told
tells_map names P Q go (answer.HeaderName id) told = go _ told
tells_map names P Q go (answer.ImportCycle ids) told = go _ told
tells_map names P Q go (answer.TooManyModules id) told = go _ told
tells_map names P Q go answer.Fetch told = tt
tells_map names P Q go answer.NoMemory told = tt

pub err_map : {A E : Type 0} (P Q : E → Type 0) → ((e : E) → P e → Q e) → (result : Result A E) → IfErr result P → IfErr result Q
err_map P Q go (Ok a) h = tt
err_map P Q go (Err e) h = go e h

pub ok_map : {A E : Type 0} (P Q : A → Type 0) → ((a : A) → P a → Q a) → (result : Result A E) → IfOk result P → IfOk result Q
ok_map P Q go (Ok a) h = go a h
ok_map P Q go (Err e) h = tt

pub on_ok : {A E : Type 0} (P : Type 0) → P → (result : Result A E) → OnOk result P
on_ok P p (Ok a) = p
on_ok P p (Err e) = tt

pub some_map : {A : Type 0} (P Q : A → Type 0) → ((a : A) → P a → Q a) → (o : Option A) → IfSome o P → IfSome o Q
some_map P Q go (Some a) h = go a h
some_map P Q go None h = tt

pub in_some : {A : Type 0} (Q : A → Type 0) → ((a : A) → Q a) → (o : Option A) → IfSome o Q
in_some Q go (Some a) = go a
in_some Q go None = tt

-- ---- built in or not

-- the answer on the text of a name
pub built_in_at : (names : List (List ℕ)) (id : NameId) (shown : List ℕ) (o : Option (List ℕ)) → slice_get names id.0 ≡ Some shown → o ≡ built_in shown → built_in (text_of names id) ≡ o
built_in_at names id shown o at is = ap built_in (text_of-at names id shown at) ∙ sym is

is_built : (name text : List ℕ) → built_in name ≡ Some text → is_built_in name ≡ true
is_built name text is = ap is_some is

pub not_built : (name : List ℕ) → built_in name ≡ None → is_built_in name ≡ false
not_built name is = ap is_some is

own_source : (held : List ℕ → Option (List ℕ)) (name text : List ℕ) → built_in name ≡ Some text → source held name ≡ Some text
own_source held name text is = ap (λ o. if is_some o then o else held name) is

held_source : (held : List ℕ → Option (List ℕ)) (name : List ℕ) → built_in name ≡ None → source held name ≡ held name
held_source held name is = ap (λ o. if is_some o then o else held name) is

no_text : (name text : List ℕ) → built_in name ≡ None → built_in name ≡ Some text → ⊥
no_text name text none some = let no : None ≡ Some text = sym none ∙ some in cc

-- a module that isn't built in is its own
pub own_anyway : (name : List ℕ) (found : syntax.Module) → built_in name ≡ None → IsOwn (record { name = name; syntax = found })
own_anyway name found none = λ text is. absurd (no_text name text none is)

pub is_fetched : (name : List ℕ) (count : ℕ) → built_in name ≡ None → count + 1 ≡ fetched_with name count
is_fetched name count none = sym (ap (λ b. if b then count else count + 1) (not_built name none))

-- ---- what a text that is cut after its limit is read as

layout_alike : (text other : List ℕ) (laid : List Lexeme) → tokens.tokens other ≡ tokens.tokens text → HasLayout text laid → HasLayout other laid
layout_alike text other laid same has = record { found = has.found; has_tokens = same ∙ has.has_tokens; has_layout = has.has_layout }

read_alike : (name text other : List ℕ) (outcome : Result syntax.Module TextFault) → tokens.tokens other ≡ tokens.tokens text → IsRead name text outcome → IsRead name other outcome
read_alike name text other outcome same (texts.no_tokens fault is) = texts.no_tokens fault (same ∙ is)
read_alike name text other outcome same (texts.too_deep found number token is deep at) = texts.too_deep found number token (same ∙ is) deep at
read_alike name text other outcome same (texts.no_syntax laid fault has read) = texts.no_syntax laid fault (layout_alike text other laid same has) read
read_alike name text other outcome same (texts.other_name laid found has read wrong) = texts.other_name laid found (layout_alike text other laid same has) read wrong
read_alike name text other outcome same (texts.right laid found has read right) = texts.right laid found (layout_alike text other laid same has) read right

too_big : (text : List ℕ) → nat_lt tokens.max_text_bytes (length text) ≡ true → tokens.tokens text ≡ Err tokens.Fault.SourceTooBig
unfolding tokens.tokens
too_big text big = rw big refl

below : (a b c : ℕ) → a < b → b < c → a < c
below a b c first second = omega arith

at_most : (a b : ℕ) → a < b → a ≤ b
at_most a b first = omega arith

-- cut after a limit that is above that of a text
cut_alike : (limit : ℕ) (text : List ℕ) → tokens.max_text_bytes < limit → tokens.tokens text ≡ tokens.tokens (take limit text)
cut_alike limit text above = by (nat_lt limit (length text)) refl
  where
    by : (b : Bool) → nat_lt limit (length text) ≡ b → tokens.tokens text ≡ tokens.tokens (take limit text)
    by true long =
        let more = ltb-true limit (length text) long in
        let cut = length-take-le limit text (at_most limit (length text) more) in
        too_big text (lt-ltb tokens.max_text_bytes (length text) (below tokens.max_text_bytes limit (length text) above more))
        ∙ sym (too_big (take limit text) (ap (nat_lt tokens.max_text_bytes) cut ∙ lt-ltb tokens.max_text_bytes limit above))
    by false short = ap tokens.tokens (sym (take_all limit text (ltb-false limit (length text) short)))

pub read_whole : (name text cut : List ℕ) (outcome : Result syntax.Module TextFault) → cut ≡ take io.max_fetched_bytes text → IsRead name cut outcome → IsRead name text outcome
read_whole name text cut outcome is read = read_alike name cut text outcome (cut_alike io.max_fetched_bytes text (omega arith) ∙ sym (ap tokens.tokens is)) read

-- ---- look_up

fault_lacks : (held : List ℕ → Option (List ℕ)) (count : ℕ) (names : List (List ℕ)) (name text : List ℕ) (fault : OrderFault) → IsFree count name → source held name ≡ Some text
    → Tells names (IsFaultOf name text) fault → Tells names (IsLacking held count name) fault
fault_lacks held count names name text fault free is told = tells_map names (IsFaultOf name text) (IsLacking held count name) (λ refusal h. unread refusal text free is h) fault told

pub built_in_lacks : (old new : List (List ℕ)) (id : NameId) (text : List ℕ) (o : Option Holdings) (dir : List ℕ) (count : ℕ) (result : Result Module OrderFault) → Extends old new → IsKnown old id
    → built_in (text_of old id) ≡ Some text → (read_from : List ℕ) → read_from ≡ text → IfErr result (Tells new (IsFaultOf (text_of new id) read_from))
    → IfSome o (λ held. IfErr result (Tells new (IsLacking (held.module_at dir) count (text_of old id))))
built_in_lacks old new id text o dir count result grown known is read_from slice told =
    let name = text_of old id in
    let told_old = subst (λ (name : List ℕ). IfErr result (Tells new (IsFaultOf name text))) (text_of-extends grown id known) (subst (λ (text : List ℕ). IfErr result (Tells new (IsFaultOf (text_of new id) text))) slice told) in
    in_some (λ (held : Holdings). IfErr result (Tells new (IsLacking (held.module_at dir) count name)))
    (λ held. err_map (Tells new (IsFaultOf name text)) (Tells new (IsLacking (held.module_at dir) count name)) (λ fault. fault_lacks (held.module_at dir) count new name text fault (inl (is_built name text is)) (own_source (held.module_at dir) name text is)) result told_old) o

pub too_many_lack : (names : List (List ℕ)) (id : NameId) (o : Option Holdings) (dir : List ℕ) (count : ℕ) → built_in (text_of names id) ≡ None → count ≡ most_modules
    → IfSome o (λ held. IsLacking (held.module_at dir) count (text_of names id) (TooManyModules (text_of names id)))
too_many_lack names id o dir count none full =
    in_some (λ (held : Holdings). IsLacking (held.module_at dir) count (text_of names id) (TooManyModules (text_of names id))) (λ held. too_many (not_built (text_of names id) none) full) o

fetched_source : (held : List ℕ → Option (List ℕ)) (name shown : List ℕ) (o : Option (List ℕ)) → name ≡ shown → built_in name ≡ None → held shown ≡ o → source held name ≡ o
fetched_source held name shown o same none is = held_source held name none ∙ ap held same ∙ is

-- nothing is held
pub missing_lacks : (names : List (List ℕ)) (id : NameId) (shown : List ℕ) (o : Option Holdings) (dir : List ℕ) (count : ℕ) (answered : Fetched) → slice_get names id.0 ≡ Some shown → built_in (text_of names id) ≡ None
    → count ≢ most_modules → answered ≡ fetched.Absent → IfSome o (λ held. io.Fetches (held.module_at dir shown) answered)
    → IfSome o (λ held. IsLacking (held.module_at dir) count (text_of names id) (MissingModule (text_of names id)))
missing_lacks names id shown o dir count answered at none free is told =
    let name = text_of names id in
    some_map (λ (held : Holdings). io.Fetches (held.module_at dir shown) answered) (λ (held : Holdings). IsLacking (held.module_at dir) count name (MissingModule name))
    (λ held h. missing (inr free) (fetched_source (held.module_at dir) name shown None (text_of-at names id shown at) none (absent (held.module_at dir shown) answered is h))) o told
  where
    absent : (text : Option (List ℕ)) (f : Fetched) → f ≡ fetched.Absent → io.Fetches text f → text ≡ None
    absent None f e h = refl
    absent (Some text) f e h = let no : ⊥ = subst (io.Fetches (Some text)) e h in absurd no

-- a prefix of what is held
prefix_of : (text : Option (List ℕ)) (f : Fetched) (bytes : Vec ℕ Global) → f ≡ fetched.Text bytes → io.Fetches text f → (whole : List ℕ) × (text ≡ Some whole) × (bytes.items ≡ take io.max_fetched_bytes whole)
prefix_of None f bytes e h = let no : ⊥ = subst (io.Fetches None) e h in absurd no
prefix_of (Some whole) f bytes e h = (whole, refl, subst (io.Fetches (Some whole)) e h)

text_found : (held : List ℕ → Option (List ℕ)) (count : ℕ) (name shown read_from : List ℕ) (f : Fetched) (bytes : Vec ℕ Global) (found : syntax.Module) → name ≡ shown → built_in name ≡ None → count ≢ most_modules
    → f ≡ fetched.Text bytes → io.Fetches (held shown) f → read_from ≡ bytes.items → IsRead name read_from (Ok found) → IsFound held count name found
text_found held count name shown read_from f bytes found same none free is told slice read =
    let prefix = prefix_of (held shown) f bytes is told in
    record {
      free = inr free;
      text = prefix.0;
      is = fetched_source held name shown (Some prefix.0) same none prefix.1;
      read = read_whole name prefix.0 read_from (Ok found) (slice ∙ prefix.2) read;
    }

text_lacks : (held : List ℕ → Option (List ℕ)) (count : ℕ) (name shown read_from : List ℕ) (f : Fetched) (bytes : Vec ℕ Global) (refusal : Refusal) → name ≡ shown → built_in name ≡ None → count ≢ most_modules
    → f ≡ fetched.Text bytes → io.Fetches (held shown) f → read_from ≡ bytes.items → IsFaultOf name read_from refusal → IsLacking held count name refusal
text_lacks held count name shown read_from f bytes refusal same none free is told slice fault =
    let prefix = prefix_of (held shown) f bytes is told in
    unread refusal prefix.0 (inr free) (fetched_source held name shown (Some prefix.0) same none prefix.1)
    (record { fault = fault.fault; refused = fault.refused; read = read_whole name prefix.0 read_from (Err fault.fault) (slice ∙ prefix.2) fault.read })

pub fetched_found : (old new : List (List ℕ)) (id : NameId) (shown read_from : List ℕ) (o : Option Holdings) (dir : List ℕ) (count : ℕ) (f : Fetched) (bytes : Vec ℕ Global) (result : Result Module OrderFault)
    → Extends old new → IsKnown old id → slice_get old id.0 ≡ Some shown → built_in (text_of old id) ≡ None → count ≢ most_modules → f ≡ fetched.Text bytes
    → IfSome o (λ held. io.Fetches (held.module_at dir shown) f) → read_from ≡ bytes.items → IfOk result (λ found. IsRead (text_of new id) read_from (Ok (module_meaning new found)))
    → IfSome o (λ held. IfOk result (λ found. IsFound (held.module_at dir) count (text_of old id) (module_meaning new found)))
fetched_found old new id shown read_from o dir count f bytes result grown known at none free is told slice read =
    let name = text_of old id in
    let read_old = subst (λ (name : List ℕ). IfOk result (λ found. IsRead name read_from (Ok (module_meaning new found)))) (text_of-extends grown id known) read in
    some_map (λ (held : Holdings). io.Fetches (held.module_at dir shown) f) (λ (held : Holdings). IfOk result (λ found. IsFound (held.module_at dir) count name (module_meaning new found)))
    (λ held h. ok_map (λ (found : Module). IsRead name read_from (Ok (module_meaning new found))) (λ (found : Module). IsFound (held.module_at dir) count name (module_meaning new found))
    (λ found r. text_found (held.module_at dir) count name shown read_from f bytes (module_meaning new found) (text_of-at old id shown at) none free is h slice r) result read_old) o told

pub fetched_lacks : (old new : List (List ℕ)) (id : NameId) (shown read_from : List ℕ) (o : Option Holdings) (dir : List ℕ) (count : ℕ) (f : Fetched) (bytes : Vec ℕ Global) (result : Result Module OrderFault)
    → Extends old new → IsKnown old id → slice_get old id.0 ≡ Some shown → built_in (text_of old id) ≡ None → count ≢ most_modules → f ≡ fetched.Text bytes
    → IfSome o (λ held. io.Fetches (held.module_at dir shown) f) → read_from ≡ bytes.items → IfErr result (Tells new (IsFaultOf (text_of new id) read_from))
    → IfSome o (λ held. IfErr result (Tells new (IsLacking (held.module_at dir) count (text_of old id))))
fetched_lacks old new id shown read_from o dir count f bytes result grown known at none free is told slice fault =
    let name = text_of old id in
    let fault_old = subst (λ (name : List ℕ). IfErr result (Tells new (IsFaultOf name read_from))) (text_of-extends grown id known) fault in
    some_map (λ (held : Holdings). io.Fetches (held.module_at dir shown) f) (λ (held : Holdings). IfErr result (Tells new (IsLacking (held.module_at dir) count name)))
    (λ held h. err_map (Tells new (IsFaultOf name read_from)) (Tells new (IsLacking (held.module_at dir) count name))
    (λ fault t. tells_map new (IsFaultOf name read_from) (IsLacking (held.module_at dir) count name) (λ refusal r. text_lacks (held.module_at dir) count name shown read_from f bytes refusal (text_of-at old id shown at) none free is h slice r) fault t) result fault_old) o told

-- what is fetched is its own, since it isn't built in
pub fetched_own : (old new : List (List ℕ)) (id : NameId) (result : Result Module OrderFault) → Extends old new → IsKnown old id → built_in (text_of old id) ≡ None
    → IfOk result (λ found. IsOwn (record { name = text_of new id; syntax = module_meaning new found }))
fetched_own old new id result grown known none = by result
  where
    by : (result : Result Module OrderFault) → IfOk result (λ found. IsOwn (record { name = text_of new id; syntax = module_meaning new found }))
    by (Ok found) = own_anyway (text_of new id) (module_meaning new found) (ap built_in (text_of-extends grown id known) ∙ none)
    by (Err fault) = tt
