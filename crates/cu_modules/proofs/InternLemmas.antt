-- Texts that are interned one after another.
use Rattle.std.proofs.Common.{◌≡◌, ℕ, ◌+◌, ◌<◌, Bor, List, [], ◌∷◌, Some, Ok, Err, Result, get_or, length, sym, subst, take}
use Rattle.std.proofs.lemmas.List.Elements.{All-push, All-weaker, Contains-append_left}
use Rattle.std.proofs.lemmas.Option.{get_or_from_slice_get, slice_get_within}
use Rattle.std.specs.List.{All, Contains}
use Rattle.std.specs.Prelude.{OnOk, slice_get}
use Rattle.std.specs.declared.alloc.AllocError.{AllocError}
use Rattle.cu_names.proofs.Growth.{extends-trans, interned-extends}
use Rattle.cu_names.specs.Texts.{Extends, interned}
use Rattle.cu_modules.specs.BuiltInEntities.{HasBuiltIn, external_names, literal_names, prelude_name, set_function_names, set_functions_name, single_names}
use Rattle.cu_modules.specs.Known.{listed_texts}
use Rattle.cu_modules.proofs.EntityLemmas.{texts_more}

contains_at : (names : List (List ℕ)) (i : ℕ) (text : List ℕ) → slice_get names i ≡ Some text → Contains names text
contains_at names i text at = (i, slice_get_within names i text at, get_or_from_slice_get names i text text at)

contains_kept : (old new : List (List ℕ)) (text : List ℕ) → Extends old new → Contains old text → Contains new text
contains_kept old new text grown there = subst (λ (names : List (List ℕ)). Contains names text) (sym grown.appended) (Contains-append_left old grown.more text there)

pub all_kept : (old new texts : List (List ℕ)) → Extends old new → All (Contains old) texts → All (Contains new) texts
all_kept old new texts grown there = All-weaker (Contains old) (Contains new) (λ text has. contains_kept old new text grown has) texts there

pub intern_grows : (old new : List (List ℕ)) (text : List ℕ) → new ≡ interned old text → Extends old new
intern_grows old new text is = subst (Extends old) (sym is) (interned-extends old text)

-- one text more
pub one_interned : (first old new : List (List ℕ)) (texts : List (Bor (List ℕ))) (i id : ℕ) (d : Bor (List ℕ)) → i < length texts → new ≡ interned old (get_or texts i d).now
    → slice_get new id ≡ Some (get_or texts i d).now → Extends first old × All (Contains old) (listed_texts (take i texts))
    → Extends first new × All (Contains new) (listed_texts (take (i + 1) texts))
one_interned first old new texts i id d within is at before =
    let grown = intern_grows old new (get_or texts i d).now is in (
      extends-trans before.0 grown,
      subst (All (Contains new)) (sym (texts_more texts i d within))
          (All-push (Contains new) (listed_texts (take i texts)) (get_or texts i d).now (all_kept old new (listed_texts (take i texts)) grown before.1) (contains_at new id (get_or texts i d).now at)),
    )

pub built_in_kept : (old new : List (List ℕ)) → Extends old new → HasBuiltIn old → HasBuiltIn new
built_in_kept old new grown has = record {
  modules = all_kept old new (prelude_name ∷ set_functions_name ∷ []) grown has.modules;
  lists = all_kept old new ((91 ∷ 93 ∷ []) ∷ (58 ∷ []) ∷ []) grown has.lists;
  singles = all_kept old new single_names grown has.singles;
  literals = all_kept old new literal_names grown has.literals;
  externals = all_kept old new external_names grown has.externals;
  sets = all_kept old new set_function_names grown has.sets;
}

pub three : {a b c d : List (List ℕ)} → Extends a b → Extends b c → Extends c d → Extends a d
three first second third = extends-trans first (extends-trans second third)

pub on_ok : (r : Result (Unit {0}) AllocError) (P Q : Type 0) → (P → Q) → OnOk r P → OnOk r Q
on_ok (Ok x) P Q f h = f h
on_ok (Err e) P Q f h = tt

-- all names of the built-in modules, group by group
pub all_interned : (a b c d e f : List (List ℕ)) (result : Result (Unit {0}) AllocError) → Extends a b → Extends b c → Extends c d → Extends d e → Extends e f
    → All (Contains a) ((91 ∷ 93 ∷ []) ∷ (58 ∷ []) ∷ []) → All (Contains b) single_names → All (Contains c) literal_names → All (Contains d) external_names → All (Contains e) set_function_names
    → OnOk result (All (Contains f) (prelude_name ∷ set_functions_name ∷ [])) → OnOk result (HasBuiltIn f)
all_interned a b c d e f result ab bc cd de ef lists singles literals externals sets modules =
    let df = extends-trans de ef in
    let cf = extends-trans cd df in
    let bf = extends-trans bc cf in
    on_ok result (All (Contains f) (prelude_name ∷ set_functions_name ∷ [])) (HasBuiltIn f)
    (λ modules. record {
      modules = modules;
      lists = all_kept a f ((91 ∷ 93 ∷ []) ∷ (58 ∷ []) ∷ []) (extends-trans ab bf) lists;
      singles = all_kept b f single_names bf singles;
      literals = all_kept c f literal_names cf literals;
      externals = all_kept d f external_names df externals;
      sets = all_kept e f set_function_names ef sets;
    }) modules
