-- The names that blocks bring into scope.
use Rattle.std.proofs.Common.{◌≡◌, ◌∙◌, ◌<◌, ◌≤◌, ◌+◌, ℕ, true, false, List, [], ◌∷◌, ◌++◌, Option, None, Some, arith, length, drop, get_or, refl, sym, ap, ap₂, subst, add-one, eqb-true}
use Rattle.std.proofs.lemmas.List.{append-nil, append_assoc, map-append, nil_from_length}
use Rattle.std.proofs.lemmas.List.Elements.{All-append, All-nil, All-push}
use Rattle.std.specs.List.{All}
use Rattle.std.specs.declared.alloc.Global.{Global}
use Rattle.std.specs.declared.vec.Vec.{Vec}
use Rattle.std.proofs.Math.Dec.{eqb}
use Rattle.std.proofs.lemmas.Bool.{eqb-false}
use Rattle.std.proofs.lemmas.Option.{get_or_from_slice_get, slice_get-get_or}
use Rattle.cu_lex.specs.Reading.{position_of}
use Rattle.cu_names.specs.Texts.{text_of}
use Rattle.cu_names.specs.declared.place.Place.{Place}
use Rattle.cu_syntax.specs.declared.declarations.Declaration.{Declaration}
use Rattle.cu_syntax.specs.declared.declarations.DeclarationNode.{DeclarationNode}
use Rattle.cu_syntax.specs.declared.declarations.DeclarationNode.TheVariants as declaration
use Rattle.cu_syntax.specs.declared.declarations.RightSide.{RightSide}
use Rattle.cu_syntax.specs.declared.name.Name as code
use Rattle.cu_syntax.specs.declared.patterns.Pattern.{Pattern}
use Rattle.cu_syntax.specs.Declarations.{declaration_meaning, declaration_node, declarations_meaning}
use Rattle.cu_syntax.specs.Names.{name_meaning}
use Rattle.cu_syntax.specs.Owners.{NameIsOf}
use Rattle.cu_syntax.specs.Patterns.{patterns_meaning}
use Rattle.cu_translation.specs.declared.local_names.Entry as entries
use Rattle.cu_translation.specs.declared.local_names.Local.TheVariants as local
use Rattle.cu_translation.specs.declared.local_names.Binder.TheVariants as binder
use Rattle.cu_translation.specs.declared.position.Position.{Position}
use Rattle.cu_translation.specs.LocalNames.{At, Entry, LocalFunction, LocalVariable, Scope, declaration_entries, entries_after, entry, variable_entries, variable_entry}
use Rattle.cu_translation.specs.Meaning.{entry_meaning, position_meaning}
use Rattle.cu_translation.specs.Rules.{Begun, begun_by, begun_in, goes_on, pattern_count}
use Rattle.cu_uses.specs.Gathered.{Adds, names_meaning, pattern_binds}
use Rattle.cu_uses.proofs.FoundLemmas.{prefix, nothing_left}
use Rattle.cu_uses.proofs.ListLemmas.{name_at, no_name}
use Rattle.cu_locals.specs.declared.begun.Begun as begun
use Rattle.cu_locals.specs.declared.entries.Block.{Block}
use Rattle.cu_locals.specs.Text.{Text}
use Rattle.cu_locals.specs.Entries.{AreEntries, Brings, Declares, EntryIsKnown, IsEntryOf, block_brings, rule_brings, rule_enters}
use Rattle.cu_locals.specs.BegunFound.{BegunIsKnown, IsBefore, begun_for, begun_meaning, continues}
use Rattle.cu_locals.proofs.BegunLemmas.{begun_texts, dropped, goes_on_texts}

-- ---- one entry

pub variable_is : (t : Text) (x : code.Name) (p : Position) (e : entries.Entry) → e ≡ record { text = x.text; means = local.Variable (binder.At p) } → position_meaning p ≡ position_of x.place
    → NameIsOf t.owner t.names x → IsEntryOf t (variable_entry (name_meaning t.names x)) e
variable_is t x p e is at of = record {
  meaning = ap (entry_meaning t.names) is ∙ ap (λ q. entry (text_of t.names x.text) (LocalVariable (At q))) at;
  known = subst (EntryIsKnown t) (sym is) of.text;
}

pub function_is : (t : Text) (x : code.Name) (p : Position) (place : Place) (count : ℕ) (e : entries.Entry) → e ≡ record { text = x.text; means = local.Function p count } → position_meaning p ≡ position_of place
    → NameIsOf t.owner t.names x → IsEntryOf t (entry (text_of t.names x.text) (LocalFunction (position_of place) count)) e
function_is t x p place count e is at of = record {
  meaning = ap (entry_meaning t.names) is ∙ ap (λ q. entry (text_of t.names x.text) (LocalFunction q count)) at;
  known = subst (EntryIsKnown t) (sym is) of.text;
}

counted : (names : List (List ℕ)) (ps : List Pattern) → pattern_count (patterns_meaning names ps) ≡ length ps
counted names [] = refl
counted names (p ∷ ps) = ap (λ n. n + 1) (counted names ps) ∙ add-one (length ps)

pub rule_without : (t : Text) (place : Place) (x : code.Name) (ps : List Pattern) (e : entries.Entry) → ps ≡ [] → IsEntryOf t (variable_entry (name_meaning t.names x)) e → IsEntryOf t (rule_brings t.names place x ps) e
unfolding rule_brings
rule_without t place x ps e none is = subst (λ qs. IsEntryOf t (rule_brings t.names place x qs) e) (sym none) is

rule_function : (names : List (List ℕ)) (place : Place) (x : code.Name) (p : Pattern) (ps : List Pattern)
    → entry (text_of names x.text) (LocalFunction (position_of place) (length (p ∷ ps))) ≡ rule_brings names place x (p ∷ ps)
unfolding rule_brings
rule_function names place x p ps = ap (λ n. entry (text_of names x.text) (LocalFunction (position_of place) n)) (sym (counted names (p ∷ ps)))

pub rule_with : (t : Text) (place : Place) (x : code.Name) (ps : List Pattern) (e : entries.Entry) → 0 < length ps
    → IsEntryOf t (entry (text_of t.names x.text) (LocalFunction (position_of place) (length ps))) e → IsEntryOf t (rule_brings t.names place x ps) e
rule_with t place x [] e some is = absurd (omega (arith, some))
rule_with t place x (p ∷ ps) e some is = subst (λ r. IsEntryOf t r e) (rule_function t.names place x p ps) is

-- ---- several entries

entries_none : (t : Text) → AreEntries t [] []
entries_none t = record { meaning = refl; known = All-nil (EntryIsKnown t) }

entries_one : (t : Text) (e : Entry) (found : entries.Entry) → IsEntryOf t e found → AreEntries t (e ∷ []) (found ∷ [])
entries_one t e found is = record { meaning = ap (λ x. x ∷ []) is.meaning; known = All-push (EntryIsKnown t) [] found (All-nil (EntryIsKnown t)) is.known }

entries_both : {t : Text} {xs ys : Scope} {es fs : List entries.Entry} → AreEntries t xs es → AreEntries t ys fs → AreEntries t (xs ++ ys) (es ++ fs)
entries_both {t = t} {es = es} {fs = fs} one two = record {
  meaning = map-append (entry_meaning t.names) es fs ∙ ap₂ (λ x y. x ++ y) one.meaning two.meaning;
  known = All-append (EntryIsKnown t) es fs one.known two.known;
}

-- These are to be found, of all that were.
pub record Gathered (t : Text) (rest whole : Scope) (found : List entries.Entry) : Type 0 where
  pub done : Scope
  pub are : AreEntries t done found
  pub joins : done ++ rest ≡ whole

pub gathered_none : (t : Text) (whole : Scope) (found : List entries.Entry) → found ≡ [] → Gathered t whole whole found
gathered_none t whole found none = record { done = []; are = subst (AreEntries t []) (sym none) (entries_none t); joins = refl }

gathered_more : {t : Text} {rest whole more : Scope} {found : List entries.Entry} (left : Scope) (added now : List entries.Entry) → Gathered t rest whole found → more ++ left ≡ rest → AreEntries t more added → now ≡ found ++ added → Gathered t left whole now
gathered_more {t = t} {more = more} left added now before joins are is = record {
  done = before.done ++ more;
  are = subst (AreEntries t (before.done ++ more)) (sym is) (entries_both before.are are);
  joins = append_assoc before.done more left ∙ ap (λ zs. before.done ++ zs) joins ∙ before.joins;
}

gathered_all : {t : Text} {rest whole : Scope} {found : List entries.Entry} → Gathered t rest whole found → rest ≡ [] → AreEntries t whole found
gathered_all {t = t} {found = found} before none =
    subst (λ xs. AreEntries t xs found) (sym (append-nil before.done) ∙ ap (λ zs. before.done ++ zs) (sym none) ∙ before.joins) before.are

abbrev pub variables_of : List (List ℕ) → List code.Name → Scope
variables_of names xs = variable_entries (names_meaning names xs)

variables_cons : (names : List (List ℕ)) (x : code.Name) (xs : List code.Name) → variables_of names (x ∷ xs) ≡ (variable_entry (name_meaning names x) ∷ []) ++ variables_of names xs
variables_cons names x xs = refl

-- the element at a place, whatever stands for one past the end
here_is : {X : Type 0} (xs : List X) (i : ℕ) (d : X) → i < length xs → get_or xs i d ≡ get_or xs i (get_or xs i d)
here_is xs i d within = sym (get_or_from_slice_get xs i (get_or xs i d) (get_or xs i d) (slice_get-get_or xs i d within))

pub variables_prefix : (t : Text) (whole : Scope) (xs : List code.Name) (i : ℕ) (e : entries.Entry) (found now : List entries.Entry) → i < length xs
    → Gathered t (variables_of t.names (drop i xs)) whole found → IsEntryOf t (variable_entry (name_meaning t.names (name_at xs i))) e → now ≡ found ++ e ∷ []
    → Gathered t (variables_of t.names (drop (i + 1) xs)) whole now
variables_prefix t whole xs i e found now within before here pushed =
    gathered_more (variables_of t.names (drop (i + 1) xs)) (e ∷ []) now before
    (prefix (variables_of t.names) (λ y. variable_entry (name_meaning t.names y) ∷ []) (variables_cons t.names) xs i (name_at xs i) (here_is xs i no_name within) within)
    (entries_one t (variable_entry (name_meaning t.names (name_at xs i))) e here) pushed

pub variables_end : (t : Text) (whole : Scope) (xs : List code.Name) (i : ℕ) (found : List entries.Entry) → length xs ≤ i → Gathered t (variables_of t.names (drop i xs)) whole found → AreEntries t whole found
variables_end t whole xs i found past before = gathered_all before (nothing_left (variables_of t.names) refl xs i past)

-- ---- declarations

none_before : (t : Text) (b : Option begun.Begun) → b ≡ None → IsBefore t None b
none_before t b is = record { meaning = ap (begun_meaning t) is; known = subst (BegunIsKnown t) (sym is) tt }

pub brings_variables : (t : Text) (a b : Block) (xs : List code.Name) (added more : List entries.Entry) → AreEntries t (variables_of t.names xs) added → more ≡ added → b.entries.items ≡ a.entries.items ++ more → b.begun ≡ None
    → Brings t a (variables_of t.names xs) None b
brings_variables t a b xs added more are is pushed none = record {
  added = added;
  entries_are = pushed ∙ ap (λ ys. a.entries.items ++ ys) is;
  are = are;
  begun = none_before t b.begun none;
}

begun_is : (t : Text) (b : Option begun.Begun) (x : code.Name) (place : Place) (found : Option begun.Begun) → BegunIsKnown t b → NameIsOf t.owner t.names x → found ≡ Some (begun_for b x place)
    → IsBefore t (Some (begun_by (begun_meaning t b) (name_meaning t.names x) (position_of place))) found
begun_is t b x place found known of is =
    let begun = begun_texts t b x place known of in
    record {
      meaning = ap (begun_meaning t) is ∙ ap Some begun.meaning;
      known = subst (BegunIsKnown t) (sym is) begun.known;
    }

rule_skipped : (t : Text) (b : Option Begun) (place : Place) (x : code.Name) (ps : List Pattern) → goes_on b (name_meaning t.names x) ≡ true → rule_enters t b place x ps ≡ []
rule_skipped t b place x ps e = rw e refl

rule_entered : (t : Text) (b : Option Begun) (place : Place) (x : code.Name) (ps : List Pattern) → goes_on b (name_meaning t.names x) ≡ false → rule_enters t b place x ps ≡ rule_brings t.names place x ps ∷ []
rule_entered t b place x ps e = rw e refl

pub brings_nothing : (t : Text) (a b : Block) (place : Place) (x : code.Name) (ps : List Pattern) → BegunIsKnown t a.begun → NameIsOf t.owner t.names x → continues a.begun x.text ≡ true
    → b.entries.items ≡ a.entries.items → b.begun ≡ Some (begun_for a.begun x place)
    → Brings t a (rule_enters t (begun_meaning t a.begun) place x ps) (Some (begun_by (begun_meaning t a.begun) (name_meaning t.names x) (position_of place))) b
brings_nothing t a b place x ps known of goes same is = record {
  added = [];
  entries_are = same ∙ sym (append-nil a.entries.items);
  are = subst (λ s. AreEntries t s []) (sym (rule_skipped t (begun_meaning t a.begun) place x ps (sym (goes_on_texts t a.begun x known of) ∙ goes))) (entries_none t);
  begun = begun_is t a.begun x place b.begun known of is;
}

pub brings_rule : (t : Text) (a b : Block) (place : Place) (x : code.Name) (ps : List Pattern) (e : entries.Entry) → BegunIsKnown t a.begun → NameIsOf t.owner t.names x → continues a.begun x.text ≡ false
    → IsEntryOf t (rule_brings t.names place x ps) e → b.entries.items ≡ a.entries.items ++ e ∷ [] → b.begun ≡ Some (begun_for a.begun x place)
    → Brings t a (rule_enters t (begun_meaning t a.begun) place x ps) (Some (begun_by (begun_meaning t a.begun) (name_meaning t.names x) (position_of place))) b
brings_rule t a b place x ps e known of stops is_entry pushed is = record {
  added = e ∷ [];
  entries_are = pushed;
  are = subst (λ s. AreEntries t s (e ∷ [])) (sym (rule_entered t (begun_meaning t a.begun) place x ps (sym (goes_on_texts t a.begun x known of) ∙ stops)))
      (entries_one t (rule_brings t.names place x ps) e is_entry);
  begun = begun_is t a.begun x place b.begun known of is;
}

-- what a declaration brings, by what it is
pub declares : (t : Text) (a b : Block) (d : Declaration) (v n : DeclarationNode) (scope : Scope) (next : Option Begun) → declaration_node t.names v ≡ declaration_meaning t.names d → v ≡ n
    → scope ≡ declaration_entries (begun_meaning t a.begun) (declaration_node t.names n) → next ≡ begun_in (begun_meaning t a.begun) (declaration_node t.names n) → Brings t a scope next b
    → Declares t a (declaration_meaning t.names d) b
declares t a b d v n scope next meaning is enters follows brings =
    let meant = ap (declaration_node t.names) (sym is) ∙ meaning in
    subst (λ x. Brings t a (declaration_entries (begun_meaning t a.begun) x) (begun_in (begun_meaning t a.begun) x) b) meant
    (subst (λ s. Brings t a s (begun_in (begun_meaning t a.begun) (declaration_node t.names n)) b) enters (subst (λ s. Brings t a scope s b) follows brings))

pub rule_entries : (t : Text) (b : Option Begun) (place : Place) (x : code.Name) (ps : Vec Pattern Global) (right : RightSide)
    → rule_enters t b place x ps.items ≡ declaration_entries b (declaration_node t.names (declaration.FunctionRule place x ps right))
unfolding rule_brings
rule_entries t b place x ps right = refl

pub bound_entries : (t : Text) (b : Option Begun) (place : Place) (p : Pattern) (right : RightSide) (xs : List code.Name) → Adds t.owner t.names [] (pattern_binds t.names p) xs
    → variables_of t.names xs ≡ declaration_entries b (declaration_node t.names (declaration.PatternBinding place p right))
unfolding pattern_binds
bound_entries t b place p right xs found = ap variable_entries found.adds

pub bound_owned : (t : Text) (p : Pattern) (xs : List code.Name) → Adds t.owner t.names [] (pattern_binds t.names p) xs → All (NameIsOf t.owner t.names) xs
bound_owned t p xs found = found.owned (All-nil (NameIsOf t.owner t.names))

pub brings_none : (t : Text) (a b : Block) → b.entries.items ≡ a.entries.items → b.begun ≡ None → Brings t a [] None b
brings_none t a b same none = record { added = []; entries_are = same ∙ sym (append-nil a.entries.items); are = entries_none t; begun = none_before t b.begun none }

-- ---- blocks

unfoldable pub brings_after : List (List ℕ) → Option Begun → List Declaration → Scope
brings_after names b ds = entries_after b (declarations_meaning names ds)

brings_cons : (names : List (List ℕ)) (b : Option Begun) (d : Declaration) (ds : List Declaration)
    → declaration_entries b (declaration_meaning names d) ++ brings_after names (begun_in b (declaration_meaning names d)) ds ≡ brings_after names b (d ∷ ds)
unfolding brings_after
brings_cons names b d ds = refl

brings_nil : (names : List (List ℕ)) (b : Option Begun) → brings_after names b [] ≡ []
unfolding brings_after
brings_nil names b = refl

brings_all : (names : List (List ℕ)) (ds : List Declaration) → brings_after names None ds ≡ block_brings names ds
unfolding brings_after block_brings
brings_all names ds = refl

-- what was found among the first declarations of a block
pub record Found (t : Text) (ds : List Declaration) (i : ℕ) (b : Block) : Type 0 where
  pub begun : Option Begun
  pub before : IsBefore t begun b.begun
  pub gathered : Gathered t (brings_after t.names begun (drop i ds)) (block_brings t.names ds) b.entries.items

pub found_none : (t : Text) (ds : List Declaration) (b : Block) → b.entries.items ≡ [] → b.begun ≡ None → Found t ds 0 b
found_none t ds b empty none = record {
  begun = None;
  before = none_before t b.begun none;
  gathered = subst (λ s. Gathered t s (block_brings t.names ds) b.entries.items) (sym (brings_all t.names ds)) (gathered_none t (block_brings t.names ds) b.entries.items empty);
}

pub found_more : (t : Text) (ds : List Declaration) (i : ℕ) (d : Declaration) (a b : Block) → d ≡ get_or ds i d → i < length ds → Found t ds i a → Declares t a (declaration_meaning t.names d) b → Found t ds (i + 1) b
found_more t ds i d a b is within before declared =
    let split : declaration_entries before.begun (declaration_meaning t.names d) ++ brings_after t.names (begun_in before.begun (declaration_meaning t.names d)) (drop (i + 1) ds) ≡ brings_after t.names before.begun (drop i ds) =
    brings_cons t.names before.begun d (drop (i + 1) ds) ∙ sym (ap (brings_after t.names before.begun) (dropped ds i d is within)) in
    let same = before.before.meaning in
    record {
      begun = begun_in before.begun (declaration_meaning t.names d);
      before = subst (λ x. IsBefore t (begun_in x (declaration_meaning t.names d)) b.begun) same declared.begun;
      gathered = gathered_more (brings_after t.names (begun_in before.begun (declaration_meaning t.names d)) (drop (i + 1) ds)) declared.added b.entries.items before.gathered split
          (subst (λ x. AreEntries t (declaration_entries x (declaration_meaning t.names d)) declared.added) same declared.are) declared.entries_are;
    }

pub found_all : (t : Text) (ds : List Declaration) (i : ℕ) (b : Block) → length ds ≤ i → Found t ds i b → AreEntries t (block_brings t.names ds) b.entries.items
found_all t ds i b past found = gathered_all found.gathered (nothing_left (brings_after t.names found.begun) (brings_nil t.names found.begun) ds i past)

-- ---- whether a list has elements

pub none_there : {X : Type 0} (xs : List X) → eqb (length xs) 0 ≡ true → xs ≡ []
none_there xs e = nil_from_length xs (eqb-true (length xs) 0 e)

pub some_there : {X : Type 0} (xs : List X) → eqb (length xs) 0 ≡ false → 0 < length xs
some_there [] e = absurd (eqb-false 0 0 e refl)
some_there (x ∷ xs) e = omega arith
