-- How what local functions use, bind and call is noted.
use Rattle.std.proofs.Common.{◌≡◌, ◌∙◌, ◌<◌, ◌≤◌, ◌+◌, ℕ, suc, List, [], ◌∷◌, ◌++◌, Option, None, Some, length, drop, get_or, map, take, sym, ap, ap₂, subst}
use Rattle.std.proofs.lemmas.List.{append-nil, drop_all, drop_more, map-append, take_all, take_more}
use Rattle.std.specs.List.{flat_map}
use Rattle.cu_lex.specs.Located.{Position}
use Rattle.cu_translation.specs.declared.local_names.Binder as binders_found
use Rattle.cu_translation.specs.declared.local_names.Local as locals_found
use Rattle.cu_translation.specs.declared.local_names.Local.TheVariants as local
use Rattle.cu_translation.specs.declared.position.Position as places_found
use Rattle.cu_translation.specs.LocalNames.{Binder}
use Rattle.cu_translation.specs.Meaning.{binder_meaning, local_meaning, position_meaning}
use Rattle.cu_translation.specs.Numbering.{binder_number, function_number}
use Rattle.cu_sites.specs.declared.captures.Graph.{Graph}
use Rattle.cu_sites.specs.declared.relations.Relation.{Relation}
use Rattle.cu_sites.specs.Inside.Capturing.{IsGraph, Notes, binds_in, bound_pair, bound_pairs, call_pairs, calls_in, in_one, use_pairs, uses_in}
use Rattle.cu_sites.specs.Inside.Relating.{Gains, Holds, Pair, pair}
use Rattle.cu_sites.specs.declared.uses.Usage as usages_found
use Rattle.cu_sites.specs.Inside.Using.{Usage, usage_meaning, usages_meaning}
use Rattle.cu_sites.proofs.MemberLemmas.{one_more}
use Rattle.cu_sites.proofs.RelationLemmas.{gains_both, gains_none}

-- ---- one pair

pub gains_as : (x y i k : ℕ) (r s : Relation) → x ≡ i → y ≡ k → Gains (pair x y ∷ []) r s → Gains (pair i k ∷ []) r s
gains_as x y i k r s e f gains = subst (λ ps. Gains ps r s) (ap₂ (λ a b. pair a b ∷ []) e f) gains

pub noted_use : (binders : List Binder) (functions : List Position) (f : Position) (l : locals_found.Local) (b : binders_found.Binder) (x y : ℕ) (g h : Graph)
    → l ≡ local.Variable b → x ≡ binder_number binders (binder_meaning b) → y ≡ function_number functions f → Gains (pair x y ∷ []) g.uses h.uses
    → h.binds ≡ g.binds → h.users ≡ g.users
    → Notes (use_pairs binders functions f (local_meaning l)) [] (call_pairs functions f (local_meaning l)) g h
noted_use binders functions f l b x y g h is e e' gains binds users =
    subst (λ (k : locals_found.Local). Notes (use_pairs binders functions f (local_meaning k)) [] (call_pairs functions f (local_meaning k)) g h) (sym is)
    (record {
      uses_are = gains_as x y (binder_number binders (binder_meaning b)) (function_number functions f) g.uses h.uses e e' gains;
      binds_are = subst (λ r. Gains [] g.binds r) (sym binds) (gains_none g.binds);
      calls_are = subst (λ r. Gains [] g.users r) (sym users) (gains_none g.users);
    })

pub noted_call : (binders : List Binder) (functions : List Position) (f : Position) (l : locals_found.Local) (p : places_found.Position) (count x y : ℕ) (g h : Graph)
    → l ≡ local.Function p count → x ≡ function_number functions (position_meaning p) → y ≡ function_number functions f → Gains (pair x y ∷ []) g.users h.users
    → h.uses ≡ g.uses → h.binds ≡ g.binds
    → Notes (use_pairs binders functions f (local_meaning l)) [] (call_pairs functions f (local_meaning l)) g h
noted_call binders functions f l p count x y g h is e e' gains uses binds =
    subst (λ (k : locals_found.Local). Notes (use_pairs binders functions f (local_meaning k)) [] (call_pairs functions f (local_meaning k)) g h) (sym is)
    (record {
      uses_are = subst (λ r. Gains [] g.uses r) (sym uses) (gains_none g.uses);
      binds_are = subst (λ r. Gains [] g.binds r) (sym binds) (gains_none g.binds);
      calls_are = gains_as x y (function_number functions (position_meaning p)) (function_number functions f) g.users h.users e e' gains;
    })

pub noted_bound : (binders : List Binder) (functions : List Position) (f : Position) (b : Binder) (x y : ℕ) (g h : Graph)
    → x ≡ binder_number binders b → y ≡ function_number functions f → Gains (pair x y ∷ []) g.binds h.binds → h.uses ≡ g.uses → h.users ≡ g.users
    → Notes [] (bound_pair binders functions f b ∷ []) [] g h
noted_bound binders functions f b x y g h e e' gains uses users = record {
  uses_are = subst (λ r. Gains [] g.uses r) (sym uses) (gains_none g.uses);
  binds_are = gains_as x y (binder_number binders b) (function_number functions f) g.binds h.binds e e' gains;
  calls_are = subst (λ r. Gains [] g.users r) (sym users) (gains_none g.users);
}

-- ---- several

pub notes_none : (g : Graph) → Notes [] [] [] g g
notes_none g = record { uses_are = gains_none g.uses; binds_are = gains_none g.binds; calls_are = gains_none g.users }

pub notes_both : (us us' bs bs' cs cs' : List Pair) (a b c : Graph) → Notes us bs cs a b → Notes us' bs' cs' b c → Notes (us ++ us') (bs ++ bs') (cs ++ cs') a c
notes_both us us' bs bs' cs cs' a b c one two = record {
  uses_are = gains_both us us' a.uses b.uses c.uses one.uses_are two.uses_are;
  binds_are = gains_both bs bs' a.binds b.binds c.binds one.binds_are two.binds_are;
  calls_are = gains_both cs cs' a.users b.users c.users one.calls_are two.calls_are;
}

-- what these locals are noted as, in a function
abbrev pub NotesUses : List Binder → List Position → Position → List locals_found.Local → Graph → Graph → Type 0
NotesUses binders functions f ls a b =
    Notes (flat_map (use_pairs binders functions f) (map local_meaning ls)) [] (flat_map (call_pairs functions f) (map local_meaning ls)) a b

abbrev pub NotesBound : List Binder → List Position → Position → List binders_found.Binder → Graph → Graph → Type 0
NotesBound binders functions f bs a b = Notes [] (bound_pairs binders functions f (map binder_meaning bs)) [] a b

pub uses_next : (binders : List Binder) (functions : List Position) (f : Position) (ls : List locals_found.Local) (i : ℕ) (l d : locals_found.Local) (a b c : Graph)
    → l ≡ get_or ls i d → i < length ls
    → Notes (use_pairs binders functions f (local_meaning l)) [] (call_pairs functions f (local_meaning l)) a b
    → NotesUses binders functions f (drop (i + 1) ls) b c → NotesUses binders functions f (drop i ls) a c
uses_next binders functions f ls i l d a b c is low one two =
    subst (λ ys. NotesUses binders functions f ys a c) (sym (drop_more ls i d low ∙ ap (λ x. x ∷ drop (i + 1) ls) (sym is)))
    (notes_both (use_pairs binders functions f (local_meaning l)) (flat_map (use_pairs binders functions f) (map local_meaning (drop (i + 1) ls))) [] []
    (call_pairs functions f (local_meaning l)) (flat_map (call_pairs functions f) (map local_meaning (drop (i + 1) ls))) a b c one two)

pub uses_end : (binders : List Binder) (functions : List Position) (f : Position) (ls : List locals_found.Local) (i : ℕ) (a : Graph) → length ls ≤ i
    → NotesUses binders functions f (drop i ls) a a
uses_end binders functions f ls i a past = subst (λ ys. NotesUses binders functions f ys a a) (sym (drop_all i ls past)) (notes_none a)

pub bound_next : (binders : List Binder) (functions : List Position) (f : Position) (bs : List binders_found.Binder) (i : ℕ) (x d : binders_found.Binder) (a b c : Graph)
    → x ≡ get_or bs i d → i < length bs → Notes [] (bound_pair binders functions f (binder_meaning x) ∷ []) [] a b
    → NotesBound binders functions f (drop (i + 1) bs) b c → NotesBound binders functions f (drop i bs) a c
bound_next binders functions f bs i x d a b c is low one two =
    subst (λ ys. NotesBound binders functions f ys a c) (sym (drop_more bs i d low ∙ ap (λ y. y ∷ drop (i + 1) bs) (sym is)))
    (notes_both [] [] (bound_pair binders functions f (binder_meaning x) ∷ []) (bound_pairs binders functions f (map binder_meaning (drop (i + 1) bs))) [] [] a b c one two)

pub bound_end : (binders : List Binder) (functions : List Position) (f : Position) (bs : List binders_found.Binder) (i : ℕ) (a : Graph) → length bs ≤ i
    → NotesBound binders functions f (drop i bs) a a
bound_end binders functions f bs i a past = subst (λ ys. NotesBound binders functions f ys a a) (sym (drop_all i bs past)) (notes_none a)

pub notes_inside : (binders : List Binder) (functions : List Position) (f : Position) (u : Usage) (ls : List locals_found.Local) (bs : List binders_found.Binder) (a b c : Graph)
    → u.function ≡ Some f → map local_meaning ls ≡ u.used → map binder_meaning bs ≡ u.declared
    → NotesUses binders functions f ls a b → NotesBound binders functions f bs b c
    → Notes (uses_in binders functions u) (binds_in binders functions u) (calls_in functions u) a c
notes_inside binders functions f u ls bs a b c is used declared one two = record {
  uses_are =
      subst (λ ps. Gains ps a.uses c.uses)
      (append-nil (flat_map (use_pairs binders functions f) (map local_meaning ls)) ∙ ap (flat_map (use_pairs binders functions f)) used
      ∙ sym (ap (λ (o : Option Position). in_one o (λ p. flat_map (use_pairs binders functions p) u.used)) is)) all.uses_are;
  binds_are =
      subst (λ ps. Gains ps a.binds c.binds)
      (ap (bound_pairs binders functions f) declared ∙ sym (ap (λ (o : Option Position). in_one o (λ p. bound_pairs binders functions p u.declared)) is)) all.binds_are;
  calls_are =
      subst (λ ps. Gains ps a.users c.users)
      (append-nil (flat_map (call_pairs functions f) (map local_meaning ls)) ∙ ap (flat_map (call_pairs functions f)) used
      ∙ sym (ap (λ (o : Option Position). in_one o (λ p. flat_map (call_pairs functions p) u.used)) is)) all.calls_are;
}
  where
    all : Notes (flat_map (use_pairs binders functions f) (map local_meaning ls) ++ []) (bound_pairs binders functions f (map binder_meaning bs))
        (flat_map (call_pairs functions f) (map local_meaning ls) ++ []) a c
    all =
        notes_both (flat_map (use_pairs binders functions f) (map local_meaning ls)) [] [] (bound_pairs binders functions f (map binder_meaning bs))
        (flat_map (call_pairs functions f) (map local_meaning ls)) [] a b c one two

pub notes_outside : (binders : List Binder) (functions : List Position) (u : Usage) (a : Graph) → u.function ≡ None
    → Notes (uses_in binders functions u) (binds_in binders functions u) (calls_in functions u) a a
notes_outside binders functions u a is = record {
  uses_are = subst (λ ps. Gains ps a.uses a.uses) (sym (ap (λ (o : Option Position). in_one o (λ p. flat_map (use_pairs binders functions p) u.used)) is)) (gains_none a.uses);
  binds_are = subst (λ ps. Gains ps a.binds a.binds) (sym (ap (λ (o : Option Position). in_one o (λ p. bound_pairs binders functions p u.declared)) is)) (gains_none a.binds);
  calls_are = subst (λ ps. Gains ps a.users a.users) (sym (ap (λ (o : Option Position). in_one o (λ p. flat_map (call_pairs functions p) u.used)) is)) (gains_none a.users);
}

-- ---- a whole graph

pub graph_more : (binders : List Binder) (functions : List Position) (us : List Usage) (u : Usage) (a b : Graph) → IsGraph binders functions us a
    → Notes (uses_in binders functions u) (binds_in binders functions u) (calls_in functions u) a b → IsGraph binders functions (us ++ u ∷ []) b
graph_more binders functions us u a b is notes = record {
  uses_are =
      subst (λ ps. Holds (suc (length binders)) ps b.uses) (sym (one_more (uses_in binders functions) us u))
      (notes.uses_are (suc (length binders)) (flat_map (uses_in binders functions) us) is.uses_are);
  binds_are =
      subst (λ ps. Holds (suc (length binders)) ps b.binds) (sym (one_more (binds_in binders functions) us u))
      (notes.binds_are (suc (length binders)) (flat_map (binds_in binders functions) us) is.binds_are);
  calls_are =
      subst (λ ps. Holds (suc (length functions)) ps b.users) (sym (one_more (calls_in functions) us u))
      (notes.calls_are (suc (length functions)) (flat_map (calls_in functions) us) is.calls_are);
}

pub graph_next : (binders : List Binder) (functions : List Position) (us : List usages_found.Usage) (i : ℕ) (u : usages_found.Usage) (a b : Graph)
    → u ≡ get_or us i u → i < length us → IsGraph binders functions (usages_meaning (take i us)) a
    → Notes (uses_in binders functions (usage_meaning u)) (binds_in binders functions (usage_meaning u)) (calls_in functions (usage_meaning u)) a b
    → IsGraph binders functions (usages_meaning (take (i + 1) us)) b
graph_next binders functions us i u a b is low before notes =
    subst (λ ys. IsGraph binders functions ys b)
    (sym (ap usages_meaning (take_more us i u low ∙ ap (λ x. take i us ++ x ∷ []) (sym is)) ∙ map-append usage_meaning (take i us) (u ∷ [])))
    (graph_more binders functions (usages_meaning (take i us)) (usage_meaning u) a b before notes)

pub graph_end : (binders : List Binder) (functions : List Position) (us : List usages_found.Usage) (i : ℕ) (a : Graph) → length us ≤ i
    → IsGraph binders functions (usages_meaning (take i us)) a → IsGraph binders functions (usages_meaning us) a
graph_end binders functions us i a past before = subst (λ ys. IsGraph binders functions (usages_meaning ys) a) (take_all i us past) before
