-- What modules on the path come to, as the innermost goes on.
use Rattle.std.proofs.Common.{◌≡◌, ◌∙◌, ◌||◌, inl, inr, ℕ, Bool, true, false, List, [], ◌∷◌, ◌++◌, Some, Option, Ok, Err, Result, refl, sym, ap, subst, append_assoc, append-nil}
use Rattle.std.proofs.lemmas.List.Elements.{All-append, All-head, All-push, All-tail, All-weaker}
use Rattle.std.proofs.lemmas.Slice.Eq.{bytes_eq-Decides}
use Rattle.std.specs.List.{All}
use Rattle.std.specs.Str.{bytes_eq}
use Rattle.cu_uses.specs.Binders.{is_among}
use Rattle.cu_modules.specs.Inside.Frames.{ArePending, Finishes, IsPending, Open, named_of, path_of}
use Rattle.cu_modules.specs.Scopes.{Named}
use Rattle.cu_modules.specs.Texts.{IsRead}
use Rattle.cu_modules.specs.Walk.{IsOpen, Refusal, VisitAll, Visits, done, import_names, is_there, next, no_more, refused, source, stopped, visited}
use Rattle.cu_modules.proofs.StandsLemmas.{among_push}

-- ---- imports that are done

done_first : (held : List ℕ → Option (List ℕ)) (path : List (List ℕ)) (before : List Named) (prefix names : List (List ℕ)) (outcome : Result (List Named) Refusal) → All (λ text. is_there before text ≡ true) prefix
    → VisitAll held path before names outcome → VisitAll held path before (prefix ++ names) outcome
done_first held path before [] names outcome there h = h
done_first held path before (text ∷ prefix) names outcome there h =
    next path before before text (prefix ++ names) outcome (done path before text (All-head (λ text. is_there before text ≡ true) text prefix there))
    (done_first held path before prefix names outcome (All-tail (λ text. is_there before text ≡ true) text prefix there) h)

all_done : (held : List ℕ → Option (List ℕ)) (path : List (List ℕ)) (before : List Named) (names : List (List ℕ)) → All (λ text. is_there before text ≡ true) names → VisitAll held path before names (Ok before)
all_done held path before names there =
    subst (λ (all : List (List ℕ)). VisitAll held path before all (Ok before)) (append-nil names) (done_first held path before names [] (Ok before) there (no_more path before))

-- ---- a module that comes to the path

-- Its text is read, and none of its imports is looked at.
pub record IsBegun (held : List ℕ → Option (List ℕ)) (path : List (List ℕ)) (before : List Named) (m : Open) : Type 0 where
  pub is_open : IsOpen path before m.name
  pub text : List ℕ
  pub is : source held m.name ≡ Some text
  pub read : IsRead m.name text (Ok m.syntax)
  pub imports : import_names (named_of m) ≡ m.left

all_refused : (held : List ℕ → Option (List ℕ)) (path : List (List ℕ)) (before : List Named) (m : Open) (refusal : Refusal) → IsBegun held path before m → VisitAll held (path ++ m.name ∷ []) before m.left (Err refusal)
    → Visits held path before m.name (Err refusal)
all_refused held path before m refusal begun h =
    refused path before m.name begun.text m.syntax refusal begun.is_open begun.is begun.read
    (subst (λ (names : List (List ℕ)). VisitAll held (path ++ m.name ∷ []) before names (Err refusal)) (sym begun.imports) h)

all_visited : (held : List ℕ → Option (List ℕ)) (path : List (List ℕ)) (before after : List Named) (m : Open) → IsBegun held path before m → VisitAll held (path ++ m.name ∷ []) before m.left (Ok after)
    → Visits held path before m.name (Ok (after ++ named_of m ∷ []))
all_visited held path before after m begun h =
    visited path before after m.name begun.text m.syntax begun.is_open begun.is begun.read
    (subst (λ (names : List (List ℕ)). VisitAll held (path ++ m.name ∷ []) before names (Ok after)) (sym begun.imports) h)

pub finishes_first : (held : List ℕ → Option (List ℕ)) (base : List (List ℕ)) (before : List Named) (m : Open) (outcome : Result (List Named) Refusal) → IsBegun held base before m → Finishes held base (m ∷ []) before outcome
    → Visits held base before m.name outcome
finishes_first held base before m outcome begun (inl stops) = subst (λ (o : Result (List Named) Refusal). Visits held base before m.name o) (sym stops.is) (all_refused held base before m stops.refusal begun stops.refused)
finishes_first held base before m outcome begun (inr ends) = subst (λ (o : Result (List Named) Refusal). Visits held base before m.name o) (sym ends.rest) (all_visited held base before ends.after m begun ends.visited)

-- an import that isn't done, after those that are
import_refused : (held : List ℕ → Option (List ℕ)) (path : List (List ℕ)) (before : List Named) (all prefix later : List (List ℕ)) (name : List ℕ) (refusal : Refusal) → all ≡ prefix ++ name ∷ later
    → All (λ text. is_there before text ≡ true) prefix → Visits held path before name (Err refusal) → VisitAll held path before all (Err refusal)
import_refused held path before all prefix later name refusal whole there h =
    subst (λ (names : List (List ℕ)). VisitAll held path before names (Err refusal)) (sym whole)
    (done_first held path before prefix (name ∷ later) (Err refusal) there (stopped path before name later refusal h))

import_visited : (held : List ℕ → Option (List ℕ)) (path : List (List ℕ)) (before after : List Named) (all prefix later : List (List ℕ)) (name : List ℕ) (outcome : Result (List Named) Refusal) → all ≡ prefix ++ name ∷ later
    → All (λ text. is_there before text ≡ true) prefix → Visits held path before name (Ok after) → VisitAll held path after later outcome → VisitAll held path before all outcome
import_visited held path before after all prefix later name outcome whole there h rest =
    subst (λ (names : List (List ℕ)). VisitAll held path before names outcome) (sym whole)
    (done_first held path before prefix (name ∷ later) outcome there (next path before after name later outcome h rest))

pub finishes_refused : (held : List ℕ → Option (List ℕ)) (base : List (List ℕ)) (before : List Named) (m : Open) (outer : List Open) (prefix later : List (List ℕ)) (name : List ℕ) (refusal : Refusal) → m.left ≡ prefix ++ name ∷ later
    → All (λ text. is_there before text ≡ true) prefix → Visits held (path_of base outer ++ m.name ∷ []) before name (Err refusal) → Finishes held base (m ∷ outer) before (Err refusal)
finishes_refused held base before m outer prefix later name refusal whole there h =
    inl (record { refusal = refusal; is = refl; refused = import_refused held (path_of base outer ++ m.name ∷ []) before m.left prefix later name refusal whole there h })

pub finishes_inside : (held : List ℕ → Option (List ℕ)) (base : List (List ℕ)) (before : List Named) (inner m : Open) (outer : List Open) (prefix later : List (List ℕ)) (outcome : Result (List Named) Refusal) → m.left ≡ prefix ++ inner.name ∷ later
    → All (λ text. is_there before text ≡ true) prefix → IsBegun held (path_of base outer ++ m.name ∷ []) before inner
    → Finishes held base (inner ∷ record { name = m.name; syntax = m.syntax; left = later } ∷ outer) before outcome → Finishes held base (m ∷ outer) before outcome
finishes_inside held base before inner m outer prefix later outcome whole there begun (inl stops) =
    let path = path_of base outer ++ m.name ∷ [] in
    inl (record { refusal = stops.refusal; is = stops.is; refused = import_refused held path before m.left prefix later inner.name stops.refusal whole there (all_refused held path before inner stops.refusal begun stops.refused) })
finishes_inside held base before inner m outer prefix later outcome whole there begun (inr ends) =
    suffix held base before inner m outer prefix later outcome ends.after whole there (all_visited held (path_of base outer ++ m.name ∷ []) before ends.after inner begun ends.visited) ends.rest
  where
    suffix : (held : List ℕ → Option (List ℕ)) (base : List (List ℕ)) (before : List Named) (inner m : Open) (outer : List Open) (prefix later : List (List ℕ)) (outcome : Result (List Named) Refusal) (after : List Named) → m.left ≡ prefix ++ inner.name ∷ later
        → All (λ text. is_there before text ≡ true) prefix → Visits held (path_of base outer ++ m.name ∷ []) before inner.name (Ok (after ++ named_of inner ∷ []))
        → Finishes held base (record { name = m.name; syntax = m.syntax; left = later } ∷ outer) (after ++ named_of inner ∷ []) outcome → Finishes held base (m ∷ outer) before outcome
    suffix held base before inner m outer prefix later outcome after whole there went (inl stops) =
        let path = path_of base outer ++ m.name ∷ [] in
        inl (record {
          refusal = stops.refusal;
          is = stops.is;
          refused = import_visited held path before (after ++ named_of inner ∷ []) m.left prefix later inner.name (Err stops.refusal) whole there went stops.refused;
        })
    suffix held base before inner m outer prefix later outcome after whole there went (inr ends) =
        let path = path_of base outer ++ m.name ∷ [] in
        inr (record {
          after = ends.after;
          visited = import_visited held path before (after ++ named_of inner ∷ []) m.left prefix later inner.name (Ok ends.after) whole there went ends.visited;
          rest = ends.rest;
        })

-- ---- a module that leaves the path

pub finishes_outside : (held : List ℕ → Option (List ℕ)) (base : List (List ℕ)) (before : List Named) (m : Open) (outer : List Open) (outcome : Result (List Named) Refusal) → All (λ text. is_there before text ≡ true) m.left
    → Finishes held base outer (before ++ named_of m ∷ []) outcome → Finishes held base (m ∷ outer) before outcome
finishes_outside held base before m outer outcome there h =
    inr (record { after = before; visited = all_done held (path_of base outer ++ m.name ∷ []) before m.left there; rest = h })

-- ---- what is met

itself : (text : List ℕ) → bytes_eq text text ≡ true
itself text = (bytes_eq-Decides text text).1 refl

or_true : (b : Bool) → (b || true) ≡ true
or_true true = refl
or_true false = refl

pub among_last : (met : List (List ℕ)) (text : List ℕ) → is_among (met ++ text ∷ []) text ≡ true
among_last met text = among_push met text text ∙ ap (λ b. is_among met text || b) (itself text) ∙ or_true (is_among met text)

among_more : (met : List (List ℕ)) (name text : List ℕ) → is_among met text ≡ true → is_among (met ++ name ∷ []) text ≡ true
among_more met name text h = among_push met name text ∙ ap (λ b. b || bytes_eq text name) h

among_kept : (met more : List (List ℕ)) (name : List ℕ) → ((text : List ℕ) → is_among met text ≡ true → is_among more text ≡ true) → (text : List ℕ) → is_among (met ++ name ∷ []) text ≡ true → is_among (more ++ name ∷ []) text ≡ true
among_kept met more name go text h = among_push more name text ∙ by (is_among met text) (is_among more text) (bytes_eq text name) (go text) (sym (among_push met name text) ∙ h)
  where
    by : (a b c : Bool) → (a ≡ true → b ≡ true) → (a || c) ≡ true → (b || c) ≡ true
    by a true c go h = refl
    by true false c go h = ap (λ b. b || c) (go refl)
    by false false c go h = h

pending_more : (base : List (List ℕ)) (root : List ℕ) (met more : List (List ℕ)) (outer : List Open) → ((text : List ℕ) → is_among met text ≡ true → is_among more text ≡ true) → ArePending base root met outer → ArePending base root more outer
pending_more base root met more [] go h = go root h
pending_more base root met more (m ∷ outer) go h = (
  record {
    prefix = h.0.prefix;
    imports = h.0.imports;
    there = All-weaker (λ text. is_among met text ≡ true) (λ text. is_among more text ≡ true) go h.0.prefix h.0.there;
    new = h.0.new;
    own = h.0.own;
  },
  pending_more base root (met ++ m.name ∷ []) (more ++ m.name ∷ []) outer (among_kept met more m.name go) h.1,
)

pub pending_inside : (base : List (List ℕ)) (root : List ℕ) (met : List (List ℕ)) (inner m : Open) (outer : List Open) (prefix later : List (List ℕ)) → m.left ≡ prefix ++ inner.name ∷ later → All (λ text. is_among met text ≡ true) prefix
    → IsPending (path_of base outer ++ m.name ∷ []) met inner → ArePending base root met (m ∷ outer)
    → ArePending base root met (inner ∷ record { name = m.name; syntax = m.syntax; left = later } ∷ outer)
pending_inside base root met inner m outer prefix later whole there pending h =
    let more = met ++ inner.name ∷ [] in
    let done = h.0.prefix ++ prefix in (
      pending,
      (
        record {
          prefix = done ++ inner.name ∷ [];
          imports =
              h.0.imports ∙ ap (λ left. h.0.prefix ++ left) whole ∙ sym (append_assoc h.0.prefix prefix (inner.name ∷ later))
              ∙ sym (append_assoc done (inner.name ∷ []) later);
          there = All-push (λ text. is_among more text ≡ true) done inner.name
              (All-weaker (λ text. is_among met text ≡ true) (λ text. is_among more text ≡ true) (among_more met inner.name) done (All-append (λ text. is_among met text ≡ true) h.0.prefix prefix h.0.there there))
              (among_last met inner.name);
          new = h.0.new;
          own = h.0.own;
        },
        pending_more base root (met ++ m.name ∷ []) (more ++ m.name ∷ []) outer (among_kept met more m.name (among_more met inner.name)) h.1,
      ),
    )

-- all imports of a module whose last ones are met
pub imports_met : (path met : List (List ℕ)) (m : Open) → IsPending path met m → All (λ text. is_among met text ≡ true) m.left → All (λ text. is_among met text ≡ true) (import_names (named_of m))
imports_met path met m pending there =
    subst (All (λ text. is_among met text ≡ true)) (sym pending.imports) (All-append (λ text. is_among met text ≡ true) pending.prefix m.left pending.there there)
