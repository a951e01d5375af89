-- Imports that are looked at, one after another, up to the first that isn't done.
use Rattle.std.proofs.Common.{◌≡◌, ◌∙◌, ℕ, true, false, List, [], ◌∷◌, ◌++◌, Some, refl, sym, ap, subst, append_assoc}
use Rattle.std.proofs.lemmas.List.Elements.{All-head, All-nil, All-push, All-tail}
use Rattle.std.specs.List.{All}
use Rattle.cu_names.specs.declared.names.NameId.{NameId}
use Rattle.cu_names.specs.Texts.{IsKnown, text_of}
use Rattle.cu_modules.specs.declared.modules.Module.{Module}
use Rattle.cu_modules.specs.Inside.Frames.{Seeks, Skipped}
use Rattle.cu_modules.specs.Ordering.{modules_of}
use Rattle.cu_modules.specs.Walk.{is_there}

pub none_skipped : (names : List (List ℕ)) (done : List Module) (all : List NameId) → Skipped names done all all
none_skipped names done all = record { prefix = []; there = All-nil (λ id. is_there (modules_of names done) (text_of names id) ≡ true); whole = refl }

pub one_skipped : (names : List (List ℕ)) (done : List Module) (all left later : List NameId) (id : NameId) → left ≡ id ∷ later → is_there (modules_of names done) (text_of names id) ≡ true → Skipped names done all left
    → Skipped names done all later
one_skipped names done all left later id here there skipped = record {
  prefix = skipped.prefix ++ id ∷ [];
  there = All-push (λ id. is_there (modules_of names done) (text_of names id) ≡ true) skipped.prefix id skipped.there there;
  whole = skipped.whole ∙ ap (λ left. skipped.prefix ++ left) here ∙ sym (append_assoc skipped.prefix (id ∷ []) later);
}

pub one_sought : (names : List (List ℕ)) (done : List Module) (all left later : List NameId) (id : NameId) → left ≡ id ∷ later → is_there (modules_of names done) (text_of names id) ≡ false → Skipped names done all left
    → Seeks names done all (Some id) later
one_sought names done all left later id here new skipped = (subst (Skipped names done all) here skipped, new)

all_after : {X : Type 0} (P : X → Type 0) (prefix left : List X) → All P (prefix ++ left) → All P left
all_after P [] left h = h
all_after P (x ∷ prefix) left h = all_after P prefix left (All-tail P x (prefix ++ left) h)

-- those that are left
pub known_left : (names : List (List ℕ)) (done : List Module) (all left : List NameId) → All (IsKnown names) all → Skipped names done all left → All (IsKnown names) left
known_left names done all left known skipped = all_after (IsKnown names) skipped.prefix left (subst (All (IsKnown names)) skipped.whole known)

pub known_next : (names : List (List ℕ)) (done : List Module) (all left later : List NameId) (id : NameId) → left ≡ id ∷ later → All (IsKnown names) all → Skipped names done all left → IsKnown names id
known_next names done all left later id here known skipped = All-head (IsKnown names) id later (subst (All (IsKnown names)) here (known_left names done all left known skipped))
