-- Needs one before another, where those that wait are told in one list.
use Rattle.std.proofs.Common.{◌≡◌, ℕ, Bool, true, false, List, [], ◌∷◌, ◌++◌, refl, ap, sym, ◌∙◌, map, append-nil}
use Rattle.cu_machine.specs.Need.{Need, At, Dead, Done, Wait, all_free, before, first, unless_done, waiting}
use Rattle.cu_machine.specs.Places.{joined}
use Rattle.cu_machine.proofs.FirstLaws.{before_again, before_assoc, before_itself}
use Rattle.cu_step.specs.Inside.Walk.{Seen, Waited, also}

-- ---- first

pub first_append : (xs ys : List Need) → first (xs ++ ys) ≡ before (first xs) (first ys)
first_append [] ys = refl
first_append (x ∷ xs) ys = ap (before x) (first_append xs ys) ∙ sym (before_assoc x (first xs) (first ys))

pub before_done : (n : Need) → before n Done ≡ n
before_done (At id) = refl
before_done Dead = refl
before_done Done = refl
before_done (Wait ids) = refl

pub unless_nothing : (n : Need) → unless_done n Done ≡ n
unless_nothing (At id) = refl
unless_nothing Dead = refl
unless_nothing Done = refl
unless_nothing (Wait ids) = refl

pub unless_assoc : (a b c : Need) → unless_done (unless_done a b) c ≡ unless_done a (unless_done b c)
unless_assoc (At id) b c = refl
unless_assoc Dead b c = refl
unless_assoc Done b c = refl
unless_assoc (Wait ids) b c = refl

-- what isn't there doesn't ask what comes then
pub unless_there : (n e : Need) → (n ≡ Done → ⊥) → unless_done (unless_done n Done) e ≡ n
unless_there (At id) e not_there = refl
unless_there Dead e not_there = refl
unless_there Done e not_there = absurd (not_there refl)
unless_there (Wait ids) e not_there = refl

pub ends_at : (n : Need) (id : ℕ) → unless_done n (At id) ≡ Done → ⊥
ends_at (At other) id there = cc
ends_at Dead id there = cc
ends_at Done id there = cc
ends_at (Wait ids) id there = cc

-- ---- free variables

pub all_pass : (xs : List ℕ) → joined [] xs ≡ xs
all_pass [] = refl
all_pass (x ∷ xs) = ap (λ rest. x ∷ rest) (all_pass xs)

pub none_joined : (xs : List ℕ) → joined xs [] ≡ xs
none_joined xs = append-nil xs

pub waiting_joined : (xs ys : List ℕ) → waiting (joined xs ys) ≡ before (waiting xs) (waiting ys)
waiting_joined [] [] = refl
waiting_joined [] (y ∷ ys) = ap waiting (all_pass (y ∷ ys))
waiting_joined (x ∷ xs) [] = ap Wait (none_joined (x ∷ xs))
waiting_joined (x ∷ xs) (y ∷ ys) = refl

pub waiting_all : (part : ℕ → List ℕ) (ids : List ℕ) → waiting (all_free part ids) ≡ first (map (λ id. waiting (part id)) ids)
waiting_all part [] = refl
waiting_all part (id ∷ ids) = waiting_joined (part id) (all_free part ids) ∙ ap (before (waiting (part id))) (waiting_all part ids)

-- ---- what was told before

pub also_waits : (waits : Bool) (n : Need) → also waits (before (Wait []) n) ≡ also true n
also_waits false (At id) = refl
also_waits false Dead = refl
also_waits false Done = refl
also_waits false (Wait ids) = ap Wait (all_pass ids)
also_waits true (At id) = refl
also_waits true Dead = refl
also_waits true Done = refl
also_waits true (Wait ids) = ap Wait (all_pass ids)

-- two needs that come to the same, where this was told
abbrev pub Same : Need → Need → Need → Type 0
Same so_far Done Done = Unit {0}
Same so_far Dead Dead = Unit {0}
Same so_far (At id) (At other) = id ≡ other
Same so_far (Wait ids) (Wait others) = before so_far (Wait ids) ≡ before so_far (Wait others)
Same so_far _ _ = ⊥

pub same_itself : (so_far n : Need) → Same so_far n n
same_itself so_far (At id) = refl
same_itself so_far Dead = tt
same_itself so_far Done = tt
same_itself so_far (Wait ids) = refl

pub same_told : (so_far n m : Need) → Same so_far n m → before so_far n ≡ before so_far m
same_told so_far Done Done same = refl
same_told so_far Dead Dead same = refl
same_told so_far (At id) (At other) same = ap (λ x. before so_far (At x)) same
same_told so_far (Wait ids) (Wait others) same = same
same_told so_far _ _ same = absurd same

pub same_before : (so_far n m r : Need) → Same so_far n m → Same so_far (before n r) (before m r)
same_before so_far Done Done r same = same_itself so_far r
same_before so_far Dead Dead r same = tt
same_before so_far (At id) (At other) r same = same
same_before so_far (Wait ids) (Wait others) Done same = same
same_before so_far (Wait ids) (Wait others) Dead same = tt
same_before so_far (Wait ids) (Wait others) (At id) same = refl
same_before so_far (Wait ids) (Wait others) (Wait more) same =
    sym (before_assoc so_far (Wait ids) (Wait more)) ∙ ap (λ n. before n (Wait more)) same ∙ before_assoc so_far (Wait others) (Wait more)
same_before so_far _ _ r same = absurd same

pub same_also : (so_far n m : Need) (waits : Bool) → Same so_far n m → Same so_far (also waits n) (also waits m)
same_also so_far n m false same = same
same_also so_far Done Done true same = refl
same_also so_far Dead Dead true same = tt
same_also so_far (At id) (At other) true same = same
same_also so_far (Wait ids) (Wait others) true same = same
same_also so_far _ _ true same = absurd same

pub same_unless : (so_far n m r : Need) → Same so_far n m → Same so_far (unless_done n r) (unless_done m r)
same_unless so_far Done Done r same = same_itself so_far r
same_unless so_far Dead Dead r same = tt
same_unless so_far (At id) (At other) r same = same
same_unless so_far (Wait ids) (Wait others) r same = same
same_unless so_far _ _ r same = absurd same

-- ---- what begins with a wait

pub begins_before : (ids : List ℕ) (n r : Need) → before (Wait ids) n ≡ n → before (Wait ids) (before n r) ≡ before n r
begins_before ids n r begins = sym (before_assoc (Wait ids) n r) ∙ ap (λ m. before m r) begins

pub begins_also : (ids : List ℕ) (n : Need) (waits : Bool) → before (Wait ids) n ≡ n → before (Wait ids) (also waits n) ≡ also waits n
begins_also ids n false begins = begins
begins_also ids (At id) true begins = refl
begins_also ids Dead true begins = refl
begins_also ids Done true begins = let no : ⊥ = cc in absurd no
begins_also ids (Wait others) true begins = begins

pub begins_unless : (ids : List ℕ) (n r : Need) → before (Wait ids) n ≡ n → before (Wait ids) (unless_done n r) ≡ unless_done n r
begins_unless ids (At id) r begins = refl
begins_unless ids Dead r begins = refl
begins_unless ids Done r begins = let no : ⊥ = cc in absurd no
begins_unless ids (Wait others) r begins = begins

pub told_again : (so_far : Need) (ids : List ℕ) → before (before so_far (Wait ids)) (Wait []) ≡ before (before so_far (Wait ids)) (Wait ids)
told_again so_far ids =
    before_assoc so_far (Wait ids) (Wait [])
    ∙ ap (before so_far) (ap Wait (none_joined ids) ∙ sym (before_itself (Wait ids)))
    ∙ sym (before_assoc so_far (Wait ids) (Wait ids))

-- ---- what is known

-- what adds nothing goes on to do so where more is told
pub known_later : (so_far n more : Need) → before so_far n ≡ so_far → before (before so_far more) n ≡ before so_far more
known_later so_far n more known =
    ap (λ m. before (before m more) n) (sym known)
    ∙ ap (λ m. before m n) (before_assoc so_far n more)
    ∙ before_assoc so_far (before n more) n
    ∙ ap (before so_far) (before_assoc n more n ∙ before_again n more)
    ∙ sym (before_assoc so_far n more)
    ∙ ap (λ m. before m more) known

pub known_both : (so_far m n : Need) → before so_far m ≡ so_far → before (before so_far n) (before m n) ≡ before so_far n
known_both so_far m n known =
    ap (λ a. before (before a n) (before m n)) (sym known)
    ∙ ap (λ a. before a (before m n)) (before_assoc so_far m n)
    ∙ before_assoc so_far (before m n) (before m n)
    ∙ ap (before so_far) (before_itself (before m n))
    ∙ sym (before_assoc so_far m n)
    ∙ ap (λ a. before a n) known

pub known_itself : (so_far n : Need) → before (before so_far n) n ≡ before so_far n
known_itself so_far n = before_assoc so_far n n ∙ ap (before so_far) (before_itself n)

pub waited_later : (so_far n more : Need) → Waited so_far n → Waited (before so_far more) n
waited_later so_far n more waits = record { ids = waits.ids; is = waits.is; known = known_later so_far n more waits.known }

pub seen_later : (so_far n more : Need) (waits : Bool) → Seen so_far waits n → Seen (before so_far more) waits n
seen_later so_far n more false seen = seen
seen_later so_far n more true seen = waited_later so_far n more seen

join_waits : (m n : Need) (xs ys : List ℕ) → m ≡ Wait xs → n ≡ Wait ys → before m n ≡ Wait (joined xs ys)
join_waits m n xs ys p q = rw (p, q) refl

-- where one of several needs waits, all of them do
pub seen_wait : (so_far m n : Need) (waits : Bool) (ids : List ℕ) → Seen so_far waits m → n ≡ Wait ids → Waited (before so_far n) (before m n)
seen_wait so_far m n false ids seen is = record {
  ids = ids;
  is = ap (λ a. before a n) seen ∙ is;
  known = ap (λ a. before (before so_far n) (before a n)) seen ∙ known_itself so_far n;
}
seen_wait so_far m n true ids seen is = record { ids = joined seen.ids ids; is = join_waits m n seen.ids ids seen.is is; known = known_both so_far m n seen.known }
