-- Names of tuples in a table of names.
use Rattle.std.proofs.Common.{◌≡◌, ◌∙◌, ◌+◌, ◌-◌, ◌<◌, ◌≤◌, ℕ, zero, suc, Bool, true, false, List, [], ◌∷◌, ◌++◌, Option, None, Some, refl, sym, ap, subst, arith, get_or, length, length-drop, drop, if◌then◌else◌}
use Rattle.std.proofs.lemmas.Bool.{both_ways}
use Rattle.std.proofs.lemmas.Bool.Decides.{Decides-eqb}
use Rattle.std.proofs.lemmas.List.{drop_more}
use Rattle.std.proofs.lemmas.Option.{slice_get-get_or}
use Rattle.std.specs.Prelude.{IfSome, codes, nat_eq, slice_get}
use Rattle.cu_modules.specs.BuiltInEntities.{commas}
use Rattle.cu_names.specs.declared.names.NameId.{NameId}
use Rattle.cu_toplevel.specs.Inside.Commas.{and_tuple, closed, commas_in, commas_of}
use Rattle.cu_toplevel.specs.TupleTables.{IsFound, tuple_text}

-- ---- texts

abbrev Ends : ℕ → ℕ → List ℕ → Type 0
Ends n m bs = (k : ℕ) × (m ≡ n + k) × (bs ≡ commas k ++ codes ")")

ends_more : (n m b : ℕ) (bs : List ℕ) → b ≡ 44 → Ends (n + 1) m bs → Ends n m (b ∷ bs)
ends_more n m b bs is ends =
    let count : m ≡ n + suc ends.0 = ends.1 ∙ omega arith in
    (suc ends.0, count, λ j. is j ∷ ends.2 j)

ends_here : (n m b : ℕ) (bs : List ℕ) → closed n b bs ≡ Some m → Ends n m (b ∷ bs)
ends_here n m b [] is = by (nat_eq b 41) refl is
  where
    by : (h : Bool) → nat_eq b 41 ≡ h → (if h then Some n else None) ≡ Some m → Ends n m (b ∷ [])
    by true here is =
        let same : n ≡ m = cc in
        let count : m ≡ n + 0 = omega (arith, same) in
        (0, count, λ j. (Decides-eqb b 41).0 here j ∷ [])
    by false here is = let no : ⊥ = cc in absurd no
ends_here n m b (c ∷ bs) is = let no : ⊥ = cc in absurd no

sound : (n m : ℕ) (bs : List ℕ) → commas_in n bs ≡ Some m → Ends n m bs
sound n m [] is = let no : ⊥ = cc in absurd no
sound n m (b ∷ bs) is = by (sound (n + 1) m bs) (nat_eq b 44) refl is
  where
    by : (commas_in (n + 1) bs ≡ Some m → Ends (n + 1) m bs) → (h : Bool) → nat_eq b 44 ≡ h → (if h then commas_in (n + 1) bs else closed n b bs) ≡ Some m → Ends n m (b ∷ bs)
    by more true here is = ends_more n m b bs ((Decides-eqb b 44).0 here) (more is)
    by more false here is = ends_here n m b bs is

complete : (k n : ℕ) → commas_in n (commas k ++ codes ")") ≡ Some (n + k)
complete zero n = ap Some (omega arith)
complete (suc k) n = complete k (n + 1) ∙ ap Some (omega arith)

pub text_is : (text : List ℕ) (n : ℕ) → commas_of text ≡ Some n → text ≡ tuple_text n
text_is [] n is = let no : ⊥ = cc in absurd no
text_is (b ∷ bs) n is = by (nat_eq b 40) refl is
  where
    by : (h : Bool) → nat_eq b 40 ≡ h → (if h then commas_in 0 bs else None) ≡ Some n → b ∷ bs ≡ tuple_text n
    by true here is =
        let ends = sound 0 n bs is in
        let count : ends.0 ≡ n = omega (arith, ends.1) in
        λ j. (Decides-eqb b 40).0 here j ∷ (ends.2 ∙ ap (λ k. commas k ++ codes ")") count) j
    by false here is = let no : ⊥ = cc in absurd no

tuple_is : (n : ℕ) → commas_of (tuple_text n) ≡ Some n
tuple_is n = complete n 0 ∙ ap Some (omega arith)

-- ---- the loop over bytes

drop_none : (xs : List ℕ) (i : ℕ) → length xs ≤ i → drop i xs ≡ []
drop_none [] zero past = refl
drop_none [] (suc i) past = refl
drop_none (x ∷ xs) zero past = let no : ⊥ = omega (arith, past) in absurd no
drop_none (x ∷ xs) (suc i) past = drop_none xs i (omega (arith, past))

pub no_end : (bs : List ℕ) (i : ℕ) → length bs ≤ i → commas_in i (drop i bs) ≡ commas_in 0 bs → None ≡ commas_in 0 bs
no_end bs i past left = sym (ap (commas_in i) (drop_none bs i past)) ∙ left

pub comma_goes_on : (bs : List ℕ) (i : ℕ) → i < length bs → get_or bs i 0 ≡ 44 → commas_in i (drop i bs) ≡ commas_in 0 bs → commas_in (i + 1) (drop (i + 1) bs) ≡ commas_in 0 bs
comma_goes_on bs i within is left =
    sym (ap (λ b. if nat_eq b 44 then commas_in (i + 1) (drop (i + 1) bs) else closed i b (drop (i + 1) bs)) is) ∙ sym (ap (commas_in i) (drop_more bs i 0 within)) ∙ left

-- a byte that is no comma is the last, or there are no commas alone
pub comma_ends : (bs : List ℕ) (i : ℕ) (made : Option ℕ) → i < length bs → (get_or bs i 0 ≡ 44 → ⊥)
    → ((rest : List ℕ) → length bs - i - 1 ≡ length rest → made ≡ closed i (get_or bs i 0) rest) → commas_in i (drop i bs) ≡ commas_in 0 bs → made ≡ commas_in 0 bs
comma_ends bs i made within other is left =
    let b = get_or bs i 0 in
    let rest = drop (i + 1) bs in
    is rest (omega (arith, length-drop (i + 1) bs)) ∙ by b rest (nat_eq b 44) other refl ∙ sym (ap (commas_in i) (drop_more bs i 0 within)) ∙ left
  where
    by : (b : ℕ) (rest : List ℕ) (h : Bool) → (b ≡ 44 → ⊥) → nat_eq b 44 ≡ h → closed i b rest ≡ (if h then commas_in (i + 1) rest else closed i b rest)
    by b rest true other here = absurd (other ((Decides-eqb b 44).0 here))
    by b rest false other here = refl

-- ---- tables

pub record UpTo (names : List (List ℕ)) (i : ℕ) (found : ℕ → Option NameId) : Type 0 where
  pub is : (k : ℕ) → IfSome (found k) (λ id. slice_get names id.0 ≡ Some (tuple_text k))
  pub absent : (k : ℕ) → found k ≡ None → (j : ℕ) → j < i → ¬ (slice_get names j ≡ Some (tuple_text k))

pub none_yet : (names : List (List ℕ)) (found : ℕ → Option NameId) → ((k : ℕ) → found k ≡ None) → UpTo names 0 found
none_yet names found none = record {
  is = λ k. subst (λ (o : Option NameId). IfSome o (λ id. slice_get names id.0 ≡ Some (tuple_text k))) (sym (none k)) tt;
  absent = λ k is j within there. let no : ⊥ = omega (arith, within) in absurd no;
}

pub one_more : (names : List (List ℕ)) (i : ℕ) (text : List ℕ) (old new : ℕ → Option NameId) → slice_get names i ≡ Some text
    → ((k : ℕ) → new k ≡ and_tuple (commas_of text) (record { 0 = i }) k (old k)) → UpTo names i old → UpTo names (i + 1) new
one_more names i text old new at updates before = record {
  is = λ k. subst (λ (o : Option NameId). IfSome o (λ id. slice_get names id.0 ≡ Some (tuple_text k))) (sym (updates k)) (is_by k (commas_of text) refl);
  absent = λ k none j within there. absent_by k (commas_of text) refl (sym (updates k) ∙ none) j within there;
}
  where
    id : NameId
    id = record { 0 = i }

    is_some : (k n : ℕ) → commas_of text ≡ Some n → (h : Bool) → nat_eq n k ≡ h → IfSome (if h then Some id else old k) (λ id. slice_get names id.0 ≡ Some (tuple_text k))
    is_some k n counted true here = at ∙ ap Some (text_is text n counted ∙ ap tuple_text ((Decides-eqb n k).0 here))
    is_some k n counted false here = before.is k

    is_by : (k : ℕ) (c : Option ℕ) → commas_of text ≡ c → IfSome (and_tuple c id k (old k)) (λ id. slice_get names id.0 ≡ Some (tuple_text k))
    is_by k None counted = before.is k
    is_by k (Some n) counted = is_some k n counted (nat_eq n k) refl

    other_count : (k : ℕ) (c : Option ℕ) → commas_of text ≡ c → text ≡ tuple_text k → c ≡ Some k
    other_count k c counted is = sym counted ∙ ap commas_of is ∙ tuple_is k

    here_not : (k : ℕ) → old k ≡ None → (j : ℕ) → j < i + 1 → (text ≡ tuple_text k → ⊥) → slice_get names j ≡ Some (tuple_text k) → ⊥
    here_not k none j within not there = by (nat_eq j i) refl
      where
        by : (h : Bool) → nat_eq j i ≡ h → ⊥
        by true here =
            let same : j ≡ i = (Decides-eqb j i).0 here in
            let e : Some text ≡ Some (tuple_text k) = sym at ∙ ap (slice_get names) (sym same) ∙ there in
            let texts : text ≡ tuple_text k = cc in
            not texts
        by false here =
            let differ : j ≡ i → ⊥ = λ e. both_ways (nat_eq j i) here ((Decides-eqb j i).1 e) in
            before.absent k none j (omega (arith, within, differ)) there

    absent_some : (k n : ℕ) → commas_of text ≡ Some n → (h : Bool) → nat_eq n k ≡ h → (if h then Some id else old k) ≡ None → (j : ℕ) → j < i + 1 → slice_get names j ≡ Some (tuple_text k) → ⊥
    absent_some k n counted true here none j within there = let no : ⊥ = cc in absurd no
    absent_some k n counted false here none j within there =
        here_not k none j within (λ is.
        let e = other_count k (Some n) counted is in
        let same : n ≡ k = cc in
        both_ways (nat_eq n k) here ((Decides-eqb n k).1 same)) there

    absent_by : (k : ℕ) (c : Option ℕ) → commas_of text ≡ c → and_tuple c id k (old k) ≡ None → (j : ℕ) → j < i + 1 → slice_get names j ≡ Some (tuple_text k) → ⊥
    absent_by k None counted none j within there =
        here_not k none j within (λ is. let e = other_count k None counted is in let no : ⊥ = cc in no) there
    absent_by k (Some n) counted none j within there = absent_some k n counted (nat_eq n k) refl none j within there

pub all_found : (names : List (List ℕ)) (i : ℕ) (found : ℕ → Option NameId) → length names ≤ i → UpTo names i found → (k : ℕ) → IsFound names (tuple_text k) (found k)
all_found names i found done all k = record {
  is = all.is k;
  absent = λ none has. all.absent k none has.0 (omega (arith, done, has.1)) (slice_get-get_or names has.0 (tuple_text k) has.1 ∙ ap Some has.2);
}
