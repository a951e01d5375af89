-- The numbers of the variables of a type that is numbered: no greater than how often variables stand
-- in it, and so no greater than how long its text is.
use Rattle.std.proofs.Common.{◌≡◌, ℕ, zero, suc, ◌+◌, ◌≤◌, ◌<◌, Bool, true, false, List, [], ◌∷◌, ◌++◌, All, codes, not, get_or, if◌then◌else◌, length, nat_eq, refl, sym, subst, arith}
use Rattle.std.proofs.lemmas.List.{length-append}
use Rattle.std.proofs.lemmas.List.Sums.{prefix_len-le-length}
use Rattle.std.specs.List.{position_or_len}
use Rattle.cu_calculus.specs.Valid.{holds}
use Rattle.cu_flatlaws.proofs.Lengths.{in_back, in_both, in_brackets, in_front}
use Rattle.cu_flatlaws.proofs.TypeVariables.{AllBelow, Below}
use Rattle.cu_flatlaws.specs.PrintedTypes.{as_written, entity, printed_types, written_type}
use Rattle.cu_flatlaws.specs.Readable.{IsNumbered}
use Rattle.cu_flatread.specs.Modules as m
use Rattle.cu_flatread.specs.Notation.{Entity, entity_text, further, in_parentheses, list_text, separated}
use Rattle.cu_flatread.specs.Text.{type_text, type_texts}
use Rattle.cu_flattext.specs.Naming.{Lowered, type_entity}
use Rattle.cu_kernel.specs.TypeExpr as type
use Rattle.cu_kernel.specs.TypeExpr.{TypeExpr, TypeExprs}
use Rattle.cu_kernel.specs.declared.type_term.TypeName.TheVariants as named
use Rattle.cu_types.specs.Numbered.{all_noted, by_place, noted, numbered, variables_in, variables_in_all}
use Rattle.cu_types.specs.Types.{apply, apply_all}

-- ---- numbers are places

place_within : (test : ℕ → Bool) (xs : List ℕ) → position_or_len test xs ≤ length xs
place_within test xs = prefix_len-le-length (λ (x : ℕ). not (test x)) xs

noted_few : (xs : List ℕ) (x : ℕ) → length (noted xs x) ≤ suc (length xs)
noted_few xs x = by_test (holds x xs)
  where
    by_test : (t : Bool) → length (if t then xs else xs ++ x ∷ []) ≤ suc (length xs)
    by_test true = omega arith
    by_test false = omega (arith, length-append xs (x ∷ []))

all_noted_few : (xs ys : List ℕ) → length (all_noted xs ys) ≤ length xs + length ys
all_noted_few xs [] = omega arith
all_noted_few xs (y ∷ ys) = omega (arith, all_noted_few (noted xs y) ys, noted_few xs y)

mutual
  places_below : (xs : List ℕ) (n : ℕ) (t : TypeExpr) → length xs < n → Below n (apply (by_place xs) t)
  places_below xs n (type.Variable x) few = omega (arith, few, place_within (nat_eq x) xs)
  places_below xs n (type.Arrow a b) few = (places_below xs n a few, places_below xs n b few)
  places_below xs n (type.Named e ts) few = all_places_below xs n ts few

  all_places_below : (xs : List ℕ) (n : ℕ) (ts : TypeExprs) → length xs < n → AllBelow n (apply_all (by_place xs) ts)
  all_places_below xs n type.NoType few = tt
  all_places_below xs n (type.MoreTypes t ts) few = (places_below xs n t few, all_places_below xs n ts few)

mutual
  as_many : (xs : List ℕ) (t : TypeExpr) → length (variables_in (apply (by_place xs) t)) ≡ length (variables_in t)
  as_many xs (type.Variable x) = refl
  as_many xs (type.Arrow a b) =
      omega (
        arith,
        length-append (variables_in (apply (by_place xs) a)) (variables_in (apply (by_place xs) b)),
        length-append (variables_in a) (variables_in b),
        as_many xs a,
        as_many xs b,
      )
  as_many xs (type.Named e ts) = all_as_many xs ts

  all_as_many : (xs : List ℕ) (ts : TypeExprs)
      → length (variables_in_all (apply_all (by_place xs) ts)) ≡ length (variables_in_all ts)
  all_as_many xs type.NoType = refl
  all_as_many xs (type.MoreTypes t ts) =
      omega (
        arith,
        length-append (variables_in (apply (by_place xs) t)) (variables_in_all (apply_all (by_place xs) ts)),
        length-append (variables_in t) (variables_in_all ts),
        as_many xs t,
        all_as_many xs ts,
      )

-- the numbers of a numbered type are no greater than how often variables stand in it
numbers_below : (t : TypeExpr) → Below (suc (length (variables_in (numbered t)))) (numbered t)
unfolding numbered
numbers_below t =
    let xs = all_noted [] (variables_in t) in
    places_below xs (suc (length (variables_in (apply (by_place xs) t)))) t
    (omega (arith, all_noted_few [] (variables_in t), as_many xs t))

pub is_numbered_below : (t : TypeExpr) → IsNumbered t → Below (suc (length (variables_in t))) t
is_numbered_below t is = subst (λ (u : TypeExpr). Below (suc (length (variables_in u))) u) (sym is.1) (numbers_below is.0)

-- the type of a function that an interface lacks is numbered too
lacking_is_numbered : IsNumbered (type.Variable 0)
unfolding numbered
lacking_is_numbered = (type.Variable 0, refl)

pub each_is_numbered : (interface : List TypeExpr) (k : ℕ) → All IsNumbered interface
    → IsNumbered (get_or interface k (type.Variable 0))
each_is_numbered [] k all = lacking_is_numbered
each_is_numbered (t ∷ ts) zero all = all 0 (type.Variable 0) (omega arith)
each_is_numbered (t ∷ ts) (suc k) all =
    each_is_numbered ts k (λ (i : ℕ) (d : TypeExpr) (below : i < length ts). all (suc i) d (omega (arith, below)))

-- ---- texts

-- a type with arguments
named_holds : (n : ℕ) (e : Entity) (ts : List (List ℕ)) → n ≤ length (separated ts)
    → n ≤ length (codes "TCons " ++ (entity_text e ++ (codes " " ++ list_text ts)))
named_holds n e ts long =
    let end = separated ts ++ codes "]" in
    in_back n (codes "TCons ") (entity_text e ++ (codes " [" ++ end)) (in_back n (entity_text e) (codes " [" ++ end)
    (in_back n (codes " [") end (in_front n (separated ts) (codes "]") long)))

mutual
  pub variables_short : (program : Lowered) (t : TypeExpr)
      → length (variables_in t) ≤ length (type_text (written_type program t))
  variables_short program (type.Variable x) = omega arith
  variables_short program (type.Arrow a b) =
      let one = type_text (written_type program a) in
      let two = type_text (written_type program b) in
      let i = length (variables_in a) in
      let j = length (variables_in b) in
      let both : i + j ≤ length (codes "FuncType " ++ (in_parentheses one ++ (codes " " ++ in_parentheses two))) =
      in_back (i + j) (codes "FuncType ") (in_parentheses one ++ (codes " " ++ in_parentheses two))
      (in_both i j (in_parentheses one) (codes " " ++ in_parentheses two)
      (in_brackets i one (variables_short program a))
      (in_back j (codes " ") (in_parentheses two) (in_brackets j two (variables_short program b)))) in
      subst (λ (k : ℕ). k ≤ length (type_text (written_type program (type.Arrow a b))))
      (sym (length-append (variables_in a) (variables_in b))) both
  variables_short program (type.Named (named.Data t) ts) =
      named_holds (length (variables_in_all ts)) (entity (type_entity program (named.Data t)))
      (type_texts (printed_types program (as_written program) m.Variable ts)) (all_variables_short program ts)
  variables_short program (type.Named (named.Synonym s) ts) =
      named_holds (length (variables_in_all ts)) (entity (type_entity program (named.Synonym s)))
      (type_texts (printed_types program (as_written program) m.Variable ts)) (all_variables_short program ts)

  all_variables_short : (program : Lowered) (ts : TypeExprs)
      → length (variables_in_all ts) ≤ length (separated (type_texts (printed_types program (as_written program) m.Variable ts)))
  all_variables_short program type.NoType = omega arith
  all_variables_short program (type.MoreTypes t ts) =
      let one = type_text (written_type program t) in
      let others = further (type_texts (printed_types program (as_written program) m.Variable ts)) in
      subst (λ (k : ℕ). k ≤ length (one ++ others)) (sym (length-append (variables_in t) (variables_in_all ts)))
      (in_both (length (variables_in t)) (length (variables_in_all ts)) one others
      (variables_short program t) (more_variables_short program ts))

  more_variables_short : (program : Lowered) (ts : TypeExprs)
      → length (variables_in_all ts) ≤ length (further (type_texts (printed_types program (as_written program) m.Variable ts)))
  more_variables_short program type.NoType = omega arith
  more_variables_short program (type.MoreTypes t ts) =
      let one = type_text (written_type program t) in
      let others = further (type_texts (printed_types program (as_written program) m.Variable ts)) in
      subst (λ (k : ℕ). k ≤ length (codes "," ++ (one ++ others))) (sym (length-append (variables_in t) (variables_in_all ts)))
      (in_back (length (variables_in t) + length (variables_in_all ts)) (codes ",") (one ++ others)
      (in_both (length (variables_in t)) (length (variables_in_all ts)) one others
      (variables_short program t) (more_variables_short program ts)))
