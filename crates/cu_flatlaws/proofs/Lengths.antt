-- How long texts are at least: as long as what stands in them, and as long as a list has elements.
use Rattle.std.proofs.Common.{◌≡◌, ℕ, zero, suc, ◌+◌, ◌≤◌, ◌<◌, List, [], ◌∷◌, ◌++◌, codes, get_or, length, map, refl, ap, subst, arith}
use Rattle.std.proofs.lemmas.List.{length-append}
use Rattle.cu_flatread.specs.Notation.{further, in_parentheses, lines_text, list_text, on_a_line, separated}

pub at_most : (k m n : ℕ) → k ≤ m → m ≤ n → k ≤ n
at_most k m n less more = omega (arith, less, more)

pub in_front : (n : ℕ) (xs ys : List ℕ) → n ≤ length xs → n ≤ length (xs ++ ys)
in_front n xs ys short = omega (arith, short, length-append xs ys)

pub in_back : (n : ℕ) (xs ys : List ℕ) → n ≤ length ys → n ≤ length (xs ++ ys)
in_back n xs ys short = omega (arith, short, length-append xs ys)

pub in_both : (m n : ℕ) (xs ys : List ℕ) → m ≤ length xs → n ≤ length ys → m + n ≤ length (xs ++ ys)
in_both m n xs ys first second = omega (arith, first, second, length-append xs ys)

pub in_brackets : (n : ℕ) (text : List ℕ) → n ≤ length text → n ≤ length (in_parentheses text)
in_brackets n text short = in_back n (codes "(") (text ++ codes ")") (in_front n text (codes ")") short)

pub one_more_in_brackets : (n : ℕ) (text : List ℕ) → n ≤ length text → suc n ≤ length (in_parentheses text)
one_more_in_brackets n text short = omega (arith, in_front n text (codes ")") short)

-- ---- lists

further_long : (xs : List (List ℕ)) → length xs ≤ length (further xs)
further_long [] = omega arith
further_long (x ∷ xs) = omega (arith, further_long xs, length-append x (further xs))

separated_long : (xs : List (List ℕ)) → length xs ≤ suc (length (separated xs))
separated_long [] = omega arith
separated_long (x ∷ xs) = omega (arith, further_long xs, length-append x (further xs))

pub list_long : (xs : List (List ℕ)) → length xs ≤ length (list_text xs)
list_long xs = omega (arith, separated_long xs, length-append (separated xs) (codes "]"))

-- ---- elements of lists

further_element : {A : Type 0} (f : A → List ℕ) (xs : List A) (k : ℕ) (d : A) → k < length xs
    → length (f (get_or xs k d)) ≤ length (further (map f xs))
further_element f [] k d below = absurd (omega (arith, below))
further_element f (x ∷ xs) zero d below =
    in_back (length (f x)) (codes ",") (f x ++ further (map f xs))
    (in_front (length (f x)) (f x) (further (map f xs)) (omega arith))
further_element f (x ∷ xs) (suc k) d below =
    let n = length (f (get_or xs k d)) in
    in_back n (codes ",") (f x ++ further (map f xs))
    (in_back n (f x) (further (map f xs)) (further_element f xs k d (omega (arith, below))))

separated_element : {A : Type 0} (f : A → List ℕ) (xs : List A) (k : ℕ) (d : A) → k < length xs
    → length (f (get_or xs k d)) ≤ length (separated (map f xs))
separated_element f [] k d below = absurd (omega (arith, below))
separated_element f (x ∷ xs) zero d below = in_front (length (f x)) (f x) (further (map f xs)) (omega arith)
separated_element f (x ∷ xs) (suc k) d below =
    in_back (length (f (get_or xs k d))) (f x) (further (map f xs)) (further_element f xs k d (omega (arith, below)))

pub list_element : {A : Type 0} (f : A → List ℕ) (xs : List A) (k : ℕ) (d : A) → k < length xs
    → length (f (get_or xs k d)) ≤ length (list_text (map f xs))
list_element f xs k d below =
    let n = length (f (get_or xs k d)) in
    in_back n (codes "[") (separated (map f xs) ++ codes "]")
    (in_front n (separated (map f xs)) (codes "]") (separated_element f xs k d below))

pub map_twice : {A B C : Type 0} (f : B → C) (g : A → B) (xs : List A)
    → map (λ (x : A). f (g x)) xs ≡ map f (map g xs)
map_twice f g [] = refl
map_twice {A} {B} {C} f g (x ∷ xs) = ap (λ (zs : List C). f (g x) ∷ zs) (map_twice f g xs)

-- an element on a line of its own
pub line_element : {A : Type 0} (f : A → List ℕ) (xs : List A) (k : ℕ) (d : A) → k < length xs
    → length (f (get_or xs k d)) ≤ length (lines_text (map f xs))
line_element {A} f xs k d below =
    let n = length (f (get_or xs k d)) in
    let on_line : A → List ℕ = λ (x : A). on_a_line (f x) in
    let longer : n ≤ length (on_line (get_or xs k d)) =
    in_back n (codes "\n") (f (get_or xs k d)) (omega arith) in
    let listed : n ≤ length (list_text (map on_line xs)) =
    at_most n (length (on_line (get_or xs k d))) (length (list_text (map on_line xs))) longer (list_element on_line xs k d below) in
    subst (λ (zs : List (List ℕ)). n ≤ length (list_text zs)) (map_twice on_a_line f xs) listed
