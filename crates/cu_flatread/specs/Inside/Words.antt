-- What reading gives, and the reading of words.
use Rattle.std.specs.Prelude.{◌≡◌, ℕ, zero, suc, Bool, true, false, List, [], ◌∷◌, ◌++◌, Result, Ok, Err, codes, if◌then◌else◌, length, min, nat_eq}
use Rattle.cu_flatread.specs.declared.mark.Mark.{Mark}
use Rattle.cu_flatread.specs.declared.mark.Mark.TheVariants as mark
use Rattle.cu_flatread.specs.declared.stop.Stop.{Stop}
use Rattle.cu_flatread.specs.declared.stop.Stop.TheVariants as stop

-- What reading gives: a value and the bytes after it, or how many bytes are left where no text goes
-- on.
abbrev pub Read : Type 0 → Type 0
Read A = Result (A × List ℕ) ℕ

infixl 10 ◌>>=◌
abbrev pub ◌>>=◌ : {A B : Type 0} → Result A ℕ → (A → Result B ℕ) → Result B ℕ
(Ok x) >>= f = f x
(Err left) >>= f = Err left

-- What a function answers, seen by `view`, with the bytes that are left, is what reading gives. An
-- allocation failure says nothing.
abbrev pub Gives : {X Y : Type 0} → (X → Y) → Result X Stop → List ℕ → Read Y → Type 0
Gives view (Ok x) rest read = read ≡ Ok (view x, rest)
Gives view (Err (stop.At left)) rest read = read ≡ Err left
Gives view (Err stop.NoMemory) rest read = Unit {0}

-- Why reading breaks off, of what is read. An allocation failure says nothing.
abbrev pub Fails : {Y : Type 0} → Stop → Read Y → Type 0
Fails (stop.At left) read = read ≡ Err left
Fails stop.NoMemory read = Unit {0}

-- What a function answers that gives nothing but the bytes that are left.
abbrev pub Passes : Result (Unit {0}) Stop → List ℕ → Result (List ℕ) ℕ → Type 0
Passes (Ok x) rest read = read ≡ Ok rest
Passes (Err (stop.At left)) rest read = read ≡ Err left
Passes (Err stop.NoMemory) rest read = Unit {0}

-- the bytes after a word
unfoldable pub after_word : List ℕ → List ℕ → Result (List ℕ) ℕ
after_word [] bytes = Ok bytes
after_word (letter ∷ word) [] = Err 0
after_word (letter ∷ word) (b ∷ bytes) =
    if nat_eq b letter then after_word word bytes else Err (suc (length bytes))

-- what stands after a part of a type or an expression
abbrev pub mark_text : Mark → List ℕ
mark_text mark.Close = codes ")"
mark_text mark.Between = codes ") ("
mark_text mark.Body = codes ")] ("
mark_text mark.Branches = codes ") ["

-- what a word's passing makes of what it stands for and of the words after it
abbrev pub word_or : {X : Type 0} → Result (List ℕ) ℕ → X → (ℕ → Read X) → Read X
word_or (Ok rest) x others = Ok (x, rest)
word_or (Err left) x others = others left

-- One of several words, none of which begins another, and what it stands for. Where none comes, the
-- fault is where the bytes part from all of them.
unfoldable pub one_of_words : {X : Type 0} → List (List ℕ × X) → List ℕ → ℕ → Read X
one_of_words [] bytes least = Err least
one_of_words (w ∷ words) bytes least =
    word_or (after_word w.0 bytes) w.1 (λ left. one_of_words words bytes (min least left))

abbrev pub one_of : {X : Type 0} → List (List ℕ × X) → List ℕ → Read X
one_of words bytes = one_of_words words bytes (length bytes)

-- whether a byte comes next
abbrev pub is_at : ℕ → List ℕ → Bool
is_at byte [] = false
is_at byte (b ∷ bytes) = nat_eq b byte

-- a comma, or the end of a list
abbrev pub goes_on : List ℕ → Read Bool
goes_on [] = Err 0
goes_on (b ∷ bytes) =
    if nat_eq b 44 then Ok (true, bytes)
    else if nat_eq b 93 then Ok (false, bytes)
    else Err (suc (length bytes))

-- Whether an element of a list comes, of which the opening bracket was read; the end of the list is
-- passed.
unfoldable pub begins : List ℕ → Read Bool
begins bytes =
    if is_at 93 bytes then (after_word (codes "]") bytes >>= λ rest. Ok (false, rest))
    else Ok (true, bytes)

-- elements of a list before others
abbrev pub joined : {A : Type 0} → List A → Read (List A) → Read (List A)
joined xs read = read >>= λ ys. Ok (xs ++ ys.0, ys.1)

-- The elements of a list that are left after one, up to the closing bracket, where `element` reads
-- one. There are at most `room` of them.
unfoldable pub more_elements : {A : Type 0} → (List ℕ → Read A) → ℕ → List ℕ → Read (List A)
more_elements element zero bytes = Err 0
more_elements element (suc room) bytes =
    goes_on bytes >>= λ more. if more.0
    then (element more.1 >>= λ x. joined (x.0 ∷ []) (more_elements element room x.1))
    else Ok ([], more.1)

-- the elements of a list from one on, up to the closing bracket
abbrev pub elements : {A : Type 0} → (List ℕ → Read A) → List ℕ → Read (List A)
elements element bytes =
    element bytes >>= λ x. joined (x.0 ∷ []) (more_elements element (length x.1) x.1)

-- a list after its opening bracket
unfoldable pub list_after : {A : Type 0} → (List ℕ → Read A) → List ℕ → Read (List A)
list_after element bytes =
    if is_at 93 bytes then (after_word (codes "]") bytes >>= λ rest. Ok ([], rest))
    else elements element bytes

-- a list in square brackets
unfoldable pub list_at : {A : Type 0} → (List ℕ → Read A) → List ℕ → Read (List A)
list_at element bytes = after_word (codes "[") bytes >>= λ rest. list_after element rest
