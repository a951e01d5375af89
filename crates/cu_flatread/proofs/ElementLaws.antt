-- What is said of the readers of lists.
use Rattle.std.proofs.Common.{◌≡◌, ℕ, zero, suc, ◌≤◌, ◌<◌, Bool, true, false, List, [], ◌∷◌, ◌++◌, Ok, Err, codes, length, map, nat_eq, refl, sym, ap, subst, ◌∙◌, ◌⊎◌, inl, inr, arith, append_assoc, append-nil, eqb-true}
use Rattle.std.specs.List.{AllByRecursion}
use Rattle.std.proofs.lemmas.List.{length-append}
use Rattle.cu_flatread.proofs.BranchLaws.{either_reads, only_reads}
use Rattle.cu_flatread.proofs.DecimalLemmas.{given, given_is}
use Rattle.cu_flatread.proofs.ReaderLaws.{Done, Ends, Fits, Part, Reader, Reads, Steps, Stopped, alike_on, always, bind_at, bind_fails, done_reads, no_digit, reads_shorten, run, same_reads, steps_read, text_by, word_reads}
use Rattle.cu_flatread.proofs.RoomLemmas.{fit_room}
use Rattle.cu_flatread.specs.Inside.Words.{Read, ◌>>=◌, after_word, elements, is_at, joined, list_after, list_at, more_elements}
use Rattle.cu_flatread.specs.Notation.{further, list_text, separated}

-- further elements up to the end of a list, of any number
abbrev pub further_at : {A : Type 0} → Reader A → Reader (List A)
further_at r bytes = more_elements r (length bytes) bytes

abbrev pub tail_text : {A : Type 0} → (A → List ℕ) → List A → List ℕ
tail_text t xs = further (map t xs) ++ codes "]"

-- the text of a list after its bracket
abbrev pub list_tail : {A : Type 0} → (A → List ℕ) → List A → List ℕ
list_tail t xs = separated (map t xs) ++ codes "]"

abbrev IsNothing : {A : Type 0} → List A → Type 0
IsNothing xs = xs ≡ []

abbrev nothing_at : {A : Type 0} → Reader (List A)
nothing_at bytes = after_word (codes "]") bytes >>= λ rest. given [] rest

nothing_reads : {A : Type 0} (t : A → List ℕ)
    → Reads no_digit (nothing_at {A = A}) (list_tail t) IsNothing
nothing_reads {A} t =
    same_reads no_digit (nothing_at {A = A}) (λ (xs : List A). codes "]" ++ []) (list_tail t)
    IsNothing IsNothing
    (word_reads no_digit (codes "]") (λ rest. given [] rest) (λ (xs : List A). []) IsNothing
    (done_reads no_digit []))
    (λ xs e. (e, ap (list_tail t) e)) (λ xs e. (e, ap (list_tail t) e))

nothing_first : {A : Type 0} (t : A → List ℕ) (xs : List A) (rest : List ℕ) → IsNothing xs
    → is_at 93 (list_tail t xs ++ rest) ≡ true
nothing_first t xs rest e = ap (λ z. is_at 93 (list_tail t z ++ rest)) e

-- a list of what can't be read: it is empty
pub no_list_reads : {A : Type 0} (r : Reader A) (t : A → List ℕ) (G : A → Type 0)
    → ((bytes : List ℕ) → r bytes ≡ Err (length bytes)) → ((x : A) → G x → ⊥)
    → Reads no_digit (list_after r) (list_tail t) (AllByRecursion G)
unfolding list_after
no_list_reads {A} r t G fails none =
    same_reads no_digit (list_after r) (list_tail t) (list_tail t) IsNothing (AllByRecursion G)
    (only_reads no_digit 93 nothing_at (elements r) (list_tail t) IsNothing (nothing_reads t)
    (nothing_first t)
    (λ bytes. bind_fails (r bytes)
    (λ x. joined (x.0 ∷ []) (more_elements r (length x.1) x.1)) (length bytes) (fails bytes)))
    (λ xs g. (from xs g, refl)) (λ xs e. (subst (AllByRecursion G) (sym e) tt, refl))
  where
    from : (xs : List A) → AllByRecursion G xs → IsNothing xs
    from [] g = refl
    from (x ∷ xs) g = absurd (none x g.0)

joined_err : {A : Type 0} (x : A) (m : Read (List A)) (n : ℕ) → joined (x ∷ []) m ≡ Err n
    → m ≡ Err n
joined_err x (Ok p) n e = let never : ⊥ = cc in absurd never
joined_err {A} x (Err k) n e =
    let same : k ≡ n = cc in ap (λ (j : ℕ). let m : Read (List A) = Err j in m) same

joined_ok : {A : Type 0} (x : A) (m : Read (List A)) (ys : List A) (rest : List ℕ)
    → joined (x ∷ []) m ≡ given ys rest
    → (zs : List A) × (m ≡ given zs rest) × (x ∷ zs ≡ ys)
joined_ok x (Ok p) ys rest e =
    let same = given_is (x ∷ p.0) ys p.1 rest e in
    (p.0, ap (λ z. given p.0 z) same.1, same.0)
joined_ok x (Err k) ys rest e = let never : ⊥ = cc in absurd never

module _ {A : Type 0} (r : Reader A) (t : A → List ℕ) (G : A → Type 0)
    (reads : Reads no_digit r t G) where
  shortens : (bytes : List ℕ) (x : A) (rest : List ℕ) → r bytes ≡ given x rest
      → length rest ≤ length bytes
  shortens bytes x rest e =
      omega (
        arith,
        ap length (reads_shorten no_digit r t G reads bytes x rest e),
        length-append (t x) rest,
      )

  -- ---- what each byte leads to

  some_at : Reader (List A)
  some_at bytes = r bytes >>= λ x. joined (x.0 ∷ []) (further_at r x.1)

  further_comma : (bytes : List ℕ) → further_at r (44 ∷ bytes) ≡ some_at bytes
  unfolding more_elements some_at
  further_comma bytes =
      fit_room r shortens (length bytes) bytes (r bytes) refl (omega arith)

  further_end : (bytes : List ℕ) → further_at r (93 ∷ bytes) ≡ given [] bytes
  unfolding more_elements
  further_end bytes = refl

  further_wrong : (b : ℕ) (bytes : List ℕ) → nat_eq b 44 ≡ false → nat_eq b 93 ≡ false
      → further_at r (b ∷ bytes) ≡ Err (suc (length bytes))
  unfolding more_elements
  further_wrong b bytes comma end = rw (comma, end) refl

  further_nothing : further_at r [] ≡ Err 0
  unfolding more_elements
  further_nothing = refl

  some_at_is : (x : A) (bytes rest : List ℕ) → r bytes ≡ given x rest
      → some_at bytes ≡ joined (x ∷ []) (further_at r rest)
  unfolding some_at
  some_at_is x bytes rest e =
      bind_at (r bytes) (λ y. joined (y.0 ∷ []) (further_at r y.1)) (x, rest) e

  some_at_fails : (bytes : List ℕ) (n : ℕ) → r bytes ≡ Err n → some_at bytes ≡ Err n
  unfolding some_at
  some_at_fails bytes n e =
      bind_fails (r bytes) (λ y. joined (y.0 ∷ []) (further_at r y.1)) n e

  -- ---- further elements

  tail_ends : (xs : List A) (rest : List ℕ) → Ends no_digit (tail_text t xs ++ rest)
  tail_ends [] rest = refl
  tail_ends (x ∷ xs) rest = refl

  tail_more : (x : A) (xs : List A) (rest : List ℕ)
      → tail_text t (x ∷ xs) ++ rest ≡ 44 ∷ (t x ++ (tail_text t xs ++ rest))
  tail_more x xs rest =
      ap (λ z. 44 ∷ (z ++ rest)) (append_assoc (t x) (further (map t xs)) (codes "]"))
      ∙ ap (λ z. 44 ∷ z) (append_assoc (t x) (tail_text t xs) rest)

  pub further_again : (xs : List A) (rest : List ℕ) → AllByRecursion G xs
      → further_at r (tail_text t xs ++ rest) ≡ given xs rest
  further_again [] rest g = further_end rest
  further_again (x ∷ xs) rest g =
      ap (further_at r) (tail_more x xs rest)
      ∙ further_comma (t x ++ (tail_text t xs ++ rest))
      ∙ some_at_is x (t x ++ (tail_text t xs ++ rest)) (tail_text t xs ++ rest)
      (reads.again x (tail_text t xs ++ rest) g.0 (tail_ends xs rest))
      ∙ ap (joined (x ∷ [])) (further_again xs rest g.1)

  -- what is taken
  record Takes (xs : List A) (bytes rest : List ℕ) : Type 0 where
    splits : bytes ≡ tail_text t xs ++ rest
    good : AllByRecursion G xs

  some_takes : (f : ℕ) (bytes : List ℕ) (xs : List A) (rest : List ℕ) → length bytes < f
      → some_at bytes ≡ given xs rest
      → ((bytes : List ℕ) (xs : List A) (rest : List ℕ) → length bytes < f
      → further_at r bytes ≡ given xs rest → Takes xs bytes rest)
      → Takes xs (44 ∷ bytes) rest
  unfolding some_at
  some_takes f bytes xs rest less e next =
      by (r bytes) refl e
    where
      by : (read : Read A) → r bytes ≡ read
          → (read >>= λ x. joined (x.0 ∷ []) (further_at r x.1)) ≡ given xs rest
          → Takes xs (44 ∷ bytes) rest
      by (Err n) is e = let never : ⊥ = cc in absurd never
      by (Ok p) is e =
          let a = reads.takes bytes p.0 p.1 is in
          let others = joined_ok p.0 (further_at r p.1) xs rest e in
          let more =
          next p.1 others.0 rest (omega (arith, less, shortens bytes p.0 p.1 is)) others.1 in
          let took : Takes (p.0 ∷ others.0) (44 ∷ bytes) rest = record {
            splits =
                ap (λ z. 44 ∷ z) (a.splits ∙ ap (λ z. t p.0 ++ z) more.splits)
                ∙ sym (tail_more p.0 others.0 rest);
            good = (a.good, more.good);
          } in
          subst (λ ys. Takes ys (44 ∷ bytes) rest) others.2 took

  byte_takes : (f b : ℕ) (bytes : List ℕ) (xs : List A) (rest : List ℕ) (comma end : Bool)
      → length bytes < f → nat_eq b 44 ≡ comma → nat_eq b 93 ≡ end
      → further_at r (b ∷ bytes) ≡ given xs rest
      → ((bytes : List ℕ) (xs : List A) (rest : List ℕ) → length bytes < f
      → further_at r bytes ≡ given xs rest → Takes xs bytes rest)
      → Takes xs (b ∷ bytes) rest
  byte_takes f b bytes xs rest true end less c d e next =
      let is = eqb-true b 44 c in
      subst (λ z. Takes xs (z ∷ bytes) rest) (sym is)
      (some_takes f bytes xs rest less
      (sym (further_comma bytes) ∙ ap (λ z. further_at r (z ∷ bytes)) (sym is) ∙ e) next)
  byte_takes f b bytes xs rest false true less c d e next =
      let is = eqb-true b 93 d in
      let same = given_is [] xs bytes rest
      (sym (further_end bytes) ∙ ap (λ z. further_at r (z ∷ bytes)) (sym is) ∙ e) in
      let took : Takes [] (b ∷ bytes) bytes =
      record { splits = ap (λ z. z ∷ bytes) is; good = tt } in
      let moved : Takes [] (b ∷ bytes) rest =
      subst (λ z. Takes [] (b ∷ bytes) z) same.1 took in
      subst (λ ys. Takes ys (b ∷ bytes) rest) same.0 moved
  byte_takes f b bytes xs rest false false less c d e next =
      let no = sym (further_wrong b bytes c d) ∙ e in
      let never : ⊥ = cc in absurd never

  further_takes : (f : ℕ) (bytes : List ℕ) (xs : List A) (rest : List ℕ) → length bytes < f
      → further_at r bytes ≡ given xs rest → Takes xs bytes rest
  further_takes zero bytes xs rest less e = let never : ⊥ = omega (arith, less) in absurd never
  further_takes (suc f) [] xs rest less e =
      let no = sym further_nothing ∙ e in
      let never : ⊥ = cc in absurd never
  further_takes (suc f) (b ∷ bytes) xs rest less e =
      byte_takes f b bytes xs rest (nat_eq b 44) (nat_eq b 93) (omega (arith, less)) refl refl e
      (further_takes f)

  -- ---- where it stops

  abbrev TailStopped : List ℕ → ℕ → Type 0
  TailStopped = Stopped (further_at r) (tail_text t) (AllByRecursion G)

  one_text : (x : A) → tail_text t (x ∷ []) ≡ 44 ∷ (t x ++ codes "]")
  one_text x = ap (λ z. 44 ∷ (z ++ codes "]")) (append-nil (t x))

  comma_stops : (f : ℕ) (bytes : List ℕ) (n : ℕ) → length bytes < f
      → some_at bytes ≡ Err n
      → ((bytes : List ℕ) (n : ℕ) → length bytes < f → further_at r bytes ≡ Err n
      → TailStopped bytes n)
      → TailStopped (44 ∷ bytes) n
  unfolding some_at
  comma_stops f bytes n less e next = by (r bytes) refl e
    where
      by : (read : Read A) → r bytes ≡ read
          → (read >>= λ x. joined (x.0 ∷ []) (further_at r x.1)) ≡ Err n
          → TailStopped (44 ∷ bytes) n
      by (Err k) is e =
          let same : k ≡ n = cc in
          let st = reads.stops bytes k is in
          record {
            front = 44 ∷ st.front;
            back = st.back;
            splits = ap (λ z. 44 ∷ z) st.splits;
            left = st.left ∙ same;
            whole = st.whole ∷ [];
            good = (st.good, tt);
            more = st.more ++ codes "]";
            begun =
                one_text st.whole ∙ ap (λ z. 44 ∷ (z ++ codes "]")) st.begun
                ∙ ap (λ z. 44 ∷ z) (append_assoc st.front st.more (codes "]"));
            wrong = λ c cs others i.
                further_comma (st.front ++ c ∷ others)
                ∙ some_at_fails (st.front ++ c ∷ others) (length (c ∷ others))
                (st.wrong c cs others i);
          }
      by (Ok p) is e =
          let x = p.0 in
          let a = reads.takes bytes x p.1 is in
          let st =
          next p.1 n (omega (arith, less, shortens bytes x p.1 is))
          (joined_err x (further_at r p.1) n e) in
          record {
            front = 44 ∷ (t x ++ st.front);
            back = st.back;
            splits =
                ap (λ z. 44 ∷ z) (a.splits ∙ ap (λ z. t x ++ z) st.splits
                ∙ sym (append_assoc (t x) st.front st.back));
            left = st.left;
            whole = x ∷ st.whole;
            good = (a.good, st.good);
            more = st.more;
            begun =
                ap (λ z. 44 ∷ z) (append_assoc (t x) (further (map t st.whole)) (codes "]"))
                ∙ ap (λ z. 44 ∷ (t x ++ z)) st.begun
                ∙ ap (λ z. 44 ∷ z) (sym (append_assoc (t x) st.front st.more));
            wrong = λ c cs others i.
                ap (λ z. further_at r (44 ∷ z)) (append_assoc (t x) st.front (c ∷ others))
                ∙ further_comma (t x ++ (st.front ++ c ∷ others))
                ∙ some_at_is x (t x ++ (st.front ++ c ∷ others)) (st.front ++ c ∷ others)
                (alike_on r t G bytes x p.1 a st.front c cs others
                (st.splits ∙ ap (λ z. st.front ++ z) i))
                ∙ ap (joined (x ∷ [])) (st.wrong c cs others i);
          }

  byte_stops : (f b : ℕ) (bytes : List ℕ) (n : ℕ) (comma end : Bool) → length bytes < f
      → nat_eq b 44 ≡ comma → nat_eq b 93 ≡ end → further_at r (b ∷ bytes) ≡ Err n
      → ((bytes : List ℕ) (n : ℕ) → length bytes < f → further_at r bytes ≡ Err n
      → TailStopped bytes n)
      → TailStopped (b ∷ bytes) n
  byte_stops f b bytes n true end less c d e next =
      let is = eqb-true b 44 c in
      subst (λ z. TailStopped (z ∷ bytes) n) (sym is)
      (comma_stops f bytes n less
      (sym (further_comma bytes) ∙ ap (λ z. further_at r (z ∷ bytes)) (sym is) ∙ e) next)
  byte_stops f b bytes n false true less c d e next =
      let is = eqb-true b 93 d in
      let no = sym (further_end bytes) ∙ ap (λ z. further_at r (z ∷ bytes)) (sym is) ∙ e in
      let never : ⊥ = cc in absurd never
  byte_stops f b bytes n false false less c d e next =
      let left : suc (length bytes) ≡ n =
      let both = sym (further_wrong b bytes c d) ∙ e in cc in
      record {
        front = [];
        back = b ∷ bytes;
        splits = refl;
        left = left;
        whole = [];
        good = tt;
        more = codes "]";
        begun = refl;
        wrong = λ z zs others i.
            let same : b ≡ z = cc i in
            ap (λ y. further_at r (y ∷ others)) (sym same) ∙ further_wrong b others c d;
      }

  further_stops : (f : ℕ) (bytes : List ℕ) (n : ℕ) → length bytes < f
      → further_at r bytes ≡ Err n → TailStopped bytes n
  further_stops zero bytes n less e = let never : ⊥ = omega (arith, less) in absurd never
  further_stops (suc f) [] n less e =
      let left : 0 ≡ n = let both = sym further_nothing ∙ e in cc in
      record {
        front = [];
        back = [];
        splits = refl;
        left = left;
        whole = [];
        good = tt;
        more = codes "]";
        begun = refl;
        wrong = λ b bs others i. let never : ⊥ = cc i in absurd never;
      }
  further_stops (suc f) (b ∷ bytes) n less e =
      byte_stops f b bytes n (nat_eq b 44) (nat_eq b 93) (omega (arith, less)) refl refl e
      (further_stops f)

  pub further_reads : Reads always (further_at r) (tail_text t) (AllByRecursion G)
  further_reads = record {
    again = λ xs rest g ends. further_again xs rest g;
    takes = λ bytes xs rest e.
        let a = further_takes (suc (length bytes)) bytes xs rest (omega arith) e in
        record {
          splits = a.splits;
          good = a.good;
          alike = λ b bs others i. further_again xs (b ∷ others) a.good;
        };
    stops = λ bytes n e. further_stops (suc (length bytes)) bytes n (omega arith) e;
    some = [];
    is_some = tt;
  }

  -- ---- lists with an element

  abbrev first_of : List A → A
  first_of [] = reads.some
  first_of (x ∷ xs) = x

  abbrev others_of : List A → List A
  others_of [] = []
  others_of (x ∷ xs) = xs

  abbrev some_steps : Steps (List A)
  some_steps =
      Part A no_digit r t G first_of
      (λ x. Part (List A) always (further_at r) (tail_text t) (AllByRecursion G) others_of
      (λ xs. Done (x ∷ xs)))

  some_steps_read : Reads no_digit (run some_steps) (text_by some_steps) (Fits some_steps)
  some_steps_read =
      steps_read some_steps (
        reads,
        λ x g. (
          further_reads,
          λ xs h. tt,
          λ xs ys g e. ap others_of e,
          inl (λ b. refl),
        ),
        λ x ys g e. ap first_of e.1,
        inr (λ x ys rest g h ends.
            subst (Ends no_digit)
            (sym (append_assoc (tail_text t (others_of ys)) [] rest)) (tail_ends (others_of ys) rest)),
      )

  abbrev Some : List A → Type 0
  Some [] = ⊥
  Some (x ∷ xs) = AllByRecursion G (x ∷ xs)

  some_from : (xs : List A) → Some xs → Fits some_steps xs × (list_tail t xs ≡ text_by some_steps xs)
  some_from [] g = absurd g
  some_from (x ∷ xs) g = (
    (g.0, (g.1, refl)),
    append_assoc (t x) (further (map t xs)) (codes "]")
        ∙ ap (λ z. t x ++ z) (sym (append-nil (tail_text t xs))),
  )

  some_into : (xs : List A) → Fits some_steps xs → Some xs × (list_tail t xs ≡ text_by some_steps xs)
  some_into [] g = let no = g.1.1 in let never : ⊥ = cc in absurd never
  some_into (x ∷ xs) g = (
    (g.0, g.1.0),
    append_assoc (t x) (further (map t xs)) (codes "]")
        ∙ ap (λ z. t x ++ z) (sym (append-nil (tail_text t xs))),
  )

  elements_read : Reads no_digit (elements r) (list_tail t) Some
  elements_read =
      reader_is (same_reads no_digit (run some_steps) (text_by some_steps) (list_tail t)
      (Fits some_steps) Some some_steps_read some_from some_into)
    where
      same : (bytes : List ℕ) → run some_steps bytes ≡ elements r bytes
      same bytes = by (r bytes)
        where
          by : (read : Read A)
              → (read >>= λ x. further_at r x.1 >>= λ xs. given (x.0 ∷ xs.0) xs.1)
              ≡ (read >>= λ x. joined (x.0 ∷ []) (further_at r x.1))
          by (Ok x) = refl
          by (Err n) = refl

      reader_is : Reads no_digit (run some_steps) (list_tail t) Some
          → Reads no_digit (elements r) (list_tail t) Some
      reader_is h =
          subst (λ (z : Reader (List A)). Reads no_digit z (list_tail t) Some)
          (λ i bytes. same bytes i) h

  some_first : ((x : A) (rest : List ℕ) → G x → is_at 93 (t x ++ rest) ≡ false)
      → (xs : List A) (rest : List ℕ) → Some xs → is_at 93 (list_tail t xs ++ rest) ≡ false
  some_first starts [] rest g = absurd g
  some_first starts (x ∷ xs) rest g =
      ap (λ z. is_at 93 (z ++ rest)) (append_assoc (t x) (further (map t xs)) (codes "]"))
      ∙ ap (is_at 93) (append_assoc (t x) (tail_text t xs) rest)
      ∙ starts x (tail_text t xs ++ rest) g.0

  any_from : (xs : List A) → AllByRecursion G xs → IsNothing xs ⊎ Some xs
  any_from [] g = inl refl
  any_from (x ∷ xs) g = inr g

  any_into : (xs : List A) → IsNothing xs ⊎ Some xs → AllByRecursion G xs
  any_into [] g = tt
  any_into (x ∷ xs) (inl e) = let never : ⊥ = cc in absurd never
  any_into (x ∷ xs) (inr g) = g

  -- a list after its bracket
  pub list_after_reads : ((x : A) (rest : List ℕ) → G x → is_at 93 (t x ++ rest) ≡ false)
      → Reads no_digit (list_after r) (list_tail t) (AllByRecursion G)
  unfolding list_after
  list_after_reads starts =
      same_reads no_digit (list_after r) (list_tail t) (list_tail t)
      (λ xs. IsNothing xs ⊎ Some xs) (AllByRecursion G)
      (either_reads no_digit 93 nothing_at (elements r) (list_tail t) IsNothing Some (nothing_reads t)
      elements_read (nothing_first t) (some_first starts))
      (λ xs g. (any_from xs g, refl)) (λ xs g. (any_into xs g, refl))

  pub list_reads : ((x : A) (rest : List ℕ) → G x → is_at 93 (t x ++ rest) ≡ false)
      → Reads no_digit (list_at r) (λ xs. list_text (map t xs)) (AllByRecursion G)
  unfolding list_at
  list_reads starts =
      word_reads no_digit (codes "[") (list_after r) (list_tail t) (AllByRecursion G)
      (list_after_reads starts)
