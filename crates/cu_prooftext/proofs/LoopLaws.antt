-- What is said of readers of many parts, and of loops.
use Rattle.std.proofs.Common.{◌≡◌, ℕ, zero, suc, ◌+◌, ◌<◌, Bool, true, false, List, [], ◌∷◌, ◌++◌, Result, Ok, Err, length, refl, ap, sym, ◌∙◌, subst, append_assoc, inl, inr, cond, arith, length-append}
use Rattle.std.specs.List.{AllByRecursion, flat_map}
use Rattle.cu_prooftext.specs.Inside.Readers.{◌>>=◌, Reader, many, pair}
use Rattle.cu_prooftext.specs.Inside.Loops.{loop, whole, with_first}
use Rattle.cu_prooftext.proofs.ReaderLaws.{Ends, Onto, PairGood, Reads, Stopped, Took, alike_on, bind_at, bind_err, bind_fails, bind_ok, made_reads, pair_reads, pair_text}

-- ---- so many parts

abbrev pub Starts : {A : Type 0} → (ℕ → Bool) → (A → List ℕ) → (A → Type 0) → Type 0
Starts {A} stop t G = (x : A) (rest : List ℕ) → G x → Ends stop (t x ++ rest)

abbrev pub ManyGood : {A : Type 0} → (A → Type 0) → ℕ → List A → Type 0
ManyGood G n xs = (length xs ≡ n) × AllByRecursion G xs

list_starts : {A : Type 0} (stop : ℕ → Bool) (t : A → List ℕ) (G : A → Type 0) → Starts stop t G
    → (xs : List A) (rest : List ℕ) → AllByRecursion G xs → Ends stop rest → Ends stop (flat_map t xs ++ rest)
list_starts stop t G starts [] rest g e = e
list_starts stop t G starts (x ∷ xs) rest g e =
    subst (Ends stop) (sym (append_assoc (t x) (flat_map t xs) rest)) (starts x (flat_map t xs ++ rest) g.0)

none_again : {A : Type 0} (r : Reader A) (t : A → List ℕ) (G : A → Type 0) (xs : List A) (rest : List ℕ) → ManyGood G 0 xs → many r 0 (flat_map t xs ++ rest) ≡ Ok (xs, rest)
none_again r t G [] rest g = refl
none_again r t G (x ∷ xs) rest g = let never : ⊥ = omega (arith, g.0) in absurd never

none_takes : {A : Type 0} (r : Reader A) (t : A → List ℕ) (G : A → Type 0) (bytes : List ℕ) (xs : List A) (rest : List ℕ) → many r 0 bytes ≡ Ok (xs, rest) → Took (many r 0) (flat_map t) (ManyGood G 0) bytes xs rest
none_takes {A} r t G bytes xs rest e =
    let none : List A = [] in
    let same : (none, bytes) ≡ (xs, rest) = cc e in
    let took : Took (many r 0) (flat_map t) (ManyGood G 0) bytes none bytes = record { splits = refl; good = (refl, tt); alike = λ b bs others i. refl } in
    subst (λ (z : List A × List ℕ). Took (many r 0) (flat_map t) (ManyGood G 0) bytes z.0 z.1) same took

-- no parts
pub none_reads : {A : Type 0} (stop : ℕ → Bool) (r : Reader A) (t : A → List ℕ) (G : A → Type 0) → Reads stop (many r 0) (flat_map t) (ManyGood G 0)
none_reads stop r t G = record {
  again = λ xs rest g e. none_again r t G xs rest g;
  takes = none_takes r t G;
  stops = λ bytes n e. let never : ⊥ = cc e in absurd never;
  some = [];
  is_some = (refl, tt);
}

many_onto : {A : Type 0} (G : A → Type 0) (n : ℕ) → Onto (λ (p : A × List A). p.0 ∷ p.1) (PairGood G (λ x. ManyGood G n)) (ManyGood G (suc n))
many_onto G n [] h = let never : ⊥ = omega (arith, h.0) in absurd never
many_onto G n (x ∷ xs) h = ((x, xs), (h.1.0, (omega (arith, h.0), h.1.1)), refl)

pub many_reads : {A : Type 0} (stop : ℕ → Bool) (r : Reader A) (t : A → List ℕ) (G : A → Type 0) → Reads stop r t G → Starts stop t G
    → (n : ℕ) → Reads stop (many r n) (flat_map t) (ManyGood G n)
many_reads stop r t G reads starts zero = record {
  again = λ xs rest g e. none_again r t G xs rest g;
  takes = none_takes r t G;
  stops = λ bytes n e. let never : ⊥ = cc e in absurd never;
  some = [];
  is_some = (refl, tt);
}
many_reads {A} stop r t G reads starts (suc n) =
    made_reads stop (λ (p : A × List A). p.0 ∷ p.1) (pair r (λ x. many r n)) (pair_text t (λ x. flat_map t)) (flat_map t) (PairGood G (λ x. ManyGood G n)) (ManyGood G (suc n))
    (pair_reads stop stop r (λ x. many r n) t (λ x. flat_map t) G (λ x. ManyGood G n) reads (λ x g. many_reads stop r t G reads starts n)
    (λ x xs rest g h e. list_starts stop t G starts xs rest h.1 e))
    (many_onto G n)
    (λ p g. ((omega (arith, g.1.0), (g.0, g.1.1)), refl))

-- ---- loops

abbrev pub Chain : {S A : Type 0} → (S → A → S) → (S → A → Type 0) → (S → Type 0) → S → List A → Type 0
Chain next G Done s [] = Done s
Chain next G Done s (x ∷ xs) = G s x × Chain next G Done (next s x) xs

pub record Loops {S A : Type 0} (stop last : ℕ → Bool) (go : S → List ℕ → Bool) (r : S → Reader A) (next : S → A → S) (t : A → List ℕ) (G : S → A → Type 0) (Done : S → Type 0) : Type 0 where
  pub reads : (s : S) (bytes : List ℕ) → go s bytes ≡ true → Reads stop (r s) t (G s)
  pub starts : (s : S) (x : A) (rest : List ℕ) → G s x → Ends stop (t x ++ rest)
  pub goes : (s : S) (x : A) (rest : List ℕ) → G s x → go s (t x ++ rest) ≡ true
  pub ends : (s : S) (rest : List ℕ) → Done s → Ends last rest → go s rest ≡ false
  pub weaker : (rest : List ℕ) → Ends last rest → Ends stop rest
  pub done : (s : S) (bytes : List ℕ) → go s bytes ≡ false → Done s
  pub alike : (s : S) (b : ℕ) (bs others : List ℕ) → go s (b ∷ bs) ≡ go s (b ∷ others)
  pub longer : (s : S) (x : A) → G s x → 0 < length (t x)
  pub finish : (s : S) → (xs : List A) × Chain next G Done s xs

pub bind_same : {A B : Type 0} (m : Result A ℕ) (f g : A → Result B ℕ) → ((x : A) → m ≡ Ok x → f x ≡ g x) → (m >>= f) ≡ (m >>= g)
bind_same (Ok x) f g h = h x refl
bind_same (Err n) f g h = refl

shorter : {S A : Type 0} (stop last : ℕ → Bool) (go : S → List ℕ → Bool) (r : S → Reader A) (next : S → A → S) (t : A → List ℕ) (G : S → A → Type 0) (Done : S → Type 0)
    → Loops stop last go r next t G Done → (s : S) (bytes : List ℕ) → go s bytes ≡ true → (p : A × List ℕ) → r s bytes ≡ Ok p → length p.1 < length bytes
shorter stop last go r next t G Done loops s bytes h p e =
    let a = (loops.reads s bytes h).takes bytes p.0 p.1 e in
    let more : 0 < length (t p.0) = loops.longer s p.0 a.good in
    omega (arith, ap length a.splits, length-append (t p.0) p.1, more)

loop_same_at : {S A : Type 0} (stop last : ℕ → Bool) (go : S → List ℕ → Bool) (r : S → Reader A) (next : S → A → S) (t : A → List ℕ) (G : S → A → Type 0) (Done : S → Type 0)
    → Loops stop last go r next t G Done → (f g : ℕ) (s : S) (bytes : List ℕ) → length bytes < suc f → length bytes < suc g
    → ((s : S) (bytes : List ℕ) → length bytes < f → length bytes < g → loop go r next f s bytes ≡ loop go r next g s bytes) → (b : Bool) → go s bytes ≡ b
    → cond b (r s bytes >>= λ p. loop go r next f (next s p.0) p.1 >>= with_first p.0) (Ok ([], bytes)) ≡ cond b (r s bytes >>= λ p. loop go r next g (next s p.0) p.1 >>= with_first p.0) (Ok ([], bytes))
loop_same_at stop last go r next t G Done loops f g s bytes a b further false h = refl
loop_same_at {S} {A} stop last go r next t G Done loops f g s bytes a b further true h =
    bind_same (r s bytes) (λ p. loop go r next f (next s p.0) p.1 >>= with_first p.0) (λ p. loop go r next g (next s p.0) p.1 >>= with_first p.0)
    (λ p e.
    let less : length p.1 < length bytes = shorter stop last go r next t G Done loops s bytes h p e in
    ap (λ (m : Result (List A × List ℕ) ℕ). m >>= with_first p.0) (further (next s p.0) p.1 (omega arith) (omega arith)))

loop_same : {S A : Type 0} (stop last : ℕ → Bool) (go : S → List ℕ → Bool) (r : S → Reader A) (next : S → A → S) (t : A → List ℕ) (G : S → A → Type 0) (Done : S → Type 0)
    → Loops stop last go r next t G Done → (f g : ℕ) (s : S) (bytes : List ℕ) → length bytes < f → length bytes < g → loop go r next f s bytes ≡ loop go r next g s bytes
loop_same stop last go r next t G Done loops zero g s bytes a b = let never : ⊥ = omega arith in absurd never
loop_same stop last go r next t G Done loops (suc f) zero s bytes a b = let never : ⊥ = omega arith in absurd never
loop_same stop last go r next t G Done loops (suc f) (suc g) s bytes a b =
    loop_same_at stop last go r next t G Done loops f g s bytes a b (loop_same stop last go r next t G Done loops f g) (go s bytes) refl

pub whole_end : {S A : Type 0} (go : S → List ℕ → Bool) (r : S → Reader A) (next : S → A → S) (s : S) (bytes : List ℕ) → go s bytes ≡ false → whole go r next s bytes ≡ Ok ([], bytes)
whole_end {S} {A} go r next s bytes h =
    ap (λ (b : Bool). cond b (r s bytes >>= λ p. loop go r next (length bytes) (next s p.0) p.1 >>= with_first p.0) (Ok ([], bytes))) h

pub whole_go : {S A : Type 0} (stop last : ℕ → Bool) (go : S → List ℕ → Bool) (r : S → Reader A) (next : S → A → S) (t : A → List ℕ) (G : S → A → Type 0) (Done : S → Type 0)
    → Loops stop last go r next t G Done → (s : S) (bytes : List ℕ) → go s bytes ≡ true
    → whole go r next s bytes ≡ (r s bytes >>= λ p. whole go r next (next s p.0) p.1 >>= with_first p.0)
whole_go {S} {A} stop last go r next t G Done loops s bytes h =
    ap (λ (b : Bool). cond b (r s bytes >>= λ p. loop go r next (length bytes) (next s p.0) p.1 >>= with_first p.0) (Ok ([], bytes))) h
    ∙ bind_same (r s bytes) (λ p. loop go r next (length bytes) (next s p.0) p.1 >>= with_first p.0) (λ p. whole go r next (next s p.0) p.1 >>= with_first p.0)
    (λ p e.
    let less : length p.1 < length bytes = shorter stop last go r next t G Done loops s bytes h p e in
    ap (λ (m : Result (List A × List ℕ) ℕ). m >>= with_first p.0)
    (loop_same stop last go r next t G Done loops (length bytes) (suc (length p.1)) (next s p.0) p.1 less (omega arith)))

pub chain_starts : {S A : Type 0} (stop last : ℕ → Bool) (go : S → List ℕ → Bool) (r : S → Reader A) (next : S → A → S) (t : A → List ℕ) (G : S → A → Type 0) (Done : S → Type 0)
    → Loops stop last go r next t G Done → (s : S) (xs : List A) (rest : List ℕ) → Chain next G Done s xs → Ends last rest → Ends stop (flat_map t xs ++ rest)
chain_starts stop last go r next t G Done loops s [] rest c e = loops.weaker rest e
chain_starts stop last go r next t G Done loops s (x ∷ xs) rest c e =
    subst (Ends stop) (sym (append_assoc (t x) (flat_map t xs) rest)) (loops.starts s x (flat_map t xs ++ rest) c.0)

whole_again : {S A : Type 0} (stop last : ℕ → Bool) (go : S → List ℕ → Bool) (r : S → Reader A) (next : S → A → S) (t : A → List ℕ) (G : S → A → Type 0) (Done : S → Type 0)
    → Loops stop last go r next t G Done → (xs : List A) (s : S) (rest : List ℕ) → Chain next G Done s xs → Ends last rest → whole go r next s (flat_map t xs ++ rest) ≡ Ok (xs, rest)
whole_again stop last go r next t G Done loops [] s rest c e = whole_end go r next s rest (loops.ends s rest c e)
whole_again stop last go r next t G Done loops (x ∷ xs) s rest c e =
    let bytes : List ℕ = t x ++ (flat_map t xs ++ rest) in
    let h : go s (t x ++ (flat_map t xs ++ rest)) ≡ true = loops.goes s x (flat_map t xs ++ rest) c.0 in
    ap (whole go r next s) (append_assoc (t x) (flat_map t xs) rest)
    ∙ whole_go stop last go r next t G Done loops s (t x ++ (flat_map t xs ++ rest)) h
    ∙ bind_at (r s (t x ++ (flat_map t xs ++ rest))) (λ p. whole go r next (next s p.0) p.1 >>= with_first p.0) (x, flat_map t xs ++ rest)
    ((loops.reads s (t x ++ (flat_map t xs ++ rest)) h).again x (flat_map t xs ++ rest) c.0 (chain_starts stop last go r next t G Done loops (next s x) xs rest c.1 e))
    ∙ bind_at (whole go r next (next s x) (flat_map t xs ++ rest)) (with_first x) (xs, rest) (whole_again stop last go r next t G Done loops xs (next s x) rest c.1 e)

go_alike : {S A : Type 0} (stop last : ℕ → Bool) (go : S → List ℕ → Bool) (r : S → Reader A) (next : S → A → S) (t : A → List ℕ) (G : S → A → Type 0) (Done : S → Type 0)
    → Loops stop last go r next t G Done → (s : S) (front : List ℕ) (b : ℕ) (bs others : List ℕ) → go s (front ++ b ∷ bs) ≡ go s (front ++ b ∷ others)
go_alike stop last go r next t G Done loops s [] b bs others = loops.alike s b bs others
go_alike stop last go r next t G Done loops s (f ∷ fs) b bs others = loops.alike s f (fs ++ b ∷ bs) (fs ++ b ∷ others)

whole_takes_at : {S A : Type 0} (stop last : ℕ → Bool) (go : S → List ℕ → Bool) (r : S → Reader A) (next : S → A → S) (t : A → List ℕ) (G : S → A → Type 0) (Done : S → Type 0)
    → Loops stop last go r next t G Done → (f : ℕ) (s : S) (bytes : List ℕ) (xs : List A) (rest : List ℕ) → length bytes < suc f → whole go r next s bytes ≡ Ok (xs, rest)
    → ((s : S) (bytes : List ℕ) (xs : List A) (rest : List ℕ) → length bytes < f → whole go r next s bytes ≡ Ok (xs, rest) → Took (whole go r next s) (flat_map t) (Chain next G Done s) bytes xs rest)
    → (b : Bool) → go s bytes ≡ b → Took (whole go r next s) (flat_map t) (Chain next G Done s) bytes xs rest
whole_takes_at {S} {A} stop last go r next t G Done loops f s bytes xs rest less e further false h =
    let none : List A = [] in
    let ok : Ok (none, bytes) ≡ Ok (xs, rest) = sym (whole_end go r next s bytes h) ∙ e in
    let same : (none, bytes) ≡ (xs, rest) = cc ok in
    let took : Took (whole go r next s) (flat_map t) (Chain next G Done s) bytes none bytes = record {
      splits = refl;
      good = loops.done s bytes h;
      alike = λ b bs others i. whole_end go r next s (b ∷ others) (sym (loops.alike s b bs others) ∙ ap (go s) (sym i) ∙ h);
    } in
    subst (λ (z : List A × List ℕ). Took (whole go r next s) (flat_map t) (Chain next G Done s) bytes z.0 z.1) same took
whole_takes_at {S} {A} stop last go r next t G Done loops f s bytes xs rest less e further true h =
    let one = bind_ok (r s bytes) (λ p. whole go r next (next s p.0) p.1 >>= with_first p.0) (xs, rest) (sym (whole_go stop last go r next t G Done loops s bytes h) ∙ e) in
    let p = one.0 in
    let two = bind_ok (whole go r next (next s p.0) p.1) (with_first p.0) (xs, rest) one.2 in
    let q = two.0 in
    let a = (loops.reads s bytes h).takes bytes p.0 p.1 one.1 in
    let small : length p.1 < length bytes = shorter stop last go r next t G Done loops s bytes h p one.1 in
    let b = further (next s p.0) p.1 q.0 q.1 (omega arith) two.1 in
    let same : (p.0 ∷ q.0, q.1) ≡ (xs, rest) = cc two.2 in
    let took : Took (whole go r next s) (flat_map t) (Chain next G Done s) bytes (p.0 ∷ q.0) q.1 = record {
      splits = a.splits ∙ ap (λ (z : List ℕ). t p.0 ++ z) b.splits ∙ sym (append_assoc (t p.0) (flat_map t q.0) q.1);
      good = (a.good, b.good);
      alike = λ c cs others i.
          ap (whole go r next s) (append_assoc (t p.0) (flat_map t q.0) (c ∷ others))
          ∙ whole_go stop last go r next t G Done loops s (t p.0 ++ (flat_map t q.0 ++ c ∷ others)) (loops.goes s p.0 (flat_map t q.0 ++ c ∷ others) a.good)
          ∙ bind_at (r s (t p.0 ++ (flat_map t q.0 ++ c ∷ others))) (λ z. whole go r next (next s z.0) z.1 >>= with_first z.0) (p.0, flat_map t q.0 ++ c ∷ others)
          (alike_on a (flat_map t q.0) c cs others (b.splits ∙ ap (λ (z : List ℕ). flat_map t q.0 ++ z) i))
          ∙ bind_at (whole go r next (next s p.0) (flat_map t q.0 ++ c ∷ others)) (with_first p.0) (q.0, c ∷ others) (b.alike c cs others i);
    } in
    subst (λ (z : List A × List ℕ). Took (whole go r next s) (flat_map t) (Chain next G Done s) bytes z.0 z.1) same took

whole_takes : {S A : Type 0} (stop last : ℕ → Bool) (go : S → List ℕ → Bool) (r : S → Reader A) (next : S → A → S) (t : A → List ℕ) (G : S → A → Type 0) (Done : S → Type 0)
    → Loops stop last go r next t G Done → (f : ℕ) (s : S) (bytes : List ℕ) (xs : List A) (rest : List ℕ) → length bytes < f → whole go r next s bytes ≡ Ok (xs, rest)
    → Took (whole go r next s) (flat_map t) (Chain next G Done s) bytes xs rest
whole_takes stop last go r next t G Done loops zero s bytes xs rest less e = let never : ⊥ = omega arith in absurd never
whole_takes stop last go r next t G Done loops (suc f) s bytes xs rest less e = whole_takes_at stop last go r next t G Done loops f s bytes xs rest less e (whole_takes stop last go r next t G Done loops f) (go s bytes) refl

whole_stops_at : {S A : Type 0} (stop last : ℕ → Bool) (go : S → List ℕ → Bool) (r : S → Reader A) (next : S → A → S) (t : A → List ℕ) (G : S → A → Type 0) (Done : S → Type 0)
    → Loops stop last go r next t G Done → (f : ℕ) (s : S) (bytes : List ℕ) (n : ℕ) → length bytes < suc f → whole go r next s bytes ≡ Err n
    → ((s : S) (bytes : List ℕ) (n : ℕ) → length bytes < f → whole go r next s bytes ≡ Err n → Stopped (whole go r next s) (flat_map t) (Chain next G Done s) bytes n)
    → (b : Bool) → go s bytes ≡ b → Stopped (whole go r next s) (flat_map t) (Chain next G Done s) bytes n
whole_stops_at {S} {A} stop last go r next t G Done loops f s bytes n less e further false h =
    let wrong = sym (whole_end go r next s bytes h) ∙ e in
    let never : ⊥ = cc wrong in absurd never
whole_stops_at {S} {A} stop last go r next t G Done loops f s bytes n less e further true h =
    elim (bind_err (r s bytes) (λ p. whole go r next (next s p.0) p.1 >>= with_first p.0) n (sym (whole_go stop last go r next t G Done loops s bytes h) ∙ e)) [
      | inl i ↦
          let st = (loops.reads s bytes h).stops bytes n i in
          let fin = loops.finish (next s st.whole) in
          record {
            front = st.front;
            back = st.back;
            splits = st.splits;
            left = st.left;
            whole = st.whole ∷ fin.0;
            good = (st.good, fin.1);
            more = st.more ++ flat_map t fin.0;
            begun = ap (λ (z : List ℕ). z ++ flat_map t fin.0) st.begun ∙ append_assoc st.front st.more (flat_map t fin.0);
            wrong = λ b bs others j.
                let same : go s (st.front ++ b ∷ others) ≡ true =
                sym (go_alike stop last go r next t G Done loops s st.front b bs others)
                ∙ ap (λ (z : List ℕ). go s (st.front ++ z)) (sym j) ∙ ap (go s) (sym st.splits) ∙ h in
                whole_go stop last go r next t G Done loops s (st.front ++ b ∷ others) same
                ∙ bind_fails (r s (st.front ++ b ∷ others)) (λ p. whole go r next (next s p.0) p.1 >>= with_first p.0) (length (b ∷ others)) (st.wrong b bs others j);
          }
      | inr i ↦
          let p = i.0 in
          let a = (loops.reads s bytes h).takes bytes p.0 p.1 i.1 in
          let small : length p.1 < length bytes = shorter stop last go r next t G Done loops s bytes h p i.1 in
          elim (bind_err (whole go r next (next s p.0) p.1) (with_first p.0) n i.2) [
            | inl k ↦
                let st = further (next s p.0) p.1 n (omega arith) k in
                record {
                  front = t p.0 ++ st.front;
                  back = st.back;
                  splits = a.splits ∙ ap (λ (z : List ℕ). t p.0 ++ z) st.splits ∙ sym (append_assoc (t p.0) st.front st.back);
                  left = st.left;
                  whole = p.0 ∷ st.whole;
                  good = (a.good, st.good);
                  more = st.more;
                  begun = ap (λ (z : List ℕ). t p.0 ++ z) st.begun ∙ sym (append_assoc (t p.0) st.front st.more);
                  wrong = λ b bs others j.
                      ap (whole go r next s) (append_assoc (t p.0) st.front (b ∷ others))
                      ∙ whole_go stop last go r next t G Done loops s (t p.0 ++ (st.front ++ b ∷ others)) (loops.goes s p.0 (st.front ++ b ∷ others) a.good)
                      ∙ bind_at (r s (t p.0 ++ (st.front ++ b ∷ others))) (λ z. whole go r next (next s z.0) z.1 >>= with_first z.0) (p.0, st.front ++ b ∷ others)
                      (alike_on a st.front b bs others (st.splits ∙ ap (λ (z : List ℕ). st.front ++ z) j))
                      ∙ bind_fails (whole go r next (next s p.0) (st.front ++ b ∷ others)) (with_first p.0) (length (b ∷ others)) (st.wrong b bs others j);
                }
            | inr k ↦ let never : ⊥ = cc k.2 in absurd never
          ]
    ]

whole_stops : {S A : Type 0} (stop last : ℕ → Bool) (go : S → List ℕ → Bool) (r : S → Reader A) (next : S → A → S) (t : A → List ℕ) (G : S → A → Type 0) (Done : S → Type 0)
    → Loops stop last go r next t G Done → (f : ℕ) (s : S) (bytes : List ℕ) (n : ℕ) → length bytes < f → whole go r next s bytes ≡ Err n
    → Stopped (whole go r next s) (flat_map t) (Chain next G Done s) bytes n
whole_stops stop last go r next t G Done loops zero s bytes n less e = let never : ⊥ = omega arith in absurd never
whole_stops stop last go r next t G Done loops (suc f) s bytes n less e = whole_stops_at stop last go r next t G Done loops f s bytes n less e (whole_stops stop last go r next t G Done loops f) (go s bytes) refl

pub whole_reads : {S A : Type 0} (stop last : ℕ → Bool) (go : S → List ℕ → Bool) (r : S → Reader A) (next : S → A → S) (t : A → List ℕ) (G : S → A → Type 0) (Done : S → Type 0)
    → Loops stop last go r next t G Done → (s : S) → Reads last (whole go r next s) (flat_map t) (Chain next G Done s)
whole_reads stop last go r next t G Done loops s = record {
  again = λ xs rest c e. whole_again stop last go r next t G Done loops xs s rest c e;
  takes = λ bytes xs rest e. whole_takes stop last go r next t G Done loops (suc (length bytes)) s bytes xs rest (omega arith) e;
  stops = λ bytes n e. whole_stops stop last go r next t G Done loops (suc (length bytes)) s bytes n (omega arith) e;
  some = (loops.finish s).0;
  is_some = (loops.finish s).1;
}
