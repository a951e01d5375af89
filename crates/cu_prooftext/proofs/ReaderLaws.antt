-- What is said of a reader and of the texts that it reads, and how it is said of readers that are
-- put together.
use Rattle.std.proofs.Common.{◌≡◌, ℕ, ◌+◌, Bool, true, false, List, [], ◌∷◌, ◌++◌, Option, None, Some, Result, Ok, Err, length, refl, ap, sym, ◌∙◌, subst, append_assoc, ◌⊎◌, inl, inr, nat_eq, cond, eq-eqb, eqb-true, ap₂}
use Rattle.cu_prooftext.specs.Inside.Readers.{◌>>=◌, Reader, after, choose, chosen, ended, made, pair, word, word_at}

-- the bytes end, or go on with a byte at which a part may stop
abbrev pub Ends : (ℕ → Bool) → List ℕ → Type 0
Ends stop [] = Unit {0}
Ends stop (b ∷ bs) = stop b ≡ true

-- The bytes begin with the text of what was read, and the same is read from them however they go on
-- after the next byte.
pub record Took {A : Type 0} (r : Reader A) (text : A → List ℕ) (Good : A → Type 0) (bytes : List ℕ) (x : A) (rest : List ℕ) : Type 0 where
  pub splits : bytes ≡ text x ++ rest
  pub good : Good x
  pub alike : (b : ℕ) (bs others : List ℕ) → rest ≡ b ∷ bs → r (text x ++ b ∷ others) ≡ Ok (x, b ∷ others)

pub record Stopped {A : Type 0} (r : Reader A) (text : A → List ℕ) (Good : A → Type 0) (bytes : List ℕ) (n : ℕ) : Type 0 where
  pub front : List ℕ
  pub back : List ℕ
  pub splits : bytes ≡ front ++ back
  pub left : length back ≡ n
  pub whole : A
  pub good : Good whole
  pub more : List ℕ
  pub begun : text whole ≡ front ++ more
  pub wrong : (b : ℕ) (bs others : List ℕ) → back ≡ b ∷ bs → r (front ++ b ∷ others) ≡ Err (length (b ∷ others))

pub record Reads {A : Type 0} (stop : ℕ → Bool) (r : Reader A) (text : A → List ℕ) (Good : A → Type 0) : Type 0 where
  pub again : (x : A) (rest : List ℕ) → Good x → Ends stop rest → r (text x ++ rest) ≡ Ok (x, rest)
  pub takes : (bytes : List ℕ) (x : A) (rest : List ℕ) → r bytes ≡ Ok (x, rest) → Took r text Good bytes x rest
  pub stops : (bytes : List ℕ) (n : ℕ) → r bytes ≡ Err n → Stopped r text Good bytes n
  pub some : A
  pub is_some : Good some

-- ---- what comes of two steps

pub bind_ok : {A B : Type 0} (m : Result A ℕ) (f : A → Result B ℕ) (y : B) → (m >>= f) ≡ Ok y → (x : A) × (m ≡ Ok x) × (f x ≡ Ok y)
bind_ok (Ok x) f y e = (x, refl, e)
bind_ok (Err n) f y e = let never : ⊥ = cc in absurd never

pub bind_err : {A B : Type 0} (m : Result A ℕ) (f : A → Result B ℕ) (n : ℕ) → (m >>= f) ≡ Err n → (m ≡ Err n) ⊎ ((x : A) × (m ≡ Ok x) × (f x ≡ Err n))
bind_err (Ok x) f n e = inr (x, refl, e)
bind_err {A} {B} (Err k) f n e = let same : k ≡ n = cc in inl (ap (λ (j : ℕ). let m : Result A ℕ = Err j in m) same)

pub bind_at : {A B : Type 0} (m : Result A ℕ) (f : A → Result B ℕ) (x : A) → m ≡ Ok x → (m >>= f) ≡ f x
bind_at m f x e = ap (λ (k : Result _ ℕ). k >>= f) e

pub bind_fails : {A B : Type 0} (m : Result A ℕ) (f : A → Result B ℕ) (n : ℕ) → m ≡ Err n → (m >>= f) ≡ Err n
bind_fails m f n e = ap (λ (k : Result _ ℕ). k >>= f) e

-- ---- what is read is read again, however the bytes go on

pub alike_on : {A : Type 0} {r : Reader A} {t : A → List ℕ} {G : A → Type 0} {bytes : List ℕ} {x : A} {rest : List ℕ} → Took r t G bytes x rest
    → (front : List ℕ) (b : ℕ) (bs others : List ℕ) → rest ≡ front ++ b ∷ bs → r (t x ++ (front ++ b ∷ others)) ≡ Ok (x, front ++ b ∷ others)
alike_on took [] b bs others e = took.alike b bs others e
alike_on took (f ∷ fs) b bs others e = took.alike f (fs ++ b ∷ bs) (fs ++ b ∷ others) e

-- ---- two parts

abbrev pub pair_text : {A B : Type 0} → (A → List ℕ) → (A → B → List ℕ) → A × B → List ℕ
pair_text t u p = t p.0 ++ u p.0 p.1

abbrev pub PairGood : {A B : Type 0} → (A → Type 0) → (A → B → Type 0) → A × B → Type 0
PairGood G H p = G p.0 × H p.0 p.1

abbrev pub Apart : {A B : Type 0} → (ℕ → Bool) → (ℕ → Bool) → (A → B → List ℕ) → (A → Type 0) → (A → B → Type 0) → Type 0
Apart {A} {B} stop last u G H = (x : A) (y : B) (rest : List ℕ) → G x → H x y → Ends last rest → Ends stop (u x y ++ rest)

pair_again : {A B : Type 0} (stop last : ℕ → Bool) (r : Reader A) (s : A → Reader B) (t : A → List ℕ) (u : A → B → List ℕ) (G : A → Type 0) (H : A → B → Type 0)
    → Reads stop r t G → ((x : A) → G x → Reads last (s x) (u x) (H x)) → Apart stop last u G H
    → (p : A × B) (rest : List ℕ) → PairGood G H p → Ends last rest → pair r s (pair_text t u p ++ rest) ≡ Ok (p, rest)
pair_again stop last r s t u G H first second apart p rest good ends =
    ap (pair r s) (append_assoc (t p.0) (u p.0 p.1) rest)
    ∙ bind_at (r (t p.0 ++ (u p.0 p.1 ++ rest))) (λ q. s q.0 q.1 >>= λ w. Ok ((q.0, w.0), w.1)) (p.0, u p.0 p.1 ++ rest)
    (first.again p.0 (u p.0 p.1 ++ rest) good.0 (apart p.0 p.1 rest good.0 good.1 ends))
    ∙ bind_at (s p.0 (u p.0 p.1 ++ rest)) (λ w. Ok ((p.0, w.0), w.1)) (p.1, rest) ((second p.0 good.0).again p.1 rest good.1 ends)

pair_takes : {A B : Type 0} (stop last : ℕ → Bool) (r : Reader A) (s : A → Reader B) (t : A → List ℕ) (u : A → B → List ℕ) (G : A → Type 0) (H : A → B → Type 0)
    → Reads stop r t G → ((x : A) → G x → Reads last (s x) (u x) (H x))
    → (bytes : List ℕ) (p : A × B) (rest : List ℕ) → pair r s bytes ≡ Ok (p, rest) → Took (pair r s) (pair_text t u) (PairGood G H) bytes p rest
pair_takes {A} {B} stop last r s t u G H first second bytes p rest e =
    let one = bind_ok (r bytes) (λ q. s q.0 q.1 >>= λ w. Ok ((q.0, w.0), w.1)) (p, rest) e in
    let q = one.0 in
    let two = bind_ok (s q.0 q.1) (λ w. Ok ((q.0, w.0), w.1)) (p, rest) one.2 in
    let w = two.0 in
    let a = first.takes bytes q.0 q.1 one.1 in
    let b = (second q.0 a.good).takes q.1 w.0 w.1 two.1 in
    let same : ((q.0, w.0), w.1) ≡ (p, rest) = cc two.2 in
    let took : Took (pair r s) (pair_text t u) (PairGood G H) bytes (q.0, w.0) w.1 = record {
      splits = a.splits ∙ ap (λ (z : List ℕ). t q.0 ++ z) b.splits ∙ sym (append_assoc (t q.0) (u q.0 w.0) w.1);
      good = (a.good, b.good);
      alike = λ c cs others i.
          ap (pair r s) (append_assoc (t q.0) (u q.0 w.0) (c ∷ others))
          ∙ bind_at (r (t q.0 ++ (u q.0 w.0 ++ c ∷ others))) (λ z. s z.0 z.1 >>= λ w. Ok ((z.0, w.0), w.1)) (q.0, u q.0 w.0 ++ c ∷ others)
          (alike_on a (u q.0 w.0) c cs others (b.splits ∙ ap (λ (z : List ℕ). u q.0 w.0 ++ z) i))
          ∙ bind_at (s q.0 (u q.0 w.0 ++ c ∷ others)) (λ z. Ok ((q.0, z.0), z.1)) (w.0, c ∷ others) (b.alike c cs others i);
    } in
    subst (λ (z : (A × B) × List ℕ). Took (pair r s) (pair_text t u) (PairGood G H) bytes z.0 z.1) same took

pair_stops : {A B : Type 0} (stop last : ℕ → Bool) (r : Reader A) (s : A → Reader B) (t : A → List ℕ) (u : A → B → List ℕ) (G : A → Type 0) (H : A → B → Type 0)
    → Reads stop r t G → ((x : A) → G x → Reads last (s x) (u x) (H x))
    → (bytes : List ℕ) (n : ℕ) → pair r s bytes ≡ Err n → Stopped (pair r s) (pair_text t u) (PairGood G H) bytes n
pair_stops stop last r s t u G H first second bytes n e =
    elim (bind_err (r bytes) (λ q. s q.0 q.1 >>= λ w. Ok ((q.0, w.0), w.1)) n e) [
      | inl h ↦
          let st = first.stops bytes n h in
          let rest = second st.whole st.good in
          record {
            front = st.front;
            back = st.back;
            splits = st.splits;
            left = st.left;
            whole = (st.whole, rest.some);
            good = (st.good, rest.is_some);
            more = st.more ++ u st.whole rest.some;
            begun = ap (λ (z : List ℕ). z ++ u st.whole rest.some) st.begun ∙ append_assoc st.front st.more (u st.whole rest.some);
            wrong = λ b bs others i. bind_fails (r (st.front ++ b ∷ others)) (λ q. s q.0 q.1 >>= λ w. Ok ((q.0, w.0), w.1)) (length (b ∷ others)) (st.wrong b bs others i);
          }
      | inr h ↦
          let q = h.0 in
          let a = first.takes bytes q.0 q.1 h.1 in
          elim (bind_err (s q.0 q.1) (λ w. Ok ((q.0, w.0), w.1)) n h.2) [
            | inl i ↦
                let st = (second q.0 a.good).stops q.1 n i in
                record {
                  front = t q.0 ++ st.front;
                  back = st.back;
                  splits = a.splits ∙ ap (λ (z : List ℕ). t q.0 ++ z) st.splits ∙ sym (append_assoc (t q.0) st.front st.back);
                  left = st.left;
                  whole = (q.0, st.whole);
                  good = (a.good, st.good);
                  more = st.more;
                  begun = ap (λ (z : List ℕ). t q.0 ++ z) st.begun ∙ sym (append_assoc (t q.0) st.front st.more);
                  wrong = λ b bs others j.
                      ap (pair r s) (append_assoc (t q.0) st.front (b ∷ others))
                      ∙ bind_at (r (t q.0 ++ (st.front ++ b ∷ others))) (λ q. s q.0 q.1 >>= λ w. Ok ((q.0, w.0), w.1)) (q.0, st.front ++ b ∷ others)
                      (alike_on a st.front b bs others (st.splits ∙ ap (λ (z : List ℕ). st.front ++ z) j))
                      ∙ bind_fails (s q.0 (st.front ++ b ∷ others)) (λ w. Ok ((q.0, w.0), w.1)) (length (b ∷ others)) (st.wrong b bs others j);
                }
            | inr i ↦ let never : ⊥ = cc i.2 in absurd never
          ]
    ]

pub pair_reads : {A B : Type 0} (stop last : ℕ → Bool) (r : Reader A) (s : A → Reader B) (t : A → List ℕ) (u : A → B → List ℕ) (G : A → Type 0) (H : A → B → Type 0)
    → Reads stop r t G → ((x : A) → G x → Reads last (s x) (u x) (H x)) → Apart stop last u G H
    → Reads last (pair r s) (pair_text t u) (PairGood G H)
pair_reads stop last r s t u G H first second apart = record {
  again = pair_again stop last r s t u G H first second apart;
  takes = pair_takes stop last r s t u G H first second;
  stops = pair_stops stop last r s t u G H first second;
  some = (first.some, (second first.some first.is_some).some);
  is_some = (first.is_some, (second first.some first.is_some).is_some);
}

-- ---- what a part stands for

abbrev pub Onto : {A B : Type 0} → (A → B) → (A → Type 0) → (B → Type 0) → Type 0
Onto {A} {B} f G H = (y : B) → H y → (x : A) × G x × (f x ≡ y)

abbrev pub Into : {A B : Type 0} → (A → B) → (A → List ℕ) → (B → List ℕ) → (A → Type 0) → (B → Type 0) → Type 0
Into {A} f t u G H = (x : A) → G x → H (f x) × (u (f x) ≡ t x)

made_again : {A B : Type 0} (stop : ℕ → Bool) (f : A → B) (r : Reader A) (t : A → List ℕ) (u : B → List ℕ) (G : A → Type 0) (H : B → Type 0)
    → Reads stop r t G → Onto f G H → Into f t u G H
    → (y : B) (rest : List ℕ) → H y → Ends stop rest → made f r (u y ++ rest) ≡ Ok (y, rest)
made_again {A} {B} stop f r t u G H reads onto into y rest h ends =
    let o = onto y h in
    let x = o.0 in
    let here : made f r (u (f x) ++ rest) ≡ Ok (f x, rest) =
    ap (λ (z : List ℕ). made f r (z ++ rest)) (into x o.1).1
    ∙ bind_at (r (t x ++ rest)) (λ p. Ok (f p.0, p.1)) (x, rest) (reads.again x rest o.1 ends) in
    subst (λ (z : B). made f r (u z ++ rest) ≡ Ok (z, rest)) o.2 here

made_takes : {A B : Type 0} (stop : ℕ → Bool) (f : A → B) (r : Reader A) (t : A → List ℕ) (u : B → List ℕ) (G : A → Type 0) (H : B → Type 0)
    → Reads stop r t G → Into f t u G H
    → (bytes : List ℕ) (y : B) (rest : List ℕ) → made f r bytes ≡ Ok (y, rest) → Took (made f r) u H bytes y rest
made_takes {A} {B} stop f r t u G H reads into bytes y rest e =
    let one = bind_ok (r bytes) (λ p. Ok (f p.0, p.1)) (y, rest) e in
    let q = one.0 in
    let a = reads.takes bytes q.0 q.1 one.1 in
    let same : (f q.0, q.1) ≡ (y, rest) = cc one.2 in
    let took : Took (made f r) u H bytes (f q.0) q.1 = record {
      splits = a.splits ∙ ap (λ (z : List ℕ). z ++ q.1) (sym (into q.0 a.good).1);
      good = (into q.0 a.good).0;
      alike = λ b bs others i.
          ap (λ (z : List ℕ). made f r (z ++ b ∷ others)) (into q.0 a.good).1
          ∙ bind_at (r (t q.0 ++ b ∷ others)) (λ p. Ok (f p.0, p.1)) (q.0, b ∷ others) (a.alike b bs others i);
    } in
    subst (λ (z : B × List ℕ). Took (made f r) u H bytes z.0 z.1) same took

made_stops : {A B : Type 0} (stop : ℕ → Bool) (f : A → B) (r : Reader A) (t : A → List ℕ) (u : B → List ℕ) (G : A → Type 0) (H : B → Type 0)
    → Reads stop r t G → Into f t u G H
    → (bytes : List ℕ) (n : ℕ) → made f r bytes ≡ Err n → Stopped (made f r) u H bytes n
made_stops stop f r t u G H reads into bytes n e =
    elim (bind_err (r bytes) (λ p. Ok (f p.0, p.1)) n e) [
      | inl h ↦
          let st = reads.stops bytes n h in
          record {
            front = st.front;
            back = st.back;
            splits = st.splits;
            left = st.left;
            whole = f st.whole;
            good = (into st.whole st.good).0;
            more = st.more;
            begun = (into st.whole st.good).1 ∙ st.begun;
            wrong = λ b bs others i. bind_fails (r (st.front ++ b ∷ others)) (λ p. Ok (f p.0, p.1)) (length (b ∷ others)) (st.wrong b bs others i);
          }
      | inr h ↦ let never : ⊥ = cc h.2 in absurd never
    ]

pub made_reads : {A B : Type 0} (stop : ℕ → Bool) (f : A → B) (r : Reader A) (t : A → List ℕ) (u : B → List ℕ) (G : A → Type 0) (H : B → Type 0)
    → Reads stop r t G → Onto f G H → Into f t u G H → Reads stop (made f r) u H
made_reads stop f r t u G H reads onto into = record {
  again = made_again stop f r t u G H reads onto into;
  takes = made_takes stop f r t u G H reads into;
  stops = made_stops stop f r t u G H reads into;
  some = f reads.some;
  is_some = (into reads.some reads.is_some).0;
}

-- ---- words

pub record WordStopped (w bytes : List ℕ) (n : ℕ) : Type 0 where
  pub front : List ℕ
  pub back : List ℕ
  pub splits : bytes ≡ front ++ back
  pub left : length back ≡ n
  pub more : List ℕ
  pub begun : w ≡ front ++ more
  pub wrong : (b : ℕ) (bs others : List ℕ) → back ≡ b ∷ bs → word_at w (front ++ b ∷ others) ≡ Err (length (b ∷ others))

word_again : (w rest : List ℕ) → word_at w (w ++ rest) ≡ Ok rest
word_again [] rest = refl
word_again (w ∷ ws) rest = rw (eq-eqb w w refl) (word_again ws rest)

word_takes_at : (ws : List ℕ) (t : Bool) (w b : ℕ) (bs rest : List ℕ) → (word_at ws bs ≡ Ok rest → bs ≡ ws ++ rest)
    → nat_eq b w ≡ t → cond t (word_at ws bs) (Err (length (b ∷ bs))) ≡ Ok rest → b ∷ bs ≡ w ∷ (ws ++ rest)
word_takes_at ws true w b bs rest further h e = ap₂ (λ (c : ℕ) (cs : List ℕ). c ∷ cs) (eqb-true b w h) (further e)
word_takes_at ws false w b bs rest further h e = let never : ⊥ = cc in absurd never

word_takes : (w bytes rest : List ℕ) → word_at w bytes ≡ Ok rest → bytes ≡ w ++ rest
word_takes [] bytes rest e = cc
word_takes (w ∷ ws) [] rest e = let never : ⊥ = cc in absurd never
word_takes (w ∷ ws) (b ∷ bs) rest e = word_takes_at ws (nat_eq b w) w b bs rest (word_takes ws bs rest) refl e

word_stops_at : (ws : List ℕ) (t : Bool) (w b : ℕ) (bs : List ℕ) (n : ℕ) → (word_at ws bs ≡ Err n → WordStopped ws bs n)
    → nat_eq b w ≡ t → cond t (word_at ws bs) (Err (length (b ∷ bs))) ≡ Err n → WordStopped (w ∷ ws) (b ∷ bs) n
word_stops_at ws true w b bs n further h e =
    let st = further e in
    record {
      front = b ∷ st.front;
      back = st.back;
      splits = ap (λ (z : List ℕ). b ∷ z) st.splits;
      left = st.left;
      more = st.more;
      begun = ap₂ (λ (c : ℕ) (cs : List ℕ). c ∷ cs) (sym (eqb-true b w h)) st.begun;
      wrong = λ c cs others i.
          ap (λ (t : Bool). cond t (word_at ws (st.front ++ c ∷ others)) (Err (length (b ∷ (st.front ++ c ∷ others))))) h
          ∙ st.wrong c cs others i;
    }
word_stops_at ws false w b bs n further h e = record {
  front = [];
  back = b ∷ bs;
  splits = refl;
  left = let same : length (b ∷ bs) ≡ n = cc e in same;
  more = w ∷ ws;
  begun = refl;
  wrong = λ c cs others i.
      let same : b ≡ c = cc i in
      ap (λ (z : ℕ). cond (nat_eq z w) (word_at ws others) (Err (length (z ∷ others)))) (sym same)
      ∙ ap (λ (t : Bool). cond t (word_at ws others) (Err (length (b ∷ others)))) h;
}

word_stops : (w bytes : List ℕ) (n : ℕ) → word_at w bytes ≡ Err n → WordStopped w bytes n
word_stops [] bytes n e = let never : ⊥ = cc in absurd never
word_stops (w ∷ ws) [] n e = record {
  front = [];
  back = [];
  splits = refl;
  left = let same : 0 ≡ n = cc in same;
  more = w ∷ ws;
  begun = refl;
  wrong = λ b bs others i. let never : ⊥ = cc i in absurd never;
}
word_stops (w ∷ ws) (b ∷ bs) n e = word_stops_at ws (nat_eq b w) w b bs n (word_stops ws bs n) refl e

abbrev pub AnyUnit : Unit {0} → Type 0
AnyUnit u = Unit {0}

word_reader_takes : (w bytes : List ℕ) (u : Unit {0}) (rest : List ℕ) → word w bytes ≡ Ok (u, rest) → Took (word w) (λ v. w) AnyUnit bytes u rest
word_reader_takes w bytes u rest e =
    let one = bind_ok (word_at w bytes) (λ z. Ok (tt, z)) (u, rest) e in
    let pairs : (tt, one.0) ≡ (u, rest) = cc one.2 in
    let same : one.0 ≡ rest = ap (λ (p : Unit {0} × List ℕ). p.1) pairs in
    record {
      splits = word_takes w bytes one.0 one.1 ∙ ap (λ (z : List ℕ). w ++ z) same;
      good = tt;
      alike = λ b bs others i. bind_at (word_at w (w ++ b ∷ others)) (λ z. Ok (tt, z)) (b ∷ others) (word_again w (b ∷ others));
    }

word_reader_stops : (w bytes : List ℕ) (n : ℕ) → word w bytes ≡ Err n → Stopped (word w) (λ v. w) AnyUnit bytes n
word_reader_stops w bytes n e =
    elim (bind_err (word_at w bytes) (λ z. Ok (tt, z)) n e) [
      | inl h ↦
          let st = word_stops w bytes n h in
          record {
            front = st.front;
            back = st.back;
            splits = st.splits;
            left = st.left;
            whole = tt;
            good = tt;
            more = st.more;
            begun = st.begun;
            wrong = λ b bs others i. bind_fails (word_at w (st.front ++ b ∷ others)) (λ z. Ok (tt, z)) (length (b ∷ others)) (st.wrong b bs others i);
          }
      | inr h ↦ let never : ⊥ = cc h.2 in absurd never
    ]

pub word_reads : (stop : ℕ → Bool) (w : List ℕ) → Reads stop (word w) (λ u. w) AnyUnit
word_reads stop w = record {
  again = λ u rest g ends. bind_at (word_at w (w ++ rest)) (λ z. Ok (tt, z)) rest (word_again w rest);
  takes = word_reader_takes w;
  stops = word_reader_stops w;
  some = tt;
  is_some = tt;
}

-- a part may stop anywhere
abbrev pub always : ℕ → Bool
always b = true

pub ends_always : (bs : List ℕ) → Ends always bs
ends_always [] = tt
ends_always (b ∷ bs) = refl

pub after_reads : {A : Type 0} (stop : ℕ → Bool) (w : List ℕ) (r : Reader A) (t : A → List ℕ) (G : A → Type 0) → Reads stop r t G → Reads stop (after w r) (λ x. w ++ t x) G
after_reads {A} stop w r t G reads =
    made_reads stop (λ (p : Unit {0} × A). p.1) (pair (word w) (λ u. r)) (pair_text (λ (u : Unit {0}). w) (λ u. t)) (λ x. w ++ t x) (PairGood AnyUnit (λ u. G)) G
    (pair_reads always stop (word w) (λ u. r) (λ u. w) (λ u. t) AnyUnit (λ u. G) (word_reads always w) (λ u g. reads) (λ u x rest g h e. ends_always (t x ++ rest)))
    (λ x g. ((tt, x), (tt, g), refl))
    (λ p g. (g.1, refl))

pub ended_reads : {A : Type 0} (stop last : ℕ → Bool) (r : Reader A) (w : List ℕ) (t : A → List ℕ) (G : A → Type 0) → Reads stop r t G
    → ((rest : List ℕ) → Ends stop (w ++ rest)) → Reads last (ended r w) (λ x. t x ++ w) G
ended_reads {A} stop last r w t G reads starts =
    made_reads last (λ (p : A × Unit {0}). p.0) (pair r (λ x. word w)) (pair_text t (λ x (u : Unit {0}). w)) (λ x. t x ++ w) (PairGood G (λ x. AnyUnit)) G
    (pair_reads stop last r (λ x. word w) t (λ x u. w) G (λ x. AnyUnit) reads (λ x g. word_reads last w) (λ x u rest g h e. starts rest))
    (λ x g. ((x, tt), (g, tt), refl))
    (λ p g. (g.0, refl))

-- ---- a table of readers, by the first byte

abbrev pub IsTagged : {A : Type 0} → (A → ℕ) → (A → Type 0) → ℕ → A → Type 0
IsTagged tag Good b x = Good x × (tag x ≡ b)

abbrev pub Entry : {A : Type 0} → (ℕ → Bool) → (A → ℕ) → (A → List ℕ) → (A → Type 0) → ℕ → Option (Reader A) → Type 0
Entry {A} stop tag tail Good b None = (x : A) → Good x → tag x ≡ b → ⊥
Entry stop tag tail Good b (Some r) = Reads stop r tail (IsTagged tag Good b)

abbrev pub tagged_text : {A : Type 0} → (A → ℕ) → (A → List ℕ) → A → List ℕ
tagged_text tag tail x = tag x ∷ tail x

chosen_again : {A : Type 0} (stop : ℕ → Bool) (tag : A → ℕ) (tail : A → List ℕ) (Good : A → Type 0) (o : Option (Reader A)) (x : A) (rest : List ℕ)
    → Entry stop tag tail Good (tag x) o → Good x → Ends stop rest → chosen o (tag x) (tail x ++ rest) ≡ Ok (x, rest)
chosen_again stop tag tail Good None x rest entry g e = absurd (entry x g refl)
chosen_again stop tag tail Good (Some r) x rest entry g e = entry.again x rest (g, refl) e

chosen_takes : {A : Type 0} (stop : ℕ → Bool) (table : ℕ → Option (Reader A)) (tag : A → ℕ) (tail : A → List ℕ) (Good : A → Type 0) (b : ℕ) (bs : List ℕ) (o : Option (Reader A)) (x : A) (rest : List ℕ)
    → table b ≡ o → Entry stop tag tail Good b o → chosen o b bs ≡ Ok (x, rest) → Took (choose table) (tagged_text tag tail) Good (b ∷ bs) x rest
chosen_takes stop table tag tail Good b bs None x rest h entry e = let never : ⊥ = cc e in absurd never
chosen_takes {A} stop table tag tail Good b bs (Some r) x rest h entry e =
    let a = entry.takes bs x rest e in
    record {
      splits = ap₂ (λ (c : ℕ) (cs : List ℕ). c ∷ cs) (sym a.good.1) a.splits;
      good = a.good.0;
      alike = λ c cs others i.
          ap (λ (z : ℕ). chosen (table z) z (tail x ++ c ∷ others)) a.good.1
          ∙ ap (λ (z : Option (Reader A)). chosen z b (tail x ++ c ∷ others)) h
          ∙ a.alike c cs others i;
    }

chosen_stops : {A : Type 0} (stop : ℕ → Bool) (table : ℕ → Option (Reader A)) (tag : A → ℕ) (tail : A → List ℕ) (Good : A → Type 0) (some : A) (is_some : Good some) (b : ℕ) (bs : List ℕ) (o : Option (Reader A)) (n : ℕ)
    → table b ≡ o → Entry stop tag tail Good b o → chosen o b bs ≡ Err n → Stopped (choose table) (tagged_text tag tail) Good (b ∷ bs) n
chosen_stops {A} stop table tag tail Good some is_some b bs None n h entry e = record {
  front = [];
  back = b ∷ bs;
  splits = refl;
  left = let same : length (b ∷ bs) ≡ n = cc e in same;
  whole = some;
  good = is_some;
  more = tagged_text tag tail some;
  begun = refl;
  wrong = λ c cs others i.
      let same : b ≡ c = cc i in
      ap (λ (z : ℕ). chosen (table z) z others) (sym same) ∙ ap (λ (z : Option (Reader A)). chosen z b others) h;
}
chosen_stops {A} stop table tag tail Good some is_some b bs (Some r) n h entry e =
    let st = entry.stops bs n e in
    record {
      front = b ∷ st.front;
      back = st.back;
      splits = ap (λ (z : List ℕ). b ∷ z) st.splits;
      left = st.left;
      whole = st.whole;
      good = st.good.0;
      more = st.more;
      begun = ap₂ (λ (c : ℕ) (cs : List ℕ). c ∷ cs) st.good.1 st.begun;
      wrong = λ c cs others i.
          ap (λ (z : Option (Reader A)). chosen z b (st.front ++ c ∷ others)) h ∙ st.wrong c cs others i;
    }

choose_stops : {A : Type 0} (stop : ℕ → Bool) (table : ℕ → Option (Reader A)) (tag : A → ℕ) (tail : A → List ℕ) (Good : A → Type 0) (some : A) (is_some : Good some)
    → ((b : ℕ) → Entry stop tag tail Good b (table b)) → (bytes : List ℕ) (n : ℕ) → choose table bytes ≡ Err n → Stopped (choose table) (tagged_text tag tail) Good bytes n
choose_stops stop table tag tail Good some is_some entries [] n e = record {
  front = [];
  back = [];
  splits = refl;
  left = let same : 0 ≡ n = cc e in same;
  whole = some;
  good = is_some;
  more = tagged_text tag tail some;
  begun = refl;
  wrong = λ b bs others i. let never : ⊥ = cc i in absurd never;
}
choose_stops stop table tag tail Good some is_some entries (b ∷ bs) n e =
    chosen_stops stop table tag tail Good some is_some b bs (table b) n refl (entries b) e

choose_takes : {A : Type 0} (stop : ℕ → Bool) (table : ℕ → Option (Reader A)) (tag : A → ℕ) (tail : A → List ℕ) (Good : A → Type 0)
    → ((b : ℕ) → Entry stop tag tail Good b (table b)) → (bytes : List ℕ) (x : A) (rest : List ℕ) → choose table bytes ≡ Ok (x, rest) → Took (choose table) (tagged_text tag tail) Good bytes x rest
choose_takes stop table tag tail Good entries [] x rest e = let never : ⊥ = cc e in absurd never
choose_takes stop table tag tail Good entries (b ∷ bs) x rest e =
    chosen_takes stop table tag tail Good b bs (table b) x rest refl (entries b) e

pub choose_reads : {A : Type 0} (stop : ℕ → Bool) (table : ℕ → Option (Reader A)) (tag : A → ℕ) (tail : A → List ℕ) (Good : A → Type 0) (some : A) → Good some
    → ((b : ℕ) → Entry stop tag tail Good b (table b)) → Reads stop (choose table) (tagged_text tag tail) Good
choose_reads stop table tag tail Good some is_some entries = record {
  again = λ x rest g e. chosen_again stop tag tail Good (table (tag x)) x rest (entries (tag x)) g e;
  takes = choose_takes stop table tag tail Good entries;
  stops = choose_stops stop table tag tail Good some is_some entries;
  some = some;
  is_some = is_some;
}

entry_at : {A : Type 0} (stop : ℕ → Bool) (tag : A → ℕ) (tail : A → List ℕ) (Good : A → Type 0) (b c : ℕ) (r : Reader A) (o : Option (Reader A)) (t : Bool)
    → nat_eq b c ≡ t → Entry stop tag tail Good c (Some r) → (nat_eq b c ≡ false → Entry stop tag tail Good b o) → Entry stop tag tail Good b (cond t (Some r) o)
entry_at stop tag tail Good b c r o true h here others = subst (λ (z : ℕ). Entry stop tag tail Good z (Some r)) (sym (eqb-true b c h)) here
entry_at stop tag tail Good b c r o false h here others = others h

-- an entry of a table for a byte, and the further ones for all others
pub entry_if : {A : Type 0} (stop : ℕ → Bool) (tag : A → ℕ) (tail : A → List ℕ) (Good : A → Type 0) (b c : ℕ) (r : Reader A) (o : Option (Reader A))
    → Entry stop tag tail Good c (Some r) → (nat_eq b c ≡ false → Entry stop tag tail Good b o) → Entry stop tag tail Good b (cond (nat_eq b c) (Some r) o)
entry_if stop tag tail Good b c r o here others = entry_at stop tag tail Good b c r o (nat_eq b c) refl here others
