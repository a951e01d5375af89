-- What is made within a number of expressions, from what its parts are.
use Rattle.std.proofs.Common.{◌≡◌, ℕ, ◌+◌, ◌≤◌, List, [], ◌∷◌, ◌++◌, Result, Ok, Err, refl, ap, sym, ◌∙◌, subst, arith, append_assoc, append-nil}
use Rattle.std.specs.Result.{IsErrAnd}
use Rattle.cu_calculus.specs.Term as clean
use Rattle.cu_deftree.specs.Inside.Tasks.{Each, Spends, Within, total}
use Rattle.cu_deftree.specs.LoweredProgram.{size}
use Rattle.cu_deftree.specs.declared.tasks.Stop.{Stop}
use Rattle.cu_deftree.specs.declared.tasks.Stop.TheVariants as stop

-- An error of a part is one of the whole, where whatever the whole is has a part that is smaller by what was taken before.
pub stops : {A B C D : Type 0} (meaning : A → B) (measure : B → ℕ) (R : B → Type 0) (part : C → D) (weight : D → ℕ) (S : D → Type 0)
    (old mid new last : ℕ) (e : Stop) → ((y : B) → R y → (z : D) × S z × (weight z + old ≤ measure y + mid))
    → Within part weight S mid new (Err e) → Within meaning measure R old last (Err e)
stops meaning measure R part weight S old mid new last stop.TooBig has h = λ y r. let z = has y r in let less = h z.0 z.1 in let more = z.2 in omega arith
stops meaning measure R part weight S old mid new last stop.NoMemory has h = tt

-- ---- a node over parts

pub record Node {B D : Type 0} (S : D → Type 0) (weight : D → ℕ) (R : B → Type 0) (measure : B → ℕ) (f : D → B) (n : ℕ) : Type 0 where
  pub forth : (u : D) → S u → R (f u)
  pub converse : (t : B) → R t → (u : D) × S u × (t ≡ f u)
  pub more : (u : D) → measure (f u) ≡ weight u + n

pub node_stops : {A B C D : Type 0} (meaning : A → B) (part : C → D) (S : D → Type 0) (weight : D → ℕ) (R : B → Type 0) (measure : B → ℕ) (f : D → B)
    (n old mid new last : ℕ) (e : Stop) → Node S weight R measure f n → mid + n ≡ old → Within part weight S mid new (Err e)
    → Within meaning measure R old last (Err e)
node_stops meaning part S weight R measure f n old mid new last e node taken h =
    stops meaning measure R part weight S old mid new last e
    (λ y r. let b = node.converse y r in let same = ap measure b.2 in let more = node.more b.0 in (b.0, b.1, omega arith)) h

pub node_done : {A B C D : Type 0} (meaning : A → B) (part : C → D) (S : D → Type 0) (weight : D → ℕ) (R : B → Type 0) (measure : B → ℕ) (f : D → B)
    (n old mid new : ℕ) (x : C) (y : A) → Node S weight R measure f n → mid + n ≡ old → Within part weight S mid new (Ok x) → meaning y ≡ f (part x)
    → Within meaning measure R old new (Ok y)
node_done meaning part S weight R measure f n old mid new x y node taken h e =
    let same = ap measure e in
    let more = node.more (part x) in
    let rest = h.1 in
    (subst R (sym e) (node.forth (part x) h.0), omega arith)

pub node_spent : {A B D : Type 0} (meaning : A → B) (S : D → Type 0) (weight : D → ℕ) (R : B → Type 0) (measure : B → ℕ) (f : D → B)
    (n old new last : ℕ) (e : Stop) → Node S weight R measure f n → Spends n old new (Err e) → Within meaning measure R old last (Err e)
node_spent meaning S weight R measure f n old new last stop.TooBig node h =
    λ y r. let b = node.converse y r in let same = ap measure b.2 in let more = node.more b.0 in omega arith
node_spent meaning S weight R measure f n old new last stop.NoMemory node h = absurd h

-- a term is of some expressions
size_some : (t : clean.Term) → 1 ≤ size t
size_some (clean.Variable x) = omega arith
size_some (clean.Literal l) = omega arith
size_some (clean.Whole h ts) = omega arith
size_some (clean.Part h ts) = omega arith
size_some (clean.Apply f a) = omega arith
size_some (clean.Let x a b) = omega arith
size_some (clean.Free x t) = omega arith
size_some (clean.Or a b) = omega arith
size_some (clean.Case mode a alternatives) = omega arith

pub one_spent : {A : Type 0} (meaning : A → clean.Term) (R : clean.Term → Type 0) (old new last : ℕ) (e : Stop) → Spends 1 old new (Err e)
    → Within meaning size R old last (Err e)
one_spent meaning R old new last stop.TooBig h = λ y r. let some = size_some y in omega arith
one_spent meaning R old new last stop.NoMemory h = absurd h

-- ---- lists, element after element

pub record Progress {X Y : Type 0} (R : X → Y → Type 0) (measure : Y → ℕ) (xs rest : List X) (done : List Y) (now initial : ℕ) : Type 0 where
  pub forth : (ys : List Y) → Each R rest ys → Each R xs (done ++ ys)
  pub converse : (ys : List Y) → Each R xs ys → (more : List Y) × Each R rest more × (ys ≡ done ++ more)
  pub spent : now + total measure done ≡ initial

pub begun : {X Y : Type 0} (R : X → Y → Type 0) (measure : Y → ℕ) (xs : List X) (n : ℕ) → Progress R measure xs xs [] n n
begun R measure xs n = record { forth = λ ys h. h; converse = λ ys h. (ys, h, refl); spent = omega arith }

total_more : {Y : Type 0} (measure : Y → ℕ) (ys : List Y) (y : Y) → total measure (ys ++ y ∷ []) ≡ total measure ys + measure y
total_more measure [] y = omega arith
total_more measure (x ∷ ys) y = let rest = total_more measure ys y in omega arith

pub gone_on : {X Y : Type 0} (R : X → Y → Type 0) (measure : Y → ℕ) (xs rest more : List X) (x : X) (y : Y) (done new : List Y) (now next initial : ℕ)
    → rest ≡ x ∷ more → R x y → ((z : Y) → R x z → z ≡ y) → next + measure y ≡ now → new ≡ done ++ y ∷ []
    → Progress R measure xs rest done now initial → Progress R measure xs more new next initial
gone_on {X} {Y} R measure xs rest more x y done new now next initial e r one taken grown p =
    let sum = total_more measure done y in
    let spent = p.spent in
    subst (λ (ys : List Y). Progress R measure xs more ys next initial) (sym grown)
    (record {
      forth = λ ys h. subst (λ (zs : List Y). Each R xs zs) (sym (append_assoc done (y ∷ []) ys))
          (p.forth (y ∷ ys) (subst (λ (zs : List X). Each R zs (y ∷ ys)) (sym e) (y, ys, r, h, refl)));
      converse = λ ys h.
          let b = p.converse ys h in
          let parts = subst (λ (zs : List X). Each R zs b.0) e b.1 in (
            parts.1,
            parts.3,
            b.2 ∙ ap (λ (zs : List Y). done ++ zs) parts.4 ∙ ap (λ (z : Y). done ++ z ∷ parts.1) (one parts.0 parts.2)
                ∙ sym (append_assoc done (y ∷ []) parts.1),
          );
      spent = omega arith;
    })

total_both : {Y : Type 0} (measure : Y → ℕ) (ys zs : List Y) → total measure (ys ++ zs) ≡ total measure ys + total measure zs
total_both measure [] zs = omega arith
total_both measure (y ∷ ys) zs = let rest = total_both measure ys zs in omega arith

pub gone_wrong : {A B X Y : Type 0} (meaning : A → List Y) (part : B → Y) (R : X → Y → Type 0) (measure : Y → ℕ) (xs rest more : List X) (x : X)
    (done : List Y) (now next last initial : ℕ) (e : Stop) → rest ≡ x ∷ more → Progress R measure xs rest done now initial
    → Within part measure (R x) now next (Err e) → Within meaning (total measure) (Each R xs) initial last (Err e)
gone_wrong {A} {B} {X} {Y} meaning part R measure xs rest more x done now next last initial e same p h =
    stops meaning (total measure) (Each R xs) part measure (R x) initial now next last e
    (λ ys each.
    let b = p.converse ys each in
    let parts = subst (λ (zs : List X). Each R zs b.0) same b.1 in
    let whole = ap (total measure) (b.2 ∙ ap (λ (zs : List Y). done ++ zs) parts.4) in
    let sum = total_both measure done (parts.0 ∷ parts.1) in
    let spent = p.spent in
    (parts.0, parts.2, omega arith)) h

pub finished : {A X Y : Type 0} (meaning : A → List Y) (R : X → Y → Type 0) (measure : Y → ℕ) (xs rest : List X) (done : List Y) (now initial : ℕ) (v : A)
    → rest ≡ [] → meaning v ≡ done → Progress R measure xs rest done now initial → Within meaning (total measure) (Each R xs) initial now (Ok v)
finished {A} {X} {Y} meaning R measure xs rest done now initial v e same p =
    let spent = p.spent in
    let sum = ap (total measure) same in
    (subst (λ (ys : List Y). Each R xs ys) (append-nil done ∙ sym same) (p.forth [] (subst (λ (zs : List X). Each R zs []) (sym e) refl)), omega arith)

-- ---- exits

-- an error that is passed on
pub passed_on : {A B : Type 0} (meaning : A → B) (measure : B → ℕ) (R : B → Type 0) (old last : ℕ) (r : Result A Stop) (e : Stop)
    → IsErrAnd r (λ g. g ≡ e) → Within meaning measure R old last (Err e) → Within meaning measure R old last r
passed_on meaning measure R old last (Ok x) e is h = absurd is
passed_on {A} {B} meaning measure R old last (Err g) e is h =
    subst (λ (s : Stop). Within {A = A} {B = B} meaning measure R old last (Err s)) (sym is) h

pub node_exit : {A B C D : Type 0} {S : D → Type 0} {weight : D → ℕ} {R : B → Type 0} {measure : B → ℕ} {f : D → B} {n : ℕ} (meaning : A → B)
    (part : C → D) (old mid new last : ℕ) (r : Result A Stop) (e : Stop) → Node S weight R measure f n → mid + n ≡ old → IsErrAnd r (λ g. g ≡ e)
    → Within part weight S mid new (Err e) → Within meaning measure R old last r
node_exit {A} {B} {C} {D} {S} {weight} {R} {measure} {f} {n} meaning part old mid new last r e node taken is h =
    passed_on meaning measure R old last r e is (node_stops meaning part S weight R measure f n old mid new last e node taken h)

pub spent_exit : {A B D : Type 0} {S : D → Type 0} {weight : D → ℕ} {R : B → Type 0} {measure : B → ℕ} {f : D → B} {n : ℕ} (meaning : A → B)
    (old new last : ℕ) (r : Result A Stop) (e : Stop) → Node S weight R measure f n → IsErrAnd r (λ g. g ≡ e) → Spends n old new (Err e)
    → Within meaning measure R old last r
spent_exit {A} {B} {D} {S} {weight} {R} {measure} {f} {n} meaning old new last r e node is h =
    passed_on meaning measure R old last r e is (node_spent meaning S weight R measure f n old new last e node h)

pub node_ok : {A B C D : Type 0} {S : D → Type 0} {weight : D → ℕ} {R : B → Type 0} {measure : B → ℕ} {f : D → B} {n : ℕ} (meaning : A → B)
    (part : C → D) (old mid new : ℕ) (x : C) (y : A) → Node S weight R measure f n → mid + n ≡ old → meaning y ≡ f (part x)
    → Within part weight S mid new (Ok x) → Within meaning measure R old new (Ok y)
node_ok {A} {B} {C} {D} {S} {weight} {R} {measure} {f} {n} meaning part old mid new x y node taken e h =
    node_done meaning part S weight R measure f n old mid new x y node taken h e

pub begun_with : {X Y : Type 0} (R : X → Y → Type 0) (measure : Y → ℕ) (xs : List X) (done : List Y) (n : ℕ) → done ≡ [] → Progress R measure xs xs done n n
begun_with {X} {Y} R measure xs done n e = subst (λ (ys : List Y). Progress R measure xs xs ys n n) (sym e) (begun R measure xs n)

-- what is one relation is the other
pub through : {A B : Type 0} {S R : B → Type 0} {measure : B → ℕ} (meaning : A → B) (old new : ℕ) (r : Result A Stop)
    → Node S measure R measure (λ t. t) 0 → Within meaning measure S old new r → Within meaning measure R old new r
through meaning old new (Ok x) node h = (node.forth (meaning x) h.0, h.1)
through {A} {B} {S} {R} {measure} meaning old new (Err stop.TooBig) node h =
    λ y q. let b = node.converse y q in let same = ap measure b.2 in let less = h b.0 b.1 in omega arith
through meaning old new (Err stop.NoMemory) node h = tt
