-- Numbering the variables of a type: each task, and what it leaves.
use Rattle.std.proofs.Common.{◌≡◌, ℕ, zero, suc, ◌+◌, ◌-◌, ◌*◌, ◌<◌, ◌≤◌, ◌⊎◌, inl, inr, Bool, true, false, ◌||◌, not, cond, List, [], ◌∷◌, ◌++◌, Option, None, Some, length, map, reverse, take, drop, get_or, slice_get, nat_eq, refl, sym, ap, ◌∙◌, subst, arith, append_assoc, length-append, eq-eqb}
use Rattle.std.specs.List.{position_or_len}
use Rattle.std.proofs.Math.Seq.{drop-cons}
use Rattle.std.proofs.lemmas.Bool.{eqb-true}
use Rattle.std.proofs.lemmas.List.{reverse-append}
use Rattle.std.proofs.lemmas.Option.{slice_get_within}
use Rattle.indexmap.specs.IndexMap.{get}
use Rattle.cu_calculus.specs.Valid.{holds}
use Rattle.cu_kernel.specs.TypeExpr as type
use Rattle.cu_kernel.specs.TypeExpr.{TypeExpr}
use Rattle.cu_kernel.specs.TypesOf.{type_list}
use Rattle.cu_types.proofs.Adding.{node_shape}
use Rattle.cu_types.proofs.TableLemmas.{mapped_length, trees_fit}
use Rattle.cu_types.proofs.Unfolding.{kept_tree, longer, no_more}
use Rattle.cu_types.proofs.Walks.{applied_built}
use Rattle.cu_types.specs.Inside.Cycles.{size, sizes}
use Rattle.cu_types.specs.Inside.Numbering.{AllMade, AreNoted, AreTasks, IsMade, IsNumbering, Joins, Makes, efforts, pending}
use Rattle.cu_types.specs.Inside.Reading.{HasVariables, IsReader, Reads, shapes}
use Rattle.cu_types.specs.Numbered.{all_noted, by_place, noted, numbered, variables_in, variables_in_all}
use Rattle.cu_types.specs.Table as shape
use Rattle.cu_types.specs.Table.{IsFull, IsTable, Shape, at, built, shape_of, trees}
use Rattle.cu_types.specs.Types.{apply}
use Rattle.cu_types.specs.declared.node.Node.{Node}
use Rattle.cu_types.specs.declared.node.TypeHead.{TypeHead}
use Rattle.cu_types.specs.declared.node.TypeHead.TheVariants as head
use Rattle.cu_types.specs.declared.numbering.Numbering.{Numbering}
use Rattle.cu_types.specs.declared.order.Task.{Task}
use Rattle.cu_types.specs.declared.order.Task.TheVariants as task

-- lists of numbers

nothing_after : (xs : List ℕ) → xs ++ [] ≡ xs
nothing_after [] = refl
nothing_after (x ∷ xs) = ap (λ (ys : List ℕ). x ∷ ys) (nothing_after xs)

or_right : (a b : Bool) → b ≡ true → (a || b) ≡ true
or_right true b h = refl
or_right false b h = h

or_left : (a b : Bool) → a ≡ true → (a || b) ≡ true
or_left true b h = refl
or_left false b h = let none : ⊥ = cc in absurd none

held_here : (b rest after : Bool) → (b || rest) ≡ true → (rest ≡ true → after ≡ true) → (b || after) ≡ true
held_here true rest after h go = refl
held_here false rest after h go = go h

pub held_prefix : (x : ℕ) (ks more : List ℕ) → holds x ks ≡ true → holds x (ks ++ more) ≡ true
held_prefix x [] more h = let none : ⊥ = cc in absurd none
held_prefix x (k ∷ ks) more h = held_here (nat_eq x k) (holds x ks) (holds x (ks ++ more)) h (held_prefix x ks more)

held_last : (x : ℕ) (ks : List ℕ) → holds x (ks ++ x ∷ []) ≡ true
held_last x [] = or_left (nat_eq x x) false (eq-eqb x x refl)
held_last x (k ∷ ks) = or_right (nat_eq x k) (holds x (ks ++ x ∷ [])) (held_last x ks)

-- a place is known once its number is
place_before : (x : ℕ) (ks more : List ℕ) → position_or_len (nat_eq x) (ks ++ x ∷ more) ≡ position_or_len (nat_eq x) ks
place_before x [] more = let e : nat_eq x x ≡ true = eq-eqb x x refl in rw e refl
place_before x (k ∷ ks) more = ap (λ (n : ℕ). cond (not (nat_eq x k)) (1 + n) 0) (place_before x ks more)

kept_here : (x k : ℕ) (ks more : List ℕ) (b : Bool) → nat_eq x k ≡ b → (b || holds x ks) ≡ true
    → (holds x ks ≡ true → position_or_len (nat_eq x) (ks ++ more) ≡ position_or_len (nat_eq x) ks)
    → position_or_len (nat_eq x) (k ∷ ks ++ more) ≡ position_or_len (nat_eq x) (k ∷ ks)
kept_here x k ks more true e h go = rw e refl
kept_here x k ks more false e h go = ap (λ (n : ℕ). cond (not (nat_eq x k)) (1 + n) 0) (go h)

place_kept : (x : ℕ) (ks more : List ℕ) → holds x ks ≡ true → position_or_len (nat_eq x) (ks ++ more) ≡ position_or_len (nat_eq x) ks
place_kept x [] more h = let none : ⊥ = cc in absurd none
place_kept x (k ∷ ks) more h = kept_here x k ks more (nat_eq x k) refl h (place_kept x ks more)

-- a number that is noted

noted_known : (ks : List ℕ) (x : ℕ) → holds x ks ≡ true → noted ks x ≡ ks
noted_known ks x h = ap (λ (b : Bool). cond b ks (ks ++ x ∷ [])) h

noted_new : (ks : List ℕ) (x : ℕ) → holds x ks ≡ false → noted ks x ≡ ks ++ x ∷ []
noted_new ks x h = ap (λ (b : Bool). cond b ks (ks ++ x ∷ [])) h

is_or_not : (b : Bool) → (b ≡ true) ⊎ (b ≡ false)
is_or_not true = inl refl
is_or_not false = inr refl

pub noted_holds : (ks : List ℕ) (x : ℕ) → holds x (noted ks x) ≡ true
noted_holds ks x = elim (is_or_not (holds x ks)) [
  | inl h ↦ ap (holds x) (noted_known ks x h) ∙ h
  | inr h ↦ ap (holds x) (noted_new ks x h) ∙ held_last x ks
]

pub noted_more : (ks : List ℕ) (x : ℕ) → (more : List ℕ) × (noted ks x ≡ ks ++ more)
noted_more ks x = elim (is_or_not (holds x ks)) [
  | inl h ↦ ([], noted_known ks x h ∙ sym (nothing_after ks))
  | inr h ↦ (x ∷ [], noted_new ks x h)
]

noted_place : (ks : List ℕ) (x : ℕ) (more : List ℕ)
    → position_or_len (nat_eq x) (noted ks x ++ more) ≡ position_or_len (nat_eq x) ks
noted_place ks x more = elim (is_or_not (holds x ks)) [
  | inl h ↦ ap (λ (xs : List ℕ). position_or_len (nat_eq x) (xs ++ more)) (noted_known ks x h) ∙ place_kept x ks more h
  | inr h ↦
      ap (λ (xs : List ℕ). position_or_len (nat_eq x) (xs ++ more)) (noted_new ks x h)
      ∙ ap (position_or_len (nat_eq x)) (append_assoc ks (x ∷ []) more) ∙ place_before x ks more
]

pub all_noted_more : (ks ys : List ℕ) → (more : List ℕ) × (all_noted ks ys ≡ ks ++ more)
all_noted_more ks [] = ([], sym (nothing_after ks))
all_noted_more ks (y ∷ ys) =
    let one = noted_more ks y in
    let rest = all_noted_more (noted ks y) ys in
    (one.0 ++ rest.0, rest.1 ∙ ap (λ (xs : List ℕ). xs ++ rest.0) one.1 ∙ append_assoc ks one.0 rest.0)

-- a variable's number is that of the end
pub number_kept : (ks rest final : List ℕ) (x : ℕ) → all_noted (noted ks x) rest ≡ final
    → type.Variable (position_or_len (nat_eq x) ks) ≡ by_place final x
number_kept ks rest final x is =
    let later = all_noted_more (noted ks x) rest in
    ap type.Variable (sym (ap (position_or_len (nat_eq x)) (sym is ∙ later.1) ∙ noted_place ks x later.0))

-- variables that are noted

noted_longer : (ks more vs : List ℕ) → AreNoted ks vs → AreNoted (ks ++ more) vs
noted_longer ks more [] all = tt
noted_longer ks more (v ∷ vs) all = (held_prefix v ks more all.0, noted_longer ks more vs all.1)

noted_both : (ks us vs : List ℕ) → AreNoted ks us → AreNoted ks vs → AreNoted ks (us ++ vs)
noted_both ks [] vs first second = second
noted_both ks (u ∷ us) vs first second = (first.0, noted_both ks us vs first.1 second)

pub noted_again : (ks vs ws : List ℕ) → AreNoted ks vs → all_noted ks (vs ++ ws) ≡ all_noted ks ws
noted_again ks [] ws all = refl
noted_again ks (v ∷ vs) ws all =
    ap (λ (xs : List ℕ). all_noted xs (vs ++ ws)) (noted_known ks v all.0) ∙ noted_again ks vs ws all.1

-- the variables of types

abbrev variables_of_all : (ℕ → TypeExpr) → List ℕ → List ℕ
variables_of_all f [] = []
variables_of_all f (p ∷ ps) = variables_in (f p) ++ variables_of_all f ps

variables_listed : (f : ℕ → TypeExpr) (ps : List ℕ) → variables_in_all (type_list (map f ps)) ≡ variables_of_all f ps
variables_listed f [] = refl
variables_listed f (p ∷ ps) = ap (λ (xs : List ℕ). variables_in (f p) ++ xs) (variables_listed f ps)

variables_built : (f : ℕ → TypeExpr) (h : TypeHead) (ps : List ℕ) → IsFull h (length ps)
    → variables_in (built h (map f ps)) ≡ variables_of_all f ps
variables_built f (head.Named name) ps full = variables_listed f ps
variables_built f head.Arrow (a ∷ b ∷ []) full = ap (λ (xs : List ℕ). variables_in (f a) ++ xs) (sym (nothing_after (variables_in (f b))))
variables_built f head.Arrow [] full = absurd (omega arith)
variables_built f head.Arrow (a ∷ []) full = absurd (omega arith)
variables_built f head.Arrow (a ∷ b ∷ c ∷ ps) full = absurd (omega arith)

-- their sizes

abbrev total : (ℕ → TypeExpr) → List ℕ → ℕ
total f [] = 0
total f (p ∷ ps) = size (f p) + total f ps

sizes_listed : (f : ℕ → TypeExpr) (ps : List ℕ) → sizes (type_list (map f ps)) ≡ total f ps
sizes_listed f [] = refl
sizes_listed f (p ∷ ps) = ap (λ (n : ℕ). size (f p) + n) (sizes_listed f ps)

size_built : (f : ℕ → TypeExpr) (h : TypeHead) (ps : List ℕ) → IsFull h (length ps) → size (built h (map f ps)) ≡ suc (total f ps)
size_built f (head.Named name) ps full = ap suc (sizes_listed f ps)
size_built f head.Arrow (a ∷ b ∷ []) full = let e : size (f a) + size (f b) ≡ size (f a) + (size (f b) + 0) = omega arith in ap suc e
size_built f head.Arrow [] full = absurd (omega arith)
size_built f head.Arrow (a ∷ []) full = absurd (omega arith)
size_built f head.Arrow (a ∷ b ∷ c ∷ ps) full = absurd (omega arith)

size_some : (t : TypeExpr) → 0 < size t
size_some (type.Variable x) = omega arith
size_some (type.Arrow a b) = omega arith
size_some (type.Named name ts) = omega arith

-- tasks to enter places

entering_efforts : (ts : List TypeExpr) (ps : List ℕ) (tasks : List Task)
    → efforts ts (map (λ a. task.Enter a) ps ++ tasks) ≡ 2 * total (at ts) ps + efforts ts tasks
entering_efforts ts [] tasks = omega arith
entering_efforts ts (p ∷ ps) tasks = let rest = entering_efforts ts ps tasks in omega arith

entering_pending : (ts : List TypeExpr) (ps : List ℕ) (tasks : List Task)
    → pending ts (map (λ a. task.Enter a) ps ++ tasks) ≡ variables_of_all (at ts) ps ++ pending ts tasks
entering_pending ts [] tasks = refl
entering_pending ts (p ∷ ps) tasks =
    ap (λ (xs : List ℕ). variables_in (at ts p) ++ xs) (entering_pending ts ps tasks)
    ∙ sym (append_assoc (variables_in (at ts p)) (variables_of_all (at ts) ps) (pending ts tasks))

entering_within : (n : ℕ) (ps : List ℕ) (tasks : List Task) → ((k a : ℕ) → slice_get ps k ≡ Some a → a < n) → AreTasks n tasks
    → AreTasks n (map (λ a. task.Enter a) ps ++ tasks)
entering_within n [] tasks within rest = rest
entering_within n (p ∷ ps) tasks within rest = (within 0 p refl, entering_within n ps tasks (λ k a e. within (suc k) a e) rest)

entering_makes : (ss : List Shape) (root : ℕ) (ps : List ℕ) (tasks : List Task) (stack : List ℕ)
    → Makes ss root tasks (stack ++ ps) → Makes ss root (map (λ a. task.Enter a) ps ++ tasks) stack
entering_makes ss root [] tasks stack makes = subst (Makes ss root tasks) (nothing_after stack) makes
entering_makes ss root (p ∷ ps) tasks stack makes =
    entering_makes ss root ps tasks (stack ++ p ∷ [])
    (subst (Makes ss root tasks) (sym (append_assoc stack (p ∷ []) ps)) makes)

-- types that were made

all_made_more : (P Q : ℕ → ℕ → Type 0) (ps ms : List ℕ) → ((p m : ℕ) → P p m → Q p m) → AllMade P ps ms → AllMade Q ps ms
all_made_more P Q [] [] more all = tt
all_made_more P Q [] (m ∷ ms) more all = absurd all
all_made_more P Q (p ∷ ps) [] more all = absurd all
all_made_more P Q (p ∷ ps) (m ∷ ms) more all = (more p m all.0, all_made_more P Q ps ms more all.1)

all_made_push : (P : ℕ → ℕ → Type 0) (ps ms : List ℕ) (p m : ℕ) → AllMade P ps ms → P p m → AllMade P (ps ++ p ∷ []) (ms ++ m ∷ [])
all_made_push P [] [] p m all one = (one, tt)
all_made_push P [] (n ∷ ms) p m all one = absurd all
all_made_push P (q ∷ ps) [] p m all one = absurd all
all_made_push P (q ∷ ps) (n ∷ ms) p m all one = (all.0, all_made_push P ps ms p m all.1 one)

pub all_made_count : (P : ℕ → ℕ → Type 0) (ps ms : List ℕ) → AllMade P ps ms → length ps ≡ length ms
all_made_count P [] [] all = refl
all_made_count P [] (m ∷ ms) all = absurd all
all_made_count P (p ∷ ps) [] all = absurd all
all_made_count P (p ∷ ps) (m ∷ ms) all = ap suc (all_made_count P ps ms all.1)

all_made_split : (P : ℕ → ℕ → Type 0) (ps qs ms : List ℕ) → AllMade P (ps ++ qs) ms
    → AllMade P ps (take (length ps) ms) × AllMade P qs (drop (length ps) ms)
all_made_split P [] qs [] all = (tt, all)
all_made_split P [] qs (m ∷ ms) all = (tt, all)
all_made_split P (p ∷ ps) qs [] all = absurd all
all_made_split P (p ∷ ps) qs (m ∷ ms) all =
    let rest = all_made_split P ps qs ms all.1 in ((all.0, rest.0), rest.1)

pub all_made_member : (P : ℕ → ℕ → Type 0) (ps ms : List ℕ) (Q : ℕ → Type 0) → AllMade P ps ms → ((p m : ℕ) → P p m → Q m)
    → (k m : ℕ) → slice_get ms k ≡ Some m → Q m
all_made_member P [] [] Q all more k m is = let none : ⊥ = cc in absurd none
all_made_member P [] (n ∷ ms) Q all more k m is = absurd all
all_made_member P (p ∷ ps) [] Q all more k m is = absurd all
all_made_member P (p ∷ ps) (n ∷ ms) Q all more zero m is = let e : n ≡ m = cc in subst Q e (more p n all.0)
all_made_member P (p ∷ ps) (n ∷ ms) Q all more (suc k) m is = all_made_member P ps ms Q all.1 more k m is

made_kept : (ts : List TypeExpr) (final ks later more : List ℕ) (made after grown : List Shape) → later ≡ ks ++ more → after ≡ made ++ grown
    → (p m : ℕ) → IsMade ts final ks made p m → IsMade ts final later after p m
made_kept ts final ks later more made after grown keys is p m one = record {
  within =
      let here : m < length made = one.within in
      let long : length made ≤ length after = longer made after grown is in
      omega arith;
  value = kept_tree made after grown m is one.within ∙ one.value;
  numbers = subst (λ (xs : List ℕ). AreNoted xs (variables_in (at ts p))) (sym keys) (noted_longer ks more (variables_in (at ts p)) one.numbers);
}

-- what stands at the places of a list
all_made_values : (ts : List TypeExpr) (final ks : List ℕ) (made : List Shape) (ps ms : List ℕ) → AllMade (IsMade ts final ks made) ps ms
    → map (at (trees made)) ms ≡ map (apply (by_place final)) (map (at ts) ps)
all_made_values ts final ks made [] [] all = refl
all_made_values ts final ks made [] (m ∷ ms) all = absurd all
all_made_values ts final ks made (p ∷ ps) [] all = absurd all
all_made_values ts final ks made (p ∷ ps) (m ∷ ms) all =
    let first : at (trees made) m ≡ apply (by_place final) (at ts p) = all.0.value in
    let rest : map (at (trees made)) ms ≡ map (apply (by_place final)) (map (at ts) ps) = all_made_values ts final ks made ps ms all.1 in
    cc

all_made_noted : (ts : List TypeExpr) (final ks : List ℕ) (made : List Shape) (ps ms : List ℕ) → AllMade (IsMade ts final ks made) ps ms
    → AreNoted ks (variables_of_all (at ts) ps)
all_made_noted ts final ks made [] [] all = tt
all_made_noted ts final ks made [] (m ∷ ms) all = absurd all
all_made_noted ts final ks made (p ∷ ps) [] all = absurd all
all_made_noted ts final ks made (p ∷ ps) (m ∷ ms) all =
    noted_both ks (variables_in (at ts p)) (variables_of_all (at ts) ps) all.0.numbers (all_made_noted ts final ks made ps ms all.1)

-- one more type was made

numbering_pushed : (ss : List Shape) (root : ℕ) (final : List ℕ) (find then : ℕ → Option ℕ) (made after grown : List Shape)
    (known kept : ℕ → Option ℕ) (ks later more places now : List ℕ) (tasks left : List Task) (stack prefix : List ℕ) (p m : ℕ)
    → HasVariables then after → after ≡ made ++ grown → later ≡ ks ++ more
    → all_noted later (pending (trees ss) left) ≡ final → AreTasks (length ss) left → Makes ss root left (stack ++ p ∷ [])
    → AllMade (IsMade (trees ss) final ks made) stack prefix → now ≡ prefix ++ m ∷ []
    → IsMade (trees ss) final later after p m
    → ((q n : ℕ) → kept q ≡ Some n → IsMade (trees ss) final later after q n)
    → IsNumbering ss root final then after kept later now left
numbering_pushed ss root final find then made after grown known kept ks later more places now tasks left stack prefix p m variables is longer_keys keys within
    makes are pushed one seen = record {
      variables = variables;
      keys = keys;
      within = within;
      stack = stack ++ p ∷ [];
      makes = makes;
      are = subst (AllMade (IsMade (trees ss) final later after) (stack ++ p ∷ [])) (sym pushed)
          (all_made_push (IsMade (trees ss) final later after) stack prefix p m
          (all_made_more (IsMade (trees ss) final ks made) (IsMade (trees ss) final later after) stack prefix
          (λ q n w. made_kept (trees ss) final ks later more made after grown longer_keys is q n w) are) one);
      seen = seen;
    }

-- what the type at a place is made of

type_at : (ss : List Shape) (p : ℕ) (h : TypeHead) (args : List ℕ) → IsTable ss → slice_get ss p ≡ Some (shape.Applied h args)
    → at (trees ss) p ≡ built h (map (at (trees ss)) args)
type_at ss p h args table is = trees_fit ss p (shape.Applied h args) table is

pub full_at : (ss : List Shape) (p : ℕ) (h : TypeHead) (args : List ℕ) → IsTable ss → slice_get ss p ≡ Some (shape.Applied h args)
    → IsFull h (length args)
full_at ss p h args table is = (table.stand p (shape.Applied h args) is).0

variables_at : (ss : List Shape) (p : ℕ) (h : TypeHead) (args : List ℕ) → IsTable ss → slice_get ss p ≡ Some (shape.Applied h args)
    → variables_in (at (trees ss) p) ≡ variables_of_all (at (trees ss)) args
variables_at ss p h args table is =
    ap variables_in (type_at ss p h args table is) ∙ variables_built (at (trees ss)) h args (full_at ss p h args table is)

arguments_within : (ss : List Shape) (p : ℕ) (h : TypeHead) (args : List ℕ) → IsTable ss → slice_get ss p ≡ Some (shape.Applied h args)
    → (k a : ℕ) → slice_get args k ≡ Some a → a < length ss
arguments_within ss p h args table is k a e =
    let lower : a < p = (table.stand p (shape.Applied h args) is).1 a k e in
    let inside : p < length ss = slice_get_within ss p (shape.Applied h args) is in
    omega arith

-- a place whose type was made

pub goes_known : (ss : List Shape) (root : ℕ) (final : List ℕ) (find : ℕ → Option ℕ) (made : List Shape) (known : ℕ → Option ℕ)
    (ks places now : List ℕ) (tasks : List Task) (p m : ℕ) → known p ≡ Some m → now ≡ places ++ m ∷ []
    → IsNumbering ss root final find made known ks places (task.Enter p ∷ tasks)
    → IsNumbering ss root final find made known ks now tasks
goes_known ss root final find made known ks places now tasks p m is pushed w =
    let one : IsMade (trees ss) final ks made p m = w.seen p m is in
    numbering_pushed ss root final find find made made [] known known ks ks [] places now tasks tasks w.stack places p m w.variables
    (no_more made) (sym (nothing_after ks))
    (sym (noted_again ks (variables_in (at (trees ss) p)) (pending (trees ss) tasks) one.numbers) ∙ w.keys) w.within.1 w.makes w.are pushed
    one w.seen

pub entered_nearer : (ts : List TypeExpr) (p : ℕ) (tasks : List Task) → efforts ts tasks < efforts ts (task.Enter p ∷ tasks)
entered_nearer ts p tasks = let some = size_some (at ts p) in omega arith

-- a variable

pub goes_variable : (ss : List Shape) (root : ℕ) (final : List ℕ) (find then : ℕ → Option ℕ) (made after : List Shape)
    (known : ℕ → Option ℕ) (ks later places now : List ℕ) (tasks : List Task) (p x m : ℕ) → IsTable ss
    → slice_get ss p ≡ Some (shape.Variable x) → HasVariables then after
    → Reads made after (type.Variable (position_or_len (nat_eq x) ks)) m → now ≡ places ++ m ∷ [] → later ≡ noted ks x
    → IsNumbering ss root final find made known ks places (task.Enter p ∷ tasks)
    → IsNumbering ss root final then after known later now tasks
goes_variable ss root final find then made after known ks later places now tasks p x m table is variables read pushed noted_is w =
    let here : at (trees ss) p ≡ type.Variable x = trees_fit ss p (shape.Variable x) table is in
    let more = noted_more ks x in
    let keys : all_noted (noted ks x) (pending (trees ss) tasks) ≡ final =
    ap (λ (t : TypeExpr). all_noted ks (variables_in t ++ pending (trees ss) tasks)) (sym here) ∙ w.keys in
    let grown : later ≡ ks ++ more.0 = noted_is ∙ more.1 in
    let held : holds x later ≡ true = ap (holds x) noted_is ∙ noted_holds ks x in
    numbering_pushed ss root final find then made after read.more known known ks later more.0 places now tasks tasks w.stack places p m
    variables read.extends grown (ap (λ (xs : List ℕ). all_noted xs (pending (trees ss) tasks)) noted_is ∙ keys) w.within.1 w.makes w.are
    pushed
    (record {
      within = read.within;
      value = read.value ∙ number_kept ks (pending (trees ss) tasks) final x keys ∙ ap (apply (by_place final)) (sym here);
      numbers = subst (λ (t : TypeExpr). AreNoted later (variables_in t)) (sym here) (held, tt);
    })
    (λ q n e. made_kept (trees ss) final ks later more.0 made after read.more grown read.extends q n (w.seen q n e))

-- a type with arguments is entered

pub goes_opened : (ss : List Shape) (root : ℕ) (final : List ℕ) (find : ℕ → Option ℕ) (made : List Shape) (known : ℕ → Option ℕ)
    (ks places : List ℕ) (tasks left : List Task) (p : ℕ) (h : TypeHead) (args : List ℕ) → IsTable ss
    → slice_get ss p ≡ Some (shape.Applied h args) → left ≡ map (λ a. task.Enter a) args ++ task.Leave p ∷ tasks
    → IsNumbering ss root final find made known ks places (task.Enter p ∷ tasks)
    → IsNumbering ss root final find made known ks places left
goes_opened ss root final find made known ks places tasks left p h args table is pushed w =
    subst (IsNumbering ss root final find made known ks places) (sym pushed) (record {
      variables = w.variables;
      keys = ap (all_noted ks) (entering_pending (trees ss) args (task.Leave p ∷ tasks)
          ∙ ap (λ (xs : List ℕ). xs ++ pending (trees ss) tasks) (sym (variables_at ss p h args table is))) ∙ w.keys;
      within = entering_within (length ss) args (task.Leave p ∷ tasks) (arguments_within ss p h args table is) (w.within.0, w.within.1);
      stack = w.stack;
      makes = entering_makes ss root args (task.Leave p ∷ tasks) w.stack (h, args, w.stack, is, refl, w.makes);
      are = w.are;
      seen = w.seen;
    })

pub opened_nearer : (ss : List Shape) (tasks left : List Task) (p : ℕ) (h : TypeHead) (args : List ℕ) → IsTable ss
    → slice_get ss p ≡ Some (shape.Applied h args) → left ≡ map (λ a. task.Enter a) args ++ task.Leave p ∷ tasks
    → efforts (trees ss) left < efforts (trees ss) (task.Enter p ∷ tasks)
opened_nearer ss tasks left p h args table is pushed =
    let sized : size (at (trees ss) p) ≡ suc (total (at (trees ss)) args) =
    ap size (type_at ss p h args table is) ∙ size_built (at (trees ss)) h args (full_at ss p h args table is) in
    let parts : efforts (trees ss) left ≡ 2 * total (at (trees ss)) args + efforts (trees ss) (task.Leave p ∷ tasks) =
    ap (efforts (trees ss)) pushed ∙ entering_efforts (trees ss) args (task.Leave p ∷ tasks) in
    omega arith

-- a type with arguments is left

same_arguments : (ss : List Shape) (p : ℕ) (h g : TypeHead) (args others : List ℕ) → slice_get ss p ≡ Some (shape.Applied h args)
    → slice_get ss p ≡ Some (shape.Applied g others) → others ≡ args
same_arguments ss p h g args others is it =
    let same : Some (shape.Applied g others) ≡ Some (shape.Applied h args) = sym it ∙ is in
    let inner : shape.Applied g others ≡ shape.Applied h args = cc in
    cc

-- the places of the arguments come last
pub record IsSplit (ss : List Shape) (final ks : List ℕ) (made : List Shape) (root p : ℕ) (args places : List ℕ) (tasks : List Task) :
    Type 0 where
  pub rest : List ℕ
  pub makes : Makes ss root tasks (rest ++ p ∷ [])
  pub few : length args ≤ length places
  pub prefix : AllMade (IsMade (trees ss) final ks made) rest (take (length places - length args) places)
  pub suffix : AllMade (IsMade (trees ss) final ks made) args (drop (length places - length args) places)

split_at : (ss : List Shape) (final ks : List ℕ) (made : List Shape) (root p : ℕ) (rest args places stack : List ℕ) (tasks : List Task)
    → stack ≡ rest ++ args → Makes ss root tasks (rest ++ p ∷ []) → AllMade (IsMade (trees ss) final ks made) stack places
    → IsSplit ss final ks made root p args places tasks
split_at ss final ks made root p rest args places stack tasks is makes are =
    let both : AllMade (IsMade (trees ss) final ks made) (rest ++ args) places =
    subst (λ (ps : List ℕ). AllMade (IsMade (trees ss) final ks made) ps places) is are in
    let count = all_made_count (IsMade (trees ss) final ks made) (rest ++ args) places both in
    let long = length-append rest args in
    let here : length rest ≡ length places - length args = omega arith in
    let parts = all_made_split (IsMade (trees ss) final ks made) rest args places both in
    record {
      rest = rest;
      makes = makes;
      few = omega arith;
      prefix = subst (λ (n : ℕ). AllMade (IsMade (trees ss) final ks made) rest (take n places)) here parts.0;
      suffix = subst (λ (n : ℕ). AllMade (IsMade (trees ss) final ks made) args (drop n places)) here parts.1;
    }

pub split : (ss : List Shape) (root : ℕ) (final : List ℕ) (find : ℕ → Option ℕ) (made : List Shape) (known : ℕ → Option ℕ)
    (ks places : List ℕ) (tasks : List Task) (p : ℕ) (h : TypeHead) (args : List ℕ) → slice_get ss p ≡ Some (shape.Applied h args)
    → IsNumbering ss root final find made known ks places (task.Leave p ∷ tasks)
    → IsSplit ss final ks made root p args places tasks
split ss root final find made known ks places tasks p h args is w =
    let same : w.makes.1 ≡ args = same_arguments ss p h w.makes.0 args w.makes.1 is w.makes.3 in
    split_at ss final ks made root p w.makes.2 args places w.stack tasks
    (w.makes.4 ∙ ap (λ (xs : List ℕ). w.makes.2 ++ xs) same) w.makes.5 w.are

seen_at : (P : ℕ → ℕ → Type 0) (known kept : ℕ → Option ℕ) (p m : ℕ) (q n : ℕ) (b : Bool) → nat_eq p q ≡ b
    → kept q ≡ cond b (Some m) (known q) → P p m → ((j i : ℕ) → known j ≡ Some i → P j i) → kept q ≡ Some n → P q n
seen_at P known kept p m q n true e is one seen found =
    let same : p ≡ q = eqb-true p q e in
    let first : Some m ≡ Some n = sym is ∙ found in
    let last : m ≡ n = cc in
    subst (λ (j : ℕ). P j n) same (subst (P p) last one)
seen_at P known kept p m q n false e is one seen found = seen q n (sym is ∙ found)

pub goes_left : (ss : List Shape) (root : ℕ) (final : List ℕ) (find then : ℕ → Option ℕ) (made after : List Shape)
    (known kept : ℕ → Option ℕ) (ks later places now : List ℕ) (tasks : List Task) (p m : ℕ) (h : TypeHead) (args : List ℕ) → IsTable ss
    → slice_get ss p ≡ Some (shape.Applied h args) → HasVariables then after
    → Reads made after (built h (map (at (trees made)) (drop (length places - length args) places))) m
    → now ≡ take (length places - length args) places ++ m ∷ [] → ((q : ℕ) → kept q ≡ cond (nat_eq p q) (Some m) (known q))
    → later ≡ ks → IsNumbering ss root final find made known ks places (task.Leave p ∷ tasks)
    → IsNumbering ss root final then after kept later now tasks
goes_left ss root final find then made after known kept ks later places now tasks p m h args table is variables read pushed changed same w =
    let s : IsSplit ss final ks made root p args places tasks = split ss root final find made known ks places tasks p h args is w in
    let grown : later ≡ ks ++ [] = same ∙ sym (nothing_after ks) in
    let mapped : length (map (at (trees ss)) args) ≡ length args = mapped_length (at (trees ss)) args in
    let full : IsFull h (length (map (at (trees ss)) args)) = subst (IsFull h) (sym mapped) (full_at ss p h args table is) in
    let one : IsMade (trees ss) final later after p m = record {
      within = read.within;
      value = read.value ∙ ap (built h) (all_made_values (trees ss) final ks made args (drop (length places - length args) places) s.suffix)
          ∙ sym (applied_built (by_place final) h (map (at (trees ss)) args) full)
          ∙ ap (apply (by_place final)) (sym (type_at ss p h args table is));
      numbers = subst (AreNoted later) (sym (variables_at ss p h args table is))
          (subst (λ (xs : List ℕ). AreNoted xs (variables_of_all (at (trees ss)) args)) (sym same)
          (all_made_noted (trees ss) final ks made args (drop (length places - length args) places) s.suffix));
    } in
    numbering_pushed ss root final find then made after read.more known kept ks later [] places now tasks tasks s.rest
    (take (length places - length args) places) p m variables read.extends grown
    (ap (λ (xs : List ℕ). all_noted xs (pending (trees ss) tasks)) same ∙ w.keys) w.within.1 s.makes s.prefix pushed one
    (λ q n e. seen_at (IsMade (trees ss) final later after) known kept p m q n (nat_eq p q) refl (changed q) one
    (λ j i f. made_kept (trees ss) final ks later [] made after read.more grown read.extends j i (w.seen j i f)) e)

-- a variable isn't left
pub variable_not_left : (ss : List Shape) (root : ℕ) (final : List ℕ) (find : ℕ → Option ℕ) (made : List Shape) (known : ℕ → Option ℕ)
    (ks places : List ℕ) (tasks : List Task) (p x : ℕ) → slice_get ss p ≡ Some (shape.Variable x)
    → IsNumbering ss root final find made known ks places (task.Leave p ∷ tasks) → ⊥
variable_not_left ss root final find made known ks places tasks p x is w =
    let same : Some (shape.Variable x) ≡ Some (shape.Applied w.makes.0 w.makes.1) = sym is ∙ w.makes.3 in
    let none : ⊥ = cc in none

pub places_within : (ss : List Shape) (root : ℕ) (final : List ℕ) (find : ℕ → Option ℕ) (made : List Shape) (known : ℕ → Option ℕ)
    (ks places : List ℕ) (tasks : List Task) → IsNumbering ss root final find made known ks places tasks → (k m : ℕ)
    → slice_get places k ≡ Some m → m < length made
places_within ss root final find made known ks places tasks w k m e =
    all_made_member (IsMade (trees ss) final ks made) w.stack places (λ n. n < length made) w.are (λ p n one. one.within) k m e

-- the walk begins, and ends

pub goes_starts : (ss : List Shape) (root : ℕ) (find : ℕ → Option ℕ) (made : List Shape) (known : ℕ → Option ℕ) (ks places : List ℕ)
    (tasks : List Task) → root < length ss → HasVariables find made → ((p : ℕ) → known p ≡ None) → ks ≡ [] → places ≡ []
    → tasks ≡ task.Enter root ∷ []
    → IsNumbering ss root (all_noted [] (variables_in (at (trees ss) root))) find made known ks places tasks
goes_starts ss root find made known ks places tasks within variables none no_keys no_places is =
    subst (IsNumbering ss root (all_noted [] (variables_in (at (trees ss) root))) find made known ks places) (sym is)
    (subst (λ (xs : List ℕ). IsNumbering ss root (all_noted [] (variables_in (at (trees ss) root))) find made known xs places (task.Enter root ∷ []))
    (sym no_keys)
    (subst (λ (ps : List ℕ). IsNumbering ss root (all_noted [] (variables_in (at (trees ss) root))) find made known [] ps (task.Enter root ∷ []))
    (sym no_places) (record {
      variables = variables;
      keys = ap (all_noted []) (nothing_after (variables_in (at (trees ss) root)));
      within = (within, tt);
      stack = [];
      makes = refl;
      are = tt;
      seen = λ p m e. let no : None ≡ Some m = sym (none p) ∙ e in (let never : ⊥ = cc in absurd never);
    })))

alone : (P : ℕ → ℕ → Type 0) (places : List ℕ) (root : ℕ) → AllMade P (root ∷ []) places → (0 < length places) × P root (get_or places 0 0)
alone P [] root all = absurd all
alone P (m ∷ []) root all = (omega arith, all.0)
alone P (m ∷ n ∷ ms) root all = absurd all.1

made_alone : (P : ℕ → ℕ → Type 0) (stack places : List ℕ) (root : ℕ) → stack ≡ root ∷ [] → AllMade P stack places
    → (0 < length places) × P root (get_or places 0 0)
made_alone P stack places root is all =
    alone P places root (subst (λ (ps : List ℕ). AllMade P ps places) is all)

pub goes_ends : (ss : List Shape) (root : ℕ) (find : ℕ → Option ℕ) (made : List Shape) (known : ℕ → Option ℕ) (ks places : List ℕ)
    → IsNumbering ss root (all_noted [] (variables_in (at (trees ss) root))) find made known ks places []
    → (0 < length places) × (get_or places 0 0 < length made) × (at (trees made) (get_or places 0 0) ≡ numbered (at (trees ss) root))
unfolding numbered
goes_ends ss root find made known ks places w =
    let one = made_alone (IsMade (trees ss) (all_noted [] (variables_in (at (trees ss) root))) ks made) w.stack places root w.makes w.are in
    (one.0, one.1.within, one.1.value)

-- tasks in a vector, the next one last

pub tasks_popped : (xs ys : List Task) (t : Task) → xs ≡ ys ++ t ∷ [] → reverse xs ≡ t ∷ reverse ys
tasks_popped xs ys t is = ap reverse is ∙ reverse-append ys (t ∷ [])

pub no_tasks : (xs : List Task) → length xs ≡ 0 → xs ≡ []
no_tasks [] none = refl
no_tasks (x ∷ xs) none = absurd (omega arith)

all_dropped : (n : ℕ) (xs : List ℕ) → length xs ≤ n → drop n xs ≡ []
all_dropped zero [] few = refl
all_dropped zero (x ∷ xs) few = absurd (omega arith)
all_dropped (suc n) [] few = refl
all_dropped (suc n) (x ∷ xs) few = all_dropped n xs (omega arith)

nothing_dropped : (xs : List ℕ) → drop 0 xs ≡ xs
nothing_dropped [] = refl
nothing_dropped (x ∷ xs) = refl

pub tasks_start : (args : List ℕ) (n : ℕ) (xs ys : List Task) (t : Task) → length args ≤ n → ys ≡ xs ++ t ∷ []
    → reverse ys ≡ map (λ a. task.Enter a) (drop n args) ++ t ∷ reverse xs
tasks_start args n xs ys t few is =
    tasks_popped ys xs t is ∙ ap (λ (qs : List ℕ). map (λ a. task.Enter a) qs ++ t ∷ reverse xs) (sym (all_dropped n args few))

pub tasks_more : (args : List ℕ) (left before : ℕ) (x : ℕ) (xs ys rest : List Task) → left ≡ before + 1 → left ≤ length args
    → x ≡ get_or args before 0 → ys ≡ xs ++ task.Enter x ∷ [] → reverse xs ≡ map (λ a. task.Enter a) (drop left args) ++ rest
    → reverse ys ≡ map (λ a. task.Enter a) (drop before args) ++ rest
tasks_more args left before x xs ys rest next few is pushed so_far =
    let e : left ≡ suc before = omega arith in
    let here : drop before args ≡ x ∷ drop left args =
    drop-cons args before 0 (omega arith) ∙ ap (λ (y : ℕ). y ∷ drop (suc before) args) (sym is)
    ∙ ap (λ (n : ℕ). x ∷ drop n args) (sym e) in
    tasks_popped ys xs (task.Enter x) pushed ∙ ap (λ (ts : List Task). task.Enter x ∷ ts) so_far
    ∙ sym (ap (λ (qs : List ℕ). map (λ a. task.Enter a) qs ++ rest) here)

pub tasks_end : (args : List ℕ) (n : ℕ) (rest : List Task) → n ≡ 0
    → map (λ a. task.Enter a) (drop n args) ++ rest ≡ map (λ a. task.Enter a) args ++ rest
tasks_end args n rest is =
    ap (λ (qs : List ℕ). map (λ a. task.Enter a) qs ++ rest) (ap (λ (k : ℕ). drop k args) is ∙ nothing_dropped args)

-- a type of the table by its node
pub node_there : (nodes : List Node) (i : ℕ) (x n : Node) → i < length (map shape_of nodes) → x ≡ get_or nodes i x → x ≡ n
    → slice_get (map shape_of nodes) i ≡ Some (shape_of n)
node_there nodes i x n within is same =
    let sized = mapped_length shape_of nodes in
    node_shape nodes i x (omega arith) is ∙ ap (λ (m : Node). Some (shape_of m)) same

pub node_in : (nodes : List Node) (i : ℕ) → i < length (map shape_of nodes) → i < length nodes
node_in nodes i within = let sized = mapped_length shape_of nodes in omega arith

-- the types that were made last, so many

dropped_length : (n : ℕ) (xs : List ℕ) → length (drop n xs) ≡ length xs - n
dropped_length zero [] = refl
dropped_length zero (x ∷ xs) = omega arith
dropped_length (suc n) [] = omega arith
dropped_length (suc n) (x ∷ xs) = let rest = dropped_length n xs in omega arith

pub last_count : (xs found : List ℕ) (count from : ℕ) → count ≤ length xs → from ≡ length xs - count → found ≡ drop from xs
    → length found ≡ count
last_count xs found count from few here is =
    let same : length found ≡ length (drop from xs) = ap length is in
    let sized = dropped_length from xs in
    omega arith

dropped_within : (from : ℕ) (xs : List ℕ) (n : ℕ) → ((k m : ℕ) → slice_get xs k ≡ Some m → m < n) → (k m : ℕ)
    → slice_get (drop from xs) k ≡ Some m → m < n
dropped_within zero [] n all k m e = let no : ⊥ = cc in absurd no
dropped_within zero (x ∷ xs) n all k m e = all k m e
dropped_within (suc from) [] n all k m e = let no : ⊥ = cc in absurd no
dropped_within (suc from) (x ∷ xs) n all k m e = dropped_within from xs n (λ j i f. all (suc j) i f) k m e

pub last_within : (xs found : List ℕ) (from n : ℕ) → found ≡ drop from xs → ((k m : ℕ) → slice_get xs k ≡ Some m → m < n)
    → (k m : ℕ) → slice_get found k ≡ Some m → m < n
last_within xs found from n is all k m e = dropped_within from xs n all k m (ap (λ (ys : List ℕ). slice_get ys k) (sym is) ∙ e)

pub joined : (before after : Numbering) (p : ℕ) (h : TypeHead) (count from : ℕ) (found left : List ℕ) (m : ℕ)
    → from ≡ length before.places.items - count → found ≡ drop from before.places.items → left ≡ take from before.places.items
    → IsReader after.made
    → Reads (shapes before.made) (shapes after.made) (built h (map (at (trees (shapes before.made))) found)) m
    → after.places.items ≡ left ++ m ∷ []
    → ((q : ℕ) → get nat_eq after.known q ≡ cond (nat_eq p q) (Some m) (get nat_eq before.known q))
    → after.variables.keys ≡ before.variables.keys → Joins before after p h count
joined before after p h count from found left m here found_is left_is reader reads pushed known keys = record {
  pushes = record {
    place = m;
    reader = reader;
    reads = subst (λ (ps : List ℕ). Reads (shapes before.made) (shapes after.made) (built h (map (at (trees (shapes before.made))) ps)) m)
        (found_is ∙ ap (λ (n : ℕ). drop n before.places.items) here) reads;
    pushed = pushed ∙ ap (λ (ps : List ℕ). ps ++ m ∷ []) (left_is ∙ ap (λ (n : ℕ). take n before.places.items) here);
  };
  known = known;
  keys = keys;
}
