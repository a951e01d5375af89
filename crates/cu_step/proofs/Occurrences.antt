-- A search looks at the arguments of each node once: a node that is met again reaches what is
-- sought only by way of a lower one, which is still to be looked at.
use Rattle.std.proofs.Common.{◌≡◌, ◌≢◌, ℕ, zero, suc, ◌+◌, ◌<◌, ◌≤◌, Bool, true, false, not, ◌&&◌, ◌||◌, List, [], ◌∷◌, ◌++◌, if◌then◌else◌, refl, ap, sym, ◌∙◌, subst, length, map, set, replicate, reverse, nat_eq, ltb, arith, append-nil, eq-eqb, eqb-true, get_or-set_other}
use Rattle.std.specs.List.{list_all, list_any}
use Rattle.std.proofs.lemmas.Bool.{lt-ltb, ltb-true}
use Rattle.std.proofs.lemmas.Grind.{reverse_onto}
use Rattle.std.proofs.lemmas.List.{length-append, length-replicate, length-reverse, length-set}
use Rattle.std.proofs.lemmas.List.Folds.{list_all-append, list_any-append}
use Rattle.std.proofs.lemmas.List.Sorted.{IsPermutation-reverse, list_any-IsPermutation}
use Rattle.cu_calculus.specs.Shape.{are_data, is_data}
use Rattle.cu_calculus.specs.Value.{Value, values_of}
use Rattle.cu_machine.specs.declared.Kind.{Kind}
use Rattle.cu_machine.specs.declared.Kind.TheVariants as kind
use Rattle.cu_machine.specs.Graph.{Graph, head_of, node_at}
use Rattle.cu_machine.specs.Spell.{spelled, spelled_at}
use Rattle.cu_machine.specs.Validity.{ArgumentsThere, IsAcyclic, are_places}
use Rattle.cu_machine.proofs.Fuel.{both_true, left_true, right_true}
use Rattle.cu_machine.proofs.Tables.{occurs_table, spelled_table}
use Rattle.cu_step.specs.declared.occurs.Sought.{Sought}
use Rattle.cu_step.specs.declared.occurs.Sought.TheVariants as sought
use Rattle.cu_step.specs.Inside.Occurring.{Looks, are_reached, head_reaches, is_sought, left_after, marks_after, leads_on, lower_reaches, part_at, reaches, seen_at, sought_at, unseen_arguments}
use Rattle.cu_step.specs.Inside.Walk.{height, highest}
use Rattle.cu_step.proofs.Heights.{head_lower, height_table}

-- ---- tests

or_split : (a b : Bool) {C : Type 0} → (a || b) ≡ true → (a ≡ true → C) → (b ≡ true → C) → C
or_split true b so left right = left refl
or_split false b so left right = right so

or_one : (a b : Bool) → a ≡ true → (a || b) ≡ true
or_one true b so = refl
or_one false b so = let no : ⊥ = cc in absurd no

or_other : (a b : Bool) → b ≡ true → (a || b) ≡ true
or_other true b so = refl
or_other false b so = so

or_nothing : (a : Bool) → (a || false) ≡ a
or_nothing true = refl
or_nothing false = refl

not_both : (a b : Bool) → not (a && b) ≡ (not a || not b)
not_both true b = refl
not_both false b = refl

-- a test that follows from another
any_follows : {A : Type 0} (p q : A → Bool) (xs : List A) → ((x : A) → p x ≡ true → q x ≡ true) → list_any p xs ≡ true → list_any q xs ≡ true
any_follows p q [] follows so = so
any_follows p q (x ∷ xs) follows so =
    or_split (p x) (list_any p xs) so
    (λ here. or_one (q x) (list_any q xs) (follows x here))
    (λ there. or_other (q x) (list_any q xs) (any_follows p q xs follows there))

any_prefix : {A : Type 0} (p : A → Bool) (xs ys : List A) → list_any p xs ≡ true → list_any p (xs ++ ys) ≡ true
any_prefix p xs ys so = list_any-append p xs ys ∙ or_one (list_any p xs) (list_any p ys) so

-- the last of a list, or those before it
any_last : {A : Type 0} {C : Type 0} (p : A → Bool) (xs : List A) (x : A) → list_any p (xs ++ x ∷ []) ≡ true → (list_any p xs ≡ true → C) → (p x ≡ true → C) → C
any_last p xs x so prefix last =
    or_split (list_any p xs) (p x || false) (sym (list_any-append p xs (x ∷ [])) ∙ so) prefix
    (λ here. last (sym (or_nothing (p x)) ∙ here))

any_reverse : (p : ℕ → Bool) (xs : List ℕ) → list_any p (reverse xs) ≡ list_any p xs
any_reverse p xs = sym (list_any-IsPermutation p xs (reverse xs) (IsPermutation-reverse xs))

all_last : (p : ℕ → Bool) (xs : List ℕ) (x : ℕ) → list_all p (xs ++ x ∷ []) ≡ true → (list_all p xs ≡ true) × (p x ≡ true)
all_last p xs x all =
    let both : (list_all p xs && (p x && true)) ≡ true = sym (list_all-append p xs (x ∷ [])) ∙ all in
    (left_true (list_all p xs) (p x && true) both, left_true (p x) true (right_true (list_all p xs) (p x && true) both))

pub all_both : (p : ℕ → Bool) (xs ys : List ℕ) → list_all p xs ≡ true → list_all p ys ≡ true → list_all p (xs ++ ys) ≡ true
all_both p xs ys one other = list_all-append p xs ys ∙ both_true (list_all p xs) (list_all p ys) one other

all_reverse : (p : ℕ → Bool) (xs : List ℕ) → list_all p xs ≡ true → list_all p (reverse xs) ≡ true
all_reverse p [] all = refl
all_reverse p (x ∷ xs) all =
    ap (list_all p) (reverse_onto xs x [])
    ∙ all_both p (reverse xs) (x ∷ []) (all_reverse p xs (right_true (p x) (list_all p xs) all))
    (both_true (p x) true (left_true (p x) (list_all p xs) all) refl)

-- ---- heights

pub any_part : (part : ℕ → Value) (args : List ℕ) → not (are_data (values_of (map part args))) ≡ list_any (λ id. not (is_data (part id))) args
any_part part [] = refl
any_part part (arg ∷ args) = not_both (is_data (part arg)) (are_data (values_of (map part args))) ∙ ap (λ b. not (is_data (part arg)) || b) (any_part part args)

part_table : (part : ℕ → Value) (id : ℕ) (k : Kind) (args : List ℕ) → not (is_data (spelled_at part id k args)) ≡ part_at (λ x. not (is_data (part x))) k args
part_table part id (kind.Cons c) args = any_part part args
part_table part id (kind.Part h) args = refl
part_table part id _ args = refl

reaches_table : (graph : Graph) (v : Sought) (id : ℕ) → ArgumentsThere graph → IsAcyclic graph → id < length graph → reaches graph v id ≡ head_reaches graph v (head_of graph id)
reaches_table graph (sought.Variable v) id there acyclic below = occurs_table graph v id there (acyclic id below) below
reaches_table graph sought.Part id there acyclic below =
    ap (λ (v : Value). not (is_data v)) (spelled_table graph id there (acyclic id below) below)
    ∙ part_table (spelled graph) (head_of graph id) (node_at graph (head_of graph id)).kind (node_at graph (head_of graph id)).args

-- from which the variable is reached, below a greater height
lower_more : (graph : Graph) (v : Sought) (low high : ℕ) (ids : List ℕ) → low ≤ high → lower_reaches graph v low ids ≡ true → lower_reaches graph v high ids ≡ true
lower_more graph v low high ids less so =
    any_follows (λ id. reaches graph v id && ltb (height graph id) low) (λ id. reaches graph v id && ltb (height graph id) high) ids
    (λ id both. both_true (reaches graph v id) (ltb (height graph id) high) (left_true (reaches graph v id) (ltb (height graph id) low) both)
    (let under : height graph id < low = ltb-true (height graph id) low (right_true (reaches graph v id) (ltb (height graph id) low) both) in
    lt-ltb (height graph id) high (omega arith))) so

lower_any : (graph : Graph) (v : Sought) (top : ℕ) (ids : List ℕ) → lower_reaches graph v top ids ≡ true → list_any (reaches graph v) ids ≡ true
lower_any graph v top ids so =
    any_follows (λ id. reaches graph v id && ltb (height graph id) top) (reaches graph v) ids (λ id both. left_true (reaches graph v id) (ltb (height graph id) top) both) so

-- nodes of which each is lower
any_lower : (graph : Graph) (v : Sought) (top : ℕ) (ids : List ℕ) → highest (height graph) ids < top → list_any (reaches graph v) ids ≡ true → lower_reaches graph v top ids ≡ true
unfolding highest
any_lower graph v top [] high so = so
any_lower graph v top (id ∷ ids) high so =
    or_split (reaches graph v id) (list_any (reaches graph v) ids) so
    (λ here. or_one (reaches graph v id && ltb (height graph id) top) (lower_reaches graph v top ids)
    (both_true (reaches graph v id) (ltb (height graph id) top) here (lt-ltb (height graph id) top (omega arith))))
    (λ there. or_other (reaches graph v id && ltb (height graph id) top) (lower_reaches graph v top ids) (any_lower graph v top ids (omega arith) there))

-- ---- one look

-- what is known where the last of the nodes to be looked at is taken, and others are put there
pub record Taken (graph : Graph) (v : Sought) (id : ℕ) (more : List ℕ) (rest : List ℕ) : Type 0 where
  pub there : are_places (length graph) more ≡ true
  pub sound : list_any (reaches graph v) more ≡ true → head_reaches graph v (head_of graph id) ≡ true
  pub found : head_reaches graph v (head_of graph id) ≡ true → lower_reaches graph v (height graph (head_of graph id)) (rest ++ more) ≡ true

same_any : (r m o n : Bool) → n ≡ (r || m) → (m ≡ true → o ≡ true) → (o ≡ true → n ≡ true) → n ≡ (r || (o || false))
same_any true m o n is sound found = is
same_any false true o n is sound found = is ∙ sym (ap (λ b. b || false) (sound refl))
same_any false false true n is sound found = found refl
same_any false false false n is sound found = is

pub looks_on : (graph : Graph) (v : Sought) (ids : List ℕ) (seen after : List Bool) (rest more : List ℕ) (id : ℕ) → ArgumentsThere graph → IsAcyclic graph
    → Looks graph v ids seen (rest ++ id ∷ []) → Taken graph v id more rest
    → ((other : ℕ) → seen_at after other ≡ true → (seen_at seen other ≡ false) → other ≡ head_of graph id)
    → Looks graph v ids after (rest ++ more)
looks_on graph v ids seen after rest more id arguments acyclic looks taken marked =
    let places : ((are_places (length graph) rest ≡ true) × (ltb id (length graph) ≡ true)) = all_last (λ x. ltb x (length graph)) rest id looks.there in
    let below : id < length graph = ltb-true id (length graph) places.1 in
    let lower = head_lower (length graph) graph id arguments acyclic below in
    let table : reaches graph v id ≡ head_reaches graph v (head_of graph id) = reaches_table graph v id arguments acyclic below in
    let found : head_reaches graph v (head_of graph id) ≡ true → lower_reaches graph v (height graph (head_of graph id)) (rest ++ more) ≡ true = taken.found in
    record {
      there = all_both (λ x. ltb x (length graph)) rest more places.0 taken.there;
      lower = λ other is so. (
          let before : seen_at seen other ≡ true → lower_reaches graph v (height graph other) (rest ++ more) ≡ true = λ was.
          any_last (λ x. reaches graph v x && ltb (height graph x) (height graph other)) rest id (looks.lower other was so)
          (λ prefix. any_prefix (λ x. reaches graph v x && ltb (height graph x) (height graph other)) rest more prefix)
          (λ here.
          let under : height graph id < height graph other =
          ltb-true (height graph id) (height graph other) (right_true (reaches graph v id) (ltb (height graph id) (height graph other)) here) in
          let no_higher : height graph (head_of graph id) ≤ height graph id = lower.1 in
          lower_more graph v (height graph (head_of graph id)) (height graph other) (rest ++ more) (omega arith)
          (found (sym table ∙ left_true (reaches graph v id) (ltb (height graph id) (height graph other)) here))) in
          either (seen_at seen other) refl before
          (λ new. (let it : other ≡ head_of graph id = marked other is new in
          subst (λ (x : ℕ). head_reaches graph v x ≡ true → lower_reaches graph v (height graph x) (rest ++ more) ≡ true) (sym it) found so))
          );
      comes = same_any (list_any (reaches graph v) rest) (list_any (reaches graph v) more) (reaches graph v id) (list_any (reaches graph v) (rest ++ more))
          (list_any-append (reaches graph v) rest more)
          (λ so. table ∙ taken.sound so)
          (λ so. lower_any graph v (height graph (head_of graph id)) (rest ++ more) (found (sym table ∙ so)))
          ∙ sym (list_any-append (reaches graph v) rest (id ∷ []))
          ∙ looks.comes;
    }
  where
    either : {C : Type 0} (b : Bool) → {c : Bool} → c ≡ b → (c ≡ true → C) → (c ≡ false → C) → C
    either true is so is_not = so is
    either false is so is_not = is_not is

-- ---- what a head's kind says

pub is_reached : (part : ℕ → Bool) (v : Sought) (id : ℕ) (k : Kind) (args : List ℕ) → is_sought v id k ≡ true → sought_at part v id k args ≡ true
is_reached part (sought.Variable v) id kind.Free args so = so
is_reached part sought.Part id (kind.Part h) args so = refl
is_reached part v id _ args so = let no : ⊥ = cc in absurd no

not_false : (b : Bool) → not b ≡ false → b ≡ true
not_false true is_not = refl
not_false false is_not = sym is_not

not_true : (b : Bool) → not b ≡ true → b ≡ false
not_true true so = sym so
not_true false so = refl

only_seen : (part : ℕ → Bool) (v : Sought) (id : ℕ) (k : Kind) (args : List ℕ) (seen : Bool) → is_sought v id k ≡ false → leads_on k seen ≡ false
    → sought_at part v id k args ≡ true → seen ≡ true
only_seen part (sought.Variable v) id kind.Free args seen other on so = let no : ⊥ = cc in absurd no
only_seen part sought.Part id (kind.Part h) args seen other on so = let no : ⊥ = cc in absurd no
only_seen part v id (kind.Cons c) args seen other on so = not_false seen on
only_seen part v id _ args seen other on so = let no : ⊥ = cc in absurd no

leads_unseen : (k : Kind) (seen : Bool) → leads_on k seen ≡ true → seen ≡ false
leads_unseen (kind.Cons c) seen on = not_true seen on
leads_unseen _ seen on = let no : ⊥ = cc in absurd no

leads_arguments : (part : ℕ → Bool) (v : Sought) (id : ℕ) (k : Kind) (args : List ℕ) (seen : Bool) → leads_on k seen ≡ true → sought_at part v id k args ≡ list_any part args
leads_arguments part (sought.Variable v) id (kind.Cons c) args seen on = refl
leads_arguments part sought.Part id (kind.Cons c) args seen on = refl
leads_arguments part v id _ args seen on = let no : ⊥ = cc in absurd no

-- ---- the walk

unseen : (count id : ℕ) → seen_at (replicate count false) id ≡ false
unseen zero id = refl
unseen (suc count) zero = refl
unseen (suc count) (suc id) = unseen count id

-- nothing is marked, whether marks are kept or not
pub looks_unmarked : (graph : Graph) (v : Sought) (seen : List Bool) (pending : List ℕ) → are_places (length graph) pending ≡ true
    → ((id : ℕ) → seen_at seen id ≡ false) → Looks graph v pending seen pending
looks_unmarked graph v seen pending there none = record {
  there = there;
  lower = λ id so. (let no : ⊥ = cc (none id) in absurd no);
  comes = refl;
}

pub looks_begin : (graph : Graph) (v : Sought) (ids : List ℕ) (seen : List Bool) (pending : List ℕ) → are_places (length graph) ids ≡ true → pending ≡ ids
    → seen ≡ [] → Looks graph v ids seen pending
looks_begin graph v ids seen pending there is none =
    rw (is) (looks_unmarked graph v seen ids there (λ id. ap (λ marks. seen_at marks id) none))

-- marks are kept from now on
pub looks_again : (graph : Graph) (v : Sought) (ids : List ℕ) (seen after : List Bool) (pending left : List ℕ) (count : ℕ) → Looks graph v ids seen pending
    → after ≡ replicate count false → count ≡ length graph → left ≡ pending → Looks graph v left after left
looks_again graph v ids seen after pending left count looks new same stays =
    subst (λ (xs : List ℕ). Looks graph v xs after xs) (sym stays)
    (looks_unmarked graph v after pending looks.there (λ id. ap (λ marks. seen_at marks id) new ∙ unseen count id))

pub marks_count : (graph : Graph) (after : List Bool) (count : ℕ) → after ≡ replicate count false → count ≡ length graph → length after ≡ length graph
marks_count graph after count new same = ap length new ∙ length-replicate count false ∙ same

pub looks_last : (graph : Graph) (v : Sought) (ids : List ℕ) (seen : List Bool) (pending left : List ℕ) → Looks graph v ids seen pending → left ≡ pending
    → are_reached graph v left ≡ are_reached graph v ids
looks_last graph v ids seen pending left looks stays = ap (list_any (reaches graph v)) stays ∙ looks.comes

taken_below : (graph : Graph) (v : Sought) (ids : List ℕ) (seen : List Bool) (rest : List ℕ) (id : ℕ) → Looks graph v ids seen (rest ++ id ∷ []) → id < length graph
taken_below graph v ids seen rest id looks = ltb-true id (length graph) (all_last (λ x. ltb x (length graph)) rest id looks.there).1

pub looked_there : (graph : Graph) (v : Sought) (ids : List ℕ) (seen : List Bool) (pending rest : List ℕ) (id : ℕ) → pending ≡ rest ++ id ∷ []
    → Looks graph v ids seen pending → id < length graph
looked_there graph v ids seen pending rest id was looks =
    taken_below graph v ids seen rest id (subst (λ (xs : List ℕ). Looks graph v ids seen xs) was looks)

pub head_there : (graph : Graph) (id head : ℕ) → ArgumentsThere graph → IsAcyclic graph → id < length graph → head ≡ head_of graph id → head < length graph
head_there graph id head arguments acyclic below is =
    subst (λ (h : ℕ). h < length graph) (sym is) (head_lower (length graph) graph id arguments acyclic below).0

pub looks_found : (graph : Graph) (v : Sought) (ids : List ℕ) (seen : List Bool) (pending rest : List ℕ) (id : ℕ) → ArgumentsThere graph → IsAcyclic graph
    → pending ≡ rest ++ id ∷ [] → Looks graph v ids seen pending → is_sought v (head_of graph id) (node_at graph (head_of graph id)).kind ≡ true
    → true ≡ are_reached graph v ids
looks_found graph v ids seen pending rest id arguments acyclic was before so =
    let looks : Looks graph v ids seen (rest ++ id ∷ []) = subst (λ (xs : List ℕ). Looks graph v ids seen xs) was before in
    let here : reaches graph v id ≡ true =
    reaches_table graph v id arguments acyclic (taken_below graph v ids seen rest id looks)
    ∙ is_reached (reaches graph v) v (head_of graph id) (node_at graph (head_of graph id)).kind (node_at graph (head_of graph id)).args so in
    sym (list_any-append (reaches graph v) rest (id ∷ [])
    ∙ or_other (list_any (reaches graph v) rest) (reaches graph v id || false) (or_one (reaches graph v id) false here))
    ∙ looks.comes

pub looks_none : (graph : Graph) (v : Sought) (ids : List ℕ) (seen : List Bool) (pending : List ℕ) → pending ≡ [] → Looks graph v ids seen pending → false ≡ are_reached graph v ids
looks_none graph v ids seen pending none looks = ap (list_any (reaches graph v)) (sym none) ∙ looks.comes

pub looks_past : (graph : Graph) (v : Sought) (ids : List ℕ) (seen : List Bool) (pending rest : List ℕ) (id : ℕ) → ArgumentsThere graph → IsAcyclic graph
    → pending ≡ rest ++ id ∷ [] → Looks graph v ids seen pending → is_sought v (head_of graph id) (node_at graph (head_of graph id)).kind ≡ false
    → leads_on (node_at graph (head_of graph id)).kind (seen_at seen (head_of graph id)) ≡ false → Looks graph v ids seen rest
looks_past graph v ids seen pending rest id arguments acyclic was before other on =
    let head = head_of graph id in
    let looks : Looks graph v ids seen (rest ++ id ∷ []) = subst (λ (xs : List ℕ). Looks graph v ids seen xs) was before in
    let lower = head_lower (length graph) graph id arguments acyclic (taken_below graph v ids seen rest id looks) in
    let taken : Taken graph v id [] rest = record {
      there = refl;
      sound = λ so. (let no : ⊥ = cc in absurd no);
      found = λ so.
          any_last (λ x. reaches graph v x && ltb (height graph x) (height graph head)) rest id
          (looks.lower head (only_seen (reaches graph v) v head (node_at graph head).kind (node_at graph head).args (seen_at seen head) other on so) so)
          (λ prefix. any_prefix (λ x. reaches graph v x && ltb (height graph x) (height graph head)) rest [] prefix)
          (λ here.
          let under : height graph id < height graph head = ltb-true (height graph id) (height graph head) (right_true (reaches graph v id) (ltb (height graph id) (height graph head)) here) in
          let no_higher : height graph head ≤ height graph id = lower.1 in
          absurd (omega arith));
    } in
    subst (λ (xs : List ℕ). Looks graph v ids seen xs) (append-nil rest)
    (looks_on graph v ids seen seen rest [] id arguments acyclic looks taken (λ x is new. (let no : ⊥ = cc in absurd no)))

marked_before : (seen : List Bool) (head other : ℕ) → seen_at (set seen head true) other ≡ true → seen_at seen other ≡ false → other ≡ head
marked_before seen head other is new = go (nat_eq head other) refl
  where
    go : (b : Bool) → nat_eq head other ≡ b → other ≡ head
    go true same = sym (eqb-true head other same)
    go false differs =
        let apart : other ≢ head = λ same. (let no : ⊥ = cc (eq-eqb head other (sym same)) in no) in
        let no : ⊥ = cc (get_or-set_other seen head other true false apart) in absurd no

pub looks_into : (graph : Graph) (v : Sought) (ids : List ℕ) (seen after : List Bool) (pending rest next : List ℕ) (id : ℕ) → ArgumentsThere graph → IsAcyclic graph
    → pending ≡ rest ++ id ∷ [] → Looks graph v ids seen pending
    → leads_on (node_at graph (head_of graph id)).kind (seen_at seen (head_of graph id)) ≡ true
    → after ≡ set seen (head_of graph id) true → next ≡ rest ++ reverse (node_at graph (head_of graph id)).args → Looks graph v ids after next
looks_into graph v ids seen after pending rest next id arguments acyclic was before on marks adds =
    let head = head_of graph id in
    let args = (node_at graph (head_of graph id)).args in
    let looks : Looks graph v ids seen (rest ++ id ∷ []) = subst (λ (xs : List ℕ). Looks graph v ids seen xs) was before in
    let lower = head_lower (length graph) graph id arguments acyclic (taken_below graph v ids seen rest id looks) in
    let high = height_table graph head arguments acyclic lower.0 in
    let opened : head_reaches graph v head ≡ list_any (reaches graph v) args =
    leads_arguments (reaches graph v) v head (node_at graph head).kind args (seen_at seen head) on in
    let taken : Taken graph v id (reverse args) rest = record {
      there = all_reverse (λ x. ltb x (length graph)) args (arguments head lower.0);
      sound = λ so. opened ∙ sym (any_reverse (reaches graph v) args) ∙ so;
      found = λ so.
          list_any-append (λ x. reaches graph v x && ltb (height graph x) (height graph head)) rest (reverse args)
          ∙ or_other (lower_reaches graph v (height graph head) rest) (lower_reaches graph v (height graph head) (reverse args))
          (any_reverse (λ x. reaches graph v x && ltb (height graph x) (height graph head)) args
          ∙ any_lower graph v (height graph head) args (omega arith) (sym opened ∙ so));
    } in
    rw (marks, adds)
    (looks_on graph v ids seen (set seen head true) rest (reverse args) id arguments acyclic looks taken
    (λ x is new. marked_before seen head x is new))

-- whether a look leads on or not
looks_by : (graph : Graph) (v : Sought) (ids : List ℕ) (seen after : List Bool) (pending rest next : List ℕ) (id : ℕ) (b : Bool) → ArgumentsThere graph → IsAcyclic graph
    → pending ≡ rest ++ id ∷ [] → Looks graph v ids seen pending → is_sought v (head_of graph id) (node_at graph (head_of graph id)).kind ≡ false
    → leads_on (node_at graph (head_of graph id)).kind (seen_at seen (head_of graph id)) ≡ b
    → after ≡ (if b then set seen (head_of graph id) true else seen)
    → next ≡ (if b then rest ++ reverse (node_at graph (head_of graph id)).args else rest) → Looks graph v ids after next
looks_by graph v ids seen after pending rest next id true arguments acyclic was before other on marks adds =
    looks_into graph v ids seen after pending rest next id arguments acyclic was before on marks adds
looks_by graph v ids seen after pending rest next id false arguments acyclic was before other on marks adds =
    subst (λ (ms : List Bool). Looks graph v ids ms next) (sym marks)
    (subst (λ (xs : List ℕ). Looks graph v ids seen xs) (sym adds) (looks_past graph v ids seen pending rest id arguments acyclic was before other on))

pub looks_after : (graph : Graph) (v : Sought) (ids : List ℕ) (seen after : List Bool) (pending rest next : List ℕ) (id : ℕ) → ArgumentsThere graph → IsAcyclic graph
    → pending ≡ rest ++ id ∷ [] → Looks graph v ids seen pending → is_sought v (head_of graph id) (node_at graph (head_of graph id)).kind ≡ false
    → after ≡ marks_after seen (head_of graph id) (node_at graph (head_of graph id)).kind
    → next ≡ left_after seen rest (head_of graph id) (node_at graph (head_of graph id)) → Looks graph v ids after next
looks_after graph v ids seen after pending rest next id arguments acyclic was before other marks adds =
    looks_by graph v ids seen after pending rest next id (leads_on (node_at graph (head_of graph id)).kind (seen_at seen (head_of graph id))) arguments acyclic was before other
    refl marks adds

-- ---- how long it takes

cost_marked : (graph : Graph) (seen : List Bool) (id : ℕ) → id < length graph → length seen ≡ length graph → seen_at seen id ≡ false
    → unseen_arguments graph (set seen id true) + (length (node_at graph id).args + 1) ≡ unseen_arguments graph seen
unfolding unseen_arguments
cost_marked [] seen id below same new = let no : ⊥ = omega arith in absurd no
cost_marked (node ∷ graph) [] id below same new = let no : ⊥ = omega arith in absurd no
cost_marked (node ∷ graph) (false ∷ seen) zero below same new = omega arith
cost_marked (node ∷ graph) (true ∷ seen) zero below same new = let no : ⊥ = cc in absurd no
cost_marked (node ∷ graph) (false ∷ seen) (suc id) below same new =
    let rest = cost_marked graph seen id (omega arith) (omega arith) new in omega arith
cost_marked (node ∷ graph) (true ∷ seen) (suc id) below same new = cost_marked graph seen id (omega arith) (omega arith) new

-- what a look takes, and that there is still a mark for each node
pub record Paid (graph : Graph) (seen after : List Bool) (pending next : List ℕ) : Type 0 where
  pub less : unseen_arguments graph after + length next < unseen_arguments graph seen + length pending
  pub marked : length after ≡ length graph

cost_by : (graph : Graph) (seen after : List Bool) (pending rest next : List ℕ) (id head : ℕ) (b : Bool) → head < length graph → length seen ≡ length graph
    → pending ≡ rest ++ id ∷ [] → leads_on (node_at graph head).kind (seen_at seen head) ≡ b → after ≡ (if b then set seen head true else seen)
    → next ≡ (if b then rest ++ reverse (node_at graph head).args else rest) → Paid graph seen after pending next
cost_by graph seen after pending rest next id head true below count was on now left =
    let less : unseen_arguments graph after + (length (node_at graph head).args + 1) ≡ unseen_arguments graph seen =
    ap (λ m. unseen_arguments graph m + (length (node_at graph head).args + 1)) now
    ∙ cost_marked graph seen head below count (leads_unseen (node_at graph head).kind (seen_at seen head) on) in
    let taken = ap length was ∙ length-append rest (id ∷ []) in
    let added = ap length left ∙ length-append rest (reverse (node_at graph head).args) in
    let turned = length-reverse (node_at graph head).args in
    record { less = omega arith; marked = ap length now ∙ length-set seen head true ∙ count }
cost_by graph seen after pending rest next id head false below count was on now left =
    let same = ap (unseen_arguments graph) now in
    let fewer = ap length left in
    let taken = ap length was ∙ length-append rest (id ∷ []) in
    record { less = omega arith; marked = ap length now ∙ count }

pub cost_after : (graph : Graph) (seen after : List Bool) (pending rest next : List ℕ) (id : ℕ) → head_of graph id < length graph → length seen ≡ length graph
    → pending ≡ rest ++ id ∷ [] → after ≡ marks_after seen (head_of graph id) (node_at graph (head_of graph id)).kind
    → next ≡ left_after seen rest (head_of graph id) (node_at graph (head_of graph id)) → Paid graph seen after pending next
cost_after graph seen after pending rest next id below count was marks adds =
    cost_by graph seen after pending rest next id (head_of graph id) (leads_on (node_at graph (head_of graph id)).kind (seen_at seen (head_of graph id))) below count was
    refl marks adds
