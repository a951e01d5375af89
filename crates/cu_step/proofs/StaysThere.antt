-- What is there in a graph is there in the graph that follows a step: the heads of arguments, and
-- their whole values.
use Rattle.std.proofs.Common.{◌≡◌, ℕ, ◌<◌, Bool, true, false, List, [], ◌∷◌, IsTrue, refl, ap, sym, ◌∙◌, true≢false, length, map, nat_lt, arith, ltb-true, lt-ltb}
use Rattle.std.specs.List.{list_all}
use Rattle.cu_calculus.specs.declared.ConId.{ConId}
use Rattle.cu_machine.specs.declared.Kind.{Kind}
use Rattle.cu_machine.specs.declared.Kind.TheVariants as kind
use Rattle.cu_machine.specs.Graph.{Graph, Node, followed, head_at, head_of, node_at}
use Rattle.cu_machine.specs.Need.{Extent, Need, Done, Outermost, Throughout, before, first, is_head, need_at, need_within, rest_at, side, strict, unless_done, unless_free, unless_true}
use Rattle.cu_machine.specs.Steps.{node}
use Rattle.cu_machine.specs.Validity.{AllFounded, ArgumentsThere, Founded, IsAcyclic, are_places, founded, is_plain, more, none}
use Rattle.cu_machine.proofs.DoneLaws.{done_is_head, head_of_done, then_first, then_second}
use Rattle.cu_machine.proofs.Fuel.{left_true, right_true}
use Rattle.cu_machine.proofs.NeedPlaces.{before_done, places_closed}
use Rattle.cu_machine.proofs.Rows.{head_closed, plain_there}
use Rattle.cu_machine.proofs.Tables.{head_table, need_table}
use Rattle.cu_step.proofs.Bindings.{Became, apart_by, Keeps, Settled, constructed, is_fixed, is_free, is_variable, kind_is, literal, node_is, renamed, settled, variable}

abbrev pub is_ind : Kind → Bool
is_ind kind.Ind = true
is_ind _ = false

pub head_fixed : (k : Kind) → is_head k ≡ true → is_fixed k ≡ true
head_fixed (kind.Cons c) is = refl
head_fixed (kind.Lit l) is = refl
head_fixed (kind.Part h) is = refl
head_fixed kind.Free is = refl
head_fixed _ is = let none_left : ⊥ = true≢false (sym is) in absurd none_left

pub head_no_ind : (k : Kind) → is_head k ≡ true → is_ind k ≡ false
head_no_ind kind.Ind is = let none_left : ⊥ = true≢false (sym is) in absurd none_left
head_no_ind _ is = refl

pub unfixed_no_ind : (k : Kind) → is_fixed k ≡ false → is_ind k ≡ false
unfixed_no_ind kind.Ind is = is
unfixed_no_ind _ is = refl

pub unless_free_bound : (id : ℕ) (k : Kind) → unless_free id k ≡ Done → is_free k ≡ false
unless_free_bound id kind.Free is = let none_left : ⊥ = cc in absurd none_left
unless_free_bound id _ is = refl

pub unless_true_bound : (truth : ConId) (id side : ℕ) (k : Kind) → unless_true truth id side k ≡ Done → is_free k ≡ false
unless_true_bound truth id side kind.Free is = let none_left : ⊥ = cc in absurd none_left
unless_true_bound truth id side _ is = refl

-- ---- one graph

module _ (truth : ConId) (graph : Graph) (arguments : ArgumentsThere graph) (acyclic : IsAcyclic graph) where
  -- what a node needs
  abbrev pub part : Extent → ℕ → Need
  part = need_within (length graph) truth graph

  pub own_followed : (follow : ℕ → ℕ) (x : ℕ) (k : Kind) (args : List ℕ) → is_ind k ≡ false → followed follow x k args ≡ x
  own_followed follow x kind.Ind args is = let none_left : ⊥ = true≢false is in absurd none_left
  own_followed follow x _ args is = refl

  -- what is no Ind is its own head
  pub own_head : (x : ℕ) → x < length graph → is_ind (node_at graph x).kind ≡ false → head_of graph x ≡ x
  own_head x below is = head_table graph x arguments (acyclic x below) below ∙ own_followed (head_of graph) x (node_at graph x).kind (node_at graph x).args is

  -- an Ind has the head of its argument
  pub next_head : (x other : ℕ) (args : List ℕ) → x < length graph → node_at graph x ≡ node kind.Ind (other ∷ args) → head_of graph x ≡ head_of graph other
  next_head x other args below is =
      head_table graph x arguments (acyclic x below) below
      ∙ ap (λ (n : Node). followed (head_of graph) x n.kind n.args) is

  pub head_there : (x : ℕ) → x < length graph → head_of graph x < length graph
  head_there x below =
      ltb-true (head_of graph x) (length graph)
      (head_closed (λ y. nat_lt y (length graph)) graph (length graph) x (places_closed graph arguments) (lt-ltb x (length graph) below))

  -- what a head needs
  abbrev pub needed : Extent → ℕ → Node → Need
  needed extent id n = unless_done (need_at truth graph part id n.kind n.args) (rest_at part extent n.kind n.args)

  pub need_of_head : (extent : Extent) (x : ℕ) → x < length graph → part extent x ≡ needed extent (head_of graph x) (head_at graph x)
  need_of_head extent x below = need_table truth graph extent x arguments (acyclic x below) below

  pub need_by : (extent : Extent) (x id : ℕ) (n : Node) → x < length graph → head_of graph x ≡ id → node_at graph id ≡ n → part extent x ≡ needed extent id n
  need_by extent x id n below is n_is =
      need_of_head extent x below ∙ ap (λ (y : ℕ). needed extent y (node_at graph y)) is ∙ ap (needed extent id) n_is

  -- nodes with one head need the same
  pub one_need : (extent : Extent) (x y : ℕ) → x < length graph → y < length graph → head_of graph x ≡ head_of graph y → part extent x ≡ part extent y
  one_need extent x y below under same =
      need_by extent x (head_of graph y) (head_at graph y) below same refl ∙ sym (need_of_head extent y under)

  pub heads_done : (id : ℕ) (k : Kind) (args : List ℕ) → is_head k ≡ true → need_at truth graph part id k args ≡ Done
  heads_done id (kind.Cons c) args is = refl
  heads_done id (kind.Lit l) args is = refl
  heads_done id (kind.Part h) args is = refl
  heads_done id kind.Free args is = refl
  heads_done id _ args is = let none_left : ⊥ = true≢false (sym is) in absurd none_left

  -- the head of a value that is there throughout is there
  pub outer_done : (x : ℕ) → x < length graph → part Throughout x ≡ Done → part Outermost x ≡ Done
  outer_done x below is =
      need_of_head Outermost x below
      ∙ ap (λ (n : Need). unless_done n Done)
      (then_first (need_at truth graph part (head_of graph x) (head_at graph x).kind (head_at graph x).args)
      (rest_at part Throughout (head_at graph x).kind (head_at graph x).args) (sym (need_of_head Throughout x below) ∙ is))

  -- ---- what a variable became is there

  pub variable_done : (x : ℕ) → is_variable graph x ≡ true → part Throughout x ≡ Done
  variable_done x is =
      let this = node_is (node_at graph x) is in
      let below = plain_there graph x (kind_is graph x kind.Free this.0 is_plain this.1) in
      need_by Throughout x x (node kind.Free this.0) below (own_head x below (kind_is graph x kind.Free this.0 is_ind this.1)) this.1

  pub variables_done : (xs : List ℕ) → list_all (is_variable graph) xs ≡ true → first (map (part Throughout) xs) ≡ Done
  variables_done [] all = refl
  variables_done (x ∷ xs) all =
      ap (λ (n : Need). before n (first (map (part Throughout) xs)))
      (variable_done x (left_true (is_variable graph x) (list_all (is_variable graph) xs) all))
      ∙ variables_done xs (right_true (is_variable graph x) (list_all (is_variable graph) xs) all)

  pub settled_done : (x : ℕ) → Settled graph x → part Throughout x ≡ Done
  settled_done x (variable args is) = variable_done x (kind_is graph x kind.Free args is_free is)
  settled_done x (literal l args is) =
      let below = plain_there graph x (kind_is graph x (kind.Lit l) args is_plain is) in
      need_by Throughout x x (node (kind.Lit l) args) below (own_head x below (kind_is graph x (kind.Lit l) args is_ind is)) is
  settled_done x (constructed c args is all) =
      let below = plain_there graph x (kind_is graph x (kind.Cons c) args is_plain is) in
      need_by Throughout x x (node (kind.Cons c) args) below (own_head x below (kind_is graph x (kind.Cons c) args is_ind is)) is
      ∙ variables_done args all

  pub settled_there : (x : ℕ) → Settled graph x → x < length graph
  settled_there x (variable args is) = plain_there graph x (kind_is graph x kind.Free args is_plain is)
  settled_there x (literal l args is) = plain_there graph x (kind_is graph x (kind.Lit l) args is_plain is)
  settled_there x (constructed c args is all) = plain_there graph x (kind_is graph x (kind.Cons c) args is_plain is)

  pub became_done : (x : ℕ) → Became graph x → part Throughout x ≡ Done
  became_done x (settled is) = settled_done x is
  became_done x (renamed other is there) =
      let below = plain_there graph x (kind_is graph x kind.Ind (other ∷ []) is_plain is) in
      one_need Throughout x other below (settled_there other there) (next_head x other [] below is) ∙ settled_done other there

-- ---- a graph and one that follows

module _ (truth : ConId) (graph after : Graph) (id : ℕ) (arguments : ArgumentsThere graph) (acyclic : IsAcyclic graph) (later_arguments : ArgumentsThere after)
    (later_acyclic : IsAcyclic after) (redex : is_fixed (node_at graph id).kind ≡ false) (keeps : Keeps graph after id) where
  -- what a node needs in the graph that follows
  abbrev pub later : Extent → ℕ → Need
  later = need_within (length after) truth after

  abbrev pub now : Extent → ℕ → Need
  now = need_within (length graph) truth graph

  pub there_later : (x : ℕ) → x < length graph → x < length after
  there_later x below = let longer = keeps.longer in omega arith

  -- heads and Inds that are no free variables stay
  pub fixed_stays : (x : ℕ) → x < length graph → is_fixed (node_at graph x).kind ≡ true → is_variable graph x ≡ false → node_at after x ≡ node_at graph x
  fixed_stays x below fixed still = keeps.same x below (apart_by graph is_fixed x id fixed redex) still

  -- ---- heads

  -- what the first of several nodes has as its head
  abbrev pub FirstThrough : List ℕ → Type 0
  FirstThrough [] = Unit {0}
  FirstThrough (x ∷ xs) = head_of after x ≡ head_of after (head_of graph x)

  pub through_at : (x : ℕ) (k : Kind) (args : List ℕ) → x < length graph → node_at graph x ≡ node k args → IsTrue (are_places (length graph) args)
      → FirstThrough args → head_of after x ≡ head_of after (head_of graph x)
  through_at x kind.Ind (other ∷ args) below is there first_is =
      let stays : node_at after x ≡ node kind.Ind (other ∷ args) =
      fixed_stays x below (kind_is graph x kind.Ind (other ∷ args) is_fixed is) (kind_is graph x kind.Ind (other ∷ args) is_free is) ∙ is in
      next_head truth after later_arguments later_acyclic x other args (there_later x below) stays ∙ first_is
      ∙ ap (head_of after) (sym (next_head truth graph arguments acyclic x other args below is))
  through_at x _ args below is there first_is =
      ap (head_of after)
      (sym (head_table graph x arguments (acyclic x below) below ∙ ap (λ (n : Node). followed (head_of graph) x n.kind n.args) is))

  mutual
    pub through : (x : ℕ) → Founded graph x → x < length graph → head_of after x ≡ head_of after (head_of graph x)
    through x (founded other all) below =
        through_at x (node_at graph x).kind (node_at graph x).args below refl (arguments x below) (first_through (node_at graph x).args all (arguments x below))

    pub first_through : (xs : List ℕ) → AllFounded graph xs → IsTrue (are_places (length graph) xs) → FirstThrough xs
    first_through [] none there = tt
    first_through (x ∷ xs) (more one others is all) there = through x is (ltb-true x (length graph) (left_true (nat_lt x (length graph)) (are_places (length graph) xs) there))

  -- a head that is there, and is no free variable, stays
  pub head_stays : (x : ℕ) → x < length graph → is_head (head_at graph x).kind ≡ true → is_free (head_at graph x).kind ≡ false
      → (head_of after x ≡ head_of graph x) × (node_at after (head_of graph x) ≡ head_at graph x)
  head_stays x below head bound =
      let h = head_of graph x in
      let there = head_there truth graph arguments acyclic x below in
      let same = fixed_stays h there (head_fixed (node_at graph h).kind head) bound in
      let own : head_of after h ≡ h =
      own_head truth after later_arguments later_acyclic h (there_later h there)
      (ap (λ (n : Node). is_ind n.kind) same ∙ head_no_ind (node_at graph h).kind head) in
      (through x (acyclic x below) below ∙ own, same)

  -- what had a free variable as its head is there throughout
  pub variable_head_done : (x : ℕ) → x < length graph → is_free (head_at graph x).kind ≡ true → later Throughout x ≡ Done
  variable_head_done x below free =
      let h = head_of graph x in
      let there = head_there truth graph arguments acyclic x below in
      one_need truth after later_arguments later_acyclic Throughout x h (there_later x below) (there_later h there) (through x (acyclic x below) below)
      ∙ became_done truth after later_arguments later_acyclic h (keeps.bound h free)

  pub outer_by : (x : ℕ) (free : Bool) → x < length graph → is_free (head_at graph x).kind ≡ free → is_head (head_at graph x).kind ≡ true → later Outermost x ≡ Done
  outer_by x true below free head = outer_done truth after later_arguments later_acyclic x (there_later x below) (variable_head_done x below free)
  outer_by x false below bound head =
      let stays = head_stays x below head bound in
      need_by truth after later_arguments later_acyclic Outermost x (head_of graph x) (head_at graph x) (there_later x below) stays.0 stays.1
      ∙ ap (λ (n : Need). unless_done n Done)
      (heads_done truth after later_arguments later_acyclic (head_of graph x) (head_at graph x).kind (head_at graph x).args head)

  pub outer_stays : (x : ℕ) → x < length graph → now Outermost x ≡ Done → later Outermost x ≡ Done
  outer_stays x below is = outer_by x (is_free (head_at graph x).kind) below refl (done_is_head truth graph x is)

  -- ---- whole values

  -- the whole values of several nodes stay
  abbrev pub AllWhole : List ℕ → Type 0
  AllWhole [] = Unit {0}
  AllWhole (x ∷ xs) = (now Throughout x ≡ Done → later Throughout x ≡ Done) × AllWhole xs

  pub rest_stays : (args : List ℕ) → AllWhole args → first (map (now Throughout) args) ≡ Done → first (map (later Throughout) args) ≡ Done
  rest_stays [] all is = refl
  rest_stays (x ∷ xs) all is =
      let parts = before_done (now Throughout x) (first (map (now Throughout) xs)) is in
      ap (λ (n : Need). before n (first (map (later Throughout) xs))) (all.0 parts.0) ∙ rest_stays xs all.1 parts.1

  -- a node that is its own head and no free variable
  pub own_stays : (x : ℕ) (k : Kind) (args : List ℕ) → x < length graph → node_at graph x ≡ node k args → is_head k ≡ true → is_free k ≡ false
      → later Throughout x ≡ unless_done (need_at truth after later x k args) (rest_at later Throughout k args)
  own_stays x k args below is head bound =
      let same : node_at after x ≡ node k args =
      fixed_stays x below (kind_is graph x k args is_fixed is ∙ head_fixed k head) (kind_is graph x k args is_free is ∙ bound) ∙ is in
      need_by truth after later_arguments later_acyclic Throughout x x (node k args) (there_later x below)
      (own_head truth after later_arguments later_acyclic x (there_later x below) (kind_is after x k args is_ind same ∙ head_no_ind k head)) same

  pub own_now : (x : ℕ) (k : Kind) (args : List ℕ) → x < length graph → node_at graph x ≡ node k args → is_head k ≡ true
      → now Throughout x ≡ unless_done (need_at truth graph now x k args) (rest_at now Throughout k args)
  own_now x k args below is head =
      need_by truth graph arguments acyclic Throughout x x (node k args) below
      (own_head truth graph arguments acyclic x below (kind_is graph x k args is_ind is ∙ head_no_ind k head)) is

  pub whole_at : (x : ℕ) (k : Kind) (args : List ℕ) → x < length graph → node_at graph x ≡ node k args → IsTrue (are_places (length graph) args)
      → AllWhole args → now Throughout x ≡ Done → later Throughout x ≡ Done
  whole_at x kind.Ind (other ∷ args) below is there all done =
      let stays : node_at after x ≡ node kind.Ind (other ∷ args) =
      fixed_stays x below (kind_is graph x kind.Ind (other ∷ args) is_fixed is) (kind_is graph x kind.Ind (other ∷ args) is_free is) ∙ is in
      let under : other < length graph = ltb-true other (length graph) (left_true (nat_lt other (length graph)) (are_places (length graph) args) there) in
      one_need truth after later_arguments later_acyclic Throughout x other (there_later x below) (there_later other under)
      (next_head truth after later_arguments later_acyclic x other args (there_later x below) stays)
      ∙ all.0
      (sym (one_need truth graph arguments acyclic Throughout x other below under (next_head truth graph arguments acyclic x other args below is)) ∙ done)
  whole_at x (kind.Cons c) args below is there all done =
      own_stays x (kind.Cons c) args below is refl refl ∙ rest_stays args all (sym (own_now x (kind.Cons c) args below is refl) ∙ done)
  whole_at x (kind.Part h) args below is there all done =
      own_stays x (kind.Part h) args below is refl refl ∙ rest_stays args all (sym (own_now x (kind.Part h) args below is refl) ∙ done)
  whole_at x (kind.Lit l) args below is there all done = own_stays x (kind.Lit l) args below is refl refl
  whole_at x kind.Free args below is there all done =
      became_done truth after later_arguments later_acyclic x (keeps.bound x (kind_is graph x kind.Free args is_free is))
  whole_at x k args below is there all done =
      let own : head_of graph x ≡ x =
      head_table graph x arguments (acyclic x below) below ∙ ap (λ (n : Node). followed (head_of graph) x n.kind n.args) is in
      let is_now : now Throughout x ≡ unless_done (need_at truth graph now x k args) (rest_at now Throughout k args) =
      need_by truth graph arguments acyclic Throughout x x (node k args) below own is in
      let head = head_of_done truth graph now x k args (then_first (need_at truth graph now x k args) (rest_at now Throughout k args) (sym is_now ∙ done)) in
      let none_left : ⊥ = true≢false (sym head) in absurd none_left

  mutual
    pub whole_stays : (x : ℕ) → Founded graph x → x < length graph → now Throughout x ≡ Done → later Throughout x ≡ Done
    whole_stays x (founded other all) below =
        whole_at x (node_at graph x).kind (node_at graph x).args below refl (arguments x below) (all_whole (node_at graph x).args all (arguments x below))

    pub all_whole : (xs : List ℕ) → AllFounded graph xs → IsTrue (are_places (length graph) xs) → AllWhole xs
    all_whole [] none there = tt
    all_whole (x ∷ xs) (more one others is all) there = (
      whole_stays x is (ltb-true x (length graph) (left_true (nat_lt x (length graph)) (are_places (length graph) xs) there)),
      all_whole xs all (right_true (nat_lt x (length graph)) (are_places (length graph) xs) there),
    )

  -- ---- arguments that are to be bound, or True

  pub strict_stays : (x : ℕ) → x < length graph → strict graph now x ≡ Done → strict after later x ≡ Done
  strict_stays x below is =
      let rest = unless_free (head_of graph x) (head_at graph x).kind in
      let outer = then_first (now Outermost x) rest is in
      let bound = then_second (now Outermost x) rest is in
      let stays =
      head_stays x below (done_is_head truth graph x outer) (unless_free_bound (head_of graph x) (head_at graph x).kind bound) in
      ap (λ (n : Need). unless_done n (unless_free (head_of after x) (head_at after x).kind)) (outer_stays x below outer)
      ∙ ap (λ (y : ℕ). unless_free y (node_at after y).kind) stays.0
      ∙ ap (λ (n : Node). unless_free (head_of graph x) n.kind) stays.1
      ∙ bound

  pub side_stays : (by x : ℕ) → x < length graph → side truth graph now by x ≡ Done → side truth after later by x ≡ Done
  side_stays by x below is =
      let rest = unless_true truth by (head_of graph x) (head_at graph x).kind in
      let outer = then_first (now Outermost x) rest is in
      let bound = then_second (now Outermost x) rest is in
      let stays =
      head_stays x below (done_is_head truth graph x outer) (unless_true_bound truth by (head_of graph x) (head_at graph x).kind bound) in
      ap (λ (n : Need). unless_done n (unless_true truth by (head_of after x) (head_at after x).kind)) (outer_stays x below outer)
      ∙ ap (λ (y : ℕ). unless_true truth by y (node_at after y).kind) stays.0
      ∙ ap (λ (n : Node). unless_true truth by (head_of graph x) n.kind) stays.1
      ∙ bound
