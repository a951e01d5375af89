-- Feeding the cells of a value pushes its nodes.
use Rattle.std.proofs.Common.{◌≡◌, ℕ, zero, suc, ◌+◌, ◌-◌, ◌<◌, ◌≤◌, true, false, List, [], ◌∷◌, ◌++◌, length, get_or, take, drop, reverse, nat_lt, refl, ap, sym, ◌∙◌, arith, append-nil, length-append}
use Rattle.std.proofs.lemmas.Bool.{le-ltb, lt-ltb}
use Rattle.std.proofs.lemmas.List.{append_assoc}
use Rattle.std.proofs.Math.Seq.{drop-append_seam, take-append_seam, take-suc}
use Rattle.std.proofs.lemmas.List.{take_all}
use Rattle.cu_calculus.specs.Value as value
use Rattle.cu_calculus.specs.Value.{Value, Values, count}
use Rattle.cu_machine.specs.declared.Kind.{Kind}
use Rattle.cu_machine.specs.declared.Kind.TheVariants as kind
use Rattle.cu_machine.specs.Build.{BuiltParts, build_node, place_of, pushed}
use Rattle.cu_machine.specs.Graph.{Graph, Node, alone, stuck}
use Rattle.cu_machine.specs.Spell.{push_value, push_values}
use Rattle.cu_values.specs.declared.cell.Cell.{Cell}
use Rattle.cu_values.specs.Cells.{spell, spell_all}
use Rattle.cu_step.specs.declared.push.Unfinished.{Unfinished}
use Rattle.cu_step.proofs.Reversals.{last_first}
use Rattle.cu_step.specs.Inside.Pushing.{Work, all_fed, closed, fed, fed_by, given_to}

-- ---- one argument more

pub given_last : (graph : Graph) (ids : List ℕ) (id : ℕ) → given_to graph ids id [] ≡ record { graph = graph; ids = ids ++ id ∷ []; unfinished = [] }
unfolding given_to
given_last graph ids id = refl

pub given_on : (graph : Graph) (ids : List ℕ) (id : ℕ) (outer : Unfinished) (others : List Unfinished) → nat_lt 1 outer.missing ≡ true
    → given_to graph ids id (outer ∷ others)
    ≡ record { graph = graph; ids = ids ++ id ∷ []; unfinished = record { kind = outer.kind; count = outer.count; missing = outer.missing - 1 } ∷ others }
unfolding given_to
given_on graph ids id outer others more = rw more refl

pub given_close : (graph : Graph) (ids : List ℕ) (id : ℕ) (outer : Unfinished) (others : List Unfinished) → nat_lt 1 outer.missing ≡ false
    → given_to graph ids id (outer ∷ others)
    ≡ given_to (closed graph (ids ++ id ∷ []) outer).graph (closed graph (ids ++ id ∷ []) outer).ids (length graph) others
unfolding given_to
given_close graph ids id outer others last = rw last refl

-- ---- cells one after another

abbrev work : Graph → List ℕ → List Unfinished → Work
work graph ids unfinished = record { graph = graph; ids = ids; unfinished = unfinished }

all_fed-append : (w : Work) (xs ys : List Cell) → all_fed w (xs ++ ys) ≡ all_fed (all_fed w xs) ys
all_fed-append w [] ys = refl
all_fed-append w (x ∷ xs) ys = all_fed-append (fed w x) xs ys

pub all_fed-more : (w : Work) (xs : List Cell) (x : Cell) → all_fed w (xs ++ x ∷ []) ≡ fed (all_fed w xs) x
all_fed-more w xs x = all_fed-append w xs (x ∷ [])

-- a node with arguments is to come
fed_some : (w : Work) (k : Kind) (n : ℕ) → 0 < n
    → fed_by w k n ≡ record { graph = w.graph; ids = w.ids; unfinished = record { kind = k; count = n; missing = n } ∷ w.unfinished }
fed_some w k zero some = let no : ⊥ = omega arith in absurd no
fed_some w k (suc n) some = refl

-- the node over all arguments, so many of which are its own
finish : Graph → List ℕ → Kind → ℕ → List Unfinished → Work
finish graph ids k n others =
    given_to (graph ++ record { kind = k; args = drop (length ids - n) ids } ∷ []) (take (length ids - n) ids) (length graph) others

finish_close : (graph : Graph) (ids : List ℕ) (id : ℕ) (k : Kind) (n : ℕ) (others : List Unfinished)
    → given_to graph ids id (record { kind = k; count = n; missing = 1 } ∷ others) ≡ finish graph (ids ++ id ∷ []) k n others
unfolding finish
finish_close graph ids id k n others = given_close graph ids id (record { kind = k; count = n; missing = 1 }) others refl

length_ids : (vs : Values) (next : ℕ) → length (push_values next vs).ids ≡ count vs
length_ids value.NoValue next = refl
length_ids (value.MoreValues v vs) next =
    let rest = length_ids vs (next + length (pushed (push_value next v))) in omega arith

-- a node over its arguments in one go
finish_whole : (graph : Graph) (ids : List ℕ) (k : Kind) (n : ℕ) (parts : BuiltParts) (others : List Unfinished) → length parts.ids ≡ n
    → finish (graph ++ parts.nodes) (ids ++ parts.ids) k n others
    ≡ given_to (graph ++ pushed (build_node k parts)) ids (place_of (length graph) (build_node k parts)) others
unfolding finish
finish_whole graph ids k n parts others long =
    let prefix : length (ids ++ parts.ids) - n ≡ length ids = (let e = length-append ids parts.ids in omega arith) in
    let own : drop (length (ids ++ parts.ids) - n) (ids ++ parts.ids) ≡ parts.ids = ap (λ (i : ℕ). drop i (ids ++ parts.ids)) prefix ∙ drop-append_seam ids parts.ids in
    let left : take (length (ids ++ parts.ids) - n) (ids ++ parts.ids) ≡ ids = ap (λ (i : ℕ). take i (ids ++ parts.ids)) prefix ∙ take-append_seam ids parts.ids in
    rw (own, left, length-append graph parts.nodes, append_assoc graph parts.nodes (record { kind = k; args = parts.ids } ∷ [])) refl

leaf_fed : (graph : Graph) (ids : List ℕ) (node : Node) (others : List Unfinished)
    → given_to (graph ++ node ∷ []) ids (length graph) others ≡ given_to (graph ++ node ∷ []) ids (length graph + 0) others
leaf_fed graph ids node others = ap (λ (p : ℕ). given_to (graph ++ node ∷ []) ids p others) (omega arith)

-- an argument that isn't the last one
more_to_come : (graph : Graph) (ids : List ℕ) (id : ℕ) (k : Kind) (n more : ℕ) (others : List Unfinished)
    → given_to graph ids id (record { kind = k; count = n; missing = more + 1 + 1 } ∷ others)
    ≡ work graph (ids ++ id ∷ []) (record { kind = k; count = n; missing = more + 1 } ∷ others)
more_to_come graph ids id k n more others =
    given_on graph ids id (record { kind = k; count = n; missing = more + 1 + 1 }) others (lt-ltb 1 (more + 1 + 1) (omega arith))
    ∙ ap (λ (m : ℕ). work graph (ids ++ id ∷ []) (record { kind = k; count = n; missing = m } ∷ others)) (omega arith)

further : (graph : Graph) (ids : List ℕ) (k : Kind) (n : ℕ) (others : List Unfinished) (prefix : List Node) (id : ℕ) (vs : Values)
    → finish (graph ++ prefix ++ (push_values (length (graph ++ prefix)) vs).nodes) ((ids ++ id ∷ []) ++ (push_values (length (graph ++ prefix)) vs).ids) k n others
    ≡ finish (graph ++ (prefix ++ (push_values (length graph + length prefix) vs).nodes)) (ids ++ id ∷ (push_values (length graph + length prefix) vs).ids) k n others
further graph ids k n others prefix id vs =
    let rest = push_values (length graph + length prefix) vs in
    ap (λ (next : ℕ). finish (graph ++ prefix ++ (push_values next vs).nodes) ((ids ++ id ∷ []) ++ (push_values next vs).ids) k n others) (length-append graph prefix)
    ∙ ap (λ (g : Graph). finish g ((ids ++ id ∷ []) ++ rest.ids) k n others) (append_assoc graph prefix rest.nodes)
    ∙ ap (λ (is : List ℕ). finish (graph ++ (prefix ++ rest.nodes)) is k n others) (append_assoc ids (id ∷ []) rest.ids)

-- a node, where its arguments push theirs
whole_fed : (k : Kind) (vs : Values) (graph : Graph) (ids : List ℕ) (others : List Unfinished)
    → ((n : ℕ) → 0 < count vs → all_fed (work graph ids (record { kind = k; count = n; missing = count vs } ∷ others)) (spell_all vs)
    ≡ finish (graph ++ (push_values (length graph) vs).nodes) (ids ++ (push_values (length graph) vs).ids) k n others)
    → all_fed (fed_by (work graph ids others) k (count vs)) (spell_all vs)
    ≡ given_to (graph ++ pushed (build_node k (push_values (length graph) vs))) ids (place_of (length graph) (build_node k (push_values (length graph) vs))) others
whole_fed k value.NoValue graph ids others parts = leaf_fed graph ids (alone k) others
whole_fed k (value.MoreValues v vs) graph ids others parts =
    ap (λ (w : Work). all_fed w (spell v ++ spell_all vs)) (fed_some (work graph ids others) k (count vs + 1) (omega arith))
    ∙ parts (count vs + 1) (omega arith)
    ∙ finish_whole graph ids k (count vs + 1) (push_values (length graph) (value.MoreValues v vs)) others (length_ids (value.MoreValues v vs) (length graph))

mutual
  pub value_fed : (v : Value) (graph : Graph) (ids : List ℕ) (others : List Unfinished)
      → all_fed (work graph ids others) (spell v) ≡ given_to (graph ++ pushed (push_value (length graph) v)) ids (place_of (length graph) (push_value (length graph) v)) others
  value_fed value.Bottom graph ids others = leaf_fed graph ids stuck others
  value_fed (value.Variable x) graph ids others = leaf_fed graph ids stuck others
  value_fed (value.Literal l) graph ids others = leaf_fed graph ids (alone (kind.Lit l)) others
  value_fed (value.Constructed c vs) graph ids others = whole_fed (kind.Cons c) vs graph ids others (λ n some. values_fed vs (kind.Cons c) n graph ids others some)
  value_fed (value.Partial h vs) graph ids others = whole_fed (kind.Part h) vs graph ids others (λ n some. values_fed vs (kind.Part h) n graph ids others some)

  values_fed : (vs : Values) (k : Kind) (n : ℕ) (graph : Graph) (ids : List ℕ) (others : List Unfinished) → 0 < count vs
      → all_fed (work graph ids (record { kind = k; count = n; missing = count vs } ∷ others)) (spell_all vs)
      ≡ finish (graph ++ (push_values (length graph) vs).nodes) (ids ++ (push_values (length graph) vs).ids) k n others
  values_fed value.NoValue k n graph ids others some = let no : ⊥ = omega arith in absurd no
  values_fed (value.MoreValues v value.NoValue) k n graph ids others some =
      let one = push_value (length graph) v in
      let outer : Unfinished = record { kind = k; count = n; missing = 1 } in
      ap (λ (cs : List Cell). all_fed (work graph ids (outer ∷ others)) cs) (append-nil (spell v))
      ∙ value_fed v graph ids (outer ∷ others)
      ∙ finish_close (graph ++ pushed one) ids (place_of (length graph) one) k n others
      ∙ ap (λ (ns : List Node). finish (graph ++ ns) (ids ++ place_of (length graph) one ∷ []) k n others) (sym (append-nil (pushed one)))
  values_fed (value.MoreValues v (value.MoreValues w ws)) k n graph ids others some =
      let one = push_value (length graph) v in
      let id = place_of (length graph) one in
      let outer : Unfinished = record { kind = k; count = n; missing = count ws + 1 + 1 } in
      all_fed-append (work graph ids (outer ∷ others)) (spell v) (spell w ++ spell_all ws)
      ∙ ap (λ (s : Work). all_fed s (spell w ++ spell_all ws))
      (value_fed v graph ids (outer ∷ others) ∙ more_to_come (graph ++ pushed one) ids id k n (count ws) others)
      ∙ values_fed (value.MoreValues w ws) k n (graph ++ pushed one) (ids ++ id ∷ []) others (omega arith)
      ∙ further graph ids k n others (pushed one) id (value.MoreValues w ws)

-- the cells of one value push its nodes
pub one_fed : (v : Value) (graph : Graph)
    → all_fed (record { graph = graph; ids = []; unfinished = [] }) (spell v)
    ≡ record { graph = graph ++ pushed (push_value (length graph) v); ids = place_of (length graph) (push_value (length graph) v) ∷ []; unfinished = [] }
one_fed v graph = value_fed v graph [] [] ∙ given_last (graph ++ pushed (push_value (length graph) v)) [] (place_of (length graph) (push_value (length graph) v))

-- ---- what the code keeps, whose lists of nodes to come have the innermost last

pub gives_on : (graph : Graph) (ids more : List ℕ) (id : ℕ) (all rest new : List Unfinished) (outer less : Unfinished) (whole : Work) → all ≡ rest ++ outer ∷ []
    → more ≡ ids ++ id ∷ [] → 1 < outer.missing → less ≡ record { kind = outer.kind; count = outer.count; missing = outer.missing - 1 } → new ≡ rest ++ less ∷ []
    → given_to graph ids id (reverse all) ≡ whole → record { graph = graph; ids = more; unfinished = reverse new } ≡ whole
gives_on graph ids more id all rest new outer less whole is added some fewer now before =
    rw (added, last_first new rest less now, fewer)
    (sym (given_on graph ids id outer (reverse rest) (lt-ltb 1 outer.missing some)) ∙ ap (given_to graph ids id) (sym (last_first all rest outer is)) ∙ before)

pub gives_close : (graph after : Graph) (ids more taken : List ℕ) (id next : ℕ) (all rest left : List Unfinished) (outer : Unfinished) (whole : Work) → all ≡ rest ++ outer ∷ []
    → more ≡ ids ++ id ∷ [] → outer.missing ≤ 1 → next ≡ length graph → after ≡ (closed graph more outer).graph → taken ≡ (closed graph more outer).ids → left ≡ rest
    → given_to graph ids id (reverse all) ≡ whole → given_to after taken next (reverse left) ≡ whole
gives_close graph after ids more taken id next all rest left outer whole is added last at now own same before =
    rw (at, now, own, same, added)
    (sym (given_close graph ids id outer (reverse rest) (le-ltb 1 outer.missing last)) ∙ ap (given_to graph ids id) (sym (last_first all rest outer is)) ∙ before)

pub gives_last : (graph : Graph) (ids more : List ℕ) (id : ℕ) (all left : List Unfinished) (whole : Work) → all ≡ [] → all ≡ left ++ [] → more ≡ ids ++ id ∷ []
    → given_to graph ids id (reverse all) ≡ whole → record { graph = graph; ids = more; unfinished = reverse left } ≡ whole
gives_last graph ids more id all left whole none was added before =
    let nothing : left ≡ [] = sym (append-nil left) ∙ sym was ∙ none in
    rw (added, nothing) (sym (given_last graph ids id) ∙ ap (λ (us : List Unfinished). given_to graph ids id (reverse us)) (sym none) ∙ before)

pub fed_more : (start w new : Work) (cells : List Cell) (i : ℕ) (d : Cell) → i < length cells → w ≡ all_fed start (take i cells) → new ≡ fed w (get_or cells i d)
    → new ≡ all_fed start (take (i + 1) cells)
fed_more start w new cells i d below was now =
    let next : suc i ≡ i + 1 = omega arith in
    now ∙ ap (λ (s : Work). fed s (get_or cells i d)) was ∙ sym (all_fed-more start (take i cells) (get_or cells i d))
    ∙ ap (all_fed start) (sym (take-suc cells i d below)) ∙ ap (λ (n : ℕ). all_fed start (take n cells)) next

pub all_taken : (v : Value) (graph : Graph) (w : Work) (cells : List Cell) (i : ℕ) → length cells ≤ i → cells ≡ spell v
    → w ≡ all_fed (record { graph = graph; ids = []; unfinished = [] }) (take i cells)
    → w ≡ record { graph = graph ++ pushed (push_value (length graph) v); ids = place_of (length graph) (push_value (length graph) v) ∷ []; unfinished = [] }
all_taken v graph w cells i past is was =
    was ∙ ap (all_fed (record { graph = graph; ids = []; unfinished = [] })) (take_all i cells past ∙ is) ∙ one_fed v graph

pub alone_there : (rest : List ℕ) (id place : ℕ) → rest ++ id ∷ [] ≡ place ∷ [] → id ≡ place
alone_there [] id place is = cc
alone_there (x ∷ rest) id place is =
    let long = ap length is in
    let both = length-append rest (id ∷ []) in
    let no : ⊥ = omega arith in absurd no
