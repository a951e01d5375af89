-- What holds of a search for components at each of its steps.
use Rattle.std.specs.Prelude.{◌≡◌, ℕ, ◌+◌, ◌-◌, ◌<◌, ◌≤◌, cond, nat_le, List, [], ◌∷◌, ◌++◌, Some, length, option_map, replicate, slice_get}
use Rattle.cu_cycles.specs.Graph.{Edge, Graph, Reach}
use Rattle.cu_cycles.specs.declared.components.Part.{Part}
use Rattle.cu_cycles.specs.declared.components.Place.{Place}
use Rattle.cu_cycles.specs.declared.components.Place.TheVariants.{Closed, New, Open}
use Rattle.cu_cycles.specs.declared.components.Search.{Search}

-- the place t of the stack of open nodes belongs to part i
pub record Own (parts : List Part) (t i : ℕ) (p : Part) : Type 0 where
  pub is_part : slice_get parts i ≡ Some p
  pub from : p.start ≤ t
  pub until : (j : ℕ) (q : Part) → i < j → slice_get parts j ≡ Some q → t < q.start

-- the place t of what is pending belongs to part i
pub record Awaits (parts : List Part) (t i : ℕ) (p : Part) : Type 0 where
  pub is_part : slice_get parts i ≡ Some p
  pub from : p.pending ≤ t
  pub until : (j : ℕ) (q : Part) → i < j → slice_get parts j ≡ Some q → t < q.pending

-- some open node of a part leads to w
pub record Source (g : Graph) (path : List ℕ) (parts : List Part) (i : ℕ) (p : Part)
    (w : ℕ) : Type 0 where
  pub place : ℕ
  pub node : ℕ
  pub owned : Own parts place i p
  pub is_open : slice_get path place ≡ Some node
  pub edge : Edge g node w

-- w was followed by a part: it is closed, open in this part or a later one, or pending
pub data Followed (places : List Place) (path pending : List ℕ) (p : Part) (w : ℕ) : Type 0 where
  closed : (c : ℕ) → slice_get places w ≡ Some (Closed c) → Followed places path pending p w
  opened : (s : ℕ) → slice_get path s ≡ Some w → p.start ≤ s → Followed places path pending p w
  awaited : (j : ℕ) → slice_get pending j ≡ Some w → p.pending ≤ j
      → Followed places path pending p w

-- the weights of the nodes that weren't visited yet
abbrev pub weigh : (List ℕ → ℕ) → Graph → List Place → ℕ
weigh weight [] places = 0
weigh weight (row ∷ rows) [] = 0
weigh weight (row ∷ rows) (New ∷ places) = weight row + weigh weight rows places
weigh weight (row ∷ rows) (Open s ∷ places) = weigh weight rows places
weigh weight (row ∷ rows) (Closed c ∷ places) = weigh weight rows places

-- one for each node
abbrev pub one : List ℕ → ℕ
one row = 1

-- for each node, two more than its edges
abbrev pub two_more : List ℕ → ℕ
two_more row = length row + 2

-- what holds of a search between two steps
pub record Good (g : Graph) (places : List Place) (path pending : List ℕ) (parts : List Part)
    (count : ℕ) : Type 0 where
  pub sized : length places ≡ length g
  -- a node is open exactly where it is on the stack
  pub open_at : (s v : ℕ) → slice_get path s ≡ Some v → slice_get places v ≡ Some (Open s)
  pub at_open : (v s : ℕ) → slice_get places v ≡ Some (Open s) → slice_get path s ≡ Some v
  -- parts rise, from the bottom of the stack on
  pub none : parts ≡ [] → path ≡ []
  pub bottom : (p : Part) → slice_get parts 0 ≡ Some p → p.start ≡ 0
  pub start : (i : ℕ) (p : Part) → slice_get parts i ≡ Some p
      → (p.start < length path) × (p.pending ≤ length pending)
  pub rising : (i j : ℕ) (p q : Part) → slice_get parts i ≡ Some p → slice_get parts j ≡ Some q
      → i < j
      → (p.start < q.start) × (p.pending ≤ q.pending)
  -- open nodes reach later ones, and the first of their part
  pub later : (s t u v : ℕ) → s ≤ t → slice_get path s ≡ Some u → slice_get path t ≡ Some v
      → Reach g u v
  pub to_start : (i : ℕ) (p : Part) (t u v : ℕ) → Own parts t i p → slice_get path t ≡ Some u
      → slice_get path p.start ≡ Some v → Reach g u v
  -- where open nodes lead was followed, or is pending; and to what is pending they lead
  pub follows : (i : ℕ) (p : Part) (t u w : ℕ) → Own parts t i p → slice_get path t ≡ Some u
      → Edge g u w → Followed places path pending p w
  pub source : (i : ℕ) (p : Part) (t w : ℕ) → Awaits parts t i p → slice_get pending t ≡ Some w
      → Source g path parts i p w
  -- closed nodes lead to closed ones of no later components; those of one component reach each
  -- other; and each component has one
  pub closed_below : (v c : ℕ) → slice_get places v ≡ Some (Closed c) → c < count
  pub closed_used : (c : ℕ) → c < count → (v : ℕ) × (slice_get places v ≡ Some (Closed c))
  pub closed_edges : (v c w : ℕ) → slice_get places v ≡ Some (Closed c) → Edge g v w
      → (d : ℕ) × (slice_get places w ≡ Some (Closed d)) × (d ≤ c)
  pub alike : (u v c : ℕ) → slice_get places u ≡ Some (Closed c)
      → slice_get places v ≡ Some (Closed c) → Reach g u v
  -- no more components than nodes
  pub room : count + length path + weigh one g places ≤ length g

abbrev pub IsGood : Graph → Search → Type 0
IsGood g s = Good g s.places.items s.path.items s.pending.items s.parts.items s.closed

-- a node that the last part may enter
pub record MayEnter (g : Graph) (s : Search) (v : ℕ) : Type 0 where
  pub good : IsGood g s
  pub is_new : slice_get s.places.items v ≡ Some New
  pub reached : (t u : ℕ) → slice_get s.path.items t ≡ Some u → Reach g u v

-- how many steps a search can take at most
abbrev pub work : Graph → Search → ℕ
work g s = weigh two_more g s.places.items + length s.pending.items + length s.parts.items

-- a node that was visited stays so
abbrev pub Meets : Search → Search → Type 0
Meets old new = (v : ℕ) → slice_get new.places.items v ≡ Some New
    → slice_get old.places.items v ≡ Some New

-- the last element of a list
abbrev pub IsLast : {A : Type 0} → List A → A → Type 0
IsLast xs x = slice_get xs (length xs - 1) ≡ Some x

-- the last part reaches an open node
pub record MayJoin (g : Graph) (s : Search) (at : ℕ) : Type 0 where
  pub good : IsGood g s
  pub node : ℕ
  pub is_open : slice_get s.path.items at ≡ Some node
  pub reaches : (p : Part) (u : ℕ) → IsLast s.parts.items p
      → slice_get s.path.items p.start ≡ Some u → Reach g u node

-- a search where only the parts changed: some of the last ones went
pub record OnlyParts (old new : Search) : Type 0 where
  pub places : new.places.items ≡ old.places.items
  pub path : new.path.items ≡ old.path.items
  pub pending : new.pending.items ≡ old.pending.items
  pub closed : new.closed ≡ old.closed
  pub parts : (rest : List Part) × (old.parts.items ≡ new.parts.items ++ rest)

-- a node's place when those open from a place on are closed
abbrev pub shut : ℕ → ℕ → Place → Place
shut start c New = New
shut start c (Open s) = cond (nat_le start s) (Closed c) (Open s)
shut start c (Closed d) = Closed d

-- the places of nodes, before and after those open from a place on are closed
abbrev pub AreShut : ℕ → ℕ → List Place → List Place → Type 0
AreShut start c old new = (v : ℕ) → slice_get new v ≡ option_map (shut start c) (slice_get old v)

-- The last pending node may be dropped: each part that stands has followed it, and none awaits it
-- alone.
pub record MayForget (g : Graph) (s : Search) : Type 0 where
  pub good : IsGood g s
  pub target : ℕ
  pub is_last : IsLast s.pending.items target
  pub awaited : (i : ℕ) (p : Part) → slice_get s.parts.items i ≡ Some p
      → p.pending < length s.pending.items
  pub followed : (i : ℕ) (p : Part) → slice_get s.parts.items i ≡ Some p
      → Followed s.places.items s.path.items [] p target

-- what was popped from the path so far is closed
pub record Closes (start : ℕ) (old new : Search) : Type 0 where
  pub places : AreShut (length new.path.items) old.closed old.places.items new.places.items
  pub sized : length new.places.items ≡ length old.places.items
  pub path : (rest : List ℕ) × (old.path.items ≡ new.path.items ++ rest)
  pub low : start ≤ length new.path.items
  pub pending : new.pending.items ≡ old.pending.items
  pub parts : new.parts.items ≡ old.parts.items
  pub closed : new.closed ≡ old.closed

-- a search that has visited no node
pub record IsStart (count : ℕ) (s : Search) : Type 0 where
  pub places : s.places.items ≡ replicate count New
  pub path : s.path.items ≡ []
  pub pending : s.pending.items ≡ []
  pub parts : s.parts.items ≡ []
  pub closed : s.closed ≡ 0

-- a search without parts
pub record Rests (g : Graph) (s : Search) : Type 0 where
  pub good : IsGood g s
  pub empty : s.parts.items ≡ []

abbrev pub number_of : Place → ℕ
number_of New = 0
number_of (Open s) = 0
number_of (Closed c) = c
