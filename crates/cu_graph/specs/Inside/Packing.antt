-- What small kinds and entries stand for, which kinds are small, and what stays where arrays grow.
use Rattle.std.specs.Prelude.{◌≡◌, ◌-◌, ◌^◌, ℕ, ℤ, pos, negsuc, Bool, true, ◌&&◌, List, int_le, nat_lt}
use Rattle.cu_calculus.specs.declared.Head.TheVariants as head
use Rattle.cu_calculus.specs.declared.Lit.TheVariants as lit
use Rattle.cu_machine.specs.declared.Kind.{Kind}
use Rattle.cu_machine.specs.declared.Kind.TheVariants as kind
use Rattle.cu_machine.specs.Graph.{Node}
use Rattle.cu_graph.specs.declared.node_vec.Entry.{Entry}
use Rattle.cu_graph.specs.declared.small.SmallKind.{SmallKind}
use Rattle.cu_graph.specs.Small.{IsInTable, kind_of}
use Rattle.cu_graph.specs.FlatArrays.{IsWithin, node_of}

-- whether 32 bits hold a number
abbrev pub is_short : ℕ → Bool
is_short n = nat_lt n (2 ^ 32)

-- whether 32 bits hold an integer with its sign
abbrev pub is_short_integer : ℤ → Bool
is_short_integer n = int_le (negsuc (2 ^ 31 - 1)) n && int_le n (pos (2 ^ 31 - 1))

-- whether a kind has a small one that stands for it: 32 bits hold its number, if it has one
abbrev pub is_small : Kind → Bool
is_small (kind.Cons c) = is_short c.0
is_small (kind.Lit (lit.Int n)) = is_short_integer n
is_small (kind.Part (head.Fun f)) = is_short f.0
is_small (kind.Part (head.Con c)) = is_short c.0
is_small (kind.Part (head.Set f)) = is_short f.0
is_small (kind.Call f) = is_short f.0
is_small (kind.Case mode e) = is_short e
is_small (kind.SetCall f) = is_short f.0
is_small _ = true

-- Over this table the small kind stands for the kind.
pub record StandsFor (table : List Kind) (small : SmallKind) (kind : Kind) : Type 0 where
  pub there : IsInTable table small
  pub same : kind_of table small ≡ kind

-- What small kinds stand for over a table, they stand for over another one.
abbrev pub KeepsKinds : List Kind → List Kind → Type 0
KeepsKinds old new =
    (small : SmallKind) → IsInTable old small → StandsFor new small (kind_of old small)

-- Over these arrays the entry is that of the node.
pub record IsEntryOf (wide : List Kind) (args : List ℕ) (entry : Entry) (node : Node) : Type 0 where
  pub within : IsWithin wide args entry
  pub same : node_of wide args entry ≡ node

-- Of which nodes entries are over two arrays, of those they are over two others.
abbrev pub KeepsNodes : List Kind → List ℕ → List Kind → List ℕ → Type 0
KeepsNodes old_wide old_args wide args = (entry : Entry) → IsWithin old_wide old_args entry
    → IsEntryOf wide args entry (node_of old_wide old_args entry)
