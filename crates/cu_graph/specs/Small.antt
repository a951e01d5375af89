-- Kinds of nodes in eight bytes: most kinds have a small one that stands for them, and others stand
-- in a table.
use Rattle.std.specs.Prelude.{ℕ, ◌+◌, ◌≤◌, List, length, slice_index_or}
use Rattle.cu_calculus.specs.declared.Head.TheVariants as head
use Rattle.cu_calculus.specs.declared.Lit.TheVariants as lit
use Rattle.cu_calculus.specs.declared.Mode.TheVariants as mode
use Rattle.cu_machine.specs.declared.Kind.{Kind}
use Rattle.cu_machine.specs.declared.Kind.TheVariants as kind
use Rattle.cu_graph.specs.declared.small.SmallKind.{SmallKind}
use Rattle.cu_graph.specs.declared.small.SmallKind.TheVariants as small

-- the kind that a small kind stands for, over this table
abbrev pub kind_of : List Kind → SmallKind → Kind
kind_of table (small.Cons id) = kind.Cons (record { 0 = id })
kind_of table (small.Int value) = kind.Lit (lit.Int value)
kind_of table (small.Char value) = kind.Lit (lit.Char value)
kind_of table (small.PartFun id) = kind.Part (head.Fun (record { 0 = id }))
kind_of table (small.PartCon id) = kind.Part (head.Con (record { 0 = id }))
kind_of table (small.PartSet id) = kind.Part (head.Set (record { 0 = id }))
kind_of table small.Free = kind.Free
kind_of table (small.Call id) = kind.Call (record { 0 = id })
kind_of table (small.Prim operation) = kind.Prim operation
kind_of table small.Apply = kind.Apply
kind_of table (small.Rigid id) = kind.Case mode.Rigid id
kind_of table (small.Flex id) = kind.Case mode.Flex id
kind_of table small.Or = kind.Or
kind_of table small.Ind = kind.Ind
kind_of table (small.SetCall id) = kind.SetCall (record { 0 = id })
kind_of table small.Fail = kind.Fail
kind_of table small.Stuck = kind.Stuck
kind_of table (small.Wide index) = slice_index_or table index kind.Stuck

-- how many kinds a table has to have for a small kind
abbrev pub least_length : SmallKind → ℕ
least_length (small.Wide index) = index + 1
least_length _ = 0

-- A small kind that stands for a kind in the table has its place there.
abbrev pub IsInTable : List Kind → SmallKind → Type 0
IsInTable table small = least_length small ≤ length table
