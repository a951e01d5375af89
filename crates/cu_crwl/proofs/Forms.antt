-- Values of a form, by their heads and arguments.
use Rattle.std.proofs.Common.{◌≡◌, ℕ, ◌&&◌, List, ap, ap₂, sym, ◌∙◌}
use Rattle.std.specs.Prelude.{nat_eq}
use Rattle.cu_calculus.specs.declared.ConId.{ConId}
use Rattle.cu_calculus.specs.declared.Head.{Head}
use Rattle.cu_calculus.specs.Answered.{same_head, same_values}
use Rattle.cu_calculus.specs.Value as value
use Rattle.cu_calculus.specs.Value.{Value, Values, list_of, values_of}
use Rattle.cu_values.specs.Parts.{arguments_of, head_of}
use Rattle.cu_values.specs.declared.cell.Cell.TheVariants as cell
use Rattle.cu_crwl.specs.Table.{is_built, is_part}
use Rattle.cu_crwl.proofs.MatchLoops.{values_restored}

pub built_form : (c d : ConId) (n : ℕ) (us : Values) (v : Value) (parts : List Value) → cell.Con d n ≡ head_of v → parts ≡ list_of (arguments_of v)
    → is_built c us v ≡ (nat_eq d.0 c.0 && same_values (values_of parts) us)
built_form c d n us (value.Constructed e vs) parts h p =
    let same : e ≡ d = cc in
    ap₂ (λ (x : ConId) (ys : Values). nat_eq x.0 c.0 && same_values ys us) same (sym (ap values_of p ∙ values_restored vs))
built_form c d n us value.Bottom parts h p = let never : ⊥ = cc in absurd never
built_form c d n us (value.Variable x) parts h p = let never : ⊥ = cc in absurd never
built_form c d n us (value.Literal l) parts h p = let never : ⊥ = cc in absurd never
built_form c d n us (value.Partial k vs) parts h p = let never : ⊥ = cc in absurd never

pub part_form : (h k : Head) (n : ℕ) (us : Values) (v : Value) (parts : List Value) → cell.Part k n ≡ head_of v → parts ≡ list_of (arguments_of v)
    → is_part h us v ≡ (same_head k h && same_values (values_of parts) us)
part_form h k n us (value.Partial e vs) parts i p =
    let same : e ≡ k = cc in
    ap₂ (λ (x : Head) (ys : Values). same_head x h && same_values ys us) same (sym (ap values_of p ∙ values_restored vs))
part_form h k n us value.Bottom parts i p = let never : ⊥ = cc in absurd never
part_form h k n us (value.Variable x) parts i p = let never : ⊥ = cc in absurd never
part_form h k n us (value.Literal l) parts i p = let never : ⊥ = cc in absurd never
part_form h k n us (value.Constructed c vs) parts i p = let never : ⊥ = cc in absurd never
