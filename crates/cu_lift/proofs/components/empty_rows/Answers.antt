use Rattle.std.proofs.Common.{rules, ◌≡◌, ◌++◌, ◌∷◌, ◌+◌, inl, inr, ℕ, List, [], Some, ap, sym, ◌∙◌, length, length-append, slice_get, subst, arith}
use Rattle.std.specs.declared.alloc.Global.{Global}
use Rattle.std.specs.declared.vec.Vec.{Vec}
use Rattle.cu_cycles.proofs.Places.{prefix_or_last}
use Rattle.cu_lift.proofs.components.empty_rows.Goals as goal

one_more : (T : Type 0) (rows : List (Vec T Global)) (new : Vec T Global) → new.items ≡ []
    → ((r : ℕ) (row : Vec T Global) → slice_get rows r ≡ Some row → row.items ≡ [])
    → (r : ℕ) (row : Vec T Global) → slice_get (rows ++ new ∷ []) r ≡ Some row → row.items ≡ []
one_more T rows new none all r row e = elim (prefix_or_last rows new r row e) [
  | inl old ↦ all r row old
  | inr h ↦ ap (λ (v : Vec T Global). v.items) (sym h.1) ∙ none
]

no_rows : (T : Type 0) (rows : List (Vec T Global)) → rows ≡ [] → (r : ℕ) (row : Vec T Global) → slice_get rows r ≡ Some row → row.items ≡ []
no_rows T rows none r row e =
    let here : slice_get [] r ≡ Some row = subst (λ (x : List (Vec T Global)). slice_get x r ≡ Some row) none e in
    let no : ⊥ = cc in absurd no

pub loop-number-init : goal.loop-number-init
loop-number-init g c = (ap length c.new-rows.ensures.items, omega arith, no_rows g.row.T.Denot c.new-rows.result.items c.new-rows.ensures.items)

pub loop-number-preserved : goal.loop-number-preserved
loop-number-preserved g c =
    let pushed : c.push.new.self.items ≡ c.loop-number.rows.items ++ c.new-row.result ∷ [] = search rules in
    let longer : length c.push.new.self.items ≡ length c.loop-number.rows.items + 1 =
    ap length pushed ∙ length-append c.loop-number.rows.items (c.new-row.result ∷ []) in
    let old : length c.loop-number.rows.items ≡ c.loop-number.number = c.loop-number.invariant.0 in (
      omega arith,
      omega arith,
      λ r row e.
          one_more g.row.T.Denot c.loop-number.rows.items c.new-row.result c.new-row.ensures.items c.loop-number.invariant.2 r row
          (subst (λ (x : List (Vec g.row.T.Denot Global)). slice_get x r ≡ Some row) pushed e),
    )
