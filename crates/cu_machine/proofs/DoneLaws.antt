-- What needs nothing has a head that is there.
use Rattle.std.proofs.Common.{◌≡◌, ℕ, zero, suc, List, ◌∷◌, IsTrue, refl, length}
use Rattle.cu_calculus.specs.declared.ConId.{ConId}
use Rattle.cu_machine.specs.declared.Kind.{Kind}
use Rattle.cu_machine.specs.declared.Kind.TheVariants as kind
use Rattle.cu_machine.specs.Graph.{Graph, head_at, head_of}
use Rattle.cu_machine.specs.Need.{Extent, Outermost, Need, At, Dead, Done, Wait, is_head, need, need_at, need_within, unless_done}

pub then_not_at : (n : Need) (id : ℕ) → unless_done n (At id) ≡ Done → ⊥
then_not_at Done id same = cc
then_not_at Dead id same = cc
then_not_at (Wait ids) id same = cc
then_not_at (At other) id same = cc

pub then_first : (n m : Need) → unless_done n m ≡ Done → n ≡ Done
then_first Done m same = refl
then_first Dead m same = same
then_first (Wait ids) m same = same
then_first (At id) m same = same

pub then_second : (n m : Need) → unless_done n m ≡ Done → m ≡ Done
then_second Done m same = same
then_second Dead m same = let no : ⊥ = cc in absurd no
then_second (Wait ids) m same = let no : ⊥ = cc in absurd no
then_second (At id) m same = let no : ⊥ = cc in absurd no

pub head_of_done : (truth : ConId) (graph : Graph) (part : Extent → ℕ → Need) (id : ℕ) (k : Kind) (args : List ℕ)
    → need_at truth graph part id k args ≡ Done → IsTrue (is_head k)
head_of_done truth graph part id (kind.Cons c) args same = refl
head_of_done truth graph part id (kind.Lit l) args same = refl
head_of_done truth graph part id (kind.Part h) args same = refl
head_of_done truth graph part id kind.Free args same = refl
head_of_done truth graph part id (kind.Prim operation) args same = absurd (then_not_at _ id same)
head_of_done truth graph part id kind.Apply (f ∷ rest) same = absurd (then_not_at _ id same)
head_of_done truth graph part id (kind.Case mode e) (s ∷ rest) same = absurd (then_not_at _ id (then_second _ _ same))
head_of_done truth graph part id (kind.SetCall f) args same = absurd (then_not_at _ id (then_second _ _ same))
head_of_done truth graph part id _ args same = let no : ⊥ = cc in absurd no

pub within_is_head : (depth : ℕ) (truth : ConId) (graph : Graph) (id : ℕ) → need_within depth truth graph Outermost id ≡ Done → IsTrue (is_head (head_at graph id).kind)
unfolding need_within
within_is_head zero truth graph id same = let no : ⊥ = cc in absurd no
within_is_head (suc depth) truth graph id same =
    head_of_done truth graph (need_within depth truth graph) (head_of graph id) (head_at graph id).kind (head_at graph id).args (then_first _ _ same)

pub done_is_head : (truth : ConId) (graph : Graph) (id : ℕ) → need truth graph id ≡ Done → IsTrue (is_head (head_at graph id).kind)
done_is_head truth graph id same = within_is_head (length graph) truth graph id same
