-- Marks of indices, and what they tell of the indices that were changed.
use Rattle.std.proofs.Common.{◌≡◌, ◌≢◌, ℕ, ◌*◌, ◌/◌, ◌%◌, ◌^◌, ◌<◌, Bool, true, false, ◌==◌, ◌&&◌, if◌then◌else◌, ◌⊎◌, List, [], ◌∷◌, ◌++◌, length, get_or, nat_eq, bit_or, inl, inr, ap, sym, subst, ◌∙◌, arith, w64, eq-eqb, eqb-true}
use Rattle.std.specs.List.{All, list_any}
use Rattle.indexmap.specs.IndexSet.{insert_key}
use Rattle.cu_machine.specs.Graph.{Node}
use Rattle.std.specs.Int.{bit_at}
use Rattle.std.proofs.lemmas.Bool.{and_parts, cases_Bool, cases_eq}
use Rattle.std.proofs.lemmas.List.{length-append}
use Rattle.std.proofs.lemmas.List.Elements.{All-push}
use Rattle.std.proofs.lemmas.List.Folds.{list_any_none}
use Rattle.std.proofs.lemmas.Nat.Bits.{bit_at_set_same, bit_at_set_other}
use Rattle.cu_frozen.specs.declared.marks.Marks.{Marks}
use Rattle.cu_frozen.specs.Layers.{IsWhole, Layer, Leaves, layer_of}
use Rattle.cu_frozen.specs.Inside.Marked.{HaveAll, may_have}
use Rattle.cu_frozen.proofs.Overlays.{shows_below}

-- ---- one bit

pub sets_bit : (word bit : ℕ) → bit < 64 → bit_at (bit_or word (1 * 2 ^ bit % 2 ^ 64)) bit ≡ 1
sets_bit word bit within = bit_at_set_same w64 word bit within

keeps_either : (word bit other : ℕ) → bit < 64 → bit_at word other ≡ 1 → (other ≡ bit) ⊎ (other ≢ bit)
    → bit_at (bit_or word (1 * 2 ^ bit % 2 ^ 64)) other ≡ 1
keeps_either word bit other within set (inl same) = ap (bit_at (bit_or word (1 * 2 ^ bit % 2 ^ 64))) same ∙ sets_bit word bit within
keeps_either word bit other within set (inr differs) = bit_at_set_other w64 word bit within other differs ∙ set

-- a bit that was set stays so when another is set
pub keeps_bit : (word bit other : ℕ) → bit < 64 → bit_at word other ≡ 1 → bit_at (bit_or word (1 * 2 ^ bit % 2 ^ 64)) other ≡ 1
keeps_bit word bit other within set = keeps_either word bit other within set (cases_eq other bit)

-- ---- marks of one index more

both : (a b : Bool) → a ≡ true → b ≡ true → (a && b) ≡ true
both a b first second = ap (λ x. x && b) first ∙ second

pub adds : (marks : Marks) (id : ℕ) → bit_at marks.first (id % 64) ≡ 1 → bit_at marks.second (id / 64 % 64) ≡ 1 → may_have marks id ≡ true
adds marks id first second =
    both (bit_at marks.first (id % 64) == 1) (bit_at marks.second (id / 64 % 64) == 1)
    (eq-eqb (bit_at marks.first (id % 64)) 1 first) (eq-eqb (bit_at marks.second (id / 64 % 64)) 1 second)

pub keeps : (old new : Marks) (id : ℕ) → (bit_at old.first (id % 64) ≡ 1 → bit_at new.first (id % 64) ≡ 1)
    → (bit_at old.second (id / 64 % 64) ≡ 1 → bit_at new.second (id / 64 % 64) ≡ 1) → may_have old id ≡ true → may_have new id ≡ true
keeps old new id first second has =
    let parts = and_parts (bit_at old.first (id % 64) == 1) (bit_at old.second (id / 64 % 64) == 1) has in
    adds new id (first (eqb-true (bit_at old.first (id % 64)) 1 parts.0)) (second (eqb-true (bit_at old.second (id / 64 % 64)) 1 parts.1))

-- ---- marks of several indices

pub marked_more : (old new : Marks) (ids more : List ℕ) (id : ℕ) → HaveAll old ids → more ≡ ids ++ id ∷ []
    → ((other : ℕ) → may_have old other ≡ true → may_have new other ≡ true) → may_have new id ≡ true → HaveAll new more
marked_more old new ids more id marked pushed kept added =
    subst (HaveAll new) (sym pushed)
    (All-push (λ (x : ℕ). may_have new x ≡ true) ids id (λ k d below. kept (get_or ids k d) (marked k d below)) added)

-- ---- one change more

pub inserted : (old kept new : List ℕ) (id : ℕ) → kept ≡ old → new ≡ insert_key nat_eq kept id → list_any (nat_eq id) old ≡ false
    → new ≡ old ++ id ∷ []
inserted old kept new id same is fresh =
    is ∙ ap (λ ids. insert_key nat_eq ids id) same ∙ ap (λ b. if b then old else (old ++ id ∷ [])) fresh

pub whole_more : (base : ℕ) (ids more : List ℕ) (changes new added : List Node) (id : ℕ) (node : Node) → IsWhole (layer_of base ids changes added)
    → id < base → more ≡ ids ++ id ∷ [] → new ≡ changes ++ node ∷ [] → IsWhole (layer_of base more new added)
whole_more base ids more changes new added id node whole below ids_more changes_more = record {
  paired =
      let paired : length ids ≡ length changes = whole.paired in
      omega (arith, ap length ids_more, length-append ids (id ∷ []), ap length changes_more, length-append changes (node ∷ []));
  below = subst (All (λ x. x < base)) (sym ids_more) (All-push (λ (x : ℕ). x < base) ids id whole.below below);
  few = whole.few;
}

-- ---- what the marks tell

differs_if : (marks : Marks) (id at : ℕ) → may_have marks at ≡ true → may_have marks id ≡ false → (nat_eq id at ≡ true) ⊎ (nat_eq id at ≡ false)
    → nat_eq id at ≡ false
differs_if marks id at has lacks (inl same) =
    let never : ⊥ = let there : may_have marks id ≡ true = subst (λ x. may_have marks x ≡ true) (sym (eqb-true id at same)) has in cc in
    absurd never
differs_if marks id at has lacks (inr differs) = differs

none_is : (marks : Marks) (ids : List ℕ) (id : ℕ) → HaveAll marks ids → may_have marks id ≡ false → list_any (nat_eq id) ids ≡ false
none_is marks ids id marked lacks =
    list_any_none (nat_eq id) ids
    (λ k d below. differs_if marks id (get_or ids k d) (marked k d below) lacks (cases_Bool (nat_eq id (get_or ids k d))))

-- a node below whose index has no marks is as it was
pub unmarked : (marks : Marks) (layer : Layer) (id : ℕ) → HaveAll marks layer.changed → may_have marks id ≡ false → id < layer.base
    → Leaves layer id
unmarked marks layer id marked lacks below = shows_below layer id below (none_is marks layer.changed id marked lacks)
