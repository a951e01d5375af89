-- What is right of parts alone is right of them when they are joined.
use Rattle.std.proofs.Common.{◌≡◌, ◌+◌, Err, Ok, OnErr, OnOk, Result, subst, ℕ, zero, suc, List, [], ◌∷◌, ◌++◌, Some, length, slice_get, length-append, ap, sym, ◌∙◌}
use Rattle.cu_calculus.proofs.Lists.{all_append}
use Rattle.cu_kernel.specs.LocalKernel.{LocalKernel, joined}
use Rattle.cu_kernel.specs.LocalValid.{IsPart, IsScoped, captures_nothing, is_data_type, is_synonym}

-- what holds of the elements of two lists holds of those of both
each_joined : {A : Type 0} (P : A → Type 0) (xs ys : List A) → ((k : ℕ) (x : A) → slice_get xs k ≡ Some x → P x)
    → ((k : ℕ) (x : A) → slice_get ys k ≡ Some x → P x) → (k : ℕ) (x : A) → slice_get (xs ++ ys) k ≡ Some x → P x
each_joined P [] ys first second k x h = second k x h
each_joined P (y ∷ xs) ys first second zero x h = first zero x h
each_joined P (y ∷ xs) ys first second (suc k) x h = each_joined P xs ys (λ j. first (suc j)) second k x h

pub joined_is_part : (first second : LocalKernel) → IsPart first → IsPart second → IsPart (joined first second)
joined_is_part first second left right = record {
  types = all_append is_data_type first.types second.types left.types right.types;
  synonyms = all_append is_synonym first.synonyms second.synonyms left.synonyms right.synonyms;
  functions = each_joined IsScoped first.functions second.functions left.functions right.functions;
  marks = length-append first.marks second.marks
      ∙ ap (λ n. n + length second.marks) left.marks ∙ ap (λ n. length first.functions + n) right.marks
      ∙ sym (length-append first.functions second.functions);
  uncaptured = all_append captures_nothing first.marks second.marks left.uncaptured right.uncaptured;
}

-- whether there was memory or not
pub still_part : {A E : Type 0} (result : Result A E) (first second new : LocalKernel) → IsPart first → IsPart second
    → OnOk result (new ≡ joined first second) → OnErr result (new ≡ first) → IsPart new
still_part (Ok a) first second new left right whole unchanged = subst IsPart (sym whole) (joined_is_part first second left right)
still_part (Err e) first second new left right whole unchanged = subst IsPart (sym unchanged) left
