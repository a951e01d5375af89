-- That a table has the names of all functions.
use Rattle.std.proofs.Common.{◌≡◌, ◌∙◌, ◌<◌, ℕ, Bool, List, map, IsTrue, length, nat_lt, sym, ap, subst}
use Rattle.std.proofs.lemmas.Bool.Decides.{Decides-ltb}
use Rattle.std.proofs.lemmas.List.Folds.{list_all-map}
use Rattle.std.specs.List.{list_all}
use Rattle.cu_calculus.proofs.Lists.{passed_at}
use Rattle.cu_kernel.specs.LocalKernel as local
use Rattle.cu_kernel.specs.LocalKernel.{LocalKernel}
use Rattle.cu_kernel.specs.LocalKernelOf.{local_kernel_of, top_function_meaning}
use Rattle.cu_kernel.specs.declared.local.TopFunction.{TopFunction}
use Rattle.cu_kernel.specs.declared.local_program.LocalParts.{LocalParts}
use Rattle.cu_lift.specs.Lifting.{AreNamed}

-- the name of a function is among the first so many
abbrev pub is_below : ℕ → local.TopFunction → Bool
is_below count f = nat_lt f.name.0 count

below : (a b c : ℕ) → b ≡ c → IsTrue (nat_lt a b) → a < c
below a b c same passes = subst (λ n. a < n) same ((Decides-ltb a b).0 passes)

pub named_all : (names : List (List ℕ)) (parts : LocalParts) (program : LocalKernel) (found : List TopFunction)
    (count : ℕ) (result : Bool) → count ≡ length names → local_kernel_of parts ≡ program
    → found ≡ parts.functions.items → result ≡ list_all (λ f. nat_lt f.name.0 count) found
    → IsTrue result → AreNamed names program
named_all names parts program found count result is_count is_program is_found is_result holds =
    let items = parts.functions.items in
    let are : map top_function_meaning items ≡ program.functions =
    ap (λ (p : LocalKernel). p.functions) is_program in
    let all : IsTrue (list_all (is_below count) program.functions) =
    subst IsTrue (is_result ∙ ap (list_all (λ (f : TopFunction). nat_lt f.name.0 count)) is_found
    ∙ sym (list_all-map (is_below count) top_function_meaning items)
    ∙ ap (list_all (is_below count)) are) holds in
    λ i f at. below f.name.0 count (length names) is_count
    (passed_at (is_below count) program.functions i f all at)
