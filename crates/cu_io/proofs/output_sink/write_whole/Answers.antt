-- A write adds the prefix of what was left to the prefix that is done.
use Rattle.std.proofs.Common.{◌≡◌, ◌∙◌, ℕ, zero, suc, List, Option, Some, Result, Ok, Err, take, sym, subst, arith, length-drop}
use Rattle.std.proofs.Math.Seq.{take-add}
use Rattle.std.proofs.lemmas.List.{take_rest}
use Rattle.std.proofs.KnownBytes.{Appends-trans}
use Rattle.std.specs.Io.KnownBytes.{Appends, WriteAppends}
use Rattle.std.specs.Prelude.{IfOk}
use Rattle.cu_io.specs.Inside.Outside.{gone}
use Rattle.cu_io.proofs.output_sink.write_whole.Goals as goal

gone-known : {E : Type 0} (P : ℕ → Type 0) (said : Result ℕ E) (count : ℕ) → gone said ≡ Some count → IfOk said P → P count
gone-known P (Ok zero) count is known = let no : ⊥ = cc in absurd no
gone-known P (Ok (suc n)) count is known = let same : suc n ≡ count = cc in subst P same known
gone-known P (Err error) count is known = let no : ⊥ = cc in absurd no

written-known : {E : Type 0} (before after : Option (List ℕ)) (said : Result ℕ E) (bytes : List ℕ) (count : ℕ) → gone said ≡ Some count → WriteAppends before after said bytes → Appends before after (take count bytes)
written-known before after (Ok zero) bytes count is known = let no : ⊥ = cc in absurd no
written-known before after (Ok (suc n)) bytes count is known = let same : suc n ≡ count = cc in subst (λ (k : ℕ). Appends before after (take k bytes)) same known
written-known before after (Err error) bytes count is known = let no : ⊥ = cc in absurd no

pub loop-done-preserved : goal.loop-done-preserved
loop-done-preserved g c =
    let (within, added) = c.loop-done.invariant in
    let is = sym c.gone.ensures ∙ c.in-Some.is in
    let bound = gone-known _ c.write.result c.in-Some.count is c.write.ensures.bound in
    let bytes = written-known _ _ c.write.result _ c.in-Some.count is c.write.ensures.bytes in
    let more = rw take_rest at bytes in
    (omega (arith, length-drop c.loop-done.done c.args.piece.now, bound), rw take-add (Appends-trans _ _ _ _ _ added more))
