use Rattle.std.proofs.Common.{Result, Ok, Err, Bool, sym, refl, inl, inr}
use Rattle.std.specs.Prelude.{◌↔◌, IfOk, IsTrue}
use Rattle.std.proofs.lemmas.Option.{slice_get_read}
use Rattle.cu_peg.specs.WellFormed.{IsEndless, IsLeftRecursive}
use Rattle.cu_peg.proofs.CallLemmas.{endless_by, repeats_by}
use Rattle.cu_peg.proofs.calls.is_endless.Goals as goal

-- a test of one fact is a test of another that is as much
same_test : {E : Type 0} (r : Result Bool E) (P Q : Type 0) → (P → Q) → (Q → P) → IfOk r (λ b. IsTrue b ↔ P) → IfOk r (λ b. IsTrue b ↔ Q)
same_test (Ok b) P Q f g h = (λ t. f (h.0 t), λ q. h.1 (g q))
same_test (Err e) P Q f g h = tt

pub returns-then-repeats_nullable : goal.returns-then-repeats_nullable
returns-then-repeats_nullable c =
    let row = c.index-rows-number.result in
    let at = slice_get_read c.args.rows.now _ c.args.number row refl c.requires.number c.index-rows-number.is in (
      λ t. inr (record { repeater = row; is = at; repeats = repeats_by c.args.rows.now c.args.nullable.now c.requires.nullable row (sym c.if-repeats_nullable.ensures) }),
      λ endless. refl,
    )

pub returns : goal.returns
returns c =
    let row = c.index-rows-number.result in
    let at = slice_get_read c.args.rows.now _ c.args.number row refl c.requires.number c.index-rows-number.is in
    same_test c.calls_itself.result (IsLeftRecursive c.args.rows.now c.args.number) (IsEndless c.args.rows.now c.args.number) (λ far. inl far)
    (λ endless. endless_by c.args.rows.now c.args.nullable.now c.requires.nullable c.args.number row at (sym c.if-repeats_nullable.ensures) endless)
    (c.calls_itself.ensures c.args.rows.now c.args.nullable.now c.requires.nullable c.requires.calls)
