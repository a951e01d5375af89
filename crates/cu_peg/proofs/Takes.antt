-- What a row leaves is shorter than the text, or the same, where the row can match without taking a token.
use Rattle.std.proofs.Common.{◌≡◌, ℕ, ◌<◌, Bool, List, length, refl, ap, ◌∙◌, arith}
use Rattle.cu_peg.specs.declared.class.Class.{Class}
use Rattle.cu_peg.specs.declared.row.Row.{Row}
use Rattle.cu_peg.specs.declared.row.Row.TheVariants as row
use Rattle.cu_peg.specs.Matches as m
use Rattle.cu_peg.specs.Matches.{Fails, Matches, RowFails, RowMatches}
use Rattle.cu_peg.specs.Parse.{ParseTree}
use Rattle.cu_peg.specs.WellFormed as w
use Rattle.cu_peg.specs.WellFormed.{IsNullable, RowIsNullable}

-- Some tokens were taken, or none and something holds.
pub data Takes {T : Type 0} (text rest : List T) (N : Type 0) : Type 0 where
  some : length rest < length text → Takes text rest N
  none : rest ≡ text → N → Takes text rest N

module _ {T : Type 0} where
  pub weaken : (text rest : List T) {N M : Type 0} → (N → M) → Takes text rest N → Takes text rest M
  weaken text rest f (some h) = some h
  weaken text rest f (none e n) = none e (f n)

  pub and_then : (text after rest : List T) {N M L : Type 0} → (N → M → L) → Takes text after N → Takes after rest M → Takes text rest L
  and_then text after rest f (some h) (some k) = some (omega arith)
  and_then text after rest f (some h) (none e m) = some (omega (arith, ap length e))
  and_then text after rest f (none e n) (some k) = some (omega (arith, ap length e))
  and_then text after rest f (none e n) (none g m) = none (g ∙ e) (f n m)

module _ {T : Type 0} (rows : List Row) (has : Class → T → Bool) where
  mutual
    pub takes : {r : ℕ} {text rest : List T} {tree : ParseTree T} → Matches rows has r text rest tree → Takes text rest (IsNullable rows r)
    takes (m.matches r e text rest tree is d) = weaken text rest (λ (n : RowIsNullable rows e). w.nullable r e is n) (row_takes d)

    pub row_takes : {e : Row} {text rest : List T} {tree : ParseTree T} → RowMatches rows has e text rest tree → Takes text rest (RowIsNullable rows e)
    row_takes (m.token c x rest h) = some (omega arith)
    row_takes (m.empty text) = none refl w.empty
    row_takes (m.sequence p ps text after rest tree trees d ds) = and_then text after rest (w.sequence p ps) (takes d) (row_takes ds)
    row_takes (m.first p ps text rest tree d) = weaken text rest (w.first p ps) (takes d)
    row_takes (m.later p ps text rest n tree f d) = weaken text rest (w.later p ps) (row_takes d)
    row_takes (m.present p text rest tree d) = weaken text rest (λ (n : IsNullable rows p). w.optional p) (takes d)
    row_takes (m.absent p text f) = none refl (w.optional p)
    row_takes (m.no_more p text f) = none refl (w.many p)
    row_takes (m.one_more p text after rest tree trees d ds) =
        and_then text after rest (λ (n : IsNullable rows p) (k : RowIsNullable rows (row.Many p)). w.many p) (takes d) (row_takes ds)
    row_takes (m.at_least_one p text after rest tree trees d ds) =
        and_then text after rest (λ (n : IsNullable rows p) (k : RowIsNullable rows (row.Many p)). w.at_least_one p n) (takes d) (row_takes ds)
    row_takes (m.last p s text rest tree d f) = weaken text rest (w.separated p s) (takes d)
    row_takes (m.separated p s text after suffix rest tree separator trees d e ds) =
        and_then text after rest (λ (n : IsNullable rows p) (k : Unit {0}). w.separated p s n) (takes d)
        (and_then after suffix rest (λ (n : IsNullable rows s) (k : RowIsNullable rows (row.SeparatedBy p s)). tt) (takes e) (row_takes ds))
    row_takes (m.ahead p text rest tree d) = none refl (w.ahead p)
    row_takes (m.not_ahead p text f) = none refl (w.not_ahead p)
