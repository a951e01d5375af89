-- The grammar of Curry is well-formed: marks tell the rows that may match without taking a token, and each row calls only rows of a
-- lower rank before it has taken one.
use Rattle.std.specs.Prelude.{◌≡◌, ◌<◌, ℕ, zero, suc, ◌+◌, Bool, true, false, ◌&&◌, ◌||◌, not, List, [], ◌∷◌, Some, if◌then◌else◌, map, nat_lt, refl, slice_get, slice_index_or}
use Rattle.std.specs.List.{list_all, list_any}
use Rattle.std.proofs.Common.{arith, inl, inr, subst, sym, true≢false, ◌∙◌}
use Rattle.std.proofs.lemmas.Bool.{and_parts, ltb-true}
use Rattle.cu_peg.specs.declared.grammar.BadGrammar.{BadGrammar}
use Rattle.cu_peg.specs.declared.grammar.BadGrammar.TheVariants as answer
use Rattle.cu_peg.specs.declared.row.Row.{Row}
use Rattle.cu_peg.specs.declared.row.Row.TheVariants as row
use Rattle.cu_peg.specs.Answer.{TellsEndless}
use Rattle.cu_peg.specs.Inside.CallTables.{callees, called, nullable_by, repeats}
use Rattle.cu_peg.specs.Inside.Closure.{holds, marked}
use Rattle.cu_peg.specs.WellFormed.{Calls, IsEndless, IsFirstEndless, IsNullable, IsWellFormed, Reaches, RowCalls, RowIsNullable, RowRepeatsNullable}
use Rattle.cu_syntax.specs.declared.symbol.Symbol.{Symbol}
use Rattle.cu_syntax.specs.declared.symbol.Symbol.TheVariants as symbol
use Rattle.cu_syntax.specs.Table.{rows, symbols}

-- What is asked of one row: where its condition holds it is marked, it repeats nothing that is marked, and what it calls has a
-- lower rank.
abbrev pub fits : List Bool → List ℕ → ℕ → Row → Bool
fits marks ranks r e =
    (not (holds marks (nullable_by e)) || marked marks r)
    && (not (repeats marks e) && list_all (λ q. nat_lt (slice_index_or ranks q 0) (slice_index_or ranks r 0)) (callees marks e))

abbrev pub all_fit : List Bool → List ℕ → ℕ → List Row → Bool
all_fit marks ranks r [] = true
all_fit marks ranks r (e ∷ others) = fits marks ranks r e && all_fit marks ranks (suc r) others

fit_at : (marks : List Bool) (ranks : List ℕ) (table : List Row) (from r : ℕ) (e : Row) → all_fit marks ranks from table ≡ true
    → slice_get table r ≡ Some e → fits marks ranks (from + r) e ≡ true
fit_at marks ranks [] from r e h s = absurd cc
fit_at marks ranks (f ∷ table) from zero e h s =
    let same : f ≡ e = cc in
    let place : from ≡ from + 0 = omega arith in
    subst (λ n. fits marks ranks n e ≡ true) place (subst (λ g. fits marks ranks from g ≡ true) same (and_parts (fits marks ranks from f) (all_fit marks ranks (suc from) table) h).0)
fit_at marks ranks (f ∷ table) from (suc r) e h s =
    let place : suc from + r ≡ from + suc r = omega arith in
    subst (λ n. fits marks ranks n e ≡ true) place (fit_at marks ranks table (suc from) r e (and_parts (fits marks ranks from f) (all_fit marks ranks (suc from) table) h).1 s)

record Fit (marks : List Bool) (ranks : List ℕ) (r : ℕ) (e : Row) : Type 0 where
  pub closed : holds marks (nullable_by e) ≡ true → marked marks r ≡ true
  pub repeats_none : repeats marks e ≡ false
  pub lower : list_all (λ q. nat_lt (slice_index_or ranks q 0) (slice_index_or ranks r 0)) (callees marks e) ≡ true

is_not : (b : Bool) → not b ≡ true → b ≡ false
is_not true h = absurd (true≢false (sym h))
is_not false h = refl

implied : (a b : Bool) → (not a || b) ≡ true → a ≡ true → b ≡ true
implied true b h e = h
implied false b h e = absurd (true≢false (sym e))

fit_of : (marks : List Bool) (ranks : List ℕ) (table : List Row) (r : ℕ) (e : Row) → all_fit marks ranks 0 table ≡ true → slice_get table r ≡ Some e
    → Fit marks ranks r e
fit_of marks ranks table r e h s =
    let place : 0 + r ≡ r = omega arith in
    let here : fits marks ranks r e ≡ true = subst (λ n. fits marks ranks n e ≡ true) place (fit_at marks ranks table 0 r e h s) in
    let p = and_parts (not (holds marks (nullable_by e)) || marked marks r)
    (not (repeats marks e) && list_all (λ q. nat_lt (slice_index_or ranks q 0) (slice_index_or ranks r 0)) (callees marks e)) here in
    let q = and_parts (not (repeats marks e)) (list_all (λ q. nat_lt (slice_index_or ranks q 0) (slice_index_or ranks r 0)) (callees marks e)) p.1 in
    record {
      closed = implied (holds marks (nullable_by e)) (marked marks r) p.0;
      repeats_none = is_not (repeats marks e) q.0;
      lower = q.1;
    }

both_true : (a b : Bool) → a ≡ true → b ≡ true → (a && b) ≡ true
both_true true b h k = k
both_true false b h k = absurd (true≢false (sym h))

either : (a b : Bool) → b ≡ true → (a || b) ≡ true
either true b h = refl
either false b h = h

mutual
  -- what may match without taking a token is marked
  sound : (marks : List Bool) (ranks : List ℕ) (table : List Row) (r : ℕ) → all_fit marks ranks 0 table ≡ true → IsNullable table r → marked marks r ≡ true
  sound marks ranks table r h (IsNullable.nullable _ e s d) = (fit_of marks ranks table r e h s).closed (row_sound marks ranks table e h d)

  row_sound : (marks : List Bool) (ranks : List ℕ) (table : List Row) (e : Row) → all_fit marks ranks 0 table ≡ true → RowIsNullable table e
      → holds marks (nullable_by e) ≡ true
  row_sound marks ranks table _ h RowIsNullable.empty = refl
  row_sound marks ranks table _ h (RowIsNullable.sequence p ps d ds) =
      both_true (marked marks p) (list_all (marked marks) ps) (sound marks ranks table p h d) (row_sound marks ranks table (row.Sequence ps) h ds)
  row_sound marks ranks table _ h (RowIsNullable.first p ps d) = rw (sound marks ranks table p h d) refl
  row_sound marks ranks table _ h (RowIsNullable.later p ps ds) = either (marked marks p) (list_any (marked marks) ps) (row_sound marks ranks table (row.Choice ps) h ds)
  row_sound marks ranks table _ h (RowIsNullable.optional p) = refl
  row_sound marks ranks table _ h (RowIsNullable.many p) = refl
  row_sound marks ranks table _ h (RowIsNullable.at_least_one p d) = both_true (marked marks p) true (sound marks ranks table p h d) refl
  row_sound marks ranks table _ h (RowIsNullable.separated p s d) = both_true (marked marks p) true (sound marks ranks table p h d) refl
  row_sound marks ranks table _ h (RowIsNullable.ahead p) = refl
  row_sound marks ranks table _ h (RowIsNullable.not_ahead p) = refl

module _ (marks : List Bool) (ranks : List ℕ) (table : List Row) (fit : all_fit marks ranks 0 table ≡ true) where
  -- what a row calls passes a test that all its callees pass
  calls_pass : (test : ℕ → Bool) (e : Row) (q : ℕ) → RowCalls table e q → list_all test (callees marks e) ≡ true → test q ≡ true
  calls_pass test _ _ (RowCalls.first_part p ps) h = (and_parts (test p) (list_all test (if marked marks p then called marks ps else [])) h).0
  calls_pass test _ q (RowCalls.later_part p ps _ n c) h =
      let rest = (and_parts (test p) (list_all test (if marked marks p then called marks ps else [])) h).1 in
      calls_pass test (row.Sequence ps) q c
      (subst (λ b. list_all test (if b then called marks ps else []) ≡ true) (sound marks ranks table p fit n) rest)
  calls_pass test _ _ (RowCalls.first_alternative p ps) h = (and_parts (test p) (list_all test ps) h).0
  calls_pass test _ q (RowCalls.later_alternative p ps _ c) h = calls_pass test (row.Choice ps) q c (and_parts (test p) (list_all test ps) h).1
  calls_pass test _ _ (RowCalls.optional_part p) h = (and_parts (test p) true h).0
  calls_pass test _ _ (RowCalls.many_part p) h = (and_parts (test p) true h).0
  calls_pass test _ _ (RowCalls.at_least_one_part p) h = (and_parts (test p) true h).0
  calls_pass test _ _ (RowCalls.separated_part p s) h = (and_parts (test p) (list_all test (if marked marks p then called marks (s ∷ []) else [])) h).0
  calls_pass test _ _ (RowCalls.separator p s n) h =
      let rest = (and_parts (test p) (list_all test (if marked marks p then called marks (s ∷ []) else [])) h).1 in
      let one = subst (λ b. list_all test (if b then called marks (s ∷ []) else []) ≡ true) (sound marks ranks table p fit n) rest in
      (and_parts (test s) (list_all test (if marked marks s then called marks [] else [])) one).0
  calls_pass test _ _ (RowCalls.ahead_part p) h = (and_parts (test p) true h).0
  calls_pass test _ _ (RowCalls.not_ahead_part p) h = (and_parts (test p) true h).0

  calls_lower : (r q : ℕ) → Calls table r q → slice_index_or ranks q 0 < slice_index_or ranks r 0
  calls_lower r q c =
      ltb-true (slice_index_or ranks q 0) (slice_index_or ranks r 0)
      (calls_pass (λ p. nat_lt (slice_index_or ranks p 0) (slice_index_or ranks r 0)) c.caller q c.calls (fit_of marks ranks table r c.caller fit c.is).lower)

  reaches_lower : (r q : ℕ) → Reaches table r q → slice_index_or ranks q 0 < slice_index_or ranks r 0
  reaches_lower _ _ (Reaches.one r q c) = calls_lower r q c
  reaches_lower _ _ (Reaches.more r p q c far) = omega (arith, calls_lower r p c, reaches_lower p q far)

  repeats_marked : (e : Row) → RowRepeatsNullable table e → repeats marks e ≡ true
  repeats_marked _ (RowRepeatsNullable.repeated_many p n) = sound marks ranks table p fit n
  repeats_marked _ (RowRepeatsNullable.repeated_at_least_one p n) = sound marks ranks table p fit n
  repeats_marked _ (RowRepeatsNullable.repeated_separated p s n k) = both_true (marked marks p) (marked marks s) (sound marks ranks table p fit n) (sound marks ranks table s fit k)

  pub well_formed : IsWellFormed table
  well_formed r (inl far) = omega (arith, reaches_lower r r far)
  well_formed r (inr d) =
      true≢false (sym (repeats_marked d.repeater d.repeats) ∙ (fit_of marks ranks table r d.repeater fit d.is).repeats_none)

-- the symbols that may match without taking a token
abbrev is_nullable : Symbol → Bool
is_nullable symbol.OptionalExports = true
is_nullable symbol.OptionalExportList = true
is_nullable symbol.OptionalConstructors = true
is_nullable symbol.ConstructorNames = true
is_nullable symbol.OptionalConstructorList = true
is_nullable symbol.OptionalQualified = true
is_nullable symbol.OptionalAlias = true
is_nullable symbol.OptionalImports = true
is_nullable symbol.OptionalHiding = true
is_nullable symbol.OptionalEntityList = true
is_nullable symbol.OptionalDigit = true
is_nullable symbol.TypeVars = true
is_nullable symbol.OptionalConDecls = true
is_nullable symbol.ATypes = true
is_nullable symbol.NoSixteenTypes = true
is_nullable symbol.APats = true
is_nullable symbol.RhsAhead = true
is_nullable symbol.EqualsAhead = true
is_nullable symbol.OptionalWhere = true
is_nullable symbol.DeclList = true
is_nullable symbol.OptionalDecl = true
is_nullable symbol.OptionalMinus = true
is_nullable symbol.FurtherOperands = true
is_nullable symbol.AltList = true
is_nullable symbol.OptionalAlt = true
is_nullable symbol.NoFifteenCommas = true
is_nullable symbol.NoMinus = true
is_nullable symbol.NoSixteenExps = true
is_nullable symbol.OptionalExp = true
is_nullable symbol.NoIn = true
is_nullable symbol.FurtherConPats = true
is_nullable symbol.NoSixteenPats = true
is_nullable symbol.OptionalPatList = true
is_nullable symbol.OptionalGoalWhere = true
is_nullable _ = false

-- how many calls may follow one another before a token is taken
abbrev rank : Symbol → ℕ
rank symbol.VarOp = 2
rank symbol.QuotedVar = 1
rank symbol.ConOp = 2
rank symbol.QuotedCon = 1
rank symbol.QVarOp = 2
rank symbol.QuotedQVar = 1
rank symbol.QConOp = 2
rank symbol.QuotedQCon = 1
rank symbol.Op = 3
rank symbol.QOp = 3
rank symbol.Var = 2
rank symbol.ParenthesizedVarOp = 1
rank symbol.Con = 2
rank symbol.ParenthesizedConOp = 1
rank symbol.QVar = 2
rank symbol.ParenthesizedQVarOp = 1
rank symbol.QCon = 2
rank symbol.ParenthesizedQConOp = 1
rank symbol.Literal = 1
rank symbol.Header = 1
rank symbol.ModuleName = 1
rank symbol.OptionalExports = 2
rank symbol.Exports = 1
rank symbol.OptionalExportList = 7
rank symbol.ExportList = 6
rank symbol.Export = 5
rank symbol.ModuleExport = 1
rank symbol.Entity = 4
rank symbol.TypeEntity = 3
rank symbol.OptionalConstructors = 2
rank symbol.Constructors = 1
rank symbol.ConstructorNames = 5
rank symbol.OptionalConstructorList = 4
rank symbol.ConstructorList = 3
rank symbol.ImportDecl = 1
rank symbol.OptionalQualified = 1
rank symbol.OptionalAlias = 2
rank symbol.Alias = 1
rank symbol.OptionalImports = 3
rank symbol.Imports = 2
rank symbol.OptionalHiding = 1
rank symbol.OptionalEntityList = 6
rank symbol.EntityList = 5
rank symbol.Item = 9
rank symbol.FixityDecl = 2
rank symbol.FixityWord = 1
rank symbol.OptionalDigit = 1
rank symbol.OpList = 4
rank symbol.DataDecl = 2
rank symbol.DataWord = 1
rank symbol.TypeVars = 1
rank symbol.OptionalConDecls = 2
rank symbol.ConDecls = 1
rank symbol.ConDeclList = 6
rank symbol.ConDecl = 5
rank symbol.InfixConDecl = 4
rank symbol.PrefixConDecl = 3
rank symbol.ATypes = 3
rank symbol.SynonymDecl = 1
rank symbol.Signature = 4
rank symbol.VarList = 3
rank symbol.TypeExp = 4
rank symbol.BType = 3
rank symbol.TypeApplication = 1
rank symbol.TypeArguments = 3
rank symbol.AType = 2
rank symbol.Unit = 1
rank symbol.TupleType = 1
rank symbol.TypeList = 5
rank symbol.ListType = 1
rank symbol.NoSixteenTypes = 6
rank symbol.SixteenTypes = 5
rank symbol.TopRule = 8
rank symbol.Rule = 8
rank symbol.FunctionLhs = 7
rank symbol.Lhs = 7
rank symbol.InfixLhs = 6
rank symbol.ParenthesizedLhs = 1
rank symbol.PrefixLhs = 3
rank symbol.APats = 4
rank symbol.RhsAhead = 2
rank symbol.RhsStart = 1
rank symbol.PatternLhs = 6
rank symbol.EqualsAhead = 1
rank symbol.Rhs = 4
rank symbol.RhsBody = 3
rank symbol.PlainRhs = 1
rank symbol.GuardedRhs = 2
rank symbol.GuardedExp = 1
rank symbol.OptionalWhere = 2
rank symbol.WhereBlock = 1
rank symbol.Block = 1
rank symbol.DeclList = 11
rank symbol.OptionalDecl = 10
rank symbol.Decl = 9
rank symbol.FreeDecl = 2
rank symbol.VarIdList = 1
rank symbol.Exp = 6
rank symbol.OptionalMinus = 1
rank symbol.FurtherOperands = 5
rank symbol.FurtherOperand = 4
rank symbol.Operand = 5
rank symbol.Lambda = 1
rank symbol.LetExp = 1
rank symbol.IfExp = 1
rank symbol.CaseExp = 2
rank symbol.CaseWord = 1
rank symbol.AltList = 8
rank symbol.OptionalAlt = 7
rank symbol.Application = 4
rank symbol.Alt = 6
rank symbol.AltBody = 3
rank symbol.PlainAlt = 1
rank symbol.GuardedAlts = 2
rank symbol.GuardedAlt = 1
rank symbol.Atom = 3
rank symbol.TupleCon = 1
rank symbol.Commas = 1
rank symbol.NoFifteenCommas = 2
rank symbol.FifteenCommas = 1
rank symbol.RightSection = 1
rank symbol.NoMinus = 1
rank symbol.LeftSection = 1
rank symbol.Tuple = 1
rank symbol.ExpList = 7
rank symbol.NoSixteenExps = 8
rank symbol.SixteenExps = 7
rank symbol.EmptyList = 1
rank symbol.FromThen = 1
rank symbol.From = 1
rank symbol.OptionalExp = 7
rank symbol.Comprehension = 1
rank symbol.QualList = 8
rank symbol.ListExp = 1
rank symbol.Qual = 7
rank symbol.Generator = 6
rank symbol.LetQual = 1
rank symbol.NoIn = 1
rank symbol.Pat = 5
rank symbol.FurtherConPats = 4
rank symbol.FurtherConPat = 3
rank symbol.ConPat = 4
rank symbol.NegativePat = 1
rank symbol.ConApplication = 3
rank symbol.PatArguments = 4
rank symbol.APat = 3
rank symbol.AliasPat = 1
rank symbol.TuplePat = 1
rank symbol.PatList = 6
rank symbol.NoSixteenPats = 7
rank symbol.SixteenPats = 6
rank symbol.ListPat = 1
rank symbol.OptionalPatList = 7
rank symbol.Goal = 7
rank symbol.OptionalGoalWhere = 2
rank symbol.GoalWhere = 1
rank symbol.FreeDeclList = 3
rank _ = 0

abbrev marks : List Bool
marks = map is_nullable symbols

abbrev ranks : List ℕ
ranks = map rank symbols

rows_fit : all_fit marks ranks 0 rows ≡ true
rows_fit = refl

pub accepted : IsWellFormed rows
accepted = well_formed marks ranks rows rows_fit

pub never_endless : (table : List Row) (bad : BadGrammar) (r : ℕ) → table ≡ rows → bad ≡ answer.Row r → TellsEndless table bad → ⊥
never_endless table bad r e is tells =
    let first : IsFirstEndless table r = subst (TellsEndless table) is tells in
    accepted r (subst (λ t. IsEndless t r) e first.endless)
