use Rattle.std.proofs.Common.{[], subst}
use Rattle.std.proofs.lemmas.Result.{MatchResult-at_err, MatchResult-at_ok}
use Rattle.cu_types.proofs.GroupSteps.{asked_meant, settled_all}
use Rattle.cu_types.specs.Inside.Grouping.{known_assumptions}
use Rattle.cu_types.specs.Inside.Members.{group_asks}
use Rattle.cu_types.specs.Meaning.{Clashes, HasPlaces, subst_of, types_of_subst}
use Rattle.cu_types.specs.Table.{IsTable}
use Rattle.cu_types.specs.Unification.{Equation, IsMostGeneral}
use Rattle.std.proofs.Common.{List}
use Rattle.cu_types.specs.declared.unification.Subst.{Subst}
use Rattle.cu_types.proofs.group.Inference.infer_group.Goals as goal

pub enter-requires-clause-tables : goal.enter-requires-clause-tables
enter-requires-clause-tables c = c.requires.tables

pub enter-requires-clause-within : goal.enter-requires-clause-within
enter-requires-clause-within c = c.requires.within

pub solved-requires-clause-reader : goal.solved-requires-clause-reader
solved-requires-clause-reader c = c.in_ok-asking.ensures.reader

pub solved-requires-clause-stand : goal.solved-requires-clause-stand
solved-requires-clause-stand c = (_, c.in_ok-asking.ensures.asks.stand)

pub settle-requires-clause-table : goal.settle-requires-clause-table
settle-requires-clause-table c =
    let i = c.args.self.now in
    let ks = c.enter.new.known in
    let es : List Equation =
    (group_asks i.program.now (known_assumptions i.program.now i.constructors.now ks i.values) (λ x. 0) ks c.args.group.now
    (record { next = c.in_ok-next.next; equations = [] })).equations in
    (MatchResult-at_ok (λ (s : Subst). IsMostGeneral (subst_of s) es × IsTable (types_of_subst s) × HasPlaces s) (Clashes es) c.in-Ok.subst c.in-Ok.is
    (c.in_ok-outcome.ensures es c.in_ok-asking.ensures.asks.stand)).1

pub settle-requires-clause-places : goal.settle-requires-clause-places
settle-requires-clause-places c =
    let i = c.args.self.now in
    let ks = c.enter.new.known in
    let es : List Equation =
    (group_asks i.program.now (known_assumptions i.program.now i.constructors.now ks i.values) (λ x. 0) ks c.args.group.now
    (record { next = c.in_ok-next.next; equations = [] })).equations in
    (MatchResult-at_ok (λ (s : Subst). IsMostGeneral (subst_of s) es × IsTable (types_of_subst s) × HasPlaces s) (Clashes es) c.in-Ok.subst c.in-Ok.is
    (c.in_ok-outcome.ensures es c.in_ok-asking.ensures.asks.stand)).2

pub returns-in-Ok : goal.returns-in-Ok
returns-in-Ok c =
    let i = c.args.self.now in
    let ks = c.enter.new.known in
    let es : List Equation =
    (group_asks i.program.now (known_assumptions i.program.now i.constructors.now ks i.values) (λ x. 0) ks c.args.group.now
    (record { next = c.in_ok-next.next; equations = [] })).equations in
    let found = MatchResult-at_ok (λ (s : Subst). IsMostGeneral (subst_of s) es × IsTable (types_of_subst s) × HasPlaces s) (Clashes es) c.in-Ok.subst
    c.in-Ok.is (c.in_ok-outcome.ensures es c.in_ok-asking.ensures.asks.stand) in
    settled_all i.program.now c.args.known.now ks c.settle.new.known c.args.group.now (subst_of c.in-Ok.subst) es c.settle.result
    c.in_ok-next.ensures.known
    (λ none rising. asked_meant i.program.now i.constructors.now c.args.known.now ks c.args.group.now i.values c.in_ok-next.next
    c.in_ok-next.ensures.known c.in_ok-next.ensures.next rising c.requires.within none c.requires.tables.constructors c.requires.tables.values)
    found.0 c.requires.within c.settle.ensures

pub returns-in-Err : goal.returns-in-Err
returns-in-Err c = λ none rising.
    let i = c.args.self.now in
    let ks = c.enter.new.known in
    let es : List Equation =
    (group_asks i.program.now (known_assumptions i.program.now i.constructors.now ks i.values) (λ x. 0) ks c.args.group.now
    (record { next = c.in_ok-next.next; equations = [] })).equations in
    subst (λ (xs : List Equation). Clashes xs c.in-Err.clash)
    (asked_meant i.program.now i.constructors.now c.args.known.now ks c.args.group.now i.values c.in_ok-next.next c.in_ok-next.ensures.known
    c.in_ok-next.ensures.next rising c.requires.within none c.requires.tables.constructors c.requires.tables.values)
    (MatchResult-at_err (λ (s : Subst). IsMostGeneral (subst_of s) es × IsTable (types_of_subst s) × HasPlaces s) (Clashes es) c.in-Err.clash c.in-Err.is
    (c.in_ok-outcome.ensures es c.in_ok-asking.ensures.asks.stand))
