use Rattle.std.proofs.Common.{◌≡◌, ◌<◌, ◌≤◌, Some, arith, length, subst}
use Rattle.std.proofs.lemmas.List.{length-map}
use Rattle.cu_modules.specs.Ordering.{module_of}
use Rattle.cu_desugar.specs.declared.modules.Modules.{Modules}
use Rattle.cu_desugar.specs.Modules.{named}
use Rattle.cu_front.specs.Inside.Outcomes.{IsOutcomeOf}
use Rattle.cu_front.proofs.ModuleLemmas.{all_refused, all_right, first_clash, next_follows, none_before, of_first, of_next}
use Rattle.cu_front.specs.Refusal.{Refusal}
use Rattle.cu_front.specs.Inside.StageFaults.{Tells}
use Rattle.cu_front.specs.Translated.{translation_refusal}
use Rattle.cu_front.proofs.RunLemmas.{err_same}
use Rattle.cu_front.proofs.translated.modules_program.Goals as goal

size : (m : Modules) → length (named m) ≡ length m.modules.now
size m = length-map m.modules.now (module_of m.names.now)

pub loop-number-init : goal.loop-number-init
loop-number-init c =
    let m = c.args.modules in
    let some : 0 < length (named m) = omega (arith, c.requires.some, size m) in
    (omega arith, of_first m.names.now (named m) c.in_ok-so_far.so_far some c.in_ok-so_far.ensures.outcome)

pub followed_by-requires : goal.followed_by-requires
followed_by-requires c =
    let m = c.args.modules in
    let below : c.loop-number.number < length (named m) = omega (arith, c.loop-number-test.true, c.in-Ok.ensures.1, size m) in
    next_follows c.parts_follow.ensures.modules m.names.now (named m) c.loop-number.number c.loop-number.so_far c.in_ok-next.next
    c.loop-number.invariant.0 below c.loop-number.invariant.1 c.in_ok-next.ensures.outcome

pub loop-number-preserved : goal.loop-number-preserved
loop-number-preserved c =
    let m = c.args.modules in
    let below : c.loop-number.number < length (named m) = omega (arith, c.loop-number-test.true, c.in-Ok.ensures.1, size m) in (
      omega (arith, c.loop-number.invariant.0),
      of_next m.names.now (named m) c.loop-number.number c.loop-number.so_far c.in_ok-next.next c.in_ok-so_far-2.so_far
          c.loop-number.invariant.0 below c.in_ok-so_far-2.ensures.whole c.loop-number.invariant.1 c.in_ok-next.ensures.outcome,
    )

pub returns-in_err-so_far-clause-fault : goal.returns-in_err-so_far-clause-fault
returns-in_err-so_far-clause-fault c =
    let m = c.args.modules in
    let some : 0 < length (named m) = omega (arith, c.requires.some, size m) in
    err_same (Tells m.names.now (λ (refusal : Refusal). translation_refusal m.names.now (named m) ≡ Some refusal)) c.from_residual.result
    c.in_err-so_far.field-0.0 c.from_residual.ensures.1
    (first_clash m.names.now (named m) 0 some (none_before m.names.now (named m)) c.in_err-so_far.field-0.0 c.in_err-so_far.ensures.fault)

pub returns-in_err-next-clause-fault : goal.returns-in_err-next-clause-fault
returns-in_err-next-clause-fault c =
    let m = c.args.modules in
    let below : c.loop-number.number < length (named m) = omega (arith, c.loop-number-test.true, c.in-Ok.ensures.1, size m) in
    err_same (Tells m.names.now (λ (refusal : Refusal). translation_refusal m.names.now (named m) ≡ Some refusal)) c.from_residual-in_err-next.result
    c.in_err-next.field-0.0 c.from_residual-in_err-next.ensures.1
    (first_clash m.names.now (named m) c.loop-number.number below c.loop-number.invariant.1.no_clash c.in_err-next.field-0.0
    c.in_err-next.ensures.fault)

pub returns-in-Program : goal.returns-in-Program
returns-in-Program c =
    let m = c.args.modules in
    let some : 1 ≤ c.in-Ok.count = omega (arith, c.requires.some, c.in-Ok.ensures.1) in
    let all : c.loop-number.number ≡ length (named m) =
    omega (arith, c.loop-number-test.false, c.loop-number.auto.number-end some, c.in-Ok.ensures.1, size m) in
    let both =
    all_right m.names.now (named m) c.loop-number.number c.in-Program.program c.loop-number.invariant.0 all
    (subst (IsOutcomeOf m.names.now (named m) c.loop-number.number) c.in-Program.is c.loop-number.invariant.1) in
    record { none = both.0; program = both.1; fault = tt }

pub returns-in-Refused : goal.returns-in-Refused
returns-in-Refused c =
    let m = c.args.modules in
    let some : 1 ≤ c.in-Ok.count = omega (arith, c.requires.some, c.in-Ok.ensures.1) in
    let all : c.loop-number.number ≡ length (named m) =
    omega (arith, c.loop-number-test.false, c.loop-number.auto.number-end some, c.in-Ok.ensures.1, size m) in
    record {
      none = tt;
      program = tt;
      fault = all_refused m.names.now (named m) c.loop-number.number c.loop-number.so_far c.in-Refused.refusal all c.in-Refused.is c.loop-number.invariant.1;
    }
