use Rattle.std.proofs.Common.{◌≡◌, ◌∷◌, ◌<◌, List, [], length, nat_eq, sym, subst, arith}
use Rattle.std.proofs.lemmas.List.{get_or_read}
use Rattle.indexmap.specs.IndexMap.{get}
use Rattle.cu_kernel.specs.TypesOf.{type_of}
use Rattle.cu_types.proofs.ReadingSteps.{no_readings, reading_count, reading_ends, steps_popped}
use Rattle.cu_types.proofs.reader.Reader.read.Goals as goal
use Rattle.cu_types.specs.Inside.Reading.{Reads, shapes}
use Rattle.cu_types.specs.declared.reading.Reading.{Reading}
use Rattle.cu_types.specs.Inside.Tasks.{ReaderReads, Step, efforts, step_of, steps_of}

pub go_on-requires : goal.go_on-requires
go_on-requires c = (
  shapes c.args.self.now,
  type_of c.args.term.now,
  subst (λ (xs : List Step). ReaderReads (shapes c.args.self.now) (type_of c.args.term.now) c.loop-task.self xs c.loop-task.places.items)
      (steps_popped c.loop-task.tasks.items c.pop.new.self.items c.in-Some.task c.in-Some.ensures.items) c.loop-task.invariant,
)

pub loop-task-preserved : goal.loop-task-preserved
loop-task-preserved c =
    (c.in_ok-go_on.ensures (shapes c.args.self.now) (type_of c.args.term.now)
    (subst (λ (xs : List Step). ReaderReads (shapes c.args.self.now) (type_of c.args.term.now) c.loop-task.self xs c.loop-task.places.items)
    (steps_popped c.loop-task.tasks.items c.pop.new.self.items c.in-Some.task c.in-Some.ensures.items) c.loop-task.invariant)).reading

pub loop-task-smaller : goal.loop-task-smaller
loop-task-smaller c =
    let near : efforts (steps_of c.go_on.new.tasks.items) < efforts (step_of c.in-Some.task ∷ steps_of c.pop.new.self.items) =
    (c.in_ok-go_on.ensures (shapes c.args.self.now) (type_of c.args.term.now)
    (subst (λ (xs : List Step). ReaderReads (shapes c.args.self.now) (type_of c.args.term.now) c.loop-task.self xs c.loop-task.places.items)
    (steps_popped c.loop-task.tasks.items c.pop.new.self.items c.in-Some.task c.in-Some.ensures.items) c.loop-task.invariant)).nearer in
    subst (λ (xs : List Step). efforts (steps_of c.go_on.new.tasks.items) < efforts xs)
    (sym (steps_popped c.loop-task.tasks.items c.pop.new.self.items c.in-Some.task c.in-Some.ensures.items)) near

pub index-requires : goal.index-requires
index-requires c =
    let none : c.loop-task.tasks.items ≡ [] =
    no_readings c.loop-task.tasks.items (omega (arith, c.loop-task.tasks.ok.0, c.in_default.ensures.cases.0)) in
    let many : 0 < length c.loop-task.places.items =
    reading_count (shapes c.args.self.now) (get nat_eq c.loop-task.self.variables) (shapes c.loop-task.self) c.loop-task.places.items
    (type_of c.args.term.now)
    (subst (λ (xs : List Reading). ReaderReads (shapes c.args.self.now) (type_of c.args.term.now) c.loop-task.self (steps_of xs) c.loop-task.places.items)
    none c.loop-task.invariant) in
    omega (arith, many, c.loop-task.places.ok.0)

pub returns-clause-read : goal.returns-clause-read
returns-clause-read c =
    let none : c.loop-task.tasks.items ≡ [] =
    no_readings c.loop-task.tasks.items (omega (arith, c.loop-task.tasks.ok.0, c.in_default.ensures.cases.0)) in
    let w : ReaderReads (shapes c.args.self.now) (type_of c.args.term.now) c.loop-task.self [] c.loop-task.places.items =
    subst (λ (xs : List Reading). ReaderReads (shapes c.args.self.now) (type_of c.args.term.now) c.loop-task.self (steps_of xs) c.loop-task.places.items)
    none c.loop-task.invariant in
    let many : 0 < length c.loop-task.places.items =
    reading_count (shapes c.args.self.now) (get nat_eq c.loop-task.self.variables) (shapes c.loop-task.self) c.loop-task.places.items
    (type_of c.args.term.now) w in
    subst (Reads (shapes c.args.self.now) (shapes c.loop-task.self) (type_of c.args.term.now))
    (sym (get_or_read c.loop-task.places.items 0 c.index.result.now many c.index.ensures 0))
    (reading_ends (shapes c.args.self.now) (get nat_eq c.loop-task.self.variables) (shapes c.loop-task.self) c.loop-task.places.items
    (type_of c.args.term.now) w)
