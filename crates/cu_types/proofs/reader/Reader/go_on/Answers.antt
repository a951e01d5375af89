use Rattle.std.proofs.Common.{◌∷◌, sym, ap, subst, arith}
use Rattle.cu_types.proofs.reader.Reader.go_on.Goals as goal
use Rattle.cu_types.specs.Inside.Tasks.{ReaderProceeds, ReaderReads, Step, step_of, steps_of}

pub begin-requires : goal.begin-requires
begin-requires c = c.requires.2.variables

pub finish-requires : goal.finish-requires
finish-requires c = (
  c.requires.0,
  c.requires.1,
  steps_of c.args.tasks.now.items,
  subst (λ (s : Step). ReaderReads c.requires.0 c.requires.1 c.args.self.now (s ∷ steps_of c.args.tasks.now.items) c.args.places.now.items)
      (ap step_of c.in-Apply.is) c.requires.2,
)

pub returns-in_ok-begin-in-Read : goal.returns-in_ok-begin-in-Read
returns-in_ok-begin-in-Read c = λ before t w.
    subst (λ (s : Step). ReaderProceeds before t (s ∷ steps_of c.args.tasks.now.items) c.begin.new.self c.begin.new.tasks.items c.begin.new.places.items)
    (sym (ap step_of c.in-Read.is))
    (c.in_ok-begin-in-Read.ensures before t
    (subst (λ (s : Step). ReaderReads before t c.args.self.now (s ∷ steps_of c.args.tasks.now.items) c.args.places.now.items)
    (ap step_of c.in-Read.is) w))

pub returns-in_ok-finish-in-Apply : goal.returns-in_ok-finish-in-Apply
returns-in_ok-finish-in-Apply c = λ before t w.
    subst (λ (s : Step). ReaderProceeds before t (s ∷ steps_of c.args.tasks.now.items) c.finish.new.self c.args.tasks.now.items c.finish.new.places.items)
    (sym (ap step_of c.in-Apply.is))
    (record {
      reading = c.in_ok-finish-in-Apply.ensures before t (steps_of c.args.tasks.now.items)
          (subst (λ (s : Step). ReaderReads before t c.args.self.now (s ∷ steps_of c.args.tasks.now.items) c.args.places.now.items)
          (ap step_of c.in-Apply.is) w);
      nearer = omega arith;
    })
