use Rattle.std.proofs.Common.{◌≡◌, List, ◌∷◌, length, map, nat_eq, refl, ap, ◌∙◌, arith}
use Rattle.indexmap.specs.IndexMap.{get}
use Rattle.cu_kernel.specs.TypesOf.{type_of, type_of-Arrow, type_of-Named, type_of-Var, types_of}
use Rattle.cu_kernel.specs.declared.type_term.TypeTerm.{TypeTerm}
use Rattle.cu_types.proofs.ReadingSteps.{listed_types, reading_arrow, reading_named, reading_variable, steps_of_types, steps_pushed}
use Rattle.cu_types.proofs.TableLemmas.{mapped_length}
use Rattle.cu_types.proofs.reader.Reader.begin.Goals as goal
use Rattle.cu_types.specs.Inside.Reading.{shapes}
use Rattle.cu_types.specs.Inside.Tasks as step
use Rattle.cu_types.specs.Inside.Tasks.{steps_of}
use Rattle.cu_types.specs.Types.{listed}
use Rattle.cu_types.specs.declared.node.TypeHead.TheVariants as head
use Rattle.cu_types.specs.declared.reading.Reading.TheVariants as reading

pub returns-in_ok-push-in-Var : goal.returns-in_ok-push-in-Var
returns-in_ok-push-in-Var c = λ before t w.
    reading_variable before (get nat_eq c.args.self.now.variables) (get nat_eq c.variable.new.self.variables) (shapes c.args.self.now)
    (shapes c.variable.new.self) (steps_of c.args.tasks.now.items) c.args.places.now.items c.push.new.self.items t
    (type_of c.args.term.now) c.in-Var.x c.in_ok-place-in-Var.place (ap type_of c.in-Var.is ∙ type_of-Var c.in-Var.x)
    c.in_ok-place-in-Var.ensures.reader c.in_ok-place-in-Var.ensures.read c.in_ok-push-in-Var.ensures.items w

pub returns-in_ok-push-in-Arrow-3 : goal.returns-in_ok-push-in-Arrow-3
returns-in_ok-push-in-Arrow-3 c = λ before t w.
    reading_arrow before (get nat_eq c.args.self.now.variables) (shapes c.args.self.now) (steps_of c.args.tasks.now.items)
    (steps_of c.push-in-Arrow-3.new.self.items) c.args.places.now.items t (type_of c.args.term.now)
    (type_of c.in-Arrow.argument.value) (type_of c.in-Arrow.result_type.value)
    (ap type_of c.in-Arrow.is ∙ type_of-Arrow c.in-Arrow.argument c.in-Arrow.result_type)
    (steps_pushed c.push-in-Arrow-2.new.self.items c.push-in-Arrow-3.new.self.items (reading.Read c.deref-in-Arrow.result)
    (step.Read (type_of c.in-Arrow.result_type.value)) c.in_ok-push-in-Arrow-3.ensures.items
    (ap (λ (u : TypeTerm). step.Read (type_of u)) c.deref-in-Arrow.ensures)
    ∙ ap (λ (xs : List step.Step). step.Read (type_of c.in-Arrow.result_type.value) ∷ xs)
    (steps_pushed c.push-in-Arrow.new.self.items c.push-in-Arrow-2.new.self.items (reading.Read c.deref.result)
    (step.Read (type_of c.in-Arrow.argument.value)) c.in_ok-push-in-Arrow-2.ensures.items
    (ap (λ (u : TypeTerm). step.Read (type_of u)) c.deref.ensures)
    ∙ ap (λ (xs : List step.Step). step.Read (type_of c.in-Arrow.argument.value) ∷ xs)
    (steps_pushed c.args.tasks.now.items c.push-in-Arrow.new.self.items (reading.Apply head.Arrow 2) (step.Apply head.Arrow 2)
    c.in_ok-push-in-Arrow.ensures.items refl)))
    w

pub returns-in_ok-push_types-in-Named : goal.returns-in_ok-push_types-in-Named
returns-in_ok-push_types-in-Named c = λ before t w.
    let items = c.in-Named.arguments.items in
    reading_named before (get nat_eq c.args.self.now.variables) (shapes c.args.self.now) (steps_of c.args.tasks.now.items)
    (steps_of c.push_types.new.tasks.items) c.args.places.now.items t (type_of c.args.term.now) c.in-Named.name (types_of items)
    c.len.result
    (ap type_of c.in-Named.is ∙ type_of-Named c.in-Named.name c.in-Named.arguments)
    (let a : length (listed (types_of items)) ≡ length (map type_of items) = ap length (listed_types items) in
    omega (arith, a, mapped_length type_of items, c.len.ensures, c.in-Named.arguments.ok.0))
    (steps_of_types c.push-in-Named.new.self.items c.push_types.new.tasks.items c.deref-in-Named.result.now items
    (step.Apply (head.Named c.in-Named.name) c.len.result ∷ steps_of c.args.tasks.now.items) c.in_ok-push_types-in-Named.ensures
    c.deref-in-Named.ensures.value
    (steps_pushed c.args.tasks.now.items c.push-in-Named.new.self.items (reading.Apply (head.Named c.in-Named.name) c.len.result)
    (step.Apply (head.Named c.in-Named.name) c.len.result) c.in_ok-push-in-Named.ensures.items refl))
    w
