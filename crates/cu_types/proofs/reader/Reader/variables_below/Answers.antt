use Rattle.std.proofs.Common.{◌≡◌, ℕ, [], ◌+◌, sym, subst, arith}
use Rattle.cu_kernel.specs.TypeExpr as type
use Rattle.cu_types.proofs.Adding.{all_read_more, none_read}
use Rattle.cu_types.proofs.BuiltInLemmas.{next_variable}
use Rattle.cu_types.proofs.reader.Reader.variables_below.Goals as goal
use Rattle.cu_types.specs.BuiltInTypes.{variables_from}
use Rattle.cu_types.specs.Inside.Reading.{AllRead, shapes}

pub loop-x-init : goal.loop-x-init
loop-x-init c = record {
  reader = c.requires;
  read = subst (AllRead (shapes c.args.self.now) (shapes c.args.self.now) []) (sym c.new-places.ensures.items) (none_read (shapes c.args.self.now));
}

pub loop-x-preserved : goal.loop-x-preserved
loop-x-preserved c = record {
  reader = c.in_ok-place.ensures.reader;
  read = all_read_more (shapes c.args.self.now) (shapes c.loop-x.self) (shapes c.variable.new.self) (variables_from 0 c.loop-x.x)
      (variables_from 0 (c.loop-x.x + 1)) (type.Variable c.loop-x.x) c.loop-x.places.items c.push.new.self.items c.in_ok-place.place
      (next_variable c.loop-x.x) c.in_ok-push.ensures.items c.loop-x.invariant.read c.in_ok-place.ensures.read;
}

pub returns-clause-read : goal.returns-clause-read
returns-clause-read c =
    let all : c.loop-x.x ≡ c.args.count = omega arith in
    subst (λ (n : ℕ). AllRead (shapes c.args.self.now) (shapes c.loop-x.self) (variables_from 0 n) c.loop-x.places.items) all
    c.loop-x.invariant.read
