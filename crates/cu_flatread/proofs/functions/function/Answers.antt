use Rattle.cu_flatread.proofs.DoneLemmas.{function_done}
use Rattle.cu_flatread.proofs.KeptLemmas.{entity_has, extends_again, type_has}
use Rattle.cu_flatread.proofs.functions.function.Goals as goal

pub returns-clause-gives : goal.returns-clause-gives
returns-clause-gives c =
    function_done c.entity.new.names c.type_at.new.names c.rule.new.names
    (record {
      entity = c.in_ok-entity.entity;
      arity = c.in_ok-arity.arity;
      public = c.in_ok-public.public;
      of_type = c.in_ok-of_type.of_type;
      rule = c.in_ok-rule.rule;
    }) c.args.cursor.now.rest.now c.word.new.self.rest.now c.entity.new.self.rest.now
    c.word-2.new.self.rest.now c.number.new.self.rest.now c.word-3.new.self.rest.now
    c.visibility.new.cursor.rest.now c.word-4.new.self.rest.now c.type_at.new.cursor.rest.now
    c.word-5.new.self.rest.now c.rule.new.cursor.rest.now c.word-6.new.self.rest.now
    c.in_ok-of_type.ensures.names c.in_ok-rule.ensures.names c.in_ok-entity.ensures.known
    c.in_ok-of_type.ensures.known c.in_ok-word.ensures.gives c.in_ok-entity.ensures.gives
    c.in_ok-word-2.ensures.gives c.in_ok-arity.ensures.gives c.in_ok-word-3.ensures.gives
    c.in_ok-public.ensures.gives c.in_ok-word-4.ensures.gives c.in_ok-of_type.ensures.gives
    c.in_ok-word-5.ensures.gives c.in_ok-rule.ensures.gives c.in_ok-word-6.ensures.gives

pub returns-clause-known : goal.returns-clause-known
returns-clause-known c =
    let last = c.rule.new.names in (
      entity_has c.entity.new.names last c.in_ok-entity.entity
          (extends_again c.entity.new.names c.type_at.new.names last c.in_ok-of_type.ensures.names
          c.in_ok-rule.ensures.names) c.in_ok-entity.ensures.known,
      type_has c.type_at.new.names last c.in_ok-of_type.of_type c.in_ok-rule.ensures.names
          c.in_ok-of_type.ensures.known,
      c.in_ok-rule.ensures.known,
    )
