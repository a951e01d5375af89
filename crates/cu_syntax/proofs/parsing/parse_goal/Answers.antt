use Rattle.std.proofs.Common.{map, sym, ◌∙◌}
use Rattle.cu_lex.specs.Reading.{lexeme_of}
use Rattle.cu_syntax.specs.Answer.{tree_of}
use Rattle.cu_syntax.specs.Parsing.{GoalRead}
use Rattle.cu_syntax.specs.Owners.{ParsedIsOf}
use Rattle.cu_syntax.proofs.PartLemmas.{goal_no_tree, goal_too_long, if_none, if_some}
use Rattle.cu_syntax.proofs.parsing.parse_goal.Goals as goal

pub returns-then-is_long-clause-fault : goal.returns-then-is_long-clause-fault
returns-then-is_long-clause-fault c = λ names.
    goal_too_long c.first_line.result (map (lexeme_of names) c.args.tokens.now) (sym (c.is_long.ensures names) ∙ c.if-is_long.true) (c.first_line.ensures names)

pub returns-in-Some-clause-goal : goal.returns-in-Some-clause-goal
returns-in-Some-clause-goal c = λ names.
    GoalRead.right (tree_of names c.in-Some.parsed) (sym (c.is_long.ensures names) ∙ c.if-is_long.false)
    (if_some c.in_ok-parsed.field-0 _ c.in-Some.parsed c.in-Some.is (c.in_ok-parsed.ensures.tree names))

pub returns-clause-fault : goal.returns-clause-fault
returns-clause-fault c = λ names.
    goal_no_tree c.first_line-in-None.result (map (lexeme_of names) c.args.tokens.now) (sym (c.is_long.ensures names) ∙ c.if-is_long.false)
    (if_none c.in_ok-parsed.field-0 _ c.in-None.is (c.in_ok-parsed.ensures.none names)) (c.first_line-in-None.ensures names)

pub returns-in-Some-clause-owned : goal.returns-in-Some-clause-owned
returns-in-Some-clause-owned c = λ owner names whole. if_some c.in_ok-parsed.field-0 (ParsedIsOf owner names) c.in-Some.parsed c.in-Some.is (c.in_ok-parsed.ensures.owned owner names whole)
