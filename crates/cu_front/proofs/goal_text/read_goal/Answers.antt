use Rattle.cu_names.proofs.Growth.{known-extends}
use Rattle.cu_front.proofs.GoalLemmas.{goal_owned, goal_read, layout_told, same_laid, syntax_told, tokens_told}
use Rattle.cu_front.proofs.goal_text.read_goal.Goals as goal

pub returns-in-Err-clause-fault : goal.returns-in-Err-clause-fault
returns-in-Err-clause-fault c =
    tokens_told c.lex.new.names c.args.owner c.args.text.now c.in-Err.fault c.of_tokens.result
    c.of_tokens.ensures (known-extends c.lex.ensures.names c.args.owner c.requires.known)
    c.in-Err.ensures.fault

pub returns-in-Err-block-clause-fault : goal.returns-in-Err-block-clause-fault
returns-in-Err-block-clause-fault c =
    layout_told c.lex.new.names c.args.owner c.args.text.now c.in-Ok.tokens.items
    c.in-Err-block.fault c.of_layout.result c.of_layout.ensures
    (known-extends c.lex.ensures.names c.args.owner c.requires.known) c.in-Ok.ensures.tokens
    c.in-Ok.ensures.owned c.in-Err-block.ensures.fault

pub returns-in-Ok-parse_goal-clause-read : goal.returns-in-Ok-parse_goal-clause-read
returns-in-Ok-parse_goal-clause-read c =
    let found = c.in-Ok.tokens.items in
    let laid = c.as_slice.result.now in
    let is = same_laid found c.in-Ok-block.laid.items laid c.as_slice.ensures.value
    c.in-Ok-block.ensures.tokens in
    goal_read c.lex.new.names c.args.text.now found laid c.in-Ok-parse_goal.goal
    c.in-Ok.ensures.tokens is (c.in-Ok-parse_goal.ensures.goal c.lex.new.names)

pub returns-in-Ok-parse_goal-clause-owned : goal.returns-in-Ok-parse_goal-clause-owned
returns-in-Ok-parse_goal-clause-owned c =
    let names = c.lex.new.names in
    let found = c.in-Ok.tokens.items in
    let laid = c.as_slice.result.now in
    let is = same_laid found c.in-Ok-block.laid.items laid c.as_slice.ensures.value
    c.in-Ok-block.ensures.tokens in
    goal_owned c.args.owner names found laid c.in-Ok-parse_goal.goal c.in-Ok.ensures.owned is
    (c.in-Ok-parse_goal.ensures.owned c.args.owner names)

pub returns-clause-fault : goal.returns-clause-fault
returns-clause-fault c =
    let names = c.lex.new.names in
    let found = c.in-Ok.tokens.items in
    let laid = c.as_slice.result.now in
    let is = same_laid found c.in-Ok-block.laid.items laid c.as_slice.ensures.value
    c.in-Ok-block.ensures.tokens in
    syntax_told names c.args.owner c.args.text.now found laid c.in-Err-parse_goal.fault
    c.of_syntax.result c.of_syntax.ensures
    (known-extends c.lex.ensures.names c.args.owner c.requires.known) c.in-Ok.ensures.tokens is
    (c.in-Err-parse_goal.ensures.fault names)
