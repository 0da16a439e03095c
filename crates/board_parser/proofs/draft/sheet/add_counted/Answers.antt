use Rattle.std.proofs.Common.{◌≡◌, Ok, arith}
use Rattle.board_parser.specs.draft.Add.{add}
use Rattle.board_parser.specs.draft.Counts.{IsGrown, name_and_bus}
use Rattle.board_parser.specs.draft.Drafts.{board_of}
use Rattle.board_parser.proofs.draft.AgentLemmas.{agents_few, operations_few, count-grown}
use Rattle.board_parser.proofs.draft.sheet.add_counted.Goals as goal

pub grow-requires-clause-agents : goal.grow-requires-clause-agents
grow-requires-clause-agents c = agents_few c.args.counts.now (board_of c.args.draft.now) c.requires

pub grow-requires-clause-operations : goal.grow-requires-clause-operations
grow-requires-clause-operations c =
    let added : add c.args.draft.now c.args.statement ≡ Ok c.add.new.draft = c.in_ok-add.ensures in
    let few = operations_few c.args.counts.now c.args.draft.now c.args.statement c.add.new.draft c.requires added in
    let tried = c.tries_in-tries.ensures in
    omega (arith, few, tried)

pub returns-clause-counts : goal.returns-clause-counts
returns-clause-counts c =
    let added : add c.args.draft.now c.args.statement ≡ Ok c.add.new.draft = c.in_ok-add.ensures in
    let grown : IsGrown c.args.counts.now c.grow.new.self (name_and_bus c.in_ok-agent.agent) c.tries_in-tries.result = c.in_ok-grow.ensures in
    count-grown c.args.counts.now c.grow.new.self c.args.draft.now c.args.statement c.add.new.draft (name_and_bus c.in_ok-agent.agent) c.tries_in-tries.result
    c.requires added c.in_ok-agent.ensures c.tries_in-tries.ensures grown
