use Rattle.command_observe.proofs.AnswerLemmas.{holds_verdict}
use Rattle.command_observe.proofs.holding.holds_acts.Goals as goal

pub returns : goal.returns
returns c = holds_verdict c.args.log.now c.args.text.now c.in_ok-read.read c.verdict_on-verdict.result c.in_ok-read.ensures c.verdict_on-verdict.ensures
