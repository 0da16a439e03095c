use Rattle.std.proofs.Common.{arith, refl}
use Rattle.std.proofs.lemmas.Grind.{common_steps}
use Rattle.board_parser.proofs.draft.AgentLemmas.{agents_none}
use Rattle.board_parser.proofs.draft.counts.Counts.new.Goals as goal

pub returns : goal.returns
returns c = record {
  names = λ name. let empty = c.new.ensures.empty in grind (arith, common_steps);
  agents = λ bus below. agents_none 256 bus;
  few_agents = λ bus. omega arith;
  operations = refl;
  few_operations = omega arith;
}
