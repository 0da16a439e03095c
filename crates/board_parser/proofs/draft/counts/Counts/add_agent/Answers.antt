use Rattle.std.proofs.Common.{arith, ◌<◌, length, rules}
use Rattle.std.specs.Prelude.{string_bytes}
use Rattle.std.proofs.lemmas.Map.Text.{hash_set_updates_text}
use Rattle.board_parser.proofs.draft.AgentLemmas.{agents_put}
use Rattle.board_parser.proofs.draft.counts.Counts.add_agent.Goals as goal

pub returns : goal.returns
returns c = record {
  names = λ name. hash_set_updates_text (string_bytes c.args.agent.name) c.args.self.now.names c.insert.new.self _ c.in_ok-insert.ensures.updates name;
  agents = λ bus below.
      let within : c.args.agent.bus < length c.args.self.now.agents = search rules in
      agents_put c.args.self.now.agents c.args.agent.bus c.from.result bus c.from.ensures within;
  operations = omega arith;
}
