use Rattle.bus_targets.proofs.ReadLemmas.{programs_kept}
use Rattle.bus_targets.proofs.target.table_of.Goals as goal

pub returns : goal.returns
returns c =
    let table = c.in_ok-table.ensures in
    record {
      rises = table.rises;
      opens = table.opens;
      knows = programs_kept c.args.agent.now c.args.space c.in_ok-addresses.addresses.items c.in_ok-table.table.addresses c.args.board.now.masters table.kept c.in_ok-addresses.ensures;
    }
