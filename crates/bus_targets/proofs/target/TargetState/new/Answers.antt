use Rattle.std.proofs.Common.{◌≡◌, get_or, refl}
use Rattle.bus_targets.specs.State.{TargetView}
use Rattle.bus_targets.proofs.FirstLemmas.{stands_first, there_at}
use Rattle.bus_targets.proofs.target.TargetState.new.Goals as goal

pub returns : goal.returns
returns c =
    let board = c.args.board.now in
    let agent = c.index-as_slice-target.result in
    let is : agent ≡ get_or board.targets c.args.target agent = rw c.as_slice.ensures at c.index-as_slice-target.is in
    let there = there_at board.targets c.args.target agent c.requires is in
    let t : TargetView = record { target = c.args.target; stalls = agent.stalls; memory = c.in_ok-table_of.field-0; ports = c.in_ok-table_of-2.field-0; registers = c.in_ok-table_of-3.field-0 } in
    stands_first board agent t there refl c.in_ok-table_of.ensures c.in_ok-table_of-2.ensures c.in_ok-table_of-3.ensures
