-- What a well-formed board gives here: each operation has a data phase, and each target takes one at a time or more.
use Rattle.std.proofs.Common.{◌≡◌, ◌≤◌, true, length, Some}
use Rattle.list_facts.proofs.EachLemmas.{Each-weaker}
use Rattle.list_facts.proofs.TestLemmas.{Each-list_all}
use Rattle.pci_command.specs.declared.op_id.OpId.{OpId}
use Rattle.board_model.specs.declared.agents.Target.{Target as TargetAgent}
use Rattle.board_model.specs.declared.op.Op.{Op}
use Rattle.board_model.specs.declared.board.Board.{Board}
use Rattle.board_model.specs.Requests.{op_of, phases_of}
use Rattle.board_model.specs.WellFormed.{is_well_formed_target, is_well_formed}
use Rattle.board_model.proofs.Laws.{WellFormed-parts, Target-parts, op_phases, op_formed}
use Rattle.law_bound.proofs.posted.PieceLemmas.{AllTake}

-- each operation of a well-formed board has a data phase
pub op_some : (board : Board) (o : OpId) (op : Op) → is_well_formed board ≡ true → op_of board o ≡ Some op → 1 ≤ length (phases_of op)
op_some board o op formed is = (op_phases op (op_formed board o op formed is)).from

-- each target takes something at a time
takes_some : (target : TargetAgent) → is_well_formed_target target ≡ true → 1 ≤ target.burst
takes_some target well = (Target-parts target well).burst.from

-- so does each target of a well-formed board
pub all_take : (board : Board) → is_well_formed board ≡ true → AllTake board
all_take board formed =
    Each-weaker (λ (target : TargetAgent). is_well_formed_target target ≡ true) (λ (target : TargetAgent). 1 ≤ target.burst) takes_some board.targets
    (Each-list_all is_well_formed_target board.targets (WellFormed-parts board formed).targets)
