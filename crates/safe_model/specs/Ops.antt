-- The operations of a board.
use Rattle.std.specs.Prelude.{ℕ, ◌+◌, List, [], ◌∷◌, ◌++◌}
use Rattle.pci_command.specs.declared.op_id.OpId.{OpId}
use Rattle.board_model.specs.declared.op.Op.{Op}
use Rattle.board_model.specs.declared.agents.Master.{Master}

-- those of a program from this index on; of a poll the first try
abbrev pub ops_from : ℕ → ℕ → List Op → List OpId
ops_from master index [] = []
ops_from master index (op ∷ ops) = record { master = master; index = index; attempt = 0 } ∷ ops_from master (index + 1) ops

-- those of masters from this one on, by master, then index
abbrev pub ops_by : ℕ → List Master → List OpId
ops_by master [] = []
ops_by master (first ∷ masters) = ops_from master 0 first.ops ++ ops_by (master + 1) masters
