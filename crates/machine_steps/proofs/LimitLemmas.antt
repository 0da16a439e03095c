-- The names of the operations that are there are small.
use Rattle.std.proofs.Common.{◌≡◌, true, ◌<◌, Option, Some, None, IsSome, refl}
use Rattle.pci_command.specs.declared.op_id.OpId.{OpId}
use Rattle.board_model.specs.Limits.{most_ops, most_tries}
use Rattle.board_model.specs.declared.op.Op.{Op}
use Rattle.board_model.specs.declared.board.Board.{Board}
use Rattle.board_model.specs.Requests.{op_of}
use Rattle.board_model.specs.WellFormed.{is_well_formed}
use Rattle.board_model.proofs.Laws.{op_limits}

some_op : (board : Board) (o : OpId) (found : Option Op) → op_of board o ≡ found → IsSome found → is_well_formed board ≡ true → (o.index < most_ops) × (o.attempt < most_tries)
some_op board o None at there formed = cc
some_op board o (Some op) at there formed = op_limits board o op formed at

pub index_limit : (board : Board) (o : OpId) → is_well_formed board ≡ true → IsSome (op_of board o) → o.index < most_ops
index_limit board o formed there = (some_op board o (op_of board o) refl there formed).0

pub attempt_limit : (board : Board) (o : OpId) → is_well_formed board ≡ true → IsSome (op_of board o) → o.attempt < most_tries
attempt_limit board o formed there = (some_op board o (op_of board o) refl there formed).1
