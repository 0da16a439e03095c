-- What the name of an operation that is there is made of.
use Rattle.std.proofs.Common.{◌≡◌, true, false, ◌<◌, Option, Some, None, refl, arith}
use Rattle.std.specs.Prelude.{is_some, slice_get}
use Rattle.pci_command.specs.declared.op_id.OpId.{OpId}
use Rattle.board_model.specs.Limits.{most_ops, most_tries}
use Rattle.board_model.specs.declared.op.Op.{Op}
use Rattle.board_model.specs.declared.op.Op.TheVariants.{Read, Write, CfgRead, CfgWrite, Poll}
use Rattle.board_model.specs.declared.agents.Master.{Master}
use Rattle.board_model.specs.declared.board.Board.{Board}
use Rattle.board_model.specs.Requests.{op_of, tries_of}
use Rattle.board_model.specs.WellFormed.{is_well_formed}
use Rattle.trace_text.specs.Words.{is_poll, names_poll}
use Rattle.board_model.proofs.Laws.{op_there, op_limits}

-- the master of an operation that is there, its small numbers, and one try alone where it is no poll
pub record There (board : Board) (o : OpId) : Type 0 where
  pub master : Master
  pub found : slice_get board.masters o.master ≡ Some master
  pub index : o.index < most_ops
  pub attempt : o.attempt < most_tries
  pub once : names_poll board o ≡ false → o.attempt ≡ 0

-- an operation is tried once where it is no poll
one_try : (op : Op) → is_poll op ≡ false → tries_of op ≡ 1
one_try (Read command address) none = refl
one_try (Write command address phases) none = refl
one_try (CfgRead bus device register) none = refl
one_try (CfgWrite bus device register phase) none = refl
one_try (Poll space address want tries) none = cc

-- the operation of a name on a well-formed board
there_of : (board : Board) (o : OpId) (op : Op) → is_well_formed board ≡ true → op_of board o ≡ Some op → There board o
there_of board o op formed is =
    let there = op_there board o op is in
    let limits = op_limits board o op formed is in
    let found = there.is_master in
    let is_op = there.is_op in
    let tried = there.tried in
    record {
      master = there.master;
      found = found;
      index = limits.0;
      attempt = limits.1;
      once = λ none. (let no_poll : is_poll op ≡ false = rw (found, is_op) at none in omega (arith, tried, one_try op no_poll));
    }

-- so it is of each operation that is there
pub op_is_there : (board : Board) (o : OpId) → is_well_formed board ≡ true → is_some (op_of board o) ≡ true → There board o
op_is_there board o formed some =
    let P : Option Op → Type 0 = λ found. op_of board o ≡ found → is_some found ≡ true → There board o in
    (elim (op_of board o) as P [ None ↦ λ _ none. cc | Some op ↦ λ is _. there_of board o op formed is ]) refl some
