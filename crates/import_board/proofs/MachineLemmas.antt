-- What the test of a machine's board says, by name.
use Rattle.std.proofs.Common.{◌≡◌, true, List}
use Rattle.std.proofs.lemmas.Bool.{and_parts}
use Rattle.board_model.specs.declared.board.Board.{Board}
use Rattle.import_text.specs.declared.function.Function.{Function}
use Rattle.import_bridges.specs.declared.machine.Root.{Root}
use Rattle.import_board.specs.Machine.{is_machine, IsMachine}

pub of_test : (root : Root) (functions : List Function) (board : Board) → is_machine root functions board ≡ true → IsMachine root functions board
of_test root functions board is =
    let one = and_parts _ _ is in
    let two = and_parts _ _ one.1 in
    let three = and_parts _ _ two.1 in
    let four = and_parts _ _ three.1 in
    record { bridges = one.0; ranges = two.0; all_bridges = three.0; all_ranges = four.0; nothing_else = four.1 }
