-- How a board that was made is taken as a tree, or refused.
use Rattle.std.proofs.Common.{◌≡◌, ℕ, List, Some, Result, Ok, Err, refl, sym, ap, subst, ◌∙◌}
use Rattle.board_model.specs.declared.board.Board.{Board}
use Rattle.dma_agents.specs.declared.fault.MakeFault.{MakeFault}
use Rattle.dma_agents.specs.Made.{Made, board_in, IsMade, made_read}
use Rattle.program_status.specs.declared.status.Status.{Status}
use Rattle.program_status.specs.declared.status.Status.TheVariants.{BadBoard}
use Rattle.program_input.specs.Boards.{RefusesTree}
use Rattle.program_input.specs.Devices.{making_refusal, RefusesDevices}

is_made : (reading : Result Made MakeFault) (board : Board) → board_in reading ≡ Ok board → IsMade board reading
is_made (Ok made) board is = cc
is_made (Err fault) board is = cc

-- the board that is told is the one that was made
pub made_tree : (input : List ℕ) (board tree : Board) → board_in (made_read input) ≡ Ok board → tree ≡ board → IsMade tree (made_read input)
made_tree input board tree is same = is_made (made_read input) tree (is ∙ ap Ok (sym same))

refused_by : (reading : Result Made MakeFault) (board : Board) (status : Status) → board_in reading ≡ Ok board → RefusesTree board status → making_refusal reading ≡ Some status
refused_by (Ok made) board status is refused =
    let same : made.board ≡ board = cc in
    let fault = refused.fault_is in
    let F : Board → Type 0 = λ b. making_refusal (Ok (record { board = b; first = made.first })) ≡ Some (BadBoard 0 refused.fault) in
    let there : F board = rw fault refl in
    subst F (sym same) there ∙ ap Some (sym refused.told)
refused_by (Err fault) board status is refused = cc

-- a text whose board is refused as a tree is refused so
pub tree_refused : (input : List ℕ) (board : Board) (status : Status) → board_in (made_read input) ≡ Ok board → RefusesTree board status → RefusesDevices input status
tree_refused input board status is refused =
    let known = refused_by (made_read input) board (BadBoard 0 refused.fault) is (record { fault = refused.fault; fault_is = refused.fault_is; told = refl }) in
    subst (RefusesDevices input) (sym refused.told) known
