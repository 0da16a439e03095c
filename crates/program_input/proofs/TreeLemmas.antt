-- How the refusal of a board as a tree is told.
use Rattle.std.proofs.Common.{◌≡◌, ℕ, ◌<◌, true, nat_lt, List, Option, Some, None, Ok, refl, sym, subst, ap, ◌∙◌, inl, inr, arith}
use Rattle.std.proofs.lemmas.Bool.{cases_lt}
use Rattle.std.proofs.lemmas.Bool.Decides.{nat_tests}
use Rattle.board_model.specs.declared.board.Board.{Board}
use Rattle.board_model.specs.WellFormed.{is_well_formed}
use Rattle.board_model.specs.Ways.{bound_of}
use Rattle.board_model.specs.Valid.{IsValid}
use Rattle.text_faults.specs.declared.tree.TreeFault.{TreeFault}
use Rattle.board_checks.specs.Faults.{first_fault_of}
use Rattle.board_parser.specs.Boards.{board_read}
use Rattle.board_tree.specs.Refusals.{refusal_by, refusal_of}
use Rattle.board_tree.proofs.ValidLemmas.{IsValid-passed}
use Rattle.program_status.specs.declared.status.Status.{Status}
use Rattle.program_status.specs.declared.status.Status.TheVariants.{BadBoard}
use Rattle.program_status.specs.declared.status.BoardFault.TheVariants.{Tree, Bound}
use Rattle.program_input.specs.Refusals.{tree_fault_by, tree_fault, reading_refusal, board_refusal}
use Rattle.program_input.specs.Boards.{refusal_told, RefusesTree, RefusesBoard}

-- the fault of a tree, as its refusal is told
pub refusal_is_told : (board : Board) → is_well_formed board ≡ true → (IsValid board → ⊥) → RefusesTree board (refusal_told (refusal_of board))
refusal_is_told board formed bad =
    let P : Option TreeFault → Type 0 = λ first. first_fault_of board ≡ first → RefusesTree board (refusal_told (refusal_by board first)) in
    (elim (first_fault_of board) as P [
      | Some fault ↦ λ is. record { fault = Tree fault; fault_is = ap (tree_fault_by (bound_of board)) is; told = refl }
      | None ↦ λ is.
          let long : 500000 < bound_of board = elim (cases_lt 500000 (bound_of board)) [
            | inl more ↦ more
            | inr short ↦ absurd (bad (IsValid-passed board formed is short))
          ] in
          let test : nat_lt 500000 (bound_of board) ≡ true = grind (arith, nat_tests) in
          record { fault = Bound (bound_of board); fault_is = ap (tree_fault_by (bound_of board)) is ∙ rw test refl; told = refl }
    ]) refl

-- a text whose board is refused as a tree is refused so
pub read_refused : (input : List ℕ) (board : Board) (status : Status) → board_read input ≡ Ok board → RefusesTree board status → RefusesBoard input status
read_refused input board status read refused =
    let fault = refused.fault_is in
    let known : board_refusal input ≡ Some (BadBoard 0 refused.fault) = ap reading_refusal read ∙ rw fault refl in
    subst (RefusesBoard input) (sym refused.told) known

none_first : (board : Board) → IsValid board → first_fault_of board ≡ None
none_first board valid =
    rw (valid.buses, valid.tree, valid.windows, valid.reach, valid.ranges_beside_windows, valid.ranges, valid.devices, valid.headers) refl

-- a valid board has no fault
pub faultless_tree : (board : Board) → IsValid board → tree_fault board ≡ None
faultless_tree board valid = ap (tree_fault_by (bound_of board)) (none_first board valid) ∙ rw valid.bound refl
