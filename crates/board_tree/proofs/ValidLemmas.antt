-- A board in form that has none of the faults of a tree, and whose bound is small, is valid.
use Rattle.std.proofs.Common.{◌≡◌, ℕ, ◌≤◌, Bool, true, false, nat_lt, Option, Some, None, refl, arith, if◌then◌else◌}
use Rattle.std.proofs.lemmas.Bool.Decides.{nat_tests}
use Rattle.board_model.specs.declared.board.Board.{Board}
use Rattle.board_model.specs.WellFormed.{is_well_formed}
use Rattle.board_model.specs.Ways.{bound_of}
use Rattle.board_model.specs.Valid.{IsValid}
use Rattle.text_faults.specs.declared.tree.TreeFault.{TreeFault}
use Rattle.board_checks.specs.Faults.{first_fault_of}
use Rattle.board_tree.specs.Decodable.{IsDecodable}
use Rattle.board_tree.proofs.DecodableLemmas.{IsDecodable-formed}

-- where no fault is named, the first is not there, and none of the others is named
passed : (has : Bool) (fault : TreeFault) (later : Option TreeFault) → (if has then Some fault else later) ≡ None → (has ≡ false) × (later ≡ None)
passed true fault later none = cc
passed false fault later none = (refl, none)

pub IsDecodable-passed : (board : Board) → is_well_formed board ≡ true → first_fault_of board ≡ None → IsDecodable board
IsDecodable-passed board formed none =
    IsDecodable-formed board formed (passed _ _ _ none).0

not_above : (most n : ℕ) → n ≤ most → nat_lt most n ≡ false
not_above most n within = grind (arith, nat_tests)

pub IsValid-passed : (board : Board) → is_well_formed board ≡ true → first_fault_of board ≡ None → bound_of board ≤ 500000 → IsValid board
IsValid-passed board formed none short =
    let one = passed _ _ _ none in
    let two = passed _ _ _ one.1 in
    let three = passed _ _ _ two.1 in
    let four = passed _ _ _ three.1 in
    let five = passed _ _ _ four.1 in
    let six = passed _ _ _ five.1 in
    let seven = passed _ _ _ six.1 in
    let eight = passed _ _ _ seven.1 in
    record {
      well_formed = formed;
      buses = one.0;
      tree = two.0;
      windows = three.0;
      reach = four.0;
      ranges_beside_windows = five.0;
      ranges = six.0;
      devices = seven.0;
      headers = eight.0;
      bound = not_above 500000 (bound_of board) short;
    }
