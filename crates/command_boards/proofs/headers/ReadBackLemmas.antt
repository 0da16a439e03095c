-- The header of each bridge of a valid board is read as the bridge.
use Rattle.std.proofs.Common.{◌≡◌, Bool, true, false, not, ◌||◌, Ok, Contains, refl}
use Rattle.std.specs.Prelude.{IsTrue}
use Rattle.std.specs.List.{list_any, AllByRecursion}
use Rattle.std.proofs.lemmas.Bool.{or_parts}
use Rattle.std.proofs.lemmas.List.Elements.{All-contains, All-from_recursion}
use Rattle.list_facts.proofs.TestLemmas.{Each-list_all, Each-list_any}
use Rattle.board_model.specs.declared.bridge.Bridge.{Bridge}
use Rattle.board_model.specs.declared.board.Board.{Board}
use Rattle.board_model.specs.WellFormed.{is_well_formed_bridge}
use Rattle.board_model.specs.Valid.{is_numbered, is_nested, are_beside, some_two, IsValid}
use Rattle.board_model.proofs.Laws.{WellFormed-parts}
use Rattle.board_model.specs.HeaderBytes.{header_bytes}
use Rattle.board_headers.specs.Windows.{reading_of, windows_in, has_whole_windows}

-- what is no fault is in order
in_order : (numbered nested : Bool) → (not numbered || not nested) ≡ false → numbered ≡ true
in_order true nested none = refl
in_order false nested none = cc

-- by the law of the round trip
pub headers_read_back : (board : Board) → IsValid board
    → ((bridge : Bridge) → IsTrue (is_well_formed_bridge bridge) → IsTrue (has_whole_windows (windows_in bridge)))
    → ((bridge : Bridge) → IsTrue (has_whole_windows (windows_in bridge)) → IsTrue (is_numbered bridge) → reading_of (header_bytes bridge) ≡ Ok (windows_in bridge))
    → (bridge : Bridge) → Contains board.bridges bridge → reading_of (header_bytes bridge) ≡ Ok (windows_in bridge)
headers_read_back board valid whole reading bridge there =
    let fault : Bridge → Bool = λ b. not (is_numbered b) || not (is_nested board b) in
    let of_each : (test : Bridge → Bool) (wanted : Bool) → AllByRecursion (λ b. test b ≡ wanted) board.bridges → test bridge ≡ wanted =
    λ (test : Bridge → Bool) (wanted : Bool) (each : AllByRecursion (λ b. test b ≡ wanted) board.bridges). All-contains (λ b. test b ≡ wanted) board.bridges bridge (All-from_recursion (λ b. test b ≡ wanted) board.bridges each) there in
    let formed : is_well_formed_bridge bridge ≡ true = of_each is_well_formed_bridge true (Each-list_all is_well_formed_bridge board.bridges (WellFormed-parts board valid.well_formed).bridges) in
    let none = or_parts (list_any fault board.bridges) (some_two are_beside board.bridges) valid.tree in
    let sound : fault bridge ≡ false = of_each fault false (Each-list_any fault board.bridges none.0) in
    reading bridge (whole bridge formed) (in_order (is_numbered bridge) (is_nested board bridge) sound)
