-- The headers of a valid board say its buses and windows.
use Rattle.std.proofs.Common.{◌≡◌, Bool, true, false, not, ◌||◌, List, [], ◌∷◌, refl, arith, All}
use Rattle.std.specs.List.{list_all, list_any}
use Rattle.std.proofs.lemmas.Bool.{and_parts, or_parts}
use Rattle.std.proofs.lemmas.List.Elements.{All-cons}
use Rattle.board_model.specs.declared.bridge.Bridge.{Bridge}
use Rattle.board_model.specs.declared.board.Board.{Board}
use Rattle.board_model.specs.WellFormed.{is_well_formed_bridge}
use Rattle.board_model.specs.Valid.{is_numbered, is_nested, IsValid}
use Rattle.board_model.proofs.Laws.{WellFormed-parts}
use Rattle.board_tree.proofs.DecodableLemmas.{IsDecodable-valid}
use Rattle.plain_decode.specs.ReadBack.{IsReadBack, AreReadBack}

numbered : (ordered nested : Bool) → (not ordered || not nested) ≡ false → ordered ≡ true
numbered true nested none = refl
numbered false nested none = cc

bridges_read_back : (board : Board) (bridges : List Bridge) → list_all is_well_formed_bridge bridges ≡ true
    → list_any (λ (bridge : Bridge). not (is_numbered bridge) || not (is_nested board bridge)) bridges ≡ false → All IsReadBack bridges
bridges_read_back board [] formed none = λ k d within. absurd (omega arith)
bridges_read_back board (bridge ∷ bridges) formed none =
    let parts = or_parts (not (is_numbered bridge) || not (is_nested board bridge)) _ none in
    All-cons IsReadBack bridge bridges
    (record { well_formed = (and_parts _ _ formed).0; numbered = numbered (is_numbered bridge) (is_nested board bridge) parts.0 })
    (bridges_read_back board bridges (and_parts _ _ formed).1 parts.1)

pub AreReadBack-valid : (board : Board) → IsValid board → AreReadBack board
AreReadBack-valid board valid = record {
  bridges = bridges_read_back board board.bridges (WellFormed-parts board valid.well_formed).bridges (or_parts _ _ valid.tree).0;
  few_targets = (IsDecodable-valid board valid).few_targets;
}
