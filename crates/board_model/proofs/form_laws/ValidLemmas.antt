-- A valid board is a tree.
use Rattle.std.proofs.Common.{◌≡◌, ℕ, ◌<◌, Bool, true, false, ltb, not, ◌&&◌, ◌||◌, refl, ltb-true}
use Rattle.std.specs.List.{list_any}
use Rattle.std.proofs.lemmas.Bool.{or_parts}
use Rattle.list_facts.proofs.EachLemmas.{Each-weaker}
use Rattle.list_facts.proofs.TestLemmas.{Each-list_any}
use Rattle.board_model.specs.declared.bridge.Bridge.{Bridge}
use Rattle.board_model.specs.declared.board.Board.{Board}
use Rattle.board_model.specs.Valid.{is_numbered, is_nested, are_beside, some_two, IsValid}
use Rattle.board_model.specs.form_laws.Trees.{IsTree}
use Rattle.board_model.proofs.Laws.{WellFormed-parts}

numbered-falls : (parent bus : ℕ) (bounded nested : Bool) → (not (ltb parent bus && bounded) || nested) ≡ false → parent < bus
numbered-falls parent bus bounded nested none =
    let P : Bool → Type 0 = λ b. ltb parent bus ≡ b → (not (b && bounded) || nested) ≡ false → parent < bus in
    (elim (ltb parent bus) as P [ true ↦ λ e none. ltb-true parent bus e | false ↦ λ e none. cc ]) refl none

pub IsTree-valid : (board : Board) → IsValid board → IsTree board
IsTree-valid board valid =
    let fault : Bridge → Bool = λ bridge. not (is_numbered bridge) || not (is_nested board bridge) in
    let none = or_parts (list_any fault board.bridges) (some_two are_beside board.bridges) valid.tree in
    record {
      apart = (WellFormed-parts board valid.well_formed).numbered_apart;
      falls = Each-weaker (λ bridge. fault bridge ≡ false) (λ (bridge : Bridge). bridge.parent < bridge.bus)
          (λ bridge passes. numbered-falls bridge.parent bridge.bus _ _ passes) board.bridges (Each-list_any fault board.bridges none.0);
    }
