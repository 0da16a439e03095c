-- Ways do not depend on the masters of a board, and two writes to one block of 64 bytes have one way.
use Rattle.std.proofs.Common.{◌≡◌, ℕ, zero, suc, true, [], ◌∷◌, length, refl, ap, ◌∙◌}
use Rattle.std.specs.List.{list_all}
use Rattle.board_model.specs.declared.bridge.Lane.{Lane as BridgeLane}
use Rattle.board_model.specs.declared.bridge.Place.{Place}
use Rattle.board_model.specs.declared.bridge.Place.TheVariants.{Target, Header, Lane, Nobody}
use Rattle.board_model.specs.declared.op.Op.{Op}
use Rattle.board_model.specs.declared.board.Board.{Board}
use Rattle.board_model.specs.Requests.{request_on}
use Rattle.board_model.specs.Claims.{claim}
use Rattle.board_model.specs.Ways.{Route, end_of, route_by, route_within, route_of}
use Rattle.board_model.specs.WellFormed.{is_well_formed_bridge, is_well_formed_target}
use Rattle.write_combining.specs.Writes.{MemoryWrite, op_of_write}
use Rattle.write_combining.specs.Combined.{combined}
use Rattle.history_model.proofs.facts.BlockLemmas.{SameBlock, claim_alike}

by_alike : (f g : BridgeLane → Route) (on : ℕ) (place : Place) → ((lane : BridgeLane) → f lane ≡ g lane) → route_by f on place ≡ route_by g on place
by_alike f g on (Target target) alike = refl
by_alike f g on (Header bus) alike = refl
by_alike f g on Nobody alike = refl
by_alike f g on (Lane lane) alike = ap (λ (rest : Route). record { lanes = lane ∷ rest.lanes; bus = rest.bus; owner = rest.owner }) (alike lane)

-- two operations that are claimed alike on each bus have one way
within_alike : (board : Board) (p q : Op) → ((on : ℕ) → claim board on (request_on p on) ≡ claim board on (request_on q on)) → (n on : ℕ) → route_within n board p on ≡ route_within n board q on
within_alike board p q alike zero on = ap (λ place. record { lanes = []; bus = on; owner = place }) (alike on)
within_alike board p q alike (suc n) on =
    by_alike (λ lane. route_within n board p (end_of board lane)) (λ lane. route_within n board q (end_of board lane)) on (claim board on (request_on p on))
    (λ lane. within_alike board p q alike n (end_of board lane))
    ∙ ap (route_by (λ lane. route_within n board q (end_of board lane)) on) (alike on)

-- on a board with other programs
within_combined : (board : Board) (op : Op) (n on : ℕ) → route_within n (combined board) op on ≡ route_within n board op on
within_combined board op zero on = refl
within_combined board op (suc n) on =
    by_alike (λ lane. route_within n (combined board) op (end_of board lane)) (λ lane. route_within n board op (end_of board lane)) on (claim board on (request_on op on))
    (λ lane. within_combined board op n (end_of board lane))

pub route_combined : (board : Board) (op : Op) (on : ℕ) → route_of (combined board) op on ≡ route_of board op on
route_combined board op on = within_combined board op (length board.bridges) on

-- two writes to one block
pub route_alike : (board : Board) (a b : MemoryWrite) → list_all is_well_formed_bridge board.bridges ≡ true → list_all is_well_formed_target board.targets ≡ true → SameBlock a.address b.address
    → (on : ℕ) → route_of board (op_of_write a) on ≡ route_of board (op_of_write b) on
route_alike board a b bridges targets same on =
    within_alike board (op_of_write a) (op_of_write b) (λ bus. claim_alike board bridges targets bus a.address b.address same) (length board.bridges) on
