use Rattle.std.proofs.Common.{◌≡◌, false, take}
use Rattle.std.specs.List.{list_any}
use Rattle.bus_face.specs.Offers.{is_ask_for}
use Rattle.bus_face.proofs.face.Face.place_of.Given as goal

-- none of the operation stands before
abbrev pub invariant-loop-place : goal.invariant-loop-place
invariant-loop-place l = list_any (is_ask_for l.op) (take l.place l.self.asks.asks) ≡ false
