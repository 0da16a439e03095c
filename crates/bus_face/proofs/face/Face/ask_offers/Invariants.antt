use Rattle.std.proofs.Common.{◌≡◌, ◌≤◌, [], take, length}
use Rattle.bus_face.specs.Offers.{ask_offers}
use Rattle.bus_face.proofs.face.Face.ask_offers.Given as goal

-- the offers of all before
abbrev pub invariant-loop-place : goal.invariant-loop-place
invariant-loop-place l = (l.offers.items ≡ ask_offers l.self.posts.posts [] (take l.place l.self.asks.asks)) × (length l.offers.items ≤ l.place)
