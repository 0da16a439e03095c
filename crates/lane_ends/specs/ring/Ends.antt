-- The two ends of a lane over a ring: what they sent and got in the phase.
use Rattle.std.specs.Prelude.{◌≡◌, ◌≤◌, List, [], ◌++◌, length, take, drop}
use Rattle.lane_items.specs.declared.item.Item.{Item}
use Rattle.rtrb.specs.Ring.{sent, received, known_items, IsPair, SameProducer}
use Rattle.lane_ends.specs.declared.ring.outward.Outward.{Outward}
use Rattle.lane_ends.specs.declared.ring.inward.Inward.{Inward}

-- what was pushed in the phase, and then what waits
abbrev pub sent_out : Outward → List Item
sent_out o = drop (length (sent o.begun.value)) (sent o.ring) ++ o.waiting.items

-- what was taken from the hand, and then what was popped in the phase
abbrev pub got_in : Inward → List Item
got_in i = take i.taken i.hand.items ++ drop (length (received i.begun.value)) (received i.ring)

-- what was sent stays as a whole, and no more of it waits; the end is of the same ring, in the same phase
pub record StillSent (old new : Outward) : Type 0 where
  pub sent : sent_out new ≡ sent_out old
  pub kept : length new.waiting.items ≤ length old.waiting.items
  pub ring : SameProducer old.ring new.ring
  pub begun : new.begun ≡ old.begun

-- the two ends of one lane: those of one ring, from which, when the phase began, all was popped that had been pushed
abbrev pub AreOneLane : Outward → Inward → Type 0
AreOneLane near far = IsPair near.ring far.ring × (sent near.begun.value ≡ received far.begun.value)

-- the far end knows of all that is in the ring: what was popped and what it knows of is what was pushed
abbrev pub KnowsAll : Outward → Inward → Type 0
KnowsAll near far = received far.ring ++ known_items far.ring ≡ sent near.ring

-- the far end has come to know all that is in the ring, and nothing else changed
pub record Looked (near : Outward) (far : Inward) (near' : Outward) (far' : Inward) : Type 0 where
  pub lane : AreOneLane near' far'
  pub all : KnowsAll near' far'
  pub sent : sent_out near' ≡ sent_out near
  pub waiting : near'.waiting ≡ near.waiting
  pub got : got_in far' ≡ got_in far
  pub hand : far'.hand ≡ far.hand

-- a phase begins: nothing is sent or got yet
pub record Begins (near : Outward) (far : Inward) : Type 0 where
  pub lane : AreOneLane near far
  pub none_sent : sent_out near ≡ []
  pub none_waits : near.waiting.items ≡ []
  pub none_got : got_in far ≡ []
