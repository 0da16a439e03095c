-- Lanes that differ only in posted writes and credits: what is left of delayed requests is the same on them.
use Rattle.std.proofs.Common.{◌≡◌, ℕ, List, [], ◌∷◌, length, Option, Some, None, refl, ap, ◌∙◌}
use Rattle.std.specs.List.{find, list_any}
use Rattle.list_facts.specs.Lists.{total}
use Rattle.pci_command.specs.declared.op_id.OpId.{OpId}
use Rattle.board_model.specs.declared.bridge.Lane.{Lane as BridgeLane}
use Rattle.board_model.specs.declared.board.Board.{Board}
use Rattle.board_model.specs.declared.board.Planned.{Planned}
use Rattle.history_model.specs.declared.item.Slot.{Slot}
use Rattle.history_model.specs.Lanes.{LaneState, is_done_for}
use Rattle.history_model.specs.World.{World}
use Rattle.board_model.specs.Ways.{lane_back}
use Rattle.history_model.specs.Local.{is_ask_of, is_gone_of}
use Rattle.history_model.specs.Left.{Reach, reach_of, slot_left, reach_left, delayed_left, is_slot_of, discard_left, drop_left}
use Rattle.list_facts.proofs.AnyLemmas.{total_same}

-- the same slots are held, as many requests and completions came, and the same of them are there
pub record Alike (a b : LaneState) : Type 0 where
  pub held : a.held ≡ b.held
  pub asks : a.asks ≡ b.asks
  pub dones : a.dones ≡ b.dones
  pub asks_flying : (number : ℕ) → list_any (is_ask_of number) a.flight ≡ list_any (is_ask_of number) b.flight
  pub asks_standing : (number : ℕ) → list_any (is_ask_of number) a.standing ≡ list_any (is_ask_of number) b.standing
  pub dones_flying : (number : ℕ) → list_any (is_done_for number) a.flight ≡ list_any (is_done_for number) b.flight
  pub dones_standing : (number : ℕ) → list_any (is_done_for number) a.standing ≡ list_any (is_done_for number) b.standing
  pub gones_flying : (number : ℕ) → list_any (is_gone_of number) a.flight ≡ list_any (is_gone_of number) b.flight

-- so on every lane
abbrev pub AlikeWorlds : World → World → Type 0
AlikeWorlds world other = (l : BridgeLane) → Alike (world l) (other l)

-- a lane is like itself
pub Alike-self : (a : LaneState) → Alike a a
Alike-self a =
    record {
      held = refl;
      asks = refl;
      dones = refl;
      asks_flying = λ number. refl;
      asks_standing = λ number. refl;
      dones_flying = λ number. refl;
      dones_standing = λ number. refl;
      gones_flying = λ number. refl;
    }

-- what is like a lane that is like another is like that one
pub Alike-then : (a b c : LaneState) → Alike a b → Alike b c → Alike a c
Alike-then a b c first second =
    record {
      held = first.held ∙ second.held;
      asks = first.asks ∙ second.asks;
      dones = first.dones ∙ second.dones;
      asks_flying = λ number. first.asks_flying number ∙ second.asks_flying number;
      asks_standing = λ number. first.asks_standing number ∙ second.asks_standing number;
      dones_flying = λ number. first.dones_flying number ∙ second.dones_flying number;
      dones_standing = λ number. first.dones_standing number ∙ second.dones_standing number;
      gones_flying = λ number. first.gones_flying number ∙ second.gones_flying number;
    }

-- a delayed request reaches as far
reach_alike : (world other : World) (o : OpId) → AlikeWorlds world other → (lanes : List BridgeLane) → reach_of world o lanes ≡ reach_of other o lanes
reach_alike world other o alike [] = refl
reach_alike world other o alike (lane ∷ lanes) =
    let held : (world lane).held ≡ (other lane).held = (alike lane).held in
    let rest : reach_of world o lanes ≡ reach_of other o lanes = reach_alike world other o alike lanes in
    rw (held, rest) refl

slot_alike : (long far : ℕ) (here here' back back' : LaneState) (found : Option Slot) → Alike here here' → Alike back back' → slot_left long far here back found ≡ slot_left long far here' back' found
slot_alike long far here here' back back' None alike alike_back = refl
slot_alike long far here here' back back' (Some slot) alike alike_back =
    let a = alike.asks_flying slot.number in
    let b = alike.asks_standing slot.number in
    let c = alike_back.dones_flying slot.number in
    let d = alike_back.dones_standing slot.number in
    let e = alike_back.gones_flying slot.number in
    rw (a, b, c, d, e) refl

-- by its furthest slot
last_alike : (world other : World) (o : OpId) (long far : ℕ) (last : Option BridgeLane) → AlikeWorlds world other → reach_left world o long far last ≡ reach_left other o long far last
last_alike world other o long far None alike = refl
last_alike world other o long far (Some lane) alike =
    let back : BridgeLane = lane_back lane in
    slot_alike long far (world lane) (other lane) (world back) (other back) (find (is_slot_of o) (world lane).held) (alike lane) (alike back)
    ∙ ap (λ held. slot_left long far (other lane) (other back) (find (is_slot_of o) held)) (alike lane).held

-- and as much is left of it
pub delayed_alike : (world other : World) (o : OpId) → AlikeWorlds world other → (lanes : List BridgeLane) → delayed_left world o lanes ≡ delayed_left other o lanes
delayed_alike world other o alike lanes =
    let reach : Reach = reach_of world o lanes in
    last_alike world other o (length lanes) reach.lanes reach.last alike
    ∙ ap (λ (r : Reach). reach_left other o (length lanes) r.lanes r.last) (reach_alike world other o alike lanes)

-- as many lines of discards and drops are to come
pub discards_alike : (board : Board) (world other : World) → AlikeWorlds world other → (lines : List Planned) → total (discard_left board world) lines ≡ total (discard_left board other) lines
discards_alike board world other alike lines =
    total_same (discard_left board world) (discard_left board other)
    (λ (planned : Planned). let same = (alike (record { bus = planned.bus; up = planned.up })).dones in rw same refl) lines

-- the same of the lines of drops
pub drops_alike : (world other : World) → AlikeWorlds world other → (lines : List Planned) → total (drop_left world) lines ≡ total (drop_left other) lines
drops_alike world other alike lines =
    total_same (drop_left world) (drop_left other)
    (λ (planned : Planned). let same = (alike (record { bus = planned.bus; up = planned.up })).asks in rw same refl) lines
