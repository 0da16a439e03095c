-- A move of one bus keeps that every bus knows its part.
use Rattle.std.proofs.Common.{◌≡◌, ◌≢◌, ℕ, Bool, true, false, List, ◌++◌, eqb, refl, sym, ap, subst, ◌∙◌}
use Rattle.std.proofs.lemmas.Bool.{eqb-true, eqb-false}
use Rattle.std.proofs.lemmas.List.{append_assoc, append_cancel_left}
use Rattle.board_model.specs.declared.bridge.Lane.{Lane as BridgeLane}
use Rattle.board_model.specs.declared.board.Board.{Board}
use Rattle.board_model.specs.Ways.{start_of, end_of, lane_back}
use Rattle.history_model.specs.declared.item.Carried.{Carried}
use Rattle.history_model.specs.Lanes.{LaneState, Both}
use Rattle.history_model.specs.World.{World, same_lane, both, moved}
use Rattle.law_local.proofs.HalfLemmas.{Half, Sends, MovesHalf}
use Rattle.law_local.specs.Known.{Joint}
use Rattle.history_model.proofs.facts.BridgeLemmas.{same_lane_true, same_lane_self, same_lane_back}

-- a lane back ends where the lane begins
pub end_back : (board : Board) (lane : BridgeLane) → end_of board (lane_back lane) ≡ start_of board lane
end_back board lane =
    let P : Bool → Type 0 = λ up. end_of board (lane_back (record { bus = lane.bus; up = up })) ≡ start_of board (record { bus = lane.bus; up = up }) in
    elim lane.up as P [ true ↦ refl | false ↦ refl ]

-- and begins where it ends
pub start_back : (board : Board) (lane : BridgeLane) → start_of board (lane_back lane) ≡ end_of board lane
start_back board lane =
    let P : Bool → Type 0 = λ up. start_of board (lane_back (record { bus = lane.bus; up = up })) ≡ end_of board (record { bus = lane.bus; up = up }) in
    elim lane.up as P [ true ↦ refl | false ↦ refl ]

-- what is moved, on the lane, on the lane back and elsewhere
pub moved_here : (move : Both → Both) (lane : BridgeLane) (world : World) → moved move lane world lane ≡ (move (both world lane)).here
moved_here move lane world = let self = same_lane_self lane in rw self refl

pub moved_back : (move : Both → Both) (lane : BridgeLane) (world : World) → moved move lane world (lane_back lane) ≡ (move (both world lane)).back
moved_back move lane world =
    let back = same_lane_back lane in
    let self_back = same_lane_self (lane_back lane) in
    rw (back, self_back) refl

pub moved_other : (move : Both → Both) (lane : BridgeLane) (world : World) (l : BridgeLane) → same_lane l lane ≡ false → same_lane l (lane_back lane) ≡ false → moved move lane world l ≡ world l
moved_other move lane world l apart apart_back = rw (apart, apart_back) refl

-- what holds of a lane, of its lane back and of each other holds of all
pub by_lanes : (Goal : BridgeLane → Type 0) (lane : BridgeLane) → Goal lane → Goal (lane_back lane)
    → ((l : BridgeLane) → same_lane l lane ≡ false → same_lane l (lane_back lane) ≡ false → Goal l) → (l : BridgeLane) → Goal l
by_lanes Goal lane here back other l =
    let Q : Bool → Type 0 = λ b. same_lane l lane ≡ b → Goal l in
    let R : Bool → Type 0 = λ b. same_lane l (lane_back lane) ≡ b → same_lane l lane ≡ false → Goal l in
    (elim (same_lane l lane) as Q [
      | true ↦ λ same. subst Goal (sym (same_lane_true l lane same)) here
      | false ↦ λ apart. (elim (same_lane l (lane_back lane)) as R [
        | true ↦ λ same _. subst Goal (sym (same_lane_true l (lane_back lane) same)) back
        | false ↦ λ apart_back apart. other l apart apart_back
      ]) refl apart
    ]) refl

-- the lane that begins on the bus, after the bus's move: `later` is what will still be sent on it
joint_here : (all : List Carried) (w v x z : Both) (far : LaneState) (more : List Carried) → Joint all w.here far x.here → v.here.held ≡ z.here.held → v.here.owed ≡ z.here.owed → Sends w v x z
    → z.here.flight ++ more ≡ all → Joint all v.here far z.here
joint_here all w v x z far more old held owed sends sent =
    let whole : x.here.flight ++ old.later ≡ x.here.flight ++ (sends.items ++ more) =
    old.sent ∙ (sym sent ∙ (ap (λ flight. flight ++ more) sends.sent_locally ∙ append_assoc x.here.flight sends.items more)) in
    let later : old.later ≡ sends.items ++ more = append_cancel_left x.here.flight old.later (sends.items ++ more) whole in
    record {
      asks = sends.asks ∙ old.asks;
      dones = sends.dones ∙ old.dones;
      standing = sends.standing ∙ old.standing;
      held = held;
      owed = owed;
      later = more;
      flight = ap (λ flight. flight ++ more) sends.sent ∙ (append_assoc w.here.flight sends.items more ∙ (ap (λ l. w.here.flight ++ l) (sym later) ∙ old.flight));
      sent = sent;
    }

-- the lane that ends there
joint_back : (all : List Carried) (w v x z : Both) (near : LaneState) (old : Joint all w.back x.back near) → Half old.later v z → Sends w v x z → Joint all v.back z.back near
joint_back all w v x z near old half sends =
    record {
      asks = half.asks;
      dones = half.dones;
      standing = half.standing;
      held = sends.held ∙ old.held;
      owed = sends.owed ∙ old.owed;
      later = old.later;
      flight = half.flight;
      sent = old.sent;
    }

-- every lane of the board, where each bus knows a world of its own
abbrev pub Joints : Board → (BridgeLane → List Carried) → World → (ℕ → World) → Type 0
Joints board sent world knows = (lane : BridgeLane) → Joint (sent lane) (world lane) (knows (end_of board lane) lane) (knows (start_of board lane) lane)

-- a bus moves the bridge of a lane that begins there
pub record Moves (board : Board) (sent : BridgeLane → List Carried) (world : World) (knows next : ℕ → World) (lane : BridgeLane) (move : Both → Both) : Type 0 where
  pub apart : end_of board lane ≢ start_of board lane
  pub keeps : (later : List Carried) → Half later (both world lane) (both (knows (start_of board lane)) lane)
      → MovesHalf later (both world lane) (move (both world lane)) (both (knows (start_of board lane)) lane) (move (both (knows (start_of board lane)) lane))
  pub there : (l : BridgeLane) → next (start_of board lane) l ≡ moved move lane (knows (start_of board lane)) l
  pub elsewhere : (bus : ℕ) (l : BridgeLane) → bus ≢ start_of board lane → next bus l ≡ knows bus l
  pub more : List Carried
  pub is_sent : (next (start_of board lane) lane).flight ++ more ≡ sent lane

-- so every bus knows its part after the move: the two lanes of the bridge by what the move keeps, and no other lane changes
pub Joints-moved : (board : Board) (sent : BridgeLane → List Carried) (world : World) (knows next : ℕ → World) (lane : BridgeLane) (move : Both → Both)
    → Moves board sent world knows next lane move → Joints board sent world knows → Joints board sent (moved move lane world) next
Joints-moved board sent world knows next lane move moves old =
    let from : ℕ = start_of board lane in
    let to : ℕ = end_of board lane in
    let back : BridgeLane = lane_back lane in
    let w : Both = both world lane in
    let x : Both = both (knows from) lane in
    let v : Both = move w in
    let z : Both = move x in
    let J : BridgeLane → ℕ → ℕ → Type 0 = λ l far near. Joint (sent l) (world l) (knows far l) (knows near l) in
    let here : Joint (sent lane) w.here (knows to lane) x.here = old lane in
    let there : Joint (sent back) w.back x.back (knows to back) =
    subst (λ n. J back from n) (start_back board lane) (subst (λ n. J back n (start_of board back)) (end_back board lane) (old back)) in
    let half : Half there.later w x = record { held = here.held; owed = here.owed; asks = there.asks; dones = there.dones; standing = there.standing; flight = there.flight } in
    let done = moves.keeps there.later half in
    let z_here : next from lane ≡ z.here = moves.there lane ∙ moved_here move lane (knows from) in
    let z_back : next from back ≡ z.back = moves.there back ∙ moved_back move lane (knows from) in
    let N : BridgeLane → LaneState → ℕ → ℕ → Type 0 = λ l state far near. Joint (sent l) state (next far l) (next near l) in
    let Goal : BridgeLane → Type 0 = λ l. N l (moved move lane world l) (end_of board l) (start_of board l) in
    let sent_there : z.here.flight ++ moves.more ≡ sent lane = subst (λ (s : LaneState). s.flight ++ moves.more ≡ sent lane) z_here moves.is_sent in
    let new_here : Joint (sent lane) v.here (next to lane) (next from lane) =
    subst (λ near. Joint (sent lane) v.here (next to lane) near) (sym z_here)
    (subst (λ far. Joint (sent lane) v.here far z.here) (sym (moves.elsewhere to lane moves.apart))
    (joint_here (sent lane) w v x z (knows to lane) moves.more here done.0.held done.0.owed done.1 sent_there)) in
    let new_back : Joint (sent back) v.back (next from back) (next to back) =
    subst (λ far. Joint (sent back) v.back far (next to back)) (sym z_back)
    (subst (λ near. Joint (sent back) v.back z.back near) (sym (moves.elsewhere to back moves.apart))
    (joint_back (sent back) w v x z (knows to back) there done.0 done.1)) in
    let at_lane : Goal lane = subst (λ state. N lane state to from) (sym (moved_here move lane world)) new_here in
    let at_back : Goal back =
    subst (λ n. N back (moved move lane world back) n (start_of board back)) (sym (end_back board lane))
    (subst (λ n. N back (moved move lane world back) from n) (sym (start_back board lane))
    (subst (λ state. N back state from to) (sym (moved_back move lane world)) new_back)) in
    let same : (bus : ℕ) (l : BridgeLane) → same_lane l lane ≡ false → same_lane l back ≡ false → knows bus l ≡ next bus l =
    λ bus l apart apart_back.
    let P : Bool → Type 0 = λ b. eqb bus from ≡ b → knows bus l ≡ next bus l in
    (elim (eqb bus from) as P [
      | true ↦ λ is.
          let one : bus ≡ from = eqb-true bus from is in
          ap (λ n. knows n l) one ∙ (sym (moved_other move lane (knows from) l apart apart_back) ∙ (sym (moves.there l) ∙ ap (λ n. next n l) (sym one)))
      | false ↦ λ differ. sym (moves.elsewhere bus l (eqb-false bus from differ))
    ]) refl in
    let other : (l : BridgeLane) → same_lane l lane ≡ false → same_lane l back ≡ false → Goal l =
    λ l apart apart_back.
    subst (λ state. N l state (end_of board l) (start_of board l)) (sym (moved_other move lane world l apart apart_back))
    (subst (λ far. Joint (sent l) (world l) far (next (start_of board l) l)) (same (end_of board l) l apart apart_back)
    (subst (λ near. Joint (sent l) (world l) (knows (end_of board l) l) near) (same (start_of board l) l apart apart_back) (old l))) in
    by_lanes Goal lane at_lane at_back other
