-- A bus puts one more item on a lane only where fewer than 32 are left.
use Rattle.std.proofs.Common.{◌≡◌, ◌≢◌, ℕ, ◌<◌, Bool, true, false, ◌==◌, List, [], ◌∷◌, ◌++◌, length, refl, sym, ap, subst, ◌∙◌, arith, append-nil, append_assoc, length-append}
use Rattle.std.proofs.lemmas.Bool.{eqb-true, eqb-false}
use Rattle.board_model.specs.Limits.{most_posted, most_delayed, most_in_flight}
use Rattle.board_model.specs.declared.bridge.Lane.{Lane as BridgeLane}
use Rattle.board_model.specs.declared.board.Board.{Board}
use Rattle.board_model.specs.Valid.{IsValid}
use Rattle.board_model.specs.Ways.{start_of, end_of, lane_back}
use Rattle.history_model.specs.declared.event.Event.{Event}
use Rattle.history_model.specs.declared.event.Event.TheVariants.{Act, Arrive}
use Rattle.history_model.specs.declared.item.Carried.{Carried}
use Rattle.history_model.specs.Lanes.{Both, arrives}
use Rattle.history_model.specs.World.{World, same_lane, both, moved}
use Rattle.history_model.specs.Local.{bus_of, local_world, AllowedLocally, LocalRun}
use Rattle.history_model.proofs.facts.BridgeLemmas.{flip, same_lane_true}
use Rattle.law_local.proofs.Laws.{IsFit-valid, start_back, end_back, moved_other, Grows, event_grows}
use Rattle.law_local.specs.room.Room.{lanes_at, put_on, Leaves, Puts}
use Rattle.law_local.proofs.room.RoomLemmas.{sides_fit, far_side, to_limits}
use Rattle.law_local.proofs.room.SideLemmas.{run_keeps}

-- a lane that ends elsewhere is none of these
other_lane : (board : Board) (bus : ℕ) (lane other : BridgeLane) → end_of board lane ≢ bus → end_of board other ≡ bus → same_lane lane other ≡ false
other_lane board bus lane other apart ends =
    let P : Bool → Type 0 = λ b. same_lane lane other ≡ b → b ≡ false in
    (elim (same_lane lane other) as P [ true ↦ λ same. absurd (apart (ap (end_of board) (same_lane_true lane other same) ∙ ends)) | false ↦ λ _. refl ]) refl

-- an event of the bus where a lane begins only adds to what is in flight there
grows : (board : Board) (came : BridgeLane → List Carried) (p : List Event) (lane : BridgeLane) (e : Event) → IsValid board → end_of board lane ≢ start_of board lane → bus_of board e ≡ start_of board lane
    → AllowedLocally board came p e → Grows (local_world board came p lane) (local_world board came (e ∷ p) lane)
grows board came p lane (Act bus by o step place) valid apart here allowed =
    event_grows board (IsFit-valid board valid) came p (Act bus by o step place) (start_of board lane) lane here allowed tt refl
grows board came p lane (Arrive on mark) valid apart here allowed =
    let w : World = local_world board came p in
    let bus : ℕ = start_of board lane in
    let P : Bool → Type 0 = λ b. (end_of board on == start_of board on) ≡ b → Grows (w lane) (moved (arrives mark) on w lane) in
    (elim (end_of board on == start_of board on) as P [
      | true ↦ λ same.
          let begins : start_of board on ≡ bus = sym (eqb-true (end_of board on) (start_of board on) same) ∙ here in
          let stays : moved (arrives mark) on w lane ≡ w lane =
          moved_other (arrives mark) on w lane (other_lane board bus lane on apart here) (other_lane board bus lane (lane_back on) apart (end_back board on ∙ begins)) in
          subst (Grows (w lane)) (sym stays) (record { items = []; grown = sym (append-nil (w lane).flight) })
      | false ↦ λ differ. event_grows board (IsFit-valid board valid) came p (Arrive on mark) bus lane here allowed (eqb-false (end_of board on) (start_of board on) differ) refl
    ]) refl

pub not_full : (board : Board) (came : ℕ → BridgeLane → List Carried) (part : ℕ → List Event) (lane : BridgeLane) (left left_back : List Carried) (e : Event)
    → IsValid board → Leaves board came part lane left left_back → Puts board came part lane e → length left < most_in_flight
not_full board came part lane left left_back e valid ran puts =
    let from : ℕ = start_of board lane in
    let to : ℕ = end_of board lane in
    let back : BridgeLane = lane_back lane in
    let p : List Event = part from in
    let run : LocalRun board from (came from) (e ∷ p) = (puts.here, puts.allowed, ran.runs.near) in
    let x : Both = both (local_world board (came from) (e ∷ p)) lane in
    let y : Both = flip (both (lanes_at board came part to) lane) in
    let one = run_keeps board (IsFit-valid board valid) from most_posted most_delayed (came from) (e ∷ p) run lane (to_limits board lane valid) refl ran.runs.apart ran.runs.none_near in
    let other = far_side board came part lane left left_back most_posted most_delayed valid (to_limits board lane valid) ran in
    let more = grows board (came from) p lane e valid ran.runs.apart puts.here puts.allowed in
    let there : came to lane ++ (left ++ more.items) ≡ x.here.flight =
    sym (append_assoc (came to lane) left more.items) ∙ (ap (λ (l : List Carried). l ++ more.items) ran.here ∙ sym more.grown) in
    let there_back : came from back ++ left_back ≡ y.here.flight = ran.back ∙ ap (λ (bus : ℕ). (lanes_at board came part bus back).flight) (start_back board lane) in
    let room = sides_fit most_posted most_delayed (came to lane) (came from back) (left ++ more.items) left_back x y one other there there_back in
    let some : length (put_on board came part lane) < length (put_on board came part lane ++ more.items) = subst (λ (l : List Carried). length (put_on board came part lane) < length l) more.grown puts.more in
    omega (arith, room, some, length-append left more.items, length-append (put_on board came part lane) more.items)
