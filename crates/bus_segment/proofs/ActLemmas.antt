-- An act of the bus, and an arrival there, make the past of a segment longer.
use Rattle.std.proofs.Common.{◌≡◌, ◌≢◌, ℕ, ◌<◌, ◌≤◌, Bool, true, false, cond, ◌==◌, List, [], ◌∷◌, ◌++◌, map, length, replicate, option_to_list, Option, Some, None, refl, sym, ap, subst, ◌∙◌, arith, slice_get}
use Rattle.std.specs.List.{AllByRecursion}
use Rattle.std.proofs.lemmas.Bool.{eqb-true, eqb-false, eq-eqb}
use Rattle.std.proofs.lemmas.List.{append_assoc, map-append, length-append, length-map}
use Rattle.list_facts.proofs.EachLemmas.{Each-weaker}
use Rattle.pci_command.specs.declared.op_id.OpId.{OpId}
use Rattle.board_model.specs.declared.bridge.Lane.{Lane as BridgeLane}
use Rattle.board_model.specs.declared.bridge.Place.{Place}
use Rattle.board_model.specs.declared.board.Board.{Board}
use Rattle.board_model.specs.Valid.{IsValid}
use Rattle.board_model.specs.Ways.{start_of, end_of, lane_back}
use Rattle.board_model.proofs.form_laws.Laws.{IsTree-valid}
use Rattle.history_model.specs.declared.event.By.{By}
use Rattle.history_model.specs.declared.event.Mark.{Mark}
use Rattle.history_model.specs.declared.event.Step.{Step}
use Rattle.history_model.specs.declared.event.Event.{Event}
use Rattle.history_model.specs.declared.event.Event.TheVariants.{Act, Arrive}
use Rattle.history_model.specs.declared.event.Stamped.{Stamped}
use Rattle.history_model.specs.declared.item.Carried.{Carried}
use Rattle.history_model.specs.declared.item.Answer.TheVariants.{Gives}
use Rattle.history_model.specs.Lanes.{arrives}
use Rattle.history_model.specs.World.{World, same_lane, moved}
use Rattle.history_model.specs.Local.{local_world, LocalRun}
use Rattle.history_model.proofs.facts.BridgeLemmas.{same_lane_true, same_lane_self}
use Rattle.law_lanes.specs.order.Sent.{arrives_by, arrivals}
use Rattle.law_local.specs.Stamps.{events_of, items_put, put_stamps}
use Rattle.law_local.proofs.Laws.{lane_apart}
use Rattle.lane_items.specs.declared.item.Item.{Item}
use Rattle.bus_face.specs.Arrivals.{carried}
use Rattle.bus_core.specs.port.Port.{PortView}
use Rattle.bus_core.specs.declared.given.Sent.{Sent}
use Rattle.bus_core.specs.Bus.{BusView, Shape, shape_of}
use Rattle.bus_core.specs.Calls.{stamp_of, items_at, IsStamped}
use Rattle.bus_core.specs.Serves.{BusPresents, HasStamp, BusArrives}
use Rattle.bus_core.proofs.ListLemmas.{map_get}
use Rattle.bus_segment.specs.Segment.{PortPast, SegmentGoes, Keeps, all_carried, all_stamps, lanes_known}

-- all of these items have the stamp
abbrev AllStamped : ℕ → List Item → Type 0
AllStamped stamp items = AllByRecursion (λ (item : Item). stamp_of item ≡ stamp) items

alike_stamps : (stamp : ℕ) (items : List Item) → AllStamped stamp items → replicate (length items) stamp ≡ map stamp_of items
alike_stamps stamp [] all = refl
alike_stamps stamp (item ∷ items) all =
    let F : ℕ → List ℕ → List ℕ = λ n l. n ∷ l in
    ap (F stamp) (alike_stamps stamp items all.1) ∙ ap (λ n. F n (map stamp_of items)) (sym all.0)

stamped_at : (stamp : ℕ) (sent : Option Sent) (n : ℕ) → IsStamped stamp sent → AllStamped stamp (items_at sent n)
stamped_at stamp None n is = tt
stamped_at stamp (Some sent) n is =
    let P : Bool → Type 0 = λ b. AllStamped stamp (cond b (sent.item ∷ []) []) in
    elim (sent.place == n) as P [ true ↦ (is, tt) | false ↦ tt ]

stamped_both : (stamp : ℕ) (xs ys : List Item) → AllStamped stamp xs → AllStamped stamp ys → AllStamped stamp (xs ++ ys)
stamped_both stamp [] ys one other = other
stamped_both stamp (x ∷ xs) ys one other = (one.0, stamped_both stamp xs ys one.1 other)

-- what an event puts on a lane, all with its stamp
put_here : (board : Board) (came : BridgeLane → List Item) (p : List Stamped) (lane : BridgeLane) (stamp : ℕ) (e : Event) (sent puts : List Item)
    → (local_world board (all_carried came) (e ∷ events_of p) lane).flight ≡ (local_world board (all_carried came) (events_of p) lane).flight ++ map carried puts
    → AllStamped stamp puts → put_stamps board (all_carried came) lane p ≡ map stamp_of sent
    → put_stamps board (all_carried came) lane (record { stamp = stamp; event = e } ∷ p) ≡ map stamp_of (sent ++ puts)
put_here board came p lane stamp e sent puts grown stamped old =
    let before : List Carried = (local_world board (all_carried came) (events_of p) lane).flight in
    let count : items_put board (all_carried came) lane (events_of p) e ≡ length puts =
    let many : length (map carried puts) ≡ length puts = simp length-map in
    omega (arith, ap length grown, length-append before (map carried puts), many) in
    ap (λ n. put_stamps board (all_carried came) lane p ++ replicate n stamp) count
    ∙ (ap (λ l. put_stamps board (all_carried came) lane p ++ l) (alike_stamps stamp puts stamped)
    ∙ (ap (λ l. l ++ map stamp_of puts) old ∙ sym (map-append stamp_of sent puts)))

-- and what is then in flight
flight_here : (before after : List Carried) (sent puts : List Item) → after ≡ before ++ map carried puts → before ≡ map carried sent → after ≡ map carried (sent ++ puts)
flight_here before after sent puts grown old = grown ∙ (ap (λ l. l ++ map carried puts) old ∙ sym (map-append carried sent puts))

pub act_goes : (board : Board) (by : By) (o : OpId) (step : Step) (place : Place) (old new : BusView) (over back : Option Sent) (stamp : ℕ) → BusPresents board by o old (Gives step place) over back new → shape_of new ≡ shape_of old
    → IsStamped stamp over → IsStamped stamp back
    → SegmentGoes board (record { bus = old; stamp = stamp; stopped = false }) (record { bus = new; stamp = stamp; stopped = false })
    (record { stamp = stamp; event = Act old.bus by o step place } ∷ []) (λ n. []) (λ n. items_at over n ++ items_at back n)
act_goes board by o step place old new over back stamp presents shape over_stamp back_stamp =
    record {
      goes = λ came p rest sent past.
          let w : World = lanes_known board came p in
          let e : Event = Act old.bus by o step place in
          let kept : Keeps board w p old = past.keeps refl in
          let done = presents.presents kept.tags w (events_of p) kept.stands in
          let bus : old.bus ≡ new.bus = sym (ap (λ (s : Shape). s.bus) shape) in
          record {
            run = subst (λ b. LocalRun board b (all_carried came) (e ∷ events_of p)) bus (refl, (done.wanted, done.answer_is), past.run);
            bridges = past.bridges;
            never_fall = (past.up_to, past.never_fall);
            up_to = (omega arith, past.up_to);
            in_time = (tt, past.in_time);
            ports = λ n lane is.
                let was : slice_get (shape_of old).lanes n ≡ Some lane = ap (λ (s : Shape). slice_get s.lanes n) (sym shape) ∙ is in
                let port : PortPast board came p lane (rest n) (sent n) = past.ports n lane was in
                let puts : List Item = items_at over n ++ items_at back n in
                let grown = done.flights.from_bus n lane was in
                record {
                  arrived = port.arrived;
                  comes = port.comes;
                  counted = port.counted ∙ omega arith;
                  left = done.flights.to_bus n lane was ∙ port.left;
                  put = flight_here (w (lane_back lane)).flight (lanes_known board came (record { stamp = stamp; event = e } ∷ p) (lane_back lane)).flight (sent n) puts grown port.put;
                  stamps = put_here board came p (lane_back lane) stamp e (sent n) puts grown
                      (stamped_both stamp (items_at over n) (items_at back n) (stamped_at stamp over n over_stamp) (stamped_at stamp back n back_stamp)) port.stamps;
                };
            keeps = λ on. record { tags = kept.tags; stands = done.stands };
          };
    }

-- An arrival.

-- an element behind a front
at_front : (xs ys : List ℕ) (y : ℕ) → slice_get (xs ++ y ∷ ys) (length xs) ≡ Some y
at_front [] ys y = refl
at_front (x ∷ xs) ys y = at_front xs ys y

-- what goes back, stamped
back_stamped : (stamp : ℕ) (back : Option Item) (b : Bool) → HasStamp stamp back → AllStamped stamp (cond b (option_to_list back) [])
back_stamped stamp None true is = tt
back_stamped stamp None false is = tt
back_stamped stamp (Some item) true is = (is, tt)
back_stamped stamp (Some item) false is = tt

back_carried : (b : Bool) (back : Option Item) → cond b (map carried (option_to_list back)) [] ≡ map carried (cond b (option_to_list back) [])
back_carried true back = refl
back_carried false back = refl

module _ (board : Board) (valid : IsValid board) (place : ℕ) (lane : BridgeLane) (item : Item) (mark : Mark) (back : Option Item) (old new : BusView) (stamp later : ℕ)
    (there : slice_get (shape_of old).lanes place ≡ Some lane) (comes : BusArrives board place old item mark back new) (shape : shape_of new ≡ shape_of old) (rises : stamp ≤ later) (above : stamp_of item < later) (back_stamp : HasStamp later back) where
  arrived_goes : SegmentGoes board (record { bus = old; stamp = stamp; stopped = false }) (record { bus = new; stamp = later; stopped = false })
      (record { stamp = later; event = Arrive lane mark } ∷ []) (λ n. cond (place == n) (item ∷ []) []) (λ n. cond (place == n) (option_to_list back) [])
  arrived_goes =
      record {
        goes = λ came p rest sent past.
            let w : World = lanes_known board came p in
            let e : Event = Arrive lane mark in
            let kept : Keeps board w p old = past.keeps refl in
            let here : PortPast board came p lane (cond (place == place) (item ∷ []) [] ++ rest place) (sent place) = past.ports place lane there in
            let self : (place == place) ≡ true = eq-eqb place place refl in
            let comes_here : came lane ≡ here.arrived ++ item ∷ rest place = here.comes ∙ ap (λ b. here.arrived ++ (cond b (item ∷ []) [] ++ rest place)) self in
            let left_here : (w lane).flight ≡ carried item ∷ map carried (rest place) = here.left ∙ ap (λ b. map carried (cond b (item ∷ []) [] ++ rest place)) self in
            let done = comes.arrives kept.tags w (events_of p) (map carried (rest place)) lane there kept.stands left_here in
            let next : World = moved (arrives mark) lane w in
            let port = map_get (λ (x : PortView). x.lane) old.ports place lane there in
            let stands_there = kept.stands.ports place port.0 port.1.0 in
            let ends : end_of board lane ≡ old.bus = ap (end_of board) (sym port.1.1) ∙ stands_there.ends in
            let apart : end_of board lane ≢ start_of board lane =
            subst (λ l. end_of board l ≢ start_of board l) port.1.1 (lane_apart board port.0.lane stands_there.bridge (IsTree-valid board valid) stands_there.is_bridge) in
            let bus : old.bus ≡ new.bus = sym (ap (λ (s : Shape). s.bus) shape) in
            let stamps_here : all_stamps came lane ≡ map stamp_of here.arrived ++ stamp_of item ∷ map stamp_of (rest place) = ap (map stamp_of) comes_here ∙ map-append stamp_of here.arrived (item ∷ rest place) in
            let count : length (map stamp_of here.arrived) ≡ arrivals lane (events_of p) = let many : length (map stamp_of here.arrived) ≡ length here.arrived = simp length-map in many ∙ here.counted in
            let at : slice_get (all_stamps came lane) (arrivals lane (events_of p)) ≡ Some (stamp_of item) =
            ap (λ l. slice_get l (arrivals lane (events_of p))) stamps_here
            ∙ subst (λ n. slice_get (map stamp_of here.arrived ++ stamp_of item ∷ map stamp_of (rest place)) n ≡ Some (stamp_of item)) count (at_front (map stamp_of here.arrived) (map stamp_of (rest place)) (stamp_of item)) in
            let same_place : (n : ℕ) (l : BridgeLane) → slice_get (shape_of old).lanes n ≡ Some l → (place == n) ≡ true → l ≡ lane =
            λ n l was same. let now : slice_get (shape_of old).lanes place ≡ Some l = subst (λ m. slice_get (shape_of old).lanes m ≡ Some l) (sym (eqb-true place n same)) was in let both = sym now ∙ there in cc in
            let other_place : (n : ℕ) (l : BridgeLane) → slice_get (shape_of old).lanes n ≡ Some l → (place == n) ≡ false → arrives_by l e ≡ 0 =
            λ n l was differ.
            let N : Bool → ℕ = λ b. cond b 1 0 in
            let P : Bool → Type 0 = λ b. same_lane lane l ≡ b → N b ≡ 0 in
            (elim (same_lane lane l) as P [
              | true ↦ λ one. absurd (kept.stands.is_of.lanes_apart n place l lane was there (λ same. eqb-false place n differ (sym same)) (ap (λ (k : BridgeLane). k.bus) (sym (same_lane_true lane l one))))
              | false ↦ λ _. refl
            ]) refl in
            record {
              run = subst (λ b. LocalRun board b (all_carried came) (e ∷ events_of p)) bus (ends, done.marked, past.run);
              bridges = past.bridges;
              never_fall = (Each-weaker (λ (x : Stamped). x.stamp ≤ stamp) (λ (x : Stamped). x.stamp ≤ later) (λ x below. omega (arith, below, rises)) p past.up_to, past.never_fall);
              up_to = (omega arith, Each-weaker (λ (x : Stamped). x.stamp ≤ stamp) (λ (x : Stamped). x.stamp ≤ later) (λ x below. omega (arith, below, rises)) p past.up_to);
              in_time = ((apart, (stamp_of item, at, above)), past.in_time);
              ports = λ n l is.
                  let was : slice_get (shape_of old).lanes n ≡ Some l = ap (λ (s : Shape). slice_get s.lanes n) (sym shape) ∙ is in
                  let port_n : PortPast board came p l (cond (place == n) (item ∷ []) [] ++ rest n) (sent n) = past.ports n l was in
                  let puts : List Item = cond (place == n) (option_to_list back) [] in
                  let grown = done.from_bus n l was ∙ ap (λ q. (w (lane_back l)).flight ++ q) (back_carried (place == n) back) in
                  let put = flight_here (w (lane_back l)).flight (next (lane_back l)).flight (sent n) puts grown port_n.put in
                  let stamps = put_here board came p (lane_back l) later e (sent n) puts grown (back_stamped later back (place == n) back_stamp) port_n.stamps in
                  let P : Bool → Type 0 = λ b. (place == n) ≡ b → came l ≡ port_n.arrived ++ (cond b (item ∷ []) [] ++ rest n) → (w l).flight ≡ map carried (cond b (item ∷ []) [] ++ rest n)
                  → (w l).flight ≡ cond b (carried item ∷ (next l).flight) (next l).flight → PortPast board came (record { stamp = later; event = e } ∷ p) l (rest n) (sent n ++ puts) in
                  (elim (place == n) as P [
                    | true ↦ λ same comes_n left_n moved_n.
                        let one : l ≡ lane = same_place n l was same in
                        let self_lane : same_lane lane l ≡ true = ap (same_lane lane) one ∙ same_lane_self lane in
                        let N : Bool → ℕ = λ b. cond b 1 0 in
                        let counted : arrives_by l e ≡ 1 = ap N self_lane in
                        let both : carried item ∷ (next l).flight ≡ carried item ∷ map carried (rest n) = sym moved_n ∙ left_n in
                        record {
                          arrived = port_n.arrived ++ item ∷ [];
                          comes = comes_n ∙ sym (append_assoc port_n.arrived (item ∷ []) (rest n));
                          counted = let c = port_n.counted in omega (arith, length-append port_n.arrived (item ∷ []), counted);
                          left = cc;
                          put = put;
                          stamps = stamps;
                        }
                    | false ↦ λ differ comes_n left_n moved_n.
                        let none : arrives_by l e ≡ 0 = other_place n l was differ in
                        record {
                          arrived = port_n.arrived;
                          comes = comes_n;
                          counted = let c = port_n.counted in omega (arith, none);
                          left = sym moved_n ∙ left_n;
                          put = put;
                          stamps = stamps;
                        }
                  ]) refl port_n.comes port_n.left (done.to_bus n l was);
              keeps = λ on. record { tags = kept.tags; stands = done.stands };
            };
      }

pub arrival_goes : (board : Board) (place : ℕ) (lane : BridgeLane) (item : Item) (mark : Mark) (back : Option Item) (old new : BusView) (stamp later : ℕ) → IsValid board → slice_get (shape_of old).lanes place ≡ Some lane
    → BusArrives board place old item mark back new → shape_of new ≡ shape_of old → stamp ≤ later → stamp_of item < later → HasStamp later back
    → SegmentGoes board (record { bus = old; stamp = stamp; stopped = false }) (record { bus = new; stamp = later; stopped = false })
    (record { stamp = later; event = Arrive lane mark } ∷ []) (λ n. cond (place == n) (item ∷ []) []) (λ n. cond (place == n) (option_to_list back) [])
arrival_goes board place lane item mark back old new stamp later valid there comes shape rises above back_stamp =
    arrived_goes board valid place lane item mark back old new stamp later there comes shape rises above back_stamp
