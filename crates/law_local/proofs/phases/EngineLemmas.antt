-- An engine at first, in a phase, and in the next one.
use Rattle.std.proofs.Common.{◌≡◌, ◌≢◌, ℕ, ◌-◌, ◌<◌, ◌≤◌, ◌==◌, Bool, true, false, cond, List, [], ◌∷◌, ◌++◌, map, Option, Some, None, refl, sym, ap, subst, ◌∙◌, append-nil, append_assoc, length, length-append, arith, eq-eqb}
use Rattle.std.proofs.lemmas.Bool.{eqb-true}
use Rattle.std.proofs.lemmas.List.{map-append, length-map, length-take-le}
use Rattle.std.proofs.Math.Path.{fun_ext}
use Rattle.board_model.specs.Limits.{most_in_flight}
use Rattle.board_model.specs.declared.bridge.Bridge.{Bridge}
use Rattle.board_model.specs.declared.bridge.Lane.{Lane as BridgeLane}
use Rattle.board_model.specs.declared.board.Board.{Board}
use Rattle.board_model.specs.Valid.{is_bus, IsValid}
use Rattle.board_model.specs.Ways.{start_of, end_of, lane_back}
use Rattle.history_model.specs.declared.event.Event.{Event}
use Rattle.history_model.specs.declared.event.Stamped.{Stamped}
use Rattle.history_model.specs.declared.item.Carried.{Carried}
use Rattle.history_model.specs.Answers.{bridge_to}
use Rattle.history_model.specs.World.{World}
use Rattle.history_model.specs.Local.{local_world, AllowedLocally, LocalRun, is_lawful_on}
use Rattle.law_local.specs.Known.{events_on, coming_to, known}
use Rattle.law_local.specs.Stamps.{events_of, IsMerged}
use Rattle.law_local.proofs.Laws.{IsFit-valid, lane_apart, start_back, end_back, stamped_events}
use Rattle.lane_items.specs.declared.item.Item.{Item}
use Rattle.lane_items.specs.Lane.{passed_on, GotInOrder, left_count, Crosses}
use Rattle.law_local.specs.room.Room.{put_on, TwoRuns, Leaves, Puts, LaneInPhase}
use Rattle.law_local.proofs.room.Laws.{what_is_left, may_settle, not_full}
use Rattle.law_local.specs.phases.Pasts.{BusPast, AllPasts, RunSoFar}
use Rattle.law_local.specs.phases.Taken.{HasItsKind, NeverBack}
use Rattle.law_local.specs.phases.Engine.{ending_on, carried_to, GoesOn, ItemPast, NoneElsewhere, Engine, Worked, TookAll, AllInOrder, put_up_to, put_in, did_by, known_at_end}
use Rattle.law_local.proofs.phases.BusLemmas.{start_is_bus, end_is_bus}
use Rattle.law_local.proofs.phases.PastLemmas.{pasts_run}
use Rattle.law_local.proofs.phases.TakenLemmas.{next_taken}
use Rattle.law_local.proofs.phases.ClaimedLemmas.{nothing_back}

-- where a lane ends on the bus, and where it does not
pub ending_here : (board : Board) (bus : ℕ) (items : BridgeLane → List Item) (lane : BridgeLane) → end_of board lane ≡ bus → ending_on board bus items lane ≡ items lane
ending_here board bus items lane ends = let same = eq-eqb (end_of board lane) bus ends in ap (λ (b : Bool). cond b (items lane) []) same

ending_elsewhere : (board : Board) (bus : ℕ) (items : BridgeLane → List Item) (lane : BridgeLane) → end_of board lane ≢ bus → ending_on board bus items lane ≡ []
ending_elsewhere board bus items lane apart =
    let P : Bool → Type 0 = λ b. (end_of board lane == bus) ≡ b → cond b (items lane) [] ≡ [] in
    (elim (end_of board lane == bus) as P [ true ↦ λ same. absurd (apart (eqb-true (end_of board lane) bus same)) | false ↦ λ _. refl ]) refl

ending_nothing : (board : Board) (bus : ℕ) (items : BridgeLane → List Item) (lane : BridgeLane) → items lane ≡ [] → ending_on board bus items lane ≡ []
ending_nothing board bus items lane none =
    let P : Bool → Type 0 = λ b. cond b (items lane) [] ≡ [] in elim (end_of board lane == bus) as P [ true ↦ none | false ↦ refl ]

-- the front of nothing is nothing
front_of_none : (xs ys : List Item) → xs ++ ys ≡ [] → xs ≡ []
front_of_none [] ys is = refl
front_of_none (x ∷ xs) ys is = cc

-- the same with what the items carry
ending_carried : (carries : Item → Carried) (board : Board) (bus : ℕ) (items : BridgeLane → List Item) (lane : BridgeLane) → map carries (ending_on board bus items lane) ≡ coming_to board bus (λ l. map carries (items l)) lane
ending_carried carries board bus items lane =
    let P : Bool → Type 0 = λ b. map carries (cond b (items lane) []) ≡ cond b (map carries (items lane)) [] in
    elim (end_of board lane == bus) as P [ true ↦ refl | false ↦ refl ]

-- each bus's part of the whole is what it did
pub did_is : (board : Board) (part : ℕ → List Stamped) (all : List Stamped) (bus : ℕ) → IsMerged board part all → events_on board bus (events_of all) ≡ did_by part bus
did_is board part all bus merged = stamped_events board bus all ∙ ap events_of (merged.has_part bus)

-- and what is known there is what it knows
pub knows_is : (carries : Item → Carried) (board : Board) (received hand sent : BridgeLane → List Item) (part : ℕ → List Stamped) (all : List Stamped) (bus : ℕ) → IsMerged board part all
    → known board (put_in carries received hand sent) bus (events_of all) ≡ known_at_end carries board received hand sent part bus
knows_is carries board received hand sent part all bus merged =
    let same : coming_to board bus (put_in carries received hand sent) ≡ carried_to carries board (put_up_to received hand sent) bus =
    fun_ext (λ lane. sym (ending_carried carries board bus (put_up_to received hand sent) lane)) in
    ap (λ (p : List Event). local_world board (coming_to board bus (put_in carries received hand sent)) p) (did_is board part all bus merged)
    ∙ ap (λ (c : BridgeLane → List Carried). local_world board c (did_by part bus)) same

not_same : (a b : ℕ) → a ≢ b → (a == b) ≡ false
not_same a b apart =
    let P : Bool → Type 0 = λ t. (a == b) ≡ t → t ≡ false in
    (elim (a == b) as P [ true ↦ λ same. absurd (apart (eqb-true a b same)) | false ↦ λ _. refl ]) refl

-- before the first phase
pub engine_first : (carries : Item → Carried) (stamp_of : Item → ℕ) (board : Board) → IsValid board → Engine carries stamp_of board (λ lane. []) (λ lane. []) (λ bus. [])
engine_first carries stamp_of board valid = record {
  each = λ bus there. record {
    past = λ came goes. record {
      run = tt;
      in_time = tt;
      left = λ lane bridge rest some ends is. ap (map carries) is;
      puts = λ lane bridge some starts.
          let apart : end_of board lane ≢ bus = λ ends. lane_apart board lane bridge (IsFit-valid board valid).tree some (ends ∙ sym starts) in
          ap (map carries) (goes.nothing_else lane apart);
      stamped = λ lane bridge some starts. refl;
    };
  };
  no_other = λ bus lacks. refl;
  received_there = λ lane missing. refl;
  hand_there = λ lane missing. refl;
}

module _ (carries : Item → Carried) (stamp_of : Item → ℕ) (board : Board) (received hand got sent : BridgeLane → List Item) (part : ℕ → List Stamped) (worked : Worked carries stamp_of board received hand got sent part) where
  -- what came to each bus, and all that was put
  abbrev Came : BridgeLane → List Item
  Came lane = received lane ++ worked.taken lane

  abbrev Put : BridgeLane → List Item
  Put = put_up_to received hand sent

  -- nothing came on a lane of no bridge
  none_came : (lane : BridgeLane) → bridge_to board lane.bus ≡ None → Came lane ≡ []
  none_came lane missing =
      let none : worked.taken lane ++ worked.not_taken lane ≡ [] = sym (worked.got_is lane) ∙ worked.got_there lane missing in
      ap (λ (l : List Item). l ++ worked.taken lane) (worked.received_there lane missing) ∙ front_of_none (worked.taken lane) (worked.not_taken lane) none

  -- just what came to it comes to a bus
  came_alone : (bus : ℕ) → GoesOn board bus Came (ending_on board bus Came)
  came_alone bus = record {
    later = λ lane ends. ([], ending_here board bus Came lane ends ∙ sym (append-nil (Came lane)));
    nothing_else = ending_elsewhere board bus Came;
    bridges_alone = λ lane missing. ending_nothing board bus Came lane (none_came lane missing);
  }

  -- a bus by what came to it alone
  past_at : (bus : ℕ) → is_bus board bus ≡ true → ItemPast carries stamp_of board bus Came (ending_on board bus Came) Put (part bus)
  past_at bus there = (worked.each bus there).past (ending_on board bus Came) (came_alone bus)

  abbrev CameTo : ℕ → BridgeLane → List Carried
  CameTo = carried_to carries board Came

  abbrev Did : ℕ → List Event
  Did = did_by part

  lane_in_phase : IsValid board → (lane : BridgeLane) (bridge : Bridge) → bridge_to board lane.bus ≡ Some bridge
      → LaneInPhase carries board CameTo Did lane (received lane) (hand lane) (got lane) (sent lane)
  lane_in_phase valid lane bridge some = record {
    not_taken = map carries (worked.not_taken lane);
    came_is =
        ap (λ (l : List Item). map carries l ++ map carries (worked.not_taken lane)) (ending_here board (end_of board lane) Came lane refl)
        ∙ (sym (map-append carries (Came lane) (worked.not_taken lane))
        ∙ ap (map carries) (append_assoc (received lane) (worked.taken lane) (worked.not_taken lane) ∙ ap (λ (l : List Item). received lane ++ l) (sym (worked.got_is lane))));
    put_is = (past_at (start_of board lane) (start_is_bus board valid.buses lane bridge some)).puts lane bridge some refl;
  }

  two_runs : IsValid board → (lane : BridgeLane) (bridge : Bridge) → bridge_to board lane.bus ≡ Some bridge → TwoRuns board CameTo Did lane
  two_runs valid lane bridge some =
      let apart = lane_apart board lane bridge (IsFit-valid board valid).tree some in
      let apart_back : end_of board (lane_back lane) ≢ end_of board lane = λ same. apart (sym same ∙ end_back board lane) in
      record {
        apart = apart;
        near = (past_at (start_of board lane) (start_is_bus board valid.buses lane bridge some)).run;
        far = (past_at (end_of board lane) (end_is_bus board valid.buses lane bridge some)).run;
        none_near = ap (map carries) (ending_elsewhere board (start_of board lane) Came lane apart);
        none_far = ap (map carries) (ending_elsewhere board (end_of board lane) Came (lane_back lane) apart_back);
      }

  pub phase_room : IsValid board → (lane : BridgeLane) (bridge : Bridge) (kept kept_back : ℕ) → bridge_to board lane.bus ≡ Some bridge
      → GotInOrder (hand lane) (got lane) (sent lane) kept → GotInOrder (hand (lane_back lane)) (got (lane_back lane)) (sent (lane_back lane)) kept_back
      → (left_count (hand lane) (got lane) (sent lane) ≤ most_in_flight) × (left_count (hand (lane_back lane)) (got (lane_back lane)) (sent (lane_back lane)) ≤ most_in_flight)
  phase_room valid lane bridge kept kept_back some order order_back =
      let back : BridgeLane = lane_back lane in
      may_settle carries board CameTo Did lane (received lane) (hand lane) (got lane) (sent lane) (received back) (hand back) (got back) (sent back) kept kept_back valid
      (two_runs valid lane bridge some) (lane_in_phase valid lane bridge some) (lane_in_phase valid back bridge some) order order_back

  -- on a lane of no bridge there is nothing
  none_put : (lane : BridgeLane) → bridge_to board lane.bus ≡ None → Put lane ≡ []
  none_put lane missing =
      ap (λ (l : List Item). l ++ (hand lane ++ sent lane)) (worked.received_there lane missing)
      ∙ (ap (λ (l : List Item). l ++ sent lane) (worked.hand_there lane missing) ∙ worked.sent_there lane missing)

  -- all that was put comes to each bus, now or later
  module _ (kept : BridgeLane → ℕ) (ordered : AllInOrder board hand got sent kept) where
    rest_of : (lane : BridgeLane) → (rest : List Item) × (Put lane ≡ Came lane ++ rest)
    rest_of lane =
        let Goal : Type 0 = (rest : List Item) × (Put lane ≡ Came lane ++ rest) in
        let P : Option Bridge → Type 0 = λ found. bridge_to board lane.bus ≡ found → Goal in
        (elim (bridge_to board lane.bus) as P [
          | None ↦ λ missing.
              ([], none_put lane missing ∙ (sym (none_came lane missing) ∙ sym (append-nil (Came lane))))
          | Some bridge ↦ λ some.
              let left = what_is_left (hand lane) (got lane) (sent lane) (kept lane) (ordered lane bridge some) in
              let taken = worked.taken lane in
              let more = worked.not_taken lane in
              let whole : hand lane ++ sent lane ≡ taken ++ (more ++ left.0) = sym left.1 ∙ (ap (λ (l : List Item). l ++ left.0) (worked.got_is lane) ∙ append_assoc taken more left.0) in
              (more ++ left.0, ap (λ (l : List Item). received lane ++ l) whole ∙ sym (append_assoc (received lane) taken (more ++ left.0)))
        ]) refl

    -- a bus, where all that was put comes to it
    pub all_past : (bus : ℕ) → is_bus board bus ≡ true → ItemPast carries stamp_of board bus Came (ending_on board bus Put) Put (part bus)
    all_past bus there =
        (worked.each bus there).past (ending_on board bus Put) (record {
          later = λ lane ends. let rest = rest_of lane in (rest.0, ending_here board bus Put lane ends ∙ rest.1);
          nothing_else = ending_elsewhere board bus Put;
          bridges_alone = λ lane missing. ending_nothing board bus Put lane (none_put lane missing);
        })

    bus_past : (bus : ℕ) → is_bus board bus ≡ true → BusPast board bus (put_in carries received hand sent) (λ lane. map stamp_of (Put lane)) (part bus)
    bus_past bus there =
        let came : BridgeLane → List Item = ending_on board bus Put in
        let past = all_past bus there in
        record {
          came = λ lane. map carries (came lane);
          comes = ending_carried carries board bus Put;
          times = λ lane. map stamp_of (came lane);
          timed = λ lane ends. ap (map stamp_of) (ending_here board bus Put lane ends);
          run = past.run;
          in_time = past.in_time;
          puts = past.puts;
          stamped = past.stamped;
        }

    pub worked_run : IsValid board → (all : List Stamped) → IsMerged board part all → RunSoFar board (put_in carries received hand sent) (events_of all)
    worked_run valid all merged =
        let pasts : AllPasts board (put_in carries received hand sent) (λ lane. map stamp_of (Put lane)) part = record {
          each = bus_past;
          no_other = worked.no_other;
          bridges_alone = λ lane missing. (ap (map carries) (none_put lane missing), ap (map stamp_of) (none_put lane missing));
        } in
        pasts_run board valid (put_in carries received hand sent) (λ lane. map stamp_of (Put lane)) part pasts all merged

    so_far : IsValid board → (all : List Stamped) → IsMerged board part all → RunSoFar board (put_in carries received hand sent) (events_of all)
    so_far = worked_run

    -- an item that was not taken is the next that comes
    pub refused_taken : IsValid board → (all : List Stamped) → IsMerged board part all → (lane : BridgeLane) (bridge : Bridge) (item : Item) (more : List Item) → bridge_to board lane.bus ≡ Some bridge
        → worked.not_taken lane ≡ item ∷ more
        → (is_lawful_on board (known_at_end carries board received hand sent part (end_of board lane)) lane (carries item) ≡ true) × HasItsKind board (end_of board lane) (carries item)
    refused_taken valid all merged lane bridge item more some refused =
        let bus : ℕ = end_of board lane in
        let h : List Event = events_of all in
        let left = what_is_left (hand lane) (got lane) (sent lane) (kept lane) (ordered lane bridge some) in
        let rest : List Item = worked.not_taken lane ++ left.0 in
        let whole : hand lane ++ sent lane ≡ worked.taken lane ++ rest =
        sym left.1 ∙ (ap (λ (l : List Item). l ++ left.0) (worked.got_is lane) ∙ append_assoc (worked.taken lane) (worked.not_taken lane) left.0) in
        let comes : ending_on board bus Put lane ≡ Came lane ++ rest =
        ending_here board bus Put lane refl ∙ (ap (λ (l : List Item). received lane ++ l) whole ∙ sym (append_assoc (received lane) (worked.taken lane) rest)) in
        let knows = knows_is carries board received hand sent part all bus merged in
        let flight : (known_at_end carries board received hand sent part bus lane).flight ≡ carries item ∷ map carries (more ++ left.0) =
        (all_past bus (end_is_bus board valid.buses lane bridge some)).left lane bridge rest some refl comes ∙ ap (λ (l : List Item). map carries (l ++ left.0)) refused in
        let next : (known board (put_in carries received hand sent) bus h lane).flight ≡ carries item ∷ map carries (more ++ left.0) = ap (λ (w : World). (w lane).flight) knows ∙ flight in
        let taken = next_taken board (put_in carries received hand sent) h (so_far valid all merged) lane (carries item) (map carries (more ++ left.0)) next in
        (subst (λ (w : World). is_lawful_on board w lane (carries item) ≡ true) knows taken.0, taken.1)

    -- what a lane presents is not claimed by its lane back
    pub never_back : IsValid board → (all : List Stamped) → IsMerged board part all → (lane : BridgeLane)
        → NeverBack board (known_at_end carries board received hand sent part (end_of board lane)) (did_by part (end_of board lane)) lane
    never_back valid all merged lane =
        let bus : ℕ = end_of board lane in
        let h : List Event = events_of all in
        let none = nothing_back board (put_in carries received hand sent) h valid (so_far valid all merged).joint lane in
        subst (λ (w : World). NeverBack board w (did_by part bus) lane) (knows_is carries board received hand sent part all bus merged)
        (subst (λ (p : List Event). NeverBack board (known board (put_in carries received hand sent) bus h) p lane) (did_is board part all bus merged) none)

    -- where a bus could put one more item on a lane, its end keeps fewer than 32
    pub keeps_fewer : IsValid board → (lane : BridgeLane) (bridge : Bridge) (e : Event) → bridge_to board lane.bus ≡ Some bridge → kept lane ≤ length (sent lane)
        → Puts board (carried_to carries board Put) Did lane e → kept lane < 32
    keeps_fewer valid lane bridge e some were_sent puts =
        let from : ℕ = start_of board lane in
        let to : ℕ = end_of board lane in
        let back : BridgeLane = lane_back lane in
        let near = all_past from (start_is_bus board valid.buses lane bridge some) in
        let far = past_at to (end_is_bus board valid.buses lane bridge some) in
        let runs = two_runs valid lane bridge some in
        let apart = runs.apart in
        let came : ℕ → BridgeLane → List Carried = λ bus. cond (bus == from) (carried_to carries board Put bus) (CameTo bus) in
        let came_near : came from ≡ carried_to carries board Put from = let self = eq-eqb from from refl in ap (λ (b : Bool). cond b (carried_to carries board Put from) (CameTo from)) self in
        let came_far : came to ≡ CameTo to = let differ = not_same to from apart in ap (λ (b : Bool). cond b (carried_to carries board Put to) (CameTo to)) differ in
        let left = what_is_left (hand lane) (got lane) (sent lane) (kept lane) (ordered lane bridge some) in
        let rest : List Item = worked.not_taken lane ++ left.0 in
        let whole : hand lane ++ sent lane ≡ worked.taken lane ++ rest =
        sym left.1 ∙ (ap (λ (l : List Item). l ++ left.0) (worked.got_is lane) ∙ append_assoc (worked.taken lane) (worked.not_taken lane) left.0) in
        let all_is : Put lane ≡ Came lane ++ rest = ap (λ (l : List Item). received lane ++ l) whole ∙ sym (append_assoc (received lane) (worked.taken lane) rest) in
        let W : (BridgeLane → List Carried) → ℕ → BridgeLane → List Carried = λ c bus l. (local_world board c (Did bus) l).flight in
        let put_here : put_on board came Did lane ≡ map carries (Put lane) = ap (λ (c : BridgeLane → List Carried). W c from lane) came_near ∙ near.puts lane bridge some refl in
        let came_here : came to lane ≡ map carries (Came lane) = ap (λ (c : BridgeLane → List Carried). c lane) came_far ∙ ap (map carries) (ending_here board to Came lane refl) in
        let here : came to lane ++ map carries rest ≡ put_on board came Did lane =
        ap (λ (l : List Carried). l ++ map carries rest) came_here ∙ (sym (map-append carries (Came lane) rest) ∙ (ap (map carries) (sym all_is) ∙ sym put_here)) in
        let back_end : end_of board back ≡ from = end_back board lane in
        let back_start : start_of board back ≡ to = start_back board lane in
        let came_back : came from back ≡ map carries (Put back) = ap (λ (c : BridgeLane → List Carried). c back) came_near ∙ ap (map carries) (ending_here board from Put back back_end) in
        let put_back : put_on board came Did back ≡ map carries (Put back) =
        ap (λ (bus : ℕ). W (came bus) bus back) back_start ∙ (ap (λ (c : BridgeLane → List Carried). W c to back) came_far ∙ far.puts back bridge some back_start) in
        let leaves : Leaves board came Did lane (map carries rest) [] = record {
          runs = record {
            apart = apart;
            near = subst (λ (c : BridgeLane → List Carried). LocalRun board from c (Did from)) (sym came_near) near.run;
            far = subst (λ (c : BridgeLane → List Carried). LocalRun board to c (Did to)) (sym came_far) far.run;
            none_near = ap (λ (c : BridgeLane → List Carried). c lane) came_near ∙ ap (map carries) (ending_elsewhere board from Put lane apart);
            none_far = ap (λ (c : BridgeLane → List Carried). c back) came_far ∙ runs.none_far;
          };
          here = here;
          back = append-nil (came from back) ∙ (came_back ∙ sym put_back);
        } in
        let more : Puts board came Did lane e = record {
          here = puts.here;
          allowed = subst (λ (c : BridgeLane → List Carried). AllowedLocally board c (Did from) e) (sym came_near) puts.allowed;
          more = subst (λ (c : BridgeLane → List Carried). length (W c from lane) < length (local_world board c (e ∷ Did from) lane).flight) (sym came_near) puts.more;
        } in
        let few = not_full board came Did lane (map carries rest) [] e valid leaves more in
        let passed : length (passed_on (sent lane) (kept lane)) ≡ length (sent lane) - kept lane = length-take-le (length (sent lane) - kept lane) (sent lane) (omega arith) in
        let order = ordered lane bridge some in
        omega (
          arith,
          few,
          were_sent,
          passed,
          length-map rest carries,
          length-append (worked.not_taken lane) left.0,
          left.2,
          ap length order.1,
          length-append (got lane) order.0,
          length-append (hand lane) (passed_on (sent lane) (kept lane)),
        )

  -- the next phase begins
  pub next_engine : (next : BridgeLane → List Item) (kept : BridgeLane → ℕ) → TookAll board worked
      → ((lane : BridgeLane) (bridge : Bridge) → bridge_to board lane.bus ≡ Some bridge → Crosses (hand lane) (got lane) (sent lane) (kept lane) (next lane))
      → NoneElsewhere board next → Engine carries stamp_of board (λ lane. received lane ++ got lane) next part
  next_engine next kept took crosses none = record {
    each = λ bus there. record {
      past = λ came goes.
          let all_taken : (lane : BridgeLane) → got lane ≡ worked.taken lane =
          λ lane. worked.got_is lane ∙ (ap (λ (l : List Item). worked.taken lane ++ l) (took lane) ∙ append-nil (worked.taken lane)) in
          let before : GoesOn board bus Came came = record {
            later = λ lane ends.
                let rest = goes.later lane ends in
                (rest.0, rest.1 ∙ ap (λ (l : List Item). (received lane ++ l) ++ rest.0) (all_taken lane));
            nothing_else = goes.nothing_else;
            bridges_alone = goes.bridges_alone;
          } in
          let past = (worked.each bus there).past came before in
          let same : (lane : BridgeLane) (bridge : Bridge) → bridge_to board lane.bus ≡ Some bridge → Put lane ≡ (received lane ++ got lane) ++ next lane =
          λ lane bridge some. ap (λ (l : List Item). received lane ++ l) (sym (crosses lane bridge some).in_order) ∙ sym (append_assoc (received lane) (got lane) (next lane)) in
          record {
            run = past.run;
            in_time = past.in_time;
            left = λ lane bridge rest some ends is. past.left lane bridge rest some ends (is ∙ ap (λ (l : List Item). (received lane ++ l) ++ rest) (all_taken lane));
            puts = λ lane bridge some starts. past.puts lane bridge some starts ∙ ap (map carries) (same lane bridge some);
            stamped = λ lane bridge some starts. past.stamped lane bridge some starts ∙ ap (map stamp_of) (same lane bridge some);
          };
    };
    no_other = worked.no_other;
    received_there = λ lane missing. ap (λ (l : List Item). l ++ got lane) (worked.received_there lane missing) ∙ worked.got_there lane missing;
    hand_there = none;
  }
