-- Local runs of all buses in the order of their stamps are woven.
use Rattle.std.proofs.Common.{◌≡◌, ℕ, zero, suc, ◌+◌, ◌-◌, ◌<◌, ◌≤◌, Bool, true, false, cond, ◌==◌, List, [], ◌∷◌, ◌++◌, length, replicate, Some, refl, sym, ap, subst, ◌∙◌, arith, slice_get}
use Rattle.std.specs.List.{AllByRecursion}
use Rattle.std.proofs.lemmas.Bool.{eqb-true, eqb-false, eq-eqb}
use Rattle.std.proofs.lemmas.List.{append-nil, append_assoc, length-append, length-replicate}
use Rattle.list_facts.proofs.EachLemmas.{Each-append, Each-weaker}
use Rattle.board_model.specs.declared.bridge.Lane.{Lane as BridgeLane}
use Rattle.board_model.specs.declared.board.Board.{Board}
use Rattle.board_model.specs.Ways.{start_of, end_of}
use Rattle.history_model.specs.declared.event.Event.{Event}
use Rattle.history_model.specs.declared.event.Event.TheVariants.{Act, Arrive}
use Rattle.history_model.specs.declared.event.Stamped.{Stamped}
use Rattle.history_model.specs.declared.item.Carried.{Carried}
use Rattle.history_model.specs.Lanes.{LaneState}
use Rattle.history_model.specs.World.{same_lane}
use Rattle.history_model.specs.Local.{bus_of, local_world, AllowedLocally, LocalRun}
use Rattle.law_lanes.specs.order.Sent.{arrives_by, arrivals}
use Rattle.law_local.specs.Known.{events_on, coming_to, known}
use Rattle.law_local.specs.Woven.{IsTimely, Woven, AllWoven}
use Rattle.law_local.specs.Stamps.{events_of, items_put, put_stamps, IsInTime, AllInTime, stamps_of, LocalParts, NeverFall, stamped_on, IsMerged}
use Rattle.law_local.proofs.EventLemmas.{IsFront, front_before}
use Rattle.law_local.proofs.ApartLemmas.{IsFit, IsApart}
use Rattle.law_local.proofs.GrowLemmas.{event_grows, all_counted}
use Rattle.history_model.proofs.facts.BridgeLemmas.{same_lane_true}

-- the events of a bus are the same with and without stamps
pub stamped_events : (board : Board) (bus : ℕ) (all : List Stamped) → events_on board bus (events_of all) ≡ events_of (stamped_on board bus all)
stamped_events board bus [] = refl
stamped_events board bus (s ∷ past) =
    let P : Bool → Type 0 = λ b. cond b (s.event ∷ events_on board bus (events_of past)) (events_on board bus (events_of past)) ≡ events_of (cond b (s ∷ stamped_on board bus past) (stamped_on board bus past)) in
    let rest = stamped_events board bus past in
    elim (bus_of board s.event == bus) as P [ true ↦ ap (λ (l : List Event). s.event ∷ l) rest | false ↦ rest ]

-- what holds of a number holds of each of its copies
each-replicate : (P : ℕ → Type 0) (k stamp : ℕ) → P stamp → AllByRecursion P (replicate k stamp)
each-replicate P zero stamp holds = tt
each-replicate P (suc k) stamp holds = (holds, each-replicate P k stamp holds)

-- a stamp that is not below any of these events
abbrev AboveAll : List Stamped → ℕ → Type 0
AboveAll past m = AllByRecursion (λ (s : Stamped). s.stamp ≤ m) past

-- a low stamp stands in the first part
in_front : (xs ys : List ℕ) (k stamp least : ℕ) → slice_get (xs ++ ys) k ≡ Some stamp → stamp < least → AllByRecursion (λ m. least ≤ m) ys → k < length xs
in_front [] [] k stamp least there low above = cc
in_front [] (y ∷ ys) zero stamp least there low above = let same : y ≡ stamp = cc in absurd (omega (arith, same, above.0))
in_front [] (y ∷ ys) (suc k) stamp least there low above = absurd (let wrong = in_front [] ys k stamp least there low above.1 in omega (arith, wrong))
in_front (x ∷ xs) ys zero stamp least there low above = omega arith
in_front (x ∷ xs) ys (suc k) stamp least there low above = let rest = in_front xs ys k stamp least there low above in omega (arith, rest)

module _ (board : Board) (fit : IsFit board) (sent : BridgeLane → List Carried) where
  -- what comes to the bus where a lane begins
  abbrev Came : BridgeLane → BridgeLane → List Carried
  Came lane = coming_to board (start_of board lane) sent

  -- a lane's arrivals are events of its bus
  arrivals_on : (lane : BridgeLane) (h : List Event) → arrivals lane h ≡ arrivals lane (events_on board (end_of board lane) h)
  arrivals_on lane [] = refl
  arrivals_on lane (e ∷ h) =
      let rest = arrivals_on lane h in
      let bus : ℕ = end_of board lane in
      let P : Bool → Type 0 = λ b. (bus_of board e == bus) ≡ b → arrives_by lane e + arrivals lane h ≡ arrivals lane (cond b (e ∷ events_on board bus h) (events_on board bus h)) in
      (elim (bus_of board e == bus) as P [
        | true ↦ λ _. ap (λ n. arrives_by lane e + n) rest
        | false ↦ λ apart. let none = elsewhere e apart in omega (arith, none, rest)
      ]) refl
    where
      elsewhere : (e : Event) → (bus_of board e == end_of board lane) ≡ false → arrives_by lane e ≡ 0
      elsewhere (Act bus by o step place) apart = refl
      elsewhere (Arrive at mark) apart =
          let C : Bool → ℕ = λ b. cond b 1 0 in
          let Q : Bool → Type 0 = λ b. same_lane at lane ≡ b → C b ≡ 0 in
          (elim (same_lane at lane) as Q [
            | true ↦ λ same. absurd (eqb-false (end_of board at) (end_of board lane) apart (ap (end_of board) (same_lane_true at lane same)))
            | false ↦ λ _. refl
          ]) refl

  -- as many stamps as items were put
  put_count : (lane : BridgeLane) → Came lane lane ≡ [] → (q : List Stamped) → LocalRun board (start_of board lane) (Came lane) (events_of q) → AllByRecursion (λ (s : Stamped). IsApart board s.event) q
      → length (put_stamps board (Came lane) lane q) ≡ length (local_world board (Came lane) (events_of q) lane).flight
  put_count lane none [] run apart = ap length (sym none)
  put_count lane none (s ∷ q) run apart =
      let old = put_count lane none q run.2 apart.1 in
      let before : LaneState = local_world board (Came lane) (events_of q) lane in
      let now : LaneState = local_world board (Came lane) (s.event ∷ events_of q) lane in
      let grown = event_grows board fit (Came lane) (events_of q) s.event (start_of board lane) lane run.0 run.1 apart.0 refl in
      let more : length now.flight ≡ length before.flight + length grown.items = ap length grown.grown ∙ length-append before.flight grown.items in
      let same = length-replicate (length now.flight - length before.flight) s.stamp in
      let joined = length-append (put_stamps board (Came lane) lane q) (replicate (length now.flight - length before.flight) s.stamp) in
      omega (arith, old, more, same, joined)

  -- the arrivals of what comes in time are on lanes of bridges
  in_time_apart : (stamps : BridgeLane → List ℕ) (past : List Stamped) (stamp : ℕ) (e : Event) → IsInTime stamps board past stamp e → IsApart board e
  in_time_apart stamps past stamp (Act bus by o step place) is = tt
  in_time_apart stamps past stamp (Arrive lane mark) is = is.0

  -- each arrival is on a lane between two buses
  all_apart : (stamps : BridgeLane → List ℕ) (all : List Stamped) → AllInTime stamps board all → AllByRecursion (λ (s : Stamped). IsApart board s.event) all
  all_apart stamps [] is = tt
  all_apart stamps (s ∷ past) is = (in_time_apart stamps past s.stamp s.event is.0, all_apart stamps past is.1)

  -- what holds of each stamped event holds of each of one bus
  each_on : (P : Stamped → Type 0) (bus : ℕ) (all : List Stamped) → AllByRecursion P all → AllByRecursion P (stamped_on board bus all)
  each_on P bus [] each = tt
  each_on P bus (s ∷ past) each =
      let Q : Bool → Type 0 = λ b. AllByRecursion P (cond b (s ∷ stamped_on board bus past) (stamped_on board bus past)) in
      let rest = each_on P bus past each.1 in
      elim (bus_of board s.event == bus) as Q [ true ↦ (each.0, rest) | false ↦ rest ]

  -- the past of all buses up to an event: of the stamps of what is ever put on a lane, those put by then come first, and
  -- none of the others is below a stamp of the past
  record SortedPast (stamps : BridgeLane → List ℕ) (past : List Stamped) : Type 0 where
    local : (bus : ℕ) → LocalRun board bus (coming_to board bus sent) (events_on board bus (events_of past))
    in_time : AllInTime stamps board past
    never_fall : NeverFall past
    fronts : (lane : BridgeLane) → IsFront (sent lane) (known board sent (start_of board lane) (events_of past) lane)
    parts : (lane : BridgeLane) → (more : List ℕ) × (stamps lane ≡ put_stamps board (Came lane) lane (stamped_on board (start_of board lane) past) ++ more)
        × AllByRecursion (AboveAll past) more

  -- what stands before in a local run is one
  local_before : (bus : ℕ) (e : Event) (h : List Event) → LocalRun board bus (coming_to board bus sent) (events_on board bus (e ∷ h)) → LocalRun board bus (coming_to board bus sent) (events_on board bus h)
  local_before bus e h run =
      let P : Bool → Type 0 = λ b. LocalRun board bus (coming_to board bus sent) (cond b (e ∷ events_on board bus h) (events_on board bus h)) → LocalRun board bus (coming_to board bus sent) (events_on board bus h) in
      (elim (bus_of board e == bus) as P [ true ↦ λ r. r.2 | false ↦ λ r. r ]) run

  -- the last event of a local run is allowed by what its bus knew before
  allowed_last : (e : Event) (h : List Event) → LocalRun board (bus_of board e) (coming_to board (bus_of board e) sent) (events_on board (bus_of board e) (e ∷ h)) → AllowedLocally board (coming_to board (bus_of board e) sent) (events_on board (bus_of board e) h) e
  allowed_last e h run =
      let bus : ℕ = bus_of board e in
      let self : (bus_of board e == bus) ≡ true = eq-eqb bus bus refl in
      let P : Bool → Type 0 = λ b. b ≡ true → LocalRun board bus (coming_to board bus sent) (cond b (e ∷ events_on board bus h) (events_on board bus h)) → AllowedLocally board (coming_to board bus sent) (events_on board bus h) e in
      (elim (bus_of board e == bus) as P [ true ↦ λ _ r. r.1 | false ↦ λ wrong r. cc ]) self run

  -- before an event what was sent is a front too
  front_back : (s : Stamped) (past : List Stamped) (lane : BridgeLane) → IsApart board s.event → LocalRun board (start_of board lane) (Came lane) (events_on board (start_of board lane) (s.event ∷ events_of past))
      → IsFront (sent lane) (known board sent (start_of board lane) (s.event ∷ events_of past) lane) → IsFront (sent lane) (known board sent (start_of board lane) (events_of past) lane)
  front_back s past lane apart run front =
      let bus : ℕ = start_of board lane in
      let h : List Event = events_of past in
      let K : List Event → LaneState = λ p. local_world board (Came lane) p lane in
      let P : Bool → Type 0 = λ b. (bus_of board s.event == bus) ≡ b → LocalRun board bus (Came lane) (cond b (s.event ∷ events_on board bus h) (events_on board bus h)) → IsFront (sent lane) (K (cond b (s.event ∷ events_on board bus h) (events_on board bus h))) → IsFront (sent lane) (K (events_on board bus h)) in
      (elim (bus_of board s.event == bus) as P [
        | true ↦ λ same r f. front_before (sent lane) (K (events_on board bus h)) (K (s.event ∷ events_on board bus h)) (event_grows board fit (Came lane) (events_on board bus h) s.event bus lane r.0 r.1 apart refl) f
        | false ↦ λ _ r f. f
      ]) refl run front

  -- the past before its last event: the stamps put by that event go over to those still to come, which are none below
  past_before : (stamps : BridgeLane → List ℕ) (s : Stamped) (past : List Stamped) → SortedPast stamps (s ∷ past) → SortedPast stamps past
  past_before stamps s past given =
      let apart = in_time_apart stamps past s.stamp s.event given.in_time.0 in
      record {
        local = λ bus. local_before bus s.event (events_of past) (given.local bus);
        in_time = given.in_time.1;
        never_fall = given.never_fall.1;
        fronts = λ lane. front_back s past lane apart (given.local (start_of board lane)) (given.fronts lane);
        parts = λ lane.
            let bus : ℕ = start_of board lane in
            let q : List Stamped = stamped_on board bus past in
            let old = given.parts lane in
            let A : List ℕ → Type 0 = AllByRecursion (AboveAll past) in
            let weak : A old.0 = Each-weaker (AboveAll (s ∷ past)) (AboveAll past) (λ m all. all.1) old.0 old.2 in
            let Goal : Type 0 = (more : List ℕ) × (stamps lane ≡ put_stamps board (Came lane) lane q ++ more) × A more in
            let P : Bool → Type 0 = λ b. stamps lane ≡ put_stamps board (Came lane) lane (cond b (s ∷ q) q) ++ old.0 → Goal in
            (elim (bus_of board s.event == bus) as P [
              | true ↦ λ is.
                  let new : List ℕ = replicate (items_put board (Came lane) lane (events_of q) s.event) s.stamp in
                  let same : A new = each-replicate (AboveAll past) (items_put board (Came lane) lane (events_of q) s.event) s.stamp given.never_fall.0 in
                  (new ++ old.0, is ∙ append_assoc (put_stamps board (Came lane) lane q) new old.0, Each-append (AboveAll past) new old.0 same weak)
              | false ↦ λ is. (old.0, is, weak)
            ]) old.1;
      }

  -- a stamp above that of its item makes an arrival come in time: the item is one of those put before
  timely : (stamps : BridgeLane → List ℕ) (s : Stamped) (past : List Stamped) (e : Event) → s.event ≡ e → SortedPast stamps (s ∷ past) → IsInTime stamps board past s.stamp e → IsTimely board sent (events_of past) e
  timely stamps s past (Act bus by o step place) is given in_time = tt
  timely stamps s past (Arrive lane mark) is given in_time =
      let x : ℕ = end_of board lane in
      let y : ℕ = start_of board lane in
      let h : List Event = events_of past in
      let q : List Stamped = stamped_on board y past in
      let old = given.parts lane in
      let before_it = past_before stamps s past given in
      let bus_is : bus_of board s.event ≡ x = ap (bus_of board) is in
      let elsewhere : (bus_of board s.event == y) ≡ false =
      let P : Bool → Type 0 = λ b. (bus_of board s.event == y) ≡ b → b ≡ false in
      (elim (bus_of board s.event == y) as P [ true ↦ λ same. absurd (in_time.0 (sym bus_is ∙ eqb-true (bus_of board s.event) y same)) | false ↦ λ _. refl ]) refl in
      let F : Bool → Type 0 = λ b. stamps lane ≡ put_stamps board (Came lane) lane (cond b (s ∷ q) q) ++ old.0 in
      let split : stamps lane ≡ put_stamps board (Came lane) lane q ++ old.0 = subst F elsewhere old.1 in
      let k : ℕ = arrivals lane h in
      let there = subst (λ l. slice_get l k ≡ Some in_time.1.0) split in_time.1.1 in
      let above : AllByRecursion (λ m. s.stamp ≤ m) old.0 = Each-weaker (AboveAll (s ∷ past)) (λ m. s.stamp ≤ m) (λ m all. all.0) old.0 old.2 in
      let front = in_front (put_stamps board (Came lane) lane q) old.0 k in_time.1.0 s.stamp there in_time.1.2 above in
      let differ : (end_of board lane == y) ≡ false =
      let P : Bool → Type 0 = λ b. (end_of board lane == y) ≡ b → b ≡ false in
      (elim (end_of board lane == y) as P [ true ↦ λ same. absurd (in_time.0 (eqb-true (end_of board lane) y same)) | false ↦ λ _. refl ]) refl in
      let none : Came lane lane ≡ [] = ap (λ b. cond b (sent lane) []) differ in
      let same_events = stamped_events board y past in
      let run_y : LocalRun board y (Came lane) (events_of q) = subst (LocalRun board y (Came lane)) same_events (before_it.local y) in
      let count = put_count lane none q run_y (each_on (λ (r : Stamped). IsApart board r.event) y past (all_apart stamps past before_it.in_time)) in
      let near : length (known board sent y h lane).flight ≡ length (local_world board (Came lane) (events_of q) lane).flight = ap (λ p. length (local_world board (Came lane) p lane).flight) same_events in
      let self : (end_of board lane == x) ≡ true = eq-eqb x x refl in
      let comes : coming_to board x sent lane ≡ sent lane = ap (λ b. cond b (sent lane) []) self in
      let far = all_counted board fit (coming_to board x sent) x lane refl in_time.0 (events_on board x h) (before_it.local x) in
      let all : length (coming_to board x sent lane) ≡ length (sent lane) = ap length comes in
      let arrived = arrivals_on lane h in
      omega (arith, front, count, near, far, all, arrived)

  -- so the last event is woven with those before it
  woven_part : (stamps : BridgeLane → List ℕ) (s : Stamped) (past : List Stamped) → SortedPast stamps (s ∷ past) → Woven board sent s.event (events_of past)
  woven_part stamps s past given =
      record {
        allowed = allowed_last s.event (events_of past) (given.local (bus_of board s.event));
        timely = timely stamps s past s.event refl given given.in_time.0;
        sends = λ lane starts. subst (λ n. IsFront (sent lane) (known board sent n (s.event ∷ events_of past) lane)) starts (given.fronts lane);
      }

  -- and every event
  all_woven : (stamps : BridgeLane → List ℕ) (past : List Stamped) → SortedPast stamps past → AllWoven board sent (events_of past)
  all_woven stamps [] given = tt
  all_woven stamps (s ∷ past) given = (woven_part stamps s past given, all_woven stamps past (past_before stamps s past given))

  -- what comes in time among the events of its bus does among all: an arrival is on the bus where its lane ends
  arrives_in_time : (stamps : BridgeLane → List ℕ) (past : List Stamped) (stamp : ℕ) (e : Event) → IsInTime stamps board (stamped_on board (bus_of board e) past) stamp e → IsInTime stamps board past stamp e
  arrives_in_time stamps past stamp (Act bus by o step place) is = tt
  arrives_in_time stamps past stamp (Arrive lane mark) is =
      let bus : ℕ = end_of board lane in
      let same : arrivals lane (events_of (stamped_on board bus past)) ≡ arrivals lane (events_of past) = ap (arrivals lane) (sym (stamped_events board bus past)) ∙ sym (arrivals_on lane (events_of past)) in
      (is.0, (is.1.0, subst (λ n. slice_get (stamps lane) n ≡ Some is.1.0) same is.1.1, is.1.2))

  -- so of all arrivals
  all_in_time : (stamps : BridgeLane → List ℕ) (all : List Stamped) → ((bus : ℕ) → AllInTime stamps board (stamped_on board bus all)) → AllInTime stamps board all
  all_in_time stamps [] each = tt
  all_in_time stamps (s ∷ past) each =
      let bus : ℕ = bus_of board s.event in
      let self : (bus_of board s.event == bus) ≡ true = eq-eqb bus bus refl in
      let F : Bool → Type 0 = λ b. AllInTime stamps board (cond b (s ∷ stamped_on board bus past) (stamped_on board bus past)) in
      let last : AllInTime stamps board (s ∷ stamped_on board bus past) = subst F self (each bus) in
      let older : (n : ℕ) → AllInTime stamps board (stamped_on board n past) = λ n.
      let P : Bool → Type 0 = λ b. AllInTime stamps board (cond b (s ∷ stamped_on board n past) (stamped_on board n past)) → AllInTime stamps board (stamped_on board n past) in
      (elim (bus_of board s.event == n) as P [ true ↦ λ all. all.1 | false ↦ λ all. all ]) (each n) in
      (arrives_in_time stamps past s.stamp s.event last.0, all_in_time stamps past older)

  -- local runs in the order of their stamps are woven: nothing is left to be put after them
  pub merged_woven : (part : ℕ → List Stamped) (all : List Stamped) → LocalParts board sent part → IsMerged board part all → AllWoven board sent (events_of all)
  merged_woven part all parts merged =
      let stamps : BridgeLane → List ℕ = stamps_of board sent part in
      let events : (bus : ℕ) → events_of (part bus) ≡ events_on board bus (events_of all) = λ bus. ap events_of (sym (merged.has_part bus)) ∙ sym (stamped_events board bus all) in
      all_woven stamps all (record {
        local = λ bus. subst (LocalRun board bus (coming_to board bus sent)) (events bus) (parts.local bus);
        in_time = all_in_time stamps all (λ bus. subst (AllInTime stamps board) (sym (merged.has_part bus)) (parts.in_time bus));
        never_fall = merged.never_fall;
        fronts = λ lane.
            let from : ℕ = start_of board lane in
            let flight : (known board sent from (events_of all) lane).flight ≡ sent lane = ap (λ p. (local_world board (Came lane) p lane).flight) (sym (events from)) ∙ parts.is_sent lane in
            ([], append-nil (known board sent from (events_of all) lane).flight ∙ flight);
        parts = λ lane.
            let put : stamps lane ≡ put_stamps board (Came lane) lane (stamped_on board (start_of board lane) all) = ap (put_stamps board (Came lane) lane) (sym (merged.has_part (start_of board lane))) in
            ([], put ∙ sym (append-nil (put_stamps board (Came lane) lane (stamped_on board (start_of board lane) all))), tt);
      })
