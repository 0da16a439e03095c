-- What all buses did up to now is a run.
use Rattle.std.proofs.Common.{◌≡◌, ℕ, ◌==◌, Bool, true, false, cond, List, [], ◌∷◌, ◌++◌, Option, Some, None, refl, sym, ap, subst, ◌∙◌, append-nil, slice_get}
use Rattle.std.proofs.Math.Path.{fun_ext}
use Rattle.std.proofs.lemmas.List.{append_cancel_left}
use Rattle.board_model.specs.declared.bridge.Bridge.{Bridge}
use Rattle.board_model.specs.declared.bridge.Lane.{Lane as BridgeLane}
use Rattle.board_model.specs.declared.board.Board.{Board}
use Rattle.board_model.specs.Valid.{is_bus, IsValid}
use Rattle.board_model.specs.Ways.{start_of, end_of}
use Rattle.history_model.specs.declared.event.Event.{Event}
use Rattle.history_model.specs.declared.event.Event.TheVariants.{Act, Arrive}
use Rattle.history_model.specs.declared.event.Stamped.{Stamped}
use Rattle.history_model.specs.declared.item.Carried.{Carried}
use Rattle.history_model.specs.Lanes.{LaneState}
use Rattle.history_model.specs.World.{world_of}
use Rattle.history_model.specs.Answers.{bridge_to}
use Rattle.history_model.specs.Local.{bus_of, local_world, LocalRun}
use Rattle.law_lanes.specs.order.Sent.{arrivals}
use Rattle.law_local.specs.Known.{events_on, coming_to, BetweenBuses, known, JointRun}
use Rattle.law_local.specs.Stamps.{events_of, put_stamps, IsInTime, AllInTime, stamps_of, LocalParts, IsMerged}
use Rattle.law_local.proofs.Laws.{IsFit-valid, woven_run, merged_woven, lane_apart, stamped_events}
use Rattle.law_local.specs.phases.Pasts.{BusPast, AllPasts, RunSoFar}
use Rattle.law_local.proofs.phases.BridgeLemmas.{untouched}
use Rattle.law_local.proofs.phases.BusLemmas.{not_there, start_is_bus}

-- what comes to a bus of nothing is nothing
nothing_comes : (board : Board) (bus : ℕ) (sent : BridgeLane → List Carried) (lane : BridgeLane) → sent lane ≡ [] → coming_to board bus sent lane ≡ []
nothing_comes board bus sent lane none =
    let P : Bool → Type 0 = λ b. cond b (sent lane) [] ≡ [] in elim (end_of board lane == bus) as P [ true ↦ none | false ↦ refl ]

-- an arrival in time by one list of stamps is so by another where they agree on lanes of bridges that end on the bus, and
-- there are none elsewhere
one_retimed : (board : Board) (bus : ℕ) (times others : BridgeLane → List ℕ)
    → ((lane : BridgeLane) (bridge : Bridge) → bridge_to board lane.bus ≡ Some bridge → end_of board lane ≡ bus → times lane ≡ others lane)
    → ((lane : BridgeLane) → bridge_to board lane.bus ≡ None → end_of board lane ≡ bus → times lane ≡ []) → (past : List Stamped) (stamp : ℕ) (e : Event) → bus_of board e ≡ bus
    → IsInTime times board past stamp e → IsInTime others board past stamp e
one_retimed board bus times others same none past stamp (Act on by o step place) here is = tt
one_retimed board bus times others same none past stamp (Arrive lane mark) here is =
    let n : ℕ = arrivals lane (events_of past) in
    let put : ℕ = is.1.0 in
    let P : Option Bridge → Type 0 = λ found. bridge_to board lane.bus ≡ found → slice_get (others lane) n ≡ Some put in
    let there : slice_get (others lane) n ≡ Some put = (elim (bridge_to board lane.bus) as P [
      | None ↦ λ missing. let wrong : None ≡ Some put = subst (λ (l : List ℕ). slice_get l n ≡ Some put) (none lane missing here) is.1.1 in cc
      | Some bridge ↦ λ some. subst (λ (l : List ℕ). slice_get l n ≡ Some put) (same lane bridge some here) is.1.1
    ]) refl in
    (is.0, (put, there, is.1.2))

retimed : (board : Board) (bus : ℕ) (times others : BridgeLane → List ℕ)
    → ((lane : BridgeLane) (bridge : Bridge) → bridge_to board lane.bus ≡ Some bridge → end_of board lane ≡ bus → times lane ≡ others lane)
    → ((lane : BridgeLane) → bridge_to board lane.bus ≡ None → end_of board lane ≡ bus → times lane ≡ []) → (came : BridgeLane → List Carried) (p : List Stamped) → LocalRun board bus came (events_of p)
    → AllInTime times board p → AllInTime others board p
retimed board bus times others same none came [] run is = tt
retimed board bus times others same none came (s ∷ past) run is =
    (one_retimed board bus times others same none past s.stamp s.event run.0 is.0, retimed board bus times others same none came past run.2 is.1)

-- what a bus did, where just what was put comes to it
record Exact (board : Board) (bus : ℕ) (sent : BridgeLane → List Carried) (stamps : BridgeLane → List ℕ) (p : List Stamped) : Type 0 where
  run : LocalRun board bus (coming_to board bus sent) (events_of p)
  times : BridgeLane → List ℕ
  timed : (lane : BridgeLane) → end_of board lane ≡ bus → times lane ≡ stamps lane
  in_time : AllInTime times board p
  puts : (lane : BridgeLane) (bridge : Bridge) → bridge_to board lane.bus ≡ Some bridge → start_of board lane ≡ bus → (local_world board (coming_to board bus sent) (events_of p) lane).flight ≡ sent lane
  stamped : (lane : BridgeLane) (bridge : Bridge) → bridge_to board lane.bus ≡ Some bridge → start_of board lane ≡ bus → put_stamps board (coming_to board bus sent) lane p ≡ stamps lane

exact : (board : Board) (bus : ℕ) (sent : BridgeLane → List Carried) (stamps : BridgeLane → List ℕ) (p : List Stamped) → BusPast board bus sent stamps p → Exact board bus sent stamps p
exact board bus sent stamps p past =
    let same : past.came ≡ coming_to board bus sent = fun_ext past.comes in
    record {
      run = subst (λ (c : BridgeLane → List Carried). LocalRun board bus c (events_of p)) same past.run;
      times = past.times;
      timed = past.timed;
      in_time = past.in_time;
      puts = λ lane bridge some starts. ap (λ (c : BridgeLane → List Carried). (local_world board c (events_of p) lane).flight) (sym same) ∙ past.puts lane bridge some starts;
      stamped = λ lane bridge some starts. ap (λ (c : BridgeLane → List Carried). put_stamps board c lane p) (sym same) ∙ past.stamped lane bridge some starts;
    }

module _ (board : Board) (valid : IsValid board) (sent : BridgeLane → List Carried) (stamps : BridgeLane → List ℕ) (part : ℕ → List Stamped) (pasts : AllPasts board sent stamps part) where
  -- nothing is put where no bridge is
  between : BetweenBuses board sent
  between lane same =
      let fit = IsFit-valid board valid in
      let P : Option Bridge → Type 0 = λ found. bridge_to board lane.bus ≡ found → sent lane ≡ [] in
      (elim (bridge_to board lane.bus) as P [
        | None ↦ λ missing. (pasts.bridges_alone lane missing).0
        | Some bridge ↦ λ some. absurd (lane_apart board lane bridge fit.tree some same)
      ]) refl

  -- a bus that the board lacks did nothing, and no lane of a bridge begins there
  no_past : (bus : ℕ) → is_bus board bus ≡ false → Exact board bus sent stamps (part bus)
  no_past bus lacks =
      let none : part bus ≡ [] = pasts.no_other bus lacks in
      subst (Exact board bus sent stamps) (sym none) (record {
        run = tt;
        times = stamps;
        timed = λ lane ends. refl;
        in_time = tt;
        puts = λ lane bridge some starts. absurd (not_there board bus (start_of board lane) lacks (start_is_bus board valid.buses lane bridge some) starts);
        stamped = λ lane bridge some starts. absurd (not_there board bus (start_of board lane) lacks (start_is_bus board valid.buses lane bridge some) starts);
      })

  each : (bus : ℕ) → Exact board bus sent stamps (part bus)
  each bus =
      let P : Bool → Type 0 = λ b. is_bus board bus ≡ b → Exact board bus sent stamps (part bus) in
      (elim (is_bus board bus) as P [
        | true ↦ λ there. exact board bus sent stamps (part bus) (pasts.each bus there)
        | false ↦ λ lacks. no_past bus lacks
      ]) refl

  -- all that was put on a lane is what its bus put there
  all_put : (lane : BridgeLane) → (local_world board (coming_to board (start_of board lane) sent) (events_of (part (start_of board lane))) lane).flight ≡ sent lane
  all_put lane =
      let bus : ℕ = start_of board lane in
      let came : BridgeLane → List Carried = coming_to board bus sent in
      let P : Option Bridge → Type 0 = λ found. bridge_to board lane.bus ≡ found → (local_world board came (events_of (part bus)) lane).flight ≡ sent lane in
      (elim (bridge_to board lane.bus) as P [
        | None ↦ λ missing.
            let none : (l : BridgeLane) → bridge_to board l.bus ≡ None → came l ≡ [] = λ l lacks. nothing_comes board bus sent l (pasts.bridges_alone l lacks).0 in
            let stays = untouched board came none bus (events_of (part bus)) (each bus).run lane missing in
            ap (λ (s : LaneState). s.flight) stays ∙ (none lane missing ∙ sym (pasts.bridges_alone lane missing).0)
        | Some bridge ↦ λ some. (each bus).puts lane bridge some refl
      ]) refl

  local_parts : LocalParts board sent part
  local_parts = record {
    local = λ bus. (each bus).run;
    is_sent = all_put;
    in_time = λ bus.
        let past = each bus in
        retimed board bus past.times (stamps_of board sent part)
        (λ lane bridge some ends. past.timed lane ends ∙ sym ((each (start_of board lane)).stamped lane bridge some refl))
        (λ lane missing ends. past.timed lane ends ∙ (pasts.bridges_alone lane missing).1) (coming_to board bus sent) (part bus) past.run past.in_time;
  }

  pub pasts_run : (all : List Stamped) → IsMerged board part all → RunSoFar board sent (events_of all)
  pasts_run all merged =
      let fit = IsFit-valid board valid in
      let h : List Event = events_of all in
      let joint : JointRun board sent h = woven_run board sent fit between h (merged_woven board fit sent part all local_parts merged) in
      record {
        joint = joint;
        all_sent = λ lane.
            let j = joint.joint lane in
            let bus : ℕ = start_of board lane in
            let own : events_on board bus h ≡ events_of (part bus) = stamped_events board bus all ∙ ap events_of (merged.has_part bus) in
            let put : (known board sent bus h lane).flight ≡ sent lane = ap (λ (p : List Event). (local_world board (coming_to board bus sent) p lane).flight) own ∙ all_put lane in
            let none : j.later ≡ [] =
            append_cancel_left (known board sent bus h lane).flight j.later [] (j.sent ∙ (sym put ∙ sym (append-nil (known board sent bus h lane).flight))) in
            sym (append-nil (world_of board h lane).flight) ∙ (ap (λ (l : List Carried). (world_of board h lane).flight ++ l) (sym none) ∙ j.flight);
        bridges_alone = λ lane missing. (pasts.bridges_alone lane missing).0;
      }
