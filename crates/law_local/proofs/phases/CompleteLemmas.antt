-- An engine between two phases, and at its end.
use Rattle.std.proofs.Common.{◌≡◌, ℕ, true, List, [], ◌++◌, Option, Some, None, refl, sym, ap, subst, ◌∙◌, append-nil}
use Rattle.std.proofs.Math.Path.{fun_ext}
use Rattle.board_model.specs.declared.bridge.Bridge.{Bridge}
use Rattle.board_model.specs.declared.bridge.Lane.{Lane as BridgeLane}
use Rattle.board_model.specs.declared.board.Board.{Board}
use Rattle.board_model.specs.Valid.{is_bus, IsValid}
use Rattle.board_model.specs.Ways.{end_of}
use Rattle.history_model.specs.declared.event.Event.{Event}
use Rattle.history_model.specs.declared.event.Stamped.{Stamped}
use Rattle.history_model.specs.declared.item.Carried.{Carried}
use Rattle.history_model.specs.Lanes.{LaneState}
use Rattle.history_model.specs.World.{World}
use Rattle.history_model.specs.Answers.{bridge_to}
use Rattle.history_model.specs.Runs.{Complete}
use Rattle.law_local.specs.Known.{events_on, known}
use Rattle.law_local.specs.Stamps.{events_of, IsMerged}
use Rattle.lane_items.specs.declared.item.Item.{Item}
use Rattle.law_local.specs.phases.Pasts.{RunSoFar}
use Rattle.law_local.specs.phases.Taken.{BusesAreQuiet, AllGetARetry}
use Rattle.law_local.specs.phases.Engine.{ending_on, Stands, Engine, Worked, AllInOrder, put_up_to, put_in, did_by, known_at_end}
use Rattle.law_local.proofs.phases.QuietLemmas.{empty, buses_complete}
use Rattle.law_local.proofs.phases.EngineLemmas.{all_past, worked_run, did_is, knows_is, ending_here}

module _ (carries : Item → Carried) (stamp_of : Item → ℕ) (board : Board) (received hand : BridgeLane → List Item) (part : ℕ → List Stamped) (engine : Engine carries stamp_of board received hand part) where
  abbrev Nothing : BridgeLane → List Item
  Nothing lane = []

  -- a phase in which nothing was done yet
  begun : Worked carries stamp_of board received hand Nothing Nothing part
  begun =
      let same_received : received ≡ (λ lane. received lane ++ []) = fun_ext (λ lane. sym (append-nil (received lane))) in
      let same_put : (λ lane. received lane ++ hand lane) ≡ (λ lane. received lane ++ (hand lane ++ [])) = fun_ext (λ lane. ap (λ (l : List Item). received lane ++ l) (sym (append-nil (hand lane)))) in
      record {
        taken = Nothing;
        not_taken = Nothing;
        got_is = λ lane. refl;
        each = λ bus there.
            subst (λ (r : BridgeLane → List Item). Stands carries stamp_of board bus r (λ lane. received lane ++ (hand lane ++ [])) (part bus)) same_received
            (subst (λ (q : BridgeLane → List Item). Stands carries stamp_of board bus received q (part bus)) same_put (engine.each bus there));
        no_other = engine.no_other;
        received_there = engine.received_there;
        hand_there = engine.hand_there;
        got_there = λ lane missing. refl;
        sent_there = λ lane missing. refl;
      }

  abbrev None_kept : BridgeLane → ℕ
  None_kept lane = 0

  in_order : AllInOrder board hand Nothing Nothing None_kept
  in_order lane bridge some = (hand lane, sym (append-nil (hand lane)))

  pub engine_run : IsValid board → (all : List Stamped) → IsMerged board part all → RunSoFar board (put_in carries received hand Nothing) (events_of all)
  engine_run valid all merged = worked_run carries stamp_of board received hand Nothing Nothing part begun None_kept in_order valid all merged

  -- where nothing is in hand nothing comes to a bus
  nothing_comes : IsValid board → (all : List Stamped) → IsMerged board part all → ((lane : BridgeLane) → hand lane ≡ []) → (bus : ℕ) → is_bus board bus ≡ true → (lane : BridgeLane) → end_of board lane ≡ bus
      → (known board (put_in carries received hand Nothing) bus (events_of all) lane).flight ≡ []
  unfolding begun
  nothing_comes valid all merged none bus there lane ends =
      let h : List Event = events_of all in
      let so_far = engine_run valid all merged in
      let P : Option Bridge → Type 0 = λ found. bridge_to board lane.bus ≡ found → (known board (put_in carries received hand Nothing) bus h lane).flight ≡ [] in
      (elim (bridge_to board lane.bus) as P [
        | None ↦ λ missing.
            let G : ℕ → Type 0 = λ n. (known board (put_in carries received hand Nothing) n h lane).flight ≡ [] in
            subst G ends (sym (so_far.all_sent lane) ∙ ap (λ (s : LaneState). s.flight) (empty board valid (put_in carries received hand Nothing) h so_far lane missing))
        | Some bridge ↦ λ some.
            let comes : ending_on board bus (put_up_to received hand Nothing) lane ≡ (received lane ++ []) ++ [] =
            ending_here board bus (put_up_to received hand Nothing) lane ends
            ∙ (ap (λ (l : List Item). received lane ++ (l ++ [])) (none lane) ∙ sym (append-nil (received lane ++ []))) in
            let past = all_past carries stamp_of board received hand Nothing Nothing part begun None_kept in_order bus there in
            ap (λ (w : World). (w lane).flight) (knows_is carries board received hand Nothing part all bus merged) ∙ past.left lane bridge [] some ends comes
      ]) refl

  pub engine_complete : IsValid board → (all : List Stamped) → IsMerged board part all → ((lane : BridgeLane) → hand lane ≡ [])
      → ((bus : ℕ) → is_bus board bus ≡ true → AllGetARetry board (known_at_end carries board received hand Nothing part bus) (did_by part bus) bus) → Complete board (events_of all)
  engine_complete valid all merged none retried =
      let h : List Event = events_of all in
      let sent : BridgeLane → List Carried = put_in carries received hand Nothing in
      let so_far = engine_run valid all merged in
      let quiet : BusesAreQuiet board sent h = λ bus there.
      let all_retried : AllGetARetry board (known board sent bus h) (events_on board bus h) bus =
      subst (λ (w : World). AllGetARetry board w (events_on board bus h) bus) (sym (knows_is carries board received hand Nothing part all bus merged))
      (subst (λ (p : List Event). AllGetARetry board (known_at_end carries board received hand Nothing part bus) p bus) (sym (did_is board part all bus merged)) (retried bus there)) in
      record { nothing_comes = nothing_comes valid all merged none bus there; retried = all_retried } in
      buses_complete board valid sent h so_far quiet
