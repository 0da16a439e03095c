-- The steps of a turn: an act, a Retry, and a stop.
use Rattle.std.proofs.Common.{◌≡◌, ℕ, zero, suc, ◌<◌, Bool, true, false, ◌==◌, List, [], ◌∷◌, ◌++◌, map, length, Option, Some, None, inl, inr, refl, sym, ap, subst, ◌∙◌, arith, slice_get}
use Rattle.std.proofs.lemmas.Bool.{eq-eqb}
use Rattle.std.proofs.lemmas.Option.{slice_get_within}
use Rattle.std.proofs.lemmas.List.{append-nil, length-append, length-map}
use Rattle.pci_command.specs.declared.op_id.OpId.{OpId}
use Rattle.board_model.specs.Limits.{most_waiting}
use Rattle.board_model.specs.declared.bridge.Lane.{Lane as BridgeLane}
use Rattle.board_model.specs.declared.board.Board.{Board}
use Rattle.board_model.specs.Ways.{lane_back}
use Rattle.history_model.specs.declared.event.By.{By}
use Rattle.history_model.specs.declared.event.By.TheVariants.{Master, Lane as ByLane}
use Rattle.history_model.specs.declared.event.Event.{Event}
use Rattle.history_model.specs.declared.event.Event.TheVariants.{Act}
use Rattle.history_model.specs.declared.event.Stamped.{Stamped}
use Rattle.history_model.specs.World.{World}
use Rattle.history_model.specs.Answers.{wants_in}
use Rattle.history_model.specs.Local.{LocalRun}
use Rattle.law_local.specs.Stamps.{events_of}
use Rattle.lane_items.specs.declared.item.Item.{Item}
use Rattle.bus_face.specs.Arrivals.{carried}
use Rattle.bus_core.specs.port.Port.{PortView}
use Rattle.bus_core.specs.declared.given.Sent.{Sent}
use Rattle.bus_core.specs.declared.given.Acted.{Acted}
use Rattle.bus_core.specs.declared.given.Served.{Served}
use Rattle.bus_core.specs.declared.given.Served.TheVariants.{Nothing, Retried, TurnsBack as Back, Did}
use Rattle.bus_core.specs.Bus.{BusView, Shape, shape_of, BusStands}
use Rattle.bus_core.specs.Calls.{items_at, IsStamped}
use Rattle.bus_core.specs.Serves.{BusTurnsBack, IsAct, Serves, SendsStamped, ServesTurn, ServesMaster}
use Rattle.bus_core.proofs.ListLemmas.{get_map, map_get}
use Rattle.bus_segment.specs.Segment.{PortPast, SegmentPast, SegmentGoes, Keeps, all_carried, lanes_known}
use Rattle.bus_segment.specs.Ends.{EndAfter, LacksRoom}
use Rattle.bus_segment.specs.Turn.{TurnsBack, Sends, StopsAt, Does, IsRecorded, Records, Finishes}
use Rattle.bus_segment.proofs.ActLemmas.{act_goes}
use Rattle.bus_segment.proofs.EndLemmas.{end_still}

-- a past in which nothing more was done, by a bus that stands for the same, or that stopped
pub same_past : (board : Board) (old new : BusView) (stamp : ℕ) (stopped : Bool) → shape_of new ≡ shape_of old
    → (stopped ≡ false → (tags : By → OpId → ℕ) (world : World) (p : List Event) → BusStands board tags world p old → BusStands board tags world p new)
    → SegmentGoes board (record { bus = old; stamp = stamp; stopped = false }) (record { bus = new; stamp = stamp; stopped = stopped }) [] (λ n. []) (λ n. [])
same_past board old new stamp stopped shape stays =
    record {
      goes = λ came p rest sent past.
          let bus : old.bus ≡ new.bus = sym (ap (λ (s : Shape). s.bus) shape) in
          record {
            run = subst (λ b. LocalRun board b (all_carried came) (events_of p)) bus past.run;
            bridges = past.bridges;
            never_fall = past.never_fall;
            up_to = past.up_to;
            in_time = past.in_time;
            ports = λ n lane is.
                let was : slice_get (shape_of old).lanes n ≡ Some lane = ap (λ (s : Shape). slice_get s.lanes n) (sym shape) ∙ is in
                subst (λ l. PortPast board came p lane (rest n) l) (sym (append-nil (sent n))) (past.ports n lane was);
            keeps = λ on. let kept : Keeps board (lanes_known board came p) p old = past.keeps refl in record { tags = kept.tags; stands = stays on kept.tags (lanes_known board came p) (events_of p) kept.stands };
          };
    }

-- something is at each place of a list
pub there_at : {X : Type 0} (xs : List X) (n : ℕ) → n < length xs → (x : X) × (slice_get xs n ≡ Some x)
there_at [] n within = absurd (omega arith)
there_at (x ∷ xs) zero within = (x, refl)
there_at (x ∷ xs) (suc n) within = there_at xs n (omega arith)

-- an end without room, and something that is to be sent there
abbrev IsFull : {End : Type 0} → (End → ℕ) → List End → Option Sent → Option Sent → Type 0
IsFull {End} kept ends over back = (n : ℕ) × ((end : End) × ((slice_get ends n ≡ Some end) × ((kept end ≡ most_waiting) × (0 < length (items_at over n ++ items_at back n)))))

here_one : (sent : Sent) → items_at (Some sent) sent.place ≡ sent.item ∷ []
here_one sent = let self : (sent.place == sent.place) ≡ true = eq-eqb sent.place sent.place refl in rw self refl

full_over : {End : Type 0} (kept : End → ℕ) (ends : List End) (over back : Option Sent) → LacksRoom kept ends over → IsFull kept ends over back
full_over kept ends None back lacks = absurd lacks
full_over kept ends (Some sent) back lacks =
    (sent.place, (lacks.0, (lacks.1, (lacks.2, let one : length (items_at (Some sent) sent.place) ≡ 1 = ap length (here_one sent) in omega (arith, one, length-append (items_at (Some sent) sent.place) (items_at back sent.place))))))

full_back : {End : Type 0} (kept : End → ℕ) (ends : List End) (over back : Option Sent) → LacksRoom kept ends back → IsFull kept ends over back
full_back kept ends over None lacks = absurd lacks
full_back kept ends over (Some sent) lacks =
    (sent.place, (lacks.0, (lacks.1, (lacks.2, let one : length (items_at (Some sent) sent.place) ≡ 1 = ap length (here_one sent) in omega (arith, one, length-append (items_at over sent.place) (items_at (Some sent) sent.place))))))

module _ {End : Type 0} (had sent got : End → List Item) (kept : End → ℕ) (paired : End → End → Type 0) (board : Board) (old new : BusView) (stamp : ℕ) (ends : List End) (events : List Stamped) (shape : shape_of new ≡ shape_of old) where
  abbrev DoesSo : Bool → List End → List Stamped → Type 0
  DoesSo stopped after kept_events = Does had sent got kept paired board (record { bus = old; stamp = stamp; stopped = false }) (record { bus = new; stamp = stamp; stopped = stopped }) ends after events kept_events

  same_ends : (n : ℕ) (end after : End) → slice_get ends n ≡ Some end → slice_get ends n ≡ Some after → EndAfter had sent got paired end after [] None []
  same_ends n end after was is =
      let both = sym was ∙ is in
      let same : end ≡ after = cc in
      subst (λ (e : End). EndAfter had sent got paired end e [] None []) same (end_still had sent got paired end)

  -- nothing happened
  pub does_nothing : ((tags : By → OpId → ℕ) (world : World) (p : List Event) → BusStands board tags world p old → BusStands board tags world p new) → DoesSo false ends events
  does_nothing stays =
      record {
        later = [];
        received = λ n. [];
        refused = λ n. None;
        puts = λ n. [];
        goes = same_past board old new stamp false shape (λ on. stays);
        recorded = sym (append-nil events);
        many = refl;
        at_ends = same_ends;
        none_refused = λ on n. refl;
        stops = λ on stopped. cc;
      }

  -- it stops
  pub does_stop : ((came : BridgeLane → List Item) (p : List Stamped) (rest put : ℕ → List Item) → SegmentPast board came p (record { bus = old; stamp = stamp; stopped = false }) (λ n. [] ++ rest n) put
      → (n : ℕ) × (lane : BridgeLane) × (end : End) × (slice_get (shape_of new).lanes n ≡ Some lane) × (slice_get ends n ≡ Some end) × StopsAt board new.bus came ([] ++ p) lane None (kept end)) → DoesSo true ends events
  does_stop cause =
      record {
        later = [];
        received = λ n. [];
        refused = λ n. None;
        puts = λ n. [];
        goes = same_past board old new stamp true shape (λ on. cc);
        recorded = sym (append-nil events);
        many = refl;
        at_ends = same_ends;
        none_refused = λ on n. refl;
        stops = λ on stopped came p rest put past. cause came p rest put past;
      }

  -- an act
  does_act : (by : By) (o : OpId) (acted : Acted) (after : List End) (kept_events : List Stamped) → IsAct board by o old acted new → IsStamped stamp acted.over → IsStamped stamp acted.back
      → IsRecorded had sent got paired acted stamp ends after events kept_events → DoesSo false after kept_events
  does_act by o acted after kept_events act over_stamp back_stamp done =
      let e : Event = Act old.bus by o act.step act.place in
      record {
        later = record { stamp = stamp; event = e } ∷ [];
        received = λ n. [];
        refused = λ n. None;
        puts = λ n. items_at acted.over n ++ items_at acted.back n;
        goes = act_goes board by o act.step act.place old new acted.over acted.back stamp act.presents shape over_stamp back_stamp;
        recorded = done.event ∙ ap (λ (x : Event). events ++ record { stamp = stamp; event = x } ∷ []) act.event;
        many = done.sends.many;
        at_ends = done.sends.each;
        none_refused = λ on n. refl;
        stops = λ on stopped. cc;
      }

  -- an act for which an end has no room
  does_lack : (by : By) (o : OpId) (acted : Acted) → IsAct board by o old acted new → length ends ≡ length old.ports → IsFull kept ends acted.over acted.back → DoesSo true ends events
  does_lack by o acted act paired_up full =
      does_stop (λ came p rest put past.
      let w : World = lanes_known board came p in
      let keeping : Keeps board w p old = past.keeps refl in
      let pr = act.presents.presents keeping.tags w (events_of p) keeping.stands in
      let n : ℕ = full.0 in
      let within : n < length old.ports = let f = slice_get_within ends n full.1.0 full.1.1.0 in omega arith in
      let port = there_at old.ports n within in
      let lane : BridgeLane = port.0.lane in
      let was : slice_get (shape_of old).lanes n ≡ Some lane = get_map (λ (x : PortView). x.lane) old.ports n port.0 port.1 in
      let is : slice_get (shape_of new).lanes n ≡ Some lane = ap (λ (s : Shape). slice_get s.lanes n) shape ∙ was in
      let e : Event = Act old.bus by o act.step act.place in
      let puts : List Item = items_at acted.over n ++ items_at acted.back n in
      let grown = pr.flights.from_bus n lane was in
      let many : length (map carried puts) ≡ length puts = simp length-map in
      let more : length (lanes_known board came p (lane_back lane)).flight < length (lanes_known board came (record { stamp = stamp; event = e } ∷ p) (lane_back lane)).flight =
      let some = full.1.1.1.1 in omega (arith, ap length grown, length-append (w (lane_back lane)).flight (map carried puts), many, some) in
      let sends : Sends board new.bus (all_carried came) (events_of p) lane e = record { here = sym (ap (λ (s : Shape). s.bus) shape); allowed = (pr.wanted, pr.answer_is); puts = more } in
      (n, lane, full.1.0, is, full.1.1.0, record { cause = inr (inr (full.1.1.1.0, (e, sends))) }))

  -- what a lane presents is claimed by its lane back
  does_turn_back : (by : By) (o : OpId) → BusTurnsBack board by o old → length ends ≡ length old.ports → ((lane : BridgeLane) → by ≡ ByLane lane → (n : ℕ) × (slice_get (shape_of old).lanes n ≡ Some lane)) → DoesSo true ends events
  does_turn_back by o turns paired_up where_is =
      does_stop (λ came p rest put past.
      let w : World = lanes_known board came p in
      let keeping : Keeps board w p old = past.keeps refl in
      let wanted = turns.wanted keeping.tags w (events_of p) keeping.stands in
      let back = turns.turns keeping.tags w (events_of p) keeping.stands in
      let place = where_is back.lane back.is_by in
      let n : ℕ = place.0 in
      let port = map_get (λ (x : PortView). x.lane) old.ports n back.lane place.1 in
      let within : n < length ends = let f = slice_get_within old.ports n port.0 port.1.0 in omega arith in
      let end = there_at ends n within in
      let is : slice_get (shape_of new).lanes n ≡ Some back.lane = ap (λ (s : Shape). slice_get s.lanes n) shape ∙ place.1 in
      let bus : old.bus ≡ new.bus = sym (ap (λ (s : Shape). s.bus) shape) in
      let found : TurnsBack board old.bus w (events_of p) back.lane = record {
        op = o;
        wanted = subst (λ b. wants_in board w (events_of p) old.bus b o ≡ true) back.is_by wanted;
        request = back.request;
        is_request = back.is_request;
        claims = back.claims;
      } in
      (n, back.lane, end.0, is, end.1, record { cause = inr (inl (subst (λ b. TurnsBack board b w (events_of p) back.lane) bus found)) }))

  -- whatever comes of an operation that is presented
  records_does : (by : By) (o : OpId) (acted : Acted) (stopped : Bool) (after : List End) (kept_events : List Stamped) → IsAct board by o old acted new → IsStamped stamp acted.over × IsStamped stamp acted.back → length ends ≡ length old.ports
      → Records had sent got kept paired acted stamp ends after events kept_events stopped → DoesSo stopped after kept_events
  records_does by o acted false after kept_events act stamped paired_up done = does_act by o acted after kept_events act stamped.0 stamped.1 done
  records_does by o acted true after kept_events act stamped paired_up done =
      let full : IsFull kept ends acted.over acted.back = elim done.full as (λ _. IsFull kept ends acted.over acted.back) [
        | inl over ↦ full_over kept ends acted.over acted.back over
        | inr back ↦ full_back kept ends acted.over acted.back back
      ] in
      subst (λ a. DoesSo true a kept_events) (sym done.same_ends) (subst (λ k. DoesSo true ends k) (sym done.same_events) (does_lack by o acted act paired_up full))

  pub serves_does : (by : By) (o : OpId) (presented : Served) (stopped : Bool) (after : List End) (kept_events : List Stamped) → Serves board by o old presented new → SendsStamped stamp presented → length ends ≡ length old.ports
      → ((lane : BridgeLane) → by ≡ ByLane lane → (n : ℕ) × (slice_get (shape_of old).lanes n ≡ Some lane))
      → Finishes had sent got kept paired presented stamp ends after events kept_events stopped → DoesSo stopped after kept_events
  serves_does by o Nothing stopped after kept_events serves stamped paired_up where_is done = absurd serves
  serves_does by o Retried stopped after kept_events serves stamped paired_up where_is done =
      subst (λ b. DoesSo b after kept_events) (sym done.2) (subst (λ a. DoesSo false a kept_events) (sym done.0) (subst (λ k. DoesSo false ends k) (sym done.1)
      (does_nothing (λ tags world p stands. (serves.1.presents tags world p stands).stands))))
  serves_does by o Back stopped after kept_events serves stamped paired_up where_is done =
      subst (λ b. DoesSo b after kept_events) (sym done.2) (subst (λ a. DoesSo true a kept_events) (sym done.0) (subst (λ k. DoesSo true ends k) (sym done.1) (does_turn_back by o serves paired_up where_is)))
  serves_does by o (Did acted) stopped after kept_events serves stamped paired_up where_is done = records_does by o acted stopped after kept_events serves stamped paired_up done

  turn_does : (turn : Option OpId) (presented : Served) (stopped : Bool) (after : List End) (kept_events : List Stamped) → ServesTurn board turn old presented new → SendsStamped stamp presented → length ends ≡ length old.ports
      → Finishes had sent got kept paired presented stamp ends after events kept_events stopped → DoesSo stopped after kept_events
  turn_does None presented stopped after kept_events serves stamped paired_up done =
      let F : Served → Type 0 = λ x. Finishes had sent got kept paired x stamp ends after events kept_events stopped in
      let nothing : (after ≡ ends) × (kept_events ≡ events) × (stopped ≡ false) = subst F serves.0 done in
      subst (λ b. DoesSo b after kept_events) (sym nothing.2) (subst (λ a. DoesSo false a kept_events) (sym nothing.0) (subst (λ k. DoesSo false ends k) (sym nothing.1)
      (does_nothing (λ tags world p stands. subst (λ s. BusStands board tags world p s) (sym serves.1) stands))))
  turn_does (Some o) presented stopped after kept_events serves stamped paired_up done =
      serves_does Master o presented stopped after kept_events serves stamped paired_up (λ lane is. cc) done

  pub master_does : (place : ℕ) (presented : Served) (stopped : Bool) (after : List End) (kept_events : List Stamped) → ServesMaster board place old presented new → SendsStamped stamp presented → length ends ≡ length old.ports
      → Finishes had sent got kept paired presented stamp ends after events kept_events stopped → DoesSo stopped after kept_events
  master_does place presented stopped after kept_events serves stamped paired_up done = turn_does serves.master.turn presented stopped after kept_events serves.serves stamped paired_up done

  pub offer_does : (place : ℕ) (port : PortView) (o : OpId) (presented : Served) (stopped : Bool) (after : List End) (kept_events : List Stamped) → slice_get old.ports place ≡ Some port → Serves board (ByLane port.lane) o old presented new
      → SendsStamped stamp presented → length ends ≡ length old.ports → Finishes had sent got kept paired presented stamp ends after events kept_events stopped → DoesSo stopped after kept_events
  offer_does place port o presented stopped after kept_events there serves stamped paired_up done =
      serves_does (ByLane port.lane) o presented stopped after kept_events serves stamped paired_up
      (λ lane is. let same : port.lane ≡ lane = cc in (place, get_map (λ (x : PortView). x.lane) old.ports place port there ∙ ap Some same)) done
