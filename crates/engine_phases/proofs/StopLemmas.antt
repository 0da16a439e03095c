-- No segment has a cause to stop.
use Rattle.std.proofs.Common.{◌≡◌, ℕ, ◌^◌, ◌<◌, ◌≤◌, nat_lt, not, ◌&&◌, Bool, true, false, List, [], ◌∷◌, ◌++◌, length, Option, Some, None, option_to_list, inl, inr, refl, sym, ap, subst, ◌∙◌, arith}
use Rattle.std.proofs.lemmas.Bool.Decides.{nat_tests}
use Rattle.pci_command.specs.declared.op_id.OpId.{OpId}
use Rattle.board_model.specs.declared.bridge.Bridge.{Bridge}
use Rattle.board_model.specs.declared.bridge.Lane.{Lane as BridgeLane}
use Rattle.board_model.specs.declared.board.Board.{Board}
use Rattle.board_model.specs.Requests.{request_of}
use Rattle.board_model.specs.Valid.{IsValid}
use Rattle.board_model.specs.Ways.{start_of, end_of, lane_back}
use Rattle.history_model.specs.declared.event.Event.{Event}
use Rattle.history_model.specs.declared.event.Stamped.{Stamped}
use Rattle.history_model.specs.declared.item.Carried.{Carried}
use Rattle.history_model.specs.declared.item.Carried.TheVariants.{Post, Ask, Done, Room, Gone}
use Rattle.history_model.specs.Answers.{bridge_to}
use Rattle.history_model.specs.Local.{bus_of, local_world, AllowedLocally, is_lawful_on}
use Rattle.law_local.specs.Stamps.{events_of, IsMerged}
use Rattle.law_local.proofs.Laws.{start_back}
use Rattle.lane_items.specs.declared.item.Item.{Item}
use Rattle.bus_face.specs.Arrivals.{carried}
use Rattle.bus_core.specs.Calls.{stamp_of}
use Rattle.bus_core.specs.Serves.{is_there_as, names_its_kind}
use Rattle.bus_segment.specs.Segment.{lanes_known}
use Rattle.bus_segment.specs.Turn.{TurnsBack, Refuses, HasNoRoom, StopsAt}
use Rattle.law_local.specs.phases.Taken.{HasRequest, HasItsKind}
use Rattle.law_local.specs.phases.Engine.{Worked, AllInOrder, ending_on, carried_to, put_up_to, did_by}
use Rattle.law_local.proofs.phases.Laws.{refused_taken, never_back, keeps_fewer}
use Rattle.law_local.specs.room.Room.{Puts}
use Rattle.engine_phases.specs.Workers.{IsStampedBelow}

-- an item of its kind names it
there_as : (board : Board) (bus : ℕ) (posted : Bool) (o : OpId) → HasRequest board bus posted o → is_there_as posted (request_of board o bus) ≡ true
there_as board bus true o has = ap (is_there_as true) has.is_request ∙ has.kind
there_as board bus false o has = ap (is_there_as false) has.is_request ∙ ap not has.kind

kind_named : (board : Board) (bus : ℕ) (item : Carried) → HasItsKind board bus item → names_its_kind board bus item ≡ true
kind_named board bus (Post op) has = there_as board bus true op has
kind_named board bus (Ask op slot) has = there_as board bus false op has
kind_named board bus (Done op slot outcome) has = there_as board bus false op has
kind_named board bus Room has = refl
kind_named board bus (Gone slot) has = refl

all_true : (a b c : Bool) → a ≡ true → b ≡ true → c ≡ true → ((a && b) && c) ≡ false → ⊥
all_true a b c one two three none =
    let both : ((a && b) && c) ≡ true = ap (λ x. (x && b) && c) one ∙ (ap (λ x. (true && x) && c) two ∙ three) in
    let wrong : true ≡ false = sym both ∙ none in cc

module _ (board : Board) (valid : IsValid board) (received hand taken not_taken sent : BridgeLane → List Item) (kept : BridgeLane → ℕ) (part : ℕ → List Stamped) (all : List Stamped)
    (worked : Worked carried stamp_of board received hand (λ l. taken l ++ not_taken l) sent part) (same : (l : BridgeLane) → worked.not_taken l ≡ not_taken l)
    (ordered : AllInOrder board hand (λ l. taken l ++ not_taken l) sent kept) (merged : IsMerged board part all) (lane : BridgeLane) (bridge : Bridge) (some : bridge_to board lane.bus ≡ Some bridge) where
  abbrev Put : BridgeLane → List Item
  Put = put_up_to received hand sent

  abbrev Bus : ℕ
  Bus = end_of board lane

  no_refusal : (refused : Option Item) → not_taken lane ≡ option_to_list refused → IsStampedBelow (2 ^ 31) refused → Refuses board Bus (lanes_known board (ending_on board Bus Put) (part Bus)) lane refused → ⊥
  no_refusal None is low cause = cause
  no_refusal (Some item) is low cause =
      let next = refused_taken carried stamp_of board received hand (λ l. taken l ++ not_taken l) sent part worked kept ordered valid all merged lane bridge item [] some (same lane ∙ is) in
      let below : nat_lt (stamp_of item) (2 ^ 31) ≡ true = grind (arith, nat_tests) in
      all_true (is_lawful_on board (lanes_known board (ending_on board Bus Put) (part Bus)) lane (carried item)) (names_its_kind board Bus (carried item)) (nat_lt (stamp_of item) (2 ^ 31)) next.0
      (kind_named board Bus (carried item) next.1) below cause

  no_way_back : TurnsBack board Bus (lanes_known board (ending_on board Bus Put) (part Bus)) (events_of (part Bus)) lane → ⊥
  no_way_back back =
      never_back carried stamp_of board received hand (λ l. taken l ++ not_taken l) sent part worked kept ordered valid all merged lane back.op back.request back.wanted back.is_request back.claims

  no_want : kept (lane_back lane) ≤ length (sent (lane_back lane)) → HasNoRoom board Bus (ending_on board Bus Put) (part Bus) lane (kept (lane_back lane)) → ⊥
  no_want were_sent cause =
      let back : BridgeLane = lane_back lane in
      let starts : start_of board back ≡ Bus = start_back board lane in
      let e : Event = cause.1.0 in
      let sends = cause.1.1 in
      let F : ℕ → Type 0 = λ n.
      (bus_of board e ≡ n) × AllowedLocally board (carried_to carried board Put n) (did_by part n) e
      × (length (local_world board (carried_to carried board Put n) (did_by part n) back).flight < length (local_world board (carried_to carried board Put n) (e ∷ did_by part n) back).flight) in
      let there : F (start_of board back) = subst F (sym starts) (sends.here, sends.allowed, sends.puts) in
      let puts : Puts board (carried_to carried board Put) (did_by part) back e = record { here = there.0; allowed = there.1; more = there.2 } in
      let few = keeps_fewer carried stamp_of board received hand (λ l. taken l ++ not_taken l) sent part worked kept ordered valid back bridge e some were_sent puts in
      absurd (omega (arith, few, cause.0))

  pub no_stop : (refused : Option Item) → not_taken lane ≡ option_to_list refused → IsStampedBelow (2 ^ 31) refused → kept (lane_back lane) ≤ length (sent (lane_back lane))
      → StopsAt board Bus (ending_on board Bus Put) (part Bus) lane refused (kept (lane_back lane)) → ⊥
  no_stop refused is low were_sent stops =
      elim stops.cause [
        | inl refuses ↦ no_refusal refused is low refuses
        | inr (inl back) ↦ no_way_back back
        | inr (inr full) ↦ no_want were_sent full
      ]
