-- An initiator that is granted the bus, and nothing is done.
use Rattle.std.proofs.Common.{◌≡◌, ℕ, Bool, true, false, List, [], ◌∷◌, length, Option, Some, None, refl, sym, ap, subst, ◌∙◌, arith, slice_get}
use Rattle.std.proofs.lemmas.Bool.{and_parts}
use Rattle.std.proofs.lemmas.List.{length-append}
use Rattle.pci_command.specs.declared.op_id.OpId.{OpId}
use Rattle.board_model.specs.declared.board.Board.{Board}
use Rattle.history_model.specs.declared.event.By.{By}
use Rattle.history_model.specs.declared.event.By.TheVariants.{Master, Lane as ByLane}
use Rattle.history_model.specs.declared.event.Stamped.{Stamped}
use Rattle.history_model.specs.Program.{turn_of}
use Rattle.history_model.proofs.facts.RequestLemmas.{same_op_true}
use Rattle.history_model.specs.Answers.{is_on, is_turn}
use Rattle.law_local.specs.Quiet.{IsRetry}
use Rattle.lane_items.specs.declared.item.Item.{Item}
use Rattle.bus_core.specs.port.Port.{PortView}
use Rattle.bus_agents.specs.Turns.{MasterView}
use Rattle.bus_core.specs.declared.given.Acted.{Acted}
use Rattle.bus_core.specs.declared.given.Served.{Served}
use Rattle.bus_core.specs.declared.given.Served.TheVariants.{Nothing, Retried, TurnsBack as Back, Did}
use Rattle.bus_core.specs.Bus.{BusView, shape_of}
use Rattle.bus_core.specs.Serves.{Serves, ServesTurn, ServesMaster}
use Rattle.bus_core.proofs.ListLemmas.{get_map}
use Rattle.bus_segment.specs.Turn.{Records, Finishes}
use Rattle.bus_segment.specs.Steps.{GetsRetry, IsOfMaster, IsOfLane, Retries}

-- no event, and no stop
abbrev IsIdle : Served → Type 0
IsIdle Nothing = Unit {0}
IsIdle Retried = Unit {0}
IsIdle Back = ⊥
IsIdle (Did acted) = ⊥

module _ {End : Type 0} (had sent got : End → List Item) (kept : End → ℕ) (paired : End → End → Type 0) where
  records_idle : (acted : Acted) (stamp : ℕ) (ends after : List End) (events all : List Stamped) (stopped : Bool) → Records had sent got kept paired acted stamp ends after events all stopped → length all ≡ length events → stopped ≡ false → ⊥
  records_idle acted stamp ends after events all false done same on = let many = ap length done.event in omega (arith, length-append events (record { stamp = stamp; event = acted.event } ∷ []))
  records_idle acted stamp ends after events all true done same on = cc

  idle : (presented : Served) (stamp : ℕ) (ends after : List End) (events all : List Stamped) (stopped : Bool) → Finishes had sent got kept paired presented stamp ends after events all stopped → length all ≡ length events → stopped ≡ false
      → IsIdle presented × (after ≡ ends)
  idle Nothing stamp ends after events all stopped done same on = (tt, done.0)
  idle Retried stamp ends after events all stopped done same on = (tt, done.0)
  idle Back stamp ends after events all stopped done same on = let off = done.2 in cc
  idle (Did acted) stamp ends after events all stopped done same on = absurd (records_idle acted stamp ends after events all stopped done same on)

  module _ (board : Board) (old new : BusView) where
    -- what was presented got a Retry
    retry_same : (by : By) (o : OpId) (presented : Served) → Serves board by o old presented new → IsIdle presented → (presented ≡ Retried → new ≡ old) → new ≡ old
    retry_same by o Nothing serves is same = absurd serves
    retry_same by o Retried serves is same = same refl
    retry_same by o Back serves is same = absurd is
    retry_same by o (Did acted) serves is same = absurd is

    retried : (by : By) (o : OpId) (presented : Served) → Serves board by o old presented new → IsIdle presented → GetsRetry board old by o
    retried by o Nothing serves is = absurd serves
    retried by o Retried serves is = record { retry = λ tags world p stands wants. subst IsRetry (sym (serves.1.presents tags world p stands).answer_is) tt }
    retried by o Back serves is = absurd is
    retried by o (Did acted) serves is = absurd is

    -- a master presents its turn alone
    same_turn : (o : OpId) (turn : Option OpId) → is_turn o turn ≡ true → turn ≡ Some o
    same_turn o None is = cc
    same_turn o (Some other) is = ap Some (same_op_true other o is)

    turn_same : (turn : Option OpId) (presented : Served) → ServesTurn board turn old presented new → IsIdle presented → (presented ≡ Retried → new ≡ old) → new ≡ old
    turn_same None presented serves is same = serves.1
    turn_same (Some o) presented serves is same = retry_same Master o presented serves is same

    turn_retried : (turn : Option OpId) (presented : Served) → ServesTurn board turn old presented new → IsIdle presented → (o : OpId) → turn ≡ Some o → GetsRetry board old Master o
    turn_retried None presented serves is o turn_is = cc
    turn_retried (Some other) presented serves is o turn_is = let same : other ≡ o = cc in subst (λ x. GetsRetry board old Master x) same (retried Master other presented serves is)

    pub master_retries : (place : ℕ) (presented : Served) (stamp : ℕ) (ends after : List End) (events all : List Stamped) (stopped : Bool) → ServesMaster board place old presented new → (presented ≡ Retried → new ≡ old)
        → Finishes had sent got kept paired presented stamp ends after events all stopped → length all ≡ length events → stopped ≡ false
        → Retries board old new ends after (IsOfMaster (shape_of old) place)
    master_retries place presented stamp ends after events all stopped serves stays done same on =
        let no_event = idle presented stamp ends after events all stopped done same on in
        record {
          same_ends = no_event.1;
          same_bus = turn_same serves.master.turn presented serves.serves no_event.0 stays;
          retried = λ by o is.
              subst (λ b. GetsRetry board old b o) (sym is.is_by) (record {
                retry = λ tags world p stands wants.
                    let number : slice_get (shape_of old).masters place ≡ Some serves.master.master = get_map (λ (m : MasterView). m.master) old.masters place serves.master serves.there in
                    let both = sym number ∙ is.master in
                    let master : serves.master.master ≡ o.master = cc in
                    let turn = and_parts (is_on old.bus (slice_get board.masters o.master)) (is_turn o (turn_of board p o.master)) wants in
                    let stands_there = (stands.masters place serves.master serves.there).turn in
                    let turn_is : serves.master.turn ≡ Some o = stands_there ∙ (ap (turn_of board p) master ∙ same_turn o (turn_of board p o.master) turn.1) in
                    (turn_retried serves.master.turn presented serves.serves no_event.0 o turn_is).retry tags world p stands wants;
              });
        }

    pub offer_retries : (place : ℕ) (port : PortView) (op : OpId) (presented : Served) (stamp : ℕ) (ends after : List End) (events all : List Stamped) (stopped : Bool) → slice_get old.ports place ≡ Some port → Serves board (ByLane port.lane) op old presented new → (presented ≡ Retried → new ≡ old)
        → Finishes had sent got kept paired presented stamp ends after events all stopped → length all ≡ length events → stopped ≡ false
        → Retries board old new ends after (IsOfLane (shape_of old) place op)
    offer_retries place port op presented stamp ends after events all stopped there serves stays done same on =
        let no_event = idle presented stamp ends after events all stopped done same on in
        record {
          same_ends = no_event.1;
          same_bus = retry_same (ByLane port.lane) op presented serves no_event.0 stays;
          retried = λ by o is.
              let lane = get_map (λ (x : PortView). x.lane) old.ports place port there in
              let both = sym lane ∙ is.there in
              let one : port.lane ≡ is.lane = cc in
              let by_is : by ≡ ByLane port.lane = is.is_by ∙ ap ByLane (sym one) in
              subst (λ b. GetsRetry board old b o) (sym by_is) (subst (λ x. GetsRetry board old (ByLane port.lane) x) (sym is.same) (retried (ByLane port.lane) op presented serves no_event.0));
        }
