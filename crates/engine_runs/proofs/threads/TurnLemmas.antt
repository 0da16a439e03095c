-- Turns of one worker, one after the other.
use Rattle.std.proofs.Common.{◌≡◌, ℕ, ◌+◌, ◌-◌, ◌<◌, ◌≤◌, Bool, true, false, List, length, vec_len, refl, sym, ◌∙◌, arith}
use Rattle.std.specs.Vec.{vec_capacity}
use Rattle.board_model.specs.Limits.{room_of_a_turn}
use Rattle.board_model.specs.declared.board.Board.{Board}
use Rattle.history_model.specs.declared.event.Stamped.{Stamped}
use Rattle.lane_items.specs.declared.item.Item.{Item}
use Rattle.bus_core.specs.Bus.{shape_of}
use Rattle.bus_segment.specs.Segment.{SegmentView}
use Rattle.bus_segment.specs.Stands.{WorkerView}
use Rattle.bus_segment.specs.Turn.{Does}
use Rattle.bus_segment.specs.Steps.{ArrivedUpTo}
use Rattle.bus_segment.specs.declared.turns.worker.Worker.{Worker}
use Rattle.bus_segment.proofs.turns.WorkLemmas.{stamps_further}
use Rattle.engine_phases.specs.Phase.{Turned}
use Rattle.engine_runs.specs.Loop.{seen}
use Rattle.engine_runs.proofs.Laws.{ports_same, masters_same}
use Rattle.engine_runs.specs.threads.Turns.{HasRoom, HasTurned, Ran}

-- two steps of a segment are one
abbrev pub Further : {End : Type 0} → (End → List Item) → (End → List Item) → (End → List Item) → (End → ℕ) → (End → End → Type 0) → Type 0
Further {End} had sent got kept paired =
    (board : Board) (old mid new : SegmentView) (ends between after : List End) (events some all : List Stamped) → old.stopped ≡ false → mid.stopped ≡ false → Does had sent got kept paired board old mid ends between events some
    → Does had sent got kept paired board mid new between after some all → Does had sent got kept paired board old new ends after events all

module _ {End : Type 0} (had sent got : End → List Item) (kept : End → ℕ) (paired : End → End → Type 0) (board : Board) where
  turns_more : Further had sent got kept paired → (old mid new : WorkerView End) (first second : ℕ) → 0 < first → old.segment.stopped ≡ false → mid.segment.stopped ≡ false
      → Turned had sent got kept paired board old mid first → Turned had sent got kept paired board mid new second → Turned had sent got kept paired board old new (first + second)
  turns_more further old mid new first second some on on_mid one two = record {
    shape = two.shape ∙ one.shape;
    does = further board old.segment mid.segment new.segment old.ends mid.ends new.ends old.events mid.events new.events on on_mid one.does two.does;
    many = let a = one.many in let b = two.many in omega (arith, a, b);
    quiet = λ none. absurd (omega (arith, none, some));
    stamps = stamps_further had sent got kept paired board old.segment mid.segment new.segment old.ends mid.ends new.ends mid.events new.events one.stamps two.does two.stamps;
  }

  -- one more turn
  pub turned_more : Further had sent got kept paired → (old : WorkerView End) (mid new : Worker End) (goes_on : Bool) → old.segment.stopped ≡ false → HasTurned had sent got kept paired board old mid true
      → HasTurned had sent got kept paired board (seen mid) new goes_on → HasTurned had sent got kept paired board old new goes_on
  turned_more further old mid new goes_on on one two =
      let some = one.some refl in
      let room = one.room refl in
      record {
        count = one.count + two.count;
        turned = turns_more further old (seen mid) (seen new) one.count two.count some on room.ready.going one.turned two.turned;
        counts = two.counts;
        some = λ on_again. omega (arith, some);
        room = two.room;
      }

  -- what was done is done, whether it goes on or not
  pub ran_of : (old : WorkerView End) (new : Worker End) (goes_on : Bool) → HasTurned had sent got kept paired board old new goes_on → Ran had sent got kept paired board old (seen new)
  ran_of old new goes_on turned = record { count = turned.count; turned = turned.turned; counts = turned.counts }

  -- after a turn there may be another
  pub may_turn : (old new : Worker End) → HasRoom board old → shape_of new.segment.bus ≡ shape_of old.segment.bus → length new.segment.ends.items ≡ length old.segment.ends.items
      → (new.segment.stopped ≡ false → ArrivedUpTo (length new.segment.events.items) new.segment.bus) → new.segment.stopped ≡ false → room_of_a_turn ≤ vec_capacity new.segment.events - vec_len new.segment.events → HasRoom board new
  may_turn old new before shape many counts on spare =
      let ports = ports_same (seen new) (seen old) shape in
      let masters = masters_same (seen new) (seen old) shape in
      let few_ports = before.ready.few_ports in
      let few_masters = before.ready.few_masters in
      record {
        valid = before.valid;
        ready = record {
          going = on;
          one_a_port = many ∙ (before.ready.one_a_port ∙ sym ports);
          few_ports = omega (arith, ports, few_ports);
          few_masters = omega (arith, masters, few_masters);
          counts = counts on;
        };
        room = spare;
      }
