-- Items are received from one end after another.
use Rattle.std.proofs.Common.{◌≡◌, ◌≢◌, ℕ, ◌+◌, ◌^◌, ◌<◌, ◌≤◌, Bool, true, false, ◌==◌, List, [], length, Option, Some, None, IfSome, refl, sym, ap, subst, ◌∙◌, arith, slice_get}
use Rattle.std.proofs.lemmas.Bool.{eqb-true, eqb-false}
use Rattle.std.proofs.lemmas.Option.{slice_get_within}
use Rattle.board_model.specs.declared.board.Board.{Board}
use Rattle.history_model.specs.declared.event.Stamped.{Stamped}
use Rattle.lane_items.specs.declared.item.Item.{Item}
use Rattle.lane_items.specs.Lane.{in_hand}
use Rattle.bus_core.specs.port.Port.{PortView}
use Rattle.bus_core.specs.Bus.{BusView, shape_of, arrivals_at}
use Rattle.bus_core.specs.Serves.{OneMoreAt}
use Rattle.bus_core.proofs.Laws.{get_map}
use Rattle.bus_segment.specs.Turn.{Does}
use Rattle.bus_segment.specs.Steps.{StampsRise, ArrivedUpTo, NothingCame}
use Rattle.bus_segment.specs.turns.Works.{seen, Works, NoneInHand}
use Rattle.bus_segment.proofs.turns.WorkLemmas.{none_arrived, one_arrived, does_grows}

-- the arrivals at a port can be counted
pub arrivals_fit : (s : BusView) (place most : ℕ) → ArrivedUpTo most s → most + 1 < 2 ^ 64 → IfSome (slice_get s.ports place) (λ port. port.face.arrivals + 1 < 2 ^ 64)
arrivals_fit s place most up fits =
    let P : Option PortView → Type 0 = λ found. slice_get s.ports place ≡ found → IfSome found (λ port. port.face.arrivals + 1 < 2 ^ 64) in
    (elim (slice_get s.ports place) as P [
      | None ↦ λ _. tt
      | Some port ↦ λ there. let count = up.up_to place port.face.arrivals (get_map (λ (x : PortView). x.face.arrivals) s.ports place port there) in omega arith
    ]) refl

module _ {End : Type 0} (had sent got : End → List Item) (kept : End → ℕ) (paired : End → End → Type 0) (board : Board) where
  pub receive_works : (place : ℕ) (old new : BusView) (stamp new_stamp : ℕ) (was stopped result : Bool) (ends after : List End) (events all : List Stamped) → was ≡ false
      → Does had sent got kept paired board (seen old stamp false) (seen new new_stamp stopped) ends after events all → shape_of new ≡ shape_of old → StampsRise sent got stamp new_stamp ends after → length all ≤ length events + 1
      → (result ≡ true → stopped ≡ false → length all ≡ length events + 1) → (result ≡ true → stopped ≡ false → OneMoreAt place (arrivals_at old) (arrivals_at new)) → (result ≡ false → new ≡ old) → (result ≡ false → all ≡ events)
      → Works had sent got kept paired board 1 (seen old stamp was) (seen new new_stamp stopped) ends after events all
  receive_works place old new stamp new_stamp was stopped result ends after events all going does shape stamps most recorded arrives same_bus same_events =
      let counted : stopped ≡ false → ArrivedUpTo (length events) old → ArrivedUpTo (length all) new =
      let P : Bool → Type 0 = λ b. result ≡ b → stopped ≡ false → ArrivedUpTo (length events) old → ArrivedUpTo (length all) new in
      (elim result as P [
        | true ↦ λ is on up. one_arrived place (length events) (length all) old new (recorded is on) (arrives is on) up
        | false ↦ λ is on up. let many = ap length (same_events is) in none_arrived (length events) (length all) old new (omega arith) (same_bus is) up
      ]) refl in
      record {
        does = subst (λ b. Does had sent got kept paired board (seen old stamp b) (seen new new_stamp stopped) ends after events all) (sym going) does;
        shape = shape;
        stamps = stamps;
        counts = counted;
        grows = does_grows had sent got kept paired board (seen old stamp false) (seen new new_stamp stopped) ends after events all does;
        most = most;
      }

-- nothing is in hand at the ends before this one
pub record NoneBefore {End : Type 0} (had got : End → List Item) (most : ℕ) (ends : List End) : Type 0 where
  pub none : (n : ℕ) (end : End) → n < most → slice_get ends n ≡ Some end → in_hand (had end) (got end) ≡ []

module _ {End : Type 0} (had got : End → List Item) where
  pub none_before : (ends : List End) → NoneBefore had got 0 ends
  none_before ends = record { none = λ n end below is. absurd (omega (arith, below)) }

  pub none_further : (place next : ℕ) (ends after : List End) → next ≡ place + 1 → NoneBefore had got place ends → NothingCame had got place ends after → NoneBefore had got next after
  none_further place next ends after more before came =
      record {
        none = λ n end below is.
            let P : Bool → Type 0 = λ b. (n == place) ≡ b → in_hand (had end) (got end) ≡ [] in
            (elim (n == place) as P [
              | true ↦ λ here. let number : n ≡ place = eqb-true n place here in came.nothing end (subst (λ m. slice_get after m ≡ Some end) number is)
              | false ↦ λ apart.
                  let other : n ≢ place = eqb-false n place apart in
                  let lower : n < place = omega (arith, other, below, more) in
                  before.none n end lower (sym (came.others n other) ∙ is)
            ]) refl;
      }

  pub none_in_hand : (most : ℕ) (ends : List End) → length ends ≤ most → NoneBefore had got most ends → NoneInHand had got ends
  none_in_hand most ends within before = record { none = λ n end is. before.none n end (let f = slice_get_within ends n end is in omega arith) is }
