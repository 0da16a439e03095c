-- One phase of the loop.
use Rattle.std.proofs.Common.{ℕ, ◌+◌, Bool, List}
use Rattle.board_model.specs.declared.board.Board.{Board}
use Rattle.lane_items.specs.declared.item.Item.{Item}
use Rattle.bus_segment.specs.Stands.{WorkerView}
use Rattle.engine_phases.specs.Phase.{AfterPhases, NoneStopped, AllSettled}
use Rattle.engine_runs.specs.declared.settling.Above.{Above}
use Rattle.engine_runs.specs.Loop.{AreReady, AllWorked}
use Rattle.engine_runs.specs.Settling.{AreAbove, AreLaidOut}
use Rattle.engine_runs.specs.Steady.{IsSteady, SameLay}
use Rattle.engine_runs.proofs.LayLemmas.{are_still, apart_still, hang_still, above_still, ready_still, lay_settled, ready_settled}

module _ {End : Type 0} (had sent got : End → List Item) (kept : End → ℕ) (paired : End → End → Type 0) (board : Board) (old new : List (WorkerView End)) (above : List Above) (phases : ℕ) (busy : Bool)
    (steady : IsSteady had sent got kept paired board old above phases) (worked : AllWorked had sent got kept paired board (phases + 1) old new busy) where
  pub lay_worked : SameLay old new
  lay_worked = record {
    many = worked.turned.many;
    each = λ k w here. let found = worked.turned.each k w here in (found.0, found.2, found.3.shape, found.3.does.many);
  }

  pub laid_worked : AreLaidOut new
  laid_worked = record {
    board = board;
    are = are_still old new lay_worked board steady.after.between.are_workers;
    apart = apart_still old new lay_worked board steady.after.apart;
    hang = hang_still old new lay_worked steady.hang;
  }

  pub above_worked : AreAbove new above
  above_worked = above_still old new lay_worked above steady.linked

  pub ready_worked : NoneStopped new → AreReady new
  ready_worked = ready_still old new lay_worked steady.ready worked.counts

  pub steady_settled : (settled : List (WorkerView End)) → NoneStopped new → AllSettled had sent got kept paired new settled → AfterPhases had sent got kept paired board settled (phases + 1)
      → IsSteady had sent got kept paired board settled above (phases + 1)
  steady_settled settled none settles after =
      let lay = lay_settled had sent got kept paired new settled settles in
      record {
        after = after;
        ready = ready_settled had sent got kept paired new settled settles (ready_worked none);
        hang = hang_still new settled lay laid_worked.hang;
        linked = above_still new settled lay above above_worked;
      }
