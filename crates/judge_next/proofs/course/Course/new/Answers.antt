use Rattle.std.proofs.Common.{◌≡◌, Bool, true, List, Some, sym, slice_get, subst}
use Rattle.board_model.specs.Fits.{BoardFits}
use Rattle.judge_next.specs.Lines.{AreLines}
use Rattle.judge_next.specs.Flights.{KnowsFlights}
use Rattle.judge_next.proofs.RowLemmas.{none_stands}
use Rattle.judge_next.proofs.course.Course.new.Goals as goal

-- no bus is known to be quiet
pub returns : goal.returns
returns c = λ h stands.
    let lines : AreLines c.args.tree.now c.in_ok-lines.lines.items = subst (λ board. AreLines board c.in_ok-lines.lines.items) c.board-board.ensures.value c.in_ok-lines.ensures in
    record {
      stands = stands;
      fits = subst BoardFits c.board-board.ensures.value c.board_fits.ensures;
      lines = lines;
      flags = c.in_ok-quiet.ensures.flags;
      quiet = λ bus is. absurd (none_stands 256 bus (subst (λ (flags : List Bool). slice_get flags bus ≡ Some true) c.in_ok-quiet.ensures.none is));
      flights = subst (λ board. KnowsFlights board c.args.kept c.in_ok-flights.flights) c.board-board.ensures.value c.in_ok-flights.ensures;
    }

pub new-requires : goal.new-requires
new-requires c = subst (λ lines. AreLines c.board-board.result.now lines) (sym c.as_slice.ensures.value) c.in_ok-lines.ensures
