use Rattle.std.proofs.Common.{◌≡◌, ◌≢◌, ℕ, Bool, false, List, ◌∷◌, subst, sym, ap, ◌∙◌}
use Rattle.std.proofs.Math.ListN.{set}
use Rattle.board_model.specs.declared.board.Board.{Board}
use Rattle.board_model.specs.Valid.{IsValid}
use Rattle.history_model.specs.declared.event.Event.{Event}
use Rattle.history_model.specs.Local.{bus_of}
use Rattle.judge_state.specs.Stands.{StandsFor}
use Rattle.judge_next.specs.Course.{KnowsQuiet}
use Rattle.judge_next.proofs.RowLemmas.{stood_before}
use Rattle.judge_next.specs.Flights.{claiming, presenting, looked}
use Rattle.judge_next.proofs.CourseLemmas.{quiet_stays}
use Rattle.judge_next.proofs.FlightLemmas.{flights_stay}
use Rattle.judge_next.proofs.course.Course.step.Goals as goal

-- the bus of the event is not known to be quiet any more, and what is known of the others stays
pub returns-in-Ok-clause-goes_on : goal.returns-in-Ok-clause-goes_on
returns-in-Ok-clause-goes_on c = λ h is.
    let board : Board = c.args.tree.now in
    let e : Event = c.args.event.now in
    let flags : List Bool = c.args.self.now.quiet.buses.items in
    let valid : IsValid board = c.board-board.ensures.valid in
    let stands : StandsFor board (e ∷ h) c.step.new.self = c.in-Ok.ensures.goes_on h is.stands in
    let bus_is : c.bus_of.result ≡ bus_of board e = c.bus_of.ensures ∙ ap (λ (b : Board). bus_of b e) c.board-board.ensures.value in
    let marked : c.mark.new.self.buses.items ≡ set flags c.bus_of.result false = c.mark.ensures.marked in
    let known : KnowsQuiet board c.step.new.self (set flags c.bus_of.result false) =
    quiet_stays board h e c.args.self.now.kept c.step.new.self flags (set flags c.bus_of.result false) valid is.stands stands is.quiet
    (λ bus stood. let before = stood_before flags c.bus_of.result bus stood in (subst (λ (n : ℕ). n ≢ bus) bus_is before.0, before.1)) in
    let again : c.look_again.new.self.still.items ≡ looked board c.step.new.self (presenting e) (looked board c.step.new.self (claiming e) c.args.self.now.flights.still.items) =
    subst (λ (b : Board). c.look_again.new.self.still.items ≡ looked b c.step.new.self (presenting e) (looked b c.step.new.self (claiming e) c.args.self.now.flights.still.items))
    c.board-board.ensures.value c.look_again.ensures.still in
    record {
      stands = stands;
      fits = is.fits;
      lines = is.lines;
      flags = c.mark.ensures.flags;
      quiet = subst (KnowsQuiet board c.step.new.self) (sym marked) known;
      flights = flights_stay board h e c.args.self.now.kept c.step.new.self c.args.self.now.flights c.look_again.new.self is.stands stands is.flights c.look_again.ensures.lanes again;
    }
