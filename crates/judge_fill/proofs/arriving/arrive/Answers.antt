use Rattle.std.proofs.Common.{◌≡◌, ◌∷◌, [], Some, arith}
use Rattle.board_model.specs.declared.board.Board.{Board}
use Rattle.history_model.specs.declared.event.Event.{Event}
use Rattle.history_model.specs.Runs.{Allowed}
use Rattle.history_model.specs.Next.{first_arrival}
use Rattle.judge_next.specs.Course.{IsCourse}
use Rattle.judge_next.proofs.CourseLemmas.{allowed_is_ok}
use Rattle.judge_fill.proofs.ArrivingLemmas.{nothing_flies, arrived_next}
use Rattle.judge_fill.proofs.arriving.arrive.Goals as goal

-- the run goes on by the first arrival
pub returns-in-Some : goal.returns-in-Some
returns-in-Some c = λ h is.
    let board : Board = c.args.tree.now in
    let e : Event = c.in-Some.arrival in
    let first : Some e ≡ first_arrival board h = c.in-Some.ensures.first h is in
    let allowed : Allowed board h e = c.in-Some.ensures.allowed h is in
    let goes : IsCourse board (e ∷ h) c.step-ok.new.self = allowed_is_ok board h e c.step-ok.result _ allowed (c.step-ok.ensures.verdict h is) (c.step-ok.ensures.goes_on h is) in
    let falls = c.runs_end.ensures.follow board (e ∷ []) h c.board-valid.ensures.valid (allowed, is.stands.run) in
    arrived_next board h e c.step-ok.new.self first c.in-Some.ensures.arrives goes (omega (arith, falls))

-- or nothing is in flight
pub returns-in-None : goal.returns-in-None
returns-in-None c = λ h is. (is, nothing_flies c.args.tree.now h (c.in-None.ensures.none h is))
