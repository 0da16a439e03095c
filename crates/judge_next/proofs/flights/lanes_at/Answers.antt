use Rattle.std.proofs.Common.{◌≡◌, ℕ, Some, ap, ◌∙◌, slice_get}
use Rattle.board_model.specs.declared.board.Board.{Board}
use Rattle.judge_next.specs.Lines.{BusLines, lines_of}
use Rattle.judge_next.proofs.RowLemmas.{read_there, none_there}
use Rattle.judge_next.proofs.flights.lanes_at.Goals as goal

pub returns-in-Some : goal.returns-in-Some
returns-in-Some c =
    let board : Board = c.args.board.now in
    let bus : ℕ = c.args.bus in
    let here : slice_get c.args.lines.now bus ≡ Some (lines_of board bus) = c.requires bus c.ranges.bus.fits in
    let found = c.in-Some.ensures.lookup in
    let is : c.in-Some.lines.now ≡ lines_of board bus = read_there c.args.lines.now bus c.in-Some.lines.now (lines_of board bus) found.3.0 found.1 here in
    c.lanes.ensures ∙ ap (λ (lines : BusLines). lines.lanes) is

pub returns-in-None : goal.returns-in-None
returns-in-None c =
    let bus : ℕ = c.args.bus in
    let here : slice_get c.args.lines.now bus ≡ Some (lines_of c.args.board.now bus) = c.requires bus c.ranges.bus.fits in
    let found = c.in-None.ensures.lookup in
    absurd (none_there c.args.lines.now bus (lines_of c.args.board.now bus) found.3 here)
