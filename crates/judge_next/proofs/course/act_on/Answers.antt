use Rattle.std.proofs.Common.{◌≡◌, ℕ, Some, ap, ◌∙◌, slice_get}
use Rattle.std.specs.Option.{option_or}
use Rattle.board_model.specs.declared.board.Board.{Board}
use Rattle.history_model.specs.Next.{first_in}
use Rattle.judge_state.specs.State.{KeptState}
use Rattle.judge_next.specs.Lines.{BusLines, lines_of}
use Rattle.judge_next.specs.Now.{lane_now, master_now, act_on_now}
use Rattle.judge_next.proofs.RowLemmas.{read_there, none_there}
use Rattle.judge_next.proofs.course.act_on.Goals as goal

pub returns-in-Some : goal.returns-in-Some
unfolding act_on_now
returns-in-Some c =
    let board : Board = c.args.board.now in
    let k : KeptState = c.args.kept.now in
    let bus : ℕ = c.args.bus in
    let here : slice_get c.args.lines.now bus ≡ Some (lines_of board bus) = c.requires.lines bus c.ranges.bus.fits in
    let found = c.in-Some.ensures.lookup in
    let is : c.in-Some.lines.now ≡ lines_of board bus = read_there c.args.lines.now bus c.in-Some.lines.now (lines_of board bus) found.3.0 found.1 here in
    c.act_of_lines.ensures ∙ ap (λ (lines : BusLines). option_or (first_in (lane_now board k bus) lines.lanes) (first_in (master_now board k bus) lines.masters)) is

pub returns-in-None : goal.returns-in-None
returns-in-None c =
    let bus : ℕ = c.args.bus in
    let here : slice_get c.args.lines.now bus ≡ Some (lines_of c.args.board.now bus) = c.requires.lines bus c.ranges.bus.fits in
    let found = c.in-None.ensures.lookup in
    absurd (none_there c.args.lines.now bus (lines_of c.args.board.now bus) found.3 here)
