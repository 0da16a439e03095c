use Rattle.std.proofs.Common.{◌≡◌, List, ap, ◌∙◌}
use Rattle.board_model.specs.declared.board.Board.{Board}
use Rattle.history_model.specs.declared.event.Event.{Event}
use Rattle.history_model.specs.Runs.{history_of}
use Rattle.law_untagged.specs.Stale.{stale_of}
use Rattle.untagged_check.specs.declared.verdict.Stale.{Stale}
use Rattle.untagged_check.specs.Judged.{reads_of}
use Rattle.untagged_check.proofs.VerdictLemmas.{verdict_of_run, verdict_of_refused}
use Rattle.untagged_check.proofs.check_untagged.Goals as goal

pub returns-in-NotRun : goal.returns-in-NotRun
returns-in-NotRun c =
    let board : Board = c.args.tree.now in
    let events : List Event = c.args.events.now in
    let follows = rw c.in-NotRun.is at c.in_ok-event.ensures in
    verdict_of_refused board events c.in-NotRun.event c.in-NotRun.why follows (λ apart. c.apart_runs_are_alike.ensures board (history_of events) c.board-valid.ensures.valid apart)

pub returns-in_ok-stale-in-Run : goal.returns-in_ok-stale-in-Run
returns-in_ok-stale-in-Run c =
    let board : Board = c.args.tree.now in
    let events : List Event = c.args.events.now in
    let follows = rw c.in-Run.is at c.in_ok-event.ensures in
    let are : reads_of c.from_vec.result ≡ stale_of board (history_of events) = ap (λ (s : List Stale). reads_of s) c.from_vec.ensures ∙ c.in_ok-stale-in-Run.ensures in
    verdict_of_run board events c.from_vec.result follows.0 are (c.stale_reads_break_freshness.ensures.all board (history_of events) follows.0)
    (λ w r. c.stale_reads_break_freshness.ensures.each board (history_of events) w r follows.0)
    (λ r. c.stale_reads_are_listed.ensures board (history_of events) r follows.0)
    (λ apart. c.apart_runs_are_sound.ensures board (history_of events) c.board-valid.ensures.valid apart follows.0)
