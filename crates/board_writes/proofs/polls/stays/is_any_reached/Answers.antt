use Rattle.std.proofs.Common.{refl, sym, ◌∙◌, ◌&&◌}
use Rattle.board_writes.specs.Stretches.{joined}
use Rattle.board_writes.specs.Looks.{is_reached_in}
use Rattle.board_writes.specs.Polls.{raises_it}
use Rattle.board_writes.proofs.StretchLemmas.{any_at, stretch_at}
use Rattle.board_writes.proofs.StayLemmas.{among_at}
use Rattle.board_writes.proofs.RaisingLemmas.{among_joined, reached_joined}
use Rattle.board_writes.proofs.polls.stays.is_any_reached.Goals as goal

pub is_run_reached-requires-clause-run : goal.is_run_reached-requires-clause-run
is_run_reached-requires-clause-run c = stretch_at c.runs.result.now c.guess.result c.in-Some.these.now c.in-Some.these.now c.in-Some.ensures.lookup.3.0 c.in-Some.ensures.lookup.1 refl c.runs.ensures.each

pub is_run_reached-requires-clause-among : goal.is_run_reached-requires-clause-among
is_run_reached-requires-clause-among c =
    among_at (joined c.runs-runs.result.now) c.runs.result.now c.guess.result c.in-Some.these.now c.in-Some.these.now c.in-Some.ensures.lookup.3.0 c.in-Some.ensures.lookup.1 refl
    (among_joined c.args.awaited c.args.writes.now c.args.raising.now c.runs-runs.result.now c.runs.result.now c.runs-runs.ensures.all c.runs.ensures.all c.requires.raising)

pub returns-in-Some : goal.returns-in-Some
returns-in-Some c =
    sym (any_at (λ f. raises_it c.args.awaited f && is_reached_in c.args.table.now c.args.poll (joined c.runs-runs.result.now) f) c.runs.result.now c.guess.result c.in-Some.these.now c.in-Some.these.now c.in-Some.ensures.lookup.3.0 c.in-Some.ensures.lookup.1 refl (sym c.is_run_reached.ensures ∙ c.if-is_run_reached.true))
    ∙ reached_joined c.args.awaited c.args.writes.now c.args.raising.now c.runs-runs.result.now c.runs.result.now c.runs-runs.ensures.all c.runs.ensures.all c.requires.raising c.args.table.now c.args.poll
