use Rattle.std.proofs.Common.{refl, sym, ◌∙◌, ◌&&◌}
use Rattle.board_writes.specs.Stretches.{joined}
use Rattle.board_writes.specs.Looks.{is_reached_in}
use Rattle.board_writes.specs.Polls.{raises_it}
use Rattle.board_writes.proofs.StretchLemmas.{none_so_far, some_here, none_in_all, stretch_at}
use Rattle.board_writes.proofs.StayLemmas.{among_at}
use Rattle.board_writes.proofs.RaisingLemmas.{among_joined, reached_joined}
use Rattle.board_writes.proofs.polls.stays.is_any_run_reached.Goals as goal

pub loop-place-init : goal.loop-place-init
loop-place-init c = refl

pub is_run_reached-requires-clause-run : goal.is_run_reached-requires-clause-run
is_run_reached-requires-clause-run c = stretch_at c.runs-among.result.now c.loop-place.place c.index-among-place.result c.index-among-place.result c.loop-place-test.true c.index-among-place.is refl c.runs-among.ensures.each

pub is_run_reached-requires-clause-among : goal.is_run_reached-requires-clause-among
is_run_reached-requires-clause-among c =
    among_at (joined c.runs-runs.result.now) c.runs-among.result.now c.loop-place.place c.index-among-place.result c.index-among-place.result c.loop-place-test.true c.index-among-place.is refl
    (among_joined c.args.awaited c.args.writes.now c.args.raising.now c.runs-runs.result.now c.runs-among.result.now c.runs-runs.ensures.all c.runs-among.ensures.all c.requires.raising)

pub loop-place-preserved : goal.loop-place-preserved
loop-place-preserved c =
    none_so_far (λ f. raises_it c.args.awaited f && is_reached_in c.args.table.now c.args.poll (joined c.runs-runs.result.now) f) c.runs-among.result.now c.loop-place.place c.index-among-place.result c.index-among-place.result c.loop-place-test.true c.index-among-place.is refl (sym c.is_run_reached.ensures ∙ c.if-is_run_reached.false) c.loop-place.invariant

pub returns-then-is_run_reached : goal.returns-then-is_run_reached
returns-then-is_run_reached c =
    some_here (λ f. raises_it c.args.awaited f && is_reached_in c.args.table.now c.args.poll (joined c.runs-runs.result.now) f) c.runs-among.result.now c.loop-place.place c.index-among-place.result c.index-among-place.result c.loop-place-test.true c.index-among-place.is refl (sym c.is_run_reached.ensures ∙ c.if-is_run_reached.true) c.loop-place.invariant
    ∙ reached_joined c.args.awaited c.args.writes.now c.args.raising.now c.runs-runs.result.now c.runs-among.result.now c.runs-runs.ensures.all c.runs-among.ensures.all c.requires.raising c.args.table.now c.args.poll

pub returns : goal.returns
returns c =
    none_in_all (λ f. raises_it c.args.awaited f && is_reached_in c.args.table.now c.args.poll (joined c.runs-runs.result.now) f) c.runs-among.result.now c.loop-place.place c.loop-place-test.false c.loop-place.invariant
    ∙ reached_joined c.args.awaited c.args.writes.now c.args.raising.now c.runs-runs.result.now c.runs-among.result.now c.runs-runs.ensures.all c.runs-among.ensures.all c.requires.raising c.args.table.now c.args.poll
