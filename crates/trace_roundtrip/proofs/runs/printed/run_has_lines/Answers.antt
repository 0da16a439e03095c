use Rattle.history_model.specs.Runs.{history_of}
use Rattle.trace_roundtrip.proofs.runs.LineLemmas.{HasLine-trace}
use Rattle.trace_roundtrip.proofs.runs.printed.run_has_lines.Goals as goal

pub returns : goal.returns
returns c =
    HasLine-trace c.args.board.now c.args.events.now
    (c.runs_have_lines.ensures c.args.board.now (history_of c.args.events.now) c.requires.well_formed c.requires.buses c.requires.run)
