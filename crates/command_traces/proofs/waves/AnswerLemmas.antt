-- The dump of a run that was read.
use Rattle.std.proofs.Common.{◌≡◌, ℕ, List, ap, ◌∙◌}
use Rattle.history_model.specs.declared.event.Event.{Event}
use Rattle.run_waves.specs.Dump.{dump_of}
use Rattle.run_waves.specs.Told.{TellsSignals, IsDumped}
use Rattle.run_waves.specs.Widths.{NumbersFit}
use Rattle.program_input.specs.declared.trace.TreeTrace.{TreeTrace}
use Rattle.command_traces.specs.Runs.{ReadsRun}
use Rattle.command_traces.specs.waves.Answers.{AnswersWaves}

pub dumped : (input : List ℕ) (read : TreeTrace) (events : List Event) (text : List ℕ) → ReadsRun input read → events ≡ read.events → text ≡ dump_of read.tree events
    → IsDumped read.tree read.events → TellsSignals read.tree read.events → NumbersFit read.tree read.events → AnswersWaves input text
dumped input read events text reads same written lines tells fit =
    record {
      board = read.tree;
      events = read.events;
      reads = reads.reads;
      valid = reads.valid;
      run = reads.run;
      written = written ∙ ap (dump_of read.tree) same;
      dumped = lines;
      tells = tells;
      widths = fit;
    }
