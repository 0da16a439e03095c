-- What is written of devices is the text of a valid board and of a complete run of it.
use Rattle.std.proofs.Common.{ℕ, List}
use Rattle.program_input.specs.Traces.{IsCompleteTrace}
use Rattle.program_input.proofs.TreeLemmas.{faultless_tree}
use Rattle.command_runs.specs.devices.Answers.{AnswersDevices}

pub written_is_complete : (input trace : List ℕ) → AnswersDevices input trace → IsCompleteTrace trace
written_is_complete input trace answers =
    record {
      board = answers.board;
      events = answers.run.events;
      reads = record { read = answers.run.read_back; tree = faultless_tree answers.board answers.reads.valid };
      run = answers.run.runs.run;
      complete = answers.run.runs.complete;
    }
