-- What a run writes is the text of a valid board and of a complete run of it.
use Rattle.std.proofs.Common.{ℕ, List}
use Rattle.program_input.specs.Traces.{IsCompleteTrace}
use Rattle.program_input.proofs.TreeLemmas.{faultless_tree}
use Rattle.command_runs.specs.run.Answers.{AnswersRun}

pub written_is_complete : (input trace : List ℕ) → AnswersRun input trace → IsCompleteTrace trace
written_is_complete input trace answers =
    record {
      board = answers.board;
      events = answers.events;
      reads = record { read = answers.read_back; tree = faultless_tree answers.board answers.reads.valid };
      run = answers.runs.run;
      complete = answers.runs.complete;
    }
