-- What finish writes is the text of a valid board and of a complete run of it.
use Rattle.std.proofs.Common.{ℕ, List}
use Rattle.program_input.specs.Traces.{IsCompleteTrace}
use Rattle.program_input.proofs.TreeLemmas.{faultless_tree}
use Rattle.command_runs.specs.finish.Answers.{AnswersFinish}

-- the run that is written is that which went on to its end
pub finished_is_complete : (input text : List ℕ) → AnswersFinish input text → IsCompleteTrace text
finished_is_complete input text answers =
    record {
      board = answers.board;
      events = answers.whole;
      reads = record { read = answers.read_back; tree = faultless_tree answers.board answers.valid };
      run = answers.finishes.runs.run;
      complete = answers.finishes.runs.complete;
    }
