-- What adverse writes is the text of a valid board and of a complete run of it.
use Rattle.std.proofs.Common.{ℕ, List}
use Rattle.program_input.specs.Traces.{IsCompleteTrace}
use Rattle.program_input.proofs.TreeLemmas.{faultless_tree}
use Rattle.command_safe.specs.adverse.Answers.{AnswersAdverse}

pub adverse_is_complete : (read write input text : List ℕ) → AnswersAdverse read write input text → IsCompleteTrace text
adverse_is_complete read write input text answers =
    record {
      board = answers.board;
      events = answers.shows.shows.events;
      reads = record { read = answers.shows.shows.trace.read_back; tree = faultless_tree answers.board answers.valid };
      run = answers.shows.shows.adverse.runs.run;
      complete = answers.shows.shows.adverse.runs.complete;
    }
