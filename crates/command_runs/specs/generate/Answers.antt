-- generate: what is written for a number of rounds.
use Rattle.std.specs.Prelude.{◌≡◌, ℕ, ◌*◌, Bool, true, List, length, Option, Some, None, Result, Ok, Err, is_some}
use Rattle.board_model.specs.Valid.{IsValid}
use Rattle.board_text.specs.declared.numbers.NumberFault.{NumberFault}
use Rattle.board_text.specs.Numbers.{decimal_answer}
use Rattle.history_model.specs.declared.event.Event.{Event}
use Rattle.history_model.specs.Runs.{history_of}
use Rattle.judge_check.specs.Verdicts.{CompleteRun}
use Rattle.traffic_generator.specs.Generated.{rounds_in, generated}
use Rattle.run_report.specs.Report.{report_of}
use Rattle.run_report.specs.way_counts.WayCounts.{way_report}
use Rattle.program_status.specs.declared.status.Status.{Status}
use Rattle.program_status.specs.declared.status.Status.TheVariants.{NoMemory}

-- the rounds that a number names, where there is one
abbrev pub rounds_by : Result ℕ NumberFault → Option ℕ
rounds_by (Ok count) = rounds_in count
rounds_by (Err fault) = None

-- the rounds that a word names: a decimal of 1 to 10 digits, from 1 to 300
unfoldable pub rounds_of : List ℕ → Option ℕ
rounds_of word = rounds_by (decimal_answer word)

-- whether a word names rounds
abbrev pub names_rounds : List ℕ → Bool
names_rounds word = is_some (rounds_of word)

-- the same as a fact
abbrev pub NamesRounds : List ℕ → Type 0
NamesRounds word = names_rounds word ≡ true

-- the report of a complete run of the board of so many rounds, which is valid
pub record GeneratesTo (rounds : ℕ) (text : List ℕ) : Type 0 where
  pub valid : IsValid (generated rounds)
  pub events : List Event
  pub runs : CompleteRun (generated rounds) events
  -- each complete run of it has 97 events for each round, and the way counts of the board
  pub many : length events ≡ 97 * rounds
  pub written : text ≡ report_of (generated rounds) (history_of events)
  pub counted : text ≡ way_report (generated rounds)

-- the word names a number of rounds, and this is written of it
pub record AnswersGenerate (word text : List ℕ) : Type 0 where
  pub rounds : ℕ
  pub named : rounds_of word ≡ Some rounds
  pub generates : GeneratesTo rounds text

-- a word that names rounds is answered, but for want of memory
abbrev pub RefusesGenerate : List ℕ → Status → Type 0
RefusesGenerate word status = status ≡ NoMemory
