-- safe: what is written for the text of a board or of devices on one, and what it says of all runs.
use Rattle.std.specs.Prelude.{◌≡◌, ◌≢◌, ◌↔◌, ℕ, Bool, true, false, List, [], ◌∷◌, Some, None, Contains}
use Rattle.std.specs.List.{list_any}
use Rattle.pci_command.specs.declared.op_id.OpId.{OpId}
use Rattle.pci_command.specs.declared.op_id.Outcome.{Outcome}
use Rattle.board_model.specs.declared.op.Want.{Want}
use Rattle.board_model.specs.declared.bridge.Place.{Place}
use Rattle.board_model.specs.declared.board.Board.{Board}
use Rattle.board_model.specs.Ways.{Dword}
use Rattle.board_model.specs.Valid.{IsValid}
use Rattle.history_model.specs.declared.event.By.{By}
use Rattle.history_model.specs.declared.event.Step.{Step}
use Rattle.history_model.specs.declared.event.Event.{Event}
use Rattle.history_model.specs.declared.event.Event.TheVariants.{Act}
use Rattle.history_model.specs.Program.{ended, meets}
use Rattle.history_model.specs.Words.{landed}
use Rattle.history_model.specs.Runs.{Run, Complete}
use Rattle.history_model.specs.Knowledge.{Reading, got, given_value, has_ended, has_landed, is_landing_of, is_write, last_reading, words_named}
use Rattle.law_untagged.specs.Untagged.{UntaggedRun}
use Rattle.law_untagged.specs.ApartTest.{is_apart}
use Rattle.safe_model.specs.Clocks.{Table, at_place, Awaits}
use Rattle.safe_model.specs.largest.Tests.{is_reached}
use Rattle.safe_model.specs.largest.Largest.{IsLargest}
use Rattle.safe_model.specs.said.Said.{Said, safe, lost, nowhere, vain}
use Rattle.program_status.specs.declared.status.Status.{Status}
use Rattle.program_input.specs.Protocols.{ReadsProtocol}
use Rattle.safe_said.specs.AllSaid.{Line as OpVerdict, all_said}
use Rattle.command_safe.specs.safe.Counts.{counts_of, ending_of}
use Rattle.command_safe.specs.safe.Lines.{lines_of}

-- it is said of the operation
abbrev pub Says : List OpVerdict → OpId → Said → Type 0
Says said o verdict = Contains said (record { op = o; said = verdict })

-- what is said of a valid board by its largest consistent table, the status that counts its faults, and that all of it is
-- so in every run
pub record SaysSafe (board : Board) (text : List ℕ) (ending : Status) : Type 0 where
  pub valid : IsValid board
  pub table : Table
  pub largest : IsLargest board table
  -- what is said of its operations, as the text has it
  pub said : List OpVerdict
  pub exact : said ≡ all_said board table
  pub written : text ≡ lines_of board said (is_apart board)
  pub ends : ending ≡ ending_of (counts_of said)
  -- a read that is safe with a word and a value reads that word, and returns the value, in every run in which it ends
  pub returns : (h : List Event) (r : OpId) (word : Dword) (value : ℕ) → Says said r (safe word value) → Run board h → has_ended h r ≡ true →
      (reading : Reading) × (got board h r ≡ Some reading) × (reading.word ≡ word) × (given_value h r ≡ Some value)
  -- a write that is lost lands in no word
  pub lost : (h : List Event) (w : OpId) (aborted : Bool) (word : Dword) → Says said w (lost aborted) → Run board h → list_any (is_landing_of w) (landed board h word) ≡ false
  -- a read or a try of a poll that reads nowhere reads no word
  pub nowhere : (h : List Event) (r : OpId) (aborted : Bool) → Says said (at_place r.master r.index) (nowhere aborted) → Run board h → last_reading board r h ≡ None
  -- no try of a poll that is vain ends with a value that meets it
  pub vain : (e : Event) (h : List Event) (p : OpId) (want : Want) (outcome : Outcome) → Says said (at_place p.master p.index) vain →
      Awaits board p want → Run board (e ∷ h) → ended e ≡ Some (record { op = p; outcome = outcome }) → meets want outcome ≡ false
  -- a write that has a word has landed, once it has ended and the run is complete
  pub writes : (h : List Event) (w : OpId) → is_write board w ≡ true → words_named board w ≢ [] → Run board h → Complete board h → has_ended h w ≡ true → has_landed h w ≡ true
  -- an operation that has no line since it is not reached is never done
  pub unreached : (h : List Event) (o : OpId) (on : ℕ) (by : By) (step : Step) (place : Place) → is_reached board table o ≡ false →
      Run board (Act on by o step place ∷ h) → ⊥
  -- where masters are apart, bridges that keep no local master have the same runs, so that all of it holds of them too
  pub alike : is_apart board ≡ true → (h : List Event) → UntaggedRun board h ↔ Run board h

-- the input is the text of a valid board, or of devices on one, and this is said of it
pub record AnswersSafe (input text : List ℕ) (ending : Status) : Type 0 where
  pub board : Board
  pub reads : ReadsProtocol input board
  pub says : SaysSafe board text ending
