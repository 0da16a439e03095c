-- What an audit noted down stands for a run.
use Rattle.std.specs.Prelude.{◌≡◌, ◌<◌, ℕ, true, List, length}
use Rattle.std.specs.Option.{option_map}
use Rattle.pci_command.specs.declared.op_id.OpId.{OpId}
use Rattle.board_model.specs.declared.board.Board.{Board}
use Rattle.history_model.specs.declared.event.Event.{Event}
use Rattle.history_model.specs.Words.{landed}
use Rattle.history_model.specs.Knowledge.{Reading as WordReading, last_reading, got, is_write}
use Rattle.law_fresh.specs.Aware.{aware_of}
use Rattle.law_audit.specs.Clocks.{clocks_of}
use Rattle.audit_clocks.specs.Rows.{number, row}
use Rattle.audit_clocks.specs.Tables.{value_of, numbers_of}
use Rattle.audit_clocks.specs.Clocks.{known_at, since_at}
use Rattle.audit_text.specs.declared.readings.Reading.{Reading}
use Rattle.audit_landings.specs.Notes.{AreLandings}
use Rattle.audit_text.specs.Notes.{Notes, flat}

-- a reading, by how much there was before it
abbrev pub reading_as : Board → WordReading → Reading
reading_as board reading =
    record {
      target = reading.word.target;
      space = reading.word.space;
      address = reading.word.address;
      value = reading.value;
      landed = length (landed board reading.before reading.word);
      events = length reading.before;
    }

-- what was noted down stands for a run of the board, of these events, the latest first
pub record StandsFor (board : Board) (h : List Event) (notes : Notes) : Type 0 where
  pub landings : AreLandings board h notes.landings
  pub readings : (o : OpId) → value_of o notes.readings ≡ option_map (reading_as board) (last_reading board o h)
  pub gots : (o : OpId) → flat (value_of o notes.gots) ≡ option_map (reading_as board) (got board h o)
  -- a row for each author, of each master
  pub masters : length notes.clocks.known ≡ length board.masters
  pub authors : (master : ℕ) → master < length board.masters → length (known_at notes.clocks.known master) ≡ length board.masters
  -- the numbers are the clocks
  pub known : (master author : ℕ) → master < length board.masters → author < length board.masters → length (row (known_at notes.clocks.known master) author) ≡ (clocks_of board h).known master author
  pub starts : (o : OpId) (author : ℕ) → author < length board.masters → number (numbers_of o notes.clocks.starts) author ≡ (clocks_of board h).start o author
  pub taught : (o : OpId) (author : ℕ) → author < length board.masters → number (numbers_of o notes.clocks.taught) author ≡ (clocks_of board h).taught o author
  -- and the rows say since when
  pub since : (w : OpId) (master : ℕ) → is_write board w ≡ true → since_at notes.clocks.known master w ≡ (aware_of board w h).since master
