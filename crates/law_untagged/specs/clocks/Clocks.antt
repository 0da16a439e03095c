-- What each master knows of all writes on bridges that keep no local master: of each author, how many operations of its
-- program, from the first on.
use Rattle.std.specs.Prelude.{ℕ, max, List, [], ◌∷◌, length, Option, Some, None, ◌==◌, if◌then◌else◌}
use Rattle.list_facts.specs.Lists.{greatest}
use Rattle.pci_command.specs.declared.op_id.OpId.{OpId}
use Rattle.pci_command.specs.Same.{same_op}
use Rattle.board_model.specs.declared.board.Board.{Board}
use Rattle.board_model.specs.Ways.{Dword}
use Rattle.history_model.specs.declared.event.By.{By}
use Rattle.history_model.specs.declared.event.By.TheVariants.{Master, Lane as ByLane}
use Rattle.history_model.specs.declared.event.Event.{Event}
use Rattle.history_model.specs.declared.event.Event.TheVariants.{Act, Arrive}
use Rattle.history_model.specs.Program.{Ending, ended}
use Rattle.history_model.specs.Words.{Landing, landed}
use Rattle.history_model.specs.Knowledge.{Reading, reading_by, has_landed}
use Rattle.law_untagged.specs.Origins.{ending_reading}
use Rattle.law_audit.specs.Clocks.{own}

-- what is known after a history
pub record Clocks : Type 0 where
  -- by a master
  pub known : ℕ → ℕ → ℕ
  -- by its master as it first presented an operation, where it did
  pub start : OpId → Option (ℕ → ℕ)
  -- by what a Read event at a target, behind so many events, read
  pub told : ℕ → ℕ → ℕ

-- that of an author; none where nothing is noted
abbrev pub number_in : Option (ℕ → ℕ) → ℕ → ℕ
number_in None author = 0
number_in (Some numbers) author = numbers author

-- what a write that landed whole tells
abbrev pub landing_tells : Clocks → List Event → ℕ → Landing → ℕ
landing_tells clocks h author landing =
    if has_landed h landing.op then max (number_in (clocks.start landing.op) author) (own landing.op author) else 0

-- what is in a dword tells
abbrev pub word_tells : Board → Clocks → List Event → Dword → ℕ → ℕ
word_tells board clocks h word author = greatest (landing_tells clocks h author) (landed board h word)

-- what an event reads at a target
abbrev pub reads_at : Board → List Event → Event → Option Reading
reads_at board h (Act on by o step place) = reading_by board h on o step place
reads_at board h (Arrive lane mark) = None

-- what a Read event taught: the newest is noted under the number of events before it
abbrev pub told_by : Board → Clocks → List Event → Option Reading → ℕ → ℕ → ℕ
told_by board clocks h None number author = clocks.told number author
told_by board clocks h (Some reading) number author =
    if number == length h then word_tells board clocks h reading.word author else clocks.told number author

-- what a read tells that got a reading
abbrev pub got_tells : (ℕ → ℕ → ℕ) → Option Reading → ℕ → ℕ
got_tells told None author = 0
got_tells told (Some reading) author = told (length reading.before) author

-- a master that ends an operation knows it, those before it in its program, and what it got tells
abbrev pub known_after : ℕ → (ℕ → ℕ) → (ℕ → ℕ) → Option Ending → ℕ → ℕ
known_after master known tells None author = known author
known_after master known tells (Some ending) author =
    if ending.op.master == master then max (max (known author) (tells author)) (own ending.op author) else known author

-- what is noted first stays
abbrev pub first_start : Option (ℕ → ℕ) → (ℕ → ℕ) → Option (ℕ → ℕ)
first_start None known = Some known
first_start (Some start) known = Some start

-- what is noted of an operation: what its master knows as it first presents it
abbrev pub start_by : Clocks → By → OpId → OpId → Option (ℕ → ℕ)
start_by clocks Master o q = if same_op o q then first_start (clocks.start q) (clocks.known q.master) else clocks.start q
start_by clocks (ByLane lane) o q = clocks.start q

-- the same of an event; an arrival is no presenting
abbrev pub start_after : Clocks → Event → OpId → Option (ℕ → ℕ)
start_after clocks (Act on by o step place) q = start_by clocks by o q
start_after clocks (Arrive lane mark) q = clocks.start q

-- what is known after the event
abbrev pub clocks_after : Board → Clocks → List Event → Event → Clocks
clocks_after board clocks h e =
    record {
      known = λ master. known_after master (clocks.known master) (got_tells (told_by board clocks h (reads_at board h e)) (ending_reading board h e)) (ended e);
      start = start_after clocks e;
      told = told_by board clocks h (reads_at board h e);
    }

-- what is known after a history; at first nothing
abbrev pub clocks_of : Board → List Event → Clocks
clocks_of board [] = record { known = λ master author. 0; start = λ o. None; told = λ number author. 0 }
clocks_of board (e ∷ h) = clocks_after board (clocks_of board h) h e
