-- What each master knows of all writes, by one number for each author: who was told of a write was told of all
-- earlier ones of its master.
use Rattle.std.specs.Prelude.{ℕ, ◌+◌, Bool, max, List, [], ◌∷◌, Option, Some, None, is_some, ◌==◌, nat_lt, if◌then◌else◌}
use Rattle.list_facts.specs.Lists.{greatest}
use Rattle.pci_command.specs.declared.op_id.OpId.{OpId}
use Rattle.pci_command.specs.declared.op_id.Outcome.{Outcome}
use Rattle.pci_command.specs.Same.{same_op}
use Rattle.board_model.specs.declared.board.Board.{Board}
use Rattle.board_model.specs.Ways.{Dword}
use Rattle.history_model.specs.declared.event.By.{By}
use Rattle.history_model.specs.declared.event.By.TheVariants.{Master, Lane as ByLane}
use Rattle.history_model.specs.declared.event.Event.{Event}
use Rattle.history_model.specs.declared.event.Event.TheVariants.{Act, Arrive}
use Rattle.history_model.specs.Program.{Ending, ended}
use Rattle.history_model.specs.Words.{Landing, landed}
use Rattle.history_model.specs.Knowledge.{Reading, reading_in, value_in, has_landed}

-- how many operations of each author's program are known, from the first on
pub record Clocks : Type 0 where
  -- by a master
  pub known : ℕ → ℕ → ℕ
  -- by its master as it last presented an operation
  pub start : OpId → ℕ → ℕ
  -- by what an operation last read at a target
  pub taught : OpId → ℕ → ℕ

-- an operation, and those before it in its program
abbrev pub own : OpId → ℕ → ℕ
own o author = if o.master == author then o.index + 1 else 0

-- what a write that landed whole tells
abbrev pub landing_tells : Clocks → List Event → ℕ → Landing → ℕ
landing_tells clocks h author landing = if has_landed h landing.op then max (clocks.start landing.op author) (own landing.op author) else 0

-- what is in a dword tells
abbrev pub word_tells : Board → Clocks → List Event → Dword → ℕ → ℕ
word_tells board clocks h word author = greatest (landing_tells clocks h author) (landed board h word)

-- a Read at a target says anew what its operation was taught
abbrev pub taught_by : Board → Clocks → (ℕ → ℕ) → Option Reading → ℕ → ℕ
taught_by board clocks old None author = old author
taught_by board clocks old (Some reading) author = word_tells board clocks reading.before reading.word author

-- the same of the event behind a history, and what it reads there
abbrev pub taught_after : Board → Clocks → List Event → Event → OpId → ℕ → ℕ
taught_after board clocks h e o = taught_by board clocks (clocks.taught o) (reading_in board h o e)

-- an end tells only where it has a value
abbrev pub value_tells : Outcome → ℕ → ℕ
value_tells outcome taught = if is_some (value_in outcome) then taught else 0

-- a master that ends an operation knows it, and what taught it where it ended with a value
abbrev pub known_after : ℕ → (ℕ → ℕ) → (OpId → ℕ → ℕ) → Option Ending → ℕ → ℕ
known_after master known taught None author = known author
known_after master known taught (Some ending) author =
    if ending.op.master == master
    then max (max (known author) (value_tells ending.outcome (taught ending.op author))) (own ending.op author)
    else known author

-- what a master knows as it presents an operation
abbrev pub start_by : Clocks → By → OpId → OpId → ℕ → ℕ
start_by clocks Master o q = if same_op o q then clocks.known o.master else clocks.start q
start_by clocks (ByLane lane) o q = clocks.start q

-- the same of an event; an arrival is no presenting
abbrev pub start_after : Clocks → Event → OpId → ℕ → ℕ
start_after clocks (Act on by o step place) q = start_by clocks by o q
start_after clocks (Arrive lane mark) q = clocks.start q

-- what is known after the event
abbrev pub clocks_after : Board → Clocks → List Event → Event → Clocks
clocks_after board clocks h e =
    record {
      known = λ master. known_after master (clocks.known master) (taught_after board clocks h e) (ended e);
      start = start_after clocks e;
      taught = taught_after board clocks h e;
    }

-- what is known after a history; at first nothing
abbrev pub clocks_of : Board → List Event → Clocks
clocks_of board [] = record { known = λ master author. 0; start = λ o author. 0; taught = λ o author. 0 }
clocks_of board (e ∷ h) = clocks_after board (clocks_of board h) h e

-- the write is among those that are known
abbrev pub reaches : (ℕ → ℕ) → OpId → Bool
reaches known w = nat_lt w.index (known w.master)
