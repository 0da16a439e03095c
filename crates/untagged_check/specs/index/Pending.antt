-- The first write of a dword that had not landed before so many events.
use Rattle.std.specs.Prelude.{ℕ, Bool, false, List, Option, Some, None, not, ◌&&◌, nat_lt}
use Rattle.std.specs.List.{find, list_any}
use Rattle.pci_command.specs.declared.op_id.OpId.{OpId}
use Rattle.board_model.specs.declared.board.Board.{Board}
use Rattle.history_model.specs.Knowledge.{is_write, words_named}
use Rattle.audit_clocks.specs.Rows.{number}
use Rattle.audit_clocks.specs.Tables.{value_of, dword}
use Rattle.board_model.specs.declared.word.Word.{Word}
use Rattle.safe_model.specs.Raisers.{same_dword}
use Rattle.safe_model.specs.Ops.{ops_by}

-- before so many events
abbrev pub is_before : ℕ → Option ℕ → Bool
is_before events None = false
is_before events (Some place) = nat_lt place events

-- the write landed whole, and fewer events were before it than these; of each that landed the table says how many
abbrev pub landed_before : List (OpId × ℕ) → ℕ → OpId → Bool
landed_before landed events w = is_before events (value_of w landed)

-- the operation is among so many of its master's program, from the first on
abbrev pub reaches_in : List ℕ → OpId → Bool
reaches_in numbers w = nat_lt w.index (number numbers w.master)

-- one of the words of the operation is the dword
abbrev pub names : Board → Word → OpId → Bool
names board word w = list_any (same_dword (dword word)) (words_named board w)

-- a write of the dword that had not landed before so many events, and that these numbers reach
abbrev pub is_pending : Board → List (OpId × ℕ) → Word → ℕ → List ℕ → OpId → Bool
is_pending board landed word events numbers w =
    is_write board w && names board word w && not (landed_before landed events w) && reaches_in numbers w

-- the first of them, by master, then by its place in the program
abbrev pub first_pending : Board → List (OpId × ℕ) → Word → ℕ → List ℕ → Option OpId
first_pending board landed word events numbers = find (is_pending board landed word events numbers) (ops_by 0 board.masters)
