-- Who knows of a write on bridges that keep no local master, event by event.
use Rattle.std.specs.Prelude.{ℕ, Bool, false, List, [], ◌∷◌, Option, Some, None, is_some, ◌&&◌, ◌||◌, ◌==◌, if◌then◌else◌}
use Rattle.std.specs.List.{list_any}
use Rattle.pci_command.specs.declared.op_id.OpId.{OpId}
use Rattle.pci_command.specs.Same.{same_op}
use Rattle.board_model.specs.declared.board.Board.{Board}
use Rattle.board_model.specs.Requests.{op_of}
use Rattle.history_model.specs.declared.event.Event.{Event}
use Rattle.history_model.specs.Program.{Ending, ended}
use Rattle.history_model.specs.Words.{Landing, landed}
use Rattle.history_model.specs.Knowledge.{Reading, has_landed, stands_after, is_write}
use Rattle.law_untagged.specs.Origins.{ending_reading, untagged_got}

-- of each master the first of its operations that ended and is the write, or was told of it
abbrev pub Since : Type 0
Since = ℕ → Option OpId

-- the operation stands behind the one that is there, of its master
abbrev pub is_behind : Option OpId → OpId → Bool
is_behind None q = false
is_behind (Some p) q = stands_after p q

-- an operation stands in its program behind one with which its master came to know of the write
abbrev pub knows : Since → OpId → Bool
knows since q = is_behind (since q.master) q

-- a write that landed whole and is the write, or was told of it
abbrev pub speaks : OpId → Since → List Event → Landing → Bool
speaks w since h landing = has_landed h landing.op && (same_op landing.op w || knows since landing.op)

-- a reading of a dword into which some such write had brought a data phase
abbrev pub heard : Board → OpId → Since → Option Reading → Bool
heard board w since None = false
heard board w since (Some reading) = list_any (speaks w since reading.before) (landed board reading.before reading.word)

-- the first that was known stays; else what this event ended, if it is the write or was told of it
abbrev pub first_known : Option OpId → ℕ → OpId → Bool → Option Ending → Option OpId
first_known (Some p) master w heard_it ending = Some p
first_known None master w heard_it None = None
first_known None master w heard_it (Some ending) =
    if ending.op.master == master && (same_op ending.op w || heard_it) then Some ending.op else None

-- who knows of the write after a history
abbrev pub untagged_since : Board → OpId → List Event → Since
untagged_since board w [] master = None
untagged_since board w (e ∷ h) master =
    let since : Since = untagged_since board w h in
    first_known (since master) master w (heard board w since (ending_reading board h e)) (ended e)

-- an operation was told of a write: it stands behind one with which its master came to know of it, or it is a read
-- that got what tells of it
abbrev pub untagged_was_told : Board → List Event → OpId → OpId → Bool
untagged_was_told board h w r =
    let since : Since = untagged_since board w h in
    is_write board w && is_some (op_of board r) && (knows since r || heard board w since (untagged_got board h r))
