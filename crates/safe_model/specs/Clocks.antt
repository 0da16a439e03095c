-- What each operation of a board comes after, in every run: so many operations of each master, from the first.
use Rattle.std.specs.Prelude.{◌≡◌, ◌≢◌, ℕ, Bool, true, false, zero, suc, ◌+◌, ◌<◌, ◌≤◌, ◌⊎◌, [], Option, Some, None, ◌==◌, nat_lt, if◌then◌else◌}
use Rattle.pci_command.specs.declared.command.Space.{Space}
use Rattle.pci_command.specs.declared.op_id.OpId.{OpId}
use Rattle.pci_command.specs.Same.{same_op}
use Rattle.board_model.specs.declared.op.Want.{Want}
use Rattle.board_model.specs.declared.op.Op.{Op}
use Rattle.board_model.specs.declared.op.Op.TheVariants.{Read, Write, CfgRead, CfgWrite, Poll}
use Rattle.board_model.specs.declared.board.Board.{Board}
use Rattle.board_model.specs.Requests.{op_of}
use Rattle.board_model.specs.Ways.{Dword}
use Rattle.history_model.specs.Words.{opens_as}
use Rattle.history_model.specs.Knowledge.{is_write}
use Rattle.law_lanes.specs.order.Order.{is_posted_op}
use Rattle.safe_model.specs.Raisers.{phases_to, is_met_by, Raises, Firm}

-- Tables, and the clock of each operation by one.

-- of each master, how many of its operations, from the first
abbrev pub Clock : Type 0
Clock = ℕ → ℕ

-- of each poll, by its master and index, a clock: of what is known behind it
abbrev pub Table : Type 0
Table = ℕ → ℕ → Clock

-- whether an operation that was found is a poll
abbrev pub is_poll : Option Op → Bool
is_poll None = false
is_poll (Some (Read command address)) = false
is_poll (Some (Write command address phases)) = false
is_poll (Some (CfgRead bus device register)) = false
is_poll (Some (CfgWrite bus device register phase)) = false
is_poll (Some (Poll space address want tries)) = true

-- the first try of the operation at a place of a program
abbrev pub at_place : ℕ → ℕ → OpId
at_place master index = record { master = master; index = index; attempt = 0 }

-- what is known behind the last poll among the first so many operations of a program; nothing where there is none
abbrev pub known_by : Board → Table → ℕ → ℕ → Clock
known_by board table master zero = λ other. 0
known_by board table master (suc index) =
    if is_poll (op_of board (at_place master index)) then table master index else known_by board table master index

-- the greater of two numbers
abbrev pub greater : ℕ → ℕ → ℕ
greater a b = if nat_lt a b then b else a

-- a clock with so many operations of one master
abbrev pub raised : Clock → ℕ → ℕ → Clock
raised clock master count = λ other. if other == master then greater (clock other) count else clock other

-- the clock of an operation: what is known behind the last poll before it, and what stands before it in its program
abbrev pub clock_of : Board → Table → OpId → Clock
clock_of board table o = raised (known_by board table o.master o.index) o.master o.index

-- the same with the operation itself
abbrev pub clock_with : Board → Table → OpId → Clock
clock_with board table o = raised (known_by board table o.master o.index) o.master (o.index + 1)

-- The order of operations.

-- an operation comes before another in every run
abbrev pub IsBefore : Board → Table → OpId → OpId → Type 0
IsBefore board table p q = p.index < clock_of board table q p.master

-- the operation behind another in its program
abbrev pub behind : OpId → OpId
behind a = at_place a.master (a.index + 1)

-- a write lands no more once the other does: it is posted, so that it lands once, and comes before the other; or it
-- stands before the other in one program; or the operation behind it comes before the other, so that it had ended. (A
-- delayed write whose completion is discarded lands again, until it ends.)
pub data LandsNoMore (board : Board) (table : Table) (a b : OpId) : Type 0 where
  lands_once : is_posted_op board a ≡ true → IsBefore board table a b → LandsNoMore board table a b
  stands_before : a.master ≡ b.master → a.index < b.index → LandsNoMore board table a b
  had_ended : IsBefore board table (behind a) b → LandsNoMore board table a b

-- What can meet a poll, of that which comes before it.

-- a write of the word that comes before a poll
pub record WritesBefore (board : Board) (table : Table) (p : OpId) (word : Dword) (x : OpId) : Type 0 where
  pub writes : is_write board x ≡ true
  pub brings : phases_to board word x ≢ []
  pub before : IsBefore board table x p

-- a raiser is left out of a poll: it lands no more once another write of the word does that comes before the poll
pub record LeftOut (board : Board) (table : Table) (p : OpId) (word : Dword) (f : OpId) : Type 0 where
  pub x : OpId
  pub earlier : WritesBefore board table p word x
  pub other : same_op x f ≡ false
  pub no_more : LandsNoMore board table f x

-- the poll is not met by what the word opens as: that is no such value, or a write of the word comes before the poll
abbrev pub OpensOut : Board → Table → OpId → Want → Dword → Type 0
OpensOut board table p want word =
    (is_met_by want (opens_as board word) ≡ false) ⊎ ((x : OpId) × WritesBefore board table p word x)

-- Which tables are right.

-- a raiser is left out of a poll, or knows, with itself, what a table says of the poll and a master
abbrev pub RaiserKnows : Board → Table → OpId → Dword → ℕ → OpId → Type 0
RaiserKnows board table p word other f =
    LeftOut board table p word f ⊎ (table p.master p.index other ≤ clock_with board table f other)

-- a poll is firm, and not met by what its word opens as; and each of its raisers knows, or is left out
abbrev pub RaisersKnow : Board → Table → OpId → Want → ℕ → Type 0
RaisersKnow board table p want other =
    (word : Dword) × Firm board p want word × OpensOut board table p want word
    × ((f : OpId) → Raises board want word f → RaiserKnows board table p word other f)

-- what a table says of a poll and a master is known behind it: it was known before, or by all that can meet the poll
abbrev pub IsKnown : Board → Table → OpId → Want → ℕ → Type 0
IsKnown board table p want other =
    (table p.master p.index other ≤ clock_of board table p other) ⊎ RaisersKnow board table p want other

-- an operation is a try of a poll that waits for this
abbrev pub Awaits : Board → OpId → Want → Type 0
Awaits board p want =
    (space : Space) × (address : ℕ) × (tries : ℕ) × (op_of board p ≡ Some (Poll space address want tries))

-- a table says of no poll more than is known behind it
abbrev pub IsConsistent : Board → Table → Type 0
IsConsistent board table =
    (p : OpId) (want : Want) → Awaits board p want → (other : ℕ) → IsKnown board table p want other

-- of two tables, of each poll and each master the greater number
abbrev pub greater_of : Table → Table → Table
greater_of a b = λ master index other. greater (a master index other) (b master index other)
