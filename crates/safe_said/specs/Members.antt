-- The writes of words that some run may come to, as they are kept.
use Rattle.std.specs.Prelude.{◌≡◌, ℕ, suc, ◌≤◌, Bool, true, List, length, take, get_or, ◌++◌, map, Option, Some, None, IfSome, is_some, if◌then◌else◌}
use Rattle.std.specs.List.{find}
use Rattle.pci_command.specs.declared.op_id.OpId.{OpId}
use Rattle.board_model.specs.declared.board.Board.{Board}
use Rattle.board_model.specs.declared.word.Word.{Word}
use Rattle.board_model.specs.Ways.{Dword}
use Rattle.safe_model.specs.Clocks.{Table}
use Rattle.safe_model.specs.largest.Tests.{is_before}
use Rattle.safe_model.specs.largest.Largest.{IsLargest}
use Rattle.safe_model.specs.said.Said.{Said as Verdict, safe, unsafe, members, is_open, in_order, left_by}
use Rattle.audit_clocks.specs.Tables.{found_in, dword}
use Rattle.board_writes.specs.Rows.{ProgramRows, table_of, KeepsPolls}
use Rattle.safe_said.specs.declared.verdict.OpSaid.{OpSaid}
use Rattle.board_writes.specs.declared.writers.write.WordWrite.{WordWrite}
use Rattle.board_writes.specs.Writes.{op_in, AreWrites, ListsWrites}
use Rattle.safe_said.specs.Landing.{Sorts, is_chained, AreRuns}
use Rattle.board_writes.specs.Polls.{PollFacts, KnowsPolls}
use Rattle.safe_said.specs.AllSaid.{line, said_among}

-- the largest table of clocks of the board, the writes of its words, and what is kept of its polls
pub record IsSeen (board : Board) (table : List ProgramRows) (writers : List (Word × List WordWrite)) (facts : List (List (Option PollFacts))) : Type 0 where
  pub largest : IsLargest board (table_of table)
  pub polls : KeepsPolls board table
  pub writes : ListsWrites board writers
  pub kept : KnowsPolls board facts

-- what the first so many of these writes leave in the word
pub record AreLeft (board : Board) (word : Dword) (list : List WordWrite) (values : List ℕ) : Type 0 where
  pub all : length values ≡ suc (length list)
  pub each : (count : ℕ) → count ≤ length list → get_or values count 0 ≡ left_by board word (map op_in (take count list))

-- what is kept of a word
pub record WordMembers : Type 0 where
  -- its writes that some run may come to
  pub writes : List WordWrite
  -- the same as runs
  pub runs : List (List WordWrite)
  -- the same in the order in which they land
  pub list : List WordWrite
  -- what the first so many of these leave in it
  pub values : List ℕ
  -- each of them lands no more once the next one does, so that no two are open
  pub chained : Bool
  -- the first that some other of them is not settled with
  pub first_open : Option OpId

-- what is kept of a word is so
pub record AreMembers (board : Board) (table : Table) (word : Dword) (kept : WordMembers) : Type 0 where
  pub writes : AreWrites board word (members board table word) kept.writes
  pub runs : AreRuns board table kept.writes kept.runs
  pub list : Sorts board table kept.writes kept.list
  pub values : AreLeft board word kept.list kept.values
  pub chained : kept.chained ≡ is_chained board table (map op_in kept.list)
  pub first_open : kept.first_open ≡ find (is_open board table (map op_in kept.writes)) (map op_in kept.writes)

-- of each word of which something is kept
pub record KeepsMembers (board : Board) (table : Table) (entries : List (Word × WordMembers)) : Type 0 where
  pub each : (word : Word) → IfSome (found_in word entries) (AreMembers board table (dword word))

-- and of this word something is
pub record KeepsWord (board : Board) (table : Table) (word : Word) (entries : List (Word × WordMembers)) : Type 0 where
  pub others : KeepsMembers board table entries
  pub here : is_some (found_in word entries) ≡ true

-- of a read of the word, by the writes before it and the first of them that another is not settled with
abbrev pub said_with : Board → Table → Dword → List OpId → Option OpId → Verdict
said_with board table word before None = safe word (left_by board word (in_order board table before))
said_with board table word before (Some w) = unsafe word w

-- where no write stands beside it
abbrev pub said_open : Board → Table → Dword → List OpId → Verdict
said_open board table word before = said_with board table word before (find (is_open board table before) before)

-- By runs.

-- the first write that does not come before the read, where the read does not come before it
abbrev pub beside_at : Board → Table → OpId → Option OpId → Option OpId
beside_at board table r None = None
beside_at board table r (Some w) = if is_before board table r w then None else Some w

-- what is said of these operations stands behind what was said before
pub record Says (board : Board) (table : Table) (ops : List OpId) (entries : List (Word × WordMembers)) (old new : List OpSaid) : Type 0 where
  pub lines : map line new ≡ map line old ++ said_among board table ops
  pub members : KeepsMembers board table entries
