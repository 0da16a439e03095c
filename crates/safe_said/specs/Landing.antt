-- The writes of a word, with what is kept of them, in the order in which they land.
use Rattle.std.specs.Prelude.{◌≡◌, Bool, true, ◌&&◌, List, [], ◌∷◌, map}
use Rattle.std.specs.List.{AllByRecursion}
use Rattle.pci_command.specs.declared.op_id.OpId.{OpId}
use Rattle.board_model.specs.declared.board.Board.{Board}
use Rattle.board_model.specs.Ways.{Dword}
use Rattle.safe_model.specs.Clocks.{Table}
use Rattle.safe_model.specs.largest.Tests.{lands_no_more}
use Rattle.safe_model.specs.said.Said.{put, in_order}
use Rattle.board_writes.specs.declared.writers.write.WordWrite.{WordWrite}
use Rattle.board_writes.specs.Writes.{op_in, IsWordWrite}
use Rattle.board_writes.specs.Stretches.{joined}

-- these writes put among others, from the last on
abbrev pub put_all : Board → Table → List OpId → List OpId → List OpId
put_all board table [] list = list
put_all board table (w ∷ writes) list = put board table w (put_all board table writes list)

-- the same, with what is kept of them
pub record PutsAll (board : Board) (table : Table) (writes old new : List WordWrite) : Type 0 where
  pub ops : map op_in new ≡ put_all board table (map op_in writes) (map op_in old)
  pub each : (word : Dword) → AllByRecursion (IsWordWrite board word) writes → AllByRecursion (IsWordWrite board word) old → AllByRecursion (IsWordWrite board word) new

-- writes in their order, with what is kept of them
pub record Sorts (board : Board) (table : Table) (writes list : List WordWrite) : Type 0 where
  pub ops : map op_in list ≡ in_order board table (map op_in writes)
  pub each : (word : Dword) → AllByRecursion (IsWordWrite board word) writes → AllByRecursion (IsWordWrite board word) list

-- Runs.

-- the first write lands no more once the next one does
abbrev pub no_more_next : Board → Table → OpId → List OpId → Bool
no_more_next board table a [] = true
no_more_next board table a (b ∷ rest) = lands_no_more board table a b

-- each lands no more once the next one does
abbrev pub is_chained : Board → Table → List OpId → Bool
is_chained board table [] = true
is_chained board table (a ∷ rest) = no_more_next board table a rest && is_chained board table rest

-- in each of these runs a write lands no more once the next one does
abbrev pub AreChained : Board → Table → List (List WordWrite) → Type 0
AreChained board table runs = AllByRecursion (λ (run : List WordWrite). is_chained board table (map op_in run) ≡ true) runs

-- these writes are so many runs
pub record AreRuns (board : Board) (table : Table) (writes : List WordWrite) (runs : List (List WordWrite)) : Type 0 where
  pub all : joined runs ≡ writes
  pub each : AreChained board table runs
