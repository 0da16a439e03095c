-- The writes that raise what is waited for, listed apart.
use Rattle.std.specs.Prelude.{◌≡◌, Bool, List, filter, IfSome, Option, ◌==◌, ◌&&◌}
use Rattle.std.specs.Map.{lookup}
use Rattle.board_model.specs.declared.op.Want.{Want}
use Rattle.board_model.specs.declared.word.Word.{Word}
use Rattle.history_model.specs.World.{same_direction}
use Rattle.audit_clocks.specs.Tables.{same_word}
use Rattle.board_writes.specs.declared.polls.awaited.Awaited.{Awaited}
use Rattle.board_writes.specs.declared.writers.write.WordWrite.{WordWrite}
use Rattle.board_writes.specs.Writes.{writes_at}
use Rattle.board_writes.specs.Polls.{raises_it}
use Rattle.board_writes.specs.Stretches.{AreAmong}

-- the same two numbers, and the same way round
abbrev pub same_want : Want → Want → Bool
same_want a b = a.mask == b.mask && (a.wanted == b.wanted && same_direction a.differs b.differs)

-- the same is waited for
abbrev pub same_awaited : Awaited → Awaited → Bool
same_awaited a b = same_word a.word b.word && same_want a.want b.want

-- what is listed for it, where something is
abbrev pub found_for : Awaited → List (Awaited × List WordWrite) → Option (List WordWrite)
found_for awaited lists = lookup (same_awaited awaited) lists

-- of what they are listed for these are all raisers among the writes of its word
pub record KeepsRaising (entries : List (Word × List WordWrite)) (lists : List (Awaited × List WordWrite)) : Type 0 where
  pub of_awaited : (awaited : Awaited) → IfSome (found_for awaited lists) (λ these. these ≡ filter (raises_it awaited) (writes_at awaited.word entries))

-- these are some of the writes, among them all that raise it
pub record AreRaising (awaited : Awaited) (writes these : List WordWrite) : Type 0 where
  pub all : filter (raises_it awaited) these ≡ filter (raises_it awaited) writes
  pub among : AreAmong writes these
