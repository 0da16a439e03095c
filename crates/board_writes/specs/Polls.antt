-- What is kept of the polls of a board.
use Rattle.std.specs.Prelude.{◌≡◌, ℕ, ◌<◌, Bool, false, List, [], filter, length, Option, Some, None, get_or, not, ◌&&◌, ◌||◌, if◌then◌else◌}
use Rattle.std.specs.List.{list_any}
use Rattle.pci_command.specs.declared.op_id.OpId.{OpId}
use Rattle.board_model.specs.declared.board.Board.{Board}
use Rattle.board_model.specs.declared.word.Word.{Word}
use Rattle.history_model.specs.Words.{opens_as}
use Rattle.safe_model.specs.Raisers.{is_met_by, is_whole, brings_met}
use Rattle.safe_model.specs.Clocks.{Table, at_place}
use Rattle.safe_model.specs.largest.Tests.{Wish, wish_of, is_firm, raisers, is_reached, program_of}
use Rattle.audit_clocks.specs.Tables.{dword}
use Rattle.board_writes.specs.declared.polls.awaited.Awaited.{Awaited}
use Rattle.board_writes.specs.declared.writers.write.WordWrite.{WordWrite}
use Rattle.board_writes.specs.Writes.{writes_at, ListsWrites}
use Rattle.board_writes.specs.Rows.{ProgramRows, number}
use Rattle.board_writes.specs.Looks.{left_out_in, any_before, is_reached_in, most_in}

-- what a poll waits for, as the tests have it
abbrev pub wish_for : Awaited → Wish
wish_for awaited = record { word = dword awaited.word; want = awaited.want }

-- what is kept of a poll that has a word
pub record PollFacts : Type 0 where
  pub awaited : Awaited
  -- what the word opens as meets it
  pub opens : Bool
  pub firm : Bool

-- what is kept of a poll is so
pub record IsPoll (board : Board) (p : OpId) (poll : PollFacts) : Type 0 where
  pub waits : wish_of board p ≡ Some (wish_for poll.awaited)
  pub opens : poll.opens ≡ is_met_by poll.awaited.want (opens_as board (dword poll.awaited.word))
  pub firm : poll.firm ≡ is_firm board (wish_for poll.awaited)

-- something is kept of an operation where it is a poll that has a word
abbrev pub IsPollOrNone : Board → OpId → Option PollFacts → Type 0
IsPollOrNone board p None = wish_of board p ≡ None
IsPollOrNone board p (Some poll) = IsPoll board p poll

-- what is kept of an operation
abbrev pub poll_at : List (List (Option PollFacts)) → OpId → Option PollFacts
poll_at programs o = get_or (get_or programs o.master []) o.index None

-- of each poll that has a word what is kept is so, and of no other operation there is anything
pub record KnowsPolls (board : Board) (programs : List (List (Option PollFacts))) : Type 0 where
  pub each : (master index : ℕ) → IsPollOrNone board (at_place master index) (poll_at programs (at_place master index))

-- some run may come to one of a poll's raisers
abbrev pub is_raised : Board → Table → OpId → Option Wish → Bool
is_raised board table p None = false
is_raised board table p (Some wish) = list_any (is_reached board table) (raisers board table p wish)

-- The writes of its word.

-- the write brings a value that is waited for
abbrev pub raises_it : Awaited → WordWrite → Bool
raises_it awaited write = brings_met awaited.want write.phase

-- the write writes all that the mask looks at, and where it brings what is waited for, it does so last
abbrev pub is_clean_write : Awaited → WordWrite → Bool
is_clean_write awaited write = is_whole awaited.want.mask write.phase && (not (raises_it awaited write) || write.last)

-- By the rows of a table.

-- by these writes of its word a poll is told something by what it sees
abbrev pub told_in : List ProgramRows → OpId → List WordWrite → PollFacts → Bool
told_in rows p writes poll = poll.firm && (not poll.opens || any_before rows p writes)

-- those of these writes that raise it and are not left out by the writes of its word
abbrev pub staying : List ProgramRows → OpId → Awaited → List WordWrite → List WordWrite → List WordWrite
staying rows p awaited writes these = filter (λ f. not (left_out_in rows p writes f)) (filter (raises_it awaited) these)

-- its raisers
abbrev pub raisers_in : List ProgramRows → OpId → List WordWrite → PollFacts → List WordWrite
raisers_in rows p writes poll = staying rows p poll.awaited writes writes

-- the same of what is kept of an operation
abbrev pub told_at : List ProgramRows → OpId → List (Word × List WordWrite) → Option PollFacts → Bool
told_at rows p entries None = false
told_at rows p entries (Some poll) = told_in rows p (writes_at poll.awaited.word entries) poll

-- its raisers where it is told something, else none
abbrev pub raisers_at : List ProgramRows → OpId → List (Word × List WordWrite) → Option PollFacts → List WordWrite
raisers_at rows p entries None = []
raisers_at rows p entries (Some poll) =
    let writes = writes_at poll.awaited.word entries in if told_in rows p writes poll then raisers_in rows p writes poll else []

-- some run may come to one of its raisers
abbrev pub raised_in : List ProgramRows → OpId → List WordWrite → PollFacts → Bool
raised_in rows p writes poll = list_any (λ f. raises_it poll.awaited f && is_reached_in rows p writes f) writes

-- the same of what is kept of an operation
abbrev pub raised_at : List ProgramRows → OpId → List (Word × List WordWrite) → Option PollFacts → Bool
raised_at rows p entries None = false
raised_at rows p entries (Some poll) = raised_in rows p (writes_at poll.awaited.word entries) poll

-- these numbers may be known behind a poll at most that these raisers tell of, if it is told something
pub record AreMost (board : Board) (rows : List ProgramRows) (p : OpId) (told : Bool) (raisers : List WordWrite) (numbers : List ℕ) : Type 0 where
  pub all : length numbers ≡ length board.masters
  pub each : (other : ℕ) → other < length board.masters
      → number numbers other ≡ most_in rows p raisers (if told then program_of board other else 0) other

-- How it is found.

-- of the operations of a program what is kept is so
pub record KnowsProgram (board : Board) (master count : ℕ) (polls : List (Option PollFacts)) : Type 0 where
  pub are : length polls ≡ count
  pub each : (index : ℕ) → index < count → IsPollOrNone board (at_place master index) (get_or polls index None)

-- With the writes.

-- these are what is kept of the writes and the polls of the board
pub record AreKept (board : Board) (writers : List (Word × List WordWrite)) (polls : List (List (Option PollFacts))) : Type 0 where
  pub writes : ListsWrites board writers
  pub polls_are : KnowsPolls board polls
