-- What a read returns of the landings in its word.
use Rattle.std.specs.Prelude.{◌≡◌, List, ◌∷◌, ◌++◌, Some, Contains}
use Rattle.pci_command.specs.declared.op_id.OpId.{OpId}
use Rattle.board_model.specs.declared.board.Board.{Board}
use Rattle.history_model.specs.declared.event.Event.{Event}
use Rattle.history_model.specs.Words.{Landing, landed, opens_as, merged, value_of}
use Rattle.history_model.specs.Knowledge.{Reading, given_value, got, Told, words_named}

-- a data phase of the write landed in the word before the reading, and the read returned the word as it opens with all
-- that landed before it, it, and all that landed after it
pub record ReturnsWhatWasLeft (board : Board) (h : List Event) (w r : OpId) (reading : Reading) : Type 0 where
  -- what landed in the word before it, oldest first, the data phase, and what landed after it
  pub earlier : List Landing
  pub landing : Landing
  pub later : List Landing
  -- it is the write's
  pub is_of : landing.op ≡ w
  -- these are all that had landed in the word as the read read it
  pub is_landed : landed board reading.before reading.word ≡ earlier ++ landing ∷ later
  -- the read returned what they leave of what the word opens with
  pub returns : given_value h r ≡ Some (merged reading.word (opens_as board reading.word) (earlier ++ landing ∷ later))

-- every read that was told of a write, and read a word of it, returned the word as the write, or what landed later,
-- left it
abbrev pub ReturnsAsLeft : Board → List Event → Type 0
ReturnsAsLeft board h =
    (w r : OpId) (reading : Reading) → Told board h w r → got board h r ≡ Some reading
    → Contains (words_named board w) reading.word → ReturnsWhatWasLeft board h w r reading

-- every read that read at a target returned what the word held then, told or not
abbrev pub ReturnsAsHeld : Board → List Event → Type 0
ReturnsAsHeld board h =
    (r : OpId) (reading : Reading) → got board h r ≡ Some reading
    → given_value h r ≡ Some (value_of board reading.before reading.word)
