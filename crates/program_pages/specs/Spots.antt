-- What of a line is pointed at.
use Rattle.std.specs.Prelude.{ℕ, Bool, ◌+◌, ◌-◌, List, length, Option, Some, None, not, position, slice_get}
use Rattle.board_text.specs.Lines.{is_allowed, is_allowed_comment}
use Rattle.board_text.specs.Tokens.{uncommented, comment_of, tokens_of}
use Rattle.board_text.specs.declared.tokens.Token.{Token}
use Rattle.text_faults.specs.declared.board_line.LineFault.{LineFault}
use Rattle.text_faults.specs.declared.board_line.LineFault.TheVariants as faults
use Rattle.program_pages.specs.declared.spot.Spot.{Spot}
use Rattle.program_pages.specs.declared.spot.Spot.TheVariants.{BehindLimit, BadByte, BehindWords, Word}

-- the spot that a fault names by itself: of a line too long the byte behind the most, of a bad byte the byte, of a
-- missing word what is behind the last; of a line with no owner, or of a thing too many, its first word, and of a name
-- or a bus that is used already the name or bus, its second. Of any other fault it is the word at fault
abbrev pub named_spot : LineFault → Option Spot
named_spot faults.TooLong = Some BehindLimit
named_spot faults.BadByte = Some BadByte
named_spot faults.Missing = Some BehindWords
named_spot faults.NoOwner = Some (Word 0)
named_spot faults.OverLimit = Some (Word 0)
named_spot faults.NameUsed = Some (Word 1)
named_spot faults.BusUsed = Some (Word 1)
named_spot _ = None

-- a byte that may not stand before a comment
abbrev pub is_barred : ℕ → Bool
is_barred byte = not (is_allowed byte)

-- a byte that may not stand in a comment either
abbrev pub is_barred_in_comment : ℕ → Bool
is_barred_in_comment byte = not (is_allowed_comment byte)

-- a place of the comment of a line, in the line; 0 of none
abbrev pub in_comment : List ℕ → Option ℕ → ℕ
in_comment line None = 0
in_comment line (Some place) = length (uncommented line) + place

-- the place before the comment, or else that in it
abbrev pub or_in_comment : List ℕ → Option ℕ → ℕ
or_in_comment line None = in_comment line (position is_barred_in_comment (comment_of line))
or_in_comment line (Some place) = place

-- where a word ends, and one place on; 0 of no word
abbrev pub behind : Option Token → ℕ
behind None = 0
behind (Some word) = word.end + 1

-- where a word begins; 0 of no word
abbrev pub start_of : Option Token → ℕ
start_of None = 0
start_of (Some word) = word.start

-- the place of a spot in its line; 0 of a word or byte that the line lacks
abbrev pub place_of : List ℕ → Spot → ℕ
place_of line BehindLimit = 256
place_of line BadByte = or_in_comment line (position is_barred (uncommented line))
place_of line BehindWords = behind (slice_get (tokens_of 0 line) (length (tokens_of 0 line) - 1))
place_of line (Word place) = start_of (slice_get (tokens_of 0 line) place)
