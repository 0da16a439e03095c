-- What is said of clocks, as tests over the operations of a board, by master, then by their places in the programs.
use Rattle.std.specs.Prelude.{ℕ, Bool, true, false, not, List, [], ◌∷◌, map, filter, Option, Some, None, ◌==◌, ◌&&◌, ◌||◌, nat_lt, if◌then◌else◌, slice_get, length}
use Rattle.std.specs.List.{list_all, list_any}
use Rattle.std.specs.Option.{option_map_or}
use Rattle.pci_command.specs.declared.op_id.OpId.{OpId}
use Rattle.pci_command.specs.Same.{same_op}
use Rattle.board_model.specs.declared.op.Want.{Want}
use Rattle.board_model.specs.declared.op.Op.{Op}
use Rattle.board_model.specs.declared.op.Op.TheVariants.{Poll}
use Rattle.board_model.specs.declared.board.Board.{Board}
use Rattle.board_model.specs.Requests.{op_of}
use Rattle.board_model.specs.Ways.{Dword}
use Rattle.history_model.specs.Words.{opens_as}
use Rattle.history_model.specs.Knowledge.{words_named}
use Rattle.law_lanes.specs.order.Order.{is_posted_op}
use Rattle.safe_model.specs.Ops.{ops_by}
use Rattle.safe_model.specs.Raisers.{phases_to, is_met_by, is_whole, brings_met, is_plain, same_dword}
use Rattle.safe_model.specs.Clocks.{Table, greater, clock_of, clock_with, behind}

-- an operation comes before another in every run
abbrev pub is_before : Board → Table → OpId → OpId → Bool
is_before board table p q = nat_lt p.index (clock_of board table q p.master)

-- some run may come to the operation: it does not come before itself
abbrev pub is_reached : Board → Table → OpId → Bool
is_reached board table o = not (is_before board table o o)

-- a write lands no more once the other does
abbrev pub lands_no_more : Board → Table → OpId → OpId → Bool
lands_no_more board table a b =
    (is_posted_op board a && is_before board table a b)
    || ((a.master == b.master && nat_lt a.index b.index) || is_before board table (behind a) b)

-- an operation brings the word a data phase
abbrev pub brings : Board → Dword → OpId → Bool
brings board word w = list_any (λ phase. true) (phases_to board word w)

-- the writes of a word
abbrev pub writes_of : Board → Dword → List OpId
writes_of board word = filter (brings board word) (ops_by 0 board.masters)

-- those before an operation
abbrev pub writes_before : Board → Table → Dword → OpId → List OpId
writes_before board table word o = filter (λ x. is_before board table x o) (writes_of board word)

-- what a poll waits for of its word
pub record Wish : Type 0 where
  pub word : Dword
  pub want : Want

-- of the words and the operation that were found
abbrev pub wish_in : List Dword → Option Op → Option Wish
wish_in (word ∷ []) (Some (Poll space address want tries)) = Some (record { word = word; want = want })
wish_in words op = None

-- of a poll that has a word
abbrev pub wish_of : Board → OpId → Option Wish
wish_of board p = wish_in (words_named board p) (op_of board p)

-- a write brings the word a value that is waited for
abbrev pub raises : Board → Wish → OpId → Bool
raises board wish f = list_any (brings_met wish.want) (phases_to board wish.word f)

-- the word is the last of these
abbrev pub is_last : Dword → List Dword → Bool
is_last word [] = false
is_last word (first ∷ []) = same_dword first word
is_last word (first ∷ rest) = is_last word rest

-- a write of the word writes all that the mask looks at, and where it brings what is waited for, it does so last
abbrev pub is_clean : Board → Wish → OpId → Bool
is_clean board wish f =
    list_all (is_whole wish.want.mask) (phases_to board wish.word f)
    && (not (raises board wish f) || is_last wish.word (words_named board f))

-- it is known what may bring what is waited for
abbrev pub is_firm : Board → Wish → Bool
is_firm board wish = is_plain wish.word.space && list_all (is_clean board wish) (writes_of board wish.word)

-- what the word opens as is not waited for, or a write of the word comes before the poll
abbrev pub opens_out : Board → Table → OpId → Wish → Bool
opens_out board table p wish =
    not (is_met_by wish.want (opens_as board wish.word)) || list_any (λ x. true) (writes_before board table wish.word p)

-- a poll is told something by what it sees; else it is loose
abbrev pub is_told : Board → Table → OpId → Option Wish → Bool
is_told board table p None = false
is_told board table p (Some wish) = is_firm board wish && opens_out board table p wish

-- a raiser is left out: it lands no more once another write of the word does that comes before the poll
abbrev pub is_left_out : Board → Table → OpId → Dword → OpId → Bool
is_left_out board table p word f =
    list_any (λ x. not (same_op x f) && lands_no_more board table f x) (writes_before board table word p)

-- the raisers of a poll: the writes that can meet it
abbrev pub raisers : Board → Table → OpId → Wish → List OpId
raisers board table p wish =
    filter (λ f. raises board wish f && not (is_left_out board table p wish.word f)) (writes_of board wish.word)

-- of numbers the least, and no more than this one
abbrev pub least : ℕ → List ℕ → ℕ
least most [] = most
least most (n ∷ numbers) = least (if nat_lt n most then n else most) numbers

-- how many operations the program of a master has
abbrev pub program_of : Board → ℕ → ℕ
program_of board master = option_map_or (λ agent. length agent.ops) (slice_get board.masters master) 0

-- what all raisers know of one master's operations: its whole program, where there is none
abbrev pub known_by_all : Board → Table → List OpId → ℕ → ℕ
known_by_all board table writes other = least (program_of board other) (map (λ f. clock_with board table f other) writes)

-- what a poll is told at least of one master's operations
abbrev pub told_to : Board → Table → OpId → Option Wish → ℕ → ℕ
told_to board table p None other = 0
told_to board table p (Some wish) other =
    if is_told board table p (Some wish) then known_by_all board table (raisers board table p wish) other else 0

-- what may be known behind a poll at most: what was known before it, and what it is told
abbrev pub most_known : Board → Table → OpId → ℕ → ℕ
most_known board table p other = greater (clock_of board table p other) (told_to board table p (wish_of board p) other)
