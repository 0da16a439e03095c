-- What is said of each operation of a board, by a table of clocks.
use Rattle.std.specs.Prelude.{ℕ, Bool, true, false, not, List, [], ◌∷◌, ◌++◌, map, filter, Option, Some, None, slice_get, ◌&&◌, ◌||◌, if◌then◌else◌}
use Rattle.std.specs.List.{find, list_any}
use Rattle.std.specs.Option.{option_or}
use Rattle.pci_command.specs.declared.op_id.OpId.{OpId}
use Rattle.pci_command.specs.Same.{same_op}
use Rattle.board_model.specs.declared.board.Board.{Board}
use Rattle.board_model.specs.declared.op.Op.{Op}
use Rattle.board_model.specs.declared.op.Op.TheVariants.{Read, Write, CfgRead, CfgWrite, Poll}
use Rattle.board_model.specs.declared.agents.Master.{Master}
use Rattle.board_model.specs.declared.bridge.Place.{Place}
use Rattle.board_model.specs.declared.bridge.Place.TheVariants.{Target, Header, Lane, Nobody}
use Rattle.board_model.specs.Requests.{op_of}
use Rattle.board_model.specs.Ways.{Dword, route_of}
use Rattle.history_model.specs.Words.{Landing, opens_as, merged}
use Rattle.history_model.specs.Knowledge.{words_named}
use Rattle.safe_model.specs.Raisers.{phases_to}
use Rattle.safe_model.specs.Clocks.{Table}
use Rattle.safe_model.specs.largest.Tests.{is_before, is_reached, lands_no_more, writes_of, Wish, wish_of, is_told, raisers}

-- a verdict on an operation
pub data Said : Type 0 where
  -- the read returns the value in every run in which it ends
  safe : (word : Dword) → (value : ℕ) → Said
  -- nothing orders the read and this write, or this write and another
  unsafe : (word : Dword) → (beside : OpId) → Said
  -- nobody takes the write, or its target aborts it
  lost : (aborted : Bool) → Said
  -- nobody takes the read or the poll, or its target aborts it, so that it reads no word
  nowhere : (aborted : Bool) → Said
  -- no run meets the poll
  vain : Said
  -- what meets the poll tells it of nothing
  loose : Said

-- the writes of a word that some run may come to
abbrev pub members : Board → Table → Dword → List OpId
members board table word = filter (is_reached board table) (writes_of board word)

-- those before the read
abbrev pub members_before : Board → Table → Dword → OpId → List OpId
members_before board table word r = filter (λ w. is_before board table w r) (members board table word)

-- neither before the read nor behind it
abbrev pub is_beside : Board → Table → OpId → OpId → Bool
is_beside board table r w = not (is_before board table w r) && not (is_before board table r w)

-- one of the two lands no more once the other does
abbrev pub is_settled : Board → Table → OpId → OpId → Bool
is_settled board table a b = lands_no_more board table a b || lands_no_more board table b a

-- some other of these is not settled with it
abbrev pub is_open : Board → Table → List OpId → OpId → Bool
is_open board table writes a = list_any (λ b. not (same_op a b) && not (is_settled board table a b)) writes

-- the first write that makes a read of the word unsafe
abbrev pub first_beside : Board → Table → Dword → OpId → Option OpId
first_beside board table word r =
    let before = members_before board table word r in
    option_or (find (is_beside board table r) (members board table word)) (find (is_open board table before) before)

-- a write put among others, ahead of the first that it lands no more behind
abbrev pub put : Board → Table → OpId → List OpId → List OpId
put board table a [] = a ∷ []
put board table a (b ∷ rest) = if lands_no_more board table a b then a ∷ b ∷ rest else b ∷ put board table a rest

-- writes in the order in which they land
abbrev pub in_order : Board → Table → List OpId → List OpId
in_order board table [] = []
in_order board table (w ∷ writes) = put board table w (in_order board table writes)

-- the data phases that a write brings to the word
abbrev pub landings_of : Board → Dword → OpId → List Landing
landings_of board word w = map (λ phase. record { op = w; phase = phase }) (phases_to board word w)

-- the data phases that these writes bring to the word, one write after another
abbrev pub all_landings : Board → Dword → List OpId → List Landing
all_landings board word [] = []
all_landings board word (w ∷ writes) = landings_of board word w ++ all_landings board word writes

-- what these writes leave in the word, one after another
abbrev pub left_by : Board → Dword → List OpId → ℕ
left_by board word writes = merged word (opens_as board word) (all_landings board word writes)

-- of a read of the word, by the first write that makes it unsafe
abbrev pub said_beside : Board → Table → Dword → OpId → Option OpId → Said
said_beside board table word r None = safe word (left_by board word (in_order board table (members_before board table word r)))
said_beside board table word r (Some w) = unsafe word w

-- who claims an operation at the end of its way
abbrev pub owner_of : Board → OpId → Op → Option Master → Place
owner_of board o op None = Nobody
owner_of board o op (Some master) = (route_of board op master.bus).owner

-- of a read or a poll without a word, by who claims it at the end of its way: the header of a bridge answers it
abbrev pub said_nowhere : Place → Option Said
said_nowhere (Target target) = Some (nowhere true)
said_nowhere (Header bus) = None
said_nowhere (Lane lane) = None
said_nowhere Nobody = Some (nowhere false)

-- of a read that is no poll, by its word
abbrev pub said_of_read : Board → Table → OpId → Op → List Dword → Option Said
said_of_read board table r op [] = said_nowhere (owner_of board r op (slice_get board.masters r.master))
said_of_read board table r op (word ∷ words) = Some (said_beside board table word r (first_beside board table word r))

-- of a write without a word, by who claims it at the end of its way
abbrev pub said_lost : Place → Option Said
said_lost (Target target) = Some (lost true)
said_lost (Header bus) = None
said_lost (Lane lane) = None
said_lost Nobody = Some (lost false)

-- of a write: one that has a word has no line
abbrev pub said_of_write : Board → OpId → Op → List Dword → Option Said
said_of_write board w op [] = said_lost (owner_of board w op (slice_get board.masters w.master))
said_of_write board w op (word ∷ words) = None

-- of a poll: it reads no word, it is told of nothing, or none of what can meet it is ever done
abbrev pub said_of_poll : Board → Table → OpId → Op → Option Wish → Option Said
said_of_poll board table p op None = option_or (said_nowhere (owner_of board p op (slice_get board.masters p.master))) (Some loose)
said_of_poll board table p op (Some wish) =
    if is_told board table p (Some wish)
    then (if list_any (is_reached board table) (raisers board table p wish) then None else Some vain)
    else Some loose

-- of an operation that was found
abbrev pub said_as : Board → Table → OpId → Option Op → Option Said
said_as board table o None = None
said_as board table o (Some (Read command address)) = said_of_read board table o (Read command address) (words_named board o)
said_as board table o (Some (Write command address phases)) = said_of_write board o (Write command address phases) (words_named board o)
said_as board table o (Some (CfgRead bus device register)) = said_of_read board table o (CfgRead bus device register) (words_named board o)
said_as board table o (Some (CfgWrite bus device register phase)) = said_of_write board o (CfgWrite bus device register phase) (words_named board o)
said_as board table o (Some (Poll space address want tries)) = said_of_poll board table o (Poll space address want tries) (wish_of board o)

-- of an operation that some run may come to; of others nothing
abbrev pub said_of : Board → Table → OpId → Option Said
said_of board table o = if is_reached board table o then said_as board table o (op_of board o) else None
