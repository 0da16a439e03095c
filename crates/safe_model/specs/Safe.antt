-- What a read returns in every run: the writes of its word that come before it, one after another.
use Rattle.std.specs.Prelude.{◌≡◌, ◌≢◌, ℕ, ◌⊎◌, true, false, List, [], ◌∷◌}
use Rattle.std.specs.List.{list_any, AllByRecursion}
use Rattle.pci_command.specs.declared.op_id.OpId.{OpId}
use Rattle.pci_command.specs.Same.{same_op}
use Rattle.board_model.specs.declared.board.Board.{Board}
use Rattle.board_model.specs.Requests.{op_of, reads}
use Rattle.board_model.specs.Ways.{Dword}
use Rattle.history_model.specs.Words.{Landing, opens_as, merged}
use Rattle.history_model.specs.Knowledge.{is_landing_of, is_write, words_named}
use Rattle.safe_model.specs.Raisers.{phases_to}
use Rattle.safe_model.specs.Clocks.{Table, is_poll, IsBefore, LandsNoMore}

-- a write of the word that comes before the read, with the data phase that it brings there
pub record IsMember (board : Board) (table : Table) (word : Dword) (r : OpId) (member : Landing) : Type 0 where
  pub writes : is_write board member.op ≡ true
  pub brings : phases_to board word member.op ≡ member.phase ∷ []
  pub before : IsBefore board table member.op r

-- two writes are settled, the earlier first: they are two, and the first lands no more once the second does
abbrev pub Settles : Board → Table → OpId → OpId → Type 0
Settles board table a b = (same_op b a ≡ false) × LandsNoMore board table a b

-- each is settled with all behind it
abbrev pub IsSettled : Board → Table → List Landing → Type 0
IsSettled board table [] = Unit {0}
IsSettled board table (member ∷ members) =
    AllByRecursion (λ (other : Landing). Settles board table member.op other.op) members × IsSettled board table members

-- a read that is no poll returns the value in every run in which it ends: of the writes of its word these come before
-- it, each settled with those behind it, and it comes before all others
pub record IsSafe (board : Board) (table : Table) (r : OpId) (value : ℕ) : Type 0 where
  pub word : Dword
  pub has_word : words_named board r ≡ word ∷ []
  pub reads_once : is_poll (op_of board r) ≡ false
  pub reads_it : reads board r ≡ true
  pub members : List Landing
  pub are_members : AllByRecursion (IsMember board table word r) members
  pub settled : IsSettled board table members
  pub others : (w : OpId) → is_write board w ≡ true → phases_to board word w ≢ [] →
      (list_any (is_landing_of w) members ≡ true) ⊎ IsBefore board table r w
  pub is_value : value ≡ merged word (opens_as board word) members
