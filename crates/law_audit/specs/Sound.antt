-- What an audit is to be: its findings are so, none is missing, and none is there twice.
use Rattle.std.specs.Prelude.{◌≡◌, ◌⊎◌, ℕ, true, List, ◌∷◌, ◌++◌, map, Some, Contains, slice_get}
use Rattle.pci_command.specs.declared.op_id.OpId.{OpId}
use Rattle.board_model.specs.declared.board.Board.{Board}
use Rattle.history_model.specs.declared.event.Event.{Event}
use Rattle.history_model.specs.Words.{Landing, landed}
use Rattle.history_model.specs.Knowledge.{Reading, given_value, got, later, Told, is_write, words_named}
use Rattle.law_audit.specs.Audit.{Finding, findings}
use Rattle.law_audit.specs.Links.{IsChain}

-- the read's master knew of the write before it: an earlier operation of it that ended is the write, or was told of it
pub record Knew (board : Board) (h : List Event) (w r : OpId) : Type 0 where
  pub writes : is_write board w ≡ true
  pub by : OpId
  pub before : later board h by r ≡ true
  pub known : (by ≡ w) ⊎ Told board h w by

-- a finding is so: what was read and returned; its write was known before, by this chain, in which each operation
-- tells the next; and of what had landed in the word, nothing behind a landing of that write was known
pub record IsFound (board : Board) (h : List Event) (found : Finding) : Type 0 where
  pub reading : Reading
  pub is_got : got board h found.read ≡ Some reading
  pub is_word : found.word ≡ reading.word
  pub is_value : given_value h found.read ≡ Some found.value
  pub knew : Knew board h found.write found.read
  pub is_chain : IsChain board h found.write found.read found.chain
  pub ahead : List Landing
  pub landing : Landing
  pub behind : List Landing
  pub is_of : landing.op ≡ found.write
  pub is_landed : landed board reading.before reading.word ≡ ahead ++ landing ∷ behind
  pub is_last : (x : Landing) → Contains behind x → ¬ Knew board h x.op found.read

-- the reads of the findings, in their order
abbrev pub reads_found : Board → List Event → List OpId
reads_found board h = map (λ (found : Finding). found.read) (findings board h)

-- each finding is so
abbrev pub AreSound : Board → List Event → Type 0
AreSound board h = (found : Finding) → Contains (findings board h) found → IsFound board h found

-- each read that ended with what it read of a word, and whose master knew of a write of that word before, has one
abbrev pub AreAll : Board → List Event → Type 0
AreAll board h =
    (w r : OpId) (reading : Reading) → Knew board h w r → got board h r ≡ Some reading
    → Contains (words_named board w) reading.word → Contains (reads_found board h) r

-- and no read has two
abbrev pub AreOnce : Board → List Event → Type 0
AreOnce board h =
    (i j : ℕ) (r : OpId) → slice_get (reads_found board h) i ≡ Some r → slice_get (reads_found board h) j ≡ Some r → i ≡ j
