-- The board of what was seen: that of the log, with programs, and with what a log does not say of its board.
use Rattle.std.specs.Prelude.{◌≡◌, ℕ, ◌≤◌, Bool, true, false, List, [], ◌∷◌, length, take, drop, Option, Some, None, ◌&&◌, ◌||◌, ◌==◌, nat_le, nat_lt, slice_get}
use Rattle.std.specs.List.{list_all, list_any}
use Rattle.std.specs.Str.{bytes_eq}
use Rattle.board_model.specs.Limits.{most_posted, most_dwords}
use Rattle.board_model.specs.declared.agents.Master.{Master}
use Rattle.board_model.specs.declared.agents.Target.{Target}
use Rattle.board_model.specs.declared.op.Op.{Op}
use Rattle.board_model.specs.declared.op.Op.TheVariants.{Poll}
use Rattle.board_model.specs.declared.board.Board.{Board}
use Rattle.board_model.specs.declared.bridge.Bridge.{Bridge}

-- each thing of one list beside the one at its place in the other, which is as long
abbrev pub Paired : {A : Type 0} → (A → A → Type 0) → List A → List A → Type 0
Paired P [] [] = Unit {0}
Paired P [] (y ∷ ys) = ⊥
Paired P (x ∷ xs) [] = ⊥
Paired P (x ∷ xs) (y ∷ ys) = P x y × Paired P xs ys

-- the same bridge, which may hold more posted writes than the log says: bursts that were cut are several
pub record IsRaised (seen raised : Bridge) : Type 0 where
  pub same : raised ≡ record seen { posted = raised.posted }
  pub more : seen.posted ≤ raised.posted
  pub most : raised.posted ≤ most_posted

-- all numbers but of posted writes
pub record SameNumbers (seen raised : Bridge) : Type 0 where
  pub bus : raised.bus ≡ seen.bus
  pub parent : raised.parent ≡ seen.parent
  pub device : raised.device ≡ seen.device
  pub last : raised.last ≡ seen.last
  pub delayed : raised.delayed ≡ seen.delayed
  pub mode : raised.mode ≡ seen.mode

-- all windows
pub record SameWindows (seen raised : Bridge) : Type 0 where
  pub mem : raised.mem ≡ seen.mem
  pub pref : raised.pref ≡ seen.pref
  pub io : raised.io ≡ seen.io

-- the same target: it neither stalls nor disconnects, and opens with further words
pub record IsOpened (seen opened : Target) : Type 0 where
  pub name : opened.name ≡ seen.name
  pub bus : opened.bus ≡ seen.bus
  pub device : opened.device ≡ seen.device
  pub vendor : opened.vendor ≡ seen.vendor
  pub model : opened.model ≡ seen.model
  pub ranges : opened.ranges ≡ seen.ranges
  pub aborts : opened.aborts ≡ seen.aborts
  pub openings : take (length seen.openings) opened.openings ≡ seen.openings
  pub stalls : opened.stalls ≡ 0
  pub burst : opened.burst ≡ most_dwords

-- the same master, with a program
pub record HasProgram (seen master : Master) : Type 0 where
  pub name : master.name ≡ seen.name
  pub bus : master.bus ≡ seen.bus

-- a digit
abbrev pub is_digit : ℕ → Bool
is_digit byte = nat_le 48 byte && nat_le byte 57

-- digits, of which there is one or more
abbrev pub are_digits : List ℕ → Bool
are_digits bytes = nat_lt 0 (length bytes) && list_all is_digit bytes

-- `-` and digits
abbrev pub is_number_behind : List ℕ → Bool
is_number_behind [] = false
is_number_behind (byte ∷ bytes) = byte == 45 && are_digits bytes

-- the name of a master's further thread: NAME-2, NAME-3 ..
abbrev pub is_thread_name : List ℕ → List ℕ → Bool
is_thread_name name thread =
    bytes_eq (take (length name) thread) name && is_number_behind (drop (length name) thread)

-- a further thread of a master, on its bus
abbrev pub is_thread_of : Master → Master → Bool
is_thread_of thread master = thread.bus == master.bus && is_thread_name master.name thread.name

-- where both are there
abbrev pub are_threads : Option Master → Option Master → Bool
are_threads None master = false
are_threads (Some thread) None = false
are_threads (Some thread) (Some master) = is_thread_of thread master

-- an operation that is tried once
abbrev pub is_no_poll : Op → Bool
is_no_poll (Poll space address want tries) = false
is_no_poll other = true

-- a master that polls nothing
abbrev pub polls_nothing : Master → Bool
polls_nothing master = list_all is_no_poll master.ops

-- the masters of a log and of the board: the same ones first, and then further threads of them; no line shows a poll
pub record AreMasters (seen masters : List Master) : Type 0 where
  pub same : Paired HasProgram seen (take (length seen) masters)
  pub threads : list_all (λ thread. list_any (is_thread_of thread) seen) (drop (length seen) masters) ≡ true
  pub no_polls : list_all polls_nothing masters ≡ true

-- the board of what was seen on the board of a log; which completions are discarded is left open
pub record IsSeenBoard (seen board : Board) : Type 0 where
  pub bridges : Paired IsRaised seen.bridges board.bridges
  pub targets : Paired IsOpened seen.targets board.targets
  pub masters : AreMasters seen.masters board.masters
  pub drops : board.drops ≡ []

-- a master of the board is the one of the log, or a further thread of it
abbrev pub is_master : Board → Board → ℕ → ℕ → Bool
is_master seen board own master =
    master == own
    || nat_le (length seen.masters) master && are_threads (slice_get board.masters master) (slice_get seen.masters own)
