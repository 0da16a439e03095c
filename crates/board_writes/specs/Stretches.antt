-- Writes of a word as stretches: of one master, one behind another in its program.
use Rattle.std.specs.Prelude.{◌≡◌, ℕ, ◌-◌, ◌<◌, ◌≤◌, Bool, true, false, List, [], ◌∷◌, ◌++◌, length, take, drop, filter, map, bit_and, ◌+◌, Option, Some, None, not, nat_le, ◌&&◌, slice_get, slice_set, if◌then◌else◌}
use Rattle.std.specs.List.{list_any, AllByRecursion}
use Rattle.pci_command.specs.declared.op_id.OpId.{OpId}
use Rattle.board_model.specs.device.Registers.{enabled_bits}
use Rattle.pci_command.specs.Same.{same_op}
use Rattle.board_writes.specs.declared.writers.write.WordWrite.{WordWrite}
use Rattle.board_writes.specs.Rows.{ProgramRows}
use Rattle.board_writes.specs.Looks.{before_in, no_more_in, left_out_in, KnowAlike, TellsNothing, is_behind}

-- the writes of these runs, one run after another
abbrev pub joined : List (List WordWrite) → List WordWrite
joined [] = []
joined (run ∷ runs) = run ++ joined runs

-- each stands behind all before it in one program
abbrev pub Stretch : List WordWrite → Type 0
Stretch [] = Unit {0}
Stretch (w ∷ ws) = AllByRecursion (λ (v : WordWrite). is_behind w v ≡ true) ws × Stretch ws

-- these are stretches
abbrev pub AreStretches : List (List WordWrite) → Type 0
AreStretches runs = AllByRecursion Stretch runs

-- and of these writes
pub record AreStretchesOf (writes : List WordWrite) (runs : List (List WordWrite)) : Type 0 where
  pub all : joined runs ≡ writes
  pub each : AreStretches runs

-- the value that a write brings
abbrev pub value_in : WordWrite → ℕ
value_in w = bit_and w.phase.value 0xffff_ffff

-- the values of those of which the word is not the last
abbrev pub early_values : List WordWrite → List ℕ
early_values ws = map value_in (filter (λ w. not w.last) ws)

-- of these bits those that each of the writes writes
abbrev pub shared_from : ℕ → List WordWrite → ℕ
shared_from bits [] = bits
shared_from bits (w ∷ ws) = shared_from (bit_and bits (bit_and (enabled_bits w.phase.enables) 0xffff_ffff)) ws

-- the bits that each of the writes writes
abbrev pub shared_bits : List WordWrite → ℕ
shared_bits ws = shared_from 0xffff_ffff ws

-- they are stretches; the values are those of which the word is not the last; and each write writes these bits
pub record AreSummed (runs : List (List WordWrite)) (early : List ℕ) (bits : ℕ) : Type 0 where
  pub each : AreStretches runs
  pub early_are : early ≡ early_values (joined runs)
  pub bits_are : bits ≡ shared_bits (joined runs)

-- One write more.

-- the last of a list
abbrev pub end_of : {X : Type 0} → List X → Option X
end_of xs = slice_get xs (length xs - 1)

-- the write stands behind this one, if there is one, in one program
abbrev pub goes_on : WordWrite → Option WordWrite → Bool
goes_on w None = false
goes_on w (Some last) = is_behind last w

-- it is put behind the last stretch, or begins one
abbrev pub pushed_at : WordWrite → List (List WordWrite) → Option (List WordWrite) → List (List WordWrite)
pushed_at w runs None = runs ++ (w ∷ []) ∷ []
pushed_at w runs (Some run) =
    if goes_on w (end_of run) then slice_set runs (length runs - 1) (run ++ w ∷ []) else runs ++ (w ∷ []) ∷ []

-- the stretches with one write more
abbrev pub pushed : WordWrite → List (List WordWrite) → List (List WordWrite)
pushed w runs = pushed_at w runs (end_of runs)

-- Parts of a stretch.

-- so many from the first on have an index below this, and no others
pub record PartsAt (bound : ℕ) (run : List WordWrite) (count : ℕ) : Type 0 where
  pub low : AllByRecursion (λ (w : WordWrite). w.op.index < bound) (take count run)
  pub high : AllByRecursion (λ (w : WordWrite). bound ≤ w.op.index) (drop count run)

-- these come before the poll
abbrev pub AreBefore : List ProgramRows → OpId → List WordWrite → Type 0
AreBefore rows p writes = AllByRecursion (λ (w : WordWrite). before_in rows w.op p ≡ true) writes

-- so many come before the poll, and no others
pub record PartsBefore (rows : List ProgramRows) (p : OpId) (run : List WordWrite) (count : ℕ) : Type 0 where
  pub low : AreBefore rows p (take count run)
  pub high : AllByRecursion (λ (w : WordWrite). before_in rows w.op p ≡ false) (drop count run)

-- a stretch is those of it that come before the poll, and then those that do not
pub record IsParted (rows : List ProgramRows) (p : OpId) (run before beyond : List WordWrite) : Type 0 where
  pub all : before ++ beyond ≡ run
  pub low : AreBefore rows p before
  pub high : AllByRecursion (λ (w : WordWrite). before_in rows w.op p ≡ false) beyond

-- there is no write here that has an index below this
abbrev pub is_from : Option WordWrite → ℕ → Bool
is_from None bound = true
is_from (Some w) bound = nat_le bound w.op.index

-- the first of a stretch comes before the poll
abbrev pub first_before : List ProgramRows → OpId → List WordWrite → Bool
first_before rows p [] = false
first_before rows p (w ∷ ws) = before_in rows w.op p

-- Looking through them.

-- those from the first on that passes a test
abbrev pub from_first : (WordWrite → Bool) → List WordWrite → List WordWrite
from_first test [] = []
from_first test (w ∷ ws) = if test w then w ∷ ws else from_first test ws

-- how many numbers there are up to and with the last that passes a test
abbrev pub count_to_last : (ℕ → Bool) → List ℕ → ℕ
count_to_last test [] = 0
count_to_last test (n ∷ ns) = if list_any test (n ∷ ns) then 1 + count_to_last test ns else 0

-- Raisers.

-- once this other write lands a raiser lands no more
abbrev pub ends_with : List ProgramRows → WordWrite → WordWrite → Bool
ends_with rows f x = not (same_op x.op f.op) && no_more_in rows f x.op

-- each of these is one of those
abbrev pub AreAmong : List WordWrite → List WordWrite → Type 0
AreAmong writes these = (test : WordWrite → Bool) → list_any test these ≡ true → list_any test writes ≡ true

-- these of them are not left out by those
abbrev pub stay : List ProgramRows → OpId → List WordWrite → List WordWrite → List WordWrite
stay rows p writes these = filter (λ f. not (left_out_in rows p writes f)) these

-- a write, where there is one
abbrev pub list_of : Option WordWrite → List WordWrite
list_of None = []
list_of (Some w) = w ∷ []

-- the first of these, where there is one
abbrev pub first_in : List WordWrite → List WordWrite
first_in [] = []
first_in (w ∷ ws) = w ∷ []

-- with whatever is behind it they know what they did with those of this stretch that are not left out; or one of these
-- comes before the poll, which is told of nothing then
pub record PutsRun (rows : List ProgramRows) (p : OpId) (writes run old new : List WordWrite) (ended : Bool) : Type 0 where
  pub alike : ended ≡ false → (rest : List WordWrite) → KnowAlike rows (new ++ rest) (old ++ (stay rows p writes run ++ rest))
  pub nothing : ended ≡ true → TellsNothing rows p new × TellsNothing rows p (stay rows p writes run)

-- some run may come to a write
abbrev pub is_reached_at : List ProgramRows → WordWrite → Bool
is_reached_at rows f = not (before_in rows f.op f.op)
