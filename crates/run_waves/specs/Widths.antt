-- How large the numbers are that signals show. What a bus shows as a number is the value of a read, which has 32 bits by
-- its type.
use Rattle.std.specs.Prelude.{◌≡◌, ◌≤◌, ◌<◌, ℕ, ◌+◌, ◌^◌, Bool, true, false, List, [], ◌∷◌, length, codes}
use Rattle.std.specs.Fmt.{decimal}
use Rattle.board_model.specs.declared.board.Board.{Board}
use Rattle.history_model.specs.declared.event.Event.{Event}
use Rattle.run_waves.specs.declared.signal.Signal.{Signal}
use Rattle.run_waves.specs.declared.signal.Signal.TheVariants.{Bus, Lane, Index, Try, Waits, Stall}
use Rattle.run_waves.specs.Shown.{beginning, Number, shown}
use Rattle.run_waves.specs.Dump.{kind_of}
use Rattle.run_waves.specs.Told.{moment_from}

-- a signal of a lane, a master or a target
abbrev pub is_kept : Signal → Bool
is_kept (Bus bus part) = false
is_kept (Lane lane count) = true
is_kept (Index master) = true
is_kept (Try master) = true
is_kept (Waits master) = true
is_kept (Stall target) = true

-- the signal is declared as a register of so many bits, and the number has no more
pub record FitsIn (signal : Signal) (number : ℕ) : Type 0 where
  pub bits : ℕ
  pub declared : kind_of signal ≡ codes "reg" ∷ decimal bits ∷ []
  pub fits : number < 2 ^ bits

-- at each moment a number that is shown of a lane, a master or a target fits in what is declared
abbrev pub NumbersFit : Board → List Event → Type 0
NumbersFit board events =
    (n number : ℕ) (signal : Signal) → n ≤ length events + 1 → is_kept signal ≡ true
    → shown board (moment_from beginning events n) signal ≡ Number number → FitsIn signal number
