-- What follows words stands behind them.
use Rattle.std.proofs.Common.{◌≡◌, List, [], ◌++◌, ℕ, append_assoc, refl}
use Rattle.board_printer.specs.Lines.{Line, spaced}
use Rattle.board_printer.proofs.LineLemmas.{spaced-rest, spaced-append}

pub spaced-parts : (xs ys : Line) (rest : List ℕ) → spaced (xs ++ ys) rest ≡ spaced xs [] ++ (spaced ys [] ++ rest)
spaced-parts xs ys rest = rw (spaced-rest (xs ++ ys), spaced-append, append_assoc) refl
