-- Who was looked up before.
use Rattle.std.specs.Prelude.{◌≡◌, ℕ, ◌<◌, List, Option, None, Ok, length, slice_index_or, IfSome}
use Rattle.board_model.specs.declared.board.Board.{Board}
use Rattle.observe_log.specs.declared.line.initiators.Known.{Known}
use Rattle.observe_log.specs.Words.{who_in}

-- whoever is known is who drives the lines of the bus that have this word
pub record AreRight (board : Board) (likely : List (Option Known)) : Type 0 where
  pub places : length likely ≡ 256
  pub right : (at : ℕ) → at < 256 → IfSome (slice_index_or likely at None) (λ known. who_in board known.bus known.word.now ≡ Ok known.who)
