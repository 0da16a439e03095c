-- The events of an operation, one after another.
use Rattle.std.proofs.Common.{◌≡◌, ℕ, ◌≤◌, List, length, drop, sym, ap, ◌∙◌}
use Rattle.std.proofs.lemmas.List.{drop_all}
use Rattle.board_model.specs.declared.board.Board.{Board}
use Rattle.history_model.specs.declared.event.Event.{Event}
use Rattle.command_traces.specs.declared.draw.rows.Rows.{Rows}
use Rattle.command_traces.specs.draw.Operations.{rows_after}

-- behind the last event nothing is to come
pub rows_all : (board : Board) (word : List ℕ) (events : List Event) (i : ℕ) (rows whole : Rows) → length events ≤ i → rows_after board word i (drop i events) rows ≡ whole → rows ≡ whole
rows_all board word events i rows whole past so = ap (λ (es : List Event). rows_after board word i es rows) (sym (drop_all i events past)) ∙ so
