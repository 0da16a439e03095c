-- All buses.
use Rattle.std.proofs.Common.{◌≡◌, ℕ, ◌≤◌, List, [], length, drop, sym, ap, ◌∙◌}
use Rattle.std.proofs.lemmas.List.{drop_all}
use Rattle.board_model.specs.declared.board.Board.{Board}
use Rattle.draw_items.specs.declared.journey.Journey.{Journey}
use Rattle.draw_items.specs.columns.Order.{middle_of, in_order}
use Rattle.draw_items.specs.columns.Places.{Layout, with_buses, layout_of}

pub layout_all : (board : Board) (items : List Journey) (start middle i : ℕ) (buses : List ℕ) (columns first : Layout) → length buses ≤ i → with_buses board items middle (drop i buses) columns ≡ with_buses board items middle buses first
    → middle ≡ middle_of board → buses ≡ in_order board middle → first ≡ record { bands = []; lines = []; rows = 0; past = start } → columns ≡ layout_of board items start
unfolding layout_of
layout_all board items start middle i buses columns first past so middle_is buses_is first_is =
    ap (λ (l : List ℕ). with_buses board items middle l columns) (sym (drop_all i buses past))
    ∙ so
    ∙ ap (λ (l : List ℕ). with_buses board items middle l first) buses_is
    ∙ ap (λ (m : ℕ). with_buses board items m (in_order board m) first) middle_is
    ∙ ap (λ (l : Layout). with_buses board items (middle_of board) (in_order board (middle_of board)) l) first_is
