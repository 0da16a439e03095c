use Rattle.std.proofs.Common.{◌≡◌, ℕ, ◌&&◌, nat_lt, nat_le, List, [], ◌∷◌, ◌++◌, reverse, ap, ◌∙◌, append_assoc}
use Rattle.std.specs.List.{filter}
use Rattle.board_model.specs.Valid.{has_bridge_to}
use Rattle.draw_items.specs.columns.Order.{lower_buses}
use Rattle.draw_items.proofs.columns.order.in_order.Goals as goal

pub returns : goal.returns
returns c =
    let board = c.args.board.now in
    let middle = c.args.middle in
    let left : List ℕ → List ℕ = λ buses. filter (λ bus. nat_lt bus middle && has_bridge_to board bus) buses in
    let right : List ℕ → List ℕ = λ buses. filter (λ bus. nat_le middle bus && has_bridge_to board bus) buses in
    let lefts : c.in_ok-buses.buses.items ≡ left lower_buses = c.in_ok-buses.ensures ∙ ap left (c.as_slice.ensures.value ∙ c.in_ok-lower.ensures) in
    let rights : c.as_slice-3.result.now ≡ right lower_buses = c.as_slice-3.ensures.value ∙ c.in_ok-right.ensures ∙ ap right (c.as_slice-2.ensures.value ∙ c.in_ok-lower.ensures) in
    c.in_ok-extend_from_slice.ensures.items
    ∙ ap (λ (l : List ℕ). l ++ c.as_slice-3.result.now) (c.in_ok-push.ensures.items ∙ ap (λ (l : List ℕ). l ++ 0 ∷ []) (c.reverse.ensures.items ∙ ap (λ (l : List ℕ). reverse l) lefts))
    ∙ append_assoc (reverse (left lower_buses)) (0 ∷ []) c.as_slice-3.result.now
    ∙ ap (λ (l : List ℕ). reverse (left lower_buses) ++ 0 ∷ l) rights
