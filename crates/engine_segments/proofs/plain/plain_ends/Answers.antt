use Rattle.std.proofs.Common.{◌≡◌, ℕ, ◌<◌, ◌≤◌, List, [], ◌∷◌, Vec, Global, length, map, get_or, sym, ap, subst, ◌∙◌}
use Rattle.std.proofs.lemmas.List.{map-append, take_all}
use Rattle.board_model.specs.declared.board.Board.{Board}
use Rattle.lane_ends.specs.declared.plain.plain_end.PlainEnd.{PlainEnd}
use Rattle.lane_ends.specs.plain.Plain.{PlainState}
use Rattle.engine_segments.specs.First.{lanes_to, buses_of, AreEndsOf}
use Rattle.engine_segments.proofs.PortLemmas.{ends_more, alike_fit}
use Rattle.engine_segments.proofs.plain.plain_ends.Goals as goal

nothing : PlainState
nothing = record { got = []; hand = []; sent = [] }

pub loop-bus-preserved : goal.loop-bus-preserved
unfolding nothing
loop-bus-preserved c =
    let board : Board = c.args.tree.now in
    let n : ℕ = c.loop-bus.bus-index in
    let items : Vec PlainEnd Global → List PlainState = λ at. at.items in
    let here : ℕ → List PlainState = λ bus. map (λ lane. nothing) (lanes_to board bus) in
    let before : List (Vec PlainEnd Global) = c.loop-bus.ends.items in
    let same : c.as_slice-bus-items.result.now ≡ buses_of board = c.as_slice-bus-items.ensures.value ∙ (c.in_ok-buses.ensures ∙ ap buses_of c.board.ensures.value) in
    let within : n < length (buses_of board) = subst (λ (l : List ℕ). n < length l) same c.loop-bus-test.true in
    let on : Board → ℕ → List PlainState = λ b bus. map (λ lane. nothing) (lanes_to b bus) in
    let is : items c.in_ok-plain_ends_on.field-0 ≡ here (get_or (buses_of board) n 0) =
    c.in_ok-plain_ends_on.ensures ∙ (ap (λ (b : Board). on b (get_or c.as_slice-bus-items.result.now n 0)) c.board-in-loop-bus.ensures.value ∙ ap (λ (l : List ℕ). on board (get_or l n 0)) same) in
    ap (map items) c.in_ok-push.ensures.items
    ∙ (map-append items before (c.in_ok-plain_ends_on.field-0 ∷ []) ∙ ends_more here (buses_of board) n (map items before) (items c.in_ok-plain_ends_on.field-0) within c.loop-bus.invariant is)

pub returns-clause-fit : goal.returns-clause-fit
unfolding nothing
returns-clause-fit c =
    let board : Board = c.args.tree.now in
    let n : ℕ = c.loop-bus.bus-index in
    let same : c.as_slice-bus-items.result.now ≡ buses_of board = c.as_slice-bus-items.ensures.value ∙ (c.in_ok-buses.ensures ∙ ap buses_of c.board.ensures.value) in
    let past : length (buses_of board) ≤ n = subst (λ (l : List ℕ). length l ≤ n) same c.loop-bus-test.false in
    let here : ℕ → List PlainState = λ bus. map (λ lane. nothing) (lanes_to board bus) in
    let all = c.loop-bus.invariant ∙ ap (map here) (take_all n (buses_of board) past) in
    subst (AreEndsOf board) (sym all) (alike_fit board nothing)
