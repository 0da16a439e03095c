use Rattle.std.proofs.Common.{◌≡◌, ℕ, ◌<◌, List, [], ◌∷◌, ◌++◌, Vec, Global, length, map, get_or, sym, ap, subst, ◌∙◌, arith}
use Rattle.std.specs.List.{AllByRecursion}
use Rattle.std.specs.Vec.Iter.{into_iter_items}
use Rattle.std.proofs.lemmas.List.{length-map, map-append}
use Rattle.board_model.specs.declared.board.Board.{Board}
use Rattle.bus_segment.specs.declared.segment.Segment.{Segment}
use Rattle.bus_segment.specs.Stands.{WorkerView}
use Rattle.engine_segments.specs.First.{lanes_to, buses_of, worker_of, IsAtFirst}
use Rattle.board_model.specs.Fits.{BridgeFits, BoardFits}
use Rattle.engine_segments.proofs.SegmentLemmas.{AreSoFar, any_default, one_left, ends_fit, one_more, all_made, nothing_left}
use Rattle.engine_segments.proofs.first.segments.Goals as goal

-- the number that is read at the place of the next bus
found_bus : (buses items : List ℕ) (i place read : ℕ) → items ≡ buses → i ≡ place → place < length buses → read ≡ get_or items i read → read ≡ get_or buses place 0
found_bus buses items i place read same at within is =
    is ∙ (ap (λ (l : List ℕ). get_or l i read) same ∙ (ap (λ (k : ℕ). get_or buses k read) at ∙ any_default buses place read 0 within))

pub index-requires : goal.index-requires
index-requires g c =
    let board : Board = c.args.tree.now in
    let items : Vec g.row.L.Denot Global → List g.row.L.Denot = λ at. at.items in
    let at = c.in-Some.at in
    let rest = into_iter_items c.next.new.self in
    let made : List (WorkerView g.row.L.Denot) = map worker_of c.loop-at.segments.items in
    let all : List (List g.row.L.Denot) = map items c.args.ends.items in
    let steps : into_iter_items c.loop-at.at-iterator ≡ at ∷ rest = c.in-Some.ensures.steps.0 in
    let so_far = subst (λ (l : List (Vec g.row.L.Denot Global)). AreSoFar board all (map items l) made) steps c.loop-at.invariant.0 in
    let left = one_left board all c.requires (map items rest) (items at) made so_far in
    let same : c.in_ok-buses.buses.items ≡ buses_of board = c.in_ok-buses.ensures ∙ ap buses_of c.board-board.ensures.value in
    let many = ap length same in
    let as_many = length-map c.loop-at.segments.items (worker_of {End = g.row.L.Denot}) in
    omega (arith, left, many, as_many, c.len.ensures, c.loop-at.segments.ok, c.in_ok-buses.buses.ok)

pub segment_on-requires-clause-one_a_port : goal.segment_on-requires-clause-one_a_port
segment_on-requires-clause-one_a_port g c =
    let board : Board = c.args.tree.now in
    let items : Vec g.row.L.Denot Global → List g.row.L.Denot = λ at. at.items in
    let at = c.in-Some.at in
    let rest = into_iter_items c.next.new.self in
    let made : List (WorkerView g.row.L.Denot) = map worker_of c.loop-at.segments.items in
    let all : List (List g.row.L.Denot) = map items c.args.ends.items in
    let steps : into_iter_items c.loop-at.at-iterator ≡ at ∷ rest = c.in-Some.ensures.steps.0 in
    let so_far = subst (λ (l : List (Vec g.row.L.Denot Global)). AreSoFar board all (map items l) made) steps c.loop-at.invariant.0 in
    let left = one_left board all c.requires (map items rest) (items at) made so_far in
    let same : c.in_ok-buses.buses.items ≡ buses_of board = c.in_ok-buses.ensures ∙ ap buses_of c.board-board.ensures.value in
    let as_many = length-map c.loop-at.segments.items (worker_of {End = g.row.L.Denot}) in
    let place : c.len.result ≡ length made = omega (arith, as_many, c.len.ensures, c.loop-at.segments.ok) in
    let bus : c.index.result.now ≡ get_or (buses_of board) (length made) 0 = found_bus (buses_of board) c.in_ok-buses.buses.items c.len.result (length made) c.index.result.now same place left c.index.ensures in
    ends_fit board all c.requires (map items rest) (items at) made so_far
    ∙ (ap (λ (n : ℕ). length (lanes_to board n)) (sym bus) ∙ ap (λ (b : Board). length (lanes_to b c.index.result.now)) (sym c.board-board.ensures.value))

pub loop-at-preserved : goal.loop-at-preserved
loop-at-preserved g c =
    let board : Board = c.args.tree.now in
    let items : Vec g.row.L.Denot Global → List g.row.L.Denot = λ at. at.items in
    let at = c.in-Some.at in
    let rest = into_iter_items c.next.new.self in
    let before : List (Segment g.row.L.Denot) = c.loop-at.segments.items in
    let made : List (WorkerView g.row.L.Denot) = map worker_of before in
    let all : List (List g.row.L.Denot) = map items c.args.ends.items in
    let steps : into_iter_items c.loop-at.at-iterator ≡ at ∷ rest = c.in-Some.ensures.steps.0 in
    let so_far = subst (λ (l : List (Vec g.row.L.Denot Global)). AreSoFar board all (map items l) made) steps c.loop-at.invariant.0 in
    let left = one_left board all c.requires (map items rest) (items at) made so_far in
    let same : c.in_ok-buses.buses.items ≡ buses_of board = c.in_ok-buses.ensures ∙ ap buses_of c.board-board.ensures.value in
    let as_many = length-map before (worker_of {End = g.row.L.Denot}) in
    let place : c.len.result ≡ length made = omega (arith, as_many, c.len.ensures, c.loop-at.segments.ok) in
    let bus : c.index.result.now ≡ get_or (buses_of board) (length made) 0 = found_bus (buses_of board) c.in_ok-buses.buses.items c.len.result (length made) c.index.result.now same place left c.index.ensures in
    let segment : Segment g.row.L.Denot = c.in_ok-segment.segment in
    let first : IsAtFirst board (worker_of segment) = subst (λ (b : Board). IsAtFirst b (worker_of segment)) c.board-board.ensures.value c.in_ok-segment.ensures.first in
    let more = one_more board all c.requires (map items rest) (items at) made so_far (worker_of segment) (c.in_ok-segment.ensures.bus ∙ bus) c.in_ok-segment.ensures.ends first in
    let longer : map worker_of c.push.new.self.items ≡ made ++ worker_of segment ∷ [] = ap (map worker_of) c.in_ok-push.ensures.items ∙ map-append worker_of before (segment ∷ []) in
    let fewer = ap length steps in
    let gone = c.in-Some.ensures.steps.1 in
    let was = c.loop-at.invariant.1 in
    (subst (AreSoFar board all (map items rest)) (sym longer) more, omega (arith, fewer, gone, was))

pub returns : goal.returns
returns g c =
    let board : Board = c.args.tree.now in
    let items : Vec g.row.L.Denot Global → List g.row.L.Denot = λ at. at.items in
    let made : List (WorkerView g.row.L.Denot) = map worker_of c.loop-at.segments.items in
    let all : List (List g.row.L.Denot) = map items c.args.ends.items in
    let none = nothing_left (into_iter_items c.loop-at.at-iterator) (sym c.loop-at.invariant.1 ∙ c.in-None.ensures.steps.0) in
    let so_far = subst (λ (l : List (Vec g.row.L.Denot Global)). AreSoFar board all (map items l) made) none c.loop-at.invariant.0 in
    let fits : BoardFits board = subst BoardFits c.board-board.ensures.value c.board_fits.ensures in
    let bridges : AllByRecursion BridgeFits board.bridges = fits.bridges in
    all_made board all c.requires made bridges so_far
