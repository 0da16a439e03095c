use Rattle.std.proofs.Common.{ℕ, List, Vec, Global, Some, length, map, sym, ap, subst, ◌∙◌, arith, slice_get}
use Rattle.std.proofs.lemmas.List.{length-map}
use Rattle.std.proofs.lemmas.Option.{slice_get_within}
use Rattle.bus_core.specs.Bus.{HasPlace}
use Rattle.engine_segments.specs.First.{buses_of}
use Rattle.lane_ends.specs.declared.ring.ring_end.RingEnd.{RingEnd}
use Rattle.engine_segments.specs.ring.Pairs.{one_more}
use Rattle.engine_segments.proofs.ring.PairLemmas.{here_place, above_place, more_many}
use Rattle.engine_segments.proofs.ring.RingLemmas.{rings_more, rings_many}
use Rattle.engine_segments.proofs.ring.ends.add_pair.Goals as goal

pub place_of-above-requires : goal.place_of-above-requires
place_of-above-requires c =
    let place = above_place c.args.board.now c.args.bus c.requires.valid (omega (arith, c.ranges.bus.fits)) c.requires.bridge in
    subst (λ (l : List ℕ). HasPlace l c.primary_of.result) (sym c.requires.buses) (subst (λ (b : ℕ). HasPlace (buses_of c.args.board.now) b) (sym c.primary_of.ensures) place)

pub place_of-here-requires : goal.place_of-here-requires
place_of-here-requires c =
    let place = here_place c.args.board.now c.args.bus c.requires.valid (omega (arith, c.ranges.bus.fits)) c.requires.bridge in
    subst (λ (l : List ℕ). HasPlace l c.args.bus) (sym c.requires.buses) place

pub add-requires : goal.add-requires
add-requires c =
    let items : Vec RingEnd Global → List RingEnd = λ at. at.items in
    let within = slice_get_within c.args.buses.now c.place_of-above.result c.primary_of.result c.place_of-above.ensures in
    let buses = ap length c.requires.buses in
    let many = rings_many c.args.board.now c.args.bus (map items c.args.ends.now.items) c.requires.so_far in
    let mapped = length-map c.args.ends.now.items items in
    omega (arith, within, buses, many, mapped)

pub add-requires-2 : goal.add-requires-2
add-requires-2 c =
    let items : Vec RingEnd Global → List RingEnd = λ at. at.items in
    let within = slice_get_within c.args.buses.now c.place_of-here.result c.args.bus c.place_of-here.ensures in
    let buses = ap length c.requires.buses in
    let many = rings_many c.args.board.now c.args.bus (map items c.args.ends.now.items) c.requires.so_far in
    let more = ap length c.in_ok-add.ensures in
    let as_many = more_many c.place_of-above.result c.in_ok-upper.upper (map items c.args.ends.now.items) in
    let mapped = length-map c.add.new.ends.items items in
    omega (arith, within, buses, many, more, as_many, mapped)

pub returns : goal.returns
returns c =
    let items : Vec RingEnd Global → List RingEnd = λ at. at.items in
    let above = ap (λ (l : List ℕ). slice_get l c.place_of-above.result) (sym c.requires.buses) ∙ (c.place_of-above.ensures ∙ ap (λ (b : ℕ). Some b) c.primary_of.ensures) in
    let here = ap (λ (l : List ℕ). slice_get l c.place_of-here.result) (sym c.requires.buses) ∙ c.place_of-here.ensures in
    rings_more c.args.board.now c.requires.valid c.args.bus (map items c.args.ends.now.items) c.requires.so_far c.requires.bridge c.in_ok-upper.upper c.in_ok-upper.lower
    c.place_of-above.result c.place_of-here.result above here c.in_ok-upper.ensures.paired c.in_ok-upper.ensures.empty c.in_ok-upper.ensures.first c.in_ok-upper.ensures.second
    (map items c.add-2.new.ends.items) (c.in_ok-add-2.ensures ∙ ap (one_more c.place_of-here.result c.in_ok-upper.lower) c.in_ok-add.ensures)
