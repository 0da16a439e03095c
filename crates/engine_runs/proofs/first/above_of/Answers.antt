use Rattle.std.proofs.Common.{ℕ, List, Some, get_or, sym, ap, subst, ◌∙◌, slice_get}
use Rattle.std.proofs.lemmas.Option.{slice_get-get_or}
use Rattle.board_model.specs.declared.bridge.Lane.{Lane as BridgeLane}
use Rattle.bus_core.specs.Bus.{HasPlace}
use Rattle.engine_segments.specs.First.{buses_of, lanes_to, up_from}
use Rattle.engine_runs.proofs.FirstLemmas.{bus_found, bus_there, lane_found, lane_there, above_is, linked_at}
use Rattle.engine_runs.proofs.first.above_of.Goals as goal

pub unwrap-worker-requires : goal.unwrap-worker-requires
unwrap-worker-requires c =
    let bus : ℕ = get_or c.args.buses.now c.args.place 0 in
    let here = ap (λ (l : List ℕ). slice_get l c.args.place) (sym c.requires.buses) ∙ slice_get-get_or c.args.buses.now c.args.place 0 c.requires.place.1 in
    let has = linked_at c.args.board.now c.requires.linked c.args.place bus c.requires.place.0 here in
    let mine = subst (λ (l : List ℕ). HasPlace l c.primary_of-primary.result) (sym c.requires.buses) (subst (λ (b : ℕ). HasPlace (buses_of c.args.board.now) b) (sym c.primary_of-primary.ensures) has.0) in
    bus_found c.args.buses.now c.primary_of-primary.result c.place_of.result mine c.place_of.ensures

pub unwrap-port-requires : goal.unwrap-port-requires
unwrap-port-requires c =
    let bus : ℕ = get_or c.args.buses.now c.args.place 0 in
    let here = ap (λ (l : List ℕ). slice_get l c.args.place) (sym c.requires.buses) ∙ slice_get-get_or c.args.buses.now c.args.place 0 c.requires.place.1 in
    let has = linked_at c.args.board.now c.requires.linked c.args.place bus c.requires.place.0 here in
    let lanes = c.as_slice.ensures.value ∙ (c.in_ok-lanes.ensures ∙ ap (lanes_to c.args.board.now) c.primary_of-primary.ensures) in
    let mine = subst (λ (l : List BridgeLane). HasPlace l (up_from bus)) (sym lanes) has.1 in
    lane_found c.as_slice.result.now bus c.port_of.result mine c.port_of.ensures

pub returns : goal.returns
returns c =
    let bus : ℕ = get_or c.args.buses.now c.args.place 0 in
    let here = ap (λ (l : List ℕ). slice_get l c.args.place) (sym c.requires.buses) ∙ slice_get-get_or c.args.buses.now c.args.place 0 c.requires.place.1 in
    let lanes = c.as_slice.ensures.value ∙ (c.in_ok-lanes.ensures ∙ ap (lanes_to c.args.board.now) c.primary_of-primary.ensures) in
    let worker = bus_there c.args.buses.now c.primary_of-primary.result c.unwrap-worker.result c.place_of.result c.place_of.ensures c.unwrap-worker.ensures in
    let port = lane_there c.as_slice.result.now bus c.unwrap-port.result c.port_of.result c.port_of.ensures c.unwrap-port.ensures in
    let found = ap (λ (l : List ℕ). slice_get l c.unwrap-worker.result) (sym c.requires.buses) ∙ (worker ∙ ap (λ (b : ℕ). Some b) c.primary_of-primary.ensures) in
    let up = ap (λ (l : List BridgeLane). slice_get l c.unwrap-port.result) (sym lanes) ∙ port in
    above_is c.args.board.now c.requires.linked c.args.place bus (record { worker = c.unwrap-worker.result; port = c.unwrap-port.result }) c.requires.place.0 here found up
