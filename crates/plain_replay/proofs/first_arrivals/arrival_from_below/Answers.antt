use Rattle.std.proofs.Common.{◌≡◌, ℕ, Option, sym, subst, ◌∙◌, arith}
use Rattle.board_model.specs.declared.bridge.Lane.{Lane as BridgeLane}
use Rattle.board_model.specs.declared.board.Board.{Board}
use Rattle.history_model.specs.declared.event.Event.{Event}
use Rattle.history_model.specs.Runs.{history_of}
use Rattle.history_model.specs.Next.{up_from, given_on, arrival_at}
use Rattle.law_lanes.proofs.progress.NextFirstLemmas.{bus_found, bus_none}
use Rattle.plain_replay.proofs.first_arrivals.arrival_from_below.Goals as goal

pub returns-in-Some : goal.returns-in-Some
returns-in-Some c =
    let board : Board = c.args.board.now in
    let h = history_of c.args.before.now in
    let bus : ℕ = c.args.bus in
    let from : BridgeLane → Option Event = given_on board bus (arrival_at board h) in
    let is : c.arrival_from.result ≡ from (up_from c.loop-child.child) = subst (λ lane. c.arrival_from.result ≡ from lane) c.up_from.ensures c.arrival_from.ensures in
    bus_found (λ child. from (up_from child)) c.loop-child.child c.in-Some.event c.loop-child.invariant (sym is ∙ c.in-Some.is) (omega arith)

pub returns : goal.returns
returns c =
    let board : Board = c.args.board.now in
    let h = history_of c.args.before.now in
    let bus : ℕ = c.args.bus in
    bus_none (λ child. given_on board bus (arrival_at board h) (up_from child)) c.loop-child.child c.loop-child.invariant (omega arith)
