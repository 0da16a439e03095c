use Rattle.std.proofs.Common.{◌≡◌, ◌+◌, ◌*◌, ◌≤◌, false, length, sym, subst, ◌∙◌, arith}
use Rattle.std.proofs.lemmas.Bool.{and_parts}
use Rattle.board_model.specs.Limits.{most_agents, most_waiting, most_ports, most_served}
use Rattle.board_model.specs.declared.board.Board.{Board}
use Rattle.board_model.specs.Valid.{IsValid}
use Rattle.bus_core.specs.Bus.{BusView, shape_of}
use Rattle.bus_segment.specs.turns.Works.{seen, Works, AllRetried, GivesOnlyRetries}
use Rattle.bus_segment.proofs.turns.WorkLemmas.{works_further}
use Rattle.bus_segment.proofs.turns.LineLemmas.{lanes_many, masters_many}
use Rattle.bus_segment.proofs.turns.QuietLemmas.{nothing_to_do, only_retries, retried_again}
use Rattle.bus_segment.proofs.turns.AgainLemmas.{works_turn, or_neither, or_second}
use Rattle.bus_segment.proofs.turns.worker.Worker.turn_again.Goals as goal

pub receive_all-requires-clause-valid : goal.receive_all-requires-clause-valid
receive_all-requires-clause-valid g c = subst IsValid (sym c.board.ensures.value) c.requires.may.valid

pub returns-clause-turn : goal.returns-clause-turn
returns-clause-turn g c =
    let E = g.L.LaneEnd in
    let End : Type 0 = g.row.L.Denot in
    let was = c.args.self.now in
    let may = c.requires.may in
    let r = c.receive_all.ensures in
    let works = subst (λ (b : Board). Works {End = End} E.had E.sent E.got E.kept E.paired b (most_waiting * length was.segment.bus.ports) (seen was.segment.bus was.segment.stamp was.segment.stopped)
    (seen c.receive_all.new.segment.bus c.receive_all.new.segment.stamp c.receive_all.new.segment.stopped) was.segment.ends.items c.receive_all.new.segment.ends.items was.segment.events.items c.receive_all.new.segment.events.items) c.board.ensures.value r.works in
    let s = c.serve_all.ensures in
    let on : c.receive_all.new.segment.stopped ≡ false = sym c.stopped.ensures ∙ or_neither _ _ (sym c.rests.ensures ∙ c.if-rests.false) in
    let few_ports = may.few_ports in
    let both = works_further {End = End} E.had E.sent E.got E.kept E.paired c.args.board.now (most_waiting * length was.segment.bus.ports) most_served (seen was.segment.bus was.segment.stamp was.segment.stopped)
    (seen c.receive_all.new.segment.bus c.receive_all.new.segment.stamp c.receive_all.new.segment.stopped) (seen c.serve_all.new.segment.bus c.serve_all.new.segment.stamp c.serve_all.new.segment.stopped)
    was.segment.ends.items c.receive_all.new.segment.ends.items c.serve_all.new.segment.ends.items was.segment.events.items c.receive_all.new.segment.events.items c.serve_all.new.segment.events.items may.going on works s.works in
    let few : length (shape_of was.segment.bus).lanes ≤ most_ports = omega (arith, lanes_many was.segment.bus, few_ports) in
    let few_masters = may.few_masters in
    let agents : length (shape_of was.segment.bus).masters ≤ most_agents = omega (arith, masters_many was.segment.bus, few_masters) in
    works_turn {End = End} E.had E.sent E.got E.kept E.paired c.args.board.now (most_waiting * length was.segment.bus.ports + most_served) was (record { segment = c.serve_all.new.segment; arbiter = c.serve_all.new.arbiter }) _ (omega (arith, few_ports)) both may.counts (omega arith)
    (λ same still.
    let none = r.quiet (omega (arith, r.works.grows, s.works.grows, same)) on in
    let bus = r.same (omega (arith, r.works.grows, s.works.grows, same)) on in
    let all = subst (λ (old : BusView). AllRetried {End = End} c.args.board.now 0 old c.serve_all.new.segment.bus c.receive_all.new.segment.ends.items c.serve_all.new.segment.ends.items) bus (s.quiet (omega (arith, r.works.grows, s.works.grows, same)) still) in
    nothing_to_do {End = End} E.had E.got c.args.board.now was.segment.bus was.segment.stamp was.segment.stopped few agents may.going c.serve_all.new.segment.bus c.receive_all.new.segment.ends.items c.serve_all.new.segment.ends.items none all)

pub returns-clause-idle : goal.returns-clause-idle
returns-clause-idle g c = λ none still.
    let End : Type 0 = g.row.L.Denot in
    let r = c.receive_all.ensures in
    let s = c.serve_all.ensures in
    only_retries {End = End} c.args.board.now c.receive_all.new.segment.bus c.serve_all.new.segment.bus c.receive_all.new.segment.ends.items c.serve_all.new.segment.ends.items (s.quiet (omega (arith, r.works.grows, s.works.grows, none)) still)

pub returns-then-rests-clause-turn : goal.returns-then-rests-clause-turn
returns-then-rests-clause-turn g c =
    let E = g.L.LaneEnd in
    let End : Type 0 = g.row.L.Denot in
    let was = c.args.self.now in
    let may = c.requires.may in
    let r = c.receive_all.ensures in
    let works = subst (λ (b : Board). Works {End = End} E.had E.sent E.got E.kept E.paired b (most_waiting * length was.segment.bus.ports) (seen was.segment.bus was.segment.stamp was.segment.stopped)
    (seen c.receive_all.new.segment.bus c.receive_all.new.segment.stamp c.receive_all.new.segment.stopped) was.segment.ends.items c.receive_all.new.segment.ends.items was.segment.events.items c.receive_all.new.segment.events.items) c.board.ensures.value r.works in
    let few_ports = may.few_ports in
    let few : length (shape_of was.segment.bus).lanes ≤ most_ports = omega (arith, lanes_many was.segment.bus, few_ports) in
    let few_masters = may.few_masters in
    let agents : length (shape_of was.segment.bus).masters ≤ most_agents = omega (arith, masters_many was.segment.bus, few_masters) in
    works_turn {End = End} E.had E.sent E.got E.kept E.paired c.args.board.now (most_waiting * length was.segment.bus.ports) was (record { segment = c.receive_all.new.segment; arbiter = was.arbiter }) _ (omega (arith, few_ports)) works may.counts (omega arith)
    (λ same still.
    let rests = or_second _ _ (sym c.rests.ensures ∙ c.if-rests.true) (c.stopped.ensures ∙ still) in
    let idle = and_parts _ _ rests in
    let all = retried_again {End = End} c.args.board.now was.segment.bus c.receive_all.new.segment.ends.items (c.requires.idle idle.0) in
    nothing_to_do {End = End} E.had E.got c.args.board.now was.segment.bus was.segment.stamp was.segment.stopped few agents may.going was.segment.bus c.receive_all.new.segment.ends.items c.receive_all.new.segment.ends.items (r.quiet same still) all)

pub returns-then-rests-clause-idle : goal.returns-then-rests-clause-idle
returns-then-rests-clause-idle g c = λ none still.
    let r = c.receive_all.ensures in
    let rests = or_second _ _ (sym c.rests.ensures ∙ c.if-rests.true) (c.stopped.ensures ∙ still) in
    let idle = and_parts _ _ rests in
    subst (λ (s : BusView). GivesOnlyRetries c.args.board.now s) (sym (r.same (omega (arith, none, r.works.grows)) still)) (c.requires.idle idle.0)
