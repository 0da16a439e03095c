use Rattle.std.proofs.Common.{◌≡◌, Option, Some, length, refl, sym, subst, arith, slice_get}
use Rattle.std.proofs.lemmas.Bool.{leb-false, ltb-true, ltb-false}
use Rattle.std.proofs.lemmas.Option.{slice_get_within, slice_get_read}
use Rattle.bus_core.specs.declared.given.Sent.{Sent}
use Rattle.bus_segment.specs.Ends.{HasRoom, LacksRoom}
use Rattle.bus_segment.proofs.EndLemmas.{room_at}
use Rattle.bus_segment.proofs.ends.has_room.Goals as goal

pub returns-then-sent-ends : goal.returns-then-sent-ends
returns-then-sent-ends g c =
    let ends = c.args.ends.now in
    let place = c.in-Some.sent.place in
    record {
      room = λ _. subst (λ (sent : Option Sent). HasRoom g.L.LaneEnd.kept ends sent) (sym c.in-Some.is) (λ end there. absurd (omega (arith, slice_get_within ends place end there, c.if-sent-ends.true)));
      full = λ within. absurd (omega (arith, leb-false (length ends) place within, c.if-sent-ends.true));
    }

pub returns-else-sent-ends : goal.returns-else-sent-ends
returns-else-sent-ends g c =
    let ends = c.args.ends.now in
    let place = c.in-Some.sent.place in
    let end = c.index-ends-sent.result in
    let there : slice_get ends place ≡ Some end = slice_get_read ends (length ends) place end refl c.if-sent-ends.false c.index-ends-sent.is in
    record {
      room = λ some. subst (λ (sent : Option Sent). HasRoom g.L.LaneEnd.kept ends sent) (sym c.in-Some.is) (room_at g.L.LaneEnd.kept ends place end there (let more = ltb-true 0 c.room.result some in omega (arith, c.room.ensures)));
      full = λ none. subst (λ (sent : Option Sent). LacksRoom g.L.LaneEnd.kept ends sent) (sym c.in-Some.is) (end, there, let no_more = ltb-false 0 c.room.result none in omega (arith, c.room.ensures));
    }
