use Rattle.board_writes.proofs.StretchLemmas.{stretch_at}
use Rattle.board_writes.proofs.StayLemmas.{guess_leaves_out}
use Rattle.board_writes.proofs.polls.stays.is_left_out.Goals as goal

pub is_left_out_in-requires-clause-run : goal.is_left_out_in-requires-clause-run
is_left_out_in-requires-clause-run c = stretch_at c.args.writes.now c.guess.result c.in-Some.guess.now c.as_slice.result.now c.in-Some.ensures.lookup.3.0 c.in-Some.ensures.lookup.1 c.as_slice.ensures c.requires.writes

pub returns-in-Some : goal.returns-in-Some
returns-in-Some c =
    guess_leaves_out c.args.table.now c.requires.ordered c.args.poll c.args.raiser.now c.args.writes.now c.guess.result c.in-Some.guess.now c.as_slice.result.now c.is_left_out_in.result
    c.in-Some.ensures.lookup.3.0 c.in-Some.ensures.lookup.1 c.as_slice.ensures c.is_left_out_in.ensures c.if-is_left_out_in.true
