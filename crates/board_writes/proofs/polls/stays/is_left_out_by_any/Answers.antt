use Rattle.std.proofs.Common.{refl, sym, ◌∙◌}
use Rattle.board_writes.specs.Looks.{leaves_out}
use Rattle.board_writes.proofs.StretchLemmas.{none_so_far, some_here, none_in_all, stretch_at}
use Rattle.board_writes.proofs.polls.stays.is_left_out_by_any.Goals as goal

pub loop-place-init : goal.loop-place-init
loop-place-init c = refl

pub is_left_out_in-requires-clause-run : goal.is_left_out_in-requires-clause-run
is_left_out_in-requires-clause-run c = stretch_at c.args.writes.now c.loop-place.place c.index-writes-place.result c.as_slice.result.now c.loop-place-test.true c.index-writes-place.is c.as_slice.ensures c.requires.writes

pub loop-place-preserved : goal.loop-place-preserved
loop-place-preserved c =
    none_so_far (leaves_out c.args.table.now c.args.poll c.args.raiser.now) c.args.writes.now c.loop-place.place c.index-writes-place.result c.as_slice.result.now c.loop-place-test.true c.index-writes-place.is c.as_slice.ensures (sym c.is_left_out_in.ensures ∙ c.if-is_left_out_in.false) c.loop-place.invariant

pub returns-then-is_left_out_in : goal.returns-then-is_left_out_in
returns-then-is_left_out_in c =
    some_here (leaves_out c.args.table.now c.args.poll c.args.raiser.now) c.args.writes.now c.loop-place.place c.index-writes-place.result c.as_slice.result.now c.loop-place-test.true c.index-writes-place.is c.as_slice.ensures (sym c.is_left_out_in.ensures ∙ c.if-is_left_out_in.true) c.loop-place.invariant

pub returns : goal.returns
returns c = none_in_all (leaves_out c.args.table.now c.args.poll c.args.raiser.now) c.args.writes.now c.loop-place.place c.loop-place-test.false c.loop-place.invariant
