use Rattle.std.proofs.Common.{rules, of_calls, Bool, nat_lt}
use Rattle.std.proofs.lemmas.Fn.{always_returns_same}
use Rattle.board_writes.specs.declared.writers.write.WordWrite.{WordWrite}
use Rattle.board_writes.proofs.StretchLemmas.{is_parted, point_parts}
use Rattle.board_writes.proofs.writers.stretches.point_below.Goals as goal

pub returns-clause-parts : goal.returns-clause-parts
returns-clause-parts c =
    let test : WordWrite → Bool = λ w. nat_lt w.op.index c.args.bound in
    let point = c.partition_point.ensures.partitioned test (always_returns_same _ _ _ (λ a r f k. search (rules, of_calls))) (is_parted c.args.bound c.args.run.now c.requires) in
    point_parts c.args.bound c.args.run.now c.partition_point.result c.partition_point.ensures.bound point
