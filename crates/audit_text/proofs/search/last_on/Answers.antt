use Rattle.std.proofs.Common.{rules, of_calls, ℕ, Bool, slice_get, refl, arith}
use Rattle.std.proofs.lemmas.Fn.{always_returns_same}
use Rattle.audit_text.specs.Search.{is_known}
use Rattle.audit_text.proofs.SearchLemmas.{point_none, point_last, parted_by}
use Rattle.audit_text.proofs.search.last_on.Goals as goal

pub returns-then-count-eq0 : goal.returns-then-count-eq0
returns-then-count-eq0 c =
    let test : ℕ → Bool = λ at. is_known c.args.ledger.now c.args.read (slice_get c.args.writes.now at) in
    let point = c.partition_point-count.ensures.partitioned test (always_returns_same _ _ _ (λ a r f k. search (rules, of_calls))) (parted_by test c.args.places.now c.requires.falls) in
    point_none test c.args.places.now c.partition_point-count.result c.if-count-eq0.true point.1

pub returns-else-count-eq0 : goal.returns-else-count-eq0
returns-else-count-eq0 c =
    let test : ℕ → Bool = λ at. is_known c.args.ledger.now c.args.read (slice_get c.args.writes.now at) in
    let point = c.partition_point-count.ensures.partitioned test (always_returns_same _ _ _ (λ a r f k. search (rules, of_calls))) (parted_by test c.args.places.now c.requires.falls) in
    point_last test c.args.places.now c.partition_point-count.result _ c.requires.rises (omega (arith, c.if-count-eq0.false)) c.partition_point-count.ensures.bound refl point.0 point.1
