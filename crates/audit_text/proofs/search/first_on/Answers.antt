use Rattle.std.proofs.Common.{rules, of_calls, ℕ, Bool, not, slice_get}
use Rattle.std.proofs.lemmas.Fn.{always_returns_same}
use Rattle.audit_text.specs.Search.{tells_of}
use Rattle.audit_text.proofs.SearchLemmas.{point_first, parted_by}
use Rattle.audit_text.proofs.search.first_on.Goals as goal

pub returns : goal.returns
returns c =
    let test : ℕ → Bool = λ at. not (tells_of c.args.ledger.now c.args.write (slice_get c.args.writes.now at)) in
    let point = c.partition_point-start.ensures.partitioned test (always_returns_same _ _ _ (λ a r f k. search (rules, of_calls))) (parted_by test c.args.places.now c.requires.falls) in
    point_first c.args.ledger.now c.args.reading.now c.args.write c.args.writes.now c.args.places.now c.split_at.result.1.now c.partition_point-start.result c.first_whole.result c.partition_point-start.ensures.bound c.split_at.ensures.back point.0 point.1 c.first_whole.ensures
