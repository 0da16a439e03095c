use Rattle.audit_text.proofs.AuditLemmas.{so_far_none, so_far_more, searchable_more}
use Rattle.audit_text.proofs.findings.find_with.Goals as goal

pub loop-index-init : goal.loop-index-init
loop-index-init c = so_far_none c.args.board.now _ _ c.new-all.ensures.items c.requires.empty

-- one event more
pub loop-index-preserved : goal.loop-index-preserved
loop-index-preserved c =
    so_far_more c.args.board.now c.requires.valid c.args.events.now c.loop-index.index _ c.loop-index.ledger c.happen.new.self c.loop-index.all.items c.add_found.new.all.items c.requires.run c.loop-index-test.true c.loop-index.invariant
    c.in_ok-happen.ensures c.in_ok-add_found.ensures

pub add_found-requires : goal.add_found-requires
add_found-requires c =
    searchable_more c.args.board.now c.requires.valid c.args.events.now c.loop-index.index _ c.loop-index.ledger c.happen.new.self c.loop-index.all.items c.requires.run c.loop-index-test.true c.loop-index.invariant c.in_ok-happen.ensures
