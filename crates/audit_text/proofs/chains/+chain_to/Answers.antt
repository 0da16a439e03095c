use Rattle.std.proofs.Common.{◌≡◌, ◌-◌, ◌<◌, false, Some, List, sym, ap, ◌∙◌, ◌++◌, rules}
use Rattle.std.proofs.lemmas.Result.{IfOk-weaker}
use Rattle.pci_command.specs.declared.op_id.OpId.{OpId}
use Rattle.pci_command.specs.Same.{same_op}
use Rattle.audit_text.specs.Notes.{Notes}
use Rattle.audit_text.specs.Found.{since_of, shown_to, chain_to}
use Rattle.audit_text.proofs.ChainLemmas.{chain_push, chain_told}
use Rattle.audit_text.proofs.chains.+chain_to.Goals as goal

pub returns-in_ok-push_joined-in-Some-since : goal.returns-in_ok-push_joined-in-Some-since
returns-in_ok-push_joined-in-Some-since t c =
    let notes : Notes = c.args.ledger.now in
    let before : List OpId = chain_to (c.args.masters - 1) notes c.args.write c.in-Some-since.first in
    let above : 0 < c.args.masters = search rules in
    let other : same_op c.args.op c.args.write ≡ false = search rules in
    let seen : shown_to notes c.args.write c.args.op ≡ Some c.in-Some.seen = search rules in
    let first : since_of notes c.args.write c.in-Some.seen.master ≡ Some c.in-Some-since.first = search rules in
    let told = chain_told c.args.masters notes c.args.write c.args.op c.in-Some.seen c.in-Some-since.first above other seen first in
    IfOk-weaker _ _ _
    (λ _ ended. chain_push c.args.chain.now.items c.push_joined.new.chain.items c.chain_to.new.chain.items c.push-in-Some-since.new.chain.items c.in-Some-since.first c.in-Some.seen c.args.op before
    c.in_ok-chain_to-in-Some-since.ensures c.in_ok-push_joined-in-Some-since.ensures ended ∙ ap (λ (l : List OpId). c.args.chain.now.items ++ l) (sym told))
    c.push-in-Some-since.ensures
