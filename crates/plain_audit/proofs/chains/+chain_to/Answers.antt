use Rattle.std.proofs.Common.{◌≡◌, ◌≤◌, IfOk, List, Some, sym, subst, ◌∙◌, arith}
use Rattle.pci_command.specs.declared.op_id.OpId.{OpId}
use Rattle.history_model.specs.Runs.{history_of}
use Rattle.law_fresh.specs.Aware.{aware_of}
use Rattle.plain_audit.proofs.CodeLemmas.{chain_own, chain_none, chain_made}
use Rattle.plain_audit.proofs.chains.+chain_to.Goals as goal

pub returns-then-same_op : goal.returns-then-same_op
returns-then-same_op t c =
    let least : 1 ≤ c.args.steps = omega arith in
    subst (λ (xs : List OpId). IfOk c.one.result (λ chain. chain.items ≡ xs)) (chain_own c.args.board.now c.args.places.now.write (history_of c.args.events.now) c.args.op c.args.steps least (sym c.if-same_op.ensures)) c.one.ensures

pub returns-in-None : goal.returns-in-None
returns-in-None t c =
    let least : 1 ≤ c.args.steps = omega arith in
    subst (λ (xs : List OpId). IfOk c.one-in-None.result (λ chain. chain.items ≡ xs)) (chain_none c.args.board.now c.args.places.now.write (history_of c.args.events.now) c.args.op c.args.steps least (sym c.if-same_op.ensures) (sym c.in-None.ensures)) c.one-in-None.ensures

-- one step more
pub returns-in_ok-push-in-Some-first_of : goal.returns-in_ok-push-in-Some-first_of
returns-in_ok-push-in-Some-first_of t c =
    let least : 1 ≤ c.args.steps = omega arith in
    let first : (aware_of c.args.board.now c.args.places.now.write (history_of c.args.events.now)).since c.in-Some.seen.master ≡ Some c.in-Some-first_of.first = sym (c.requires.are c.in-Some.seen.master) ∙ sym c.in-Some-first_of.ensures in
    chain_made c.args.board.now c.args.places.now.write (history_of c.args.events.now) c.args.op c.args.steps c.in-Some.seen c.in-Some-first_of.first least (sym c.if-same_op.ensures) (sym c.in-Some.ensures) first
    c.in_ok-chain-in-Some-first_of.chain.items c.join.new.chain.items c.push-in-Some-first_of.new.self.items c.in_ok-chain-in-Some-first_of.ensures c.in_ok-join-in-Some-first_of.ensures c.in_ok-push-in-Some-first_of.ensures.items
