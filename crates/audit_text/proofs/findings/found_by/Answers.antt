use Rattle.std.proofs.Common.{◌≡◌, Some, sym, ◌∙◌, rules}
use Rattle.audit_text.proofs.SearchLemmas.{last_tells}
use Rattle.audit_text.proofs.findings.found_by.Goals as goal

pub found_of-requires : goal.found_of-requires
found_of-requires c =
    let found : c.last_known.result ≡ Some c.in-Some.write = search rules in
    last_tells c.args.ledger.now c.args.reading.now c.args.read c.in-Some.write c.requires (sym c.last_known.ensures ∙ found)
