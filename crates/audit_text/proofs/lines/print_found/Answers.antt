use Rattle.std.proofs.Common.{◌≡◌, ◌++◌, List, map, codes, string_bytes, subst}
use Rattle.std.proofs.lemmas.Result.{IfOk-weaker}
use Rattle.pci_command.specs.declared.op_id.OpId.{OpId}
use Rattle.trace_text.specs.Words.{op_word}
use Rattle.law_audit.specs.Audit.{Finding}
use Rattle.audit_text.specs.Lines.{word_words, known_words, finding_words}
use Rattle.audit_text.proofs.LineLemmas.{line_parts}
use Rattle.audit_text.proofs.lines.print_found.Goals as goal

pub returns : goal.returns
returns c =
    let board = c.args.board.now in
    let its = c.found.inside in
    let chain = c.as_slice.result.now in
    let words : Finding → Type 0 = λ (found : Finding). string_bytes c.print_chain.new.text ≡ string_bytes c.args.text.now ++ finding_words board found in
    IfOk-weaker _ _ _
    (λ _ ended. subst words c.found.view_is
    (subst (λ (ops : List OpId). words (record { read = its.read; word = record { target = its.target; space = its.space; address = its.address }; value = its.value; write = its.write; chain = ops })) c.as_slice.ensures
    (line_parts (op_word board its.read) (codes "by") (word_words board its.target its.space its.address) (known_words board its.value its.write) (map (op_word board) chain)
    (string_bytes c.args.text.now) (string_bytes c.print_operation.new.text) (string_bytes c.print_word.new.text) (string_bytes c.print_known.new.text) (string_bytes c.push_str.new.self) (string_bytes c.print_chain.new.text)
    c.in_ok-print_operation.ensures c.in_ok-print_word.ensures c.in_ok-print_known.ensures c.in_ok-push_str.ensures.bytes ended)))
    c.print_chain.ensures
