use Rattle.std.proofs.Common.{Bor, List, ℕ, ap, ◌∙◌, arith}
use Rattle.trace_reader.specs.lines.Lines.{pieces_line}
use Rattle.trace_reader.proofs.lines.CutLemmas.{nows}
use Rattle.trace_reader.proofs.lines.ReadLemmas.{scanned_line, scanned_read}
use Rattle.trace_reader.proofs.events.read_line_at.Goals as goal

pub returns-in-Some-clause-line : goal.returns-in-Some-clause-line
returns-in-Some-clause-line c =
    scanned_line c.args.bytes.now c.split_at.result.1.now c.in-Some.line.now c.args.at _ (omega arith) c.split_at.ensures.back c.in-Some.ensures.first (omega arith)

pub returns-in-Some-clause-read : goal.returns-in-Some-clause-read
returns-in-Some-clause-read c =
    scanned_read c.args.names.now c.in-Some.line.now (nows c.in-Some.words.items) c.read_words-read.result c.in-Some.ensures.readable c.in-Some.ensures.pieces
    (c.read_words-read.ensures ∙ ap (λ (words : List (Bor (List ℕ))). pieces_line c.args.names.now (nows words)) c.as_slice.ensures.value)
