use Rattle.trace_reader.proofs.lines.ScanLemmas.{begins_with, begins_shorter}
use Rattle.trace_reader.proofs.lines.scan.next_word.Goals as goal

pub returns : goal.returns
returns c =
    let begins = begins_with c.args.text.now c.split_at.result.0.now c.split_at.result.1.now c.in_ok-stop.behind.now c.in_ok-stop.stop.now c.length_of_word.result c.is_empty.result c.length_of_word.ensures.value c.split_at.ensures.front c.split_at.ensures.back c.in_ok-stop.ensures.cases.0 c.is_empty.ensures c.if-is_empty.false in
    record {
      begins = begins;
      shorter = begins_shorter c.args.text.now c.split_at.result.0.now c.in_ok-stop.behind.now c.in_ok-stop.stop.now begins;
    }
