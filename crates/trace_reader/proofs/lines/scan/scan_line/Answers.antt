use Rattle.std.proofs.Common.{arith}
use Rattle.trace_reader.proofs.lines.CutLemmas.{nows, one_more}
use Rattle.trace_reader.proofs.lines.ScanLemmas.{scans_none, scans_on, scans_end}
use Rattle.trace_reader.proofs.lines.scan.scan_line.Goals as goal

pub loop-words-init : goal.loop-words-init
loop-words-init c = record {
  within = omega arith;
  so_far = rw c.new-words.ensures (scans_none c.args.text.now);
}

pub loop-words-preserved : goal.loop-words-preserved
loop-words-preserved c =
    let more = one_more c.loop-words.words.items c.push.new.self.items c.in_ok-word.word c.push.ensures.items in
    record {
      within = omega (arith, c.loop-words.invariant.within, c.in_ok-word.ensures.shorter);
      so_far = scans_on c.args.text.now c.loop-words.rest.now c.in_ok-word.word.now c.in_ok-word.behind.now (nows c.loop-words.words.items) (nows c.push.new.self.items) c.in_ok-word.stop c.loop-words.invariant.so_far c.in_ok-word.ensures.begins c.if-stop-ne32.false more;
    }

pub returns-then-stop-eq10 : goal.returns-then-stop-eq10
returns-then-stop-eq10 c =
    let more = one_more c.loop-words.words.items c.push.new.self.items c.in_ok-word.word c.push.ensures.items in
    let scanned = scans_end c.args.text.now c.loop-words.rest.now c.in_ok-word.word.now c.in_ok-word.behind.now c.split_at.result.0.now (nows c.loop-words.words.items) (nows c.push.new.self.items) c.in_ok-word.stop _ c.loop-words.invariant.so_far c.in_ok-word.ensures.begins c.if-stop-eq10.true more c.split_at.ensures.front (omega (arith, c.loop-words.invariant.within, c.in_ok-word.ensures.shorter)) (omega arith) in
    record {
      first = scanned.first;
      shorter = scanned.shorter;
      readable = scanned.readable;
      pieces = scanned.pieces;
      regular = scanned.regular;
    }
