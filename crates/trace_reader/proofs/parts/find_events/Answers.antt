use Rattle.std.proofs.Common.{◌≡◌, ◌<◌, ◌∷◌, [], false, List, ℕ, length, drop, codes, inl, inr, ap, sym, ◌∙◌, arith, rules, tests}
use Rattle.std.specs.List.{slice_range}
use Rattle.std.specs.Str.{bytes_eq}
use Rattle.std.proofs.lemmas.Bool.{cases_lt}
use Rattle.std.proofs.lemmas.List.{length-append}
use Rattle.board_text.specs.Lines.{lines_of}
use Rattle.trace_reader.specs.Traces.{until_events}
use Rattle.board_roundtrip.specs.Cuts.{behind_lines}
use Rattle.board_roundtrip.proofs.CutLemmas.{one_line_more}
use Rattle.trace_reader.proofs.CutLemmas.{later_parts}
use Rattle.trace_reader.proofs.parts.find_events.Goals as goal

pub loop-line-preserved : goal.loop-line-preserved
loop-line-preserved c =
    let text = c.args.bytes.now in
    let line = c.in-Some.line.now in
    let old = c.loop-line.invariant in
    let inside : c.loop-line.at < length text = elim (cases_lt c.loop-line.at (length text)) [
      | inl less ↦ less
      | inr most ↦ let none = c.in-Some.ensures.end.1 most in cc
    ] in
    let more = one_line_more text line c.args.from c.loop-line.at c.in-Some.next old.from_start inside old.whole c.in-Some.ensures.line c.in-Some.ensures.next in
    let lines = more.0 in
    let other : bytes_eq line (codes "events") ≡ false = search (rules, tests) in
    let later = later_parts (lines_of (slice_range text c.args.from c.loop-line.at)) line (lines_of (drop c.in-Some.next text)) other in
    let one = length-append (lines_of (slice_range text c.args.from c.loop-line.at)) (line ∷ []) in
    let long = ap length lines in
    let ahead = ap length c.in-Some.ensures.line in
    record {
      from_start = omega (arith, old.from_start, c.in-Some.ensures.next);
      within = omega (arith, c.in-Some.ensures.within, c.in-Some.ensures.next);
      counted = omega (arith, old.counted, c.in-Some.ensures.next);
      number = omega (arith, old.number, one, long);
      whole = more.1;
      lines = omega (arith, old.lines, one, long, ahead);
      parts = old.parts ∙ ap (λ (l : List (List ℕ)). behind_lines (lines_of (slice_range text c.args.from c.loop-line.at)) (until_events l)) c.in-Some.ensures.line ∙ later ∙ ap (λ (l : List (List ℕ)). behind_lines l (until_events (lines_of (drop c.in-Some.next text)))) (sym lines);
    }
