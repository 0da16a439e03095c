use Rattle.std.proofs.Common.{◌≡◌, sym, ap, ◌∙◌, arith}
use Rattle.std.proofs.lemmas.Bool.Decides.{nat_tests}
use Rattle.std.proofs.lemmas.List.{length-map}
use Rattle.arrayvec.specs.ArrayVec.{array_vec_len}
use Rattle.trace_reader.specs.lines.Lines.{is_regular}
use Rattle.trace_reader.proofs.lines.CutLemmas.{nows, one_more, words_go_on, words_end, words_regular, too_many}
use Rattle.trace_reader.proofs.lines.cut.words_of.Goals as goal

pub returns-in-None : goal.returns-in-None
returns-in-None c =
    let more = one_more c.loop-words.words.items c.push-in-None.new.self.items c.loop-words.rest c.push-in-None.ensures.items in
    let whole = words_end (nows c.loop-words.words.items) (nows c.push-in-None.new.self.items) c.loop-words.rest.now c.args.line.now more c.in-None.ensures c.loop-words.invariant.whole in
    let regular = words_regular (nows c.loop-words.words.items) (nows c.push-in-None.new.self.items) c.loop-words.rest.now c.is_empty-in-None.result more c.loop-words.invariant.regular c.is_empty-in-None.ensures c.if-is_empty-2.false in
    (whole, ap is_regular (sym whole) ∙ regular)

pub loop-words-preserved : goal.loop-words-preserved
loop-words-preserved c =
    let more = one_more c.loop-words.words.items c.push.new.self.items c.in-Some.word c.push.ensures.items in
    record {
      whole = words_go_on (nows c.loop-words.words.items) (nows c.push.new.self.items) c.loop-words.rest.now c.args.line.now c.in-Some.word.now c.in-Some.behind.now more c.in-Some.ensures.0 c.in-Some.ensures.1 c.in-Some.ensures.2 c.loop-words.invariant.whole;
      regular = words_regular (nows c.loop-words.words.items) (nows c.push.new.self.items) c.in-Some.word.now c.is_empty.result more c.loop-words.invariant.regular c.is_empty.ensures c.if-is_empty.false;
    }

pub returns : goal.returns
returns c =
    let full : array_vec_len c.loop-words.words ≡ 6 = grind (arith, nat_tests) in
    too_many (nows c.loop-words.words.items) c.loop-words.rest.now c.args.line.now (length-map c.loop-words.words.items _ ∙ full) c.loop-words.invariant.whole
