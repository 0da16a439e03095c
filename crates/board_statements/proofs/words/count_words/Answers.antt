use Rattle.std.proofs.Common.{ap, length, arith}
use Rattle.board_text.proofs.NextLemmas.{words_few}
use Rattle.board_statements.proofs.words.count_words.Goals as goal

-- there are no more words than a text can have
pub overflow_add-count : goal.overflow_add-count
overflow_add-count c = omega (arith, words_few c.args.text.now, ap length c.in-Some.ensures.words)

pub loop-word-preserved : goal.loop-word-preserved
loop-word-preserved c = omega (arith, ap length c.in-Some.ensures.words)

pub loop-word-smaller : goal.loop-word-smaller
loop-word-smaller c = omega (arith, ap length c.in-Some.ensures.words)

pub returns : goal.returns
returns c = omega (arith, ap length c.in_default.ensures.words)
