use Rattle.std.proofs.Common.{◌∙◌, refl}
use Rattle.board_statements.proofs.KindLemmas.{no_mark, one_mark, behind_is}
use Rattle.board_statements.proofs.kinds.parts.Goals as goal

pub returns-then-at-word : goal.returns-then-at-word
returns-then-at-word c = no_mark c.args.mark c.args.word.now c.length_before-at.result c.length_before-at.ensures.value c.if-at-word.true

pub returns : goal.returns
returns c =
    let there = one_mark c.args.mark c.args.word.now c.length_before-at.result c.length_before-at.ensures.value c.length_before-at.ensures.within c.if-at-word.false in
    (there, c.split_at.ensures.front ∙ rw c.length_before-at.ensures.value refl, behind_is c.args.mark c.length_before-at.result c.args.word.now c.split_at.result.1.now c.split_at-2.result.1.now c.length_before-at.ensures.value c.split_at.ensures.back c.split_at-2.ensures.back)
