use Rattle.std.proofs.Common.{◌+◌, ◌-◌, length, ap, ◌∙◌, arith}
use Rattle.board_text.proofs.TokenLemmas.{tokens_begin, token_more, tokens_end}
use Rattle.board_text.proofs.tokens.tokens_between.Goals as goal

pub loop-word-init : goal.loop-word-init
loop-word-init c = record {
  within = omega arith;
  tokens = tokens_begin _ c.args.start c.args.text.now c.new-tokens.ensures.items;
}

pub token_before-requires-clause-within : goal.token_before-requires-clause-within
token_before-requires-clause-within c = omega (arith, c.in-Some.ensures.within, c.loop-word.invariant.within)

pub loop-word-preserved : goal.loop-word-preserved
loop-word-preserved c = record {
  within = omega (arith, c.in-Some.ensures.within);
  tokens =
      rw c.in_ok-push.ensures.items (token_more _ _ c.args.start c.token_before.result.start c.token_before.result.end c.args.text.now c.loop-word.rest.now c.in-Some.word.now c.in-Some.behind.now
      c.in-Some.ensures.token c.in-Some.ensures.within c.loop-word.invariant.within c.token_before.ensures.begins c.token_before.ensures.ends c.loop-word.invariant.tokens);
}

pub loop-word-smaller : goal.loop-word-smaller
loop-word-smaller c = omega (arith, ap length c.in-Some.ensures.words)

pub returns : goal.returns
returns c =
    c.from_vec.ensures ∙ tokens_end c.loop-word.tokens.items _ (c.args.start + (length c.args.text.now - length c.loop-word.rest.now)) c.loop-word.rest.now c.in_default.ensures.words c.loop-word.invariant.tokens
