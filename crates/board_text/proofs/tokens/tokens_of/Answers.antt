use Rattle.std.proofs.Common.{◌≡◌, ◌+◌, length, map, refl}
use Rattle.std.specs.List.{All}
use Rattle.board_text.specs.Tokens.{uncommented, words_of, slice_at, IsWithin}
use Rattle.board_text.proofs.WordLemmas.{if_read, texts_are_words, tokens_are_within}
use Rattle.board_text.proofs.tokens.tokens_of.Goals as goal

pub returns-clause-words : goal.returns-clause-words
returns-clause-words c =
    let text : c.split_at.result.0.now ≡ uncommented c.args.line.now = rw (c.split_at.ensures.front, c.length_before_comment.ensures.value) refl in
    if_read (λ tokens. map (slice_at c.args.start c.args.line.now) tokens ≡ words_of c.args.line.now)
    c.tokens_between.result c.args.start c.args.line.now _ text c.tokens_between.ensures (texts_are_words c.args.start c.args.line.now)

pub returns-clause-within : goal.returns-clause-within
returns-clause-within c =
    let text : c.split_at.result.0.now ≡ uncommented c.args.line.now = rw (c.split_at.ensures.front, c.length_before_comment.ensures.value) refl in
    if_read (All (IsWithin c.args.start (c.args.start + length c.args.line.now)))
    c.tokens_between.result c.args.start c.args.line.now _ text c.tokens_between.ensures (tokens_are_within c.args.start c.args.line.now)
