use Rattle.std.proofs.Common.{◌≡◌, ◌<◌, length, drop, arith}
use Rattle.std.specs.List.{position_or_len}
use Rattle.std.proofs.lemmas.Bool.Decides.{nat_tests}
use Rattle.board_text.specs.Tokens.{is_no_separator}
use Rattle.board_text.proofs.NextLemmas.{next_of, none_of}
use Rattle.board_text.proofs.TokenLemmas.{first_token}
use Rattle.board_text.proofs.words.next_word.Goals as goal

pub returns-clause-words : goal.returns-clause-words
returns-clause-words c =
    let behind : c.split_at.result.1.now ≡ drop (position_or_len is_no_separator c.args.text.now) c.args.text.now = rw (← c.length_of_gap.ensures.value) c.split_at.ensures.back in
    let some : 0 < length c.split_at.result.1.now = grind (arith, nat_tests, c.if-is_empty.false, c.is_empty.ensures) in
    rw (c.split_at-2.ensures.front, c.split_at-2.ensures.back) (next_of c.args.text.now c.split_at.result.1.now c.length_of_word.result behind some c.length_of_word.ensures.value)

pub returns-clause-token : goal.returns-clause-token
returns-clause-token c =
    let behind : c.split_at.result.1.now ≡ drop (position_or_len is_no_separator c.args.text.now) c.args.text.now = rw (← c.length_of_gap.ensures.value) c.split_at.ensures.back in
    let some : 0 < length c.split_at.result.1.now = grind (arith, nat_tests, c.if-is_empty.false, c.is_empty.ensures) in
    first_token c.args.text.now c.split_at.result.1.now c.split_at-2.result.0.now c.split_at-2.result.1.now c.length_of_word.result behind some c.length_of_word.ensures.value
    c.split_at-2.ensures.front c.split_at-2.ensures.back

pub returns-then-is_empty-clause-words : goal.returns-then-is_empty-clause-words
returns-then-is_empty-clause-words c =
    let behind : c.split_at.result.1.now ≡ drop (position_or_len is_no_separator c.args.text.now) c.args.text.now = rw (← c.length_of_gap.ensures.value) c.split_at.ensures.back in
    let none : length c.split_at.result.1.now ≡ 0 = grind (arith, nat_tests, c.if-is_empty.true, c.is_empty.ensures) in
    none_of c.args.text.now c.split_at.result.1.now behind none
