use Rattle.board_roundtrip.proofs.words.NumberLemmas.{decimal_again, decimal_word, eight_again, four_again, eight_word, four_word}
use Rattle.board_roundtrip.proofs.words.numbers_are_read_again.Goals as goal

pub returns-clause-decimals : goal.returns-clause-decimals
returns-clause-decimals c = decimal_again

pub returns-clause-eight_digits : goal.returns-clause-eight_digits
returns-clause-eight_digits c = eight_again

pub returns-clause-four_digits : goal.returns-clause-four_digits
returns-clause-four_digits c = four_again

pub returns-clause-decimal_words : goal.returns-clause-decimal_words
returns-clause-decimal_words c = decimal_word

pub returns-clause-hexadecimal_words : goal.returns-clause-hexadecimal_words
returns-clause-hexadecimal_words c = λ n small. eight_word n

pub returns-clause-half_words : goal.returns-clause-half_words
returns-clause-half_words c = λ n small. four_word n
