-- What other crates rest on: that words, lines and numbers as they are printed are read again.

-- a text cut into words and lines, and where a word ends
pub use Rattle.board_roundtrip.proofs.words.WordLemmas.{ends_behind, line_is, split_line, joined_allowed, words_again, first_piece, lines_again}
-- a number is one word, and is read again
pub use Rattle.board_roundtrip.proofs.words.NumberLemmas.{decimal_word, decimal_again, eight_word, eight_again, four_word, hex_words}
-- the digits of a number
pub use Rattle.board_roundtrip.proofs.words.DigitLemmas.{glyph_value, glyph_is_digit, hex_digits, hex_length, hex_value, from_all_digits}
