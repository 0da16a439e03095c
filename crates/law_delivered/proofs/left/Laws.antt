-- What the law of what was left states, and what other crates may rest on besides.

-- a read that was told returns what it was told of, and what landed beside it
pub use Rattle.law_delivered.proofs.left.LeftLemmas.{told_lands, told_left}
-- a read returned what its word held before its reading
pub use Rattle.law_delivered.proofs.left.LeftLemmas.{got_there, ReadAt, read_at, returned_held}
-- a Read event says the value of its dword
pub use Rattle.law_delivered.proofs.left.HeldLemmas.{ReadHere, ReadSome, reading_held}
-- the way of a read ends where it read, and it read its word
pub use Rattle.law_delivered.proofs.left.WordLemmas.{words_end, read_ends, read_word}
