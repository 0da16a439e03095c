-- What a name is made of.
use Rattle.std.proofs.Common.{◌≡◌, ℕ, ◌≤◌, true, false, eqb, ltb, List, [], ◌∷◌, length, refl, arith}
use Rattle.std.specs.Prelude.{◌&&◌, nat_le}
use Rattle.std.specs.List.{list_all}
use Rattle.std.proofs.lemmas.Bool.{and_parts, leb-true}
use Rattle.std.proofs.lemmas.Bool.Decides.{nat_tests}
use Rattle.board_model.specs.Names.{is_name_start, is_name_byte, is_name}
use Rattle.board_statements.specs.Words.{has_mark}
use Rattle.board_roundtrip.specs.words.Printed.{is_word_byte, is_word}
use Rattle.trace_reader.specs.lines.Words.{begins_header}

-- a name is a word of at most 16 bytes, has no dot and is no header's
pub record NameWord (name : List ℕ) : Type 0 where
  pub word : is_word name ≡ true
  pub short : length name ≤ 16
  pub no_header : begins_header name ≡ false
  pub no_dot : has_mark 46 name ≡ false

-- a byte that begins a name is one of words, and neither `=` nor a dot
start_byte : (byte : ℕ) → is_name_start byte ≡ true → (is_word_byte byte ≡ true) × (eqb byte 61 ≡ false) × (eqb byte 46 ≡ false)
start_byte byte start = (grind (arith, nat_tests), grind (arith, nat_tests), grind (arith, nat_tests))

-- a byte of a name is one of words, and no dot
name_byte : (byte : ℕ) → is_name_byte byte ≡ true → (is_word_byte byte ≡ true) × (eqb byte 46 ≡ false)
name_byte byte named = (grind (arith, nat_tests), grind (arith, nat_tests))

-- the bytes of a name are those of words, and none is a dot
name_bytes : (bytes : List ℕ) → list_all is_name_byte bytes ≡ true → (list_all is_word_byte bytes ≡ true) × (has_mark 46 bytes ≡ false)
name_bytes [] named = (refl, refl)
name_bytes (byte ∷ bytes) named =
    let parts = and_parts (is_name_byte byte) (list_all is_name_byte bytes) named in
    let here = name_byte byte parts.0 in
    let later = name_bytes bytes parts.1 in
    (rw (here.0) (later.0), rw (here.1) (later.1))

-- a name is such a word
pub name_is_word : (name : List ℕ) → is_name name ≡ true → NameWord name
name_is_word [] named = cc
name_is_word (byte ∷ bytes) named =
    let parts = and_parts (is_name_start byte && nat_le (length bytes) 15) (list_all is_name_byte bytes) named in
    let front = and_parts (is_name_start byte) (nat_le (length bytes) 15) parts.0 in
    let few : length bytes ≤ 15 = leb-true _ _ front.1 in
    let first = start_byte byte front.0 in
    let later = name_bytes bytes parts.1 in
    let some : ltb 0 (length (byte ∷ bytes)) ≡ true = grind (arith, nat_tests) in
    record {
      word = rw (some, first.0) (later.0);
      short = omega (arith, few);
      no_header = first.1;
      no_dot = rw (first.2) (later.1);
    }
