-- Bytes that a line may have, before its comment and in it.
use Rattle.std.proofs.Common.{◌≡◌, ℕ, Bool, true, false, not, cond, List, [], ◌∷◌, ◌++◌, ◌&&◌, take, drop, refl, ap, sym, ◌∙◌, arith}
use Rattle.std.specs.List.{list_all, position_or_len}
use Rattle.std.proofs.lemmas.Bool.{and_parts}
use Rattle.std.proofs.lemmas.Bool.Decides.{nat_tests}
use Rattle.std.proofs.lemmas.List.{take-append-drop}
use Rattle.std.proofs.lemmas.List.Folds.{list_all-append}
use Rattle.board_text.specs.Lines.{is_newline, is_allowed, is_allowed_comment, is_line_of}
use Rattle.board_text.specs.Tokens.{is_comment, uncommented, comment_of}

-- a weaker test of each
weaker : (strong weak : ℕ → Bool) → ((byte : ℕ) → strong byte ≡ true → weak byte ≡ true) → (bytes : List ℕ) → list_all strong bytes ≡ true → list_all weak bytes ≡ true
weaker strong weak follows [] all = refl
weaker strong weak follows (byte ∷ bytes) all =
    let parts = and_parts (strong byte) (list_all strong bytes) all in
    rw (follows byte parts.0) (weaker strong weak follows bytes parts.1)

-- both parts of a line
in_two : (p : ℕ → Bool) (line : List ℕ) → list_all p line ≡ (list_all p (uncommented line) && list_all p (comment_of line))
in_two p line =
    let n = position_or_len is_comment line in
    ap (list_all p) (sym (take-append-drop n line)) ∙ list_all-append p (take n line) (drop n line)

in_comment : (byte : ℕ) → is_allowed byte ≡ true → is_allowed_comment byte ≡ true
in_comment byte is = rw is refl

-- what may stand before a comment may stand in it
pub allowed_line : (line : List ℕ) → list_all is_allowed line ≡ true → is_line_of line ≡ true
allowed_line line all =
    let parts = and_parts (list_all is_allowed (uncommented line)) (list_all is_allowed (comment_of line)) (sym (in_two is_allowed line) ∙ all) in
    rw (parts.0, weaker is_allowed is_allowed_comment in_comment (comment_of line) parts.1) refl

no_newline_before : (byte : ℕ) → is_allowed byte ≡ true → not (is_newline byte) ≡ true
no_newline_before byte is = grind (arith, nat_tests)

no_newline_behind : (byte : ℕ) → is_allowed_comment byte ≡ true → not (is_newline byte) ≡ true
no_newline_behind byte is = grind (arith, nat_tests)

-- a line that a text may have has no newline
pub no_newline : (line : List ℕ) → is_line_of line ≡ true → list_all (λ byte. not (is_newline byte)) line ≡ true
no_newline line is =
    let parts = and_parts (list_all is_allowed (uncommented line)) (list_all is_allowed_comment (comment_of line)) is in
    let before = weaker is_allowed (λ byte. not (is_newline byte)) no_newline_before (uncommented line) parts.0 in
    let behind = weaker is_allowed_comment (λ byte. not (is_newline byte)) no_newline_behind (comment_of line) parts.1 in
    in_two (λ byte. not (is_newline byte)) line ∙ rw (before, behind) refl
