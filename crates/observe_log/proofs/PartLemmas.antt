-- The parts of a text before and behind the line `log`.
use Rattle.std.proofs.Common.{◌≡◌, ℕ, false, List, [], ◌∷◌, ◌++◌, append_assoc, Option, Some, None, refl}
use Rattle.observe_log.specs.Logs.{is_log_line, with_before, until_log}
use Rattle.board_roundtrip.specs.Cuts.{behind_lines}

-- the parts of a text whose next line is not `log`
pub later_parts : (lines : List (List ℕ)) (line : List ℕ) (rest : List (List ℕ)) → is_log_line line ≡ false → behind_lines lines (until_log (line ∷ rest)) ≡ behind_lines (lines ++ line ∷ []) (until_log rest)
later_parts lines line rest other =
    let P : Option (List (List ℕ) × List (List ℕ)) → Type 0 = λ parts. behind_lines lines (with_before line parts) ≡ behind_lines (lines ++ line ∷ []) parts in
    let later : P (until_log rest) = elim (until_log rest) as P [
      | None ↦ refl
      | Some parts ↦ let whole = append_assoc lines (line ∷ []) parts.0 in cc
    ] in
    rw other later
