-- The parts of a text before and behind the line `events`.
use Rattle.std.proofs.Common.{◌≡◌, ℕ, false, List, [], ◌∷◌, ◌++◌, append_assoc, Option, Some, None, codes, refl}
use Rattle.std.specs.Str.{bytes_eq}
use Rattle.board_roundtrip.specs.Cuts.{behind_lines}
use Rattle.trace_reader.specs.Traces.{with_before, until_events}

-- the parts of a text whose next line is not `events`
pub later_parts : (lines : List (List ℕ)) (line : List ℕ) (rest : List (List ℕ)) → bytes_eq line (codes "events") ≡ false → behind_lines lines (until_events (line ∷ rest)) ≡ behind_lines (lines ++ line ∷ []) (until_events rest)
later_parts lines line rest other =
    let P : Option (List (List ℕ) × List (List ℕ)) → Type 0 = λ parts. behind_lines lines (with_before line parts) ≡ behind_lines (lines ++ line ∷ []) parts in
    let later : P (until_events rest) = elim (until_events rest) as P [
      | None ↦ refl
      | Some parts ↦ let whole = append_assoc lines (line ∷ []) parts.0 in cc
    ] in
    rw other later
