-- The lines of a text up to its line `devices`.
use Rattle.std.proofs.Common.{◌≡◌, ℕ, false, List, [], ◌∷◌, ◌++◌, append_assoc, Option, Some, None, refl, codes}
use Rattle.board_roundtrip.specs.Cuts.{behind_lines}
use Rattle.dma_agents.specs.Made.{is_line, with_before, until_devices}

-- the parts of a text whose next line is not `devices`
pub later_parts : (lines : List (List ℕ)) (line : List ℕ) (rest : List (List ℕ)) → is_line (codes "devices" ∷ []) line ≡ false → behind_lines lines (until_devices (line ∷ rest)) ≡ behind_lines (lines ++ line ∷ []) (until_devices rest)
later_parts lines line rest other =
    let P : Option (List (List ℕ) × List (List ℕ)) → Type 0 = λ parts. behind_lines lines (with_before line parts) ≡ behind_lines (lines ++ line ∷ []) parts in
    let later : P (until_devices rest) = elim (until_devices rest) as P [
      | None ↦ refl
      | Some parts ↦ let whole = append_assoc lines (line ∷ []) parts.0 in cc
    ] in
    rw other later
