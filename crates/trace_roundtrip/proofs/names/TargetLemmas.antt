-- The name of a target is read as the target.
use Rattle.std.proofs.Common.{◌≡◌, ℕ, ◌^◌, ◌<◌, true, length, Some}
use Rattle.board_model.specs.declared.agents.Target.{Target}
use Rattle.board_model.specs.declared.board.Board.{Board}
use Rattle.board_model.specs.WellFormed.{is_well_formed}
use Rattle.board_model.specs.Fits.{DetailsFit, BoardFits}
use Rattle.trace_text.specs.Words.{target_name}
use Rattle.trace_reader.specs.lines.Words.{target_in}
use Rattle.trace_roundtrip.proofs.names.NameLemmas.{NameWord, name_is_word}
use Rattle.trace_roundtrip.proofs.names.PartLemmas.{each_at}
use Rattle.trace_roundtrip.proofs.names.PlaceLemmas.{targets_apart, place_found, element_at}
use Rattle.board_model.proofs.Laws.{WellFormed-parts}

-- the name of a target that is there is a name
pub target_is_word : (board : Board) (index : ℕ) → BoardFits board → index < length board.targets → NameWord (target_name board index)
target_is_word board index fits within =
    let there = element_at board.targets index within in
    let named = (each_at DetailsFit board.targets index there.element fits.targets there.found).begins.name in
    rw (there.found) (name_is_word there.element.name named)

-- and the target is found by it
pub target_is_read : (board : Board) (index : ℕ) → is_well_formed board ≡ true → index < 2 ^ 16 → index < length board.targets → target_in board (target_name board index) ≡ Some index
target_is_read board index formed small within =
    let there = element_at board.targets index within in
    let apart = targets_apart board.masters board.targets (WellFormed-parts board formed).targets_named_apart in
    rw (there.found) (place_found (λ (target : Target). target.name) board.targets index there.element apart there.found small)
