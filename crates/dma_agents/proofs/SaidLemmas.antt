-- A line is read by what it says by itself.
use Rattle.std.proofs.Common.{◌≡◌, ℕ, Bool, true, false, cond, nat_lt, List, length, Option, Some, None, Result, Ok, Err, refl}
use Rattle.board_text.specs.Lines.{line_fault}
use Rattle.board_text.specs.Tokens.{words_of}
use Rattle.text_faults.specs.declared.board_line.LineFault.{LineFault}
use Rattle.text_faults.specs.declared.device.DeviceFault.{DeviceFault}
use Rattle.text_faults.specs.declared.device.DeviceFault.TheVariants.{Misshapen}
use Rattle.dma_agents.specs.declared.line.DeviceLine.{DeviceLine}
use Rattle.dma_agents.specs.declared.making.Making.{Making}
use Rattle.dma_agents.specs.DeviceLines.{device_line}
use Rattle.dma_agents.specs.Adding.{line_added}
use Rattle.dma_agents.specs.Made.{is_faultless, with_draft, by_form, form_of, said_by, line_read}

abbrev pub by_said : Making → ℕ → Result (Option DeviceLine) DeviceFault → Result Making DeviceFault
by_said making number (Ok None) = Ok making
by_said making number (Ok (Some line)) = with_draft making number line (line_added making.owner making.sheet line)
by_said making number (Err fault) = Err fault

by_words : (making : Making) (number : ℕ) (words : Bool) (form : Result DeviceLine LineFault) → cond words (by_form making number form) (Ok making) ≡ by_said making number (cond words (form_of form) (Ok None))
by_words making number true (Ok line) = refl
by_words making number true (Err fault) = refl
by_words making number false form = refl

by_marks : (making : Making) (number : ℕ) (faultless words : Bool) (form : Result DeviceLine LineFault)
    → cond faultless (cond words (by_form making number form) (Ok making)) (Err Misshapen) ≡ by_said making number (cond faultless (cond words (form_of form) (Ok None)) (Err Misshapen))
by_marks making number true words form = by_words making number words form
by_marks making number false words form = refl

pub line_said : (making : Making) (number : ℕ) (line : List ℕ) → line_read making number line ≡ by_said making number (said_by line)
line_said making number line = by_marks making number (is_faultless (line_fault line)) (nat_lt 0 (length (words_of line))) (device_line (words_of line))
