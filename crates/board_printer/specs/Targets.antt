-- `target NAME on B dev D` and the lines that describe it.
use Rattle.std.specs.Prelude.{ℕ, List, [], ◌∷◌, ◌++◌, map, codes, ◌==◌, ◌&&◌, if◌then◌else◌}
use Rattle.std.specs.Fmt.{decimal}
use Rattle.board_model.specs.Limits.{most_dwords}
use Rattle.board_model.specs.declared.agents.Range.{Range}
use Rattle.board_model.specs.declared.agents.Opening.{Opening}
use Rattle.board_model.specs.declared.agents.Target.{Target}
use Rattle.board_printer.specs.Lines.{Line}
use Rattle.board_printer.specs.Numbers.{word_text, half_text, address_text}
use Rattle.board_printer.specs.Spaces.{space_word}

-- `target NAME on B dev D`
abbrev pub target_line : Target → Line
target_line target = codes "target" ∷ target.name ∷ codes "on" ∷ decimal target.bus ∷ codes "dev" ∷ decimal target.device ∷ []

-- `id V M`, left out if 1234 0001
abbrev pub id_lines : Target → List Line
id_lines target =
    if target.vendor == 0x1234 && target.model == 1
    then []
    else (codes "id" ∷ half_text target.vendor ∷ half_text target.model ∷ []) ∷ []

-- `stall T`, left out if 0
abbrev pub stall_lines : ℕ → List Line
stall_lines stalls = if stalls == 0 then [] else (codes "stall" ∷ decimal stalls ∷ []) ∷ []

-- `burst K`, left out if it is the most
abbrev pub burst_lines : ℕ → List Line
burst_lines burst = if burst == most_dwords then [] else (codes "burst" ∷ decimal burst ∷ []) ∷ []

-- `range SPACE BASE SIZE`, and `abort` likewise
abbrev pub range_line : List ℕ → Range → Line
range_line word range = word ∷ space_word range.space ∷ address_text range.base ∷ address_text range.size ∷ []

-- `word SPACE ADDR VALUE`
abbrev pub opening_line : Opening → Line
opening_line opening = codes "word" ∷ space_word opening.space ∷ address_text opening.address ∷ word_text opening.value ∷ []

-- the line of a target, then its details
abbrev pub target_lines : Target → List Line
target_lines target =
    target_line target
    ∷ (id_lines target ++ (stall_lines target.stalls ++ (burst_lines target.burst
    ++ (map (range_line (codes "range")) target.ranges
    ++ (map (range_line (codes "abort")) target.aborts
    ++ map opening_line target.openings)))))
