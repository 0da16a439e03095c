-- `bridge B on Q dev D last S`, then what is not as it is when left out: no window, four posted
-- writes, four delayed requests, master abort mode 0.
use Rattle.std.specs.Prelude.{ℕ, Bool, List, [], ◌∷◌, ◌++◌, Option, Some, None, codes, ◌==◌, if◌then◌else◌}
use Rattle.std.specs.Fmt.{decimal}
use Rattle.board_model.specs.declared.bridge.Window.{Window}
use Rattle.board_model.specs.declared.bridge.Bridge.{Bridge}
use Rattle.board_printer.specs.Lines.{Line}
use Rattle.board_printer.specs.Numbers.{address_text}

-- `mem BASE LIMIT` and the like
abbrev pub window_words : List ℕ → Option Window → Line
window_words word None = []
window_words word (Some window) = word ∷ address_text window.base ∷ address_text window.limit ∷ []

-- `posted P` and `delayed N`
abbrev pub depth_words : List ℕ → ℕ → Line
depth_words word depth = if depth == 4 then [] else word ∷ decimal depth ∷ []

-- `abort 1`
abbrev pub mode_words : Bool → Line
mode_words mode = if mode then codes "abort" ∷ codes "1" ∷ [] else []

-- all that a `bridge` line may leave out, in this order
abbrev pub option_words : Bridge → Line
option_words bridge =
    window_words (codes "mem") bridge.mem ++ (window_words (codes "pref") bridge.pref ++ (window_words (codes "io") bridge.io
    ++ (depth_words (codes "posted") bridge.posted ++ (depth_words (codes "delayed") bridge.delayed ++ mode_words bridge.mode))))

-- the whole line of a bridge
abbrev pub bridge_line : Bridge → Line
bridge_line bridge =
    codes "bridge" ∷ decimal bridge.bus ∷ codes "on" ∷ decimal bridge.parent ∷ codes "dev" ∷ decimal bridge.device
    ∷ codes "last" ∷ decimal bridge.last ∷ option_words bridge
