-- The lines of bridges.
use Rattle.std.specs.Prelude.{ℕ, Bool, false, ◌==◌, List, Option, Some, None, codes}
use Rattle.board_model.specs.Limits.{most_posted, most_delayed}
use Rattle.board_model.specs.declared.bridge.Window.{Window}
use Rattle.board_statements.specs.declared.statement.Statement.{Statement}
use Rattle.board_statements.specs.declared.statement.Statement.TheVariants.{NewBridge, NewHeader}
use Rattle.board_statements.specs.Words.{◌>>=◌, ◌>>◌, Reader, give, choice, optional, decimal, fixed, long, header_bytes}

-- BASE LIMIT, which may have 64 bits in a wide text
abbrev pub base_limit : Bool → Reader (Option Window)
base_limit wide = do
  from ← long wide
  to ← long wide
  give (Some (record { base = from; limit = to }))

-- `none` or BASE LIMIT behind `mem`, `pref` or `io`, which may be left out: then there is no window
unfoldable pub window : List ℕ → Bool → Reader (Option Window)
window word wide = optional word None (choice (codes "none") (give None) (base_limit wide))

-- a number from 1 to the most behind `posted` or `delayed`, which may be left out: then it is 4
unfoldable pub depth : List ℕ → ℕ → Reader ℕ
depth word most = optional word 4 (decimal 1 most)

-- 0 or 1 behind `abort`, which may be left out: then it is 0
unfoldable pub abort_mode : Reader Bool
abort_mode = optional (codes "abort") false do
  bit ← decimal 0 1
  give (bit == 1)

-- what may be left out of the line of a bridge, in this order
abbrev pub bridge_options : Bool → ℕ → ℕ → ℕ → ℕ → Reader Statement
bridge_options wide bus parent device last = do
  mem ← window (codes "mem") false
  pref ← window (codes "pref") wide
  io ← window (codes "io") false
  posted ← depth (codes "posted") most_posted
  delayed ← depth (codes "delayed") most_delayed
  mode ← abort_mode
  give (NewBridge (record { bus = bus; parent = parent; device = device; last = last; mem = mem; pref = pref; io = io; posted = posted; delayed = delayed; mode = mode }))

-- `bridge B on Q dev D last S`, and then what may be left out
unfoldable pub bridge_form : Bool → Reader Statement
bridge_form wide = do
  bus ← decimal 1 255
  fixed (codes "on")
  parent ← decimal 0 255
  fixed (codes "dev")
  device ← decimal 0 31
  fixed (codes "last")
  last ← decimal 0 255
  bridge_options wide bus parent device last

-- `header D BYTES`, and then what may be left out
unfoldable pub header_form : Reader Statement
header_form = do
  device ← decimal 0 31
  bytes ← header_bytes
  posted ← depth (codes "posted") most_posted
  delayed ← depth (codes "delayed") most_delayed
  give (NewHeader device bytes posted delayed)
