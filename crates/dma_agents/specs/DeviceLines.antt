-- The lines of devices, by their words.
use Rattle.std.specs.Prelude.{ℕ, List, Option, Some, None, Result, Ok, Err, codes, nat_le, if◌then◌else◌}
use Rattle.std.specs.Str.{bytes_eq}
use Rattle.board_model.specs.Limits.{most_tries}
use Rattle.board_model.specs.Names.{is_name}
use Rattle.text_faults.specs.declared.board_line.LineFault.{LineFault}
use Rattle.text_faults.specs.declared.board_line.LineFault.TheVariants.{WrongWord, IllFormed}
use Rattle.board_statements.specs.Words.{◌>>=◌, ◌>>◌, Reader, give, one_word, whole, hex, decimal, fixed}
use Rattle.board_statements.specs.Masters.{tail_form}
use Rattle.dma_agents.specs.messages.Message.{message_of}
use Rattle.dma_agents.specs.declared.line.Flag.{Flag}
use Rattle.dma_agents.specs.declared.line.DeviceLine.{DeviceLine}
use Rattle.dma_agents.specs.declared.line.DeviceLine.TheVariants.{Device, Handler, Puts, Gets, Sends, Looks, Waits, Writes}

-- a word that may be a name
abbrev pub name_in : List ℕ → Result (Option (List ℕ)) LineFault
name_in word = Ok (if is_name word then Some word else None)

-- ADDR VALUE TRIES
unfoldable pub flag_form : Reader Flag
flag_form = do
  address ← hex 8
  value ← hex 8
  tries ← decimal 1 most_tries
  give (record { address = address; value = value; tries = tries })

-- `device NAME on TARGET bell ADDR VALUE TRIES`, behind its first word
unfoldable pub device_form : Reader DeviceLine
device_form = do
  name ← one_word name_in
  fixed (codes "on")
  target ← one_word name_in
  fixed (codes "bell")
  bell ← flag_form
  give (Device name target bell)

-- `handler NAME on BUS wait ADDR VALUE TRIES`
unfoldable pub handler_form : Reader DeviceLine
handler_form = do
  name ← one_word name_in
  fixed (codes "on")
  bus ← decimal 0 255
  fixed (codes "wait")
  wait ← flag_form
  give (Handler name bus wait)

-- the seed is a byte
abbrev pub seeded : ℕ → ℕ → ℕ → Reader DeviceLine
seeded address length seed words =
    if nat_le seed 255 then Ok (Puts (record { address = address; length = length; seed = seed }), words) else Err IllFormed

-- `put ADDR LENGTH SEED`
unfoldable pub put_form : Reader DeviceLine
put_form = do
  address ← hex 8
  length ← decimal 1 4096
  seed ← hex 8
  seeded address length seed

-- `get ADDR`, and its tail
unfoldable pub get_form : Reader DeviceLine
get_form = do
  address ← hex 8
  tail_form
  give (Gets address)

-- the same of `look`
unfoldable pub look_form : Reader DeviceLine
look_form = do
  address ← hex 8
  tail_form
  give (Looks address)

-- the message, where there is one
abbrev pub sent : ℕ → Option ℕ → Reader DeviceLine
sent address None words = Err IllFormed
sent address (Some message) words = Ok (Sends address message, words)

-- `send ADDR DATA VECTORS V`
unfoldable pub send_form : Reader DeviceLine
send_form = do
  address ← hex 8
  low ← hex 4
  vectors ← decimal 0 32
  number ← decimal 0 31
  sent address (message_of low vectors number)

-- `wait ADDR VALUE TRIES`
unfoldable pub wait_form : Reader DeviceLine
wait_form = do
  flag ← flag_form
  give (Waits flag)

-- `word ADDR VALUE`
unfoldable pub word_form : Reader DeviceLine
word_form = do
  address ← hex 8
  value ← hex 8
  give (Writes address value)

-- what stands behind the first word of a line
unfoldable pub form_behind : List ℕ → Reader DeviceLine
form_behind word words =
    if bytes_eq word (codes "device") then device_form words
    else if bytes_eq word (codes "handler") then handler_form words
    else if bytes_eq word (codes "put") then put_form words
    else if bytes_eq word (codes "get") then get_form words
    else if bytes_eq word (codes "send") then send_form words
    else if bytes_eq word (codes "look") then look_form words
    else if bytes_eq word (codes "wait") then wait_form words
    else if bytes_eq word (codes "word") then word_form words
    else Err WrongWord

-- what the words of a line say; which fault they have, where they say nothing, is not told
unfoldable pub device_line : List (List ℕ) → Result DeviceLine LineFault
device_line words = whole ((one_word (λ word. Ok word) >>= form_behind) words)
