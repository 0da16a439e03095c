-- A board that is made is well formed.
use Rattle.std.proofs.Common.{◌≡◌, ℕ, ◌+◌, Bool, true, false, cond, nat_le, List, [], ◌∷◌, length, Option, Some, None, Result, Ok, Err, refl, subst, codes}
use Rattle.std.specs.Str.{bytes_eq}
use Rattle.std.proofs.lemmas.Bool.{and_parts}
use Rattle.board_model.specs.Limits.{most_tries}
use Rattle.board_model.specs.declared.board.Board.{Board}
use Rattle.board_model.specs.WellFormed.{is_within, is_well_formed}
use Rattle.board_text.specs.Lines.{lines_of}
use Rattle.text_faults.specs.declared.board_line.LineFault.{LineFault}
use Rattle.board_statements.specs.declared.statement.Statement.TheVariants.{Does, NewMaster}
use Rattle.board_statements.specs.Words.{Reader, one_word, hex, decimal, fixed, decimal_of}
use Rattle.board_statements.specs.Masters.{tail_form}
use Rattle.board_parser.specs.declared.draft.draft.Draft.{Draft}
use Rattle.board_parser.specs.draft.Drafts.{board_of}
use Rattle.board_parser.specs.draft.Formed.{is_formed_op}
use Rattle.board_parser.proofs.draft.SoundLemmas.{well_formed_by}
use Rattle.board_parser.proofs.draft.DraftLemmas.{IsDraftSound, closed_sound, add_sound}
use Rattle.board_parser.specs.Boards.{read_lines}
use Rattle.board_parser.proofs.ReaderLemmas.{Yields, yields-bind, yields-next, yields-give, yields-word, yields-any, yields-whole}
use Rattle.board_parser.proofs.WordKindLemmas.{decimal-within}
use Rattle.board_parser.proofs.ReadingLemmas.{SomeSound, lines-sound}
use Rattle.dma_agents.specs.messages.Message.{message_of}
use Rattle.text_faults.specs.declared.device.DeviceFault.{DeviceFault}
use Rattle.text_faults.specs.declared.device.DeviceFault.TheVariants.{Misshapen}
use Rattle.dma_agents.specs.declared.fault.MakeFault.{MakeFault}
use Rattle.dma_agents.specs.declared.fault.MakeFault.TheVariants.{Device as OfLine}
use Rattle.dma_agents.specs.declared.line.Flag.{Flag}
use Rattle.dma_agents.specs.declared.line.Waiting.{Waiting}
use Rattle.dma_agents.specs.declared.line.DeviceLine.{DeviceLine}
use Rattle.dma_agents.specs.declared.line.DeviceLine.TheVariants.{Device, Handler, Puts, Gets, Sends, Looks, Waits, Writes}
use Rattle.dma_agents.specs.declared.line.DeviceOwner.TheVariants.{Nobody}
use Rattle.dma_agents.specs.declared.making.Making.{Making}
use Rattle.dma_agents.specs.declared.put.Put.{Put}
use Rattle.dma_agents.specs.DeviceLines.{name_in, flag_form, device_form, handler_form, seeded, put_form, get_form, look_form, sent, send_form, wait_form, word_form, form_behind, device_line}
use Rattle.dma_agents.specs.Adding.{line_added}
use Rattle.dma_agents.specs.Made.{is_line, with_draft, lines_read, unclear, Made, by_flags, by_lines, by_board, until_devices, by_parts, by_first, made_read, board_in}
use Rattle.dma_agents.proofs.PutLemmas.{cut_formed}
use Rattle.dma_agents.proofs.StepLemmas.{OnDraft, Keeps, line_may, line_keeps, OnMaking, LinesKeep, all_keep}

-- What a line gives.

-- a poll is tried at least once, and a put has a byte
is_formed_line : DeviceLine → Bool
is_formed_line (Device name target bell) = is_within 1 most_tries bell.tries
is_formed_line (Handler name bus wait) = is_within 1 most_tries wait.tries
is_formed_line (Puts put) = nat_le 1 put.length
is_formed_line (Gets address) = true
is_formed_line (Sends address message) = true
is_formed_line (Looks address) = true
is_formed_line (Waits flag) = is_within 1 most_tries flag.tries
is_formed_line (Writes address value) = true

abbrev IsFormedLine : DeviceLine → Type 0
IsFormedLine line = is_formed_line line ≡ true

abbrev Any : {A : Type 0} → A → Type 0
Any value = Unit {0}

abbrev HasTries : Flag → Type 0
HasTries flag = is_within 1 most_tries flag.tries ≡ true

flag_yields : Yields flag_form HasTries
unfolding flag_form
flag_yields =
    yields-bind (hex 8) _ Any HasTries (yields-any (hex 8)) (λ address _.
    yields-bind (hex 8) _ Any HasTries (yields-any (hex 8)) (λ value _.
    yields-bind (decimal 1 most_tries) _ (λ n. is_within 1 most_tries n ≡ true) HasTries (yields-word (decimal_of 1 most_tries) (λ n. is_within 1 most_tries n ≡ true) (decimal-within 1 most_tries)) (λ tries within.
    yields-give (record { address = address; value = value; tries = tries }) HasTries within)))

device_yields : Yields device_form IsFormedLine
unfolding device_form is_formed_line
device_yields =
    yields-bind (one_word name_in) _ Any IsFormedLine (yields-any (one_word name_in)) (λ name _.
    yields-next (fixed (codes "on")) _ IsFormedLine (
    yields-bind (one_word name_in) _ Any IsFormedLine (yields-any (one_word name_in)) (λ target _.
    yields-next (fixed (codes "bell")) _ IsFormedLine (
    yields-bind flag_form _ HasTries IsFormedLine flag_yields (λ bell tries.
    yields-give (Device name target bell) IsFormedLine tries)))))

handler_yields : Yields handler_form IsFormedLine
unfolding handler_form is_formed_line
handler_yields =
    yields-bind (one_word name_in) _ Any IsFormedLine (yields-any (one_word name_in)) (λ name _.
    yields-next (fixed (codes "on")) _ IsFormedLine (
    yields-bind (decimal 0 255) _ Any IsFormedLine (yields-any (decimal 0 255)) (λ bus _.
    yields-next (fixed (codes "wait")) _ IsFormedLine (
    yields-bind flag_form _ HasTries IsFormedLine flag_yields (λ wait tries.
    yields-give (Handler name bus wait) IsFormedLine tries)))))

seeded_ok : (address length seed : ℕ) (words : List (List ℕ)) (read : DeviceLine × List (List ℕ)) → nat_le 1 length ≡ true → seeded address length seed words ≡ Ok read → IsFormedLine read.0
unfolding is_formed_line
seeded_ok address length seed words read some h =
    let line : DeviceLine = Puts (record { address = address; length = length; seed = seed }) in
    let P : Bool → Type 0 = λ b. cond b (Ok (line, words)) (Err LineFault.IllFormed) ≡ Ok read → IsFormedLine read.0 in
    (elim (nat_le seed 255) as P [ true ↦ λ e. let same : line ≡ read.0 = cc in subst IsFormedLine same some | false ↦ λ e. cc ]) h

put_yields : Yields put_form IsFormedLine
unfolding put_form
put_yields =
    yields-bind (hex 8) _ Any IsFormedLine (yields-any (hex 8)) (λ address _.
    yields-bind (decimal 1 4096) _ (λ n. is_within 1 4096 n ≡ true) IsFormedLine (yields-word (decimal_of 1 4096) (λ n. is_within 1 4096 n ≡ true) (decimal-within 1 4096)) (λ length within.
    yields-bind (hex 8) _ Any IsFormedLine (yields-any (hex 8)) (λ seed _.
    record { at = λ words read h. seeded_ok address length seed words read (and_parts (nat_le 1 length) (nat_le length 4096) within).0 h })))

get_yields : Yields get_form IsFormedLine
unfolding get_form is_formed_line
get_yields = yields-bind (hex 8) _ Any IsFormedLine (yields-any (hex 8)) (λ address _. yields-next tail_form _ IsFormedLine (yields-give (Gets address) IsFormedLine refl))

look_yields : Yields look_form IsFormedLine
unfolding look_form is_formed_line
look_yields = yields-bind (hex 8) _ Any IsFormedLine (yields-any (hex 8)) (λ address _. yields-next tail_form _ IsFormedLine (yields-give (Looks address) IsFormedLine refl))

sent_ok : (address : ℕ) (message : Option ℕ) (words : List (List ℕ)) (read : DeviceLine × List (List ℕ)) → sent address message words ≡ Ok read → IsFormedLine read.0
unfolding is_formed_line
sent_ok address None words read h = cc
sent_ok address (Some message) words read h = let same : Sends address message ≡ read.0 = cc in subst IsFormedLine same refl

send_yields : Yields send_form IsFormedLine
unfolding send_form
send_yields =
    yields-bind (hex 8) _ Any IsFormedLine (yields-any (hex 8)) (λ address _.
    yields-bind (hex 4) _ Any IsFormedLine (yields-any (hex 4)) (λ low _.
    yields-bind (decimal 0 32) _ Any IsFormedLine (yields-any (decimal 0 32)) (λ vectors _.
    yields-bind (decimal 0 31) _ Any IsFormedLine (yields-any (decimal 0 31)) (λ number _.
    record { at = λ words read h. sent_ok address (message_of low vectors number) words read h }))))

wait_yields : Yields wait_form IsFormedLine
unfolding wait_form is_formed_line
wait_yields = yields-bind flag_form _ HasTries IsFormedLine flag_yields (λ flag tries. yields-give (Waits flag) IsFormedLine tries)

word_yields : Yields word_form IsFormedLine
unfolding word_form is_formed_line
word_yields =
    yields-bind (hex 8) _ Any IsFormedLine (yields-any (hex 8)) (λ address _.
    yields-bind (hex 8) _ Any IsFormedLine (yields-any (hex 8)) (λ value _.
    yields-give (Writes address value) IsFormedLine refl))

-- one of two readers
either_yields : (test : Bool) (first second : Reader DeviceLine) → Yields first IsFormedLine → Yields second IsFormedLine → (words : List (List ℕ)) (read : DeviceLine × List (List ℕ)) → cond test (first words) (second words) ≡ Ok read → IsFormedLine read.0
either_yields true first second one other words read h = one.at words read h
either_yields false first second one other words read h = other.at words read h

abbrev choose : Bool → Reader DeviceLine → Reader DeviceLine → Reader DeviceLine
choose test first second words = cond test (first words) (second words)

chosen : (test : Bool) (first second : Reader DeviceLine) → Yields first IsFormedLine → Yields second IsFormedLine → Yields (choose test first second) IsFormedLine
chosen test first second one other = record { at = λ words read h. either_yields test first second one other words read h }

refused : (fault : LineFault) → Yields (λ words. Err fault) IsFormedLine
refused fault = record { at = λ words read h. cc }

behind_yields : (word : List ℕ) → Yields (form_behind word) IsFormedLine
unfolding form_behind
behind_yields word =
    chosen (bytes_eq word (codes "device")) device_form _ device_yields (
    chosen (bytes_eq word (codes "handler")) handler_form _ handler_yields (
    chosen (bytes_eq word (codes "put")) put_form _ put_yields (
    chosen (bytes_eq word (codes "get")) get_form _ get_yields (
    chosen (bytes_eq word (codes "send")) send_form _ send_yields (
    chosen (bytes_eq word (codes "look")) look_form _ look_yields (
    chosen (bytes_eq word (codes "wait")) wait_form _ wait_yields (
    chosen (bytes_eq word (codes "word")) word_form _ word_yields (refused LineFault.WrongWord))))))))

line_formed : (words : List (List ℕ)) (line : DeviceLine) → device_line words ≡ Ok line → IsFormedLine line
unfolding device_line
line_formed words line h =
    let reader = yields-bind (one_word (λ word. Ok word)) form_behind Any IsFormedLine (yields-any (one_word (λ word. Ok word))) (λ word _. behind_yields word) in
    yields-whole _ IsFormedLine (reader.at words) line h

-- a put has a byte
pub put_long : (words : List (List ℕ)) (put : Put) → device_line words ≡ Ok (Puts put) → nat_le 1 put.length ≡ true
unfolding is_formed_line
put_long words put is = line_formed words (Puts put) is

-- What it adds keeps the draft sound.

line_ops : (line : DeviceLine) → IsFormedLine line → line_may is_formed_op line ≡ true
unfolding is_formed_line
line_ops (Device name target bell) formed = formed
line_ops (Handler name bus wait) formed = formed
line_ops (Puts put) formed = cut_formed put formed
line_ops (Gets address) formed = refl
line_ops (Sends address message) formed = refl
line_ops (Looks address) formed = refl
line_ops (Waits flag) formed = formed
line_ops (Writes address value) formed = refl

sound_kept : Keeps IsDraftSound is_formed_op
sound_kept = record {
  op = λ draft next op formed sound is. add_sound draft (Does op false) next formed sound is;
  master = λ draft next name bus sound is. add_sound draft (NewMaster name bus) next refl sound is;
}

abbrev IsSoundMaking : Making → Type 0
IsSoundMaking making = IsDraftSound making.sheet

with_sound : (making : Making) (number : ℕ) (line : DeviceLine) (step : Result Draft DeviceFault) → OnDraft IsDraftSound step → OnMaking IsSoundMaking (with_draft making number line step)
with_sound making number line (Ok draft) sound = sound
with_sound making number line (Err fault) sound = tt

lines_sound : LinesKeep IsSoundMaking
lines_sound = record {
  line = λ making number words line is sound.
      with_sound making number line (line_added making.owner making.sheet line)
      (line_keeps IsDraftSound is_formed_op sound_kept making.owner making.sheet line (line_ops line (line_formed words line is)) sound);
}

-- The whole text.

abbrev IsFormedMade : Result Made MakeFault → Type 0
IsFormedMade (Ok made) = is_well_formed made.board ≡ true
IsFormedMade (Err fault) = Unit {0}

flags_formed : (board : Board) (first : ℕ) (found : Option Waiting) → is_well_formed board ≡ true → IsFormedMade (by_flags board first found)
flags_formed board first None formed = formed
flags_formed board first (Some wait) formed = tt

lines_formed : (first : ℕ) (making : Result Making MakeFault) → OnMaking IsSoundMaking making → IsFormedMade (by_lines first making)
lines_formed first (Ok making) sound =
    flags_formed (board_of making.sheet) first (unclear (board_of making.sheet) making.waits)
    (well_formed_by (board_of making.sheet) (closed_sound making.sheet sound))
lines_formed first (Err fault) sound = tt

board_formed : (number : ℕ) (lines : List (List ℕ)) (reading : Result (Option Draft) (ℕ × LineFault)) → ((end : Option Draft) → reading ≡ Ok end → SomeSound end) → IsFormedMade (by_board number lines reading)
board_formed number lines (Ok None) each = tt
board_formed number lines (Ok (Some draft)) each =
    lines_formed (length (board_of draft).masters) (lines_read (record { sheet = draft; owner = Nobody; waits = [] }) number lines)
    (all_keep IsSoundMaking lines_sound (record { sheet = draft; owner = Nobody; waits = [] }) number lines (each (Some draft) refl))
board_formed number lines (Err fault) each = tt

parts_formed : (past : ℕ) (parts : Option (List (List ℕ) × List (List ℕ))) → IsFormedMade (by_parts past parts)
parts_formed past None = tt
parts_formed past (Some parts) = board_formed (length parts.0 + 3) parts.1 (read_lines None 1 parts.0) (λ end is. lines-sound None 1 parts.0 end tt is)

first_formed : (lines : List (List ℕ)) → IsFormedMade (by_first lines)
first_formed [] = tt
first_formed (line ∷ lines) =
    let P : Bool → Type 0 = λ b. IsFormedMade (cond b (by_parts (length lines + 2) (until_devices lines)) (Err (OfLine 1 Misshapen))) in
    elim (is_line (codes "pcidevices" ∷ codes "1" ∷ []) line) as P [ true ↦ parts_formed (length lines + 2) (until_devices lines) | false ↦ tt ]

formed_in : (reading : Result Made MakeFault) (board : Board) → IsFormedMade reading → board_in reading ≡ Ok board → is_well_formed board ≡ true
formed_in (Ok made) board formed is = let same : made.board ≡ board = cc in subst (λ b. is_well_formed b ≡ true) same formed
formed_in (Err fault) board formed is = cc

pub told_formed : (text : List ℕ) (board : Board) → board_in (made_read text) ≡ Ok board → is_well_formed board ≡ true
told_formed text board is = formed_in (made_read text) board (first_formed (lines_of text)) is
