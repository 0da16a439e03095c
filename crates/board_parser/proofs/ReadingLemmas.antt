-- A board that is read is well formed.
use Rattle.std.proofs.Common.{subst, ◌≡◌, ℕ, ◌+◌, Bool, true, false, cond, List, [], ◌∷◌, length, refl}
use Rattle.std.specs.Prelude.{Option, Some, None, Result, Ok, Err, nat_lt}
use Rattle.board_model.specs.declared.board.Board.{Board}
use Rattle.board_model.specs.WellFormed.{is_well_formed}
use Rattle.board_text.specs.Lines.{lines_of, line_fault}
use Rattle.board_text.specs.Tokens.{words_of}
use Rattle.text_faults.specs.declared.board_line.LineFault.{LineFault}
use Rattle.board_statements.specs.Statements.{statement_of, first_line_of}
use Rattle.board_parser.specs.declared.draft.draft.Draft.{Draft}
use Rattle.board_parser.specs.draft.Drafts.{board_of, first_draft}
use Rattle.board_parser.specs.draft.Add.{add}
use Rattle.board_parser.proofs.draft.StepLemmas.{step-ok}
use Rattle.board_parser.proofs.draft.SoundLemmas.{well_formed_by}
use Rattle.board_parser.proofs.draft.DraftLemmas.{IsDraftSound, closed_sound, first_sound, add_sound}
use Rattle.board_parser.specs.OneLine.{begin, some_of, read_words, read_unless, read_line}
use Rattle.board_parser.specs.Boards.{then_lines, read_lines, ended, board_read}
use Rattle.board_parser.proofs.StatementLemmas.{statement-formed}

abbrev pub SomeSound : Option Draft → Type 0
SomeSound None = Unit {0}
SomeSound (Some draft) = IsDraftSound draft

begun-sound : (first : Option Bool) (next : Option Draft) → begin first ≡ Ok next → SomeSound next
begun-sound None next h = absurd (cc)
begun-sound (Some wide) next h = let is : Some (first_draft wide) ≡ next = cc in subst SomeSound is (first_sound wide)

some-ok : (step : Result Draft LineFault) (next : Option Draft) → some_of step ≡ Ok next → (draft : Draft) × ((step ≡ Ok draft) × (Some draft ≡ next))
some-ok (Ok draft) next h = (draft, (refl, cc))
some-ok (Err fault) next h = absurd (cc)

words-sound : (before : Option Draft) (words : List (List ℕ)) (next : Option Draft) → SomeSound before → read_words before words ≡ Ok next → SomeSound next
words-sound None words next sound h = begun-sound (first_line_of words) next h
words-sound (Some draft) words next sound h =
    let more = some-ok _ next h in
    let added = step-ok (statement_of draft.wide words) (add draft) more.0 more.1.0 in
    subst SomeSound more.1.1 (add_sound draft added.0 more.0 (statement-formed draft.wide words added.0 added.1.0) sound added.1.1)

more-sound : (test : Bool) (before : Option Draft) (words : List (List ℕ)) (next : Option Draft) → SomeSound before → cond test (read_words before words) (Ok before) ≡ Ok next → SomeSound next
more-sound true before words next sound h = words-sound before words next sound h
more-sound false before words next sound h = let is : before ≡ next = cc in subst SomeSound is sound

unless-sound : (fault : Option LineFault) (before : Option Draft) (line : List ℕ) (next : Option Draft) → SomeSound before → read_unless fault before line ≡ Ok next → SomeSound next
unless-sound None before line next sound h = more-sound (nat_lt 0 (length (words_of line))) before (words_of line) next sound h
unless-sound (Some fault) before line next sound h = absurd (cc)

then-ok : (number : ℕ) (step : Result (Option Draft) LineFault) (later : Option Draft → Result (Option Draft) (ℕ × LineFault)) (end : Option Draft) → then_lines number step later ≡ Ok end → (next : Option Draft) × ((step ≡ Ok next) × (later next ≡ Ok end))
then-ok number (Ok next) later end h = (next, (refl, h))
then-ok number (Err fault) later end h = absurd (cc)

pub lines-sound : (before : Option Draft) (number : ℕ) (lines : List (List ℕ)) (end : Option Draft) → SomeSound before → read_lines before number lines ≡ Ok end → SomeSound end
lines-sound before number [] end sound h = let is : before ≡ end = cc in subst SomeSound is sound
lines-sound before number (line ∷ lines) end sound h =
    let step = then-ok number (read_line before line) (λ next. read_lines next (number + 1) lines) end h in
    lines-sound step.0 (number + 1) lines end (unless-sound (line_fault line) before line step.0 sound step.1.0) step.1.1

ended-ok : (reading : Result (Option Draft) (ℕ × LineFault)) (board : Board) → ended reading ≡ Ok board → (draft : Draft) × ((reading ≡ Ok (Some draft)) × (board_of draft ≡ board))
ended-ok (Ok None) board h = absurd (cc)
ended-ok (Ok (Some draft)) board h = (draft, (refl, cc))
ended-ok (Err fault) board h = absurd (cc)

pub read-formed : (text : List ℕ) (board : Board) → board_read text ≡ Ok board → is_well_formed board ≡ true
read-formed text board h =
    let end = ended-ok (read_lines None 1 (lines_of text)) board h in
    let sound = lines-sound None 1 (lines_of text) (Some end.0) tt end.1.0 in
    let P : Board → Type 0 = λ b. is_well_formed b ≡ true in
    subst P end.1.1 (well_formed_by (board_of end.0) (closed_sound end.0 sound))
