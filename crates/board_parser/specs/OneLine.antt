-- How one line of a board text is read, behind the lines before it.
use Rattle.std.specs.Prelude.{ℕ, Bool, List, length, Option, Some, None, Result, Ok, Err, nat_lt, if◌then◌else◌}
use Rattle.board_text.specs.Lines.{line_fault}
use Rattle.board_text.specs.Tokens.{words_of}
use Rattle.text_faults.specs.declared.board_line.LineFault.{LineFault}
use Rattle.text_faults.specs.declared.board_line.LineFault.TheVariants.{NoFirstLine}
use Rattle.board_statements.specs.Statements.{statement_of, first_line_of}
use Rattle.board_parser.specs.declared.draft.draft.Draft.{Draft}
use Rattle.board_parser.specs.draft.Steps.{◌>>=◌}
use Rattle.board_parser.specs.draft.Drafts.{first_draft}
use Rattle.board_parser.specs.draft.Add.{add}

-- the first line that has words is `pciboard 1` or `pciboard 2`; before it there is no draft
abbrev pub begin : Option Bool → Result (Option Draft) LineFault
begin None = Err NoFirstLine
begin (Some wide) = Ok (Some (first_draft wide))

-- each later line with words is a statement that is added to the draft
abbrev pub read_statement : Draft → List (List ℕ) → Result Draft LineFault
read_statement draft words = statement_of draft.wide words >>= add draft

-- the draft is there
abbrev pub some_of : Result Draft LineFault → Result (Option Draft) LineFault
some_of (Ok draft) = Ok (Some draft)
some_of (Err fault) = Err fault

-- the words of a line: of the first line of the text, or of a statement
abbrev pub read_words : Option Draft → List (List ℕ) → Result (Option Draft) LineFault
read_words None words = begin (first_line_of words)
read_words (Some draft) words = some_of (read_statement draft words)

-- a line without words is skipped
abbrev pub read_more : Option Draft → List (List ℕ) → Result (Option Draft) LineFault
read_more draft words = if nat_lt 0 (length words) then read_words draft words else Ok draft

-- a fault of the line itself comes before what its words say
abbrev pub read_unless : Option LineFault → Option Draft → List ℕ → Result (Option Draft) LineFault
read_unless None draft line = read_more draft (words_of line)
read_unless (Some fault) draft line = Err fault

-- the draft behind the line, or the first fault of the line
abbrev pub read_line : Option Draft → List ℕ → Result (Option Draft) LineFault
read_line draft line = read_unless (line_fault line) draft line
