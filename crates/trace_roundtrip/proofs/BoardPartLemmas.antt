-- The board of a trace text stands before the line `events`.
use Rattle.std.proofs.Common.{◌≡◌, ℕ, ◌+◌, Bool, true, false, cond, List, [], ◌∷◌, ◌++◌, Option, Some, None, Result, Ok, Err, refl, sym, ap, ◌∙◌}
use Rattle.std.specs.Prelude.{codes}
use Rattle.std.specs.Str.{bytes_eq}
use Rattle.std.proofs.lemmas.Slice.Eq.{bytes_eq-Decides}
use Rattle.board_model.specs.declared.board.Board.{Board}
use Rattle.text_faults.specs.declared.board_line.LineFault.{LineFault}
use Rattle.text_faults.specs.declared.board_line.LineFault.TheVariants.{NoFirstLine, WrongWord}
use Rattle.board_statements.specs.Keywords.{line_form}
use Rattle.board_statements.specs.Statements.{statement_form, statement_of, first_line_of}
use Rattle.board_parser.specs.declared.draft.draft.Draft.{Draft}
use Rattle.board_parser.specs.OneLine.{read_line}
use Rattle.board_parser.specs.Boards.{then_lines, read_lines, ended}
use Rattle.trace_reader.specs.Traces.{with_before, until_events}

-- `events` is not the first line of a board text
not_first : read_line None (codes "events") ≡ Err NoFirstLine
unfolding first_line_of
not_first = refl

-- nor a later one
not_later : (draft : Draft) → read_line (Some draft) (codes "events") ≡ Err WrongWord
unfolding statement_of statement_form line_form
not_later draft = refl

-- so it is no line of a text that is read as a board
not_events : (draft next : Option Draft) → read_line draft (codes "events") ≡ Ok next → ⊥
not_events None next read = let fault = sym not_first ∙ read in absurd (cc)
not_events (Some draft) next read = let fault = sym (not_later draft) ∙ read in absurd (cc)

-- the parts of lines that are read as those of a board, the line `events`, and the lines behind it
pub parts_of : (draft last : Option Draft) (number : ℕ) (lines behind : List (List ℕ)) → read_lines draft number lines ≡ Ok last → until_events (lines ++ codes "events" ∷ behind) ≡ Some (lines, behind)
parts_of draft last number [] behind read = refl
parts_of draft last number (line ∷ lines) behind read =
    let P : Result (Option Draft) LineFault → Type 0 = λ r. read_line draft line ≡ r → then_lines number r (λ next. read_lines next (number + 1) lines) ≡ Ok last → until_events (line ∷ lines ++ codes "events" ∷ behind) ≡ Some (line ∷ lines, behind) in
    (elim (read_line draft line) as P [
      | Ok next ↦ λ here later.
          let rest = parts_of next last (number + 1) lines behind later in
          let Q : Bool → Type 0 = λ b. bytes_eq line (codes "events") ≡ b → cond b (Some ([], lines ++ codes "events" ∷ behind)) (with_before line (until_events (lines ++ codes "events" ∷ behind))) ≡ Some (line ∷ lines, behind) in
          (elim (bytes_eq line (codes "events")) as Q [
            | true ↦ λ same.
                let is : line ≡ codes "events" = (bytes_eq-Decides line (codes "events")).0 same in
                absurd (not_events draft next (ap (read_line draft) (sym is) ∙ here))
            | false ↦ λ other. ap (with_before line) rest
          ]) refl
      | Err fault ↦ λ here later. absurd (cc)
    ]) refl read

-- what reads as a board reads as a draft
pub draft_of : (reading : Result (Option Draft) (ℕ × LineFault)) (board : Board) → ended reading ≡ Ok board → (draft : Draft) × (reading ≡ Ok (Some draft))
draft_of (Ok None) board is = absurd (cc)
draft_of (Ok (Some draft)) board is = (draft, refl)
draft_of (Err fault) board is = absurd (cc)
