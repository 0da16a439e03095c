-- A trace text with comments behind the first line of its board is read as before.
use Rattle.std.proofs.Common.{◌≡◌, ℕ, ◌+◌, ◌-◌, ◌<◌, ◌≤◌, Bool, true, false, cond, eqb, List, [], ◌∷◌, ◌++◌, append_assoc, length, take, drop, Option, Some, None, Result, Ok, Err, codes, inl, inr, refl, sym, ap, subst, ◌∙◌, arith}
use Rattle.std.specs.List.{AllByRecursion, slice_range}
use Rattle.std.specs.Str.{bytes_eq}
use Rattle.std.proofs.lemmas.Bool.{cases_lt, false≢true}
use Rattle.std.proofs.lemmas.List.{take_all, take-append-drop}
use Rattle.std.proofs.lemmas.Slice.Eq.{bytes_eq-Decides}
use Rattle.board_model.specs.declared.board.Board.{Board}
use Rattle.history_model.specs.declared.event.Event.{Event}
use Rattle.text_faults.specs.declared.board_line.LineFault.{LineFault}
use Rattle.text_faults.specs.declared.trace_line.TraceLineFault.{TraceLineFault}
use Rattle.text_faults.specs.declared.trace_line.TraceLineFault.TheVariants.{WrongCount, NoFirstLine}
use Rattle.board_text.specs.Lines.{lines_of}
use Rattle.board_text.specs.Tokens.{is_comment, words_of}
use Rattle.board_parser.specs.declared.draft.draft.Draft.{Draft}
use Rattle.board_parser.specs.OneLine.{read_more, read_unless, read_line}
use Rattle.board_parser.specs.Boards.{then_lines, read_lines, ended}
use Rattle.board_roundtrip.specs.Cuts.{IsWholeTo}
use Rattle.board_roundtrip.proofs.CutLemmas.{IsWhole, one_line_more}
use Rattle.trace_reader.specs.declared.fault.TraceFault.{TraceFault}
use Rattle.trace_reader.specs.declared.fault.TraceFault.TheVariants.{Trace}
use Rattle.trace_reader.specs.declared.lines.line.TraceLine.{TraceLine}
use Rattle.trace_reader.specs.declared.lines.line.TraceLine.TheVariants.{Happens, Ends}
use Rattle.trace_reader.specs.lines.Lines.{line_of}
use Rattle.trace_reader.specs.Traces.{nothing_behind, at_end, events_by, events_read, with_before, until_events, with_events, by_board, by_parts, by_first, trace_read}
use Rattle.trace_roundtrip.proofs.BoardPartLemmas.{draft_of}
use Rattle.trace_roundtrip.specs.Comments.{begins_comment, IsCommentLine, AreComments, IsBehindTwo, CommentsTo}

-- A comment is skipped.

no_words : (byte : ℕ) (bytes : List ℕ) → is_comment byte ≡ true → words_of (byte ∷ bytes) ≡ []
no_words byte bytes is = rw is refl

skipped : (draft : Option Draft) (line : List ℕ) → IsCommentLine line → read_line draft line ≡ Ok draft
skipped draft [] is = absurd (false≢true is.begins)
skipped draft (byte ∷ bytes) is =
    ap (λ (fault : Option LineFault). read_unless fault draft (byte ∷ bytes)) is.allowed
    ∙ ap (read_more draft) (no_words byte bytes is.begins)

not_events : (line : List ℕ) → IsCommentLine line → bytes_eq line (codes "events") ≡ false
not_events line is =
    let P : Bool → Type 0 = λ b. bytes_eq line (codes "events") ≡ b → b ≡ false in
    (elim (bytes_eq line (codes "events")) as P [
      | true ↦ λ same.
          let here : line ≡ codes "events" = (bytes_eq-Decides line (codes "events")).0 same in
          let begins : begins_comment (codes "events") ≡ true = ap begins_comment (sym here) ∙ is.begins in
          absurd (false≢true begins)
      | false ↦ λ other. refl
    ]) refl

-- what lines are read as
abbrev draft_so : Option Draft → Result (Option Draft) (ℕ × LineFault)
draft_so draft = Ok draft

-- it does not go by their numbers
any_number : (draft last : Option Draft) (m n : ℕ) (lines : List (List ℕ)) → read_lines draft m lines ≡ draft_so last → read_lines draft n lines ≡ draft_so last
any_number draft last m n [] is = is
any_number draft last m n (line ∷ lines) is =
    let P : Result (Option Draft) LineFault → Type 0 = λ r. then_lines m r (λ next. read_lines next (m + 1) lines) ≡ draft_so last → then_lines n r (λ next. read_lines next (n + 1) lines) ≡ draft_so last in
    (elim (read_line draft line) as P [
      | Ok next ↦ λ here. any_number next last (m + 1) (n + 1) lines here
      | Err fault ↦ λ here. absurd (cc)
    ]) is

-- nor by comments before them
behind_comments : (draft last : Option Draft) (m n : ℕ) (said lines : List (List ℕ)) → AllByRecursion IsCommentLine said → read_lines draft m lines ≡ draft_so last → read_lines draft n (said ++ lines) ≡ draft_so last
behind_comments draft last m n [] lines comments is = any_number draft last m n lines is
behind_comments draft last m n (line ∷ said) lines comments is =
    ap (λ (r : Result (Option Draft) LineFault). then_lines n r (λ next. read_lines next (n + 1) (said ++ lines))) (skipped draft line comments.0)
    ∙ behind_comments draft last m (n + 1) said lines comments.1 is

-- nor by comments behind the first
board_lines : (last : Option Draft) (number : ℕ) (second : List ℕ) (said rest : List (List ℕ)) → AllByRecursion IsCommentLine said → read_lines None number (second ∷ rest) ≡ draft_so last → read_lines None number (second ∷ (said ++ rest)) ≡ draft_so last
board_lines last number second said rest comments is =
    let P : Result (Option Draft) LineFault → Type 0 = λ r. then_lines number r (λ next. read_lines next (number + 1) rest) ≡ draft_so last → then_lines number r (λ next. read_lines next (number + 1) (said ++ rest)) ≡ draft_so last in
    (elim (read_line None second) as P [
      | Ok next ↦ λ here. behind_comments next last (number + 1) (number + 1) said rest comments here
      | Err fault ↦ λ here. absurd (cc)
    ]) is

-- what lines are read as a board are with comments read as that board
board_again : (board : Board) (second : List ℕ) (said rest : List (List ℕ)) → AllByRecursion IsCommentLine said → ended (read_lines None 1 (second ∷ rest)) ≡ Ok board → ended (read_lines None 1 (second ∷ (said ++ rest))) ≡ Ok board
board_again board second said rest comments is =
    let it = draft_of (read_lines None 1 (second ∷ rest)) board is in
    let again = board_lines (Some it.0) 1 second said rest comments it.1 in
    ap ended again ∙ sym (ap ended it.1) ∙ is

-- The line `events` stands behind comments as before.

abbrev Parts : Type 0
Parts = List (List ℕ) × List (List ℕ)

until_again : (said lines : List (List ℕ)) (parts : Parts) → AllByRecursion IsCommentLine said → until_events lines ≡ Some parts → until_events (said ++ lines) ≡ Some (said ++ parts.0, parts.1)
until_again [] lines parts comments is = is
until_again (line ∷ said) lines parts comments is =
    ap (λ (b : Bool). cond b (Some ([], said ++ lines)) (with_before line (until_events (said ++ lines)))) (not_events line comments.0)
    ∙ ap (with_before line) (until_again said lines parts comments.1 is)

-- What events lines are read as does not go by their numbers.

abbrev events_so : List Event → Result (List Event) TraceFault
events_so events = Ok events

nothing_again : (m n : ℕ) (events all : List Event) (lines : List (List ℕ)) → nothing_behind m events lines ≡ events_so all → nothing_behind n events lines ≡ events_so all
nothing_again m n events all [] is = is
nothing_again m n events all (line ∷ lines) is = absurd (cc)

end_again : (m n count : ℕ) (events all : List Event) (lines : List (List ℕ)) → at_end m events count lines ≡ events_so all → at_end n events count lines ≡ events_so all
end_again m n count events all lines is =
    let P : Bool → Type 0 = λ b. cond b (nothing_behind (m + 1) events lines) (Err (Trace m WrongCount)) ≡ events_so all → cond b (nothing_behind (n + 1) events lines) (Err (Trace n WrongCount)) ≡ events_so all in
    (elim (eqb count (length events)) as P [
      | true ↦ λ here. nothing_again (m + 1) (n + 1) events all lines here
      | false ↦ λ here. absurd (cc)
    ]) is

line_again : (one other : List Event → Result (List Event) TraceFault) (m n : ℕ) (before all : List Event) (lines : List (List ℕ)) (line : Result TraceLine TraceLineFault)
    → ((more : List Event) → one more ≡ events_so all → other more ≡ events_so all)
    → events_by one m before lines line ≡ events_so all → events_by other n before lines line ≡ events_so all
line_again one other m n before all lines (Ok (Happens event)) later is = later (before ++ event ∷ []) is
line_again one other m n before all lines (Ok (Ends count)) later is = end_again m n count before all lines is
line_again one other m n before all lines (Err fault) later is = absurd (cc)

events_again : (board : Board) (m n : ℕ) (before all : List Event) (lines : List (List ℕ)) → events_read board m before lines ≡ events_so all → events_read board n before lines ≡ events_so all
events_again board m n before all [] is = absurd (cc)
events_again board m n before all (line ∷ lines) is =
    line_again (λ more. events_read board (m + 1) more lines) (λ more. events_read board (n + 1) more lines) m n before all lines (line_of board line)
    (λ more here. events_again board (m + 1) (n + 1) more all lines here) is

-- The whole text.

abbrev pair_so : Board × List Event → Result (Board × List Event) TraceFault
pair_so pair = Ok pair

with_again : (board : Board) (one other : Result (List Event) TraceFault) (pair : Board × List Event) → ((all : List Event) → one ≡ events_so all → other ≡ events_so all) → with_events board one ≡ pair_so pair → with_events board other ≡ pair_so pair
with_again board (Ok all) other pair same is = ap (with_events board) (same all refl) ∙ is
with_again board (Err fault) other pair same is = absurd (cc)

by_board_again : (m n : ℕ) (behind : List (List ℕ)) (one other : Result Board (ℕ × LineFault)) (pair : Board × List Event) → ((board : Board) → one ≡ Ok board → other ≡ Ok board) → by_board m behind one ≡ pair_so pair → by_board n behind other ≡ pair_so pair
by_board_again m n behind (Ok board) other pair same is =
    ap (by_board n behind) (same board refl)
    ∙ with_again board (events_read board m [] behind) (events_read board n [] behind) pair (λ all here. events_again board m n [] all behind here) is
by_board_again m n behind (Err fault) other pair same is = absurd (cc)

parts_again : (past later : ℕ) (second : List ℕ) (said rest : List (List ℕ)) (pair : Board × List Event) (parts : Option Parts) → AllByRecursion IsCommentLine said → until_events rest ≡ parts
    → by_parts past (with_before second parts) ≡ pair_so pair → by_parts later (with_before second (until_events (said ++ rest))) ≡ pair_so pair
parts_again past later second said rest pair None comments found is = absurd (cc)
parts_again past later second said rest pair (Some parts) comments found is =
    ap (λ (p : Option Parts). by_parts later (with_before second p)) (until_again said rest parts comments found)
    ∙ by_board_again (length (second ∷ parts.0) + 3) (length (second ∷ (said ++ parts.0)) + 3) parts.1
    (ended (read_lines None 1 (second ∷ parts.0))) (ended (read_lines None 1 (second ∷ (said ++ parts.0)))) pair
    (λ board here. board_again board second said parts.0 comments here) is

behind_first : (past later : ℕ) (second : List ℕ) (said rest : List (List ℕ)) (pair : Board × List Event) → AllByRecursion IsCommentLine said
    → by_parts past (until_events (second ∷ rest)) ≡ pair_so pair → by_parts later (until_events (second ∷ (said ++ rest))) ≡ pair_so pair
behind_first past later second said rest pair comments is =
    let P : Bool → Type 0 = λ b. by_parts past (cond b (Some ([], rest)) (with_before second (until_events rest))) ≡ pair_so pair → by_parts later (cond b (Some ([], said ++ rest)) (with_before second (until_events (said ++ rest)))) ≡ pair_so pair in
    (elim (bytes_eq second (codes "events")) as P [
      | true ↦ λ here. absurd (cc)
      | false ↦ λ here. parts_again past later second said rest pair (until_events rest) comments refl here
    ]) is

lines_again : (first second : List ℕ) (said rest : List (List ℕ)) (pair : Board × List Event) → AllByRecursion IsCommentLine said
    → by_first (first ∷ second ∷ rest) ≡ pair_so pair → by_first (first ∷ second ∷ (said ++ rest)) ≡ pair_so pair
lines_again first second said rest pair comments is =
    let past = length (second ∷ rest) + 2 in
    let later = length (second ∷ (said ++ rest)) + 2 in
    let P : Bool → Type 0 = λ b. cond b (by_parts past (until_events (second ∷ rest))) (Err (Trace 1 NoFirstLine)) ≡ pair_so pair → cond b (by_parts later (until_events (second ∷ (said ++ rest)))) (Err (Trace 1 NoFirstLine)) ≡ pair_so pair in
    (elim (bytes_eq first (codes "pcitrace 1")) as P [
      | true ↦ λ here. behind_first past later second said rest pair comments here
      | false ↦ λ here. absurd (cc)
    ]) is

-- the front of a text up to behind its first two lines
front_is : (text : List ℕ) (place : ℕ) → slice_range text 0 place ≡ take place text
front_is text place = let size : place - 0 ≡ place = omega arith in ap (λ (n : ℕ). take n text) size

-- a trace text with comments behind its first two lines
pub commented : (text said whole : List ℕ) (place : ℕ) (board : Board) (events : List Event) → IsBehindTwo text place → AreComments said
    → whole ≡ take place text ++ (said ++ drop place text) → trace_read text ≡ Ok (board, events) → trace_read whole ≡ Ok (board, events)
commented text said whole place board events two comments is read =
    let front = take place text in
    let rest = drop place text in
    let same = front_is text place in
    let cuts : IsWhole front = subst IsWhole same (two.whole two.within) in
    let lines : lines_of front ≡ two.first ∷ two.second ∷ [] = ap lines_of (sym same) ∙ two.lines in
    let before : lines_of text ≡ two.first ∷ two.second ∷ lines_of rest =
    ap lines_of (sym (take-append-drop place text)) ∙ cuts rest ∙ ap (λ (l : List (List ℕ)). l ++ lines_of rest) lines in
    let after : lines_of whole ≡ two.first ∷ two.second ∷ (lines_of said ++ lines_of rest) =
    ap lines_of is ∙ cuts (said ++ rest) ∙ ap (λ (l : List (List ℕ)). l ++ lines_of (said ++ rest)) lines
    ∙ ap (λ (l : List (List ℕ)). two.first ∷ two.second ∷ l) (comments.whole rest) in
    ap by_first after ∙ lines_again two.first two.second (lines_of said) (lines_of rest) (board, events) comments.lines (ap by_first (sym before) ∙ read)

-- Where lines end.

inside_of : (text : List ℕ) (at : ℕ) → (length text ≤ at → ⊥) → at < length text
inside_of text at some = elim (cases_lt at (length text)) [
  | inl less ↦ less
  | inr most ↦ absurd (some most)
]

whole_at_start : (text : List ℕ) → IsWholeTo text 0 0
whole_at_start text = λ within more. refl

-- two lines of a text, one behind the other
pub two_lines : (text first second : List ℕ) (next place : ℕ) → (length text ≤ 0 → ⊥) → lines_of (drop 0 text) ≡ first ∷ lines_of (drop next text) → next ≡ 0 + length first + 1
    → (length text ≤ next → ⊥) → lines_of (drop next text) ≡ second ∷ lines_of (drop place text) → place ≡ next + length second + 1 → place ≤ length text → IsBehindTwo text place
two_lines text first second next place some first_is next_is more second_is place_is within =
    let one = one_line_more text first 0 0 next (omega arith) (inside_of text 0 some) (whole_at_start text) first_is next_is in
    let two = one_line_more text second 0 next place (omega arith) (inside_of text next more) one.1 second_is place_is in
    record {
      within = within;
      first = first;
      second = second;
      lines = two.0 ∙ ap (λ (l : List (List ℕ)). l ++ second ∷ []) one.0;
      whole = two.1;
    }

-- lines of comments so far
pub comments_none : (text : List ℕ) → CommentsTo text 0
comments_none text = record { within = omega arith; lines = tt; whole = whole_at_start text }

one_comment_more : (lines : List (List ℕ)) (line : List ℕ) → AllByRecursion IsCommentLine lines → IsCommentLine line → AllByRecursion IsCommentLine (lines ++ line ∷ [])
one_comment_more [] line all is = (is, tt)
one_comment_more (first ∷ lines) line all is = (all.0, one_comment_more lines line all.1 is)

pub comments_more : (text line : List ℕ) (at next : ℕ) → (length text ≤ at → ⊥) → lines_of (drop at text) ≡ line ∷ lines_of (drop next text) → next ≡ at + length line + 1 → next ≤ length text
    → IsCommentLine line → CommentsTo text at → CommentsTo text next
comments_more text line at next some line_is next_is within comment old =
    let more = one_line_more text line 0 at next (omega arith) (inside_of text at some) old.whole line_is next_is in
    record {
      within = within;
      lines = subst (AllByRecursion IsCommentLine) (sym more.0) (one_comment_more (lines_of (slice_range text 0 at)) line old.lines comment);
      whole = more.1;
    }

pub comments_all : (text : List ℕ) (at : ℕ) → length text ≤ at → CommentsTo text at → AreComments text
comments_all text at most old =
    let same : slice_range text 0 at ≡ text = front_is text at ∙ take_all at text most in
    record {
      lines = subst (λ (t : List ℕ). AllByRecursion IsCommentLine (lines_of t)) same old.lines;
      whole = subst IsWhole same (old.whole old.within);
    }
