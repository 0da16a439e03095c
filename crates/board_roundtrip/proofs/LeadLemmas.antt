-- What printed lines lead to: reading them in a draft of one kind gives a draft of another.
use Rattle.std.proofs.Common.{◌≡◌, ℕ, ◌+◌, Bool, true, false, cond, ltb, List, [], ◌∷◌, ◌++◌, append_assoc, length, map, Option, Some, None, Result, Ok, refl, sym, ap, subst, ◌∙◌, arith}
use Rattle.std.specs.List.{flat_map}
use Rattle.std.proofs.lemmas.Bool.{lt-ltb}
use Rattle.std.proofs.lemmas.List.{append-nil}
use Rattle.std.proofs.lemmas.List.Concat.{flat_map-append}
use Rattle.board_text.specs.Lines.{is_line_of, line_fault, lines_of}
use Rattle.board_text.specs.Tokens.{words_of}
use Rattle.board_text.proofs.AllowedLemmas.{no_newline}
use Rattle.board_printer.specs.Lines.{Line, line_text, text_of}
use Rattle.board_roundtrip.specs.words.Printed.{joined}
use Rattle.text_faults.specs.declared.board_line.LineFault.{LineFault}
use Rattle.text_faults.specs.declared.board_line.LineFault.TheVariants.{TooLong, BadByte}
use Rattle.board_statements.specs.declared.statement.Statement.{Statement}
use Rattle.board_statements.specs.Statements.{statement_form, statement_of}
use Rattle.board_roundtrip.specs.lines.ReadsAs.{IsReadAs}
use Rattle.board_parser.specs.declared.draft.draft.Draft.{Draft}
use Rattle.board_parser.specs.draft.Steps.{◌>>=◌}
use Rattle.board_parser.specs.draft.Add.{add}
use Rattle.board_parser.specs.OneLine.{some_of, read_words, read_more, read_unless, read_line}
use Rattle.board_parser.specs.Boards.{then_lines, read_lines}
use Rattle.board_roundtrip.proofs.words.Laws.{line_is, split_line, ends_behind}

-- the reading goes on with the text in a draft of this kind
pub record Arrives (Q : Draft → Type 0) (reading : Result (Option Draft) (ℕ × LineFault)) (text : List ℕ) : Type 0 where
  pub number : ℕ
  pub draft : Draft
  pub holds : Q draft
  pub is : reading ≡ read_lines (Some draft) number (lines_of text)

abbrev pub Leads : (Draft → Type 0) → List Line → (Draft → Type 0) → Type 0
Leads P lines Q = (draft : Draft) → P draft → (number : ℕ) (text : List ℕ) → Arrives Q (read_lines (Some draft) number (lines_of (text_of lines ++ text))) text

pub leads-none : (P : Draft → Type 0) → Leads P [] P
leads-none P draft holds number text = record { number = number; draft = draft; holds = holds; is = refl }

pub leads-append : (P Q R : Draft → Type 0) (xs ys : List Line) → Leads P xs Q → Leads Q ys R → Leads P (xs ++ ys) R
leads-append P Q R xs ys first second draft holds number text =
    let one = first draft holds number (text_of ys ++ text) in
    let two = second one.draft one.holds one.number text in
    let whole : text_of (xs ++ ys) ++ text ≡ text_of xs ++ (text_of ys ++ text) =
    ap (λ (t : List ℕ). t ++ text) (flat_map-append line_text xs ys) ∙ append_assoc (text_of xs) (text_of ys) text in
    record {
      number = two.number;
      draft = two.draft;
      holds = two.holds;
      is = ap (λ (t : List ℕ). read_lines (Some draft) number (lines_of t)) whole ∙ one.is ∙ two.is;
    }

pub leads-to : (P Q R : Draft → Type 0) (lines : List Line) → Leads P lines Q → ((draft : Draft) → Q draft → R draft) → Leads P lines R
leads-to P Q R lines leads weaker draft holds number text =
    let there = leads draft holds number text in
    record { number = there.number; draft = there.draft; holds = weaker there.draft there.holds; is = there.is }

pub leads-from : (O P Q : Draft → Type 0) (lines : List Line) → ((draft : Draft) → O draft → P draft) → Leads P lines Q → Leads O lines Q
leads-from O P Q lines weaker leads draft holds number text = leads draft (weaker draft holds) number text

-- Lists: from a draft of what stands before an element to one with the element.

abbrev pub Steps : {X : Type 0} → (X → List Line) → (List X → Draft → Type 0) → List X → Type 0
Steps {X} lines P all = (done : List X) (x : X) (rest : List X) → done ++ x ∷ rest ≡ all → Leads (P done) (lines x) (P (done ++ x ∷ []))

each_from : {X : Type 0} (lines : X → List Line) (P : List X → Draft → Type 0) (all : List X) → Steps lines P all → (done rest : List X) → done ++ rest ≡ all → Leads (P done) (flat_map lines rest) (P all)
each_from lines P all step done [] is =
    let same : done ≡ all = sym (append-nil done) ∙ is in
    leads-to (P done) (P done) (P all) [] (leads-none (P done)) (λ draft holds. subst (λ xs. P xs draft) same holds)
each_from lines P all step done (x ∷ rest) is =
    leads-append (P done) (P (done ++ x ∷ [])) (P all) (lines x) (flat_map lines rest) (step done x rest is)
    (each_from lines P all step (done ++ x ∷ []) rest (append_assoc done (x ∷ []) rest ∙ is))

pub leads-each : {X : Type 0} (lines : X → List Line) (P : List X → Draft → Type 0) (all : List X) → Steps lines P all → Leads (P []) (flat_map lines all) (P all)
leads-each lines P all step = each_from lines P all step [] all refl

map_is_flat : {X : Type 0} (line : X → Line) (xs : List X) → flat_map (λ x. line x ∷ []) xs ≡ map line xs
map_is_flat line [] = refl
map_is_flat line (x ∷ xs) = ap (λ (lines : List Line). line x ∷ lines) (map_is_flat line xs)

pub leads-map : {X : Type 0} (line : X → Line) (P : List X → Draft → Type 0) (all : List X) → Steps (λ x. line x ∷ []) P all → Leads (P []) (map line all) (P all)
leads-map line P all step = subst (λ (lines : List Line). Leads (P []) lines (P all)) (map_is_flat line all) (leads-each (λ x. line x ∷ []) P all step)

-- One line.

-- the draft takes the statement
pub record Adds (wide : Bool) (draft : Draft) (statement : Statement) (Q : Draft → Type 0) : Type 0 where
  pub next : Draft
  pub width : draft.wide ≡ wide
  pub is : add draft statement ≡ Ok next
  pub holds : Q next

has_words : (wide : Bool) (words : Line) (statement : Statement) → statement_of wide words ≡ Ok statement → ltb 0 (length words) ≡ true
unfolding statement_of statement_form
has_words wide [] statement h = absurd (cc)
has_words wide (word ∷ words) statement h = lt-ltb _ _ (omega arith)

fault_cases : (long allowed : Bool) (one other : LineFault) → cond long (Some one) (cond allowed None (Some other)) ≡ None → allowed ≡ true
fault_cases true allowed one other h = absurd (cc)
fault_cases false true one other h = refl
fault_cases false false one other h = absurd (cc)

first_line_of_text : (line : Line) (text : List ℕ) → line_fault (joined line) ≡ None → lines_of (line_text line ++ text) ≡ joined line ∷ lines_of text
first_line_of_text line text none =
    let plain = no_newline (joined line) (fault_cases (ltb 256 (length (joined line))) (is_line_of (joined line)) TooLong BadByte none) in
    let whole : line_text line ++ text ≡ joined line ++ 10 ∷ text = ap (λ (t : List ℕ). t ++ text) (line_is line) ∙ append_assoc (joined line) (10 ∷ []) text in
    let split = split_line (joined line) text plain in
    let ends = ends_behind (joined line) text in
    cc

pub behind_first : (line : Line) (lines : List Line) (text : List ℕ) → line_fault (joined line) ≡ None → lines_of (text_of (line ∷ lines) ++ text) ≡ joined line ∷ lines_of (text_of lines ++ text)
behind_first line lines text none =
    ap lines_of (append_assoc (line_text line) (text_of lines) text) ∙ first_line_of_text line (text_of lines ++ text) none

line_read : (wide : Bool) (bytes : List ℕ) (statement : Statement) (draft next : Draft) → line_fault bytes ≡ None → statement_of wide (words_of bytes) ≡ Ok statement → draft.wide ≡ wide → add draft statement ≡ Ok next → read_line (Some draft) bytes ≡ Ok (Some next)
line_read wide bytes statement draft next none read width is =
    let words = words_of bytes in
    let some = has_words wide words statement read in
    let stated : statement_of draft.wide words ≡ Ok statement = ap (λ (w : Bool). statement_of w words) width ∙ read in
    let one : read_line (Some draft) bytes ≡ read_more (Some draft) words = ap (λ (fault : Option LineFault). read_unless fault (Some draft) bytes) none in
    let two : read_more (Some draft) words ≡ read_words (Some draft) words = ap (λ (b : Bool). cond b (read_words (Some draft) words) (Ok (Some draft))) some in
    let three : read_words (Some draft) words ≡ some_of (add draft statement) = ap (λ (s : Result Statement LineFault). some_of (s >>= add draft)) stated in
    one ∙ two ∙ three ∙ ap some_of is

pub leads-line : (wide : Bool) (line : Line) (statement : Statement) (P Q : Draft → Type 0) → IsReadAs wide line statement → ((draft : Draft) → P draft → Adds wide draft statement Q) → Leads P (line ∷ []) Q
leads-line wide line statement P Q reads adds draft holds number text =
    let added = adds draft holds in
    let none = reads.allowed (joined line) (line_is line) in
    let read = line_read wide (joined line) statement draft added.next none (reads.text (joined line) (line_is line)) added.width added.is in
    record {
      number = number + 1;
      draft = added.next;
      holds = added.holds;
      is = ap (read_lines (Some draft) number) (behind_first line [] text none)
          ∙ ap (λ (r : Result (Option Draft) LineFault). then_lines number r (λ next. read_lines next (number + 1) (lines_of text))) read;
    }
