-- The lines of a report, bus by bus.
use Rattle.std.proofs.Common.{◌≡◌, ℕ, ◌+◌, ◌<◌, zero, suc, Bool, true, false, cond, map, length, List, [], ◌∷◌, ◌++◌, refl, sym, ap, subst, ◌∙◌, arith, append_assoc, append-nil}
use Rattle.std.specs.List.{filter, range_with_len}
use Rattle.std.proofs.lemmas.List.{map-append}
use Rattle.std.proofs.lemmas.List.Elements.{filter-append}
use Rattle.std.proofs.lemmas.Grind.{flat_map-append}
use Rattle.board_model.specs.declared.board.Board.{Board}
use Rattle.board_model.specs.Valid.{is_bus}
use Rattle.board_printer.specs.Lines.{Line, line_text, text_of}
use Rattle.run_report.specs.declared.tallies.CountedKind.{CountedKind}
use Rattle.run_report.specs.declared.tallies.CountedKind.TheVariants.{Land, Read, Accept, Latch, Take, Stall, MasterAbort, TargetAbort, Arrive}
use Rattle.run_report.specs.declared.tallies.Tally.{Tally}
use Rattle.history_model.specs.declared.event.Event.{Event}
use Rattle.board_model.specs.Ways.{bound_of}
use Rattle.run_report.specs.Counts.{count_of}
use Rattle.run_report.specs.Tallies.{count_in, tally_at, IsTallied}
use Rattle.run_report.specs.Report.{operations_of, size_line, length_line, bus_line, buses_text, report_of}

range_more : (a n : ℕ) → range_with_len a (n + 1) ≡ range_with_len a n ++ (a + n) ∷ []
range_more a zero =
    let one : zero + 1 ≡ suc zero = omega arith in
    ap (range_with_len a) one ∙ ap (λ (m : ℕ). m ∷ []) (omega arith)
range_more a (suc n) =
    let more : suc n + 1 ≡ suc (n + 1) = omega arith in
    ap (range_with_len a) more ∙ ap (λ (l : List ℕ). a ∷ l) (range_more (a + 1) n ∙ ap (λ (m : ℕ). range_with_len (a + 1) n ++ m ∷ []) (omega arith))

-- the lines of the numbers that pass
abbrev pub lines_to : (ℕ → Bool) → (ℕ → Line) → ℕ → List ℕ
lines_to test line n = text_of (map line (filter test (range_with_len 0 n)))

-- one number more
lines_more : (test : ℕ → Bool) (line : ℕ → Line) (n : ℕ) → lines_to test line (n + 1) ≡ lines_to test line n ++ cond (test n) (line_text (line n)) []
lines_more test line n =
    let front : List ℕ = filter test (range_with_len 0 n) in
    let last : filter test (range_with_len 0 (n + 1)) ≡ front ++ filter test (n ∷ []) =
    ap (filter test) (range_more 0 n ∙ ap (λ (m : ℕ). range_with_len 0 n ++ m ∷ []) (omega arith)) ∙ filter-append test (range_with_len 0 n) (n ∷ []) in
    let P : Bool → Type 0 = λ b. text_of (map line (cond b (n ∷ []) [])) ≡ cond b (line_text (line n)) [] in
    let one : P (test n) = elim (test n) as P [ true ↦ append-nil (line_text (line n)) | false ↦ refl ] in
    ap (λ (l : List ℕ). text_of (map line l)) last
    ∙ ap text_of (map-append line front (filter test (n ∷ [])))
    ∙ flat_map-append line_text (map line front) (map line (filter test (n ∷ [])))
    ∙ ap (λ (l : List ℕ). lines_to test line n ++ l) one

-- a number that passes has its line behind those before it
pub lines_one : (test : ℕ → Bool) (line : ℕ → Line) (n : ℕ) (old text longer : List ℕ) → test n ≡ true → text ≡ old ++ lines_to test line n → longer ≡ text ++ line_text (line n) → longer ≡ old ++ lines_to test line (n + 1)
lines_one test line n old text longer passes so is =
    is
    ∙ ap (λ (t : List ℕ). t ++ line_text (line n)) so
    ∙ append_assoc old (lines_to test line n) (line_text (line n))
    ∙ ap (λ (t : List ℕ). old ++ t) (sym (lines_more test line n ∙ ap (λ (b : Bool). lines_to test line n ++ cond b (line_text (line n)) []) passes))

-- any other has none
pub lines_none : (test : ℕ → Bool) (line : ℕ → Line) (n : ℕ) (old text : List ℕ) → test n ≡ false → text ≡ old ++ lines_to test line n → text ≡ old ++ lines_to test line (n + 1)
lines_none test line n old text fails so =
    so ∙ ap (λ (t : List ℕ). old ++ t) (sym (lines_more test line n ∙ ap (λ (b : Bool). lines_to test line n ++ cond b (line_text (line n)) []) fails ∙ append-nil (lines_to test line n)))

-- a line is of its nine counts
line_same : (bus : ℕ) (c d : CountedKind → ℕ) → ((kind : CountedKind) → c kind ≡ d kind) → bus_line bus c ≡ bus_line bus d
line_same bus c d same = rw (same Land, same Read, same Accept, same Latch, same Take, same Stall, same MasterAbort, same TargetAbort, same Arrive) refl

map_same : (test : ℕ → Bool) (f g : ℕ → Line) (a n : ℕ) → ((bus : ℕ) → bus < a + n → f bus ≡ g bus) → map f (filter test (range_with_len a n)) ≡ map g (filter test (range_with_len a n))
map_same test f g a zero same = refl
map_same test f g a (suc n) same =
    let rest : map f (filter test (range_with_len (a + 1) n)) ≡ map g (filter test (range_with_len (a + 1) n)) = map_same test f g (a + 1) n (λ bus below. same bus (omega arith)) in
    let P : Bool → Type 0 = λ b. map f (cond b (a ∷ filter test (range_with_len (a + 1) n)) (filter test (range_with_len (a + 1) n))) ≡ map g (cond b (a ∷ filter test (range_with_len (a + 1) n)) (filter test (range_with_len (a + 1) n))) in
    elim (test a) as P [
      | true ↦ ap (λ (l : Line). l ∷ map f (filter test (range_with_len (a + 1) n))) (same a (omega arith)) ∙ ap (λ (ls : List Line). g a ∷ ls) rest
      | false ↦ rest
    ]

-- reports with the same counts are the same
pub buses_same : (board : Board) (c d : ℕ → CountedKind → ℕ) → ((bus : ℕ) (kind : CountedKind) → bus < 256 → c bus kind ≡ d bus kind) → buses_text board c ≡ buses_text board d
buses_same board c d same =
    ap text_of (map_same (is_bus board) (λ bus. bus_line bus (c bus)) (λ bus. bus_line bus (d bus)) 0 256 (λ bus below. line_same bus (c bus) (d bus) (λ kind. same bus kind (omega arith))))

-- its parts make the report of a history, where these are its numbers
pub report_parts : (given board : Board) (h : List Event) (buses masters operations events bound : ℕ) (tallies : List Tally) (old first second third : List ℕ) → given ≡ board
    → buses ≡ length given.bridges + 1 → masters ≡ length given.masters → operations ≡ operations_of given → events ≡ length h → bound ≡ bound_of board → IsTallied given h tallies
    → first ≡ old ++ line_text (size_line buses masters operations) → second ≡ first ++ line_text (length_line events bound) → third ≡ second ++ buses_text given (λ bus. count_in (tally_at tallies bus))
    → third ≡ old ++ report_of board h
report_parts given board h buses masters operations events bound tallies old first second third same buses_are masters_are operations_are events_are bound_is tallied one two three =
    let P : Board → Type 0 = λ b. third ≡ old ++ (line_text (size_line (length b.bridges + 1) (length b.masters) (operations_of b)) ++ (line_text (length_line (length h) (bound_of board)) ++ buses_text b (count_of b h))) in
    let size : List ℕ = line_text (size_line buses masters operations) in
    let long : List ℕ = line_text (length_line events bound) in
    let counts : List ℕ = buses_text given (λ bus. count_in (tally_at tallies bus)) in
    let joined : third ≡ old ++ (size ++ (long ++ counts)) =
    three ∙ ap (λ (t : List ℕ). t ++ counts) (two ∙ ap (λ (t : List ℕ). t ++ long) one)
    ∙ append_assoc (old ++ size) long counts ∙ append_assoc old size (long ++ counts) in
    let sizes : size ≡ line_text (size_line (length given.bridges + 1) (length given.masters) (operations_of given)) =
    ap (λ n. line_text (size_line n masters operations)) buses_are ∙ ap (λ n. line_text (size_line (length given.bridges + 1) n operations)) masters_are
    ∙ ap (λ n. line_text (size_line (length given.bridges + 1) (length given.masters) n)) operations_are in
    let longs : long ≡ line_text (length_line (length h) (bound_of board)) = ap (λ n. line_text (length_line n bound)) events_are ∙ ap (λ n. line_text (length_line (length h) n)) bound_is in
    let same_counts : counts ≡ buses_text given (count_of given h) = buses_same given (λ bus. count_in (tally_at tallies bus)) (count_of given h) (λ bus kind below. tallied.counts bus kind below) in
    subst P same (joined ∙ ap (λ (t : List ℕ). old ++ (t ++ (long ++ counts))) sizes
    ∙ ap (λ (t : List ℕ). old ++ (line_text (size_line (length given.bridges + 1) (length given.masters) (operations_of given)) ++ (t ++ counts))) longs
    ∙ ap (λ (t : List ℕ). old ++ (line_text (size_line (length given.bridges + 1) (length given.masters) (operations_of given)) ++ (line_text (length_line (length h) (bound_of board)) ++ t))) same_counts)
