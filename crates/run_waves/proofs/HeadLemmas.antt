-- The declarations, bus by bus and signal by signal.
use Rattle.std.proofs.Common.{◌≡◌, ℕ, ◌+◌, true, false, List, [], ◌∷◌, ◌++◌, length, drop, refl, sym, ap, ◌∙◌, arith, append_assoc, append-nil}
use Rattle.std.specs.List.{filter, flat_map, range_with_len}
use Rattle.std.proofs.lemmas.List.{length-append}
use Rattle.board_model.specs.declared.board.Board.{Board}
use Rattle.board_model.specs.Valid.{is_bus}
use Rattle.board_printer.specs.Lines.{Line, line_text, text_of}
use Rattle.board_printer.proofs.LineLemmas.{text_of-append}
use Rattle.run_waves.specs.declared.signal.Signal.{Signal}
use Rattle.run_waves.specs.Signals.{signals_on}
use Rattle.run_waves.specs.Dump.{scope_lines, scopes}
use Rattle.run_waves.proofs.PassLemmas.{passing_one, passing_none}

-- the buses below a number
abbrev pub buses_to : Board → ℕ → List ℕ
buses_to board n = filter (is_bus board) (range_with_len 0 n)

scopes-append : (board : Board) (k : ℕ) (xs ys : List ℕ) → scopes board k (xs ++ ys) ≡ scopes board k xs ++ scopes board (k + length (flat_map (signals_on board) xs)) ys
scopes-append board k [] ys = ap (λ (n : ℕ). scopes board n ys) (omega arith)
scopes-append board k (x ∷ xs) ys =
    let on : List Signal = signals_on board x in
    let rest : List Signal = flat_map (signals_on board) xs in
    let numbers : (k + length on) + length rest ≡ k + length (on ++ rest) = omega (arith, length-append on rest) in
    ap (λ (l : List Line). scope_lines board k x ++ l) (scopes-append board (k + length on) xs ys ∙ ap (λ (n : ℕ). scopes board (k + length on) xs ++ scopes board n ys) numbers)
    ∙ sym (append_assoc (scope_lines board k x) (scopes board (k + length on) xs) (scopes board (k + length (on ++ rest)) ys))

-- a bus more
pub scope_one : (board : Board) (n : ℕ) (old text longer : List ℕ) (signals : List Signal) → is_bus board n ≡ true → signals ≡ flat_map (signals_on board) (buses_to board n)
    → text ≡ old ++ text_of (scopes board 0 (buses_to board n)) → longer ≡ text ++ text_of (scope_lines board (length signals) n) → longer ≡ old ++ text_of (scopes board 0 (buses_to board (n + 1)))
scope_one board n old text longer signals there signals_are so is =
    let front : List ℕ = buses_to board n in
    let lines : List Line = scope_lines board (length signals) n in
    let number : 0 + length (flat_map (signals_on board) front) ≡ length signals = omega (arith, ap (λ (l : List Signal). length l) signals_are) in
    let all : scopes board 0 (buses_to board (n + 1)) ≡ scopes board 0 front ++ lines =
    ap (scopes board 0) (passing_one (is_bus board) n there) ∙ scopes-append board 0 front (n ∷ [])
    ∙ ap (λ (k : ℕ). scopes board 0 front ++ (scope_lines board k n ++ [])) number ∙ ap (λ (l : List Line). scopes board 0 front ++ l) (append-nil lines) in
    is ∙ ap (λ (t : List ℕ). t ++ text_of lines) so ∙ append_assoc old (text_of (scopes board 0 front)) (text_of lines)
    ∙ ap (λ (t : List ℕ). old ++ t) (sym (ap text_of all ∙ text_of-append (scopes board 0 front) lines))

-- no bus
pub scope_none : (board : Board) (n : ℕ) (old text : List ℕ) → is_bus board n ≡ false
    → text ≡ old ++ text_of (scopes board 0 (buses_to board n)) → text ≡ old ++ text_of (scopes board 0 (buses_to board (n + 1)))
scope_none board n old text fails so = so ∙ ap (λ (l : List ℕ). old ++ text_of (scopes board 0 l)) (sym (passing_none (is_bus board) n fails))

-- the title of a bus, its signals and the end
pub scope_text : (title : Line) (vars : List Line) (last : Line) (old t1 t2 t3 : List ℕ) → t1 ≡ old ++ line_text title → t2 ≡ t1 ++ text_of vars → t3 ≡ t2 ++ line_text last
    → t3 ≡ old ++ text_of (title ∷ (vars ++ last ∷ []))
scope_text title vars last old t1 t2 t3 one two three =
    let end : List ℕ = line_text last in
    let behind : text_of (vars ++ last ∷ []) ≡ text_of vars ++ end = text_of-append vars (last ∷ []) ∙ ap (λ (t : List ℕ). text_of vars ++ t) (append-nil end) in
    three ∙ ap (λ (t : List ℕ). t ++ end) two ∙ append_assoc t1 (text_of vars) end ∙ ap (λ (t : List ℕ). t ++ (text_of vars ++ end)) one
    ∙ append_assoc old (line_text title) (text_of vars ++ end) ∙ ap (λ (t : List ℕ). old ++ (line_text title ++ t)) (sym behind)

-- two titles, and the end
pub head_text : (first second : Line) (lines : List Line) (last : Line) (old t1 t2 t3 t4 : List ℕ) → t1 ≡ old ++ line_text first → t2 ≡ t1 ++ line_text second → t3 ≡ t2 ++ text_of lines → t4 ≡ t3 ++ line_text last
    → t4 ≡ old ++ text_of (first ∷ second ∷ (lines ++ last ∷ []))
head_text first second lines last old t1 t2 t3 t4 one two three four =
    let rest : List ℕ = text_of (second ∷ (lines ++ last ∷ [])) in
    scope_text second lines last t1 t2 t3 t4 two three four ∙ ap (λ (t : List ℕ). t ++ rest) one ∙ append_assoc old (line_text first) rest

-- what stands behind the first signals
pub drop_front : (xs ys all : List Signal) (n : ℕ) → n ≡ length xs → all ≡ xs ++ ys → drop n all ≡ ys
drop_front xs ys all n is all_is = ap (λ (m : ℕ). drop m all) is ∙ ap (drop (length xs)) all_is ∙ front xs
  where
    front : (zs : List Signal) → drop (length zs) (zs ++ ys) ≡ ys
    front [] = refl
    front (z ∷ zs) = front zs
