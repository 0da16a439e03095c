-- The fault of a line whose words are too many or stand otherwise.
use Rattle.std.proofs.Common.{◌≡◌, ℕ, Bool, true, false, cond, eqb, List, length, Option, Some, None, Result, Err, refl, ap, ◌∙◌, arith}
use Rattle.std.specs.Prelude.{◌&&◌, is_some}
use Rattle.std.proofs.lemmas.Bool.Decides.{nat_tests}
use Rattle.board_model.specs.declared.board.Board.{Board}
use Rattle.trace_reader.specs.declared.lines.kind.EventWord.{EventWord}
use Rattle.trace_reader.specs.declared.lines.kind.EventWord.TheVariants.{Land, Part, Read, Accept, Latch, Take, Stall, Nobody, Abort, Arrive}
use Rattle.trace_reader.specs.declared.lines.line.TraceLine.{TraceLine}
use Rattle.text_faults.specs.declared.trace_line.TraceLineFault.{TraceLineFault}
use Rattle.text_faults.specs.declared.trace_line.TraceLineFault.TheVariants.{NoKind, Misshapen}
use Rattle.trace_reader.specs.lines.Events.{has_words_for, event_in}
use Rattle.trace_reader.specs.lines.Lines.{second_word, begins_end, is_regular, has_shape, end_line, happens, event_line_by, kind_by, pieces_line}

-- no line of a kind is without shape
no_line_of : (kind : EventWord) (pieces : List (List ℕ)) → has_shape pieces ≡ false → (is_regular pieces && has_words_for kind pieces) ≡ false
no_line_of Land pieces none = grind (arith, nat_tests)
no_line_of Part pieces none = grind (arith, nat_tests)
no_line_of Read pieces none = grind (arith, nat_tests)
no_line_of Accept pieces none = grind (arith, nat_tests)
no_line_of Latch pieces none = grind (arith, nat_tests)
no_line_of Take pieces none = grind (arith, nat_tests)
no_line_of Stall pieces none = grind (arith, nat_tests)
no_line_of Nobody pieces none = grind (arith, nat_tests)
no_line_of Abort pieces none = grind (arith, nat_tests)
no_line_of Arrive pieces none = grind (arith, nat_tests)

-- read so
abbrev pub fault_so : TraceLineFault → Result TraceLine TraceLineFault
fault_so fault = Err fault

-- nor is one that ends
pub end_misshapen : (board : Board) (pieces : List (List ℕ)) → has_shape pieces ≡ false → begins_end pieces ≡ true → pieces_line board pieces ≡ fault_so Misshapen
end_misshapen board pieces none ends =
    let short : (is_regular pieces && eqb (length pieces) 2) ≡ false = grind (arith, nat_tests) in
    rw (ends, short) refl

-- a kind
pub kind_misshapen : (board : Board) (pieces : List (List ℕ)) → has_shape pieces ≡ false → begins_end pieces ≡ false → is_some (kind_by (second_word pieces)) ≡ true → pieces_line board pieces ≡ fault_so Misshapen
kind_misshapen board pieces none goes some =
    let P : Option EventWord → Type 0 = λ found. is_some found ≡ true → event_line_by board pieces found ≡ fault_so Misshapen in
    let told : event_line_by board pieces (kind_by (second_word pieces)) ≡ fault_so Misshapen =
    (elim (kind_by (second_word pieces)) as P [
      | None ↦ λ absent. absurd cc
      | Some kind ↦ λ there. ap (λ (b : Bool). cond b (happens (event_in board kind pieces)) (fault_so Misshapen)) (no_line_of kind pieces none)
    ]) some in
    ap (λ (b : Bool). cond b (end_line pieces) (event_line_by board pieces (kind_by (second_word pieces)))) goes ∙ told

-- or none
pub kind_missing : (board : Board) (pieces : List (List ℕ)) → begins_end pieces ≡ false → is_some (kind_by (second_word pieces)) ≡ false → pieces_line board pieces ≡ fault_so NoKind
kind_missing board pieces goes some =
    let P : Option EventWord → Type 0 = λ found. is_some found ≡ false → event_line_by board pieces found ≡ fault_so NoKind in
    let told : event_line_by board pieces (kind_by (second_word pieces)) ≡ fault_so NoKind =
    (elim (kind_by (second_word pieces)) as P [
      | None ↦ λ absent. refl
      | Some kind ↦ λ there. absurd cc
    ]) some in
    ap (λ (b : Bool). cond b (end_line pieces) (event_line_by board pieces (kind_by (second_word pieces)))) goes ∙ told
