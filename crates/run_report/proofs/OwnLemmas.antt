-- What one master's operations came to is told by those of its own.
use Rattle.std.proofs.Common.{◌≡◌, ℕ, Bool, true, false, cond, ◌==◌, ◌&&◌, List, [], ◌∷◌, ◌++◌, length, Option, Some, refl, sym, ap, ◌∙◌, find}
use Rattle.std.specs.List.{filter, flat_map, range_with_len}
use Rattle.board_model.specs.declared.agents.Master.{Master}
use Rattle.run_report.specs.declared.lapses.Lapsed.{Lapsed}
use Rattle.run_report.specs.Lapses.{is_by, is_of, lapse_line, program_lapses}

find_own : (place index : ℕ) (lapses : List Lapsed) → find (is_of place index) (filter (is_by place) lapses) ≡ find (is_of place index) lapses
find_own place index [] = refl
find_own place index (l ∷ rest) =
    let own : List Lapsed = filter (is_by place) rest in
    let before : find (is_of place index) own ≡ find (is_of place index) rest = find_own place index rest in
    let P : Bool → Type 0 = λ b. is_by place l ≡ b → find (is_of place index) (cond b (l ∷ own) own) ≡ cond (is_of place index l) (Some l) (find (is_of place index) rest) in
    (elim (is_by place l) as P [
      | true ↦ λ _. ap (λ (found : Option Lapsed). cond (is_of place index l) (Some l) found) before
      | false ↦ λ other. before ∙ sym (ap (λ (b : Bool). cond (b && l.op.index == index) (Some l) (find (is_of place index) rest)) other)
    ]) refl

flat_same : (f g : ℕ → List ℕ) (xs : List ℕ) → ((x : ℕ) → f x ≡ g x) → flat_map f xs ≡ flat_map g xs
flat_same f g [] same = refl
flat_same f g (x ∷ xs) same = ap (λ (l : List ℕ). l ++ flat_map f xs) (same x) ∙ ap (λ (l : List ℕ). g x ++ l) (flat_same f g xs same)

pub program_own : (lapses : List Lapsed) (place : ℕ) (master : Master) → program_lapses (filter (is_by place) lapses) place (Some master) ≡ program_lapses lapses place (Some master)
program_own lapses place master =
    flat_same (λ index. lapse_line master.name index (find (is_of place index) (filter (is_by place) lapses))) (λ index. lapse_line master.name index (find (is_of place index) lapses))
    (range_with_len 0 (length master.ops)) (λ index. ap (lapse_line master.name index) (find_own place index lapses))
