-- One word and one round less to draw.
use Rattle.std.proofs.Common.{◌≡◌, ℕ, ◌+◌, ◌-◌, ◌<◌, ◌≤◌, suc, List, [], ◌∷◌, ◌++◌, length, sym, ap, ◌∙◌, arith, append_assoc, length-append}
use Rattle.std.proofs.lemmas.List.{append-nil}
use Rattle.board_model.specs.declared.op.Op.{Op}
use Rattle.pci_command.specs.declared.phases.Phase.{Phase}
use Rattle.traffic_generator.specs.Draws.{drawn, word, words, words_drawn}
use Rattle.traffic_generator.specs.Generated.{round, round_drawn, program, program_drawn}

left : (count place : ℕ) → place < count → count - place ≡ suc (count - (place + 1))
left count place before = omega (arith, before)

pub longer : (phases more : List Phase) (phase : Phase) (place : ℕ) → more ≡ phases ++ phase ∷ [] → length phases ≡ place → length more ≡ place + 1
longer phases more phase place is long =
    let e : length more ≡ length phases + 1 = ap length is ∙ length-append phases (phase ∷ []) in omega (arith, e, long)

abbrev phase_of : ℕ → Phase
phase_of value = record { value = value; enables = 15 }

-- the words so far and those that are still to be drawn stay the whole
pub words_kept : (phases more whole : List Phase) (count place value state next : ℕ) → place < count → more ≡ phases ++ record { value = value; enables = 15 } ∷ [] → value ≡ word state → next ≡ drawn (drawn state)
    → phases ++ words (count - place) state ≡ whole → more ++ words (count - (place + 1)) next ≡ whole
words_kept phases more whole count place value state next before is value_is next_is kept =
    let rest : ℕ = count - (place + 1) in
    let one : words (count - place) state ≡ phase_of (word state) ∷ words rest (drawn (drawn state)) = ap (λ n. words n state) (left count place before) in
    ap (λ ps. ps ++ words rest next) is
    ∙ ap (λ v. (phases ++ phase_of v ∷ []) ++ words rest next) value_is
    ∙ ap (λ s. (phases ++ phase_of (word state) ∷ []) ++ words rest s) next_is
    ∙ append_assoc phases (phase_of (word state) ∷ []) (words rest (drawn (drawn state)))
    ∙ ap (λ ws. phases ++ ws) (sym one)
    ∙ kept

pub words_drawn_kept : (whole count place state next : ℕ) → place < count → next ≡ drawn (drawn state) → words_drawn (count - place) state ≡ whole → words_drawn (count - (place + 1)) next ≡ whole
words_drawn_kept whole count place state next before next_is kept =
    ap (λ s. words_drawn (count - (place + 1)) s) next_is ∙ sym (ap (λ n. words_drawn n state) (left count place before)) ∙ kept

-- and so do the rounds
pub program_kept : (ops more whole : List Op) (first second count place state next : ℕ) → place < count → more ≡ ops ++ round first second state → next ≡ round_drawn state
    → ops ++ program first second (count - place) state ≡ whole → more ++ program first second (count - (place + 1)) next ≡ whole
program_kept ops more whole first second count place state next before is next_is kept =
    let rest : ℕ = count - (place + 1) in
    let one : program first second (count - place) state ≡ round first second state ++ program first second rest (round_drawn state) = ap (λ n. program first second n state) (left count place before) in
    ap (λ os. os ++ program first second rest next) is
    ∙ ap (λ s. (ops ++ round first second state) ++ program first second rest s) next_is
    ∙ append_assoc ops (round first second state) (program first second rest (round_drawn state))
    ∙ ap (λ os. ops ++ os) (sym one)
    ∙ kept

pub program_drawn_kept : (whole count place state next : ℕ) → place < count → next ≡ round_drawn state → program_drawn (count - place) state ≡ whole → program_drawn (count - (place + 1)) next ≡ whole
program_drawn_kept whole count place state next before next_is kept =
    ap (λ s. program_drawn (count - (place + 1)) s) next_is ∙ sym (ap (λ n. program_drawn n state) (left count place before)) ∙ kept

none_left : (count place : ℕ) → count ≤ place → count - place ≡ 0
none_left count place behind = omega (arith, behind)

-- at the end nothing is left
pub program_whole : (ops whole : List Op) (first second count place state : ℕ) → count ≤ place → ops ++ program first second (count - place) state ≡ whole → ops ≡ whole
program_whole ops whole first second count place state behind kept =
    let none : program first second (count - place) state ≡ [] = ap (λ n. program first second n state) (none_left count place behind) in
    sym (append-nil ops) ∙ ap (λ os. ops ++ os) (sym none) ∙ kept

pub program_drawn_whole : (whole count place state : ℕ) → count ≤ place → program_drawn (count - place) state ≡ whole → state ≡ whole
program_drawn_whole whole count place state behind kept = sym (ap (λ n. program_drawn n state) (none_left count place behind)) ∙ kept
