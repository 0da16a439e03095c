-- Targets, and the places of operations, looked at one after another.
use Rattle.std.proofs.Common.{◌≡◌, ℕ, ◌+◌, ◌<◌, Bool, true, false, cond, List, [], ◌∷◌, ◌++◌, append_assoc, length, drop, get_or, sym, ap, ◌∙◌}
use Rattle.std.proofs.lemmas.List.{drop_more}
use Rattle.board_model.specs.declared.agents.Master.{Master}
use Rattle.board_model.specs.declared.agents.Target.{Target}
use Rattle.board_model.specs.declared.board.Board.{Board}
use Rattle.board_model.specs.declared.op.Op.{Op}
use Rattle.history_model.specs.Clear.{holds}
use Rattle.dma_agents.specs.declared.line.Flag.{Flag}
use Rattle.dma_agents.specs.declared.unclear.OpPlace.{OpPlace}
use Rattle.dma_agents.specs.declared.unclear.Unclear.{Unclear}
use Rattle.dma_agents.specs.Unclear.{places_in, places, by_holder, by_targets}

-- the target at a place
target_at : (board : Board) (flag : Flag) (number : ℕ) (targets : List Target) (target : Target) (here : Bool) → number < length targets → target ≡ get_or targets number target → holds flag.address target ≡ here
    → by_targets board flag number (drop number targets) ≡ cond here (by_holder board flag number target (drop (number + 1) targets)) (by_targets board flag (number + 1) (drop (number + 1) targets))
target_at board flag number targets target here within is has =
    let rest : List Target = drop (number + 1) targets in
    let front : drop number targets ≡ target ∷ rest = drop_more targets number target within ∙ ap (λ (t : Target). t ∷ rest) (sym is) in
    let F : Bool → Unclear = λ b. cond b (by_holder board flag number target rest) (by_targets board flag (number + 1) rest) in
    ap (by_targets board flag number) front ∙ ap F has

-- it has the address
pub target_here : (board : Board) (flag : Flag) (number : ℕ) (targets : List Target) (target : Target) → number < length targets → target ≡ get_or targets number target → holds flag.address target ≡ true
    → by_targets board flag number (drop number targets) ≡ by_holder board flag number target (drop (number + 1) targets)
target_here board flag number targets target within is has = target_at board flag number targets target true within is has

-- it has not
pub target_passed : (board : Board) (flag : Flag) (number : ℕ) (targets : List Target) (target : Target) → number < length targets → target ≡ get_or targets number target → holds flag.address target ≡ false
    → by_targets board flag number (drop number targets) ≡ by_targets board flag (number + 1) (drop (number + 1) targets)
target_passed board flag number targets target within is has = target_at board flag number targets target false within is has

-- one operation more
pub place_more : (test : Op → Bool) (master index : ℕ) (ops : List Op) (op : Op) (old now : List OpPlace) → index < length ops → op ≡ get_or ops index op → now ≡ old ++ cond (test op) (record { master = master; index = index } ∷ []) []
    → now ++ places_in test master (index + 1) (drop (index + 1) ops) ≡ old ++ places_in test master index (drop index ops)
place_more test master index ops op old now within is new =
    let rest : List Op = drop (index + 1) ops in
    let here : drop index ops ≡ op ∷ rest = drop_more ops index op within ∙ ap (λ (o : Op). o ∷ rest) (sym is) in
    ap (λ xs. xs ++ places_in test master (index + 1) rest) new
    ∙ append_assoc old (cond (test op) (record { master = master; index = index } ∷ []) []) (places_in test master (index + 1) rest)
    ∙ sym (ap (λ os. old ++ places_in test master index os) here)

-- one master more
pub master_more : (test : Op → Bool) (number : ℕ) (masters : List Master) (master : Master) (old now : List OpPlace) → number < length masters → master ≡ get_or masters number master → now ≡ old ++ places_in test number 0 master.ops
    → now ++ places test (number + 1) (drop (number + 1) masters) ≡ old ++ places test number (drop number masters)
master_more test number masters master old now within is new =
    let rest : List Master = drop (number + 1) masters in
    let here : drop number masters ≡ master ∷ rest = drop_more masters number master within ∙ ap (λ (m : Master). m ∷ rest) (sym is) in
    ap (λ xs. xs ++ places test (number + 1) rest) new
    ∙ append_assoc old (places_in test number 0 master.ops) (places test (number + 1) rest)
    ∙ sym (ap (λ ms. old ++ places test number ms) here)
