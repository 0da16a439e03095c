-- Who knows of a write knows of its author's earlier ones at least as long, and an author's later writes know of it.
use Rattle.std.proofs.Common.{◌≡◌, ℕ, ◌+◌, ◌<◌, ◌≤◌, Bool, true, false, ◌&&◌, ◌||◌, ◌==◌, cond, eqb, nat_lt, List, [], ◌∷◌, Option, Some, None, is_some, refl, sym, ap, subst, ◌∙◌, arith}
use Rattle.std.specs.List.{AllByRecursion}
use Rattle.std.proofs.lemmas.Bool.Decides.{nat_tests}
use Rattle.std.proofs.lemmas.Bool.{or_right}
use Rattle.list_facts.proofs.EachLemmas.{Each-weaker}
use Rattle.pci_command.specs.declared.op_id.OpId.{OpId}
use Rattle.pci_command.specs.Same.{same_op}
use Rattle.board_model.specs.declared.board.Board.{Board}
use Rattle.board_model.specs.Ways.{Dword}
use Rattle.board_model.specs.Valid.{IsValid}
use Rattle.history_model.specs.declared.event.Event.{Event}
use Rattle.history_model.specs.declared.rule.Rule.TheVariants.{Tagged}
use Rattle.history_model.specs.Program.{Ending, ended, turn_of}
use Rattle.history_model.specs.Words.{Landing, landed}
use Rattle.history_model.specs.Knowledge.{stands_after, is_write}
use Rattle.history_model.specs.Runs.{Run}
use Rattle.law_fresh.specs.Aware.{is_behind, knows, brings, first_known, aware_of}
use Rattle.law_fresh.proofs.Laws.{IsBehind, ends_turn, knows_kept, since_behind}
use Rattle.law_audit.specs.Clocks.{own, clocks_of, reaches}
use Rattle.law_fresh.proofs.Laws.{write_op}
use Rattle.law_audit.proofs.ClockLemmas.{Law-run, Starts, known_reaches}

behind_both : (p t q : OpId) → stands_after p t ≡ true → stands_after t q ≡ true → stands_after p q ≡ true
behind_both p t q first second = grind (arith, nat_tests)

-- what is first known at an ending is known with it
known_with : (master : ℕ) (w : OpId) (taught : OpId → Bool) (ending : Ending) → is_some (first_known None master w taught (Some ending)) ≡ true → first_known None master w taught (Some ending) ≡ Some ending.op
known_with master w taught ending is =
    let P : Bool → Type 0 = λ b. is_some (cond b (Some ending.op) None) ≡ true → cond b (Some ending.op) None ≡ Some ending.op in
    (elim (ending.op.master == master && brings w (taught ending.op) ending) as P [ true ↦ λ _. refl | false ↦ λ f. cc ]) is

-- the master of what is first known at an ending
known_by : (master : ℕ) (w : OpId) (taught : OpId → Bool) (ending : Ending) → is_some (first_known None master w taught (Some ending)) ≡ true → ending.op.master ≡ master
known_by master w taught ending is =
    let other : Bool = brings w (taught ending.op) ending in
    let P : Bool → Type 0 = λ b. eqb ending.op.master master ≡ b → is_some (cond (b && other) (Some ending.op) None) ≡ true → ending.op.master ≡ master in
    (elim (eqb ending.op.master master) as P [
      | true ↦ λ same _. Rattle.std.proofs.Common.eqb-true ending.op.master master same
      | false ↦ λ _ f. cc
    ]) refl is

behind_some : (found : Option OpId) (q : OpId) → is_behind found q ≡ true → is_some found ≡ true
behind_some None q is = cc
behind_some (Some p) q is = refl

module _ (board : Board) (valid : IsValid board) (w v : OpId) (w_writes : is_write board w ≡ true) (v_writes : is_write board v ≡ true) (masters : w.master ≡ v.master) (earlier : w.index ≤ v.index) where
  -- where a master knows of the later one it knows of the earlier one
  both_known : (h : List Event) (master : ℕ) → Run board h → is_some ((aware_of board v h).since master) ≡ true → is_some ((aware_of board w h).since master) ≡ true
  both_known h master run is =
      let later : nat_lt v.index ((clocks_of board h).known master v.master) ≡ true = sym (known_reaches board valid h v master run v_writes) ∙ is in
      let same : nat_lt v.index ((clocks_of board h).known master w.master) ≡ true = subst (λ n. nat_lt v.index ((clocks_of board h).known master n) ≡ true) (sym masters) later in
      let n : ℕ = (clocks_of board h).known master w.master in
      let lower : nat_lt w.index n ≡ true = grind (arith, nat_tests) in
      known_reaches board valid h w master run w_writes ∙ lower

  -- the later one comes to be known at an event
  now_known : (e : Event) (h : List Event) (r : OpId) → Run board (e ∷ h) → (ending : Ending) → ended e ≡ Some ending → is_some ((aware_of board v (e ∷ h)).since r.master) ≡ true → ending.op.master ≡ r.master → stands_after ending.op r ≡ true
      → knows (aware_of board w (e ∷ h)) r ≡ true
  now_known e h r run ending is there mine behind =
      let since : Option OpId = (aware_of board w h).since r.master in
      let taught : OpId → Bool = (aware_of board w (e ∷ h)).taught in
      let next_is : (aware_of board w (e ∷ h)).since r.master ≡ first_known since r.master w taught (Some ending) = ap (λ found. first_known since r.master w taught found) is in
      let some : is_some (first_known since r.master w taught (Some ending)) ≡ true = sym (ap is_some next_is) ∙ both_known (e ∷ h) r.master run there in
      let turn : turn_of board h r.master ≡ Some ending.op = subst (λ n. turn_of board h n ≡ Some ending.op) mine (ends_turn Tagged board e h ending run is) in
      let P : Option OpId → Type 0 = λ found. since ≡ found → is_some (first_known found r.master w taught (Some ending)) ≡ true → is_behind (first_known found r.master w taught (Some ending)) r ≡ true in
      ap (λ found. is_behind found r) next_is
      ∙ (elim since as P [
        | None ↦ λ _ f. ap (λ found. is_behind found r) (known_with r.master w taught ending f) ∙ behind
        | Some p ↦ λ was _.
            let before : stands_after p ending.op ≡ true = subst (IsBehind p) turn (since_behind board w h r.master p run.1 was) in
            behind_both p ending.op r before behind
      ]) refl some

  knows_earlier : (h : List Event) (r : OpId) → Run board h → knows (aware_of board v h) r ≡ true → knows (aware_of board w h) r ≡ true
  knows_earlier [] r run is = cc
  knows_earlier (e ∷ h) r run is =
      let since : Option OpId = (aware_of board v h).since r.master in
      let taught : OpId → Bool = (aware_of board v (e ∷ h)).taught in
      let there : is_some ((aware_of board v (e ∷ h)).since r.master) ≡ true = behind_some ((aware_of board v (e ∷ h)).since r.master) r is in
      let X : Type 0 = knows (aware_of board w (e ∷ h)) r ≡ true in
      let P : Option OpId → Type 0 = λ found. since ≡ found → is_behind (first_known found r.master v taught (ended e)) r ≡ true → is_some (first_known found r.master v taught (ended e)) ≡ true → X in
      let Q : Option Ending → Type 0 = λ found. ended e ≡ found → is_behind (first_known None r.master v taught found) r ≡ true → is_some (first_known None r.master v taught found) ≡ true → X in
      (elim since as P [
        | Some p ↦ λ was f _. knows_kept board w e h r (knows_earlier h r run.1 (ap (λ found. is_behind found r) was ∙ f))
        | None ↦ λ _ f g. (elim (ended e) as Q [
          | None ↦ λ _ a _. cc
          | Some ending ↦ λ ends a b.
              let mine : ending.op.master ≡ r.master = known_by r.master v taught ending b in
              let behind : stands_after ending.op r ≡ true = sym (ap (λ found. is_behind found r) (known_with r.master v taught ending b)) ∙ a in
              now_known e h r run ending ends there mine behind
        ]) refl f g
      ]) refl is there

-- what is known of a write is known of its author's earlier ones
pub earlier_known : (board : Board) (valid : IsValid board) (h : List Event) (w v r : OpId) → Run board h → is_write board w ≡ true → is_write board v ≡ true → w.master ≡ v.master → w.index ≤ v.index
    → knows (aware_of board v h) r ≡ true → knows (aware_of board w h) r ≡ true
earlier_known board valid h w v r run w_writes v_writes masters earlier is = knows_earlier board valid w v w_writes v_writes masters earlier h r run is

-- an operation of which a data phase landed is the write or knows of it, where it does not stand before it in its author's program
abbrev pub KnowsOwn : Board → List Event → OpId → Landing → Type 0
KnowsOwn board h w l = w.master ≡ l.op.master → w.index ≤ l.op.index → (knows (aware_of board w h) l.op || same_op l.op w) ≡ true

pub landings_know : (board : Board) (valid : IsValid board) (h : List Event) (word : Dword) (w : OpId) → Run board h → is_write board w ≡ true → AllByRecursion (KnowsOwn board h w) (landed board h word)
landings_know board valid h word w run writes =
    let write = write_op board w writes in
    Each-weaker (λ (l : Landing). Starts board valid w write h l.op) (KnowsOwn board h w)
    (λ l starts masters earlier.
    let mine : eqb l.op.master w.master ≡ true = grind (arith, nat_tests) in
    let below : nat_lt w.index (l.op.index + 1) ≡ true = grind (arith, nat_tests) in
    let told : reaches (own l.op) w ≡ true = rw mine below in
    starts.law ∙ or_right (reaches ((clocks_of board h).start l.op) w) (reaches (own l.op) w) told)
    (landed board h word) ((Law-run board valid w write h run).landings word)
