-- With which operation a master came to know of a write; the master of the write knows of it by the write itself.
use Rattle.std.proofs.Common.{◌≡◌, ℕ, ◌+◌, ◌<◌, ◌≤◌, Bool, true, false, ◌&&◌, ◌||◌, cond, List, [], ◌∷◌, ◌++◌, Option, Some, None, is_some, refl, sym, ap, subst, ◌∙◌, arith}
use Rattle.std.proofs.lemmas.Bool.{and_parts, or_right}
use Rattle.std.proofs.lemmas.Bool.Decides.{nat_tests}
use Rattle.list_facts.proofs.AnyLemmas.{any_some}
use Rattle.list_facts.proofs.EachLemmas.{Each-find}
use Rattle.list_facts.proofs.FindLemmas.{find_passes}
use Rattle.pci_command.specs.declared.op_id.OpId.{OpId}
use Rattle.pci_command.specs.declared.op_id.Outcome.{Outcome}
use Rattle.pci_command.specs.Same.{same_op}
use Rattle.board_model.specs.declared.board.Board.{Board}
use Rattle.history_model.specs.declared.event.Event.{Event}
use Rattle.history_model.specs.declared.rule.Rule.TheVariants.{Tagged}
use Rattle.history_model.specs.Program.{Ending, ended, turn_of}
use Rattle.history_model.specs.Words.{Landing, landed}
use Rattle.history_model.specs.Knowledge.{value_in, Reading, value_of_ending, outcome_in, ends_as, ends_with, has_ended, up_to_end, reading_in, has_landed, stands_after, later}
use Rattle.history_model.specs.Runs.{Run}
use Rattle.history_model.proofs.facts.RequestLemmas.{same_op_true, same_op_self}
use Rattle.law_lanes.specs.order.One.{times, ends_at_master}
use Rattle.law_lanes.proofs.order.Laws.{turn_not_ended}
use Rattle.law_fresh.specs.Aware.{Aware, is_behind, knows, shows, shown, first_known, taught_by, taught_after, aware_of}
use Rattle.law_fresh.proofs.Laws.{Begun, Begun-turn, Begun-kept, LandingBegun, LandingsBegun-run, ends_turn, since_kept, first_brought, write_since, ends_as_ended, Front, before_in, or_either}
use Rattle.law_fresh.proofs.Laws.{WriteOp, own_ended}

-- an event ends the operation that it ends
pub ends_it : (e : Event) (ending : Ending) → ended e ≡ Some ending → is_some (ends_as ending.op e) ≡ true
ends_it e ending is =
    let F : Option Ending → Type 0 = λ found. is_some (outcome_in ending.op found) ≡ true in
    let self = same_op_self ending.op in
    let there : F (Some ending) = rw self refl in
    subst F (sym is) there

-- A master ends an operation with a value once.

times_later : (o : OpId) (later h : List Event) → 1 ≤ times (ends_at_master o) h → 1 ≤ times (ends_at_master o) (later ++ h)
times_later o [] h some = some
times_later o (e ∷ later) h some = omega (arith, times_later o later h some)

value_ends : (o : OpId) (e : Event) → is_some (ends_with o e) ≡ true → (outcome : Outcome) × (ends_as o e ≡ Some outcome)
value_ends o e is =
    let P : Option Outcome → Type 0 = λ given. ends_as o e ≡ given → is_some (value_of_ending given) ≡ true → (outcome : Outcome) × (ends_as o e ≡ Some outcome) in
    (elim (ends_as o e) as P [ None ↦ λ _ f. cc | Some outcome ↦ λ some _. (outcome, some) ]) refl is

end_in : (board : Board) (o : OpId) (e : Event) (g later : List Event) → Run board (later ++ e ∷ g) → is_some (ends_with o e) ≡ true → up_to_end o (later ++ e ∷ g) ≡ e ∷ g
end_in board o e g [] run is = rw is refl
end_in board o e g (f ∷ later) run is =
    let older : up_to_end o (later ++ e ∷ g) ≡ e ∷ g = end_in board o e g later run.1 is in
    let P : Bool → Type 0 = λ b. is_some (ends_with o f) ≡ b → cond b (f ∷ (later ++ e ∷ g)) (up_to_end o (later ++ e ∷ g)) ≡ e ∷ g in
    (elim (is_some (ends_with o f)) as P [
      | true ↦ λ again.
          let second = value_ends o f again in
          let turn : turn_of board (later ++ e ∷ g) o.master ≡ Some o = ends_turn Tagged board f (later ++ e ∷ g) (record { op = o; outcome = second.0 }) run (ends_as_ended o f second.0 second.1) in
          let none : times (ends_at_master o) (later ++ e ∷ g) ≡ 0 = turn_not_ended board (later ++ e ∷ g) o run.1 turn in
          let first = value_ends o e is in
          let ends_it : is_some (ends_as o e) ≡ true = ap is_some first.1 in
          let once : 1 ≤ times (ends_at_master o) (e ∷ g) = rw ends_it (omega arith) in
          let some : 1 ≤ times (ends_at_master o) (later ++ e ∷ g) = times_later o later (e ∷ g) once in
          absurd (omega (arith, none, some))
      | false ↦ λ _. older
    ]) refl

pub end_at : (board : Board) (o : OpId) (e : Event) (g h : List Event) → Run board h → Front (e ∷ g) h → is_some (ends_with o e) ≡ true → up_to_end o h ≡ e ∷ g
end_at board o e g h run front is =
    subst (λ k. up_to_end o k ≡ e ∷ g) front.is (end_in board o e g front.later (subst (Run board) (sym front.is) run) is)

pub ended_later : (o : OpId) (later g : List Event) → has_ended g o ≡ true → has_ended (later ++ g) o ≡ true
ended_later o [] g is = is
ended_later o (e ∷ later) g is = or_right (is_some (ends_as o e)) (has_ended (later ++ g) o) (ended_later o later g is)

since_later : (board : Board) (w : OpId) (later g : List Event) (m : ℕ) (p : OpId) → (aware_of board w g).since m ≡ Some p → (aware_of board w (later ++ g)).since m ≡ Some p
since_later board w [] g m p is = is
since_later board w (e ∷ later) g m p is = since_kept board w e (later ++ g) m p (since_later board w later g m p is)

pub since_front : (board : Board) (w : OpId) (g h : List Event) → Front g h → (m : ℕ) (p : OpId) → (aware_of board w g).since m ≡ Some p → (aware_of board w h).since m ≡ Some p
since_front board w g h front m p is = subst (λ k. (aware_of board w k).since m ≡ Some p) front.is (since_later board w front.later g m p is)

-- an operation that knows stands behind one with which its master came to know
pub record Behind (aware : Aware) (q : OpId) : Type 0 where
  pub first : OpId
  pub is : aware.since q.master ≡ Some first
  pub after : stands_after first q ≡ true

pub behind_first : (aware : Aware) (q : OpId) → knows aware q ≡ true → Behind aware q
behind_first aware q known =
    let P : Option OpId → Type 0 = λ found. aware.since q.master ≡ found → is_behind found q ≡ true → Behind aware q in
    (elim (aware.since q.master) as P [ None ↦ λ _ f. cc | Some p ↦ λ is after. record { first = p; is = is; after = after } ]) refl known

-- The master of the write knows of it by the write itself.

module _ (board : Board) (w : OpId) where
  -- whoever knows, the write had begun
  shown_begun : (g : List Event) (reading : Reading) → Run board g → ((m : ℕ) (p : OpId) → (aware_of board w g).since m ≡ Some p → Begun board g w) → reading.before ≡ g
      → shown board w (aware_of board w g) reading.before reading.word ≡ true → Begun board g w
  shown_begun g reading run old before is =
      let aware : Aware = aware_of board w g in
      let landings : List Landing = landed board g reading.word in
      let F : List Event → Type 0 = λ k. shown board w aware k reading.word ≡ true in
      let some = any_some (shows w aware g) landings (subst F before is) in
      let landing : Landing = some.0 in
      let parts = and_parts (has_landed g landing.op) (same_op landing.op w || knows aware landing.op) (find_passes (shows w aware g) landings landing some.1) in
      or_either (Begun board g w) (same_op landing.op w) (knows aware landing.op)
      (λ same. subst (Begun board g) (same_op_true landing.op w same) (Each-find (LandingBegun board g) (shows w aware g) landings landing (LandingsBegun-run Tagged board g reading.word run) some.1))
      (λ known. let first = behind_first aware landing.op known in old landing.op.master first.first first.is) parts.1

  record Knowing (g : List Event) : Type 0 where
    since : (m : ℕ) (p : OpId) → (aware_of board w g).since m ≡ Some p → Begun board g w
    taught : (o : OpId) → (aware_of board w g).taught o ≡ true → Begun board g w

  -- as it is taught by an event, it had begun before
  taught_begun : (e : Event) (g : List Event) (o : OpId) → Run board g → Knowing g → (aware_of board w (e ∷ g)).taught o ≡ true → Begun board g w
  taught_begun e g o run old is =
      let aware : Aware = aware_of board w g in
      let P : Option Reading → Type 0 = λ here. reading_in board g o e ≡ here → taught_by board w aware (aware.taught o) here ≡ true → Begun board g w in
      (elim (reading_in board g o e) as P [
        | None ↦ λ _ f. old.taught o f
        | Some reading ↦ λ some f. shown_begun g reading run old.since (before_in board g o e reading some) f
      ]) refl is

  Knowing-run : (g : List Event) → Run board g → Knowing g
  Knowing-run [] run = record { since = λ m p is. cc; taught = λ o is. cc }
  Knowing-run (e ∷ g) run =
      let old : Knowing g = Knowing-run g run.1 in
      let aware : Aware = aware_of board w g in
      let taught : OpId → Bool = taught_after board w aware g e in
      record {
        since = λ m p is.
            let P : Option OpId → Type 0 = λ found. aware.since m ≡ found → first_known found m w taught (ended e) ≡ Some p → Begun board (e ∷ g) w in
            let Q : Option Ending → Type 0 = λ ending. ended e ≡ ending → first_known None m w taught ending ≡ Some p → Begun board (e ∷ g) w in
            (elim (aware.since m) as P [
              | None ↦ λ _ f. (elim (ended e) as Q [
                | None ↦ λ _ k. cc
                | Some ending ↦ λ ends k.
                    let brought = first_brought m w taught ending p k in
                    let turn : turn_of board g ending.op.master ≡ Some ending.op = ends_turn Tagged board e g ending run ends in
                    or_either (Begun board (e ∷ g) w) (same_op ending.op w) (is_some (value_in ending.outcome) && taught ending.op)
                    (λ same. Begun-kept Tagged board e g w run (subst (Begun board g) (same_op_true ending.op w same) (Begun-turn board g ending.op turn)))
                    (λ both. Begun-kept Tagged board e g w run (taught_begun e g ending.op run.1 old (and_parts (is_some (value_in ending.outcome)) (taught ending.op) both).1))
                    brought.brings_it
              ]) refl f
              | Some first ↦ λ was f. Begun-kept Tagged board e g w run (old.since m first was)
            ]) refl is;
        taught = λ o is. Begun-kept Tagged board e g w run (taught_begun e g o run.1 old is);
      }

  not_before : (p : OpId) → stands_after p w ≡ false → w.index < p.index + 1
  not_before p none = grind (arith, nat_tests)

  -- what its master knows it by is the write
  pub own_first : (write : WriteOp board w) (h : List Event) (p : OpId) → Run board h → (aware_of board w h).since w.master ≡ Some p → p ≡ w
  own_first write [] p run is = cc
  own_first write (e ∷ g) p run is =
      let aware : Aware = aware_of board w g in
      let taught : OpId → Bool = taught_after board w aware g e in
      let P : Option OpId → Type 0 = λ found. aware.since w.master ≡ found → first_known found w.master w taught (ended e) ≡ Some p → p ≡ w in
      let Q : Option Ending → Type 0 = λ ending. ended e ≡ ending → first_known None w.master w taught ending ≡ Some p → aware.since w.master ≡ None → p ≡ w in
      (elim (aware.since w.master) as P [
        | None ↦ λ none f. (elim (ended e) as Q [
          | None ↦ λ _ k _. cc
          | Some ending ↦ λ ends k none.
              let brought = first_brought w.master w taught ending p k in
              let turn : turn_of board g ending.op.master ≡ Some ending.op = ends_turn Tagged board e g ending run ends in
              let R : Bool → Type 0 = λ b. same_op ending.op w ≡ b → (b || (is_some (value_in ending.outcome) && taught ending.op)) ≡ true → p ≡ w in
              (elim (same_op ending.op w) as R [
                | true ↦ λ same _. brought.is_first ∙ same_op_true ending.op w same
                | false ↦ λ other both.
                    let begun : Begun board g w = taught_begun e g ending.op run.1 (Knowing-run g run.1) (and_parts (is_some (value_in ending.outcome)) (taught ending.op) both).1 in
                    let own_turn : turn_of board g w.master ≡ Some ending.op = subst (λ m. turn_of board g m ≡ Some ending.op) brought.of_master turn in
                    let ended_it : has_ended g w ≡ true = own_ended board w write g ending.op run.1 turn brought.of_master (not_before ending.op (begun ending.op own_turn)) other in
                    let since = write_since board w g run.1 ended_it in
                    let clash : ◌≡◌ {A = Option OpId} None (Some since.first) = sym none ∙ since.is in
                    cc
              ]) refl brought.brings_it
        ]) refl f none
        | Some first ↦ λ was f.
            let same : first ≡ p = cc in
            sym same ∙ own_first write g first run.1 was
      ]) refl is
