-- The reads that are listed are those that break freshness.
use Rattle.std.proofs.Common.{◌≡◌, ℕ, zero, suc, ◌+◌, ◌<◌, Bool, true, false, not, ◌&&◌, ◌||◌, ◌==◌, nat_lt, cond, eqb, List, [], ◌∷◌, ◌++◌, length, Option, Some, None, is_some, Contains, slice_get, refl, sym, ap, subst, ◌∙◌, arith}
use Rattle.std.specs.List.{find, list_any, AllByRecursion}
use Rattle.std.specs.Option.{option_and_then}
use Rattle.std.specs.Cmp.{IsEquivalence}
use Rattle.std.proofs.lemmas.Cmp.{nat_eq_equiv, on_equiv, and_equiv}
use Rattle.std.proofs.lemmas.Bool.Decides.{nat_tests}
use Rattle.std.proofs.lemmas.Map.Views.{list_any-from_Contains, Contains-from_any}
use Rattle.list_facts.proofs.AnyLemmas.{any_some}
use Rattle.list_facts.proofs.FindLemmas.{find_passes}
use Rattle.pci_command.specs.declared.command.Space.{Space}
use Rattle.pci_command.specs.declared.command.Space.TheVariants.{Mem, Io, Cfg}
use Rattle.pci_command.specs.declared.op_id.OpId.{OpId}
use Rattle.pci_command.specs.declared.op_id.Outcome.{Outcome}
use Rattle.pci_command.specs.Same.{same_op, same_space}
use Rattle.board_model.specs.declared.op.Op.{Op}
use Rattle.board_model.specs.declared.op.Op.TheVariants.{Read as ReadOp, Write, CfgRead, CfgWrite, Poll}
use Rattle.board_model.specs.declared.agents.Master.{Master}
use Rattle.board_model.specs.declared.board.Board.{Board}
use Rattle.board_model.specs.Requests.{tries_of, op_of, reads, reads_in}
use Rattle.board_model.specs.Ways.{Dword}
use Rattle.history_model.specs.declared.event.Event.{Event}
use Rattle.history_model.specs.Program.{Ending, ended}
use Rattle.history_model.specs.Knowledge.{ends_as, Reading, has_landed, words_named, is_write}
use Rattle.std.proofs.lemmas.Bool.{and_parts, or_left, or_right}
use Rattle.history_model.proofs.facts.RequestLemmas.{same_op_true, same_op_self}
use Rattle.safe_model.proofs.OpsLemmas.{write_listed}
use Rattle.law_untagged.specs.Untagged.{UntaggedRun}
use Rattle.law_untagged.specs.Origins.{ending_reading, untagged_got, UntaggedTold, UntaggedFresh}
use Rattle.law_untagged.specs.Heard.{untagged_was_told}
use Rattle.safe_model.specs.Raisers.{same_dword}
use Rattle.safe_model.specs.Ops.{ops_from, ops_by}
use Rattle.law_untagged.specs.Stale.{StaleRead, breaks_in, breaks, Breaks, stale_by, stale_at, stale_ending, stale_in, stale_of}
use Rattle.law_untagged.proofs.OrderLemmas.{Ends, ends_some}
use Rattle.law_untagged.proofs.ToldLemmas.{told_known, known_told}
use Rattle.law_untagged.proofs.ReturnLemmas.{got_returned}

-- Dwords.

space-equiv : IsEquivalence same_space
space-equiv = record { refl = self; symm = turned; congr = alike }
  where
    self : (a : Space) → same_space a a ≡ true
    self Mem = refl
    self Io = refl
    self Cfg = refl

    turned : (a b : Space) → same_space a b ≡ same_space b a
    turned Mem Mem = refl
    turned Mem Io = refl
    turned Mem Cfg = refl
    turned Io Mem = refl
    turned Io Io = refl
    turned Io Cfg = refl
    turned Cfg Mem = refl
    turned Cfg Io = refl
    turned Cfg Cfg = refl

    alike : (a b c : Space) → same_space a b ≡ true → same_space a c ≡ same_space b c
    alike Mem Mem c same = refl
    alike Mem Io c same = cc
    alike Mem Cfg c same = cc
    alike Io Mem c same = cc
    alike Io Io c same = refl
    alike Io Cfg c same = cc
    alike Cfg Mem c same = cc
    alike Cfg Io c same = cc
    alike Cfg Cfg c same = refl

dword-equiv : IsEquivalence same_dword
dword-equiv = and_equiv (and_equiv (on_equiv (λ (d : Dword). d.target) nat_eq_equiv) (on_equiv (λ (d : Dword). d.space) space-equiv)) (on_equiv (λ (d : Dword). d.address) nat_eq_equiv)

space_true : (a b : Space) → same_space a b ≡ true → a ≡ b
space_true Mem Mem same = refl
space_true Mem Io same = cc
space_true Mem Cfg same = cc
space_true Io Mem same = cc
space_true Io Io same = refl
space_true Io Cfg same = cc
space_true Cfg Mem same = cc
space_true Cfg Io same = cc
space_true Cfg Cfg same = refl

dword_true : (a b : Dword) → same_dword a b ≡ true → a ≡ b
dword_true a b same =
    let outer = and_parts (a.target == b.target && same_space a.space b.space) (a.address == b.address) same in
    let inner = and_parts (a.target == b.target) (same_space a.space b.space) outer.0 in
    let built : ℕ → Space → ℕ → Dword = λ target space address. record { target = target; space = space; address = address } in
    let targets : a.target ≡ b.target = let t = inner.0 in grind (arith, nat_tests) in
    let spaces : a.space ≡ b.space = space_true a.space b.space inner.1 in
    let addresses : a.address ≡ b.address = let t = outer.1 in grind (arith, nat_tests) in
    let joined : built a.target a.space a.address ≡ built b.target b.space b.address = cc in
    joined

-- Writes are among the operations of a board.

-- Breaking freshness.

module _ (board : Board) (h : List Event) (run : UntaggedRun board h) where
  pub breaks_so : (w r : OpId) → breaks board h w r ≡ true → Breaks board h w r
  breaks_so w r is =
      let P : Option Reading → Type 0 = λ found. untagged_got board h r ≡ found → breaks_in board h w r found ≡ true → Breaks board h w r in
      (elim (untagged_got board h r) as P [
        | None ↦ λ _ f. cc
        | Some reading ↦ λ got f.
            let of_word : Bool = list_any (same_dword reading.word) (words_named board w) in
            let outer = and_parts (of_word && not (has_landed reading.before w)) (untagged_was_told board h w r) f in
            let inner = and_parts of_word (not (has_landed reading.before w)) outer.0 in
            let Q : Bool → Type 0 = λ b. not b ≡ true → b ≡ false in
            record {
              reading = reading;
              got = got;
              told = known_told board w h run r outer.1;
              of_word = Contains-from_any dword_true reading.word (words_named board w) inner.0;
              not_landed = (elim (has_landed reading.before w) as Q [ true ↦ λ e. cc | false ↦ λ _. refl ]) inner.1;
            }
      ]) refl is

  pub so_breaks : (w r : OpId) → Breaks board h w r → breaks board h w r ≡ true
  so_breaks w r it =
      let F : Option Reading → Type 0 = λ found. breaks_in board h w r found ≡ true in
      let told = told_known board w h run r it.told in
      let of_word = list_any-from_Contains dword-equiv it.reading.word (words_named board w) it.of_word in
      let landed_not = it.not_landed in
      let there : F (Some it.reading) = rw (of_word, landed_not, told) refl in
      subst F (sym it.got) there

  -- A read that breaks freshness has its line.

  -- where it does for a write that is among these operations, it does for one of them
  any_breaks : (r w : OpId) (ops : List OpId) → breaks board h w r ≡ true → list_any (same_op w) ops ≡ true → list_any (λ v. breaks board h v r) ops ≡ true
  any_breaks r w [] is listed = cc
  any_breaks r w (v ∷ ops) is listed =
      let rest : Bool = list_any (λ u. breaks board h u r) ops in
      let P : Bool → Type 0 = λ b. same_op w v ≡ b → (b || list_any (same_op w) ops) ≡ true → (breaks board h v r || rest) ≡ true in
      (elim (same_op w v) as P [
        | true ↦ λ same _. or_left (breaks board h v r) rest (subst (λ u. breaks board h u r ≡ true) (same_op_true w v same) is)
        | false ↦ λ _ later. or_right (breaks board h v r) rest (any_breaks r w ops is later)
      ]) refl listed

  -- as its master ended it, it has the line of the first of them
  pub one_stale : (r : OpId) (reading : Reading) (w : OpId) → untagged_got board h r ≡ Some reading → breaks board h w r ≡ true
      → (v : OpId) × (stale_at board h r ≡ record { read = r; write = v; event = length reading.before + 1 } ∷ [])
  one_stale r reading w got is =
      let ops : List OpId = ops_by 0 board.masters in
      let first = any_some (λ v. breaks board h v r) ops (any_breaks r w ops is (write_listed board w (breaks_so w r is).told.0)) in
      (first.0, ap (λ found. stale_by r found (untagged_got board h r)) first.1 ∙ ap (stale_by r (Some first.0)) got)

  -- Nothing is listed where nothing breaks freshness.

  none_stale : (r : OpId) (reading : Reading) (w : OpId) → untagged_got board h r ≡ Some reading → breaks board h w r ≡ true → stale_at board h r ≡ [] → ⊥
  none_stale r reading w got is none = let line = (one_stale r reading w got is).1 in cc

  -- a list joined of two is empty where both are
  joined_empty : {X : Type 0} (xs ys : List X) → (xs ++ ys) ≡ [] → (xs ≡ []) × (ys ≡ [])
  joined_empty [] ys is = (refl, is)
  joined_empty (x ∷ xs) ys is = cc

  stale_none : (g : List Event) (r : OpId) (reading : Reading) → untagged_got board g r ≡ Some reading → stale_in board h g ≡ [] → stale_at board h r ≡ []
  stale_none [] r reading got none = cc
  stale_none (e ∷ g) r reading got none =
      let parts = joined_empty (stale_in board h g) (stale_ending board h (ended e)) none in
      let P : Bool → Type 0 = λ b. is_some (ends_as r e) ≡ b → cond b (ending_reading board g e) (untagged_got board g r) ≡ Some reading → stale_at board h r ≡ [] in
      (elim (is_some (ends_as r e)) as P [
        | true ↦ λ some _.
            let ends = ends_some r e some in
            let F : Option Ending → Type 0 = λ found. stale_ending board h found ≡ [] in
            let there : F (Some (record { op = r; outcome = ends.outcome })) = subst F ends.is parts.1 in
            there
        | false ↦ λ _ f. stale_none g r reading f parts.0
      ]) refl got

  none_fresh : stale_of board h ≡ [] → UntaggedFresh board h
  none_fresh none = record {
    informed = λ w r reading told got of_word. (
        let P : Bool → Type 0 = λ b. has_landed reading.before w ≡ b → has_landed reading.before w ≡ true in
        (elim (has_landed reading.before w) as P [
          | true ↦ λ is. is
          | false ↦ λ is.
              let breaks_it : breaks board h w r ≡ true = so_breaks w r (record { reading = reading; got = got; told = told; of_word = of_word; not_landed = is }) in
              absurd (none_stale r reading w got breaks_it (stale_none h r reading got none))
        ]) refl);
    returned = λ r reading got. got_returned board h r reading run got;
  }

  fresh_at : UntaggedFresh board h → (r : OpId) → stale_at board h r ≡ []
  fresh_at fresh r =
      let ops : List OpId = ops_by 0 board.masters in
      let test : OpId → Bool = λ v. breaks board h v r in
      let Q : Option OpId → Type 0 = λ first. find test ops ≡ first → stale_by r first (untagged_got board h r) ≡ [] in
      (elim (find test ops) as Q [
        | None ↦ λ _. refl
        | Some v ↦ λ found.
            let it = breaks_so v r (find_passes test ops v found) in
            let landed_it = fresh.informed v r it.reading it.told it.got it.of_word in
            let e : true ≡ false = sym landed_it ∙ it.not_landed in
            cc
      ]) refl

  fresh_none : UntaggedFresh board h → (g : List Event) → stale_in board h g ≡ []
  fresh_none fresh [] = refl
  fresh_none fresh (e ∷ g) =
      let P : Option Ending → Type 0 = λ found. stale_ending board h found ≡ [] in
      let here : P (ended e) = elim (ended e) as P [ None ↦ refl | Some ending ↦ fresh_at fresh ending.op ] in
      let older = fresh_none fresh g in
      rw (older, here) refl

  pub stale_exactly : (UntaggedFresh board h → stale_of board h ≡ []) × (stale_of board h ≡ [] → UntaggedFresh board h)
  stale_exactly = (λ fresh. fresh_none fresh h, none_fresh)
