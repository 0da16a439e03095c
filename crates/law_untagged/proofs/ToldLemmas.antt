-- Who was told of a write by a chain knows of it, and the other way round.
use Rattle.std.proofs.Common.{◌≡◌, ℕ, ◌+◌, Bool, true, false, ◌&&◌, ◌||◌, ◌==◌, cond, eqb, eqb-true, List, [], ◌∷◌, ◌++◌, Option, Some, None, is_some, refl, sym, ap, subst, ◌∙◌, arith, ◌⊎◌, inl, inr, ⊎_elim}
use Rattle.std.specs.List.{list_any}
use Rattle.std.proofs.lemmas.Bool.Decides.{nat_tests}
use Rattle.list_facts.proofs.EachLemmas.{Each-find}
use Rattle.list_facts.proofs.FindLemmas.{find_passes}
use Rattle.list_facts.proofs.AnyLemmas.{any_some, found_any}
use Rattle.pci_command.specs.declared.op_id.OpId.{OpId}
use Rattle.pci_command.specs.declared.op_id.Outcome.{Outcome}
use Rattle.pci_command.specs.Same.{same_op}
use Rattle.board_model.specs.declared.op.Op.{Op}
use Rattle.board_model.specs.declared.board.Board.{Board}
use Rattle.board_model.specs.Requests.{op_of, reads, reads_in}
use Rattle.history_model.specs.declared.event.Event.{Event}
use Rattle.history_model.specs.declared.rule.Rule.TheVariants.{Untagged}
use Rattle.history_model.specs.Program.{Ending, ended, turn_of}
use Rattle.history_model.specs.Words.{Landing, landed}
use Rattle.history_model.specs.Knowledge.{ends_as, has_ended, Reading, has_landed, is_landing_of, saw_in, stands_after, later, is_write}
use Rattle.std.proofs.lemmas.Bool.{and_parts, or_left, or_right}
use Rattle.history_model.proofs.facts.RequestLemmas.{same_op_true, same_op_self}
use Rattle.law_untagged.specs.Origins.{ending_reading, untagged_got, untagged_saw, untagged_tells, UntaggedChain, one, more, UntaggedTold}
use Rattle.law_untagged.specs.Heard.{Since, is_behind, knows, speaks, heard, first_known, untagged_since, untagged_was_told}
use Rattle.law_untagged.specs.Untagged.{UntaggedRun}
use Rattle.law_untagged.proofs.HeardLemmas.{ending_front, got_front, got_reads, first_brought, since_kept, spoken, heard_before, since_behind}
use Rattle.law_untagged.proofs.OrderLemmas.{ends_some, ends_once, run_front}
use Rattle.law_fresh.proofs.Laws.{behind_next, IsBehind, ends_turn, landed_writes, IsThere, landings_there, ended_later, ended_front, Front, front_self, front_more, front_front, or_either}

-- what a read got at its end, it got
pub got_along : (board : Board) (o : OpId) (e : Event) (g later : List Event) → UntaggedRun board (later ++ e ∷ g) → is_some (ends_as o e) ≡ true → untagged_got board (later ++ e ∷ g) o ≡ ending_reading board g e
got_along board o e g [] run is = rw is refl
got_along board o e g (f ∷ later) run is =
    let h : List Event = later ++ e ∷ g in
    let older = got_along board o e g later run.1 is in
    let P : Bool → Type 0 = λ b. is_some (ends_as o f) ≡ b → cond b (ending_reading board h f) (untagged_got board h o) ≡ ending_reading board g e in
    (elim (is_some (ends_as o f)) as P [
      | true ↦ λ again. absurd (ends_once board f h o run (ended_later o later (e ∷ g) (or_left (is_some (ends_as o e)) (has_ended g o) is)) again)
      | false ↦ λ _. older
    ]) refl

got_at : (board : Board) (o : OpId) (e : Event) (g h : List Event) → UntaggedRun board h → Front (e ∷ g) h → is_some (ends_as o e) ≡ true → untagged_got board h o ≡ ending_reading board g e
got_at board o e g h run front is =
    subst (λ k. untagged_got board k o ≡ ending_reading board g e) front.is (got_along board o e g front.later (subst (UntaggedRun board) (sym front.is) run) is)

-- an ending ends its operation
ending_is : (e : Event) (ending : Ending) → ended e ≡ Some ending → is_some (ends_as ending.op e) ≡ true
ending_is e ending is =
    let self : same_op ending.op ending.op ≡ true = same_op_self ending.op in
    rw (is, self) refl

module _ (board : Board) (w : OpId) where
  -- a master knows of the write from an operation on, or from an earlier one
  pub record From (h : List Event) (p : OpId) : Type 0 where
    pub first : OpId
    pub is : untagged_since board w h p.master ≡ Some first
    pub before : (q : OpId) → stands_after p q ≡ true → stands_after first q ≡ true

  From-kept : (e : Event) (h : List Event) (p : OpId) → From h p → From (e ∷ h) p
  From-kept e h p old = record { first = old.first; is = since_kept board w e h p.master old.first old.is; before = old.before }

  -- an ending that brings it
  end_from : (e : Event) (h : List Event) (p : OpId) (outcome : Outcome) → UntaggedRun board (e ∷ h) → ended e ≡ Some (record { op = p; outcome = outcome })
      → (same_op p w || heard board w (untagged_since board w h) (ending_reading board h e)) ≡ true → From (e ∷ h) p
  end_from e h p outcome run ends brings_it =
      let since : Since = untagged_since board w h in
      let heard_it : Bool = heard board w since (ending_reading board h e) in
      let ending : Ending = record { op = p; outcome = outcome } in
      let turn : turn_of board h p.master ≡ Some p = ends_turn Untagged board e h ending run ends in
      let P : Option OpId → Type 0 = λ found. since p.master ≡ found → From (e ∷ h) p in
      (elim (since p.master) as P [
        | None ↦ λ none.
            let self : eqb p.master p.master ≡ true = grind (arith, nat_tests) in
            let F : Option OpId → Option Ending → Type 0 = λ old found. first_known old p.master w heard_it found ≡ Some p in
            let there : F None (Some ending) = rw (self, brings_it) refl in
            record { first = p; is = subst (λ old. F old (ended e)) (sym none) (subst (F None) (sym ends) there); before = λ q behind. behind }
        | Some first ↦ λ was.
            let before : stands_after first p ≡ true = subst (IsBehind first) turn (since_behind board w h p.master first run.1 was).1 in
            record { first = first; is = since_kept board w e h p.master first was; before = λ q behind. behind_next first p q before behind }
      ]) refl

  -- the write itself
  pub write_from : (h : List Event) → UntaggedRun board h → has_ended h w ≡ true → From h w
  write_from [] run is = cc
  write_from (e ∷ h) run is =
      or_either (From (e ∷ h) w) (is_some (ends_as w e)) (has_ended h w)
      (λ here. let ends = ends_some w e here in end_from e h w ends.outcome run ends.is (or_left (same_op w w) _ (same_op_self w)))
      (λ older. From-kept e h w (write_from h run.1 older)) is

  -- a read that got what tells of it
  got_from : (h : List Event) (p : OpId) (reading : Reading) → UntaggedRun board h → untagged_got board h p ≡ Some reading → heard board w (untagged_since board w h) (Some reading) ≡ true → From h p
  got_from [] p reading run is heard_it = cc
  got_from (e ∷ h) p reading run is heard_it =
      let P : Bool → Type 0 = λ b. is_some (ends_as p e) ≡ b → cond b (ending_reading board h e) (untagged_got board h p) ≡ Some reading → From (e ∷ h) p in
      (elim (is_some (ends_as p e)) as P [
        | true ↦ λ some now.
            let ends = ends_some p e some in
            let front : Front h (e ∷ h) = front_more h h e (front_self h) in
            let then_ : heard board w (untagged_since board w h) (Some reading) ≡ true = heard_before board w h (e ∷ h) reading front (ending_front board h e reading now) run heard_it in
            let brings_it : heard board w (untagged_since board w h) (ending_reading board h e) ≡ true = subst (λ r. heard board w (untagged_since board w h) r ≡ true) (sym now) then_ in
            end_from e h p ends.outcome run ends.is (or_right (same_op p w) _ brings_it)
        | false ↦ λ _ older.
            let front : Front h (e ∷ h) = front_more h h e (front_self h) in
            From-kept e h p (got_from h p reading run.1 older (heard_before board w h (e ∷ h) reading front (got_front board h p reading older) run heard_it))
      ]) refl is

  from_knows : (h : List Event) (p q : OpId) → From h p → eqb p.master q.master ≡ true → stands_after p q ≡ true → knows (untagged_since board w h) q ≡ true
  from_knows h p q from same behind =
      let masters : p.master ≡ q.master = eqb-true p.master q.master same in
      let is : untagged_since board w h q.master ≡ Some from.first = subst (λ m. untagged_since board w h m ≡ Some from.first) masters from.is in
      rw is (from.before q behind)

  knows_later : (since : Since) (p q : OpId) → knows since p ≡ true → eqb p.master q.master ≡ true → stands_after p q ≡ true → knows since q ≡ true
  knows_later since p q known same behind =
      let masters : p.master ≡ q.master = eqb-true p.master q.master same in
      let P : Option OpId → Type 0 = λ found. is_behind found p ≡ true → is_behind found q ≡ true in
      let there : is_behind (since p.master) q ≡ true = (elim (since p.master) as P [ None ↦ λ f. cc | Some first ↦ λ f. behind_next first p q f behind ]) known in
      subst (λ m. is_behind (since m) q ≡ true) masters there

  module _ (h : List Event) (run : UntaggedRun board h) where
    now : Since
    now = untagged_since board w h

    -- it knows of the write, or is a read that got what tells of it
    abbrev Knows : OpId → Type 0
    Knows q = (knows (untagged_since board w h) q || heard board w (untagged_since board w h) (untagged_got board h q)) ≡ true

    abbrev Marked : OpId → Type 0
    Marked p = (same_op p w || (knows (untagged_since board w h) p || heard board w (untagged_since board w h) (untagged_got board h p))) ≡ true

    record IsLater (p q : OpId) : Type 0 where
      masters : eqb p.master q.master ≡ true
      ended_it : has_ended h p ≡ true
      behind : stands_after p q ≡ true
      there : is_some (op_of board q) ≡ true

    split_later : (p q : OpId) → later board h p q ≡ true → IsLater p q
    split_later p q is =
        let same : Bool = eqb p.master q.master in
        let first = and_parts (same && has_ended h p && stands_after p q) (is_some (op_of board q)) is in
        let second = and_parts (same && has_ended h p) (stands_after p q) first.0 in
        let third = and_parts same (has_ended h p) second.0 in
        record { masters = third.0; ended_it = third.1; behind = second.1; there = first.1 }

    later_knows : (p q : OpId) → later board h p q ≡ true → Marked p → Knows q
    later_knows p q is mark =
        let since : Since = untagged_since board w h in
        let parts = split_later p q is in
        or_left (knows since q) (heard board w since (untagged_got board h q))
        (or_either (knows since q ≡ true) (same_op p w) (knows since p || heard board w since (untagged_got board h p))
        (λ same.
        let is_w : p ≡ w = same_op_true p w same in
        let ended_w : has_ended h w ≡ true = subst (λ r. has_ended h r ≡ true) is_w parts.ended_it in
        from_knows h p q (subst (From h) (sym is_w) (write_from h run ended_w)) parts.masters parts.behind)
        (λ rest. or_either (knows since q ≡ true) (knows since p) (heard board w since (untagged_got board h p))
        (λ known. knows_later since p q known parts.masters parts.behind)
        (λ heard_it.
        let P : Option Reading → Type 0 = λ found. untagged_got board h p ≡ found → heard board w since found ≡ true → knows since q ≡ true in
        (elim (untagged_got board h p) as P [
          | None ↦ λ _ f. cc
          | Some reading ↦ λ got f. from_knows h p q (got_from h p reading run got f) parts.masters parts.behind
        ]) refl heard_it) rest)
        mark)

    saw_knows : (p q : OpId) → untagged_saw board h q p ≡ true → Marked p → Knows q
    saw_knows p q is mark =
        let since : Since = untagged_since board w h in
        let P : Option Reading → Type 0 = λ found. untagged_got board h q ≡ found → saw_in board p found ≡ true → (knows since q || heard board w since found) ≡ true in
        (elim (untagged_got board h q) as P [
          | None ↦ λ _ f. cc
          | Some reading ↦ λ got f.
              let before : List Event = reading.before in
              let landings : List Landing = landed board before reading.word in
              let parts = and_parts (list_any (is_landing_of p) landings) (has_landed before p) f in
              let front : Front before h = got_front board h q reading got in
              let some = any_some (is_landing_of p) landings parts.0 in
              let one_op : some.0.op ≡ p = same_op_true some.0.op p (find_passes (is_landing_of p) landings some.0 some.1) in
              let told : (same_op p w || knows since p) ≡ true =
              or_either ((same_op p w || knows since p) ≡ true) (same_op p w) (knows since p || heard board w since (untagged_got board h p))
              (λ same. or_left (same_op p w) (knows since p) same)
              (λ rest. or_either ((same_op p w || knows since p) ≡ true) (knows since p) (heard board w since (untagged_got board h p))
              (λ known. or_right (same_op p w) (knows since p) known)
              (λ heard_it.
              let R : Option Reading → Type 0 = λ found. untagged_got board h p ≡ found → heard board w since found ≡ true → (same_op p w || knows since p) ≡ true in
              (elim (untagged_got board h p) as R [
                | None ↦ λ _ g. cc
                | Some other ↦ λ got_p _.
                    let reads_it : reads board p ≡ true = got_reads board h p other got_p in
                    let writes : reads board p ≡ false = landed_writes Untagged board before p (run_front board before h front run) parts.1 in
                    let e : true ≡ false = sym reads_it ∙ writes in
                    cc
              ]) refl heard_it) rest)
              mark in
              let whole = parts.1 in
              let speaks_p : (has_landed before p && (same_op p w || knows since p)) ≡ true = rw (whole, told) refl in
              let speaks_it : speaks w since before some.0 ≡ true = subst (λ o. (has_landed before o && (same_op o w || knows since o)) ≡ true) (sym one_op) speaks_p in
              or_right (knows since q) (list_any (speaks w since before) landings) (found_any (is_landing_of p) (speaks w since before) landings some.0 some.1 speaks_it)
        ]) refl is

    tells_knows : (p q : OpId) → untagged_tells board h p q ≡ true → Marked p → Knows q
    tells_knows p q is mark = or_either (Knows q) (later board h p q) (untagged_saw board h q p) (λ later_it. later_knows p q later_it mark) (λ saw_it. saw_knows p q saw_it mark) is

    chain_knows : (p q : OpId) → UntaggedChain board h p q → Marked p → Knows q
    chain_knows a b (one p q is) mark = tells_knows p q is mark
    chain_knows a b (more p q r is rest) mark = chain_knows q r rest (or_right (same_op q w) _ (tells_knows p q is mark))

    -- an operation that is told is there
    got_there : (q : OpId) (reading : Reading) → untagged_got board h q ≡ Some reading → is_some (op_of board q) ≡ true
    got_there q reading got =
        let S : Option Op → Type 0 = λ found. reads_in found ≡ true → is_some found ≡ true in
        (elim (op_of board q) as S [ None ↦ λ f. cc | Some op ↦ λ _. refl ]) (got_reads board h q reading got)

    tells_there : (p q : OpId) → untagged_tells board h p q ≡ true → is_some (op_of board q) ≡ true
    tells_there p q is =
        or_either (is_some (op_of board q) ≡ true) (later board h p q) (untagged_saw board h q p)
        (λ later_it. (split_later p q later_it).there)
        (λ saw_it.
        let P : Option Reading → Type 0 = λ found. untagged_got board h q ≡ found → saw_in board p found ≡ true → is_some (op_of board q) ≡ true in
        (elim (untagged_got board h q) as P [ None ↦ λ _ f. cc | Some reading ↦ λ got _. got_there q reading got ]) refl saw_it)
        is

    chain_there : (p q : OpId) → UntaggedChain board h p q → is_some (op_of board q) ≡ true
    chain_there a b (one p q is) = tells_there p q is
    chain_there a b (more p q r is rest) = chain_there q r rest

    pub told_known : (r : OpId) → UntaggedTold board h w r → untagged_was_told board h w r ≡ true
    told_known r told =
        let there = chain_there w r told.1 in
        let known = chain_knows w r told.1 (or_left (same_op w w) _ (same_op_self w)) in
        let write = told.0 in
        rw (write, there) known

    -- The write, or told of it by a chain.
    abbrev Linked : OpId → Type 0
    Linked p = (p ≡ w) ⊎ UntaggedChain board h w p

    onward : (p q r : OpId) → UntaggedChain board h p q → untagged_tells board h q r ≡ true → UntaggedChain board h p r
    onward p q r (one a b is) next = more p q r is (one q r next)
    onward p q r (more a b c is rest) next = more p b r is (onward b q r rest next)

    link : (p q : OpId) → Linked p → untagged_tells board h p q ≡ true → UntaggedChain board h w q
    link p q linked is =
        ⊎_elim {C = UntaggedChain board h w q}
        (λ (same : p ≡ w). let F : OpId → Type 0 = λ r. untagged_tells board h r q ≡ true in one w q (subst F same is))
        (λ (chain : UntaggedChain board h w p). onward w p q chain is)
        linked

    -- who knows after a front of the history was told by chains
    abbrev Backed : List Event → Type 0
    Backed g = (master : ℕ) (p : OpId) → untagged_since board w g master ≡ Some p → (p.master ≡ master) × (has_ended h p ≡ true) × Linked p

    knows_linked : (g : List Event) (q : OpId) → Backed g → is_some (op_of board q) ≡ true → knows (untagged_since board w g) q ≡ true → UntaggedChain board h w q
    knows_linked g q backed there known =
        let P : Option OpId → Type 0 = λ since. untagged_since board w g q.master ≡ since → is_behind since q ≡ true → UntaggedChain board h w q in
        (elim (untagged_since board w g q.master) as P [
          | None ↦ λ _ f. cc
          | Some p ↦ λ is behind.
              let old = backed q.master p is in
              let masters : p.master ≡ q.master = old.0 in
              let ended_it = old.1 in
              let self : eqb p.master q.master ≡ true = grind (arith, nat_tests) in
              let is_later : later board h p q ≡ true = rw (self, ended_it, behind, there) refl in
              link p q old.2 (or_left (later board h p q) (untagged_saw board h q p) is_later)
        ]) refl known

    -- a read that got what tells of the write was told by a chain
    heard_linked : (g : List Event) (q : OpId) (reading : Reading) → Backed g → untagged_got board h q ≡ Some reading → heard board w (untagged_since board w g) (Some reading) ≡ true → UntaggedChain board h w q
    heard_linked g q reading backed got is =
        let since : Since = untagged_since board w g in
        let landings : List Landing = landed board reading.before reading.word in
        let found = spoken board w since reading is in
        let o : OpId = found.landing.op in
        let lands : list_any (is_landing_of o) landings ≡ true = found_any (speaks w since reading.before) (is_landing_of o) landings found.landing found.is_found (same_op_self o) in
        let there : is_some (op_of board o) ≡ true = Each-find (IsThere board) (speaks w since reading.before) landings found.landing (landings_there board reading.before reading.word) found.is_found in
        let linked : Linked o =
        or_either (Linked o) (same_op o w) (knows since o) (λ same. inl (same_op_true o w same)) (λ known. inr (knows_linked g o backed there known)) found.tells in
        let whole = found.has_landed_whole in
        let F : Option Reading → Type 0 = λ r. saw_in board o r ≡ true in
        let seen : F (Some reading) = rw (lands, whole) refl in
        link o q linked (or_right (later board h o q) (untagged_saw board h q o) (subst F (sym got) seen))

    event_backed : (e : Event) (g : List Event) → Front (e ∷ g) h → Backed g → Backed (e ∷ g)
    event_backed e g front old master p is =
        let since : Since = untagged_since board w g in
        let heard_it : Bool = heard board w since (ending_reading board g e) in
        let Goal : Type 0 = (p.master ≡ master) × (has_ended h p ≡ true) × Linked p in
        let P : Option OpId → Type 0 = λ found. since master ≡ found → first_known found master w heard_it (ended e) ≡ Some p → Goal in
        let Q : Option Ending → Type 0 = λ found. ended e ≡ found → first_known None master w heard_it found ≡ Some p → Goal in
        (elim (since master) as P [
          | None ↦ λ _ f. (elim (ended e) as Q [
            | None ↦ λ _ k. cc
            | Some ending ↦ λ ends k.
                let brought = first_brought board w master heard_it ending p k in
                let ends_it : is_some (ends_as p e) ≡ true = subst (λ o. is_some (ends_as o e) ≡ true) (sym brought.is_first) (ending_is e ending ends) in
                let ended_it : has_ended h p ≡ true = ended_front p (e ∷ g) h front (or_left (is_some (ends_as p e)) (has_ended g p) ends_it) in
                let masters : p.master ≡ master = ap (λ (o : OpId). o.master) brought.is_first ∙ brought.of_master in
                let linked : Linked p =
                or_either (Linked p) (same_op ending.op w) heard_it
                (λ same. inl (brought.is_first ∙ same_op_true ending.op w same))
                (λ heard_now.
                let R : Option Reading → Type 0 = λ found. ending_reading board g e ≡ found → heard board w since found ≡ true → Linked p in
                (elim (ending_reading board g e) as R [
                  | None ↦ λ _ c. cc
                  | Some reading ↦ λ some c. inr (heard_linked g p reading old (got_at board p e g h run front ends_it ∙ some) c)
                ]) refl heard_now)
                brought.brings_it in
                (masters, ended_it, linked)
          ]) refl f
          | Some first ↦ λ was f. let same : first ≡ p = cc in old master p (was ∙ ap Some same)
        ]) refl is

    all_backed : (g : List Event) → Front g h → Backed g
    all_backed [] front = λ master p is. cc
    all_backed (e ∷ g) front = event_backed e g front (all_backed g (front_front g (e ∷ g) h (front_more g g e (front_self g)) front))

    pub known_told : (r : OpId) → untagged_was_told board h w r ≡ true → UntaggedTold board h w r
    known_told r is =
        let since : Since = untagged_since board w h in
        let got : Option Reading = untagged_got board h r in
        let first = and_parts (is_write board w && is_some (op_of board r)) (knows since r || heard board w since got) is in
        let second = and_parts (is_write board w) (is_some (op_of board r)) first.0 in
        let backed : Backed h = all_backed h (front_self h) in
        let P : Option Reading → Type 0 = λ found. untagged_got board h r ≡ found → heard board w since found ≡ true → UntaggedChain board h w r in
        let chain : UntaggedChain board h w r =
        or_either (UntaggedChain board h w r) (knows since r) (heard board w since got)
        (λ known. knows_linked h r backed second.1 known)
        (λ heard_it. (elim (untagged_got board h r) as P [ None ↦ λ _ f. cc | Some reading ↦ λ some f. heard_linked h r reading backed some f ]) refl heard_it)
        first.1 in
        (second.0, chain)
