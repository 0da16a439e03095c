-- A chain of an audit tells, operation by operation: each step goes to a master that came to know strictly earlier.
use Rattle.std.proofs.Common.{◌≡◌, ℕ, zero, suc, ◌+◌, ◌<◌, ◌≤◌, Bool, true, false, ◌&&◌, ◌||◌, cond, eqb, eqb-true, List, [], ◌∷◌, ◌++◌, append_assoc, length, Option, Some, None, is_some, refl, sym, ap, subst, ◌∙◌, arith}
use Rattle.std.specs.List.{find, list_any}
use Rattle.std.proofs.lemmas.Bool.{and_parts, or_left, or_right}
use Rattle.std.proofs.lemmas.Bool.Decides.{nat_tests}
use Rattle.list_facts.proofs.AnyLemmas.{any_some, found_any}
use Rattle.list_facts.proofs.EachLemmas.{Each-weaker, Each-find}
use Rattle.list_facts.proofs.FindLemmas.{find_passes}
use Rattle.pci_command.specs.declared.op_id.OpId.{OpId}
use Rattle.pci_command.specs.Same.{same_op}
use Rattle.board_model.specs.declared.board.Board.{Board}
use Rattle.board_model.specs.Requests.{op_of}
use Rattle.board_model.specs.Valid.{IsValid}
use Rattle.history_model.specs.declared.event.Event.{Event}
use Rattle.history_model.specs.declared.rule.Rule.TheVariants.{Tagged}
use Rattle.history_model.specs.Program.{Ending, ended}
use Rattle.history_model.specs.Words.{Landing, landed}
use Rattle.history_model.specs.Knowledge.{value_in, Reading, value_of_ending, outcome_in, ends_as, ends_with, has_ended, up_to_end, reading_in, reading_or, last_reading, got, has_landed, is_landing_of, saw_in, saw, stands_after, later, tells, is_write}
use Rattle.history_model.specs.Runs.{Run}
use Rattle.history_model.proofs.facts.RequestLemmas.{same_op_true, same_op_self}
use Rattle.law_fresh.specs.Aware.{Aware, knows, shows, shown, first_known, taught_by, taught_after, aware_of}
use Rattle.law_fresh.specs.Told.{was_told}
use Rattle.law_fresh.proofs.Laws.{LandingBegun, LandingsBegun-run, IsThere, landings_there, since_kept, first_brought, got_since, Front, front_run, front_front, before_in, or_either}
use Rattle.law_audit.specs.Chains.{op_in, shown_by, first_shown, to_seen, to_reader, chain_to, chain_from, chain_of}
use Rattle.law_fresh.proofs.Laws.{WriteOp, write_op}
use Rattle.law_audit.specs.Links.{IsChain}
use Rattle.law_audit.proofs.LinkLemmas.{chain_push, chain_joined, knowers, knowers_most, knowers_more, knowers_rise, knowers_some}
use Rattle.law_audit.proofs.MasterLemmas.{master_number, ended_there}
use Rattle.law_audit.proofs.KnownLemmas.{same_knows, find_same}
use Rattle.law_audit.proofs.FirstLemmas.{ends_it, end_at, ended_later, since_front, behind_first, own_first}

-- What an operation was taught it was shown by a reading.

record Shown (board : Board) (w : OpId) (upto before : List Event) (o : OpId) : Type 0 where
  reading : Reading
  is_last : last_reading board o upto ≡ Some reading
  front : Front reading.before before
  is_shown : shown board w (aware_of board w reading.before) reading.before reading.word ≡ true

-- by this event, or by one before
shown_or : (board : Board) (w : OpId) (e : Event) (g : List Event) (o : OpId) → (reading_in board g o e ≡ None → (aware_of board w g).taught o ≡ true → Shown board w (e ∷ g) g o)
    → (aware_of board w (e ∷ g)).taught o ≡ true → Shown board w (e ∷ g) g o
shown_or board w e g o older is =
    let P : Option Reading → Type 0 = λ here. reading_in board g o e ≡ here → taught_by board w (aware_of board w g) ((aware_of board w g).taught o) here ≡ true → Shown board w (e ∷ g) g o in
    (elim (reading_in board g o e) as P [
      | None ↦ λ none f. older none f
      | Some reading ↦ λ some f.
          let before : reading.before ≡ g = before_in board g o e reading some in
          let F : Option Reading → Type 0 = λ here. reading_or here (last_reading board o g) ≡ Some reading in
          record {
            reading = reading;
            is_last = subst F (sym some) refl;
            front = record { later = []; is = before };
            is_shown = subst (λ k. shown board w (aware_of board w k) reading.before reading.word ≡ true) (sym before) f;
          }
    ]) refl is

shown_later : (board : Board) (w : OpId) (e d : Event) (g : List Event) (o : OpId) → Shown board w (d ∷ g) g o → reading_in board (d ∷ g) o e ≡ None → Shown board w (e ∷ d ∷ g) (d ∷ g) o
shown_later board w e d g o old none =
    let F : Option Reading → Type 0 = λ here. reading_or here (last_reading board o (d ∷ g)) ≡ Some old.reading in
    record {
      reading = old.reading;
      is_last = subst F (sym none) old.is_last;
      front = record { later = d ∷ old.front.later; is = ap (λ k. d ∷ k) old.front.is };
      is_shown = old.is_shown;
    }

taught_shown : (board : Board) (w : OpId) (e : Event) (g : List Event) (o : OpId) → (aware_of board w (e ∷ g)).taught o ≡ true → Shown board w (e ∷ g) g o
taught_shown board w e [] o is = shown_or board w e [] o (λ none f. cc) is
taught_shown board w e (d ∷ g) o is =
    shown_or board w e (d ∷ g) o (λ none f. shown_later board w e d g o (taught_shown board w d g o f) none) is

module _ (board : Board) (valid : IsValid board) (w : OpId) (write : WriteOp board w) (h : List Event) (run : Run board h) where
  abbrev since_now : ℕ → Option OpId
  since_now = (aware_of board w h).since

  abbrev pub counted : List Event → ℕ
  counted g = knowers w.master (aware_of board w g).since (length board.masters)

  -- an operation tells a later one of its master
  tells_later : (p q : OpId) → p.master ≡ q.master → has_ended h p ≡ true → stands_after p q ≡ true → is_some (op_of board q) ≡ true → tells board h p q ≡ true
  tells_later p q masters ended_it after there =
      let self : eqb p.master q.master ≡ true = grind (arith, nat_tests) in
      let is_later : later board h p q ≡ true = rw (self, ended_it, after, there) refl in
      or_left (later board h p q) (saw board h q p) is_later

  -- the write that a read saw first, that tells it and is the write or knows of it
  record Saw (before : List Event) (q : OpId) : Type 0 where
    op : OpId
    is_first : first_shown board w h q ≡ Some op
    tells_it : tells board h op q ≡ true
    there : is_some (op_of board op) ≡ true
    known : (same_op op w || knows (aware_of board w before) op) ≡ true

  saw_first : (q : OpId) (reading : Reading) → Front reading.before h → got board h q ≡ Some reading → shown board w (aware_of board w reading.before) reading.before reading.word ≡ true → Saw reading.before q
  saw_first q reading front got_it is =
      let before : List Event = reading.before in
      let landings : List Landing = landed board before reading.word in
      let then_shows : Landing → Bool = shows w (aware_of board w before) before in
      let now_shows : Landing → Bool = shows w (aware_of board w h) before in
      let alike : (l : Landing) → LandingBegun board before l → now_shows l ≡ then_shows l = λ l begun. ap (λ b. has_landed before l.op && (same_op l.op w || b)) (same_knows board w l.op before h front run begun) in
      let same : find now_shows landings ≡ find then_shows landings = find_same now_shows then_shows landings
      (Each-weaker (LandingBegun board before) (λ l. now_shows l ≡ then_shows l) alike landings (LandingsBegun-run Tagged board before reading.word (front_run board before h front run))) in
      let some = any_some then_shows landings is in
      let landing : Landing = some.0 in
      let parts = and_parts (has_landed before landing.op) (same_op landing.op w || knows (aware_of board w before) landing.op) (find_passes then_shows landings landing some.1) in
      let lands : list_any (is_landing_of landing.op) landings ≡ true = found_any then_shows (is_landing_of landing.op) landings landing some.1 (same_op_self landing.op) in
      let seen : saw_in board landing.op (Some reading) ≡ true = rw (lands, parts.0) refl in
      let F : Option Reading → Type 0 = λ found. saw_in board landing.op found ≡ true in
      let saw_it : saw board h q landing.op ≡ true = subst F (sym got_it) seen in
      let G : Option Reading → Type 0 = λ found. shown_by board w (aware_of board w h) found ≡ Some landing.op in
      let first : shown_by board w (aware_of board w h) (Some reading) ≡ Some landing.op = ap op_in (same ∙ some.1) in
      record {
        op = landing.op;
        is_first = subst G (sym got_it) first;
        tells_it = or_right (later board h landing.op q) (saw board h q landing.op) saw_it;
        there = Each-find (IsThere board) then_shows landings landing (landings_there board before reading.word) some.1;
        known = parts.1;
      }

  -- what is known of the operation with which a master came to know
  pub record Reached (m : ℕ) (p : OpId) (least : ℕ) : Type 0 where
    pub of_master : p.master ≡ m
    pub ended_it : has_ended h p ≡ true
    pub is_chain : (n : ℕ) → least ≤ n → IsChain board h w p (chain_to n board w h p)

  own_chain : (p : OpId) → p ≡ w → (n : ℕ) → 1 ≤ n → IsChain board h w p (chain_to n board w h p)
  own_chain p is zero least = absurd (omega (arith, least))
  own_chain p is (suc n) least =
      let self : same_op p w ≡ true = subst (λ o. same_op o w ≡ true) (sym is) (same_op_self w) in
      rw self (refl, sym is)

  -- the chain to a read that saw such a write
  seen_chain : (n : ℕ) (before : List Event) (q : OpId) → Front before h → same_op q w ≡ false → (saw : Saw before q)
      → ((m : ℕ) (p : OpId) → (aware_of board w before).since m ≡ Some p → Reached m p n) → 1 ≤ n → IsChain board h w q (chain_to (suc n) board w h q)
  seen_chain n before q front other saw old least =
      let v : OpId = saw.op in
      let chain : OpId → List OpId = λ p. chain_to n board w h p in
      let to_v : IsChain board h w v (to_seen chain (since_now v.master) v) =
      or_either (IsChain board h w v (to_seen chain (since_now v.master) v)) (same_op v w) (knows (aware_of board w before) v)
      (λ same.
      let is : v ≡ w = same_op_true v w same in
      let P : Option OpId → Type 0 = λ found. since_now w.master ≡ found → IsChain board h w w (to_seen chain found w) in
      let at_w : IsChain board h w w (to_seen chain (since_now w.master) w) = (elim (since_now w.master) as P [
        | None ↦ λ _. (refl, refl)
        | Some p ↦ λ some.
            let own : p ≡ w = own_first board w write h p run some in
            chain_joined board h w (chain p) p w (own_chain p own n least) (λ apart.
            let self : same_op p w ≡ true = subst (λ o. same_op o w ≡ true) (sym own) (same_op_self w) in
            let clash : true ≡ false = sym self ∙ apart in
            cc)
      ]) refl in
      subst (λ o. IsChain board h w o (to_seen chain (since_now o.master) o)) (sym is) at_w)
      (λ known.
      let first = behind_first (aware_of board w before) v known in
      let reached = old v.master first.first first.is in
      let now : since_now v.master ≡ Some first.first = since_front board w before h front v.master first.first first.is in
      let F : Option OpId → Type 0 = λ found. IsChain board h w v (to_seen chain found v) in
      let there : F (Some first.first) = chain_joined board h w (chain first.first) first.first v (reached.is_chain n (omega arith)) (λ _. tells_later first.first v reached.of_master reached.ended_it first.after saw.there) in
      subst F (sym now) there)
      saw.known in
      let G : Option OpId → Type 0 = λ found. IsChain board h w q (to_reader chain since_now q found) in
      let read : G (Some v) = chain_push board h w (to_seen chain (since_now v.master) v) v q to_v saw.tells_it in
      let whole : G (first_shown board w h q) = subst G (sym saw.is_first) read in
      rw other whole

  write_counts : w.master < length board.masters
  write_counts = master_number board w (ap is_some write.is_op)

  weaker : (m : ℕ) (p : OpId) (least more : ℕ) → least ≤ more → Reached m p least → Reached m p more
  weaker m p least more below_it old =
      record { of_master = old.of_master; ended_it = old.ended_it; is_chain = λ n at_least. old.is_chain n (omega (arith, below_it, at_least)) }

  new_chain : (g before : List Event) (q : OpId) → Front before g → Front before h → Saw before q → same_op q w ≡ false
      → ((m : ℕ) (p : OpId) → (aware_of board w g).since m ≡ Some p → Reached m p (counted g)) → (n : ℕ) → counted g + 1 ≤ n → IsChain board h w q (chain_to n board w h q)
  new_chain g before q in_g in_h saw other old zero least = absurd (omega (arith, least))
  new_chain g before q in_g in_h saw other old (suc n) least =
      let some = knowers_some w.master (aware_of board w g).since (length board.masters) write_counts in
      let enough : counted g ≤ n = omega (arith, least) in
      seen_chain n before q in_h other saw
      (λ m p is. weaker m p (counted g) n enough (old m p (since_front board w before g in_g m p is)))
      (omega (arith, some, enough))

  with_value : (e : Event) (ending : Ending) → ended e ≡ Some ending → is_some (value_in ending.outcome) ≡ true → is_some (ends_with ending.op e) ≡ true
  with_value e ending is some =
      let F : Option Ending → Type 0 = λ found. is_some (value_of_ending (outcome_in ending.op found)) ≡ true in
      let self = same_op_self ending.op in
      let there : F (Some ending) = rw self some in
      subst F (sym is) there

  more_know : (e : Event) (g : List Event) (m : ℕ) → is_some ((aware_of board w g).since m) ≡ true → is_some ((aware_of board w (e ∷ g)).since m) ≡ true
  more_know e g m is =
      let P : Option OpId → Type 0 = λ found. (aware_of board w g).since m ≡ found → is_some found ≡ true → is_some ((aware_of board w (e ∷ g)).since m) ≡ true in
      (elim ((aware_of board w g).since m) as P [ None ↦ λ _ f. cc | Some p ↦ λ some _. ap is_some (since_kept board w e g m p some) ]) refl is

  -- one that ends and was taught of the write, where its master knew nothing
  taught_chain : (e : Event) (g : List Event) (ending : Ending) → Front (e ∷ g) h → Front g h → ended e ≡ Some ending → (aware_of board w g).since ending.op.master ≡ None
      → (aware_of board w (e ∷ g)).since ending.op.master ≡ Some ending.op → same_op ending.op w ≡ false → is_some (value_in ending.outcome) ≡ true → (aware_of board w (e ∷ g)).taught ending.op ≡ true
      → ((m : ℕ) (p : OpId) → (aware_of board w g).since m ≡ Some p → Reached m p (counted g)) → (n : ℕ) → counted (e ∷ g) ≤ n → IsChain board h w ending.op (chain_to n board w h ending.op)
  taught_chain e g ending front rest ends none now other value taught old n least =
      let q : OpId = ending.op in
      let run_e : Run board (e ∷ g) = front_run board (e ∷ g) h front run in
      let found = taught_shown board w e g q taught in
      let in_h : Front found.reading.before h = front_front found.reading.before g h found.front rest in
      let F : List Event → Type 0 = λ k. last_reading board q k ≡ Some found.reading in
      let got_it : got board h q ≡ Some found.reading = subst F (sym (end_at board q e g h run front (with_value e ending ends value))) found.is_last in
      let saw : Saw found.reading.before q = saw_first q found.reading in_h got_it found.is_shown in
      let R : Bool → Type 0 = λ b. eqb q.master w.master ≡ b → b ≡ false in
      let apart : eqb q.master w.master ≡ false = (elim (eqb q.master w.master) as R [
        | true ↦ λ same.
            let masters : q.master ≡ w.master = eqb-true q.master w.master same in
            let own : q ≡ w = own_first board w write (e ∷ g) q run_e (subst (λ m. (aware_of board w (e ∷ g)).since m ≡ Some q) masters now) in
            let self : same_op q w ≡ true = subst (λ o. same_op o w ≡ true) (sym own) (same_op_self w) in
            let clash : true ≡ false = sym self ∙ other in
            cc
        | false ↦ λ _. refl
      ]) refl in
      let number = master_number board q (ended_there board e g ending run_e ends) in
      let rise : counted g + 1 ≤ counted (e ∷ g) = knowers_rise w.master (aware_of board w g).since (aware_of board w (e ∷ g)).since (more_know e g) q.master apart (ap is_some none) (ap is_some now) (length board.masters) number in
      new_chain g found.reading.before q found.front in_h saw other old n (omega (arith, rise, least))

  -- one that ends and brings knowledge of the write to its master
  reached_new : (e : Event) (g : List Event) (ending : Ending) → Front (e ∷ g) h → Front g h → ended e ≡ Some ending → (aware_of board w g).since ending.op.master ≡ None
      → (aware_of board w (e ∷ g)).since ending.op.master ≡ Some ending.op → (same_op ending.op w || (is_some (value_in ending.outcome) && (aware_of board w (e ∷ g)).taught ending.op)) ≡ true
      → ((m : ℕ) (p : OpId) → (aware_of board w g).since m ≡ Some p → Reached m p (counted g)) → Reached ending.op.master ending.op (counted (e ∷ g))
  reached_new e g ending front rest ends none now brings old =
      let q : OpId = ending.op in
      let taught : Bool = (aware_of board w (e ∷ g)).taught q in
      let some = knowers_some w.master (aware_of board w (e ∷ g)).since (length board.masters) write_counts in
      let ended_here : has_ended (e ∷ g) q ≡ true = or_left (is_some (ends_as q e)) (has_ended g q) (ends_it e ending ends) in
      record {
        of_master = refl;
        ended_it = subst (λ k. has_ended k q ≡ true) front.is (ended_later q front.later (e ∷ g) ended_here);
        is_chain = λ n least.
            let R : Bool → Type 0 = λ b. same_op q w ≡ b → (b || (is_some (value_in ending.outcome) && taught)) ≡ true → IsChain board h w q (chain_to n board w h q) in
            (elim (same_op q w) as R [
              | true ↦ λ same _. own_chain q (same_op_true q w same) n (omega (arith, some, least))
              | false ↦ λ other both.
                  let parts = and_parts (is_some (value_in ending.outcome)) taught both in
                  taught_chain e g ending front rest ends none now other parts.0 parts.1 old n least
            ]) refl brings;
      }

  -- the chain to the operation with which a master came to know of the write
  pub Reached-run : (g : List Event) → Front g h → (m : ℕ) (p : OpId) → (aware_of board w g).since m ≡ Some p → Reached m p (counted g)
  Reached-run [] front m p is = cc
  Reached-run (e ∷ g) front m p is =
      let rest : Front g h = record { later = front.later ++ e ∷ []; is = append_assoc front.later (e ∷ []) g ∙ front.is } in
      let old : (k : ℕ) (o : OpId) → (aware_of board w g).since k ≡ Some o → Reached k o (counted g) = Reached-run g rest in
      let aware : Aware = aware_of board w g in
      let taught : OpId → Bool = taught_after board w aware g e in
      let P : Option OpId → Type 0 = λ found. aware.since m ≡ found → first_known found m w taught (ended e) ≡ Some p → Reached m p (counted (e ∷ g)) in
      let Q : Option Ending → Type 0 = λ ending. ended e ≡ ending → first_known None m w taught ending ≡ Some p → aware.since m ≡ None → Reached m p (counted (e ∷ g)) in
      (elim (aware.since m) as P [
        | None ↦ λ none f. (elim (ended e) as Q [
          | None ↦ λ _ k _. cc
          | Some ending ↦ λ ends k none.
              let brought = first_brought m w taught ending p k in
              let masters : m ≡ ending.op.master = sym brought.of_master in
              let new_none : aware.since ending.op.master ≡ None = subst (λ j. aware.since j ≡ None) masters none in
              let new_some : (aware_of board w (e ∷ g)).since ending.op.master ≡ Some ending.op = subst (λ o. (aware_of board w (e ∷ g)).since ending.op.master ≡ Some o) brought.is_first (subst (λ j. (aware_of board w (e ∷ g)).since j ≡ Some p) masters is) in
              let new : Reached ending.op.master ending.op (counted (e ∷ g)) = reached_new e g ending front rest ends new_none new_some brought.brings_it old in
              subst (λ o. Reached m o (counted (e ∷ g))) (sym brought.is_first) (subst (λ j. Reached j ending.op (counted (e ∷ g))) brought.of_master new)
        ]) refl f none
        | Some first ↦ λ was f.
            let same : first ≡ p = cc in
            weaker m p (counted g) (counted (e ∷ g)) (knowers_more w.master aware.since (aware_of board w (e ∷ g)).since (more_know e g) (length board.masters)) (old m p (was ∙ ap Some same))
      ]) refl is

  same_or_after : (p r : OpId) → p.master ≡ r.master → same_op p r ≡ false → stands_after p (record { master = r.master; index = r.index; attempt = r.attempt + 1 }) ≡ true → stands_after p r ≡ true
  same_or_after p r masters other after = grind (arith, nat_tests)

  -- the chain to an operation that was told
  told_chain : (r : OpId) → was_told board h w r ≡ true → IsChain board h w r (chain_from board w h r (since_now r.master))
  told_chain r is =
      let upto : List Event = up_to_end r h in
      let known : Bool = knows (aware_of board w h) r in
      let taught : Bool = (aware_of board w upto).taught r in
      let first = and_parts (is_write board w && is_some (op_of board r)) (known || taught) is in
      let there : is_some (op_of board r) ≡ true = (and_parts (is_write board w) (is_some (op_of board r)) first.0).1 in
      let whole : Front h h = record { later = []; is = refl } in
      let most = knowers_most w.master since_now (length board.masters) in
      let F : Option OpId → Type 0 = λ found. IsChain board h w r (chain_from board w h r found) in
      let by : (p : OpId) → since_now r.master ≡ Some p → (same_op p r ≡ false → stands_after p r ≡ true) → F (since_now r.master) = λ p some after.
      let reached = Reached-run h whole r.master p some in
      let there_it : F (Some p) = chain_joined board h w (chain_to (length board.masters) board w h p) p r (reached.is_chain (length board.masters) most)
      (λ other. tells_later p r reached.of_master reached.ended_it (after other) there) in
      subst F (sym some) there_it in
      or_either (F (since_now r.master)) known taught
      (λ knows_it. let behind = behind_first (aware_of board w h) r knows_it in by behind.first behind.is (λ _. behind.after))
      (λ taught_it.
      let since = got_since board w h r run taught_it in
      let next : OpId = record { master = r.master; index = r.index; attempt = r.attempt + 1 } in
      let after_next : stands_after r next ≡ true = grind (arith, nat_tests) in
      by since.first since.is (λ other. same_or_after since.first r (Reached-run h whole r.master since.first since.is).of_master other (since.before next after_next)))
      first.1

-- each operation of a chain tells the next, from the write to the operation
pub chain_tells : (board : Board) (h : List Event) (w r : OpId) (chain : List OpId) → IsValid board → Run board h → chain_of board h w r ≡ Some chain → IsChain board h w r chain
chain_tells board h w r chain valid run is =
    let made : List OpId = chain_from board w h r ((aware_of board w h).since r.master) in
    let P : Bool → Type 0 = λ b. was_told board h w r ≡ b → cond b (Some made) None ≡ Some chain → IsChain board h w r chain in
    (elim (was_told board h w r) as P [
      | true ↦ λ told some.
          let same : made ≡ chain = cc in
          let writes = (and_parts (is_write board w) (is_some (op_of board r)) (and_parts (is_write board w && is_some (op_of board r)) _ told).0).0 in
          subst (IsChain board h w r) same (told_chain board valid w (write_op board w writes) h run r told)
      | false ↦ λ _ none. cc
    ]) refl is
