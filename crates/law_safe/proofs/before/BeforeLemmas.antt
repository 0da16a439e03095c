-- A write that comes before a read was told to it, and a read that comes before a write does not read it.
use Rattle.std.proofs.Common.{◌≡◌, ℕ, ◌<◌, Bool, true, false, ◌&&◌, ◌||◌, not, eqb, cond, List, [], ◌∷◌, ◌++◌, Option, Some, None, is_some, refl, sym, ap, subst, ◌∙◌, arith, ◌⊎◌, ⊎_elim, slice_get}
use Rattle.std.specs.List.{list_any}
use Rattle.std.proofs.lemmas.Bool.Decides.{nat_tests}
use Rattle.pci_command.specs.declared.op_id.OpId.{OpId}
use Rattle.pci_command.specs.declared.op_id.Outcome.{Outcome}
use Rattle.pci_command.specs.Same.{same_op}
use Rattle.board_model.specs.declared.op.Op.{Op}
use Rattle.board_model.specs.declared.op.Op.TheVariants.{Read as ReadOp, Write, CfgRead, CfgWrite, Poll}
use Rattle.board_model.specs.declared.board.Board.{Board}
use Rattle.board_model.specs.Requests.{op_of, tries_of, reads}
use Rattle.board_model.specs.Ways.{Dword}
use Rattle.board_model.specs.Valid.{IsValid}
use Rattle.history_model.specs.declared.event.By.{By}
use Rattle.history_model.specs.declared.event.Event.{Event}
use Rattle.history_model.specs.declared.rule.Rule.TheVariants.{Tagged}
use Rattle.history_model.specs.Program.{ended, turn_of}
use Rattle.history_model.specs.Answers.{wants}
use Rattle.history_model.specs.Words.{landed}
use Rattle.history_model.specs.Knowledge.{Reading, value_of_ending, ends_as, ends_with, has_ended, up_to_end, got, has_landed, is_landing_of, stands_after, is_write, Told}
use Rattle.history_model.specs.Runs.{Run}
use Rattle.law_lanes.specs.order.One.{ends_at_master}
use Rattle.law_lanes.proofs.order.Laws.{turn_not_ended}
use Rattle.std.proofs.lemmas.Bool.{and_parts, or_left, or_right}
use Rattle.list_facts.proofs.AnyLemmas.{any_some, found_any}
use Rattle.list_facts.proofs.FindLemmas.{find_passes}
use Rattle.history_model.proofs.facts.RequestLemmas.{same_op_true, same_op_self}
use Rattle.law_bound.proofs.changes.Laws.{entry_of}
use Rattle.law_fresh.proofs.reads.Laws.{master_there}
use Rattle.law_fresh.specs.Aware.{Aware, knows, shows, shown, aware_of}
use Rattle.law_fresh.specs.Told.{was_told}
use Rattle.law_fresh.proofs.BackLemmas.{ended_front}
use Rattle.law_fresh.proofs.SinceLemmas.{since_knows, knows_later}
use Rattle.law_fresh.proofs.Laws.{known_told, ends_turn, ends_as_ended, knows_kept, write_since, Since, got_since, Front, read_by}
use Rattle.law_fresh.proofs.Laws.{write_op, same_place}
use Rattle.law_delivered.proofs.left.Laws.{got_there, read_at}
use Rattle.safe_model.specs.Clocks.{Table, is_poll, IsConsistent, IsBefore}
use Rattle.law_safe.proofs.writes.OnceLemmas.{any_times}
use Rattle.law_safe.proofs.before.OrderLemmas.{ends_as_here, before_front, Sound, sound_front, Passes, wanted_known, read_known, write_known}

-- A write: who comes after it knows of it.

module _ (board : Board) (valid : IsValid board) (w : OpId) (writes : is_write board w ≡ true) where
  abbrev Known : List Event → OpId → Type 0
  Known h q = knows (aware_of board w h) q ≡ true

  same_master : (p q : OpId) → p.master ≡ q.master → eqb p.master q.master ≡ true
  same_master p q masters = grind (arith, nat_tests)

  write_there : (f : OpId) → is_write board f ≡ true → is_some (op_of board f) ≡ true
  write_there f is = (and_parts (is_some (op_of board f)) (not (reads board f)) is).0

  own_known : (e : Event) (h : List Event) (p q : OpId) (outcome : Outcome) → Run board (e ∷ h) → ended e ≡ Some (record { op = p; outcome = outcome }) → is_some (op_of board p) ≡ true → p.master ≡ w.master → p.index ≡ w.index → p.master ≡ q.master → stands_after p q ≡ true → Known (e ∷ h) q
  own_known e h p q outcome run ends there masters indices others behind =
      let one : p ≡ w = same_place board w p (write_op board w writes) there masters indices in
      let ended_p : has_ended (e ∷ h) p ≡ true = or_left (is_some (ends_as p e)) (has_ended h p) (ap is_some (ends_as_here e p outcome ends)) in
      let ended_w : has_ended (e ∷ h) w ≡ true = subst (λ o. has_ended (e ∷ h) o ≡ true) one ended_p in
      let since : Since board w (e ∷ h) p = subst (Since board w (e ∷ h)) (sym one) (write_since board w (e ∷ h) run ended_w) in
      since_knows board w (e ∷ h) p q since (same_master p q others) behind

  seen_known : (e : Event) (h : List Event) (p q : OpId) (reading : Reading) (f : OpId) → Run board (e ∷ h) → got board (e ∷ h) p ≡ Some reading → is_write board f ≡ true
      → list_any (is_landing_of f) (landed board reading.before reading.word) ≡ true → has_landed reading.before f ≡ true → Front reading.before h
      → ((f.master ≡ w.master) × (f.index ≡ w.index)) ⊎ Known reading.before f → p.master ≡ q.master → stands_after p q ≡ true → Known (e ∷ h) q
  seen_known e h p q reading f run is_got f_writes lands whole front known others behind =
      let before : List Event = reading.before in
      let upto : List Event = up_to_end p (e ∷ h) in
      let read = read_by board w upto p reading is_got in
      let aware : Aware = aware_of board w before in
      let told : (same_op f w || knows aware f) ≡ true =
      ⊎_elim {C = (same_op f w || knows aware f) ≡ true}
      (λ (same : (f.master ≡ w.master) × (f.index ≡ w.index)).
      let one : f ≡ w = same_place board w f (write_op board w writes) (write_there f f_writes) same.0 same.1 in
      or_left (same_op f w) (knows aware f) (subst (λ o. same_op f o ≡ true) one (same_op_self f)))
      (λ (knows_it : Known before f). or_right (same_op f w) (knows aware f) knows_it)
      known in
      let some = any_some (is_landing_of f) (landed board before reading.word) lands in
      let one_op : some.0.op ≡ f = same_op_true some.0.op f (find_passes (is_landing_of f) (landed board before reading.word) some.0 some.1) in
      let shows_f : (has_landed before f && (same_op f w || knows aware f)) ≡ true = rw (whole, told) refl in
      let shows_it : shows w aware before some.0 ≡ true = subst (λ o. (has_landed before o && (same_op o w || knows aware o)) ≡ true) (sym one_op) shows_f in
      let is_shown : shown board w aware before reading.word ≡ true = found_any (is_landing_of f) (shows w aware before) (landed board before reading.word) some.0 some.1 shows_it in
      let since : Since board w (e ∷ h) p = got_since board w (e ∷ h) p run (read.taught ∙ is_shown) in
      since_knows board w (e ∷ h) p q since (same_master p q others) behind

  write_passes : Passes board w Known
  write_passes = record {
    kept = λ e h q run is. knows_kept board w e h q is;
    later = λ h p q masters behind is. knows_later (aware_of board w h) p q is (same_master p q masters) behind;
    own = own_known;
    seen = seen_known;
  }

  known_front : (later before : List Event) (q : OpId) → Known before q → Known (later ++ before) q
  known_front [] before q is = is
  known_front (e ∷ later) before q is = knows_kept board w e (later ++ before) q (known_front later before q is)

  -- so a read that knew of it at its reading was told
  pub got_told : (h : List Event) (r : OpId) (reading : Reading) → Run board h → got board h r ≡ Some reading → Known reading.before r → Told board h w r
  got_told h r reading run is_got then =
      let at = read_at board h r reading valid run is_got in
      let now : Known h r = subst (λ g. Known g r) at.before.is (known_front at.before.later reading.before r then) in
      let there : is_some (op_of board r) ≡ true = ap is_some at.is_op in
      let taught : Bool = (aware_of board w (up_to_end r h)).taught r in
      let either : (knows (aware_of board w h) r || taught) ≡ true = or_left (knows (aware_of board w h) r) taught now in
      let told : was_told board h w r ≡ true = rw (writes, there) either in
      known_told board w h run r told

  -- and what is presented and comes after it knows of it
  pub wanted_knows : (table : Table) → IsConsistent board table → (h : List Event) (on : ℕ) (by : By) (q : OpId) → Run board h → Sound board table h → wants board h on by q ≡ true → IsBefore board table w q → Known h q
  wanted_knows table consistent h on by q run sound wanted is_before = wanted_known board valid table consistent w Known write_passes h on by q run sound wanted is_before

  -- so a read that comes after it was told
  pub read_told : (table : Table) → IsConsistent board table → (h : List Event) (r : OpId) (reading : Reading) → Run board h → Sound board table h → got board h r ≡ Some reading → IsBefore board table w r → Told board h w r
  read_told table consistent h r reading run sound is_got is_before = got_told h r reading run is_got (read_known board valid table consistent w Known write_passes h r reading run sound is_got is_before)

  -- and so was a write that comes after it, where it has landed
  pub write_told : (table : Table) → IsConsistent board table → (h : List Event) (x : OpId) (word : Dword) → Run board h → Sound board table h → list_any (is_landing_of x) (landed board h word) ≡ true → is_write board x ≡ true → IsBefore board table w x → Told board h w x
  write_told table consistent h x word run sound lands x_writes is_before =
      let now : Known h x = write_known board valid table consistent w Known write_passes h x word run sound lands is_before in
      let there : is_some (op_of board x) ≡ true = write_there x x_writes in
      let taught : Bool = (aware_of board w (up_to_end x h)).taught x in
      let either : (knows (aware_of board w h) x || taught) ≡ true = or_left (knows (aware_of board w h) x) taught now in
      let told : was_told board h w x ≡ true = rw (writes, there) either in
      known_told board w h run x told

-- A read: what comes after it lands after its reading.

once_tries : (op : Op) → is_poll (Some op) ≡ false → tries_of op ≡ 1
once_tries (ReadOp command address) none = refl
once_tries (Write command address phases) none = refl
once_tries (CfgRead bus device register) none = refl
once_tries (CfgWrite bus device register phase) none = refl
once_tries (Poll space address want tries) none = cc

-- an operation at the place of one that is no poll is that operation
pub same_once : (board : Board) (r o : OpId) (its : Op) → op_of board r ≡ Some its → is_poll (Some its) ≡ false → is_some (op_of board o) ≡ true → o.master ≡ r.master → o.index ≡ r.index → o ≡ r
same_once board r o its is_its no_poll there masters indices =
    let built : ℕ → ℕ → ℕ → OpId = λ master index attempt. record { master = master; index = index; attempt = attempt } in
    let P : Option Op → Type 0 = λ found. op_of board o ≡ found → is_some found ≡ true → o ≡ r in
    (elim (op_of board o) as P [
      | None ↦ λ _ f. cc
      | Some op ↦ λ is_op _.
          let agent = master_there board o op is_op in
          let mine = entry_of board o op agent.0 is_op agent.1 in
          let its_agent : slice_get board.masters r.master ≡ Some agent.0 = subst (λ n. slice_get board.masters n ≡ Some agent.0) masters agent.1 in
          let entry = entry_of board r its agent.0 is_its its_agent in
          let there_too : slice_get agent.0.ops r.index ≡ Some op = subst (λ n. slice_get agent.0.ops n ≡ Some op) indices mine.there in
          let ops : Some op ≡ Some its = sym there_too ∙ entry.there in
          let one_op : op ≡ its = cc in
          let tries : tries_of its ≡ 1 = once_tries its no_poll in
          let my_tries : tries_of op ≡ 1 = ap tries_of one_op ∙ tries in
          let below : o.attempt < 1 = subst (λ n. o.attempt < n) my_tries mine.tries in
          let its_below : r.attempt < 1 = subst (λ n. r.attempt < n) tries entry.tries in
          let attempts : o.attempt ≡ r.attempt = omega (arith, below, its_below) in
          ap (λ n. built n o.index o.attempt) masters ∙ ap (λ n. built r.master n o.attempt) indices ∙ ap (built r.master r.index) attempts
    ]) refl there

-- an operation that ends did not end before
ends_anew : (board : Board) (e : Event) (h : List Event) (o : OpId) → Run board (e ∷ h) → is_some (ends_with o e) ≡ true → has_ended h o ≡ true → (X : Type 0) → X
ends_anew board e h o run with_value old X =
    let P : Option Outcome → Type 0 = λ given. ends_as o e ≡ given → is_some (value_of_ending given) ≡ true → X in
    (elim (ends_as o e) as P [
      | None ↦ λ _ f. cc
      | Some outcome ↦ λ ends _.
          let turn : turn_of board h o.master ≡ Some o = ends_turn Tagged board e h (record { op = o; outcome = outcome }) run (ends_as_ended o e outcome ends) in
          let none = turn_not_ended board h o run.1 turn in
          let some = any_times (ends_at_master o) h old in
          absurd (omega (arith, none, some))
    ]) refl with_value

-- before its reading a read has not ended
not_yet : (board : Board) (r : OpId) (x : Event) (b h : List Event) → Run board h → Front (x ∷ b) (up_to_end r h) → has_ended b r ≡ true → (X : Type 0) → X
not_yet board r x b [] run front old X = by_later front.later front.is
  where
    by_later : (later : List Event) → later ++ (x ∷ b) ≡ [] → X
    by_later [] is = cc
    by_later (y ∷ later) is = cc
not_yet board r x b (e ∷ h) run front old X =
    let P : Bool → Type 0 = λ t. is_some (ends_with r e) ≡ t → Front (x ∷ b) (cond t (e ∷ h) (up_to_end r h)) → X in
    (elim (is_some (ends_with r e)) as P [
      | true ↦ λ with_value here. ends_anew board e h r run with_value (ended_front r b h (before_front x b e h here) old) X
      | false ↦ λ _ older. not_yet board r x b h run.1 older old X
    ]) refl front

module _ (board : Board) (valid : IsValid board) (r : OpId) (its : Op) (is_its : op_of board r ≡ Some its) (no_poll : is_poll (Some its) ≡ false) (reads_it : reads board r ≡ true) where
  abbrev Ended : List Event → OpId → Type 0
  Ended h q = has_ended h r ≡ true

  own_ended : (e : Event) (h : List Event) (p q : OpId) (outcome : Outcome) → Run board (e ∷ h) → ended e ≡ Some (record { op = p; outcome = outcome }) → is_some (op_of board p) ≡ true → p.master ≡ r.master → p.index ≡ r.index → p.master ≡ q.master → stands_after p q ≡ true → Ended (e ∷ h) q
  own_ended e h p q outcome run ends there masters indices others behind =
      let one : p ≡ r = same_once board r p its is_its no_poll there masters indices in
      let ended_p : has_ended (e ∷ h) p ≡ true = or_left (is_some (ends_as p e)) (has_ended h p) (ap is_some (ends_as_here e p outcome ends)) in
      subst (λ o. has_ended (e ∷ h) o ≡ true) one ended_p

  seen_ended : (e : Event) (h : List Event) (p q : OpId) (reading : Reading) (f : OpId) → Run board (e ∷ h) → got board (e ∷ h) p ≡ Some reading → is_write board f ≡ true
      → list_any (is_landing_of f) (landed board reading.before reading.word) ≡ true → has_landed reading.before f ≡ true → Front reading.before h
      → ((f.master ≡ r.master) × (f.index ≡ r.index)) ⊎ Ended reading.before f → p.master ≡ q.master → stands_after p q ≡ true → Ended (e ∷ h) q
  seen_ended e h p q reading f run is_got f_writes lands whole front known others behind =
      let parts = and_parts (is_some (op_of board f)) (not (reads board f)) f_writes in
      ⊎_elim {C = Ended (e ∷ h) q}
      (λ (same : (f.master ≡ r.master) × (f.index ≡ r.index)).
      let one : f ≡ r = same_once board r f its is_its no_poll parts.0 same.0 same.1 in
      let none : not (reads board r) ≡ true = subst (λ o. not (reads board o) ≡ true) one parts.1 in
      let F : Bool → Type 0 = λ b. not b ≡ true in
      let e : F true = subst F reads_it none in
      cc)
      (λ (old : Ended reading.before f). or_right (is_some (ends_as r e)) (has_ended h r) (ended_front r reading.before h front old))
      known

  read_passes : Passes board r Ended
  read_passes = record {
    kept = λ e h q run is. or_right (is_some (ends_as r e)) (has_ended h r) is;
    later = λ h p q masters behind is. is;
    own = own_ended;
    seen = seen_ended;
  }

  -- so what comes after it has not landed before its reading, in any word
  pub not_landed : (table : Table) → IsConsistent board table → (h : List Event) (w : OpId) (reading : Reading) → Run board h → Sound board table h → got board h r ≡ Some reading → IsBefore board table r w → list_any (is_landing_of w) (landed board reading.before reading.word) ≡ false
  not_landed table consistent h w reading run sound is_got is_before =
      let at = read_at board h r reading valid run is_got in
      let upto : List Event = up_to_end r h in
      let read = read_by board r upto r reading is_got in
      let P : Bool → Type 0 = λ b. list_any (is_landing_of w) (landed board reading.before reading.word) ≡ b → b ≡ false in
      (elim (list_any (is_landing_of w) (landed board reading.before reading.word)) as P [
        | true ↦ λ lands.
            let old : has_ended reading.before r ≡ true = write_known board valid table consistent r Ended read_passes reading.before w reading.word at.run.1 (sound_front board table reading.before h at.before sound) lands is_before in
            not_yet board r read.event reading.before h run read.front old (true ≡ false)
        | false ↦ λ _. refl
      ]) refl

pub read_after : (board : Board) (valid : IsValid board) (table : Table) → IsConsistent board table → (h : List Event) (w r : OpId) (reading : Reading) → Run board h → Sound board table h → is_poll (op_of board r) ≡ false → got board h r ≡ Some reading → IsBefore board table r w
    → list_any (is_landing_of w) (landed board reading.before reading.word) ≡ false
read_after board valid table consistent h w r reading run sound no_poll is_got is_before =
    let at = read_at board h r reading valid run is_got in
    let none : is_poll (Some at.op) ≡ false = sym (ap is_poll at.is_op) ∙ no_poll in
    not_landed board valid r at.op at.is_op none (got_there board h r reading run is_got) table consistent h w reading run sound is_got is_before
