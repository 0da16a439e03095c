-- What is kept of the dwords stands for one event more, and what landed can be searched along the programs of the authors.
use Rattle.std.proofs.Common.{◌≡◌, ◌<◌, ◌≤◌, ℕ, zero, suc, Bool, true, false, not, ◌||◌, ◌==◌, eqb-true, nat_lt, length, map, slice_get, List, [], ◌∷◌, Option, Some, None, is_some, refl, sym, ap, subst, ◌∙◌, arith}
use Rattle.std.specs.List.{AllByRecursion}
use Rattle.std.proofs.lemmas.Bool.Decides.{nat_tests}
use Rattle.std.proofs.lemmas.Bool.{and_parts, or_left, or_right}
use Rattle.pci_command.specs.declared.op_id.OpId.{OpId}
use Rattle.pci_command.specs.Same.{same_op}
use Rattle.board_model.specs.declared.board.Board.{Board}
use Rattle.board_model.specs.Requests.{op_of, reads}
use Rattle.board_model.specs.Valid.{IsValid}
use Rattle.history_model.specs.declared.event.Event.{Event}
use Rattle.history_model.specs.Words.{Landing, landed}
use Rattle.history_model.specs.Knowledge.{is_write, has_landed}
use Rattle.history_model.specs.Runs.{Run}
use Rattle.history_model.proofs.facts.RequestLemmas.{same_op_true}
use Rattle.law_fresh.specs.Aware.{is_behind, knows, aware_of}
use Rattle.law_fresh.proofs.Laws.{or_either}
use Rattle.law_fresh.proofs.Laws.{write_op, same_place}
use Rattle.law_audit.proofs.StartLemmas.{start_stays}
use Rattle.law_audit.proofs.OrderLemmas.{earlier_known, landings_know}
use Rattle.law_audit.proofs.WrittenLemmas.{landings_write}
use Rattle.board_model.specs.declared.word.Word.{Word}
use Rattle.audit_clocks.specs.Tables.{writes_in, dword}
use Rattle.audit_clocks.specs.Tracks.{in_order_at}
use Rattle.audit_landings.specs.Hits.{op_of_landing}
use Rattle.audit_landings.specs.Told.{ToldsFor}
use Rattle.audit_landings.specs.Notes.{LandingNotes, AreLandings}
use Rattle.audit_landings.proofs.Laws.{whole_has, same_stand, tolds_over}
use Rattle.audit_text.specs.Notes.{Notes, Happens}
use Rattle.audit_text.specs.Found.{knows_by}
use Rattle.audit_text.specs.Search.{is_known, tells_of, KnowsAlways, Searchable}
use Rattle.audit_text.specs.Stands.{StandsFor}

-- What is kept of the dwords.

-- what landed whole goes on telling what it told
pub tolds_next : (board : Board) (h : List Event) (e : Event) (index : ℕ) (notes new : Notes) → Run board (e ∷ h) → StandsFor board h notes → StandsFor board (e ∷ h) new → Happens board index e notes new
    → ToldsFor (length board.masters) new.landings.whole new.clocks.starts new.landings.landed new.landings.tolds
tolds_next board h e index notes new run stands next happens =
    let M : ℕ = length board.masters in
    let looked : LandingNotes = happens.looked in
    let still : AreLandings board h looked = same_stand board h notes.landings looked happens.same stands.landings in
    let told : ToldsFor M looked.whole new.clocks.starts looked.landed looked.tolds =
    tolds_over M looked.whole notes.clocks.starts new.clocks.starts looked.landed looked.tolds happens.tolds
    (λ o author below is.
    let landed_it : has_landed h o ≡ true = sym (whole_has h o) ∙ sym (ap is_some (still.whole o)) ∙ is in
    next.starts o author below ∙ start_stays board e h o author run landed_it ∙ sym (stands.starts o author below)) in
    happens.happened.told M new.clocks.starts told

-- What landed can be searched.

each_op : (Q : OpId → Type 0) (xs : List Landing) (i : ℕ) (w : OpId) → AllByRecursion (λ (l : Landing). Q l.op) xs → slice_get (map op_of_landing xs) i ≡ Some w → Q w
each_op Q [] i w all is = cc
each_op Q (x ∷ xs) zero w all is = let same : x.op ≡ w = cc in subst Q same all.0
each_op Q (x ∷ xs) (suc i) w all is = each_op Q xs i w all.1 is

-- two operations in the order of their program
record InOrder (a b : Option OpId) : Type 0 where
  first : OpId
  second : OpId
  first_is : a ≡ Some first
  second_is : b ≡ Some second
  masters : first.master ≡ second.master
  indices : first.index ≤ second.index

order_of : (a b : Option OpId) → in_order_at a b ≡ true → InOrder a b
order_of None b is = cc
order_of (Some p) None is = cc
order_of (Some p) (Some q) is =
    let parts = and_parts (p.master == q.master) (not (nat_lt q.index p.index)) is in
    record { first = p; second = q; first_is = refl; second_is = refl; masters = eqb-true p.master q.master parts.0; indices = above parts.1 }
  where
    above : not (nat_lt q.index p.index) ≡ true → p.index ≤ q.index
    above not_less = grind (arith, nat_tests)

behind_later : (found : Option OpId) (u v : OpId) → u.index < v.index → is_behind found u ≡ true → is_behind found v ≡ true
behind_later None u v below is = cc
behind_later (Some p) u v below is = grind (arith, nat_tests)

or_swap : (a b : Bool) → (a || b) ≡ true → (b || a) ≡ true
or_swap true b is = or_right b true refl
or_swap false b is = or_left b false is

module _ (board : Board) (valid : IsValid board) (h : List Event) (notes : Notes) (run : Run board h) (stands : StandsFor board h notes) where
  abbrev writes : Word → List OpId
  writes word = writes_in word notes.landings.landed

  landed_at : (word : Word) (i : ℕ) (w : OpId) → slice_get (writes word) i ≡ Some w → slice_get (map op_of_landing (landed board h (dword word))) i ≡ Some w
  landed_at word i w is = ap (λ xs. slice_get xs i) (sym (stands.landings.landed word)) ∙ is

  is_write_at : (word : Word) (i : ℕ) (w : OpId) → slice_get (writes word) i ≡ Some w → is_write board w ≡ true
  is_write_at word i w is = each_op (λ o. is_write board o ≡ true) (landed board h (dword word)) i w (landings_write board h (dword word) run) (landed_at word i w is)

  noted : (w q : OpId) → is_write board w ≡ true → knows_by notes w q ≡ knows (aware_of board w h) q
  noted w q is = ap (λ found. is_behind found q) (stands.since w q.master is)

  known_earlier : (r : OpId) → KnowsAlways notes r
  known_earlier r = λ word i j order is.
      let both : InOrder (slice_get (writes word) i) (slice_get (writes word) j) = order_of (slice_get (writes word) i) (slice_get (writes word) j) order in
      let w_writes : is_write board both.first ≡ true = is_write_at word i both.first both.first_is in
      let v_writes : is_write board both.second ≡ true = is_write_at word j both.second both.second_is in
      let known : knows_by notes both.second r ≡ true = sym (ap (λ found. is_known notes r found) both.second_is) ∙ is in
      ap (λ found. is_known notes r found) both.first_is
      ∙ noted both.first r w_writes
      ∙ earlier_known board valid h both.first both.second r run w_writes v_writes both.masters both.indices (sym (noted both.second r v_writes) ∙ known)

  later_tells : (w u v : OpId) (word : Word) (i j : ℕ) → is_write board w ≡ true → slice_get (writes word) i ≡ Some u → slice_get (writes word) j ≡ Some v → u.master ≡ v.master → u.index ≤ v.index
      → (same_op u w || knows_by notes w u) ≡ true → (same_op v w || knows_by notes w v) ≡ true
  later_tells w u v word i j w_writes u_is v_is masters indices is =
      let X : OpId → Type 0 = λ o. (same_op o w || knows_by notes w o) ≡ true in
      let u_writes : is_write board u ≡ true = is_write_at word i u u_is in
      let v_writes : is_write board v ≡ true = is_write_at word j v v_is in
      let P : Bool → Type 0 = λ b. nat_lt u.index v.index ≡ b → X v in
      (elim (nat_lt u.index v.index) as P [
        | false ↦ λ ge.
            let same : v.index ≡ u.index = grind (arith, nat_tests) in
            let there : is_some (op_of board v) ≡ true = (and_parts (is_some (op_of board v)) (not (reads board v)) v_writes).0 in
            let one : v ≡ u = same_place board u v (write_op board u u_writes) there (sym masters) same in
            subst X (sym one) is
        | true ↦ λ lt.
            let below : u.index < v.index = grind (arith, nat_tests) in
            or_either (X v) (same_op u w) (knows_by notes w u)
            (λ here.
            let one : u ≡ w = same_op_true u w here in
            let w_masters : w.master ≡ v.master = subst (λ (o : OpId). o.master ≡ v.master) one masters in
            let w_indices : w.index ≤ v.index = subst (λ (o : OpId). o.index ≤ v.index) one indices in
            let own_known = each_op (λ o. w.master ≡ o.master → w.index ≤ o.index → (knows (aware_of board w h) o || same_op o w) ≡ true) (landed board h (dword word)) j v
            (landings_know board valid h (dword word) w run w_writes) (landed_at word j v v_is) in
            ap (λ b. same_op v w || b) (noted w v w_writes) ∙ or_swap (knows (aware_of board w h) v) (same_op v w) (own_known w_masters w_indices))
            (λ known.
            let mine : is_behind (Rattle.audit_text.specs.Found.since_of notes w v.master) u ≡ true = subst (λ m. is_behind (Rattle.audit_text.specs.Found.since_of notes w m) u ≡ true) masters known in
            or_right (same_op v w) (knows_by notes w v) (behind_later (Rattle.audit_text.specs.Found.since_of notes w v.master) u v below mine)) is
      ]) refl

  pub can_search : Searchable notes
  can_search =
      record {
        known = known_earlier;
        told = λ word0 k w w_is word i j order is.
            let both : InOrder (slice_get (writes word) i) (slice_get (writes word) j) = order_of (slice_get (writes word) i) (slice_get (writes word) j) order in
            ap (λ found. tells_of notes w found) both.second_is
            ∙ later_tells w both.first both.second word i j (is_write_at word0 k w w_is) both.first_is both.second_is both.masters both.indices (sym (ap (λ found. tells_of notes w found) both.first_is) ∙ is);
      }
