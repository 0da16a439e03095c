-- What a read got and who tells whom stays so to the end of a run.
use Rattle.std.proofs.Common.{◌≡◌, Bool, true, false, ◌&&◌, ◌==◌, cond, List, [], ◌∷◌, Option, Some, None, is_some, refl, sym, ap, subst}
use Rattle.std.proofs.lemmas.Bool.{and_parts, or_left, or_right}
use Rattle.pci_command.specs.declared.op_id.OpId.{OpId}
use Rattle.board_model.specs.declared.board.Board.{Board}
use Rattle.board_model.specs.Requests.{op_of}
use Rattle.history_model.specs.declared.event.Event.{Event}
use Rattle.history_model.specs.Knowledge.{Reading, ends_with, has_ended, up_to_end, last_reading, got, saw_in, saw, stands_after, later, tells}
use Rattle.history_model.specs.Runs.{Run}
use Rattle.law_fresh.proofs.Laws.{Front, front_end, front_front, read_by, or_either}
use Rattle.law_audit.specs.Links.{Leads, IsChain}
use Rattle.law_audit.proofs.FirstLemmas.{end_at, ended_later}

-- the end of a read that got something
pub record GotAt (board : Board) (h : List Event) (r : OpId) (reading : Reading) : Type 0 where
  pub event : Event
  pub before : List Event
  pub front : Front (event ∷ before) h
  pub ends : is_some (ends_with r event) ≡ true
  pub is_last : last_reading board r (event ∷ before) ≡ Some reading

pub got_at : (board : Board) (h : List Event) (r : OpId) (reading : Reading) → got board h r ≡ Some reading → GotAt board h r reading
got_at board [] r reading is = cc
got_at board (e ∷ h) r reading is =
    let P : Bool → Type 0 = λ b. is_some (ends_with r e) ≡ b → last_reading board r (cond b (e ∷ h) (up_to_end r h)) ≡ Some reading → GotAt board (e ∷ h) r reading in
    (elim (is_some (ends_with r e)) as P [
      | true ↦ λ ends last. record { event = e; before = h; front = record { later = []; is = refl }; ends = ends; is_last = last }
      | false ↦ λ _ last.
          let old = got_at board h r reading last in
          record { event = old.event; before = old.before; front = record { later = e ∷ old.front.later; is = ap (λ g. e ∷ g) old.front.is }; ends = old.ends; is_last = old.is_last }
    ]) refl is

-- what was read stands in the history
pub got_front : (board : Board) (h : List Event) (r : OpId) (reading : Reading) → got board h r ≡ Some reading → Front reading.before h
got_front board h r reading is =
    let upto : List Event = up_to_end r h in
    let read = read_by board r upto r reading is in
    let first : Front reading.before (read.event ∷ reading.before) = record { later = read.event ∷ []; is = refl } in
    front_front reading.before upto h (front_front reading.before (read.event ∷ reading.before) upto first read.front) (front_end r h)

-- an operation that stands behind another one of its master
pub record Later (board : Board) (h : List Event) (p q : OpId) : Type 0 where
  pub masters : (p.master == q.master) ≡ true
  pub ended_it : has_ended h p ≡ true
  pub after : stands_after p q ≡ true
  pub there : is_some (op_of board q) ≡ true

pub split_later : (board : Board) (h : List Event) (p q : OpId) → later board h p q ≡ true → Later board h p q
split_later board h p q is =
    let same : Bool = p.master == q.master in
    let first = and_parts (same && has_ended h p && stands_after p q) (is_some (op_of board q)) is in
    let second = and_parts (same && has_ended h p) (stands_after p q) first.0 in
    let third = and_parts same (has_ended h p) second.0 in
    record { masters = third.0; ended_it = third.1; after = second.1; there = first.1 }

module _ (board : Board) (g h : List Event) (run : Run board h) (front : Front g h) where
  pub got_kept : (q : OpId) (reading : Reading) → got board g q ≡ Some reading → got board h q ≡ Some reading
  got_kept q reading is =
      let at = got_at board g q reading is in
      let F : List Event → Type 0 = λ k. last_reading board q k ≡ Some reading in
      let ends : up_to_end q h ≡ at.event ∷ at.before = end_at board q at.event at.before h run (front_front (at.event ∷ at.before) g h at.front front) at.ends in
      subst F (sym ends) at.is_last

  later_kept : (p q : OpId) → later board g p q ≡ true → later board h p q ≡ true
  later_kept p q is =
      let parts = split_later board g p q is in
      let ended_it : has_ended h p ≡ true = subst (λ k. has_ended k p ≡ true) front.is (ended_later p front.later g parts.ended_it) in
      rw (parts.masters, ended_it, parts.after, parts.there) refl

  saw_kept : (q p : OpId) → saw board g q p ≡ true → saw board h q p ≡ true
  saw_kept q p is =
      let P : Option Reading → Type 0 = λ found. got board g q ≡ found → saw_in board p found ≡ true → saw board h q p ≡ true in
      (elim (got board g q) as P [
        | None ↦ λ _ f. cc
        | Some reading ↦ λ some f. let F : Option Reading → Type 0 = λ found. saw_in board p found ≡ true in subst F (sym (got_kept q reading some)) f
      ]) refl is

  tells_kept : (p q : OpId) → tells board g p q ≡ true → tells board h p q ≡ true
  tells_kept p q is =
      or_either (tells board h p q ≡ true) (later board g p q) (saw board g q p)
      (λ behind. or_left (later board h p q) (saw board h q p) (later_kept p q behind))
      (λ seen. or_right (later board h p q) (saw board h q p) (saw_kept q p seen)) is

  leads_kept : (p : OpId) (rest : List OpId) (r : OpId) → Leads board g p rest r → Leads board h p rest r
  leads_kept p [] r is = is
  leads_kept p (q ∷ rest) r is = (tells_kept p q is.0, leads_kept q rest r is.1)

  pub chain_kept : (w r : OpId) (chain : List OpId) → IsChain board g w r chain → IsChain board h w r chain
  chain_kept w r [] is = is
  chain_kept w r (first ∷ rest) is = (is.0, leads_kept first rest r is.1)
