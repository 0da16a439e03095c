-- The writes of a put stand in the program of a master.
use Rattle.std.proofs.Common.{◌≡◌, ◌⊎◌, inl, inr, ℕ, zero, suc, ◌+◌, ◌<◌, ◌≤◌, Bool, true, false, cond, not, List, [], ◌∷◌, ◌++◌, length, slice_index_or, flat_map, Option, Some, None, Result, Ok, Err, refl, sym, ap, subst, ◌∙◌, arith, append_assoc, append-nil, nat_le}
use Rattle.std.specs.Prelude.{Contains}
use Rattle.std.specs.List.{list_all, Any}
use Rattle.std.proofs.lemmas.Bool.Decides.{nat_tests}
use Rattle.board_model.specs.declared.agents.Master.{Master}
use Rattle.board_model.specs.declared.board.Board.{Board}
use Rattle.board_model.specs.declared.op.Op.{Op}
use Rattle.board_model.specs.WellFormed.{operations_in}
use Rattle.text_faults.specs.declared.board_line.LineFault.{LineFault}
use Rattle.text_faults.specs.declared.device.DeviceFault.{DeviceFault}
use Rattle.text_faults.specs.declared.device.DeviceFault.TheVariants.{Misshapen, Misplaced}
use Rattle.board_parser.specs.declared.draft.draft.Draft.{Draft}
use Rattle.board_parser.specs.declared.draft.draft.AgentPlace.{AgentPlace}
use Rattle.board_parser.specs.declared.draft.draft.AgentPlace.TheVariants.{OfMaster}
use Rattle.board_parser.specs.draft.Drafts.{with_owner, board_of}
use Rattle.board_parser.specs.draft.Masters.{add_op, add_master, does}
use Rattle.board_parser.specs.draft.Targets.{agent_fault}
use Rattle.board_parser.proofs.draft.AddedLemmas.{on_master-ok, add_op-ok, unless-ok}
use Rattle.dma_agents.specs.declared.line.DeviceLine.{DeviceLine}
use Rattle.dma_agents.specs.declared.line.DeviceLine.TheVariants.{Device, Handler, Puts, Gets, Sends, Looks, Waits, Writes}
use Rattle.dma_agents.specs.declared.line.DeviceOwner.{DeviceOwner}
use Rattle.dma_agents.specs.declared.making.Making.{Making}
use Rattle.dma_agents.specs.declared.put.Put.{Put}
use Rattle.dma_agents.specs.Put.{cut, Placed, bytes_of, run_of, bytes_put}
use Rattle.dma_agents.specs.DeviceLines.{device_line}
use Rattle.dma_agents.specs.Adding.{stands, is_placed, limited, then_adds, add_one, add_ops, line_added}
use Rattle.dma_agents.specs.Made.{Made, with_draft, made_read}
use Rattle.dma_agents.specs.Said.{HasPut, IsPut, device_lines}
use Rattle.dma_agents.proofs.PutLemmas.{put_bytes}
use Rattle.dma_agents.proofs.FormedLemmas.{put_long}
use Rattle.dma_agents.proofs.StepLemmas.{OnDraft, Keeps, line_may, line_keeps, OnMaking, LinesKeep}
use Rattle.dma_agents.proofs.ToldLemmas.{Among, Starts, Gives, text_told}

-- Some element.

among_any : {X : Type 0} (P : X → Type 0) (xs : List X) → Among P xs → Any P xs
among_any P [] among = absurd among
among_any P (x ∷ xs) among =
    elim among [
      | inl here ↦ (0, x, omega arith, refl, here)
      | inr more ↦ let found = among_any P xs more in
          let within = found.2 in (suc found.0, found.1, omega (arith, within), found.3, found.4)
    ]

among_more : {X : Type 0} (P : X → Type 0) (xs : List X) (y : X) → Among P xs → Among P (xs ++ y ∷ [])
among_more P [] y among = absurd among
among_more P (x ∷ xs) y among = elim among [ inl here ↦ inl here | inr more ↦ inr (among_more P xs y more) ]

among_last : {X : Type 0} (P : X → Type 0) (xs : List X) (y : X) → P y → Among P (xs ++ y ∷ [])
among_last P [] y last = inl last
among_last P (x ∷ xs) y last = inr (among_last P xs y last)

among_changed : {X : Type 0} (P : X → Type 0) (xs : List X) (x y : X) → (P x → P y) → Among P (xs ++ x ∷ []) → Among P (xs ++ y ∷ [])
among_changed P [] x y one among = elim among [ inl here ↦ inl (one here) | inr none ↦ absurd none ]
among_changed P (z ∷ xs) x y one among = elim among [ inl here ↦ inl here | inr more ↦ inr (among_changed P xs x y one more) ]

-- It stays.

grown : (put : Put) (master changed : Master) (op : Op) → changed ≡ record master { ops = master.ops ++ op ∷ [] } → HasPut put master → HasPut put changed
grown put master changed op is has =
    let longer : changed.ops ≡ master.ops ++ op ∷ [] = ap (λ (m : Master). m.ops) is in
    let inner : (has.writes ++ has.after) ++ op ∷ [] ≡ has.writes ++ (has.after ++ op ∷ []) = append_assoc has.writes has.after (op ∷ []) in
    record {
      before = has.before;
      writes = has.writes;
      after = has.after ++ op ∷ [];
      stand =
          longer
          ∙ ap (λ ops. ops ++ op ∷ []) has.stand
          ∙ append_assoc has.before (has.writes ++ has.after) (op ∷ [])
          ∙ ap (λ ops. has.before ++ ops) inner;
      bytes = has.bytes;
    }

-- a master of the draft has the put
abbrev OnSheet : Put → Draft → Type 0
OnSheet put draft = Among (HasPut put) (board_of draft).masters

op_stays : (put : Put) (draft next : Draft) (op : Op) → OnSheet put draft → does draft op false ≡ Ok next → OnSheet put next
op_stays put draft next op has is =
    let done = on_master-ok draft (add_op (operations_in (board_of draft).masters) op false) next is in
    let added = add_op-ok (operations_in (board_of draft).masters) op false done.master done.changed done.did in
    let P : AgentPlace → Type 0 = λ owner. Among (HasPut put) (with_owner draft.board owner).masters in
    let before = subst P done.was has in
    subst (OnSheet put) (sym done.is) (among_changed (HasPut put) draft.board.masters done.master done.changed (grown put done.master done.changed op added.is) before)

master_stays : (put : Put) (draft next : Draft) (name : List ℕ) (bus : ℕ) → OnSheet put draft → add_master draft.wide (board_of draft) name bus ≡ Ok next → OnSheet put next
master_stays put draft next name bus has is =
    let done = unless-ok (agent_fault (board_of draft) name bus) _ next is in
    subst (OnSheet put) (sym done.1) (among_more (HasPut put) (board_of draft).masters _ has)

abbrev any_op : Op → Bool
any_op op = true

put_stays : (put : Put) → Keeps (OnSheet put) any_op
put_stays put = record { op = λ draft next op _ has is. op_stays put draft next op has is; master = master_stays put }

all_any : (ops : List Op) → list_all any_op ops ≡ true
all_any [] = refl
all_any (op ∷ ops) = all_any ops

line_any : (line : DeviceLine) → line_may any_op line ≡ true
line_any (Device name target bell) = refl
line_any (Handler name bus wait) = refl
line_any (Puts put) = all_any (cut put)
line_any (Gets address) = refl
line_any (Sends address message) = refl
line_any (Looks address) = refl
line_any (Waits flag) = refl
line_any (Writes address value) = refl

abbrev OnMade : Put → Making → Type 0
OnMade put making = OnSheet put making.sheet

with_sheet : (put : Put) (making : Making) (number : ℕ) (line : DeviceLine) (step : Result Draft DeviceFault) → OnDraft (OnSheet put) step → OnMaking (OnMade put) (with_draft making number line step)
with_sheet put making number line (Ok draft) holds = holds
with_sheet put making number line (Err fault) holds = tt

lines_keep : (put : Put) → LinesKeep (OnMade put)
lines_keep put = record {
  line = λ making number words line is holds.
      with_sheet put making number line (line_added making.owner making.sheet line)
      (line_keeps (OnSheet put) any_op (put_stays put) making.owner making.sheet line (line_any line) holds);
}

-- It begins.

-- the operations of the master that began last end with these
record EndsWith (draft : Draft) (done : List Op) : Type 0 where
  master : Master
  was : draft.owner ≡ OfMaster master
  before : List Op
  stand : master.ops ≡ before ++ done

limited-ok : (step : Result Draft LineFault) (next : Draft) → limited step ≡ Ok next → step ≡ Ok next
limited-ok (Ok draft) next is = cc
limited-ok (Err fault) next is = absurd (cc)

then_on : (R : Draft → Type 0) (step : Result Draft DeviceFault) (later : Draft → Result Draft DeviceFault)
    → ((next : Draft) → step ≡ Ok next → OnDraft R (later next)) → OnDraft R (then_adds step later)
then_on R (Ok draft) later each = each draft refl
then_on R (Err fault) later each = tt

one_begins : (draft next : Draft) (op : Op) → does draft op false ≡ Ok next → EndsWith next (op ∷ [])
one_begins draft next op is =
    let done = on_master-ok draft (add_op (operations_in (board_of draft).masters) op false) next is in
    let added = add_op-ok (operations_in (board_of draft).masters) op false done.master done.changed done.did in
    record { master = done.changed; was = ap (λ (d : Draft). d.owner) done.is; before = done.master.ops; stand = ap (λ (m : Master). m.ops) added.is }

same_master : (a b : Master) → OfMaster a ≡ OfMaster b → a ≡ b
same_master a b is = cc

one_more : (draft next : Draft) (done : List Op) (op : Op) → EndsWith draft done → does draft op false ≡ Ok next → EndsWith next (done ++ op ∷ [])
one_more draft next done op ends is =
    let did = on_master-ok draft (add_op (operations_in (board_of draft).masters) op false) next is in
    let added = add_op-ok (operations_in (board_of draft).masters) op false did.master did.changed did.did in
    let same : ends.master ≡ did.master = same_master ends.master did.master (sym ends.was ∙ did.was) in
    record {
      master = did.changed;
      was = ap (λ (d : Draft). d.owner) did.is;
      before = ends.before;
      stand =
          ap (λ (m : Master). m.ops) added.is
          ∙ ap (λ (m : Master). m.ops ++ op ∷ []) (sym same)
          ∙ ap (λ ops. ops ++ op ∷ []) ends.stand
          ∙ append_assoc ends.before done (op ∷ []);
    }

ops_more : (draft : Draft) (done ops : List Op) → EndsWith draft done → OnDraft (λ next. EndsWith next (done ++ ops)) (add_ops draft ops)
ops_more draft done [] ends = subst (EndsWith draft) (sym (append-nil done)) ends
ops_more draft done (op ∷ ops) ends =
    then_on (λ next. EndsWith next (done ++ op ∷ ops)) (add_one draft op) (λ next. add_ops next ops) (λ next is.
    let more = ops_more next (done ++ op ∷ []) ops (one_more draft next done op ends (limited-ok (does draft op false) next is)) in
    subst (λ all. OnDraft (λ last. EndsWith last all) (add_ops next ops)) (append_assoc done (op ∷ []) ops) more)

nothing_put : (put : Put) (count at : ℕ) → 1 ≤ count → [] ≡ run_of put count at → ⊥
nothing_put put zero at some is = absurd (omega (arith, some))
nothing_put put (suc count) at some is = absurd (cc)

put_there : (put : Put) (writes : List Op) (draft : Draft) → flat_map bytes_of writes ≡ bytes_put put → EndsWith draft writes → OnSheet put draft
put_there put writes draft bytes ends =
    let P : AgentPlace → Type 0 = λ owner. Among (HasPut put) (with_owner draft.board owner).masters in
    let has : HasPut put ends.master = record { before = ends.before; writes = writes; after = []; stand = ends.stand ∙ ap (λ ops. ends.before ++ ops) (sym (append-nil writes)); bytes = bytes } in
    subst P (sym ends.was) (among_last (HasPut put) draft.board.masters ends.master has)

put_on : (put : Put) (writes : List Op) (step : Result Draft DeviceFault) → flat_map bytes_of writes ≡ bytes_put put → OnDraft (λ next. EndsWith next writes) step → OnDraft (OnSheet put) step
put_on put writes (Ok draft) bytes ends = put_there put writes draft bytes ends
put_on put writes (Err fault) bytes ends = tt

ops_put : (put : Put) (writes : List Op) (draft : Draft) → 1 ≤ put.length → flat_map bytes_of writes ≡ bytes_put put → OnDraft (OnSheet put) (add_ops draft writes)
ops_put put [] draft some bytes = absurd (nothing_put put put.length put.address some bytes)
ops_put put (op ∷ ops) draft some bytes =
    put_on put (op ∷ ops) (add_ops draft (op ∷ ops)) bytes (
    then_on (λ next. EndsWith next (op ∷ ops)) (add_one draft op) (λ next. add_ops next ops) (λ next is.
    ops_more next (op ∷ []) ops (one_begins draft next op (limited-ok (does draft op false) next is))))

long_put : (put : Put) (words : List (List ℕ)) → device_line words ≡ Ok (Puts put) → 1 ≤ put.length
long_put put words is = let some : nat_le 1 put.length ≡ true = put_long words put is in grind (arith, nat_tests)

put_starts : (put : Put) → Starts (OnMade put) (Puts put)
put_starts put = λ making number words is.
    let some = long_put put words is in
    let core : OnDraft (OnSheet put) (add_ops making.sheet (cut put)) = ops_put put (cut put) making.sheet some (put_bytes put some) in
    let Q : Bool → Type 0 = λ b. OnDraft (OnSheet put) (cond b (Err Misplaced) (add_ops making.sheet (cut put))) in
    let placed : Q (not (is_placed (Puts put))) = elim (not (is_placed (Puts put))) as Q [ true ↦ tt | false ↦ core ] in
    let R : Bool → Type 0 = λ b. OnDraft (OnSheet put) (cond b (Err Misshapen) (cond (not (is_placed (Puts put))) (Err Misplaced) (add_ops making.sheet (cut put)))) in
    with_sheet put making number (Puts put) (line_added making.owner making.sheet (Puts put))
    (elim (not (stands making.owner (Puts put))) as R [ true ↦ tt | false ↦ placed ])

-- the writes of each put stand in the program of a master of the board
pub puts_stand : (text : List ℕ) (made : Made) (put : Put) → made_read text ≡ Ok made → Contains (device_lines text) (Puts put) → IsPut made.board put
puts_stand text made put is there =
    text_told (OnMade put) (λ m. IsPut m.board put) (Puts put) (lines_keep put) (put_starts put) (λ making first holds _. among_any (HasPut put) (board_of making.sheet).masters holds) text made is there
