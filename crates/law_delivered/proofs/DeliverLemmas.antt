-- A flag that is clear delivers.
use Rattle.std.proofs.Common.{◌≡◌, ℕ, ◌<◌, ◌≤◌, Bool, true, false, ◌||◌, eqb, eqb-true, cond, filter, List, [], length, Option, Some, None, is_some, refl, sym, ap, subst, ◌∙◌, arith}
use Rattle.std.specs.List.{list_any, list_all, AllByRecursion}
use Rattle.std.proofs.lemmas.Bool.Decides.{nat_tests}
use Rattle.list_facts.specs.Lists.{total}
use Rattle.pci_command.specs.declared.command.Command.TheVariants.{MemWrite}
use Rattle.pci_command.specs.declared.command.Space.TheVariants.{Mem}
use Rattle.pci_command.specs.declared.phases.Phase.{Phase}
use Rattle.pci_command.specs.declared.op_id.OpId.{OpId}
use Rattle.pci_command.specs.Same.{same_command}
use Rattle.board_model.specs.Wants.{exactly}
use Rattle.board_model.specs.declared.agents.Master.{Master as MasterAgent}
use Rattle.board_model.specs.declared.agents.Target.{Target as TargetAgent}
use Rattle.board_model.specs.declared.op.Op.{Op}
use Rattle.board_model.specs.declared.op.Op.TheVariants.{Poll}
use Rattle.board_model.specs.declared.board.Board.{Board}
use Rattle.board_model.specs.Requests.{op_of, command_of, address_on, phases_of, reads, reads_in}
use Rattle.board_model.specs.Ways.{Dword}
use Rattle.board_model.specs.Valid.{IsValid}
use Rattle.history_model.specs.declared.event.Event.{Event}
use Rattle.history_model.specs.Words.{Landing, landed, opens_at, opens_as}
use Rattle.history_model.specs.Knowledge.{has_ended, given_value, Reading, saw_in, saw, has_landed, is_landing_of, stands_after, later, one, more, is_write, Told}
use Rattle.history_model.specs.Runs.{Run}
use Rattle.law_lanes.specs.order.Order.{is_posted_in, is_posted_op}
use Rattle.std.proofs.lemmas.Bool.{and_parts, or_right, or_left}
use Rattle.list_facts.proofs.AnyLemmas.{any_some, found_any}
use Rattle.list_facts.proofs.EachLemmas.{Each-find, Each-weaker}
use Rattle.list_facts.proofs.FindLemmas.{find_passes}
use Rattle.history_model.proofs.facts.PostedLemmas.{write_not_read}
use Rattle.history_model.proofs.facts.RequestLemmas.{same_op_self}
use Rattle.law_bound.proofs.changes.Laws.{entry_of}
use Rattle.law_fresh.proofs.reads.Laws.{master_there}
use Rattle.law_fresh.proofs.BackLemmas.{ended_front}
use Rattle.law_fresh.proofs.Laws.{front_run}
use Rattle.law_fresh.proofs.Laws.{WriteOp, write_tries, same_place}
use Rattle.history_model.specs.Clear.{phases_at, is_value, brings_value, rings, rings_in, rings_whole, holds, opens_otherwise, is_clear}
use Rattle.law_delivered.specs.Delivered.{Awaits, is_met, raises, Delivers}
use Rattle.law_delivered.proofs.FlagLemmas.{Written, written, op_whole, written_whole, written_rings, one_rings}
use Rattle.law_delivered.proofs.RaisedLemmas.{alone_landed, landed_ended, ended_before}
use Rattle.law_delivered.proofs.SeenLemmas.{Owner, owner_of, Met, met}
use Rattle.law_delivered.proofs.ValueLemmas.{LandsWhole, lands_value, value_landed}
use Rattle.law_delivered.proofs.left.LeftLemmas.{got_there, told_lands}

-- The parts of a clear flag.
record Clear (board : Board) (address value : ℕ) : Type 0 where
  opens : opens_otherwise address value (filter (holds address) board.targets) ≡ true
  whole : list_all (λ (m : MasterAgent). list_all (rings_whole address value) m.ops) board.masters ≡ true
  once : rings_in address value board ≡ 1

clear_parts : (board : Board) (address value : ℕ) → is_clear board address value ≡ true → Clear board address value
clear_parts board address value is =
    let a = and_parts _ _ is in
    let b = and_parts _ _ a.0 in
    record { opens = b.0; whole = b.1; once = eqb-true (rings_in address value board) 1 a.1 }

-- The operation that raises it.
record Raiser (board : Board) (address value : ℕ) (n : OpId) : Type 0 where
  op : Op
  is_op : op_of board n ≡ Some op
  some : 1 ≤ rings address value op
  posted : same_command (command_of op) MemWrite ≡ true

rings_posted : (address value : ℕ) (op : Op) → 1 ≤ rings address value op → same_command (command_of op) MemWrite ≡ true
rings_posted address value op some =
    let rings_of : List Phase → ℕ = λ phases. total (λ phase. cond (brings_value value phase) 1 0) phases in
    let P : Bool → Type 0 = λ b. 1 ≤ rings_of (cond b (phases_at address (address_on op 0) (phases_of op)) []) → b ≡ true in
    (elim (same_command (command_of op) MemWrite) as P [ true ↦ λ _. refl | false ↦ λ none. absurd (omega (arith, none)) ]) some

raiser : (board : Board) (address value : ℕ) (n : OpId) → raises address value (op_of board n) ≡ true → Raiser board address value n
raiser board address value n is =
    let P : Option Op → Type 0 = λ found. op_of board n ≡ found → raises address value found ≡ true → Raiser board address value n in
    (elim (op_of board n) as P [
      | None ↦ λ _ f. cc
      | Some op ↦ λ is_op f. let some : 1 ≤ rings address value op = grind (arith, nat_tests) in record { op = op; is_op = is_op; some = some; posted = rings_posted address value op some }
    ]) refl is

module _ (board : Board) (valid : IsValid board) (h : List Event) (run : Run board h) (p : OpId) (address value tries : ℕ) (is_op : op_of board p ≡ Some (Poll Mem address (exactly value) tries))
    (clear : Clear board address value) (n : OpId) (raised : Raiser board address value n) (is : is_met value (given_value h p) ≡ true) where
  owner : Owner board address value
  owner = owner_of board address value valid clear.opens

  met_it : Met board valid p address value tries is_op owner h
  met_it = met board valid p address value tries is_op owner h run is

  abbrev before : List Event
  before = met_it.reading.before

  abbrev flag : Dword
  flag = record { target = owner.place; space = Mem; address = address }

  run_before : Run board before
  run_before = front_run board before h met_it.front run

  write : WriteOp board n
  write = record { op = raised.op; is_op = raised.is_op; writes = (write_not_read (command_of raised.op) raised.posted).0 }

  -- the value was brought by it
  flag_landed : list_any (is_landing_of n) (landed board before flag) ≡ true
  flag_landed =
      let landings : List Landing = landed board before flag in
      let each = written board owner.place address before run_before in
      let whole : AllByRecursion LandsWhole landings = Each-weaker (Written board owner.place address) LandsWhole (written_whole board address value clear.whole owner.place) landings each in
      let O : Option TargetAgent → Type 0 = λ found. is_value value (opens_at flag found) ≡ false in
      let of_agent : O (Some owner.agent) = owner.opens in
      let opens : is_value value (opens_as board flag) ≡ false = subst O (sym owner.is_agent) of_agent in
      let brought = value_landed owner.place address value (opens_as board flag) landings whole met_it.has opens in
      let some = any_some (lands_value value) landings brought in
      let landing : Landing = some.0 in
      let one_written = Each-find (Written board owner.place address) (lands_value value) landings landing each some.1 in
      let rings_it = written_rings board address value clear.whole owner.place landing one_written (find_passes (lands_value value) landings landing some.1) in
      let place = one_rings board address value n landing.op raised.op one_written.op clear.once raised.is_op one_written.is_op raised.some rings_it in
      let there : is_some (op_of board landing.op) ≡ true = ap is_some one_written.is_op in
      let one_op : landing.op ≡ n = same_place board n landing.op write there place.0 place.1 in
      subst (λ q. list_any (is_landing_of q) landings ≡ true) one_op (found_any (lands_value value) (is_landing_of landing.op) landings landing some.1 (same_op_self landing.op))

  posted : is_posted_op board n ≡ true
  posted = ap is_posted_in raised.is_op ∙ raised.posted

  alone : length (phases_of raised.op) ≡ 1
  alone =
      let parts = and_parts _ _ (op_whole board address value clear.whole n raised.op raised.is_op) in
      let P : Bool → Type 0 = λ b. eqb (rings address value raised.op) 0 ≡ b → (b || eqb (length (phases_of raised.op)) 1) ≡ true → length (phases_of raised.op) ≡ 1 in
      let some = raised.some in
      (elim (eqb (rings address value raised.op) 0) as P [
        | true ↦ λ none _. let zero_it = eqb-true (rings address value raised.op) 0 none in absurd (omega (arith, zero_it, some))
        | false ↦ λ _ f. eqb-true (length (phases_of raised.op)) 1 f
      ]) refl parts.1

  landed_it : has_landed before n ≡ true
  landed_it = alone_landed board n raised.op raised.is_op posted alone before flag run_before flag_landed

  -- so the poll saw it
  saw_it : saw board h p n ≡ true
  saw_it =
      let word : list_any (is_landing_of n) (landed board before met_it.reading.word) ≡ true = subst (λ d. list_any (is_landing_of n) (landed board before d) ≡ true) (sym met_it.word) flag_landed in
      let F : Option Reading → Type 0 = λ found. saw_in board n found ≡ true in
      let there : F (Some met_it.reading) = rw (word, landed_it) refl in
      subst F (sym met_it.is_got) there

  -- what stands before it in its program ended
  first_try : n.attempt ≡ 0
  first_try =
      let agent = master_there board n raised.op raised.is_op in
      let entry = entry_of board n raised.op agent.0 raised.is_op agent.1 in
      let tries_it = write_tries raised.op (write_not_read (command_of raised.op) raised.posted).0 in
      let below = entry.tries in
      omega (arith, tries_it, below)

  ended_first : (w : OpId) → is_write board w ≡ true → w.master ≡ n.master → stands_after w n ≡ true → has_ended h w ≡ true
  ended_first w writes masters stands =
      let none = first_try in
      let index : w.index < n.index = grind (arith, nat_tests) in
      ended_front w before h met_it.front (ended_before board before w n writes run_before (landed_ended board before n posted run_before landed_it) masters index)

  told : (w r : OpId) → is_write board w ≡ true → w.master ≡ n.master → stands_after w n ≡ true → r.master ≡ p.master → stands_after p r ≡ true → is_some (op_of board r) ≡ true → Told board h w r
  told w r writes masters stands others behind there =
      let ended_w = ended_first w writes masters stands in
      let ended_p = met_it.ended_it in
      let n_there : is_some (op_of board n) ≡ true = ap is_some raised.is_op in
      let same_w : eqb w.master n.master ≡ true = grind (arith, nat_tests) in
      let same_p : eqb p.master r.master ≡ true = grind (arith, nat_tests) in
      let later_w : later board h w n ≡ true = rw (same_w, ended_w, stands, n_there) refl in
      let later_p : later board h p r ≡ true = rw (same_p, ended_p, behind, there) refl in
      (writes, more w n r (or_left (later board h w n) (saw board h n w) later_w) (more n p r (or_right (later board h n p) (saw board h p n) saw_it) (one p r (or_left (later board h p r) (saw board h r p) later_p))))

-- an operation that reads is there
is_there : (board : Board) (r : OpId) → reads board r ≡ true → is_some (op_of board r) ≡ true
is_there board r is =
    let P : Option Op → Type 0 = λ found. reads_in found ≡ true → is_some found ≡ true in
    (elim (op_of board r) as P [ None ↦ λ e. cc | Some op ↦ λ _. refl ]) is

pub clear_delivers : (board : Board) (h : List Event) (p : OpId) (address value : ℕ) → IsValid board → Run board h → is_clear board address value ≡ true → Awaits board p address value → Delivers board h p address value
clear_delivers board h p address value valid run clear awaits n w r reading is_it raised writes masters stands others behind is_got named =
    let parts = clear_parts board address value clear in
    let raised_by = raiser board address value n raised in
    let there = is_there board r (got_there board h r reading run is_got) in
    let told_it = told board valid h run p address value awaits.0 awaits.1 parts n raised_by is_it w r writes masters stands others behind there in
    told_lands board h w r reading valid run told_it is_got named
