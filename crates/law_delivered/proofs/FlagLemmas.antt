-- What landed at the address of a flag are data phases of writes of the board there; and one write brings its value.
use Rattle.std.proofs.Common.{◌≡◌, ℕ, zero, suc, ◌+◌, ◌*◌, ◌≤◌, Bool, true, false, ◌||◌, not, ◌==◌, eqb, cond, List, [], ◌∷◌, ◌++◌, take, drop, Option, Some, None, refl, sym, ap, subst, ◌∙◌, arith, slice_get}
use Rattle.std.specs.List.{list_any, list_all, AllByRecursion}
use Rattle.list_facts.specs.Lists.{total}
use Rattle.pci_command.specs.declared.command.Command.{Command}
use Rattle.pci_command.specs.declared.command.Command.TheVariants.{IoRead, IoWrite, MemRead, MemWrite, CfgRead as ConfigurationRead, CfgWrite as ConfigurationWrite, MemReadMultiple, MemReadLine, MemWriteInvalidate}
use Rattle.pci_command.specs.declared.command.Space.{Space}
use Rattle.pci_command.specs.declared.command.Space.TheVariants.{Mem, Io, Cfg}
use Rattle.pci_command.specs.declared.phases.Phase.{Phase}
use Rattle.pci_command.specs.declared.request.Request.{Request}
use Rattle.pci_command.specs.declared.op_id.OpId.{OpId}
use Rattle.pci_command.specs.Command.{is_read, space_of, plain_of}
use Rattle.pci_command.specs.Same.{same_command, same_space}
use Rattle.board_model.specs.declared.agents.Master.{Master as MasterAgent}
use Rattle.board_model.specs.declared.bridge.Place.{Place}
use Rattle.board_model.specs.declared.bridge.Place.TheVariants.{Target, Header, Lane, Nobody}
use Rattle.board_model.specs.declared.op.Op.{Op}
use Rattle.board_model.specs.declared.op.Op.TheVariants.{Read as ReadOp, Write, CfgRead, CfgWrite, Poll}
use Rattle.board_model.specs.declared.board.Board.{Board}
use Rattle.board_model.specs.Requests.{op_of, command_of, address_on, phases_of, read_in, request_on, request_of}
use Rattle.board_model.specs.Ways.{Dword, address_in}
use Rattle.history_model.specs.declared.event.By.{By}
use Rattle.history_model.specs.declared.event.Step.{Step}
use Rattle.history_model.specs.declared.event.Step.TheVariants.{Land, Part, Read, Accept, Latch, Take, Stall, MasterAbort, TargetAbort}
use Rattle.history_model.specs.declared.event.Event.{Event}
use Rattle.history_model.specs.declared.event.Event.TheVariants.{Act, Arrive}
use Rattle.history_model.specs.Words.{through, brings, Landing, landings_at, landings_of, landings_by, landed}
use Rattle.history_model.specs.Runs.{Run}
use Rattle.std.proofs.lemmas.Bool.{and_parts, or_left, or_right}
use Rattle.std.proofs.lemmas.List.Folds.{list_any-append}
use Rattle.list_facts.proofs.EachLemmas.{Each-append, Each-weaker, Each-slice_get}
use Rattle.list_facts.proofs.TestLemmas.{Each-list_all}
use Rattle.history_model.proofs.facts.RequestLemmas.{request_is_of}
use Rattle.law_bound.proofs.changes.Laws.{entry_of}
use Rattle.law_fresh.proofs.reads.Laws.{master_there}
use Rattle.law_fresh.proofs.Laws.{or_either}
use Rattle.history_model.specs.Clear.{phases_at, written_at, brings_value, rings, rings_in, is_whole, rings_whole}
use Rattle.law_delivered.proofs.WholeLemmas.{is_taken, taken_at}
use Rattle.law_delivered.proofs.ValueLemmas.{LandsWhole, lands_value}

-- a phase is one of these: each test that it passes one of them passes
abbrev pub IsOne : Phase → List Phase → Type 0
IsOne phase phases = (test : Phase → Bool) → test phase ≡ true → list_any test phases ≡ true

-- phases at an address, of fewer data phases

pub at_drop : (test : Phase → Bool) (address at gone : ℕ) (phases : List Phase) → list_any test (phases_at address (at + 4 * gone) (drop gone phases)) ≡ true → list_any test (phases_at address at phases) ≡ true
at_drop test address at zero phases some = let same : at + 4 * 0 ≡ at = omega arith in subst (λ a. list_any test (phases_at address a phases) ≡ true) same some
at_drop test address at (suc gone) [] some = cc
at_drop test address at (suc gone) (phase ∷ phases) some =
    let further : at + 4 * suc gone ≡ at + 4 + 4 * gone = omega arith in
    let first : List Phase = cond (eqb at address) (phase ∷ []) [] in
    let later = at_drop test address (at + 4) gone phases (subst (λ a. list_any test (phases_at address a (drop gone phases)) ≡ true) further some) in
    list_any-append test first (phases_at address (at + 4) phases) ∙ or_right (list_any test first) _ later

pub at_take : (test : Phase → Bool) (address at number : ℕ) (phases : List Phase) → list_any test (phases_at address at (take number phases)) ≡ true → list_any test (phases_at address at phases) ≡ true
at_take test address at zero phases some = cc
at_take test address at (suc number) [] some = cc
at_take test address at (suc number) (phase ∷ phases) some =
    let first : List Phase = cond (eqb at address) (phase ∷ []) [] in
    let Goal : Type 0 = list_any test (phases_at address at (phase ∷ phases)) ≡ true in
    or_either Goal (list_any test first) (list_any test (phases_at address (at + 4) (take number phases)))
    (λ here. list_any-append test first (phases_at address (at + 4) phases) ∙ or_left (list_any test first) _ here)
    (λ more. list_any-append test first (phases_at address (at + 4) phases) ∙ or_right (list_any test first) _ (at_take test address (at + 4) number phases more))
    (sym (list_any-append test first (phases_at address (at + 4) (take number phases))) ∙ some)

-- what lands at the address is one of the phases there
pub record LandsOne (o : OpId) (phases : List Phase) (landing : Landing) : Type 0 where
  pub is_of : landing.op ≡ o
  pub is_one : IsOne landing.phase phases

pub more_phases : (o : OpId) (xs ys : List Phase) → ((test : Phase → Bool) → list_any test xs ≡ true → list_any test ys ≡ true) → (landings : List Landing) → AllByRecursion (LandsOne o xs) landings → AllByRecursion (LandsOne o ys) landings
more_phases o xs ys more landings each =
    Each-weaker (LandsOne o xs) (LandsOne o ys) (λ landing one. record { is_of = one.is_of; is_one = λ test passes. more test (one.is_one test passes) }) landings each

pub at_one : (o : OpId) (address at : ℕ) (phases : List Phase) → AllByRecursion (LandsOne o (phases_at address at phases)) (landings_at o address at phases)
at_one o address at [] = tt
at_one o address at (phase ∷ phases) =
    let rest : List Phase = phases_at address (at + 4) phases in
    let P : Bool → Type 0 = λ b. AllByRecursion (LandsOne o (cond b (phase ∷ []) [] ++ rest)) (cond b (record { op = o; phase = phase } ∷ []) [] ++ landings_at o address (at + 4) phases) in
    elim (eqb at address) as P [
      | true ↦ (
        record { is_of = refl; is_one = λ test passes. or_left (test phase) (list_any test rest) passes },
        more_phases o rest (phase ∷ rest) (λ test some. or_right (test phase) (list_any test rest) some) (landings_at o address (at + 4) phases) (at_one o address (at + 4) phases),
      )
      | false ↦ at_one o address (at + 4) phases
    ]

-- what a step brings of what is left is of the whole
pub brings_of : (test : Phase → Bool) (address at : ℕ) (step : Step) (phases : List Phase) → list_any test (phases_at address at (brings step phases)) ≡ true → list_any test (phases_at address at phases) ≡ true
brings_of test address at Land phases some = some
brings_of test address at (Part number) phases some = at_take test address at number phases some
brings_of test address at (Read value) phases some = cc
brings_of test address at Accept phases some = cc
brings_of test address at Latch phases some = cc
brings_of test address at (Take outcome) phases some = cc
brings_of test address at Stall phases some = cc
brings_of test address at MasterAbort phases some = cc
brings_of test address at TargetAbort phases some = cc

pub nothing_brought : (step : Step) (phases : List Phase) → is_taken step ≡ false → brings step phases ≡ []
nothing_brought Land phases none = cc
nothing_brought (Part number) phases none = cc
nothing_brought (Read value) phases none = refl
nothing_brought Accept phases none = refl
nothing_brought Latch phases none = refl
nothing_brought (Take outcome) phases none = refl
nothing_brought Stall phases none = refl
nothing_brought MasterAbort phases none = refl
nothing_brought TargetAbort phases none = refl

-- what holds of all that is taken at the target of a word holds of all that landed there
module _ (board : Board) (word : Dword) (W : Landing → Type 0)
    (taken_each : (h : List Event) (on : ℕ) (by : By) (o : OpId) (step : Step) (place : ℕ) → Run board (Act on by o step (Target place) ∷ h) → eqb place word.target ≡ true → (found : Option Request) → request_of board o on ≡ found → is_taken step ≡ true → AllByRecursion W (landings_of o step (through h o) word found)) where
  -- nothing lands in a step that takes no data phases
  at_none : (o : OpId) (start : ℕ) (phases : List Phase) → phases ≡ [] → AllByRecursion W (landings_at o word.address start phases)
  at_none o start phases none = let F : List Phase → Type 0 = λ ps. AllByRecursion W (landings_at o word.address start ps) in let there : F [] = tt in subst F (sym none) there

  of_none : (o : OpId) (step : Step) (gone : ℕ) (found : Option Request) → is_taken step ≡ false → AllByRecursion W (landings_of o step gone word found)
  of_none o step gone None none = tt
  of_none o step gone (Some request) none =
      let space : Space = space_of request.command in
      let left : List Phase = brings step (drop gone request.phases) in
      let start : ℕ = address_in space (request.address + 4 * gone) in
      let P : Bool → Type 0 = λ b. AllByRecursion W (cond b (landings_at o word.address start left) []) in
      elim (same_space space word.space) as P [ true ↦ at_none o start left (nothing_brought step (drop gone request.phases) none) | false ↦ tt ]

  place_each : (h : List Event) (on : ℕ) (by : By) (o : OpId) (step : Step) (at : Place) → Run board (Act on by o step at ∷ h) → AllByRecursion W (landings_by board h on o step word at)
  place_each h on by o step (Target place) run =
      let found : Option Request = request_of board o on in
      let P : Bool → Type 0 = λ b. eqb place word.target ≡ b → AllByRecursion W (cond b (landings_of o step (through h o) word found) []) in
      let Q : Bool → Type 0 = λ b. is_taken step ≡ b → eqb place word.target ≡ true → AllByRecursion W (landings_of o step (through h o) word found) in
      (elim (eqb place word.target) as P [
        | true ↦ λ targets. (elim (is_taken step) as Q [ true ↦ λ taken same. taken_each h on by o step place run same found refl taken | false ↦ λ none _. of_none o step (through h o) found none ]) refl targets
        | false ↦ λ _. tt
      ]) refl
  place_each h on by o step (Header bus) run = tt
  place_each h on by o step (Lane lane) run = tt
  place_each h on by o step Nobody run = tt

  pub landed_each : (h : List Event) → Run board h → AllByRecursion W (landed board h word)
  landed_each [] run = tt
  landed_each (Act on by o step at ∷ h) run = Each-append W (landed board h word) (landings_by board h on o step word at) (landed_each h run.1) (place_each h on by o step at run)
  landed_each (Arrive lane mark ∷ h) run = Each-append W (landed board h word) [] (landed_each h run.1) tt

-- what writes in memory is a memory write, whose address is the same on every bus
plain_writes : (command : Command) → is_read (plain_of command) ≡ false → space_of (plain_of command) ≡ Mem → same_command (plain_of command) MemWrite ≡ true
plain_writes IoRead writes memory = cc
plain_writes IoWrite writes memory = cc
plain_writes MemRead writes memory = cc
plain_writes MemWrite writes memory = refl
plain_writes ConfigurationRead writes memory = cc
plain_writes ConfigurationWrite writes memory = cc
plain_writes MemReadMultiple writes memory = cc
plain_writes MemReadLine writes memory = cc
plain_writes MemWriteInvalidate writes memory = refl

reads_space : (space : Space) → is_read (read_in space) ≡ true
reads_space Mem = refl
reads_space Io = refl
reads_space Cfg = refl

writes_memory : (op : Op) → is_read (command_of op) ≡ false → space_of (command_of op) ≡ Mem → same_command (command_of op) MemWrite ≡ true
writes_memory (ReadOp command address) writes memory = plain_writes command writes memory
writes_memory (Write command address phases) writes memory = plain_writes command writes memory
writes_memory (CfgRead bus device register) writes memory = cc
writes_memory (CfgWrite bus device register phase) writes memory = cc
writes_memory (Poll space address want tries) writes memory = let e : true ≡ false = sym (reads_space space) ∙ writes in cc

one_address : (op : Op) (on other : ℕ) → same_command (command_of op) MemWrite ≡ true → address_on op on ≡ address_on op other
one_address (ReadOp command address) on other posted = refl
one_address (Write command address phases) on other posted = refl
one_address (CfgRead bus device register) on other posted = cc
one_address (CfgWrite bus device register phase) on other posted = cc
one_address (Poll space address want tries) on other posted = refl

is_mem : (space : Space) → same_space space Mem ≡ true → space ≡ Mem
is_mem Mem is = refl
is_mem Io is = cc
is_mem Cfg is = cc

module _ (board : Board) (target address : ℕ) where
  abbrev flag : Dword
  flag = record { target = target; space = Mem; address = address }

  -- a landing is of a write of the board, and is one of its data phases at the address
  pub record Written (landing : Landing) : Type 0 where
    pub op : Op
    pub is_op : op_of board landing.op ≡ Some op
    pub writes : is_read (command_of op) ≡ false
    pub is_one : IsOne landing.phase (written_at address op)

  op_written : (o : OpId) (op : Op) → op_of board o ≡ Some op → is_read (command_of op) ≡ false → space_of (command_of op) ≡ Mem → (on gone : ℕ) (step : Step)
      → AllByRecursion Written (landings_at o address (address_on op on + 4 * gone) (brings step (drop gone (phases_of op))))
  op_written o op is_op writes memory on gone step =
      let phases : List Phase = phases_of op in
      let start : ℕ = address_on op on + 4 * gone in
      let left : List Phase = brings step (drop gone phases) in
      let posted = writes_memory op writes memory in
      let F : Bool → Type 0 = λ b. cond b (phases_at address (address_on op 0) phases) [] ≡ phases_at address (address_on op 0) phases in
      let there : F true = refl in
      let all : written_at address op ≡ phases_at address (address_on op on) phases = subst F (sym posted) there ∙ ap (λ a. phases_at address a phases) (one_address op 0 on posted) in
      Each-weaker (LandsOne o (phases_at address start left)) Written
      (λ landing one. record {
        op = op;
        is_op = subst (λ p. op_of board p ≡ Some op) (sym one.is_of) is_op;
        writes = writes;
        is_one = λ test passes.
            let here = brings_of test address start step (drop gone phases) (one.is_one test passes) in
            let whole = at_drop test address (address_on op on) gone phases here in
            subst (λ ps. list_any test ps ≡ true) (sym all) whole;
      })
      (landings_at o address start left) (at_one o address start left)

  request_written : (h : List Event) (on : ℕ) (by : By) (o : OpId) (step : Step) (at : Place) → Run board (Act on by o step at ∷ h) → (found : Option Request) → request_of board o on ≡ found → is_taken step ≡ true
      → AllByRecursion Written (landings_of o step (through h o) flag found)
  request_written h on by o step at run None is taken = tt
  request_written h on by o step at run (Some request) is taken =
      let gone : ℕ = through h o in
      let mine = request_is_of board o on request is in
      let op : Op = mine.op in
      let given = taken_at board h on by o request step at is run.0.1 taken in
      let R : Request → Type 0 = λ r. AllByRecursion Written (landings_of o step gone flag (Some r)) in
      let writes : is_read (command_of op) ≡ false = subst (λ (r : Request). is_read r.command ≡ false) mine.is_request given.3 in
      let space : Space = space_of (command_of op) in
      let start : ℕ = address_on op on + 4 * gone in
      let left = brings step (drop gone (phases_of op)) in
      let P : Bool → Type 0 = λ b. same_space space Mem ≡ b → AllByRecursion Written (cond b (landings_at o address (address_in space start) left) []) in
      let of_op : R (request_on op on) = (elim (same_space space Mem) as P [
        | true ↦ λ same.
            let memory : space ≡ Mem = is_mem space same in
            let S : Space → Type 0 = λ s. AllByRecursion Written (landings_at o address (address_in s start) left) in
            let in_memory : S Mem = op_written o op mine.is_op writes memory on gone step in
            subst S (sym memory) in_memory
        | false ↦ λ _. tt
      ]) refl in
      subst R (sym mine.is_request) of_op

  -- all that landed there
  pub written : (h : List Event) → Run board h → AllByRecursion Written (landed board h flag)
  written h run = landed_each board flag Written (λ g on by o step place run_e _ found is taken. request_written g on by o step (Target place) run_e found is taken) h run

-- Of the writes of a clear flag.

pub all_not_any : {X : Type 0} (test : X → Bool) (xs : List X) → list_all test xs ≡ true → list_any (λ x. not (test x)) xs ≡ false
all_not_any test [] all = refl
all_not_any test (x ∷ xs) all =
    let parts = and_parts (test x) (list_all test xs) all in
    let P : Bool → Type 0 = λ b. b ≡ true → (not b || list_any (λ y. not (test y)) xs) ≡ false in
    (elim (test x) as P [ true ↦ λ _. all_not_any test xs parts.1 | false ↦ λ e. cc ]) parts.0

-- where all pass, it passes
pub one_passes : (test : Phase → Bool) (phase : Phase) (phases : List Phase) → IsOne phase phases → list_all test phases ≡ true → test phase ≡ true
one_passes test phase phases one all =
    let P : Bool → Type 0 = λ b. test phase ≡ b → b ≡ true in
    (elim (test phase) as P [
      | true ↦ λ _. refl
      | false ↦ λ none.
          let fails : not (test phase) ≡ true = rw none refl in
          let e : true ≡ false = sym (one (λ p. not (test p)) fails) ∙ all_not_any test phases all in
          cc
    ]) refl

any_total : {X : Type 0} (test : X → Bool) (xs : List X) → list_any test xs ≡ true → 1 ≤ total (λ x. cond (test x) 1 0) xs
any_total test [] some = cc
any_total test (x ∷ xs) some =
    let P : Bool → Type 0 = λ b. (b || list_any test xs) ≡ true → 1 ≤ cond b 1 0 + total (λ y. cond (test y) 1 0) xs in
    (elim (test x) as P [ true ↦ λ _. omega arith | false ↦ λ more. omega (arith, any_total test xs more) ]) some

module _ (board : Board) (address value : ℕ) (whole : list_all (λ (m : MasterAgent). list_all (rings_whole address value) m.ops) board.masters ≡ true) where
  -- what every operation of the board does there
  pub op_whole : (o : OpId) (op : Op) → op_of board o ≡ Some op → rings_whole address value op ≡ true
  op_whole o op is_op =
      let there = master_there board o op is_op in
      let master : MasterAgent = there.0 in
      let entry = entry_of board o op master is_op there.1 in
      let each = Each-list_all (λ (m : MasterAgent). list_all (rings_whole address value) m.ops) board.masters whole in
      let mine : list_all (rings_whole address value) master.ops ≡ true = Each-slice_get (λ (m : MasterAgent). list_all (rings_whole address value) m.ops ≡ true) board.masters o.master master each there.1 in
      let ops = Each-list_all (rings_whole address value) master.ops mine in
      Each-slice_get (λ p. rings_whole address value p ≡ true) master.ops o.index op ops entry.there

  pub written_whole : (target : ℕ) (landing : Landing) → Written board target address landing → LandsWhole landing
  written_whole target landing one =
      let parts = and_parts _ _ (op_whole landing.op one.op one.is_op) in
      one_passes is_whole landing.phase (written_at address one.op) one.is_one parts.0

  -- a landing of the value is of an operation that raises the flag
  pub written_rings : (target : ℕ) (landing : Landing) → (one : Written board target address landing) → lands_value value landing ≡ true → 1 ≤ rings address value one.op
  written_rings target landing one brings_it = any_total (brings_value value) (written_at address one.op) (one.is_one (brings_value value) brings_it)

-- Where a sum is one, one element has it.

total_at : {X : Type 0} (f : X → ℕ) (xs : List X) (i : ℕ) (x : X) → slice_get xs i ≡ Some x → f x ≤ total f xs
total_at f [] i x is = cc
total_at f (y ∷ ys) zero x is = let same : y ≡ x = cc in let here : f y ≡ f x = ap f same in omega (arith, here)
total_at f (y ∷ ys) (suc i) x is = let later = total_at f ys i x is in omega (arith, later)

one_place : {X : Type 0} (f : X → ℕ) (xs : List X) (i k : ℕ) (x y : X) → total f xs ≤ 1 → slice_get xs i ≡ Some x → slice_get xs k ≡ Some y → 1 ≤ f x → 1 ≤ f y → i ≡ k
one_place f [] i k x y one is_x is_y some_x some_y = cc
one_place f (z ∷ zs) zero zero x y one is_x is_y some_x some_y = refl
one_place f (z ∷ zs) zero (suc k) x y one is_x is_y some_x some_y =
    let same : z ≡ x = cc in let here : f z ≡ f x = ap f same in let later = total_at f zs k y is_y in absurd (omega (arith, one, here, later, some_x, some_y))
one_place f (z ∷ zs) (suc i) zero x y one is_x is_y some_x some_y =
    let same : z ≡ y = cc in let here : f z ≡ f y = ap f same in let later = total_at f zs i x is_x in absurd (omega (arith, one, here, later, some_x, some_y))
one_place f (z ∷ zs) (suc i) (suc k) x y one is_x is_y some_x some_y = ap (λ n. suc n) (one_place f zs i k x y (omega (arith, one)) is_x is_y some_x some_y)

-- so two operations that raise the flag stand in one place of one program
pub one_rings : (board : Board) (address value : ℕ) (n o : OpId) (first second : Op) → rings_in address value board ≡ 1 → op_of board n ≡ Some first → op_of board o ≡ Some second → 1 ≤ rings address value first → 1 ≤ rings address value second
    → (o.master ≡ n.master) × (o.index ≡ n.index)
one_rings board address value n o first second one is_first is_second some_first some_second =
    let f : Op → ℕ = rings address value in
    let g : MasterAgent → ℕ = λ (m : MasterAgent). total (rings address value) m.ops in
    let a = master_there board n first is_first in
    let b = master_there board o second is_second in
    let at_a = entry_of board n first a.0 is_first a.1 in
    let at_b = entry_of board o second b.0 is_second b.1 in
    let in_a = total_at f a.0.ops n.index first at_a.there in
    let in_b = total_at f b.0.ops o.index second at_b.there in
    let masters : o.master ≡ n.master = one_place g board.masters o.master n.master b.0 a.0 (omega (arith, one)) b.1 a.1 (omega (arith, in_b, some_second)) (omega (arith, in_a, some_first)) in
    let there : slice_get board.masters n.master ≡ Some b.0 = subst (λ m. slice_get board.masters m ≡ Some b.0) masters b.1 in
    let agents : Some b.0 ≡ Some a.0 = sym there ∙ a.1 in
    let one_agent : b.0 ≡ a.0 = cc in
    let second_there : slice_get a.0.ops o.index ≡ Some second = subst (λ (m : MasterAgent). slice_get m.ops o.index ≡ Some second) one_agent at_b.there in
    let few = total_at g board.masters n.master a.0 a.1 in
    (masters, one_place f a.0.ops o.index n.index second first (omega (arith, few, one)) second_there at_a.there some_second some_first)
