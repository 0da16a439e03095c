-- Every flag that a master of devices polls for is waited for on a line.
use Rattle.std.proofs.Common.{◌≡◌, ℕ, zero, suc, ◌+◌, ◌/◌, Bool, true, false, ◌&&◌, cond, not, List, [], ◌∷◌, ◌++◌, length, drop, Option, Some, None, Result, Ok, Err, refl, sym, ap, subst, ◌∙◌}
use Rattle.std.specs.List.{list_all, find}
use Rattle.std.proofs.Math.Seq.{drop-length, drop-nil}
use Rattle.std.proofs.lemmas.Bool.{and_parts, and_from}
use Rattle.std.proofs.lemmas.List.Folds.{list_all-append}
use Rattle.board_model.specs.declared.agents.Master.{Master}
use Rattle.board_model.specs.declared.board.Board.{Board}
use Rattle.board_model.specs.declared.op.Op.{Op}
use Rattle.board_model.specs.declared.op.Op.TheVariants.{Read, Write, CfgRead, CfgWrite, Poll}
use Rattle.board_model.specs.WellFormed.{operations_in}
use Rattle.board_parser.specs.declared.draft.draft.Draft.{Draft}
use Rattle.board_parser.specs.declared.draft.draft.AgentPlace.{AgentPlace}
use Rattle.board_parser.specs.draft.Drafts.{with_owner, board_of}
use Rattle.board_parser.specs.draft.Masters.{add_op, add_master, does}
use Rattle.board_parser.specs.draft.Targets.{agent_fault}
use Rattle.board_parser.proofs.draft.AddedLemmas.{on_master-ok, add_op-ok, unless-ok}
use Rattle.board_parser.proofs.draft.PushLemmas.{all-push}
use Rattle.text_faults.specs.declared.device.DeviceFault.{DeviceFault}
use Rattle.dma_agents.specs.declared.line.Flag.{Flag}
use Rattle.dma_agents.specs.declared.line.Waiting.{Waiting}
use Rattle.dma_agents.specs.declared.line.DeviceLine.{DeviceLine}
use Rattle.dma_agents.specs.declared.line.DeviceLine.TheVariants.{Device, Handler, Puts, Gets, Sends, Looks, Waits, Writes}
use Rattle.dma_agents.specs.declared.making.Making.{Making}
use Rattle.dma_agents.specs.declared.put.Put.{Put}
use Rattle.dma_agents.specs.Put.{writes_from, blocks_of}
use Rattle.dma_agents.specs.Adding.{line_added}
use Rattle.dma_agents.specs.Made.{flag_of, waits_behind, with_draft}
use Rattle.dma_agents.proofs.StepLemmas.{OnDraft, Keeps, line_may, line_keeps, OnMaking, LinesKeep}

-- a poll is for a flag that passes the test
abbrev pub polls_clear : (ℕ → ℕ → Bool) → Op → Bool
polls_clear clear (Read command address) = true
polls_clear clear (Write command address phases) = true
polls_clear clear (CfgRead bus device register) = true
polls_clear clear (CfgWrite bus device register phase) = true
polls_clear clear (Poll space address want tries) = clear address want.wanted

abbrev pub master_clear : (ℕ → ℕ → Bool) → Master → Bool
master_clear clear master = list_all (polls_clear clear) master.ops

-- so it is with each poll of the masters from one on
abbrev pub Clear : (ℕ → ℕ → Bool) → ℕ → Board → Type 0
Clear clear first board = list_all (master_clear clear) (drop first board.masters) ≡ true

abbrev pub wait_clear : (ℕ → ℕ → Bool) → Waiting → Bool
wait_clear clear wait = clear wait.flag.address wait.flag.value

-- where all flags that are waited for pass
abbrev pub Listed : (ℕ → ℕ → Bool) → ℕ → Making → Type 0
Listed clear first making = list_all (wait_clear clear) making.waits ≡ true → Clear clear first (board_of making.sheet)

-- The last of a list, behind the first ones.

last_kept : {X : Type 0} (test : X → Bool) (xs : List X) (first : ℕ) (x y : X) → list_all test (drop first (xs ++ x ∷ [])) ≡ true → (test x ≡ true → test y ≡ true) → list_all test (drop first (xs ++ y ∷ [])) ≡ true
last_kept test [] zero x y all one = and_from (test y) true (one (and_parts (test x) true all).0) refl
last_kept test [] (suc first) x y all one = ap (list_all test) (drop-nil first)
last_kept test (z ∷ xs) zero x y all one =
    let parts = and_parts (test z) (list_all test (xs ++ x ∷ [])) all in
    and_from (test z) (list_all test (xs ++ y ∷ [])) parts.0 (last_kept test xs zero x y parts.1 one)
last_kept test (z ∷ xs) (suc first) x y all one = last_kept test xs first x y all one

more_kept : {X : Type 0} (test : X → Bool) (xs : List X) (first : ℕ) (y : X) → list_all test (drop first xs) ≡ true → test y ≡ true → list_all test (drop first (xs ++ y ∷ [])) ≡ true
more_kept test [] zero y all one = and_from (test y) true one refl
more_kept test [] (suc first) y all one = ap (list_all test) (drop-nil first)
more_kept test (z ∷ xs) zero y all one =
    let parts = and_parts (test z) (list_all test xs) all in
    and_from (test z) (list_all test (xs ++ y ∷ [])) parts.0 (more_kept test xs zero y parts.1 one)
more_kept test (z ∷ xs) (suc first) y all one = more_kept test xs first y all one

-- Drafts.

op_kept : (clear : ℕ → ℕ → Bool) (first : ℕ) (draft next : Draft) (op : Op) → polls_clear clear op ≡ true → Clear clear first (board_of draft) → does draft op false ≡ Ok next → Clear clear first (board_of next)
op_kept clear first draft next op allowed all is =
    let done = on_master-ok draft (add_op (operations_in (board_of draft).masters) op false) next is in
    let put = add_op-ok (operations_in (board_of draft).masters) op false done.master done.changed done.did in
    let P : AgentPlace → Type 0 = λ owner. Clear clear first (with_owner draft.board owner) in
    let before = subst P done.was all in
    let M : Master → Type 0 = λ master. master_clear clear master ≡ true in
    let more : master_clear clear done.master ≡ true → master_clear clear done.changed ≡ true = λ own. subst M (sym put.is) (all-push (polls_clear clear) done.master.ops op own allowed) in
    let D : Draft → Type 0 = λ d. Clear clear first (board_of d) in
    subst D (sym done.is) (last_kept (master_clear clear) draft.board.masters first done.master done.changed before more)

master_kept : (clear : ℕ → ℕ → Bool) (first : ℕ) (draft next : Draft) (name : List ℕ) (bus : ℕ) → Clear clear first (board_of draft) → add_master draft.wide (board_of draft) name bus ≡ Ok next → Clear clear first (board_of next)
master_kept clear first draft next name bus all is =
    let done = unless-ok (agent_fault (board_of draft) name bus) _ next is in
    let D : Draft → Type 0 = λ d. Clear clear first (board_of d) in
    subst D (sym done.1) (more_kept (master_clear clear) (board_of draft).masters first _ all refl)

flags_kept : (clear : ℕ → ℕ → Bool) (first : ℕ) → Keeps (λ draft. Clear clear first (board_of draft)) (polls_clear clear)
flags_kept clear first = record { op = op_kept clear first; master = master_kept clear first }

-- Lines.

writes_clear : (clear : ℕ → ℕ → Bool) (put : Put) (count block : ℕ) → list_all (polls_clear clear) (writes_from put count block) ≡ true
writes_clear clear put zero block = refl
writes_clear clear put (suc more) block = writes_clear clear put more (block + 1)

-- the flag of a line, where it has one
abbrev pub flag_clear : (ℕ → ℕ → Bool) → Option Flag → Bool
flag_clear clear None = true
flag_clear clear (Some flag) = clear flag.address flag.value

line_clear : (clear : ℕ → ℕ → Bool) (line : DeviceLine) → flag_clear clear (flag_of line) ≡ true → line_may (polls_clear clear) line ≡ true
line_clear clear (Device name target bell) one = one
line_clear clear (Handler name bus wait) one = one
line_clear clear (Puts put) one = writes_clear clear put (blocks_of put) (put.address / 32)
line_clear clear (Gets address) one = refl
line_clear clear (Sends address message) one = refl
line_clear clear (Looks address) one = refl
line_clear clear (Waits flag) one = one
line_clear clear (Writes address value) one = refl

pub waits_clear : (clear : ℕ → ℕ → Bool) (waits : List Waiting) (number : ℕ) (flag : Option Flag) → list_all (wait_clear clear) (waits_behind waits number flag) ≡ true → (list_all (wait_clear clear) waits ≡ true) × (flag_clear clear flag ≡ true)
waits_clear clear waits number None all = (all, refl)
waits_clear clear waits number (Some flag) all =
    let wait : Waiting = record { line = number; flag = flag } in
    let parts = and_parts (list_all (wait_clear clear) waits) (wait_clear clear wait && true) (sym (list_all-append (wait_clear clear) waits (wait ∷ [])) ∙ all) in
    (parts.0, (and_parts (wait_clear clear wait) true parts.1).0)

with_listed : (clear : ℕ → ℕ → Bool) (first : ℕ) (making : Making) (number : ℕ) (line : DeviceLine) (step : Result Draft DeviceFault) → (list_all (wait_clear clear) (waits_behind making.waits number (flag_of line)) ≡ true → OnDraft (λ draft. Clear clear first (board_of draft)) step) → OnMaking (Listed clear first) (with_draft making number line step)
with_listed clear first making number line (Ok draft) each = each
with_listed clear first making number line (Err fault) each = tt

pub lines_listed : (clear : ℕ → ℕ → Bool) (first : ℕ) → LinesKeep (Listed clear first)
lines_listed clear first = record {
  line = λ making number words line is listed.
      with_listed clear first making number line (line_added making.owner making.sheet line) (λ all.
      let parts = waits_clear clear making.waits number (flag_of line) all in
      line_keeps (λ draft. Clear clear first (board_of draft)) (polls_clear clear) (flags_kept clear first) making.owner making.sheet line (line_clear clear line parts.1) (listed parts.0));
}

-- no master is there yet
pub none_begun : (clear : ℕ → ℕ → Bool) (board : Board) → Clear clear (length board.masters) board
none_begun clear board = ap (list_all (master_clear clear)) (drop-length board.masters)

-- where no flag is found that does not pass, all pass
pub none_unclear : (clear : ℕ → ℕ → Bool) (waits : List Waiting) → find (λ wait. not (wait_clear clear wait)) waits ≡ None → list_all (wait_clear clear) waits ≡ true
none_unclear clear [] none = refl
none_unclear clear (wait ∷ waits) none =
    let F : Bool → Type 0 = λ b. cond (not b) (Some wait) (find (λ wait. not (wait_clear clear wait)) waits) ≡ None → (b && list_all (wait_clear clear) waits) ≡ true in
    (elim (wait_clear clear wait) as F [ true ↦ λ e. none_unclear clear waits e | false ↦ λ e. cc ]) none
