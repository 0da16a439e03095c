-- How many operations a draft has after a statement was added.
use Rattle.std.proofs.Common.{subst, sym, ap, ◌∙◌, ◌≡◌, ℕ, ◌+◌, ◌≤◌, Bool, false, List, [], ◌∷◌, ◌++◌, Result, Ok, refl, arith}
use Rattle.std.specs.Prelude.{◌||◌, nat_le, nat_lt}
use Rattle.std.proofs.lemmas.Bool.Decides.{nat_tests}
use Rattle.list_facts.specs.Lists.{total}
use Rattle.list_facts.proofs.TotalLemmas.{total-push}
use Rattle.board_model.specs.Limits.{most_ops, most_tries}
use Rattle.board_model.specs.declared.agents.Target.{Target}
use Rattle.board_model.specs.declared.agents.Master.{Master}
use Rattle.board_model.specs.declared.bridge.Bridge.{Bridge}
use Rattle.board_model.specs.declared.op.Op.{Op}
use Rattle.board_model.specs.declared.board.Board.{Board}
use Rattle.board_model.specs.Requests.{tries_of}
use Rattle.board_model.specs.WellFormed.{operations_in}
use Rattle.board_headers.specs.Windows.{reading_of}
use Rattle.text_faults.specs.declared.board_line.LineFault.{LineFault}
use Rattle.board_statements.specs.declared.statement.Statement.{Statement}
use Rattle.board_statements.specs.declared.statement.Statement.TheVariants.{NewBridge, NewHeader, NewTarget, Identifies, Stalls, Bursts, Claims, Aborts, Opens, NewMaster, Does, Discards, Drops}
use Rattle.board_parser.specs.declared.draft.draft.Draft.{Draft}
use Rattle.board_parser.specs.declared.draft.draft.AgentPlace.{AgentPlace}
use Rattle.board_parser.specs.declared.draft.draft.AgentPlace.TheVariants.{OfMaster}
use Rattle.board_parser.specs.draft.Drafts.{board_of, with_owner}
use Rattle.board_parser.specs.draft.Bridges.{bridge_of}
use Rattle.board_parser.specs.draft.Targets.{on_target, set_identity, set_stalls, set_burst, add_range, add_abort, add_opening}
use Rattle.board_parser.specs.draft.Masters.{add_op, does}
use Rattle.board_parser.specs.draft.Add.{add, tries_in}
use Rattle.board_parser.proofs.draft.AddedLemmas.{BridgePut, add_bridge-ok, put_header-ok, unless-ok, on_target-ok, on_master-ok, add_op-ok, add_discard-ok, add_drop-ok}

abbrev pub operations_of : Draft → ℕ
operations_of draft = operations_in (board_of draft).masters

-- a draft after a statement: what it counts, and that this is no more than a board may have
pub record Counted (before after more : ℕ) : Type 0 where
  pub is : after ≡ before + more
  pub few : before ≤ most_tries → after ≤ most_tries

same_count : (before after : ℕ) → after ≡ before → Counted before after 0
same_count before after h = record { is = omega arith; few = λ (limit : before ≤ most_tries). omega arith }

bridge_count : (wide : Bool) (board : Board) (bridge : Bridge) (added : Draft) → BridgePut wide board bridge added → operations_of added ≡ operations_in board.masters
bridge_count wide board bridge added put = ap operations_of put.is

target_count : (draft : Draft) (change : Target → Result Target LineFault) (added : Draft) → on_target draft change ≡ Ok added → operations_of added ≡ operations_of draft
target_count draft change added h =
    let done = on_target-ok draft change added h in
    let P : AgentPlace → Type 0 = λ owner. operations_in draft.board.masters ≡ operations_in (with_owner draft.board owner).masters in
    ap operations_of done.is ∙ subst P (sym done.was) refl

total-op : (ops : List Op) (op : Op) → total tries_of (ops ++ op ∷ []) ≡ total tries_of ops + tries_of op
total-op ops op = total-push tries_of ops op

operations-push : (masters : List Master) (master : Master) → operations_in (masters ++ master ∷ []) ≡ operations_in masters + total tries_of master.ops
operations-push masters master = total-push (λ (m : Master). total tries_of m.ops) masters master

-- the operations of a draft whose owner is a master
pub owner_count : (board : Board) (owner : AgentPlace) (master : Master) → owner ≡ OfMaster master → operations_in (with_owner board owner).masters ≡ operations_in board.masters + total tries_of master.ops
owner_count board owner master was =
    let P : AgentPlace → Type 0 = λ o. operations_in (with_owner board o).masters ≡ operations_in board.masters + total tries_of master.ops in
    subst P (sym was) (operations-push board.masters master)

few_enough : (a n : ℕ) → (nat_le most_ops a || nat_lt most_tries n) ≡ false → n ≤ most_tries
few_enough a n h = grind (arith, nat_tests)

does_count : (draft : Draft) (op : Op) (too_many : Bool) (added : Draft) → does draft op too_many ≡ Ok added → Counted (operations_of draft) (operations_of added) (tries_of op)
does_count draft op too_many added h =
    let done = on_master-ok draft (add_op (operations_of draft) op too_many) added h in
    let put = add_op-ok (operations_of draft) op too_many done.master done.changed done.did in
    let before : operations_of draft ≡ operations_in draft.board.masters + total tries_of done.master.ops =
    owner_count draft.board draft.owner done.master done.was in
    let after : operations_of added ≡ operations_in draft.board.masters + total tries_of done.changed.ops =
    ap operations_of done.is ∙ operations-push draft.board.masters done.changed in
    let more : total tries_of done.changed.ops ≡ total tries_of done.master.ops + tries_of op =
    ap (λ (m : Master). total tries_of m.ops) put.is ∙ total-op done.master.ops op in
    let few : operations_of draft + tries_of op ≤ most_tries = few_enough _ _ put.few in
    record { is = omega arith; few = λ (limit : operations_of draft ≤ most_tries). omega arith }

pub operations-add : (draft : Draft) (statement : Statement) (added : Draft) → add draft statement ≡ Ok added → Counted (operations_of draft) (operations_of added) (tries_in statement)
operations-add draft (NewBridge bridge) added h =
    same_count _ _ (bridge_count draft.wide (board_of draft) bridge added (add_bridge-ok draft.wide (board_of draft) bridge added h).put)
operations-add draft (NewHeader device bytes posted delayed) added h =
    let read = put_header-ok draft.wide (board_of draft) device posted delayed (reading_of bytes) added h in
    same_count _ _ (bridge_count draft.wide (board_of draft) (bridge_of read.0 device posted delayed) added read.1.1)
operations-add draft (NewTarget name bus device) added h =
    same_count _ _ (ap operations_of (unless-ok _ _ _ h).1)
operations-add draft (Identifies vendor model) added h = same_count _ _ (target_count draft (set_identity vendor model) added h)
operations-add draft (Stalls tokens) added h = same_count _ _ (target_count draft (set_stalls tokens) added h)
operations-add draft (Bursts phases) added h = same_count _ _ (target_count draft (set_burst phases) added h)
operations-add draft (Claims range) added h = same_count _ _ (target_count draft (add_range draft.wide range) added h)
operations-add draft (Aborts range) added h = same_count _ _ (target_count draft (add_abort draft.wide range) added h)
operations-add draft (Opens opening) added h = same_count _ _ (target_count draft (add_opening opening) added h)
operations-add draft (NewMaster name bus) added h =
    let counted = ap operations_of (unless-ok _ _ _ h).1 ∙ operations-push (board_of draft).masters (record { name = name; bus = bus; ops = [] }) in
    same_count _ _ (omega (arith, counted))
operations-add draft (Does op too_many) added h = does_count draft op too_many added h
operations-add draft (Discards planned) added h =
    same_count _ _ (ap operations_of (add_discard-ok draft.wide (board_of draft) planned added h).1)
operations-add draft (Drops planned) added h =
    same_count _ _ (ap operations_of (add_drop-ok draft.wide (board_of draft) planned added h).1)
