-- A statement that its words saw to, added to a sound draft, leaves a sound draft.
use Rattle.std.proofs.Common.{subst, sym, ◌≡◌, ℕ, ◌+◌, Bool, true, List, length, refl, arith, lit≤}
use Rattle.std.specs.Prelude.{Result, Ok, nat_le, nat_lt}
use Rattle.std.proofs.lemmas.Bool.{and_from, and_parts, or_parts, not-false, leb-false, leb-true, ltb-false, le-leb}
use Rattle.list_facts.specs.Lists.{total}
use Rattle.list_facts.proofs.TotalLemmas.{total-push}
use Rattle.board_model.specs.Limits.{most_ops, most_tries}
use Rattle.board_model.specs.declared.bridge.Bridge.{Bridge}
use Rattle.board_model.specs.declared.agents.Target.{Target}
use Rattle.board_model.specs.declared.agents.Master.{Master}
use Rattle.board_model.specs.declared.board.Board.{Board}
use Rattle.board_model.specs.declared.op.Op.{Op}
use Rattle.board_model.specs.Requests.{tries_of}
use Rattle.board_model.specs.WellFormed.{is_well_formed_bridge, is_well_formed_target, is_well_formed_op, operations_in}
use Rattle.board_headers.specs.Windows.{reading_of}
use Rattle.text_faults.specs.declared.board_line.LineFault.{LineFault}
use Rattle.board_statements.specs.declared.statement.Statement.{Statement}
use Rattle.board_statements.specs.declared.statement.Statement.TheVariants.{NewBridge, NewHeader, NewTarget, Identifies, Stalls, Bursts, Claims, Aborts, Opens, NewMaster, Does, Discards, Drops}
use Rattle.board_parser.specs.declared.draft.draft.Draft.{Draft}
use Rattle.board_parser.specs.declared.draft.draft.AgentPlace.{AgentPlace}
use Rattle.board_parser.specs.draft.Drafts.{board_of, first_draft}
use Rattle.board_parser.specs.draft.Bridges.{bridge_of}
use Rattle.board_parser.specs.draft.Targets.{new_target, on_target, set_identity, set_stalls, set_burst, add_range, add_abort, add_opening}
use Rattle.board_parser.specs.draft.Masters.{add_op, does}
use Rattle.board_parser.specs.draft.Add.{add}
use Rattle.board_parser.specs.draft.Formed.{is_formed, is_formed_op}
use Rattle.board_parser.proofs.draft.AddedLemmas.{BridgePut, add_bridge-ok, put_header-ok, unless-ok, on_target-ok, on_master-ok, add_op-ok, add_discard-ok, add_drop-ok}
use Rattle.board_parser.proofs.draft.CountLemmas.{owner_count}
use Rattle.board_parser.proofs.draft.PushLemmas.{all-push, length-push}
use Rattle.board_parser.proofs.draft.BridgeLemmas.{bridge_formed}
use Rattle.board_parser.proofs.draft.HeaderLemmas.{header_formed}
use Rattle.board_parser.proofs.draft.TargetLemmas.{IsDetailed, range_detail, abort_detail, opening_detail, identity_detail, stalls_detail, burst_detail}
use Rattle.board_parser.proofs.draft.OpLemmas.{op_formed}
use Rattle.board_parser.proofs.draft.SoundLemmas.{IsSound, HasPlace, place_by, TargetSound, MasterSound, OwnerSound, owner_closed, with_bridge, with_discard, with_drop}
use Rattle.board_model.proofs.Laws.{Target-from, Master-parts}

pub record IsDraftSound (draft : Draft) : Type 0 where
  pub board : IsSound draft.board
  pub owner : OwnerSound draft.board draft.owner

pub closed_sound : (draft : Draft) → IsDraftSound draft → IsSound (board_of draft)
closed_sound draft sound = owner_closed draft.board draft.owner sound.board sound.owner

pub first_sound : (wide : Bool) → IsDraftSound (first_draft wide)
first_sound wide = record {
  board = record {
    few_bridges = omega arith;
    bridges = refl;
    numbered = refl;
    targets = refl;
    masters = refl;
    children = λ bus. omega arith;
    agents = λ bus. omega arith;
    targets_named = refl;
    masters_named = refl;
    operations = omega arith;
    few_discards = omega arith;
    discards = refl;
    few_drops = omega arith;
    drops = refl;
  };
  owner = tt;
}

bridge_sound : (wide : Bool) (board : Board) (bridge : Bridge) (added : Draft) → IsSound board → is_well_formed_bridge bridge ≡ true → BridgePut wide board bridge added → IsDraftSound added
bridge_sound wide board bridge added sound formed put =
    let P : Draft → Type 0 = λ d. IsDraftSound d in
    subst P (sym put.is) (record { board = with_bridge board bridge sound formed put.apart put.few; owner = tt })

new_target_formed : (name : List ℕ) (bus device : ℕ) → nat_le device 31 ≡ true → is_well_formed_target (new_target name bus device) ≡ true
new_target_formed name bus device formed = Target-from (new_target name bus device) (record {
  device = leb-true _ _ formed;
  stalls = lit≤ tt;
  burst = record { from = lit≤ tt; to = lit≤ tt };
  ranges = refl;
  registers = lit≤ tt;
  aborts = refl;
  few_aborts = lit≤ tt;
  openings = refl;
  few_openings = lit≤ tt;
})

detail_sound : (draft : Draft) (change : Target → Result Target LineFault) (added : Draft) → IsDraftSound draft → on_target draft change ≡ Ok added → ((target changed : Target) → is_well_formed_target target ≡ true → change target ≡ Ok changed → IsDetailed target changed) → IsDraftSound added
detail_sound draft change added sound h each =
    let done = on_target-ok draft change added h in
    let Q : AgentPlace → Type 0 = λ owner. OwnerSound draft.board owner in
    let before : TargetSound draft.board done.target = subst Q done.was sound.owner in
    let detailed = each done.target done.changed before.formed done.did in
    let NamedPlace : List ℕ → Type 0 = λ name. HasPlace draft.board name done.target.bus in
    let BusPlace : ℕ → Type 0 = λ bus. HasPlace draft.board done.changed.name bus in
    let place : HasPlace draft.board done.changed.name done.changed.bus =
    subst BusPlace (sym detailed.bus) (subst NamedPlace (sym detailed.name) before.place) in
    let P : Draft → Type 0 = λ d. IsDraftSound d in
    subst P (sym done.is) (record { board = sound.board; owner = record { formed = detailed.formed; place = place } })

does_sound : (draft : Draft) (op : Op) (too_many : Bool) (added : Draft) → is_formed_op op ≡ true → IsDraftSound draft → does draft op too_many ≡ Ok added → IsDraftSound added
does_sound draft op too_many added formed sound h =
    let done = on_master-ok draft (add_op (operations_in (board_of draft).masters) op too_many) added h in
    let put = add_op-ok (operations_in (board_of draft).masters) op too_many done.master done.changed done.did in
    let Q : AgentPlace → Type 0 = λ owner. OwnerSound draft.board owner in
    let before : MasterSound draft.board done.master = subst Q done.was sound.owner in
    let counted : operations_in (board_of draft).masters ≡ operations_in draft.board.masters + total tries_of done.master.ops =
    owner_count draft.board draft.owner done.master done.was in
    let limits = or_parts (nat_le most_ops (length done.master.ops)) (nat_lt most_tries (operations_in (board_of draft).masters + tries_of op)) put.few in
    let in_all = ltb-false most_tries (operations_in (board_of draft).masters + tries_of op) limits.1 in
    let parts = Master-parts done.master before.formed in
    let one = op_formed op formed (not-false _ put.aligned) (or_parts _ _ put.within).1 in
    let own = leb-false most_ops (length done.master.ops) limits.0 in
    let longer = length-push done.master.ops op in
    let tries = total-push tries_of done.master.ops op in
    let M : Master → Type 0 = λ m. MasterSound draft.board m in
    let after : MasterSound draft.board done.changed = subst M (sym put.is) (record {
      formed = and_from _ _ (le-leb _ _ (omega (arith, own, longer))) (all-push is_well_formed_op done.master.ops op parts.ops one);
      place = before.place;
      operations = omega (arith, counted, in_all, tries);
    }) in
    let P : Draft → Type 0 = λ d. IsDraftSound d in
    subst P (sym done.is) (record { board = sound.board; owner = after })

pub add_sound : (draft : Draft) (statement : Statement) (added : Draft) → is_formed statement ≡ true → IsDraftSound draft → add draft statement ≡ Ok added → IsDraftSound added
add_sound draft (NewBridge bridge) added formed sound h =
    let done = add_bridge-ok draft.wide (board_of draft) bridge added h in
    bridge_sound draft.wide (board_of draft) bridge added (closed_sound draft sound) (bridge_formed bridge formed done.whole done.ordered) done.put
add_sound draft (NewHeader device bytes posted delayed) added formed sound h =
    let read = put_header-ok draft.wide (board_of draft) device posted delayed (reading_of bytes) added h in
    let f3 = and_parts _ _ formed in
    let f2 = and_parts _ _ f3.0 in
    let f1 = and_parts _ _ f2.0 in
    bridge_sound draft.wide (board_of draft) (bridge_of read.0 device posted delayed) added (closed_sound draft sound)
    (header_formed bytes read.0 device posted delayed f1.0 f1.1 f2.1 f3.1 read.1.0) read.1.1
add_sound draft (NewTarget name bus device) added formed sound h =
    let done = unless-ok _ _ _ h in
    let P : Draft → Type 0 = λ d. IsDraftSound d in
    subst P (sym done.1) (record {
      board = closed_sound draft sound;
      owner = record { formed = new_target_formed name bus device formed; place = place_by (board_of draft) name bus done.0 };
    })
add_sound draft (Identifies vendor model) added formed sound h = detail_sound draft (set_identity vendor model) added sound h (identity_detail vendor model)
add_sound draft (Stalls tokens) added formed sound h = detail_sound draft (set_stalls tokens) added sound h (λ target changed. stalls_detail tokens target changed formed)
add_sound draft (Bursts phases) added formed sound h = detail_sound draft (set_burst phases) added sound h (λ target changed. burst_detail phases target changed formed)
add_sound draft (Claims range) added formed sound h = detail_sound draft (add_range draft.wide range) added sound h (λ target changed. range_detail draft.wide range target changed formed)
add_sound draft (Aborts range) added formed sound h = detail_sound draft (add_abort draft.wide range) added sound h (λ target changed. abort_detail draft.wide range target changed formed)
add_sound draft (Opens opening) added formed sound h = detail_sound draft (add_opening opening) added sound h (λ target changed. opening_detail opening target changed formed)
add_sound draft (NewMaster name bus) added formed sound h =
    let done = unless-ok _ _ _ h in
    let P : Draft → Type 0 = λ d. IsDraftSound d in
    let closed = closed_sound draft sound in
    let few = closed.operations in
    subst P (sym done.1) (record {
      board = closed;
      owner = record { formed = refl; place = place_by (board_of draft) name bus done.0; operations = omega (arith, few) };
    })
add_sound draft (Does op too_many) added formed sound h = does_sound draft op too_many added formed sound h
add_sound draft (Discards planned) added formed sound h =
    let done = add_discard-ok draft.wide (board_of draft) planned added h in
    let P : Draft → Type 0 = λ d. IsDraftSound d in
    subst P (sym done.1) (record { board = with_discard (board_of draft) planned (closed_sound draft sound) formed done.0; owner = tt })
add_sound draft (Drops planned) added formed sound h =
    let done = add_drop-ok draft.wide (board_of draft) planned added h in
    let P : Draft → Type 0 = λ d. IsDraftSound d in
    subst P (sym done.1) (record { board = with_drop (board_of draft) planned (closed_sound draft sound) formed done.0; owner = tt })
