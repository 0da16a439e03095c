-- The names that a draft uses, and how many agents are on each bus, after a statement was added.
use Rattle.std.proofs.Common.{subst, zero, suc, get_or, set, get_or-set_same, get_or-set_other, ◌≢◌, replicate, sym, ap, ◌∙◌, ◌≡◌, ℕ, ◌+◌, ◌≤◌, ◌<◌, Bool, true, false, cond, ◌||◌, List, [], ◌∷◌, ◌++◌, length, refl, arith}
use Rattle.std.specs.Prelude.{Option, Some, None, Result, Ok, ◌==◌, nat_le, slice_index, slice_set}
use Rattle.std.specs.List.{list_any}
use Rattle.std.specs.Str.{bytes_eq}
use Rattle.std.specs.HashSet.{contains_text}
use Rattle.std.proofs.lemmas.List.Folds.{list_any-append}
use Rattle.std.proofs.lemmas.Bool.{eqb-true, eqb-false}
use Rattle.board_model.specs.Limits.{most_agents, most_tries}
use Rattle.board_model.specs.declared.bridge.Bridge.{Bridge}
use Rattle.board_model.specs.declared.agents.Target.{Target}
use Rattle.board_model.specs.declared.agents.Master.{Master}
use Rattle.board_model.specs.declared.board.Board.{Board}
use Rattle.board_model.specs.declared.op.Op.{Op}
use Rattle.board_model.specs.WellFormed.{is_target_named, is_master_named, agents_on, operations_in}
use Rattle.board_headers.specs.Windows.{reading_of}
use Rattle.text_faults.specs.declared.board_line.LineFault.{LineFault}
use Rattle.board_statements.specs.declared.statement.Statement.{Statement}
use Rattle.board_statements.specs.declared.statement.Statement.TheVariants.{NewBridge, NewHeader, NewTarget, Identifies, Stalls, Bursts, Claims, Aborts, Opens, NewMaster, Does, Discards, Drops}
use Rattle.board_parser.specs.declared.draft.counts.Counts.{Counts}
use Rattle.board_parser.specs.declared.draft.draft.Draft.{Draft}
use Rattle.board_parser.specs.declared.draft.draft.AgentPlace.{AgentPlace}
use Rattle.board_parser.specs.declared.draft.draft.AgentPlace.TheVariants.{OfTarget, OfMaster}
use Rattle.board_parser.specs.draft.Drafts.{board_of, draft_of, with_owner}
use Rattle.board_parser.specs.draft.Bridges.{bridge_of}
use Rattle.board_parser.specs.draft.Targets.{is_name_used, agent_fault, new_target, on_target, set_identity, set_stalls, set_burst, add_range, add_abort, add_opening}
use Rattle.board_parser.specs.draft.Masters.{add_op, does}
use Rattle.board_parser.specs.draft.Add.{add, tries_in}
use Rattle.board_parser.specs.draft.Counts.{IsCountOf, fault_in, agent_in, used_with, more_on, IsGrown}
use Rattle.board_parser.proofs.draft.AddedLemmas.{BridgePut, add_bridge-ok, put_header-ok, unless-ok, on_target-ok, on_master-ok, add_op-ok, add_range-ok, add_abort-ok, add_opening-ok, add_discard-ok, add_drop-ok}
use Rattle.board_parser.proofs.draft.CountLemmas.{operations-add}
use Rattle.board_parser.proofs.draft.PushLemmas.{count-push}
use Rattle.board_parser.proofs.draft.SoundLemmas.{place_by, one_more}

-- one board has that agent more than another
pub record HasMore (before after : Board) (agent : Option (List ℕ × ℕ)) : Type 0 where
  pub names : (name : List ℕ) → is_name_used after name ≡ used_with agent name (is_name_used before name)
  pub agents : (bus : ℕ) → agents_on after bus ≡ agents_on before bus + more_on agent bus

or_last : (a b c : Bool) → ((a || (b || false)) || c) ≡ cond b true (a || c)
or_last true true c = refl
or_last true false true = refl
or_last true false false = refl
or_last false true c = refl
or_last false false c = refl

or_end : (a b c : Bool) → (a || (c || (b || false))) ≡ cond b true (a || c)
or_end true true c = refl
or_end true false c = refl
or_end false true true = refl
or_end false true false = refl
or_end false false true = refl
or_end false false false = refl

target_more : (board : Board) (target : Target) → HasMore board (record board { targets = board.targets ++ target ∷ [] }) (Some (target.name, target.bus))
target_more board target = record {
  names = λ name.
      ap (λ b. b || list_any (is_master_named name) board.masters) (list_any-append (is_target_named name) board.targets (target ∷ []))
      ∙ or_last (list_any (is_target_named name) board.targets) (bytes_eq target.name name) (list_any (is_master_named name) board.masters);
  agents = λ bus.
      let counted = count-push (λ (t : Target). t.bus == bus) board.targets target in
      omega (arith, counted);
}

master_more : (board : Board) (master : Master) → HasMore board (record board { masters = board.masters ++ master ∷ [] }) (Some (master.name, master.bus))
master_more board master = record {
  names = λ name.
      ap (λ b. list_any (is_target_named name) board.targets || b) (list_any-append (is_master_named name) board.masters (master ∷ []))
      ∙ or_end (list_any (is_target_named name) board.targets) (bytes_eq master.name name) (list_any (is_master_named name) board.masters);
  agents = λ bus.
      let counted = count-push (λ (m : Master). m.bus == bus) board.masters master in
      omega (arith, counted);
}

-- two boards with the same agents
same_agents : (before after : Board) → ((name : List ℕ) → is_name_used after name ≡ is_name_used before name) → ((bus : ℕ) → agents_on after bus ≡ agents_on before bus) → HasMore before after None
same_agents before after names agents = record { names = names; agents = λ bus. let same = agents bus in omega (arith, same) }

-- two boards with one agent more than a third, of the same name and bus
as_before : (board before after : Board) (one other : List ℕ × ℕ) → HasMore board before (Some one) → HasMore board after (Some other) → other ≡ one → HasMore before after None
as_before board before after one other first second same =
    let P : (List ℕ × ℕ) → Type 0 = λ agent. HasMore board after (Some agent) in
    let third = subst P same second in
    same_agents before after (λ name. third.names name ∙ sym (first.names name)) (λ bus. third.agents bus ∙ sym (first.agents bus))

-- A detail keeps the name and the bus.

abbrev Named : Target → Target → Type 0
Named target changed = (changed.name ≡ target.name) × (changed.bus ≡ target.bus)

named_by : (target expected changed : Target) → changed ≡ expected → Named target expected → Named target changed
named_by target expected changed is named = let P : Target → Type 0 = λ t. Named target t in subst P (sym is) named

detail_more : (draft : Draft) (change : Target → Result Target LineFault) (added : Draft) → on_target draft change ≡ Ok added → ((target changed : Target) → change target ≡ Ok changed → Named target changed) → HasMore (board_of draft) (board_of added) None
detail_more draft change added h each =
    let done = on_target-ok draft change added h in
    let named = each done.target done.changed done.did in
    let same : (done.changed.name, done.changed.bus) ≡ (done.target.name, done.target.bus) = cc in
    let P : AgentPlace → Type 0 = λ owner. HasMore (with_owner draft.board owner) (with_owner draft.board (OfTarget done.changed)) None in
    let Q : Draft → Type 0 = λ d. HasMore (board_of draft) (board_of d) None in
    subst Q (sym done.is) (subst P (sym done.was)
    (as_before draft.board _ _ _ _ (target_more draft.board done.target) (target_more draft.board done.changed) same))

does_more : (draft : Draft) (op : Op) (too_many : Bool) (added : Draft) → does draft op too_many ≡ Ok added → HasMore (board_of draft) (board_of added) None
does_more draft op too_many added h =
    let done = on_master-ok draft (add_op (operations_in (board_of draft).masters) op too_many) added h in
    let put = add_op-ok (operations_in (board_of draft).masters) op too_many done.master done.changed done.did in
    let pair : Master → List ℕ × ℕ = λ m. (m.name, m.bus) in
    let same : (done.changed.name, done.changed.bus) ≡ (done.master.name, done.master.bus) = ap (λ (m : Master). let named : List ℕ × ℕ = (m.name, m.bus) in named) put.is in
    let P : AgentPlace → Type 0 = λ owner. HasMore (with_owner draft.board owner) (with_owner draft.board (OfMaster done.changed)) None in
    let Q : Draft → Type 0 = λ d. HasMore (board_of draft) (board_of d) None in
    subst Q (sym done.is) (subst P (sym done.was)
    (as_before draft.board _ _ _ _ (master_more draft.board done.master) (master_more draft.board done.changed) same))

others_same : (before : Board) (after : Draft) (expected : Draft) → after ≡ expected → HasMore before (board_of expected) None → HasMore before (board_of after) None
others_same before after expected is more = let P : Draft → Type 0 = λ d. HasMore before (board_of d) None in subst P (sym is) more

bridge_more : (wide : Bool) (board : Board) (bridge : Bridge) (added : Draft) → BridgePut wide board bridge added → HasMore board (board_of added) None
bridge_more wide board bridge added put = others_same board added _ put.is (same_agents board _ (λ name. refl) (λ bus. refl))

pub more-add : (draft : Draft) (statement : Statement) (added : Draft) → add draft statement ≡ Ok added → HasMore (board_of draft) (board_of added) (agent_in statement)
more-add draft (NewBridge bridge) added h =
    bridge_more draft.wide (board_of draft) bridge added (add_bridge-ok draft.wide (board_of draft) bridge added h).put
more-add draft (NewHeader device bytes posted delayed) added h =
    let read = put_header-ok draft.wide (board_of draft) device posted delayed (reading_of bytes) added h in
    bridge_more draft.wide (board_of draft) (bridge_of read.0 device posted delayed) added read.1.1
more-add draft (NewTarget name bus device) added h =
    let P : Draft → Type 0 = λ d. HasMore (board_of draft) (board_of d) (Some (name, bus)) in
    subst P (sym (unless-ok _ _ _ h).1) (target_more (board_of draft) (new_target name bus device))
more-add draft (Identifies vendor model) added h =
    detail_more draft (set_identity vendor model) added h (λ target changed did. named_by target (record target { vendor = vendor; model = model }) changed (cc) (refl, refl))
more-add draft (Stalls tokens) added h =
    detail_more draft (set_stalls tokens) added h (λ target changed did. named_by target (record target { stalls = tokens }) changed (cc) (refl, refl))
more-add draft (Bursts phases) added h =
    detail_more draft (set_burst phases) added h (λ target changed did. named_by target (record target { burst = phases }) changed (cc) (refl, refl))
more-add draft (Claims range) added h =
    detail_more draft (add_range draft.wide range) added h (λ target changed did. named_by target (record target { ranges = target.ranges ++ range ∷ [] }) changed (add_range-ok draft.wide range target changed did).is (refl, refl))
more-add draft (Aborts range) added h =
    detail_more draft (add_abort draft.wide range) added h (λ target changed did. named_by target (record target { aborts = target.aborts ++ range ∷ [] }) changed (add_abort-ok draft.wide range target changed did).is (refl, refl))
more-add draft (Opens opening) added h =
    detail_more draft (add_opening opening) added h (λ target changed did. named_by target (record target { openings = target.openings ++ opening ∷ [] }) changed (add_opening-ok opening target changed did).is (refl, refl))
more-add draft (NewMaster name bus) added h =
    let P : Draft → Type 0 = λ d. HasMore (board_of draft) (board_of d) (Some (name, bus)) in
    subst P (sym (unless-ok _ _ _ h).1) (master_more (board_of draft) (record { name = name; bus = bus; ops = [] }))
more-add draft (Does op too_many) added h = does_more draft op too_many added h
more-add draft (Discards planned) added h =
    others_same (board_of draft) added (draft_of draft.wide (record (board_of draft) { discards = (board_of draft).discards ++ planned ∷ [] })) (add_discard-ok draft.wide (board_of draft) planned added h).1
    (same_agents (board_of draft) (record (board_of draft) { discards = (board_of draft).discards ++ planned ∷ [] }) (λ name. refl) (λ bus. refl))
more-add draft (Drops planned) added h =
    others_same (board_of draft) added (draft_of draft.wide (record (board_of draft) { drops = (board_of draft).drops ++ planned ∷ [] })) (add_drop-ok draft.wide (board_of draft) planned added h).1
    (same_agents (board_of draft) (record (board_of draft) { drops = (board_of draft).drops ++ planned ∷ [] }) (λ name. refl) (λ bus. refl))

-- At most eight agents on a bus.

few_same : (before after : Board) → HasMore before after None → ((b : ℕ) → agents_on before b ≤ most_agents) → (bus : ℕ) → agents_on after bus ≤ most_agents
few_same before after more few bus = let counted = more.agents bus in let fewer = few bus in omega (arith, counted, fewer)

few_more : (before after : Board) (name : List ℕ) (at : ℕ) → HasMore before after (Some (name, at)) → agents_on before at < most_agents
    → ((b : ℕ) → agents_on before b ≤ most_agents) → (bus : ℕ) → agents_on after bus ≤ most_agents
few_more before after name at more room few bus =
    let counted = more.agents bus in
    let fewer = one_more (agents_on before) at bus few room in
    omega (arith, counted, fewer)

few-add : (draft : Draft) (statement : Statement) (added : Draft) → add draft statement ≡ Ok added → HasMore (board_of draft) (board_of added) (agent_in statement)
    → ((b : ℕ) → agents_on (board_of draft) b ≤ most_agents) → (bus : ℕ) → agents_on (board_of added) bus ≤ most_agents
few-add draft (NewBridge bridge) added h more few = few_same _ _ more few
few-add draft (NewHeader device bytes posted delayed) added h more few = few_same _ _ more few
few-add draft (NewTarget name bus device) added h more few =
    few_more (board_of draft) (board_of added) name bus more (place_by (board_of draft) name bus (unless-ok _ _ _ h).0).room few
few-add draft (Identifies vendor model) added h more few = few_same _ _ more few
few-add draft (Stalls tokens) added h more few = few_same _ _ more few
few-add draft (Bursts phases) added h more few = few_same _ _ more few
few-add draft (Claims range) added h more few = few_same _ _ more few
few-add draft (Aborts range) added h more few = few_same _ _ more few
few-add draft (Opens opening) added h more few = few_same _ _ more few
few-add draft (NewMaster name bus) added h more few =
    few_more (board_of draft) (board_of added) name bus more (place_by (board_of draft) name bus (unless-ok _ _ _ h).0).room few
few-add draft (Does op too_many) added h more few = few_same _ _ more few
few-add draft (Discards planned) added h more few = few_same _ _ more few
few-add draft (Drops planned) added h more few = few_same _ _ more few

-- Counts.

same_fault : (used other : Bool) (full more : ℕ) (first second : LineFault) → used ≡ other → full ≡ more
    → cond used (Some first) (cond (nat_le most_agents full) (Some second) None) ≡ cond other (Some first) (cond (nat_le most_agents more) (Some second) None)
same_fault used other full more first second a b = cc

-- the counts tell the fault of one more agent
pub fault_is : (counts : Counts) (board : Board) (name : List ℕ) (bus : ℕ) → IsCountOf counts board → bus < 256 → fault_in counts name bus ≡ agent_fault board name bus
fault_is counts board name bus count below =
    same_fault (contains_text counts.names name) (is_name_used board name) (slice_index counts.agents bus) (agents_on board bus) _ _ (count.names name) (count.agents bus below)

-- and there is room for what is added
pub agents_few : (counts : Counts) (board : Board) → IsCountOf counts board → (bus : ℕ) → bus < 256 → slice_index counts.agents bus ≤ most_agents
agents_few counts board count bus below =
    let same = count.agents bus below in
    let few = count.few_agents bus in
    omega (arith, same, few)

pub operations_few : (counts : Counts) (draft : Draft) (statement : Statement) (added : Draft) → IsCountOf counts (board_of draft)
    → add draft statement ≡ Ok added → counts.operations + tries_in statement ≤ most_tries
operations_few counts draft statement added count h =
    let counted = operations-add draft statement added h in
    let same = count.operations in
    let limit = count.few_operations in
    let few = counted.few (omega (arith, same, limit)) in
    let is = counted.is in
    omega (arith, same, few, is)

pub count-grown : (old new : Counts) (draft : Draft) (statement : Statement) (added : Draft) (agent : Option (List ℕ × ℕ)) (tries : ℕ) → IsCountOf old (board_of draft) → add draft statement ≡ Ok added → agent ≡ agent_in statement → tries ≡ tries_in statement → IsGrown old new agent tries → IsCountOf new (board_of added)
count-grown old new draft statement added agent tries count h told tried grown =
    let Q : Option (List ℕ × ℕ) → Type 0 = λ a. IsGrown old new a tries in
    let R : ℕ → Type 0 = λ n. IsGrown old new (agent_in statement) n in
    let grew : IsGrown old new (agent_in statement) (tries_in statement) = subst R tried (subst Q told grown) in
    let more = more-add draft statement added h in
    let counted = operations-add draft statement added h in
    let same = count.operations in
    let most = operations_few old draft statement added count h in
    let now = grew.operations in
    let is = counted.is in
    record {
      names = λ name. grew.names name ∙ (ap (used_with (agent_in statement) name) (count.names name) ∙ sym (more.names name));
      agents = λ bus below.
          let was = count.agents bus below in
          let now_on = grew.agents bus below in
          let after = more.agents bus in
          omega (arith, was, now_on, after);
      few_agents = few-add draft statement added h more count.few_agents;
      operations = omega (arith, same, now, is);
      few_operations = omega (arith, most, now);
    }

-- one more in the table at a bus
pub agents_put : (agents : List ℕ) (at place bus : ℕ) → place ≡ at → at < length agents → slice_index (slice_set agents place (slice_index agents place + 1)) bus ≡ slice_index agents bus + cond (at == bus) 1 0
agents_put agents at place bus same within =
    let P : Bool → Type 0 = λ b. (at == bus) ≡ b → get_or (set agents place (get_or agents place 0 + 1)) bus 0 ≡ get_or agents bus 0 + cond b 1 0 in
    (elim (at == bus) as P [
      | true ↦ λ hit.
          let on : at ≡ bus = eqb-true at bus hit in
          let here : place ≡ bus = same ∙ on in
          let there : bus < length agents = omega (arith, on) in
          rw here (rw get_or-set_same refl)
      | false ↦ λ miss.
          let other : bus ≢ place = λ is. eqb-false at bus miss (sym (is ∙ same)) in
          rw get_or-set_other (omega arith)
    ]) refl

-- a table of nothing
pub agents_none : (n bus : ℕ) → slice_index (replicate n 0) bus ≡ 0
agents_none zero bus = refl
agents_none (suc n) zero = refl
agents_none (suc n) (suc bus) = agents_none n bus
