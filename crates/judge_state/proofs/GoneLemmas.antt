-- How many data phases of each operation went through.
use Rattle.std.proofs.Common.{◌≡◌, ◌≢◌, ℕ, Bool, true, false, ◌+◌, ◌<◌, ◌≤◌, ◌^◌, ◌==◌, ◌&&◌, List, [], ◌∷◌, Option, None, Some, refl, sym, ap, subst, ◌∙◌, arith, if◌then◌else◌}
use Rattle.std.specs.Prelude.{slice_get, nat_lt}
use Rattle.std.specs.Option.{option_map, option_and_then}
use Rattle.std.proofs.lemmas.Bool.Decides.{nat_tests}
use Rattle.pci_command.specs.declared.command.Space.{Space}
use Rattle.pci_command.specs.declared.command.Space.TheVariants.{Mem, Io, Cfg}
use Rattle.pci_command.specs.Same.{same_op}
use Rattle.pci_command.specs.declared.op_id.OpId.{OpId}
use Rattle.board_model.specs.Limits.{most_dwords}
use Rattle.board_model.specs.declared.op.Want.{Want}
use Rattle.board_model.specs.declared.agents.Master.{Master as MasterAgent}
use Rattle.board_model.specs.declared.bridge.Place.{Place}
use Rattle.board_model.specs.declared.op.Op.{Op}
use Rattle.board_model.specs.declared.op.Op.TheVariants.{Read as ReadOp, Write, CfgRead, CfgWrite, Poll}
use Rattle.board_model.specs.declared.board.Board.{Board}
use Rattle.board_model.specs.Requests.{op_of, tries_of, request_of, request_on, is_posted}
use Rattle.history_model.specs.declared.event.By.{By}
use Rattle.history_model.specs.declared.event.Step.TheVariants.{Land, Part, Read, Accept, Latch, Take, Stall, MasterAbort, TargetAbort}
use Rattle.history_model.specs.declared.event.Event.{Event}
use Rattle.history_model.specs.declared.event.Event.TheVariants.{Act, Arrive}
use Rattle.history_model.specs.declared.item.Answer.TheVariants.{Gives}
use Rattle.history_model.specs.declared.rule.Rule.{Rule}
use Rattle.history_model.specs.World.{noted, world_by}
use Rattle.history_model.specs.Words.{through}
use Rattle.history_model.specs.Answers.{answer_to}
use Rattle.history_model.specs.Runs.{RunBy, AllowedBy}
use Rattle.law_lanes.specs.Phases.{DelayedAreSingle}
use Rattle.law_lanes.proofs.rules.Laws.{delayed-not_parted_by}
use Rattle.judge_state.specs.State.{list_in, gone_in, gone_added, gone_next, GoneFits}
use Rattle.machine_steps.specs.Counts.{or_zero}
use Rattle.list_facts.specs.Lists.{changed_at, changed_with}
use Rattle.judge_state.specs.Stands.{PartsAreSmallBy}
use Rattle.judge_state.proofs.PlaceLemmas.{changed_same, changed_other}

abbrev slot_in : List (List ℕ) → ℕ → ℕ → Option ℕ
slot_in gone master index = slice_get (list_in (slice_get gone master)) index

added_same : (gone : List (List ℕ)) (p : OpId) (n x : ℕ) → slot_in gone p.master p.index ≡ Some x → slot_in (gone_added p n gone) p.master p.index ≡ Some (x + n)
added_same gone p n x there =
    let f : ℕ → ℕ = λ c. c + n in
    let g : List ℕ → List ℕ = λ row. changed_at f row (Some p.index) in
    let P : Option (List ℕ) → Type 0 = λ r. slice_get gone p.master ≡ r → slice_get (list_in r) p.index ≡ Some x → slot_in (gone_added p n gone) p.master p.index ≡ Some (x + n) in
    (elim (slice_get gone p.master) as P [
      | None ↦ λ _ never. cc
      | Some row ↦ λ at found. ap (λ (r : Option (List ℕ)). slice_get (list_in r) p.index) (changed_same g gone p.master row at) ∙ changed_same f row p.index x found
    ]) refl there

added_other : (gone : List (List ℕ)) (p : OpId) (n master index : ℕ) → (p.master == master && p.index == index) ≡ false → slot_in (gone_added p n gone) master index ≡ slot_in gone master index
added_other gone p n master index other =
    let f : ℕ → ℕ = λ c. c + n in
    let g : List ℕ → List ℕ = λ row. changed_at f row (Some p.index) in
    let P : Bool → Type 0 = λ b. (p.master == master) ≡ b → (b && p.index == index) ≡ false → slot_in (gone_added p n gone) master index ≡ slot_in gone master index in
    (elim (p.master == master) as P [
      | true ↦ λ same differ.
          let one : p.master ≡ master = grind (arith, nat_tests) in
          let apart : index ≢ p.index = λ is. (let all : (p.index == index) ≡ true = grind (arith, nat_tests) in absurd (cc)) in
          let Q : Option (List ℕ) → Type 0 = λ r. slice_get gone p.master ≡ r → slot_in (gone_added p n gone) p.master index ≡ slice_get (list_in r) index in
          let here : slot_in (gone_added p n gone) p.master index ≡ slot_in gone p.master index =
          (elim (slice_get gone p.master) as Q [
            | None ↦ λ at.
                let R : Option (List ℕ) → Type 0 = λ r. slice_get (list_in (slice_get (changed_with g gone p.master r) p.master)) index ≡ slice_get [] index in
                subst R (sym at) (ap (λ (r : Option (List ℕ)). slice_get (list_in r) index) at)
            | Some row ↦ λ at. ap (λ (r : Option (List ℕ)). slice_get (list_in r) index) (changed_same g gone p.master row at) ∙ changed_other f row p.index index apart
          ]) refl in
          subst (λ (m : ℕ). slot_in (gone_added p n gone) m index ≡ slot_in gone m index) one here
      | false ↦ λ differ _.
          let apart : master ≢ p.master = λ is. (let all : (p.master == master) ≡ true = grind (arith, nat_tests) in absurd (cc)) in
          ap (λ (r : Option (List ℕ)). slice_get (list_in r) index) (changed_other g gone p.master master apart)
    ]) refl other

-- Of two names with one master and index, which both name the operation of a posted write, the try is the same.

no_posted_poll : (space : Space) (address : ℕ) (want : Want) (tries on : ℕ) → is_posted (request_on (Poll space address want tries) on) ≡ true → ⊥
no_posted_poll Mem address want tries on posted = cc
no_posted_poll Io address want tries on posted = cc
no_posted_poll Cfg address want tries on posted = cc

posted_once : (op : Op) (on : ℕ) → is_posted (request_on op on) ≡ true → tries_of op ≡ 1
posted_once (ReadOp command address) on posted = refl
posted_once (Write command address phases) on posted = refl
posted_once (CfgRead bus device register) on posted = refl
posted_once (CfgWrite bus device register phase) on posted = refl
posted_once (Poll space address want tries) on posted = absurd (no_posted_poll space address want tries on posted)

abbrev tried : ℕ → Op → Option Op
tried attempt op = if nat_lt attempt (tries_of op) then Some op else None

tried_one : (attempt : ℕ) (base op : Op) → tried attempt base ≡ Some op → (op ≡ base) × (attempt < tries_of base)
tried_one attempt base op there =
    let P : Bool → Type 0 = λ b. nat_lt attempt (tries_of base) ≡ b → (if b then Some base else None) ≡ Some op → (op ≡ base) × (attempt < tries_of base) in
    (elim (nat_lt attempt (tries_of base)) as P [
      | true ↦ λ below same. (let is : op ≡ base = cc in is, grind (arith, nat_tests))
      | false ↦ λ _ never. cc
    ]) refl there

-- the operation that a name names, before its try is looked at
abbrev base_of : Board → ℕ → ℕ → Option Op
base_of board master index = option_and_then (λ (m : MasterAgent). slice_get m.ops index) (slice_get board.masters master)

tries_alike : (board : Board) (p o : OpId) (q op : Op) (on : ℕ) → p.master ≡ o.master → p.index ≡ o.index → op_of board p ≡ Some q → op_of board o ≡ Some op → is_posted (request_on q on) ≡ true → p.attempt ≡ o.attempt
tries_alike board p o q op on masters indexes is_q is_op posted =
    let alike : base_of board p.master p.index ≡ base_of board o.master o.index = cc in
    let P : Option Op → Type 0 = λ base. base_of board p.master p.index ≡ base → option_and_then (tried p.attempt) base ≡ Some q → option_and_then (tried o.attempt) base ≡ Some op → p.attempt ≡ o.attempt in
    let second : option_and_then (tried o.attempt) (base_of board p.master p.index) ≡ Some op = subst (λ (b : Option Op). option_and_then (tried o.attempt) b ≡ Some op) (sym alike) is_op in
    (elim (base_of board p.master p.index) as P [
      | None ↦ λ _ never _. cc
      | Some base ↦ λ _ first other.
          let one = tried_one p.attempt base q first in
          let two = tried_one o.attempt base op other in
          let once : tries_of base ≡ 1 = posted_once base on (subst (λ (x : Op). is_posted (request_on x on) ≡ true) one.0 posted) in
          omega (arith, one.1, two.1)
    ]) refl is_q second

-- After an event.

self_same : (a : OpId) → same_op a a ≡ true
self_same a =
    let m : (a.master == a.master) ≡ true = grind (arith, nat_tests) in
    let i : (a.index == a.index) ≡ true = grind (arith, nat_tests) in
    let t : (a.attempt == a.attempt) ≡ true = grind (arith, nat_tests) in
    rw (m, i, t)

parted : (rule : Rule) (board : Board) (h : List Event) (on : ℕ) (by : By) (p : OpId) (n : ℕ) (place : Place) (gone : List (List ℕ)) → DelayedAreSingle board → RunBy rule board h → AllowedBy rule board h (Act on by p (Part n) place)
    → (o : OpId) (op : Op) → op_of board o ≡ Some op → slot_in gone o.master o.index ≡ Some (through h o)
    → slot_in (gone_added p n gone) o.master o.index ≡ Some ((if same_op p o then n else 0) + through h o)
parted rule board h on by p n place gone single run allowed o op is was =
    let P : Bool → Type 0 = λ b. (p.master == o.master && p.index == o.index) ≡ b → slot_in (gone_added p n gone) o.master o.index ≡ Some ((if b && p.attempt == o.attempt then n else 0) + through h o) in
    (elim (p.master == o.master && p.index == o.index) as P [
      | false ↦ λ other. added_other gone p n o.master o.index other ∙ was ∙ ap (λ (m : ℕ). Some m) (omega arith)
      | true ↦ λ same. here same
    ]) refl where
      both_true : (a b : Bool) → (a && b) ≡ true → (a ≡ true) × (b ≡ true)
      both_true true true e = (refl, refl)
      both_true true false e = cc
      both_true false b e = cc

      same_self : (a : OpId) → same_op a a ≡ true
      same_self a =
          let m : (a.master == a.master) ≡ true = grind (arith, nat_tests) in
          let i : (a.index == a.index) ≡ true = grind (arith, nat_tests) in
          let t : (a.attempt == a.attempt) ≡ true = grind (arith, nat_tests) in
          rw (m, i, t)

      nothing : p.master ≡ o.master → p.index ≡ o.index → (p.attempt == o.attempt) ≡ false → n ≡ 0
      nothing masters indexes differ =
          let R : Option Op → Type 0 = λ found. op_of board p ≡ found → answer_to board (world_by rule board h) h on (noted rule by) p (option_map (λ q. request_on q on) found) ≡ Gives (Part n) place → n ≡ 0 in
          (elim (op_of board p) as R [
            | None ↦ λ _ never. cc
            | Some q ↦ λ is_q _.
                let S : Bool → Type 0 = λ b. is_posted (request_on q on) ≡ b → n ≡ 0 in
                (elim (is_posted (request_on q on)) as S [
                  | true ↦ λ posted.
                      let alike : p.attempt ≡ o.attempt = tries_alike board p o q op on masters indexes is_q is posted in
                      let never : (p.attempt == o.attempt) ≡ true = grind (arith, nat_tests) in
                      absurd (cc)
                  | false ↦ λ delayed.
                      let requested : request_of board p on ≡ Some (request_on q on) = rw is_q refl in
                      let whole = delayed-not_parted_by rule board (Act on by p (Part n) place ∷ h) p on (request_on q on) single (allowed, run) requested delayed in
                      let self : same_op p p ≡ true = same_self p in
                      let sums : n + through h p ≡ 0 = subst (λ (b : Bool). (if b then n else 0) + through h p ≡ 0) self whole in
                      omega (arith, sums)
                ]) refl
          ]) refl allowed.1

      here : (p.master == o.master && p.index == o.index) ≡ true → slot_in (gone_added p n gone) o.master o.index ≡ Some ((if p.attempt == o.attempt then n else 0) + through h o)
      here same =
          let parts = both_true (p.master == o.master) (p.index == o.index) same in
          let masters : p.master ≡ o.master = grind (arith, nat_tests, parts.0) in
          let indexes : p.index ≡ o.index = grind (arith, nat_tests, parts.1) in
          let there : slot_in gone p.master p.index ≡ Some (through h o) = rw (masters, indexes) was in
          let added : slot_in (gone_added p n gone) p.master p.index ≡ Some (through h o + n) = added_same gone p n (through h o) there in
          let moved : slot_in (gone_added p n gone) o.master o.index ≡ Some (through h o + n) =
          subst (λ (m : ℕ). slot_in (gone_added p n gone) m o.index ≡ Some (through h o + n)) masters (subst (λ (i : ℕ). slot_in (gone_added p n gone) p.master i ≡ Some (through h o + n)) indexes added) in
          let Q : Bool → Type 0 = λ b. (p.attempt == o.attempt) ≡ b → Some (through h o + n) ≡ Some ((if b then n else 0) + through h o) in
          moved ∙ (elim (p.attempt == o.attempt) as Q [
            | true ↦ λ _. ap (λ (m : ℕ). Some m) (omega arith)
            | false ↦ λ differ. ap (λ (m : ℕ). Some m) (let none : n ≡ 0 = nothing masters indexes differ in omega (arith, none))
          ]) refl

stayed : (h : List Event) (p o : OpId) (gone : List (List ℕ)) → slot_in gone o.master o.index ≡ Some (through h o) → slot_in gone o.master o.index ≡ Some ((if same_op p o then 0 else 0) + through h o)
stayed h p o gone was =
    let P : Bool → Type 0 = λ b. Some (through h o) ≡ Some ((if b then 0 else 0) + through h o) in
    was ∙ elim (same_op p o) as P [ true ↦ ap (λ (m : ℕ). Some m) (omega arith) | false ↦ ap (λ (m : ℕ). Some m) (omega arith) ]

pub gone_went : (rule : Rule) (board : Board) (h : List Event) (gone : List (List ℕ)) (e : Event) → DelayedAreSingle board → ((o : OpId) (op : Op) → op_of board o ≡ Some op → slice_get (list_in (slice_get gone o.master)) o.index ≡ Some (through h o))
    → RunBy rule board h → AllowedBy rule board h e → (o : OpId) (op : Op) → op_of board o ≡ Some op → slice_get (list_in (slice_get (gone_next e gone) o.master)) o.index ≡ Some (through (e ∷ h) o)
gone_went rule board h gone (Arrive lane mark) single were run allowed o op is = were o op is ∙ ap (λ (m : ℕ). Some m) (omega arith)
gone_went rule board h gone (Act on by p (Part n) place) single were run allowed o op is = parted rule board h on by p n place gone single run allowed o op is (were o op is)
gone_went rule board h gone (Act on by p Land place) single were run allowed o op is = stayed h p o gone (were o op is)
gone_went rule board h gone (Act on by p (Read value) place) single were run allowed o op is = stayed h p o gone (were o op is)
gone_went rule board h gone (Act on by p Accept place) single were run allowed o op is = stayed h p o gone (were o op is)
gone_went rule board h gone (Act on by p Latch place) single were run allowed o op is = stayed h p o gone (were o op is)
gone_went rule board h gone (Act on by p (Take outcome) place) single were run allowed o op is = stayed h p o gone (were o op is)
gone_went rule board h gone (Act on by p Stall place) single were run allowed o op is = stayed h p o gone (were o op is)
gone_went rule board h gone (Act on by p MasterAbort place) single were run allowed o op is = stayed h p o gone (were o op is)
gone_went rule board h gone (Act on by p TargetAbort place) single were run allowed o op is = stayed h p o gone (were o op is)

-- the counts have room
pub gone_fits : (rule : Rule) (board : Board) (h : List Event) (gone : List (List ℕ)) (e : Event) → ((o : OpId) (op : Op) → op_of board o ≡ Some op → slice_get (list_in (slice_get gone o.master)) o.index ≡ Some (through h o))
    → PartsAreSmallBy rule board → RunBy rule board h → AllowedBy rule board h e → GoneFits e gone
gone_fits rule board h gone (Arrive lane mark) were small run allowed = tt
gone_fits rule board h gone (Act on by p Land place) were small run allowed = tt
gone_fits rule board h gone (Act on by p (Read value) place) were small run allowed = tt
gone_fits rule board h gone (Act on by p Accept place) were small run allowed = tt
gone_fits rule board h gone (Act on by p Latch place) were small run allowed = tt
gone_fits rule board h gone (Act on by p (Take outcome) place) were small run allowed = tt
gone_fits rule board h gone (Act on by p Stall place) were small run allowed = tt
gone_fits rule board h gone (Act on by p MasterAbort place) were small run allowed = tt
gone_fits rule board h gone (Act on by p TargetAbort place) were small run allowed = tt
gone_fits rule board h gone (Act on by p (Part n) place) were small run allowed =
    let R : Option Op → Type 0 = λ found. op_of board p ≡ found → answer_to board (world_by rule board h) h on (noted rule by) p (option_map (λ q. request_on q on) found) ≡ Gives (Part n) place → gone_in gone p + n < 2 ^ 32 in
    (elim (op_of board p) as R [
      | None ↦ λ _ never. cc
      | Some q ↦ λ is_q _.
          let most = small (Act on by p (Part n) place ∷ h) p q (allowed, run) is_q in
          let self : same_op p p ≡ true = self_same p in
          let sums : n + through h p ≤ most_dwords = subst (λ (b : Bool). (if b then n else 0) + through h p ≤ most_dwords) self most in
          let now : gone_in gone p ≡ through h p = ap or_zero (were p q is_q) in
          omega (arith, sums, now)
    ]) refl allowed.1
