-- Where a firm poll is met, what landed last in its word is of a raiser, that had landed whole before its reading.
use Rattle.std.proofs.Common.{◌≡◌, ℕ, zero, suc, ◌+◌, ◌*◌, ◌<◌, ◌≤◌, Bool, true, false, not, eqb, cond, List, [], ◌∷◌, ◌++◌, length, take, drop, Option, Some, refl, sym, ap, subst, ◌∙◌, arith, ◌⊎◌, inl, inr, ⊎_elim, bit_and, eqb-true}
use Rattle.std.specs.List.{list_any, AllByRecursion}
use Rattle.std.proofs.lemmas.Bool.Decides.{nat_tests}
use Rattle.std.proofs.lemmas.List.{length-drop}
use Rattle.pci_command.specs.declared.command.Space.{Space}
use Rattle.pci_command.specs.declared.command.Space.TheVariants.{Mem, Io, Cfg}
use Rattle.pci_command.specs.declared.phases.Phase.{Phase}
use Rattle.pci_command.specs.declared.request.Request.{Request}
use Rattle.pci_command.specs.declared.op_id.OpId.{OpId}
use Rattle.pci_command.specs.Command.{space_of}
use Rattle.pci_command.specs.Same.{same_op, same_space}
use Rattle.board_model.specs.declared.op.Want.{Want}
use Rattle.board_model.specs.declared.bridge.Place.{Place}
use Rattle.board_model.specs.declared.bridge.Place.TheVariants.{Target, Header, Lane, Nobody}
use Rattle.board_model.specs.declared.op.Op.{Op}
use Rattle.board_model.specs.declared.board.Board.{Board}
use Rattle.board_model.specs.Requests.{op_of, command_of, phases_of, request_on, request_of, is_posted}
use Rattle.board_model.specs.Ways.{Dword, address_in, dwords_from}
use Rattle.board_model.specs.Valid.{IsValid}
use Rattle.board_model.specs.device.Registers.{enabled_bits, merge_of}
use Rattle.history_model.specs.declared.event.By.{By}
use Rattle.history_model.specs.declared.event.Step.TheVariants.{Part}
use Rattle.history_model.specs.declared.event.Event.{Event}
use Rattle.history_model.specs.declared.event.Event.TheVariants.{Act}
use Rattle.history_model.specs.Words.{through, Landing, landings_at, landings_of, landings_by, landed, mask_in, merged, opens_as, value_of}
use Rattle.history_model.specs.Knowledge.{has_landed, is_landing_of, is_write, words_named}
use Rattle.history_model.specs.Runs.{Run}
use Rattle.std.proofs.lemmas.Bool.{or_left, or_right}
use Rattle.list_facts.proofs.EachLemmas.{Each-weaker}
use Rattle.history_model.proofs.facts.RequestLemmas.{same_op_self}
use Rattle.law_lanes.proofs.Laws.{delayed-not_parted, WellFormed-single}
use Rattle.law_lanes.proofs.order.Laws.{write_lands}
use Rattle.law_fresh.proofs.Laws.{write_op}
use Rattle.law_delivered.proofs.FlagLemmas.{one_passes}
use Rattle.law_delivered.proofs.RaisedLemmas.{PartsBringNothing, whole_landed}
use Rattle.safe_model.specs.Raisers.{phases_to, is_met_by, is_whole, brings_met, is_plain, Firm, Raises}
use Rattle.law_safe.proofs.before.MergeLemmas.{merge_under}
use Rattle.law_safe.proofs.before.WrittenLemmas.{taken_there, Written, written}

-- Under a mask of which each write enables all bytes, the value of a dword is the last of them.

plain_mask : (space : Space) (address : ℕ) → is_plain space ≡ true → mask_in space address ≡ 0xffff_ffff
plain_mask Mem address plain = refl
plain_mask Io address plain = refl
plain_mask Cfg address plain = cc

abbrev LandsWhole : ℕ → Landing → Type 0
LandsWhole mask landing = is_whole mask landing.phase ≡ true

abbrev lands_met : Want → Landing → Bool
lands_met want landing = brings_met want landing.phase

-- landings of which the last one brought what meets
pub record LastMet (want : Want) (landings : List Landing) : Type 0 where
  pub earlier : List Landing
  pub last : Landing
  pub is : landings ≡ earlier ++ last ∷ []
  pub met : lands_met want last ≡ true

-- so where it meets the last of them brought that, or there are none and it did
value_landed : (word : Dword) (want : Want) (old : ℕ) (landings : List Landing) → is_plain word.space ≡ true → AllByRecursion (LandsWhole want.mask) landings → is_met_by want (merged word old landings) ≡ true
    → LastMet want landings ⊎ ((landings ≡ []) × (is_met_by want old ≡ true))
value_landed word want old [] plain each is = inr (refl, is)
value_landed word want old (landing ∷ landings) plain each is =
    let new : ℕ = merge_of old landing.phase (mask_in word.space word.address) in
    let mask : ℕ = want.mask in
    let covers : bit_and (bit_and (enabled_bits landing.phase.enables) 0xffff_ffff) mask ≡ mask = eqb-true (bit_and (bit_and (enabled_bits landing.phase.enables) 0xffff_ffff) mask) mask each.0 in
    let value : bit_and new mask ≡ bit_and (bit_and landing.phase.value 0xffff_ffff) mask =
    ap (λ m. bit_and (merge_of old landing.phase m) mask) (plain_mask word.space word.address plain) ∙ merge_under mask old landing.phase covers in
    let same : is_met_by want new ≡ lands_met want landing = ap (λ v. cond want.differs (not (eqb v want.wanted)) (eqb v want.wanted)) value in
    ⊎_elim {C = LastMet want (landing ∷ landings) ⊎ ((landing ∷ landings ≡ []) × (is_met_by want old ≡ true))}
    (λ (more : LastMet want landings). inl (record { earlier = landing ∷ more.earlier; last = more.last; is = ap (λ ls. landing ∷ ls) more.is; met = more.met }))
    (λ (none : (landings ≡ []) × (is_met_by want new ≡ true)). inl (record { earlier = []; last = landing; is = ap (λ ls. landing ∷ ls) none.0; met = sym same ∙ none.1 }))
    (value_landed word want new landings plain each.1 is)

-- The last data phase of a write does not land in a part of it.

take_most : (number : ℕ) (phases : List Phase) → length (take number phases) ≤ number
take_most zero phases = omega arith
take_most (suc number) [] = omega arith
take_most (suc number) (phase ∷ phases) = let rest = take_most number phases in omega (arith, rest)

-- of data phases before an address none lands there
none_at : (o n : OpId) (address at : ℕ) (phases : List Phase) → at + 4 * length phases ≤ address → list_any (is_landing_of n) (landings_at o address at phases) ≡ false
none_at o n address at [] below = refl
none_at o n address at (phase ∷ phases) below =
    let later = none_at o n address (at + 4) phases (omega (arith, below)) in
    let less : at < address = omega (arith, below) in
    let other : eqb at address ≡ false = grind (arith, nat_tests) in
    rw (other) later

-- the last of the dwords from an address on
last_from : (place : ℕ) (space : Space) (at : ℕ) (phases : List Phase) (earlier : List Dword) (word : Dword) → dwords_from place space at phases ≡ earlier ++ word ∷ [] → (k : ℕ) × (length phases ≡ suc k) × (word.address ≡ at + 4 * k)
last_from place space at [] [] word is = cc
last_from place space at [] (first ∷ earlier) word is = cc
last_from place space at (phase ∷ []) [] word is =
    let here : Dword = record { target = place; space = space; address = at } in
    let same : here ≡ word = cc in
    let address : word.address ≡ at = ap (λ (d : Dword). d.address) (sym same) in
    (0, refl, omega (arith, address))
last_from place space at (phase ∷ other ∷ phases) [] word is = cc
last_from place space at (phase ∷ phases) (first ∷ earlier) word is =
    let rest : dwords_from place space (at + 4) phases ≡ earlier ++ word ∷ [] = cc in
    let later = last_from place space (at + 4) phases earlier word rest in
    let long = later.1 in
    let address = later.2 in
    (suc later.0, omega (arith, long), omega (arith, address))

module _ (board : Board) (valid : IsValid board) (n : OpId) (op : Op) (is_op : op_of board n ≡ Some op) (word : Dword) (earlier : List Dword) (named : words_named board n ≡ earlier ++ word ∷ []) where
  -- a part ends before the last data phase
  part_short : (h : List Event) (on : ℕ) (by : By) (number : ℕ) (at : Place) → Run board (Act on by n (Part number) at ∷ h) → (k : ℕ) → length (phases_of op) ≡ suc k → through h n + number ≤ k
  part_short h on by number at run k count =
      let request : Request = request_on op on in
      let requested : request_of board n on ≡ Some request = rw is_op refl in
      let P : Bool → Type 0 = λ b. is_posted request ≡ b → through h n + number ≤ k in
      (elim (is_posted request) as P [
        | true ↦ λ write.
            let lands = write_lands board h on by n request (Part number) at requested write run.0.1 in
            let long = length-drop (through h n) (phases_of op) in
            omega (arith, lands.1, long, count)
        | false ↦ λ delayed.
            let none : through (Act on by n (Part number) at ∷ h) n ≡ 0 = delayed-not_parted board (Act on by n (Part number) at ∷ h) n on request (WellFormed-single board valid.well_formed) run requested delayed in
            let self : same_op n n ≡ true = same_op_self n in
            let F : Bool → Type 0 = λ b. cond b number 0 + through h n ≡ 0 in
            let here : number + through h n ≡ 0 = subst F self none in
            omega (arith, here)
      ]) refl

  -- so it brings nothing to the last word
  part_none : (h : List Event) (on : ℕ) (by : By) (number place : ℕ) → Run board (Act on by n (Part number) (Target place) ∷ h) → list_any (is_landing_of n) (landings_by board h on n (Part number) word (Target place)) ≡ false
  part_none h on by number place run =
      let request : Request = request_on op on in
      let requested : request_of board n on ≡ Some request = rw is_op refl in
      let space : Space = space_of (command_of op) in
      let gone : ℕ = through h n in
      let base : ℕ = address_in space request.address in
      let start : ℕ = address_in space (request.address + 4 * gone) in
      let left : List Phase = take number (drop gone (phases_of op)) in
      let there = taken_there board valid h on by n (Part number) place run op is_op refl in
      let dwords : dwords_from place space base (phases_of op) ≡ earlier ++ word ∷ [] = sym there.words ∙ named in
      let last = last_from place space base (phases_of op) earlier word dwords in
      let short = part_short h on by number (Target place) run last.0 last.1 in
      let most = take_most number (drop gone (phases_of op)) in
      let based = there.based in
      let address = last.2 in
      let none : list_any (is_landing_of n) (landings_at n word.address start left) ≡ false = none_at n n word.address start left (omega (arith, short, most, based, address)) in
      let F : Option Request → Type 0 = λ found. list_any (is_landing_of n) (cond (eqb place word.target) (landings_of n (Part number) gone word found) []) ≡ false in
      let P : Bool → Type 0 = λ b. list_any (is_landing_of n) (cond b (cond (same_space space word.space) (landings_at n word.address start left) []) []) ≡ false in
      let Q : Bool → Type 0 = λ b. list_any (is_landing_of n) (cond b (landings_at n word.address start left) []) ≡ false in
      let of_request : F (Some request) = elim (eqb place word.target) as P [ true ↦ (elim (same_space space word.space) as Q [ true ↦ none | false ↦ refl ]) | false ↦ refl ] in
      subst F (sym requested) of_request

  parts_none : PartsBringNothing board n word
  parts_none h on by number (Target place) run = part_none h on by number place run
  parts_none h on by number (Header bus) run = refl
  parts_none h on by number (Lane lane) run = refl
  parts_none h on by number Nobody run = refl

  -- where its last data phase landed, it landed whole
  pub last_landed : (h : List Event) → Run board h → list_any (is_landing_of n) (landed board h word) ≡ true → has_landed h n ≡ true
  last_landed h run some = whole_landed board n word parts_none h run some

-- The raiser.

each_last : (P : Landing → Type 0) (xs : List Landing) (last : Landing) → AllByRecursion P (xs ++ last ∷ []) → P last
each_last P [] last each = each.0
each_last P (x ∷ xs) last each = each_last P xs last each.1

any_last : (test : Landing → Bool) (xs : List Landing) (last : Landing) → test last ≡ true → list_any test (xs ++ last ∷ []) ≡ true
any_last test [] last is = or_left (test last) false is
any_last test (x ∷ xs) last is = or_right (test x) (list_any test (xs ++ last ∷ [])) (any_last test xs last is)

-- what landed last in the word is of a write that raises the flag of a poll, and that has landed whole
pub record Raised (board : Board) (before : List Event) (want : Want) (word : Dword) : Type 0 where
  pub earlier : List Landing
  pub last : Landing
  pub is_last : landed board before word ≡ earlier ++ last ∷ []
  pub writes : is_write board last.op ≡ true
  pub raises : Raises board want word last.op
  pub lands : list_any (is_landing_of last.op) (landed board before word) ≡ true
  pub whole : has_landed before last.op ≡ true

-- where the word meets a firm poll that is so, or nothing has landed there and it opens so
pub raised_by : (board : Board) (before : List Event) (p : OpId) (want : Want) (word : Dword) → IsValid board → Run board before → Firm board p want word → is_met_by want (value_of board before word) ≡ true
    → Raised board before want word ⊎ ((landed board before word ≡ []) × (is_met_by want (opens_as board word) ≡ true))
raised_by board before p want word valid run firm is =
    let landings : List Landing = landed board before word in
    let each = written board valid word before run in
    let whole : AllByRecursion (LandsWhole want.mask) landings = Each-weaker (Written board word) (LandsWhole want.mask) (λ landing one. one_passes (is_whole want.mask) landing.phase (phases_to board word landing.op) one.is_one (firm.whole landing.op)) landings each in
    ⊎_elim {C = Raised board before want word ⊎ ((landings ≡ []) × (is_met_by want (opens_as board word) ≡ true))}
    (λ (met : LastMet want landings).
    let last : Landing = met.last in
    let each_is : AllByRecursion (Written board word) (met.earlier ++ last ∷ []) = subst (AllByRecursion (Written board word)) met.is each in
    let one : Written board word last = each_last (Written board word) met.earlier last each_is in
    let raises : Raises board want word last.op = one.is_one (brings_met want) met.met in
    let lands : list_any (is_landing_of last.op) landings ≡ true = ap (list_any (is_landing_of last.op)) met.is ∙ any_last (is_landing_of last.op) met.earlier last (same_op_self last.op) in
    let write = write_op board last.op one.writes in
    let at_end = firm.last last.op raises in
    inl (record { earlier = met.earlier; last = last; is_last = met.is; writes = one.writes; raises = raises; lands = lands; whole = last_landed board valid last.op write.op write.is_op word at_end.0 at_end.1 before run lands }))
    (λ (none : (landings ≡ []) × (is_met_by want (opens_as board word) ≡ true)). inr none)
    (value_landed word want (opens_as board word) landings firm.plain whole is)
