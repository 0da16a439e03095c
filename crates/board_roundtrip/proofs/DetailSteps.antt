-- The lines of a target lead from its first line to the whole of it.
use Rattle.std.proofs.Common.{◌≡◌, ℕ, ◌+◌, ◌-◌, ◌^◌, ◌%◌, ◌<◌, Bool, true, false, cond, ◌&&◌, ◌||◌, List, [], ◌∷◌, ◌++◌, length, Result, Ok, refl, sym, ap, ◌∙◌, arith}
use Rattle.std.specs.Prelude.{codes, ◌==◌, nat_le, nat_lt}
use Rattle.std.specs.List.{list_all, AllByRecursion}
use Rattle.std.specs.Fmt.{decimal}
use Rattle.std.proofs.lemmas.Bool.{and_parts, and_from, not_from_true, lt-leb, lt-ltb, le-ltb, ltb-true, eqb-true}
use Rattle.list_facts.specs.Lists.{total}
use Rattle.pci_command.specs.declared.command.Space.{Space}
use Rattle.pci_command.specs.declared.command.Space.TheVariants.{Mem, Io, Cfg}
use Rattle.board_model.specs.Limits.{most_dwords, most_openings}
use Rattle.board_model.specs.declared.agents.Range.{Range}
use Rattle.board_model.specs.declared.agents.Opening.{Opening}
use Rattle.board_model.specs.declared.agents.Target.{Target}
use Rattle.board_model.specs.declared.board.Board.{Board}
use Rattle.board_model.specs.WellFormed.{is_block, is_range_in, is_well_formed_range, is_dword_in, is_well_formed_opening, registers_of, IsWellFormedTarget}
use Rattle.board_printer.specs.Lines.{Line}
use Rattle.board_printer.specs.Numbers.{half_text}
use Rattle.board_printer.specs.Targets.{id_lines, stall_lines, burst_lines, range_line, opening_line}
use Rattle.board_printer.specs.Boards.{is_short, is_short_range}
use Rattle.text_faults.specs.declared.board_line.LineFault.{LineFault}
use Rattle.board_statements.specs.declared.statement.Statement.{Statement}
use Rattle.board_statements.specs.declared.statement.Statement.TheVariants.{Identifies, Stalls, Bursts, Claims, Aborts, Opens}
use Rattle.board_model.specs.Fits.{RangeFits, OpeningFits}
use Rattle.board_roundtrip.specs.lines.ReadsAs.{IsReadAs}
use Rattle.board_roundtrip.proofs.lines.Laws.{id_law, stall_law, burst_law, claim_law, abort_law, opening_law}
use Rattle.board_parser.specs.declared.draft.draft.Draft.{Draft}
use Rattle.board_parser.specs.declared.draft.draft.AgentPlace.TheVariants.{OfTarget}
use Rattle.board_parser.specs.draft.Steps.{◌>>=◌}
use Rattle.board_parser.specs.draft.Targets.{on_target, set_identity, set_stalls, set_burst, unit_of, end_of, is_in_units, fits, put_range, put_abort, add_range, add_abort, add_opening}
use Rattle.board_parser.specs.draft.Add.{add}
use Rattle.board_roundtrip.proofs.LeadLemmas.{Leads, Steps, leads-none, leads-to, leads-line}
use Rattle.board_roundtrip.proofs.PlaceLemmas.{each_of, all_of, may_of, length_of, total_of}
use Rattle.board_roundtrip.proofs.StateLemmas.{holding, Is, skip}
use Rattle.board_model.proofs.Laws.{Block-parts}

-- the target with so much of it
abbrev pub part_of : Target → ℕ → ℕ → ℕ → ℕ → List Range → List Range → List Opening → Target
part_of target vendor model stalls burst ranges aborts openings = record {
  name = target.name;
  bus = target.bus;
  device = target.device;
  vendor = vendor;
  model = model;
  stalls = stalls;
  burst = burst;
  ranges = ranges;
  aborts = aborts;
  openings = openings;
}

-- a draft whose owner is that target
abbrev pub Has : Bool → Board → Target → Draft → Type 0
Has wide board target = Is (holding wide board (OfTarget target))

changed : (wide : Bool) (board : Board) (change : Target → Result Target LineFault) (before after : Target) → change before ≡ Ok after → on_target (holding wide board (OfTarget before)) change ≡ Ok (holding wide board (OfTarget after))
changed wide board change before after did =
    ap (λ (r : Result Target LineFault). r >>= (λ target. Ok (holding wide board (OfTarget target)))) did

detail : (wide : Bool) (board : Board) (line : Line) (statement : Statement) (change : Target → Result Target LineFault) (before after : Target) → IsReadAs wide line statement
    → add (holding wide board (OfTarget before)) statement ≡ on_target (holding wide board (OfTarget before)) change → change before ≡ Ok after → Leads (Has wide board before) (line ∷ []) (Has wide board after)
detail wide board line statement change before after reads adds did =
    leads-line wide line statement (Has wide board before) (Has wide board after) reads
    (λ draft is. record {
      next = holding wide board (OfTarget after);
      width = ap (λ (d : Draft). d.wide) is;
      is = ap (λ (d : Draft). add d statement) is ∙ adds ∙ changed wide board change before after did;
      holds = refl;
    })

-- where nothing is written, nothing changes
nothing : (wide : Bool) (board : Board) (before after : Target) → before ≡ after → Leads (Has wide board before) [] (Has wide board after)
nothing wide board before after same =
    leads-to (Has wide board before) (Has wide board before) (Has wide board after) [] (leads-none (Has wide board before))
    (λ draft is. is ∙ ap (λ (t : Target). holding wide board (OfTarget t)) same)

pub id_leads : (wide : Bool) (board : Board) (target : Target) → target.vendor < 2 ^ 16 → target.model < 2 ^ 16
    → Leads (Has wide board (part_of target 0x1234 1 0 most_dwords [] [] [])) (id_lines target) (Has wide board (part_of target target.vendor target.model 0 most_dwords [] [] []))
id_leads wide board target of_vendor of_model =
    let before = part_of target 0x1234 1 0 most_dwords [] [] [] in
    let after = part_of target target.vendor target.model 0 most_dwords [] [] [] in
    let line : Line = codes "id" ∷ half_text target.vendor ∷ half_text target.model ∷ [] in
    let test : Bool = target.vendor == 0x1234 && target.model == 1 in
    let P : Bool → Type 0 = λ b. test ≡ b → Leads (Has wide board before) (cond b [] (line ∷ [])) (Has wide board after) in
    (elim test as P [
      | true ↦ λ plain.
          let parts = and_parts (target.vendor == 0x1234) (target.model == 1) plain in
          let v : 0x1234 ≡ target.vendor = sym (eqb-true _ _ parts.0) in
          let m : 1 ≡ target.model = sym (eqb-true _ _ parts.1) in
          nothing wide board before after (ap (λ (n : ℕ). part_of target n 1 0 most_dwords [] [] []) v ∙ ap (λ (n : ℕ). part_of target target.vendor n 0 most_dwords [] [] []) m)
      | false ↦ λ other.
          detail wide board line (Identifies target.vendor target.model) (set_identity target.vendor target.model) before after (id_law wide target.vendor target.model of_vendor of_model) refl refl
    ]) refl

pub stall_leads : (wide : Bool) (board : Board) (target : Target) → IsWellFormedTarget target
    → Leads (Has wide board (part_of target target.vendor target.model 0 most_dwords [] [] [])) (stall_lines target.stalls) (Has wide board (part_of target target.vendor target.model target.stalls most_dwords [] [] []))
stall_leads wide board target parts =
    let before = part_of target target.vendor target.model 0 most_dwords [] [] [] in
    let after = part_of target target.vendor target.model target.stalls most_dwords [] [] [] in
    let line : Line = codes "stall" ∷ decimal target.stalls ∷ [] in
    let P : Bool → Type 0 = λ b. (target.stalls == 0) ≡ b → Leads (Has wide board before) (cond b [] (line ∷ [])) (Has wide board after) in
    (elim (target.stalls == 0) as P [
      | true ↦ λ plain.
          let s : 0 ≡ target.stalls = sym (eqb-true _ _ plain) in
          nothing wide board before after (ap (λ (n : ℕ). part_of target target.vendor target.model n most_dwords [] [] []) s)
      | false ↦ λ other.
          detail wide board line (Stalls target.stalls) (set_stalls target.stalls) before after (stall_law wide target.stalls parts.stalls) refl refl
    ]) refl

pub burst_leads : (wide : Bool) (board : Board) (target : Target) → IsWellFormedTarget target
    → Leads (Has wide board (part_of target target.vendor target.model target.stalls most_dwords [] [] [])) (burst_lines target.burst) (Has wide board (part_of target target.vendor target.model target.stalls target.burst [] [] []))
burst_leads wide board target parts =
    let before = part_of target target.vendor target.model target.stalls most_dwords [] [] [] in
    let after = part_of target target.vendor target.model target.stalls target.burst [] [] [] in
    let line : Line = codes "burst" ∷ decimal target.burst ∷ [] in
    let P : Bool → Type 0 = λ b. (target.burst == most_dwords) ≡ b → Leads (Has wide board before) (cond b [] (line ∷ [])) (Has wide board after) in
    (elim (target.burst == most_dwords) as P [
      | true ↦ λ plain.
          let s : most_dwords ≡ target.burst = sym (eqb-true _ _ plain) in
          nothing wide board before after (ap (λ (n : ℕ). part_of target target.vendor target.model target.stalls n [] [] []) s)
      | false ↦ λ other.
          detail wide board line (Bursts target.burst) (set_burst target.burst) before after (burst_law wide target.burst parts.burst.from parts.burst.to) refl refl
    ]) refl

-- Ranges.

units_by : (unit end : ℕ) (range : Range) → is_block unit end range ≡ true → is_in_units unit range ≡ true
units_by unit end range formed = let is = Block-parts unit end range formed in and_from _ _ (and_from _ _ is.base is.size) (lt-ltb _ _ is.some)

ends_by : (unit end : ℕ) (range : Range) → is_block unit end range ≡ true → nat_lt end (range.base + range.size) ≡ false
ends_by unit end range formed = le-ltb _ _ (Block-parts unit end range formed).ends

fits_by : (wide : Bool) (space : Space) (base size : ℕ) → is_range_in space (record { space = space; base = base; size = size }) ≡ true → (wide || is_short_range (record { space = space; base = base; size = size })) ≡ true
    → (is_in_units (unit_of space) (record { space = space; base = base; size = size }) ≡ true) × (nat_lt (end_of wide space) (base + size) ≡ false)
fits_by true Mem base size formed may =
    let range : Range = record { space = Mem; base = base; size = size } in
    (units_by 64 (2 ^ 64) range formed, ends_by 64 (2 ^ 64) range formed)
fits_by false Mem base size formed may =
    let c = and_parts (is_short base) (is_short size && is_short (base + size - 1)) may in
    let d = and_parts (is_short size) (is_short (base + size - 1)) c.1 in
    let e = ltb-true (base + size - 1) (2 ^ 32) d.1 in
    (units_by 64 (2 ^ 64) (record { space = Mem; base = base; size = size }) formed, le-ltb _ _ (omega (arith, e)))
fits_by true Io base size formed may =
    let range : Range = record { space = Io; base = base; size = size } in
    (units_by 4 (2 ^ 32) range formed, ends_by 4 (2 ^ 32) range formed)
fits_by false Io base size formed may =
    let range : Range = record { space = Io; base = base; size = size } in
    (units_by 4 (2 ^ 32) range formed, ends_by 4 (2 ^ 32) range formed)
fits_by wide Cfg base size formed may = absurd (let apart : false ≡ true = formed in cc)

abbrev range_so : Range → Result Range LineFault
range_so range = Ok range

range_fits : (wide : Bool) (range : Range) → is_well_formed_range range ≡ true → (wide || is_short_range range) ≡ true → fits wide range ≡ range_so range
range_fits wide range formed may =
    let it = fits_by wide range.space range.base range.size formed may in
    skip _ _ _ (not_from_true _ it.0) ∙ skip _ _ _ it.1

pub range_step : (wide : Bool) (board : Board) (target : Target) → IsWellFormedTarget target → AllByRecursion RangeFits target.ranges → (wide || list_all is_short_range target.ranges) ≡ true
    → Steps (λ range. range_line (codes "range") range ∷ []) (λ done. Has wide board (part_of target target.vendor target.model target.stalls target.burst done [] [])) target.ranges
range_step wide board target parts fit may done range rest is =
    let before = part_of target target.vendor target.model target.stalls target.burst done [] [] in
    let after = part_of target target.vendor target.model target.stalls target.burst (done ++ range ∷ []) [] [] in
    let formed = all_of is_well_formed_range done range rest target.ranges is parts.ranges in
    let short = may_of wide is_short_range done range rest target.ranges is may in
    let all = total_of registers_of done range rest target.ranges is in
    let most = parts.registers in
    let few : nat_lt 6 (total registers_of done + registers_of range) ≡ false = le-ltb _ _ (omega (arith, all, most)) in
    let room : put_range before range ≡ Ok after = skip _ _ _ few in
    let did : add_range wide range before ≡ Ok after = ap (λ (r : Result Range LineFault). r >>= put_range before) (range_fits wide range formed short) ∙ room in
    detail wide board (range_line (codes "range") range) (Claims range) (add_range wide range) before after
    (claim_law wide range (each_of RangeFits done range rest target.ranges is fit) formed short) refl did

pub abort_step : (wide : Bool) (board : Board) (target : Target) → IsWellFormedTarget target → AllByRecursion RangeFits target.aborts → (wide || list_all is_short_range target.aborts) ≡ true
    → Steps (λ range. range_line (codes "abort") range ∷ []) (λ done. Has wide board (part_of target target.vendor target.model target.stalls target.burst target.ranges done [])) target.aborts
abort_step wide board target parts fit may done range rest is =
    let before = part_of target target.vendor target.model target.stalls target.burst target.ranges done [] in
    let after = part_of target target.vendor target.model target.stalls target.burst target.ranges (done ++ range ∷ []) [] in
    let formed = all_of is_well_formed_range done range rest target.aborts is parts.aborts in
    let short = may_of wide is_short_range done range rest target.aborts is may in
    let all = length_of done range rest target.aborts is in
    let most = parts.few_aborts in
    let few : nat_le 6 (length done) ≡ false = lt-leb _ _ (omega (arith, all, most)) in
    let room : put_abort before range ≡ Ok after = skip _ _ _ few in
    let did : add_abort wide range before ≡ Ok after = ap (λ (r : Result Range LineFault). r >>= put_abort before) (range_fits wide range formed short) ∙ room in
    detail wide board (range_line (codes "abort") range) (Aborts range) (add_abort wide range) before after
    (abort_law wide range (each_of RangeFits done range rest target.aborts is fit) formed short) refl did

-- Opening words.

pub aligned_by : (space : Space) (address : ℕ) → is_dword_in space address ≡ true → (address % 4 == 0) ≡ true
aligned_by Mem address formed = formed
aligned_by Io address formed = (and_parts _ _ formed).0
aligned_by Cfg address formed = absurd (let apart : false ≡ true = formed in cc)

pub opening_step : (wide : Bool) (board : Board) (target : Target) → IsWellFormedTarget target → AllByRecursion OpeningFits target.openings → (wide || list_all (λ (opening : Opening). is_short opening.address) target.openings) ≡ true
    → Steps (λ opening. opening_line opening ∷ []) (λ done. Has wide board (part_of target target.vendor target.model target.stalls target.burst target.ranges target.aborts done)) target.openings
opening_step wide board target parts fit may done opening rest is =
    let before = part_of target target.vendor target.model target.stalls target.burst target.ranges target.aborts done in
    let after = part_of target target.vendor target.model target.stalls target.burst target.ranges target.aborts (done ++ opening ∷ []) in
    let formed = all_of is_well_formed_opening done opening rest target.openings is parts.openings in
    let short = may_of wide (λ (o : Opening). is_short o.address) done opening rest target.openings is may in
    let all = length_of done opening rest target.openings is in
    let most = parts.few_openings in
    let few : nat_le most_openings (length done) ≡ false = lt-leb _ _ (omega (arith, all, most)) in
    let did : add_opening opening before ≡ Ok after = skip _ _ _ (not_from_true _ (aligned_by opening.space opening.address formed)) ∙ skip _ _ _ few in
    detail wide board (opening_line opening) (Opens opening) (add_opening opening) before after
    (opening_law wide opening (each_of OpeningFits done opening rest target.openings is fit) formed short) refl did
