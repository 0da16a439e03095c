-- A target stays well formed by each detail.
use Rattle.std.proofs.Common.{subst, sym, ◌≡◌, ℕ, ◌+◌, ◌%◌, ◌^◌, ◌≤◌, Bool, true, false, not, [], ◌∷◌, ◌++◌, length, Ok, refl, arith}
use Rattle.std.specs.Prelude.{◌==◌, nat_le, nat_lt}
use Rattle.std.proofs.lemmas.Bool.{and_from, not-false, ltb-false, leb-false, leb-true, le-leb}
use Rattle.std.proofs.lemmas.Bool.Decides.{nat_tests}
use Rattle.list_facts.specs.Lists.{total}
use Rattle.list_facts.proofs.TotalLemmas.{total-push}
use Rattle.pci_command.specs.declared.command.Space.{Space}
use Rattle.pci_command.specs.declared.command.Space.TheVariants.{Mem, Io, Cfg}
use Rattle.board_model.specs.Limits.{most_dwords, most_openings}
use Rattle.board_model.specs.declared.agents.Range.{Range}
use Rattle.board_model.specs.declared.agents.Opening.{Opening}
use Rattle.board_model.specs.declared.agents.Target.{Target}
use Rattle.board_model.specs.WellFormed.{is_within, is_range_in, is_well_formed_range, is_dword_in, is_well_formed_opening, registers_of, is_well_formed_target}
use Rattle.board_parser.specs.draft.Targets.{unit_of, end_of, is_in_units, set_identity, set_stalls, set_burst, add_range, add_abort, add_opening}
use Rattle.board_parser.specs.draft.Formed.{is_size, is_address}
use Rattle.board_parser.proofs.draft.AddedLemmas.{RangeFits, add_range-ok, add_abort-ok, add_opening-ok}
use Rattle.board_parser.proofs.draft.PushLemmas.{all-push, length-push}
use Rattle.board_model.proofs.Laws.{Within-parts, Target-parts, Target-from}

-- the target as before, with its name and bus, and well formed
pub record IsDetailed (target changed : Target) : Type 0 where
  pub name : changed.name ≡ target.name
  pub bus : changed.bus ≡ target.bus
  pub formed : is_well_formed_target changed ≡ true

within_memory : (wide : Bool) (past : ℕ) → nat_lt (end_of wide Mem) past ≡ false → nat_le past (2 ^ 64) ≡ true
within_memory true past within = grind (arith, nat_tests)
within_memory false past within = grind (arith, nat_tests)

range_by : (wide : Bool) (space : Space) (base size : ℕ) → is_size space size ≡ true → not (is_in_units (unit_of space) (record { space = space; base = base; size = size })) ≡ false → nat_lt (end_of wide space) (base + size) ≡ false → is_range_in space (record { space = space; base = base; size = size }) ≡ true
range_by wide Mem base size small units within = and_from _ _ (and_from _ _ (not-false _ units) small) (within_memory wide (base + size) within)
range_by true Io base size small units within = and_from _ _ (and_from _ _ (not-false _ units) small) (le-leb _ _ (ltb-false _ _ within))
range_by false Io base size small units within = and_from _ _ (and_from _ _ (not-false _ units) small) (le-leb _ _ (ltb-false _ _ within))
range_by wide Cfg base size small units within = absurd (cc)

range_formed : (wide : Bool) (range : Range) → is_size range.space range.size ≡ true → RangeFits wide range → is_well_formed_range range ≡ true
range_formed wide range small fits = range_by wide range.space range.base range.size small fits.units fits.within

pub range_detail : (wide : Bool) (range : Range) (target changed : Target) → is_size range.space range.size ≡ true → is_well_formed_target target ≡ true → add_range wide range target ≡ Ok changed → IsDetailed target changed
range_detail wide range target changed small formed h =
    let added = add_range-ok wide range target changed h in
    let parts = Target-parts target formed in
    let P : Target → Type 0 = λ t. IsDetailed target t in
    let sum = total-push registers_of target.ranges range in
    let few = ltb-false _ _ added.few in
    let fewer : total registers_of (target.ranges ++ range ∷ []) ≤ 6 = omega (arith, sum, few) in
    subst P (sym added.is) (record {
      name = refl;
      bus = refl;
      formed = Target-from (record target { ranges = target.ranges ++ range ∷ [] }) (record {
        device = parts.device;
        stalls = parts.stalls;
        burst = parts.burst;
        ranges = all-push is_well_formed_range target.ranges range parts.ranges (range_formed wide range small added.fits);
        registers = fewer;
        aborts = parts.aborts;
        few_aborts = parts.few_aborts;
        openings = parts.openings;
        few_openings = parts.few_openings;
      });
    })

pub abort_detail : (wide : Bool) (range : Range) (target changed : Target) → is_size range.space range.size ≡ true → is_well_formed_target target ≡ true → add_abort wide range target ≡ Ok changed → IsDetailed target changed
abort_detail wide range target changed small formed h =
    let added = add_abort-ok wide range target changed h in
    let parts = Target-parts target formed in
    let P : Target → Type 0 = λ t. IsDetailed target t in
    let long = length-push target.aborts range in
    let few = leb-false _ _ added.few in
    let fewer : length (target.aborts ++ range ∷ []) ≤ 6 = omega (arith, long, few) in
    subst P (sym added.is) (record {
      name = refl;
      bus = refl;
      formed = Target-from (record target { aborts = target.aborts ++ range ∷ [] }) (record {
        device = parts.device;
        stalls = parts.stalls;
        burst = parts.burst;
        ranges = parts.ranges;
        registers = parts.registers;
        aborts = all-push is_well_formed_range target.aborts range parts.aborts (range_formed wide range small added.fits);
        few_aborts = fewer;
        openings = parts.openings;
        few_openings = parts.few_openings;
      });
    })

pub dword_by : (space : Space) (address : ℕ) → is_address space address ≡ true → (address % 4 == 0) ≡ true → is_dword_in space address ≡ true
dword_by Mem address formed aligned = aligned
dword_by Io address formed aligned = and_from _ _ aligned formed
dword_by Cfg address formed aligned = formed

pub opening_detail : (opening : Opening) (target changed : Target) → is_address opening.space opening.address ≡ true → is_well_formed_target target ≡ true → add_opening opening target ≡ Ok changed → IsDetailed target changed
opening_detail opening target changed named formed h =
    let added = add_opening-ok opening target changed h in
    let parts = Target-parts target formed in
    let P : Target → Type 0 = λ t. IsDetailed target t in
    let long = length-push target.openings opening in
    let few = leb-false _ _ added.few in
    let fewer : length (target.openings ++ opening ∷ []) ≤ most_openings = omega (arith, long, few) in
    subst P (sym added.is) (record {
      name = refl;
      bus = refl;
      formed = Target-from (record target { openings = target.openings ++ opening ∷ [] }) (record {
        device = parts.device;
        stalls = parts.stalls;
        burst = parts.burst;
        ranges = parts.ranges;
        registers = parts.registers;
        aborts = parts.aborts;
        few_aborts = parts.few_aborts;
        openings = all-push is_well_formed_opening target.openings opening parts.openings (dword_by opening.space opening.address named (not-false _ added.aligned));
        few_openings = fewer;
      });
    })

pub identity_detail : (vendor model : ℕ) (target changed : Target) → is_well_formed_target target ≡ true → set_identity vendor model target ≡ Ok changed → IsDetailed target changed
identity_detail vendor model target changed formed h =
    let is : changed ≡ record target { vendor = vendor; model = model } = cc in
    let P : Target → Type 0 = λ t. IsDetailed target t in
    subst P (sym is) (record { name = refl; bus = refl; formed = formed })

pub stalls_detail : (tokens : ℕ) (target changed : Target) → nat_le tokens 1000000 ≡ true → is_well_formed_target target ≡ true → set_stalls tokens target ≡ Ok changed → IsDetailed target changed
stalls_detail tokens target changed few formed h =
    let is : changed ≡ record target { stalls = tokens } = cc in
    let parts = Target-parts target formed in
    let P : Target → Type 0 = λ t. IsDetailed target t in
    subst P (sym is) (record {
      name = refl;
      bus = refl;
      formed = Target-from (record target { stalls = tokens }) (record {
        device = parts.device;
        stalls = leb-true _ _ few;
        burst = parts.burst;
        ranges = parts.ranges;
        registers = parts.registers;
        aborts = parts.aborts;
        few_aborts = parts.few_aborts;
        openings = parts.openings;
        few_openings = parts.few_openings;
      });
    })

pub burst_detail : (phases : ℕ) (target changed : Target) → is_within 1 most_dwords phases ≡ true → is_well_formed_target target ≡ true
    → set_burst phases target ≡ Ok changed → IsDetailed target changed
burst_detail phases target changed few formed h =
    let is : changed ≡ record target { burst = phases } = cc in
    let parts = Target-parts target formed in
    let P : Target → Type 0 = λ t. IsDetailed target t in
    subst P (sym is) (record {
      name = refl;
      bus = refl;
      formed = Target-from (record target { burst = phases }) (record {
        device = parts.device;
        stalls = parts.stalls;
        burst = Within-parts 1 most_dwords phases few;
        ranges = parts.ranges;
        registers = parts.registers;
        aborts = parts.aborts;
        few_aborts = parts.few_aborts;
        openings = parts.openings;
        few_openings = parts.few_openings;
      });
    })
