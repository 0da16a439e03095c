use Rattle.std.proofs.Common.{◌≡◌, Bool, true, false, not, List, refl, sym, ap, subst, ◌∙◌}
use Rattle.std.specs.List.{list_any}
use Rattle.pci_command.specs.declared.command.Command.TheVariants.{MemWrite}
use Rattle.pci_command.specs.Same.{same_command}
use Rattle.board_model.specs.Requests.{command_of, address_on}
use Rattle.untagged_apart.specs.declared.kept.Spot.{Spot}
use Rattle.untagged_apart.specs.Kept.{kept_at, Keeps, represents, meets_earlier}
use Rattle.untagged_apart.proofs.GoneLemmas.{gone_posted, gone_same, gone_new}
use Rattle.untagged_apart.proofs.FoundLemmas.{found_two}
use Rattle.untagged_apart.proofs.masters.op_meets.Goals as goal

not_false : (b : Bool) → not b ≡ false → b ≡ true
not_false true is = refl
not_false false is = cc

pub returns-then-not-is_delayed : goal.returns-then-not-is_delayed
returns-then-not-is_delayed c =
    let posted : same_command (command_of c.args.op.now) MemWrite ≡ true = not_false (same_command (command_of c.args.op.now) MemWrite) (sym c.is_delayed.ensures ∙ c.if-not-is_delayed.true) in
    gone_posted c.args.board.now c.requires.formed c.args.kept.now c.args.spot c.args.on c.args.op.now c.requires.is_op c.requires.gone posted

pub returns-then-is_represented : goal.returns-then-is_represented
returns-then-is_represented c =
    let test : Spot → Bool = represents c.args.board.now c.args.spot.master c.args.op.now in
    let spots : c.at-spots.result.now ≡ kept_at (address_on c.args.op.now 0) c.args.kept.now = c.at-spots.ensures ∙ ap (λ n. kept_at n c.args.kept.now) c.first_address-address.ensures in
    let is : list_any test (kept_at (address_on c.args.op.now 0) c.args.kept.now) ≡ true = sym (ap (list_any test) spots) ∙ sym c.is_represented.ensures ∙ c.if-is_represented.true in
    gone_same c.args.board.now c.requires.formed c.args.kept.now c.args.spot c.args.on c.args.op.now c.requires.is_op c.requires.gone is

pub returns-then-meets_one : goal.returns-then-meets_one
returns-then-meets_one c =
    found_two c.args.board.now c.args.spot c.args.on c.args.op.now c.at-spots.result.now c.requires.is_op (sym c.meets_one.ensures ∙ c.if-meets_one.true)

pub returns : goal.returns
returns c =
    let test : Spot → Bool = meets_earlier c.args.board.now c.args.spot.master c.args.on c.args.op.now in
    let spots : c.at-spots.result.now ≡ kept_at (address_on c.args.op.now 0) c.args.kept.now = c.at-spots.ensures ∙ ap (λ n. kept_at n c.args.kept.now) c.first_address-address.ensures in
    let none : list_any test (kept_at (address_on c.args.op.now 0) c.args.kept.now) ≡ false = sym (ap (list_any test) spots) ∙ sym c.meets_one.ensures ∙ c.if-meets_one.false in
    let keeps : Keeps (address_on c.args.op.now 0) c.args.spot c.args.kept.now c.keep.new.self = subst (λ n. Keeps n c.args.spot c.args.kept.now c.keep.new.self) c.first_address-address.ensures c.in_ok-keep.ensures in
    gone_new c.args.board.now c.requires.formed c.args.kept.now c.args.spot c.args.on c.args.op.now c.requires.is_op c.requires.gone c.keep.new.self keeps none
