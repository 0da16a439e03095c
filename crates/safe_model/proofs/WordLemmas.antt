-- Two dwords that are the same by the test are one.
use Rattle.std.proofs.Common.{◌≡◌, ℕ, true, ◌&&◌, ◌==◌, eqb-true, refl, ap, ◌∙◌}
use Rattle.std.proofs.lemmas.Bool.{and_parts}
use Rattle.pci_command.specs.declared.command.Space.{Space}
use Rattle.pci_command.specs.declared.command.Space.TheVariants.{Mem, Io, Cfg}
use Rattle.pci_command.specs.Same.{same_space}
use Rattle.board_model.specs.Ways.{Dword}
use Rattle.safe_model.specs.Raisers.{same_dword}

same_space_true : (a b : Space) → same_space a b ≡ true → a ≡ b
same_space_true Mem Mem is = refl
same_space_true Mem Io is = cc
same_space_true Mem Cfg is = cc
same_space_true Io Mem is = cc
same_space_true Io Io is = refl
same_space_true Io Cfg is = cc
same_space_true Cfg Mem is = cc
same_space_true Cfg Io is = cc
same_space_true Cfg Cfg is = refl

pub same_dword_true : (a b : Dword) → same_dword a b ≡ true → a ≡ b
same_dword_true a b is =
    let built : ℕ → Space → ℕ → Dword = λ target space address. record { target = target; space = space; address = address } in
    let first = and_parts (a.target == b.target && same_space a.space b.space) (a.address == b.address) is in
    let second = and_parts (a.target == b.target) (same_space a.space b.space) first.0 in
    ap (λ t. built t a.space a.address) (eqb-true a.target b.target second.0) ∙ ap (λ s. built b.target s a.address) (same_space_true a.space b.space second.1) ∙ ap (built b.target b.space) (eqb-true a.address b.address first.1)
