-- The dwords that operations read are gathered, program by program.
use Rattle.std.proofs.Common.{◌≡◌, ℕ, ◌+◌, ◌<◌, length, get_or, take, List, ◌∷◌, [], ◌++◌, sym, ap, subst, ◌∙◌, arith}
use Rattle.std.specs.List.{AllByRecursion, Contains}
use Rattle.std.proofs.lemmas.List.{take_more, length-append, get_or_append_left}
use Rattle.std.proofs.lemmas.List.Elements.{Contains-push}
use Rattle.list_facts.proofs.EachLemmas.{Each-push, Each-weaker}
use Rattle.pci_command.specs.declared.command.Space.{Space}
use Rattle.board_model.specs.declared.agents.Target.{Target as TargetAgent}
use Rattle.board_model.specs.declared.agents.Master.{Master}
use Rattle.board_model.specs.declared.op.Op.{Op}
use Rattle.bus_targets.specs.Reads.{KnowsRead, KnowsProgram, StillThere}

pub still_there : (addresses : List ℕ) → StillThere addresses addresses
still_there addresses address there = there

pub still_behind : (addresses : List ℕ) (one : ℕ) (more : List ℕ) → more ≡ addresses ++ one ∷ [] → StillThere addresses more
still_behind addresses one more pushed address there =
    let longer : length (addresses ++ one ∷ []) ≡ length addresses + 1 = length-append addresses (one ∷ []) in
    let within : there.0 < length (addresses ++ one ∷ []) = omega (arith, longer, there.1) in
    subst (λ (xs : List ℕ). Contains xs address) (sym pushed)
    (there.0, within, get_or_append_left addresses (one ∷ []) address there.0 there.1 ∙ there.2)

pub pushed_there : (addresses : List ℕ) (one : ℕ) (more : List ℕ) → more ≡ addresses ++ one ∷ [] → Contains more one
pushed_there addresses one more pushed = subst (λ (xs : List ℕ). Contains xs one) (sym pushed) (Contains-push addresses one)

pub reads_more : (target : TargetAgent) (space : Space) (old new : List ℕ) (ops : List Op) (i : ℕ) (op : Op) → i < length ops → op ≡ get_or ops i op → StillThere old new
    → AllByRecursion (KnowsRead target space old) (take i ops) → KnowsRead target space new op → AllByRecursion (KnowsRead target space new) (take (i + 1) ops)
reads_more target space old new ops i op within is stays known here =
    let lists : take (i + 1) ops ≡ take i ops ++ op ∷ [] = take_more ops i op within ∙ ap (λ (o : Op). take i ops ++ o ∷ []) (sym is) in
    let so_far = Each-weaker (KnowsRead target space old) (KnowsRead target space new) (λ o reads read of_space at. stays _ (reads read of_space at)) (take i ops) known in
    subst (λ (os : List Op). AllByRecursion (KnowsRead target space new) os) (sym lists) (Each-push (KnowsRead target space new) (take i ops) op so_far here)

pub programs_more : (target : TargetAgent) (space : Space) (old new : List ℕ) (masters : List Master) (i : ℕ) (master : Master) → i < length masters → master ≡ get_or masters i master → StillThere old new
    → AllByRecursion (KnowsProgram target space old) (take i masters) → KnowsProgram target space new master → AllByRecursion (KnowsProgram target space new) (take (i + 1) masters)
programs_more target space old new masters i master within is stays known here =
    let lists : take (i + 1) masters ≡ take i masters ++ master ∷ [] = take_more masters i master within ∙ ap (λ (m : Master). take i masters ++ m ∷ []) (sym is) in
    let each : (m : Master) → KnowsProgram target space old m → KnowsProgram target space new m =
    λ m knows. Each-weaker (KnowsRead target space old) (KnowsRead target space new) (λ o reads read of_space at. stays _ (reads read of_space at)) m.ops knows in
    let so_far = Each-weaker (KnowsProgram target space old) (KnowsProgram target space new) each (take i masters) known in
    subst (λ (ms : List Master). AllByRecursion (KnowsProgram target space new) ms) (sym lists) (Each-push (KnowsProgram target space new) (take i masters) master so_far here)

-- the same where no address went
pub programs_kept : (target : TargetAgent) (space : Space) (old new : List ℕ) (masters : List Master) → StillThere old new → AllByRecursion (KnowsProgram target space old) masters → AllByRecursion (KnowsProgram target space new) masters
programs_kept target space old new masters stays known =
    let each : (m : Master) → KnowsProgram target space old m → KnowsProgram target space new m =
    λ m knows. Each-weaker (KnowsRead target space old) (KnowsRead target space new) (λ o reads read of_space at. stays _ (reads read of_space at)) m.ops knows in
    Each-weaker (KnowsProgram target space old) (KnowsProgram target space new) each masters known
