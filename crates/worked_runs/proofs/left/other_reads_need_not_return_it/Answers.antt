use Rattle.std.proofs.Common.{◌≡◌, ℕ, List, [], ◌∷◌, ◌++◌, refl, ap, ◌∙◌, arith}
use Rattle.pci_command.specs.declared.op_id.OpId.{OpId}
use Rattle.history_model.specs.Words.{Landing}
use Rattle.history_model.specs.Knowledge.{one, more}
use Rattle.worked_runs.specs.Relay.{first_write, first_flag, last_read}
use Rattle.worked_runs.proofs.left.other_reads_need_not_return_it.Goals as goal

pub returns-clause-names : goal.returns-clause-names
returns-clause-names c = (0, omega arith, refl)

none_landed : (earlier : List Landing) (landing : Landing) (later : List Landing) → [] ≡ earlier ++ landing ∷ later → ⊥
none_landed [] landing later is = cc
none_landed (first ∷ earlier) landing later is = cc

-- nothing had landed in the flag
pub returns-clause-untold : goal.returns-clause-untold
returns-clause-untold c = λ left. none_landed left.earlier left.landing left.later left.is_landed

-- an operation by master, index and try
abbrev op : ℕ → ℕ → ℕ → OpId
op master index attempt = record { master = master; index = index; attempt = attempt }

pub returns-clause-told : goal.returns-clause-told
returns-clause-told c =
    (refl, more first_flag (op 1 0 1) last_read refl (more (op 1 0 1) (op 1 1 0) last_read refl (more (op 1 1 0) (op 2 0 2) last_read refl (one (op 2 0 2) last_read refl))))

-- in the data the write of the data had landed, and no other
abbrev data_landing : Landing
data_landing = record { op = first_write; phase = record { value = 0x5; enables = 15 } }

of_flag : (earlier : List Landing) (landing : Landing) (later : List Landing) → data_landing ∷ [] ≡ earlier ++ landing ∷ later → landing.op ≡ first_flag → ⊥
of_flag [] landing later is is_of =
    let same : data_landing ≡ landing = cc in
    let index : ◌≡◌ {A = ℕ} 0 1 = ap (λ (o : OpId). o.index) (ap (λ (l : Landing). l.op) same ∙ is_of) in
    cc
of_flag (first ∷ earlier) landing later is is_of =
    let rest : [] ≡ earlier ++ landing ∷ later = cc in
    none_landed earlier landing later rest

pub returns-clause-other_word : goal.returns-clause-other_word
returns-clause-other_word c = λ left. of_flag left.earlier left.landing left.later left.is_landed left.is_of
