-- What a poll waits for.
use Rattle.std.specs.Prelude.{ℕ, Bool, false, not, ◌==◌, if◌then◌else◌, bit_and}
use Rattle.board_model.specs.declared.op.Want.{Want}

-- the value is the wanted one under the mask; where it is to differ, it is any other
abbrev pub wants : Want → ℕ → Bool
wants want value =
    if want.differs
    then not (bit_and value want.mask == want.wanted)
    else bit_and value want.mask == want.wanted

-- just this value, under a mask of all bits
abbrev pub exactly : ℕ → Want
exactly value = record { mask = 0xffff_ffff; wanted = value; differs = false }
