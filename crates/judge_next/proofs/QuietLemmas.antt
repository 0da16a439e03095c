-- Flags of buses that are known to be quiet: where the look for an act begins.
use Rattle.std.proofs.Common.{◌≡◌, ◌≢◌, ℕ, zero, suc, ◌+◌, ◌<◌, Bool, true, List, length, Option, Some, None, refl, sym, ap, subst, ◌∙◌, inl, inr, slice_get, arith}
use Rattle.std.proofs.lemmas.Bool.{cases_eq}
use Rattle.std.proofs.Math.ListN.{set}
use Rattle.history_model.specs.Next.{first_below}
use Rattle.law_lanes.proofs.progress.NextFirstLemmas.{first_more}
use Rattle.judge_next.specs.Quiet.{AllBelow}
use Rattle.circular_buffer.proofs.Places.{slice_get-set_same, slice_get-set_other}

-- after a bus was marked, all below the next one are known to be quiet
pub marked_below : (flags : List Bool) (from bus later : ℕ) (is_quiet : Bool) → bus < length flags → AllBelow flags from
    → ((k : ℕ) → k < later → (k ≢ bus → k < from) × (k ≡ bus → is_quiet ≡ true)) → AllBelow (set flags bus is_quiet) later
marked_below flags from bus later is_quiet inside quiet which k below =
    let at = which k below in
    elim (cases_eq k bus) as (λ _. slice_get (set flags bus is_quiet) k ≡ Some true) [
      | inl same ↦
          let here : slice_get (set flags bus is_quiet) bus ≡ Some true = slice_get-set_same flags bus is_quiet inside ∙ ap Some (at.1 same) in
          subst (λ (n : ℕ). slice_get (set flags bus is_quiet) n ≡ Some true) (sym same) here
      | inr apart ↦ slice_get-set_other flags bus k is_quiet apart ∙ quiet k (at.0 apart)
    ]

-- where nothing is given at each number below one, there is no first one
pub none_below : {Y : Type 0} (gives : ℕ → Option Y) (n : ℕ) → ((k : ℕ) → k < n → gives k ≡ None) → first_below n gives ≡ None
none_below gives zero none = refl
none_below gives (suc n) none =
    let same : n + 1 ≡ suc n = omega arith in
    let more : first_below (n + 1) gives ≡ None = first_more gives n (none_below gives n (λ k below. none k (omega arith))) (none n (omega arith)) in
    subst (λ (m : ℕ). first_below m gives ≡ None) same more
