-- A binary search finds the first that is late.
use Rattle.std.proofs.Common.{◌≡◌, ℕ, zero, suc, ◌<◌, Bool, true, false, not, cond, nat_lt, List, [], ◌∷◌, length, get_or, slice_get, Some, refl, sym, ap, ◌∙◌, arith}
use Rattle.std.specs.List.{find, AllWithin}
use Rattle.std.specs.List.Sorted.{IsPartitionedBy}
use Rattle.std.proofs.lemmas.Bool.Decides.{nat_tests}
use Rattle.untagged_check.specs.declared.index.entry.Entry.{Entry}
use Rattle.untagged_check.specs.index.Entries.{Rises, is_late}

-- what the search asks of each entry
abbrev pub is_early : ℕ → Entry → Bool
is_early events entry = nat_lt entry.landed events

pub parted : (events : ℕ) (entries : List Entry) → Rises entries → IsPartitionedBy (is_early events) entries
parted events entries rises = λ i j d order within early.
    let along = rises.along i j d order within in
    let later : (get_or entries j d).landed < events = grind (arith, nat_tests) in
    grind (arith, nat_tests)

pub first_at : (events : ℕ) (entries : List Entry) (start : ℕ) → AllWithin (λ e. is_early events e ≡ true) entries 0 start → AllWithin (λ e. is_early events e ≡ false) entries start (length entries)
    → slice_get entries start ≡ find (is_late events) entries
first_at events [] start before behind = refl
first_at events (e ∷ es) zero before behind =
    let here : is_early events e ≡ false = behind 0 e (omega arith) (omega arith) in
    sym (ap (λ b. cond (not b) (Some e) (find (is_late events) es)) here)
first_at events (e ∷ es) (suc start) before behind =
    let here : is_early events e ≡ true = before 0 e (omega arith) (omega arith) in
    first_at events es start (λ k d low high. before (suc k) d (omega arith) (omega (arith, high))) (λ k d low high. behind (suc k) d (omega (arith, low)) (omega (arith, high)))
    ∙ sym (ap (λ b. cond (not b) (Some e) (find (is_late events) es)) here)
