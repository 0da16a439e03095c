-- When the last line of a bus ended, behind one line more.
use Rattle.std.proofs.Common.{◌≡◌, ℕ, ◌<◌, true, false, cond, eqb, List, [], ◌∷◌, ◌++◌, length, get_or, inl, inr, Result, Ok, Err, refl, sym, ◌∙◌, arith}
use Rattle.std.specs.Prelude.{OnOk}
use Rattle.std.proofs.Math.ListN.{set}
use Rattle.std.proofs.lemmas.Bool.{cases_eq}
use Rattle.std.proofs.lemmas.Bool.Decides.{nat_tests}
use Rattle.std.proofs.lemmas.Grind.{get_or-set_at}
use Rattle.std.proofs.lemmas.List.{get_or-set_other}
use Rattle.observe_told.specs.declared.seen.Seen.{Seen}
use Rattle.observe_log.specs.Lines.{last_end_behind}
use Rattle.observe_log.specs.Reading.{KnowsEnds}

last_more : (bus time : ℕ) (lines : List Seen) (seen : Seen) → last_end_behind bus time (lines ++ seen ∷ []) ≡ cond (eqb seen.bus bus) seen.end (last_end_behind bus time lines)
last_more bus time [] seen = refl
last_more bus time (first ∷ lines) seen = last_more bus (cond (eqb first.bus bus) first.end time) lines seen

pub ends_more : (ends : List ℕ) (lines : List Seen) (seen : Seen) → seen.bus < length ends → KnowsEnds ends lines → KnowsEnds (set ends seen.bus seen.end) (lines ++ seen ∷ [])
ends_more ends lines seen inside known = record {
  ended = λ bus within.
      let more = last_more bus 0 lines seen in
      elim (cases_eq seen.bus bus) [
        | inl same ↦
            let is : eqb seen.bus bus ≡ true = grind (arith, nat_tests) in
            let put : get_or (set ends seen.bus seen.end) bus 0 ≡ seen.end = get_or-set_at ends seen.bus bus seen.end 0 (sym same) inside in
            rw (more, is) put
        | inr other ↦
            let is : eqb seen.bus bus ≡ false = grind (arith, nat_tests) in
            let put = get_or-set_other ends seen.bus bus seen.end 0 (λ e. other (sym e)) in
            let old = known.ended bus within in
            rw (more, is) (put ∙ old)
      ];
}

-- what holds holds where something was done
pub on_ok : {A E : Type 0} (P : Type 0) (done : Result A E) → P → OnOk done P
on_ok P (Ok value) holds = holds
on_ok P (Err error) holds = tt
