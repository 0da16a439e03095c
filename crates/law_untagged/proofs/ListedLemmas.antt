-- The reads in the list are exactly those that break freshness for some write.
use Rattle.std.proofs.Common.{◌≡◌, ◌↔◌, Bool, true, false, cond, List, [], ◌∷◌, ◌++◌, map, Option, Some, None, is_some, Contains, refl, sym, ap, subst, ◌∙◌, ⊎_elim, arith}
use Rattle.std.specs.List.{find}
use Rattle.std.proofs.lemmas.List.{map-append}
use Rattle.std.proofs.lemmas.List.Elements.{Contains-append_left, Contains-append_right, Contains-append_cases, Contains-push_cases}
use Rattle.list_facts.proofs.FindLemmas.{find_passes}
use Rattle.pci_command.specs.declared.op_id.OpId.{OpId}
use Rattle.board_model.specs.declared.board.Board.{Board}
use Rattle.history_model.specs.declared.event.Event.{Event}
use Rattle.history_model.specs.Program.{Ending, ended}
use Rattle.history_model.specs.Knowledge.{ends_as, Reading}
use Rattle.law_untagged.specs.Untagged.{UntaggedRun}
use Rattle.law_untagged.specs.Origins.{ending_reading, untagged_got}
use Rattle.safe_model.specs.Ops.{ops_by}
use Rattle.law_untagged.specs.Stale.{StaleRead, breaks, Breaks, stale_by, stale_at, stale_ending, stale_in, reads_listed}
use Rattle.law_untagged.proofs.OrderLemmas.{ends_some}
use Rattle.law_untagged.proofs.StaleLemmas.{breaks_so, so_breaks, one_stale}

-- the reads of lines
abbrev reads : List StaleRead → List OpId
reads lines = map (λ (one : StaleRead). one.read) lines

none_there : (r : OpId) → Contains [] r → ⊥
none_there r there = absurd (omega (arith, there.1))

-- a line is of the read that ended
line_of : (p w : OpId) (got : Option Reading) (r : OpId) → Contains (reads (stale_by p (Some w) got)) r → p ≡ r
line_of p w None r there = absurd (none_there r there)
line_of p w (Some reading) r there = ⊎_elim {C = p ≡ r} (λ none. absurd (none_there r none)) (λ same. same) (Contains-push_cases [] p r there)

module _ (board : Board) (h : List Event) (run : UntaggedRun board h) where
  -- the read of a line breaks freshness for the line's write

  at_breaks : (p r : OpId) → Contains (reads (stale_at board h p)) r → (w : OpId) × Breaks board h w r
  at_breaks p r there =
      let test : OpId → Bool = λ w. breaks board h w p in
      let P : Option OpId → Type 0 = λ found. find test (ops_by 0 board.masters) ≡ found → Contains (reads (stale_by p found (untagged_got board h p))) r → (w : OpId) × Breaks board h w r in
      (elim (find test (ops_by 0 board.masters)) as P [
        | None ↦ λ _ nothing. absurd (none_there r nothing)
        | Some w ↦ λ found line. (w, subst (λ q. Breaks board h w q) (line_of p w (untagged_got board h p) r line) (breaks_so board h run w p (find_passes test (ops_by 0 board.masters) w found)))
      ]) refl there

  ending_breaks : (ending : Option Ending) (r : OpId) → Contains (reads (stale_ending board h ending)) r → (w : OpId) × Breaks board h w r
  ending_breaks None r there = absurd (none_there r there)
  ending_breaks (Some ending) r there = at_breaks ending.op r there

  listed_breaks : (g : List Event) (r : OpId) → Contains (reads (stale_in board h g)) r → (w : OpId) × Breaks board h w r
  listed_breaks [] r there = absurd (none_there r there)
  listed_breaks (e ∷ g) r there =
      let older : List StaleRead = stale_in board h g in
      let newer : List StaleRead = stale_ending board h (ended e) in
      let parts : Contains (reads older ++ reads newer) r = subst (λ (l : List OpId). Contains l r) (map-append (λ (one : StaleRead). one.read) older newer) there in
      ⊎_elim {C = (w : OpId) × Breaks board h w r} (listed_breaks g r) (ending_breaks (ended e) r) (Contains-append_cases (reads older) (reads newer) r parts)

  -- a read that got something ended, and has its line there

  in_list : (r : OpId) → reads (stale_at board h r) ≡ r ∷ [] → (g : List Event) (reading : Reading) → untagged_got board g r ≡ Some reading → Contains (reads (stale_in board h g)) r
  in_list r line [] reading got = cc
  in_list r line (e ∷ g) reading got =
      let older : List StaleRead = stale_in board h g in
      let newer : List StaleRead = stale_ending board h (ended e) in
      let joined : Contains (reads older ++ reads newer) r → Contains (reads (older ++ newer)) r =
      λ (there : Contains (reads older ++ reads newer) r). subst (λ (l : List OpId). Contains l r) (sym (map-append (λ (one : StaleRead). one.read) older newer)) there in
      let P : Bool → Type 0 = λ b. is_some (ends_as r e) ≡ b → cond b (ending_reading board g e) (untagged_got board g r) ≡ Some reading → Contains (reads (older ++ newer)) r in
      (elim (is_some (ends_as r e)) as P [
        | true ↦ λ some _.
            let last : reads newer ≡ r ∷ [] = ap (λ (found : Option Ending). reads (stale_ending board h found)) (ends_some r e some).is ∙ line in
            let here : Contains (r ∷ []) r = (0, omega arith, refl) in
            joined (Contains-append_right (reads older) (reads newer) r (subst (λ (l : List OpId). Contains l r) (sym last) here))
        | false ↦ λ _ before. joined (Contains-append_left (reads older) (reads newer) r (in_list r line g reading before))
      ]) refl got

  broken_listed : (r : OpId) → (w : OpId) × Breaks board h w r → Contains (reads_listed board h) r
  broken_listed r it =
      let line = (one_stale board h run r it.1.reading it.0 it.1.got (so_breaks board h run it.0 r it.1)).1 in
      in_list r (ap reads line) h it.1.reading it.1.got

  pub listed_exactly : (r : OpId) → Contains (reads_listed board h) r ↔ ((w : OpId) × Breaks board h w r)
  listed_exactly r = (listed_breaks h r, broken_listed r)
