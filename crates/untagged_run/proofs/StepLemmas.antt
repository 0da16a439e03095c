-- A course goes on with an event that is allowed.
use Rattle.std.proofs.Common.{◌≡◌, ◌+◌, List, [], ◌∷◌, ◌++◌, length, Option, sym, ap, subst, ◌∙◌, arith}
use Rattle.std.proofs.lemmas.List.{length-append}
use Rattle.board_model.specs.declared.board.Board.{Board}
use Rattle.history_model.specs.declared.event.Event.{Event}
use Rattle.history_model.specs.declared.rule.Rule.TheVariants.{Untagged}
use Rattle.history_model.specs.declared.item.Moved.{Moved}
use Rattle.history_model.specs.World.{world_by}
use Rattle.history_model.specs.Moves.{moved_by}
use Rattle.judge_state.specs.Stands.{StandsForBy}
use Rattle.law_untagged.specs.Origins.{ending_reading}
use Rattle.untagged_run.specs.declared.got.Got.{Got}
use Rattle.untagged_run.specs.declared.made.EventMade.{EventMade}
use Rattle.untagged_run.specs.Gots.{made_now}
use Rattle.untagged_run.specs.Table.{SameGot}
use Rattle.untagged_run.specs.Course.{CourseState, IsCourse, GoesOn, Noted}
use Rattle.untagged_run.proofs.OriginLemmas.{given_same, origins_went}

pub goes_on : (board : Board) (h : List Event) (e : Event) (old new : CourseState) (found : Moved) (made : EventMade) → IsCourse board h old → StandsForBy Untagged board (e ∷ h) new.kept
    → found ≡ moved_by Untagged board (world_by Untagged board h) e → made ≡ made_now board old.origins (length old.gots + 1) e found → Noted made old.origins new.origins
    → new.gots ≡ old.gots ++ made.given ∷ [] → GoesOn board h e old new
goes_on board h e old new found made is stands found_is made_is noted gots =
    let number : length old.gots + 1 ≡ length h + 1 = ap (λ n. n + 1) is.many in
    let makes : made ≡ made_now board old.origins (length old.gots + 1) e (moved_by Untagged board (world_by Untagged board h) e) =
    made_is ∙ ap (made_now board old.origins (length old.gots + 1) e) found_is in
    record {
      course = record {
        stands = stands;
        origins = origins_went board h old.origins (length old.gots + 1) is.origins number e new.origins (subst (λ (m : EventMade). Noted m old.origins new.origins) makes noted);
        many = ap (λ (gs : List (Option Got)). length gs) gots ∙ (length-append old.gots (made.given ∷ []) ∙ omega (arith, is.many));
      };
      got = made.given;
      gots = gots;
      same = subst (λ (m : EventMade). SameGot m.given (ending_reading board h e)) (sym makes) (given_same board h old.origins (length old.gots + 1) is.origins number e);
    }
