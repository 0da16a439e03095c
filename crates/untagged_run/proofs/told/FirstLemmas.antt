-- Before the first event nobody knows of anything.
use Rattle.std.proofs.Common.{◌≡◌, ℕ, zero, suc, ◌<◌, List, [], length, replicate, refl, ap, subst, sym, ◌∙◌}
use Rattle.std.proofs.lemmas.List.{length-replicate, get_or-replicate}
use Rattle.board_model.specs.declared.board.Board.{Board}
use Rattle.audit_clocks.specs.Rows.{number}
use Rattle.audit_landings.specs.Notes.{no_landings}
use Rattle.audit_landings.proofs.Laws.{landings_first, tolds_first}
use Rattle.untagged_run.specs.told.Knowers.{KnowerState, Knows, known_at}

no_number : (author : ℕ) → number [] author ≡ 0
no_number zero = refl
no_number (suc n) = refl

pub knows_first : (board : Board) (k : KnowerState) → k ≡ record { known = replicate (length board.masters) (replicate (length board.masters) 0); starts = []; told = []; landings = no_landings } → Knows board [] k
knows_first board k is =
    let M : ℕ = length board.masters in
    let none : List ℕ = replicate M 0 in
    let first : KnowerState = record { known = replicate M none; starts = []; told = []; landings = no_landings } in
    let rows : (master : ℕ) → master < M → known_at (replicate M none) master ≡ none = λ master within. get_or-replicate M master none [] within in
    subst (Knows board []) (sym is) (record {
      landings = landings_first board;
      tolds = tolds_first M [];
      masters = length-replicate M none;
      authors = λ master within. ap (λ xs. length xs) (rows master within) ∙ length-replicate M 0;
      known = λ master author within below. ap (λ xs. number xs author) (rows master within) ∙ get_or-replicate M author 0 0 below;
      noted = λ o. refl;
      starts = λ o author below. no_number author;
      many = refl;
      told = λ place author below. no_number author;
    })
