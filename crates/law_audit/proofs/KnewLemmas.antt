-- The master of a read knew of a write before it exactly where the read knows of it.
use Rattle.std.proofs.Common.{◌≡◌, Bool, true, ◌&&◌, ◌||◌, ◌==◌, List, [], ◌∷◌, length, is_some, refl, sym, subst, arith, ◌⊎◌, inl, inr, ⊎_elim}
use Rattle.std.proofs.lemmas.Bool.{and_parts}
use Rattle.std.proofs.lemmas.Bool.Decides.{nat_tests}
use Rattle.pci_command.specs.declared.op_id.OpId.{OpId}
use Rattle.board_model.specs.declared.board.Board.{Board}
use Rattle.board_model.specs.Requests.{op_of}
use Rattle.board_model.specs.Valid.{IsValid}
use Rattle.history_model.specs.declared.event.Event.{Event}
use Rattle.history_model.specs.Knowledge.{has_ended, up_to_end, tells, Chain, one, more, Told, is_write}
use Rattle.history_model.specs.Runs.{Run}
use Rattle.law_fresh.specs.Aware.{knows, aware_of}
use Rattle.law_fresh.proofs.Laws.{told_known, write_since, got_since, Since, or_either, write_op}
use Rattle.law_fresh.proofs.SinceLemmas.{since_knows, knows_later}
use Rattle.law_audit.specs.Links.{Leads, IsChain}
use Rattle.law_audit.specs.Sound.{Knew}
use Rattle.law_audit.proofs.LinkLemmas.{knowers_most}
use Rattle.law_audit.proofs.FirstLemmas.{behind_first}
use Rattle.law_audit.proofs.ChainLemmas.{Reached-run}
use Rattle.law_audit.proofs.LaterLemmas.{split_later}

-- The last of a chain is the write, or was told of it.

leads_on : (board : Board) (h : List Event) (p : OpId) (rest : List OpId) (r : OpId) → Leads board h p rest r → (p ≡ r) ⊎ Chain board h p r
leads_on board h p [] r is = inl is
leads_on board h p (q ∷ rest) r is =
    inr (⊎_elim {C = Chain board h p r}
    (λ (last : q ≡ r). let F : OpId → Type 0 = λ o. tells board h p o ≡ true in one p r (subst F last is.0))
    (λ (chain : Chain board h q r). more p q r is.0 chain)
    (leads_on board h q rest r is.1))

chain_links : (board : Board) (h : List Event) (w r : OpId) (chain : List OpId) → IsChain board h w r chain → (r ≡ w) ⊎ Chain board h w r
chain_links board h w r [] is = absurd is
chain_links board h w r (first ∷ rest) is =
    let F : OpId → Type 0 = λ o. (o ≡ r) ⊎ Chain board h o r in
    ⊎_elim {C = (r ≡ w) ⊎ Chain board h w r} (λ (same : w ≡ r). inl (sym same)) (λ (chain : Chain board h w r). inr chain)
    (subst F is.0 (leads_on board h first rest r is.1))

module _ (board : Board) (valid : IsValid board) (h : List Event) (run : Run board h) (w r : OpId) where
  -- who knows of it stands behind an operation with which its master came to know, and that one is told by a chain
  pub known_knew : is_write board w ≡ true → is_some (op_of board r) ≡ true → knows (aware_of board w h) r ≡ true → Knew board h w r
  known_knew writes there known =
      let first = behind_first (aware_of board w h) r known in
      let by : OpId = first.first in
      let write = write_op board w writes in
      let reached = Reached-run board valid w write h run h (record { later = []; is = refl }) r.master by first.is in
      let most = knowers_most w.master (aware_of board w h).since (length board.masters) in
      let masters : by.master ≡ r.master = reached.of_master in
      let self : (by.master == r.master) ≡ true = grind (arith, nat_tests) in
      let ended_it = reached.ended_it in
      let after = first.after in
      record {
        writes = writes;
        by = by;
        before = rw (self, ended_it, after, there) refl;
        known =
            ⊎_elim {C = (by ≡ w) ⊎ Told board h w by} (λ (same : by ≡ w). inl same) (λ (chain : Chain board h w by). inr (writes, chain))
            (chain_links board h w by _ (reached.is_chain (length board.masters) most));
      }

  pub knew_knows : Knew board h w r → knows (aware_of board w h) r ≡ true
  knew_knows knew =
      let by : OpId = knew.by in
      let parts = split_later board h by r knew.before in
      let Goal : Type 0 = knows (aware_of board w h) r ≡ true in
      let on : Since board w h by → Goal = λ since. since_knows board w h by r since parts.masters parts.after in
      ⊎_elim {C = Goal}
      (λ (same : by ≡ w). let ended_it : has_ended h w ≡ true = subst (λ o. has_ended h o ≡ true) same parts.ended_it in on (subst (Since board w h) (sym same) (write_since board w h run ended_it)))
      (λ (told : Told board h w by).
      let mine : Bool = knows (aware_of board w h) by in
      let taught : Bool = (aware_of board w (up_to_end by h)).taught by in
      let known = (and_parts (is_write board w && is_some (op_of board by)) (mine || taught) (told_known board w h run by told)).1 in
      or_either Goal mine taught
      (λ is. knows_later (aware_of board w h) by r is parts.masters parts.after)
      (λ is. on (got_since board w h by run is)) known)
      knew.known
